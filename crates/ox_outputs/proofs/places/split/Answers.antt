use Rattle.std.proofs.Common.{arith, ◌≡◌, ◌∙◌, ◌<◌, List, length, ap, sym}
use Rattle.std.specs.Global.{Vec}
use Rattle.std.proofs.lemmas.List.{get_or_default}
use Rattle.ox_outputs.specs.declared.entry.Entry.{Entry}
use Rattle.ox_outputs.specs.Lists.{is_in, led_to}
use Rattle.ox_outputs.proofs.PartLemmas.{led_still}
use Rattle.ox_outputs.proofs.places.split.Goals as goal

pub returns-in_ok-last-clause-led : goal.returns-in_ok-last-clause-led
returns-in_ok-last-clause-led c = λ tag place is.
    let lists = c.reserve.new.self.items in
    let many = ap length c.reserve.ensures.items ∙ c.requires in
    let low : c.in-Some.from < length lists = omega (arith, c.in-Some.ensures.among, many) in
    let same : c.deref.result.now ≡ c.index_mut.result.now.items =
    c.deref.ensures.value ∙ ap (λ (v : Vec Entry). v.items) (c.index.ensures ∙ get_or_default lists c.in-Some.from c.index.result.now c.index_mut.result.now low ∙ sym c.index_mut.ensures.value) in
    ap (λ (ls : List (Vec Entry)). is_in (led_to ls c.in-Some.more tag) tag place) c.push_reserved.ensures.items
    ∙ led_still c.args.lines.now c.in-Some.more c.in-Some.from c.in-Some.ensures lists many c.index_mut.result.now c.drop_going.new.list c.in_ok-last.last c.index_mut.ensures.value
    (λ t p. c.drop_going.ensures t p)
    (λ t p last there. c.in_ok-last.ensures t p last (ap (λ (l : List Entry). is_in l t p) same ∙ there))
    tag place (ap (λ (ls : List (Vec Entry)). is_in (led_to ls c.args.lines.now tag) tag place) c.reserve.ensures.items ∙ is)
