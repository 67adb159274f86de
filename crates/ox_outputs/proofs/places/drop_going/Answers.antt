use Rattle.std.proofs.Common.{rules, arith, ◌≡◌, ◌<◌, ◌-◌, ◌∙◌, ℕ, length, sym, ap, true}
use Rattle.std.proofs.lemmas.List.{get_or_default}
use Rattle.ox_shards.specs.Lines.{is_last}
use Rattle.ox_outputs.specs.declared.entry.Entry.{Entry}
use Rattle.ox_outputs.proofs.ListLemmas.{unpassed_in}
use Rattle.ox_outputs.proofs.places.drop_going.Goals as goal

pub loop-left-preserved-then-is_last : goal.loop-left-preserved-then-is_last
loop-left-preserved-then-is_last c =
    let list = c.loop-left.list.items in
    let i : ℕ = c.loop-left.left - 1 in
    let x = c.swap_remove.result in
    let within : i < length list = omega (arith, c.loop-left-test.true, c.loop-left.invariant.within) in
    let found : is_last c.args.lines.now c.index.result.now.tag ≡ true = search rules in
    let gone : is_last c.args.lines.now x.tag ≡ true = ap (λ (e : Entry). is_last c.args.lines.now e.tag) (c.swap_remove.ensures.value ∙ get_or_default list i x c.index.result.now within ∙ sym c.index.ensures) ∙ found in record {
      within = omega (arith, within, c.swap_remove.ensures.len);
      stay = λ tag place stays. unpassed_in (is_last c.args.lines.now) list c.swap_remove.new.self.items i x tag place within c.swap_remove.ensures.value gone c.swap_remove.ensures.items stays ∙ c.loop-left.invariant.stay tag place stays;
    }
