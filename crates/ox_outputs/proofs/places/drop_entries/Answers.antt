use Rattle.std.proofs.Common.{rules, arith, ◌≡◌, ◌<◌, ◌-◌, ◌∙◌, ℕ, List, length, sym, ap}
use Rattle.std.proofs.lemmas.List.{get_or_default}
use Rattle.ox_outputs.specs.declared.entry.Entry.{Entry}
use Rattle.ox_outputs.specs.Lists.{is_in}
use Rattle.ox_outputs.proofs.ListLemmas.{others_less, others_out, left_in}
use Rattle.ox_outputs.proofs.places.drop_entries.Goals as goal

pub loop-left-preserved-then-index-place : goal.loop-left-preserved-then-index-place
loop-left-preserved-then-index-place c =
    let list = c.loop-left.list.items in
    let new = c.swap_remove.new.self.items in
    let i : ℕ = c.loop-left.left - 1 in
    let x = c.swap_remove.result in
    let within : i < length list = omega (arith, c.loop-left-test.true, c.loop-left.invariant.within) in
    let found : c.index.result.now.place ≡ c.args.place = search rules in
    let here : x.place ≡ c.args.place = ap (λ (e : Entry). e.place) (c.swap_remove.ensures.value ∙ get_or_default list i x c.index.result.now within ∙ sym c.index.ensures) ∙ found in record {
      within = omega (arith, within, c.swap_remove.ensures.len);
      gone = others_less list new c.args.place c.loop-left.left i x (omega arith) within (omega (arith, c.swap_remove.ensures.len, c.swap_remove.new.self.ok.0, c.loop-left.list.ok.0)) c.swap_remove.ensures.items c.loop-left.invariant.gone;
      left = λ tag other differs. left_in list new c.args.place i x tag other within c.swap_remove.ensures.value here c.swap_remove.ensures.items differs ∙ c.loop-left.invariant.left tag other differs;
    }

pub returns-then-capacity-len-gt-STEP-clause-gone : goal.returns-then-capacity-len-gt-STEP-clause-gone
returns-then-capacity-len-gt-STEP-clause-gone c = λ tag.
    ap (λ (l : List Entry). is_in l tag c.args.place) c.shrink_to_fit.ensures.items
    ∙ others_out c.loop-left.list.items c.args.place tag (λ k d low high. c.loop-left.invariant.gone k d (omega (arith, c.loop-left-test.false)) high)

pub returns-else-capacity-len-gt-STEP-clause-gone : goal.returns-else-capacity-len-gt-STEP-clause-gone
returns-else-capacity-len-gt-STEP-clause-gone c = λ tag. others_out c.loop-left.list.items c.args.place tag (λ k d low high. c.loop-left.invariant.gone k d (omega (arith, c.loop-left-test.false)) high)
