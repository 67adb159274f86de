use Rattle.std.proofs.Common.{◌≡◌, ◌∙◌, ◌+◌, ◌-◌, ◌∷◌, ℕ, List, drop, ap, sym, arith}
use Rattle.std.specs.BTreeMap.{get}
use Rattle.std.specs.Option.{option_or}
use Rattle.std.specs.Ordering.{nat_cmp}
use Rattle.ox_ledger.specs.declared.part.CountChange.{CountChange}
use Rattle.ox_model.specs.declared.change.Change.{Change}
use Rattle.ox_asof.specs.Past.{counted_before, counted_by}
use Rattle.ox_asof.proofs.Fronts.{drop_one}
use Rattle.ox_asof.proofs.Recounting.{recounted_alike}
use Rattle.ox_asof.proofs.recounted.recounted.Goals as goal

pub loop-place-preserved : goal.loop-place-preserved
loop-place-preserved g c =
    let undone = c.args.undone.now in
    let n = c.loop-place.place - 1 in
    let change = c.at-change.result.now in
    let whole : n + 1 ≡ c.loop-place.place = omega (arith, c.loop-place-test.true) in
    let left : drop n undone ≡ change ∷ drop c.loop-place.place undone =
    drop_one undone n change c.at-change.ensures ∙ ap (λ (k : ℕ). change ∷ drop k undone) whole in
    recounted_alike (g.V.View.index c.args.view.now).runes c.args.end _ (counted_by (drop n undone)) (get nat_cmp c.keep_first.new.rows)
    (λ place. ap (λ (counts : List CountChange). option_or (counted_by (drop c.loop-place.place undone) place) (counted_before counts place)) c.as_slice.ensures
    ∙ sym (ap (λ (l : List Change). counted_by l place) left))
    (c.in_ok-keep_first.ensures (counted_by (drop c.loop-place.place undone)) c.loop-place.invariant)
