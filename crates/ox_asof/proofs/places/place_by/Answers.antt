use Rattle.std.proofs.Common.{◌≡◌, ◌∙◌, ◌+◌, ◌-◌, ℕ, List, length, drop, ap, sym, arith}
use Rattle.ox_model.specs.Change.{outputs_changed}
use Rattle.ox_model.specs.declared.change.Change.{Change}
use Rattle.ox_asof.specs.Places.{place_before, place_by}
use Rattle.ox_asof.specs.Said.{AreRising}
use Rattle.ox_asof.proofs.Fronts.{drop_one}
use Rattle.ox_asof.proofs.Saying.{all_at}
use Rattle.ox_asof.proofs.places.place_by.Goals as goal

pub place_before-found-requires : goal.place_before-found-requires
place_before-found-requires c =
    (all_at (λ (change : Change). AreRising (outputs_changed change)) c.args.undone.now c.loop-newest.newest c.at-change.result.now c.requires c.at-change.ensures).1

pub loop-newest-preserved : goal.loop-newest-preserved
loop-newest-preserved c =
    let undone = c.args.undone.now in
    let n = c.loop-newest.newest in
    let change = c.at-change.result.now in
    let fewer : c.saturating_sub-fewer.result ≡ c.loop-newest.fewer - length change.lost = omega (arith, c.saturating_sub-fewer.ensures, c.len.ensures) in
    ap (place_by (drop (n + 1) undone) c.saturating_sub-fewer.result c.args.sat) c.place_before-found.ensures
    ∙ ap (λ (k : ℕ). place_by (drop (n + 1) undone) k c.args.sat (place_before change k c.args.sat c.loop-newest.found)) fewer
    ∙ sym (ap (λ (l : List Change). place_by l c.loop-newest.fewer c.args.sat c.loop-newest.found) (drop_one undone n change c.at-change.ensures))
    ∙ c.loop-newest.invariant
