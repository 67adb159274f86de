use Rattle.std.proofs.Common.{◌∙◌, ap, sym}
use Rattle.std.specs.Prelude.{slice_get}
use Rattle.ox_ledger.proofs.TablesLemmas.{dropped_more}
use Rattle.ox_ledger.proofs.table.RuneTable.appended.Goals as goal

pub loop-place-preserved : goal.loop-place-preserved
loop-place-preserved c =
    dropped_more c.args.self.now.mark c.args.self.now.now c.loop-place.place c.get.result.now c.loop-place.rows c.push.new.self
    (ap (λ v. slice_get v.now c.loop-place.place) (sym c.self.view_is) ∙ c.get.ensures) c.in_ok-push.ensures.ok c.loop-place.invariant
