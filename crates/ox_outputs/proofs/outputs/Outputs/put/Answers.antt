use Rattle.std.proofs.Common.{sym, subst}
use Rattle.ox_rules.specs.Outputs.{Outputs as Rows}
use Rattle.ox_outputs.specs.Differing.{FitIn}
use Rattle.ox_outputs.specs.Table.{rows_in}
use Rattle.ox_outputs.proofs.DifferingRows.{fits_in}
use Rattle.ox_outputs.proofs.outputs.Outputs.put.Goals as goal

pub place_all-requires : goal.place_all-requires
place_all-requires c =
    let fit = fits_in (rows_in c.args.self.now) c.args.gone.now c.args.came.now c.requires.ends in
    (c.requires.ends.before, subst (λ (r : Rows). FitIn c.requires.ends.before r c.args.gone.now) (sym c.in_ok-take_out.ensures.ok) fit)
