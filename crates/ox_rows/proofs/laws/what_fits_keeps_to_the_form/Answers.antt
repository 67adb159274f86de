use Rattle.ox_rows.proofs.Keeping.{keeps_change, keeps_index}
use Rattle.ox_rows.proofs.laws.what_fits_keeps_to_the_form.Goals as goal

pub returns-clause-change : goal.returns-clause-change
returns-clause-change c = λ change fits. keeps_change change fits

pub returns-clause-index : goal.returns-clause-index
returns-clause-index c = λ index fits. keeps_index index fits
