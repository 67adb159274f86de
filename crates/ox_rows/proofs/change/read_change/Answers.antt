use Rattle.std.proofs.Common.{ap, subst, ◌∙◌, arith}
use Rattle.ox_rows.specs.Answer.{Answers, front_of}
use Rattle.ox_rows.specs.RowFits.{FitsChange}
use Rattle.ox_rows.specs.RowReading.{change_at}
use Rattle.ox_rows.specs.RowSpelling.{change_rows}
use Rattle.ox_rows.proofs.Fronts.{again_front, found_front}
use Rattle.ox_rows.proofs.RowLaws.{change_law}
use Rattle.ox_rows.proofs.change.read_change.Goals as goal

pub returns-clause-found : goal.returns-clause-found
returns-clause-found c = found_front FitsChange change_rows change_at change_law (λ x. x) c.args.bytes.now c.change_or_place.result (λ i. omega (arith, c.type_inv.bytes i)) c.change_or_place.ensures

pub returns-clause-only : goal.returns-clause-only
returns-clause-only c = λ change rest fits is. subst (Answers (λ x. x) c.change_or_place.result) (ap (front_of change_at) is ∙ again_front FitsChange change_rows change_at change_law change rest fits) c.change_or_place.ensures
