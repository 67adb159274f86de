use Rattle.std.proofs.Common.{ap, subst, ◌∙◌, arith}
use Rattle.ox_rows.specs.Answer.{Answers, front_of}
use Rattle.ox_rows.specs.RowFits.{FitsIndex}
use Rattle.ox_rows.specs.RowReading.{index_at}
use Rattle.ox_rows.specs.RowSpelling.{index_rows}
use Rattle.ox_rows.specs.Seen.{index_seen}
use Rattle.ox_rows.proofs.Fronts.{again_front, found_front}
use Rattle.ox_rows.proofs.RowLaws.{index_law}
use Rattle.ox_rows.proofs.index.read_index.Goals as goal

pub returns-clause-found : goal.returns-clause-found
returns-clause-found c = found_front FitsIndex index_rows index_at index_law index_seen c.args.bytes.now c.index_or_place.result (λ i. omega (arith, c.type_inv.bytes i)) c.index_or_place.ensures

pub returns-clause-only : goal.returns-clause-only
returns-clause-only c = λ index rest fits is. subst (Answers index_seen c.index_or_place.result) (ap (front_of index_at) is ∙ again_front FitsIndex index_rows index_at index_law index rest fits) c.index_or_place.ensures
