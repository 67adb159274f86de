use Rattle.std.proofs.Common.{arith}
use Rattle.ox_plain.specs.Plain.{index_in}
use Rattle.ox_rows.specs.RowFits.{FitsIndex}
use Rattle.ox_rows.specs.RowReading.{index_at}
use Rattle.ox_rows.specs.RowSpelling.{index_rows}
use Rattle.ox_rows.proofs.RowLaws.{index_law}
use Rattle.ox_checkpoint.proofs.ReadLemmas.{front_fails, front_read, front_within}
use Rattle.ox_checkpoint.proofs.read.index_of.Goals as goal

pub slice_bounds-result-count : goal.slice_bounds-result-count
slice_bounds-result-count c = omega (arith, front_within {F = FitsIndex} {s = index_rows} c.args.bytes.now (index_in c.in-Ok.index, c.in-Ok.taken) c.in-Ok.ensures.found)

pub slice_bounds-result-start : goal.slice_bounds-result-start
slice_bounds-result-start c = omega (arith, front_within {F = FitsIndex} {s = index_rows} c.args.bytes.now (index_in c.in-Ok.index, c.in-Ok.taken) c.in-Ok.ensures.found)

pub returns-in-Ok : goal.returns-in-Ok
returns-in-Ok c = front_read index_law c.args.bytes.now (index_in c.in-Ok.index, c.in-Ok.taken) c.in-Ok.ensures.found

pub returns-in-Err-NotRows : goal.returns-in-Err-NotRows
returns-in-Err-NotRows c = front_fails index_at c.args.bytes.now _ (rw c.in-Err-NotRows.field-0-is at c.in-Err-NotRows.ensures.exact)
