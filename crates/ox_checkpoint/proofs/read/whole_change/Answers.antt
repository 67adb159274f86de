use Rattle.std.proofs.Common.{◌∙◌, sym}
use Rattle.ox_rows.specs.RowReading.{change_at}
use Rattle.ox_checkpoint.proofs.ReadLemmas.{whole_more, whole_none, whole_some}
use Rattle.ox_checkpoint.proofs.read.whole_change.Goals as goal

pub returns-in_default : goal.returns-in_default
returns-in_default c = whole_none (change_at c.args.bytes.now) (rw c.in_default.is at c.in_ok-change.ensures)

pub returns-then-not-is_empty : goal.returns-then-not-is_empty
returns-then-not-is_empty c =
    whole_more (change_at c.args.bytes.now) c.in-Some.change c.in-Some.behind.now (rw c.in-Some.is at c.in_ok-change.ensures) (sym c.if-not-is_empty.true ∙ c.is_empty.ensures)

pub returns : goal.returns
returns c =
    whole_some (change_at c.args.bytes.now) c.in-Some.change c.in-Some.behind.now (rw c.in-Some.is at c.in_ok-change.ensures) (sym c.if-not-is_empty.false ∙ c.is_empty.ensures)
