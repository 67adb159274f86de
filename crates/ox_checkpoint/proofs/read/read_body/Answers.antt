use Rattle.std.proofs.Common.{◌∙◌, sym}
use Rattle.ox_plain.specs.Plain.{index_in}
use Rattle.ox_files.specs.Body.{body_at, body_of}
use Rattle.ox_checkpoint.proofs.ReadLemmas.{body_read, no_changes, no_index, whole_more, whole_some}
use Rattle.ox_checkpoint.proofs.read.read_body.Goals as goal

pub returns-in_default : goal.returns-in_default
returns-in_default c = no_index c.args.bytes.now (rw c.in_default.is at c.in_ok-index.ensures)

pub returns-in_default-2 : goal.returns-in_default-2
returns-in_default-2 c =
    no_changes c.args.bytes.now c.in-Some.rest.now (index_in c.in-Some.index) (rw c.in-Some.is at c.in_ok-index.ensures) (rw c.in_default-2.is at c.in_ok-changes.ensures)

pub returns-then-not-is_empty : goal.returns-then-not-is_empty
returns-then-not-is_empty c =
    let index = index_in c.in-Some.index in
    whole_more (body_at c.args.bytes.now) (body_of index c.in-Some-2.changes) c.in-Some-2.rest.now
    (body_read c.args.bytes.now c.in-Some.rest.now c.in-Some-2.rest.now index c.in-Some-2.changes (rw c.in-Some.is at c.in_ok-index.ensures) (rw c.in-Some-2.is at c.in_ok-changes.ensures))
    (sym c.if-not-is_empty.true ∙ c.is_empty.ensures)

pub returns : goal.returns
returns c =
    let index = index_in c.in-Some.index in
    whole_some (body_at c.args.bytes.now) (body_of index c.in-Some-2.changes) c.in-Some-2.rest.now
    (body_read c.args.bytes.now c.in-Some.rest.now c.in-Some-2.rest.now index c.in-Some-2.changes (rw c.in-Some.is at c.in_ok-index.ensures) (rw c.in-Some-2.is at c.in_ok-changes.ensures))
    (sym c.if-not-is_empty.false ∙ c.is_empty.ensures)
