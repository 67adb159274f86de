-- Field by field.
use Rattle.std.proofs.Common.{true, false, arith, sym, ◌∙◌}
use Rattle.std.specs.Str.{bytes_eq}
use Rattle.ox_http.proofs.Values.{all_step}
use Rattle.ox_http.proofs.reader.all_are.Goals as goal

pub returns-then-is_other : goal.returns-then-is_other
returns-then-is_other c =
    sym (c.loop-field.invariant
    ∙ all_step (bytes_eq c.args.text.now) c.args.name.now c.args.head.now
    c.args.fields.now c.loop-field.field-index _ true (omega arith)
    (sym c.if-is_other.true ∙ c.is_other.ensures))

pub loop-field-preserved : goal.loop-field-preserved
loop-field-preserved c =
    c.loop-field.invariant
    ∙ all_step (bytes_eq c.args.text.now) c.args.name.now c.args.head.now
    c.args.fields.now c.loop-field.field-index _ false (omega arith)
    (sym c.if-is_other.false ∙ c.is_other.ensures)
