-- Field by field.
use Rattle.std.proofs.Common.{ℕ, List, true, false, arith, sym, ◌∙◌}
use Rattle.std.specs.Str.{str_eq_ignore_ascii_case}
use Rattle.ox_http.proofs.Values.{any_step}
use Rattle.ox_http.proofs.reader.any_is.Goals as goal

pub returns-then-is_one : goal.returns-then-is_one
returns-then-is_one c =
    sym (c.loop-field.invariant
    ∙ any_step (λ (value : List ℕ). str_eq_ignore_ascii_case value c.args.text.now) c.args.name.now c.args.head.now
    c.args.fields.now c.loop-field.field-index _ true (omega arith)
    (sym c.if-is_one.true ∙ c.is_one.ensures))

pub loop-field-preserved : goal.loop-field-preserved
loop-field-preserved c =
    c.loop-field.invariant
    ∙ any_step (λ (value : List ℕ). str_eq_ignore_ascii_case value c.args.text.now) c.args.name.now c.args.head.now
    c.args.fields.now c.loop-field.field-index _ false (omega arith)
    (sym c.if-is_one.false ∙ c.is_one.ensures)
