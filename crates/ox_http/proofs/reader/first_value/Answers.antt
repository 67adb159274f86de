-- The first field of the name, or none yet.
use Rattle.std.proofs.Common.{ℕ, List, arith, sym, ap, ◌∙◌}
use Rattle.std.specs.Str.{str_eq_ignore_ascii_case}
use Rattle.ox_http.proofs.Values.{first_here, not_here}
use Rattle.ox_http.proofs.reader.first_value.Goals as goal

pub returns-then-same_letters : goal.returns-then-same_letters
returns-then-same_letters c =
    first_here c.args.name.now c.args.head.now c.args.fields.now c.loop-field.field-index _ _
    (omega arith)
    (ap (λ (key : List ℕ). str_eq_ignore_ascii_case key c.args.name.now) (sym c.of.ensures)
    ∙ sym c.same_letters.ensures ∙ c.if-same_letters.true)
    c.of-then-same_letters.ensures c.loop-field.invariant

pub loop-field-preserved : goal.loop-field-preserved
loop-field-preserved c =
    not_here c.args.name.now c.args.head.now c.args.fields.now c.loop-field.field-index _
    (omega arith)
    (ap (λ (key : List ℕ). str_eq_ignore_ascii_case key c.args.name.now) (sym c.of.ensures)
    ∙ sym c.same_letters.ensures ∙ c.if-same_letters.false)
    c.loop-field.invariant
