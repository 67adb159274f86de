use Rattle.std.proofs.Common.{sym, ap, ◌∙◌, subst}
use Rattle.hex.specs.Hex.{IsBytes}
use Rattle.ox_rules.specs.Text.{hash_text}
use Rattle.ox_query.proofs.Outpoints.{no_digits, with_capitals, printed_hash, hash_bytes}
use Rattle.ox_query.proofs.parts.hash.Goals as goal

pub returns-in_default-clause-none : goal.returns-in_default-clause-none
returns-in_default-clause-none c =
    no_digits c.args.digits.now c.in_default.field-0 c.decode_to_slice.new.out c.in_default.ensures.value

pub returns-then-has_capitals-clause-none : goal.returns-then-has_capitals-clause-none
returns-then-has_capitals-clause-none c =
    with_capitals c.args.digits.now c.has_capitals.result c.has_capitals.ensures c.if-has_capitals.true

pub returns-clause-read : goal.returns-clause-read
returns-clause-read c =
    printed_hash c.args.digits.now c.decode_to_slice.new.out c.has_capitals.result c.has_capitals.ensures c.if-has_capitals.false
    c.in-Ok.ensures.value
    ∙ ap hash_text (sym c.reverse.ensures.after)

pub returns-clause-bytes : goal.returns-clause-bytes
returns-clause-bytes c =
    subst IsBytes (sym c.reverse.ensures.after) (hash_bytes c.args.digits.now c.decode_to_slice.new.out c.in-Ok.ensures.value).1
