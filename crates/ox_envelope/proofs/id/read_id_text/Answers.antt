use Rattle.std.proofs.Common.{sym, ap, refl, ◌∙◌, arith}
use Rattle.ox_envelope.proofs.IdLemmas.{id_of_text-short, id_of_text-no_number, id_of_text-number, id_of_text-read, number_at, ok_from_some, decoded}
use Rattle.hex.specs.Hex.{decode_sized}
use Rattle.ox_envelope.proofs.id.read_id_text.Goals as goal

pub returns-in_err-digits-clause-id : goal.returns-in_err-digits-clause-id
returns-in_err-digits-clause-id c = c.from_residual.ensures ∙ sym (id_of_text-short c.args.text.now (omega (arith, c.in_err-digits.ensures.cases)))

pub returns-in_err-number-clause-id : goal.returns-in_err-number-clause-id
returns-in_err-number-clause-id c =
    c.from_residual-in_err-number.ensures ∙ sym (id_of_text-short c.args.text.now (omega (arith, c.in_err-number.ensures.cases, c.in_ok-digits.ensures.cases.2)))

pub returns-in_err-index-clause-id : goal.returns-in_err-index-clause-id
returns-in_err-index-clause-id c =
    let number = number_at c.args.text.now c.in_ok-digits.rest.now c.in_ok-number.number.now _ c.in_ok-digits.ensures.cases.1 c.in_ok-number.ensures.cases.0 in
    c.from_residual-in_err-index.ensures ∙ sym (id_of_text-no_number c.args.text.now c.in_ok-number.number.now _ number refl c.in_err-index.ensures)

pub returns-then-has_text-clause-id : goal.returns-then-has_text-clause-id
returns-then-has_text-clause-id c =
    let text = c.args.text.now in
    let digits = c.in_ok-digits.ensures.cases in
    let number = number_at text c.in_ok-digits.rest.now c.in_ok-number.number.now _ digits.1 c.in_ok-number.ensures.cases.0 in
    let read = id_of_text-number text c.in_ok-number.number.now c.in_ok-index.index _ number refl c.in_ok-index.ensures in
    let ok = ok_from_some c.decode_to_slice.result c.in_ok-ok.field-0 c.in_ok-ok.ensures.value in
    let found = decoded _ c.decode_to_slice.new.out c.decode_to_slice.result ok c.decode_to_slice.ensures.value in
    let decodes = ap (λ front. decode_sized front 32) (sym digits.0) ∙ found in
    sym (id_of_text-read text c.reverse.new.self c.decode_to_slice.new.out c.in_ok-index.index _ read decodes c.reverse.ensures.after c.if-has_text.ensures)

pub returns-else-has_text-clause-id : goal.returns-else-has_text-clause-id
returns-else-has_text-clause-id c =
    let text = c.args.text.now in
    let digits = c.in_ok-digits.ensures.cases in
    let number = number_at text c.in_ok-digits.rest.now c.in_ok-number.number.now _ digits.1 c.in_ok-number.ensures.cases.0 in
    let read = id_of_text-number text c.in_ok-number.number.now c.in_ok-index.index _ number refl c.in_ok-index.ensures in
    let ok = ok_from_some c.decode_to_slice.result c.in_ok-ok.field-0 c.in_ok-ok.ensures.value in
    let found = decoded _ c.decode_to_slice.new.out c.decode_to_slice.result ok c.decode_to_slice.ensures.value in
    let decodes = ap (λ front. decode_sized front 32) (sym digits.0) ∙ found in
    sym (id_of_text-read text c.reverse.new.self c.decode_to_slice.new.out c.in_ok-index.index _ read decodes c.reverse.ensures.after c.if-has_text.ensures)
