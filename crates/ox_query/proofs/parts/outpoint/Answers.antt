use Rattle.std.proofs.Common.{Some, ap, ◌∙◌}
use Rattle.ox_query.proofs.Outpoints.{without_sides, without_hash, without_number, past_numbers, outpoint_is, index_past, index_within}
use Rattle.ox_query.proofs.parts.outpoint.Goals as goal

pub returns-in_err-digits : goal.returns-in_err-digits
returns-in_err-digits c = c.from_residual.ensures ∙ without_sides c.args.part.now c.in_err-digits.ensures.none

pub returns-in_err-hash : goal.returns-in_err-hash
returns-in_err-hash c =
    c.from_residual-in_err-hash.ensures
    ∙ without_hash c.args.part.now c.in_ok-digits.digits.now c.in_ok-digits.rest.now c.in_ok-digits.ensures.cut c.in_err-hash.ensures.none

pub returns-in_err-number : goal.returns-in_err-number
returns-in_err-number c =
    c.from_residual-in_err-number.ensures
    ∙ without_number c.args.part.now c.in_ok-digits.digits.now c.in_ok-digits.rest.now c.in_ok-digits.ensures.cut c.in_err-number.ensures

pub returns-in_err-index : goal.returns-in_err-index
returns-in_err-index c =
    let past = index_past c.try_from.result c.in_ok-number.field-0 c.try_from.ensures c.in_err-index.ensures.value in
    c.from_residual-in_err-index.ensures
    ∙ past_numbers c.args.part.now c.in_ok-digits.digits.now c.in_ok-digits.rest.now c.in_ok-number.field-0 c.in_ok-digits.ensures.cut c.in_ok-number.ensures past

pub returns : goal.returns
returns c =
    let fits = index_within c.try_from.result c.in_ok-number.field-0 c.in_ok-index.index c.try_from.ensures c.in_ok-index.ensures.value in
    outpoint_is c.args.part.now c.in_ok-digits.digits.now c.in_ok-digits.rest.now (record { txid = record { 0 = c.in_ok-hash.field-0 }; index = c.in_ok-index.index })
    c.in_ok-digits.ensures.cut c.in_ok-hash.ensures.read c.in_ok-hash.ensures.long c.in_ok-hash.ensures.bytes
    (ap Some fits.0 ∙ c.in_ok-number.ensures) fits.1
