use Rattle.std.proofs.Common.{decimal, sym, ap, ◌∙◌}
use Rattle.ox_replies.specs.Named.{rune_id_in}
use Rattle.ox_query.proofs.Outpoints.{index_past, index_within}
use Rattle.ox_query.proofs.RuneParts.{id_unread, without_colon, without_height, without_place, past_places, id_is}
use Rattle.ox_query.proofs.rune_named.rune_id.Goals as goal

pub returns-in_default : goal.returns-in_default
returns-in_default c = id_unread c.args.part.now c.in_default.ensures.cases.0

pub returns-in_err-height : goal.returns-in_err-height
returns-in_err-height c =
    c.from_residual.ensures ∙ without_colon c.in-Ok.text.now c.in_err-height.ensures.cases ∙ ap rune_id_in c.in-Ok.ensures.cases.0

pub returns-in_err-block : goal.returns-in_err-block
returns-in_err-block c =
    c.from_residual-in_err-block.ensures
    ∙ without_height c.in-Ok.text.now c.in_ok-height.height c.in_ok-height.place c.in_ok-height.ensures.cases c.in_err-block.ensures.none
    ∙ ap rune_id_in c.in-Ok.ensures.cases.0

pub returns-in_err-read_number : goal.returns-in_err-read_number
returns-in_err-read_number c =
    c.from_residual-in_err-read_number.ensures
    ∙ without_place c.in-Ok.text.now c.in_ok-height.height c.in_ok-height.place c.in_ok-height.ensures.cases c.in_err-read_number.ensures.none
    ∙ ap rune_id_in c.in-Ok.ensures.cases.0

pub returns-in_err-tx : goal.returns-in_err-tx
returns-in_err-tx c =
    let past = index_past c.try_from.result c.in_ok-read_number.field-0 c.try_from.ensures c.in_err-tx.ensures.value in
    c.from_residual-in_err-tx.ensures
    ∙ past_places c.in-Ok.text.now c.in_ok-height.height c.in_ok-height.place c.in_ok-height.ensures.cases
    c.in_ok-read_number.field-0 c.in_ok-read_number.ensures.small c.in_ok-read_number.ensures.reads past
    ∙ ap rune_id_in c.in-Ok.ensures.cases.0

pub returns : goal.returns
returns c =
    let fits = index_within c.try_from.result c.in_ok-read_number.field-0 c.in_ok-tx.tx c.try_from.ensures c.in_ok-tx.ensures.value in
    id_is c.in-Ok.text.now c.in_ok-height.height c.in_ok-height.place c.in_ok-height.ensures.cases
    (record { block = c.in_ok-block.block; tx = c.in_ok-tx.tx })
    c.in_ok-block.ensures.reads (c.in_ok-read_number.ensures.reads ∙ ap decimal (sym fits.0)) c.in_ok-block.ensures.small fits.1
    ∙ ap rune_id_in c.in-Ok.ensures.cases.0
