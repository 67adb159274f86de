use Rattle.std.proofs.Common.{◌+◌, ap, sym, ◌∙◌}
use Rattle.ox_envelope.proofs.PayloadLemmas.{no_field, other_step, repeats_with, repeats_with-none, tag_step, tags_from}
use Rattle.ox_envelope.proofs.payload.repeats_among.Goals as goal
use Rattle.ox_envelope.proofs.payload.repeats_among.Goals.{else-is_single-via-then-is_single+in_ok-add_tag+else-not-branch, else-is_single-via-else-is_single}

pub loop-field-init : goal.loop-field-init
loop-field-init c = repeats_with-none c.new-known.result.keys _ c.new-known.ensures.empty

pub loop-field-preserved : goal.loop-field-preserved
loop-field-preserved c =
    let fields = c.args.fields.now in
    let at = c.loop-field.field-index in
    elim c.else-is_single.branch [
      | else-is_single-via-then-is_single+in_ok-add_tag+else-not-branch w ↦
          ap (λ known. repeats_with known.keys (tags_from (at + 1) fields)) w.known-is
          ∙ tag_step c.loop-field.known.keys w.add_tag.new.known.keys fields at no_field _ c.loop-field-test.true (sym c.is_single.ensures ∙ w.if-is_single.true) (sym w.if-not-branch.false ∙ w.in_ok-add_tag.ensures.added) w.in_ok-add_tag.ensures.known c.loop-field.invariant
      | else-is_single-via-else-is_single w ↦ ap (λ known. repeats_with known.keys (tags_from (at + 1) fields)) w.known-is ∙ other_step c.loop-field.known.keys fields at no_field _ c.loop-field-test.true (sym c.is_single.ensures ∙ w.if-is_single.false) c.loop-field.invariant
    ]
