use Rattle.std.proofs.Common.{◌≡◌, ◌++◌, false, map, drop}
use Rattle.std.specs.Option.{IfSome}
use Rattle.ox_envelope.specs.Payload.{body_pushes, fields, is_empty, is_incomplete}
use Rattle.ox_envelope.specs.Walk.{seen_field, texts}
use Rattle.ox_envelope.proofs.PayloadLemmas.{after_tag}
use Rattle.ox_envelope.proofs.payload.split_payload.Given as goal

abbrev pub invariant-loop-at : goal.invariant-loop-at
invariant-loop-at l = record {
  fields : map seen_field l.fields.items ++ fields (after_tag l.tag (texts (drop l.at l.pushes))) ≡ fields (texts l.pushes);
  body : body_pushes (after_tag l.tag (texts (drop l.at l.pushes))) ≡ body_pushes (texts l.pushes);
  incomplete : is_incomplete (after_tag l.tag (texts (drop l.at l.pushes))) ≡ is_incomplete (texts l.pushes);
  named : IfSome l.tag (λ name. is_empty name.now ≡ false);
}
