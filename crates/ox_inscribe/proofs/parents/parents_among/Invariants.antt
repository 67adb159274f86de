use Rattle.std.proofs.Common.{◌≡◌, take}
use Rattle.std.specs.Prelude.{filter}
use Rattle.std.specs.BTreeSet.{contains}
use Rattle.std.specs.List.{list_any}
use Rattle.ox_envelope.specs.declared.id.InsId.{InsId}
use Rattle.ox_inscribe.specs.Inscriptions.{is_same_id}
use Rattle.ox_inscribe.specs.Reveal.{each_once, stands_among}
use Rattle.ox_inscribe.specs.Shelved.{id_cmp}
use Rattle.ox_inscribe.proofs.parents.parents_among.Given as goal

abbrev pub invariant-loop-id : goal.invariant-loop-id
invariant-loop-id l = record {
  met : (id : InsId) → contains id_cmp l.met id ≡ list_any (λ one. is_same_id one id) (take l.id-index l.named);
  parents : l.parents ≡ filter (stands_among l.joined (take l.count l.rows.rows)) (each_once (take l.id-index l.named));
}
