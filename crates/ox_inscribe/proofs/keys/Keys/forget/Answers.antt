use Rattle.std.proofs.Common.{◌∙◌, ap, List}
use Rattle.ox_envelope.specs.declared.id.InsId.{InsId}
use Rattle.ox_inscribe.specs.Inscriptions.{has_parent, is_on}
use Rattle.ox_inscribe.specs.Shelved.{id_cmp, is_key}
use Rattle.ox_inscribe.proofs.KeyLaws.{dropped, first_dropped, key_of_parents, key_of_sat}
use Rattle.ox_inscribe.proofs.keys.Keys.forget.Goals as goal

pub returns : goal.returns
returns c = λ rows up is.
    let row = c.args.row.now in
    record {
      firsts = λ id. first_dropped rows row id c.args.number _ _ is (up.firsts id) (c.drop_first.ensures id);
      sats = λ sat. dropped (is_on sat) rows row c.args.number _ _ _ is (key_of_sat row.sat c.as_slice.result.now c.as_slice.ensures sat) (up.sats sat) (c.drop_numbers.ensures sat);
      parents = λ id. dropped (has_parent id) rows row c.args.number _ _ _ is (ap (λ (ids : List InsId). is_key id_cmp ids id) c.as_slice-2.ensures ∙ key_of_parents row.parents id) (up.parents id) (c.drop_numbers-2.ensures id);
    }
