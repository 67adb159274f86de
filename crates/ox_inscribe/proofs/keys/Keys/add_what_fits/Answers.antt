use Rattle.std.proofs.Common.{inl, inr, ◌∙◌, ap, List}
use Rattle.ox_envelope.specs.declared.id.InsId.{InsId}
use Rattle.ox_inscribe.specs.Inscriptions.{has_parent, is_on}
use Rattle.ox_inscribe.specs.Shelved.{id_cmp, is_key}
use Rattle.ox_inscribe.proofs.KeyLaws.{added, added_or_not, first_added, key_of_parents, key_of_sat, on_err, on_err_then}
use Rattle.ox_inscribe.proofs.MapLaws.{on_ok}
use Rattle.ox_inscribe.proofs.keys.Keys.add_what_fits.Goals as goal

pub returns-in_err-add_numbers-clause-err : goal.returns-in_err-add_numbers-clause-err
returns-in_err-add_numbers-clause-err c = on_err c.from_residual-in_err-add_numbers.result (λ rows keys is.
    let row = c.args.row.now in
    record {
      firsts = λ id. inr (first_added rows row id c.args.number _ _ is (keys.firsts id) (c.in_ok-add_first.ensures.ok id));
      sats = λ sat. added_or_not (is_on sat) rows row c.args.number _ _ _ is (key_of_sat row.sat c.as_slice.result.now c.as_slice.ensures sat) (keys.sats sat) (c.in_err-add_numbers.ensures.err sat);
      parents = λ id. inl (keys.parents id);
    })

pub returns-clause-ok : goal.returns-clause-ok
returns-clause-ok c = on_ok c.add_numbers-2.result c.add_numbers-2.ensures.ok (λ added_to rows keys is.
    let row = c.args.row.now in
    record {
      firsts = λ id. first_added rows row id c.args.number _ _ is (keys.firsts id) (c.in_ok-add_first.ensures.ok id);
      sats = λ sat. added (is_on sat) rows row c.args.number _ _ _ is (key_of_sat row.sat c.as_slice.result.now c.as_slice.ensures sat) (keys.sats sat) (c.in_ok-add_numbers.ensures.ok sat);
      parents = λ id. added (has_parent id) rows row c.args.number _ _ _ is (ap (λ (ids : List InsId). is_key id_cmp ids id) c.as_slice-2.ensures ∙ key_of_parents row.parents id) (keys.parents id) (added_to id);
    })

pub returns-clause-err : goal.returns-clause-err
returns-clause-err c = on_err_then c.add_numbers-2.result c.add_numbers-2.ensures.err (λ added_to rows keys is.
    let row = c.args.row.now in
    record {
      firsts = λ id. inr (first_added rows row id c.args.number _ _ is (keys.firsts id) (c.in_ok-add_first.ensures.ok id));
      sats = λ sat. inr (added (is_on sat) rows row c.args.number _ _ _ is (key_of_sat row.sat c.as_slice.result.now c.as_slice.ensures sat) (keys.sats sat) (c.in_ok-add_numbers.ensures.ok sat));
      parents = λ id. added_or_not (has_parent id) rows row c.args.number _ _ _ is (ap (λ (ids : List InsId). is_key id_cmp ids id) c.as_slice-2.ensures ∙ key_of_parents row.parents id) (keys.parents id) (added_to id);
    })
