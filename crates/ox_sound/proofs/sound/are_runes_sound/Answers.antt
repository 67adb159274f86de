use Rattle.std.proofs.Common.{◌∙◌, ap, sym}
use Rattle.std.specs.Prelude.{◌&&◌}
use Rattle.std.specs.List.{list_all}
use Rattle.ox_plain.specs.Plain.{index_in}
use Rattle.ox_sound.specs.Rows.{are_held, are_settled, ids_differ, names_differ}
use Rattle.ox_sound.specs.Sound.{is_etched, runes_pass}
use Rattle.ox_sound.proofs.PassLemmas.{amounts_left, bounded_of, etched_are, names_fail, rows_fail, same_answer}
use Rattle.ox_sound.proofs.sound.are_runes_sound.Goals as goal

pub returns-then-not-are_rows_sound : goal.returns-then-not-are_rows_sound
returns-then-not-are_rows_sound c =
    let index = index_in c.args.index.now in
    let is = c.are_rows_sound.ensures ∙ etched_are c.args.p.now index c.len.result c.as_slice-runes.result.now c.len.ensures c.as_slice-runes.ensures in
    sym (rows_fail c.args.p.now index c.are_rows_sound.result is c.if-not-are_rows_sound.true)

pub returns-then-not-branch : goal.returns-then-not-branch
returns-then-not-branch c =
    let index = index_in c.args.index.now in
    sym (names_fail c.args.p.now index c.in_ok-do_names_differ.field-0 (c.in_ok-do_names_differ.ensures ∙ ap names_differ c.as_slice-runes.ensures) c.if-not-branch.true)

pub are_amounts_sound-requires : goal.are_amounts_sound-requires
are_amounts_sound-requires c =
    bounded_of c.args.p.now c.len.result c.args.index.now.runes
    (ap (list_all (is_etched c.args.p.now c.len.result)) (sym c.as_slice-runes.ensures) ∙ sym c.are_rows_sound.ensures ∙ c.if-not-are_rows_sound.false)

pub returns : goal.returns
returns c =
    let index = index_in c.args.index.now in
    let is = c.are_rows_sound.ensures ∙ etched_are c.args.p.now index c.len.result c.as_slice-runes.result.now c.len.ensures c.as_slice-runes.ensures in
    let are = c.in_ok-do_names_differ.ensures ∙ ap names_differ c.as_slice-runes.ensures in
    same_answer c.are_amounts_sound.result (ids_differ index.runes && are_held index.runes index.outs index.bal && are_settled index.runes index.bal) (runes_pass c.args.p.now index)
    (amounts_left c.args.p.now index c.are_rows_sound.result c.in_ok-do_names_differ.field-0 is c.if-not-are_rows_sound.false are c.if-not-branch.false) c.are_amounts_sound.ensures
