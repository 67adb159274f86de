use Rattle.std.proofs.Common.{List, [], ◌∷◌, codes}
use Rattle.json.specs.Token.{Token, end_array}
use Rattle.serde_json.specs.Data.{Data}
use Rattle.ox_replies.specs.Inscriptions.{mark_if}
use Rattle.ox_query.proofs.MarkTexts.{bracketed_marks, mark}
use Rattle.ox_query.proofs.Steps.{◌▸◌}
use Rattle.ox_query.proofs.marks.write_marks.Goals as goal

pub returns : goal.returns
returns c =
    let m = c.args.marks in
    let bracket : List Token = end_array ∷ [] in
    let none : List Data = [] in
    let from_reinscription : List Data = mark_if m 128 (codes "reinscription") none in
    let from_pushnum : List Data = mark_if m 64 (codes "pushnum") from_reinscription in
    let from_pointer : List Data = mark_if m 32 (codes "pointer") from_pushnum in
    let from_offset : List Data = mark_if m 16 (codes "offset") from_pointer in
    let from_input : List Data = mark_if m 8 (codes "input") from_offset in
    let from_incomplete : List Data = mark_if m 4 (codes "incomplete") from_input in
    let from_repeated : List Data = mark_if m 2 (codes "repeated") from_incomplete in
    bracketed_marks m (c.begin_array.ensures
    ▸ mark m 1 (codes "even") from_repeated bracket c.write_mark.ensures
    (mark m 2 (codes "repeated") from_incomplete bracket c.write_mark-2.ensures
    (mark m 4 (codes "incomplete") from_input bracket c.write_mark-3.ensures
    (mark m 8 (codes "input") from_offset bracket c.write_mark-4.ensures
    (mark m 16 (codes "offset") from_pointer bracket c.write_mark-5.ensures
    (mark m 32 (codes "pointer") from_pushnum bracket c.write_mark-6.ensures
    (mark m 64 (codes "pushnum") from_reinscription bracket c.write_mark-7.ensures
    (mark m 128 (codes "reinscription") none bracket c.write_mark-8.ensures c.end_array.ensures))))))))
