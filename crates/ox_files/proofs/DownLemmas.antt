-- The test of changes says that they lead down through sound indexes.
use Rattle.std.proofs.Common.{◌≡◌, true, List, [], ◌∷◌}
use Rattle.std.specs.Prelude.{◌&&◌, ◌↔◌, IsTrue}
use Rattle.std.proofs.lemmas.Bool.{and_from, and_parts}
use Rattle.ox_sat.specs.declared.profiles.Profile.{Profile}
use Rattle.ox_model.specs.Change.{undone}
use Rattle.ox_model.specs.Ends.{AllEnd}
use Rattle.ox_model.specs.Index.{Index}
use Rattle.ox_model.specs.Sound.{IsSound}
use Rattle.ox_model.specs.declared.change.Change.{Change}
use Rattle.ox_plain.specs.Ends.{ends_in}
use Rattle.ox_plain.proofs.EndLaws.{ends}
use Rattle.ox_sound.specs.Sound.{sound}
use Rattle.ox_sound.proofs.SoundLemmas.{Decides-sound}
use Rattle.ox_files.specs.Body.{leads_down}

pub down_to : (p : Profile) (index : Index) (changes : List Change) → leads_down p index changes ≡ true → IsSound p index × AllEnd p index changes
down_to p index [] is = ((Decides-sound p index).0 is, tt)
down_to p index (change ∷ changes) is =
    let parts = and_parts (sound p index) (ends_in index change && leads_down p (undone index change) changes) is in
    let rest = and_parts (ends_in index change) (leads_down p (undone index change) changes) parts.1 in
    let below = down_to p (undone index change) changes rest.1 in
    ((Decides-sound p index).0 parts.0, (record { leads = (ends index change).0 rest.0; sound = below.0 }, below.1))

pub down_from : (p : Profile) (index : Index) (changes : List Change) → IsSound p index → AllEnd p index changes → leads_down p index changes ≡ true
down_from p index [] is_sound end = (Decides-sound p index).1 is_sound
down_from p index (change ∷ changes) is_sound end =
    and_from (sound p index) (ends_in index change && leads_down p (undone index change) changes) ((Decides-sound p index).1 is_sound)
    (and_from (ends_in index change) (leads_down p (undone index change) changes) ((ends index change).1 end.0.leads)
    (down_from p (undone index change) changes end.0.sound end.1))

pub leads : (p : Profile) (index : Index) (changes : List Change) → IsTrue (leads_down p index changes) ↔ (IsSound p index × AllEnd p index changes)
leads p index changes = (down_to p index changes, λ is. down_from p index changes is.0 is.1)
