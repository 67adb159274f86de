-- Fields, and what stands behind them, spell the pushes of an envelope.
use Rattle.std.proofs.Common.{◌≡◌, ℕ, false, List, [], ◌∷◌, refl, ap}
use Rattle.std.proofs.lemmas.List.Elements.{All-cons, All-nil}
use Rattle.ox_envelope.specs.Payload.{Field, fields, is_empty}
use Rattle.ox_envelope.specs.Spelling.{AreSpelled, pushes_of}

abbrev Named : Field → Type 0
Named field = is_empty field.tag ≡ false

none_spelled : AreSpelled []
unfolding pushes_of
none_spelled = record { lone = []; spelled = refl; tags = All-nil Named; complete = λ e. refl; incomplete = λ e. absurd (cc e) }

lone_spelled : (tag : List ℕ) → AreSpelled (tag ∷ [])
unfolding pushes_of
lone_spelled [] = record { lone = []; spelled = refl; tags = All-nil Named; complete = λ e. refl; incomplete = λ e. absurd (cc e) }
lone_spelled (b ∷ tag) = record { lone = (b ∷ tag) ∷ []; spelled = refl; tags = All-nil Named; complete = λ e. absurd (cc e); incomplete = λ e. (b ∷ tag, refl, refl, refl) }

pub all_spelled : (pushes : List (List ℕ)) → AreSpelled pushes
unfolding pushes_of
all_spelled [] = none_spelled
all_spelled (tag ∷ []) = lone_spelled tag
all_spelled ([] ∷ value ∷ pushes) = record { lone = []; spelled = refl; tags = All-nil Named; complete = λ e. refl; incomplete = λ e. absurd (cc e) }
all_spelled ((b ∷ tag) ∷ value ∷ pushes) =
    let rest = all_spelled pushes in record {
      lone = rest.lone;
      spelled = ap (λ (l : List (List ℕ)). (b ∷ tag) ∷ value ∷ l) rest.spelled;
      tags = All-cons Named (record { tag = b ∷ tag; value = value }) (fields pushes) refl rest.tags;
      complete = rest.complete;
      incomplete = rest.incomplete;
    }
