-- The ids of the edicts that integers spell don't fall.
use Rattle.std.proofs.Common.{◌≡◌, ℕ, ◌+◌, List, [], ◌∷◌, Bool, true, false, cond, eqb, leb, ◌||◌}
use Rattle.std.proofs.Common.{Option, Some, None, refl, sym, ap, subst, ◌∙◌, arith, inl, inr}
use Rattle.std.specs.Prelude.{option_and_then}
use Rattle.std.proofs.lemmas.Bool.{cases_Bool, eqb-true, eqb-false}
use Rattle.ox_runestone.specs.Artifact.{are_flawed, artifact_of, artifact_from, of_integers}
use Rattle.ox_runestone.specs.Message.{edict_before, edicts_after, edicts_of, id_after, id_of, message_of, Field}
use Rattle.ox_runestone.specs.Payload.{integers_of, payload_of}
use Rattle.ox_runestone.specs.Spelling.{DontFall, DontFallAfter, EdictsDontFall, NotBelow}
use Rattle.ox_runestone.specs.declared.stone.Edict.{Edict}
use Rattle.ox_runestone.specs.declared.stone.RuneId.{RuneId}

some_where : {A : Type 0} (b : Bool) (x y : A) → ◌≡◌ {A = Option A} (cond b (Some x) None) (Some y) → x ≡ y
some_where true x y is = cc
some_where false x y is = absurd cc

id_is : (block tx : ℕ) (next : RuneId) → id_of block tx ≡ Some next → record { block = block; tx = tx } ≡ next
id_is block tx next is = some_where _ (record { block = block; tx = tx }) next is

not_below : (id next : RuneId) (a b : ℕ) → id_after id a b ≡ Some next → NotBelow id next
not_below id next a b is =
    elim (cases_Bool (eqb a 0)) [
      | inl none ↦
          let tx : id_of (id.block + a) (cond (eqb a 0) (id.tx + b) b) ≡ id_of (id.block + a) (id.tx + b)
          = ap (λ t. id_of (id.block + a) (cond t (id.tx + b) b)) none in
          let same = id_is (id.block + a) (id.tx + b) next (sym tx ∙ is) in
          let zero : a ≡ 0 = eqb-true a 0 none in
          subst (NotBelow id) same (inr (omega (arith, zero), omega arith))
      | inr some ↦
          let tx : id_of (id.block + a) (cond (eqb a 0) (id.tx + b) b) ≡ id_of (id.block + a) b
          = ap (λ t. id_of (id.block + a) (cond t (id.tx + b) b)) some in
          let same = id_is (id.block + a) b next (sym tx ∙ is) in
          subst (NotBelow id) same (inl (omega (arith, eqb-false a 0 some)))
    ]

rising_with : (outputs : ℕ) (id next : RuneId) (amount output : ℕ) (rest : Option (List Edict)) (edicts : List Edict) → NotBelow id next
    → ((more : List Edict) → rest ≡ Some more → DontFallAfter next more)
    → edict_before outputs (Some next) amount output rest ≡ Some edicts → DontFallAfter id edicts
rising_with outputs id next amount output None edicts above more is = absurd cc
rising_with outputs id next amount output (Some rest) edicts above more is =
    let same : record { id = next; amount = amount; output = output } ∷ rest ≡ edicts = some_where (leb output outputs) _ edicts is in
    subst (DontFallAfter id) same (above, more rest refl)

rising_at : (outputs : ℕ) (id : RuneId) (a b c d : ℕ) (body : List ℕ) (r : Option RuneId) (edicts : List Edict) → id_after id a b ≡ r
    → ((next : RuneId) (more : List Edict) → edicts_after outputs (Some next) body ≡ Some more → DontFallAfter next more)
    → edict_before outputs r c d (edicts_after outputs r body) ≡ Some edicts → DontFallAfter id edicts
rising_at outputs id a b c d body None edicts at more is = absurd cc
rising_at outputs id a b c d body (Some next) edicts at more is =
    rising_with outputs id next c d (edicts_after outputs (Some next) body) edicts (not_below id next a b at) (more next) is

rising_after : (outputs : ℕ) (id : RuneId) (body : List ℕ) (edicts : List Edict) → edicts_after outputs (Some id) body ≡ Some edicts → DontFallAfter id edicts
rising_after outputs id [] edicts is = let none : [] ≡ edicts = cc in subst (DontFallAfter id) none tt
rising_after outputs id (a ∷ []) edicts is = absurd cc
rising_after outputs id (a ∷ b ∷ []) edicts is = absurd cc
rising_after outputs id (a ∷ b ∷ c ∷ []) edicts is = absurd cc
rising_after outputs id (a ∷ b ∷ c ∷ d ∷ rest) edicts is =
    rising_at outputs id a b c d rest (id_after id a b) edicts refl (λ next more h. rising_after outputs next rest more h) is

rising_edicts : (outputs : ℕ) (body : List ℕ) (edicts : List Edict) → edicts_of outputs body ≡ Some edicts → DontFall edicts
unfolding edicts_of
rising_edicts outputs body edicts is = rising_after outputs (record { block = 0; tx = 0 }) body edicts is

rising_artifact_from : (outputs : ℕ) (fields : List Field) (lone : Bool) (edicts : Option (List Edict))
    → ((some : List Edict) → edicts ≡ Some some → DontFall some) → EdictsDontFall (artifact_from outputs fields lone edicts)
rising_artifact_from outputs fields lone None rising = tt
rising_artifact_from outputs fields lone (Some edicts) rising =
    elim (cases_Bool (lone || are_flawed outputs fields)) [
      | inl flawed ↦ rw flawed tt
      | inr sound ↦ rw sound (rising edicts refl)
    ]

rising_integers : (outputs : ℕ) (integers : Option (List ℕ)) → EdictsDontFall (of_integers outputs integers)
rising_integers outputs None = tt
rising_integers outputs (Some integers) =
    rising_artifact_from outputs (message_of integers).fields (message_of integers).lone (edicts_of outputs (message_of integers).body)
    (λ some is. rising_edicts outputs (message_of integers).body some is)

-- of every script
pub rising_of : (script : List ℕ) (outputs : ℕ) → EdictsDontFall (artifact_of script outputs)
unfolding artifact_of
rising_of script outputs = rising_integers outputs (option_and_then integers_of (payload_of script))
