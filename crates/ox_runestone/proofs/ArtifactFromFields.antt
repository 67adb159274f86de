-- From what is kept of a message to its artifact.
use Rattle.std.proofs.Common.{◌≡◌, ℕ, List, Bool, true, false, ◌||◌, Option, Some, None, refl, sym, ap, ◌∙◌, lit<}
use Rattle.std.specs.Prelude.{option_and_then}
use Rattle.ox_runestone.specs.declared.message.Fields.{Fields}
use Rattle.ox_runestone.specs.declared.stone.RuneId.{RuneId}
use Rattle.ox_runestone.specs.declared.stone.Etching.{Etching}
use Rattle.ox_runestone.specs.declared.stone.Edict.{Edict}
use Rattle.ox_runestone.specs.declared.stone.Artifact.TheVariants.{Stone, Cenotaph}
use Rattle.ox_runestone.specs.Payload.{payload_of, integers_of}
use Rattle.ox_runestone.specs.Message.{Field, message_of}
use Rattle.ox_runestone.specs.ValuesKept.{IsKeptOf}
use Rattle.ox_runestone.specs.Fields.{first_of, field_of, etching_of, has_strange_flag, leaves_even, overflows}
use Rattle.ox_runestone.specs.Artifact.{mint_in, are_flawed, cenotaph_of, artifact_from, of_message, of_integers, artifact_of}
use Rattle.ox_runestone.specs.FieldsKept.{firsts_in, mint_kept}
use Rattle.ox_runestone.proofs.EvenTagsLeft.{strange-same, etching-same, mint-same, field-same}

or_true : (b : Bool) → (b || true) ≡ true
or_true true = refl
or_true false = refl

pub flawed_flag : (fields : Fields) (outputs : ℕ) (list : List Field) → has_strange_flag (firsts_in fields) ≡ true → IsKeptOf fields list → true ≡ are_flawed outputs list
flawed_flag fields outputs list is h =
    let same : has_strange_flag (first_of list) ≡ true = sym (strange-same fields list h) ∙ is in
    sym (ap (λ b. b || (leaves_even (first_of list) (mint_in list) outputs list || overflows (etching_of (first_of list)))) same)

pub flawed_leaves : (outputs : ℕ) (list : List Field) → true ≡ leaves_even (first_of list) (mint_in list) outputs list → true ≡ are_flawed outputs list
flawed_leaves outputs list is =
    sym (ap (λ b. has_strange_flag (first_of list) || (b || overflows (etching_of (first_of list)))) (sym is) ∙ or_true (has_strange_flag (first_of list)))

pub flawed_supply : (fields : Fields) (outputs : ℕ) (list : List Field) (over : Bool) → has_strange_flag (firsts_in fields) ≡ false → false ≡ leaves_even (first_of list) (mint_in list) outputs list → over ≡ overflows (etching_of (firsts_in fields)) → IsKeptOf fields list → over ≡ are_flawed outputs list
flawed_supply fields outputs list over flag leaves is h =
    let same : has_strange_flag (first_of list) ≡ false = sym (strange-same fields list h) ∙ flag in
    is ∙ ap overflows (etching-same fields list h)
    ∙ sym (ap (λ b. b || (leaves_even (first_of list) (mint_in list) outputs list || overflows (etching_of (first_of list)))) same ∙ ap (λ b. b || overflows (etching_of (first_of list))) (sym leaves))

pub artifact_from_none : (outputs : ℕ) (list : List Field) (lone : Bool) (edicts : Option (List Edict)) → edicts ≡ None → cenotaph_of list ≡ artifact_from outputs list lone edicts
artifact_from_none outputs list lone edicts is = sym (ap (artifact_from outputs list lone) is)

pub artifact_from_lone : (outputs : ℕ) (list : List Field) (lone : Bool) (edicts : Option (List Edict)) (some : List Edict) → edicts ≡ Some some → lone ≡ true → cenotaph_of list ≡ artifact_from outputs list lone edicts
artifact_from_lone outputs list lone edicts some is alone = sym (ap (λ b. artifact_from outputs list b edicts) alone ∙ ap (artifact_from outputs list true) is)

pub artifact_from_flawed : (outputs : ℕ) (list : List Field) (lone : Bool) (edicts : Option (List Edict)) (some : List Edict) → edicts ≡ Some some → lone ≡ false → are_flawed outputs list ≡ true → cenotaph_of list ≡ artifact_from outputs list lone edicts
artifact_from_flawed outputs list lone edicts some is whole flawed =
    sym (ap (λ b. artifact_from outputs list b edicts) whole ∙ ap (artifact_from outputs list false) is ∙ rw flawed refl)

stone-parts : (e e' : Option Etching) (m m' : Option RuneId) (p p' : Option ℕ) (d d' : List Edict) → e ≡ e' → m ≡ m' → p ≡ p' → d ≡ d' → Stone (record { etching = e; mint = m; pointer = p; edicts = d }) ≡ Stone (record { etching = e'; mint = m'; pointer = p'; edicts = d' })
stone-parts e e' m m' p p' d d' x y z w = cc

pub artifact_from_stone : (fields : Fields) (outputs : ℕ) (list : List Field) (lone : Bool) (edicts : Option (List Edict)) (some all : List Edict) → edicts ≡ Some some → all ≡ some → lone ≡ false → are_flawed outputs list ≡ false → IsKeptOf fields list → Stone (record { etching = etching_of (firsts_in fields); mint = mint_kept fields; pointer = field_of (firsts_in fields) outputs 22; edicts = all }) ≡ artifact_from outputs list lone edicts
artifact_from_stone fields outputs list lone edicts some all is all-is whole sound h =
    stone-parts _ _ _ _ _ _ _ _ (etching-same fields list h) (mint-same fields list h) (field-same fields list outputs 22 h (lit< tt)) all-is
    ∙ sym (ap (λ b. artifact_from outputs list b edicts) whole ∙ ap (artifact_from outputs list false) is ∙ rw sound refl)

-- ---- the script

pub silent : (script : List ℕ) (outputs : ℕ) → option_and_then integers_of (payload_of script) ≡ None → Cenotaph None None ≡ artifact_of script outputs
unfolding artifact_of
silent script outputs none = sym (ap (of_integers outputs) none)

pub speaks : (script integers : List ℕ) (outputs : ℕ) → option_and_then integers_of (payload_of script) ≡ Some integers → of_message outputs (message_of integers) ≡ artifact_of script outputs
unfolding artifact_of
speaks script integers outputs is = sym (ap (of_integers outputs) is)
