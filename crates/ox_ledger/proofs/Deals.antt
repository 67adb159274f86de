-- What a transaction has in hand is dealt: of each rune, what is given and what is burned is what there was.
use Rattle.std.proofs.Common.{◌≡◌, ℕ, ◌<◌, Bool, true, false, List, [], length, refl, subst, arith, inl, inr, ◌||◌, Option, Some, None}
use Rattle.std.specs.Prelude.{IfSome, nat_lt, option_and_then, if◌then◌else◌}
use Rattle.std.specs.Option.{ForSome, option_map}
use Rattle.std.proofs.lemmas.Bool.{cases_Bool, ltb-true}
use Rattle.ox_block.specs.declared.block.Tx.{Tx}
use Rattle.ox_block.specs.declared.block.TxOut.{TxOut}
use Rattle.ox_runestone.specs.Artifact.{are_flawed, artifact_of, artifact_from, of_integers}
use Rattle.ox_runestone.specs.Fields.{Firsts, first_of, only, taken_of}
use Rattle.ox_runestone.specs.Message.{Field, edicts_of, message_of}
use Rattle.ox_runestone.specs.Payload.{integers_of, payload_of}
use Rattle.ox_runestone.specs.Tags.{pointer_tag}
use Rattle.ox_runestone.specs.declared.stone.Artifact.{Artifact}
use Rattle.ox_runestone.specs.declared.stone.Artifact.TheVariants.{Stone, Cenotaph}
use Rattle.ox_runestone.specs.declared.stone.Edict.{Edict}
use Rattle.ox_runestone.specs.declared.stone.RuneId.{RuneId}
use Rattle.ox_allocation.specs.Laws.{NothingIsLostOrMade}
use Rattle.ox_allocation.specs.Balances.{AreBalances, Balance, amount_in}
use Rattle.ox_etching.specs.declared.spot.Spot.{Spot}
use Rattle.ox_ledger.specs.Runes.{artifact_at, dealt_by, stone_in}
use Rattle.ox_ledger.proofs.TurnLemmas.{dealt_amount, none_given}

-- ---- a stone's pointer names an output

abbrev PointerFits : ℕ → Artifact → Type 0
PointerFits outputs (Stone stone) = IfSome stone.pointer (λ place. place < outputs)
PointerFits outputs (Cenotaph mint name) = Unit {0}

only_below : (outputs value : ℕ) → IfSome (only (nat_lt value outputs) value) (λ place. place < outputs)
only_below outputs value = by_test (nat_lt value outputs) refl where
  by_test : (b : Bool) → nat_lt value outputs ≡ b → IfSome (only b value) (λ place. place < outputs)
  by_test true is = ltb-true value outputs is
  by_test false is = tt

taken_below : (first : Firsts) (outputs : ℕ) (value : Option ℕ) → IfSome (taken_of first outputs pointer_tag value) (λ place. place < outputs)
taken_below first outputs None = tt
taken_below first outputs (Some value) = only_below outputs value

artifact_from_fits : (outputs : ℕ) (fields : List Field) (lone : Bool) (edicts : Option (List Edict)) → PointerFits outputs (artifact_from outputs fields lone edicts)
artifact_from_fits outputs fields lone None = tt
artifact_from_fits outputs fields lone (Some edicts) =
    elim (cases_Bool (lone || are_flawed outputs fields)) [
      | inl flawed ↦ rw flawed tt
      | inr sound ↦ rw sound (taken_below (first_of fields) outputs (first_of fields pointer_tag))
    ]

integers_fit : (outputs : ℕ) (integers : Option (List ℕ)) → PointerFits outputs (of_integers outputs integers)
integers_fit outputs None = tt
integers_fit outputs (Some integers) = artifact_from_fits outputs (message_of integers).fields (message_of integers).lone (edicts_of outputs (message_of integers).body)

pointer_fits : (script : List ℕ) (outputs : ℕ) → PointerFits outputs (artifact_of script outputs)
unfolding artifact_of
pointer_fits script outputs = integers_fit outputs (option_and_then integers_of (payload_of script))

abbrev AtFits : List TxOut → Option Artifact → Type 0
AtFits outputs None = Unit {0}
AtFits outputs (Some artifact) = PointerFits (length outputs) artifact

stone_fits : (outputs : List TxOut) (script : Option (List ℕ)) → AtFits outputs (option_map (λ s. artifact_of s (length outputs)) script)
stone_fits outputs None = tt
stone_fits outputs (Some script) = pointer_fits script (length outputs)

artifact_fits : (at : Spot) (tx : Tx) → AtFits tx.outputs (artifact_at at tx)
artifact_fits at tx = by_test (nat_lt at.height at.profile.rune_start) where
  by_test : (b : Bool) → AtFits tx.outputs (if b then None else option_map (λ s. artifact_of s (length tx.outputs)) (stone_in tx.outputs))
  by_test true = tt
  by_test false = stone_fits tx.outputs (stone_in tx.outputs)

-- ---- what is dealt

for_some : (pointer : Option ℕ) (count : ℕ) → IfSome pointer (λ place. place < count) → ForSome pointer (λ place. place < count)
for_some None count fits x is = let none : None ≡ Some x = is in absurd (cc none)
for_some (Some place) count fits x is =
    let some : Some place ≡ Some x = is in let same : place ≡ x = cc some in subst (λ n. n < count) same fits

keeps_by : NothingIsLostOrMade → (artifact : Option Artifact) (pool : List Balance) (etching : Option RuneId) (outputs : List TxOut) → AreBalances pool
    → AtFits outputs artifact → (id : RuneId) → dealt_amount (dealt_by artifact pool etching outputs) id ≡ amount_in pool id
keeps_by keeps None pool etching outputs are fits id =
    let all = keeps pool [] None None outputs id are (for_some None (length outputs) tt) in omega (arith, all)
keeps_by keeps (Some (Stone stone)) pool etching outputs are fits id =
    let all = keeps pool stone.edicts etching stone.pointer outputs id are (for_some stone.pointer (length outputs) fits) in omega (arith, all)
keeps_by keeps (Some (Cenotaph mint name)) pool etching outputs are fits id = let none = none_given outputs id in omega (arith, none)

pub deals : NothingIsLostOrMade → (at : Spot) (tx : Tx) (pool : List Balance) (etching : Option RuneId) → AreBalances pool
    → (id : RuneId) → dealt_amount (dealt_by (artifact_at at tx) pool etching tx.outputs) id ≡ amount_in pool id
deals keeps at tx pool etching are id = keeps_by keeps (artifact_at at tx) pool etching tx.outputs are (artifact_fits at tx) id
