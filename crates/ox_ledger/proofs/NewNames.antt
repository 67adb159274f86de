-- The name of a rune that is etched is new.
use Rattle.std.proofs.Common.{◌≡◌, ◌≢◌, ◌∙◌, ℕ, ◌^◌, ◌<◌, ◌≤◌, Bool, true, false, List, [], ◌∷◌, refl, sym, ap, subst, arith, ◌&&◌, Option, Some, None}
use Rattle.std.specs.Prelude.{not, ◌==◌, option_and_then, if◌then◌else◌}
use Rattle.std.specs.List.{AllByRecursion}
use Rattle.std.specs.Option.{option_map_or}
use Rattle.std.proofs.lemmas.Bool.{and_parts, or_parts}
use Rattle.std.proofs.lemmas.List.Elements.{recursion_from_All}
use Rattle.std.proofs.lemmas.Bool.Decides.{Decides-eqb}
use Rattle.ox_block.specs.declared.block.Tx.{Tx}
use Rattle.ox_name.specs.Unlock.{first_reserved, reserved_name}
use Rattle.ox_runestone.specs.declared.stone.Artifact.{Artifact}
use Rattle.ox_runestone.specs.declared.stone.Artifact.TheVariants.{Stone, Cenotaph}
use Rattle.ox_runestone.specs.declared.stone.Etching.{Etching}
use Rattle.ox_rules.specs.declared.rows.OutRow.{OutRow}
use Rattle.ox_etching.specs.Commitment.{commits}
use Rattle.ox_etching.specs.declared.spot.Spot.{Spot}
use Rattle.ox_etching.specs.Etched.{etched, etching_of, id_of, may_be_given, may_stand, name_alone, name_of, row_of, row_where}
use Rattle.ox_etching.specs.declared.row.RuneRow.{RuneRow}
use Rattle.ox_ledger.specs.Balanced.{IsBounded}
use Rattle.ox_ledger.specs.Runes.{etching_by, is_taken, name_of as name_in}
use Rattle.ox_ledger.proofs.Distinct.{NoneLike}
use Rattle.ox_ledger.proofs.Fresh.{IsFreeFor, some_mapped, some_then}

abbrev NoName : ℕ → List RuneRow → Type 0
NoName name runes = AllByRecursion (λ (row : RuneRow). row.name ≢ name) runes

-- a name that isn't taken is no rune's
not_taken : (name : ℕ) (runes : List RuneRow) → is_taken runes name ≡ false → NoName name runes
not_taken name [] is = tt
not_taken name (row ∷ runes) is =
    let both = or_parts (row.name == name) (is_taken runes name) is in
    (λ same. let no : true ≡ false = sym ((Decides-eqb row.name name).1 same) ∙ both.0 in absurd (cc no), not_taken name runes both.1)

one_place : (block tx height place : ℕ) → tx < 2 ^ 32 → place < 2 ^ 32 → reserved_name block tx ≡ reserved_name height place → (block ≡ height) × (tx ≡ place)
one_place block tx height place small small_place same = (omega arith, omega arith)

-- the reserved name of a place where no rune was etched is no rune's
not_reserved : (at : Spot) (runes : List RuneRow) → at.tx < 2 ^ 32 → AllByRecursion IsBounded runes → AllByRecursion (λ (row : RuneRow). row.id ≢ id_of at) runes
    → NoName (reserved_name at.height at.tx) runes
not_reserved at [] small bounded other = tt
not_reserved at (row ∷ runes) small bounded other = (
  λ same.
      let reserved : first_reserved ≤ row.name = omega (arith, same) in
      let place = one_place row.id.block row.id.tx at.height at.tx bounded.0.place small (sym (bounded.0.reserved reserved) ∙ same) in
      let id : row.id ≡ id_of at = λ i. record { block = place.0 i; tx = place.1 i } in
      absurd (other.0 id),
  not_reserved at runes small bounded.1 other.1,
)

-- the name that an artifact gives is that of its etching
name_given : (artifact : Artifact) (etching : Etching) → etching_of artifact ≡ Some etching → (name : ℕ) → etching.name ≡ Some name → name_in artifact ≡ Some name
name_given (Stone stone) etching is name named = ap (option_and_then (λ (e : Etching). e.name)) is ∙ named
name_given (Cenotaph mint given) etching is name named =
    let alone = some_mapped name_alone given etching is in
    alone.1 ∙ ap (λ (e : Etching). e.name) alone.2 ∙ named

not_true : (b : Bool) → not b ≡ true → b ≡ false
not_true true is = let no : false ≡ true = is in absurd (cc no)
not_true false is = refl

name_fresh : (at : Spot) (tx : Tx) (spent : List OutRow) (runes : List RuneRow) (taken : Bool) (given : Option ℕ) (name : ℕ) → at.tx < 2 ^ 32 → AllByRecursion IsBounded runes
    → AllByRecursion (λ (row : RuneRow). row.id ≢ id_of at) runes → ((n : ℕ) → given ≡ Some n → taken ≡ is_taken runes n) → name_of at tx spent taken given ≡ Some name → NoName name runes
name_fresh at tx spent runes taken None name small bounded other asks is =
    let some : Some (reserved_name at.height at.tx) ≡ Some name = is in
    let same : reserved_name at.height at.tx ≡ name = cc some in
    subst (λ (n : ℕ). NoName n runes) same (not_reserved at runes small bounded other)
name_fresh at tx spent runes taken (Some n) name small bounded other asks is = by_test (may_stand at tx spent taken n) refl is where
  by_test : (b : Bool) → may_stand at tx spent taken n ≡ b → (if b then Some n else None) ≡ Some name → NoName name runes
  by_test true stands given =
      let some : Some n ≡ Some name = given in
      let same : n ≡ name = cc some in
      let free = (and_parts (may_be_given at.profile at.height n && not taken) (commits tx spent n at.height) stands).0 in
      let not_in = (and_parts (may_be_given at.profile at.height n) (not taken) free).1 in
      subst (λ (m : ℕ). NoName m runes) same (not_taken n runes (sym (asks n refl) ∙ not_true taken not_in))
  by_test false stands given = let none : None ≡ Some name = given in absurd (cc none)

etched_name : (at : Spot) (tx : Tx) (spent : List OutRow) (runes : List RuneRow) (artifact : Artifact) (row : RuneRow) → at.tx < 2 ^ 32 → AllByRecursion IsBounded runes
    → AllByRecursion (λ (r : RuneRow). r.id ≢ id_of at) runes → etched at tx spent artifact (option_map_or (is_taken runes) (name_in artifact) false) ≡ Some row
    → NoName row.name runes
etched_name at tx spent runes artifact row small bounded other is =
    let taken = option_map_or (is_taken runes) (name_in artifact) false in
    let what = some_then (row_where at tx spent taken) (etching_of artifact) row is in
    let named = some_mapped (row_of (id_of at) at.txid what.0) (name_of at tx spent taken what.0.name) row what.2 in
    subst (λ (n : ℕ). NoName n runes) (ap (λ (r : RuneRow). r.name) named.2)
    (name_fresh at tx spent runes taken what.0.name named.0 small bounded other
    (λ n given. ap (λ (found : Option ℕ). option_map_or (is_taken runes) found false) (name_given artifact what.0 what.1 n given)) named.1)

pub new_name : (at : Spot) (tx : Tx) (spent : List OutRow) (runes : List RuneRow) (artifact : Option Artifact) (etching : Option RuneRow) → at.tx < 2 ^ 32
    → AllByRecursion IsBounded runes → IsFreeFor at etching runes → etching_by at tx spent runes artifact ≡ etching
    → NoneLike (λ (r : RuneRow). r.name) etching runes
new_name at tx spent runes artifact None small bounded other is = tt
new_name at tx spent runes None (Some row) small bounded other is = let none : None ≡ Some row = is in absurd (cc none)
new_name at tx spent runes (Some artifact) (Some row) small bounded other is = etched_name at tx spent runes artifact row small bounded (recursion_from_All (λ (r : RuneRow). r.id ≢ id_of at) runes other) is
