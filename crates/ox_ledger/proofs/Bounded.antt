-- Once a transaction is done, the numbers of runes are within their bounds.
use Rattle.std.proofs.Common.{◌≡◌, ◌∙◌, ℕ, ◌+◌, ◌*◌, ◌^◌, ◌<◌, ◌≤◌, Bool, true, false, List, [], ◌∷◌, length, refl, sym, ap, subst, arith, inl, inr, ◌||◌, ◌&&◌, Option, Some, None, lit<, lit≤}
use Rattle.std.specs.Prelude.{IfSome, not, nat_le, nat_lt, option_and_then, unwrap_or, if◌then◌else◌}
use Rattle.std.specs.List.{AllByRecursion, AllZip}
use Rattle.std.specs.Option.{option_map, option_map_or}
use Rattle.std.proofs.lemmas.Bool.{and_parts, cases_Bool, le-leb, leb-true, ltb-true}
use Rattle.ox_block.specs.declared.block.Tx.{Tx}
use Rattle.ox_block.specs.declared.block.TxOut.{TxOut}
use Rattle.ox_name.specs.Unlock.{first_reserved, least_name, reserved_name}
use Rattle.ox_runestone.specs.Artifact.{are_flawed, artifact_of, artifact_from, of_integers}
use Rattle.ox_runestone.specs.Causes.{HasSmallSupply}
use Rattle.ox_runestone.specs.Fields.{Firsts, etching_of as etching_in, first_of, is_etching, mintable, only, taken_of}
use Rattle.ox_runestone.specs.Message.{Field, edicts_of, message_of}
use Rattle.ox_runestone.specs.Payload.{integers_of, payload_of}
use Rattle.ox_runestone.specs.Tags.{divisibility_tag, spacers_tag}
use Rattle.ox_runestone.specs.declared.stone.Artifact.{Artifact}
use Rattle.ox_runestone.specs.declared.stone.Artifact.TheVariants.{Stone, Cenotaph}
use Rattle.ox_runestone.specs.declared.stone.Edict.{Edict}
use Rattle.ox_runestone.specs.declared.stone.Etching.{Etching}
use Rattle.ox_runestone.specs.declared.stone.Terms.{Terms}
use Rattle.ox_runestone.proofs.CenotaphsHaveCauses.{supply_small}
use Rattle.ox_rules.specs.Transfer.{as_list}
use Rattle.ox_rules.specs.declared.rows.OutRow.{OutRow}
use Rattle.ox_allocation.specs.Balances.{Balance}
use Rattle.ox_etching.specs.Commitment.{commits}
use Rattle.ox_etching.specs.declared.spot.Spot.{Spot}
use Rattle.ox_etching.specs.Etched.{etched, etching_of, id_of, may_be_given, may_stand, name_alone, name_of, row_of, row_where}
use Rattle.ox_etching.specs.declared.row.RuneRow.{RuneRow}
use Rattle.ox_ledger.specs.Balanced.{IsBounded, amount_per_mint, cap_in}
use Rattle.ox_ledger.specs.Runes.{Runes, artifact_at, etching_by, is_taken, name_of as name_in, stone_in}
use Rattle.ox_ledger.specs.Turn.{Adds, Begins, Grows}
use Rattle.ox_ledger.proofs.Fresh.{some_mapped, some_then}
use Rattle.ox_ledger.proofs.Settled.{Pays, all_append}

-- ---- runes that were there

bounded_one : (mint : Option Balance) (before after : Runes) (old new : RuneRow) → Pays mint old → IsBounded old → Grows mint before after old new → IsBounded new
bounded_one mint before after old new pays bounded grows =
    let cap : cap_in new.terms ≡ cap_in old.terms = ap (λ (r : RuneRow). cap_in r.terms) grows.stays in
    let room = pays.room bounded.mints in
    let mints = grows.mints in
    record {
      place = subst (λ (r : RuneRow). r.id.tx < 2 ^ 32) (sym grows.stays) bounded.place;
      divisibility = subst (λ (r : RuneRow). r.divisibility ≤ 38) (sym grows.stays) bounded.divisibility;
      spacers = subst (λ (r : RuneRow). r.spacers < 2 ^ 27) (sym grows.stays) bounded.spacers;
      reserved = subst (λ (r : RuneRow). first_reserved ≤ r.name → r.name ≡ reserved_name r.id.block r.id.tx) (sym grows.stays) bounded.reserved;
      supply = subst (λ (r : RuneRow). r.premine + cap_in r.terms * amount_per_mint r.terms < 2 ^ 128) (sym grows.stays) bounded.supply;
      mints = omega (arith, cap, room, mints);
    }

bounded_all : (mint : Option Balance) (before after : Runes) (xs zs : List RuneRow) → AllByRecursion (Pays mint) xs → AllByRecursion IsBounded xs
    → AllZip (Grows mint before after) xs zs → AllByRecursion IsBounded zs
bounded_all mint before after [] [] pays bounded grows = tt
bounded_all mint before after [] (z ∷ zs) pays bounded grows = absurd grows
bounded_all mint before after (x ∷ xs) [] pays bounded grows = absurd grows
bounded_all mint before after (x ∷ xs) (z ∷ zs) pays bounded grows =
    (bounded_one mint before after x z pays.0 bounded.0 grows.0, bounded_all mint before after xs zs pays.1 bounded.1 grows.1)

bounded_new : (after : Runes) (row new : RuneRow) → IsBounded row → Begins after row new → IsBounded new
bounded_new after row new bounded begins =
    let mints = begins.mints in
    record {
      place = subst (λ (r : RuneRow). r.id.tx < 2 ^ 32) (sym begins.stays) bounded.place;
      divisibility = subst (λ (r : RuneRow). r.divisibility ≤ 38) (sym begins.stays) bounded.divisibility;
      spacers = subst (λ (r : RuneRow). r.spacers < 2 ^ 27) (sym begins.stays) bounded.spacers;
      reserved = subst (λ (r : RuneRow). first_reserved ≤ r.name → r.name ≡ reserved_name r.id.block r.id.tx) (sym begins.stays) bounded.reserved;
      supply = subst (λ (r : RuneRow). r.premine + cap_in r.terms * amount_per_mint r.terms < 2 ^ 128) (sym begins.stays) bounded.supply;
      mints = omega (arith, mints);
    }

bounded_last : (after : Runes) (rows zs : List RuneRow) → AllByRecursion IsBounded rows → AllZip (Begins after) rows zs → AllByRecursion IsBounded zs
bounded_last after [] [] bounded begins = tt
bounded_last after [] (z ∷ zs) bounded begins = absurd begins
bounded_last after (x ∷ xs) [] bounded begins = absurd begins
bounded_last after (x ∷ xs) (z ∷ zs) bounded begins = (bounded_new after x z bounded.0 begins.0, bounded_last after xs zs bounded.1 begins.1)

pub stays_bounded : (mint : Option Balance) (etching : Option RuneRow) (before after : Runes) → Adds mint etching before after
    → AllByRecursion (Pays mint) before.runes → AllByRecursion IsBounded before.runes → AllByRecursion IsBounded (as_list etching) → AllByRecursion IsBounded after.runes
stays_bounded mint etching before after adds pays bounded new =
    subst (λ (runes : List RuneRow). AllByRecursion IsBounded runes) (sym adds.runes)
    (all_append IsBounded adds.earlier adds.last (bounded_all mint before after before.runes adds.earlier pays bounded adds.grows)
    (bounded_last after (as_list etching) adds.last new adds.begins))

-- ---- the rune that is etched

-- what an etching says is within the bounds of a rune
record Fits (etching : Etching) : Type 0 where
  spacers : unwrap_or etching.spacers 0 < 2 ^ 27
  divisibility : unwrap_or etching.divisibility 0 ≤ 38
  supply : unwrap_or etching.premine 0 + cap_in etching.terms * amount_per_mint etching.terms < 2 ^ 128

name_fits : (name : ℕ) → Fits (name_alone name)
name_fits name = record { spacers = lit< tt; divisibility = lit≤ tt; supply = lit< tt }

only_below : (flag : Bool) (value bound : ℕ) → 0 < bound → (b : Bool) → (flag && nat_lt value bound) ≡ b → unwrap_or (only b value) 0 < bound
only_below flag value bound some true is = ltb-true value bound (and_parts flag (nat_lt value bound) is).1
only_below flag value bound some false is = some

only_within : (flag : Bool) (value bound : ℕ) (b : Bool) → (flag && nat_le value bound) ≡ b → unwrap_or (only b value) 0 ≤ bound
only_within flag value bound true is = leb-true value bound (and_parts flag (nat_le value bound) is).1
only_within flag value bound false is = omega arith

spacers_fit : (first : Firsts) (value : Option ℕ) → unwrap_or (taken_of first 0 spacers_tag value) 0 < 2 ^ 27
spacers_fit first None = lit< tt
spacers_fit first (Some value) = only_below (is_etching first) value (2 ^ 27) (lit< tt) (is_etching first && nat_lt value (2 ^ 27)) refl

divisibility_fits : (first : Firsts) (value : Option ℕ) → unwrap_or (taken_of first 0 divisibility_tag value) 0 ≤ 38
divisibility_fits first None = lit≤ tt
divisibility_fits first (Some value) = only_within (is_etching first) value 38 (is_etching first && nat_le value 38) refl

record MarksFit (etching : Etching) : Type 0 where
  spacers : unwrap_or etching.spacers 0 < 2 ^ 27
  divisibility : unwrap_or etching.divisibility 0 ≤ 38

marks_fit : (first : Firsts) → IfSome (etching_in first) MarksFit
marks_fit first =
    elim (cases_Bool (is_etching first)) [
      | inl etches ↦ rw etches (record { spacers = spacers_fit first (first spacers_tag); divisibility = divisibility_fits first (first divisibility_tag) })
      | inr other ↦ rw other tt
    ]

abbrev StoneMarks : Artifact → Type 0
StoneMarks (Stone stone) = IfSome stone.etching MarksFit
StoneMarks (Cenotaph mint name) = Unit {0}

artifact_from_marks : (outputs : ℕ) (fields : List Field) (lone : Bool) (edicts : Option (List Edict)) → StoneMarks (artifact_from outputs fields lone edicts)
artifact_from_marks outputs fields lone None = tt
artifact_from_marks outputs fields lone (Some edicts) =
    elim (cases_Bool (lone || are_flawed outputs fields)) [
      | inl flawed ↦ rw flawed tt
      | inr sound ↦ rw sound (marks_fit (first_of fields))
    ]

integers_marks : (outputs : ℕ) (integers : Option (List ℕ)) → StoneMarks (of_integers outputs integers)
integers_marks outputs None = tt
integers_marks outputs (Some integers) = artifact_from_marks outputs (message_of integers).fields (message_of integers).lone (edicts_of outputs (message_of integers).body)

stone_marks : (script : List ℕ) (outputs : ℕ) → StoneMarks (artifact_of script outputs)
unfolding artifact_of
stone_marks script outputs = integers_marks outputs (option_and_then integers_of (payload_of script))

mints_of_terms : (terms : Option Terms) → mintable terms ≡ cap_in terms * amount_per_mint terms
mints_of_terms None = refl
mints_of_terms (Some terms) = refl

both_fit : (etching : Option Etching) → IfSome etching MarksFit → IfSome etching (λ e. unwrap_or e.premine 0 + mintable e.terms < 2 ^ 128) → IfSome etching Fits
both_fit None marks small = tt
both_fit (Some etching) marks small = record {
  spacers = marks.spacers;
  divisibility = marks.divisibility;
  supply = subst (λ n. unwrap_or etching.premine 0 + n < 2 ^ 128) (mints_of_terms etching.terms) small;
}

name_alone_fits : (name : Option ℕ) → IfSome (option_map name_alone name) Fits
name_alone_fits None = tt
name_alone_fits (Some name) = name_fits name

etching_fits : (artifact : Artifact) → StoneMarks artifact → HasSmallSupply artifact → IfSome (etching_of artifact) Fits
etching_fits (Stone stone) marks small = both_fit stone.etching marks small
etching_fits (Cenotaph mint name) marks small = name_alone_fits name

-- a name that is reserved is that of the place
reserved_law : (at : Spot) (tx : Tx) (spent : List OutRow) (taken : Bool) (given : Option ℕ) (name : ℕ) → name_of at tx spent taken given ≡ Some name
    → first_reserved ≤ name → name ≡ reserved_name at.height at.tx
reserved_law at tx spent taken None name is reserved = let some : Some (reserved_name at.height at.tx) ≡ Some name = is in let same : reserved_name at.height at.tx ≡ name = cc some in sym same
reserved_law at tx spent taken (Some n) name is reserved = by_test (may_stand at tx spent taken n) refl is where
  by_test : (b : Bool) → may_stand at tx spent taken n ≡ b → (if b then Some n else None) ≡ Some name → name ≡ reserved_name at.height at.tx
  by_test true stands given =
      let some : Some n ≡ Some name = given in
      let same : n ≡ name = cc some in
      let free = (and_parts (may_be_given at.profile at.height n && not taken) (commits tx spent n at.height) stands).0 in
      let may = (and_parts (may_be_given at.profile at.height n) (not taken) free).0 in
      let below = (and_parts (nat_le (least_name at.profile.rune_start at.profile.interval at.height) n) (not (nat_le first_reserved n)) may).1 in
      let above : nat_le first_reserved n ≡ true = ap (nat_le first_reserved) same ∙ le-leb first_reserved name reserved in
      let no : false ≡ true = ap not (sym above) ∙ below in
      absurd (cc no)
  by_test false stands given = let none : None ≡ Some name = given in absurd (cc none)

some_of : (P : Etching → Type 0) (there : Option Etching) (etching : Etching) → IfSome there P → there ≡ Some etching → P etching
some_of P None etching all is = let none : None ≡ Some etching = is in absurd (cc none)
some_of P (Some other) etching all is = let some : Some other ≡ Some etching = is in let same : other ≡ etching = cc some in subst P same all

etched_bounded : (at : Spot) (tx : Tx) (spent : List OutRow) (artifact : Artifact) (taken : Bool) (row : RuneRow) → at.tx < 2 ^ 32
    → IfSome (etching_of artifact) Fits → etched at tx spent artifact taken ≡ Some row → IsBounded row
etched_bounded at tx spent artifact taken row small fit is =
    let what = some_then (row_where at tx spent taken) (etching_of artifact) row is in
    let named = some_mapped (row_of (id_of at) at.txid what.0) (name_of at tx spent taken what.0.name) row what.2 in
    let fits : Fits what.0 = some_of Fits (etching_of artifact) what.0 fit what.1 in
    subst IsBounded named.2 (record {
      place = small;
      divisibility = fits.divisibility;
      spacers = fits.spacers;
      reserved = λ reserved. reserved_law at tx spent taken what.0.name named.0 named.1 reserved;
      supply = fits.supply;
      mints = omega arith;
    })

abbrev AllFit : Option Artifact → Type 0
AllFit None = Unit {0}
AllFit (Some artifact) = IfSome (etching_of artifact) Fits

script_fits : (outputs : List TxOut) (script : Option (List ℕ)) → AllFit (option_map (λ s. artifact_of s (length outputs)) script)
script_fits outputs None = tt
script_fits outputs (Some script) =
    etching_fits (artifact_of script (length outputs)) (stone_marks script (length outputs)) (supply_small script (length outputs))

artifact_fits : (at : Spot) (tx : Tx) → AllFit (artifact_at at tx)
artifact_fits at tx = by_test (nat_lt at.height at.profile.rune_start) where
  by_test : (b : Bool) → AllFit (if b then None else option_map (λ s. artifact_of s (length tx.outputs)) (stone_in tx.outputs))
  by_test true = tt
  by_test false = script_fits tx.outputs (stone_in tx.outputs)

etching_bounded : (at : Spot) (tx : Tx) (spent : List OutRow) (runes : List RuneRow) (artifact : Option Artifact) → at.tx < 2 ^ 32 → AllFit artifact
    → (etching : Option RuneRow) → etching_by at tx spent runes artifact ≡ etching → AllByRecursion IsBounded (as_list etching)
etching_bounded at tx spent runes artifact small fit None is = tt
etching_bounded at tx spent runes None small fit (Some row) is = let none : None ≡ Some row = is in absurd (cc none)
etching_bounded at tx spent runes (Some artifact) small fit (Some row) is =
    (etched_bounded at tx spent artifact (option_map_or (is_taken runes) (name_in artifact) false) row small fit is, tt)

pub new_bounded : (at : Spot) (tx : Tx) (spent : List OutRow) (runes : List RuneRow) → at.tx < 2 ^ 32
    → AllByRecursion IsBounded (as_list (etching_by at tx spent runes (artifact_at at tx)))
new_bounded at tx spent runes small = etching_bounded at tx spent runes (artifact_at at tx) small (artifact_fits at tx) (etching_by at tx spent runes (artifact_at at tx)) refl
