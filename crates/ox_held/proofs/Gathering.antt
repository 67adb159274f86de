-- What is gathered of outputs, one behind the other.
use Rattle.std.proofs.Common.{◌≡◌, ◌∙◌, ℕ, ◌+◌, ◌^◌, ◌<◌, ◌≤◌, List, [], ◌∷◌, ◌++◌, append_assoc, drop, get_or, length, length-append, map, refl, sym, ap, subst, arith, Option, Some, None}
use Rattle.std.specs.List.{cons_option, flat_map, fold}
use Rattle.std.specs.List.Sorted.{IsStrictlySortedBy}
use Rattle.std.specs.Ordering.{nat_cmp}
use Rattle.std.specs.FinMap.{get}
use Rattle.std.proofs.lemmas.Grind.{flat_map-append}
use Rattle.std.proofs.lemmas.List.{append-nil, drop_all, drop_more}
use Rattle.ox_block.specs.declared.block.OutPoint.{OutPoint}
use Rattle.ox_rules.specs.Outputs.{Outputs, sats_of}
use Rattle.ox_rules.specs.declared.rows.OutRow.{OutRow}
use Rattle.ox_runestone.specs.declared.stone.RuneId.{RuneId}
use Rattle.ox_allocation.specs.Balances.{Balance, amount_in}
use Rattle.ox_inscribe.specs.Inscriptions.{on}
use Rattle.ox_inscribe.specs.Numbers.{is_among}
use Rattle.ox_ledger.specs.Balanced.{amount_held}
use Rattle.ox_ledger.specs.Runes.{balances_at, joined_with}
use Rattle.ox_ledger.proofs.Brought.{AllRise}
use Rattle.ox_ledger.proofs.Held.{amount_held-cons}
use Rattle.ox_model.specs.Index.{Index}
use Rattle.ox_held.specs.Gathered.{AddsOutput, Gathers, IsBlank}
use Rattle.ox_held.specs.Held.{held_at, rows_at, sats_at}
use Rattle.ox_held.specs.declared.held.Gathered.{Gathered}
use Rattle.ox_held.specs.declared.held.Held.{Held}
use Rattle.ox_held.proofs.Fits.{amount_joined}
use Rattle.ox_held.proofs.OnSats.{in_order}

-- the satoshis of one output, and of those behind it
sats_cons : (outs : Outputs) (at : OutPoint) (places : List OutPoint) → sats_at outs (at ∷ places) ≡ sats_at outs (at ∷ []) ++ sats_at outs places
sats_cons outs at places = by (get outs at) where
  by : (found : Option OutRow) → sats_of (cons_option found (rows_at outs places)) ≡ sats_of (cons_option found []) ++ sats_of (rows_at outs places)
  by None = refl
  by (Some row) = ap (λ (sats : List ℕ). sats ++ sats_of (rows_at outs places)) (sym (append-nil row.sats))

-- an outpoint where there is none
abbrev pub no_place : OutPoint
no_place = record { txid = record { 0 = [] }; index = 0 }

module _ (index : Index) (all : List OutPoint) where
  abbrev Gathers_left : Gathered → List OutPoint → Type 0
  Gathers_left gathered left = Gathers index all left gathered

  pub begun : (gathered : Gathered) → IsBlank gathered → Gathers index all all gathered
  begun gathered blank = record {
    value = omega (arith, blank.value);
    runes = ap (λ (pool : List Balance). fold joined_with pool (map (balances_at index.bal) all)) blank.runes;
    sequences = ap (λ (ns : List ℕ). ns ++ flat_map (on index.inscriptions) (sats_at index.outs all)) blank.sequences;
  }

  one_output : (old new : Gathered) (at : OutPoint) (left : List OutPoint) → Gathers index all (at ∷ left) old → AddsOutput index at old new → Gathers index all left new
  one_output old new at left gathers adds = record {
    value = let split = ap length (sats_cons index.outs at left) ∙ length-append (sats_at index.outs (at ∷ [])) (sats_at index.outs left) in
        omega (arith, split, gathers.value, adds.value);
    runes = ap (λ (pool : List Balance). fold joined_with pool (map (balances_at index.bal) left)) adds.runes ∙ gathers.runes;
    sequences =
        ap (λ (ns : List ℕ). ns ++ flat_map (on index.inscriptions) (sats_at index.outs left)) adds.sequences
        ∙ append_assoc old.sequences.items (flat_map (on index.inscriptions) (sats_at index.outs (at ∷ []))) (flat_map (on index.inscriptions) (sats_at index.outs left))
        ∙ ap (λ (ns : List ℕ). old.sequences.items ++ ns) (
        sym (flat_map-append (on index.inscriptions) (sats_at index.outs (at ∷ [])) (sats_at index.outs left))
        ∙ ap (flat_map (on index.inscriptions)) (sym (sats_cons index.outs at left))
        )
        ∙ gathers.sequences;
  }

  pub gathers_more : (old new : Gathered) (i : ℕ) (d : OutPoint) → i < length all → Gathers index all (drop i all) old → AddsOutput index (get_or all i d) old new
      → Gathers index all (drop (i + 1) all) new
  gathers_more old new i d within gathers adds =
      one_output old new (get_or all i d) (drop (i + 1) all) (subst (Gathers_left old) (drop_more all i d within) gathers) adds

  pub gathers_all : (gathered : Gathered) (i : ℕ) → length all ≤ i → Gathers index all (drop i all) gathered → Gathers index all [] gathered
  gathers_all gathered i past gathers = subst (Gathers_left gathered) (drop_all i all past) gathers

  -- ---- what comes next fits

  pub next_sats_fit : (old : Gathered) (i : ℕ) (d : OutPoint) → i < length all → Gathers index all (drop i all) old → length (sats_at index.outs all) < 2 ^ 64
      → old.value + length (sats_at index.outs (get_or all i d ∷ [])) < 2 ^ 64
  next_sats_fit old i d within gathers fits =
      let at = get_or all i d in
      let left = drop (i + 1) all in
      let these = subst (Gathers_left old) (drop_more all i d within) gathers in
      let split = ap length (sats_cons index.outs at left) ∙ length-append (sats_at index.outs (at ∷ [])) (sats_at index.outs left) in
      omega (arith, split, these.value, fits)

  pub next_runes_fit : (old : Gathered) (i : ℕ) (d : OutPoint) (id : RuneId) → i < length all → Gathers index all (drop i all) old → AllRise index.bal
      → amount_held (map (balances_at index.bal) all) id < 2 ^ 128
      → amount_in old.runes id + amount_in (balances_at index.bal (get_or all i d)) id < 2 ^ 128
  next_runes_fit old i d id within gathers rise fits =
      let at = get_or all i d in
      let left = drop (i + 1) all in
      let these = subst (Gathers_left old) (drop_more all i d within) gathers in
      let rest = amount_joined index.bal (at ∷ left) old.runes id rise in
      let whole = amount_joined index.bal all [] id rise in
      let same = ap (λ (pool : List Balance). amount_in pool id) these.runes in
      let sums = amount_held-cons (balances_at index.bal at) (map (balances_at index.bal) left) id in
      omega (arith, rest, whole, same, sums, fits)

  -- ---- at the end

  held_of : ℕ → List Balance → List ℕ → Held
  held_of value runes inscriptions = record { value = value; runes = runes; inscriptions = inscriptions }

  same_held : (value : ℕ) (runes : List Balance) (inscriptions : List ℕ) (held : Held) → value ≡ held.value → runes ≡ held.runes → inscriptions ≡ held.inscriptions
      → held_of value runes inscriptions ≡ held
  unfolding held_of
  same_held value runes inscriptions held v r i =
      ap (λ n. held_of n runes inscriptions) v ∙ ap (λ (b : List Balance). held_of held.value b inscriptions) r ∙ ap (held_of held.value held.runes) i

  pub is_held : (gathered : Gathered) (runes : List Balance) (rising : List ℕ) → Gathers index all [] gathered → runes ≡ gathered.runes
      → IsStrictlySortedBy nat_cmp rising → ((n : ℕ) → is_among n rising ≡ is_among n gathered.sequences.items)
      → record { value = gathered.value; runes = runes; inscriptions = rising } ≡ held_at index all
  unfolding held_of
  is_held gathered runes rising gathers are up same =
      same_held gathered.value runes rising (held_at index all) (omega (arith, gathers.value)) (are ∙ gathers.runes)
      (in_order index.inscriptions (sats_at index.outs all) gathered.sequences.items rising
      (sym (append-nil gathered.sequences.items) ∙ gathers.sequences) up same)
