-- What undoing changes leaves of each part of an index.
use Rattle.std.proofs.Common.{◌≡◌, ◌∙◌, ℕ, zero, suc, ◌+◌, ◌-◌, ◌<◌, ◌≤◌, true, cond, List, [], ◌∷◌, length, take, drop, map, refl, sym, ap, subst, arith, Option, Some, None, is_some, slice_get, option_map, length-take-le, take_all, take-take, take-append-drop}
use Rattle.std.specs.FinMap.{FinMap, find, get}
use Rattle.std.specs.Option.{option_map_or, option_or}
use Rattle.ox_block.specs.declared.block.OutPoint.{OutPoint}
use Rattle.ox_rules.specs.Differences.{Difference, other_end, without_rows}
use Rattle.ox_rules.specs.Outputs.{outpoint_cmp}
use Rattle.ox_rules.proofs.DifferenceLemmas.{get-with_rows, get-without_rows, or_else}
use Rattle.ox_rules.proofs.Orders.{outpoints_total, outpoints_exact}
use Rattle.ox_etching.specs.declared.row.RuneRow.{RuneRow}
use Rattle.ox_ledger.specs.Part.{Continues, balances_of, change_at, counts_at, counts_of, row_at_end, rows_at_end, with_counts}
use Rattle.ox_ledger.specs.declared.part.CountChange.{CountChange}
use Rattle.ox_ledger.specs.declared.part.Counts.{Counts}
use Rattle.ox_ledger.proofs.MoveLemmas.{length-rows}
use Rattle.ox_ledger.proofs.PartLemmas.{goes_on_longer}
use Rattle.ox_plain.proofs.CountEnds.{goes_on_after}
use Rattle.ox_model.specs.Change.{outputs_changed, undone}
use Rattle.ox_model.specs.Index.{Index}
use Rattle.ox_model.specs.declared.change.Change.{Change}
use Rattle.ox_asof.specs.Past.{counted_by, lengths_before, lengths_by, lengths_of}
use Rattle.ox_asof.specs.Said.{before_all, by, said_in}
use Rattle.ox_asof.specs.Undone.{undone_by}
use Rattle.ox_asof.proofs.Fronts.{IsFront, front_on, front_take, front_whole, get_front}

-- ---- how much there is of each list

runes_fewer : (index : Index) (change : Change) → length (undone index change).runes ≡ length index.runes - length change.runes.appended
runes_fewer index change =
    length-rows (counts_at true) change.runes.counts 0 (take (length index.runes - length change.runes.appended) index.runes)
    ∙ length-take-le (length index.runes - length change.runes.appended) index.runes (omega arith)

lengths_fewer : (index : Index) (change : Change) → lengths_of (undone index change) ≡ lengths_before change (lengths_of index)
lengths_fewer index change = λ i. record {
  blocks = length-take-le (length index.hashes - 1) index.hashes (omega arith) i;
  lost = length-take-le (length index.lost - length change.lost) index.lost (omega arith) i;
  inscriptions = length-take-le (length index.inscriptions - length change.inscriptions) index.inscriptions (omega arith) i;
  runes = runes_fewer index change i;
}

pub lengths_undone : (index : Index) (changes : List Change) → lengths_of (undone_by index changes) ≡ lengths_by changes (lengths_of index)
lengths_undone index [] = refl
lengths_undone index (change ∷ changes) = lengths_undone (undone index change) changes ∙ ap (lengths_by changes) (lengths_fewer index change)

-- ---- lists that grow

module _ {A : Type 0} (of : Index → List A) (cut : (index : Index) (change : Change) → IsFront (of (undone index change)) (of index)) where
  front_undone : (index : Index) (changes : List Change) → IsFront (of (undone_by index changes)) (of index)
  front_undone index [] = front_whole (of index)
  front_undone index (change ∷ changes) = front_on _ (of (undone index change)) (of index) (front_undone (undone index change) changes) (cut index change)

pub hashes_front : (index : Index) (changes : List Change) → IsFront (undone_by index changes).hashes index.hashes
hashes_front = front_undone (λ index. index.hashes) (λ index change. front_take (length index.hashes - 1) index.hashes)

pub inscriptions_front : (index : Index) (changes : List Change) → IsFront (undone_by index changes).inscriptions index.inscriptions
inscriptions_front = front_undone (λ index. index.inscriptions) (λ index change. front_take (length index.inscriptions - length change.inscriptions) index.inscriptions)

-- one hash less for each change
pub hashes_undone : (index : Index) (changes : List Change) → (undone_by index changes).hashes ≡ take (length index.hashes - length changes) index.hashes
hashes_undone index [] = sym (take_all (length index.hashes - 0) index.hashes (omega arith))
hashes_undone index (change ∷ changes) =
    let before : List (List ℕ) = take (length index.hashes - 1) index.hashes in
    let fewer : length before ≡ length index.hashes - 1 = length-take-le (length index.hashes - 1) index.hashes (omega arith) in
    let same : length before - length changes ≡ length index.hashes - suc (length changes) = omega (arith, fewer) in
    hashes_undone (undone index change) changes
    ∙ ap (λ (n : ℕ). take n before) same
    ∙ take-take (length index.hashes - suc (length changes)) (length index.hashes - 1) index.hashes (omega arith)

-- ---- tables by outpoint

said_is : {X : Type 0} (gone came now : Option X) → or_else gone (cond (is_some came) None now) ≡ by (option_map_or (λ row. Some (Some row)) gone (cond (is_some came) (Some None) None)) now
said_is (Some row) came now = refl
said_is None (Some row) now = refl
said_is None None now = refl

pub one_back : {X : Type 0} (table : FinMap outpoint_cmp X) (difference : Difference OutPoint X) (at : OutPoint)
    → get (other_end table difference) at ≡ by (said_in difference at) (get table at)
one_back table difference at =
    get-with_rows outpoints_total outpoints_exact (without_rows table difference.came) difference.gone at
    ∙ ap (or_else (find outpoint_cmp at difference.gone)) (get-without_rows outpoints_total outpoints_exact table difference.came at)
    ∙ said_is (find outpoint_cmp at difference.gone) (find outpoint_cmp at difference.came) (get table at)

pub outputs_undone : (index : Index) (changes : List Change) (at : OutPoint)
    → get (undone_by index changes).outs at ≡ before_all (map outputs_changed changes) at (get index.outs at)
outputs_undone index [] at = refl
outputs_undone index (change ∷ changes) at =
    outputs_undone (undone index change) changes at
    ∙ ap (before_all (map outputs_changed changes) at) (one_back index.outs (outputs_changed change) at)

pub balances_undone : (index : Index) (changes : List Change) (at : OutPoint)
    → get (undone_by index changes).bal at ≡ before_all (map (λ (change : Change). balances_of change.runes) changes) at (get index.bal at)
balances_undone index [] at = refl
balances_undone index (change ∷ changes) at =
    balances_undone (undone index change) changes at
    ∙ ap (before_all (map (λ (change : Change). balances_of change.runes) changes) at) (one_back index.bal (balances_of change.runes) at)

-- ---- runes

continue_on : (a b c : List RuneRow) → Continues a b → Continues b c → Continues a c
continue_on [] b c one two = tt
continue_on (x ∷ a) [] c one two = absurd one
continue_on (x ∷ a) (y ∷ b) [] one two = absurd two
continue_on (x ∷ a) (y ∷ b) (z ∷ c) one two =
    (two.0 ∙ ap (λ (row : RuneRow). with_counts row (counts_of z)) one.0, continue_on a b c one.1 two.1)

continues_itself : (rows : List RuneRow) → Continues rows rows
continues_itself [] = tt
continues_itself (row ∷ rows) = (refl, continues_itself rows)

continues_before : (index : Index) (change : Change) → Continues (undone index change).runes index.runes
continues_before index change =
    let left : ℕ = length index.runes - length change.runes.appended in
    subst (Continues (undone index change).runes) (take-append-drop left index.runes)
    (goes_on_after 0 change.runes.counts (take left index.runes) (drop left index.runes))

pub continues_undone : (index : Index) (changes : List Change) → Continues (undone_by index changes).runes index.runes
continues_undone index [] = continues_itself index.runes
continues_undone index (change ∷ changes) =
    continue_on _ (undone index change).runes index.runes (continues_undone (undone index change) changes) (continues_before index change)

pub runes_within : (index : Index) (changes : List Change) → length (undone_by index changes).runes ≤ length index.runes
runes_within index changes = goes_on_longer _ index.runes (continues_undone index changes)

row_at : (side : CountChange → Counts) (changes : List CountChange) (place n : ℕ) (rows : List RuneRow)
    → slice_get (rows_at_end side changes place rows) n ≡ option_map (row_at_end side (change_at changes (place + n))) (slice_get rows n)
unfolding rows_at_end
row_at side changes place n [] = refl
row_at side changes place zero (row ∷ rows) =
    let here : place ≡ place + 0 = omega arith in ap (λ (k : ℕ). Some (row_at_end side (change_at changes k) row)) here
row_at side changes place (suc n) (row ∷ rows) =
    let there : place + 1 + n ≡ place + suc n = omega arith in
    row_at side changes (place + 1) n rows ∙ ap (λ (k : ℕ). option_map (row_at_end side (change_at changes k)) (slice_get rows n)) there

-- a rune with other counts, where some are told
abbrev pub recounted_row : RuneRow → Option Counts → RuneRow
recounted_row row counts = option_map_or (with_counts row) counts row

twice_recounted : (row : RuneRow) (change : Option CountChange) (counts : Option Counts)
    → recounted_row (row_at_end (counts_at true) change row) counts ≡ recounted_row row (option_or counts (option_map (λ (c : CountChange). c.before) change))
twice_recounted row None None = refl
twice_recounted row (Some change) None = refl
twice_recounted row None (Some counts) = refl
twice_recounted row (Some change) (Some counts) = refl

-- the rune at a place, with the counts before the oldest change that names it
pub rune_undone : (index : Index) (changes : List Change) (n : ℕ) (row : RuneRow) → n < length (undone_by index changes).runes → slice_get index.runes n ≡ Some row
    → slice_get (undone_by index changes).runes n ≡ Some (recounted_row row (counted_by changes n))
rune_undone index [] n row less there = there
rune_undone index (change ∷ changes) n row less there =
    let left : ℕ = length index.runes - length change.runes.appended in
    let fewer : n < left = omega (arith, less, runes_within (undone index change) changes, runes_fewer index change) in
    let from_zero : 0 + n ≡ n = omega arith in
    let before : RuneRow = row_at_end (counts_at true) (change_at change.runes.counts n) row in
    let here : slice_get (undone index change).runes n ≡ Some before =
    row_at (counts_at true) change.runes.counts 0 n (take left index.runes)
    ∙ ap (λ (k : ℕ). option_map (row_at_end (counts_at true) (change_at change.runes.counts k)) (slice_get (take left index.runes) n)) from_zero
    ∙ ap (option_map (row_at_end (counts_at true) (change_at change.runes.counts n))) (get_front index.runes n left fewer ∙ there) in
    rune_undone (undone index change) changes n before less here
    ∙ ap (λ (r : RuneRow). Some r) (twice_recounted row (change_at change.runes.counts n) (counted_by changes n))
