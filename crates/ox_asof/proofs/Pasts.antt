-- What a view of an older index shows, by the view that it stands over.
use Rattle.std.proofs.Common.{◌≡◌, ◌∙◌, ℕ, ◌<◌, ◌≤◌, List, [], length, map, refl, sym, ap, arith, Option, Some, None, slice_get, option_map, unwrap_or, get_or}
use Rattle.std.specs.FinMap.{get}
use Rattle.std.proofs.lemmas.Option.{slice_get-get_or, slice_get_past}
use Rattle.ox_block.specs.declared.block.OutPoint.{OutPoint}
use Rattle.ox_rules.specs.declared.rows.OutRow.{OutRow}
use Rattle.ox_allocation.specs.Balances.{Balance}
use Rattle.ox_etching.specs.declared.row.RuneRow.{RuneRow}
use Rattle.ox_ledger.specs.Part.{balances_of, with_counts}
use Rattle.ox_ledger.specs.declared.part.Counts.{Counts}
use Rattle.ox_model.specs.Change.{outputs_changed}
use Rattle.ox_model.specs.Index.{Index}
use Rattle.ox_model.specs.declared.change.Change.{Change}
use Rattle.ox_asof.specs.Past.{AreRecounted, counted_by}
use Rattle.ox_asof.specs.Said.{before_all, by}
use Rattle.ox_asof.specs.Undone.{undone_by}
use Rattle.ox_asof.proofs.Fronts.{IsFront, get_whole}
use Rattle.ox_asof.proofs.Undoing.{balances_undone, outputs_undone, recounted_row, rune_undone, runes_within}

-- ---- lists that grow

pub front_there : {A : Type 0} (front whole : List A) (end n : ℕ) (found : Option A) → IsFront front whole → end ≡ length front → n < end → found ≡ slice_get whole n → found ≡ slice_get front n
front_there front whole end n found is long less there = there ∙ sym (get_whole front whole n is (omega (arith, long, less)))

pub front_past : {A : Type 0} (front : List A) (end n : ℕ) → end ≡ length front → end ≤ n → None ≡ slice_get front n
front_past front end n long past = sym (slice_get_past front n (omega (arith, long, past)))

-- ---- tables

-- a row stands there as told, or the view tells
pub stood_there : (index : Index) (changes : List Change) (at : OutPoint) (told : Option (Option OutRow)) (found : Option OutRow)
    → ((now : Option OutRow) → before_all (map outputs_changed changes) at now ≡ by told now) → found ≡ by told (get index.outs at) → found ≡ get (undone_by index changes).outs at
stood_there index changes at told found says is = is ∙ sym (outputs_undone index changes at ∙ says (get index.outs at))

pub held_there : (index : Index) (changes : List Change) (at : OutPoint) (told : Option (Option (List Balance))) (found : List Balance)
    → ((now : Option (List Balance)) → before_all (map (λ (change : Change). balances_of change.runes) changes) at now ≡ by told now) → found ≡ unwrap_or (by told (get index.bal at)) []
    → found ≡ unwrap_or (get (undone_by index changes).bal at) []
held_there index changes at told found says is =
    is ∙ ap (λ (o : Option (List Balance)). unwrap_or o []) (sym (balances_undone index changes at ∙ says (get index.bal at)))

-- ---- runes

row_kept : (row kept : RuneRow) (counts : Option Counts) → Some kept ≡ option_map (with_counts row) counts → recounted_row row counts ≡ kept
row_kept row kept (Some counts) is = let same : kept ≡ with_counts row counts = cc is in sym same
row_kept row kept None is = absurd (cc is)

row_same : (row : RuneRow) (counts : Option Counts) → None ≡ option_map (with_counts row) counts → recounted_row row counts ≡ row
row_same row (Some counts) is = absurd (cc is)
row_same row None is = refl

module _ (index : Index) (changes : List Change) (end n : ℕ) (rows : ℕ → Option RuneRow) (long : end ≡ length (undone_by index changes).runes) (are : AreRecounted index.runes end (counted_by changes) rows) (less : n < length (undone_by index changes).runes) where
  pub rune_kept : (kept : RuneRow) → Some kept ≡ rows n → slice_get (undone_by index changes).runes n ≡ Some kept
  rune_kept kept is =
      let there : slice_get index.runes n ≡ Some (get_or index.runes n kept) = slice_get-get_or index.runes n kept (omega (arith, less, runes_within index changes)) in
      rune_undone index changes n _ less there
      ∙ ap (λ (r : RuneRow). Some r) (row_kept _ kept (counted_by changes n) (is ∙ are n _ (omega (arith, less, long)) there))

  pub rune_same : (row : RuneRow) → None ≡ rows n → slice_get index.runes n ≡ Some row → slice_get (undone_by index changes).runes n ≡ Some row
  rune_same row is there =
      rune_undone index changes n row less there
      ∙ ap (λ (r : RuneRow). Some r) (row_same row (counted_by changes n) (is ∙ are n row (omega (arith, less, long)) there))
