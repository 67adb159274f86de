-- What the tables of runes hold of their indexes.
use Rattle.std.specs.Prelude.{ℕ, List, Option, Some, None}
use Rattle.std.specs.Ordering.{nat_cmp}
use Rattle.std.specs.Option.{IfSome}
use Rattle.ox_marked.specs.Marked.{Logged, content_in, mark_in}
use Rattle.ox_runestone.specs.declared.stone.RuneId.{RuneId}
use Rattle.ox_allocation.specs.Balances.{id_cmp}
use Rattle.ox_etching.specs.declared.row.RuneRow.{RuneRow}
use Rattle.ox_ledger.specs.Marks.{WithMark}
use Rattle.ox_ledger.specs.Shown.{AreIndexed}

-- the runes at the mark, where all of their maps have one
abbrev pub indexed_by : {A B : Type 0} → Option (List RuneRow) → Option A → Option B
    → Option (List RuneRow)
indexed_by runes (Some ids) (Some names) = runes
indexed_by runes _ _ = None

abbrev pub indexed_then : Option (List RuneRow) → Logged RuneId ℕ → Logged ℕ ℕ
    → Option (List RuneRow)
indexed_then runes ids names = indexed_by runes (mark_in id_cmp ids) (mark_in nat_cmp names)

-- places are found now, and were at the mark
pub record AreAllIndexed (rows : WithMark (List RuneRow)) (ids : Logged RuneId ℕ)
    (names : Logged ℕ ℕ) : Type 0 where
  pub now : AreIndexed rows.now (content_in id_cmp ids) (content_in nat_cmp names)
  pub mark : IfSome rows.mark (λ runes. IfSome (mark_in id_cmp ids) (λ ids_then.
      IfSome (mark_in nat_cmp names) (λ names_then. AreIndexed runes ids_then names_then)))
