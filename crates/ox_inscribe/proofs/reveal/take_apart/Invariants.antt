use Rattle.std.proofs.Common.{◌≡◌, ◌-◌, length, take, drop}
use Rattle.std.specs.Prelude.{not, reverse}
use Rattle.ox_inscribe.specs.Scenes.{rows_if}
use Rattle.ox_inscribe.proofs.reveal.take_apart.Given as goal

-- the rows that are left, and the others
abbrev pub invariant-loop-behind : goal.invariant-loop-behind
invariant-loop-behind l = record {
  rows : l.rows.rows ≡ take (length l.fn.rows.rows - l.behind) l.fn.rows.rows;
  jubilee : l.rows.jubilee ≡ l.fn.rows.jubilee;
  kept : l.kept.items ≡ reverse (rows_if not (drop (length l.fees - l.behind) l.fees) (drop (length l.fn.rows.rows - l.behind) l.fn.rows.rows));
  gone : l.gone.items ≡ reverse (rows_if (λ fee. fee) (drop (length l.fees - l.behind) l.fees) (drop (length l.fn.rows.rows - l.behind) l.fn.rows.rows));
}
