use Rattle.std.proofs.Common.{◌≡◌, ◌-◌, ◌<◌, ◌≤◌, ◌++◌, length, take}
use Rattle.std.specs.Prelude.{reverse, All}
use Rattle.ox_inscribe.specs.Reveal.{revealed_from, rows_of}
use Rattle.ox_inscribe.specs.Scenes.{fees_of, revealing}
use Rattle.ox_inscribe.proofs.reveal.reveal_seen.Given as goal

-- the rows so far, and those of the envelopes that are left
abbrev pub invariant-loop-one : goal.invariant-loop-one
invariant-loop-one l = record {
  rows : l.rows.rows ++ rows_of (revealed_from (revealing l.scene) l.fn.rows.rows l.rows.rows (length l.rows.rows - length l.fn.rows.rows) (reverse l.seen.items))
      ≡ l.fn.rows.rows ++ rows_of (revealed_from (revealing l.scene) l.fn.rows.rows l.fn.rows.rows 0 l.fn.seen.items);
  fees : l.fees.items ++ fees_of (revealed_from (revealing l.scene) l.fn.rows.rows l.rows.rows (length l.rows.rows - length l.fn.rows.rows) (reverse l.seen.items))
      ≡ l.fn.fees.items ++ fees_of (revealed_from (revealing l.scene) l.fn.rows.rows l.fn.rows.rows 0 l.fn.seen.items);
  before : l.before ≡ length l.fn.rows.rows;
  longer : length l.fn.rows.rows ≤ length l.rows.rows;
  front : take (length l.fn.rows.rows) l.rows.rows ≡ l.fn.rows.rows;
  jubilee : l.rows.jubilee ≡ l.fn.rows.jubilee;
  marks : All (λ one. one.says.marks < 128) (reverse l.seen.items);
}

abbrev pub decreases-loop-one : goal.decreases-loop-one
decreases-loop-one l = length l.seen.items
