use Rattle.std.proofs.Common.{◌≡◌, ◌-◌, None}
use Rattle.ox_bytes.proofs.TimesLoop.{with_front}
use Rattle.ox_allocation.specs.Balances.{id_cmp}
use Rattle.ox_rows.specs.Reading.{rising_at}
use Rattle.ox_rows.specs.RowReading.{amount_at, rune_id_at}
use Rattle.ox_rows.proofs.InOrder.{UpTo}
use Rattle.ox_rows.proofs.balances.pool_of.Given as goal

-- those so far and those to come are all, and the last id so far is the greatest
abbrev pub invariant-loop : goal.invariant-loop
invariant-loop l = record {
  all : with_front l.pool (rising_at id_cmp rune_id_at amount_at l.last (l.count - l.counter) l.rest) ≡ rising_at id_cmp rune_id_at amount_at None l.count l.bytes;
  up_to : UpTo id_cmp l.last l.pool;
}
