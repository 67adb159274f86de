-- Parts of a transfer, as the code has them halfway.
use Rattle.std.specs.Prelude.{ℕ, List, ◌++◌, map, Result, Ok}
use Rattle.ox_bytes.specs.Reading.{◌>>=◌}
use Rattle.ox_block.specs.declared.block.TxOut.{TxOut}
use Rattle.ox_rules.specs.declared.rows.OutRow.{OutRow}
use Rattle.ox_rules.specs.declared.moved.Moved.{Moved}
use Rattle.ox_rules.specs.declared.refusal.Refusal.{Refusal}
use Rattle.ox_rules.specs.Outputs.{Outputs}
use Rattle.ox_rules.specs.Transfer.{Taken, Placed, Spent, Transferred}
use Rattle.ox_transfer.specs.declared.so_far.MovedSoFar.{MovedSoFar}

-- the satoshis of all outputs, one by one
abbrev pub values : List TxOut → List ℕ
values outputs = map (λ output. output.value) outputs

-- rows taken, and the table without them
abbrev pub taken_of : List OutRow → Outputs → Taken
taken_of rows outs = record { rows = rows; outs = outs }

-- rows displaced, and the table with the new ones
abbrev pub placed_of : List OutRow → Outputs → Placed
placed_of displaced outs = record { displaced = displaced; outs = outs }

-- what transactions did so far, with the table
abbrev pub spent_of : MovedSoFar → Outputs → Spent
spent_of so_far outs =
    record { moved = so_far.moved.items; lost = so_far.lost; fees = so_far.fees; outs = outs }

-- what one did behind what those before did
abbrev pub behind : Spent → Spent → Spent
behind before next =
    record {
      moved = before.moved ++ next.moved;
      lost = before.lost ++ next.lost;
      fees = before.fees ++ next.fees;
      outs = next.outs;
    }

-- the same, of an answer
abbrev pub all_behind : Spent → Result Spent Refusal → Result Spent Refusal
all_behind before answer = answer >>= λ next. Ok (behind before next)

-- what a block did, with the table
abbrev pub transferred_of : Moved → Outputs → Transferred
transferred_of moved outs = record { moved = moved; outs = outs }
