-- The commitment to a name that is etched: Runes specification, "Etching".
use Rattle.std.specs.Prelude.{ℕ, ◌+◌, ◌-◌, Bool, false, ◌&&◌, List, zip}
use Rattle.std.specs.Prelude.{bytes_eq, nat_le}
use Rattle.std.specs.List.{list_any}
use Rattle.std.specs.Option.{option_map_or}
use Rattle.ox_block.specs.declared.block.Tx.{Tx}
use Rattle.ox_block.specs.declared.block.TxIn.{TxIn}
use Rattle.ox_name.specs.Unlock.{commitment_of}
use Rattle.ox_script.specs.Script.{Instruction, Push, Op, items_of}
use Rattle.ox_script.specs.Shape.{is_taproot}
use Rattle.ox_script.specs.Witness.{tapscript}
use Rattle.ox_rules.specs.declared.rows.OutRow.{OutRow}

-- an item pushes just these bytes
abbrev pub pushes : List ℕ → Instruction → Bool
pushes bytes (Push pushed) = bytes_eq pushed bytes
pushes bytes (Op op) = false

-- a script does, in an item before it is cut short if it is
abbrev pub has_push : List ℕ → List ℕ → Bool
has_push bytes script = list_any (pushes bytes) (items_of script)

-- an output has matured at a height: that is the sixth block with its own, or a later one, which is
-- this project's own reading
abbrev pub is_mature : OutRow → ℕ → Bool
is_mature row height = nat_le 6 (height + 1 - row.height)

-- an input's tapscript pushes these bytes, and it spends a taproot output that has matured
abbrev pub commits_by : List ℕ → ℕ → TxIn → OutRow → Bool
commits_by bytes height input row =
    is_taproot row.script && is_mature row height
    && option_map_or (has_push bytes) (tapscript input.witness) false

-- one of some inputs, which spend these rows, commits with these bytes
abbrev pub some_commits : List ℕ → ℕ → List TxIn → List OutRow → Bool
some_commits bytes height inputs spent =
    list_any (λ pair. commits_by bytes height pair.0 pair.1) (zip inputs spent)

-- A transaction commits to a name by its number, the lowest byte first and without zeros at the
-- end. A coinbase spends no rows.
abbrev pub commits : Tx → List OutRow → ℕ → ℕ → Bool
commits tx spent name height = some_commits (commitment_of name) height tx.inputs spent
