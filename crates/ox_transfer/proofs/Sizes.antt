-- A block has more bytes than transactions, and each of them no more inputs and outputs than bytes.
use Rattle.std.proofs.Common.{◌≡◌, ◌≤◌, ℕ, ◌+◌, Bool, true, false, cond, List, [], ◌∷◌, ◌++◌, length, arith, length-append}
use Rattle.std.specs.Int.{w32, w64, to_le_bytes}
use Rattle.std.specs.List.{flat_map, AllByRecursion}
use Rattle.ox_bytes.specs.Spelling.{compact, string}
use Rattle.ox_block.specs.declared.block.TxIn.{TxIn}
use Rattle.ox_block.specs.declared.block.TxOut.{TxOut}
use Rattle.ox_block.specs.declared.block.Tx.{Tx}
use Rattle.ox_block.specs.declared.block.Block.{Block}
use Rattle.ox_block.specs.Spelling as spelling
use Rattle.ox_block.specs.Spelling.{LawfulTx, Lawful, spell, most_bytes}
use Rattle.ox_transfer.specs.Counts.{Counted}

-- a list is no longer than its pieces together, where none is empty
pieces : {A : Type 0} (f : A → List ℕ) (xs : List A) → ((x : A) → 1 ≤ length (f x)) → length xs ≤ length (flat_map f xs)
pieces f [] some = omega arith
pieces f (x ∷ xs) some = omega (arith, some x, pieces f xs some, length-append (f x) (flat_map f xs))

four : (n : ℕ) (rest : List ℕ) → 1 ≤ length (to_le_bytes w32 n ++ rest)
four n rest = omega (arith, length-append (to_le_bytes w32 n) rest)

some_input : (i : TxIn) → 1 ≤ length (spelling.input i)
some_input i = omega (arith, length-append (spelling.outpoint i.from ++ string i.script) (to_le_bytes w32 i.sequence))

some_output : (o : TxOut) → 1 ≤ length (spelling.output o)
some_output o = omega (arith, length-append (to_le_bytes w64 o.value) (string o.script))

either : (b : Bool) (n : ℕ) (xs ys : List ℕ) → n ≤ length xs → n ≤ length ys → n ≤ length (cond b xs ys)
either true n xs ys h k = h
either false n xs ys h k = k

behind : (n : ℕ) (count pieces : List ℕ) → n ≤ length pieces → n ≤ length (count ++ pieces)
behind n count pieces h = omega (arith, length-append count pieces)

six : (v m i o s l : List ℕ) → length (v ++ m ++ i ++ o ++ s ++ l) ≡ length v + length m + length i + length o + length s + length l
six v m i o s l = omega (arith, length-append (v ++ m ++ i ++ o ++ s) l, length-append (v ++ m ++ i ++ o) s, length-append (v ++ m ++ i) o, length-append (v ++ m) i, length-append v m)

parts : (v i o l : List ℕ) → length (v ++ i ++ o ++ l) ≡ length v + length i + length o + length l
parts v i o l = omega (arith, length-append (v ++ i ++ o) l, length-append (v ++ i) o, length-append v i)

extended_long : (t : Tx) → length (spelling.inputs t.inputs) + length (spelling.outputs t.outputs) ≤ length (spelling.extended_form t)
extended_long t = omega (arith, six (to_le_bytes w32 t.version) (0 ∷ 1 ∷ []) (spelling.inputs t.inputs) (spelling.outputs t.outputs) (spelling.stacks t.inputs) (to_le_bytes w32 t.lock))

stripped_long : (t : Tx) → length (spelling.inputs t.inputs) + length (spelling.outputs t.outputs) ≤ length (spelling.stripped_form t)
stripped_long t = omega (arith, parts (to_le_bytes w32 t.version) (spelling.inputs t.inputs) (spelling.outputs t.outputs) (to_le_bytes w32 t.lock))

inputs_long : (t : Tx) → length t.inputs ≤ length (spelling.inputs t.inputs)
inputs_long t = behind _ (compact (length t.inputs)) (flat_map spelling.input t.inputs) (pieces spelling.input t.inputs some_input)

outputs_long : (t : Tx) → length t.outputs ≤ length (spelling.outputs t.outputs)
outputs_long t = behind _ (compact (length t.outputs)) (flat_map spelling.output t.outputs) (pieces spelling.output t.outputs some_output)

tx_inputs : (t : Tx) → length t.inputs ≤ length (spelling.tx t)
tx_inputs t = either t.marked (length t.inputs) (spelling.extended_form t) (spelling.stripped_form t) (omega (arith, inputs_long t, extended_long t)) (omega (arith, inputs_long t, stripped_long t))

tx_outputs : (t : Tx) → length t.outputs ≤ length (spelling.tx t)
tx_outputs t = either t.marked (length t.outputs) (spelling.extended_form t) (spelling.stripped_form t) (omega (arith, outputs_long t, extended_long t)) (omega (arith, outputs_long t, stripped_long t))

some_tx : (t : Tx) → 1 ≤ length (spelling.tx t)
some_tx t = either t.marked 1 (spelling.extended_form t) (spelling.stripped_form t)
    (omega (arith, four t.version [], length-append (to_le_bytes w32 t.version) [], six (to_le_bytes w32 t.version) (0 ∷ 1 ∷ []) (spelling.inputs t.inputs) (spelling.outputs t.outputs) (spelling.stacks t.inputs) (to_le_bytes w32 t.lock)))
    (omega (arith, four t.version [], length-append (to_le_bytes w32 t.version) [], parts (to_le_bytes w32 t.version) (spelling.inputs t.inputs) (spelling.outputs t.outputs) (to_le_bytes w32 t.lock)))

counted_all : (txs : List Tx) → AllByRecursion LawfulTx txs → length (flat_map spelling.tx txs) ≤ most_bytes → AllByRecursion Counted txs
counted_all [] lawful short = tt
counted_all (t ∷ txs) lawful short =
    let both = length-append (spelling.tx t) (flat_map spelling.tx txs) in
    (record { inputs = omega (arith, both, tx_inputs t); outputs = omega (arith, both, tx_outputs t); values = lawful.0.values }, counted_all txs lawful.1 (omega (arith, both)))

-- the transactions have no more bytes than the block
txs_short : (b : Block) → Lawful b → length (flat_map spelling.tx b.txs) ≤ most_bytes
unfolding spell
txs_short b lawful =
    omega (arith, lawful.size, length-append (spelling.header b.header) (compact (length b.txs) ++ flat_map spelling.tx b.txs), length-append (compact (length b.txs)) (flat_map spelling.tx b.txs))

pub all_counted : (b : Block) → Lawful b → AllByRecursion Counted b.txs
all_counted b lawful = counted_all b.txs lawful.txs (txs_short b lawful)

pub few_txs : (b : Block) → Lawful b → length b.txs ≤ most_bytes
few_txs b lawful = omega (arith, pieces spelling.tx b.txs some_tx, txs_short b lawful)
