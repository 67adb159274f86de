-- A made block is lawful: its fields have their widths, and it is far from too long.
use Rattle.std.proofs.Common.{◌≡◌, ◌∙◌, ◌<◌, ◌≤◌, ℕ, zero, suc, ◌+◌, ◌-◌, ◌/◌, ◌%◌, ◌^◌, ◌==◌, Bool, true, false, List, [], ◌∷◌, ◌++◌, length, cond, map, ltb, Ok, refl, ap, arith, length-append}
use Rattle.std.specs.Prelude.{codes, decimal}
use Rattle.std.specs.Int.{w32, w64, to_le_bytes}
use Rattle.std.specs.List.{flat_map}
use Rattle.std.proofs.Math.Nat.{div-le_self}
use Rattle.std.proofs.lemmas.Fmt.{length-decimal-le}
use Rattle.sha2.proofs.Facts256.{length-sha256}
use Rattle.ox_bytes.specs.Spelling.{compact, string}
use Rattle.ox_block.specs.Commitment.{commitment_front, commitment_to, with_commitment}
use Rattle.ox_block.specs.Hashes.{block_root, block_witness_root, double_hash, next_row, root_of, rows_up, txid}
use Rattle.ox_block.specs.Reading.{block_of}
use Rattle.ox_block.specs.Spelling.{Lawful, LawfulTx, extended_form, input, inputs, most_value, output, outputs, spell, stack, stacks, stripped_form, tx}
use Rattle.ox_block.specs.Spelling as spelling
use Rattle.ox_block.proofs.BlockLaws.{block_again}
use Rattle.ox_block.specs.declared.block.Block.{Block}
use Rattle.ox_block.specs.declared.block.Header.{Header}
use Rattle.ox_block.specs.declared.block.OutPoint.{OutPoint}
use Rattle.ox_block.specs.declared.block.Tx.{Tx}
use Rattle.ox_block.specs.declared.block.TxIn.{TxIn}
use Rattle.ox_block.specs.declared.block.TxOut.{TxOut}
use Rattle.ox_gen.specs.Made.{bare_header, cenotaph, claim, coinbase, control, etching, height_script, made_block, mint, nothing, open_script, runestone, spend, tapscript, zeros}

-- ---- lengths of parts

either : (b : Bool) (n : ℕ) (xs ys : List ℕ) → length xs ≤ n → length ys ≤ n → length (cond b xs ys) ≤ n
either true n xs ys h k = h
either false n xs ys h k = k

short_count : (n : ℕ) → length (compact n) ≤ 9
short_count n = either (ltb n 253) 9 _ _ (omega arith) (either (ltb n (2 ^ 16)) 9 _ _ (omega arith) (either (ltb n (2 ^ 32)) 9 _ _ (omega arith) (omega arith)))

short_string : (bytes : List ℕ) → length (string bytes) ≤ 9 + length bytes
short_string bytes = omega (arith, length-append (compact (length bytes)) bytes, short_count (length bytes))

short_output : (o : TxOut) → length (output o) ≤ 17 + length o.script
short_output o = omega (arith, length-append (to_le_bytes w64 o.value) (string o.script), short_string o.script)

short_input : (i : TxIn) → length i.from.txid.0 ≡ 32 → length (input i) ≤ 49 + length i.script
short_input i id =
    let from = spelling.outpoint i.from in
    omega (arith, id, length-append (from ++ string i.script) (to_le_bytes w32 i.sequence), length-append from (string i.script), length-append i.from.txid.0 (to_le_bytes w32 i.from.index), short_string i.script)

-- the pieces of one value, and those of two
one : {A : Type 0} (f : A → List ℕ) (a : A) → length (flat_map f (a ∷ [])) ≡ length (f a)
one f a = omega (arith, length-append (f a) [])

two : {A : Type 0} (f : A → List ℕ) (a b : A) → length (flat_map f (a ∷ b ∷ [])) ≡ length (f a) + length (f b)
two f a b = omega (arith, length-append (f a) (flat_map f (b ∷ [])), one f b)

six : (v m i o s l : List ℕ) → length (v ++ m ++ i ++ o ++ s ++ l) ≡ length v + length m + length i + length o + length s + length l
six v m i o s l = omega (arith, length-append (v ++ m ++ i ++ o ++ s) l, length-append (v ++ m ++ i ++ o) s, length-append (v ++ m ++ i) o, length-append (v ++ m) i, length-append v m)

-- a marked transaction of one input
short_tx : (t : Tx) (i : TxIn) → t.marked ≡ true → t.inputs ≡ i ∷ [] → length (tx t) ≤ 19 + length (input i) + length (outputs t.outputs) + length (stack i.witness)
short_tx t i marked only =
    let whole : length (tx t) ≡ length (extended_form t) = ap (λ (b : Bool). length (cond b (extended_form t) (stripped_form t))) marked in
    let ins : length (inputs t.inputs) ≡ length (inputs (i ∷ [])) = ap (λ (is : List TxIn). length (inputs is)) only in
    let front : length (inputs (i ∷ [])) ≡ length (compact 1) + length (flat_map input (i ∷ [])) = length-append (compact 1) (flat_map input (i ∷ [])) in
    let behind : length (stacks t.inputs) ≡ length (stacks (i ∷ [])) = ap (λ (is : List TxIn). length (stacks is)) only in
    let parts = six (to_le_bytes w32 t.version) (0 ∷ 1 ∷ []) (inputs t.inputs) (outputs t.outputs) (stacks t.inputs) (to_le_bytes w32 t.lock) in
    omega (arith, whole, ins, front, short_count 1, one input i, behind, one (λ (x : TxIn). stack x.witness) i, parts)

short_outputs : (a b : TxOut) → length (outputs (a ∷ b ∷ [])) ≤ 43 + length a.script + length b.script
short_outputs a b =
    omega (arith, length-append (compact 2) (flat_map output (a ∷ b ∷ [])), short_count 2, two output a b, short_output a, short_output b)

short_header : (h : Header) → length h.previous ≡ 32 → length h.root ≡ 32 → length (spelling.header h) ≡ 80
short_header h previous root =
    omega (arith, previous, root, six (to_le_bytes w32 h.version) h.previous h.root (to_le_bytes w32 h.time) (to_le_bytes w32 h.bits) (to_le_bytes w32 h.nonce))

-- ---- the coinbase

low_claim : (height : ℕ) → claim height ≤ 5000000000
low_claim height = omega (arith, div-le_self 5000000000 (2 ^ (height / 210000)))

hash_long : (message : List ℕ) → length (double_hash message) ≡ 32
hash_long message = length-sha256 _

-- the script that commits
commitment_long : (root : List ℕ) → length (commitment_front ++ double_hash (root ++ zeros)) ≡ 38
commitment_long root = omega (arith, length-append commitment_front (double_hash (root ++ zeros)), hash_long (root ++ zeros))

lawful_coinbase : (height : ℕ) (root : List ℕ) → LawfulTx (with_commitment root zeros (coinbase height))
lawful_coinbase height root = record {
  version = omega arith;
  some_input = omega arith;
  few_inputs = omega arith;
  inputs = (record { txid = refl; index = omega arith; script = omega arith; sequence = omega arith }, tt);
  some_output = omega arith;
  few_outputs = omega arith;
  outputs = (
    record { value = omega (arith, low_claim height); script = omega arith },
    (record { value = omega arith; script = omega (arith, commitment_long root) }, tt),
  );
  values = omega (arith, low_claim height);
  stacks = ((omega arith, (omega arith, tt)), tt);
  marked = refl;
  lock = omega arith;
}

-- one item on a stack, and two
short_stack_1 : (a : List ℕ) → length (stack (a ∷ [])) ≤ 18 + length a
short_stack_1 a = omega (arith, length-append (compact 1) (flat_map string (a ∷ [])), short_count 1, one string a, short_string a)

short_stack_2 : (a b : List ℕ) → length (stack (a ∷ b ∷ [])) ≤ 27 + length a + length b
short_stack_2 a b = omega (arith, length-append (compact 2) (flat_map string (a ∷ b ∷ [])), short_count 2, two string a b, short_string a, short_string b)

short_coinbase : (height : ℕ) (root : List ℕ) → length (tx (with_commitment root zeros (coinbase height))) ≤ 1000
short_coinbase height root =
    let i : TxIn = record { from = nothing; script = height_script height; sequence = 0; witness = zeros ∷ [] } in
    let kept : TxOut = record { value = claim height; script = open_script } in
    let commits : TxOut = commitment_to root zeros in
    omega (arith, short_tx (with_commitment root zeros (coinbase height)) i refl refl, short_input i refl, short_outputs kept commits, commitment_long root, short_stack_1 zeros)

-- ---- the other transaction

-- a tapscript before the digits
front : List ℕ
front = 0x00 ∷ 0x63 ∷ 3 ∷ codes "ord" ++ 1 ∷ 1 ∷ 10 ∷ codes "text/plain" ++ 0x00 ∷ []

short_tapscript : (height : ℕ) → height < 2 ^ 32 → length (tapscript height) ≤ 100
unfolding front
short_tapscript height low =
    let digits = decimal height in
    let begins : length front ≡ 20 = refl in
    omega (arith, begins, length-append (front ++ length digits ∷ digits) (0x68 ∷ []), length-append front (length digits ∷ digits), length-decimal-le 10 height (omega arith) (omega (arith, low)) (omega (arith, low)))

short_runestone : (height : ℕ) → length (runestone height) ≤ 13
short_runestone height = either (height == 1) 13 etching _ (omega arith) (either (height % 10 == 0) 13 cenotaph mint (omega arith) (omega arith))

lawful_spend : (height : ℕ) (paid : List ℕ) → height < 2 ^ 32 → length paid ≡ 32 → LawfulTx (spend height (record { txid = record { 0 = paid }; index = 0 }))
lawful_spend height paid low id = record {
  version = omega arith;
  some_input = omega arith;
  few_inputs = omega arith;
  inputs = (record { txid = id; index = omega arith; script = omega arith; sequence = omega arith }, tt);
  some_output = omega arith;
  few_outputs = omega arith;
  outputs = (
    record { value = omega (arith, low_claim (height - 1)); script = omega arith },
    (record { value = omega arith; script = omega (arith, short_runestone height) }, tt),
  );
  values = omega (arith, low_claim (height - 1));
  stacks = ((omega arith, (omega (arith, short_tapscript height low), (omega arith, tt))), tt);
  marked = refl;
  lock = omega arith;
}

short_spend : (height : ℕ) (paid : List ℕ) → height < 2 ^ 32 → length paid ≡ 32 → length (tx (spend height (record { txid = record { 0 = paid }; index = 0 }))) ≤ 1000
short_spend height paid low id =
    let from : OutPoint = record { txid = record { 0 = paid }; index = 0 } in
    let i : TxIn = record { from = from; script = []; sequence = 0; witness = tapscript height ∷ control ∷ [] } in
    let kept : TxOut = record { value = claim (height - 1); script = open_script } in
    let stone : TxOut = record { value = 0; script = runestone height } in
    let key : length control ≡ 33 = refl in
    omega (arith, short_tx (spend height from) i refl refl, short_input i id, short_outputs kept stone, short_runestone height, short_stack_2 (tapscript height) control, short_tapscript height low, key)

-- ---- the block

-- the root of one or two ids is a hash
root_of_one : (t : Tx) → length (root_of (map txid (t ∷ []))) ≡ 32
unfolding root_of rows_up txid
root_of_one t = hash_long (stripped_form t)

root_of_two : (a b : Tx) → length (root_of (map txid (a ∷ b ∷ []))) ≡ 32
unfolding root_of rows_up next_row
root_of_two a b = hash_long (txid a ++ txid b)

root_long : (b : Block) (txs : List Tx) → b.txs ≡ txs → length (root_of (map txid txs)) ≡ 32 → length (block_root b) ≡ 32
unfolding block_root
root_long b txs is long = ap (λ (all : List Tx). length (root_of (map txid all))) is ∙ long

short_block : (b : Block) → length b.header.previous ≡ 32 → length b.header.root ≡ 32 → length (spell b) ≤ 89 + length (flat_map tx b.txs)
unfolding spell
short_block b previous root =
    omega (arith, length-append (spelling.header b.header) (compact (length b.txs) ++ flat_map tx b.txs), length-append (compact (length b.txs)) (flat_map tx b.txs), short_header b.header previous root, short_count (length b.txs))

pub lawful : (height : ℕ) (tip paid : List ℕ) → height < 2 ^ 32 → length tip ≡ 32 → length paid ≡ 32 → Lawful (made_block height tip paid)
lawful zero tip paid low tips id =
    let made : Block = made_block 0 tip paid in
    let root = block_witness_root (record { header = bare_header 0 tip; txs = coinbase 0 ∷ [] }) in
    let first : Tx = with_commitment root zeros (coinbase 0) in
    let rooted : length made.header.root ≡ 32 = root_long _ (first ∷ []) refl (root_of_one first) in record {
      header = record { version = omega arith; previous = tips; root = rooted; time = omega arith; bits = omega arith; nonce = omega arith };
      some_tx = omega arith;
      few_txs = omega arith;
      txs = (lawful_coinbase 0 root, tt);
      size = omega (arith, short_block made tips rooted, one tx first, short_coinbase 0 root);
    }
lawful (suc before) tip paid low tips id =
    let height : ℕ = suc before in
    let paying : Tx = spend height (record { txid = record { 0 = paid }; index = 0 }) in
    let made : Block = made_block height tip paid in
    let root = block_witness_root (record { header = bare_header height tip; txs = coinbase height ∷ paying ∷ [] }) in
    let first : Tx = with_commitment root zeros (coinbase height) in
    let rooted : length made.header.root ≡ 32 = root_long _ (first ∷ paying ∷ []) refl (root_of_two first paying) in record {
      header = record { version = omega arith; previous = tips; root = rooted; time = low; bits = omega arith; nonce = omega arith };
      some_tx = omega arith;
      few_txs = omega arith;
      txs = (lawful_coinbase height root, (lawful_spend height paid low id, tt));
      size = omega (arith, short_block made tips rooted, two tx first paying, short_coinbase height root, short_spend height paid low id);
    }

pub reads_back : (height : ℕ) (tip paid : List ℕ) → height < 2 ^ 32 → length tip ≡ 32 → length paid ≡ 32 → block_of (spell (made_block height tip paid)) ≡ Ok (made_block height tip paid)
reads_back height tip paid low tips id = block_again (made_block height tip paid) (lawful height tip paid low tips id)
