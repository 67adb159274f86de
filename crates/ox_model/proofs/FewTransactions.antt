-- A block that is read has no more transactions than bytes, and so few.
use Rattle.std.proofs.Common.{◌≡◌, ◌∙◌, ℕ, zero, suc, ◌+◌, ◌^◌, ◌<◌, ◌≤◌, Bool, true, false, cond, List, [], ◌∷◌, length, drop, refl, ap, arith, inl, inr, Result, Ok, Err, nat_lt, length-drop}
use Rattle.std.specs.Prelude.{◌==◌, take}
use Rattle.std.specs.Int.{Width, w16, w32, w64, byte_len, from_le_bytes}
use Rattle.std.specs.List.{list_any}
use Rattle.std.proofs.lemmas.Bool.{ltb-false}
use Rattle.ox_bytes.specs.Reading.{◌>>=◌, Reading, Reader, number_at, run_at, long_size, size_of, result_at, compact_at, string_at, both, counted_list, times}
use Rattle.ox_bytes.specs.declared.compact.CompactFault.{CompactFault}
use Rattle.ox_bytes.specs.declared.compact.CompactFault.TheVariants.{Short, NotShortest}
use Rattle.ox_bytes.proofs.Laws.{bind_ok, chosen, guard_ok, ok_is}
use Rattle.ox_block.specs.Spelling.{has_witness, most_bytes, most_value}
use Rattle.ox_block.specs.Reading.{block_at, block_of, count_at, header_at, input_at, inputs_at, marker_at, maybe_witnesses_at, outpoint_at, output_at, outputs_at, outputs_of, stack_at, stacks_of, tx_at, whole_of, with_place, witnesses_at}
use Rattle.ox_block.specs.declared.block.TxIn.{TxIn}
use Rattle.ox_block.specs.declared.block.TxOut.{TxOut}
use Rattle.ox_block.specs.declared.block.Tx.{Tx}
use Rattle.ox_block.specs.declared.block.Header.{Header}
use Rattle.ox_block.specs.declared.block.Block.{Block}

-- a reader leaves no more bytes than there were
abbrev Shrinks : {X F : Type 0} → Reading X F → Type 0
Shrinks {X} read = (bytes : List ℕ) (x : X × List ℕ) → read bytes ≡ Ok x → length x.1 ≤ length bytes

number_shrinks : (w : Width) → Shrinks (number_at w)
unfolding number_at
number_shrinks w bytes x is =
    let front = guard_ok (nat_lt (length bytes) (byte_len w)) (length bytes) (Ok (from_le_bytes w (take (byte_len w) bytes), drop (byte_len w) bytes)) x is in
    let rest : drop (byte_len w) bytes ≡ x.1 = ap (λ (y : ℕ × List ℕ). y.1) (ok_is {F = ℕ} (from_le_bytes w (take (byte_len w) bytes), drop (byte_len w) bytes) x front.1) in
    omega (arith, length-drop (byte_len w) bytes, ap (λ (l : List ℕ). length l) rest)

-- a number of four bytes takes some
number_takes : (bytes : List ℕ) (x : ℕ × List ℕ) → number_at w32 bytes ≡ Ok x → length x.1 < length bytes
unfolding number_at
number_takes bytes x is =
    let front = guard_ok (nat_lt (length bytes) 4) (length bytes) (Ok (from_le_bytes w32 (take 4 bytes), drop 4 bytes)) x is in
    let rest : drop 4 bytes ≡ x.1 = ap (λ (y : ℕ × List ℕ). y.1) (ok_is {F = ℕ} (from_le_bytes w32 (take 4 bytes), drop 4 bytes) x front.1) in
    omega (arith, length-drop 4 bytes, ltb-false _ _ front.0, ap (λ (l : List ℕ). length l) rest)

run_shrinks : (n : ℕ) → Shrinks (run_at n)
unfolding run_at
run_shrinks n bytes x is =
    let front = guard_ok (nat_lt (length bytes) n) (length bytes) (Ok (take n bytes, drop n bytes)) x is in
    let rest : drop n bytes ≡ x.1 = ap (λ (y : List ℕ × List ℕ). y.1) (ok_is {F = ℕ} (take n bytes, drop n bytes) x front.1) in
    omega (arith, length-drop n bytes, ap (λ (l : List ℕ). length l) rest)

long_shrinks : (w : Width) (least : ℕ) → Shrinks (long_size w least)
unfolding long_size
long_shrinks w least bytes x is =
    let n = from_le_bytes w (take (byte_len w) bytes) in
    let long = guard_ok (nat_lt (length bytes) (byte_len w)) Short (cond (nat_lt n least) (Err NotShortest) (Ok (n, drop (byte_len w) bytes))) x is in
    let front = guard_ok (nat_lt n least) NotShortest (Ok (n, drop (byte_len w) bytes)) x long.1 in
    let rest : drop (byte_len w) bytes ≡ x.1 = ap (λ (y : ℕ × List ℕ). y.1) (ok_is {F = CompactFault} (n, drop (byte_len w) bytes) x front.1) in
    omega (arith, length-drop (byte_len w) bytes, ap (λ (l : List ℕ). length l) rest)

size_shrinks : Shrinks size_of
unfolding size_of
size_shrinks [] x is = absurd (cc is)
size_shrinks (first ∷ rest) x is =
    elim (chosen (nat_lt first 253) (Ok (first, rest)) (cond (first == 253) (long_size w16 253 rest) (cond (first == 254) (long_size w32 (2 ^ 16) rest) (long_size w64 (2 ^ 32) rest))) (Ok x) is) [
      | inl p ↦ let left : rest ≡ x.1 = ap (λ (y : ℕ × List ℕ). y.1) (ok_is {F = CompactFault} (first, rest) x p.1) in omega (arith, ap (λ (l : List ℕ). length l) left)
      | inr p ↦
          elim (chosen (first == 253) (long_size w16 253 rest) (cond (first == 254) (long_size w32 (2 ^ 16) rest) (long_size w64 (2 ^ 32) rest)) (Ok x) p.1) [
            | inl q ↦ omega (arith, long_shrinks w16 253 rest x q.1)
            | inr q ↦
                elim (chosen (first == 254) (long_size w32 (2 ^ 16) rest) (long_size w64 (2 ^ 32) rest) (Ok x) q.1) [
                  | inl r ↦ omega (arith, long_shrinks w32 (2 ^ 16) rest x r.1)
                  | inr r ↦ omega (arith, long_shrinks w64 (2 ^ 32) rest x r.1)
                ]
          ]
    ]

compact_shrinks : Shrinks compact_at
unfolding compact_at
compact_shrinks bytes x is = by_result (size_of bytes) refl is where
  by_result : (r : Result (ℕ × List ℕ) CompactFault) → size_of bytes ≡ r → result_at (length bytes) r ≡ Ok x → length x.1 ≤ length bytes
  by_result (Ok y) read same = size_shrinks bytes x (read ∙ ap (λ (z : ℕ × List ℕ). Ok z) (ok_is {F = ℕ} y x same))
  by_result (Err e) read none = absurd (cc none)

-- one reader after another
both_shrink : {A B C F : Type 0} (first : Reading A F) (second : A → Reading B F) (made : A → B → C) → Shrinks first → ((a : A) → Shrinks (second a))
    → Shrinks {X = C} (λ bytes. first bytes >>= λ x. second x.0 x.1 >>= λ y. Ok (made x.0 y.0, y.1))
both_shrink {A} {B} {C} {F} first second made shrinks then_shrinks bytes z is =
    let x = bind_ok (first bytes) (λ x. second x.0 x.1 >>= λ y. Ok (made x.0 y.0, y.1)) z is in
    let y = bind_ok (second x.0.0 x.0.1) (λ y. Ok (made x.0.0 y.0, y.1)) z x.2 in
    let rest : y.0.1 ≡ z.1 = ap (λ (w : C × List ℕ). w.1) (ok_is {F = F} (made x.0.0 y.0.0, y.0.1) z y.2) in
    omega (arith, shrinks bytes x.0 x.1, then_shrinks x.0.0 x.0.1 y.0 y.1, ap (λ (l : List ℕ). length l) rest)

bind_shrinks : {A B F : Type 0} (first : Reading A F) (second : A → Reading B F) → Shrinks first → ((a : A) → Shrinks (second a))
    → Shrinks (λ bytes. first bytes >>= λ x. second x.0 x.1)
bind_shrinks first second shrinks then_shrinks bytes z is =
    let x = bind_ok (first bytes) (λ x. second x.0 x.1) z is in
    omega (arith, shrinks bytes x.0 x.1, then_shrinks x.0.0 x.0.1 z x.2)

string_shrinks : Shrinks string_at
unfolding string_at
string_shrinks bytes x is = bind_shrinks compact_at run_at compact_shrinks run_shrinks bytes x is

count_shrinks : Shrinks count_at
unfolding count_at
count_shrinks bytes x is =
    let n = bind_ok (compact_at bytes) (λ n. cond (n.0 == 0) (Err (length bytes)) (Ok n)) x is in
    let some = guard_ok (n.0.0 == 0) (length bytes) (Ok n.0) x n.2 in
    compact_shrinks bytes x (n.1 ∙ some.1)

-- the value and what is left, made into another value
map_shrinks : {A B F : Type 0} (f : A → B) (read : Reading A F) → Shrinks read → Shrinks {X = B} (λ bytes. read bytes >>= λ x. Ok (f x.0, x.1))
map_shrinks {A} {B} {F} f read shrinks bytes z is =
    let x = bind_ok (read bytes) (λ x. Ok (f x.0, x.1)) z is in
    let rest : x.0.1 ≡ z.1 = ap (λ (w : B × List ℕ). w.1) (ok_is {F = F} (f x.0.0, x.0.1) z x.2) in
    omega (arith, shrinks bytes x.0 x.1, ap (λ (l : List ℕ). length l) rest)

outpoint_shrinks : Shrinks outpoint_at
unfolding outpoint_at
outpoint_shrinks bytes x is =
    map_shrinks (λ (p : List ℕ × ℕ). record { txid = record { 0 = p.0 }; index = p.1 }) (λ b. run_at 32 b >>= λ x. number_at w32 x.1 >>= λ y. Ok ((x.0, y.0), y.1))
    (both_shrink (run_at 32) (λ a. number_at w32) (λ a b. (a, b)) (run_shrinks 32) (λ a. number_shrinks w32)) bytes x is

input_shrinks : Shrinks input_at
unfolding input_at
input_shrinks bytes x is =
    let from = bind_ok (outpoint_at bytes) _ x is in
    let script = bind_ok (string_at from.0.1) _ x from.2 in
    let sequence = bind_ok (number_at w32 script.0.1) _ x script.2 in
    let rest : sequence.0.1 ≡ x.1 = ap (λ (w : TxIn × List ℕ). w.1) (ok_is {F = ℕ} _ x sequence.2) in
    omega (arith, outpoint_shrinks bytes from.0 from.1, string_shrinks from.0.1 script.0 script.1, number_shrinks w32 script.0.1 sequence.0 sequence.1, ap (λ (l : List ℕ). length l) rest)

times_shrink : {X F : Type 0} (read : Reading X F) → Shrinks read → (n : ℕ) → Shrinks (times read n)
unfolding times
times_shrink {X} {F} read shrinks zero bytes x is = let rest : bytes ≡ x.1 = ap (λ (w : List X × List ℕ). w.1) (ok_is {F = F} ([], bytes) x is) in omega (arith, ap (λ (l : List ℕ). length l) rest)
times_shrink {X} {F} read shrinks (suc n) bytes x is =
    both_shrink read (λ a. times read n) (λ a b. a ∷ b) shrinks (λ a. times_shrink read shrinks n) bytes x is

inputs_shrink : Shrinks inputs_at
unfolding inputs_at
inputs_shrink bytes x is = bind_shrinks count_at (times input_at) count_shrinks (times_shrink input_at input_shrinks) bytes x is

value_shrinks : (most : ℕ) → Shrinks (λ bytes. number_at w64 bytes >>= λ x. cond (nat_lt most x.0) (Err (length bytes)) (Ok x))
value_shrinks most bytes x is =
    let n = bind_ok (number_at w64 bytes) (λ x. cond (nat_lt most x.0) (Err (length bytes)) (Ok x)) x is in
    let some = guard_ok (nat_lt most n.0.0) (length bytes) (Ok n.0) x n.2 in
    number_shrinks w64 bytes x (n.1 ∙ some.1)

output_shrinks : (most : ℕ) → Shrinks (output_at most)
unfolding output_at
output_shrinks most bytes x is =
    let value : Reader ℕ = λ b. number_at w64 b >>= λ x. cond (nat_lt most x.0) (Err (length b)) (Ok x) in
    map_shrinks (λ (p : ℕ × List ℕ). record { value = p.0; script = p.1 }) (λ b. value b >>= λ x. string_at x.1 >>= λ y. Ok ((x.0, y.0), y.1))
    (both_shrink value (λ a. string_at) (λ a b. (a, b)) (value_shrinks most) (λ a. string_shrinks)) bytes x is

outputs_shrink : (n most : ℕ) → Shrinks (outputs_of n most)
unfolding outputs_of
outputs_shrink zero most bytes x is = let rest : bytes ≡ x.1 = ap (λ (w : List TxOut × List ℕ). w.1) (ok_is {F = ℕ} ([], bytes) x is) in omega (arith, ap (λ (l : List ℕ). length l) rest)
outputs_shrink (suc n) most bytes x is =
    let first = bind_ok (output_at most bytes) _ x is in
    let others = bind_ok (outputs_of n _ first.0.1) _ x first.2 in
    let rest : others.0.1 ≡ x.1 = ap (λ (w : List TxOut × List ℕ). w.1) (ok_is {F = ℕ} _ x others.2) in
    omega (arith, output_shrinks most bytes first.0 first.1, outputs_shrink n _ first.0.1 others.0 others.1, ap (λ (l : List ℕ). length l) rest)

all_outputs_shrink : Shrinks outputs_at
unfolding outputs_at
all_outputs_shrink bytes x is = bind_shrinks count_at (λ n. outputs_of n most_value) count_shrinks (λ n. outputs_shrink n most_value) bytes x is

stack_shrinks : Shrinks stack_at
unfolding stack_at
stack_shrinks bytes x is = bind_shrinks compact_at (times string_at) compact_shrinks (times_shrink string_at string_shrinks) bytes x is

stacks_shrink : (inputs : List TxIn) → Shrinks (stacks_of inputs)
unfolding stacks_of
stacks_shrink [] bytes x is = let rest : bytes ≡ x.1 = ap (λ (w : List TxIn × List ℕ). w.1) (ok_is {F = ℕ} ([], bytes) x is) in omega (arith, ap (λ (l : List ℕ). length l) rest)
stacks_shrink (i ∷ inputs) bytes x is =
    both_shrink stack_at (λ w. stacks_of inputs) (λ w others. record i { witness = w } ∷ others) stack_shrinks (λ w. stacks_shrink inputs) bytes x is

witnesses_shrink : (marked : Bool) (marker : ℕ) (inputs : List TxIn) → Shrinks (maybe_witnesses_at marked marker inputs)
unfolding maybe_witnesses_at witnesses_at
witnesses_shrink true marker inputs bytes x is =
    let all = bind_ok (stacks_of inputs bytes) (λ y. cond (list_any has_witness y.0) (Ok y) (Err marker)) x is in
    elim (chosen (list_any has_witness all.0.0) (Ok all.0) (Err marker) (Ok x) all.2) [
      | inl some ↦ stacks_shrink inputs bytes x (all.1 ∙ some.1)
      | inr none ↦ absurd (let no = none.1 in cc no)
    ]
witnesses_shrink false marker inputs bytes x is = let rest : bytes ≡ x.1 = ap (λ (w : List TxIn × List ℕ). w.1) (ok_is {F = ℕ} (inputs, bytes) x is) in omega (arith, ap (λ (l : List ℕ). length l) rest)

marker_shrinks : Shrinks marker_at
unfolding marker_at
marker_shrinks [] x is = let rest : [] ≡ x.1 = ap (λ (w : Bool × List ℕ). w.1) (ok_is {F = ℕ} (false, []) x is) in omega (arith, ap (λ (l : List ℕ). length l) rest)
marker_shrinks (zero ∷ []) x is = absurd (cc is)
marker_shrinks (zero ∷ zero ∷ more) x is = absurd (cc is)
marker_shrinks (zero ∷ suc zero ∷ more) x is = let rest : more ≡ x.1 = ap (λ (w : Bool × List ℕ). w.1) (ok_is {F = ℕ} (true, more) x is) in omega (arith, ap (λ (l : List ℕ). length l) rest)
marker_shrinks (zero ∷ suc (suc b) ∷ more) x is = absurd (cc is)
marker_shrinks (suc b ∷ more) x is = let rest : suc b ∷ more ≡ x.1 = ap (λ (w : Bool × List ℕ). w.1) (ok_is {F = ℕ} (false, suc b ∷ more) x is) in omega (arith, ap (λ (l : List ℕ). length l) rest)

-- a transaction takes some bytes
tx_takes : (bytes : List ℕ) (x : Tx × List ℕ) → tx_at bytes ≡ Ok x → length x.1 < length bytes
unfolding tx_at
tx_takes bytes x is =
    let version = bind_ok (number_at w32 bytes) _ x is in
    let marked = bind_ok (marker_at version.0.1) _ x version.2 in
    let bare = bind_ok (inputs_at marked.0.1) _ x marked.2 in
    let outputs = bind_ok (outputs_at bare.0.1) _ x bare.2 in
    let inputs = bind_ok (maybe_witnesses_at marked.0.0 (length version.0.1) bare.0.0 outputs.0.1) _ x outputs.2 in
    let lock = bind_ok (number_at w32 inputs.0.1) _ x inputs.2 in
    let rest : lock.0.1 ≡ x.1 = ap (λ (w : Tx × List ℕ). w.1) (ok_is {F = ℕ} _ x lock.2) in
    omega (
      arith,
      number_takes bytes version.0 version.1,
      marker_shrinks version.0.1 marked.0 marked.1,
      inputs_shrink marked.0.1 bare.0 bare.1,
      all_outputs_shrink bare.0.1 outputs.0 outputs.1,
      witnesses_shrink marked.0.0 (length version.0.1) bare.0.0 outputs.0.1 inputs.0 inputs.1,
      number_shrinks w32 inputs.0.1 lock.0 lock.1,
      ap (λ (l : List ℕ). length l) rest,
    )

-- so many take as many bytes
times_take : (n : ℕ) (bytes : List ℕ) (x : List Tx × List ℕ) → times tx_at n bytes ≡ Ok x → length x.0 + length x.1 ≤ length bytes
unfolding times
times_take zero bytes x is =
    let same : ([], bytes) ≡ x = ok_is {F = ℕ} ([], bytes) x is in
    omega (arith, ap (λ (w : List Tx × List ℕ). length w.0) same, ap (λ (w : List Tx × List ℕ). length w.1) same)
times_take (suc n) bytes x is =
    let one = bind_ok (tx_at bytes) (λ y. times tx_at n y.1 >>= λ ys. Ok (y.0 ∷ ys.0, ys.1)) x is in
    let more = bind_ok (times tx_at n one.0.1) (λ ys. Ok (one.0.0 ∷ ys.0, ys.1)) x one.2 in
    let same : (one.0.0 ∷ more.0.0, more.0.1) ≡ x = ok_is {F = ℕ} (one.0.0 ∷ more.0.0, more.0.1) x more.2 in
    omega (arith, tx_takes bytes one.0 one.1, times_take n one.0.1 more.0 more.1, ap (λ (w : List Tx × List ℕ). length w.0) same, ap (λ (w : List Tx × List ℕ). length w.1) same)

header_shrinks : Shrinks header_at
unfolding header_at
header_shrinks bytes x is =
    let version = bind_ok (number_at w32 bytes) _ x is in
    let previous = bind_ok (run_at 32 version.0.1) _ x version.2 in
    let root = bind_ok (run_at 32 previous.0.1) _ x previous.2 in
    let time = bind_ok (number_at w32 root.0.1) _ x root.2 in
    let bits = bind_ok (number_at w32 time.0.1) _ x time.2 in
    let nonce = bind_ok (number_at w32 bits.0.1) _ x bits.2 in
    let rest : nonce.0.1 ≡ x.1 = ap (λ (w : _ × List ℕ). w.1) (ok_is {F = ℕ} _ x nonce.2) in
    omega (
      arith,
      number_shrinks w32 bytes version.0 version.1,
      run_shrinks 32 version.0.1 previous.0 previous.1,
      run_shrinks 32 previous.0.1 root.0 root.1,
      number_shrinks w32 root.0.1 time.0 time.1,
      number_shrinks w32 time.0.1 bits.0 bits.1,
      number_shrinks w32 bits.0.1 nonce.0 nonce.1,
      ap (λ (l : List ℕ). length l) rest,
    )

block_takes : (bytes : List ℕ) (x : Block × List ℕ) → block_at bytes ≡ Ok x → length x.0.txs ≤ length bytes
unfolding block_at
block_takes bytes x is =
    let parts = bind_ok (both header_at (counted_list count_at tx_at) bytes) _ x is in
    let header = bind_ok (header_at bytes) (λ h. counted_list count_at tx_at h.1 >>= λ t. Ok ((h.0, t.0), t.1)) parts.0 parts.1 in
    let txs = bind_ok (counted_list count_at tx_at header.0.1) (λ t. Ok ((header.0.0, t.0), t.1)) parts.0 header.2 in
    let count = bind_ok (count_at header.0.1) (λ n. times tx_at n.0 n.1) txs.0 txs.1 in
    let made : ((header.0.0, txs.0.0), txs.0.1) ≡ parts.0 = ok_is {F = ℕ} ((header.0.0, txs.0.0), txs.0.1) parts.0 txs.2 in
    let block : (record { header = parts.0.0.0; txs = parts.0.0.1 }, parts.0.1) ≡ x = ok_is {F = ℕ} (record { header = parts.0.0.0; txs = parts.0.0.1 }, parts.0.1) x parts.2 in
    omega (
      arith,
      header_shrinks bytes header.0 header.1,
      count_shrinks header.0.1 count.0 count.1,
      times_take count.0.0 count.0.1 txs.0 count.2,
      ap (λ (p : (Header × List Tx) × List ℕ). length p.0.1) made,
      ap (λ (b : Block × List ℕ). length b.0.txs) block,
    )

whole_takes : (bytes : List ℕ) (block : Block) → whole_of bytes ≡ Ok block → length block.txs ≤ length bytes
unfolding whole_of
whole_takes bytes block is =
    let all = bind_ok (block_at bytes) (λ x. cond (length x.1 == 0) (Ok x.0) (Err (length x.1))) block is in
    elim (chosen (length all.0.1 == 0) (Ok all.0.0) (Err (length all.0.1)) (Ok block) all.2) [
      | inl some ↦ let same : all.0.0 ≡ block = ok_is {F = ℕ} all.0.0 block some.1 in omega (arith, block_takes bytes all.0 all.1, ap (λ (b : Block). length b.txs) same)
      | inr none ↦ absurd (let no = none.1 in cc no)
    ]

placed_ok : (all : ℕ) (r : Result Block ℕ) (block : Block) → with_place all r ≡ Ok block → r ≡ Ok block
placed_ok all (Ok b) block is = ap (λ (c : Block). Ok c) (ok_is {F = ℕ} b block is)
placed_ok all (Err left) block is = absurd (cc is)

pub few_transactions : (bytes : List ℕ) (block : Block) → block_of bytes ≡ Ok block → length block.txs ≤ 2 ^ 32
unfolding block_of
few_transactions bytes block is =
    let short = guard_ok (nat_lt most_bytes (length bytes)) most_bytes (with_place (length bytes) (whole_of bytes)) block is in
    omega (arith, ltb-false _ _ short.0, whole_takes bytes block (placed_ok (length bytes) (whole_of bytes) block short.1))
