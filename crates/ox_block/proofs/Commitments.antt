-- Scripts that commit to witnesses, and the ids that they commit to.
use Rattle.std.proofs.Common.{◌≡◌, ℕ, zero, suc, ◌+◌, ◌-◌, ◌<◌, ◌≤◌, Bool, true, false, List, [], ◌∷◌, ◌++◌, length, get_or, take, drop, map, refl, sym, ap, ◌∙◌, arith, Option, Some, None}
use Rattle.std.specs.Prelude.{◌==◌, ◌&&◌, not, nat_lt, bytes_eq, replicate, if◌then◌else◌}
use Rattle.std.specs.List.{filter, last_or}
use Rattle.std.proofs.Math.Seq.{take-suc}
use Rattle.std.proofs.lemmas.Bool.{le-ltb, ltb-false, eqb-true}
use Rattle.std.proofs.lemmas.List.{get_or-map, length-map, take_all}
use Rattle.std.proofs.lemmas.List.Elements.{filter-append}
use Rattle.std.proofs.lemmas.Slice.Eq.{bytes_eq-Decides}
use Rattle.sha2.proofs.Facts256.{length-sha256}
use Rattle.ox_block.specs.Spelling.{stripped_form, extended_form}
use Rattle.ox_block.specs.Hashes.{double_hash, txid, wtxid, root_of, witness_ids, block_witness_root}
use Rattle.ox_block.specs.Coinbase.{is_coinbase}
use Rattle.ox_block.specs.Commitment.{commitment_front, commits, commitments_in, commitments, reserved_in, reserved, holds_root, some_marked, committed_by, committed, commitment_to, with_commitment, first_committing, committing}
use Rattle.ox_block.specs.declared.block.TxIn.{TxIn}
use Rattle.ox_block.specs.declared.block.TxOut.{TxOut}
use Rattle.ox_block.specs.declared.block.Tx.{Tx}
use Rattle.ox_block.specs.declared.block.Block.{Block}

-- ---- the last script that commits

last_behind : {A : Type 0} (o : Option A) (xs : List A) (x : A) → last_or o (xs ++ x ∷ []) ≡ Some x
last_behind o [] x = refl
last_behind o (y ∷ xs) x = last_behind (Some y) xs x

map_append : {A B : Type 0} (f : A → B) (xs ys : List A) → map f (xs ++ ys) ≡ map f xs ++ map f ys
map_append f [] ys = refl
map_append f (x ∷ xs) ys = ap (λ zs. f x ∷ zs) (map_append f xs ys)

append_none : {A : Type 0} (xs : List A) → xs ++ [] ≡ xs
append_none [] = refl
append_none (x ∷ xs) = ap (λ ys. x ∷ ys) (append_none xs)

commitments_more : (xs : List TxOut) (x : TxOut) → commitments_in (xs ++ x ∷ []) ≡ commitments_in xs ++ filter commits (x.script ∷ [])
commitments_more xs x = ap (filter commits) (map_append (λ (o : TxOut). o.script) xs (x ∷ [])) ∙ filter-append commits (map (λ (o : TxOut). o.script) xs) (x.script ∷ [])

-- an output behind others whose script commits is the last
commits_last : (xs : List TxOut) (x : TxOut) → commits x.script ≡ true → last_or None (commitments_in (xs ++ x ∷ [])) ≡ Some x.script
commits_last xs x does =
    ap (last_or None) (commitments_more xs x ∙ ap (λ (b : Bool). commitments_in xs ++ (if b then x.script ∷ [] else [])) does) ∙ last_behind None (commitments_in xs) x.script

-- and one whose script doesn't isn't
commits_before : (xs : List TxOut) (x : TxOut) → commits x.script ≡ false → last_or None (commitments_in (xs ++ x ∷ [])) ≡ last_or None (commitments_in xs)
commits_before xs x does =
    ap (last_or None) (commitments_more xs x ∙ ap (λ (b : Bool). commitments_in xs ++ (if b then x.script ∷ [] else [])) does ∙ append_none (commitments_in xs))

-- such a script has 38 bytes
pub commits_long : (script : List ℕ) → commits script ≡ true → 38 ≤ length script
commits_long script does = ltb-false _ _ (short (nat_lt (length script) 38) _ does) where
  short : (a b : Bool) → (not a && b) ≡ true → a ≡ false
  short true b both = sym both
  short false b both = refl

one_more : (xs : List TxOut) (i : ℕ) (x : TxOut) → i < length xs → x ≡ get_or xs i x → take (i + 1) xs ≡ take i xs ++ x ∷ []
one_more xs i x less is = let next : i + 1 ≡ suc i = omega arith in ap (λ n. take n xs) next ∙ take-suc xs i x less ∙ ap (λ y. take i xs ++ y ∷ []) (sym is)

pub last_is : (xs : List TxOut) (i : ℕ) (x : TxOut) → i < length xs → x ≡ get_or xs i x → commits x.script ≡ true → Some x.script ≡ last_or None (commitments_in (take (i + 1) xs))
last_is xs i x less is does = sym (ap (λ ys. last_or None (commitments_in ys)) (one_more xs i x less is) ∙ commits_last (take i xs) x does)

pub last_was : (xs : List TxOut) (i : ℕ) (x : TxOut) (last : Option (List ℕ)) → i < length xs → x ≡ get_or xs i x → commits x.script ≡ false → last ≡ last_or None (commitments_in (take i xs))
    → last ≡ last_or None (commitments_in (take (i + 1) xs))
last_was xs i x last less is does was = was ∙ sym (ap (λ ys. last_or None (commitments_in ys)) (one_more xs i x less is) ∙ commits_before (take i xs) x does)

-- ---- the ids over the whole forms

length-witness_ids : (txs : List Tx) → length (witness_ids txs) ≡ length txs
length-witness_ids [] = refl
length-witness_ids (coinbase ∷ txs) = ap suc (length-map txs wtxid)

pub ids_begin : (txs : List Tx) → 0 < length txs → replicate 32 0 ∷ [] ≡ take 1 (witness_ids txs)
ids_begin [] some = absurd (omega arith)
ids_begin (coinbase ∷ txs) some = refl

pub no_ids : (txs : List Tx) (ids : List (List ℕ)) → length txs < 1 → ids ≡ [] → ids ≡ witness_ids txs
no_ids [] ids none is = is
no_ids (coinbase ∷ txs) ids none is = absurd (omega arith)

pub ids_behind : (txs : List Tx) (ids : List (List ℕ)) → 1 ≤ length txs → ids ≡ replicate 32 0 ∷ map wtxid (take (length txs - 1) (drop 1 txs)) → ids ≡ witness_ids txs
ids_behind [] ids some is = absurd (omega arith)
ids_behind (coinbase ∷ txs) ids some is =
    let all : take (suc (length txs) - 1) txs ≡ txs = take_all (suc (length txs) - 1) txs (omega arith) in
    is ∙ ap (λ xs. replicate 32 0 ∷ map wtxid xs) all

id_at : (txs : List Tx) (i : ℕ) (tx : Tx) (d : List ℕ) → 0 < i → i < length txs → get_or (witness_ids txs) i d ≡ wtxid (get_or txs i tx)
id_at [] i tx d some less = absurd (omega arith)
id_at (coinbase ∷ txs) zero tx d some less = absurd (omega arith)
id_at (coinbase ∷ txs) (suc i) tx d some less = get_or-map wtxid txs i tx d (omega arith)

pub ids_go_on : (txs : List Tx) (i : ℕ) (tx : Tx) (id : List ℕ) (ids : List (List ℕ)) → 0 < i → i < length txs → tx ≡ get_or txs i tx → id ≡ wtxid tx → ids ≡ take i (witness_ids txs)
    → ids ++ id ∷ [] ≡ take (i + 1) (witness_ids txs)
ids_go_on txs i tx id ids some less is whole so_far =
    let next : i + 1 ≡ suc i = omega arith in
    let there : i < length (witness_ids txs) = omega (arith, length-witness_ids txs) in
    let last : id ≡ get_or (witness_ids txs) i [] = whole ∙ ap wtxid is ∙ sym (id_at txs i tx [] some less) in
    ap (λ xs. xs ++ id ∷ []) so_far ∙ ap (λ x. take i (witness_ids txs) ++ x ∷ []) last ∙ sym (ap (λ n. take n (witness_ids txs)) next ∙ take-suc (witness_ids txs) i [] there)

pub ids_end : (txs : List Tx) (i : ℕ) (ids : List (List ℕ)) → length txs ≤ i → ids ≡ take i (witness_ids txs) → ids ≡ witness_ids txs
ids_end txs i ids all is = is ∙ take_all i (witness_ids txs) (omega (arith, length-witness_ids txs))

-- ---- what is decided

commitments_of : (txs : List Tx) (coinbase : Tx) → 0 < length txs → coinbase ≡ get_or txs 0 coinbase → commitments txs ≡ commitments_in coinbase.outputs
commitments_of [] coinbase some is = absurd (omega arith)
commitments_of (first ∷ txs) coinbase some is = ap (λ (t : Tx). commitments_in t.outputs) (sym is)

reserved_of : (txs : List Tx) (coinbase : Tx) → 0 < length txs → coinbase ≡ get_or txs 0 coinbase → reserved txs ≡ reserved_in coinbase.inputs
reserved_of [] coinbase some is = absurd (omega arith)
reserved_of (first ∷ txs) coinbase some is = ap (λ (t : Tx). reserved_in t.inputs) (sym is)

-- no output commits
pub by_marks : (block : Block) (coinbase : Tx) (marked : Bool) → 0 < length block.txs → coinbase ≡ get_or block.txs 0 coinbase → None ≡ last_or None (commitments_in coinbase.outputs)
    → marked ≡ some_marked block → not marked ≡ committed block
unfolding committed
by_marks block coinbase marked some is none has =
    ap not has ∙ ap (λ (o : Option (List ℕ)). committed_by o block) (none ∙ sym (ap (last_or None) (commitments_of block.txs coinbase some is)))

-- one does
pub by_hash : (block : Block) (coinbase : Tx) (script root : List ℕ) (value : Option (List ℕ)) → 0 < length block.txs → coinbase ≡ get_or block.txs 0 coinbase
    → Some script ≡ last_or None (commitments_in coinbase.outputs) → value ≡ reserved_in coinbase.inputs → root ≡ block_witness_root block → holds_root script root value ≡ committed block
unfolding committed
by_hash block coinbase script root value some is last kept same =
    ap (λ r. holds_root script r value) same ∙ ap (holds_root script (block_witness_root block)) (kept ∙ sym (reserved_of block.txs coinbase some is))
    ∙ ap (λ (o : Option (List ℕ)). committed_by o block) (last ∙ sym (ap (last_or None) (commitments_of block.txs coinbase some is)))

pub root_is : (block : Block) (ids : List (List ℕ)) (root : List ℕ) → ids ≡ witness_ids block.txs → root ≡ root_of ids → root ≡ block_witness_root block
unfolding block_witness_root
root_is block ids root are is = is ∙ ap root_of are

-- ---- the laws

pub one_id : (t : Tx) → t.marked ≡ false → wtxid t ≡ txid t
unfolding txid wtxid
one_id t plain = ap (λ (marked : Bool). double_hash (if marked then extended_form t else stripped_form t)) plain

pub none_needed : (block : Block) → some_marked block ≡ false → commitments block.txs ≡ [] → committed block ≡ true
unfolding committed
none_needed block plain none = ap (λ scripts. committed_by (last_or None scripts) block) none ∙ ap not plain

-- a block whose last commitment is made by its reserved value is committed
holds : (block : Block) (script value : List ℕ) → last_or None (commitments block.txs) ≡ Some script → reserved block.txs ≡ Some value
    → take 32 (drop 6 script) ≡ double_hash (block_witness_root block ++ value) → committed block ≡ true
unfolding committed
holds block script value last kept made =
    ap (λ (o : Option (List ℕ)). committed_by o block) last ∙ ap (holds_root script (block_witness_root block)) kept ∙ (bytes_eq-Decides (take 32 (drop 6 script)) (double_hash (block_witness_root block ++ value))).1 made

-- a made script commits
made_commits : (hash : List ℕ) → length hash ≡ 32 → commits (commitment_front ++ hash) ≡ true
made_commits hash long =
    let enough : 38 ≤ length (commitment_front ++ hash) = omega (arith, long) in
    ap (λ (b : Bool). not b && bytes_eq commitment_front commitment_front) (le-ltb (length (commitment_front ++ hash)) 38 enough)

kept_value : (inputs : List TxIn) (value : List ℕ) → length inputs ≡ 1 → length value ≡ 32 → reserved_in (map (λ (input : TxIn). record input { witness = value ∷ [] }) inputs) ≡ Some value
kept_value [] value one long = absurd (omega arith)
kept_value (input ∷ []) value one long = ap (λ (n : ℕ). if n == 32 then Some value else None) long
kept_value (input ∷ other ∷ inputs) value one long = absurd (omega arith)

one_input : (tx : Tx) → is_coinbase tx ≡ true → length tx.inputs ≡ 1
one_input tx is = eqb-true _ _ (front (length tx.inputs == 1) _ is) where
  front : (a b : Bool) → (a && b) ≡ true → a ≡ true
  front true b both = refl
  front false b both = both

pub made_holds : (block : Block) (coinbase : Tx) (others : List Tx) (value : List ℕ) → block.txs ≡ coinbase ∷ others → is_coinbase coinbase ≡ true → length value ≡ 32 → committed (committing value block) ≡ true
unfolding block_witness_root
made_holds block coinbase others value txs only long =
    let root : List ℕ = block_witness_root block in
    let hash : List ℕ = double_hash (root ++ value) in
    let long_hash : length hash ≡ 32 = length-sha256 _ in
    let made : first_committing root value block.txs ≡ with_commitment root value coinbase ∷ others = ap (first_committing root value) txs in
    let same : root ≡ block_witness_root (committing value block) = ap (λ all. root_of (witness_ids all)) txs ∙ sym (ap (λ all. root_of (witness_ids all)) made) in
    holds (committing value block) (commitment_front ++ hash) value
    (ap (λ all. last_or None (commitments all)) made ∙ commits_last coinbase.outputs (commitment_to root value) (made_commits hash long_hash))
    (ap reserved made ∙ kept_value coinbase.inputs value (one_input coinbase only) long)
    (take_all 32 hash (omega (arith, long_hash)) ∙ ap (λ r. double_hash (r ++ value)) same)
