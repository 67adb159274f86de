-- Each made block is accepted behind those before it: it passes every test, and its satoshis move.
use Rattle.std.proofs.Common.{◌≡◌, ◌≢◌, ◌∙◌, ◌≤◌, ℕ, zero, suc, ◌-◌, Bool, true, false, cond, not, List, [], ◌∷◌, ◌++◌, length, get_or, take, drop, Option, Some, None, Result, Ok, refl, sym, ap, subst, arith, length-append, nat_lt, ◌<◌, ◌+◌}
use Rattle.std.specs.Prelude.{◌&&◌, bytes_eq, replicate}
use Rattle.std.specs.FinMap.{get, insert, remove, get-insert}
use Rattle.std.specs.Ordering.{eq_by_cmp, is_eq}
use Rattle.std.specs.declared.cmp.Ordering.{Ordering}
use Rattle.std.specs.declared.cmp.Ordering.TheVariants.{Less, Equal, Greater}
use Rattle.std.specs.List.{last_or}
use Rattle.std.proofs.Math.Seq.{get_or-append_seam}
use Rattle.std.proofs.lemmas.Bool.{le-ltb}
use Rattle.std.proofs.lemmas.Cmp.{eq_by_cmp_equiv}
use Rattle.std.proofs.lemmas.List.{length-take-le}
use Rattle.std.proofs.lemmas.List.Sums.{fold_push}
use Rattle.std.proofs.lemmas.Option.{unwrap_or-slice_get}
use Rattle.std.proofs.lemmas.Slice.Eq.{bytes_eq-Decides}
use Rattle.sha2.proofs.Facts256.{length-sha256}
use Rattle.ox_bytes.specs.Reading.{◌>>=◌}
use Rattle.ox_block.specs.Coinbase.{has_null, is_coinbase}
use Rattle.ox_block.specs.Commitment.{committed, committed_by, committing, commitments, with_commitment}
use Rattle.ox_block.specs.Hashes.{block_hash, block_root, block_witness_root, txid}
use Rattle.ox_block.specs.Reading.{block_of}
use Rattle.ox_block.specs.Spelling.{spell}
use Rattle.ox_block.specs.declared.block.Block.{Block}
use Rattle.ox_block.specs.declared.block.OutPoint.{OutPoint}
use Rattle.ox_block.specs.declared.block.Tx.{Tx}
use Rattle.ox_block.specs.declared.block.Txid.{Txid}
use Rattle.ox_block.proofs.Commitments.{made_holds}
use Rattle.ox_gen.specs.Made.{bare_header, claim, coinbase, made_block, others, spend, zeros}
use Rattle.ox_gen.proofs.LawfulBlocks.{reads_back}
use Rattle.ox_sat.specs.Heights.{first_at, subsidy_at}
use Rattle.ox_sat.specs.Profiles.{profile_named}
use Rattle.ox_sat.specs.declared.profiles.Profile.{Profile}
use Rattle.ox_sat.specs.declared.profiles.ProfileName.TheVariants.{Regtest}
use Rattle.ox_range.specs.Numbers.{numbers_from}
use Rattle.ox_range.proofs.RunLemmas.{length-numbers_from}
use Rattle.ox_rules.specs.declared.refusal.Refusal.{Refusal}
use Rattle.ox_rules.specs.declared.rows.OutRow.{OutRow}
use Rattle.ox_rules.specs.Deal.{deal}
use Rattle.ox_rules.specs.Newest.{newest_of, zero_hash}
use Rattle.ox_rules.specs.Outputs.{Outputs, outpoint_cmp, sats_of}
use Rattle.ox_rules.specs.Transfer as transfers
use Rattle.ox_rules.specs.Transfer.{Spent, Taken, Transferred, claimable_sats, claimed_by, or_refuse, spend_all, spent_by, take_rows, transfer_of, txid_of, values_of}
use Rattle.ox_rules.proofs.Orders.{outpoints_exact, outpoints_total}
use Rattle.ox_model.specs.Chain.{after_block, index_of, kept_index}
use Rattle.ox_model.specs.Index.{Index, no_blocks}
use Rattle.ox_model.specs.Step.{admission, differ, grown_index, index_after, misplaced_coinbase, or_malformed, refuse_if, refuse_misplaced, step}
use Rattle.ox_drill.specs.Blocks.{behind_of, paid_before, tip_before}
use Rattle.ox_drill.specs.declared.blocks.Behind.{Behind}
use Rattle.ox_drill.specs.Chain.{coinbase_id, drill_block, drill_chain}

abbrev pub regtest : Profile
regtest = profile_named Regtest

-- where the first of two readings gives a value, both together give what the second one does
pub bound : {A B F : Type 0} (r : Result A F) (f : A → Result B F) (x : A) (y : Result B F) → r ≡ Ok x → f x ≡ y → (r >>= f) ≡ y
bound r f x y e g = ap (λ (s : _). s >>= f) e ∙ g

-- ---- the tests

passes : (fails : Bool) (refusal : Refusal) → fails ≡ false → refuse_if fails refusal ≡ Ok tt
passes fails refusal e = ap (λ (b : Bool). refuse_if b refusal) e

agree : (a b : List ℕ) → a ≡ b → differ a b ≡ false
agree a b e = ap not ((bytes_eq-Decides a b).1 e)

and_false : (b : Bool) → (b && false) ≡ false
and_false true = refl
and_false false = refl

one_coinbase : (first : Tx) → is_coinbase first ≡ true → misplaced_coinbase (first ∷ []) ≡ None
one_coinbase first is = rw is refl

one_of_two : (first tx : Tx) → is_coinbase first ≡ true → has_null tx ≡ false → misplaced_coinbase (first ∷ tx ∷ []) ≡ None
one_of_two first tx is other = rw (is, other) refl

some_output : (height : ℕ) (paid : List ℕ) → has_null (spend height (record { txid = record { 0 = paid }; index = 0 })) ≡ false
some_output height paid = rw (and_false (bytes_eq paid (replicate 32 0))) refl

-- the coinbase of a made block
abbrev first_of : ℕ → List ℕ → List ℕ → Tx
first_of height tip paid =
    let bare : Block = record { header = bare_header height tip; txs = coinbase height ∷ others height (record { txid = record { 0 = paid }; index = 0 }) } in
    with_commitment (block_witness_root bare) zeros (coinbase height)

well_begun : (height : ℕ) (tip paid : List ℕ) → misplaced_coinbase (made_block height tip paid).txs ≡ None
well_begun zero tip paid = one_coinbase (first_of 0 tip paid) refl
well_begun (suc before) tip paid = one_of_two (first_of (suc before) tip paid) (spend (suc before) (record { txid = record { 0 = paid }; index = 0 })) refl (some_output (suc before) paid)

-- a header has no bearing on the commitment
same_by : (last : Option (List ℕ)) (a b : Block) → a.txs ≡ b.txs → committed_by last a ≡ committed_by last b
unfolding block_witness_root
same_by None a b same = ap (λ (txs : List Tx). committed_by None (record a { txs = txs })) same
same_by (Some script) a b same = ap (λ (txs : List Tx). committed_by (Some script) (record a { txs = txs })) same

same_committed : (a b : Block) → a.txs ≡ b.txs → committed a ≡ committed b
unfolding committed
same_committed a b same = same_by (last_or None (commitments a.txs)) a b same ∙ ap (λ (txs : List Tx). committed_by (last_or None (commitments txs)) b) same

does_commit : (height : ℕ) (tip paid : List ℕ) → committed (made_block height tip paid) ≡ true
does_commit height tip paid =
    let bare : Block = record { header = bare_header height tip; txs = coinbase height ∷ others height (record { txid = record { 0 = paid }; index = 0 }) } in
    same_committed (made_block height tip paid) (committing zeros bare) refl
    ∙ made_holds bare (coinbase height) (others height (record { txid = record { 0 = paid }; index = 0 })) zeros refl refl refl

well_rooted : (height : ℕ) (tip paid : List ℕ) → (made_block height tip paid).header.root ≡ block_root (made_block height tip paid)
unfolding block_root
well_rooted height tip paid = refl

admitted : (height : ℕ) (tip paid : List ℕ) (hashes : List (List ℕ)) → length hashes ≡ height → height ≤ 4000000000 → tip ≡ newest_of hashes
    → admission regtest hashes (made_block height tip paid) ≡ Ok tt
admitted height tip paid hashes many low linked =
    let block : Block = made_block height tip paid in
    bound (refuse_if (nat_lt 4000000000 (length hashes)) _) _ tt _ (passes _ _ (le-ltb 4000000000 (length hashes) (omega (arith, many, low))))
    (bound (refuse_if (differ block.header.previous (newest_of hashes)) _) _ tt _ (passes _ _ (agree _ _ linked))
    (bound (refuse_if (differ block.header.root (block_root block)) _) _ tt _ (passes _ _ (agree _ _ (well_rooted height tip paid)))
    (bound (refuse_misplaced (misplaced_coinbase block.txs)) _ tt _ (ap refuse_misplaced (well_begun height tip paid))
    (passes _ _ (ap (λ (c : Bool). not (nat_lt (length hashes) 0) && not c) (does_commit height tip paid) ∙ and_false _)))))

-- ---- the satoshis

-- the outpoint of a transaction's output
abbrev at : List ℕ → ℕ → OutPoint
at id index = record { txid = record { 0 = id }; index = index }

-- output 0 of the coinbase with this id stands unspent, with what the coinbase of that height claims
pub record Pays (height : ℕ) (id : List ℕ) (outs : Outputs) : Type 0 where
  pub row : OutRow
  pub there : get outs (at id 0) ≡ Some row
  pub many : length row.sats ≡ claim height

deal_two : (list : List ℕ) (a : ℕ) → a ≤ length list → deal list (a ∷ 0 ∷ []) ≡ Some (take a list ∷ take 0 (drop a list) ∷ [], drop 0 (drop a list))
deal_two list a enough = rw (le-ltb (length list) a enough, le-ltb (length (drop a list)) 0 (omega arith)) refl

-- what a made transaction does: it spends this row
spends : (before : ℕ) (paid : List ℕ) (outs : Outputs) → Pays before paid outs → (spent : Spent) × (spend_all (suc before) 1 (spend (suc before) (at paid 0) ∷ []) outs ≡ Ok spent)
spends before paid outs pays =
    let tx : Tx = spend (suc before) (at paid 0) in
    let taken : Taken = record { rows = pays.row ∷ []; outs = remove outs (at paid 0) } in
    let sats = sats_of (pays.row ∷ []) in
    let worth : ℕ = claim (suc before - 1) in
    let same : claim before ≡ worth = ap claim (let e : before ≡ suc before - 1 = omega arith in e) in
    let enough : worth ≤ length sats = subst (λ (n : ℕ). n ≤ length sats) same (omega (arith, pays.many, length-append pays.row.sats [])) in
    let dealt : List (List ℕ) × List ℕ = (take worth sats ∷ take 0 (drop worth sats) ∷ [], drop 0 (drop worth sats)) in
    let takes : take_rows 1 0 tx.inputs outs ≡ Ok taken = rw pays.there refl in
    let deals : deal sats (values_of tx) ≡ Some dealt = deal_two sats worth enough in
    let first : transfers.spend (suc before) 1 tx outs ≡ Ok (spent_by (suc before) tx taken dealt) =
    bound (take_rows 1 0 tx.inputs outs) _ taken _ takes (bound (or_refuse _ (deal sats (values_of tx))) _ dealt _ (ap (or_refuse _) deals) refl) in
    (_, bound (transfers.spend (suc before) 1 tx outs) _ (spent_by (suc before) tx taken dealt) _ first refl)

get_same : (outs : Outputs) (q : OutPoint) (row : OutRow) → get (insert outs q row) q ≡ Some row
get_same outs q row = get-insert outpoints_total outs q row q ∙ ap (λ (b : Bool). cond b (Some row) (get outs q)) ((eq_by_cmp_equiv outpoints_total).refl q)

equal_of : (r : Ordering) → is_eq r ≡ true → r ≡ Equal
equal_of Less e = absurd (cc e)
equal_of Equal e = refl
equal_of Greater e = absurd (cc e)

get_other : (outs : Outputs) (new : OutPoint) (row : OutRow) (q : OutPoint) → q ≢ new → get (insert outs new row) q ≡ get outs q
get_other outs new row q differs = get-insert outpoints_total outs new row q ∙ by_test (eq_by_cmp outpoint_cmp q new) refl
  where
    by_test : (b : Bool) → eq_by_cmp outpoint_cmp q new ≡ b → cond b (Some row) (get outs q) ≡ get outs q
    by_test true e = absurd (differs (outpoints_exact q new (equal_of (outpoint_cmp q new) e)))
    by_test false e = refl

two_places : (id : List ℕ) → at id 0 ≢ at id 1
two_places id same = omega (arith, ap (λ (o : OutPoint). o.index) same)

-- the first of two outputs stands after both are placed
first_stands : (id : List ℕ) (outs : Outputs) (a b : OutRow) → get (insert (insert outs (at id 0) a) (at id 1) b) (at id 0) ≡ Some a
first_stands id outs a b = get_other (insert outs (at id 0) a) (at id 1) b (at id 0) (two_places id) ∙ get_same outs (at id 0) a

-- what a made coinbase does
record Claims (height : ℕ) (first : Tx) (spent : Spent) : Type 0 where
  after : Transferred
  is : transfers.claim regtest height first spent ≡ Ok after
  pays : Pays height (txid first) after.outs

claims : (height : ℕ) (root : List ℕ) (spent : Spent) → Claims height (with_commitment root zeros (coinbase height)) spent
claims height root spent =
    let first : Tx = with_commitment root zeros (coinbase height) in
    let sats = claimable_sats regtest height spent.fees in
    let minted = numbers_from (first_at regtest height) (subsidy_at regtest height) in
    let enough : claim height ≤ length sats = omega (arith, length-append minted spent.fees, length-numbers_from (first_at regtest height) (subsidy_at regtest height)) in
    let dealt : List (List ℕ) × List ℕ = (take (claim height) sats ∷ take 0 (drop (claim height) sats) ∷ [], drop 0 (drop (claim height) sats)) in
    let deals : deal sats (values_of first) ≡ Some dealt = deal_two sats (claim height) enough in record {
      after = claimed_by height first spent dealt;
      is = bound (or_refuse _ (deal sats (values_of first))) _ dealt _ (ap (or_refuse _) deals) refl;
      pays = record { row = _; there = first_stands (txid first) spent.outs _ _; many = length-take-le (claim height) sats enough };
    }

-- before the first block there is nothing to be spent
abbrev pub PaysBefore : ℕ → List ℕ → Outputs → Type 0
PaysBefore zero id outs = Unit {0}
PaysBefore (suc before) id outs = Pays before id outs

-- what a made block does
record Moves (height : ℕ) (tip paid : List ℕ) (outs : Outputs) : Type 0 where
  after : Transferred
  is : transfer_of regtest height (made_block height tip paid).txs outs ≡ Ok after
  pays : Pays height (coinbase_id (made_block height tip paid).txs) after.outs

moves : (height : ℕ) (tip paid : List ℕ) (outs : Outputs) → PaysBefore height paid outs → Moves height tip paid outs
moves zero tip paid outs before =
    let root = block_witness_root (record { header = bare_header 0 tip; txs = coinbase 0 ∷ [] }) in
    let does = claims 0 root (record { moved = []; lost = []; fees = []; outs = outs }) in
    record { after = does.after; is = does.is; pays = does.pays }
moves (suc below) tip paid outs before =
    let height : ℕ = suc below in
    let root = block_witness_root (record { header = bare_header height tip; txs = coinbase height ∷ spend height (at paid 0) ∷ [] }) in
    let spent = spends below paid outs before in
    let does = claims height root spent.0 in
    record { after = does.after; is = bound (spend_all height 1 (spend height (at paid 0) ∷ []) outs) _ spent.0 _ spent.1 does.is; pays = does.pays }

-- ---- a chain of them

-- the newest hash is that of this block, and its coinbase's claim stands unspent
newest_behind : (hashes : List (List ℕ)) (hash : List ℕ) → newest_of (hashes ++ hash ∷ []) ≡ hash
newest_behind hashes hash =
    let all = hashes ++ hash ∷ [] in
    let last : length all - 1 ≡ length hashes = omega (arith, length-append hashes (hash ∷ [])) in
    unwrap_or-slice_get all (length all - 1) zero_hash ∙ ap (λ (i : ℕ). get_or all i zero_hash) last ∙ get_or-append_seam hashes hash [] zero_hash

is_made : (height : ℕ) → drill_block height ≡ made_block height (tip_before height) (paid_before height)
unfolding drill_block
is_made zero = refl
is_made (suc before) = refl

tip_long : (height : ℕ) → length (tip_before height) ≡ 32
unfolding block_hash
tip_long zero = refl
tip_long (suc before) = length-sha256 _

first_id_long : (height : ℕ) (tip paid : List ℕ) → length (coinbase_id (made_block height tip paid).txs) ≡ 32
unfolding txid
first_id_long height tip paid = length-sha256 _

paid_long : (height : ℕ) → length (paid_before height) ≡ 32
paid_long zero = refl
paid_long (suc before) = ap (λ (b : Block). length (coinbase_id b.txs)) (is_made before) ∙ first_id_long before (tip_before before) (paid_before before)

-- the index of the made blocks below a height
pub record Stands (height : ℕ) (index : Index) : Type 0 where
  pub many : length index.hashes ≡ height
  pub tip : tip_before height ≡ newest_of index.hashes
  pub pays : PaysBefore height (paid_before height) index.outs

-- the next one is accepted
pub record Goes (height : ℕ) (index : Index) : Type 0 where
  pub new : Index
  pub is : step regtest index (spell (drill_block height)) ≡ Ok new
  pub stands : Stands (suc height) new

goes_made : (height : ℕ) (block : Block) (index : Index) → drill_block height ≡ block → block ≡ made_block height (tip_before height) (paid_before height) → height ≤ 4000000000 → Stands height index → Goes height index
unfolding step
goes_made height block index here is low stands =
    let tip = tip_before height in
    let paid = paid_before height in
    let made : Block = made_block height tip paid in
    let same : drill_block height ≡ made = here ∙ is in
    let does = moves height tip paid index.outs stands.pays in
    let new : Index = grown_index regtest index made does.after in
    let reads : block_of (spell made) ≡ Ok made = reads_back height tip paid (omega (arith, low)) (tip_long height) (paid_long height) in
    let moved : transfer_of regtest (length index.hashes) made.txs index.outs ≡ Ok does.after = ap (λ (h : ℕ). transfer_of regtest h made.txs index.outs) stands.many ∙ does.is in
    let after : index_after regtest index made ≡ Ok new =
    bound (admission regtest index.hashes made) _ tt _ (admitted height tip paid index.hashes stands.many low stands.tip)
    (bound (transfer_of regtest (length index.hashes) made.txs index.outs) _ does.after _ moved refl) in
    let steps : step regtest index (spell made) ≡ Ok new = ap (λ (r : Result Block ℕ). or_malformed r >>= index_after regtest index) reads ∙ after in record {
      new = new;
      is = ap (λ (b : Block). step regtest index (spell b)) same ∙ steps;
      stands = record {
        many = omega (arith, length-append index.hashes (block_hash made.header ∷ []), stands.many);
        tip = ap (λ (b : Block). block_hash b.header) same ∙ sym (newest_behind index.hashes (block_hash made.header));
        pays = subst (λ (b : Block). Pays height (coinbase_id b.txs) does.after.outs) (sym same) does.pays;
      };
    }

pub goes : (height : ℕ) (index : Index) → height ≤ 4000000000 → Stands height index → Goes height index
goes height index low stands = goes_made height (drill_block height) index refl (is_made height) low stands

pub chain_stands : (height : ℕ) → height ≤ 4000000000 → Stands height (index_of regtest (drill_chain height))
unfolding drill_chain
chain_stands zero low = record { many = refl; tip = refl; pays = tt }
chain_stands (suc before) low =
    let next = goes before (index_of regtest (drill_chain before)) (omega (arith, low)) (chain_stands before (omega (arith, low))) in
    let newest : index_of regtest (drill_chain before ++ spell (drill_block before) ∷ []) ≡ next.new =
    fold_push (after_block regtest) (no_blocks regtest) (drill_chain before) (spell (drill_block before)) ∙ ap (kept_index (index_of regtest (drill_chain before))) next.is in
    subst (Stands (suc before)) (sym newest) next.stands

-- ---- one block after the other

-- a made block has a transaction
some_tx : (height : ℕ) → 0 < length (drill_block height).txs
some_tx height = subst (λ (b : Block). 0 < length b.txs) (sym (is_made height)) (omega arith)

first_id : (txs : List Tx) (d : Tx) → 0 < length txs → coinbase_id txs ≡ txid (get_or txs 0 d)
first_id [] d some = absurd (omega arith)
first_id (tx ∷ txs) d some = refl

goes_behind : (height : ℕ) → ◌≡◌ {A = Behind} (behind_of (height + 1)) (record { height = height + 1; tip = block_hash (drill_block height).header; paid = record { 0 = coinbase_id (drill_block height).txs } })
goes_behind height =
    let next : height + 1 ≡ suc height = omega arith in
    subst (λ (n : ℕ). ◌≡◌ {A = Behind} (behind_of n) (record { height = n; tip = block_hash (drill_block height).header; paid = record { 0 = coinbase_id (drill_block height).txs } })) (sym next) refl

-- the block behind what its height stands behind
pub block_is : (height : ℕ) (behind : Behind) (b : Block) → behind ≡ behind_of height → b ≡ made_block height behind.tip behind.paid.0 → b ≡ drill_block height
block_is height behind b place made = made ∙ ap (λ (x : Behind). made_block height x.tip x.paid.0) place ∙ sym (is_made height)

pub next_is : (height : ℕ) (b : Block) (tip : List ℕ) (paid : Txid) (tx : Tx) → b ≡ drill_block height → tip ≡ block_hash b.header → paid.0 ≡ txid tx → tx ≡ get_or b.txs 0 tx
    → ◌≡◌ {A = Behind} (record { height = height + 1; tip = tip; paid = paid }) (behind_of (height + 1))
next_is height b tip paid tx is tip_is paid_is first =
    let some : 0 < length b.txs = subst (λ (x : Block). 0 < length x.txs) (sym is) (some_tx height) in
    let id : paid.0 ≡ coinbase_id (drill_block height).txs = paid_is ∙ ap txid first ∙ sym (first_id b.txs tx some) ∙ ap (λ (x : Block). coinbase_id x.txs) is in
    let hash : tip ≡ block_hash (drill_block height).header = tip_is ∙ ap (λ (x : Block). block_hash x.header) is in
    let same : ◌≡◌ {A = Behind} (record { height = height + 1; tip = tip; paid = paid }) (record { height = height + 1; tip = block_hash (drill_block height).header; paid = record { 0 = coinbase_id (drill_block height).txs } }) =
    λ i. record { height = height + 1; tip = hash i; paid = record { 0 = id i } } in
    same ∙ sym (goes_behind height)
