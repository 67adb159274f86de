-- What one block makes of an index, or why it is refused. The tests come in this order, and the
-- first that fails decides.
use Rattle.std.specs.Prelude.{ℕ, ◌+◌, Bool, not, bytes_eq, List, [], ◌∷◌, ◌++◌, length, Option}
use Rattle.std.specs.Prelude.{Some, None, option_map, position, Result, Ok, Err, nat_lt, ◌&&◌}
use Rattle.std.specs.Prelude.{if◌then◌else◌}
use Rattle.ox_bytes.specs.Reading.{◌>>=◌}
use Rattle.ox_block.specs.declared.block.Tx.{Tx}
use Rattle.ox_block.specs.declared.block.Block.{Block}
use Rattle.ox_block.specs.Coinbase.{has_null, is_coinbase}
use Rattle.ox_block.specs.Commitment.{committed}
use Rattle.ox_block.specs.Reading.{block_of}
use Rattle.ox_block.specs.Hashes.{block_hash, block_root}
use Rattle.ox_sat.specs.declared.profiles.Profile.{Profile}
use Rattle.ox_rules.specs.declared.refusal.Refusal.{Refusal}
use Rattle.ox_rules.specs.declared.refusal.Refusal.TheVariants.{Malformed, ChainEnd, Unlinked}
use Rattle.ox_rules.specs.declared.refusal.Refusal.TheVariants.{BadRoot, Coinbase, BadWitness}
use Rattle.ox_rules.specs.Newest.{newest_of}
use Rattle.ox_rules.specs.Transfer.{Transferred, transfer_of}
use Rattle.ox_inscribe.specs.Reveal.{reveal_of}
use Rattle.ox_ledger.specs.Block.{runes_after}
use Rattle.ox_model.specs.Index.{Index, runes_of}

-- where a test fails it is this refusal
abbrev pub refuse_if : Bool → Refusal → Result (Unit {0}) Refusal
refuse_if fails refusal = if fails then Err refusal else Ok tt

abbrev pub differ : List ℕ → List ℕ → Bool
differ a b = not (bytes_eq a b)

-- the first transaction that is a coinbase and mustn't be one, or isn't and must: the first of a
-- block is one, and no other has an input that names no output
abbrev pub misplaced_coinbase : List Tx → Option ℕ
misplaced_coinbase [] = Some 0
misplaced_coinbase (tx ∷ txs) =
    if is_coinbase tx then option_map (λ place. place + 1) (position has_null txs) else Some 0

abbrev pub refuse_misplaced : Option ℕ → Result (Unit {0}) Refusal
refuse_misplaced None = Ok tt
refuse_misplaced (Some tx) = Err (Coinbase tx)

abbrev pub or_malformed : Result Block ℕ → Result Block Refusal
or_malformed (Ok block) = Ok block
or_malformed (Err at) = Err (Malformed at)

-- from the profile's height on a block that doesn't commit to its witnesses as it has to
abbrev pub lacks_commitment : Profile → ℕ → Block → Bool
lacks_commitment p height block = not (nat_lt height p.commitment) && not (committed block)

-- the tests of a block at the height after the newest, whose chain has these hashes, that come
-- before any satoshi moves
abbrev pub admission : Profile → List (List ℕ) → Block → Result (Unit {0}) Refusal
admission p hashes block = do
  ended ← refuse_if (nat_lt p.last (length hashes)) (ChainEnd (length hashes))
  linked ← refuse_if (differ block.header.previous (newest_of hashes))
      (Unlinked block.header.previous (newest_of hashes))
  rooted ← refuse_if (differ block.header.root (block_root block))
      (BadRoot block.header.root (block_root block))
  begun ← refuse_misplaced (misplaced_coinbase block.txs)
  refuse_if (lacks_commitment p (length hashes) block) BadWitness

-- the index with a block whose satoshis have moved: what it reveals comes behind the inscriptions,
-- and its runes move by what its transactions spent
abbrev pub grown_index : Profile → Index → Block → Transferred → Index
grown_index p index block after =
    let height = length index.hashes in
    let moved = after.moved.txs in
    let runes = runes_after p height block.txs moved (runes_of index) in record {
      hashes = index.hashes ++ block_hash block.header ∷ [];
      outs = after.outs;
      lost = index.lost ++ after.moved.lost;
      inscriptions =
          index.inscriptions ++ reveal_of index.inscriptions height block.txs moved;
      bal = runes.bal;
      runes = runes.runes;
    }

-- the index after a block
abbrev pub index_after : Profile → Index → Block → Result Index Refusal
index_after p index block = do
  admitted ← admission p index.hashes block
  after ← transfer_of p (length index.hashes) block.txs index.outs
  Ok (grown_index p index block after)

-- the index after the block that these bytes spell
unfoldable pub step : Profile → Index → List ℕ → Result Index Refusal
step p index bytes = or_malformed (block_of bytes) >>= index_after p index
