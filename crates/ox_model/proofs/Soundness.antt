-- The index of every chain is sound.
use Rattle.std.proofs.Common.{◌≡◌, ◌∙◌, ◌≤◌, ℕ, ◌+◌, ◌^◌, Bool, true, false, List, [], ◌∷◌, ◌++◌, length, refl, sym, ap, subst, arith, Option, Some, None, Result, Ok, Err, nat_lt, length-append}
use Rattle.std.specs.Prelude.{if◌then◌else◌, fold, All}
use Rattle.std.specs.FinMap.{empty, get-empty}
use Rattle.std.proofs.lemmas.Bool.{ltb-false}
use Rattle.std.proofs.lemmas.Bool.Decides.{nat_tests}
use Rattle.std.proofs.lemmas.List.Elements.{All-nil}
use Rattle.ox_bytes.specs.Reading.{◌>>=◌}
use Rattle.ox_block.specs.Hashes.{block_hash, block_root}
use Rattle.ox_block.specs.Reading.{block_of}
use Rattle.ox_block.specs.declared.block.Tx.{Tx}
use Rattle.ox_block.specs.declared.block.Block.{Block}
use Rattle.ox_sat.specs.Profiles.{IsProfile}
use Rattle.ox_sat.specs.declared.profiles.Profile.{Profile}
use Rattle.ox_sat.specs.Heights.{first_at, subsidy_at}
use Rattle.ox_rules.specs.declared.refusal.Refusal.{Refusal}
use Rattle.ox_rules.specs.Newest.{newest_of}
use Rattle.ox_rules.specs.Outputs.{AreBelow, Outputs, outpoint_cmp, sats_held, times}
use Rattle.ox_rules.specs.Transfer.{Transferred, transfer_of}
use Rattle.ox_rules.proofs.Transfers.{none_held, first_next, counts_numbers, transfer_keeps}
use Rattle.ox_rules.proofs.Conservation.{times-append, times_held, bind_ok, ok_same}
use Rattle.ox_inscribe.specs.Reveal.{reveal_of}
use Rattle.ox_inscribe.specs.declared.row.InsRow.{InsRow}
use Rattle.ox_ledger.specs.Block.{runes_after}
use Rattle.ox_model.specs.Index.{Index, no_blocks, runes_of}
use Rattle.ox_model.specs.Step.{refuse_if, differ, misplaced_coinbase, refuse_misplaced, or_malformed, admission, grown_index, index_after, step}
use Rattle.ox_model.specs.Chain.{kept_index, after_block, index_of}
use Rattle.ox_model.specs.Sound.{IsSound, SoundHeights, SoundInscriptions, SoundOutputs, SoundRunes, SoundSats}
use Rattle.ox_model.proofs.FewTransactions.{few_transactions}
use Rattle.ox_model.proofs.Inscribed.{AreOf, more_rows, new_rows}
use Rattle.ox_model.proofs.RunesOfChains.{IsOfChain, Within, come_below, runes_first, stay_balanced, stay_within}

-- what holds by every profile
pub record IsPlain (p : Profile) (index : Index) : Type 0 where
  pub heights : SoundHeights p index
  pub outputs : SoundOutputs index
  pub sats : SoundSats p index
  pub inscriptions : SoundInscriptions p index

pub plain_of : (p : Profile) (index : Index) → IsSound p index → IsPlain p index
plain_of p index sound = record { heights = sound.heights; outputs = sound.outputs; sats = sound.sats; inscriptions = sound.inscriptions }

with_sound_runes : (p : Profile) (index : Index) → IsPlain p index → SoundRunes p index → IsSound p index
with_sound_runes p index plain runes = record {
  heights = plain.heights;
  outputs = plain.outputs;
  sats = plain.sats;
  inscriptions = plain.inscriptions;
  runes = runes;
}

-- ---- a block that is let in

passed : (fails : Bool) (refusal : Refusal) (x : Unit {0}) → refuse_if fails refusal ≡ Ok x → fails ≡ false
passed true refusal x is = absurd (cc is)
passed false refusal x is = refl

begun_right : (fault : Option ℕ) (x : Unit {0}) → refuse_misplaced fault ≡ Ok x → fault ≡ None
begun_right None x is = refl
begun_right (Some tx) x is = absurd (cc is)

-- it stands at a height that is indexed, and begins with its only coinbase
pub record Admits (p : Profile) (index : Index) (block : Block) : Type 0 where
  pub low : length index.hashes ≤ p.last
  pub begun : misplaced_coinbase block.txs ≡ None

pub admitted_right : (p : Profile) (index : Index) (block : Block) (x : Unit {0}) → admission p index.hashes block ≡ Ok x → Admits p index block
admitted_right p index block x is =
    let ended = bind_ok (refuse_if (nat_lt p.last (length index.hashes)) _) _ x is in
    let linked = bind_ok (refuse_if (differ block.header.previous (newest_of index.hashes)) _) _ x ended.2 in
    let rooted = bind_ok (refuse_if (differ block.header.root (block_root block)) _) _ x linked.2 in
    let begun = bind_ok (refuse_misplaced (misplaced_coinbase block.txs)) _ x rooted.2 in record {
      low = ltb-false _ _ (passed _ _ _ ended.1);
      begun = begun_right _ _ begun.1;
    }

-- so it has a coinbase
pub record HasCoinbase (txs : List Tx) : Type 0 where
  pub coinbase : Tx
  pub others : List Tx
  pub is : txs ≡ coinbase ∷ others

coinbase_of : (txs : List Tx) → misplaced_coinbase txs ≡ None → HasCoinbase txs
coinbase_of [] begun = absurd (cc begun)
coinbase_of (coinbase ∷ others) begun = record { coinbase = coinbase; others = others; is = refl }

-- ---- its transactions

-- what an index holds then but for its runes
plain_grown : (p : Profile) (index : Index) (block : Block) (after : Transferred) (coinbase : Tx) (others : List Tx) → block.txs ≡ coinbase ∷ others → length index.hashes ≤ p.last
    → IsPlain p index → transfer_of p (length index.hashes) (coinbase ∷ others) index.outs ≡ Ok after → IsPlain p (grown_index p index block after)
plain_grown p index block after coinbase others txs low sound is =
    let height : ℕ = length index.hashes in
    let does = transfer_keeps p height coinbase others index.outs after is in
    let higher : length (index.hashes ++ block_hash block.header ∷ []) ≡ height + 1 = length-append index.hashes _ in
    let new = new_rows p index coinbase others after sound.sats is in
    let more : List InsRow → Type 0 = λ rows. AreOf (height + 1) (first_at p (height + 1)) (index.inscriptions ++ rows) in
    let rows : AreOf (height + 1) (first_at p (height + 1)) (grown_index p index block after).inscriptions =
    subst (λ (all : List Tx). more (reveal_of index.inscriptions height all after.moved.txs)) (sym txs)
    (more_rows p height index.inscriptions _ (record { below = sound.inscriptions.below; minted = sound.inscriptions.minted }) new) in
    let placed : AreOf (length (index.hashes ++ block_hash block.header ∷ [])) (first_at p (length (index.hashes ++ block_hash block.header ∷ []))) (grown_index p index block after).inscriptions =
    subst (λ (h : ℕ). AreOf h (first_at p h) (grown_index p index block after).inscriptions) (sym higher) rows in record {
      heights = record { last = omega arith };
      outputs = record {
        below = subst (λ (h : ℕ). AreBelow h after.outs) (sym higher) (does.below (λ at row there. omega (arith, sound.outputs.below at row there)));
      };
      sats = record {
        once = λ sat.
            let before : times sat (sats_held index.outs ++ index.lost) ≡ times sat (sats_held index.outs) + times sat index.lost = times-append sat (sats_held index.outs) index.lost in
            let now : times sat (sats_held after.outs ++ (index.lost ++ after.moved.lost)) ≡ times sat (sats_held after.outs) + times sat (index.lost ++ after.moved.lost) = times-append sat (sats_held after.outs) (index.lost ++ after.moved.lost) in
            let minted : first_at p (height + 1) ≡ first_at p height + subsidy_at p height = first_next p height in
            let ends = ap {B = ℕ} (λ (h : ℕ). if nat_lt sat (first_at p h) then 1 else 0) higher in
            let grows = ap {B = ℕ} (λ (n : ℕ). if nat_lt sat n then 1 else 0) minted in
            omega (arith, before, now, ends, grows, sound.sats.once sat, counts_numbers sat (first_at p height) (subsidy_at p height), (does.keeps sat).keeps, times_held sat index.outs, times_held sat after.outs, times-append sat index.lost after.moved.lost);
      };
      inscriptions = record { below = placed.below; minted = placed.minted };
    }

-- and its runes
runes_grown : (p : Profile) (index : Index) (block : Block) (after : Transferred) (coinbase : Tx) (others : List Tx) → block.txs ≡ coinbase ∷ others → IsProfile p → length block.txs ≤ 2 ^ 32
    → SoundRunes p index → transfer_of p (length index.hashes) (coinbase ∷ others) index.outs ≡ Ok after → SoundRunes p (grown_index p index block after)
runes_grown p index block after coinbase others txs known few sound is =
    let height : ℕ = length index.hashes in
    let new = grown_index p index block after in
    let higher : length (index.hashes ++ block_hash block.header ∷ []) ≡ height + 1 = length-append index.hashes _ in record {
      balanced = stay_balanced p height block.txs after.moved.txs (runes_of index) known few sound.below sound.balanced;
      below = subst (λ (h : ℕ). All (IsOfChain p h) new.runes) (sym higher) (come_below p height block.txs after.moved.txs (runes_of index) sound.below);
      placed = subst (λ (all : List Tx). Within (runes_after p height all after.moved.txs (runes_of index)).bal after.outs) (sym txs)
          (stay_within p height coinbase others index.outs after index.bal index.runes is sound.placed);
    }

moved_by : (p : Profile) (height : ℕ) (txs : List Tx) (outs : Outputs) (after : Transferred) (coinbase : Tx) (others : List Tx) → txs ≡ coinbase ∷ others → transfer_of p height txs outs ≡ Ok after
    → transfer_of p height (coinbase ∷ others) outs ≡ Ok after
moved_by p height txs outs after coinbase others is moved = subst (λ (all : List Tx). transfer_of p height all outs ≡ Ok after) is moved

grown_plain : (p : Profile) (index : Index) (block : Block) (after : Transferred) → IsPlain p index → Admits p index block → transfer_of p (length index.hashes) block.txs index.outs ≡ Ok after
    → IsPlain p (grown_index p index block after)
grown_plain p index block after sound admits is =
    let has = coinbase_of block.txs admits.begun in
    plain_grown p index block after has.coinbase has.others has.is admits.low sound (moved_by p (length index.hashes) block.txs index.outs after has.coinbase has.others has.is is)

-- an index that has taken in a block of few transactions is sound again
pub grown_sound : (p : Profile) (index : Index) (block : Block) (after : Transferred) → IsProfile p → length block.txs ≤ 2 ^ 32 → IsSound p index → Admits p index block
    → transfer_of p (length index.hashes) block.txs index.outs ≡ Ok after → IsSound p (grown_index p index block after)
grown_sound p index block after known few sound admits is =
    let has = coinbase_of block.txs admits.begun in
    with_sound_runes p (grown_index p index block after) (grown_plain p index block after (plain_of p index sound) admits is)
    (runes_grown p index block after has.coinbase has.others has.is known few sound.runes (moved_by p (length index.hashes) block.txs index.outs after has.coinbase has.others has.is is))

-- ---- the index of a chain

-- what a block that is accepted leaves
pub record Grows (p : Profile) (index : Index) (new : Index) : Type 0 where
  pub block : Block
  pub after : Transferred
  pub few : length block.txs ≤ 2 ^ 32
  pub admits : Admits p index block
  pub moves : transfer_of p (length index.hashes) block.txs index.outs ≡ Ok after
  pub is : grown_index p index block after ≡ new

accepts : (p : Profile) (index : Index) (block : Block) (new : Index) → length block.txs ≤ 2 ^ 32 → index_after p index block ≡ Ok new → Grows p index new
accepts p index block new few is =
    let begun = bind_ok (admission p index.hashes block) _ new is in
    let after = bind_ok (transfer_of p (length index.hashes) block.txs index.outs) _ new begun.2 in record {
      block = block;
      after = after.0;
      few = few;
      admits = admitted_right p index block begun.0 begun.1;
      moves = after.1;
      is = ok_same {F = Refusal} _ _ after.2;
    }

reads : (p : Profile) (index : Index) (read : Result Block ℕ) (new : Index) → ((block : Block) → read ≡ Ok block → length block.txs ≤ 2 ^ 32)
    → (or_malformed read >>= index_after p index) ≡ Ok new → Grows p index new
reads p index (Ok block) new few is = accepts p index block new (few block refl) is
reads p index (Err at) new few is = absurd (cc is)

pub step_grows : (p : Profile) (index : Index) (bytes : List ℕ) (new : Index) → step p index bytes ≡ Ok new → Grows p index new
unfolding step
step_grows p index bytes new is = reads p index (block_of bytes) new (few_transactions bytes) is

-- a block that is accepted leaves a sound index
step_plain : (p : Profile) (index : Index) (bytes : List ℕ) (new : Index) → IsPlain p index → step p index bytes ≡ Ok new → IsPlain p new
step_plain p index bytes new sound is =
    let grows = step_grows p index bytes new is in
    subst (IsPlain p) grows.is (grown_plain p index grows.block grows.after sound grows.admits grows.moves)

step_sound : (p : Profile) (index : Index) (bytes : List ℕ) (new : Index) → IsProfile p → IsSound p index → step p index bytes ≡ Ok new → IsSound p new
step_sound p index bytes new known sound is =
    let grows = step_grows p index bytes new is in
    subst (IsSound p) grows.is (grown_sound p index grows.block grows.after known grows.few sound grows.admits grows.moves)

plain_first : (p : Profile) → IsPlain p (no_blocks p)
unfolding first_at
plain_first p = record {
  heights = record { last = omega arith };
  outputs = record { below = λ at row is. absurd (cc (sym (get-empty outpoint_cmp at) ∙ is)) };
  sats = record {
    once = λ sat. let none : times sat (sats_held empty) ≡ 0 = times_held sat empty ∙ none_held sat in grind (arith, nat_tests, times-append sat (sats_held empty) [], none);
  };
  inscriptions = record { below = All-nil _; minted = All-nil _ };
}

pub sound_first : (p : Profile) → IsSound p (no_blocks p)
sound_first p = with_sound_runes p (no_blocks p) (plain_first p) (runes_first p (no_blocks p) refl refl refl)

-- what each block keeps holds of every chain
pub kept_by : (p : Profile) (P : Index → Type 0) → ((index : Index) (bytes : List ℕ) (new : Index) → P index → step p index bytes ≡ Ok new → P new)
    → (index : Index) (blocks : List (List ℕ)) → P index → P (fold (after_block p) index blocks)
kept_by p P keeps index [] holds = holds
kept_by p P keeps index (bytes ∷ blocks) holds = kept_by p P keeps (after_block p index bytes) blocks (by_result (step p index bytes) refl) where
  by_result : (r : Result Index Refusal) → step p index bytes ≡ r → P (kept_index index r)
  by_result (Ok new) is = keeps index bytes new holds is
  by_result (Err refusal) is = holds

pub plain_chain : (p : Profile) (blocks : List (List ℕ)) → IsPlain p (index_of p blocks)
plain_chain p blocks = kept_by p (IsPlain p) (step_plain p) (no_blocks p) blocks (plain_first p)

pub sound_chain : (p : Profile) (blocks : List (List ℕ)) → IsProfile p → IsSound p (index_of p blocks)
sound_chain p blocks known = kept_by p (IsSound p) (λ index bytes new sound is. step_sound p index bytes new known sound is) (no_blocks p) blocks (sound_first p)
