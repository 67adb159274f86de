-- The step of an index, case by case.
use Rattle.std.proofs.Common.{◌≡◌, ◌∙◌, ◌≤◌, ◌<◌, ℕ, ◌+◌, ◌^◌, List, [], ◌∷◌, ◌++◌, length, ap, arith, length-append}
use Rattle.std.specs.Prelude.{Result, Ok, Err}
use Rattle.ox_bytes.specs.Reading.{◌>>=◌}
use Rattle.ox_block.specs.Answer.{Gives}
use Rattle.ox_block.specs.Hashes.{block_hash}
use Rattle.ox_block.specs.Reading.{block_of}
use Rattle.ox_block.specs.declared.block.Block.{Block}
use Rattle.ox_block.specs.declared.fault.BlockFault.{BlockFault}
use Rattle.ox_block.specs.declared.fault.BlockFault.TheVariants.{Malformed as BadBlock, Memory as NoMemory}
use Rattle.ox_sat.specs.Profiles.{IsProfile}
use Rattle.ox_sat.specs.Heights.{first_at, subsidy_at}
use Rattle.ox_sat.specs.declared.profiles.Profile.{Profile}
use Rattle.ox_rules.specs.declared.refusal.Refusal.{Refusal}
use Rattle.ox_rules.specs.declared.why.Why.{Why}
use Rattle.ox_rules.specs.declared.why.Why.TheVariants.{Refused, Memory}
use Rattle.ox_rules.specs.Why.{Refuses, of_block}
use Rattle.ox_model.specs.Index.{Index}
use Rattle.ox_rules.specs.Outputs.{sats_held}
use Rattle.ox_rules.specs.Transfer.{Transferred, transfer_of}
use Rattle.ox_model.specs.Step.{or_malformed, admission, grown_index, index_after, step}
use Rattle.ox_model.specs.Sound.{IsSound}
use Rattle.ox_rules.proofs.Conservation.{times-append}
use Rattle.ox_rules.proofs.Transfers.{first_next}
use Rattle.ox_model.proofs.Soundness.{admitted_right, grown_sound}
use Rattle.ox_transfer.specs.Apart.{HoldsOnce}
use Rattle.ox_transfer.proofs.Once.{fits}
use Rattle.ox_transfer.proofs.Claims.{minted_few}

-- bytes that are no block
pub step_unread : (p : Profile) (index : Index) (bytes : List ℕ) (fault : BlockFault) (e : Why) → Gives (Err fault) (block_of bytes) → e ≡ of_block fault → Refuses e (step p index bytes)
unfolding step
step_unread p index bytes (BadBlock at) e gives is = rw is (ap (λ (r : Result Block ℕ). or_malformed r >>= index_after p index) gives)
step_unread p index bytes NoMemory e gives is = rw is tt

-- a block that isn't admitted
pub step_unadmitted : (p : Profile) (index : Index) (bytes : List ℕ) (block : Block) (e : Why) → block_of bytes ≡ Ok block → Refuses e (admission p index.hashes block) → Refuses e (step p index bytes)
unfolding step
step_unadmitted p index bytes block (Refused refusal) read refuses =
    ap (λ (r : Result Block ℕ). or_malformed r >>= index_after p index) read
    ∙ ap (λ (r : Result (Unit {0}) Refusal). r >>= λ begun. transfer_of p (length index.hashes) block.txs index.outs >>= λ after. Ok (grown_index p index block after)) refuses
step_unadmitted p index bytes block Memory read refuses = tt

-- the step of bytes that spell a block
pub step_read : (p : Profile) (index : Index) (bytes : List ℕ) (block : Block) → block_of bytes ≡ Ok block → step p index bytes ≡ index_after p index block
unfolding step
step_read p index bytes block read = ap (λ (r : Result Block ℕ). or_malformed r >>= index_after p index) read

-- what is made of a block that is admitted
admitted_after : (p : Profile) (index : Index) (block : Block) → admission p index.hashes block ≡ Ok tt → index_after p index block ≡ (transfer_of p (length index.hashes) block.txs index.outs >>= λ after. Ok (grown_index p index block after))
admitted_after p index block begun =
    ap (λ (r : Result (Unit {0}) Refusal). r >>= λ begun. transfer_of p (length index.hashes) block.txs index.outs >>= λ after. Ok (grown_index p index block after)) begun

-- a block whose satoshis can't be moved
pub after_unmoved : (p : Profile) (index : Index) (block : Block) (e : Why) → admission p index.hashes block ≡ Ok tt → Refuses e (transfer_of p (length index.hashes) block.txs index.outs) → Refuses e (index_after p index block)
after_unmoved p index block (Refused refusal) begun refuses =
    admitted_after p index block begun ∙ ap (λ (r : Result Transferred Refusal). r >>= λ after. Ok (grown_index p index block after)) refuses
after_unmoved p index block Memory begun refuses = tt

-- a block that is taken in
pub after_taken : (p : Profile) (index : Index) (block : Block) (after : Transferred) → admission p index.hashes block ≡ Ok tt → transfer_of p (length index.hashes) block.txs index.outs ≡ Ok after → index_after p index block ≡ Ok (grown_index p index block after)
after_taken p index block after begun moved =
    admitted_after p index block begun ∙ ap (λ (r : Result Transferred Refusal). r >>= λ after. Ok (grown_index p index block after)) moved

-- a sound index holds no satoshi twice, and none that the next height mints
pub holds_once : (p : Profile) (index : Index) → IsSound p index → HoldsOnce (first_at p (length index.hashes)) index.outs
holds_once p index sound = record { once = λ sat. omega (arith, sound.sats.once sat, times-append sat (sats_held index.outs) index.lost) }

-- what is lost can be counted
pub lost_fits : (p : Profile) (index : Index) (block : Block) (after : Transferred) → IsProfile p → length block.txs ≤ 2 ^ 32 → IsSound p index → admission p index.hashes block ≡ Ok tt → transfer_of p (length index.hashes) block.txs index.outs ≡ Ok after → length index.lost + length after.moved.lost < 2 ^ 64
lost_fits p index block after known few sound begun moved =
    let height : ℕ = length index.hashes in
    let new : Index = grown_index p index block after in
    let again : IsSound p new = grown_sound p index block after known few sound (admitted_right p index block tt begun) moved in
    let higher : length new.hashes ≡ height + 1 = length-append index.hashes (block_hash block.header ∷ []) in
    let less : length (index.lost ++ after.moved.lost) ≤ first_at p (length new.hashes) = fits (first_at p (length new.hashes)) (index.lost ++ after.moved.lost) (λ sat. omega (arith, again.sats.once sat, times-append sat (sats_held after.outs) (index.lost ++ after.moved.lost))) in
    let top : first_at p (length new.hashes) ≡ first_at p height + subsidy_at p height = ap (first_at p) higher ∙ first_next p height in
    omega (arith, less, top, minted_few p height known, length-append index.lost after.moved.lost)
