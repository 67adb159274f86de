-- What a block reveals stands at its height, on satoshis that were there before it.
use Rattle.std.proofs.Common.{◌≡◌, ◌<◌, ◌≤◌, ℕ, ◌+◌, Bool, true, false, cond, List, [], ◌∷◌, ◌++◌, length, get_or, drop, refl, ap, subst, arith, Option, Some, None, Ok, nat_lt}
use Rattle.std.specs.Prelude.{◌==◌, All, Contains, IfSome, slice_get}
use Rattle.std.proofs.lemmas.Bool.{ltb-true}
use Rattle.std.proofs.lemmas.Bool.Decides.{Decides-eqb}
use Rattle.std.proofs.lemmas.List.Elements.{All-append, All-cons, All-nil, All-weaker}
use Rattle.std.proofs.lemmas.List.Sums.{get_or-le-sum_by}
use Rattle.std.proofs.lemmas.Option.{slice_get_within, get_or_from_slice_get}
use Rattle.ox_block.specs.declared.block.Tx.{Tx}
use Rattle.ox_sat.specs.declared.profiles.Profile.{Profile}
use Rattle.ox_sat.specs.Heights.{first_at, subsidy_at}
use Rattle.ox_rules.specs.declared.moved.MovedTx.{MovedTx}
use Rattle.ox_rules.specs.declared.refusal.Refusal.{Refusal}
use Rattle.ox_rules.specs.Deal.{deal}
use Rattle.ox_rules.specs.Outputs.{Outputs, sats_held, sats_of, times}
use Rattle.ox_rules.specs.Transfer.{Spent, Transferred, claimable_sats, or_refuse, spend, spend_all, take_rows, transfer_of, values_of}
use Rattle.ox_rules.proofs.Conservation.{bind_ok, ok_same, take_keeps, times-append, times_held, times_in}
use Rattle.ox_rules.proofs.Transfers.{first_next, spend_keeps}
use Rattle.ox_inscribe.specs.Origins.{ComesFrom, IsPlaced, Origin}
use Rattle.ox_inscribe.specs.Reveal.{reveal_of}
use Rattle.ox_inscribe.specs.declared.row.InsRow.{InsRow}
use Rattle.ox_inscribe.proofs.MoveLaws.{transfer_moves}
use Rattle.ox_inscribe.proofs.PlaceLaws.{all_new, is_placed}
use Rattle.ox_model.specs.Index.{Index}
use Rattle.ox_model.specs.Sound.{SoundSats}

-- ---- what was spent was there

contained_times : (sats : List ℕ) (sat : ℕ) → Contains sats sat → 0 < times sat sats
contained_times sats sat there =
    let f : ℕ → ℕ = λ s. cond (s == sat) 1 0 in
    let least : f (get_or sats there.0 sat) ≤ times sat sats = get_or-le-sum_by f sats there.0 sat there.1 in
    let is : f (get_or sats there.0 sat) ≡ f sat = ap f there.2 in
    let one : f sat ≡ 1 = ap (λ (b : Bool). cond b 1 0) ((Decides-eqb sat sat).1 refl) in
    omega (arith, least, is, one)

-- the satoshis that a transaction spent were in the outputs before the block
abbrev WasThere : Outputs → MovedTx → Type 0
WasThere outs moved = (sat : ℕ) → Contains (sats_of moved.spent) sat → 0 < times_in sat outs

spend_there : (height place : ℕ) (tx : Tx) (outs : Outputs) (spent : Spent) → spend height place tx outs ≡ Ok spent → All (WasThere outs) spent.moved
spend_there height place tx outs spent is =
    let taken = bind_ok (take_rows place 0 tx.inputs outs) _ spent is in
    let dealt = bind_ok (or_refuse _ (deal (sats_of taken.0.rows) (values_of tx))) _ spent taken.2 in
    let there : (sat : ℕ) → Contains (sats_of taken.0.rows) sat → 0 < times_in sat outs = λ sat held.
    omega (arith, contained_times (sats_of taken.0.rows) sat held, (take_keeps sat place 0 tx.inputs outs taken.0 taken.1).keeps) in
    subst (λ (s : Spent). All (WasThere outs) s.moved) (ok_same {F = Refusal} _ _ dealt.2)
    (All-cons (WasThere outs) _ [] there (All-nil (WasThere outs)))

all_there : (height place : ℕ) (txs : List Tx) (outs : Outputs) (spent : Spent) → spend_all height place txs outs ≡ Ok spent → All (WasThere outs) spent.moved
all_there height place [] outs spent is = subst (λ (s : Spent). All (WasThere outs) s.moved) (ok_same {F = Refusal} _ _ is) (All-nil (WasThere outs))
all_there height place (tx ∷ txs) outs spent is =
    let first = bind_ok (spend height place tx outs) _ spent is in
    let rest = bind_ok (spend_all height (place + 1) txs first.0.outs) _ spent first.2 in
    let later : All (WasThere outs) rest.0.moved =
    All-weaker (WasThere first.0.outs) (WasThere outs) (λ moved there sat held. omega (arith, there sat held, (spend_keeps sat height place tx outs first.0 first.1).keeps)) rest.0.moved
    (all_there height (place + 1) txs first.0.outs rest.0 rest.1) in
    subst (λ (s : Spent). All (WasThere outs) s.moved) (ok_same {F = Refusal} _ _ rest.2)
    (All-append (WasThere outs) first.0.moved rest.0.moved (spend_there height place tx outs first.0 first.1) later)

transfer_there : (p : Profile) (height : ℕ) (coinbase : Tx) (txs : List Tx) (outs : Outputs) (after : Transferred)
    → transfer_of p height (coinbase ∷ txs) outs ≡ Ok after → All (WasThere outs) (drop 1 after.moved.txs)
transfer_there p height coinbase txs outs after is =
    let spent = bind_ok (spend_all height 1 txs outs) _ after is in
    let dealt = bind_ok (or_refuse _ (deal (claimable_sats p height spent.0.fees) (values_of coinbase))) _ after spent.2 in
    subst (λ (t : Transferred). All (WasThere outs) (drop 1 t.moved.txs)) (ok_same {F = Refusal} _ _ dealt.2)
    (all_there height 1 txs outs spent.0 spent.1)

-- ---- what is revealed

-- a row of this height, on a satoshi below this one, if on any
pub record IsRevealed (height first : ℕ) (row : InsRow) : Type 0 where
  pub at : row.height ≡ height
  pub minted : IfSome row.sat (λ sat. sat < first)

some_weaker : (sat : Option ℕ) (P Q : ℕ → Type 0) → ((s : ℕ) → P s → Q s) → IfSome sat P → IfSome sat Q
some_weaker None P Q step holds = tt
some_weaker (Some s) P Q step holds = step s holds

at_place : {X : Type 0} (P : X → Type 0) (xs : List X) (k : ℕ) (x : X) → All P xs → slice_get xs k ≡ Some x → P x
at_place P xs k x all is = subst P (get_or_from_slice_get xs k x x is) (all k x (slice_get_within xs k x is))

-- a satoshi that outputs of a sound index hold could be claimed
claimed_so_far : (p : Profile) (index : Index) (sat : ℕ) → SoundSats p index → 0 < times_in sat index.outs → sat < first_at p (length index.hashes)
claimed_so_far p index sat sound held = by_test (nat_lt sat (first_at p (length index.hashes))) refl (sound.once sat) where
  by_test : (b : Bool) → nat_lt sat (first_at p (length index.hashes)) ≡ b → times sat (sats_held index.outs ++ index.lost) ≡ cond b 1 0 → sat < first_at p (length index.hashes)
  by_test true below once = ltb-true _ _ below
  by_test false above once = absurd (omega (arith, once, held, times-append sat (sats_held index.outs) index.lost, times_held sat index.outs))

pub new_rows : (p : Profile) (index : Index) (coinbase : Tx) (txs : List Tx) (after : Transferred) → SoundSats p index
    → transfer_of p (length index.hashes) (coinbase ∷ txs) index.outs ≡ Ok after
    → All (IsRevealed (length index.hashes) (first_at p (length index.hashes))) (reveal_of index.inscriptions (length index.hashes) (coinbase ∷ txs) after.moved.txs)
new_rows p index coinbase txs after sound is =
    let height : ℕ = length index.hashes in
    let all : List Tx = coinbase ∷ txs in
    let moved : List MovedTx = after.moved.txs in
    let there = transfer_there p height coinbase txs index.outs after is in
    let Found : Origin → InsRow → Type 0 = λ origin row. (row.height ≡ height) × IsPlaced origin row in
    All-weaker (λ (row : InsRow). (origin : Origin) × ComesFrom all moved origin row × Found origin row) (IsRevealed height (first_at p height))
    (λ row from.
    let was : WasThere index.outs from.0.did = at_place (WasThere index.outs) (drop 1 moved) from.0.place from.0.did there from.1.did in record {
      at = from.2.0;
      minted = some_weaker row.sat _ (λ sat. sat < first_at p height) (λ sat held. claimed_so_far p index sat sound (was sat held)) from.2.1.held;
    })
    (reveal_of index.inscriptions height all moved)
    (all_new Found index.inscriptions height all moved (transfer_moves p height all index.outs after is)
    (λ origin row new. (ap (λ (r : InsRow). r.height) new.is, is_placed index.inscriptions height all moved origin row new)))

-- ---- those before and those that are new

-- rows below a height, on satoshis below one, if on any
pub record AreOf (height first : ℕ) (rows : List InsRow) : Type 0 where
  pub below : All (λ (row : InsRow). row.height < height) rows
  pub minted : All (λ (row : InsRow). IfSome row.sat (λ sat. sat < first)) rows

pub more_rows : (p : Profile) (height : ℕ) (rows new : List InsRow) → AreOf height (first_at p height) rows → All (IsRevealed height (first_at p height)) new
    → AreOf (height + 1) (first_at p (height + 1)) (rows ++ new)
more_rows p height rows new old all =
    let minted : first_at p (height + 1) ≡ first_at p height + subsidy_at p height = first_next p height in
    let Below : ℕ → InsRow → Type 0 = λ h row. row.height < h in
    let Minted : ℕ → InsRow → Type 0 = λ first row. IfSome row.sat (λ sat. sat < first) in
    let IsNewRow : InsRow → Type 0 = IsRevealed height (first_at p height) in record {
      below = All-append (Below (height + 1)) rows new
          (All-weaker (Below height) (Below (height + 1)) (λ row low. omega (arith, low)) rows old.below)
          (All-weaker IsNewRow (Below (height + 1)) (λ row one. omega (arith, one.at)) new all);
      minted = All-append (Minted (first_at p (height + 1))) rows new
          (All-weaker (Minted (first_at p height)) (Minted (first_at p (height + 1))) (λ row low. some_weaker row.sat _ _ (λ sat less. omega (arith, less, minted)) low) rows old.minted)
          (All-weaker IsNewRow (Minted (first_at p (height + 1))) (λ row one. some_weaker row.sat _ _ (λ sat less. omega (arith, less, minted)) one.minted) new all);
    }
