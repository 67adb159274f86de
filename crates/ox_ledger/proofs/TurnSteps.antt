-- The steps of a transaction, joined.
use Rattle.std.proofs.Common.{◌≡◌, ◌≢◌, ◌∙◌, ℕ, suc, ◌+◌, ◌<◌, true, List, [], ◌∷◌, ◌++◌, length, map, refl, sym, ap, subst, Option, Some, None, arith, append-nil}
use Rattle.std.specs.Prelude.{All, ◌==◌, if◌then◌else◌}
use Rattle.std.specs.Option.{IfSome, option_map}
use Rattle.std.specs.FinMap.{get}
use Rattle.ox_block.specs.declared.block.Tx.{Tx}
use Rattle.ox_block.specs.declared.block.TxOut.{TxOut}
use Rattle.ox_block.specs.declared.block.Txid.{Txid}
use Rattle.ox_runestone.specs.Artifact.{artifact_of}
use Rattle.ox_runestone.specs.Spelling.{StoneCanCome}
use Rattle.ox_runestone.specs.declared.stone.Artifact.{Artifact}
use Rattle.ox_runestone.specs.declared.stone.Artifact.TheVariants.{Stone, Cenotaph}
use Rattle.ox_runestone.specs.declared.stone.RuneId.{RuneId}
use Rattle.ox_runestone.specs.declared.stone.Runestone.{Runestone}
use Rattle.ox_rules.specs.Transfer.{as_list}
use Rattle.ox_rules.specs.declared.rows.OutRow.{OutRow}
use Rattle.ox_allocation.specs.Allocation.{Allocation, balances_from, gifts_from}
use Rattle.ox_allocation.specs.Balances.{Balance, ids_of}
use Rattle.ox_allocation.specs.Gifts.{Gift}
use Rattle.ox_allocation.proofs.Amounts.{zero_from}
use Rattle.ox_etching.specs.declared.spot.Spot.{Spot}
use Rattle.ox_etching.specs.declared.row.RuneRow.{RuneRow}
use Rattle.ox_ledger.specs.Runes.{BalanceMap, InHand, Runes, artifact_at, brought_of, burn, dealt_by, done_by, etching_by, gathered_by, mint_by, place_all, placements, pool_with, premine_of, turn, with_mint}
use Rattle.ox_ledger.specs.Steps.{CanBurn, CanPlaceAll, CanSettle, CanTakeUp, CanTurn, dealt_without, given_out, turn_without_stone, without_brought}
use Rattle.ox_ledger.proofs.TablesLemmas.{nothing_given}

-- ---- what a runestone says

pub deciphered : (artifact : Artifact) (script : List ℕ) (count : ℕ) (outputs : List TxOut) (at : Spot) (tx : Tx) → artifact ≡ artifact_of script count → count ≡ length outputs → outputs ≡ tx.outputs
    → Some (artifact_of script (length tx.outputs)) ≡ artifact_at at tx → Some artifact ≡ artifact_at at tx
deciphered artifact script count outputs at tx is counted outputs_are says = (λ i. Some (is i)) ∙ (λ i. Some (artifact_of script ((counted ∙ ap length outputs_are) i))) ∙ says

-- ---- what is dealt

pointer_by : (outputs : List TxOut) (o : Option ℕ) → IfSome o (λ n. n < length outputs) → (x : ℕ) → o ≡ Some x → x < length outputs
pointer_by outputs None within x is = absurd (cc is)
pointer_by outputs (Some n) within x is = let same : n ≡ x = cc is in subst (λ k. k < length outputs) same within

pub pointer_within : (stone : Runestone) (outputs : List TxOut) (artifact : Artifact) → artifact ≡ Stone stone → StoneCanCome (length outputs) artifact → (x : ℕ) → stone.pointer ≡ Some x → x < length outputs
pointer_within stone outputs artifact is can = pointer_by outputs stone.pointer (subst (StoneCanCome (length outputs)) is can).pointer

length-from : (k : ℕ) (ids : List RuneId) (gifts : List Gift) (outputs : List TxOut) → length (balances_from k ids gifts outputs) ≡ length outputs
unfolding balances_from
length-from k ids gifts [] = refl
length-from k ids gifts (output ∷ outputs) = ap suc (length-from (k + 1) ids gifts outputs)

length-none : (outputs : List TxOut) → length (map {A = TxOut} {B = List Balance} (λ output. []) outputs) ≡ length outputs
length-none [] = refl
length-none (output ∷ outputs) = ap suc (length-none outputs)

pub length-dealt : (artifact : Option Artifact) (pool : List Balance) (etching : Option RuneId) (outputs : List TxOut) → length (dealt_by artifact pool etching outputs).given ≡ length outputs
length-dealt None pool etching outputs = length-from 0 (ids_of pool) (gifts_from pool [] None None outputs) outputs
length-dealt (Some (Stone stone)) pool etching outputs = length-from 0 (ids_of pool) (gifts_from pool stone.edicts etching stone.pointer outputs) outputs
length-dealt (Some (Cenotaph mint name)) pool etching outputs = length-none outputs

nothing_in : (pool : List Balance) → (length pool == 0) ≡ true → pool ≡ []
nothing_in [] is = refl
nothing_in (one ∷ pool) is = let none = zero_from (length (one ∷ pool)) is in absurd (omega (arith, none))

-- ---- outputs that are given theirs

pub given_by : (tx : ℕ) (txid : Txid) (old : Runes) (rows : List RuneRow) (given : List (List Balance)) (burned : List Balance) → rows ≡ burn burned old.runes
    → ◌≡◌ {A = Runes}
    (if tx == 0 then record { bal = old.bal; runes = rows; due = old.due ++ placements txid 0 given } else place_all (record { bal = old.bal; runes = rows; due = old.due }) (placements txid 0 given))
    (given_out tx txid old given burned)
given_by tx txid old rows given burned rows_are =
    λ i. if tx == 0 then record { bal = old.bal; runes = rows_are i; due = old.due ++ placements txid 0 given } else place_all (record { bal = old.bal; runes = rows_are i; due = old.due }) (placements txid 0 given)

pub can_give : (txid : Txid) (old : Runes) (rows : List RuneRow) (given : List (List Balance)) (burned : List Balance) → rows ≡ burn burned old.runes
    → CanPlaceAll (record old { runes = burn burned old.runes }) (placements txid 0 given) → CanPlaceAll (record { bal = old.bal; runes = rows; due = old.due }) (placements txid 0 given)
can_give txid old rows given burned rows_are can =
    subst (λ (r : List RuneRow). CanPlaceAll (record { bal = old.bal; runes = r; due = old.due }) (placements txid 0 given)) (sym rows_are) can

-- ---- what a transaction has in hand

module _ (at : Spot) (tx : Tx) (spent : List OutRow) (state : Runes) where
  abbrev pub the_artifact : Option Artifact
  the_artifact = artifact_at at tx

  abbrev pub the_mint : Option Balance
  the_mint = mint_by at.height state.runes the_artifact

  abbrev pub the_etching : Option RuneRow
  the_etching = etching_by at tx spent state.runes the_artifact

  abbrev pub the_hand : InHand
  the_hand = gathered_by at tx spent state the_artifact

  abbrev pub the_dealt : Allocation
  the_dealt = dealt_by the_artifact the_hand.pool the_hand.etching tx.outputs

  -- what was found of a transaction
  pub record Found (artifact : Option Artifact) (mint : Option Balance) (etching : Option RuneRow) (mid : Runes) (pool : List Balance) : Type 0 where
    pub artifact_is : artifact ≡ the_artifact
    pub mint_is : mint ≡ mint_by at.height state.runes artifact
    pub etching_is : etching ≡ etching_by at tx spent state.runes artifact
    pub mid_is : mid ≡ record state { bal = (brought_of at.tx tx state.bal).bal }
    pub pool_is : pool ≡ (brought_of at.tx tx state.bal).pool

  module _ (artifact : Option Artifact) (mint : Option Balance) (etching : Option RuneRow) (mid : Runes) (pool : List Balance) (found : Found artifact mint etching mid pool) where
    mint_same : mint ≡ the_mint
    mint_same = found.mint_is ∙ ap (mint_by at.height state.runes) found.artifact_is

    etching_same : etching ≡ the_etching
    etching_same = found.etching_is ∙ ap (etching_by at tx spent state.runes) found.artifact_is

    pub can_take : CanTakeUp state.runes (brought_of at.tx tx state.bal).pool the_mint the_etching → CanTakeUp mid.runes pool mint etching
    can_take can =
        subst (λ (rows : List RuneRow). CanTakeUp rows pool mint etching) (sym (ap (λ (s : Runes). s.runes) found.mid_is))
        (subst (λ (p : List Balance). CanTakeUp state.runes p mint etching) (sym found.pool_is)
        (subst (λ (m : Option Balance). CanTakeUp state.runes (brought_of at.tx tx state.bal).pool m etching) (sym mint_same)
        (subst (λ (e : Option RuneRow). CanTakeUp state.runes (brought_of at.tx tx state.bal).pool the_mint e) (sym etching_same) can)))

    pub hand_state : (after : Runes) → after ≡ record mid { runes = with_mint mid.runes mint ++ as_list etching } → after ≡ record { bal = the_hand.bal; runes = the_hand.runes; due = state.due }
    hand_state after is =
        is ∙ (λ i. record { bal = (found.mid_is i).bal; runes = with_mint (found.mid_is i).runes (mint_same i) ++ as_list (etching_same i); due = (found.mid_is i).due })

    pub hand_pool : (more : List Balance) → more ≡ pool_with (pool_with pool mint) (option_map premine_of etching) → more ≡ the_hand.pool
    hand_pool more is = is ∙ (λ i. pool_with (pool_with (found.pool_is i) (mint_same i)) (option_map premine_of (etching_same i)))

    hand_etching : option_map (λ (row : RuneRow). row.id) etching ≡ the_hand.etching
    hand_etching = ap (option_map (λ (row : RuneRow). row.id)) etching_same

    pub dealt_same : (more : List Balance) (etched : Option RuneId) (outputs : List TxOut) → more ≡ the_hand.pool → etched ≡ option_map (λ row. row.id) etching → outputs ≡ tx.outputs
        → dealt_by artifact more etched outputs ≡ the_dealt
    dealt_same more etched outputs pool_same etched_is outputs_are =
        λ i. dealt_by (found.artifact_is i) (pool_same i) ((etched_is ∙ hand_etching) i) (outputs_are i)

  pub turned : (mid after : Runes) (given : List (List Balance)) (burned : List Balance) → mid ≡ record { bal = the_hand.bal; runes = the_hand.runes; due = state.due } → given ≡ the_dealt.given
      → burned ≡ the_dealt.burned → after ≡ given_out at.tx at.txid mid given burned → after ≡ turn at tx spent state
  turned mid after given burned mid_is given_are burned_are is = is ∙ (λ i. given_out at.tx at.txid (mid_is i) (given_are i) (burned_are i))

  pub can_burn_it : (mid : Runes) (burned : List Balance) → mid ≡ record { bal = the_hand.bal; runes = the_hand.runes; due = state.due } → burned ≡ the_dealt.burned
      → All (CanBurn the_dealt.burned) the_hand.runes → All (CanBurn burned) mid.runes
  can_burn_it mid burned mid_is burned_are can =
      subst (λ (s : Runes). All (CanBurn burned) s.runes) (sym mid_is) (subst (λ (b : List Balance). All (CanBurn b) the_hand.runes) (sym burned_are) can)

  pub can_place_them : (mid : Runes) (given : List (List Balance)) (burned : List Balance) → mid ≡ record { bal = the_hand.bal; runes = the_hand.runes; due = state.due } → given ≡ the_dealt.given
      → burned ≡ the_dealt.burned
      → CanPlaceAll (record { bal = the_hand.bal; runes = burn the_dealt.burned the_hand.runes; due = state.due }) (placements at.txid 0 the_dealt.given)
      → CanPlaceAll (record mid { runes = burn burned mid.runes }) (placements at.txid 0 given)
  can_place_them mid given burned mid_is given_are burned_are can =
      subst (λ (s : Runes). CanPlaceAll (record s { runes = burn burned s.runes }) (placements at.txid 0 given)) (sym mid_is)
      (subst (λ (g : List (List Balance)). CanPlaceAll (record { bal = the_hand.bal; runes = burn burned the_hand.runes; due = state.due }) (placements at.txid 0 g)) (sym given_are)
      (subst (λ (b : List Balance). CanPlaceAll (record { bal = the_hand.bal; runes = burn b the_hand.runes; due = state.due }) (placements at.txid 0 the_dealt.given)) (sym burned_are) can))

  pub nothing_to_do : (mid : Runes) (pool : List Balance) (count : ℕ) → mid ≡ record { bal = the_hand.bal; runes = the_hand.runes; due = state.due } → pool ≡ the_hand.pool → (length pool == 0) ≡ true → at.tx ≢ 0
      → count ≡ length tx.outputs → ((index : ℕ) → index < count → get mid.bal (record { txid = at.txid; index = index }) ≡ None) → mid ≡ turn at tx spent state
  nothing_to_do mid pool count mid_is pool_is empty other counted free =
      mid_is ∙ nothing_given at.tx at.txid tx.outputs the_artifact the_hand.pool the_hand.etching (record { bal = the_hand.bal; runes = the_hand.runes; due = state.due }) (sym pool_is ∙ nothing_in pool empty) other
      (λ index less. ap (λ (s : Runes). get s.bal (record { txid = at.txid; index = index })) (sym mid_is) ∙ free index (omega (arith, less, counted)))

-- ---- a transaction without a runestone

module _ (tx : ℕ) (txid : Txid) (body : Tx) (state mid : Runes) (pool : List Balance) (mid_is : mid ≡ without_brought tx body state) (pool_is : pool ≡ (brought_of tx body state.bal).pool) where
  pub nothing_brought : (count : ℕ) → (length pool == 0) ≡ true → tx ≢ 0 → count ≡ length body.outputs → ((index : ℕ) → index < count → get mid.bal (record { txid = txid; index = index }) ≡ None)
      → mid ≡ turn_without_stone tx txid body state
  nothing_brought count empty other counted free =
      nothing_given tx txid body.outputs None pool None mid (nothing_in pool empty) other (λ index less. free index (omega (arith, less, counted)))
      ∙ (λ i. given_out tx txid (mid_is i) (dealt_by None (pool_is i) None body.outputs).given (dealt_by None (pool_is i) None body.outputs).burned)

  module _ (outputs : List TxOut) (given : List (List Balance)) (burned : List Balance) (outputs_are : outputs ≡ body.outputs) (given_is : given ≡ (dealt_by None pool None outputs).given)
      (burned_is : burned ≡ (dealt_by None pool None outputs).burned) where
    given_are : given ≡ (dealt_without tx body state).given
    given_are = given_is ∙ (λ i. (dealt_by None (pool_is i) None (outputs_are i)).given)

    burned_are : burned ≡ (dealt_without tx body state).burned
    burned_are = burned_is ∙ (λ i. (dealt_by None (pool_is i) None (outputs_are i)).burned)

    pub can_burn_brought : All (CanBurn (dealt_without tx body state).burned) state.runes → All (CanBurn burned) mid.runes
    can_burn_brought can =
        subst (λ (s : Runes). All (CanBurn burned) s.runes) (sym mid_is) (subst (λ (b : List Balance). All (CanBurn b) state.runes) (sym burned_are) can)

    pub can_place_brought : CanPlaceAll (record (without_brought tx body state) { runes = burn (dealt_without tx body state).burned state.runes }) (placements txid 0 (dealt_without tx body state).given)
        → CanPlaceAll (record mid { runes = burn burned mid.runes }) (placements txid 0 given)
    can_place_brought can =
        subst (λ (s : Runes). CanPlaceAll (record s { runes = burn burned s.runes }) (placements txid 0 given)) (sym mid_is)
        (subst (λ (g : List (List Balance)). CanPlaceAll (record (without_brought tx body state) { runes = burn burned state.runes }) (placements txid 0 g)) (sym given_are)
        (subst (λ (b : List Balance). CanPlaceAll (record (without_brought tx body state) { runes = burn b state.runes }) (placements txid 0 (dealt_without tx body state).given)) (sym burned_are) can))

    pub brought_given : (after : Runes) → after ≡ given_out tx txid mid given burned → after ≡ turn_without_stone tx txid body state
    brought_given after is = is ∙ (λ i. given_out tx txid (mid_is i) (given_are i) (burned_are i))

-- it has in hand what it brings
abbrev pub brought_in : ℕ → Tx → BalanceMap → List RuneRow → InHand
brought_in tx body bal rows = record { pool = (brought_of tx body bal).pool; bal = (brought_of tx body bal).bal; runes = rows; etching = None }

module _ (at : Spot) (tx : Tx) (spent : List OutRow) (state : Runes) (none : artifact_at at tx ≡ None) where
  pub can_settle_brought : CanTurn at tx spent state → CanSettle at (brought_in at.tx tx state.bal state.runes) state.due (dealt_without at.tx tx state)
  can_settle_brought can =
      subst (λ (rows : List RuneRow). CanSettle at (brought_in at.tx tx state.bal rows) state.due (dealt_without at.tx tx state)) (append-nil state.runes)
      (subst (λ (artifact : Option Artifact). let hand = gathered_by at tx spent state artifact in CanSettle at hand state.due (dealt_by artifact hand.pool hand.etching tx.outputs)) none can.settles)

  pub turned_without : turn_without_stone at.tx at.txid tx state ≡ turn at tx spent state
  turned_without =
      (λ i. given_out at.tx at.txid (record { bal = (brought_of at.tx tx state.bal).bal; runes = sym (append-nil state.runes) i; due = state.due }) (dealt_without at.tx tx state).given (dealt_without at.tx tx state).burned)
      ∙ sym (ap (λ (artifact : Option Artifact). done_by at tx state.due artifact (gathered_by at tx spent state artifact)) none)
