-- The parts of a drill, one after the other.
use Rattle.std.proofs.Common.{◌≡◌, ◌≢◌, ◌∙◌, ◌+◌, ℕ, List, [], ◌∷◌, ◌++◌, ◌⊎◌, inl, inr, length, take, refl, sym, ap, subst, arith, length-append}
use Rattle.std.specs.Prelude.{Result, Ok, Err, IfOk, IfErr, IsErrOf, IsTrue, Some}
use Rattle.ox_outside.specs.Counts.{Counts, IsFailure, NoFault, Rose, StopsAtFault}
use Rattle.ox_outside.specs.Crash.{Remains}
use Rattle.ox_outside.specs.Runs.{LeavesOnly, OnlyLooks}
use Rattle.ox_outside.specs.declared.site.Site.{Ghosts as Meanings}
use Rattle.ox_outside.proofs.Calls.{leaves_at_first, looks_none}
use Rattle.ox_outside.proofs.Counts.{no_fault_yet, stops_after, stops_as, stops_at_none, then_rose, went_on}
use Rattle.ox_feed.specs.declared.command.Command.{Command}
use Rattle.ox_gated.specs.Tail.{Holds}
use Rattle.ox_gated.specs.Writes.{OnlyWrites}
use Rattle.ox_gated.specs.declared.fault.Halt.{Halt}
use Rattle.ox_gated.specs.declared.fault.Halt.TheVariants as halts
use Rattle.ox_gated.proofs.Writing.{writes_looking}
use Rattle.ox_gated.specs.WritesOn.{writes_then}
use Rattle.ox_rules.specs.declared.refusal.Refusal.{Refusal}
use Rattle.ox_model.specs.Machine.{stack_of}
use Rattle.ox_model.specs.Replies.{after_by, after_commands_on, after_turn}
use Rattle.ox_model.specs.Stack.{Stack, stack_after}
use Rattle.ox_files.specs.Stands.{stands}
use Rattle.ox_store.specs.Ready.{StandsForEither}
use Rattle.ox_store.specs.Store.{StoreContents}
use Rattle.ox_store.specs.declared.fault.MakeFault.{MakeFault}
use Rattle.ox_store.specs.declared.fault.MakeFault.TheVariants as makes
use Rattle.ox_drill.specs.Chain.{drill_commands, drill_start}
use Rattle.ox_drill.specs.Drill.{Carries, Drills, DrillsInTurn, InStep, IsDrilled, MakesNone, StopsOnDisk}
use Rattle.ox_drill.specs.InTurn.{InTurn, after_command}
use Rattle.ox_drill.proofs.Lists.{take_all}
use Rattle.ox_drill.proofs.Turns.{after_more, at_most, one_turn, take_front, take_past, turns_then}

same_fault : {V : Type 0} (a b : Halt) → IsErrOf {T = V} (Err a) b → a ≡ b
same_fault a b e = cc e

-- ---- commands

module _ {S : Type 0} (means : Meanings S) where
  -- no command yet
  pub carries_none : (store : StoreContents) (site : S) → (IsTrue (means.told site) → InStep means store site) → Carries means store [] (Ok store) site site
  unfolding after_by
  carries_none store site in_step = record {
    leads = refl;
    few = omega arith;
    in_turn = λ told. (refl, in_step told);
  }

  -- one command that is accepted: while it is in hand, and once its record is on the disk
  pub turned : (before after : Stack) (command : Command) (old new : S) → stack_after before command ≡ Ok after → LeavesOnly means old new (λ r. StandsForEither before after r.files)
      → InTurn means before (command ∷ []) old new
  turned before after command old new accepted during =
      one_turn means before command old new
      (subst (λ (s : Stack). LeavesOnly means old new (λ r. StandsForEither before s r.files)) (sym (ap (after_turn before) accepted)) during)

  pub carries_fault : (store : StoreContents) (after : Stack) (command : Command) (result : Result StoreContents Halt) (fault : Halt) (old new : S) → result ≡ Err fault → stack_after store.stack command ≡ Ok after
      → (IsTrue (means.told old) → LeavesOnly means old new (λ r. StandsForEither store.stack after r.files)) → Carries means store (command ∷ []) result old new
  carries_fault store after command result fault old new is accepted during =
      subst (λ (r : Result StoreContents Halt). Carries means store (command ∷ []) r old new) (sym is)
      (record { leads = tt; few = tt; in_turn = λ told. (1, turned store.stack after command old new accepted (during told)) })

  pub carries_one : (store last : StoreContents) (command : Command) (old new : S) → stack_after store.stack command ≡ Ok last.stack → last.commands ≡ store.commands + 1
      → (IsTrue (means.told old) → LeavesOnly means old new (λ r. StandsForEither store.stack last.stack r.files)) → (IsTrue (means.told old) → InStep means last new) → Carries means store (command ∷ []) (Ok last) old new
  unfolding after_by
  carries_one store last command old new accepted one_more during in_step = record {
    leads = sym (ap (after_turn store.stack) accepted);
    few = omega (arith, one_more);
    in_turn = λ told. (turned store.stack last.stack command old new accepted (during told), in_step told);
  }

  -- a command that is refused
  pub carries_refused : (store : StoreContents) (command : Command) (refusal : Refusal) (site : S) → ((at : S) (r : Remains) → means.left_since at (means.clock at) r → means.may_leave at r)
      → stack_after store.stack command ≡ Err refusal → (IsTrue (means.told site) → InStep means store site) → Carries means store (command ∷ []) (Ok store) site site
  unfolding after_by
  carries_refused store command refusal site only_now refused in_step = record {
    leads = sym (ap (after_turn store.stack) refused);
    few = omega arith;
    in_turn = λ told.
        let here = in_step told in (
          one_turn means store.stack command site site
              (leaves_at_first means site (λ r. StandsForEither store.stack (after_command store.stack command) r.files)
              (λ r left. inl (ap stands (here.holds.settled r (only_now site r left)) ∙ here.stands_for))),
          here,
        );
  }

  -- commands, and others
  pub carries_then : (first mid : StoreContents) (xs ys : List Command) (result : Result StoreContents Halt) (old between new : S) → means.told between ≡ means.told old
      → Carries means first xs (Ok mid) old between → Carries means mid ys result between new → Carries means first (xs ++ ys) result old new
  carries_then first mid xs ys (Ok last) old between new as_told one two = record {
    leads = two.leads ∙ ap (λ (s : Stack). after_commands_on s ys) one.leads ∙ sym (after_more first.stack xs ys);
    few = omega (arith, length-append xs ys, one.few, two.few);
    in_turn = λ told.
        let a = one.in_turn told in
        let b = two.in_turn (as_told ∙ told) in
        (turns_then means first.stack xs ys old between new a.0 (subst (λ (s : Stack). InTurn means s ys between new) one.leads b.0), b.1);
  }
  carries_then first mid xs ys (Err fault) old between new as_told one two = record {
    leads = tt;
    few = tt;
    in_turn = λ told.
        let a = one.in_turn told in
        let b = two.in_turn (as_told ∙ told) in (
          length xs + b.0,
          subst (λ (l : List Command). InTurn means first.stack l old new) (sym (take_past xs ys b.0))
              (turns_then means first.stack xs (take b.0 ys) old between new a.0 (subst (λ (s : Stack). InTurn means s (take b.0 ys) between new) one.leads b.1)),
        );
  }

  -- none of these was begun
  pub carries_stopped : (store : StoreContents) (commands : List Command) (result : Result StoreContents Halt) (fault : Halt) (site : S) → result ≡ Err fault → Carries means store commands result site site
  carries_stopped store commands result fault site is =
      subst (λ (r : Result StoreContents Halt). Carries means store commands r site site) (sym is)
      (record { leads = tt; few = tt; in_turn = λ told. (0, refl) })

  -- the first commands, and none of the others
  pub carries_some : (first mid : StoreContents) (xs ys : List Command) (result : Result StoreContents Halt) (fault : Halt) (old new : S) → result ≡ Err fault → means.told new ≡ means.told old
      → Carries means first xs (Ok mid) old new → Carries means first (xs ++ ys) result old new
  carries_some first mid xs ys result fault old new is as_told one =
      carries_then first mid xs ys result old new new as_told one (carries_stopped mid ys result fault new is)

  -- the same fault, in other words
  pub carries_as : (store : StoreContents) (commands : List Command) (result : Result StoreContents Halt) (fault told_as : Halt) (old new : S) → result ≡ Err told_as
      → Carries means store commands (Err fault) old new → Carries means store commands result old new
  carries_as store commands result fault told_as old new is one =
      subst (λ (r : Result StoreContents Halt). Carries means store commands r old new) (sym is)
      (record { leads = tt; few = tt; in_turn = one.in_turn })

  -- the first commands, some of the others, and none of what is left
  pub carries_broken : (first mid : StoreContents) (xs ys left all : List Command) (result : Result StoreContents Halt) (fault told_as : Halt) (old between new : S) → result ≡ Err told_as → means.told between ≡ means.told old
      → xs ++ (ys ++ left) ≡ all → Carries means first xs (Ok mid) old between → Carries means mid ys (Err fault) between new → Carries means first all result old new
  carries_broken first mid xs ys left all result fault told_as old between new is as_told same one two =
      subst (λ (l : List Command). Carries means first l result old new) same
      (carries_then first mid xs (ys ++ left) result old between new as_told one
      (subst (λ (r : Result StoreContents Halt). Carries means mid (ys ++ left) r between new) (sym is)
      (record {
        leads = tt;
        few = tt;
        in_turn = λ told.
            let some = two.in_turn told in
            (at_most some.0 ys, subst (λ (l : List Command). InTurn means mid.stack l between new) (take_front some.0 ys left) some.1);
      })))

  -- the same commands
  pub carries_same : (store : StoreContents) (xs ys : List Command) (result : Result StoreContents Halt) (old new : S) → xs ≡ ys → Carries means store xs result old new → Carries means store ys result old new
  carries_same store xs ys result old new same one = subst (λ (l : List Command). Carries means store l result old new) same one

  -- ---- faults

  -- of a part that ended well no call failed
  went : {T : Type 0} (x : T) (old new : S) → StopsOnDisk {T = T} means (Ok x) old new → NoFault (means.counts old) (means.counts new)
  went {T} x old new stops = went_on (IsErrOf {T = T} {E = Halt} (Ok x) halts.Disk) ⊥ ⊥ _ _ (λ is. cc is) (λ no. no) (λ no. no) stops.counted

  module _ (logs_now : (site : S) (r : Remains) → means.may_leave site r → means.log site ≡ Some r.log) where
    -- no call yet
    pub stops_none : {T : Type 0} (x : T) (site : S) → ((at : S) (r : Remains) → means.left_since at (means.clock at) r → means.may_leave at r) → StopsOnDisk {T = T} means (Ok x) site site
    stops_none {T} x site only_now = record {
      failed = λ is. absurd (cc is);
      counted = stops_at_none _ _ _ _ _ (no_fault_yet (means.counts site));
      writes = writes_looking means logs_now site site (looks_none means only_now site);
    }

    -- a part, and another
    pub stops_then : {T U : Type 0} (x : T) (result : Result U Halt) (old mid new : S) → StopsOnDisk {T = T} means (Ok x) old mid → StopsOnDisk means result mid new → StopsOnDisk means result old new
    stops_then {T} {U} x result old mid new one two = record {
      failed = λ is. then_rose _ _ _ one.writes.calls.none_fell.disk (two.failed is);
      counted = stops_after (IsErrOf result halts.Disk) ⊥ ⊥ _ _ _ (went x old mid one) two.counted;
      writes = writes_then means logs_now old mid new one.writes two.writes;
    }

  -- the same fault, of another result
  pub stops_with : {T U : Type 0} (result : Result U Halt) (fault same : Halt) (old new : S) → result ≡ Err same → same ≡ fault → StopsOnDisk {T = T} means (Err fault) old new → StopsOnDisk means result old new
  stops_with {T} {U} result fault same old new is alike one =
      subst (λ (r : Result U Halt). StopsOnDisk means r old new) (sym (is ∙ ap Err alike)) (record {
        failed = λ e. one.failed (ap Err (same_fault {V = U} _ _ e));
        counted = stops_as (IsErrOf {T = T} (Err fault) halts.Disk) ⊥ ⊥ (IsErrOf {T = U} (Err fault) halts.Disk) ⊥ ⊥ _ _ (λ e. ap Err (same_fault {V = T} _ _ e)) (λ no. no) (λ no. no) one.counted;
        writes = one.writes;
      })

  -- a part that ended well, and then want of memory
  pub stops_short : {T U : Type 0} (x : T) (result : Result U Halt) (same : Halt) (old new : S) → result ≡ Err same → same ≡ halts.Memory → StopsOnDisk {T = T} means (Ok x) old new → StopsOnDisk means result old new
  stops_short {T} {U} x result same old new is alike one =
      subst (λ (r : Result U Halt). StopsOnDisk means r old new) (sym (is ∙ ap Err alike)) (record {
        failed = λ e. absurd (cc e);
        counted = stops_at_none _ _ _ _ _ (went x old new one);
        writes = one.writes;
      })

  -- a record that was written
  pub stops_done : {T : Type 0} (x : T) (old new : S) → StopsAtFault ⊥ ⊥ ⊥ (means.counts old) (means.counts new) → OnlyWrites means old new → StopsOnDisk {T = T} means (Ok x) old new
  stops_done {T} x old new counted writes = record {
    failed = λ e. absurd (cc e);
    counted = stops_at_none _ _ _ _ _ (went_on ⊥ ⊥ ⊥ _ _ (λ no. no) (λ no. no) (λ no. no) counted);
    writes = writes;
  }

  -- or wasn't
  pub stops_failed : {T U E : Type 0} (answer : Result T E) (result : Result U Halt) (same : Halt) (old new : S) → result ≡ Err same → same ≡ halts.Disk → Rose (means.counts old).disk (means.counts new).disk
      → StopsAtFault (IsFailure answer) ⊥ ⊥ (means.counts old) (means.counts new) → OnlyWrites means old new → StopsOnDisk means result old new
  stops_failed {T} {U} answer result same old new is alike rose counted writes =
      subst (λ (r : Result U Halt). StopsOnDisk means r old new) (sym (is ∙ ap Err alike)) (record {
        failed = λ e. rose;
        counted = stops_as (IsFailure answer) ⊥ ⊥ (IsErrOf {T = U} (Err halts.Disk) halts.Disk) ⊥ ⊥ _ _ (λ f. refl) (λ no. no) (λ no. no) counted;
        writes = writes;
      })

  -- ---- the whole

  -- a drill whose commands were all carried out
  pub drills_all : (n : ℕ) (made last : StoreContents) (old mid new : S) → OnlyWrites means old mid → InStep means made mid → made.stack ≡ stack_of drill_start → IsTrue (means.told mid)
      → Carries means made (drill_commands n) (Ok last) mid new → Drills means n (length (drill_commands n)) old new
  drills_all n made last old mid new makes in_step start told carried = record {
    made = mid;
    makes = makes;
    stands_for = in_step.stands_for ∙ ap Ok start;
    settled = in_step.holds.settled;
    turns =
        let turns = subst (λ (s : Stack). InTurn means s (drill_commands n) mid new) start (carried.in_turn told).0 in
        subst (λ (l : List Command). InTurn means (stack_of drill_start) l mid new) (sym (take_all (drill_commands n))) turns;
  }

  -- and what is left then
  pub drilled_all : (n : ℕ) (made last : StoreContents) (mid new : S) → made.stack ≡ stack_of drill_start → IsTrue (means.told mid) → Carries means made (drill_commands n) (Ok last) mid new → IsDrilled means n new
  drilled_all n made last mid new start told carried =
      let there = (carried.in_turn told).1 in
      record {
        stands_for = there.stands_for ∙ ap Ok (carried.leads ∙ ap (λ (s : Stack). after_commands_on s (drill_commands n)) start);
        settled = there.holds.settled;
      }

  -- a drill that some of its commands ended
  pub drills_some : (n begun : ℕ) (made : StoreContents) (old mid new : S) → OnlyWrites means old mid → InStep means made mid → made.stack ≡ stack_of drill_start
      → InTurn means made.stack (take begun (drill_commands n)) mid new → Drills means n begun old new
  drills_some n begun made old mid new makes in_step start turns = record {
    made = mid;
    makes = makes;
    stands_for = in_step.stands_for ∙ ap Ok start;
    settled = in_step.holds.settled;
    turns = subst (λ (s : Stack). InTurn means s (take begun (drill_commands n)) mid new) start turns;
  }

  -- no store was made
  pub makes_none : (fault : MakeFault) (old new : S) → (IsErrOf {T = StoreContents} (Err fault) makes.NotEmpty ⊎ IsErrOf {T = StoreContents} (Err fault) (makes.Halt halts.Memory) → OnlyLooks means old new)
      → OnlyWrites means old new → MakesNone means fault old new
  makes_none makes.NotEmpty old new looked writes = looked (inl refl)
  makes_none (makes.Halt halts.Disk) old new looked writes = writes
  makes_none (makes.Halt halts.Memory) old new looked writes = looked (inr refl)

  pub makes_as : (result : Result StoreContents MakeFault) (old new : S) → (result ≡ Err makes.NotEmpty ⊎ result ≡ Err (makes.Halt halts.Memory) → OnlyLooks means old new) → OnlyWrites means old new
      → IfErr result (λ fault. MakesNone means fault old new)
  makes_as (Ok store) old new looked writes = tt
  makes_as (Err fault) old new looked writes = makes_none fault old new looked writes

  pub in_step : (result : Result StoreContents MakeFault) (new : S) → IfOk result (λ store. Holds means store.tail new) → IfOk result (λ store. stands (means.seen new) ≡ Ok store.stack)
      → IfOk result (λ store. InStep means store new)
  in_step (Ok store) new holds stands_for = record { holds = holds; stands_for = stands_for }
  in_step (Err fault) new holds stands_for = tt
