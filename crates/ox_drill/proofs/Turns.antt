-- Commands that are carried out in turn: how they go on, and what a crash leaves at two moments.
use Rattle.std.proofs.Common.{◌≡◌, ◌∙◌, ◌⊎◌, inl, inr, ⊎_elim, ◌≤◌, ℕ, zero, suc, ◌+◌, List, [], ◌∷◌, ◌++◌, length, take, refl, ap, subst, arith, zero-add}
use Rattle.std.specs.Prelude.{Ok}
use Rattle.ox_outside.specs.Crash.{Remains}
use Rattle.ox_outside.specs.Files.{Files}
use Rattle.ox_outside.specs.Runs.{LeavesOnly}
use Rattle.ox_outside.specs.declared.site.Site.{Ghosts as Meanings}
use Rattle.ox_feed.specs.declared.command.Command.{Command}
use Rattle.ox_model.specs.Replies.{after_by, after_commands_on}
use Rattle.ox_model.specs.Stack.{Stack}
use Rattle.ox_files.specs.Stands.{stands}
use Rattle.ox_store.specs.Ready.{StandsForEither}
use Rattle.ox_drill.specs.InTurn.{FallsByOne, InOrder, InTurn, after_command}

-- ---- lists of commands

pub after_more : (stack : Stack) (xs ys : List Command) → after_commands_on stack (xs ++ ys) ≡ after_commands_on (after_commands_on stack xs) ys
unfolding after_by
after_more stack [] ys = refl
after_more stack (x ∷ xs) ys = after_more (after_command stack x) xs ys

pub take_past : (xs ys : List Command) (k : ℕ) → take (length xs + k) (xs ++ ys) ≡ xs ++ take k ys
take_past [] ys k = ap (λ (n : ℕ). take n ys) (zero-add k)
take_past (x ∷ xs) ys k =
    let more : suc (length xs) + k ≡ suc (length xs + k) = omega arith in
    ap (λ (n : ℕ). take n (x ∷ (xs ++ ys))) more ∙ ap (λ (l : List Command). x ∷ l) (take_past xs ys k)

-- the first of some commands are the first of more
pub at_most : ℕ → List Command → ℕ
at_most zero xs = zero
at_most (suc k) [] = zero
at_most (suc k) (x ∷ xs) = suc (at_most k xs)

pub take_front : (k : ℕ) (xs ys : List Command) → take k xs ≡ take (at_most k xs) (xs ++ ys)
unfolding at_most
take_front zero xs ys = refl
take_front (suc k) [] ys = refl
take_front (suc k) (x ∷ xs) ys = ap (λ (l : List Command). x ∷ l) (take_front k xs ys)

-- ---- what a crash leaves after some of the commands

record Found (stack : Stack) (commands : List Command) (files : Files) : Type 0 where
  pub number : ℕ
  pub among : number ≤ length commands
  pub stands_for : stands files ≡ Ok (after_commands_on stack (take number commands))

-- with one command before them
found_later : (stack : Stack) (command : Command) (commands : List Command) (files : Files) → Found (after_command stack command) commands files → Found stack (command ∷ commands) files
unfolding after_by
found_later stack command commands files found = record {
  number = suc found.number;
  among = omega (arith, found.among);
  stands_for = found.stands_for;
}

-- while one is in hand
found_either : (stack : Stack) (command : Command) (commands : List Command) (files : Files) → StandsForEither stack (after_command stack command) files
    → (found : Found stack (command ∷ commands) files) × (found.number ≤ 1)
unfolding after_by
found_either stack command commands files either =
    ⊎_elim (λ before. (record { number = zero; among = omega arith; stands_for = before }, omega arith))
    (λ after. (record { number = suc zero; among = omega arith; stands_for = after }, omega arith)) either

later_falls : (stack : Stack) (command : Command) (commands : List Command) (first later : Files) → FallsByOne (after_command stack command) commands first later → FallsByOne stack (command ∷ commands) first later
unfolding after_by
later_falls stack command commands first later falls = record {
  at_first = suc falls.at_first;
  at_later = suc falls.at_later;
  first_stands = falls.first_stands;
  later_stands = falls.later_stands;
  among = omega (arith, falls.among);
  later_among = omega (arith, falls.later_among);
  falls = omega (arith, falls.falls);
}

module _ {S : Type 0} (means : Meanings S) where
  -- one command
  pub one_turn : (stack : Stack) (command : Command) (old new : S) → LeavesOnly means old new (λ r. StandsForEither stack (after_command stack command) r.files) → InTurn means stack (command ∷ []) old new
  one_turn stack command old new during = record { next = new; during = during; then_ = refl }

  -- commands, and others
  pub turns_then : (stack : Stack) (xs ys : List Command) (old mid new : S) → InTurn means stack xs old mid → InTurn means (after_commands_on stack xs) ys mid new → InTurn means stack (xs ++ ys) old new
  unfolding after_by
  turns_then stack [] ys old mid new first more = subst (λ (s : S). InTurn means stack ys s new) first more
  turns_then stack (x ∷ xs) ys old mid new first more = record {
    next = first.next;
    during = first.during;
    then_ = turns_then (after_command stack x) xs ys first.next mid new first.then_ more;
  }

  -- What a crash leaves since an earlier moment it left before the commands already, or it stands
  -- for what some of them lead to.
  since : (stack : Stack) (commands : List Command) (mid new : S) (t : ℕ) (r : Remains) → t ≤ means.clock mid → InTurn means stack commands mid new → means.left_since new t r
      → means.left_since mid t r ⊎ Found stack commands r.files
  since stack [] mid new t r early turns left = inl (subst (λ (s : S). means.left_since s t r) turns left)
  since stack (command ∷ commands) mid new t r early turns left =
      ⊎_elim
      (λ before. ⊎_elim (λ still. inl still) (λ either. inr (found_either stack command commands r.files either).0) (turns.during.before t r early before))
      (λ found. inr (found_later stack command commands r.files found))
      (since (after_command stack command) commands turns.next new t r (omega (arith, early, turns.during.later)) turns.then_ left)

  falls_now : (stack : Stack) (command : Command) (commands : List Command) (old new : S) (turns : InTurn means stack (command ∷ commands) old new) (first later : Remains)
      → means.left_since turns.next (means.clock old) first → means.left_since new (means.clock old) later → FallsByOne stack (command ∷ commands) first.files later.files
  falls_now stack command commands old new turns first later left left_later =
      let at = found_either stack command commands first.files (turns.during.each first left) in
      let found : Found stack (command ∷ commands) later.files =
      ⊎_elim (λ before. (found_either stack command commands later.files (turns.during.each later before)).0)
      (λ found. found_later stack command commands later.files found)
      (since (after_command stack command) commands turns.next new (means.clock old) later turns.during.later turns.then_ left_later) in
      record {
        at_first = at.0.number;
        at_later = found.number;
        first_stands = at.0.stands_for;
        later_stands = found.stands_for;
        among = at.0.among;
        later_among = found.among;
        falls = omega (arith, at.1);
      }

  pub falls_by_one : (stack : Stack) (commands : List Command) (old new : S) (turns : InTurn means stack commands old new) (first later : Remains)
      → InOrder means stack commands old new turns first later → FallsByOne stack commands first.files later.files
  falls_by_one stack [] old new turns first later order = absurd order
  falls_by_one stack (command ∷ commands) old new turns first later order =
      ⊎_elim (λ now. falls_now stack command commands old new turns first later now.0 now.1)
      (λ then_. later_falls stack command commands first.files later.files (falls_by_one (after_command stack command) commands turns.next new turns.then_ first later then_)) order
