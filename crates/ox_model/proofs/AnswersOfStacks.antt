-- A machine's answers are those of its stack, and lines that come later go on from where the earlier ones lead.
use Rattle.std.proofs.Common.{◌≡◌, ◌∙◌, ◌<◌, ◌+◌, ◌-◌, ℕ, zero, suc, List, [], ◌∷◌, ◌++◌, length, take, refl, sym, ap, arith, length-append}
use Rattle.std.specs.Prelude.{min, slice_get, Option, Some, None, Result, Ok, Err, ◌==◌, Bool, true, false, if◌then◌else◌}
use Rattle.std.proofs.Math.Nat.{min-zero, zero-min, suc-min-suc}
use Rattle.std.proofs.lemmas.List.{length-take-le, take-take, take_at}
use Rattle.std.proofs.lemmas.List.Sums.{fold_push}
use Rattle.ox_feed.specs.Command.{command_of}
use Rattle.ox_feed.specs.Feed.{FeedLine, text, too_long}
use Rattle.ox_feed.specs.declared.command.Command.{Command}
use Rattle.ox_feed.specs.declared.command.Command.TheVariants.{Connect, Disconnect}
use Rattle.ox_sat.specs.declared.profiles.Profile.{Profile}
use Rattle.ox_model.specs.Chain.{after_block, index_of, kept_index}
use Rattle.ox_model.specs.Index.{Index, no_blocks}
use Rattle.ox_model.specs.Machine.{Machine, all_but_last, chain_index, chosen, chosen_if, older_of, stack_of, turn, turn_by_any, turn_by_command}
use Rattle.ox_model.specs.Stack.{Stack, back_to, stack_after, stack_after_any, turn_on, with_index}
use Rattle.ox_model.specs.Replies.{after_turn, reply_by, after_by, replies_by, after, after_commands, replies, index_on, after_commands_on, after_on, replies_on}
use Rattle.ox_model.specs.Step.{step}
use Rattle.ox_rules.specs.Text.{block_line, ok_text, refusal_line}
use Rattle.ox_rules.specs.declared.refusal.Refusal.{Refusal}
use Rattle.ox_rules.specs.declared.refusal.Refusal.TheVariants.{TooLong, Syntax, Malformed, ChainEnd, Unlinked, BadRoot, Coinbase, BadWitness, UnknownOutput, Overspend, Overclaim, Depth}

abbrev pub on_stack : Result Machine Refusal → Result Stack Refusal
on_stack (Ok machine) = Ok (stack_of machine)
on_stack (Err refusal) = Err refusal

-- ---- the older indexes

pub length-older_of : (p : Profile) (kept : ℕ) (blocks : List (List ℕ)) → length (older_of p kept blocks) ≡ kept
length-older_of p zero blocks = refl
length-older_of p (suc kept) blocks = ap suc (length-older_of p kept (all_but_last blocks))

-- of a shorter chain without its last blocks
shorter : (blocks : List (List ℕ)) (j : ℕ)
    → take (length (all_but_last blocks) - (j + 1)) (all_but_last blocks) ≡ take (length blocks - (suc j + 1)) blocks
shorter blocks j =
    let fewer : length (all_but_last blocks) ≡ length blocks - 1 = length-take-le (length blocks - 1) blocks (omega arith) in
    let places : length (all_but_last blocks) - (j + 1) ≡ length blocks - (suc j + 1) = omega (arith, fewer) in
    take-take (length (all_but_last blocks) - (j + 1)) (length blocks - 1) blocks (omega (arith, fewer))
    ∙ ap (λ (n : ℕ). take n blocks) places

pub older_index : (p : Profile) (kept : ℕ) (blocks : List (List ℕ)) (j : ℕ) → j < kept
    → slice_get (older_of p kept blocks) j ≡ Some (index_of p (take (length blocks - (j + 1)) blocks))
older_index p zero blocks j less = absurd (omega arith)
older_index p (suc kept) blocks zero less = refl
older_index p (suc kept) blocks (suc j) less =
    older_index p kept (all_but_last blocks) j (omega arith) ∙ ap (λ (l : List (List ℕ)). Some (index_of p l)) (shorter blocks j)

-- so many of them at most
take_older : (p : Profile) (depth kept : ℕ) (blocks : List (List ℕ)) → take depth (older_of p kept blocks) ≡ older_of p (min kept depth) blocks
take_older p zero kept blocks = ap (λ (n : ℕ). older_of p n blocks) (sym (min-zero kept))
take_older p (suc depth) zero blocks = ap (λ (n : ℕ). older_of p n blocks) (sym (zero-min (suc depth)))
take_older p (suc depth) (suc kept) blocks =
    ap (λ (l : List Index). index_of p (all_but_last blocks) ∷ l) (take_older p depth kept (all_but_last blocks))
    ∙ ap (λ (n : ℕ). older_of p n blocks) (sym (suc-min-suc kept depth))

without_pushed : (blocks : List (List ℕ)) (bytes : List ℕ) → all_but_last (blocks ++ bytes ∷ []) ≡ blocks
without_pushed blocks bytes = take_at blocks (bytes ∷ []) _ (omega (arith, length-append blocks (bytes ∷ [])))

-- those of a chain with one block more
older_pushed : (p : Profile) (depth kept : ℕ) (blocks : List (List ℕ)) (bytes : List ℕ)
    → older_of p (min (suc kept) depth) (blocks ++ bytes ∷ []) ≡ take depth (index_of p blocks ∷ older_of p kept blocks)
older_pushed p depth kept blocks bytes =
    sym (take_older p depth (suc kept) (blocks ++ bytes ∷ []))
    ∙ ap (λ (l : List (List ℕ)). take depth (index_of p l ∷ older_of p kept l)) (without_pushed blocks bytes)

-- ---- a command

-- the machine's chain with one block more has the indexes that its stack gets
connects : (m : Machine) (bytes : List ℕ) (r : Result Index Refusal) → step m.profile (chain_index m) bytes ≡ r
    → on_stack (chosen_if (chosen m (Some (Connect bytes))) (with_index (stack_of m) r)) ≡ with_index (stack_of m) r
connects m bytes (Ok index) is =
    let newest : index_of m.profile (m.blocks ++ bytes ∷ []) ≡ index =
    fold_push (after_block m.profile) (no_blocks m.profile) m.blocks bytes ∙ ap (kept_index (chain_index m)) is in
    let older : older_of m.profile (min (suc m.kept) m.depth) (m.blocks ++ bytes ∷ []) ≡ take m.depth (chain_index m ∷ older_of m.profile m.kept m.blocks) =
    older_pushed m.profile m.depth m.kept m.blocks bytes in
    λ i. Ok (record { profile = m.profile; depth = m.depth; index = newest i; older = older i })
connects m bytes (Err refusal) is = refl

-- and without its last one those that the stack goes back to
goes_back : (m : Machine) (kept : ℕ) → m.kept ≡ kept
    → on_stack (chosen_if (chosen m (Some Disconnect)) (back_to (stack_of m) (older_of m.profile kept m.blocks)))
    ≡ back_to (stack_of m) (older_of m.profile kept m.blocks)
goes_back m zero is = refl
goes_back m (suc kept) is =
    let one_less : m.kept - 1 ≡ kept = omega (arith, is) in
    λ i. Ok (record {
      profile = m.profile;
      depth = m.depth;
      index = index_of m.profile (all_but_last m.blocks);
      older = older_of m.profile (one_less i) (all_but_last m.blocks);
    })

pub obeys_alike : (m : Machine) (command : Option Command)
    → on_stack (chosen_if (chosen m command) (stack_after_any (stack_of m) command)) ≡ stack_after_any (stack_of m) command
obeys_alike m (Some (Connect bytes)) = connects m bytes (step m.profile (chain_index m) bytes) refl
obeys_alike m (Some Disconnect) = goes_back m m.kept refl
obeys_alike m None = refl

turns_by_any : (m : Machine) (command : Option Command) → on_stack (turn_by_any m command) ≡ stack_after_any (stack_of m) command
turns_by_any m (Some command) = obeys_alike m (Some command)
turns_by_any m None = refl

turns_alike : (m : Machine) (line : FeedLine) → on_stack (turn m line) ≡ turn_on (stack_of m) line
turns_alike m (text line) = turns_by_any m (command_of line)
turns_alike m too_long = refl

stack_of-after_turn : (m : Machine) (r : Result Machine Refusal) → stack_of (after_turn m r) ≡ after_turn (stack_of m) (on_stack r)
stack_of-after_turn m (Ok new) = refl
stack_of-after_turn m (Err refusal) = refl

one_after : (m : Machine) (line : FeedLine) → stack_of (after_turn m (turn m line)) ≡ after_turn (stack_of m) (turn_on (stack_of m) line)
one_after m line = stack_of-after_turn m (turn m line) ∙ ap (after_turn (stack_of m)) (turns_alike m line)

says_alike : (r : Result Machine Refusal) → reply_by chain_index r ≡ reply_by index_on (on_stack r)
says_alike (Ok new) = refl
says_alike (Err refusal) = refl

one_reply : (m : Machine) (line : FeedLine) → reply_by chain_index (turn m line) ≡ reply_by index_on (turn_on (stack_of m) line)
one_reply m line = says_alike (turn m line) ∙ ap (reply_by index_on) (turns_alike m line)

cons_same : {X : Type 0} (a b : X) (xs ys : List X) → a ≡ b → xs ≡ ys → a ∷ xs ≡ b ∷ ys
cons_same a b xs ys e f = rw (e, f) refl

pub replies_alike : (m : Machine) (lines : List FeedLine) → replies m lines ≡ replies_on (stack_of m) lines
unfolding replies_by
replies_alike m [] = refl
replies_alike m (line ∷ lines) =
    cons_same _ _ _ _ (one_reply m line)
    (replies_alike (after_turn m (turn m line)) lines ∙ ap (λ (s : Stack). replies_on s lines) (one_after m line))

pub after_alike : (m : Machine) (lines : List FeedLine) → stack_of (after m lines) ≡ after_on (stack_of m) lines
unfolding after_by
after_alike m [] = refl
after_alike m (line ∷ lines) = after_alike (after_turn m (turn m line)) lines ∙ ap (λ (s : Stack). after_on s lines) (one_after m line)

one_command_after : (m : Machine) (command : Command) → stack_of (after_turn m (turn_by_command m command)) ≡ after_turn (stack_of m) (stack_after (stack_of m) command)
one_command_after m command = stack_of-after_turn m (turn_by_command m command) ∙ ap (after_turn (stack_of m)) (obeys_alike m (Some command))

pub commands_alike : (m : Machine) (commands : List Command) → stack_of (after_commands m commands) ≡ after_commands_on (stack_of m) commands
unfolding after_by
commands_alike m [] = refl
commands_alike m (command ∷ commands) =
    commands_alike (after_turn m (turn_by_command m command)) commands
    ∙ ap (λ (s : Stack). after_commands_on s commands) (one_command_after m command)

-- ---- lines one after the other, or commands

module _ {X C : Type 0} (turn_by : X → C → Result X Refusal) where
  pub after_none : (state : X) → after_by turn_by state [] ≡ state
  unfolding after_by
  after_none state = refl

  pub after_one : (state : X) (line : C) → after_by turn_by state (line ∷ []) ≡ after_turn state (turn_by state line)
  unfolding after_by
  after_one state line = refl

  pub after_joined : (state : X) (x y : List C) → after_by turn_by state (x ++ y) ≡ after_by turn_by (after_by turn_by state x) y
  unfolding after_by
  after_joined state [] y = refl
  after_joined state (line ∷ x) y = after_joined (after_turn state (turn_by state line)) x y

  module _ (index : X → Index) where
    pub replies_none : (state : X) → replies_by turn_by index state [] ≡ []
    unfolding replies_by
    replies_none state = refl

    pub replies_line : (state : X) (line : C) (lines : List C)
        → replies_by turn_by index state (line ∷ lines) ≡ reply_by index (turn_by state line) ∷ replies_by turn_by index (after_turn state (turn_by state line)) lines
    unfolding replies_by
    replies_line state line lines = refl

    pub replies_joined : (state : X) (x y : List C)
        → replies_by turn_by index state (x ++ y) ≡ replies_by turn_by index state x ++ replies_by turn_by index (after_by turn_by state x) y
    unfolding after_by replies_by
    replies_joined state [] y = refl
    replies_joined state (line ∷ x) y =
        ap (λ (l : List (List ℕ)). reply_by index (turn_by state line) ∷ l) (replies_joined (after_turn state (turn_by state line)) x y)

    pub replies_length : (state : X) (lines : List C) → length (replies_by turn_by index state lines) ≡ length lines
    unfolding replies_by
    replies_length state [] = refl
    replies_length state (line ∷ lines) = ap suc (replies_length (after_turn state (turn_by state line)) lines)

-- ---- every answer has a byte

refusal_some : (refusal : Refusal) → 0 < length (refusal_line refusal)
unfolding refusal_line
refusal_some TooLong = omega arith
refusal_some Syntax = omega arith
refusal_some (Malformed at) = omega arith
refusal_some (ChainEnd height) = omega arith
refusal_some (Unlinked have want) = omega arith
refusal_some (BadRoot have want) = omega arith
refusal_some (Coinbase tx) = omega arith
refusal_some BadWitness = omega arith
refusal_some (UnknownOutput tx input at) = omega arith
refusal_some (Overspend tx inputs outputs) = omega arith
refusal_some (Overclaim claimable claimed) = omega arith
refusal_some Depth = omega arith

either_some : (b : Bool) (x y : List ℕ) → 0 < length x → 0 < length y → 0 < length (if b then x else y)
either_some true x y p q = p
either_some false x y p q = q

ok_some : (hashes : List (List ℕ)) → 0 < length (ok_text hashes)
unfolding ok_text block_line
ok_some hashes = either_some (length hashes == 0) _ _ (omega arith) (omega arith)

pub reply_some : {X : Type 0} (index : X → Index) (r : Result X Refusal) → 0 < length (reply_by index r)
reply_some index (Ok new) = ok_some (index new).hashes
reply_some index (Err refusal) = refusal_some refusal
