-- Each command of a drill is accepted, and where they lead.
use Rattle.std.proofs.Common.{◌≡◌, ◌∙◌, ◌≤◌, ℕ, zero, suc, ◌+◌, ◌-◌, List, [], ◌∷◌, ◌++◌, length, length-drop, drop, map, Result, Ok, refl, sym, ap, subst, arith, length-append}
use Rattle.std.specs.Prelude.{min, replicate, Some}
use Rattle.std.proofs.Math.Nat.{le-min, min-eq_left, min-le_left, min-le_right}
use Rattle.std.proofs.lemmas.Bool.Decides.{nat_tests}
use Rattle.std.proofs.lemmas.List.{drop-append-le, take_at}
use Rattle.ox_feed.specs.declared.command.Command.{Command}
use Rattle.ox_feed.specs.declared.command.Command.TheVariants.{Connect, Disconnect}
use Rattle.ox_block.specs.Spelling.{spell}
use Rattle.ox_rules.specs.declared.refusal.Refusal.{Refusal}
use Rattle.ox_model.specs.Chain.{index_of}
use Rattle.ox_model.specs.Machine.{Machine, all_but_last, chosen, chosen_if, stack_of, turn_by_command}
use Rattle.ox_model.specs.Replies.{after_by, after_commands, after_commands_on, after_turn}
use Rattle.ox_model.specs.Stack.{with_index}
use Rattle.ox_model.proofs.AnswersOfStacks.{commands_alike}
use Rattle.ox_drill.specs.Chain.{AllAccepted, connects, drill_block, drill_chain, drill_commands, drill_start, drilled}
use Rattle.ox_drill.proofs.MadeBlocks.{chain_stands, goes, regtest}

-- the machine with the first so many made blocks, of which it keeps as many as this
abbrev with : ℕ → ℕ → Machine
with height kept = record { profile = regtest; depth = 100; blocks = drill_chain height; kept = kept }

-- ---- commands one after the other

follow : (a b c : Machine) (xs ys : List Command) → AllAccepted a xs b → AllAccepted b ys c → AllAccepted a (xs ++ ys) c
follow a b c [] ys first rest = subst (λ (m : Machine). AllAccepted m ys c) (sym first) rest
follow a b c (x ∷ xs) ys first rest = (first.0, first.1, follow first.0 b c xs ys first.2 rest)

one : (a b : Machine) (command : Command) → turn_by_command a command ≡ Ok b → AllAccepted a (command ∷ []) b
one a b command is = (b, is, refl)

ends : (a b : Machine) (commands : List Command) → AllAccepted a commands b → after_commands a commands ≡ b
unfolding after_by
ends a b [] all = all
ends a b (command ∷ commands) all = ap (λ (r : Result Machine Refusal). after_by turn_by_command (after_turn a r) commands) all.1 ∙ ends all.0 b commands all.2

-- ---- one command

length-chain : (n : ℕ) → length (drill_chain n) ≡ n
unfolding drill_chain
length-chain zero = refl
length-chain (suc n) = omega (arith, length-append (drill_chain n) (spell (drill_block n) ∷ []), length-chain n)

connects_one : (height kept : ℕ) → height ≤ 4000000000 → turn_by_command (with height kept) (Connect (spell (drill_block height))) ≡ Ok (with (suc height) (min (suc kept) 100))
unfolding drill_chain
connects_one height kept low =
    let next = goes height (index_of regtest (drill_chain height)) low (chain_stands height low) in
    ap (λ r. chosen_if (chosen (with height kept) (Some (Connect (spell (drill_block height))))) (with_index (stack_of (with height kept)) r)) next.is

disconnects_one : (height kept : ℕ) → turn_by_command (with (suc height) (suc kept)) Disconnect ≡ Ok (with height kept)
unfolding drill_chain
disconnects_one height kept =
    let all = drill_chain height ++ spell (drill_block height) ∷ [] in
    let fewer : all_but_last all ≡ drill_chain height = take_at (drill_chain height) (spell (drill_block height) ∷ []) _ (omega (arith, length-append (drill_chain height) (spell (drill_block height) ∷ []))) in
    let less : suc kept - 1 ≡ kept = omega arith in
    λ i. Ok (record { profile = regtest; depth = 100; blocks = fewer i; kept = less i })

-- ---- many

map_append : {A B : Type 0} (f : A → B) (xs ys : List A) → map f (xs ++ ys) ≡ map f xs ++ map f ys
map_append f [] ys = refl
map_append f (x ∷ xs) ys = ap (λ zs. f x ∷ zs) (map_append f xs ys)

-- one block more behind those from a height on
one_behind : (height more : ℕ) → drop height (drill_chain (suc (height + more))) ≡ drop height (drill_chain (height + more)) ++ spell (drill_block (height + more)) ∷ []
unfolding drill_chain
one_behind height more = drop-append-le height (drill_chain (height + more)) (spell (drill_block (height + more)) ∷ []) (omega (arith, length-chain (height + more)))

none_behind : (height : ℕ) → drop height (drill_chain height) ≡ []
none_behind height = nothing (drop height (drill_chain height)) (omega (arith, length-drop height (drill_chain height), length-chain height)) where
  nothing : (xs : List (List ℕ)) → length xs ≡ 0 → xs ≡ []
  nothing [] none = refl
  nothing (x ∷ xs) none = absurd (cc none)

one_more_kept : (kept : ℕ) → min (suc (min kept 100)) 100 ≡ min (suc kept) 100
one_more_kept kept = grind (arith, nat_tests)

-- blocks from a height on are connected
connected : (height kept more : ℕ) → height + more ≤ 4000000000 → AllAccepted (with height (min kept 100)) (connects (drop height (drill_chain (height + more)))) (with (height + more) (min (kept + more) 100))
connected height kept zero low =
    let same : height + 0 ≡ height = omega arith in
    let as_many : kept + 0 ≡ kept = omega arith in
    subst (λ (h : ℕ). AllAccepted (with height (min kept 100)) (connects (drop height (drill_chain h))) (with h (min (kept + 0) 100))) (sym same)
    (subst (λ (k : ℕ). AllAccepted (with height (min kept 100)) (connects (drop height (drill_chain height))) (with height (min k 100))) (sym as_many)
    (subst (λ (blocks : List (List ℕ)). AllAccepted (with height (min kept 100)) (connects blocks) (with height (min kept 100))) (sym (none_behind height)) refl))
connected height kept (suc more) low =
    let next : height + suc more ≡ suc (height + more) = omega arith in
    let longer : kept + suc more ≡ suc (kept + more) = omega arith in
    let start = with height (min kept 100) in
    let middle = with (height + more) (min (kept + more) 100) in
    let end = with (suc (height + more)) (min (suc (kept + more)) 100) in
    let behind = Connect (spell (drill_block (height + more))) in
    let accepted : turn_by_command middle behind ≡ Ok end =
    connects_one (height + more) (min (kept + more) 100) (omega (arith, low)) ∙ ap (λ (k : ℕ). Ok (with (suc (height + more)) k)) (one_more_kept (kept + more)) in
    let both = follow start middle end (connects (drop height (drill_chain (height + more)))) (behind ∷ []) (connected height kept more (omega (arith, low))) (one middle end behind accepted) in
    let commands : connects (drop height (drill_chain (suc (height + more)))) ≡ connects (drop height (drill_chain (height + more))) ++ Connect (spell (drill_block (height + more))) ∷ [] =
    ap connects (one_behind height more) ∙ map_append (λ bytes. Connect bytes) (drop height (drill_chain (height + more))) (spell (drill_block (height + more)) ∷ []) in
    subst (λ (h : ℕ). AllAccepted (with height (min kept 100)) (connects (drop height (drill_chain h))) (with h (min (kept + suc more) 100))) (sym next)
    (subst (λ (k : ℕ). AllAccepted (with height (min kept 100)) (connects (drop height (drill_chain (suc (height + more))))) (with (suc (height + more)) (min k 100))) (sym longer)
    (subst (λ (all : List Command). AllAccepted (with height (min kept 100)) all (with (suc (height + more)) (min (suc (kept + more)) 100))) (sym commands) both))

-- and the newest disconnected
disconnected : (height kept fewer : ℕ) → AllAccepted (with (height + fewer) (kept + fewer)) (replicate fewer Disconnect) (with height kept)
disconnected height kept zero =
    let same : height + 0 ≡ height = omega arith in
    let as_many : kept + 0 ≡ kept = omega arith in
    subst (λ (h : ℕ). AllAccepted (with h (kept + 0)) [] (with height kept)) (sym same)
    (subst (λ (k : ℕ). AllAccepted (with height k) [] (with height kept)) (sym as_many) refl)
disconnected height kept (suc fewer) =
    let next : height + suc fewer ≡ suc (height + fewer) = omega arith in
    let longer : kept + suc fewer ≡ suc (kept + fewer) = omega arith in
    subst (λ (h : ℕ). AllAccepted (with h (kept + suc fewer)) (replicate (suc fewer) Disconnect) (with height kept)) (sym next)
    (subst (λ (k : ℕ). AllAccepted (with (suc (height + fewer)) k) (replicate (suc fewer) Disconnect) (with height kept)) (sym longer)
    (with (height + fewer) (kept + fewer), disconnects_one (height + fewer) (kept + fewer), disconnected height kept fewer))

-- ---- a drill

pub all_accepted : (n : ℕ) → n ≤ 4000000000 → AllAccepted drill_start (drill_commands n) (drilled n)
unfolding drill_chain
all_accepted n low =
    let newest = min n 10 in
    let few : newest ≤ n = min-le_left n 10 in
    let ten : newest ≤ 10 = min-le_right n 10 in
    let height = n - newest in
    let back : height + newest ≡ n = omega (arith, few) in
    let kept = min n 100 - newest in
    let most : min n 100 ≤ 100 = min-le_right n 100 in
    let enough : newest ≤ min n 100 = le-min few (omega (arith, ten)) in
    let kept_all : kept + newest ≡ min n 100 = omega (arith, enough) in
    let all : 0 + n ≡ n = omega arith in
    let first : AllAccepted drill_start (connects (drill_chain n)) (drilled n) =
    subst (λ (m : ℕ). AllAccepted drill_start (connects (drill_chain m)) (with m (min m 100))) all (connected 0 0 n (omega (arith, low))) in
    let middle : AllAccepted (drilled n) (replicate newest Disconnect) (with height kept) =
    subst (λ (h : ℕ). AllAccepted (with h (min n 100)) (replicate newest Disconnect) (with height kept)) back
    (subst (λ (k : ℕ). AllAccepted (with (height + newest) k) (replicate newest Disconnect) (with height kept)) kept_all (disconnected height kept newest)) in
    let again : AllAccepted (with height (min kept 100)) (connects (drop height (drill_chain (height + newest)))) (with (height + newest) (min (kept + newest) 100)) = connected height kept newest (omega (arith, low, back)) in
    let as_kept : min kept 100 ≡ kept = min-eq_left (omega (arith, most)) in
    let at_end : min (kept + newest) 100 ≡ min n 100 = ap (λ (k : ℕ). min k 100) kept_all ∙ min-eq_left most in
    let last : AllAccepted (with height kept) (connects (drop height (drill_chain n))) (drilled n) =
    subst (λ (h : ℕ). AllAccepted (with height kept) (connects (drop height (drill_chain h))) (with h (min n 100))) back
    (subst (λ (k : ℕ). AllAccepted (with height kept) (connects (drop height (drill_chain (height + newest)))) (with (height + newest) k)) at_end
    (subst (λ (k : ℕ). AllAccepted (with height k) (connects (drop height (drill_chain (height + newest)))) (with (height + newest) (min (kept + newest) 100))) as_kept again)) in
    follow drill_start (with height kept) (drilled n) (connects (drill_chain n) ++ replicate newest Disconnect) (connects (drop height (drill_chain n)))
    (follow drill_start (drilled n) (with height kept) (connects (drill_chain n)) (replicate newest Disconnect) first middle) last

pub machine_after : (n : ℕ) → n ≤ 4000000000 → after_commands drill_start (drill_commands n) ≡ drilled n
machine_after n low = ends drill_start (drilled n) (drill_commands n) (all_accepted n low)

pub stack_after_all : (n : ℕ) → n ≤ 4000000000 → after_commands_on (stack_of drill_start) (drill_commands n) ≡ stack_of (drilled n)
stack_after_all n low = sym (commands_alike drill_start (drill_commands n)) ∙ ap stack_of (machine_after n low)
