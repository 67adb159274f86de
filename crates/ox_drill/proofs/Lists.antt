-- Lists of blocks and of commands.
use Rattle.std.proofs.Common.{◌≡◌, ◌∙◌, ◌≤◌, ◌<◌, ◌-◌, ℕ, zero, suc, ◌+◌, List, [], ◌∷◌, ◌++◌, length, take, refl, sym, ap, arith, append_assoc, drop, length-append, zero-add}
use Rattle.std.specs.Prelude.{min, replicate}
use Rattle.std.proofs.Math.Nat.{min-le_left}
use Rattle.std.proofs.lemmas.List.{append-nil, drop_at, map-append, replicate-append-replicate}
use Rattle.ox_feed.specs.declared.command.Command.{Command}
use Rattle.ox_feed.specs.declared.command.Command.TheVariants.{Connect, Disconnect}
use Rattle.ox_block.specs.Spelling.{spell}
use Rattle.ox_drill.specs.Chain.{blocks_from, connects, drill_block, drill_chain, drill_commands}

-- ---- blocks

pub blocks_more : (height some more : ℕ) → blocks_from height (some + more) ≡ blocks_from height some ++ blocks_from (height + some) more
unfolding blocks_from
blocks_more height some zero =
    let same : some + 0 ≡ some = omega arith in
    ap (blocks_from height) same ∙ sym (append-nil (blocks_from height some))
blocks_more height some (suc more) =
    let next : some + suc more ≡ suc (some + more) = omega arith in
    let place : height + (some + more) ≡ height + some + more = omega arith in
    ap (blocks_from height) next
    ∙ ap (λ (l : List (List ℕ)). l ++ spell (drill_block (height + (some + more))) ∷ []) (blocks_more height some more)
    ∙ ap (λ (h : ℕ). (blocks_from height some ++ blocks_from (height + some) more) ++ spell (drill_block h) ∷ []) place
    ∙ append_assoc (blocks_from height some) (blocks_from (height + some) more) (spell (drill_block (height + some + more)) ∷ [])

one_block : (height : ℕ) → blocks_from height 1 ≡ spell (drill_block height) ∷ []
unfolding blocks_from
one_block height =
    let same : height + 0 ≡ height = omega arith in
    ap (λ (h : ℕ). spell (drill_block h) ∷ []) same

pub connects_more : (height some more : ℕ) → connects (blocks_from height (some + more)) ≡ connects (blocks_from height some) ++ connects (blocks_from (height + some) more)
connects_more height some more =
    ap connects (blocks_more height some more) ∙ map-append (λ bytes. Connect bytes) (blocks_from height some) (blocks_from (height + some) more)

pub connects_next : (height done : ℕ) → connects (blocks_from height done) ++ Connect (spell (drill_block (height + done))) ∷ [] ≡ connects (blocks_from height (done + 1))
connects_next height done =
    sym (connects_more height done 1 ∙ ap (λ (l : List (List ℕ)). connects (blocks_from height done) ++ connects l) (one_block (height + done)))

-- so many are connected, one is in hand, and these aren't begun
abbrev pub connects_left : ℕ → ℕ → ℕ → List Command
connects_left height done count = connects (blocks_from (height + (done + 1)) (count - (done + 1)))

pub connects_in_hand : (height done count : ℕ) → done < count
    → connects (blocks_from height done) ++ (Connect (spell (drill_block (height + done))) ∷ [] ++ connects_left height done count) ≡ connects (blocks_from height count)
connects_in_hand height done count less =
    let all : done + 1 + (count - (done + 1)) ≡ count = omega (arith, less) in
    sym (append_assoc (connects (blocks_from height done)) (Connect (spell (drill_block (height + done))) ∷ []) (connects_left height done count))
    ∙ ap (λ (l : List Command). l ++ connects_left height done count) (connects_next height done)
    ∙ sym (connects_more height (done + 1) (count - (done + 1)))
    ∙ ap (λ (n : ℕ). connects (blocks_from height n)) all

pub length-connects : (height some : ℕ) → length (connects (blocks_from height some)) ≡ some
unfolding blocks_from
length-connects height zero = refl
length-connects height (suc some) =
    let last = Connect (spell (drill_block (height + some))) ∷ [] in
    ap length (map-append (λ bytes. Connect bytes) (blocks_from height some) (spell (drill_block (height + some)) ∷ []))
    ∙ omega (arith, length-append (connects (blocks_from height some)) last, length-connects height some)

-- ---- disconnects

pub disconnects_next : (done : ℕ) → replicate done Disconnect ++ Disconnect ∷ [] ≡ replicate (done + 1) Disconnect
disconnects_next done = replicate-append-replicate done 1 Disconnect

pub disconnects_in_hand : (done count : ℕ) → done < count → replicate done Disconnect ++ (Disconnect ∷ [] ++ replicate (count - (done + 1)) Disconnect) ≡ replicate count Disconnect
disconnects_in_hand done count less =
    let all : done + (1 + (count - (done + 1))) ≡ count = omega (arith, less) in
    ap (λ (l : List Command). replicate done Disconnect ++ l) (replicate-append-replicate 1 (count - (done + 1)) Disconnect)
    ∙ replicate-append-replicate done (1 + (count - (done + 1))) Disconnect
    ∙ ap (λ (n : ℕ). replicate n Disconnect) all

-- ---- a drill

pub chain_from : (n : ℕ) → drill_chain n ≡ blocks_from 0 n
unfolding drill_chain blocks_from
chain_from zero = refl
chain_from (suc n) =
    ap (λ (l : List (List ℕ)). l ++ spell (drill_block n) ∷ []) (chain_from n)
    ∙ ap (λ (h : ℕ). blocks_from 0 n ++ spell (drill_block h) ∷ []) (sym (zero-add n))

length-blocks : (height some : ℕ) → length (blocks_from height some) ≡ some
unfolding blocks_from
length-blocks height zero = refl
length-blocks height (suc some) = omega (arith, length-append (blocks_from height some) (spell (drill_block (height + some)) ∷ []), length-blocks height some)

-- the oldest blocks, the newest, these back, and again: what a drill commands
pub commands_are : (n oldest newest : ℕ) → newest ≡ min n 10 → oldest ≡ n - newest
    → connects (blocks_from 0 oldest) ++ connects (blocks_from oldest newest) ++ replicate newest Disconnect ++ connects (blocks_from oldest newest) ≡ drill_commands n
commands_are n oldest newest few rest =
    let few_of : min n 10 ≤ n = min-le_left n 10 in
    let all : oldest + newest ≡ n = omega (arith, few, rest, few_of) in
    let place : 0 + oldest ≡ oldest = zero-add oldest in
    let chain : drill_chain n ≡ blocks_from 0 oldest ++ blocks_from oldest newest =
    chain_from n ∙ ap (blocks_from 0) (sym all) ∙ blocks_more 0 oldest newest ∙ ap (λ (h : ℕ). blocks_from 0 oldest ++ blocks_from h newest) place in
    let last : drop oldest (drill_chain n) ≡ blocks_from oldest newest =
    ap (drop oldest) chain ∙ drop_at (blocks_from 0 oldest) (blocks_from oldest newest) oldest (length-blocks 0 oldest) in
    let first : connects (drill_chain n) ≡ connects (blocks_from 0 oldest) ++ connects (blocks_from oldest newest) =
    ap connects chain ∙ map-append (λ bytes. Connect bytes) (blocks_from 0 oldest) (blocks_from oldest newest) in
    ap (λ (l : List Command). l ++ replicate newest Disconnect ++ connects (blocks_from oldest newest)) (sym first)
    ∙ ap (λ (l : List (List ℕ)). connects (drill_chain n) ++ replicate newest Disconnect ++ connects l) (sym last)
    ∙ ap (λ (o : ℕ). connects (drill_chain n) ++ replicate newest Disconnect ++ connects (drop o (drill_chain n))) rest
    ∙ ap (λ (k : ℕ). connects (drill_chain n) ++ replicate k Disconnect ++ connects (drop (n - k) (drill_chain n))) few

-- the same, with what is left behind the oldest, and behind the newest
pub oldest_in_hand : (n oldest newest : ℕ) → newest ≡ min n 10 → oldest ≡ n - newest
    → connects (blocks_from 0 oldest) ++ (connects (blocks_from oldest newest) ++ (replicate newest Disconnect ++ connects (blocks_from oldest newest))) ≡ drill_commands n
oldest_in_hand n oldest newest few rest =
    let x = connects (blocks_from 0 oldest) in
    let y = connects (blocks_from oldest newest) in
    let d = replicate newest Disconnect in
    sym (append_assoc x y (d ++ y)) ∙ sym (append_assoc (x ++ y) d y) ∙ commands_are n oldest newest few rest

pub newest_back : (n oldest newest : ℕ) → newest ≡ min n 10 → oldest ≡ n - newest
    → connects (blocks_from 0 oldest) ++ connects (blocks_from oldest newest) ++ (replicate newest Disconnect ++ connects (blocks_from oldest newest)) ≡ drill_commands n
newest_back n oldest newest few rest =
    let x = connects (blocks_from 0 oldest) in
    let y = connects (blocks_from oldest newest) in
    let d = replicate newest Disconnect in
    sym (append_assoc (x ++ y) d y) ∙ commands_are n oldest newest few rest

pub take_all : (xs : List Command) → take (length xs) xs ≡ xs
take_all [] = refl
take_all (x ∷ xs) = ap (λ (l : List Command). x ∷ l) (take_all xs)
