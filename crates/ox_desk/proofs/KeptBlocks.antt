-- What is asked of a machine as of its kept blocks.
use Rattle.std.proofs.Common.{◌≡◌, ◌∙◌, ◌≤◌, ℕ, zero, suc, ◌+◌, ◌-◌, List, ◌∷◌, length, take, refl, sym, ap, arith, Some, slice_get, length-take-le, take_all, take-take}
use Rattle.ox_asof.specs.AskedKept.{all_asked, older_asked}
use Rattle.ox_sat.specs.declared.profiles.Profile.{Profile}
use Rattle.ox_model.specs.Chain.{index_of}
use Rattle.ox_model.specs.Machine.{Machine, all_but_last, older_of}
use Rattle.ox_replies.specs.Asked.{Asked}
use Rattle.ox_desk.specs.Asked.{asked_in, now_in, without_last}

-- a machine of these blocks, of which so many are kept
abbrev machine_of : Profile → ℕ → ℕ → List (List ℕ) → Machine
machine_of p depth kept blocks = record { profile = p; depth = depth; blocks = blocks; kept = kept }

one_less : (p : Profile) (depth kept : ℕ) (blocks : List (List ℕ)) → record (now_in (machine_of p depth (suc kept) blocks)) { index = index_of p (all_but_last blocks); kept = suc kept - 1 } ≡ now_in (machine_of p depth kept (all_but_last blocks))
one_less p depth kept blocks =
    let same : suc kept - 1 ≡ kept = omega arith in
    ap (λ (k : ℕ). now_in (machine_of p depth k (all_but_last blocks))) same

-- what is asked behind the first is what is asked of the machine without its last block
all_less : (p : Profile) (depth kept : ℕ) (blocks : List (List ℕ))
    → all_asked (asked_in (machine_of p depth (suc kept) blocks)) ≡ now_in (machine_of p depth (suc kept) blocks) ∷ all_asked (asked_in (machine_of p depth kept (all_but_last blocks)))
all_less p depth kept blocks =
    ap (λ (a : Asked). now_in (machine_of p depth (suc kept) blocks) ∷ a ∷ older_asked a (older_of p kept (all_but_last blocks))) (one_less p depth kept blocks)

without_none : (machine : Machine) → machine ≡ without_last machine 0
without_none machine =
    let blocks : take (length machine.blocks - 0) machine.blocks ≡ machine.blocks = take_all (length machine.blocks - 0) machine.blocks (omega arith) in
    let kept : machine.kept - 0 ≡ machine.kept = omega arith in
    λ i. record machine { blocks = sym blocks i; kept = sym kept i }

without_more : (p : Profile) (depth kept : ℕ) (blocks : List (List ℕ)) (j : ℕ) → without_last (machine_of p depth kept (all_but_last blocks)) j ≡ without_last (machine_of p depth (suc kept) blocks) (suc j)
without_more p depth kept blocks j =
    let fewer : length (all_but_last blocks) ≡ length blocks - 1 = length-take-le (length blocks - 1) blocks (omega arith) in
    let count : length (all_but_last blocks) - j ≡ length blocks - suc j = omega (arith, fewer) in
    let same : take (length (all_but_last blocks) - j) (all_but_last blocks) ≡ take (length blocks - suc j) blocks =
    ap (λ (n : ℕ). take n (all_but_last blocks)) count ∙ take-take (length blocks - suc j) (length blocks - 1) blocks (omega arith) in
    let left : kept - j ≡ suc kept - suc j = omega arith in
    λ i. machine_of p depth (left i) (same i)

each_of : (p : Profile) (depth kept : ℕ) (blocks : List (List ℕ)) (j : ℕ) → j ≤ kept
    → slice_get (all_asked (asked_in (machine_of p depth kept blocks))) j ≡ Some (now_in (without_last (machine_of p depth kept blocks) j))
each_of p depth kept blocks zero within = ap (λ (m : Machine). Some (now_in m)) (without_none (machine_of p depth kept blocks))
each_of p depth zero blocks (suc j) within = absurd (omega (arith, within))
each_of p depth (suc kept) blocks (suc j) within =
    ap (λ (l : List Asked). slice_get l (suc j)) (all_less p depth kept blocks)
    ∙ each_of p depth kept (all_but_last blocks) j (omega (arith, within))
    ∙ ap (λ (m : Machine). Some (now_in m)) (without_more p depth kept blocks j)

many_of : (p : Profile) (depth kept : ℕ) (blocks : List (List ℕ)) → length (all_asked (asked_in (machine_of p depth kept blocks))) ≡ kept + 1
many_of p depth zero blocks = refl
many_of p depth (suc kept) blocks =
    ap (λ (l : List Asked). length l) (all_less p depth kept blocks)
    ∙ (let rest = many_of p depth kept (all_but_last blocks) in let one : suc (length (all_asked (asked_in (machine_of p depth kept (all_but_last blocks))))) ≡ suc kept + 1 = omega (arith, rest) in one)

pub asked_each : (machine : Machine) (j : ℕ) → j ≤ machine.kept → slice_get (all_asked (asked_in machine)) j ≡ Some (now_in (without_last machine j))
asked_each machine = each_of machine.profile machine.depth machine.kept machine.blocks

pub asked_many : (machine : Machine) → length (all_asked (asked_in machine)) ≡ machine.kept + 1
asked_many machine = many_of machine.profile machine.depth machine.kept machine.blocks
