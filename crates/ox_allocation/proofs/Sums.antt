-- Edicts to all outputs add up.
use Rattle.std.proofs.Common.{◌≡◌, ◌∙◌, ℕ, zero, suc, ◌+◌, ◌*◌, ◌<◌, ◌≤◌, List, [], ◌∷◌, length, refl, sym, ap, subst, arith, Bool, true, false, cond, Option, Some}
use Rattle.std.specs.Prelude.{◌==◌, nat_lt, slice_get, if◌then◌else◌}
use Rattle.std.specs.List.{sum_by}
use Rattle.std.proofs.lemmas.Bool.Decides.{nat_tests}
use Rattle.std.proofs.lemmas.List.Sums.{sum_by-cons}
use Rattle.ox_block.specs.declared.block.TxOut.{TxOut}
use Rattle.ox_runestone.specs.declared.stone.RuneId.{RuneId}
use Rattle.ox_runestone.specs.declared.stone.Edict.{Edict}
use Rattle.ox_script.specs.Shape.{is_return}
use Rattle.ox_allocation.specs.Allocation.{amount_at}
use Rattle.ox_allocation.specs.Asked.{EdictsToAllAddUp, IsToAll}
use Rattle.ox_allocation.specs.Balances.{is_same}
use Rattle.ox_allocation.specs.Gifts.{Gift, Left, amount_given, given_by, gifts_by, gifts_of_all, gifts_to, holders, holders_from, left_after, parts_of, rune_of}
use Rattle.ox_allocation.specs.Dealing.{same_to}
use Rattle.ox_allocation.proofs.Counting.{none_at}
use Rattle.ox_allocation.proofs.Ids.{same_itself}
use Rattle.ox_allocation.proofs.Owing.{all_together, among, at-append, at-same_to, given-same_to, parts_enough}

past_by_test : (b : Bool) (place k : ℕ) (places : List ℕ) (n : ℕ) → place < k → among (λ p. p == place) places n ≡ 0 → among (λ p. p == place) (if b then places else (k ∷ places)) n ≡ 0
past_by_test true place k places n past rest = rest
past_by_test false place k places n past rest =
    let apart : (k == place) ≡ false = grind (arith, nat_tests, past) in
    let none : (if k == place then n else 0) ≡ 0 = ap (λ b. if b then n else 0) apart in
    omega arith

past_holders : (place k : ℕ) (outputs : List TxOut) (n : ℕ) → place < k → among (λ p. p == place) (holders_from k outputs) n ≡ 0
unfolding holders_from
past_holders place k [] n past = refl
past_holders place k (output ∷ outputs) n past = past_by_test (is_return output.script) place k (holders_from (k + 1) outputs) n past (past_holders place (k + 1) outputs n (omega arith))

here_by_test : (b : Bool) (place : ℕ) (places : List ℕ) (n : ℕ) → among (λ p. p == place) places n ≡ 0 → among (λ p. p == place) (if b then places else (place ∷ places)) n ≡ (if b then 0 else n)
here_by_test true place places n rest = rest
here_by_test false place places n rest =
    let same : (place == place) ≡ true = grind (arith, nat_tests) in
    let all : (if place == place then n else 0) ≡ n = ap (λ b. if b then n else 0) same in
    omega arith

later_by_test : (b : Bool) (place k : ℕ) (places : List ℕ) (n m : ℕ) → k < place → among (λ p. p == place) places n ≡ m → among (λ p. p == place) (if b then places else (k ∷ places)) n ≡ m
later_by_test true place k places n m before rest = rest
later_by_test false place k places n m before rest =
    let apart : (k == place) ≡ false = grind (arith, nat_tests, before) in
    let none : (if k == place then n else 0) ≡ 0 = ap (λ b. if b then n else 0) apart in
    omega arith

-- an output that can hold runes is once among those that can
holds_once : (place k j : ℕ) (outputs : List TxOut) (output : TxOut) (n : ℕ) → place ≡ k + j → slice_get outputs j ≡ Some output
    → among (λ p. p == place) (holders_from k outputs) n ≡ (if is_return output.script then 0 else n)
unfolding holders_from
holds_once place k j [] output n at there = absurd (cc there)
holds_once place k zero (first ∷ outputs) output n at there =
    let same : first ≡ output = cc there in
    let here : k ≡ place = omega arith in
    subst (λ x. among (λ p. p == place) (if is_return first.script then holders_from (k + 1) outputs else (x ∷ holders_from (k + 1) outputs)) n ≡ (if is_return first.script then 0 else n)) (sym here)
    (here_by_test (is_return first.script) place (holders_from (k + 1) outputs) n (past_holders place (k + 1) outputs n (omega arith)))
    ∙ ap (λ (o : TxOut). if is_return o.script then 0 else n) same
holds_once place k (suc j) (first ∷ outputs) output n at there =
    later_by_test (is_return first.script) place k (holders_from (k + 1) outputs) n (if is_return output.script then 0 else n) (omega arith) (holds_once place (k + 1) j outputs output n (omega arith) there)

-- an edict gives each the same
each_gets : (outputs : List TxOut) (etched : Option RuneId) (id : RuneId) (edict : Edict) (left : Left) → IsToAll outputs etched id edict → length (holders outputs) * edict.amount ≤ left id
    → gifts_by outputs edict left (rune_of etched edict.id) ≡ same_to id edict.amount (holders outputs)
each_gets outputs etched id edict left is enough =
    let test : nat_lt edict.output (length outputs) ≡ false = grind (arith, nat_tests, is.all) in
    let together = all_together (holders outputs) edict.amount in
    ap (gifts_by outputs edict left) is.names
    ∙ ap (λ b. cond b (gifts_to id (edict.output ∷ []) (parts_of edict.amount (left id) 1)) (gifts_of_all outputs id edict.amount (left id))) test
    ∙ parts_enough id edict.amount (left id) (holders outputs) is.some (omega arith)

nothing_by_test : (b : Bool) (n : ℕ) → n ≡ 0 → n ≡ (if b then 0 else 0)
nothing_by_test true n is = is
nothing_by_test false n is = is

both_by_test : (b : Bool) (m n all : ℕ) → all ≡ m + n → (if b then 0 else m) + (if b then 0 else n) ≡ (if b then 0 else all)
both_by_test true m n all is = omega arith
both_by_test false m n all is = omega arith

split_sum : (count m n : ℕ) → count * (m + n) ≡ count * m + count * n
split_sum count m n = grind arith

abbrev amounts : List Edict → ℕ
amounts edicts = sum_by (λ (edict : Edict). edict.amount) edicts

pub adds_up : EdictsToAllAddUp
unfolding given_by
adds_up outputs etched id [] left place output are enough there = nothing_by_test (is_return output.script) (amount_at place [] id) (none_at place id)
adds_up outputs etched id (edict ∷ edicts) left place output are enough there =
    let gifts = gifts_by outputs edict left (rune_of etched edict.id) in
    let total = sum_by-cons (λ (e : Edict). e.amount) edict edicts in
    let split = ap (λ n. length (holders outputs) * n) total ∙ split_sum (length (holders outputs)) edict.amount (amounts edicts) in
    let same = each_gets outputs etched id edict left are.0 (omega arith) in
    let mine : (if is_same id id then edict.amount else 0) ≡ edict.amount = ap (λ b. if b then edict.amount else 0) (same_itself id) in
    let given : amount_given id gifts ≡ length (holders outputs) * edict.amount =
    ap (amount_given id) same ∙ given-same_to id edict.amount (holders outputs) id ∙ ap (among (λ p. true) (holders outputs)) mine ∙ all_together (holders outputs) edict.amount
    in
    let here : amount_at place gifts id ≡ (if is_return output.script then 0 else edict.amount) =
    ap (λ (some : List Gift). amount_at place some id) same ∙ at-same_to place id edict.amount (holders outputs) id ∙ ap (among (λ p. p == place) (holders outputs)) mine
    ∙ holds_once place 0 place outputs output edict.amount (omega arith) there
    in
    let others = adds_up outputs etched id edicts (left_after gifts left) place output are.1 (omega arith) there in
    let both = both_by_test (is_return output.script) edict.amount (amounts edicts) (amounts (edict ∷ edicts)) total in
    let all = at-append place gifts (given_by outputs etched edicts (left_after gifts left)) id in
    omega arith
