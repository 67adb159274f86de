-- How the replay of records goes on from one to the next.
use Rattle.std.proofs.Common.{◌≡◌, ◌∙◌, ◌<◌, ◌≤◌, ◌+◌, ◌==◌, ℕ, true, List, [], ◌∷◌, length, drop, get_or, refl, sym, ap, arith}
use Rattle.std.specs.Prelude.{Result, Ok, Err}
use Rattle.std.proofs.lemmas.Bool.{eqb-true}
use Rattle.std.proofs.lemmas.List.{drop_more, drop_all}
use Rattle.ox_bytes.specs.Reading.{◌>>=◌}
use Rattle.ox_gated.specs.declared.head.Head.{Head}
use Rattle.ox_gated.specs.declared.records.Record.{Record}
use Rattle.ox_model.specs.Stack.{Stack}
use Rattle.ox_files.specs.OldStands.{OldFault, IllFormed, Refused, empty_stack_at, old_stack_after, old_stack_after_records, old_stack_in_file}
use Rattle.ox_replay.specs.Replay.{IsReplayFault}
use Rattle.ox_replay.specs.declared.chains.ReplayFault.{ReplayFault}
use Rattle.ox_replay.specs.declared.chains.ReplayFault.TheVariants.{At, Old, Memory}

replayed_none : (number : ℕ) (stack : Stack) → old_stack_after_records number stack [] ≡ Ok stack
unfolding old_stack_after_records
replayed_none number stack = refl

replayed_then : (number : ℕ) (stack : Stack) (one : Record) (records : List Record) → old_stack_after_records number stack (one ∷ records) ≡ (old_stack_after number stack one >>= λ next. old_stack_after_records (number + 1) next records)
unfolding old_stack_after_records
replayed_then number stack one records = refl

-- the records from this one on, each numbered by its place among all
from_here : (stack : Stack) (records : List Record) (at : ℕ) (one : Record) → at < length records → one ≡ get_or records at one
    → old_stack_after_records at stack (drop at records) ≡ (old_stack_after at stack one >>= λ next. old_stack_after_records (at + 1) next (drop (at + 1) records))
from_here stack records at one within is =
    ap (old_stack_after_records at stack) (drop_more records at one within ∙ ap (λ (r : Record). r ∷ drop (at + 1) records) (sym is))
    ∙ replayed_then at stack one (drop (at + 1) records)

-- one of them that is accepted
pub goes_on : (stack next : Stack) (records : List Record) (at : ℕ) (one : Record) → at < length records → one ≡ get_or records at one → old_stack_after at stack one ≡ Ok next
    → old_stack_after_records at stack (drop at records) ≡ old_stack_after_records (at + 1) next (drop (at + 1) records)
goes_on stack next records at one within is here =
    from_here stack records at one within is ∙ ap (λ (r : Result Stack (OldFault ℕ)). r >>= λ s. old_stack_after_records (at + 1) s (drop (at + 1) records)) here

-- one of them that isn't
stops_here : (stack : Stack) (records : List Record) (at : ℕ) (one : Record) (fault : OldFault ℕ) → at < length records → one ≡ get_or records at one → old_stack_after at stack one ≡ Err fault
    → old_stack_after_records at stack (drop at records) ≡ Err fault
stops_here stack records at one fault within is here =
    from_here stack records at one within is ∙ ap (λ (r : Result Stack (OldFault ℕ)). r >>= λ s. old_stack_after_records (at + 1) s (drop (at + 1) records)) here

-- a body that is empty
pub body_there : (head : Head) (body : List ℕ) (records : List Record) → (length body == 0) ≡ true → old_stack_in_file head body records ≡ old_stack_after_records 0 (empty_stack_at head) records
body_there head [] records none = refl
body_there head (b ∷ body) records none = absurd (omega (arith, eqb-true (length (b ∷ body)) 0 none))

-- why the records from this one on give no chain
pub fault_here : (stack : Stack) (records : List Record) (at : ℕ) (one : Record) (why : ReplayFault) → at < length records → one ≡ get_or records at one → IsReplayFault (old_stack_after at stack one) why
    → IsReplayFault (old_stack_after_records at stack (drop at records)) why
fault_here stack records at one (At place) within is here = stops_here stack records at one (IllFormed place) within is here
fault_here stack records at one (Old command refusal) within is here = stops_here stack records at one (Refused command refusal) within is here
fault_here stack records at one Memory within is here = tt

-- no record is left
pub all_redone : (stack : Stack) (records : List Record) (at : ℕ) → length records ≤ at → old_stack_after_records at stack (drop at records) ≡ Ok stack
all_redone stack records at all = ap (old_stack_after_records at stack) (drop_all at records all) ∙ replayed_none at stack
