-- How restoring goes on from one record to the next.
use Rattle.std.proofs.Common.{◌≡◌, ◌∙◌, ◌<◌, ◌≤◌, ◌+◌, ℕ, List, [], ◌∷◌, length, drop, get_or, refl, sym, ap, Result, Ok}
use Rattle.std.proofs.lemmas.List.{drop_all, drop_more}
use Rattle.ox_bytes.specs.Reading.{◌>>=◌}
use Rattle.ox_gated.specs.declared.head.Head.{Head}
use Rattle.ox_gated.specs.declared.records.Record.{Record}
use Rattle.ox_model.specs.Stack.{Stack}
use Rattle.ox_files.specs.Stands.{stack_after_records, stack_at_body, stack_in_file}
use Rattle.ox_checkpoint.specs.Unjudged.{IsUnjudged, stack_after_record}
use Rattle.ox_checkpoint.specs.declared.restoring.Unjudged.{Unjudged}
use Rattle.ox_checkpoint.specs.declared.restoring.Unjudged.TheVariants.{At, Memory}

none_after : (stack : Stack) → stack_after_records stack [] ≡ Ok stack
unfolding stack_after_records
none_after stack = refl

one_after : (stack : Stack) (one : Record) (records : List Record) → stack_after_records stack (one ∷ records) ≡ (stack_after_record stack one >>= λ next. stack_after_records next records)
unfolding stack_after_records
one_after stack one records = refl

-- the records from this one on
from_here : (stack : Stack) (records : List Record) (at : ℕ) (one : Record) → at < length records → one ≡ get_or records at one
    → stack_after_records stack (drop at records) ≡ (stack_after_record stack one >>= λ next. stack_after_records next (drop (at + 1) records))
from_here stack records at one within is =
    ap (stack_after_records stack) (drop_more records at one within ∙ ap (λ (r : Record). r ∷ drop (at + 1) records) (sym is))
    ∙ one_after stack one (drop (at + 1) records)

-- one of them that is accepted
pub goes_on : (stack next : Stack) (records : List Record) (at : ℕ) (one : Record) → at < length records → one ≡ get_or records at one → stack_after_record stack one ≡ Ok next
    → stack_after_records stack (drop at records) ≡ stack_after_records next (drop (at + 1) records)
goes_on stack next records at one within is here =
    from_here stack records at one within is ∙ ap (λ (r : Result Stack ℕ). r >>= λ s. stack_after_records s (drop (at + 1) records)) here

-- why the records from this one on give no stack
pub unjudged_here : (stack : Stack) (records : List Record) (at : ℕ) (one : Record) (why : Unjudged) → at < length records → one ≡ get_or records at one → IsUnjudged (stack_after_record stack one) why
    → IsUnjudged (stack_after_records stack (drop at records)) why
unjudged_here stack records at one (At place) within is here =
    from_here stack records at one within is ∙ ap (λ (r : Result Stack ℕ). r >>= λ s. stack_after_records s (drop (at + 1) records)) here
unjudged_here stack records at one Memory within is here = tt

-- no record is left
pub all_done : (stack : Stack) (records : List Record) (at : ℕ) → length records ≤ at → stack_after_records stack (drop at records) ≡ Ok stack
all_done stack records at all = ap (stack_after_records stack) (drop_all at records all) ∙ none_after stack

-- the body
pub body_stands : (head : Head) (body : List ℕ) (records : List Record) (stack : Stack) → stack_at_body head body ≡ Ok stack → stack_after_records stack records ≡ stack_in_file head body records
body_stands head body records stack is = sym (ap (λ (r : Result Stack ℕ). r >>= λ s. stack_after_records s records) is)

pub unjudged_body : (head : Head) (body : List ℕ) (records : List Record) (why : Unjudged) → IsUnjudged (stack_at_body head body) why → IsUnjudged (stack_in_file head body records) why
unjudged_body head body records (At place) is = ap (λ (r : Result Stack ℕ). r >>= λ s. stack_after_records s records) is
unjudged_body head body records Memory is = tt
