-- What a body stands for has the profile and the depth that it is read by, and what a payload makes of a stack has those of the stack.
use Rattle.std.proofs.Common.{◌≡◌, ℕ, Bool, true, false, List, [], ◌∷◌, refl, sym, ap, subst, Some, None}
use Rattle.std.specs.Prelude.{◌&&◌, ◌==◌, Option, Result, Ok, Err, IfSome, if◌then◌else◌}
use Rattle.std.specs.Result.{result_ok}
use Rattle.std.proofs.lemmas.Option.{same_Some}
use Rattle.ox_gated.specs.declared.records.Record.{Record}
use Rattle.ox_sat.specs.declared.profiles.Profile.{Profile}
use Rattle.ox_model.specs.Change.{redone}
use Rattle.ox_model.specs.Index.{Index}
use Rattle.ox_model.specs.Stack.{Stack, back_to}
use Rattle.ox_model.specs.declared.change.Change.{Change}
use Rattle.ox_plain.specs.Ends.{begins_in}
use Rattle.ox_rows.specs.RowReading.{change_at}
use Rattle.ox_sound.specs.Sound.{sound}
use Rattle.ox_files.specs.Body.{Body, is_kept, stack_in, stack_of, whole}
use Rattle.ox_files.specs.Payload.{payload_step, stack_back, stack_by_change, with_change}
use Rattle.ox_files.specs.Stands.{or_place}
use Rattle.ox_checkpoint.specs.Unjudged.{stack_after_record}

pub record CountsAs (stack next : Stack) : Type 0 where
  pub profile : next.profile ≡ stack.profile
  pub depth : next.depth ≡ stack.depth

same_counts : (stack next made : Stack) → made ≡ next → made.profile ≡ stack.profile → made.depth ≡ stack.depth → CountsAs stack next
same_counts stack next made is profile depth = subst (CountsAs stack) is (record { profile = profile; depth = depth })

by_change : (stack next : Stack) (read : Option Change) → stack_by_change stack read ≡ Some next → CountsAs stack next
by_change stack next None is = absurd (cc is)
by_change stack next (Some change) is = by_test (begins_in stack.index change && sound stack.profile (redone stack.index change)) is where
  by_test : (b : Bool) → (if b then Some (with_change stack change) else None) ≡ Some next → CountsAs stack next
  by_test true same = same_counts stack next (with_change stack change) (same_Some (with_change stack change) next same) refl refl
  by_test false same = absurd (cc same)

by_older : (stack next : Stack) (older : List Index) → result_ok (back_to stack older) ≡ Some next → CountsAs stack next
by_older stack next [] is = absurd (cc is)
by_older stack next (index ∷ older) is =
    let before : Stack = record stack { index = index; older = older } in same_counts stack next before (same_Some before next is) refl refl

by_back : (stack next : Stack) (rest : List ℕ) → stack_back stack rest ≡ Some next → CountsAs stack next
by_back stack next [] is = by_older stack next stack.older is
by_back stack next (b ∷ rest) is = absurd (cc is)

by_payload : (stack next : Stack) (payload : List ℕ) → payload_step stack payload ≡ Some next → CountsAs stack next
by_payload stack next [] is = absurd (cc is)
by_payload stack next (kind ∷ rest) is = by_kind (kind == 1) (kind == 0) is where
  by_kind : (one none : Bool) → (if one then stack_by_change stack (whole (change_at rest)) else if none then stack_back stack rest else None) ≡ Some next → CountsAs stack next
  by_kind true none is = by_change stack next (whole (change_at rest)) is
  by_kind false true is = by_back stack next rest is
  by_kind false false is = absurd (cc is)

placed : {X : Type 0} (place : ℕ) (o : Option X) (x : X) → or_place place o ≡ Ok x → o ≡ Some x
placed place None x is = absurd (cc is)
placed place (Some y) x is = let same : y ≡ x = cc is in ap (λ (z : _). Some z) same

pub counts_after : (stack next : Stack) (one : Record) → stack_after_record stack one ≡ Ok next → CountsAs stack next
counts_after stack next one is = by_payload stack next one.payload (placed one.place (payload_step stack one.payload) next is)

-- ---- of a body

pub counts_found : (p : Profile) (depth : ℕ) (body : Body) (found : Option Stack) → found ≡ stack_in p depth (Some body) → IfSome found (λ stack. (stack.profile ≡ p) × (stack.depth ≡ depth))
counts_found p depth body found is = subst (λ (o : Option Stack). IfSome o (λ stack. (stack.profile ≡ p) × (stack.depth ≡ depth))) (sym is) (by_test (is_kept p depth body)) where
  by_test : (b : Bool) → IfSome (if b then Some (stack_of p depth body) else None) (λ stack. (stack.profile ≡ p) × (stack.depth ≡ depth))
  by_test true = (refl, refl)
  by_test false = tt
