-- The index that a command left, by the stack after it.
use Rattle.std.proofs.Common.{◌≡◌, ◌∙◌, ◌≤◌, ℕ, zero, suc, List, [], ◌∷◌, length, take, refl, sym, ap, subst, arith}
use Rattle.std.specs.Prelude.{Option, Some, None, Result, Ok, Err, slice_get}
use Rattle.std.proofs.lemmas.Option.{same_Some}
use Rattle.std.specs.Result.{OnOk}
use Rattle.ox_sat.specs.declared.profiles.Profile.{Profile}
use Rattle.ox_model.specs.Change.{IsChange, redone}
use Rattle.ox_model.specs.Ends.{AllEnd, LeadDown}
use Rattle.ox_model.specs.Index.{Index}
use Rattle.ox_model.specs.Sound.{IsSound}
use Rattle.ox_model.specs.Stack.{Stack, back_to, with_index}
use Rattle.ox_model.specs.declared.change.Change.{Change}
use Rattle.ox_model.proofs.Changes.{goes_redone, goes_undone}
use Rattle.ox_rules.specs.declared.refusal.Refusal.{Refusal}
use Rattle.ox_index.specs.Earlier.{LeadsBy}
use Rattle.ox_store.specs.Ready.{HasChange, left_by}

abbrev pub no_change : Option Change
no_change = None

pub on_ok : {A E P Q : Type 0} (r : Result A E) → (P → Q) → OnOk r P → OnOk r Q
on_ok (Ok a) f p = f p
on_ok (Err e) f p = p

pub on_both : {A E P Q R : Type 0} (r : Result A E) → (P → Q → R) → OnOk r P → OnOk r Q → OnOk r R
on_both (Ok a) f p q = f p q
on_both (Err e) f p q = q

first_kept : (depth : ℕ) (stack : Stack) (index : Index) (older : List Index) → 1 ≤ depth → left_by stack (take depth (index ∷ older)) no_change ≡ index
first_kept zero stack index older some = absurd (omega (arith, some))
first_kept (suc depth) stack index older some = refl

-- of a connect it is the first of the older ones
pub left_connected : (stack new : Stack) (stepped : Result Index Refusal) → 1 ≤ stack.depth → with_index stack stepped ≡ Ok new → left_by new new.older no_change ≡ stack.index
left_connected stack new (Ok index) some is =
    let after : Stack = record stack { index = index; older = take stack.depth (stack.index ∷ stack.older) } in
    let there : after ≡ new = cc is in
    subst (λ (s : Stack). left_by s s.older no_change ≡ stack.index) there (first_kept stack.depth after stack.index stack.older some)
left_connected stack new (Err refusal) some is = absurd (cc is)

one_kept : (depth : ℕ) (older : List Index) → 1 ≤ depth → 1 ≤ length older → 1 ≤ length (take depth older)
one_kept zero older some more = absurd (omega (arith, some))
one_kept (suc depth) [] some more = absurd (omega (arith, more))
one_kept (suc depth) (index ∷ older) some more = omega arith

-- and there is one, where no block was taken back
pub change_connected : (stack new : Stack) (stepped : Result Index Refusal) (taken : Option Change) → 1 ≤ stack.depth → with_index stack stepped ≡ Ok new → taken ≡ None → HasChange new taken
change_connected stack new (Ok index) taken some is none =
    let after : Stack = record stack { index = index; older = take stack.depth (stack.index ∷ stack.older) } in
    let there : after ≡ new = cc is in
    subst (HasChange new) (sym none) (subst (λ (s : Stack). HasChange s no_change) there (one_kept stack.depth (stack.index ∷ stack.older) some (omega arith)))
change_connected stack new (Err refusal) taken some is none = absurd (cc is)

pub left_by_none : (stack new : Stack) (stepped : Result Index Refusal) (taken : Option Change) → 1 ≤ stack.depth → with_index stack stepped ≡ Ok new → taken ≡ None
    → left_by new new.older taken ≡ stack.index
left_by_none stack new stepped taken some is none = ap (left_by new new.older) none ∙ left_connected stack new stepped some is

-- of a disconnect it is where the change leads that it took back
pub left_back : (stack : Stack) (left : Index) (taken : Option Change) → LeadsBy stack.index left taken → left_by stack stack.older taken ≡ left
left_back stack left (Some change) leads = goes_redone stack.index left change leads
left_back stack left None leads = absurd leads

gone_back : (stack new : Stack) (older : List Index) → back_to stack older ≡ Ok new → new.profile ≡ stack.profile
gone_back stack new [] is = absurd (cc is)
gone_back stack new (index ∷ older) is = cc is

pub change_back : (stack new : Stack) (taken : Option Change) → IsSound stack.profile stack.index → back_to stack stack.older ≡ Ok new → LeadsBy new.index stack.index taken → HasChange new taken
change_back stack new (Some change) sound is leads =
    let there = sym (goes_redone new.index stack.index change leads) in
    let same = sym (gone_back stack new stack.older is) in record {
      leads = subst (λ (index : Index). IsChange new.index index change) there leads;
      sound = subst (λ (p : Profile). IsSound p (redone new.index change)) same (subst (IsSound stack.profile) there sound);
    }
change_back stack new None sound is leads = absurd leads

-- the newest change that is kept leads on from it, where no block was taken back
pub moves_on : (stack : Stack) (older : List Index) (taken : Option Change) (changes : List Change) (change : Change) → None ≡ taken → LeadDown stack.index older changes
    → Some change ≡ slice_get changes 0 → IsChange (left_by stack older taken) stack.index change
moves_on stack [] taken [] change none lead first = absurd (cc first)
moves_on stack [] taken (newest ∷ changes) change none lead first = absurd lead
moves_on stack (left ∷ older) taken [] change none lead first = absurd lead
moves_on stack (left ∷ older) taken (newest ∷ changes) change none lead first =
    subst (λ (t : Option Change). IsChange (left_by stack (left ∷ older) t) stack.index change) none
    (subst (λ (d : Change). IsChange left stack.index d) (sym (same_Some change newest first)) lead.0)

-- and the index from which it leads is sound
pub sound_on : (stack : Stack) (older : List Index) (taken : Option Change) (changes : List Change) (change : Change) → None ≡ taken → LeadDown stack.index older changes
    → AllEnd stack.profile stack.index changes → Some change ≡ slice_get changes 0 → IsSound stack.profile (left_by stack older taken)
sound_on stack [] taken [] change none lead end first = absurd (cc first)
sound_on stack [] taken (newest ∷ changes) change none lead end first = absurd lead
sound_on stack (left ∷ older) taken [] change none lead end first = absurd lead
sound_on stack (left ∷ older) taken (newest ∷ changes) change none lead end first =
    subst (λ (t : Option Change). IsSound stack.profile (left_by stack (left ∷ older) t)) none
    (subst (IsSound stack.profile) (goes_undone left stack.index newest lead.0) end.0.sound)

-- of a block that was taken back
pub moves_back : (stack : Stack) (older : List Index) (taken : Option Change) (change : Change) → Some change ≡ taken → HasChange stack taken → IsChange stack.index (left_by stack older taken) change
moves_back stack older (Some back) change is has =
    subst (λ (d : Change). IsChange stack.index (redone stack.index back) d) (sym (same_Some change back is)) has.leads
moves_back stack older None change is has = absurd (cc is)

pub sound_back : (stack : Stack) (older : List Index) (taken : Option Change) (change : Change) → Some change ≡ taken → HasChange stack taken → IsSound stack.profile (left_by stack older taken)
sound_back stack older (Some back) change is has = has.sound
sound_back stack older None change is has = absurd (cc is)
