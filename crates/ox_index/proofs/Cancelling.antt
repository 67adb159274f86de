-- What a command of a chain can be cancelled by.
use Rattle.std.proofs.Common.{◌≡◌, ◌∙◌, ◌≤◌, ℕ, List, length, drop, take, refl, sym, ap, subst, arith, length-drop, length-take}
use Rattle.std.specs.Prelude.{Option, Some, None, IsSome, Result}
use Rattle.std.specs.Option.{ForSome}
use Rattle.ox_sat.specs.declared.profiles.Profile.{Profile}
use Rattle.ox_model.specs.Ends.{AllEnd, older_by}
use Rattle.ox_model.specs.Index.{Index}
use Rattle.ox_model.specs.Stack.{Stack, with_index}
use Rattle.ox_model.specs.declared.change.Change.{Change}
use Rattle.ox_rules.specs.Why.{Refuses}
use Rattle.ox_rules.specs.declared.refusal.Refusal.{Refusal}
use Rattle.ox_rules.specs.declared.why.Why.{Why}
use Rattle.ox_rules.specs.declared.why.Why.TheVariants.{Refused, Memory}
use Rattle.ox_model.specs.Change.{IsChange}
use Rattle.ox_index.specs.Earlier.{EndThen, LeadsBy, stack_then}
use Rattle.ox_index.specs.Live.{marked_in, profile_in}
use Rattle.ox_index.specs.declared.live.Live.{Live}

-- ---- the changes that are kept, where nothing has changed

pub ends_alike : (p q : Profile) (index index' : Index) (changes changes' : List Change) → q ≡ p → index' ≡ index → changes' ≡ changes → AllEnd p index changes → AllEnd q index' changes'
ends_alike p q index index' changes changes' of_p of_index of_changes all =
    subst (λ (r : Profile). AllEnd r index' changes') (sym of_p)
    (subst (λ (i : Index). AllEnd p i changes') (sym of_index) (subst (AllEnd p index) (sym of_changes) all))

-- ---- those before the last command

some_same : {X : Type 0} (x y : X) → Some x ≡ Some y → x ≡ y
some_same x y is = cc is

pub few_then : (depth : ℕ) (before : Option (List Change)) (changes : List Change) → before ≡ Some changes → length changes ≤ depth → ForSome before (λ l. length l ≤ depth)
few_then depth before changes is few l then = subst (λ (l : List Change). length l ≤ depth) (some_same changes l (sym is ∙ then)) few

pub end_then : (p : Profile) (live : Live) (index : Index) (before : Option (List Change)) (changes : List Change) → profile_in live ≡ p → marked_in live ≡ Some index → before ≡ Some changes
    → AllEnd p index changes → EndThen live before
end_then p live index before changes of_p of_mark of_before all i is_i l is_l =
    ends_alike p (profile_in live) index i changes l of_p (sym (some_same index i (sym of_mark ∙ is_i))) (sym (some_same changes l (sym of_before ∙ is_l))) all

pub stack_then_is : (p q : Profile) (depth : ℕ) (mark : Option Index) (index : Index) (before : Option (List Change)) (changes : List Change) → q ≡ p → mark ≡ Some index → before ≡ Some changes
    → stack_then q depth mark before ≡ Some (record { profile = p; depth = depth; index = index; older = older_by index changes })
stack_then_is p q depth mark index before changes of_p of_mark of_before =
    ap (λ (r : Profile). stack_then r depth mark before) of_p
    ∙ ap (λ (m : Option Index). stack_then p depth m before) of_mark
    ∙ ap (stack_then p depth (Some index)) of_before

-- nothing is left of it

pub no_then : {A : Type 0} (before : Option (List Change)) (changes : List Change) → before ≡ None → before ≡ Some changes → A
no_then before changes none some = absurd (cc (sym none ∙ some))

pub none_then : (p : Profile) (depth : ℕ) (mark : Option Index) (before : Option (List Change)) → before ≡ None → stack_then p depth mark before ≡ None
none_then p depth (Some index) before none = ap (stack_then p depth (Some index)) none
none_then p depth None before none = refl

pub no_mark_then : {A : Type 0} (mark : Option Index) (index : Index) → mark ≡ None → mark ≡ Some index → A
no_mark_then mark index none some = absurd (cc (sym none ∙ some))

-- ---- a command that isn't accepted

pub refused_on : (stack : Stack) (r : Result Index Refusal) (why : Why) → Refuses why r → Refuses why (with_index stack r)
refused_on stack r (Refused refusal) is = ap (with_index stack) is
refused_on stack r Memory is = tt

pub same_stack : (p q : Profile) (depth : ℕ) (index index' : Index) (changes changes' : List Change) → q ≡ p → index' ≡ index → changes' ≡ changes
    → ◌≡◌ {A = Stack} (record { profile = q; depth = depth; index = index'; older = older_by index' changes' }) (record { profile = p; depth = depth; index = index; older = older_by index changes })
same_stack p q depth index index' changes changes' of_p of_index of_changes = λ i. record {
  profile = of_p i;
  depth = depth;
  index = of_index i;
  older = older_by (of_index i) (of_changes i);
}

pub same_index : (a b : Index) → Some a ≡ Some b → a ≡ b
same_index a b same = cc

pub still_few : (depth : ℕ) (changes changes' : List Change) → changes' ≡ changes → length changes ≤ depth → length changes' ≤ depth
still_few depth changes changes' is few = subst (λ (l : List Change). length l ≤ depth) (sym is) few

pub dropped_few : (depth : ℕ) (changes changes' : List Change) → changes' ≡ drop 1 changes → length changes ≤ depth → length changes' ≤ depth
dropped_few depth changes changes' is few = omega (arith, ap (λ (l : List Change). length l) is, length-drop 1 changes)

-- a change that was taken back leads from the one index to the other
pub leads_by : (before after : Index) (taken : Option Change) (change : Change) → taken ≡ Some change → IsChange before after change → LeadsBy before after taken
leads_by before after taken change is leads = subst (LeadsBy before after) (sym is) leads

pub taken_few : (depth : ℕ) (changes changes' : List Change) → changes' ≡ take depth changes → length changes' ≤ depth
taken_few depth changes changes' is = omega (arith, ap (λ (l : List Change). length l) is, length-take depth changes)

-- ---- going back there

pub some_mark : (p : Profile) (depth : ℕ) (mark : Option Index) (before : Option (List Change)) → IsSome (stack_then p depth mark before) → IsSome mark
some_mark p depth (Some index) before some = refl
some_mark p depth None (Some changes) some = some
some_mark p depth None None some = some

pub some_before : (p : Profile) (depth : ℕ) (mark : Option Index) (before : Option (List Change)) → IsSome (stack_then p depth mark before) → IsSome before
some_before p depth mark (Some changes) some = refl
some_before p depth (Some index) None some = some
some_before p depth None None some = some
