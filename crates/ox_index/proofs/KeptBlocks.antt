-- The changes of kept blocks, as the stack turns.
use Rattle.std.proofs.Common.{◌≡◌, ◌∙◌, ℕ, zero, suc, List, [], ◌∷◌, length, drop, take, refl, sym, ap, subst}
use Rattle.std.specs.Prelude.{slice_get, Some, None, Result, Ok, Err}
use Rattle.ox_rules.specs.declared.refusal.Refusal.TheVariants.{Depth}
use Rattle.ox_rules.specs.declared.refusal.Refusal.{Refusal}
use Rattle.ox_model.specs.Stack.{Stack, back_to, with_index}
use Rattle.ox_sat.specs.declared.profiles.Profile.{Profile}
use Rattle.ox_model.specs.Change.{IsChange, undone}
use Rattle.ox_model.specs.Ends.{AllEnd, EndsIn, older_by}
use Rattle.ox_model.specs.Index.{Index}
use Rattle.ox_model.specs.Sound.{IsSound}
use Rattle.ox_model.specs.declared.change.Change.{Change}
use Rattle.ox_model.proofs.Changes.{goes_undone}

pub length-older_by : (index : Index) (changes : List Change) → length (older_by index changes) ≡ length changes
length-older_by index [] = refl
length-older_by index (change ∷ changes) = ap suc (length-older_by (undone index change) changes)

pub older_by-take : (n : ℕ) (index : Index) (changes : List Change) → older_by index (take n changes) ≡ take n (older_by index changes)
older_by-take zero index changes = refl
older_by-take (suc n) index [] = refl
older_by-take (suc n) index (change ∷ changes) = ap (λ (l : List Index). undone index change ∷ l) (older_by-take n (undone index change) changes)

pub AllEnd-take : (p : Profile) (n : ℕ) (index : Index) (changes : List Change) → AllEnd p index changes → AllEnd p index (take n changes)
AllEnd-take p zero index changes all = tt
AllEnd-take p (suc n) index [] all = tt
AllEnd-take p (suc n) index (change ∷ changes) all = (all.0, AllEnd-take p n (undone index change) changes all.1)

-- with the change of one block more
pub AllEnd-push : (p : Profile) (before after : Index) (change : Change) (changes : List Change) → IsChange before after change → IsSound p before
    → AllEnd p before changes → AllEnd p after (change ∷ changes)
AllEnd-push p before after change changes is sound all =
    let back = sym (goes_undone before after change is) in (
      record { leads = subst (λ (i : Index). IsChange i after change) back is; sound = subst (IsSound p) back sound },
      subst (λ (i : Index). AllEnd p i changes) back all,
    )

pub older_pushed : (before after : Index) (change : Change) (changes : List Change) → IsChange before after change
    → older_by after (change ∷ changes) ≡ before ∷ older_by before changes
older_pushed before after change changes is = ap (λ (i : Index). i ∷ older_by i changes) (goes_undone before after change is)

-- of a stack that a block is put on: at most so many are kept
pub puts_on : (p : Profile) (depth : ℕ) (before after : Index) (change : Change) (changes : List Change) (r : Result Index Refusal)
    → r ≡ Ok after → IsChange before after change
    → with_index (record { profile = p; depth = depth; index = before; older = older_by before changes }) r
    ≡ Ok (record { profile = p; depth = depth; index = after; older = older_by after (take depth (change ∷ changes)) })
puts_on p depth before after change changes r is leads =
    let older : older_by after (take depth (change ∷ changes)) ≡ take depth (before ∷ older_by before changes) =
    older_by-take depth after (change ∷ changes) ∙ ap (take depth) (older_pushed before after change changes leads) in
    ap (with_index (record { profile = p; depth = depth; index = before; older = older_by before changes })) is
    ∙ (λ i. Ok (record { profile = p; depth = depth; index = after; older = sym older i }))

-- ---- the newest one

some_same : {X : Type 0} (x y : X) → Some x ≡ Some y → x ≡ y
some_same x y is = cc

pub newest_ends : (p : Profile) (index : Index) (changes : List Change) (change : Change) → AllEnd p index changes → Some change ≡ slice_get changes 0 → EndsIn p index change
newest_ends p index [] change all is = absurd (cc is)
newest_ends p index (first ∷ changes) change all is = subst (EndsIn p index) (sym (some_same change first is)) all.0

pub none_kept : (stack : Stack) (index : Index) (changes : List Change) → None ≡ slice_get changes 0 → back_to stack (older_by index changes) ≡ Err Depth
none_kept stack index [] is = refl
none_kept stack index (first ∷ changes) is = absurd (cc is)

-- without the newest one
pub AllEnd-drop : (p : Profile) (index : Index) (changes : List Change) (change : Change) → AllEnd p index changes → Some change ≡ slice_get changes 0
    → AllEnd p (undone index change) (drop 1 changes)
AllEnd-drop p index [] change all is = absurd (cc is)
AllEnd-drop p index (first ∷ changes) change all is =
    subst (λ (d : Change). AllEnd p (undone index d) changes) (sym (some_same change first is)) all.1

pub goes_back_to : (stack : Stack) (index : Index) (changes : List Change) (change : Change) → Some change ≡ slice_get changes 0
    → back_to stack (older_by index changes) ≡ Ok (record stack { index = undone index change; older = older_by (undone index change) (drop 1 changes) })
goes_back_to stack index [] change is = absurd (cc is)
goes_back_to stack index (first ∷ changes) change is =
    let same = some_same change first is in
    λ i. Ok (record stack { index = undone index (sym same i); older = older_by (undone index (sym same i)) changes })
