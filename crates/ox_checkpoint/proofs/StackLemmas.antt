-- Stacks as plain data: a change more, a block less, and what a body's bytes stand for.
use Rattle.std.proofs.Common.{◌≡◌, ◌∙◌, ℕ, zero, suc, ◌≤◌, Bool, true, false, cond, List, [], ◌∷◌, length, take, refl, sym, ap, subst, arith, Option, Some, None}
use Rattle.std.specs.Prelude.{◌&&◌, nat_le}
use Rattle.std.proofs.lemmas.Bool.{and_parts, leb-true}
use Rattle.ox_sat.specs.declared.profiles.Profile.{Profile}
use Rattle.ox_model.specs.Change.{IsChange, redone, undone}
use Rattle.ox_model.specs.Ends.{AllEnd, older_by}
use Rattle.ox_model.specs.Index.{Index}
use Rattle.ox_model.specs.Sound.{IsSound}
use Rattle.ox_model.specs.Stack.{Stack}
use Rattle.ox_model.specs.declared.change.Change.{Change}
use Rattle.ox_plain.specs.Ends.{begins_in, ends_in}
use Rattle.ox_plain.proofs.EndLaws.{begins, ends}
use Rattle.ox_index.proofs.KeptBlocks.{AllEnd-push, AllEnd-take, older_by-take, older_pushed}
use Rattle.ox_sound.specs.Sound.{sound}
use Rattle.ox_sound.proofs.SoundLemmas.{Decides-sound}
use Rattle.ox_files.specs.Body.{Body, body_of, is_kept, leads_down, stack_in, stack_of}
use Rattle.ox_files.specs.Payload.{stack_back, stack_by_change, with_change}
use Rattle.ox_files.proofs.DownLemmas.{down_to}
use Rattle.ox_sat.specs.Profiles.{IsProfile}
use Rattle.ox_checkpoint.specs.Standing.{CanStand}

-- ---- a change more

length-take-most : {X : Type 0} (n : ℕ) (xs : List X) → length (take n xs) ≤ n
length-take-most zero xs = omega arith
length-take-most (suc n) [] = omega arith
length-take-most (suc n) (x ∷ xs) = let rest : length (take n xs) ≤ n = length-take-most n xs in omega (arith, rest)

abbrev pub leads_on : Profile → Index → Change → Bool
leads_on p index change = begins_in index change && sound p (redone index change)

-- a change has been put on a stack
pub record PutOn (p : Profile) (depth : ℕ) (index after : Index) (change : Change) (changes kept : List Change) : Type 0 where
  pub lead : true ≡ leads_on p index change
  pub is : after ≡ redone index change
  pub items : kept ≡ take depth (change ∷ changes)

module _ {p : Profile} {depth : ℕ} {index after : Index} {change : Change} {changes kept : List Change} (put : PutOn p depth index after change changes kept) where
  goes_on : IsChange index (redone index change) change
  goes_on = (begins index change).0 (and_parts (begins_in index change) (sound p (redone index change)) (sym put.lead)).0

  sound_after : IsSound p after
  sound_after =
      subst (IsSound p) (sym put.is) ((Decides-sound p (redone index change)).0 (and_parts (begins_in index change) (sound p (redone index change)) (sym put.lead)).1)

  ends_after : IsSound p index → AllEnd p index changes → AllEnd p after kept
  ends_after is_sound all =
      let end : AllEnd p (redone index change) (take depth (change ∷ changes)) =
      AllEnd-take p depth (redone index change) (change ∷ changes) (AllEnd-push p index (redone index change) change changes goes_on is_sound all) in
      subst (AllEnd p after) (sym put.items) (subst (λ (i : Index). AllEnd p i (take depth (change ∷ changes))) (sym put.is) end)

  older_with : older_by (redone index change) (take depth (change ∷ changes)) ≡ take depth (index ∷ older_by index changes)
  older_with = older_by-take depth (redone index change) (change ∷ changes) ∙ ap (take depth) (older_pushed index (redone index change) change changes goes_on)

  by_change : Some (stack_of p depth (body_of after kept)) ≡ stack_by_change (stack_of p depth (body_of index changes)) (Some change)
  by_change =
      let stack = stack_of p depth (body_of index changes) in
      let next : Some (stack_of p depth (body_of after kept)) ≡ Some (with_change stack change) =
      ap (λ (i : Index). Some (stack_of p depth (body_of i kept))) put.is
      ∙ ap (λ (c : List Change). Some (stack_of p depth (body_of (redone index change) c))) put.items
      ∙ ap (λ (older : List Index). Some (record { profile = p; depth = depth; index = redone index change; older = older })) older_with in
      next ∙ ap (λ (b : Bool). cond b (Some (with_change stack change)) None) put.lead

  few_put : length kept ≤ depth
  few_put = let long : length kept ≡ length (take depth (change ∷ changes)) = ap length put.items in let most : length (take depth (change ∷ changes)) ≤ depth = length-take-most depth (change ∷ changes) in omega (arith, long, most)

  pub accepted_on : (stack : Stack) → stack_of p depth (body_of index changes) ≡ stack → stack_by_change stack (Some change) ≡ Some (stack_of p depth (body_of after kept))
  accepted_on stack is = sym (by_change ∙ ap (λ (s : Stack). stack_by_change s (Some change)) is)

  pub stands_on : CanStand p depth (body_of index changes) → CanStand p depth (body_of after kept)
  stands_on can = record { known = can.known; some = can.some; most = can.most; few = few_put; sound = sound_after; end = ends_after can.sound can.end }

-- a change that isn't accepted, and the index as it stands again
pub record NotOn (p : Profile) (index again : Index) (change : Change) : Type 0 where
  pub fails : false ≡ leads_on p index change
  pub same : again ≡ index

module _ {p : Profile} {index again : Index} {change : Change} (off : NotOn p index again change) (depth : ℕ) (changes : List Change) where
  pub refused_on : (stack : Stack) → stack_of p depth (body_of index changes) ≡ stack → (stack_by_change stack (Some change) ≡ None) × (stack_of p depth (body_of again changes) ≡ stack)
  refused_on stack is = (
    sym (ap (λ (b : Bool). cond b (Some (with_change stack change)) None) (off.fails ∙ ap (λ (s : Stack). begins_in s.index change && sound s.profile (redone s.index change)) is)),
    ap (λ (i : Index). stack_of p depth (body_of i changes)) off.same ∙ is,
  )

  pub stands_off : CanStand p depth (body_of index changes) → CanStand p depth (body_of again changes)
  stands_off can = subst (λ (i : Index). CanStand p depth (body_of i changes)) (sym off.same) can

-- ---- a block less

pub does_end : (p : Profile) (index : Index) (all changes : List Change) (change : Change) → AllEnd p index all → all ≡ change ∷ changes → ends_in index change ≡ true
does_end p index all changes change end is = let first = subst (AllEnd p index) is end in (ends index change).1 first.0.leads

-- the newest block has been taken back
pub record TakenBack (index before : Index) (all left : List Change) (change : Change) : Type 0 where
  pub items : all ≡ change ∷ left
  pub is : before ≡ undone index change

module _ {index before : Index} {all left : List Change} {change : Change} (back : TakenBack index before all left change) (p : Profile) (depth : ℕ) where
  few_left : length all ≤ depth → length left ≤ depth
  few_left few = let long : length all ≡ suc (length left) = ap length back.items in omega (arith, long, few)

  pub accepted_back : (stack : Stack) → stack_of p depth (body_of index all) ≡ stack → stack_back stack [] ≡ Some (stack_of p depth (body_of before left))
  accepted_back stack is =
      ap (λ (s : Stack). stack_back s []) (sym is)
      ∙ ap (λ (c : List Change). stack_back (stack_of p depth (body_of index c)) []) back.items
      ∙ sym (ap (λ (i : Index). Some (stack_of p depth (body_of i left))) back.is)

  pub stands_back : CanStand p depth (body_of index all) → CanStand p depth (body_of before left)
  stands_back can =
      let first = subst (AllEnd p index) back.items can.end in record {
        known = can.known;
        some = can.some;
        most = can.most;
        few = few_left can.few;
        sound = subst (IsSound p) (sym back.is) first.0.sound;
        end = subst (λ (i : Index). AllEnd p i left) (sym back.is) first.1;
      }

pub no_items : {X : Type 0} (xs : List X) → length xs ≡ 0 → xs ≡ []
no_items [] none = refl
no_items (x ∷ xs) none = absurd (omega (arith, none))

-- no block is kept
module _ (p : Profile) (depth : ℕ) (index : Index) (all left : List Change) (same : all ≡ left) where
  pub refused_back : (stack : Stack) → stack_of p depth (body_of index all) ≡ stack → all ≡ [] → (stack_back stack [] ≡ None) × (stack_of p depth (body_of index left) ≡ stack)
  refused_back stack is none = (
    ap (λ (s : Stack). stack_back s []) (sym is) ∙ ap (λ (c : List Change). stack_back (stack_of p depth (body_of index c)) []) none,
    sym (ap (λ (c : List Change). stack_of p depth (body_of index c)) same) ∙ is,
  )

  pub stands_still : CanStand p depth (body_of index all) → CanStand p depth (body_of index left)
  stands_still can = subst (λ (c : List Change). CanStand p depth (body_of index c)) same can

-- ---- the stack of a body

-- what was read of a body, and what was made of it
pub record Kept (p : Profile) (depth : ℕ) (read made : Body) (found : Option Body) : Type 0 where
  pub is : Some read ≡ found
  pub kept : true ≡ is_kept p depth read
  pub same : made ≡ read

module _ {p : Profile} {depth : ℕ} {read made : Body} {found : Option Body} (k : Kept p depth read made found) where
  pub stack_found : Some (stack_of p depth made) ≡ stack_in p depth found
  stack_found =
      ap (λ (b : Body). Some (stack_of p depth b)) k.same
      ∙ ap (λ (b : Bool). cond b (Some (stack_of p depth read)) None) k.kept
      ∙ ap (stack_in p depth) k.is

  pub stands_found : IsProfile p → 1 ≤ depth → depth ≤ 1000 → CanStand p depth made
  stands_found known some most =
      let parts = and_parts (nat_le (length read.changes) depth) (leads_down p read.index read.changes) (sym k.kept) in
      let down = down_to p read.index read.changes parts.1 in
      subst (CanStand p depth) (sym k.same) (record { known = known; some = some; most = most; few = leb-true (length read.changes) depth parts.0; sound = down.0; end = down.1 })

pub none_found : (p : Profile) (depth : ℕ) (body : Body) (found : Option Body) → Some body ≡ found → false ≡ is_kept p depth body → None ≡ stack_in p depth found
none_found p depth body found is kept =
    ap (λ (b : Bool). cond b (Some (stack_of p depth body)) None) kept ∙ ap (stack_in p depth) is
