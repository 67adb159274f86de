-- Back over changes that end in an index, and on again.
use Rattle.std.proofs.Common.{◌≡◌, ◌∙◌, Bool, true, false, List, [], ◌∷◌, length, refl, sym, ap, subst, arith}
use Rattle.std.specs.Prelude.{◌&&◌}
use Rattle.std.proofs.lemmas.Bool.{and_from}
use Rattle.ox_sat.specs.declared.profiles.Profile.{Profile}
use Rattle.ox_model.specs.Change.{IsChange, redone, undone}
use Rattle.ox_model.specs.Index.{Index}
use Rattle.ox_model.specs.Sound.{IsSound}
use Rattle.ox_model.specs.declared.change.Change.{Change}
use Rattle.ox_model.proofs.Changes.{goes_redone, goes_undone}
use Rattle.ox_plain.specs.Ends.{begins_in, ends_in}
use Rattle.ox_plain.proofs.EndLaws.{begins, ends}
use Rattle.ox_sound.specs.Sound.{sound}
use Rattle.ox_files.specs.Body.{leads_down}
use Rattle.ox_files.proofs.DownLemmas.{down_to}

-- ---- to the other end of a change and back

pub ends_after : (index mid : Index) (change : Change) → begins_in index change ≡ true → mid ≡ redone index change → ends_in mid change ≡ true
ends_after index mid change begin is =
    let leads : IsChange index (redone index change) change = (begins index change).0 begin in
    let back : undone (redone index change) change ≡ index = goes_undone index (redone index change) change leads in
    ap (λ (i : Index). ends_in i change) is
    ∙ (ends (redone index change) change).1 (subst (λ (i : Index). IsChange i (redone index change) change) (sym back) leads)

pub back_again : (index mid after : Index) (change : Change) → begins_in index change ≡ true → mid ≡ redone index change → after ≡ undone mid change → after ≡ index
back_again index mid after change begin is back =
    back ∙ ap (λ (i : Index). undone i change) is ∙ goes_undone index (redone index change) change ((begins index change).0 begin)

on_again : (index before : Index) (change : Change) → ends_in index change ≡ true → before ≡ undone index change → redone before change ≡ index
on_again index before change end is =
    ap (λ (i : Index). redone i change) is ∙ goes_redone (undone index change) index change ((ends index change).0 end)

begins_before : (index before : Index) (change : Change) → ends_in index change ≡ true → before ≡ undone index change → begins_in before change ≡ true
begins_before index before change end is =
    let leads : IsChange (undone index change) index change = (ends index change).0 end in
    let on : redone (undone index change) change ≡ index = goes_redone (undone index change) index change leads in
    ap (λ (i : Index). begins_in i change) is
    ∙ (begins (undone index change) change).1 (subst (λ (i : Index). IsChange (undone index change) i change) (sym on) leads)

-- an index in which a change begins, and as it stands after that was tested
pub record Begins (here begun : Index) (change : Change) : Type 0 where
  pub begin : begins_in here change ≡ true
  pub same : begun ≡ here

pub begins_so : (here begun : Index) (change : Change) (is : Bool) → is ≡ begins_in here change → is ≡ true → begun ≡ here → Begins here begun change
begins_so here begun change is told true_ same = record { begin = sym told ∙ true_; same = same }

module _ {here begun : Index} {change : Change} (b : Begins here begun change) where
  pub begins_there : begins_in begun change ≡ true
  begins_there = ap (λ (i : Index). begins_in i change) b.same ∙ b.begin

  pub sound_there : (p : Profile) → IsSound p here → IsSound p begun
  sound_there p is_sound = subst (IsSound p) (sym b.same) is_sound

  -- what is told of the index after the change
  pub tells_there : (p : Profile) (is : Bool) → is ≡ sound p (redone begun change) → is ≡ begins_in here change && sound p (redone here change)
  tells_there p is told =
      told ∙ ap (λ (i : Index). sound p (redone i change)) b.same ∙ sym (ap (λ (t : Bool). t && sound p (redone here change)) b.begin)

  pub leads_there : (after : Index) → after ≡ redone begun change → after ≡ redone here change
  leads_there after is = is ∙ ap (λ (i : Index). redone i change) b.same

  -- it ends in the index after it, and the index before that is the one where it begins
  pub ends_there : (after : Index) → after ≡ redone begun change → ends_in after change ≡ true
  ends_there after is = ends_after begun after change begins_there is

  pub back_here : (after again : Index) → after ≡ redone begun change → again ≡ undone after change → again ≡ here
  back_here after again is back = back_again begun after again change begins_there is back ∙ b.same

-- ---- changes that lead down

and_false : (a : Bool) → a && false ≡ false
and_false true = refl
and_false false = refl

and_true : (a : Bool) → a && true ≡ a
and_true true = refl
and_true false = refl

pub none_down : (p : Profile) (here : Index) (changes : List Change) → length changes ≡ 0 → sound p here ≡ leads_down p here changes
none_down p here [] none = refl
none_down p here (change ∷ changes) none = absurd (omega (arith, none))

pub not_ended : (p : Profile) (here : Index) (all older : List Change) (change : Change) → all ≡ change ∷ older → ends_in here change ≡ false → false ≡ leads_down p here all
not_ended p here all older change is fails =
    sym (ap (leads_down p here) is
    ∙ ap (λ (b : Bool). sound p here && (b && leads_down p (undone here change) older)) fails
    ∙ and_false (sound p here))

pub older_fail : (p : Profile) (here before : Index) (all older : List Change) (change : Change) → all ≡ change ∷ older → before ≡ undone here change → leads_down p before older ≡ false
    → false ≡ leads_down p here all
older_fail p here before all older change is back fails =
    sym (ap (leads_down p here) is
    ∙ ap (λ (i : Index). sound p here && (ends_in here change && leads_down p i older)) (sym back)
    ∙ ap (λ (b : Bool). sound p here && (ends_in here change && b)) fails
    ∙ ap (λ (b : Bool). sound p here && b) (and_false (ends_in here change))
    ∙ and_false (sound p here))

-- the index before a change from which older ones lead down, and where it stands again
pub record Again (p : Profile) (here before again : Index) (older : List Change) (change : Change) : Type 0 where
  pub end : ends_in here change ≡ true
  pub back : before ≡ undone here change
  pub lead : leads_down p before older ≡ true
  pub same : again ≡ before

module _ {p : Profile} {here before again : Index} {older : List Change} {change : Change} (a : Again p here before again older change) where
  pub sound_again : IsSound p again
  sound_again = subst (IsSound p) (sym a.same) (down_to p before older a.lead).0

  pub begins_again : begins_in again change ≡ true
  begins_again = begins_before here again change a.end (a.same ∙ a.back)

  pub here_again : redone again change ≡ here
  here_again = on_again here again change a.end (a.same ∙ a.back)

  -- the index before leads down, so all do where the newest one is sound
  pub newest_tells : (all : List Change) → all ≡ change ∷ older → sound p (redone again change) ≡ leads_down p here all
  newest_tells all is =
      let rest : ends_in here change && leads_down p (undone here change) older ≡ true =
      and_from (ends_in here change) (leads_down p (undone here change) older) a.end (ap (λ (i : Index). leads_down p i older) (sym a.back) ∙ a.lead) in
      ap (sound p) here_again
      ∙ sym (ap (λ (b : Bool). sound p here && b) rest ∙ and_true (sound p here))
      ∙ sym (ap (leads_down p here) is)
