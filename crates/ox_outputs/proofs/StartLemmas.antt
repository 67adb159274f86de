-- Starts of runs by their first numbers: what changes of them leave.
use Rattle.std.proofs.Common.{◌≡◌, ◌∙◌, ℕ, ◌+◌, ◌<◌, ◌≤◌, Bool, true, false, cond, List, [], ◌∷◌, ◌++◌, refl, sym, ap, subst, arith, Option, Some, None, Ordering, drop, get_or, length, inl, inr, true≢false}
use Rattle.std.specs.Prelude.{◌||◌, ◌⊎◌, IsSome, IfSome, is_some}
use Rattle.std.specs.Option.{option_and_then, option_flatten}
use Rattle.std.specs.Ordering.{nat_cmp, is_eq}
use Rattle.std.specs.declared.cmp.Ordering.TheVariants.{Less, Equal, Greater}
use Rattle.std.specs.FinMap.{nat_cmp-IsAntisymmetric}
use Rattle.std.specs.BTreeMap.{is_at}
use Rattle.std.specs.Cmp.{eq_by_cmp_equiv}
use Rattle.std.proofs.lemmas.Bool.{cases_eq}
use Rattle.std.proofs.lemmas.Cmp.{nat_cmp_total}
use Rattle.std.proofs.lemmas.List.{append_assoc, append-nil, drop_more}
use Rattle.std.proofs.lemmas.List.Elements.{All-push, All-same, All-weaker}
use Rattle.ox_range.specs.declared.runs.Run.{Run}
use Rattle.ox_outputs.specs.Cells.{CellList, start_in, SetsAt, IsLastTo}
use Rattle.ox_outputs.specs.Located.{begins_in, counted, standing}
use Rattle.ox_outputs.specs.Packed.{IsPlace}
use Rattle.ox_outputs.specs.Slots.{SlotList}
use Rattle.ox_outputs.specs.Starts.{slot_from, is_among, firsts_of, before_in, AreNoted, AreLogged, BeginsLast}
use Rattle.ox_outputs.specs.declared.starts.Before.{Before}

-- which number it is, seen from either
pub same_first : (a b : ℕ) → is_at (nat_cmp a) b ≡ is_at (nat_cmp b) a
same_first a b = (eq_by_cmp_equiv nat_cmp_total).symm a b

at_itself : (a : ℕ) → is_at (nat_cmp a) a ≡ true
at_itself a = (eq_by_cmp_equiv nat_cmp_total).refl a

is_equal : (r : Ordering) → is_eq r ≡ true → r ≡ Equal
is_equal Less is = absurd (true≢false (sym is))
is_equal Equal is = refl
is_equal Greater is = absurd (true≢false (sym is))

pub same_as : (a b : ℕ) → is_at (nat_cmp a) b ≡ true → a ≡ b
same_as a b is = nat_cmp-IsAntisymmetric a b (is_equal (nat_cmp a b) is)

-- what stands at a number, if anything does
abbrev flat : Option (Option ℕ) → Option ℕ
flat slot = option_and_then (λ (s : Option ℕ). s) slot

-- ---- runs go and come

some_twice : (a b : Bool) (slot : ℕ) (n m o : Option ℕ) → n ≡ cond a (Some slot) m → m ≡ cond b (Some slot) o → n ≡ cond (a || b) (Some slot) o
some_twice true b slot n m o is was = is
some_twice false b slot n m o is was = is ∙ was

or_swap : (a b c : Bool) → (a || (b || c)) ≡ (b || (a || c))
or_swap true true c = refl
or_swap true false c = refl
or_swap false b c = refl

among_last : (q : ℕ) (run : Run) (runs : List Run) → is_among (firsts_of (runs ++ run ∷ [])) q ≡ (is_at (nat_cmp q) run.first || is_among (firsts_of runs) q)
among_last q run [] = refl
among_last q run (one ∷ runs) = ap (λ (b : Bool). is_at (nat_cmp q) one.first || b) (among_last q run runs) ∙ or_swap (is_at (nat_cmp q) one.first) (is_at (nat_cmp q) run.first) (is_among (firsts_of runs) q)

-- a run is added behind those that were
pub added_run : (q slot : ℕ) (run : Run) (runs runs' : List Run) (n m o : Option ℕ) → runs' ≡ runs ++ run ∷ [] → n ≡ cond (is_at (nat_cmp run.first) q) (Some slot) m → m ≡ cond (is_among (firsts_of runs) q) (Some slot) o → n ≡ cond (is_among (firsts_of runs') q) (Some slot) o
added_run q slot run runs runs' n m o split is was =
    some_twice (is_at (nat_cmp q) run.first) (is_among (firsts_of runs) q) slot n m o (is ∙ ap (λ (b : Bool). cond b (Some slot) m) (same_first run.first q)) was
    ∙ sym (ap (λ (b : Bool). cond b (Some slot) o) (ap (λ (rs : List Run). is_among (firsts_of rs) q) split ∙ among_last q run runs))

-- ---- outcomes and tests

pub either_true : (a b : Bool) → (a || b) ≡ true → (a ≡ true) ⊎ (b ≡ true)
either_true true b is = inl refl
either_true false b is = inr is

-- ---- what is noted

-- what stood at a number before depends on what stands there alone
before_same : (changes : List Before) (s t : ℕ → Option ℕ) (q : ℕ) → s q ≡ t q → before_in changes s q ≡ before_in changes t q
before_same [] s t q same = same
before_same (change ∷ changes) s t q same = ap (cond (is_at (nat_cmp q) change.first) change.slot) (before_same changes s t q same)

before_append : (changes more : List Before) (s : ℕ → Option ℕ) (q : ℕ) → before_in (changes ++ more) s q ≡ before_in changes (before_in more s) q
before_append [] more s q = refl
before_append (change ∷ changes) more s q = ap (cond (is_at (nat_cmp q) change.first) change.slot) (before_append changes more s q)

-- changes that were noted, and further ones
pub noted_more : (a b c : List Before) (s t u : ℕ → Option ℕ) → AreNoted a b s t → AreNoted b c t u → AreNoted a c s u
noted_more a b c s t u one two = record {
  added = one.added ++ two.added;
  behind = two.behind ∙ ap (λ (l : List Before). l ++ two.added) one.behind ∙ append_assoc a one.added two.added;
  back = λ q. before_append one.added two.added u q
      ∙ before_same one.added (before_in two.added u) t q (two.back q)
      ∙ one.back q;
}

-- what stood before all changes stays where further ones are noted
pub noted_kept : (a b : List Before) (s t : ℕ → Option ℕ) (q : ℕ) → AreNoted a b s t → before_in b t q ≡ before_in a s q
noted_kept a b s t q noted =
    ap (λ (l : List Before). before_in l t q) noted.behind
    ∙ before_append a noted.added t q
    ∙ before_same a (before_in noted.added t) s q (noted.back q)

twice_one : (b : Bool) (slot n m o : Option ℕ) → (n ≡ o → m ≡ o) → n ≡ cond b slot o → cond b slot m ≡ cond b slot o
twice_one true slot n m o rest is = refl
twice_one false slot n m o rest is = rest is

before_twice : (changes : List Before) (s t : ℕ → Option ℕ) (q : ℕ) → s q ≡ before_in changes t q → before_in changes s q ≡ before_in changes t q
before_twice [] s t q is = is
before_twice (change ∷ changes) s t q is = twice_one (is_at (nat_cmp q) change.first) change.slot (s q) (before_in changes s q) (before_in changes t q) (before_twice changes s t q) is

behind_all : (xs ys : List Before) → drop (length xs) (xs ++ ys) ≡ ys
behind_all [] ys = refl
behind_all (x ∷ xs) ys = behind_all xs ys

-- and where all that came behind is put back, too
pub noted_back : (a b : List Before) (s t u : ℕ → Option ℕ) (q from : ℕ) (all : List Before) → AreNoted a b s t → from ≡ length a → all ≡ b → u q ≡ before_in (drop from all) t q → before_in b u q ≡ before_in a s q
noted_back a b s t u q from all noted begins same is =
    let back : before_in (drop from all) t q ≡ before_in noted.added t q =
    ap (λ (n : ℕ). before_in (drop n all) t q) begins
    ∙ ap (λ (l : List Before). before_in (drop (length a) l) t q) (same ∙ noted.behind)
    ∙ ap (λ (l : List Before). before_in l t q) (behind_all a noted.added) in
    ap (λ (l : List Before). before_in l u q) noted.behind
    ∙ before_append a noted.added u q
    ∙ before_same a (before_in noted.added u) s q (before_twice noted.added u t q (is ∙ back) ∙ noted.back q)

-- ---- each number that changed stands among the starts

some_still : (starts starts' : CellList) (first : ℕ) (v : Option ℕ) → SetsAt (start_in starts) (start_in starts') first (Some v) → (q : ℕ) → IsSome (start_in starts q) → IsSome (start_in starts' q)
some_still starts starts' first v set q there = elim (cases_eq q first) [
  | inl same ↦ subst IsSome (sym (ap (start_in starts') same ∙ set.here)) refl
  | inr other ↦ subst IsSome (sym (set.others q other)) there
]

-- something is put at a number
pub logged_still : (changes : List Before) (starts starts' : CellList) (first : ℕ) (v : Option ℕ) → SetsAt (start_in starts) (start_in starts') first (Some v) → AreLogged changes starts → AreLogged changes starts'
logged_still changes starts starts' first v set logged =
    All-weaker (λ (one : Before). IsSome (start_in starts one.first) × IsPlace one.slot) (λ (one : Before). IsSome (start_in starts' one.first) × IsPlace one.slot)
    (λ one there. (some_still starts starts' first v set one.first there.0, there.1)) changes logged

-- all starts are as before
pub logged_same : (changes changes' : List Before) (starts starts' : CellList) → changes' ≡ changes → ((q : ℕ) → start_in starts' q ≡ start_in starts q) → AreLogged changes starts → AreLogged changes' starts'
logged_same changes changes' starts starts' same stay logged =
    All-same (λ (one : Before). IsSome (start_in starts' one.first) × IsPlace one.slot) changes' changes same
    (All-weaker (λ (one : Before). IsSome (start_in starts one.first) × IsPlace one.slot) (λ (one : Before). IsSome (start_in starts' one.first) × IsPlace one.slot)
    (λ one there. (subst IsSome (sym (stay one.first)) there.0, there.1)) changes logged)

-- a change is noted, at whose number something is put
pub logged_more : (changes changes' : List Before) (change : Before) (starts starts' : CellList) (v : Option ℕ) → changes' ≡ changes ++ change ∷ [] → SetsAt (start_in starts) (start_in starts') change.first (Some v) → IsPlace change.slot → AreLogged changes starts → AreLogged changes' starts'
logged_more changes changes' change starts starts' v pushed set place logged =
    let Stands = λ (one : Before). IsSome (start_in starts' one.first) × IsPlace one.slot in
    All-same Stands changes' (changes ++ change ∷ []) pushed (All-push Stands changes change
    (logged_still changes starts starts' change.first v set logged)
    (subst IsSome (sym set.here) refl, place))

-- nothing is noted where nothing changes
pub noted_none : (a b : List Before) (s t : CellList) → b ≡ a → ((q : ℕ) → start_in t q ≡ start_in s q) → AreNoted a b (slot_from s) (slot_from t)
noted_none a b s t same stay = record {
  added = [];
  behind = same ∙ sym (append-nil a);
  back = λ q. ap flat (stay q);
}

-- a place that stood, or none
pub flat_place : (stood : Option (Option ℕ)) → IfSome stood (λ slot. IsPlace slot) → IsPlace (option_flatten stood)
flat_place (Some slot) place = place
flat_place None place = tt

-- ---- starts that count

pub flat_is : (stood : Option (Option ℕ)) → option_flatten stood ≡ flat stood
flat_is (Some slot) = refl
flat_is None = refl

-- the slot at each number, where one is put at a number
pub slot_set : (starts starts' : CellList) (first : ℕ) (v : Option ℕ) → SetsAt (start_in starts) (start_in starts') first (Some v) → (q : ℕ) → slot_from starts' q ≡ cond (is_at (nat_cmp first) q) v (slot_from starts q)
slot_set starts starts' first v set q = by (is_at (nat_cmp first) q) refl where
  by : (b : Bool) → is_at (nat_cmp first) q ≡ b → slot_from starts' q ≡ cond b v (slot_from starts q)
  by true same = ap (slot_from starts') (sym (same_as first q same)) ∙ ap flat set.here
  by false other = ap flat (set.others q (λ same. true≢false (sym (ap (is_at (nat_cmp first)) same ∙ at_itself first) ∙ other)))

-- with what stood at the one number, all is as it was
pub back_again : (starts starts' : CellList) (first : ℕ) (v slot : Option ℕ) → SetsAt (start_in starts) (start_in starts') first (Some v) → slot ≡ slot_from starts first → (q : ℕ) → cond (is_at (nat_cmp q) first) slot (slot_from starts' q) ≡ slot_from starts q
back_again starts starts' first v slot set stood q = by (is_at (nat_cmp q) first) refl where
  by : (b : Bool) → is_at (nat_cmp q) first ≡ b → cond b slot (slot_from starts' q) ≡ slot_from starts q
  by true same = stood ∙ ap (slot_from starts) (sym (same_as q first same))
  by false other = slot_set starts starts' first v set q ∙ ap (λ (b : Bool). cond b v (slot_from starts q)) (same_first first q ∙ other)

-- one more change is put back
pub put_back : (changes : List Before) (left left' : ℕ) (starts starts' : CellList) (s : ℕ → Option ℕ) (change : Before) → left' + 1 ≡ left → left' < length changes → change ≡ get_or changes left' change → SetsAt (start_in starts) (start_in starts') change.first (Some change.slot) → (q : ℕ) → slot_from starts q ≡ before_in (drop left changes) s q → slot_from starts' q ≡ before_in (drop left' changes) s q
put_back changes left left' starts starts' s change next within is set q was =
    slot_set starts starts' change.first change.slot set q
    ∙ ap (λ (b : Bool). cond b change.slot (slot_from starts q)) (same_first change.first q)
    ∙ ap (cond (is_at (nat_cmp q) change.first) change.slot) (was ∙ ap (λ (n : ℕ). before_in (drop n changes) s q) (sym next))
    ∙ sym (ap (λ (l : List Before). before_in l s q) (drop_more changes left' change within ∙ ap (λ (c : Before). c ∷ drop (left' + 1) changes) (sym is)))

-- what holds nothing goes
pub nothing_goes : (starts starts' : CellList) (first : ℕ) → start_in starts first ≡ Some None → SetsAt (start_in starts) (start_in starts') first None → (q : ℕ) → slot_from starts' q ≡ slot_from starts q
nothing_goes starts starts' first held set q = elim (cases_eq q first) [
  | inl same ↦ ap (slot_from starts') same ∙ ap flat set.here ∙ sym (ap (slot_from starts) same ∙ ap flat held)
  | inr other ↦ ap flat (set.others q other)
]

-- what counts for nothing goes
pub stale_goes : (slots : SlotList) (starts starts' : CellList) (first held : ℕ) → start_in starts first ≡ Some (Some held) → begins_in slots held first ≡ false → SetsAt (start_in starts) (start_in starts') first None → (q : ℕ) → standing slots (slot_from starts') q ≡ standing slots (slot_from starts) q
stale_goes slots starts starts' first held is stale set q = elim (cases_eq q first) [
  | inl same ↦ ap (standing slots (slot_from starts')) same
      ∙ ap (λ (o : Option (Option ℕ)). counted slots first (flat o)) set.here
      ∙ sym (ap (standing slots (slot_from starts)) same ∙ ap (λ (o : Option (Option ℕ)). counted slots first (flat o)) is ∙ ap (λ (b : Bool). cond b (Some held) None) stale)
  | inr other ↦ ap (λ (o : Option (Option ℕ)). counted slots q (flat o)) (set.others q other)
]

pub stands_so : (slots : SlotList) (first : ℕ) (slot : Option ℕ) (place : ℕ) → counted slots first slot ≡ Some place → (slot ≡ Some place) × (begins_in slots place first ≡ true)
stands_so slots first None place is = absurd (cc is)
stands_so slots first (Some p) place is = by_test (begins_in slots p first) refl is where
  by_test : (b : Bool) → begins_in slots p first ≡ b → cond b (Some p) None ≡ Some place → (◌≡◌ {A = Option ℕ} (Some p) (Some place)) × (begins_in slots place first ≡ true)
  by_test true begun is = (is, ap (λ (n : ℕ). begins_in slots n first) (sym (cc is)) ∙ begun)
  by_test false begun is = absurd (cc is)

-- ---- the last start

-- each start that counts, up to a number, is up to another one
abbrev pub CountUpTo : SlotList → CellList → ℕ → ℕ → Type 0
CountUpTo slots starts number at = (first slot : ℕ) → standing slots (slot_from starts) first ≡ Some slot → first ≤ number → first ≤ at

flat_some : (o : Option (Option ℕ)) (slot : ℕ) → flat o ≡ Some slot → IsSome o
flat_some None slot is = absurd (cc is)
flat_some (Some o) slot is = refl

-- one that counts is among the starts
pub counts_there : (slots : SlotList) (starts : CellList) (first slot : ℕ) → standing slots (slot_from starts) first ≡ Some slot → IsSome (start_in starts first)
counts_there slots starts first slot is = flat_some (start_in starts first) slot (stands_so slots first (slot_from starts first) slot is).0

module _ (slots : SlotList) (starts : CellList) (number at : ℕ) (start : ℕ × Option ℕ) (found : Option ℕ) (low : at ≤ number) (rest : CountUpTo slots starts number at) (here : IsLastTo (start_in starts) at start) (is : found ≡ counted slots start.0 start.1) where
  counts_here : standing slots (slot_from starts) start.0 ≡ found
  counts_here = ap (λ (o : Option (Option ℕ)). counted slots start.0 (flat o)) here.is ∙ sym is

  up_to_start : (first slot : ℕ) → standing slots (slot_from starts) first ≡ Some slot → first ≤ number → first ≤ start.0
  up_to_start first slot there to = here.last first (counts_there slots starts first slot there) (rest first slot there to)

  -- a start that counts, up to the number
  pub some_found : IfSome found (λ slot. (first : ℕ) × (first ≤ number) × (standing slots (slot_from starts) first ≡ Some slot))
  some_found = by found counts_here where
    by : (o : Option ℕ) → standing slots (slot_from starts) start.0 ≡ o → IfSome o (λ slot. (first : ℕ) × (first ≤ number) × (standing slots (slot_from starts) first ≡ Some slot))
    by None counts = tt
    by (Some slot) counts = (start.0, omega (arith, here.low, low), counts)

  -- it is the last that does
  pub last_found : is_some found ≡ true → (first slot : ℕ) → standing slots (slot_from starts) first ≡ Some slot → BeginsLast (standing slots (slot_from starts)) first number → found ≡ Some slot
  last_found some first slot there last = by found counts_here some where
    by : (o : Option ℕ) → standing slots (slot_from starts) start.0 ≡ o → is_some o ≡ true → o ≡ Some slot
    by None counts known = absurd (true≢false (sym known))
    by (Some s) counts known =
        let up : first ≤ start.0 = up_to_start first slot there last.0 in
        let down : start.0 ≤ first = last.1 start.0 s counts (omega (arith, here.low, low)) in
        let same : start.0 ≡ first = omega (arith, up, down) in
        sym counts ∙ ap (standing slots (slot_from starts)) same ∙ there

  -- where it doesn't count, the others are below it
  pub below_start : is_some found ≡ false → (first slot : ℕ) → standing slots (slot_from starts) first ≡ Some slot → first ≤ number → first < start.0
  below_start none first slot there to = elim (cases_eq first start.0) [
    | inl same ↦ absurd (true≢false (sym (ap is_some (sym counts_here ∙ ap (standing slots (slot_from starts)) (sym same) ∙ there)) ∙ none))
    | inr other ↦ (let up : first ≤ start.0 = up_to_start first slot there to in omega (arith, up, other))
  ]
