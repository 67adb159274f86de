use Rattle.std.proofs.Common.{◌≡◌, ℕ, zero, suc, ◌+◌, ◌-◌, ◌^◌, ◌<◌, ◌≤◌, List, [], ◌∷◌, ◌++◌, length, get_or, take, drop, refl, sym, ap, ◌∙◌, arith, lit<, length-append, append_assoc, append-nil, take-append-drop, take_at, drop_at, take_all, set, Result, Ok, Err, OnOk, OnErr, IfOk, is_ok, if◌then◌else◌}
use Rattle.std.proofs.lemmas.List.{drop_more, take_more, drop_all, set-append_left, set_split, get_or_append_left, get_or_default}
use Rattle.ox_range.specs.declared.runs.Run.{Run}
use Rattle.ox_range.specs.Numbers.{numbers_from}
use Rattle.ox_range.specs.Runs.{numbers_of, EndsBefore, AreMaximal, front_of, rest_of, joined_run, GoesOn}
use Rattle.ox_range.proofs.RunLemmas.{zero_run, numbers-none, numbers-cons, numbers-append, length-numbers_from, numbers_from-add, maximal-at, maximal-drop, maximal-take, maximal_join, maximal_last, maximal_first}

pub numbers-one : (r : Run) → numbers_of (r ∷ []) ≡ numbers_from r.first r.count
numbers-one r = numbers-cons r [] ∙ ap (λ ns. numbers_from r.first r.count ++ ns) numbers-none ∙ append-nil (numbers_from r.first r.count)

-- one run alone
pub run_alone : (r : Run) → AreMaximal (r ∷ []) → (0 < r.count) × (r.first + r.count < 2 ^ 64)
unfolding AreMaximal
run_alone r m = (m.0, m.1)

pub length-one : (r : Run) → length (numbers_of (r ∷ [])) ≡ r.count
length-one r = ap length (numbers-one r) ∙ length-numbers_from r.first r.count

-- how many numbers one run more has
pub length-take_more : (runs : List Run) (i : ℕ) (d : Run) → i < length runs → length (numbers_of (take (i + 1) runs)) ≡ length (numbers_of (take i runs)) + (get_or runs i d).count
length-take_more runs i d h =
    ap (λ rs. length (numbers_of rs)) (take_more runs i d h)
    ∙ ap length (numbers-append (take i runs) (get_or runs i d ∷ []))
    ∙ length-append (numbers_of (take i runs)) (numbers_of (get_or runs i d ∷ []))
    ∙ ap (λ n. length (numbers_of (take i runs)) + n) (ap length (numbers-one (get_or runs i d)) ∙ length-numbers_from (get_or runs i d).first (get_or runs i d).count)

pub count_within : (runs : List Run) (i : ℕ) (d : Run) → i < length runs → (get_or runs i d).count ≤ length (numbers_of runs)
count_within runs i d h =
    let all : length (numbers_of (take (i + 1) runs ++ drop (i + 1) runs)) ≡ length (numbers_of runs) = ap (λ rs. length (numbers_of rs)) (take-append-drop (i + 1) runs) in
    let parts : length (numbers_of (take (i + 1) runs ++ drop (i + 1) runs)) ≡ length (numbers_of (take (i + 1) runs)) + length (numbers_of (drop (i + 1) runs)) = ap length (numbers-append (take (i + 1) runs) (drop (i + 1) runs)) ∙ length-append (numbers_of (take (i + 1) runs)) (numbers_of (drop (i + 1) runs)) in
    omega (arith, all, parts, length-take_more runs i d h)

-- a cut between two runs
pub cut_between : (runs : List Run) (i place : ℕ) → length (numbers_of (take i runs)) ≡ place → (numbers_of (take i runs) ≡ take place (numbers_of runs)) × (numbers_of (drop i runs) ≡ drop place (numbers_of runs))
cut_between runs i place long =
    let whole : numbers_of runs ≡ numbers_of (take i runs) ++ numbers_of (drop i runs) = ap numbers_of (sym (take-append-drop i runs)) ∙ numbers-append (take i runs) (drop i runs) in (
      sym (ap (take place) whole ∙ take_at (numbers_of (take i runs)) (numbers_of (drop i runs)) place long),
      sym (ap (drop place) whole ∙ drop_at (numbers_of (take i runs)) (numbers_of (drop i runs)) place long),
    )

-- a run is its front and its rest
pub numbers-cut : (keep : ℕ) (r : Run) → keep ≤ r.count → numbers_from r.first r.count ≡ numbers_from r.first keep ++ numbers_from (r.first + keep) (r.count - keep)
numbers-cut keep r h = ap (numbers_from r.first) (let e : r.count ≡ keep + (r.count - keep) = omega arith in e) ∙ numbers_from-add r.first keep (r.count - keep)

-- a cut of no numbers
pub take_none : (place : ℕ) → take {A = ℕ} place [] ≡ []
take_none zero = refl
take_none (suc place) = refl

pub drop_none : (place : ℕ) → drop {A = ℕ} place [] ≡ []
drop_none zero = refl
drop_none (suc place) = refl

-- a cut of one run, at its ends or within
pub one_cut : (r : Run) (place : ℕ) → place ≤ r.count → (numbers_from r.first place ≡ take place (numbers_of (r ∷ []))) × (numbers_from (r.first + place) (r.count - place) ≡ drop place (numbers_of (r ∷ [])))
one_cut r place h =
    let front : List ℕ = numbers_from r.first place in
    let rest : List ℕ = numbers_from (r.first + place) (r.count - place) in
    let whole : numbers_of (r ∷ []) ≡ front ++ rest = numbers-one r ∙ numbers-cut place r h in
    let reach : length front ≡ place = length-numbers_from r.first place in (
      sym (ap (take place) whole ∙ take_at front rest place reach),
      sym (ap (drop place) whole ∙ drop_at front rest place reach),
    )

-- a cut within a run
pub cut_within : (runs : List Run) (i keep place : ℕ) (d : Run) → i < length runs → keep < (get_or runs i d).count → length (numbers_of (take i runs)) + keep ≡ place
    → (numbers_of (take i runs ++ front_of keep (get_or runs i d) ∷ []) ≡ take place (numbers_of runs))
    × (numbers_of (rest_of keep (get_or runs i d) ∷ drop (i + 1) runs) ≡ drop place (numbers_of runs))
cut_within runs i keep place d h less long =
    let r : Run = get_or runs i d in
    let front : List ℕ = numbers_of (take i runs) ++ numbers_from r.first keep in
    let rest : List ℕ = numbers_from (r.first + keep) (r.count - keep) ++ numbers_of (drop (i + 1) runs) in
    let front_is : numbers_of (take i runs ++ front_of keep r ∷ []) ≡ front = numbers-append (take i runs) (front_of keep r ∷ []) ∙ ap (λ ns. numbers_of (take i runs) ++ ns) (numbers-one (front_of keep r)) in
    let rest_is : numbers_of (rest_of keep r ∷ drop (i + 1) runs) ≡ rest = numbers-cons (rest_of keep r) (drop (i + 1) runs) in
    let behind : numbers_of (drop i runs) ≡ numbers_from r.first keep ++ rest =
    ap numbers_of (drop_more runs i d h) ∙ numbers-cons r (drop (i + 1) runs) ∙ ap (λ ns. ns ++ numbers_of (drop (i + 1) runs)) (numbers-cut keep r (omega (arith, less))) ∙ append_assoc (numbers_from r.first keep) (numbers_from (r.first + keep) (r.count - keep)) (numbers_of (drop (i + 1) runs)) in
    let whole : numbers_of runs ≡ front ++ rest =
    ap numbers_of (sym (take-append-drop i runs)) ∙ numbers-append (take i runs) (drop i runs) ∙ ap (λ ns. numbers_of (take i runs) ++ ns) behind ∙ sym (append_assoc (numbers_of (take i runs)) (numbers_from r.first keep) rest) in
    let reach : length front ≡ place = length-append (numbers_of (take i runs)) (numbers_from r.first keep) ∙ ap (λ n. length (numbers_of (take i runs)) + n) (length-numbers_from r.first keep) ∙ long in (
      front_is ∙ sym (ap (take place) whole ∙ take_at front rest place reach),
      rest_is ∙ sym (ap (drop place) whole ∙ drop_at front rest place reach),
    )

pub front_maximal : (runs : List Run) (i keep : ℕ) (d : Run) → AreMaximal runs → i < length runs → 0 < keep → keep < (get_or runs i d).count → AreMaximal (take i runs ++ front_of keep (get_or runs i d) ∷ [])
front_maximal runs i keep d m h some less =
    let at = maximal-at runs i d m h in
    let upto : AreMaximal (take i runs ++ get_or runs i d ∷ []) = rw (take_more runs i d h) at (maximal-take (i + 1) runs m) in
    maximal_last (take i runs) (get_or runs i d) (front_of keep (get_or runs i d)) refl some (omega (arith, at, less)) upto

pub rest_maximal : (runs : List Run) (i keep : ℕ) (d : Run) → AreMaximal runs → i < length runs → keep < (get_or runs i d).count → AreMaximal (rest_of keep (get_or runs i d) ∷ drop (i + 1) runs)
rest_maximal runs i keep d m h less =
    let from : AreMaximal (get_or runs i d ∷ drop (i + 1) runs) = rw (drop_more runs i d h) at (maximal-drop i runs m) in
    maximal_first (get_or runs i d) (rest_of keep (get_or runs i d)) (drop (i + 1) runs) (omega (arith, less)) (omega (arith, less)) from

-- runs that don't go on with each other stay maximal side by side
goes_on_behind : (x : Run) (y : Run) (xs ys : List Run) → GoesOn (y ∷ xs) ys → GoesOn (x ∷ y ∷ xs) ys
goes_on_behind x y xs ys g =
    let long : length (x ∷ y ∷ xs) - 1 ≡ suc (length xs) = omega arith in
    let short : length (y ∷ xs) - 1 ≡ length xs = omega arith in
    record {
      some = omega arith;
      more = g.more;
      meets = rw long (rw short at g.meets);
    }

pub append_maximal : (xs ys : List Run) → AreMaximal xs → AreMaximal ys → ¬ GoesOn xs ys → AreMaximal (xs ++ ys)
unfolding AreMaximal EndsBefore
append_maximal [] ys m n apart = n
append_maximal (x ∷ []) [] m n apart = m
append_maximal (x ∷ []) (y ∷ ys) m n apart = (m.0, m.1, (λ e. apart (record { some = lit< tt; more = omega arith; meets = e })), n)
append_maximal (x ∷ x' ∷ xs) ys m n apart = (m.0, m.1, m.2, append_maximal (x' ∷ xs) ys m.3 n (λ g. apart (goes_on_behind x x' xs ys g)))

-- runs that go on with each other are maximal once the two that meet are one
pub joined_maximal : (runs tail : List Run) → AreMaximal runs → AreMaximal tail → GoesOn runs tail → AreMaximal (take (length runs - 1) runs ++ joined_run (get_or runs (length runs - 1) zero_run) (get_or tail 0 zero_run) ∷ drop 1 tail)
joined_maximal runs tail m n g =
    let d : Run = zero_run in
    let last = maximal-at runs (length runs - 1) d m (omega (arith, g.some)) in
    let next = maximal-at tail 0 d n g.more in
    let meets = g.meets in
    let whole : take (length runs - 1 + 1) runs ≡ runs = take_all (length runs - 1 + 1) runs (omega arith) in
    let upto : AreMaximal (take (length runs - 1) runs ++ get_or runs (length runs - 1) d ∷ []) = rw (sym whole ∙ take_more runs (length runs - 1) d (omega (arith, g.some))) at m in
    let from : AreMaximal (get_or tail 0 d ∷ drop 1 tail) = rw (drop_more tail 0 d g.more) at n in
    maximal_join (take (length runs - 1) runs) (joined_run (get_or runs (length runs - 1) d) (get_or tail 0 d)) (drop 1 tail)
    (maximal_last (take (length runs - 1) runs) (get_or runs (length runs - 1) d) (joined_run (get_or runs (length runs - 1) d) (get_or tail 0 d)) refl (omega (arith, last)) (omega (arith, next, meets)) upto)
    (maximal_first (get_or tail 0 d) (joined_run (get_or runs (length runs - 1) d) (get_or tail 0 d)) (drop 1 tail) (omega (arith, meets)) (omega (arith, last)) from)

pub joined_numbers : (runs tail : List Run) → GoesOn runs tail → numbers_of (take (length runs - 1) runs ++ joined_run (get_or runs (length runs - 1) zero_run) (get_or tail 0 zero_run) ∷ drop 1 tail) ≡ numbers_of runs ++ numbers_of tail
joined_numbers runs tail g =
    let d : Run = zero_run in
    let r : Run = get_or runs (length runs - 1) d in
    let s : Run = get_or tail 0 d in
    let xs : List Run = take (length runs - 1) runs in
    let ys : List Run = drop 1 tail in
    let whole : take (length runs - 1 + 1) runs ≡ runs = take_all (length runs - 1 + 1) runs (omega arith) in
    let runs_are : numbers_of runs ≡ numbers_of xs ++ numbers_from r.first r.count = ap numbers_of (sym whole ∙ take_more runs (length runs - 1) d (omega (arith, g.some))) ∙ numbers-append xs (r ∷ []) ∙ ap (λ ns. numbers_of xs ++ ns) (numbers-one r) in
    let tail_is : numbers_of tail ≡ numbers_from s.first s.count ++ numbers_of ys = ap numbers_of (drop_more tail 0 d g.more) ∙ numbers-cons s ys in
    let both : numbers_from r.first (r.count + s.count) ≡ numbers_from r.first r.count ++ numbers_from s.first s.count = numbers_from-add r.first r.count s.count ∙ ap (λ f. numbers_from r.first r.count ++ numbers_from f s.count) g.meets in
    numbers-append xs (joined_run r s ∷ ys)
    ∙ ap (λ ns. numbers_of xs ++ ns) (numbers-cons (joined_run r s) ys ∙ ap (λ ns. ns ++ numbers_of ys) both ∙ append_assoc (numbers_from r.first r.count) (numbers_from s.first s.count) (numbers_of ys))
    ∙ sym (append_assoc (numbers_of xs) (numbers_from r.first r.count) (numbers_from s.first s.count ++ numbers_of ys))
    ∙ (rw (runs_are, tail_is) refl)

-- before a place that isn't the first there is a run
pub run_before : (runs : List Run) (index place before : ℕ) → length (numbers_of (take index runs)) ≡ before → place < before → 0 < index
run_before runs zero place before long less = absurd (omega (arith, long, less, ap length numbers-none))
run_before runs (suc index) place before long less = omega arith

-- one run back
pub one_back : (runs : List Run) (index before : ℕ) (d : Run) → 0 < index → index ≤ length runs → length (numbers_of (take index runs)) ≡ before → length (numbers_of (take (index - 1) runs)) + (get_or runs (index - 1) d).count ≡ before
one_back runs index before d some within long =
    let same : length (numbers_of (take (index - 1 + 1) runs)) ≡ length (numbers_of (take index runs)) = ap (λ i. length (numbers_of (take i runs))) (omega arith) in
    omega (arith, length-take_more runs (index - 1) d (omega arith), same, long)

-- what a write into the last run makes of it
pub joined_items : (runs tail all : List Run) (x : Run) → GoesOn runs tail → all ≡ runs ++ drop 1 tail → x ≡ get_or all (length runs - 1) x
    → set all (length runs - 1) (joined_run x (get_or tail 0 zero_run)) ≡ take (length runs - 1) runs ++ joined_run (get_or runs (length runs - 1) zero_run) (get_or tail 0 zero_run) ∷ drop 1 tail
joined_items runs tail all x g is read =
    let last : length runs - 1 < length runs = omega (arith, g.some) in
    let same : x ≡ get_or runs (length runs - 1) zero_run = read ∙ ap (λ rs. get_or rs (length runs - 1) x) is ∙ get_or_append_left runs (drop 1 tail) x (length runs - 1) last ∙ get_or_default runs (length runs - 1) x zero_run last in
    let none : drop (suc (length runs - 1)) runs ≡ [] = drop_all (suc (length runs - 1)) runs (omega arith) in
    let one : Run = joined_run (get_or runs (length runs - 1) zero_run) (get_or tail 0 zero_run) in
    let written : set runs (length runs - 1) one ≡ take (length runs - 1) runs ++ one ∷ [] = set_split runs (length runs - 1) one last ∙ ap (λ rs. take (length runs - 1) runs ++ one ∷ rs) none in
    ap (λ rs. set rs (length runs - 1) (joined_run x (get_or tail 0 zero_run))) is
    ∙ ap (λ r. set (runs ++ drop 1 tail) (length runs - 1) (joined_run r (get_or tail 0 zero_run))) same
    ∙ set-append_left runs (drop 1 tail) (length runs - 1) one last
    ∙ ap (λ rs. rs ++ drop 1 tail) written
    ∙ append_assoc (take (length runs - 1) runs) (one ∷ []) (drop 1 tail)

pub on_ok : {T E : Type 0} (r : Result T E) (P Q : Type 0) → (P → Q) → OnOk r P → OnOk r Q
on_ok (Ok x) P Q f h = f h
on_ok (Err e) P Q f h = tt

pub if_ok : {T E : Type 0} (r : Result T E) (P Q : T → Type 0) → ((x : T) → P x → Q x) → IfOk r P → IfOk r Q
if_ok (Ok x) P Q f h = f x h
if_ok (Err e) P Q f h = tt

pub in_both : {T E : Type 0} (r : Result T E) (P Q R : Type 0) → (P → R) → (Q → R) → OnOk r P → OnErr r Q → R
in_both (Ok x) P Q R f g h i = f h
in_both (Err e) P Q R f g h i = g i

-- what `extend_from_slice` says of its result
pub extended_ok : {T E : Type 0} (r : Result T E) (new more old : List Run) → new ≡ (if is_ok r then more else old) → OnOk r (new ≡ more)
extended_ok (Ok x) new more old h = h
extended_ok (Err e) new more old h = tt

pub extended_err : {T E : Type 0} (r : Result T E) (new more old : List Run) → new ≡ (if is_ok r then more else old) → OnErr r (new ≡ old)
extended_err (Ok x) new more old h = tt
extended_err (Err e) new more old h = h
