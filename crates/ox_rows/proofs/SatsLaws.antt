-- The law of satoshis, which are spelled by their maximal runs.
use Rattle.std.proofs.Common.{◌≡◌, ◌≢◌, ℕ, zero, suc, ◌+◌, ◌-◌, ◌^◌, ◌<◌, ◌≤◌, Bool, true, false, ◌||◌, ltb, eqb, List, [], ◌∷◌, ◌++◌, length, Ok, Option, Some, None, refl, sym, ap, subst, ◌∙◌, append_assoc, length-append, arith, inl, inr}
use Rattle.std.specs.Int.{w32, w64, to_le_bytes}
use Rattle.std.specs.List.{flat_map, AllByRecursion}
use Rattle.std.proofs.lemmas.Bool.{cases_eq, ltb-false, le-ltb, eqb-false, eq-eqb, ne_eqb}
use Rattle.std.proofs.lemmas.List.Elements.{All-from_recursion, recursion_from_All}
use Rattle.std.proofs.lemmas.List.Concat.{flat_map-cons}
use Rattle.ox_bytes.specs.Reading.{◌>>=◌, number_at, unless}
use Rattle.ox_bytes.proofs.Laws.{IsBytes, bind_ok, ok_is, Takes, Takes-then, Law, unless_law}
use Rattle.ox_block.specs.Spelling.{most_value}
use Rattle.ox_range.specs.declared.runs.Run.{Run}
use Rattle.ox_range.specs.Numbers.{numbers_from}
use Rattle.ox_range.specs.Runs.{numbers_of, runs_of, AreMaximal, EndsBefore, end_of, runs_with}
use Rattle.ox_range.proofs.RunLemmas.{length-numbers_from, numbers_of-runs_of, runs_of-numbers_of}
use Rattle.ox_rows.specs.Spelling.{list, run, sats}
use Rattle.ox_rows.specs.Fits.{AreSats, FitsSats}
use Rattle.ox_rows.specs.Reading.{IsRight, goes_on, is_wrong_count, run_at, runs_at, sats_at}
use Rattle.ox_rows.proofs.ReaderLaws.{law32, law64}

-- a run fits behind what ends there, where so many numbers may still come
pub record FitsRun (spare : ℕ) (end : Option ℕ) (r : Run) : Type 0 where
  pub first : r.first < 2 ^ 64
  pub count : r.count < 2 ^ 64
  pub starts : goes_on end r.first ≡ false
  pub right : is_wrong_count spare r.first r.count ≡ false

abbrev pub FitRuns : ℕ → Option ℕ → List Run → Type 0
FitRuns spare end [] = Unit {0}
FitRuns spare end (r ∷ rs) = FitsRun spare end r × FitRuns (spare - r.count) (Some (r.first + r.count)) rs

run_take : (spare : ℕ) (end : Option ℕ) (bytes : List ℕ) (z : Run × List ℕ) → IsBytes bytes → run_at spare end bytes ≡ Ok z → Takes bytes (run z.0) z.1 × FitsRun spare end z.0
unfolding run_at
run_take spare end bytes z fits e =
    let a = bind_ok (unless (goes_on end) (number_at w64) bytes) (λ first. unless (is_wrong_count spare first.0) (number_at w64) first.1 >>= λ count. Ok (record { first = first.0; count = count.0 }, count.1)) z e in
    let b = bind_ok (unless (is_wrong_count spare a.0.0) (number_at w64) a.0.1) (λ count. Ok (record { first = a.0.0; count = count.0 }, count.1)) z a.2 in
    let ta = (unless_law (goes_on end) (λ n. n < 2 ^ 64) (to_le_bytes w64) (number_at w64) law64).takes bytes a.0 fits a.1 in
    let tb = (unless_law (is_wrong_count spare a.0.0) (λ n. n < 2 ^ 64) (to_le_bytes w64) (number_at w64) law64).takes a.0.1 b.0 ta.0.rest_fits b.1 in
    let whole = Takes-then bytes (to_le_bytes w64 a.0.0) a.0.1 (to_le_bytes w64 b.0.0) b.0.1 ta.0 tb.0 in
    let r : Run = record { first = a.0.0; count = b.0.0 } in
    subst (λ (y : Run × List ℕ). Takes bytes (run y.0) y.1 × FitsRun spare end y.0) (ok_is {F = ℕ} (r, b.0.1) z b.2) (whole, record { first = ta.1.0; count = tb.1.0; starts = ta.1.1; right = tb.1.1 })

run_repeats : (spare : ℕ) (end : Option ℕ) (r : Run) (rest : List ℕ) → FitsRun spare end r → run_at spare end (run r ++ rest) ≡ Ok (r, rest)
unfolding run_at
run_repeats spare end r rest fits =
    ap (run_at spare end) (append_assoc (to_le_bytes w64 r.first) (to_le_bytes w64 r.count) rest)
    ∙ rw ((unless_law (goes_on end) (λ n. n < 2 ^ 64) (to_le_bytes w64) (number_at w64) law64).again r.first (to_le_bytes w64 r.count ++ rest) (fits.first, fits.starts), (unless_law (is_wrong_count spare r.first) (λ n. n < 2 ^ 64) (to_le_bytes w64) (number_at w64) law64).again r.count rest (fits.count, fits.right)) refl

run_law : (spare : ℕ) (end : Option ℕ) → Law (FitsRun spare end) run (run_at spare end)
run_law spare end = record { takes = run_take spare end; again = run_repeats spare end }

-- what was read as numbers is runs
pub record ReadRuns (spare : ℕ) (end : Option ℕ) (n : ℕ) (bytes numbers rest : List ℕ) : Type 0 where
  pub runs : List Run
  pub numbers_are : numbers_of runs ≡ numbers
  pub count : length runs ≡ n
  pub fit : FitRuns spare end runs
  pub taken : Takes bytes (flat_map run runs) rest

runs_take : (n spare : ℕ) (end : Option ℕ) (bytes : List ℕ) (z : List ℕ × List ℕ) → IsBytes bytes → runs_at spare end n bytes ≡ Ok z → ReadRuns spare end n bytes z.0 z.1
unfolding runs_at numbers_of
runs_take zero spare end bytes z fits e =
    subst (λ (y : List ℕ × List ℕ). ReadRuns spare end 0 bytes y.0 y.1) (ok_is {F = ℕ} ([], bytes) z e) (record { runs = []; numbers_are = refl; count = refl; fit = tt; taken = record { parts = refl; rest_fits = fits } })
runs_take (suc n) spare end bytes z fits e =
    let a = bind_ok (run_at spare end bytes) (λ run. runs_at (spare - run.0.count) (Some (end_of run.0)) n run.1 >>= λ more. Ok (numbers_from run.0.first run.0.count ++ more.0, more.1)) z e in
    let c = bind_ok (runs_at (spare - a.0.0.count) (Some (end_of a.0.0)) n a.0.1) (λ more. Ok (numbers_from a.0.0.first a.0.0.count ++ more.0, more.1)) z a.2 in
    let ta = (run_law spare end).takes bytes a.0 fits a.1 in
    let t = runs_take n (spare - a.0.0.count) (Some (end_of a.0.0)) a.0.1 c.0 ta.0.rest_fits c.1 in
    let whole = Takes-then bytes (run a.0.0) a.0.1 (flat_map run t.runs) c.0.1 ta.0 t.taken in
    let made : ReadRuns spare end (suc n) bytes (numbers_from a.0.0.first a.0.0.count ++ c.0.0) c.0.1 = record {
      runs = a.0.0 ∷ t.runs;
      numbers_are = ap (λ (ns : List ℕ). numbers_from a.0.0.first a.0.0.count ++ ns) t.numbers_are;
      count = ap suc t.count;
      fit = (ta.1, t.fit);
      taken = rw flat_map-cons whole;
    } in
    subst (λ (y : List ℕ × List ℕ). ReadRuns spare end (suc n) bytes y.0 y.1) (ok_is {F = ℕ} (numbers_from a.0.0.first a.0.0.count ++ c.0.0, c.0.1) z c.2) made

runs_repeat : (rs : List Run) (spare : ℕ) (end : Option ℕ) (rest : List ℕ) → FitRuns spare end rs → runs_at spare end (length rs) (flat_map run rs ++ rest) ≡ Ok (numbers_of rs, rest)
unfolding runs_at numbers_of
runs_repeat [] spare end rest fits = refl
runs_repeat (r ∷ rs) spare end rest fits =
    let regrouped : flat_map run (r ∷ rs) ++ rest ≡ run r ++ (flat_map run rs ++ rest) =
    ap (λ (t : List ℕ). t ++ rest) (flat_map-cons run r rs) ∙ append_assoc (run r) (flat_map run rs) rest in
    ap (runs_at spare end (suc (length rs))) regrouped
    ∙ rw ((run_law spare end).again r (flat_map run rs ++ rest) fits.0, runs_repeat rs (spare - r.count) (Some (r.first + r.count)) rest fits.1) refl

-- ---- runs that fit are the maximal runs of numbers in range

none_of : (a b : Bool) → (a || b) ≡ false → (a ≡ false) × (b ≡ false)
none_of true b e = absurd cc
none_of false b e = (refl, e)

pub is_right : (spare first count : ℕ) → is_wrong_count spare first count ≡ false → IsRight spare first count
is_right spare first count e =
    let a = none_of (eqb count 0 || ltb most_value (first + count)) (ltb spare count) e in
    let b = none_of (eqb count 0) (ltb most_value (first + count)) a.0 in
    let not_none : count ≢ 0 = eqb-false _ _ b.0 in
    record { some = positive count not_none; within = ltb-false _ _ b.1; few = ltb-false _ _ a.1 } where
      positive : (n : ℕ) → n ≢ 0 → 0 < n
      positive zero not_none = absurd (not_none refl)
      positive (suc n) not_none = omega arith

right_is : (spare first count : ℕ) → IsRight spare first count → is_wrong_count spare first count ≡ false
right_is spare first count h =
    let a : eqb count 0 ≡ false = ne_eqb count 0 (λ e. let some = h.some in omega arith) in
    let b : ltb most_value (first + count) ≡ false = le-ltb _ _ h.within in
    let c : ltb spare count ≡ false = le-ltb _ _ h.few in
    rw (a, b, c) refl

ends_before : (r : Run) (rs : List Run) (spare : ℕ) → FitRuns spare (Some (r.first + r.count)) rs → EndsBefore r rs
unfolding EndsBefore
ends_before r [] spare fits = tt
ends_before r (s ∷ rs) spare fits = λ e. eqb-false _ _ fits.0.starts (sym e)

fit_maximal : (rs : List Run) (spare : ℕ) (end : Option ℕ) → FitRuns spare end rs → AreMaximal rs
unfolding AreMaximal
fit_maximal [] spare end fits = tt
fit_maximal (r ∷ rs) spare end fits =
    let right = is_right spare r.first r.count fits.0.right in
    (right.some, omega (arith, right.within), ends_before r rs (spare - r.count) fits.1, fit_maximal rs (spare - r.count) (Some (r.first + r.count)) fits.1)

from_below : (first count most : ℕ) → first + count ≤ most → AllByRecursion (λ n. n < most) (numbers_from first count)
unfolding numbers_from
from_below first zero most le = tt
from_below first (suc count) most le = (omega arith, from_below (first + 1) count most (omega arith))

below_append : (P : ℕ → Type 0) (xs ys : List ℕ) → AllByRecursion P xs → AllByRecursion P ys → AllByRecursion P (xs ++ ys)
below_append P [] ys p q = q
below_append P (x ∷ xs) ys p q = (p.0, below_append P xs ys p.1 q)

fit_range : (rs : List Run) (spare : ℕ) (end : Option ℕ) → FitRuns spare end rs → AllByRecursion (λ n. n < most_value) (numbers_of rs) × (length (numbers_of rs) ≤ spare)
unfolding numbers_of
fit_range [] spare end fits = (tt, omega arith)
fit_range (r ∷ rs) spare end fits =
    let right = is_right spare r.first r.count fits.0.right in
    let rest = fit_range rs (spare - r.count) (Some (r.first + r.count)) fits.1 in (
      below_append (λ n. n < most_value) (numbers_from r.first r.count) (numbers_of rs) (from_below r.first r.count most_value right.within) rest.0,
      omega (arith, right.few, rest.1, length-append (numbers_from r.first r.count) (numbers_of rs), length-numbers_from r.first r.count),
    )

-- the front and the rest of what all have
left_all : (P : ℕ → Type 0) (xs ys : List ℕ) → AllByRecursion P (xs ++ ys) → AllByRecursion P xs × AllByRecursion P ys
left_all P [] ys p = (tt, p)
left_all P (x ∷ xs) ys p = let rest = left_all P xs ys p.1 in ((p.0, rest.0), rest.1)

-- where some numbers in a row are below a bound, so is the number behind them at most
last_below : (first count most : ℕ) → 0 < count → AllByRecursion (λ n. n < most) (numbers_from first count) → first + count ≤ most
unfolding numbers_from
last_below first zero most some all = absurd (omega arith)
last_below first (suc zero) most some all = let lt = all.0 in omega arith
last_below first (suc (suc count)) most some all = let rest = last_below (first + 1) (suc count) most (omega arith) all.1 in omega arith

-- the first run of these doesn't go on at this end
abbrev pub StartsApart : Option ℕ → List Run → Type 0
StartsApart end [] = Unit {0}
StartsApart end (r ∷ rs) = goes_on end r.first ≡ false

apart_behind : (r : Run) (rs : List Run) → EndsBefore r rs → StartsApart (Some (r.first + r.count)) rs
unfolding EndsBefore
apart_behind r [] h = tt
apart_behind r (s ∷ rs) h = ne_eqb s.first (r.first + r.count) (λ e. h (sym e))

maximal_fit : (rs : List Run) (spare : ℕ) (end : Option ℕ) → AreMaximal rs → StartsApart end rs → AllByRecursion (λ n. n < most_value) (numbers_of rs) → length (numbers_of rs) ≤ spare → FitRuns spare end rs
unfolding AreMaximal numbers_of
maximal_fit [] spare end maximal apart below few = tt
maximal_fit (r ∷ rs) spare end maximal apart below few =
    let parts = left_all (λ n. n < most_value) (numbers_from r.first r.count) (numbers_of rs) below in
    let within : r.first + r.count ≤ most_value = last_below r.first r.count most_value maximal.0 parts.0 in
    let split = length-append (numbers_from r.first r.count) (numbers_of rs) in
    let counted = length-numbers_from r.first r.count in
    let wide : r.first + r.count < 2 ^ 64 = maximal.1 in (
      record {
        first = omega (arith, wide);
        count = omega (arith, wide);
        starts = apart;
        right = right_is spare r.first r.count (record { some = maximal.0; within = within; few = omega (arith, split, counted) });
      },
      maximal_fit rs (spare - r.count) (Some (r.first + r.count)) maximal.3 (apart_behind r rs maximal.2) parts.1 (omega (arith, split, counted)),
    )

-- ---- satoshis

ends_alike : (n : ℕ) (r : Run) (rs : List Run) → n + 1 ≡ r.first → EndsBefore r rs → EndsBefore (record { first = n; count = r.count + 1 }) rs
unfolding EndsBefore
ends_alike n r [] meets h = tt
ends_alike n r (s ∷ rs) meets h = λ e. h (omega arith)

with_maximal : (n : ℕ) (rs : List Run) → n + 1 < 2 ^ 64 → AreMaximal rs → AreMaximal (runs_with n rs)
unfolding AreMaximal EndsBefore
with_maximal n [] lt m = (omega arith, lt, tt, tt)
with_maximal n (r ∷ rs) lt m =
    elim (cases_eq (n + 1) r.first) [
      | inl meets ↦ rw (eq-eqb (n + 1) r.first meets) (omega arith, (let wide = m.1 in omega arith), ends_alike n r rs meets m.2, m.3)
      | inr apart ↦ rw (ne_eqb (n + 1) r.first apart) (omega arith, lt, apart, m)
    ]

below_maximal : (numbers : List ℕ) → AllByRecursion (λ n. n < most_value) numbers → AreMaximal (runs_of numbers)
unfolding AreMaximal runs_of
below_maximal [] below = tt
below_maximal (n ∷ ns) below = with_maximal n (runs_of ns) (let lt = below.0 in omega arith) (below_maximal ns below.1)

sats_take : (bytes : List ℕ) (z : List ℕ × List ℕ) → IsBytes bytes → sats_at bytes ≡ Ok z → Takes bytes (sats z.0) z.1 × FitsSats z.0
unfolding sats_at
sats_take bytes z fits e =
    let n = bind_ok (number_at w32 bytes) (λ x. runs_at most_value None x.0 x.1) z e in
    let tn = law32.takes bytes n.0 fits n.1 in
    let t = runs_take n.0.0 most_value None n.0.1 z tn.0.rest_fits n.2 in
    let range = fit_range t.runs most_value None t.fit in
    let are : runs_of z.0 ≡ t.runs = ap runs_of (sym t.numbers_are) ∙ runs_of-numbers_of t.runs (fit_maximal t.runs most_value None t.fit) in
    let whole = Takes-then bytes (to_le_bytes w32 n.0.0) n.0.1 (flat_map run t.runs) z.1 tn.0 t.taken in
    let spelled : Takes bytes (list run t.runs) z.1 = subst (λ (k : ℕ). Takes bytes (to_le_bytes w32 k ++ flat_map run t.runs) z.1) (sym t.count) whole in (
      subst (λ (rs : List Run). Takes bytes (list run rs) z.1) (sym are) spelled,
      record {
        sats = subst AreSats t.numbers_are (record { below = All-from_recursion (λ n. n < most_value) (numbers_of t.runs) range.0; few = range.1 });
        runs = subst (λ (rs : List Run). length rs < 2 ^ 32) (sym are) (subst (λ (k : ℕ). k < 2 ^ 32) (sym t.count) tn.1);
      },
    )

sats_repeat : (numbers rest : List ℕ) → FitsSats numbers → sats_at (sats numbers ++ rest) ≡ Ok (numbers, rest)
unfolding sats_at
sats_repeat numbers rest fits =
    let rs = runs_of numbers in
    let same : numbers_of rs ≡ numbers = numbers_of-runs_of numbers in
    let below : AllByRecursion (λ n. n < most_value) numbers = recursion_from_All (λ n. n < most_value) numbers fits.sats.below in
    let ok : FitRuns most_value None rs = maximal_fit rs most_value None (below_maximal numbers below) (apart rs) (subst (AllByRecursion (λ n. n < most_value)) (sym same) below) (omega (arith, fits.sats.few, ap length same)) in
    ap sats_at (append_assoc (to_le_bytes w32 (length rs)) (flat_map run rs) rest)
    ∙ rw (law32.again (length rs) (flat_map run rs ++ rest) fits.runs) (runs_repeat rs most_value None rest ok ∙ ap (λ (ns : List ℕ). Ok (ns, rest)) same) where
      apart : (runs : List Run) → StartsApart None runs
      apart [] = tt
      apart (r ∷ runs) = refl

pub sats_law : Law FitsSats sats sats_at
sats_law = record { takes = sats_take; again = sats_repeat }
