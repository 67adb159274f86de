-- Which of two files is current is decided by the fronts of the two, of 90 bytes each.
use Rattle.std.proofs.Common.{◌≡◌, ◌≢◌, ◌∙◌, ◌≤◌, ◌+◌, ◌-◌, min, inl, inr, ⊎_elim, ℕ, suc, Bool, true, false, List, [], ◌∷◌, length, take, drop, ◌==◌, if◌then◌else◌, refl, sym, ap, arith, take-append-drop}
use Rattle.std.specs.Prelude.{Ok, Err, slice_range}
use Rattle.std.proofs.lemmas.Bool.{cases_lt}
use Rattle.std.proofs.lemmas.Bool.Decides.{eqb_tells}
use Rattle.std.proofs.lemmas.List.{length-take, take_all, take_min}
use Rattle.ox_outside.specs.Files.{Files, file_of}
use Rattle.ox_outside.specs.declared.site.Which.{Which}
use Rattle.ox_outside.specs.declared.site.Which.TheVariants.{A, B}
use Rattle.ox_gated.specs.Layout.{is_closed, head_of, layout_of, opening_at}
use Rattle.ox_gated.specs.Opened.{IsFrontOf}
use Rattle.ox_gated.specs.Pick.{lone_choice, greater_of, choice_by, choice_of, of_file}
use Rattle.ox_gated.specs.declared.open.Front.{Front}
use Rattle.ox_gated.proofs.CurrentByFront.{head_of_front}
use Rattle.ox_gated.proofs.LayoutLaws.{laws_of}

-- ---- fronts

closed_take : (n : ℕ) (file : List ℕ) → is_closed (take (suc n) file) ≡ is_closed file
closed_take n [] = refl
closed_take n (x ∷ file) = refl

suc_not_zero : (k : ℕ) → (suc k == 0) ≡ false
suc_not_zero k = ⊎_elim (λ (h : ((suc k == 0) ≡ true) × (suc k ≡ 0)). absurd (omega (arith, h.1))) (λ (h : ((suc k == 0) ≡ false) × (suc k ≢ 0)). h.0) (eqb_tells (suc k) 0)

empty_take : (n : ℕ) (file : List ℕ) → (length (take (suc n) file) == 0) ≡ (length file == 0)
empty_take n [] = refl
empty_take n (x ∷ file) = suc_not_zero (length (take n file)) ∙ sym (suc_not_zero (length file))

pub closed_front : (file : List ℕ) → is_closed (take 90 file) ≡ is_closed file
closed_front file = closed_take 89 file

-- of whichever version
enough : (front : List ℕ) → 90 ≤ length front → (layout_of (opening_at front).head.version).body_at ≤ length front
enough front long = let ends = (laws_of (opening_at front).head.version).ends in omega (arith, long, ends)

head_front : (file : List ℕ) → head_of (take 90 file) ≡ head_of file
head_front file = elim (cases_lt (length file) 90) [
  | inl short ↦ ap head_of (take_all 90 file (omega arith))
  | inr long ↦ sym (ap head_of (sym (take-append-drop 90 file)) ∙ head_of_front (take 90 file) (drop 90 file) (omega (arith, length-take 90 file)) (enough (take 90 file) (omega (arith, length-take 90 file))))
]

pub choice_of-fronts : (a b : List ℕ) → choice_of (take 90 a) (take 90 b) ≡ choice_of a b
choice_of-fronts a b =
    ap (λ (x : Bool). choice_by x (is_closed (take 90 b)) (take 90 a) (take 90 b)) (closed_front a)
    ∙ ap (λ (x : Bool). choice_by (is_closed a) x (take 90 a) (take 90 b)) (closed_front b)
    ∙ by (is_closed a) (is_closed b)
  where
    by : (x y : Bool) → choice_by x y (take 90 a) (take 90 b) ≡ choice_by x y a b
    by true true = refl
    by true false = λ i. if empty_take 89 a i then Err (A, 0) else lone_choice B (head_front b i)
    by false true = λ i. if empty_take 89 b i then Err (B, 0) else lone_choice A (head_front a i)
    by false false = λ i. greater_of (head_front a i) (head_front b i)

-- where one is current, both have a byte
some_open : (file : List ℕ) → is_closed file ≡ false → 1 ≤ length file
some_open [] shut = absurd (cc shut)
some_open (x ∷ file) shut = omega arith

some_length : (file : List ℕ) → (length file == 0) ≡ false → 1 ≤ length file
some_length [] some = absurd (cc some)
some_length (x ∷ file) some = omega arith

pub choice_some : (a b : List ℕ) (found : _) → choice_of a b ≡ Ok found → (1 ≤ length a) × (1 ≤ length b)
choice_some a b found is = by (is_closed a) (is_closed b) refl refl is
  where
    with_a : (x : Bool) → (length a == 0) ≡ x → is_closed b ≡ false → (if x then Err (A, 0) else lone_choice B (head_of b)) ≡ Ok found → (1 ≤ length a) × (1 ≤ length b)
    with_a true none cb is = absurd (cc is)
    with_a false some cb is = (some_length a some, some_open b cb)

    with_b : (x : Bool) → (length b == 0) ≡ x → is_closed a ≡ false → (if x then Err (B, 0) else lone_choice A (head_of a)) ≡ Ok found → (1 ≤ length a) × (1 ≤ length b)
    with_b true none ca is = absurd (cc is)
    with_b false some ca is = (some_open a ca, some_length b some)

    by : (x y : Bool) → is_closed a ≡ x → is_closed b ≡ y → choice_by x y a b ≡ Ok found → (1 ≤ length a) × (1 ≤ length b)
    by true true ca cb is = absurd (cc is)
    by true false ca cb is = with_a (length a == 0) refl cb is
    by false true ca cb is = with_b (length b == 0) refl ca is
    by false false ca cb is = (some_open a ca, some_open b cb)

-- ---- what was read

-- the front that was read
pub front_is : (file bytes : List ℕ) (len m : ℕ) → len ≡ length file → m ≡ min len 90 → bytes ≡ slice_range file 0 (0 + m) → bytes ≡ take 90 file
front_is file bytes len m is_len is_m is =
    let size : 0 + m - 0 ≡ min 90 (length file) = omega (arith, is_len, is_m) in
    is ∙ ap (λ (k : ℕ). take k file) size ∙ take_min 90 file

pub choice_read : (files : Files) (a b : List ℕ) → a ≡ take 90 files.a → b ≡ take 90 files.b → choice_of a b ≡ choice_of files.a files.b
choice_read files a b is_a is_b = (λ i. choice_of (is_a i) (is_b i)) ∙ choice_of-fronts files.a files.b

-- whether either file is closed
pub closed_read : (files : Files) (a b : List ℕ) → a ≡ take 90 files.a → b ≡ take 90 files.b → (file : Which) → is_closed (file_of (record { a = a; b = b }) file) ≡ is_closed (file_of files file)
closed_read files a b is_a is_b A = ap is_closed is_a ∙ closed_front files.a
closed_read files a b is_a is_b B = ap is_closed is_b ∙ closed_front files.b

-- of two fronts, the one of a file
pub front_of_file : (files : Files) (a b : Front) → IsFrontOf a files.a → IsFrontOf b files.b → (file : Which) → IsFrontOf (of_file file a b) (file_of files file)
front_of_file files a b is_a is_b A = is_a
front_of_file files a b is_a is_b B = is_b

pub size_of_file : (a b : Front) → length a.bytes.items ≡ min 90 a.len → length b.bytes.items ≡ min 90 b.len → (file : Which) → length (of_file file a b).bytes.items ≡ min 90 (of_file file a b).len
size_of_file a b is_a is_b A = is_a
size_of_file a b is_a is_b B = is_b
