-- Reading from a place on, and the layout of the fields from there on, agree: on the first fault, and on the place behind.
use Rattle.std.proofs.Common.{◌≡◌, ℕ, zero, suc, ◌+◌, ◌-◌, ◌^◌, ◌<◌, ◌≤◌, Bool, true, false, ◌||◌, cond, ltb, eqb, List, [], ◌∷◌, ◌++◌, length, get_or, take, drop, add-one, Option, Some, None, Result, Ok, Err, refl, sym, ap, subst, ◌∙◌, arith, inl, inr}
use Rattle.std.specs.Int.{Width, w16, w32, w64, byte_len, from_le_bytes}
use Rattle.std.proofs.Math.Seq.{drop-cons}
use Rattle.std.proofs.lemmas.Bool.{cases_lt, le-ltb, lt-ltb}
use Rattle.std.proofs.lemmas.List.{length-drop, drop-drop, drop_all, get_or_past}
use Rattle.ox_bytes.specs.declared.compact.CompactFault.{CompactFault}
use Rattle.ox_bytes.specs.declared.compact.CompactFault.TheVariants.{Short, NotShortest}
use Rattle.ox_bytes.specs.Reading.{◌>>=◌, Reader, number_at, run_at, long_size, size_of, result_at, compact_at, string_at, both, reading_map, unless, times}
use Rattle.ox_bytes.specs.Reading as reading
use Rattle.ox_bytes.proofs.Laws.{bind_ok, guard_ok, ok_is}
use Rattle.ox_block.specs.Reading.{count_at}
use Rattle.ox_block.specs.Fields.{Kind, Field, plain, size, count, size_width, size_len, size_least, size_len_at, size_at, Layout, LayoutFrom, nothing, one, ◌▹◌, copies, bytes_of, text, counted_copies, is_cut, is_long, is_fault, first_fault}

abbrev pub Agrees : {X : Type 0} → List ℕ → Layout → Result (X × List ℕ) ℕ → Type 0
Agrees bytes laid (Ok x) = (first_fault bytes laid.fields ≡ None) × (laid.behind ≤ length bytes) × (x.1 ≡ drop laid.behind bytes)
Agrees bytes laid (Err left) = (left ≤ length bytes) × (first_fault bytes laid.fields ≡ Some (length bytes - left))

abbrev pub Joins : {X : Type 0} → List ℕ → LayoutFrom → Reader X → Type 0
Joins bytes laid read = (p : ℕ) → p ≤ length bytes → Agrees bytes (laid p) (read (drop p bytes))

-- ---- choices

pub cond_true : {A : Type 0} (b : Bool) (x y : A) → b ≡ true → cond b x y ≡ x
cond_true b x y e = ap (λ (v : Bool). cond v x y) e

pub cond_false : {A : Type 0} (b : Bool) (x y : A) → b ≡ false → cond b x y ≡ y
cond_false b x y e = ap (λ (v : Bool). cond v x y) e

pub or_left : (a b : Bool) → a ≡ true → (a || b) ≡ true
or_left a b e = ap (λ (v : Bool). v || b) e

pub or_right : (a b : Bool) → b ≡ true → (a || b) ≡ true
or_right true b e = refl
or_right false b e = e

pub or_none : (a b : Bool) → a ≡ false → b ≡ false → (a || b) ≡ false
or_none a b e f = ap (λ (v : Bool). v || b) e ∙ f

cond_none : (b : Bool) (p : ℕ) (r : Option ℕ) → cond b (Some p) r ≡ None → (b ≡ false) × (r ≡ None)
cond_none true p r e = absurd cc
cond_none false p r e = (refl, e)

step_some : (b : Bool) (q p : ℕ) (r s : Option ℕ) → cond b (Some q) r ≡ Some p → (r ≡ Some p → s ≡ Some p) → cond b (Some q) s ≡ Some p
step_some true q p r s e f = e
step_some false q p r s e f = f e

or_regroup : (a b c : Bool) → (a || b) ≡ true → (a || (b || c)) ≡ true
or_regroup true b c e = refl
or_regroup false b c e = or_left b c e

-- the byte at a place, and those behind it
pub next_of : (bytes : List ℕ) (p : ℕ) → p < length bytes → drop p bytes ≡ get_or bytes p 0 ∷ drop (p + 1) bytes
next_of bytes p lt = rw add-one (drop-cons bytes p 0 lt)

pub pair_is : (x : ℕ × List ℕ) (n : ℕ) (rest : List ℕ) → x.0 ≡ n → x.1 ≡ rest → (n, rest) ≡ x
pair_is x n rest e f = ap (λ (m : ℕ). (m, rest)) (sym e) ∙ ap (λ (t : List ℕ). (x.0, t)) (sym f)

-- ---- fields one after the other

pub after_none : (bytes : List ℕ) (xs ys : List Field) → first_fault bytes xs ≡ None → first_fault bytes (xs ++ ys) ≡ first_fault bytes ys
unfolding first_fault
after_none bytes [] ys e = refl
after_none bytes (f ∷ xs) ys e =
    let g = cond_none (is_fault bytes f.place f.kind) f.place (first_fault bytes xs) e in
    cond_false (is_fault bytes f.place f.kind) (Some f.place) (first_fault bytes (xs ++ ys)) g.0 ∙ after_none bytes xs ys g.1

pub after_some : (bytes : List ℕ) (xs ys : List Field) (p : ℕ) → first_fault bytes xs ≡ Some p → first_fault bytes (xs ++ ys) ≡ Some p
unfolding first_fault
after_some bytes [] ys p e = absurd cc
after_some bytes (f ∷ xs) ys p e = step_some (is_fault bytes f.place f.kind) f.place p (first_fault bytes xs) (first_fault bytes (xs ++ ys)) e (after_some bytes xs ys p)

pub single : (bytes : List ℕ) (p : ℕ) (k : Kind) → first_fault bytes (record { place = p; kind = k } ∷ []) ≡ cond (is_fault bytes p k) (Some p) None
unfolding first_fault
single bytes p k = refl

-- fields that are not at fault may stand before
pub shifted : {X : Type 0} (bytes : List ℕ) (before : List Field) (after : Layout) (r : Result (X × List ℕ) ℕ) → first_fault bytes before ≡ None → Agrees bytes after r
    → Agrees bytes (record { fields = before ++ after.fields; behind = after.behind }) r
shifted bytes before after (Ok x) none h = (after_none bytes before after.fields none ∙ h.0, h.1, h.2)
shifted bytes before after (Err left) none h = (h.0, after_none bytes before after.fields none ∙ h.1)

pub agrees_bind : {A B : Type 0} (bytes : List ℕ) (first : Layout) (next : LayoutFrom) (r : Result (A × List ℕ) ℕ) (f : A × List ℕ → Result (B × List ℕ) ℕ) → Agrees bytes first r
    → ((x : A × List ℕ) → r ≡ Ok x → first.behind ≤ length bytes → x.1 ≡ drop first.behind bytes → Agrees bytes (next first.behind) (f x))
    → Agrees bytes (record { fields = first.fields ++ (next first.behind).fields; behind = (next first.behind).behind }) (r >>= f)
agrees_bind bytes first next (Ok x) f h g = shifted bytes first.fields (next first.behind) (f x) h.0 (g x refl h.1 h.2)
agrees_bind bytes first next (Err left) f h g = (h.0, after_some bytes first.fields (next first.behind).fields (length bytes - left) h.1)

pub agrees_map : {A B : Type 0} (f : A → B) (bytes : List ℕ) (laid : Layout) (r : Result (A × List ℕ) ℕ) → Agrees bytes laid r → Agrees bytes laid (r >>= λ x. Ok (f x.0, x.1))
agrees_map f bytes laid (Ok x) h = h
agrees_map f bytes laid (Err left) h = h

pub both_joins : {A B : Type 0} (bytes : List ℕ) (la lb : LayoutFrom) (ra : Reader A) (rb : Reader B) → Joins bytes la ra → Joins bytes lb rb → Joins bytes (la ▹ lb) (both ra rb)
both_joins {A} {B} bytes la lb ra rb ja jb p le =
    agrees_bind bytes (la p) lb (ra (drop p bytes)) (λ x. rb x.1 >>= λ y. Ok ((x.0, y.0), y.1)) (ja p le)
    (λ x is inside at. subst (λ (t : List ℕ). Agrees {X = A × B} bytes (lb (la p).behind) (rb t >>= λ y. Ok ((x.0, y.0), y.1))) (sym at)
    (agrees_map (λ (y : B). (x.0, y)) bytes (lb (la p).behind) (rb (drop (la p).behind bytes)) (jb (la p).behind inside)))

pub reading_map_joins : {A B : Type 0} (f : A → B) (bytes : List ℕ) (laid : LayoutFrom) (read : Reader A) → Joins bytes laid read → Joins bytes laid (reading_map f read)
reading_map_joins f bytes laid read j p le = agrees_map f bytes (laid p) (read (drop p bytes)) (j p le)

pub nothing_agrees : {X : Type 0} (bytes : List ℕ) (p : ℕ) (x : X) → p ≤ length bytes → Agrees bytes (nothing p) (Ok (x, drop p bytes))
unfolding first_fault
nothing_agrees bytes p x le = (refl, le, refl)

pub times_joins : {A : Type 0} (bytes : List ℕ) (laid : LayoutFrom) (read : Reader A) → Joins bytes laid read → (n : ℕ) → Joins bytes (copies n laid) (times read n)
unfolding times copies
times_joins {A} bytes laid read j zero p le = nothing_agrees {X = List A} bytes p [] le
times_joins {A} bytes laid read j (suc n) p le =
    agrees_bind bytes (laid p) (copies n laid) (read (drop p bytes)) (λ x. times read n x.1 >>= λ xs. Ok (x.0 ∷ xs.0, xs.1)) (j p le)
    (λ x is inside at. subst (λ (t : List ℕ). Agrees {X = List A} bytes (copies n laid (laid p).behind) (times read n t >>= λ xs. Ok (x.0 ∷ xs.0, xs.1))) (sym at)
    (agrees_map (λ (xs : List A). x.0 ∷ xs) bytes (copies n laid (laid p).behind) (times read n (drop (laid p).behind bytes)) (times_joins bytes laid read j n (laid p).behind inside)))

-- ---- plain fields

-- a field that is cut is the first at fault
pub cut_agrees : (X : Type 0) (bytes : List ℕ) (p n left : ℕ) (k : Kind) → p ≤ length bytes → left ≡ length bytes - p → is_fault bytes p k ≡ true → Agrees {X = X} bytes (one k n p) (Err left)
cut_agrees X bytes p n left k le is fault = (omega arith, single bytes p k ∙ cond_true (is_fault bytes p k) (Some p) None fault ∙ ap (λ (q : ℕ). Some q) (let e : p ≡ length bytes - left = omega arith in e))

-- a field that stands leads on
pub stands_agrees : {X : Type 0} (bytes : List ℕ) (p n : ℕ) (k : Kind) (x : X) (rest : List ℕ) → p + n ≤ length bytes → rest ≡ drop (p + n) bytes → is_fault bytes p k ≡ false → Agrees bytes (one k n p) (Ok (x, rest))
stands_agrees bytes p n k x rest le is fine = (single bytes p k ∙ cond_false (is_fault bytes p k) (Some p) None fine, le, is)

plain_agrees : {X : Type 0} (bytes : List ℕ) (n p : ℕ) (x : X) → p ≤ length bytes
    → Agrees bytes (bytes_of n p) (cond (ltb (length (drop p bytes)) n) (Err (length (drop p bytes))) (Ok (x, drop n (drop p bytes))))
plain_agrees {X} bytes n p x le =
    let long = length-drop p bytes in
    let P : Bool → Type 0 = λ (b : Bool). Agrees {X = X} bytes (bytes_of n p) (cond b (Err (length (drop p bytes))) (Ok (x, drop n (drop p bytes)))) in
    elim (cases_lt (length (drop p bytes)) n) [
      | inl short ↦ subst P (sym (lt-ltb _ _ short)) (cut_agrees X bytes p n (length (drop p bytes)) (plain n) le long (lt-ltb _ _ (omega (arith, long))))
      | inr enough ↦ subst P (sym (le-ltb _ _ enough)) (stands_agrees bytes p n (plain n) x (drop n (drop p bytes)) (omega (arith, long)) (drop-drop n p bytes) (le-ltb _ _ (omega (arith, long))))
    ]

pub number_joins : (bytes : List ℕ) (w : Width) → Joins bytes (bytes_of (byte_len w)) (number_at w)
unfolding number_at
number_joins bytes w p le = plain_agrees bytes (byte_len w) p (from_le_bytes w (take (byte_len w) (drop p bytes))) le

pub run_joins : (bytes : List ℕ) (n : ℕ) → Joins bytes (bytes_of n) (run_at n)
unfolding run_at
run_joins bytes n p le = plain_agrees bytes n p (take n (drop p bytes)) le

-- ---- compact sizes

-- what is known of a compact size at a place, by what reading it gives
abbrev pub SizeIs : List ℕ → ℕ → Result (ℕ × List ℕ) ℕ → Type 0
SizeIs bytes p (Ok x) = (is_cut bytes p (size_len_at bytes p) ≡ false) × (is_long bytes p ≡ false) × (x.0 ≡ size_at bytes p) × (p + size_len_at bytes p ≤ length bytes) × (x.1 ≡ drop (p + size_len_at bytes p) bytes)
SizeIs bytes p (Err left) = ((is_cut bytes p (size_len_at bytes p) || is_long bytes p) ≡ true) × (left ≡ length bytes - p)

big_is : (bytes : List ℕ) (p : ℕ) (w : Width) (least left : ℕ) → p < length bytes → size_len_at bytes p ≡ 1 + byte_len w → size_at bytes p ≡ from_le_bytes w (take (byte_len w) (drop (p + 1) bytes)) → size_least (get_or bytes p 0) ≡ least
    → left ≡ length bytes - p → SizeIs bytes p (result_at left (long_size w least (drop (p + 1) bytes)))
unfolding long_size
big_is bytes p w least left lt lens num lst is =
    let long = length-drop (p + 1) bytes in
    let n = from_le_bytes w (take (byte_len w) (drop (p + 1) bytes)) in
    let cut = is_cut bytes p (size_len_at bytes p) in
    let P : Bool → Type 0 = λ (b : Bool). SizeIs bytes p (result_at left (cond b (Err Short) (cond (ltb n least) (Err NotShortest) (Ok (n, drop (byte_len w) (drop (p + 1) bytes)))))) in
    let Q : Bool → Type 0 = λ (b : Bool). SizeIs bytes p (result_at left (cond b (Err NotShortest) (Ok (n, drop (byte_len w) (drop (p + 1) bytes))))) in
    let least_is : ltb (size_at bytes p) (size_least (get_or bytes p 0)) ≡ ltb n least = ap (λ (m : ℕ). ltb m (size_least (get_or bytes p 0))) num ∙ ap (λ (m : ℕ). ltb n m) lst in
    elim (cases_lt (length (drop (p + 1) bytes)) (byte_len w)) [
      | inl short ↦ subst P (sym (lt-ltb _ _ short)) (or_left cut (is_long bytes p) (lt-ltb _ _ (omega (arith, lens, long))), is)
      | inr enough ↦
          subst P (sym (le-ltb _ _ enough))
          (elim (cases_lt n least) [
            | inl less ↦ subst Q (sym (lt-ltb _ _ less)) (or_right cut (is_long bytes p) (least_is ∙ lt-ltb _ _ less), is)
            | inr ge ↦
                let at : (p + 1) + byte_len w ≡ p + size_len_at bytes p = omega (arith, lens) in
                subst Q (sym (le-ltb _ _ ge))
                (le-ltb _ _ (omega (arith, lens, long)), least_is ∙ le-ltb _ _ ge, sym num, omega (arith, lens, long), drop-drop (byte_len w) (p + 1) bytes ∙ ap (λ (k : ℕ). drop k bytes) at)
          ])
    ]

-- the least number of a form of several bytes
abbrev above : ℕ → ℕ
above first = cond (eqb first 253) 253 (cond (eqb first 254) (2 ^ 16) (2 ^ 32))

spread : (a b : Bool) (rest : List ℕ) → cond a (long_size w16 253 rest) (cond b (long_size w32 (2 ^ 16) rest) (long_size w64 (2 ^ 32) rest)) ≡ long_size (cond a w16 (cond b w32 w64)) (cond a 253 (cond b (2 ^ 16) (2 ^ 32))) rest
spread true b rest = refl
spread false true rest = refl
spread false false rest = refl

size_cons : (bytes : List ℕ) (p : ℕ) → p < length bytes → SizeIs bytes p (compact_at (get_or bytes p 0 ∷ drop (p + 1) bytes))
unfolding compact_at size_of size_len_at size_at
size_cons bytes p lt =
    let first = get_or bytes p 0 in
    let rest = drop (p + 1) bytes in
    let long = length-drop (p + 1) bytes in
    let left : length (first ∷ rest) ≡ length bytes - p = omega (arith, long) in
    let whole = cond (eqb first 253) (long_size w16 253 rest) (cond (eqb first 254) (long_size w32 (2 ^ 16) rest) (long_size w64 (2 ^ 32) rest)) in
    let P : Result (ℕ × List ℕ) CompactFault → Type 0 = λ (r : Result (ℕ × List ℕ) CompactFault). SizeIs bytes p (result_at (length (first ∷ rest)) r) in
    elim (cases_lt first 253) [
      | inl small ↦
          let few : size_len_at bytes p ≡ 1 = cond_true (ltb first 253) 1 (1 + byte_len (size_width first)) (lt-ltb _ _ small) in
          let number : size_at bytes p ≡ first = cond_true (ltb first 253) first (from_le_bytes (size_width first) (take (byte_len (size_width first)) rest)) (lt-ltb _ _ small) in
          let least : size_least first ≡ 0 = cond_true (ltb first 253) 0 (above first) (lt-ltb _ _ small) in
          subst P (sym (cond_true (ltb first 253) (Ok (first, rest)) whole (lt-ltb _ _ small)))
          (le-ltb _ _ (omega (arith, few)), ap (λ (m : ℕ). ltb (size_at bytes p) m) least ∙ le-ltb (size_at bytes p) 0 (omega arith), sym number, omega (arith, few), ap (λ (k : ℕ). drop (p + k) bytes) (sym few))
      | inr big ↦
          let few : size_len_at bytes p ≡ 1 + byte_len (size_width first) = cond_false (ltb first 253) 1 (1 + byte_len (size_width first)) (le-ltb _ _ big) in
          let number : size_at bytes p ≡ from_le_bytes (size_width first) (take (byte_len (size_width first)) rest) = cond_false (ltb first 253) first (from_le_bytes (size_width first) (take (byte_len (size_width first)) rest)) (le-ltb _ _ big) in
          let least : size_least first ≡ above first = cond_false (ltb first 253) 0 (above first) (le-ltb _ _ big) in
          subst P (sym (cond_false (ltb first 253) (Ok (first, rest)) whole (le-ltb _ _ big) ∙ spread (eqb first 253) (eqb first 254) rest))
          (big_is bytes p (size_width first) (above first) (length (first ∷ rest)) lt few number least left)
    ]

size_end : (bytes : List ℕ) (p : ℕ) → p ≡ length bytes → SizeIs bytes p (compact_at [])
unfolding compact_at size_of size_len_at
size_end bytes p end =
    let none : get_or bytes p 0 ≡ 0 = get_or_past bytes p 0 (omega arith) in
    let few : size_len (get_or bytes p 0) ≡ 1 = ap size_len none in
    (or_left (is_cut bytes p (size_len_at bytes p)) (is_long bytes p) (lt-ltb _ _ (omega (arith, few))), omega arith)

pub size_is : (bytes : List ℕ) (p : ℕ) → p ≤ length bytes → SizeIs bytes p (compact_at (drop p bytes))
size_is bytes p le =
    elim (cases_lt p (length bytes)) [
      | inl lt ↦
          subst (λ (t : List ℕ). SizeIs bytes p (compact_at t)) (sym (next_of bytes p lt)) (size_cons bytes p lt)
      | inr ge ↦ subst (λ (t : List ℕ). SizeIs bytes p (compact_at t)) (sym (drop_all p bytes ge)) (size_end bytes p (omega arith))
    ]

abbrev pub size_laid : Kind → List ℕ → LayoutFrom
size_laid k bytes p = one k (size_len_at bytes p) p

from_size : (bytes : List ℕ) (p : ℕ) (r : Result (ℕ × List ℕ) ℕ) → p ≤ length bytes → SizeIs bytes p r → Agrees bytes (size_laid size bytes p) r
from_size bytes p (Ok x) le s = stands_agrees bytes p (size_len_at bytes p) size x.0 x.1 s.3 s.4 (or_none (is_cut bytes p (size_len_at bytes p)) (is_long bytes p) s.0 s.1)
from_size bytes p (Err left) le s = cut_agrees ℕ bytes p (size_len_at bytes p) left size le s.1 s.0

pub size_joins : (bytes : List ℕ) → Joins bytes (size_laid size bytes) compact_at
size_joins bytes p le = from_size bytes p (compact_at (drop p bytes)) le (size_is bytes p le)

pub size_number : (bytes : List ℕ) (p : ℕ) (x : ℕ × List ℕ) → p ≤ length bytes → compact_at (drop p bytes) ≡ Ok x → x.0 ≡ size_at bytes p
size_number bytes p x le is = (subst (λ (r : Result (ℕ × List ℕ) ℕ). SizeIs bytes p r) is (size_is bytes p le)).2

from_count : (bytes : List ℕ) (p left : ℕ) (r : Result (ℕ × List ℕ) ℕ) → p ≤ length bytes → left ≡ length bytes - p → SizeIs bytes p r
    → Agrees bytes (size_laid count bytes p) (r >>= λ x. cond (eqb x.0 0) (Err left) (Ok x))
from_count bytes p left (Ok x) le is s =
    let cut = is_cut bytes p (size_len_at bytes p) in
    let long = is_long bytes p in
    let same : eqb (size_at bytes p) 0 ≡ eqb x.0 0 = ap (λ (n : ℕ). eqb n 0) (sym s.2) in
    let P : Bool → Type 0 = λ (b : Bool). eqb x.0 0 ≡ b → Agrees bytes (size_laid count bytes p) (cond b (Err left) (Ok x)) in
    elim (eqb x.0 0) as P [
      | true ↦ λ zero_. cut_agrees ℕ bytes p (size_len_at bytes p) left count le is (or_right cut (long || eqb (size_at bytes p) 0) (or_right long (eqb (size_at bytes p) 0) (same ∙ zero_)))
      | false ↦ λ more. stands_agrees bytes p (size_len_at bytes p) count x.0 x.1 s.3 s.4 (or_none cut (long || eqb (size_at bytes p) 0) s.0 (or_none long (eqb (size_at bytes p) 0) s.1 (same ∙ more)))
    ] refl
from_count bytes p left (Err gone) le is s =
    cut_agrees ℕ bytes p (size_len_at bytes p) gone count le s.1 (or_regroup (is_cut bytes p (size_len_at bytes p)) (is_long bytes p) (eqb (size_at bytes p) 0) s.0)

pub count_joins : (bytes : List ℕ) → Joins bytes (size_laid count bytes) count_at
unfolding count_at
count_joins bytes p le = from_count bytes p (length (drop p bytes)) (compact_at (drop p bytes)) le (length-drop p bytes) (size_is bytes p le)

pub count_number : (bytes : List ℕ) (p : ℕ) (x : ℕ × List ℕ) → p ≤ length bytes → count_at (drop p bytes) ≡ Ok x → x.0 ≡ size_at bytes p
unfolding count_at
count_number bytes p x le is =
    let a = bind_ok (compact_at (drop p bytes)) (λ n. cond (eqb n.0 0) (Err (length (drop p bytes))) (Ok n)) x is in
    let g = guard_ok (eqb a.0.0 0) (length (drop p bytes)) (Ok a.0) x a.2 in
    ap (λ (n : ℕ × List ℕ). n.0) (sym (ok_is {F = ℕ} a.0 x g.1)) ∙ size_number bytes p a.0 le a.1

pub text_joins : (bytes : List ℕ) → Joins bytes (text bytes) string_at
unfolding text string_at
text_joins bytes p le =
    agrees_bind bytes (size_laid size bytes p) (bytes_of (size_at bytes p)) (compact_at (drop p bytes)) (λ n. run_at n.0 n.1) (size_joins bytes p le)
    (λ x is inside at. subst (λ (n : ℕ × List ℕ). Agrees bytes (bytes_of (size_at bytes p) (p + size_len_at bytes p)) (run_at n.0 n.1)) (pair_is x (size_at bytes p) (drop (p + size_len_at bytes p) bytes) (size_number bytes p x le is) at)
    (run_joins bytes (size_at bytes p) (p + size_len_at bytes p) inside))

pub counted_list_joins : {A : Type 0} (bytes : List ℕ) (k : Kind) (laid : LayoutFrom) (rc : Reader ℕ) (read : Reader A) → Joins bytes (size_laid k bytes) rc
    → ((p : ℕ) (x : ℕ × List ℕ) → p ≤ length bytes → rc (drop p bytes) ≡ Ok x → x.0 ≡ size_at bytes p) → Joins bytes laid read → Joins bytes (counted_copies k bytes laid) (reading.counted_list rc read)
unfolding counted_copies
counted_list_joins bytes k laid rc read jc number j p le =
    agrees_bind bytes (size_laid k bytes p) (copies (size_at bytes p) laid) (rc (drop p bytes)) (λ n. times read n.0 n.1) (jc p le)
    (λ x is inside at. subst (λ (n : ℕ × List ℕ). Agrees bytes (copies (size_at bytes p) laid (p + size_len_at bytes p)) (times read n.0 n.1)) (pair_is x (size_at bytes p) (drop (p + size_len_at bytes p) bytes) (number p x le is) at)
    (times_joins bytes laid read j (size_at bytes p) (p + size_len_at bytes p) inside))
