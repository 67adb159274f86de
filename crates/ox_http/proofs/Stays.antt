-- What a stream begins with stays so, whatever follows.
use Rattle.std.proofs.Common.{◌≡◌, ⊎_elim, ℕ, ◌+◌, ◌-◌, ◌<◌, ◌≤◌, Bool, true, false, cond, List, [], ◌++◌, length, take, drop, Option, Some, None, refl, sym, ap, ◌∙◌, arith, nat_lt, nat_le, append-nil}
use Rattle.std.proofs.lemmas.Bool.{cases_lt, ltb-false, leb-true, le-leb, le-ltb}
use Rattle.std.proofs.lemmas.List.{take-append-le, drop-append-le, length-drop, length-take, length-append, take_all}
use Rattle.std.proofs.Math.Seq.{take-append-add}
use Rattle.ox_http.specs.declared.Request.{Request}
use Rattle.ox_http.specs.Head.{Head, head_of}
use Rattle.ox_http.specs.First.{Asked, whole, more, Front, opens, waits, fails, at_end, at_head, fault_of, unless_at_fault, first_of, front_of, head_length, head_limit, request_with, with_body}
use Rattle.ox_http.proofs.Ends.{end_four, end_stays, end_within}

-- the first bytes of more bytes begin with the first of fewer
take_more_is : (n : ℕ) (x y : List ℕ) → (rest : List ℕ) × (take n (x ++ y) ≡ take n x ++ rest)
take_more_is n x y =
    ⊎_elim
    (λ (few : n < length x).
    let le : n ≤ length x = omega arith in
    ([], take-append-le n x y le ∙ sym (append-nil (take n x))))
    (λ (all : length x ≤ n).
    let is : length x + (n - length x) ≡ n = omega arith in (
      take (n - length x) y,
      ap (λ m. take m (x ++ y)) (sym is) ∙ take-append-add x y (n - length x)
          ∙ ap (λ z. z ++ take (n - length x) y) (sym (take_all n x all)),
    ))
    (cases_lt n (length x))

limit_stays : (x y : List ℕ) (n : ℕ) → head_length (take head_limit x) ≡ Some n
    → head_length (take head_limit (x ++ y)) ≡ Some n
limit_stays x y n h =
    let longer = take_more_is head_limit x y in
    ap head_length longer.1 ∙ end_stays (take head_limit x) longer.0 n h

pub limit_within : (x : List ℕ) (n : ℕ) → head_length (take head_limit x) ≡ Some n
    → (n ≤ length x) × (n ≤ head_limit)
limit_within x n h =
    let within = end_within (take head_limit x) n h in (
      omega (arith, within, length-take head_limit x),
      omega (arith, within, length-take head_limit x),
    )

-- where the front says something, it says that of the longer stream as well
pub front_stays : (x y : List ℕ) → (front_of x ≡ waits → ⊥) → front_of (x ++ y) ≡ front_of x
unfolding front_of
front_stays x y says = by (head_length (take head_limit x)) refl
  where
    full : (v : Bool) → nat_lt (length x) head_limit ≡ v
        → head_length (take head_limit x) ≡ None
        → at_end (x ++ y) (head_length (take head_limit (x ++ y)))
        ≡ at_end x (head_length (take head_limit x))
    full true e none =
        absurd (says (ap (at_end x) none ∙ ap (λ w. cond w waits (fails 431)) e))
    full false e none =
        let long : head_limit ≤ length x = ltb-false (length x) head_limit e in
        let longer : head_limit ≤ length (x ++ y) = omega (arith, length-append x y) in
        ap (λ z. at_end (x ++ y) (head_length z)) (take-append-le head_limit x y long)
        ∙ ap (at_end (x ++ y)) none
        ∙ ap (λ w. cond w waits (fails 431)) (le-ltb (length (x ++ y)) head_limit longer)
        ∙ sym (ap (at_end x) none ∙ ap (λ w. cond w waits (fails 431)) e)

    by : (o : Option ℕ) → head_length (take head_limit x) ≡ o
        → at_end (x ++ y) (head_length (take head_limit (x ++ y)))
        ≡ at_end x (head_length (take head_limit x))
    by None e = full (nat_lt (length x) head_limit) refl e
    by (Some n) e =
        ap (at_end (x ++ y)) (limit_stays x y n e)
        ∙ ap (λ z. at_head n (head_of z)) (take-append-le n x y (limit_within x n e).0)
        ∙ sym (ap (at_end x) e)

fault_opens : (m n : ℕ) (head : Head) (asked : Asked) (o : Option ℕ)
    → unless_at_fault m head o ≡ opens n asked → m ≡ n
fault_opens m n head asked None h = cc
fault_opens m n head asked (Some status) h = absurd (let none : ⊥ = cc in none)

pub head_opens : (m n : ℕ) (asked : Asked) (o : Option Head) → at_head m o ≡ opens n asked → m ≡ n
head_opens m n asked None h = absurd (let none : ⊥ = cc in none)
head_opens m n asked (Some head) h = fault_opens m n head asked (fault_of head) h

-- a head has at least four bytes, at most 8,192, and lies in the stream
pub record IsHeadAt (n : ℕ) (x : List ℕ) : Type 0 where
  pub some : 4 ≤ n
  pub few : n ≤ 8192
  pub within : n ≤ length x

pub front_at : (x : List ℕ) (n : ℕ) (asked : Asked) → front_of x ≡ opens n asked → IsHeadAt n x
unfolding front_of
front_at x n asked h = by (head_length (take head_limit x)) refl h
  where
    none : (v : Bool) → cond v waits (fails 431) ≡ opens n asked → ⊥
    none true g = cc
    none false g = cc

    by : (o : Option ℕ) → head_length (take head_limit x) ≡ o → at_end x o ≡ opens n asked
        → IsHeadAt n x
    by None e g = absurd (none (nat_lt (length x) head_limit) g)
    by (Some m) e g =
        let is : m ≡ n = head_opens m n asked (head_of (take m x)) g in
        let within = limit_within x m e in
        record {
          some = omega (arith, end_four (take head_limit x) m e);
          few = omega (arith, within.1);
          within = omega (arith, within.0);
        }

-- where a stream begins with a request or a fault, the longer stream does
pub first_stays : (x y : List ℕ) → (first_of x ≡ more → ⊥) → first_of (x ++ y) ≡ first_of x
unfolding first_of
first_stays x y says = by (front_of x) refl
  where
    settled : (f : Front) → front_of x ≡ f → (f ≡ waits → ⊥)
        → front_of (x ++ y) ≡ f
    settled f e some = front_stays x y (λ w. some (sym e ∙ w)) ∙ e

    come : (n : ℕ) (asked : Asked) → IsHeadAt n x → (v : Bool)
        → nat_le (n + asked.size) (length x) ≡ v → front_of x ≡ opens n asked
        → with_body (x ++ y) (opens n asked) ≡ with_body x (opens n asked)
    come n asked at false e f =
        absurd (says (ap (with_body x) f
        ∙ ap (λ w. cond w (whole (request_with asked (take asked.size (drop n x))) (n + asked.size)) more) e))
    come n asked at true e f =
        let there : n + asked.size ≤ length x = leb-true (n + asked.size) (length x) e in
        let longer : n + asked.size ≤ length (x ++ y) = omega (arith, length-append x y) in
        let enough : asked.size ≤ length (drop n x) = omega (arith, length-drop n x) in
        let body : take asked.size (drop n (x ++ y)) ≡ take asked.size (drop n x)
        = ap (take asked.size) (drop-append-le n x y at.within)
        ∙ take-append-le asked.size (drop n x) y enough in
        ap (λ w. cond w (whole (request_with asked (take asked.size (drop n (x ++ y)))) (n + asked.size)) more)
        (le-leb (n + asked.size) (length (x ++ y)) longer)
        ∙ ap (λ b. whole (request_with asked b) (n + asked.size)) body
        ∙ sym (ap (λ w. cond w (whole (request_with asked (take asked.size (drop n x))) (n + asked.size)) more) e)

    by : (f : Front) → front_of x ≡ f
        → with_body (x ++ y) (front_of (x ++ y)) ≡ with_body x (front_of x)
    by waits e = absurd (says (ap (with_body x) e))
    by (fails status) e =
        ap (with_body (x ++ y)) (settled (fails status) e (λ w. cc)) ∙ sym (ap (with_body x) e)
    by (opens n asked) e =
        ap (with_body (x ++ y)) (settled (opens n asked) e (λ w. cc))
        ∙ come n asked (front_at x n asked e) (nat_le (n + asked.size) (length x)) refl e
        ∙ sym (ap (with_body x) e)

-- a whole request has bytes, and lies in the stream
pub whole_within : (x : List ℕ) (request : Request) (n : ℕ) → first_of x ≡ whole request n
    → (0 < n) × (n ≤ length x)
unfolding first_of
whole_within x request n h = by (front_of x) refl h
  where
    come : (m : ℕ) (asked : Asked) → IsHeadAt m x → (v : Bool)
        → nat_le (m + asked.size) (length x) ≡ v
        → cond v (whole (request_with asked (take asked.size (drop m x))) (m + asked.size)) more
        ≡ whole request n → (0 < n) × (n ≤ length x)
    come m asked at false e g = absurd (let none : ⊥ = cc in none)
    come m asked at true e g =
        let is : m + asked.size ≡ n = cc in
        (omega (arith, at.some), omega (arith, leb-true (m + asked.size) (length x) e))

    by : (f : Front) → front_of x ≡ f → with_body x f ≡ whole request n → (0 < n) × (n ≤ length x)
    by waits e g = absurd (let none : ⊥ = cc in none)
    by (fails status) e g = absurd (let none : ⊥ = cc in none)
    by (opens m asked) e g =
        come m asked (front_at x m asked e) (nat_le (m + asked.size) (length x)) refl g
