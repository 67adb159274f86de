-- What comes after a head.
use Rattle.std.proofs.Common.{◌≡◌, ℕ, ◌+◌, ◌-◌, ◌<◌, ◌≤◌, Bool, true, false, cond, List, ◌++◌, length, take, drop, Option, Some, None, ap, refl, sym, subst, Result, Ok, Err, ◌∙◌, nat_lt, arith}
use Rattle.std.proofs.lemmas.Bool.{le-leb, lt-leb, ltb-true}
use Rattle.std.proofs.lemmas.List.{take-append-le, take_all, length-drop, length-append}
use Rattle.std.specs.Prelude.{OnOk, OnErr}
use Rattle.std.specs.List.{copy_within}
use Rattle.std.specs.Option.{ForSome}
use Rattle.ox_http.specs.First.{fault_of, unless_at_fault, Asked, opens, waits, fails, whole, more, fault, at_end, at_head, first_of, front_of, head_length, head_limit, request_with, with_body}
use Rattle.ox_http.specs.Head.{Head, head_of}
use Rattle.ox_http.proofs.Stays.{front_stays}
use Rattle.ox_session.specs.declared.stream.Known.{Known}
use Rattle.ox_session.specs.Known.{asked_in}

-- the body hasn't wholly come
pub body_short : (x : List ℕ) (n : ℕ) (asked : Asked) → front_of x ≡ opens n asked
    → length x < n + asked.size → first_of x ≡ more
unfolding first_of
body_short x n asked h short =
    ap (with_body x) h
    ∙ ap (λ v. cond v (whole (request_with asked (take asked.size (drop n x))) (n + asked.size)) more)
    (lt-leb (n + asked.size) (length x) short)

-- the body has come
pub body_whole : (x : List ℕ) (n : ℕ) (asked : Asked) → front_of x ≡ opens n asked
    → n + asked.size ≤ length x
    → first_of x ≡ whole (request_with asked (take asked.size (drop n x))) (n + asked.size)
unfolding first_of
body_whole x n asked h there =
    ap (with_body x) h
    ∙ ap (λ v. cond v (whole (request_with asked (take asked.size (drop n x))) (n + asked.size)) more)
    (le-leb (n + asked.size) (length x) there)

pub front_more : (x : List ℕ) → front_of x ≡ waits → first_of x ≡ more
unfolding first_of
front_more x h = ap (with_body x) h

pub front_fault : (x : List ℕ) (status : ℕ) → front_of x ≡ fails status
    → first_of x ≡ fault status
unfolding first_of
front_fault x status h = ap (with_body x) h

-- what was looked at stays so
pub looked_stays : (x y : List ℕ) (n : ℕ) → n ≤ length x → head_length (take n x) ≡ None
    → head_length (take n (x ++ y)) ≡ None
looked_stays x y n within h = ap head_length (take-append-le n x y within) ∙ h

-- a head that is known stays so
pub known_stays : (x y : List ℕ) (head : Option Known)
    → ForSome head (λ known. front_of x ≡ opens known.len (asked_in known))
    → ForSome head (λ known. front_of (x ++ y) ≡ opens known.len (asked_in known))
known_stays x y head h known e =
    front_stays x y (λ w. let no' : ⊥ = cc (h known e) in no') ∙ h known e

-- where a head is awaited, none of the bytes ends one
pub awaited : (x : List ℕ) → front_of x ≡ waits → head_length (take (length x) x) ≡ None
unfolding front_of
awaited x h = by (head_length (take head_limit x)) refl h
  where
    no_waits : (n : ℕ) (o : Option Head) → at_head n o ≡ waits → ⊥
    no_waits n None g = cc
    no_waits n (Some head) g = by_fault (fault_of head) g
      where
        by_fault : (o : Option ℕ) → unless_at_fault n head o ≡ waits → ⊥
        by_fault None k = cc
        by_fault (Some status) k = cc

    few : (v : Bool) → nat_lt (length x) head_limit ≡ v → cond v waits (fails 431) ≡ waits
        → length x < head_limit
    few true e g = ltb-true (length x) head_limit e
    few false e g = absurd (let no' : ⊥ = cc in no')

    by : (o : Option ℕ) → head_length (take head_limit x) ≡ o → at_end x o ≡ waits
        → head_length (take (length x) x) ≡ None
    by None e g =
        let short = few (nat_lt (length x) head_limit) refl g in
        ap head_length (take_all (length x) x (omega arith) ∙ sym (take_all head_limit x (omega arith)))
        ∙ e
    by (Some n) e g = absurd (no_waits n (head_of (take n x)) g)

-- bytes copied to the front, and cut there
pub moved : (xs : List ℕ) (start : ℕ) → start ≤ length xs
    → take (length xs - start) (copy_within xs start (length xs) 0) ≡ drop start xs
moved xs start within =
    let tail : List ℕ = drop start xs in
    let left : length xs - start ≡ length tail = omega (arith, length-drop start xs) in
    let whole' : take (length xs - start) tail ≡ tail = take_all (length xs - start) tail (omega arith) in
    ap (λ t. take (length xs - start) (t ++ drop (0 + (length xs - start)) xs)) whole'
    ∙ take-append-le (length xs - start) tail (drop (0 + (length xs - start)) xs) (omega arith)
    ∙ whole'

-- what a stream keeps beside its bytes: how far they were looked at, and a head
abbrev Keeps : ℕ → Option Known → List ℕ → Type 0
Keeps looked head x =
    (looked ≤ length x) × (head_length (take looked x) ≡ None)
    × ForSome head (λ known. front_of x ≡ opens known.len (asked_in known))

-- bytes that were put behind change none of it
pub keeps_on : {A E : Type 0} (r : Result A E) (x y z : List ℕ) (looked : ℕ) (head : Option Known)
    → OnOk r (z ≡ x ++ y) → OnErr r (z ≡ x) → Keeps looked head x → Keeps looked head z
keeps_on (Err e) x y z looked head ok err keeps = subst (Keeps looked head) (sym err) keeps
keeps_on (Ok a) x y z looked head ok err keeps =
    let longer : looked ≤ length (x ++ y) = omega (arith, keeps.0, length-append x y) in
    subst (Keeps looked head) (sym ok)
    (longer, looked_stays x y looked keeps.0 keeps.1, known_stays x y head keeps.2)
