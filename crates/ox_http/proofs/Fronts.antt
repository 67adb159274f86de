-- What the reader of heads finds.
use Rattle.std.proofs.Common.{◌≡◌, ℕ, ◌<◌, ◌≤◌, Bool, true, false, cond, not, List, length, take, drop, Option, Some, None, refl, sym, ap, ◌∙◌, subst, arith, nat_lt, min, codes}
use Rattle.std.proofs.lemmas.Bool.{lt-ltb, le-ltb, ltb-false}
use Rattle.std.proofs.lemmas.List.{take-append-drop, take-append-le, take_min, length-take}
use Rattle.ox_http.specs.declared.reader.HeadFound.{HeadFound}
use Rattle.ox_http.specs.declared.reader.HeadFound.TheVariants.{Opens, Waits, Fails}
use Rattle.ox_http.specs.Head.{Head, head_of}
use Rattle.ox_http.specs.First.{are_one_length, lacks_length, body_limit, body_length, length_told, values_of, Asked, Front, opens, waits, fails, at_end, at_head, asked_by, fault_of, unless_at_fault, front_of, first_of, with_body, head_length, head_limit}
use Rattle.ox_http.specs.Read.{IsBounded, front_in}
use Rattle.ox_http.proofs.Ends.{none_before}
use Rattle.ox_http.proofs.Stays.{front_at, limit_within}

pub front_found : (bytes : List ℕ) (n : ℕ) → head_length (take head_limit bytes) ≡ Some n
    → front_of bytes ≡ at_head (length (take n bytes)) (head_of (take n bytes))
unfolding front_of
front_found bytes n h =
    let within = limit_within bytes n h in
    let is : n ≡ length (take n bytes) = omega (arith, length-take n bytes) in
    ap (at_end bytes) h ∙ ap (λ m. at_head m (head_of (take n bytes))) is

pub front_few : (bytes : List ℕ) → head_length (take head_limit bytes) ≡ None
    → length bytes < 8192 → front_of bytes ≡ waits
unfolding front_of
front_few bytes h few =
    ap (at_end bytes) h ∙ ap (λ v. cond v waits (fails 431)) (lt-ltb (length bytes) 8192 few)

pub front_many : (bytes : List ℕ) → head_length (take head_limit bytes) ≡ None
    → 8192 ≤ length bytes → front_of bytes ≡ fails 431
unfolding front_of
front_many bytes h many =
    ap (at_end bytes) h ∙ ap (λ v. cond v waits (fails 431)) (le-ltb (length bytes) 8192 many)

pub take_limit : (n : ℕ) (bytes : List ℕ) → n ≡ min 8192 (length bytes)
    → take n bytes ≡ take head_limit bytes
take_limit n bytes h = ap (λ m. take m bytes) h ∙ take_min 8192 bytes

pub first_is : (bytes : List ℕ) (f : Front) → f ≡ front_of bytes → with_body bytes f ≡ first_of bytes
unfolding first_of
first_is bytes f h = ap (with_body bytes) h

-- fewer of the first bytes are fewer of those
pub take_fewer : (k n : ℕ) (bytes : List ℕ) → k ≤ n → k ≤ length bytes
    → take k (take n bytes) ≡ take k bytes
take_fewer k n bytes few within =
    let enough : k ≤ length (take n bytes) = omega (arith, length-take n bytes) in
    sym (take-append-le k (take n bytes) (drop n bytes) enough)
    ∙ ap (take k) (take-append-drop n bytes)

pub looked_fewer : (bytes : List ℕ) (looked k : ℕ) → k ≤ looked → k ≤ head_limit
    → looked ≤ length bytes → head_length (take looked bytes) ≡ None
    → head_length (take k (take head_limit bytes)) ≡ None
looked_fewer bytes looked k few most within none =
    ap head_length (take_fewer k head_limit bytes most (omega arith)
    ∙ sym (take_fewer k looked bytes few (omega arith)))
    ∙ none_before (take k (take looked bytes)) (drop k (take looked bytes))
    (ap head_length (take-append-drop k (take looked bytes)) ∙ none)

-- ---- bounds

size_by : (head : Head) (u v w : Bool)
    → cond {A = Option ℕ} u (Some 400) (cond v (Some 411) (cond w (Some 413) None)) ≡ None
    → w ≡ false
size_by head true v w h = absurd (let none : ⊥ = cc in none)
size_by head false true w h = absurd (let none : ⊥ = cc in none)
size_by head false false true h = absurd (let none : ⊥ = cc in none)
size_by head false false false h = refl

size_of : (head : Head) → fault_of head ≡ None → body_length head ≤ 4000000
unfolding fault_of
size_of head h =
    let lengths = values_of (codes "content-length") head.fields in
    ltb-false 4000000 (length_told lengths)
    (size_by head (not (are_one_length lengths)) (lacks_length head lengths)
    (nat_lt body_limit (length_told lengths)) h)

size_fault : (m n : ℕ) (head : Head) (asked : Asked) (o : Option ℕ) → fault_of head ≡ o
    → unless_at_fault m head o ≡ opens n asked → asked.size ≤ 4000000
size_fault m n head asked None e h =
    let is : asked_by head ≡ asked = cc in
    subst (λ (a : Asked). a.size ≤ 4000000) is (size_of head e)
size_fault m n head asked (Some status) e h = absurd (let none : ⊥ = cc in none)

size_head : (m n : ℕ) (asked : Asked) (o : Option Head) → at_head m o ≡ opens n asked
    → asked.size ≤ 4000000
size_head m n asked None h = absurd (let none : ⊥ = cc in none)
size_head m n asked (Some head) h = size_fault m n head asked (fault_of head) refl h

pub size_at : (bytes : List ℕ) (n : ℕ) (asked : Asked) → front_of bytes ≡ opens n asked
    → asked.size ≤ 4000000
unfolding front_of
size_at bytes n asked h = by (head_length (take head_limit bytes)) h
  where
    none : (v : Bool) → cond v waits (fails 431) ≡ opens n asked → ⊥
    none true g = cc
    none false g = cc

    by : (o : Option ℕ) → at_end bytes o ≡ opens n asked → asked.size ≤ 4000000
    by None g = absurd (none (nat_lt (length bytes) head_limit) g)
    by (Some m) g = size_head m n asked (head_of (take m bytes)) g

pub bounded : (found : HeadFound) (bytes : List ℕ) → front_in found ≡ front_of bytes
    → IsBounded found (length bytes)
bounded Waits bytes h = tt
bounded (Fails status) bytes h = tt
bounded (Opens read) bytes h =
    let at = front_at bytes read.len _ (sym h) in
    (at.within, at.few, size_at bytes read.len _ (sym h))
