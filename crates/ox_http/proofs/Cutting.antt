-- A stream is its requests' bytes, and then what is left.
use Rattle.std.proofs.Common.{◌≡◌, ℕ, zero, suc, ◌+◌, ◌<◌, ◌≤◌, Bool, true, false, cond, List, [], ◌∷◌, ◌++◌, length, take, drop, Option, Some, None, refl, sym, ap, ap₂, ◌∙◌, subst, arith, nat_le, nat_lt, append_assoc, append-nil, true≢false}
use Rattle.std.proofs.lemmas.Bool.{le-leb}
use Rattle.std.proofs.lemmas.List.{take-append-le, take-append-drop, length-drop, length-take}
use Rattle.std.specs.List.{concat}
use Rattle.std.specs.Option.{option_map}
use Rattle.ox_http.specs.declared.Request.{Request}
use Rattle.ox_http.specs.Head.{head_of}
use Rattle.ox_http.specs.First.{Asked, First, whole, more, fault, Front, opens, waits, fails, at_end, at_head, first_of, front_of, head_length, head_limit, request_with, with_body}
use Rattle.ox_http.specs.Pieces.{AreRequests, IsCut, Leaves, requests_of}
use Rattle.ox_http.specs.Talk.{Message, asks, talk, left}
use Rattle.ox_http.proofs.Ends.{is_blank, blank_kept, blank_long, end_four, end_stays, end_within}
use Rattle.ox_http.proofs.Stays.{first_stays, head_opens, limit_within, whole_within}
use Rattle.ox_http.proofs.Talking.{talk_whole, talk_more, talk_fault, left_whole, left_more, left_fault}

-- ---- a whole request alone

-- the first of fewer bytes are those of more
take_fewer : (m n : ℕ) (x : List ℕ) → m ≤ n → n ≤ length x → take m (take n x) ≡ take m x
take_fewer m n x few within =
    let enough : m ≤ length (take n x) = omega (arith, length-take n x) in
    sym (take-append-le m (take n x) (drop n x) enough) ∙ ap (take m) (take-append-drop n x)

-- whether bytes begin with a blank line is said by the first four of them
blank_taken : (x : List ℕ) (k : ℕ) → 4 ≤ k → 4 ≤ length x → is_blank (take k x) ≡ is_blank x
blank_taken x k some long =
    sym (blank_kept (take k x) (drop k x) 0 (omega (arith, length-take k x)))
    ∙ ap is_blank (take-append-drop k x)

-- the end of a head stands where it does among the first bytes that hold it
end_taken : (x : List ℕ) (n k : ℕ) → head_length x ≡ Some n → n ≤ k
    → head_length (take k x) ≡ Some n
unfolding head_length
end_taken [] n k h few = absurd (let no' : ⊥ = cc in no')
end_taken (b ∷ x) n zero h few = absurd (omega (arith, end_four (b ∷ x) n h))
end_taken (b ∷ x) n (suc k) h few =
    by (is_blank (b ∷ x)) refl (head_length x) refl h (λ m. end_taken x m k)
  where
    by : (v : Bool) → is_blank (b ∷ x) ≡ v → (o : Option ℕ) → head_length x ≡ o
        → cond v (Some 4) (option_map suc o) ≡ Some n
        → ((m : ℕ) → head_length x ≡ Some m → m ≤ k → head_length (take k x) ≡ Some m)
        → head_length (b ∷ take k x) ≡ Some n
    by true e o f g again =
        let is : 4 ≡ n = cc in
        let still : is_blank (b ∷ take k x) ≡ true
        = blank_taken (b ∷ x) (suc k) (omega arith) (blank_long (b ∷ x) e) ∙ e in
        rw still g
    by false e None f g again = absurd (let no' : ⊥ = cc in no')
    by false e (Some m) f g again =
        let is : suc m ≡ n = cc in
        let long : m ≤ length x = end_within x m f in
        let four : 4 ≤ m = end_four x m f in
        let still : is_blank (b ∷ take k x) ≡ false
        = blank_taken (b ∷ x) (suc k) (omega arith) (omega arith) ∙ e in
        rw (still, again m f (omega arith)) g

-- the front of a stream is that of the first bytes that hold its head
front_alone : (x : List ℕ) (m n : ℕ) → head_length (take head_limit x) ≡ Some m → m ≤ n
    → n ≤ length x → front_of (take n x) ≡ front_of x
unfolding front_of
front_alone x m n h few within =
    let there : head_length x ≡ Some m
    = ap head_length (sym (take-append-drop head_limit x))
    ∙ end_stays (take head_limit x) (drop head_limit x) m h in
    let here : head_length (take head_limit (take n x)) ≡ Some m
    = end_taken (take n x) m head_limit (end_taken x m n there few) (limit_within x m h).1 in
    ap (at_end (take n x)) here
    ∙ ap (λ z. at_head m (head_of z)) (take_fewer m n x few within)
    ∙ sym (ap (at_end x) h)

-- where the front opens, the end of the head stands there
opens_end : (x : List ℕ) (m : ℕ) (asked : Asked) → front_of x ≡ opens m asked
    → head_length (take head_limit x) ≡ Some m
unfolding front_of
opens_end x m asked h = by (head_length (take head_limit x)) refl h
  where
    none : (v : Bool) → cond v waits (fails 431) ≡ opens m asked → ⊥
    none true g = cc
    none false g = cc

    by : (o : Option ℕ) → head_length (take head_limit x) ≡ o → at_end x o ≡ opens m asked
        → head_length (take head_limit x) ≡ Some m
    by None e g = absurd (none (nat_lt (length x) head_limit) g)
    by (Some k) e g = e ∙ ap (λ j. Some j) (head_opens k m asked (head_of (take k x)) g)

-- the bytes of a whole request aren't too few
enough : (x : List ℕ) (request : Request) (n : ℕ) → first_of x ≡ whole request n
    → first_of (take n x) ≡ more → ⊥
unfolding first_of
enough x request n h none = by (front_of x) refl h none
  where
    within : n ≤ length x
    within = (whole_within x request n h).1

    come : (m : ℕ) (asked : Asked) → front_of x ≡ opens m asked → (v : Bool)
        → cond v (whole (request_with asked (take asked.size (drop m x))) (m + asked.size)) more
        ≡ whole request n
        → cond (nat_le (m + asked.size) (length (take n x)))
        (whole (request_with asked (take asked.size (drop m (take n x)))) (m + asked.size)) more
        ≡ more → ⊥
    come m asked e false g none = cc
    come m asked e true g none =
        let is : m + asked.size ≡ n = cc in
        let fits : m + asked.size ≤ length (take n x) = omega (arith, is, within, length-take n x) in
        let no' : whole (request_with asked (take asked.size (drop m (take n x)))) (m + asked.size) ≡ more
        = sym (ap (λ v. cond v (whole (request_with asked (take asked.size (drop m (take n x)))) (m + asked.size)) more)
        (le-leb (m + asked.size) (length (take n x)) fits)) ∙ none in
        let absent : ⊥ = cc in absent

    by : (f : Front) → front_of x ≡ f → with_body x f ≡ whole request n
        → with_body (take n x) (front_of (take n x)) ≡ more → ⊥
    by waits e g none = cc
    by (fails status) e g none = cc
    by (opens m asked) e g none =
        let few : m ≤ n = opens_fits m asked (nat_le (m + asked.size) (length x)) g in
        let alone : front_of (take n x) ≡ opens m asked
        = front_alone x m n (opens_end x m asked e) few within ∙ e in
        come m asked e (nat_le (m + asked.size) (length x)) g
        (sym (ap (with_body (take n x)) alone) ∙ none)
      where
        opens_fits : (m : ℕ) (asked : Asked) (v : Bool)
            → cond v (whole (request_with asked (take asked.size (drop m x))) (m + asked.size)) more
            ≡ whole request n → m ≤ n
        opens_fits m asked false g = absurd (let none : ⊥ = cc in none)
        opens_fits m asked true g = let is : m + asked.size ≡ n = cc in omega (arith, is)

-- the bytes of a whole request are that request, alone
pub whole_alone : (x : List ℕ) (request : Request) (n : ℕ) → first_of x ≡ whole request n
    → first_of (take n x) ≡ whole request n
whole_alone x request n h =
    sym (first_stays (take n x) (drop n x) (enough x request n h))
    ∙ ap first_of (take-append-drop n x) ∙ h

-- ---- piece by piece

abbrev Cut : List ℕ → Type 0
Cut x = (pieces : List (List ℕ)) × IsCut x pieces

cut_more : (x : List ℕ) → first_of x ≡ more → Cut x
cut_more x e =
    let is = talk_more x e in
    let left_is = left_more x e in (
      [],
      record {
        requests = subst (λ t. AreRequests [] (requests_of t)) (sym is) tt;
        bytes_are = sym left_is;
        rest = subst (λ t. Leaves t (left x)) (sym is) (ap first_of left_is ∙ e);
      },
    )

cut_fault : (x : List ℕ) (status : ℕ) → first_of x ≡ fault status → Cut x
cut_fault x status e =
    let is = talk_fault x status e in
    let left_is = left_fault x status e in (
      [],
      record {
        requests = subst (λ t. AreRequests [] (requests_of t)) (sym is) tt;
        bytes_are = sym left_is;
        rest = subst (λ t. Leaves t (left x)) (sym is) (ap first_of left_is ∙ e);
      },
    )

-- the first piece
piece_is : (x : List ℕ) (request : Request) (n : ℕ) → first_of x ≡ whole request n
    → first_of (take n x) ≡ whole request (length (take n x))
piece_is x request n e =
    let within = (whole_within x request n e).1 in
    let is : n ≡ length (take n x) = omega (arith, length-take n x) in
    whole_alone x request n e ∙ ap (λ m. whole request m) is

cut_last : (x : List ℕ) (request : Request) (n : ℕ) → first_of x ≡ whole request n
    → request.close ≡ true → Cut x
cut_last x request n e last =
    let is : talk x ≡ asks request ∷ []
    = talk_whole x request n e ∙ ap (λ v. asks request ∷ cond v [] (talk (drop n x))) last in
    let left_is : left x ≡ drop n x
    = left_whole x request n e ∙ ap (λ v. cond v (drop n x) (left (drop n x))) last in (
      take n x ∷ [],
      record {
        requests = subst (λ t. AreRequests (take n x ∷ []) (requests_of t)) (sym is)
            (piece_is x request n e, tt);
        bytes_are = sym (take-append-drop n x)
            ∙ ap₂ (λ y z. y ++ z) (sym (append-nil (take n x))) (sym left_is);
        rest = subst (λ t. Leaves t (left x)) (sym is)
            (λ goes_on. absurd (true≢false (sym last ∙ goes_on)));
      },
    )

cut_next : (x : List ℕ) (request : Request) (n : ℕ) → first_of x ≡ whole request n
    → request.close ≡ false → Cut (drop n x) → Cut x
cut_next x request n e goes_on (pieces, later) =
    let rest : List Message = talk (drop n x) in
    let is : talk x ≡ asks request ∷ rest
    = talk_whole x request n e ∙ ap (λ v. asks request ∷ cond v [] rest) goes_on in
    let left_is : left x ≡ left (drop n x)
    = left_whole x request n e ∙ ap (λ v. cond v (drop n x) (left (drop n x))) goes_on in (
      take n x ∷ pieces,
      record {
        requests = subst (λ t. AreRequests (take n x ∷ pieces) (requests_of t)) (sym is)
            (piece_is x request n e, later.requests);
        bytes_are = sym (take-append-drop n x)
            ∙ ap (λ z. take n x ++ z) (later.bytes_are ∙ ap (λ z. concat pieces ++ z) (sym left_is))
            ∙ sym (append_assoc (take n x) (concat pieces) (left x));
        rest = subst (λ t. Leaves t (left x)) (sym is)
            (λ open'. subst (Leaves rest) (sym left_is) later.rest);
      },
    )

cut_step : (x : List ℕ) → ((n : ℕ) → 0 < n → n ≤ length x → Cut (drop n x)) → Cut x
cut_step x again = by (first_of x) refl
  where
    of_whole : (request : Request) (n : ℕ) → first_of x ≡ whole request n
        → (v : Bool) → request.close ≡ v → Cut x
    of_whole request n e true c = cut_last x request n e c
    of_whole request n e false c =
        let within = whole_within x request n e in
        cut_next x request n e c (again n within.0 within.1)

    by : (f : First) → first_of x ≡ f → Cut x
    by more e = cut_more x e
    by (fault status) e = cut_fault x status e
    by (whole request n) e = of_whole request n e request.close refl

cut_within : (m : ℕ) (x : List ℕ) → length x ≤ m → Cut x
cut_within zero x few = cut_step x (λ n some within. absurd (omega arith))
cut_within (suc m) x few =
    cut_step x (λ n some within. cut_within m (drop n x) (omega (arith, length-drop n x)))

pub stream_cut : (x : List ℕ) → (pieces : List (List ℕ)) × IsCut x pieces
stream_cut x = cut_within (length x) x (omega arith)
