-- The talk of a stream, one message after another.
use Rattle.std.proofs.Common.{◌≡◌, ℕ, zero, suc, ◌-◌, ◌<◌, ◌≤◌, Bool, true, false, cond, List, [], ◌∷◌, ◌++◌, length, drop, refl, sym, ap, ap₂, ◌∙◌, arith}
use Rattle.std.proofs.lemmas.List.{drop-append-le, length-drop}
use Rattle.ox_http.specs.declared.Request.{Request}
use Rattle.ox_http.specs.First.{First, whole, more, fault, first_of, front_of, head_length}
use Rattle.ox_http.specs.Talk.{Message, asks, faults, has_ended, talk_from, talk_behind, talk, left_from, left_behind, left}
use Rattle.ox_http.proofs.Stays.{first_stays, whole_within}

-- passing bytes over is dropping them
talk_passed : (n : ℕ) (x : List ℕ) → talk_behind n x ≡ talk (drop n x)
unfolding talk talk_behind
talk_passed zero [] = refl
talk_passed (suc n) [] = refl
talk_passed zero (b ∷ x) = refl
talk_passed (suc n) (b ∷ x) = talk_passed n x

left_passed : (n : ℕ) (x : List ℕ) → left_behind n x ≡ left (drop n x)
unfolding left left_behind
left_passed zero [] = refl
left_passed (suc n) [] = refl
left_passed zero (b ∷ x) = refl
left_passed (suc n) (b ∷ x) = left_passed n x

first_nil : first_of [] ≡ more
unfolding first_of front_of head_length
first_nil = refl

-- ---- by what a stream begins with

abbrev unless_closes : Request → List Message → List Message
unless_closes request later = cond request.close [] later

pub talk_whole : (x : List ℕ) (request : Request) (n : ℕ) → first_of x ≡ whole request n
    → talk x ≡ asks request ∷ unless_closes request (talk (drop n x))
unfolding talk talk_behind
talk_whole [] request n h = absurd (let none : ⊥ = cc (first_nil) in none)
talk_whole (b ∷ x) request n h =
    let some = (whole_within (b ∷ x) request n h).0 in
    let is : suc (n - 1) ≡ n = omega arith in
    ap (λ f. talk_from f (λ passed. talk_behind passed x)) h
    ∙ ap (λ z. asks request ∷ unless_closes request z)
    (talk_passed (n - 1) x ∙ ap (λ m. talk (drop m (b ∷ x))) is)

pub talk_more : (x : List ℕ) → first_of x ≡ more → talk x ≡ []
unfolding talk talk_behind
talk_more [] h = refl
talk_more (b ∷ x) h = ap (λ f. talk_from f (λ passed. talk_behind passed x)) h

pub talk_fault : (x : List ℕ) (status : ℕ) → first_of x ≡ fault status
    → talk x ≡ faults status ∷ []
unfolding talk talk_behind
talk_fault [] status h = absurd (let none : ⊥ = cc (first_nil) in none)
talk_fault (b ∷ x) status h = ap (λ f. talk_from f (λ passed. talk_behind passed x)) h

pub left_whole : (x : List ℕ) (request : Request) (n : ℕ) → first_of x ≡ whole request n
    → left x ≡ cond request.close (drop n x) (left (drop n x))
unfolding left left_behind
left_whole [] request n h = absurd (let none : ⊥ = cc (first_nil) in none)
left_whole (b ∷ x) request n h =
    let some = (whole_within (b ∷ x) request n h).0 in
    let is : suc (n - 1) ≡ n = omega arith in
    ap (λ f. left_from f (b ∷ x) x (λ passed. left_behind passed x)) h
    ∙ ap₂ (λ y z. cond request.close y z)
    (ap (λ m. drop m (b ∷ x)) is)
    (left_passed (n - 1) x ∙ ap (λ m. left (drop m (b ∷ x))) is)

pub left_more : (x : List ℕ) → first_of x ≡ more → left x ≡ x
unfolding left left_behind
left_more [] h = refl
left_more (b ∷ x) h = ap (λ f. left_from f (b ∷ x) x (λ passed. left_behind passed x)) h

pub left_fault : (x : List ℕ) (status : ℕ) → first_of x ≡ fault status → left x ≡ x
unfolding left left_behind
left_fault [] status h = refl
left_fault (b ∷ x) status h = ap (λ f. left_from f (b ∷ x) x (λ passed. left_behind passed x)) h

-- ---- streams joined

abbrev pub joined : List ℕ → List ℕ → List Message
joined x y = cond (has_ended (talk x)) (talk x) (talk x ++ talk (left x ++ y))

abbrev join_of : List Message → List Message → List Message
join_of before later = cond (has_ended before) before (before ++ later)

ended_next : (request : Request) → request.close ≡ false → (t : List Message)
    → has_ended (asks request ∷ t) ≡ has_ended t
ended_next request open' [] = open'
ended_next request open' (message ∷ t) = refl

join_next : (request : Request) → request.close ≡ false → (t u : List Message)
    → asks request ∷ join_of t u ≡ join_of (asks request ∷ t) u
join_next request open' t u =
    sym (move (has_ended t)) ∙ sym (ap (λ v. cond v (asks request ∷ t) (asks request ∷ (t ++ u))) (ended_next request open' t))
  where
    move : (v : Bool) → cond v (asks request ∷ t) (asks request ∷ (t ++ u)) ≡ asks request ∷ cond v t (t ++ u)
    move true = refl
    move false = refl

join_step : (x y : List ℕ)
    → ((n : ℕ) → 0 < n → n ≤ length x → talk (drop n x ++ y) ≡ joined (drop n x) y)
    → talk (x ++ y) ≡ joined x y
join_step x y again = by (first_of x) refl
  where
    of_fault : (status : ℕ) → first_of x ≡ fault status → talk (x ++ y) ≡ joined x y
    of_fault status e =
        let is = talk_fault x status e in
        talk_fault (x ++ y) status (first_stays x y (λ w. let none : ⊥ = cc in none) ∙ e)
        ∙ sym (ap (λ t. join_of t (talk (left x ++ y))) is)

    of_more : first_of x ≡ more → talk (x ++ y) ≡ joined x y
    of_more e =
        sym (ap₂ (λ t l. join_of t (talk (l ++ y))) (talk_more x e) (left_more x e))

    of_last : (request : Request) (n : ℕ) → first_of x ≡ whole request n
        → request.close ≡ true → talk (x ++ y) ≡ joined x y
    of_last request n e last =
        let still = first_stays x y (λ w. let none : ⊥ = cc in none) ∙ e in
        let one : unless_closes request (talk (drop n (x ++ y))) ≡ []
        = ap (λ v. cond v [] (talk (drop n (x ++ y)))) last in
        let two : unless_closes request (talk (drop n x)) ≡ []
        = ap (λ v. cond v [] (talk (drop n x))) last in
        let is : talk x ≡ asks request ∷ []
        = talk_whole x request n e ∙ ap (λ t. asks request ∷ t) two in
        let over : has_ended (asks request ∷ []) ≡ true = last in
        talk_whole (x ++ y) request n still ∙ ap (λ t. asks request ∷ t) one
        ∙ sym (ap (λ t. join_of t (talk (left x ++ y))) is
        ∙ ap (λ v. cond v (asks request ∷ []) (asks request ∷ talk (left x ++ y))) over)

    of_next : (request : Request) (n : ℕ) → first_of x ≡ whole request n
        → request.close ≡ false → talk (drop n x ++ y) ≡ joined (drop n x) y
        → talk (x ++ y) ≡ joined x y
    of_next request n e open' again =
        let still = first_stays x y (λ w. let none : ⊥ = cc in none) ∙ e in
        let within = (whole_within x request n e).1 in
        let rest : List Message = talk (drop n x) in
        let is : talk x ≡ asks request ∷ rest
        = talk_whole x request n e ∙ ap (λ v. asks request ∷ cond v [] rest) open' in
        let left_is : left x ≡ left (drop n x)
        = left_whole x request n e ∙ ap (λ v. cond v (drop n x) (left (drop n x))) open' in
        talk_whole (x ++ y) request n still
        ∙ ap (λ v. asks request ∷ cond v [] (talk (drop n (x ++ y)))) open'
        ∙ ap (λ z. asks request ∷ talk z) (drop-append-le n x y within)
        ∙ ap (λ t. asks request ∷ t) again
        ∙ join_next request open' rest (talk (left (drop n x) ++ y))
        ∙ sym (ap₂ (λ t l. join_of t (talk (l ++ y))) is left_is)

    of_whole : (request : Request) (n : ℕ) → first_of x ≡ whole request n
        → (v : Bool) → request.close ≡ v → talk (x ++ y) ≡ joined x y
    of_whole request n e true c = of_last request n e c
    of_whole request n e false c =
        let within = whole_within x request n e in
        of_next request n e c (again n within.0 within.1)

    by : (f : First) → first_of x ≡ f → talk (x ++ y) ≡ joined x y
    by more e = of_more e
    by (fault status) e = of_fault status e
    by (whole request n) e = of_whole request n e request.close refl

joins : (m : ℕ) (x y : List ℕ) → length x ≤ m → talk (x ++ y) ≡ joined x y
joins zero x y few = join_step x y (λ n some within. absurd (omega arith))
joins (suc m) x y few =
    join_step x y (λ n some within. joins m (drop n x) y (omega (arith, length-drop n x)))

pub talks_join : (x y : List ℕ) → talk (x ++ y) ≡ joined x y
talks_join x y = joins (length x) x y (omega arith)
