-- Which row a router of literals finds, where a parameter stands at the end of a row alone.
use Rattle.std.proofs.Common.{◌≡◌, ◌⊎◌, inl, inr, ℕ, zero, suc, ◌-◌, Bool, true, false, not, cond, ◌&&◌, ◌||◌, ◌==◌, ltb, List, [], ◌∷◌, length, Option, Some, None, is_some, refl, sym, ap, ◌∙◌, subst, true≢false, sub-one, unwrap_or, ⊎_elim, ap₂, eq-eqb, eqb-true}
use Rattle.std.proofs.lemmas.Bool.{eqb-false}
use Rattle.matchit.specs.Rows.{RowsOf, param_token, catch_all_token}
use Rattle.matchit.specs.Seek.{seek, first, own, step, or_else, has_slash, segment, longest_from, better, with_suffix, param_step}

abbrev pub tail_of : List ℕ → List ℕ
tail_of [] = []
tail_of (x ∷ t) = t

abbrev pub head_or : ℕ → List ℕ → ℕ
head_or d [] = d
head_or d (x ∷ t) = x

-- a pattern of bytes, with at most a parameter at its end
abbrev pub is_nil : List ℕ → Bool
is_nil [] = true
is_nil (x ∷ t) = false

abbrev pub is_simple : List ℕ → Bool
is_simple [] = true
is_simple (x ∷ t) = (ltb x param_token && is_simple t) || ((x == param_token) && is_nil t)

-- such a pattern takes a path
abbrev pub matches : List ℕ → List ℕ → Bool
matches [] [] = true
matches [] (b ∷ path) = false
matches (x ∷ t) [] = false
matches (x ∷ t) (b ∷ path) = ((x == b) && matches t path) || ((x == param_token) && not (has_slash (b ∷ path)))

pub first_half : (a b : Bool) → (a && b) ≡ true → a ≡ true
first_half true b e = refl
first_half false b e = e

pub second_half : (a b : Bool) → (a && b) ≡ true → b ≡ true
second_half true b e = e
second_half false b e = absurd (true≢false (sym e))

pub halves : (a b : Bool) → a ≡ true → b ≡ true → (a && b) ≡ true
halves true b e f = f
halves false b e f = absurd (true≢false (sym e))

pub either : (a b : Bool) → (a || b) ≡ true → (a ≡ true) ⊎ (b ≡ true)
either true b e = inl refl
either false b e = inr e

pub in_front : (a b : Bool) → a ≡ true → (a || b) ≡ true
in_front true b e = refl
in_front false b e = absurd (true≢false (sym e))

pub at_back : (a b : Bool) → b ≡ true → (a || b) ≡ true
at_back true b e = refl
at_back false b e = e

module _ {K : Type 0} where
  abbrev pub Member : List ℕ × K → RowsOf K → Type 0
  Member r [] = ⊥
  Member r (s ∷ rs) = (r ≡ s) ⊎ Member r rs

  abbrev pub AreSimple : RowsOf K → Type 0
  AreSimple [] = Unit {0}
  AreSimple ((t, k) ∷ rs) = (is_simple t ≡ true) × AreSimple rs

  abbrev pub AreEnded : RowsOf K → Type 0
  AreEnded [] = Unit {0}
  AreEnded ((t, k) ∷ rs) = (t ≡ []) × AreEnded rs

  -- a row that takes the path, with this key
  abbrev pub Takes : RowsOf K → List ℕ → K → Type 0
  Takes rs path k = (t : List ℕ) × Member (t, k) rs × (matches t path ≡ true)

nil_from : (t : List ℕ) → is_nil t ≡ true → t ≡ []
nil_from [] e = refl
nil_from (x ∷ t) e = absurd (true≢false (sym e))

tail_simple : (x : ℕ) (t : List ℕ) → is_simple (x ∷ t) ≡ true → is_simple t ≡ true
tail_simple x [] e = refl
tail_simple x (y ∷ t) e =
    ⊎_elim (λ h. second_half (ltb x param_token) (is_simple (y ∷ t)) h) (λ h. absurd (true≢false (sym (second_half (x == param_token) false h))))
    (either (ltb x param_token && is_simple (y ∷ t)) ((x == param_token) && false) e)

-- nothing stands behind a parameter
ended_tail : (x : ℕ) (t : List ℕ) → (x == param_token) ≡ true → is_simple (x ∷ t) ≡ true → t ≡ []
ended_tail x t h s = nil_from t (subst (λ y. is_simple (y ∷ t) ≡ true) (eqb-true x param_token h) s)

no_catch_all : (x : ℕ) (t : List ℕ) → (x == catch_all_token) ≡ true → is_simple (x ∷ t) ≡ true → ⊥
no_catch_all x t h s = true≢false (sym (subst (λ y. is_simple (y ∷ t) ≡ true) (eqb-true x catch_all_token h) s))

module _ {K : Type 0} where
  simple_at : (t : List ℕ) (k : K) (rs : RowsOf K) → AreSimple rs → Member (t, k) rs → is_simple t ≡ true
  simple_at t k [] s m = elim m [ ]
  simple_at t k ((u, j) ∷ rs) s (inl e) = ap (λ (r : List ℕ × K). is_simple r.0) e ∙ s.0
  simple_at t k ((u, j) ∷ rs) s (inr m) = simple_at t k rs s.1 m

  step_simple : (b : ℕ) (rs : RowsOf K) → AreSimple rs → AreSimple (step b rs)
  step_simple b [] s = tt
  step_simple b (([], k) ∷ rs) s = step_simple b rs s.1
  step_simple b ((x ∷ t, k) ∷ rs) s =
      elim (x == b) as (λ v. AreSimple (cond v ((t, k) ∷ step b rs) (step b rs))) [
        | true ↦ (tail_simple x t s.0, step_simple b rs s.1)
        | false ↦ step_simple b rs s.1
      ]

  param_ended : (rs : RowsOf K) → AreSimple rs → AreEnded (step param_token rs)
  param_ended [] s = tt
  param_ended (([], k) ∷ rs) s = param_ended rs s.1
  param_ended ((x ∷ t, k) ∷ rs) s = by (x == param_token) refl (param_ended rs s.1)
    where
      by : (v : Bool) → (x == param_token) ≡ v → AreEnded (step param_token rs) → AreEnded (cond v ((t, k) ∷ step param_token rs) (step param_token rs))
      by true e more = (ended_tail x t e s.0, more)
      by false e more = more

  no_catch_alls : (rs : RowsOf K) → AreSimple rs → step catch_all_token rs ≡ []
  no_catch_alls [] s = refl
  no_catch_alls (([], k) ∷ rs) s = no_catch_alls rs s.1
  no_catch_alls ((x ∷ t, k) ∷ rs) s = by (x == catch_all_token) refl (no_catch_alls rs s.1)
    where
      by : (v : Bool) → (x == catch_all_token) ≡ v → step catch_all_token rs ≡ [] → cond v ((t, k) ∷ step catch_all_token rs) (step catch_all_token rs) ≡ []
      by true e more = absurd (no_catch_all x t e s.0)
      by false e more = more

  longest_ended : (seg : List ℕ) (rs : RowsOf K) → AreEnded rs → longest_from seg [] rs ≡ []
  longest_ended seg [] s = refl
  longest_ended seg ((t, k) ∷ rs) s =
      subst (λ u. longest_from seg (better seg [] (segment u)) rs ≡ []) (sym s.0) (longest_ended seg rs s.1)

  param_is : (rs : RowsOf K) → AreEnded rs → (path : List ℕ) → param_step rs path ≡ cond (has_slash path) (0, []) (length path, rs)
  unfolding param_step
  param_is rs s path =
      ap (λ l. cond (ltb 0 (length l)) (length (segment path) - length l, with_suffix l rs) (cond (has_slash path) (0, []) (length path, rs))) (longest_ended (segment path) rs s)

  none_of : (a b : Option K) → a ≡ None → b ≡ None → or_else a (or_else b None) ≡ None
  none_of None None e f = refl
  none_of None (Some k) e f = f
  none_of (Some k) b e f = e

  seek_nothing : (n : ℕ) (path : List ℕ) → seek {K = K} n [] path ≡ None
  unfolding seek
  seek_nothing zero [] = refl
  seek_nothing (suc n) [] = refl
  seek_nothing (suc n) (b ∷ path) = seek_nothing n path
  seek_nothing zero (b ∷ path) =
      subst (λ (r : ℕ × RowsOf K). or_else (seek 0 [] path) (or_else (seek (r.0 - 1) r.1 path) None) ≡ None) (sym (param_is [] tt (b ∷ path)))
      (by (has_slash (b ∷ path)) (seek_nothing 0 path) (seek_nothing (0 - 1) path) (seek_nothing (length (b ∷ path) - 1) path))
    where
      by : (v : Bool) → seek {K = K} 0 [] path ≡ None → seek {K = K} (0 - 1) [] path ≡ None → seek {K = K} (length (b ∷ path) - 1) [] path ≡ None
          → or_else (seek {K = K} 0 [] path) (or_else (seek ((cond {A = ℕ × RowsOf K} v (0, []) (length (b ∷ path), [])).0 - 1) (cond {A = ℕ × RowsOf K} v (0, []) (length (b ∷ path), [])).1 path) None) ≡ None
      by true e f g = none_of _ _ e f
      by false e f g = none_of _ _ e g

  seek_past : (rs : RowsOf K) (path : List ℕ) → seek (length path) rs path ≡ own rs
  unfolding seek
  seek_past rs [] = refl
  seek_past rs (b ∷ path) = seek_past rs path

  or_none : (a : Option K) → or_else a None ≡ a
  or_none None = refl
  or_none (Some k) = refl

  -- a walk goes on by the first byte, or ends at a parameter that takes all the rest
  pub first_step : (rs : RowsOf K) → AreSimple rs → (b : ℕ) (path : List ℕ)
      → first rs (b ∷ path) ≡ or_else (first (step b rs) path) (cond (has_slash (b ∷ path)) None (own (step param_token rs)))
  unfolding seek
  first_step rs s b path =
      ap₂ (λ (r : ℕ × RowsOf K) o. or_else (first (step b rs) path) (or_else (seek (r.0 - 1) r.1 path) (own o)))
      (param_is ps (param_ended rs s) (b ∷ path)) (no_catch_alls rs s)
      ∙ ap (or_else (first (step b rs) path)) (by (has_slash (b ∷ path)))
    where
      ps : RowsOf K
      ps = step param_token rs

      by : (v : Bool) → or_else (seek ((cond {A = ℕ × RowsOf K} v (0, []) (length (b ∷ path), ps)).0 - 1) (cond {A = ℕ × RowsOf K} v (0, []) (length (b ∷ path), ps)).1 path) None ≡ cond v None (own ps)
      by true = ap (λ a. or_else a None) (seek_nothing (0 - 1) path)
      by false = or_none _ ∙ ap (λ n. seek n ps path) (sub-one (length (b ∷ path))) ∙ seek_past ps path

  own_member : (k : K) (rs : RowsOf K) → own rs ≡ Some k → Member ([], k) rs
  own_member k [] e = absurd (true≢false (sym (ap is_some e)))
  own_member k (([], j) ∷ rs) e = inl (ap (λ o. ([], unwrap_or o k)) (sym e))
  own_member k ((x ∷ t, j) ∷ rs) e = inr (own_member k rs e)

  member_own : (k : K) (rs : RowsOf K) → Member ([], k) rs → is_some (own rs) ≡ true
  member_own k [] m = elim m [ ]
  member_own k (([], j) ∷ rs) m = refl
  member_own k ((x ∷ t, j) ∷ rs) (inl e) = absurd (true≢false (ap (λ (r : List ℕ × K). is_nil r.0) e))
  member_own k ((x ∷ t, j) ∷ rs) (inr m) = member_own k rs m

  -- a row that goes on with a token is a row with the token in front
  step_member : (b : ℕ) (t : List ℕ) (k : K) (rs : RowsOf K) → Member (t, k) (step b rs) → Member (b ∷ t, k) rs
  step_member b t k [] m = elim m [ ]
  step_member b t k (([], j) ∷ rs) m = inr (step_member b t k rs m)
  step_member b t k ((x ∷ u, j) ∷ rs) m = by (x == b) refl m (step_member b t k rs)
    where
      by : (v : Bool) → (x == b) ≡ v → Member (t, k) (cond v ((u, j) ∷ step b rs) (step b rs)) → (Member (t, k) (step b rs) → Member (b ∷ t, k) rs)
          → Member (b ∷ t, k) ((x ∷ u, j) ∷ rs)
      by true e (inl f) more = inl (ap (λ (r : List ℕ × K). (b ∷ r.0, r.1)) f ∙ ap (λ y. (y ∷ u, j)) (sym (eqb-true x b e)))
      by true e (inr m) more = inr (more m)
      by false e m more = inr (more m)

  member_step : (b : ℕ) (t : List ℕ) (k : K) (rs : RowsOf K) → Member (b ∷ t, k) rs → Member (t, k) (step b rs)
  member_step b t k [] m = elim m [ ]
  member_step b t k (([], j) ∷ rs) (inl e) = absurd (true≢false (sym (ap (λ (r : List ℕ × K). is_nil r.0) e)))
  member_step b t k (([], j) ∷ rs) (inr m) = member_step b t k rs m
  member_step b t k ((x ∷ u, j) ∷ rs) m = by (x == b) refl m (member_step b t k rs)
    where
      by : (v : Bool) → (x == b) ≡ v → Member (b ∷ t, k) ((x ∷ u, j) ∷ rs) → (Member (b ∷ t, k) rs → Member (t, k) (step b rs))
          → Member (t, k) (cond v ((u, j) ∷ step b rs) (step b rs))
      by true e (inl f) more = inl (ap (λ (r : List ℕ × K). (tail_of r.0, r.1)) f)
      by true e (inr m) more = inr (more m)
      by false e (inl f) more = absurd (eqb-false x b e (sym (ap (λ (r : List ℕ × K). head_or b r.0) f)))
      by false e (inr m) more = more m

  -- what a walk finds takes the path
  pub first_takes : (path : List ℕ) (rs : RowsOf K) → AreSimple rs → (k : K) → first rs path ≡ Some k → Takes rs path k
  unfolding seek
  first_takes [] rs s k e = ([], own_member k rs e, refl)
  first_takes (b ∷ path) rs s k e =
      by (first (step b rs) path) (has_slash (b ∷ path)) refl (first_takes path (step b rs) (step_simple b rs s)) (sym (first_step rs s b path) ∙ e)
    where
      by : (a : Option K) (v : Bool) → has_slash (b ∷ path) ≡ v → ((j : K) → a ≡ Some j → Takes (step b rs) path j)
          → or_else a (cond v None (own (step param_token rs))) ≡ Some k → Takes rs (b ∷ path) k
      by (Some j) v n more f =
          let on = more k f in (b ∷ on.0, step_member b on.0 k rs on.1, in_front _ _ (halves _ _ (eq-eqb b b refl) on.2))
      by None true n more f = absurd (true≢false (sym (ap is_some f)))
      by None false n more f =
          (param_token ∷ [], step_member param_token [] k rs (own_member k (step param_token rs) f), at_back _ _ (ap not n))

  some_first : (a o : Option K) → is_some a ≡ true → is_some (or_else a o) ≡ true
  some_first None o e = absurd (true≢false (sym e))
  some_first (Some k) o e = refl

  some_second : (a o : Option K) → is_some o ≡ true → is_some (or_else a o) ≡ true
  some_second None o e = e
  some_second (Some k) o e = refl

  -- where a row takes the path, a walk finds something
  pub takes_first : (path : List ℕ) (rs : RowsOf K) → AreSimple rs → (t : List ℕ) (k : K) → Member (t, k) rs → matches t path ≡ true → is_some (first rs path) ≡ true
  unfolding seek
  takes_first [] rs s [] k m e = member_own k rs m
  takes_first [] rs s (x ∷ t) k m e = absurd (true≢false (sym e))
  takes_first (b ∷ path) rs s [] k m e = absurd (true≢false (sym e))
  takes_first (b ∷ path) rs s (x ∷ t) k m e =
      ap is_some (first_step rs s b path) ∙ ⊎_elim
      (λ h. let at = eqb-true x b (first_half (x == b) (matches t path) h) in
      some_first _ _ (takes_first path (step b rs) (step_simple b rs s) t k (member_step b t k rs (subst (λ y. Member (y ∷ t, k) rs) at m)) (second_half (x == b) (matches t path) h)))
      (λ h. let param = first_half (x == param_token) (not (has_slash (b ∷ path))) h in
      let at = eqb-true x param_token param in
      let none : t ≡ [] = ended_tail x t param (simple_at (x ∷ t) k rs s m) in
      let there : Member ([], k) (step param_token rs) =
      member_step param_token [] k rs (subst (λ u. Member (param_token ∷ u, k) rs) none (subst (λ y. Member (y ∷ t, k) rs) at m)) in
      some_second (first (step b rs) path) _ (by (has_slash (b ∷ path)) (second_half (x == param_token) (not (has_slash (b ∷ path))) h) (member_own k (step param_token rs) there)))
      (either ((x == b) && matches t path) ((x == param_token) && not (has_slash (b ∷ path))) e)
    where
      by : (v : Bool) → not v ≡ true → is_some (own (step param_token rs)) ≡ true → is_some (cond v None (own (step param_token rs))) ≡ true
      by true e f = absurd (true≢false (sym e))
      by false e f = f
