-- Where the end of a head stands.
use Rattle.std.proofs.Common.{◌≡◌, ℕ, zero, suc, ◌+◌, ◌-◌, ◌<◌, ◌≤◌, Bool, true, false, cond, List, [], ◌∷◌, ◌++◌, length, take, drop, Option, Some, None, refl, sym, ap, ◌∙◌, true≢false, ⊎_elim, arith, nat_eq}
use Rattle.std.proofs.lemmas.Bool.{false_from_ne_true, cases_lt}
use Rattle.std.proofs.lemmas.List.{take-append-drop, drop-append-le, take-append-le, length-drop, length-take}
use Rattle.std.proofs.lemmas.List.Prefix.{at_from_reads, at_reads}
use Rattle.std.proofs.lemmas.Slice.Eq.{bytes_eq-Decides}
use Rattle.std.proofs.Math.Seq.{drop-append-add}
use Rattle.std.specs.Cmp.Lexicographic.{pointwise}
use Rattle.std.specs.List.{starts_with}
use Rattle.std.specs.Option.{option_map}
use Rattle.memchr.specs.Find.{OccursAt, FindsNeedle}
use Rattle.ox_http.specs.First.{blank_line, head_length}

-- bytes begin with the end of a line and an empty line
abbrev pub is_blank : List ℕ → Bool
is_blank bytes = starts_with nat_eq bytes blank_line

-- ---- the first place

pub end_first : (bytes : List ℕ) (k : ℕ) → is_blank (drop k bytes) ≡ true
    → ((j : ℕ) → j < k → is_blank (drop j bytes) ≡ false) → head_length bytes ≡ Some (k + 4)
unfolding head_length
end_first [] zero here none = absurd (true≢false (sym here))
end_first [] (suc k) here none = absurd (true≢false (sym here))
end_first (b ∷ bytes) zero here none = rw here refl
end_first (b ∷ bytes) (suc k) here none =
    let first : is_blank (b ∷ bytes) ≡ false = none 0 (omega arith) in
    rw (first, end_first bytes k here (λ j h. none (suc j) (omega arith)))
    (ap (λ n. Some n) (omega arith))

pub end_none : (bytes : List ℕ) → ((j : ℕ) → is_blank (drop j bytes) ≡ false)
    → head_length bytes ≡ None
unfolding head_length
end_none [] none = refl
end_none (b ∷ bytes) none =
    let first : is_blank (b ∷ bytes) ≡ false = none 0 in
    rw (first, end_none bytes (λ j. none (suc j))) refl

later_none : (v : Bool) (o : Option ℕ) → cond v (Some 4) (option_map suc o) ≡ None
    → (v ≡ false) × (o ≡ None)
later_none true o h = absurd (let no' : ⊥ = cc in no')
later_none false None h = (refl, refl)
later_none false (Some n) h = absurd (let no' : ⊥ = cc in no')

pub none_there : (bytes : List ℕ) → head_length bytes ≡ None → (j : ℕ)
    → is_blank (drop j bytes) ≡ false
unfolding head_length
none_there [] h zero = refl
none_there [] h (suc j) = refl
none_there (b ∷ bytes) h zero = (later_none (is_blank (b ∷ bytes)) (head_length bytes) h).0
none_there (b ∷ bytes) h (suc j) =
    none_there bytes (later_none (is_blank (b ∷ bytes)) (head_length bytes) h).1 j

-- ---- what follows changes nothing

pub blank_kept : (x y : List ℕ) (j : ℕ) → j + 4 ≤ length x
    → is_blank (drop j (x ++ y)) ≡ is_blank (drop j x)
blank_kept x y j h =
    let few : j ≤ length x = omega arith in
    let enough : 4 ≤ length (drop j x) = omega (arith, length-drop j x) in
    ap is_blank (drop-append-le j x y few)
    ∙ ap (λ z. pointwise nat_eq blank_line z) (take-append-le 4 (drop j x) y enough)

blank_parts : (bytes : List ℕ) → is_blank bytes ≡ true → bytes ≡ blank_line ++ drop 4 bytes
blank_parts bytes h =
    sym (take-append-drop 4 bytes)
    ∙ ap (λ z. z ++ drop 4 bytes) (sym ((bytes_eq-Decides blank_line (take 4 bytes)).0 h))

pub blank_long : (bytes : List ℕ) → is_blank bytes ≡ true → 4 ≤ length bytes
blank_long bytes h = omega (arith, ap length (blank_parts bytes h))

-- the end of a head stays where it is
pub end_within : (bytes : List ℕ) (n : ℕ) → head_length bytes ≡ Some n → n ≤ length bytes
unfolding head_length
end_within [] n h = absurd (let no' : ⊥ = cc in no')
end_within (b ∷ bytes) n h = by (is_blank (b ∷ bytes)) refl (head_length bytes) refl h (end_within bytes)
  where
    by : (v : Bool) → is_blank (b ∷ bytes) ≡ v → (o : Option ℕ) → head_length bytes ≡ o
        → cond v (Some 4) (option_map suc o) ≡ Some n
        → ((m : ℕ) → head_length bytes ≡ Some m → m ≤ length bytes) → n ≤ length (b ∷ bytes)
    by true e o f g again = let is : 4 ≡ n = cc in omega (arith, blank_long (b ∷ bytes) e)
    by false e None f g again = absurd (let no' : ⊥ = cc in no')
    by false e (Some m) f g again = let is : suc m ≡ n = cc in omega (arith, again m f)

pub end_four : (bytes : List ℕ) (n : ℕ) → head_length bytes ≡ Some n → 4 ≤ n
unfolding head_length
end_four [] n h = absurd (let no' : ⊥ = cc in no')
end_four (b ∷ bytes) n h = by (is_blank (b ∷ bytes)) (head_length bytes) refl h (end_four bytes)
  where
    by : (v : Bool) (o : Option ℕ) → head_length bytes ≡ o
        → cond v (Some 4) (option_map suc o) ≡ Some n
        → ((m : ℕ) → head_length bytes ≡ Some m → 4 ≤ m) → 4 ≤ n
    by true o f g again = let is : 4 ≡ n = cc in omega arith
    by false None f g again = absurd (let no' : ⊥ = cc in no')
    by false (Some m) f g again = let is : suc m ≡ n = cc in omega (arith, again m f)

pub end_stays : (bytes more : List ℕ) (n : ℕ) → head_length bytes ≡ Some n
    → head_length (bytes ++ more) ≡ Some n
unfolding head_length
end_stays [] more n h = absurd (let no' : ⊥ = cc in no')
end_stays (b ∷ bytes) more n h =
    by (is_blank (b ∷ bytes)) refl (head_length bytes) refl h (end_stays bytes more)
  where
    by : (v : Bool) → is_blank (b ∷ bytes) ≡ v → (o : Option ℕ) → head_length bytes ≡ o
        → cond v (Some 4) (option_map suc o) ≡ Some n
        → ((m : ℕ) → head_length bytes ≡ Some m → head_length (bytes ++ more) ≡ Some m)
        → head_length (b ∷ (bytes ++ more)) ≡ Some n
    by true e o f g again =
        let still : is_blank (b ∷ (bytes ++ more)) ≡ true
        = blank_kept (b ∷ bytes) more 0 (omega (arith, blank_long (b ∷ bytes) e)) ∙ e in
        rw still g
    by false e None f g again = absurd (let no' : ⊥ = cc in no')
    by false e (Some m) f g again =
        let long : m ≤ length bytes = end_within bytes m f in
        let four : 4 ≤ m = end_four bytes m f in
        let still : is_blank (b ∷ (bytes ++ more)) ≡ false
        = blank_kept (b ∷ bytes) more 0 (omega arith) ∙ e in
        rw (still, again m f) g

pub none_before : (bytes more : List ℕ) → head_length (bytes ++ more) ≡ None
    → head_length bytes ≡ None
none_before bytes more h = by (head_length bytes) refl
  where
    by : (o : Option ℕ) → head_length bytes ≡ o → head_length bytes ≡ None
    by None e = e
    by (Some n) e = absurd (let no' : ⊥ = cc (end_stays bytes more n e) in no')

-- ---- the search behind what was looked at

-- a place whose four bytes were looked at
pub old_place : (bytes more : List ℕ) (j : ℕ) → head_length bytes ≡ None → j + 4 ≤ length bytes
    → is_blank (drop j (bytes ++ more)) ≡ false
old_place bytes more j h few = blank_kept bytes more j few ∙ none_there bytes h j

occurs_blank : (bytes : List ℕ) (k : ℕ) → OccursAt bytes blank_line k
    → is_blank (drop k bytes) ≡ true
occurs_blank bytes k occurs =
    ap is_blank (at_from_reads 0 bytes blank_line k occurs.fits occurs.reads)

blank_occurs : (bytes : List ℕ) (k : ℕ) → is_blank (drop k bytes) ≡ true
    → OccursAt bytes blank_line k
blank_occurs bytes k h =
    let parts = blank_parts (drop k bytes) h in
    record {
      fits = omega (arith, blank_long (drop k bytes) h, length-drop k bytes);
      reads = at_reads 0 bytes blank_line k (drop 4 (drop k bytes)) parts;
    }

-- what a search of the bytes behind the `from`-th answers, where none of those before can begin an
-- end of a head
pub search_is : (front rest : List ℕ) (r : Option ℕ)
    → ((j : ℕ) → j < length front → is_blank (drop j (front ++ rest)) ≡ false)
    → FindsNeedle rest blank_line 0 r
    → head_length (front ++ rest) ≡ option_map (λ n. length front + n + 4) r
search_is front rest None old h =
    end_none (front ++ rest) (λ j. false_from_ne_true (is_blank (drop j (front ++ rest))) (never j))
  where
    never : (j : ℕ) → is_blank (drop j (front ++ rest)) ≡ true → ⊥
    never j here = ⊎_elim
        (λ (before : j < length front). true≢false (sym here ∙ old j before))
        (λ (behind : length front ≤ j).
        let is : length front + (j - length front) ≡ j = omega arith in
        let there : is_blank (drop (j - length front) rest) ≡ true
        = ap is_blank (sym (drop-append-add front rest (j - length front)))
        ∙ ap (λ n. is_blank (drop n (front ++ rest))) is ∙ here in
        h (j - length front) (omega arith)
        (omega (
          arith,
          blank_long (drop (j - length front) rest) there,
          length-drop (j - length front) rest,
        ))
        (blank_occurs rest (j - length front) there))
        (cases_lt j (length front))
search_is front rest (Some n) old h =
    end_first (front ++ rest) (length front + n)
    (ap is_blank (drop-append-add front rest n) ∙ occurs_blank rest n h.1)
    (λ j below. false_from_ne_true (is_blank (drop j (front ++ rest))) (never j below))
  where
    never : (j : ℕ) → j < length front + n → is_blank (drop j (front ++ rest)) ≡ true → ⊥
    never j below here = ⊎_elim
        (λ (before : j < length front). true≢false (sym here ∙ old j before))
        (λ (behind : length front ≤ j).
        let is : length front + (j - length front) ≡ j = omega arith in
        let there : is_blank (drop (j - length front) rest) ≡ true
        = ap is_blank (sym (drop-append-add front rest (j - length front)))
        ∙ ap (λ m. is_blank (drop m (front ++ rest))) is ∙ here in
        h.0.before (j - length front) (omega arith) (omega arith)
        (blank_occurs rest (j - length front) there))
        (cases_lt j (length front))

-- the search of all bytes but those that were looked at, three of these aside
pub searched : (bytes : List ℕ) (looked from : ℕ) (r : Option ℕ) → from ≡ looked - 3
    → looked ≤ length bytes → head_length (take looked bytes) ≡ None
    → FindsNeedle (drop from bytes) blank_line 0 r
    → head_length bytes ≡ option_map (λ n. from + n + 4) r
searched bytes looked from r is within none finds =
    ap head_length (sym (take-append-drop from bytes))
    ∙ search_is (take from bytes) (drop from bytes) r old finds
    ∙ ap (λ k. option_map (λ n. k + n + 4) r) from_is
  where
    from_is : length (take from bytes) ≡ from
    from_is = omega (arith, length-take from bytes)

    old : (j : ℕ) → j < length (take from bytes)
        → is_blank (drop j (take from bytes ++ drop from bytes)) ≡ false
    old j before =
        let early : j + 4 ≤ length (take looked bytes)
        = omega (arith, length-take looked bytes, length-take from bytes) in
        ap (λ z. is_blank (drop j z)) (take-append-drop from bytes)
        ∙ ap (λ z. is_blank (drop j z)) (sym (take-append-drop looked bytes))
        ∙ old_place (take looked bytes) (drop looked bytes) j none early
