-- The signed numbers of rows.
use Rattle.std.proofs.Common.{inl, inr, ◌≡◌, ◌∙◌, ◌<◌, ◌≤◌, ℕ, zero, suc, ◌+◌, Bool, true, false, cond, List, [], ◌∷◌, ◌++◌, length, take, map, refl, sym, ap, subst, arith, Option, Some, None, append_assoc, length-append}
use Rattle.std.specs.Prelude.{◌⊎◌, ℤ, pos, negsuc, count_by, not, option_map, slice_get}
use Rattle.std.specs.List.{cons_option, filter_map}
use Rattle.std.proofs.Math.Seq.{take-append_seam}
use Rattle.std.proofs.lemmas.Bool.{cases_lt}
use Rattle.std.proofs.lemmas.List.{take-take}
use Rattle.std.proofs.lemmas.List.Sums.{sum_by-append}
use Rattle.std.proofs.lemmas.Option.{slice_get_within}
use Rattle.ox_range.specs.Numbers.{numbers_from}
use Rattle.ox_inscribe.specs.Inscriptions.{numbers_where}
use Rattle.ox_inscribe.specs.Signed.{is_cursed, is_uncursed, number_at, number_of, signed}
use Rattle.ox_inscribe.specs.declared.row.InsRow.{InsRow}
use Rattle.ox_inscribe.proofs.CursedLaws.{one_counts}

-- ---- rows behind

get_shown : (rows : List InsRow) (n k : ℕ) → n < k → slice_get (take k rows) n ≡ slice_get rows n
get_shown [] n zero less = refl
get_shown [] n (suc k) less = refl
get_shown (row ∷ rows) n zero less = absurd (omega (arith, less))
get_shown (row ∷ rows) zero (suc k) less = refl
get_shown (row ∷ rows) (suc n) (suc k) less = get_shown rows n k (omega (arith, less))

-- a row's number hangs on no row behind it
pub number_shown : (jubilee : ℕ) (rows : List InsRow) (n k : ℕ) → n < k → number_at jubilee (take k rows) n ≡ number_at jubilee rows n
number_shown jubilee rows n k less =
    ap (λ (front : List InsRow). option_map (λ row. signed (is_cursed jubilee row) (count_by (is_cursed jubilee) front) (count_by (is_uncursed jubilee) front)) (slice_get (take k rows) n))
    (take-take n k rows (omega (arith, less)))
    ∙ ap (λ (row : Option InsRow). option_map (number_of jubilee rows n) row) (get_shown rows n k less)

there_is : (jubilee : ℕ) (rows : List InsRow) (n : ℕ) (z : ℤ) (row : Option InsRow) → slice_get rows n ≡ row → option_map (number_of jubilee rows n) row ≡ Some z → n < length rows
there_is jubilee rows n z None is numbered = let no : None ≡ Some z = numbered in absurd (cc no)
there_is jubilee rows n z (Some row) is numbered = slice_get_within rows n row is

pub number_stays : (jubilee : ℕ) (rows more : List InsRow) (n : ℕ) (z : ℤ) → number_at jubilee rows n ≡ Some z → number_at jubilee (rows ++ more) n ≡ Some z
number_stays jubilee rows more n z numbered =
    let within : n < length rows = there_is jubilee rows n z (slice_get rows n) refl numbered in
    sym (number_shown jubilee (rows ++ more) n (length rows) within)
    ∙ ap (λ (front : List InsRow). number_at jubilee front n) (take-append_seam rows more)
    ∙ numbered

-- ---- no two are the same

counts_more : (passes : InsRow → Bool) (rows : List InsRow) (i j : ℕ) (row : InsRow) → i < j → slice_get rows i ≡ Some row → passes row ≡ true → count_by passes (take i rows) < count_by passes (take j rows)
counts_more passes [] i j row less there pass = let no : None ≡ Some row = there in absurd (cc no)
counts_more passes (first ∷ rows) i zero row less there pass = absurd (omega (arith, less))
counts_more passes (first ∷ rows) zero (suc j) row less there pass =
    let same : Some first ≡ Some row = there in
    let is : first ≡ row = cc same in
    let one = one_counts passes first (take j rows) ∙ ap (λ (b : Bool). cond b 1 0 + count_by passes (take j rows)) (ap passes is ∙ pass) in
    omega (arith, one)
counts_more passes (first ∷ rows) (suc i) (suc j) row less there pass =
    let later = counts_more passes rows i j row (omega (arith, less)) there pass in
    let here = one_counts passes first (take i rows) in
    let more = one_counts passes first (take j rows) in
    omega (arith, later, here, more)

-- the first of two can't have the number of the second
apart : (jubilee : ℕ) (rows : List InsRow) (i j : ℕ) (z : ℤ) (one other : Option InsRow) → i < j → slice_get rows i ≡ one → slice_get rows j ≡ other → option_map (number_of jubilee rows i) one ≡ Some z → option_map (number_of jubilee rows j) other ≡ Some z → ⊥
apart jubilee rows i j z None other less first second is same = let no : None ≡ Some z = is in absurd (cc no)
apart jubilee rows i j z (Some one) None less first second is same = let no : None ≡ Some z = same in absurd (cc no)
apart jubilee rows i j z (Some one) (Some other) less first second is same = by_kinds (is_cursed jubilee one) (is_cursed jubilee other) refl refl (value (is ∙ sym same))
  where
    value : {x y : ℤ} → Some x ≡ Some y → x ≡ y
    value e = cc e

    by_kinds : (a b : Bool) → is_cursed jubilee one ≡ a → is_cursed jubilee other ≡ b
        → signed a (count_by (is_cursed jubilee) (take i rows)) (count_by (is_uncursed jubilee) (take i rows))
        ≡ signed b (count_by (is_cursed jubilee) (take j rows)) (count_by (is_uncursed jubilee) (take j rows)) → ⊥
    by_kinds true true a b e =
        let more = counts_more (is_cursed jubilee) rows i j one less first a in
        let counts : count_by (is_cursed jubilee) (take i rows) ≡ count_by (is_cursed jubilee) (take j rows) = cc e in
        omega (arith, more, counts)
    by_kinds true false a b e = cc e
    by_kinds false true a b e = cc e
    by_kinds false false a b e =
        let more = counts_more (is_uncursed jubilee) rows i j one less first (ap not a) in
        let counts : count_by (is_uncursed jubilee) (take i rows) ≡ count_by (is_uncursed jubilee) (take j rows) = cc e in
        omega (arith, more, counts)

pub no_other : (jubilee : ℕ) (rows : List InsRow) (one other : ℕ) (z : ℤ) → number_at jubilee rows one ≡ Some z → number_at jubilee rows other ≡ Some z → one ≡ other
no_other jubilee rows one other z is same = by_order (cases_lt one other) (cases_lt other one) where
  by_order : (one < other) ⊎ (other ≤ one) → (other < one) ⊎ (one ≤ other) → one ≡ other
  by_order (inl less) _ = absurd (apart jubilee rows one other z (slice_get rows one) (slice_get rows other) less refl refl is same)
  by_order _ (inl less) = absurd (apart jubilee rows other one z (slice_get rows other) (slice_get rows one) less refl refl same is)
  by_order (inr le) (inr ge) = omega (arith, le, ge)

-- ---- row by row, in order

get_behind : (before rest : List InsRow) (row : InsRow) → slice_get (before ++ row ∷ rest) (length before) ≡ Some row
get_behind [] rest row = refl
get_behind (first ∷ before) rest row = get_behind before rest row

-- the number of the row behind some
number_behind : (jubilee : ℕ) (before rest : List InsRow) (row : InsRow) → number_at jubilee (before ++ row ∷ rest) (length before) ≡ Some (signed (is_cursed jubilee row) (count_by (is_cursed jubilee) before) (count_by (is_uncursed jubilee) before))
number_behind jubilee before rest row =
    ap (λ (found : Option InsRow). option_map (number_of jubilee (before ++ row ∷ rest) (length before)) found) (get_behind before rest row)
    ∙ ap (λ (front : List InsRow). Some (signed (is_cursed jubilee row) (count_by (is_cursed jubilee) front) (count_by (is_uncursed jubilee) front))) (take-append_seam before (row ∷ rest))

abbrev pub Numbers : ℕ → (InsRow → Bool) → (ℕ → ℤ) → Type 0
Numbers jubilee passes give = (before rest : List InsRow) (row : InsRow) → passes row ≡ true → number_at jubilee (before ++ row ∷ rest) (length before) ≡ Some (give (count_by passes before))

pub cursed_there : (jubilee : ℕ) → Numbers jubilee (is_cursed jubilee) (λ k. negsuc k)
cursed_there jubilee before rest row is =
    number_behind jubilee before rest row ∙ ap (λ (b : Bool). Some (signed b (count_by (is_cursed jubilee) before) (count_by (is_uncursed jubilee) before))) is

not_true : (b : Bool) → not b ≡ true → b ≡ false
not_true true is = sym is
not_true false is = refl

pub others_there : (jubilee : ℕ) → Numbers jubilee (is_uncursed jubilee) (λ k. pos k)
others_there jubilee before rest row is =
    number_behind jubilee before rest row ∙ ap (λ (b : Bool). Some (signed b (count_by (is_cursed jubilee) before) (count_by (is_uncursed jubilee) before))) (not_true (is_cursed jubilee row) is)

one_more : (passes : InsRow → Bool) (rows : List InsRow) (row : InsRow) → count_by passes (rows ++ row ∷ []) ≡ count_by passes rows + cond (passes row) 1 0
one_more passes rows row =
    let all = sum_by-append (λ r. cond (passes r) 1 0) rows (row ∷ []) in
    let one = one_counts passes row [] in
    omega (arith, all, one)

module _ (jubilee : ℕ) (passes : InsRow → Bool) (give : ℕ → ℤ) (numbers : Numbers jubilee passes give) where
  abbrev Later : ℕ → List InsRow → InsRow → List InsRow → List InsRow → Type 0
  Later from before row rest rows = (j : ℕ) → j ≡ count_by passes (before ++ row ∷ []) → filter_map (number_at jubilee rows) (numbers_where passes (from + 1) rest) ≡ map give (numbers_from j (count_by passes rest))

  numbered_from : (from k : ℕ) (before rest : List InsRow) → from ≡ length before → k ≡ count_by passes before
      → filter_map (number_at jubilee (before ++ rest)) (numbers_where passes from rest) ≡ map give (numbers_from k (count_by passes rest))
  unfolding numbers_where numbers_from
  numbered_from from k before [] here so_far = refl
  numbered_from from k before (row ∷ rest) here so_far =
      let long : from + 1 ≡ length (before ++ row ∷ []) = omega (arith, here, length-append before (row ∷ [])) in
      by_test (λ j is. numbered_from (from + 1) j (before ++ row ∷ []) rest long is) (passes row) refl
    where
      all : (before ++ row ∷ []) ++ rest ≡ before ++ row ∷ rest
      all = append_assoc before (row ∷ []) rest

      by_test : Later from before row rest ((before ++ row ∷ []) ++ rest) → (passed : Bool) → passes row ≡ passed
          → filter_map (number_at jubilee (before ++ row ∷ rest)) (cond passed (from ∷ numbers_where passes (from + 1) rest) (numbers_where passes (from + 1) rest)) ≡ map give (numbers_from k (count_by passes (row ∷ rest)))
      by_test ih true is =
          let later : Later from before row rest (before ++ row ∷ rest) = subst (Later from before row rest) all ih in
          let more = one_more passes before row ∙ ap (λ (b : Bool). count_by passes before + cond b 1 0) is in
          let count = one_counts passes row rest ∙ ap (λ (b : Bool). cond b 1 0 + count_by passes rest) is in
          let next : k + 1 ≡ count_by passes (before ++ row ∷ []) = omega (arith, more, so_far) in
          let many : suc (count_by passes rest) ≡ count_by passes (row ∷ rest) = omega (arith, count) in
          ap (λ (number : Option ℤ). cons_option number (filter_map (number_at jubilee (before ++ row ∷ rest)) (numbers_where passes (from + 1) rest)))
          (ap (number_at jubilee (before ++ row ∷ rest)) here ∙ numbers before rest row is ∙ ap (λ (n : ℕ). Some (give n)) (sym so_far))
          ∙ ap (λ (rest : List ℤ). give k ∷ rest) (later (k + 1) next)
          ∙ ap (λ (n : ℕ). map give (numbers_from k n)) many
      by_test ih false is =
          let later : Later from before row rest (before ++ row ∷ rest) = subst (Later from before row rest) all ih in
          let more = one_more passes before row ∙ ap (λ (b : Bool). count_by passes before + cond b 1 0) is in
          let count = one_counts passes row rest ∙ ap (λ (b : Bool). cond b 1 0 + count_by passes rest) is in
          let next : k ≡ count_by passes (before ++ row ∷ []) = omega (arith, more, so_far) in
          let many : count_by passes rest ≡ count_by passes (row ∷ rest) = omega (arith, count) in
          later k next ∙ ap (λ (n : ℕ). map give (numbers_from k n)) many

  pub all_numbered : (rows : List InsRow) → filter_map (number_at jubilee rows) (numbers_where passes 0 rows) ≡ map give (numbers_from 0 (count_by passes rows))
  all_numbered rows = numbered_from 0 0 [] rows refl refl
