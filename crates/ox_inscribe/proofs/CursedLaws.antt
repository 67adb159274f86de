-- How many of the first rows pass a test, and the words of bits that say which do.
use Rattle.std.proofs.Common.{inl, inr, ◌⊎◌, ◌≡◌, ◌∙◌, ◌≤◌, ◌<◌, ℕ, suc, ◌+◌, ◌*◌, ◌-◌, ◌/◌, ◌%◌, ◌^◌, Bool, true, false, cond, List, [], ◌∷◌, ◌++◌, length, take, drop, map, get_or, set, refl, sym, ap, ap₂, arith, bit_or}
use Rattle.std.specs.Prelude.{count_by, count_ones, not, slice_get, Some, ◌==◌}
use Rattle.std.specs.Int.Bits.{or_shifted_r}
use Rattle.std.specs.Simd.Lanes.{mask_l}
use Rattle.std.proofs.Math.Nat.{mod-eq_of_lt, mul-add, two-pow-succ}
use Rattle.std.proofs.Math.Pow.{low, pow-lt}
use Rattle.std.proofs.Math.ListN.{drop_of_length-le}
use Rattle.std.proofs.Math.Seq.{get_or-append_seam, take-add}
use Rattle.std.proofs.lemmas.Bool.{cases_eq, cases_lt}
use Rattle.std.proofs.lemmas.List.{drop-append-le, get_or_append_left, get_or_default, get_or-drop, get_or-map, get_or-set_other, get_or-set_same, get_or-take, length-append, length-drop, length-map, length-set, length-take, length-take-le, map-append, take-append-drop, take-append-le, take-take, take_all, take_at}
use Rattle.std.proofs.lemmas.List.Sums.{sum_by-append, sum_by-cons, sum_by-take-drop}
use Rattle.std.proofs.lemmas.Option.{get_or_from_slice_get, slice_get_within}
use Rattle.std.proofs.lemmas.Simd.{bit_mask_l, mask_l-lt, ones-mask_l}
use Rattle.ox_inscribe.specs.Shelved.{AreWordsOf, rows_of_word}
use Rattle.ox_inscribe.specs.declared.row.InsRow.{InsRow}

pub one_counts : (passes : InsRow → Bool) (row : InsRow) (rows : List InsRow) → count_by passes (row ∷ rows) ≡ cond (passes row) 1 0 + count_by passes rows
one_counts passes row rows = sum_by-cons (λ r. cond (passes r) 1 0) row rows

-- those that pass and those that don't are all
both_kinds : (passes : InsRow → Bool) (rows : List InsRow) → count_by passes rows + count_by (λ row. not (passes row)) rows ≡ length rows
both_kinds passes [] = refl
both_kinds passes (row ∷ rows) = by_test (passes row) (one_counts passes row rows) (one_counts (λ r. not (passes r)) row rows) (both_kinds passes rows) where
  by_test : (passed : Bool) → count_by passes (row ∷ rows) ≡ cond passed 1 0 + count_by passes rows → count_by (λ r. not (passes r)) (row ∷ rows) ≡ cond (not passed) 1 0 + count_by (λ r. not (passes r)) rows
      → count_by passes rows + count_by (λ r. not (passes r)) rows ≡ length rows → count_by passes (row ∷ rows) + count_by (λ r. not (passes r)) (row ∷ rows) ≡ suc (length rows)
  by_test true one other later = omega (arith, one, other, later)
  by_test false one other later = omega (arith, one, other, later)

pub both : (passes : InsRow → Bool) (n : ℕ) (rows : List InsRow) → n ≤ length rows → count_by passes (take n rows) + count_by (λ row. not (passes row)) (take n rows) ≡ n
both passes n rows within = let all = both_kinds passes (take n rows) in let long = length-take n rows in omega (arith, all, long)

-- ---- bits of a word

bits_behind : (front back : List Bool) → mask_l (front ++ back) ≡ mask_l back * 2 ^ length front + mask_l front
bits_behind [] back = omega arith
bits_behind (bit ∷ front) back =
    let later = bits_behind front back in
    let twice = ap (λ (n : ℕ). mask_l back * n) (two-pow-succ (length front)) ∙ mul-add (mask_l back) (2 ^ length front) (2 ^ length front) in
    omega (arith, later, twice)

bits_in_front : (front back : List Bool) → mask_l (front ++ back) % 2 ^ length front ≡ mask_l front
bits_in_front front back = ap (λ (n : ℕ). n % 2 ^ length front) (bits_behind front back) ∙ low (mask_l back) (length front) (mask_l-lt front)

-- one bit more, which fits beside so many
one_bit : (bit : Bool) (n : ℕ) → n < 64 → cond bit 1 0 * 2 ^ n % 2 ^ 64 ≡ cond bit 1 0 * 2 ^ n
one_bit true n less = mod-eq_of_lt (let fits = pow-lt {i = n} {j = 64} less in omega (arith, fits))
one_bit false n less = mod-eq_of_lt (omega arith)

alone_bit : (bit : Bool) → mask_l (bit ∷ []) ≡ cond bit 1 0
alone_bit true = refl
alone_bit false = refl

bit_behind : (bits : List Bool) (bit : Bool) → length bits < 64 → bit_or (mask_l bits) (cond bit 1 0 * 2 ^ length bits % 2 ^ 64) ≡ mask_l (bits ++ bit ∷ [])
bit_behind bits bit less =
    ap (λ (n : ℕ). bit_or (mask_l bits) n) (one_bit bit (length bits) less)
    ∙ or_shifted_r (cond bit 1 0) (length bits) (mask_l bits) (mask_l-lt bits)
    ∙ sym (bits_behind bits (bit ∷ []) ∙ ap (λ (n : ℕ). n * 2 ^ length bits + mask_l bits) (alone_bit bit))

-- ---- the rows that a word tells of, as one more comes

same_rows : (rows : List InsRow) (row : InsRow) (n : ℕ) → n * 64 + 64 ≤ length rows → rows_of_word (rows ++ row ∷ []) n ≡ rows_of_word rows n
same_rows rows row n full =
    ap (take 64) (drop-append-le (n * 64) rows (row ∷ []) (omega (arith, full)))
    ∙ take-append-le 64 (drop (n * 64) rows) (row ∷ []) (omega (arith, full, length-drop (n * 64) rows))

rest_of : (rows : List InsRow) (n : ℕ) → length rows ≤ n * 64 + 64 → rows_of_word rows n ≡ drop (n * 64) rows
rest_of rows n short = take_all 64 (drop (n * 64) rows) (omega (arith, short, length-drop (n * 64) rows))

one_row_more : (rows : List InsRow) (row : InsRow) (n : ℕ) → n * 64 ≤ length rows → length rows < n * 64 + 64 → rows_of_word (rows ++ row ∷ []) n ≡ rows_of_word rows n ++ row ∷ []
one_row_more rows row n begun short =
    rest_of (rows ++ row ∷ []) n (omega (arith, short, length-append rows (row ∷ [])))
    ∙ drop-append-le (n * 64) rows (row ∷ []) begun
    ∙ ap (λ (front : List InsRow). front ++ row ∷ []) (sym (rest_of rows n (omega (arith, short))))

module _ (passes : InsRow → Bool) where
  how_long : (rows : List InsRow) (n : ℕ) → length rows ≤ n * 64 + 64 → length (map passes (rows_of_word rows n)) ≡ length rows - n * 64
  how_long rows n short = length-map (rows_of_word rows n) passes ∙ ap (λ (part : List InsRow). length part) (rest_of rows n short) ∙ length-drop (n * 64) rows

  one_bit_more : (rows : List InsRow) (row : InsRow) (n : ℕ) → n * 64 ≤ length rows → length rows < n * 64 + 64
      → map passes (rows_of_word (rows ++ row ∷ []) n) ≡ map passes (rows_of_word rows n) ++ passes row ∷ []
  one_bit_more rows row n begun short = ap (map passes) (one_row_more rows row n begun short) ∙ map-append passes (rows_of_word rows n) (row ∷ [])

  same_bits : (rows : List InsRow) (row : InsRow) (n : ℕ) → n * 64 + 64 ≤ length rows → mask_l (map passes (rows_of_word (rows ++ row ∷ []) n)) ≡ mask_l (map passes (rows_of_word rows n))
  same_bits rows row n full = ap (λ (part : List InsRow). mask_l (map passes part)) (same_rows rows row n full)

  same_count : (rows : List InsRow) (row : InsRow) (n : ℕ) → n * 64 ≤ length rows → count_by passes (take (n * 64) (rows ++ row ∷ [])) ≡ count_by passes (take (n * 64) rows)
  same_count rows row n begun = ap (count_by passes) (take-append-le (n * 64) rows (row ∷ []) begun)

  -- a word tells of these rows, and one behind so many words of so many more
  changed_word : (rows rest : List InsRow) (words counts : List ℕ) (n changed : ℕ) → AreWordsOf passes rows words counts → n < length words → (length rest + 63) / 64 ≡ (length rows + 63) / 64
      → changed ≡ mask_l (map passes (rows_of_word rest n))
      → ((k : ℕ) → k < n → mask_l (map passes (rows_of_word rest k)) ≡ mask_l (map passes (rows_of_word rows k)))
      → ((k : ℕ) → k < length words → count_by passes (take (k * 64) rest) ≡ count_by passes (take (k * 64) rows))
      → length words ≡ n + 1
      → AreWordsOf passes rest (set words n changed) counts
  changed_word rows rest words counts n changed are within even is bits before last = record {
    enough = length-set words n changed ∙ are.enough ∙ sym even;
    each = are.each ∙ sym (length-set words n changed);
    bits = λ k less. by_word k (omega (arith, less, length-set words n changed)) (cases_eq k n);
    before = λ k less. let there : k < length words = omega (arith, less, length-set words n changed) in are.before k there ∙ sym (before k there);
  } where
    lesser : (k : ℕ) → k < length words → (k ≡ n → ⊥) → (k < n) ⊎ (n ≤ k) → k < n
    lesser k there other (inl less) = less
    lesser k there other (inr above) = absurd (other (omega (arith, above, there, last)))

    by_word : (k : ℕ) → k < length words → (k ≡ n) ⊎ (k ≡ n → ⊥) → get_or (set words n changed) k 0 ≡ mask_l (map passes (rows_of_word rest k))
    by_word k there (inl same) =
        ap (λ (m : ℕ). get_or (set words n changed) m 0) same ∙ get_or-set_same words n changed 0 within ∙ is ∙ ap (λ (m : ℕ). mask_l (map passes (rows_of_word rest m))) (sym same)
    by_word k there (inr other) =
        get_or-set_other words n k changed 0 other ∙ are.bits k there ∙ sym (bits k (lesser k there other (cases_lt k n)))

  -- ---- a row comes

  pub bit_added : (rows : List InsRow) (row : InsRow) (words counts : List ℕ) (n r bit word : ℕ) → AreWordsOf passes rows words counts → length rows ≡ n * 64 + r → r < 64 → n < length words → bit ≡ cond (passes row) 1 0 → word ≡ get_or words n word
      → AreWordsOf passes (rows ++ row ∷ []) (set words n (bit_or word (bit * 2 ^ r % 2 ^ 64))) counts
  bit_added rows row words counts n r bit word are long small within said there =
      let more = length-append rows (row ∷ []) in
      let enough = are.enough in
      let whole : word ≡ mask_l (map passes (rows_of_word rows n)) = there ∙ get_or_default words n word 0 within ∙ are.bits n within in
      let wide : length (map passes (rows_of_word rows n)) ≡ r = how_long rows n (omega (arith, long, small)) ∙ omega (arith, long) in
      changed_word rows (rows ++ row ∷ []) words counts n (bit_or word (bit * 2 ^ r % 2 ^ 64)) are within (omega (arith, long, small, more, enough, within))
      (ap₂ (λ (w b : ℕ). bit_or w (b * 2 ^ r % 2 ^ 64)) whole said
      ∙ ap (λ (m : ℕ). bit_or (mask_l (map passes (rows_of_word rows n))) (cond (passes row) 1 0 * 2 ^ m % 2 ^ 64)) (sym wide)
      ∙ bit_behind (map passes (rows_of_word rows n)) (passes row) (omega (arith, wide, small))
      ∙ sym (ap mask_l (one_bit_more rows row n (omega (arith, long)) (omega (arith, long, small)))))
      (λ k less. same_bits rows row k (omega (arith, less, long)))
      (λ k less. same_count rows row k (omega (arith, less, long, enough, small)))
      (omega (arith, long, small, enough, within))

  pub word_added : (rows : List InsRow) (row : InsRow) (words counts words' counts' : List ℕ) (n r bit count : ℕ) → AreWordsOf passes rows words counts → length rows ≡ n * 64 + r → r < 64 → length words ≤ n → bit ≡ cond (passes row) 1 0 → count ≡ count_by passes rows
      → words' ≡ words ++ bit ∷ [] → counts' ≡ counts ++ count ∷ [] → AreWordsOf passes (rows ++ row ∷ []) words' counts'
  word_added rows row words counts words' counts' n r bit count are long small past said counted is is' = record {
    enough = now ∙ omega (arith, more, full, last);
    each = now' ∙ sym now;
    bits = λ k less. ap (λ (l : List ℕ). get_or l k 0) is ∙ bits_at k (omega (arith, less, now)) (cases_lt k (length words));
    before = λ k less. ap (λ (l : List ℕ). get_or l k 0) is' ∙ before_at k (omega (arith, less, now)) (cases_lt k (length words));
  } where
    more : length (rows ++ row ∷ []) ≡ length rows + 1
    more = length-append rows (row ∷ [])

    last : length words ≡ n
    last = let enough = are.enough in omega (arith, enough, long, small, past)

    full : length rows ≡ n * 64
    full = let enough = are.enough in omega (arith, enough, long, small, past)

    now : length words' ≡ length words + 1
    now = ap (λ (l : List ℕ). length l) is ∙ length-append words (bit ∷ [])

    now' : length counts' ≡ length words + 1
    now' = ap (λ (l : List ℕ). length l) is' ∙ length-append counts (count ∷ []) ∙ ap (λ (m : ℕ). m + 1) are.each

    alone : (k : ℕ) → length rows ≡ k * 64 → rows_of_word (rows ++ row ∷ []) k ≡ row ∷ []
    alone k here =
        one_row_more rows row k (omega (arith, here)) (omega (arith, here))
        ∙ ap (λ (front : List InsRow). front ++ row ∷ []) (rest_of rows k (omega (arith, here)) ∙ drop_of_length-le rows {i = k * 64} (omega (arith, here)))

    bits_at : (k : ℕ) → k ≤ length words → (k < length words) ⊎ (length words ≤ k) → get_or (words ++ bit ∷ []) k 0 ≡ mask_l (map passes (rows_of_word (rows ++ row ∷ []) k))
    bits_at k within (inl less) =
        get_or_append_left words (bit ∷ []) 0 k less ∙ are.bits k less ∙ sym (same_bits rows row k (omega (arith, less, last, full)))
    bits_at k within (inr end) =
        let here : k ≡ length words = omega (arith, within, end) in
        ap (λ (m : ℕ). get_or (words ++ bit ∷ []) m 0) here ∙ get_or-append_seam words bit [] 0 ∙ said ∙ sym (alone_bit (passes row))
        ∙ sym (ap (λ (part : List InsRow). mask_l (map passes part)) (alone k (omega (arith, here, last, full))))

    before_at : (k : ℕ) → k ≤ length words → (k < length words) ⊎ (length words ≤ k) → get_or (counts ++ count ∷ []) k 0 ≡ count_by passes (take (k * 64) (rows ++ row ∷ []))
    before_at k within (inl less) =
        let each = are.each in
        get_or_append_left counts (count ∷ []) 0 k (omega (arith, less, each)) ∙ are.before k less ∙ sym (same_count rows row k (omega (arith, less, last, full)))
    before_at k within (inr end) =
        let each = are.each in
        let here : k ≡ length counts = omega (arith, within, end, each) in
        ap (λ (m : ℕ). get_or (counts ++ count ∷ []) m 0) here ∙ get_or-append_seam counts count [] 0 ∙ counted
        ∙ ap (count_by passes) (sym (take_at rows (row ∷ []) (k * 64) (omega (arith, here, each, last, full))))

  -- ---- the last row goes

  pub bit_dropped : (rows : List InsRow) (row : InsRow) (words counts : List ℕ) (n r word changed : ℕ) → AreWordsOf passes (rows ++ row ∷ []) words counts → length rows ≡ n * 64 + r → r < 64 → 0 < r → n < length words → word ≡ get_or words n word → changed ≡ word % 2 ^ r
      → AreWordsOf passes rows (set words n changed) counts
  bit_dropped rows row words counts n r word changed are long small some within there is =
      let more = length-append rows (row ∷ []) in
      let enough = are.enough in
      let bits = map passes (rows_of_word rows n) in
      let wide : length bits ≡ r = how_long rows n (omega (arith, long, small)) ∙ omega (arith, long) in
      changed_word (rows ++ row ∷ []) rows words counts n changed are within (omega (arith, long, small, some, more))
      (is ∙ ap₂ (λ (w m : ℕ). w % 2 ^ m) (there ∙ get_or_default words n word 0 within ∙ are.bits n within ∙ ap mask_l (one_bit_more rows row n (omega (arith, long)) (omega (arith, long, small)))) (sym wide)
      ∙ bits_in_front bits (passes row ∷ []))
      (λ k less. sym (same_bits rows row k (omega (arith, less, long))))
      (λ k less. sym (same_count rows row k (omega (arith, less, long, enough, more, small))))
      (omega (arith, long, small, enough, more, within))

  pub word_dropped : (rows : List InsRow) (row : InsRow) (words counts words' counts' : List ℕ) (n : ℕ) → AreWordsOf passes (rows ++ row ∷ []) words counts → length rows ≡ n * 64 → words' ≡ take n words → counts' ≡ take n counts → AreWordsOf passes rows words' counts'
  word_dropped rows row words counts words' counts' n are full is is' = record {
    enough = now ∙ omega (arith, full);
    each = now' ∙ sym now;
    bits = λ k less. let there : k < n = omega (arith, less, now) in
        ap (λ (l : List ℕ). get_or l k 0) is ∙ get_or-take n words k 0 there ∙ are.bits k (omega (arith, there, last)) ∙ same_bits rows row k (omega (arith, there, full));
    before = λ k less. let there : k < n = omega (arith, less, now) in
        ap (λ (l : List ℕ). get_or l k 0) is' ∙ get_or-take n counts k 0 there ∙ are.before k (omega (arith, there, last)) ∙ same_count rows row k (omega (arith, there, full));
  } where
    last : length words ≡ n + 1
    last = let enough = are.enough in let more = length-append rows (row ∷ []) in omega (arith, enough, more, full)

    now : length words' ≡ n
    now = ap (λ (l : List ℕ). length l) is ∙ length-take-le n words (omega (arith, last))

    now' : length counts' ≡ n
    now' = let each = are.each in ap (λ (l : List ℕ). length l) is' ∙ length-take-le n counts (omega (arith, last, each))

  -- ---- what is read

  -- the rows of the words before, and the first of a word's own
  split_count : (rows : List InsRow) (n r : ℕ) → r ≤ 64 → count_by passes (take (n * 64) rows) + count_by passes (take r (rows_of_word rows n)) ≡ count_by passes (take (n * 64 + r) rows)
  split_count rows n r small =
      let part = take-take r 64 (drop (n * 64) rows) (omega (arith, small)) in
      sym (ap (count_by passes) (take-add (n * 64) r rows) ∙ sum_by-append (λ row. cond (passes row) 1 0) (take (n * 64) rows) (take r (drop (n * 64) rows))
      ∙ ap (λ (front : List InsRow). count_by passes (take (n * 64) rows) + count_by passes front) (sym part))

  pub counted : (rows : List InsRow) (words counts : List ℕ) (n r word count : ℕ) → AreWordsOf passes rows words counts → n * 64 + r < length rows → r < 64 → word ≡ get_or words n word → count ≡ get_or counts n count
      → count + count_ones (word % 2 ^ r) ≡ count_by passes (take (n * 64 + r) rows)
  counted rows words counts n r word count are within small there there' =
      let enough = are.enough in
      let each = are.each in
      let less : n < length words = omega (arith, enough, within) in
      let part = rows_of_word rows n in
      let long : r ≤ length part = omega (arith, within, small, length-take 64 (drop (n * 64) rows), length-drop (n * 64) rows) in
      let front : map passes part ≡ map passes (take r part) ++ map passes (drop r part) = ap (map passes) (sym (take-append-drop r part)) ∙ map-append passes (take r part) (drop r part) in
      let wide : r ≡ length (map passes (take r part)) = sym (length-map (take r part) passes ∙ length-take-le r part long) in
      let bits : word % 2 ^ r ≡ mask_l (map passes (take r part)) =
      ap₂ (λ (w m : ℕ). w % 2 ^ m) (there ∙ get_or_default words n word 0 less ∙ are.bits n less ∙ ap mask_l front) wide ∙ bits_in_front (map passes (take r part)) (map passes (drop r part)) in
      ap₂ (λ (a b : ℕ). a + b) (there' ∙ get_or_default counts n count 0 (omega (arith, less, each)) ∙ are.before n less) (ap count_ones bits ∙ ones-mask_l passes (take r part))
      ∙ split_count rows n r (omega (arith, small))

  pub counted_all : (rows : List InsRow) (words counts : List ℕ) (word count : ℕ) → AreWordsOf passes rows words counts → slice_get words (length words - 1) ≡ Some word → slice_get counts (length counts - 1) ≡ Some count
      → count + count_ones word ≡ count_by passes rows
  counted_all rows words counts word count are last last' =
      let enough = are.enough in
      let each = are.each in
      let n = length words - 1 in
      let less : n < length words = slice_get_within words n word last in
      let last_count : count ≡ get_or counts n 0 = sym (get_or_from_slice_get counts (length counts - 1) count 0 last') ∙ ap (λ (m : ℕ). get_or counts (m - 1) 0) each in
      ap₂ (λ (a b : ℕ). a + b) (last_count ∙ are.before n less)
      (ap count_ones (sym (get_or_from_slice_get words n word 0 last) ∙ are.bits n less) ∙ ones-mask_l passes (rows_of_word rows n))
      ∙ ap (λ (own : List InsRow). count_by passes (take (n * 64) rows) + count_by passes own) (rest_of rows n (omega (arith, enough, less)))
      ∙ sum_by-take-drop (λ row. cond (passes row) 1 0) rows (n * 64)

  pub told : (rows : List InsRow) (row : InsRow) (words counts : List ℕ) (n r word : ℕ) → AreWordsOf passes rows words counts → slice_get rows (n * 64 + r) ≡ Some row → n * 64 + r < length rows → r < 64 → word ≡ get_or words n word
      → (word / 2 ^ r % 2 == 1) ≡ passes row
  told rows row words counts n r word are is within small there =
      let enough = are.enough in
      let less : n < length words = omega (arith, enough, within) in
      let part = rows_of_word rows n in
      let long : r < length part = omega (arith, within, small, length-take 64 (drop (n * 64) rows), length-drop (n * 64) rows) in
      ap (λ (w : ℕ). w / 2 ^ r % 2 == 1) (there ∙ get_or_default words n word 0 less ∙ are.bits n less)
      ∙ ap (λ (b : ℕ). b == 1) (bit_mask_l (map passes part) r)
      ∙ set_bit (get_or (map passes part) r false)
      ∙ get_or-map passes part r row false long
      ∙ ap passes (get_or-take 64 (drop (n * 64) rows) r row small ∙ get_or-drop (n * 64) rows r row ∙ get_or_from_slice_get rows (n * 64 + r) row row is)
    where
      set_bit : (b : Bool) → (cond b 1 0 == 1) ≡ b
      set_bit true = refl
      set_bit false = refl
