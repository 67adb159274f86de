-- Pages leave no entry out.
use Rattle.std.proofs.Common.{◌≡◌, ℕ, zero, suc, ◌+◌, ◌-◌, ◌*◌, ◌/◌, ◌%◌, ◌<◌, min, lt-ltb, ltb-true, List, [], ◌∷◌, length, take, drop, refl, ap, ◌∙◌, arith}
use Rattle.std.specs.Prelude.{slice_get}
use Rattle.std.proofs.lemmas.List.{length-take, length-drop}
use Rattle.ox_replies.specs.Pages.{ArePages}

module _ {A : Type 0} where
  get_dropped : (m : ℕ) (xs : List A) (i : ℕ) → slice_get (drop m xs) i ≡ slice_get xs (m + i)
  get_dropped zero xs i = let same : i ≡ 0 + i = omega arith in ap (slice_get xs) same
  get_dropped (suc m) [] i = refl
  get_dropped (suc m) (x ∷ xs) i = let same : suc (m + i) ≡ suc m + i = omega arith in get_dropped m xs i ∙ ap (slice_get (x ∷ xs)) same

  get_taken : (n : ℕ) (xs : List A) (i : ℕ) → i < n → slice_get (take n xs) i ≡ slice_get xs i
  get_taken zero xs i less = absurd (omega arith)
  get_taken (suc n) [] i less = refl
  get_taken (suc n) (x ∷ xs) zero less = refl
  get_taken (suc n) (x ∷ xs) (suc i) less = get_taken n xs i (omega arith)

  size : (rows : List A) (page : ℕ) → length (take 100 (drop (100 * page) rows)) ≡ min 100 (length rows - 100 * page)
  size rows page = length-take 100 (drop (100 * page) rows) ∙ ap (min 100) (length-drop (100 * page) rows)

  pub all_held : (rows : List A) → ArePages rows
  all_held rows = record {
    held = λ n.
        let place : n % 100 < 100 = omega arith in
        let whole : 100 * (n / 100) + n % 100 ≡ n = omega arith in
        get_taken 100 (drop (100 * (n / 100)) rows) (n % 100) place ∙ get_dropped (100 * (n / 100)) rows (n % 100) ∙ ap (slice_get rows) whole;
    few = λ page. omega (arith, size rows page);
    more = λ page. (
      λ more. let past : 100 * page + 100 < length rows = ltb-true (100 * page + 100) (length rows) more in omega (arith, size rows (page + 1), past),
      λ some. lt-ltb (100 * page + 100) (length rows) (omega (arith, size rows (page + 1), some)),
    );
  }
