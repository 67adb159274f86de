-- When two files are empty.
use Rattle.std.proofs.Common.{◌≡◌, ◌≢◌, ◌∙◌, ℕ, List, [], ◌∷◌, length, refl, sym, ap, subst, arith}
use Rattle.std.proofs.lemmas.Bool.{eqb-true}
use Rattle.std.specs.Prelude.{◌==◌, ◌↔◌, IsTrue}
use Rattle.ox_outside.specs.Files.{Files}
use Rattle.ox_store.specs.Make.{no_files}

none_there : (l : List ℕ) → length l ≡ 0 → l ≡ []
none_there [] is = refl
none_there (x ∷ l) is = absurd (omega (arith, is))

-- where A is empty, both are exactly where B is
pub both_empty : (files mid : Files) (a b : ℕ) → mid ≡ files → a ≡ length files.a → a ≡ 0 → b ≡ length mid.b → IsTrue (b == 0) ↔ (files ≡ no_files)
both_empty files mid a b same long none long_b =
    let here : b ≡ length files.b = long_b ∙ ap (λ (f : Files). length f.b) same in (
      λ is. λ i. record { a = none_there files.a (sym long ∙ none) i; b = none_there files.b (sym here ∙ eqb-true b 0 is) i },
      λ is. subst (λ (n : ℕ). IsTrue (n == 0)) (sym (here ∙ ap (λ (f : Files). length f.b) is)) refl,
    )

-- where it isn't, they aren't both
pub some_there : (files : Files) (a : ℕ) → a ≡ length files.a → a ≢ 0 → files ≡ no_files → ⊥
some_there files a long some is = some (long ∙ ap (λ (f : Files). length f.a) is)
