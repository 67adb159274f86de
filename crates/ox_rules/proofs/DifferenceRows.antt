-- Maps of a few rows: one row goes, one comes, one changes, and one stays.
use Rattle.std.proofs.Common.{◌≡◌, ℕ, Bool, true, false, cond, List, [], ◌∷◌, refl, sym, subst, None, Ordering}
use Rattle.std.specs.Prelude.{◌==◌, IsTrue}
use Rattle.std.specs.Ordering.{is_eq, nat_cmp}
use Rattle.std.specs.declared.cmp.Ordering.TheVariants.{Less, Equal, Greater}
use Rattle.std.specs.FinMap.{FinMap, find, from_entries, get-from_entries, is_sorted, nat_cmp-IsAntisymmetric}
use Rattle.std.proofs.lemmas.Bool.Decides.{Decides-eqb}
use Rattle.std.proofs.lemmas.Cmp.{nat_cmp_total}
use Rattle.ox_rules.specs.Differences.{AreGone, Differ, Difference}
use Rattle.ox_rules.proofs.DifferenceLemmas.{differs, has_gone}

abbrev before : List (ℕ × ℕ)
before = (1, 10) ∷ (2, 20) ∷ (3, 30) ∷ []

abbrev after : List (ℕ × ℕ)
after = (2, 20) ∷ (3, 31) ∷ (4, 40) ∷ []

abbrev few : Difference ℕ ℕ
few = record { gone = (1, 10) ∷ (3, 30) ∷ []; came = (3, 31) ∷ (4, 40) ∷ [] }

ties : (r : Ordering) → is_eq r ≡ true → r ≡ Equal
ties Less is = absurd (cc is)
ties Equal is = refl
ties Greater is = absurd (cc is)

-- what holds at a key, and where the key is another one, holds everywhere
by_key : (at k : ℕ) (P : ℕ → Type 0) → P k → (is_eq (nat_cmp at k) ≡ false → P at) → P at
by_key at k P here elsewhere = by_test (is_eq (nat_cmp at k)) refl where
  by_test : (b : Bool) → is_eq (nat_cmp at k) ≡ b → P at
  by_test true is = subst P (sym (nat_cmp-IsAntisymmetric at k (ties (nat_cmp at k) is))) here
  by_test false is = elsewhere is

-- at this key a list has the rows of one list that another hasn't
abbrev HasGone : List (ℕ × ℕ) → List (ℕ × ℕ) → List (ℕ × ℕ) → ℕ → Type 0
HasGone b a gone at =
    find nat_cmp at gone
    ≡ cond (differs (λ x y. x == y) (find nat_cmp at b) (find nat_cmp at a)) (find nat_cmp at b) None

gone_everywhere : (at : ℕ) → HasGone before after few.gone at
gone_everywhere at =
    let P = HasGone before after few.gone in
    by_key at 1 P refl (λ n1. by_key at 2 P refl (λ n2. by_key at 3 P refl (λ n3. rw (n1, n2, n3) refl)))

came_everywhere : (at : ℕ) → HasGone after before few.came at
came_everywhere at =
    let P = HasGone after before few.came in
    by_key at 2 P refl (λ n2. by_key at 3 P refl (λ n3. by_key at 4 P refl (λ n4. rw (n2, n3, n4) refl)))

abbrev map_of : List (ℕ × ℕ) → FinMap nat_cmp ℕ
map_of rows = from_entries rows

are_gone : (b a gone : List (ℕ × ℕ)) → IsTrue (is_sorted nat_cmp gone)
    → ((at : ℕ) → HasGone b a gone at) → AreGone (map_of b) (map_of a) gone
are_gone b a gone rising everywhere = record {
  rising = rising;
  rows = λ at row.
      let went = has_gone nat_cmp_total nat_cmp-IsAntisymmetric (λ x y. x == y) Decides-eqb in
      rw (get-from_entries nat_cmp_total b at, get-from_entries nat_cmp_total a at, everywhere at)
      (went (find nat_cmp at b) (find nat_cmp at a) row);
}

pub few_differ : Differ (map_of before) (map_of after) few
few_differ = record {
  gone = are_gone before after few.gone refl gone_everywhere;
  came = are_gone after before few.came refl came_everywhere;
}
