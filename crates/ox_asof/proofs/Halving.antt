-- The row that a search by halves comes upon is the one that is found.
use Rattle.std.proofs.Common.{◌≡◌, ◌∙◌, true, cond, List, [], ◌∷◌, ◌++◌, refl, sym, ap, Some, Ordering}
use Rattle.std.specs.Cmp.{IsTotalOrder}
use Rattle.std.specs.FinMap.{IsAntisymmetric, find, is_sorted}
use Rattle.std.specs.FinMap.Entries.{below_all}
use Rattle.std.specs.Ordering.{is_eq, is_lt, ordering_reverse}
use Rattle.std.specs.declared.cmp.Ordering.TheVariants.{Less, Equal, Greater}
use Rattle.ox_plain.proofs.DifferenceEnds.{first_true, second_true}

less_is : (r : Ordering) → is_lt r ≡ true → r ≡ Less
less_is Less p = refl
less_is Equal p = absurd (cc p)
less_is Greater p = absurd (cc p)

module _ {K X : Type 0} {R : K → K → Ordering} (o : IsTotalOrder R) (exact : IsAntisymmetric R) where
  below_in : (x : K) (front : List (K × X)) (e : K × X) (rest : List (K × X)) → below_all R x (front ++ e ∷ rest) ≡ true → R x e.0 ≡ Less
  below_in x [] e rest below = less_is (R x e.0) (first_true (is_lt (R x e.0)) (below_all R x rest) below)
  below_in x (f ∷ front) e rest below = below_in x front e rest (second_true (is_lt (R x f.0)) (below_all R x (front ++ e ∷ rest)) below)

  at_middle : (at : K) (front : List (K × X)) (e : K × X) (rest : List (K × X)) → is_sorted R (front ++ e ∷ rest) ≡ true → R e.0 at ≡ Equal → find R at (front ++ e ∷ rest) ≡ Some e.1
  at_middle at [] e rest sorted same =
      let here : R at e.0 ≡ Equal = o.antisymm at e.0 ∙ ap ordering_reverse same in
      ap (λ (r : Ordering). cond (is_eq r) (Some e.1) (find R at rest)) here
  at_middle at (f ∷ front) e rest sorted same =
      let first : R f.0 e.0 ≡ Less = below_in f.0 front e rest (first_true (below_all R f.0 (front ++ e ∷ rest)) (is_sorted R (front ++ e ∷ rest)) sorted) in
      let above : R at f.0 ≡ Greater = o.antisymm at f.0 ∙ ap ordering_reverse (ap (R f.0) (sym (exact e.0 at same)) ∙ first) in
      ap (λ (r : Ordering). cond (is_eq r) (Some f.1) (find R at (front ++ e ∷ rest))) above
      ∙ at_middle at front e rest (second_true (below_all R f.0 (front ++ e ∷ rest)) (is_sorted R (front ++ e ∷ rest)) sorted) same

  pub found_row : (at : K) (left front back rest : List (K × X)) (e : K × X) → left ≡ front ++ back → back ≡ e ∷ rest → is_sorted R left ≡ true → R e.0 at ≡ Equal → find R at left ≡ Some e.1
  found_row at left front back rest e cut first sorted same =
      let whole : left ≡ front ++ e ∷ rest = cut ∙ ap (λ (l : List (K × X)). front ++ l) first in
      ap (find R at) whole ∙ at_middle at front e rest (ap (is_sorted R) (sym whole) ∙ sorted) same
