-- A table that is made of rows by rising keys has just these.
use Rattle.std.proofs.Common.{◌≡◌, ℕ, zero, suc, cond, T, List, [], ◌∷◌, Ok, Option, Some, Ordering, refl, sym, ap, subst, ◌∙◌}
use Rattle.std.specs.Prelude.{IsTrue}
use Rattle.std.specs.BTreeMap.{BTreeMap, IsFromIterResult, is_at}
use Rattle.std.specs.Map.{keys_of, lookup}
use Rattle.std.specs.Ordering.{eq_by_cmp}
use Rattle.std.specs.FinMap.{IsAntisymmetric}
use Rattle.std.specs.FinMap.Entries.{find, is_sorted, same_entries}
use Rattle.std.specs.Cmp.{IsTotalOrder}
use Rattle.std.proofs.lemmas.Map.Keys.{IsDistinct-from_sorted}
use Rattle.std.proofs.lemmas.Map.Made.{update_all_none}
use Rattle.std.proofs.lemmas.Cmp.{eq_by_cmp_equiv}
use Rattle.ox_bytes.specs.Reading.{◌>>=◌, Reader, unless}
use Rattle.ox_bytes.proofs.Laws.{bind_ok, ok_is}
use Rattle.ox_rows.specs.Reading.{falls, rising_at}
use Rattle.ox_rows.proofs.InOrder.{unless_passes}
use Rattle.ox_rows.proofs.RisingLaws.{RisesFrom, keys_rise, sorted_by_keys}

-- the keys of what was read rise
module _ {K X : Type 0} (cmp : K → K → Ordering) (rk : Reader K) (rx : Reader X) where
  pub rises_as_read : (n : ℕ) (last : Option K) (bytes : List ℕ) (z : List (K × X) × List ℕ) → rising_at cmp rk rx last n bytes ≡ Ok z → RisesFrom cmp last z.0
  unfolding rising_at
  rises_as_read zero last bytes z e = subst (λ (y : List (K × X) × List ℕ). RisesFrom cmp last y.0) (ok_is {F = ℕ} ([], bytes) z e) tt
  rises_as_read (suc n) last bytes z e =
      let a = bind_ok (unless (falls cmp last) rk bytes) (λ at. rx at.1 >>= λ row. rising_at cmp rk rx (Some at.0) n row.1 >>= λ rows. Ok ((at.0, row.0) ∷ rows.0, rows.1)) z e in
      let b = bind_ok (rx a.0.1) (λ row. rising_at cmp rk rx (Some a.0.0) n row.1 >>= λ rows. Ok ((a.0.0, row.0) ∷ rows.0, rows.1)) z a.2 in
      let c = bind_ok (rising_at cmp rk rx (Some a.0.0) n b.0.1) (λ rows. Ok ((a.0.0, b.0.0) ∷ rows.0, rows.1)) z b.2 in
      subst (λ (y : List (K × X) × List ℕ). RisesFrom cmp last y.0) (ok_is {F = ℕ} ((a.0.0, b.0.0) ∷ c.0.0, c.0.1) z c.2)
      (unless_passes (falls cmp last) rk bytes a.0 a.1, rises_as_read n (Some a.0.0) b.0.1 c.0 c.1)

module _ {K X : Type 0} {R : K → K → Ordering} (o : IsTotalOrder R) (same : IsAntisymmetric R) where
  found : (q : K) (es : List (K × X)) → find R q es ≡ lookup (is_at (R q)) es
  found q [] = refl
  found q (e ∷ es) = ap (cond (eq_by_cmp R q e.0) (Some e.1)) (found q es)

  pub has_rows : (rows : List (K × X)) (table : BTreeMap K X) → IsTrue (is_sorted R rows) → IsFromIterResult R rows table → table.entries ≡ rows
  has_rows rows table rises made =
      let distinct = IsDistinct-from_sorted R (keys_of rows) (keys_rise o rows rises) in
      same_entries R o same table.entries rows (subst T (sym (sorted_by_keys o table.entries made.1)) tt) (subst T (sym rises) tt)
      (λ q. found q table.entries ∙ made.0 q ∙ update_all_none (eq_by_cmp_equiv o) (eq_by_cmp R) (λ x y. refl) rows q distinct ∙ sym (found q rows))
