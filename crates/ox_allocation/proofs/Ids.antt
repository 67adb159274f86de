-- The order of runes' ids is total, and only equal ids tie in it.
use Rattle.std.proofs.Common.{◌≡◌, refl, ap, true, false, Ordering}
use Rattle.std.specs.declared.cmp.Ordering.TheVariants.{Less, Equal, Greater}
use Rattle.std.specs.Ordering.{ordering_then, is_eq}
use Rattle.std.specs.Cmp.{IsTotalOrder, IsEquivalence}
use Rattle.std.specs.FinMap.{IsAntisymmetric, nat_cmp-IsAntisymmetric}
use Rattle.std.proofs.lemmas.Cmp.{then_total, on_total, nat_cmp_total, eq_by_cmp_equiv}
use Rattle.ox_runestone.specs.declared.stone.RuneId.{RuneId}
use Rattle.ox_allocation.specs.Balances.{id_cmp, is_same}

pub ids_total : IsTotalOrder id_cmp
ids_total = then_total (on_total (λ (id : RuneId). id.block) nat_cmp_total) (on_total (λ (id : RuneId). id.tx) nat_cmp_total)

left_tie : (r s : Ordering) → ordering_then r s ≡ Equal → r ≡ Equal
left_tie Less s is = is
left_tie Equal s is = refl
left_tie Greater s is = is

right_tie : (r s : Ordering) → ordering_then r s ≡ Equal → s ≡ Equal
right_tie Less s is = absurd (cc is)
right_tie Equal s is = is
right_tie Greater s is = absurd (cc is)

pub ids_exact : IsAntisymmetric id_cmp
ids_exact a b tie =
    let block : a.block ≡ b.block = nat_cmp-IsAntisymmetric a.block b.block (left_tie _ _ tie) in
    let tx : a.tx ≡ b.tx = nat_cmp-IsAntisymmetric a.tx b.tx (right_tie _ _ tie) in
    λ i. record { block = block i; tx = tx i }

tie_from : (r : Ordering) → is_eq r ≡ true → r ≡ Equal
tie_from Less is = absurd (cc is)
tie_from Equal is = refl
tie_from Greater is = absurd (cc is)

-- the test says that ids are equal
pub same_id : (a b : RuneId) → is_same a b ≡ true → a ≡ b
same_id a b is = ids_exact a b (tie_from _ is)

pub ids_equiv : IsEquivalence is_same
ids_equiv = eq_by_cmp_equiv ids_total

pub same_itself : (a : RuneId) → is_same a a ≡ true
same_itself a = ids_equiv.refl a

pub same_turned : (a b : RuneId) → is_same a b ≡ is_same b a
same_turned a b = ids_equiv.symm a b

-- an id that is above another isn't the same
pub above_differs : (a b : RuneId) → id_cmp a b ≡ Greater → is_same a b ≡ false
above_differs a b is = ap is_eq is

pub below_differs : (a b : RuneId) → id_cmp a b ≡ Less → is_same a b ≡ false
below_differs a b is = ap is_eq is
