-- The order of outpoints is total, and only equal outpoints tie in it.
use Rattle.std.proofs.Common.{◌≡◌, refl, Ordering}
use Rattle.std.specs.declared.cmp.Ordering.TheVariants.{Less, Equal, Greater}
use Rattle.std.specs.Ordering.{ordering_then}
use Rattle.std.specs.Cmp.{IsTotalOrder}
use Rattle.std.specs.Cmp.Lexicographic.{nat_list_cmp_total}
use Rattle.std.specs.FinMap.{IsAntisymmetric, nat_cmp-IsAntisymmetric, slice_cmp-IsAntisymmetric}
use Rattle.std.proofs.lemmas.Cmp.{then_total, on_total, nat_cmp_total}
use Rattle.ox_block.specs.declared.block.OutPoint.{OutPoint}
use Rattle.ox_rules.specs.Outputs.{outpoint_cmp}

pub outpoints_total : IsTotalOrder outpoint_cmp
outpoints_total = then_total (on_total (λ (o : OutPoint). o.txid.0) nat_list_cmp_total) (on_total (λ (o : OutPoint). o.index) nat_cmp_total)

left_tie : (r s : Ordering) → ordering_then r s ≡ Equal → r ≡ Equal
left_tie Less s is = is
left_tie Equal s is = refl
left_tie Greater s is = is

right_tie : (r s : Ordering) → ordering_then r s ≡ Equal → s ≡ Equal
right_tie Less s is = absurd (cc is)
right_tie Equal s is = is
right_tie Greater s is = absurd (cc is)

pub outpoints_exact : IsAntisymmetric outpoint_cmp
outpoints_exact a b tie =
    let txid : a.txid.0 ≡ b.txid.0 = slice_cmp-IsAntisymmetric nat_cmp-IsAntisymmetric a.txid.0 b.txid.0 (left_tie _ _ tie) in
    let index : a.index ≡ b.index = nat_cmp-IsAntisymmetric a.index b.index (right_tie _ _ tie) in
    λ i. record { txid = record { 0 = txid i }; index = index i }
