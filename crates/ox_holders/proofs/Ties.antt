-- When two keys tie.
use Rattle.std.proofs.Common.{◌≡◌, ◌∙◌, ℕ, true, List, refl, ap, subst, Ordering}
use Rattle.std.specs.Ordering.{is_eq, nat_cmp, ordering_then}
use Rattle.std.specs.declared.cmp.Ordering.TheVariants.{Less, Equal, Greater}
use Rattle.std.specs.Cmp.{IsTotalOrder, tied_itself}
use Rattle.std.specs.Cmp.Lexicographic.{slice_cmp, nat_list_cmp_total}
use Rattle.std.proofs.lemmas.Cmp.{then_total, on_total, nat_cmp_total}
use Rattle.std.specs.FinMap.{IsAntisymmetric, nat_cmp-IsAntisymmetric, slice_cmp-IsAntisymmetric}
use Rattle.std.specs.BTreeMap.{is_at}
use Rattle.ox_block.specs.declared.block.OutPoint.{OutPoint}
use Rattle.ox_block.specs.declared.block.Txid.{Txid}
use Rattle.ox_rules.specs.Outputs.{outpoint_cmp}
use Rattle.ox_holders.specs.Keys.{key_cmp, key_of}

pub tied_first : (r s : Ordering) → ordering_then r s ≡ Equal → (r ≡ Equal) × (s ≡ Equal)
tied_first Less s is = absurd (cc is)
tied_first Equal s is = (refl, is)
tied_first Greater s is = absurd (cc is)

pub is_tied : (r : Ordering) → is_eq r ≡ true → r ≡ Equal
is_tied Less is = absurd (cc is)
is_tied Equal is = refl
is_tied Greater is = absurd (cc is)

pub tied : (r : Ordering) → r ≡ Equal → is_eq r ≡ true
tied r e = ap is_eq e

id_of : List ℕ → Txid
id_of bytes = record { 0 = bytes }

at_of : Txid → ℕ → OutPoint
at_of id index = record { txid = id; index = index }

same_outpoint : (a b : OutPoint) → a.txid.0 ≡ b.txid.0 → a.index ≡ b.index → a ≡ b
unfolding id_of at_of
same_outpoint a b id index =
    ap (λ bytes. at_of (id_of bytes) a.index) id ∙ ap (at_of b.txid) index

pub outpoints_exact : IsAntisymmetric outpoint_cmp
outpoints_exact a b is =
    let both = tied_first (slice_cmp nat_cmp a.txid.0 b.txid.0) (nat_cmp a.index b.index) is in
    same_outpoint a b
    (slice_cmp-IsAntisymmetric nat_cmp-IsAntisymmetric a.txid.0 b.txid.0 both.0)
    (nat_cmp-IsAntisymmetric a.index b.index both.1)

pub outpoints_total : IsTotalOrder outpoint_cmp
outpoints_total =
    then_total (on_total (λ (at : OutPoint). at.txid.0) nat_list_cmp_total)
    (on_total (λ (at : OutPoint). at.index) nat_cmp_total)

pub keys_tie : (s t : List ℕ) (a b : OutPoint) → is_at (key_cmp (key_of s a)) (key_of t b) ≡ true → (s ≡ t) × (a ≡ b)
keys_tie s t a b is =
    let both = tied_first (slice_cmp nat_cmp s t) (outpoint_cmp a b) (is_tied _ is) in
    (slice_cmp-IsAntisymmetric nat_cmp-IsAntisymmetric s t both.0, outpoints_exact a b both.1)

pub key_ties : (s : List ℕ) (a : OutPoint) → is_at (key_cmp (key_of s a)) (key_of s a) ≡ true
key_ties s a =
    let first : slice_cmp nat_cmp s s ≡ Equal = tied_itself nat_list_cmp_total s in
    let second : outpoint_cmp a a ≡ Equal = tied_itself outpoints_total a in
    ap (λ r. is_eq (ordering_then r (outpoint_cmp a a))) first ∙ tied (outpoint_cmp a a) second

pub outpoint_ties : (a b : OutPoint) → a ≡ b → is_eq (outpoint_cmp a b) ≡ true
outpoint_ties a b e =
    let P : OutPoint → Type 0 = λ x. is_eq (outpoint_cmp a x) ≡ true in
    subst P e (tied (outpoint_cmp a a) (tied_itself outpoints_total a))
