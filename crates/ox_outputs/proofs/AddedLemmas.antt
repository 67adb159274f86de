-- The places of slots after one is added, or after that failed.
use Rattle.std.proofs.Common.{◌≡◌, ◌≢◌, ◌∙◌, ℕ, List, sym, ap, subst, Option, Some, None, inl, inr, ⊎_elim}
use Rattle.std.specs.Prelude.{◌⊎◌}
use Rattle.std.proofs.lemmas.Bool.{cases_eq}
use Rattle.ox_block.specs.declared.block.OutPoint.{OutPoint}
use Rattle.ox_block.specs.Keys.{outpoint_tag}
use Rattle.ox_outputs.specs.declared.entry.Entry.{Entry}
use Rattle.ox_outputs.specs.declared.places.Places.{Places}
use Rattle.ox_outputs.specs.Lists.{is_in}
use Rattle.ox_outputs.specs.Slots.{SlotList, outpoint_at}
use Rattle.ox_outputs.specs.Places.{list_at, other_at, HasPlace, ArePlaced}
use Rattle.ox_outputs.proofs.PlaceLemmas.{AreApart, IsNowhere}

one_outpoint : (a b : OutPoint) → ◌≡◌ {A = Option OutPoint} (Some a) (Some b) → a ≡ b
one_outpoint a b is = cc is

none_there : (a : OutPoint) → ◌≡◌ {A = Option OutPoint} None (Some a) → ⊥
none_there a is = absurd (cc is)

-- a slot is made, and its place is added
pub placed_more : (m n : Places) (s t : SlotList) (place : ℕ) (at : OutPoint) → ArePlaced m s → IsNowhere s at → outpoint_at s place ≡ None → outpoint_at t place ≡ Some at
    → ((p : ℕ) → p ≢ place → outpoint_at t p ≡ outpoint_at s p) → AreApart t → HasPlace n at place
    → ((q : OutPoint) (p : ℕ) → HasPlace m q p → q ≢ at → HasPlace n q p)
    → ((q : OutPoint) (p : ℕ) → other_at n q ≡ Some p → (other_at m q ≡ Some p) ⊎ ((q ≡ at) × (p ≡ place)))
    → ArePlaced n t
placed_more m n s t place at h nowhere free here elsewhere apart added before others = record {
  among = λ q p found. ⊎_elim
      (λ same.
      subst (λ (x : ℕ). HasPlace n q x) (sym same)
      (subst (λ (o : OutPoint). HasPlace n o place) (one_outpoint at q (sym here ∙ ap (outpoint_at t) (sym same) ∙ found)) added))
      (λ other.
      before q p (h.among q p (sym (elsewhere p other) ∙ found)) (λ same. nowhere p (sym (elsewhere p other) ∙ found ∙ ap Some same)))
      (cases_eq p place);
  others = λ q p found. ⊎_elim
      (λ was. elsewhere p (λ same. none_there q (sym free ∙ ap (outpoint_at s) (sym same) ∙ h.others q p was)) ∙ h.others q p was)
      (λ new. ap (outpoint_at t) new.1 ∙ here ∙ ap Some (sym new.0))
      (others q p found);
  apart = apart;
}

-- it was taken back, since there was no memory for its place
pub placed_again : (m n : Places) (s t : SlotList) → ArePlaced m s → ((q : OutPoint) → (list_at n q ≡ list_at m q) × (other_at n q ≡ other_at m q))
    → ((p : ℕ) → outpoint_at t p ≡ outpoint_at s p) → ArePlaced n t
placed_again m n s t h same outpoints = record {
  among = λ q p found. ⊎_elim
      (λ is. inl (ap (λ (l : List Entry). is_in l (outpoint_tag q) p) (same q).0 ∙ is))
      (λ is. inr ((same q).1 ∙ is))
      (h.among q p (sym (outpoints p) ∙ found));
  others = λ q p found. outpoints p ∙ h.others q p (sym (same q).1 ∙ found);
  apart = λ q p r one two. h.apart q p r (sym (outpoints p) ∙ one) (sym (outpoints r) ∙ two);
}
