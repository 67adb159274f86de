-- The words of a subcommand are those of no other, since their first words differ.
use Rattle.std.proofs.Common.{◌≡◌, ◌∙◌, ℕ, false, List, ◌∷◌, codes, inl, inr, sym, true≢false}
use Rattle.std.specs.Prelude.{bytes_eq}
use Rattle.std.proofs.lemmas.Slice.Eq.{bytes_eq-Decides}
use Rattle.ox_app.specs.Subcommands.{IsOpening, IsReading, IsUnknown}

-- two words that differ aren't the same
pub apart : (x y : List ℕ) → bytes_eq x y ≡ false → x ≡ y → ⊥
apart x y differ is = true≢false (sym ((bytes_eq-Decides x y).1 is) ∙ differ)

first_same : (x y : List ℕ) (a b : List (List ℕ)) → x ∷ a ≡ y ∷ b → x ≡ y
first_same x y a b is = cc is

-- words that begin so don't begin otherwise
pub other_words : {words : List (List ℕ)} {x y : List ℕ} {a b : List (List ℕ)} → words ≡ x ∷ a → words ≡ y ∷ b → bytes_eq x y ≡ false → ⊥
other_words {words} {x} {y} {a} {b} is other differ = apart x y differ (first_same x y a b (sym is ∙ other))

-- words of a run that opens no files
pub no_opening : {words : List (List ℕ)} {x : List ℕ} {a : List (List ℕ)} → words ≡ x ∷ a
    → (bytes_eq x (codes "apply") ≡ false) × (bytes_eq x (codes "query") ≡ false) × (bytes_eq x (codes "serve") ≡ false) × (bytes_eq x (codes "lead") ≡ false) × (bytes_eq x (codes "follow") ≡ false)
    → IsOpening words → ⊥
no_opening is differ (inl apply) = other_words is apply differ.0
no_opening is differ (inr (inl query)) = other_words is query.1 differ.1
no_opening is differ (inr (inr (inl serve))) = other_words is serve.2 differ.2
no_opening is differ (inr (inr (inr (inl lead)))) = other_words is lead differ.3
no_opening is differ (inr (inr (inr (inr follow)))) = other_words is follow differ.4

pub unknown_opens : (words : List (List ℕ)) → IsUnknown words → IsOpening words → ⊥
unknown_opens words unknown (inl apply) = unknown.no_apply apply
unknown_opens words unknown (inr (inl query)) = unknown.no_query query.0 query.1
unknown_opens words unknown (inr (inr (inl serve))) = unknown.no_serve serve.0 serve.1 serve.2
unknown_opens words unknown (inr (inr (inr (inl lead)))) = unknown.no_lead lead
unknown_opens words unknown (inr (inr (inr (inr follow)))) = unknown.no_follow follow

-- words of a run that writes files
pub no_reading : {words : List (List ℕ)} {x : List ℕ} {a : List (List ℕ)} → words ≡ x ∷ a
    → (bytes_eq x (codes "fold") ≡ false) × (bytes_eq x (codes "query") ≡ false) × (bytes_eq x (codes "lead") ≡ false)
    → IsReading words → ⊥
no_reading is differ (inl fold) = other_words is fold.1 differ.0
no_reading is differ (inr (inl query)) = other_words is query.1 differ.1
no_reading is differ (inr (inr lead)) = other_words is lead differ.2
