-- A list of places that is split: each tag leads to its places still.
use Rattle.std.proofs.Common.{◌≡◌, ◌≢◌, ◌∙◌, ℕ, zero, suc, ◌+◌, ◌<◌, true, false, List, [], ◌∷◌, ◌++◌, length, length-set, get_or, slice_set, refl, sym, ap, inl, inr, arith}
use Rattle.std.specs.Prelude.{◌⊎◌}
use Rattle.std.specs.Global.{Vec}
use Rattle.std.proofs.lemmas.Bool.{cases_eq, eq-eqb, ne_eqb}
use Rattle.ox_shards.specs.declared.lines.Lines.{Lines}
use Rattle.ox_shards.specs.Lines.{Splits, line_of, is_last}
use Rattle.ox_shards.proofs.LineLemmas.{leads_below}
use Rattle.ox_outputs.specs.declared.entry.Entry.{Entry}
use Rattle.ox_outputs.specs.Lists.{items_at, led_to, is_in}
use Rattle.ox_outputs.proofs.ListLemmas.{set_here, set_elsewhere, items_there}

-- a list behind the others, and one of the others
at_end : (lists : List (Vec Entry)) (v : Vec Entry) → items_at (lists ++ v ∷ []) (length lists) ≡ v.items
at_end [] v = refl
at_end (l ∷ lists) v = at_end lists v

before_end : (lists : List (Vec Entry)) (v : Vec Entry) (j : ℕ) → j < length lists → items_at (lists ++ v ∷ []) j ≡ items_at lists j
before_end [] v j low = absurd (omega (arith, low))
before_end (l ∷ lists) v zero low = refl
before_end (l ∷ lists) v (suc j) low = before_end lists v j (omega (arith, low))

module _ (old new : Lines) (from : ℕ) (splits : Splits old new from) (lists : List (Vec Entry)) (many : length lists ≡ old.count) (x kept last : Vec Entry) (there : x ≡ get_or lists from x)
    (stay : (tag place : ℕ) → is_last new tag ≡ false → is_in kept.items tag place ≡ is_in x.items tag place)
    (go : (tag place : ℕ) → is_last new tag ≡ true → is_in x.items tag place ≡ true → is_in last.items tag place ≡ true) where
  abbrev parted : List (Vec Entry)
  parted = slice_set lists from kept ++ last ∷ []

  -- the list that is split was there
  was : items_at lists from ≡ x.items
  was = items_there lists from x (omega (arith, many, splits.among)) there

  module _ (tag place : ℕ) (is : is_in (led_to lists old tag) tag place ≡ true) where
    -- the tag leads to the new list
    moved : line_of old tag ≡ from → line_of new tag ≡ old.count → is_in (led_to parted new tag) tag place ≡ true
    moved led leads =
        ap (λ (l : List Entry). is_in l tag place)
        (ap (items_at parted) (leads ∙ sym many ∙ sym (length-set lists from kept)) ∙ at_end (slice_set lists from kept) last)
        ∙ go tag place (eq-eqb (line_of new tag + 1) new.count (omega (arith, leads, splits.more)))
        (ap (λ (l : List Entry). is_in l tag place) (sym was ∙ ap (items_at lists) (sym led)) ∙ is)

    -- it leads where it led
    stayed : line_of new tag ≡ line_of old tag → (line_of old tag ≡ from) ⊎ (line_of old tag ≢ from) → is_in (items_at (slice_set lists from kept) (line_of old tag)) tag place ≡ true
    stayed leads (inl led) =
        ap (λ (l : List Entry). is_in l tag place) (ap (items_at (slice_set lists from kept)) led ∙ set_here lists from kept (omega (arith, many, splits.among)))
        ∙ stay tag place (ne_eqb (line_of new tag + 1) new.count (λ same. omega (arith, same, leads, led, splits.more, splits.among)))
        ∙ ap (λ (l : List Entry). is_in l tag place) (sym was ∙ ap (items_at lists) (sym led)) ∙ is
    stayed leads (inr other) = ap (λ (l : List Entry). is_in l tag place) (set_elsewhere lists from (line_of old tag) kept (λ same. other (sym same))) ∙ is

    pub led_still : is_in (led_to parted new tag) tag place ≡ true
    led_still = by (splits.leads tag) where
      by : (line_of new tag ≡ line_of old tag) ⊎ ((line_of old tag ≡ from) × (line_of new tag ≡ old.count)) → is_in (led_to parted new tag) tag place ≡ true
      by (inl leads) =
          ap (λ (l : List Entry). is_in l tag place)
          (ap (items_at parted) leads ∙ before_end (slice_set lists from kept) last (line_of old tag) (omega (arith, leads_below old tag, many, length-set lists from kept)))
          ∙ stayed leads (cases_eq (line_of old tag) from)
      by (inr goes) = moved goes.0 goes.1
