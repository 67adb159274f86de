-- Offsets of starts from their cell: that they stay below a bound, and what is found by the numbers themselves.
use Rattle.std.proofs.Common.{◌≡◌, ◌∙◌, ℕ, zero, suc, ◌+◌, ◌-◌, ◌<◌, [], ◌∷◌, length, set, take, drop, Option, None, refl, sym, ap, subst, inl, inr, arith}
use Rattle.std.specs.Prelude.{IsSome, All}
use Rattle.std.specs.List.{insert, remove}
use Rattle.std.proofs.lemmas.Bool.{cases_lt}
use Rattle.std.proofs.lemmas.Bool.Decides.{nat_tests}
use Rattle.std.proofs.lemmas.List.Elements.{All-append, All-take, All-drop, All-cons, All-from_get_or}
use Rattle.ox_outputs.specs.Cells.{StartList, start_at, first_at, AreRising, SetsAt, IsLastTo, IsCut, starts_from}
use Rattle.ox_outputs.proofs.CellLemmas.{place_of, none_some}

-- ---- a bound

abbrev pub AreBelow : ℕ → StartList → Type 0
AreBelow bound l = All (λ (x : ℕ × Option ℕ). x.0 < bound) l

-- a start that is found is one of those
pub found_below : (l : StartList) (q bound : ℕ) → AreBelow bound l → IsSome (start_at l q) → q < bound
found_below l q bound low some =
    let p = place_of l q some in
    subst (λ (n : ℕ). n < bound) p.2 (low p.0 (0, None) p.1)

pub below_inserted : (l : StartList) (at k bound : ℕ) (v : Option ℕ) → k < bound → AreBelow bound l → AreBelow bound (insert l at (k, v))
below_inserted l at k bound v lt low =
    let P = λ (x : ℕ × Option ℕ). x.0 < bound in
    All-append P (take at l) ((k, v) ∷ drop at l) (All-take P at l low) (All-cons P (k, v) (drop at l) lt (All-drop P at l low))

pub below_removed : (l : StartList) (at bound : ℕ) → AreBelow bound l → AreBelow bound (remove l at)
below_removed l at bound low =
    let P = λ (x : ℕ × Option ℕ). x.0 < bound in
    All-append P (take at l) (drop (suc at) l) (All-take P at l low) (All-drop P (suc at) l low)

-- ---- the numbers themselves

pub start_from : (base : ℕ) (l : StartList) (q : ℕ) → start_at (starts_from base l) (base + q) ≡ start_at l q
start_from base [] q = refl
start_from base (x ∷ l) q = grind (arith, nat_tests, start_from base l q)

pub none_from : (base : ℕ) (l : StartList) (q : ℕ) → q < base → start_at (starts_from base l) q ≡ None
none_from base [] q lt = refl
none_from base (x ∷ l) q lt = grind (arith, nat_tests, none_from base l q lt)

-- at a number from the base on stands what stands at its offset
pub start_there : (base : ℕ) (l : StartList) (number offset : ℕ) → base + offset ≡ number → start_at (starts_from base l) number ≡ start_at l offset
start_there base l number offset is = ap (start_at (starts_from base l)) (sym is) ∙ start_from base l offset

-- what stands has an offset
pub offset_of : (base : ℕ) (l : StartList) (q : ℕ) → IsSome (start_at (starts_from base l) q) → (offset : ℕ) × (base + offset ≡ q)
offset_of base l q some = elim (cases_lt q base) [
  | inl lt ↦ absurd (none_some _ (none_from base l q lt) some)
  | inr le ↦ (q - base, omega (arith, le))
]

pub from_twice : (base middle : ℕ) (l : StartList) → starts_from base (starts_from middle l) ≡ starts_from (base + middle) l
from_twice base middle [] = refl
from_twice base middle (x ∷ l) =
    let same : base + (middle + x.0) ≡ base + middle + x.0 = omega arith in
    ap (λ (n : ℕ). (n, x.1) ∷ starts_from base (starts_from middle l)) same ∙ ap (λ (r : StartList). (base + middle + x.0, x.1) ∷ r) (from_twice base middle l)

-- one start is set
pub set_from : (base : ℕ) (l l' : StartList) (offset number : ℕ) (w : Option (Option ℕ)) → base + offset ≡ number → SetsAt (start_at l) (start_at l') offset w → SetsAt (start_at (starts_from base l)) (start_at (starts_from base l')) number w
set_from base l l' offset number w is set = record {
  here = start_there base l' number offset is ∙ set.here;
  others = λ q apart. elim (cases_lt q base) [
    | inl lt ↦ none_from base l' q lt ∙ sym (none_from base l q lt)
    | inr le ↦ (let there : base + (q - base) ≡ q = omega (arith, le) in
        start_there base l' q (q - base) there ∙ set.others (q - base) (λ same. apart (omega (arith, there, same, is))) ∙ sym (start_there base l q (q - base) there))
  ];
}

-- the last start
pub last_from : (base : ℕ) (l : StartList) (offset number : ℕ) (start : ℕ × Option ℕ) → base + offset ≡ number → IsLastTo (start_at l) offset start → IsLastTo (start_at (starts_from base l)) number (base + start.0, start.1)
last_from base l offset number start is last = record {
  low = omega (arith, last.low, is);
  is = start_from base l start.0 ∙ last.is;
  last = λ q some to.
      let o = offset_of base l q some in
      let low = last.last o.0 (subst IsSome (start_there base l q o.0 o.1) some) (omega (arith, to, is, o.1)) in
      omega (arith, low, o.1);
}

pub above_from : (base : ℕ) (l : StartList) (offset number : ℕ) → base + offset ≡ number → ((q : ℕ) → IsSome (start_at l q) → offset < q) → (q : ℕ) → IsSome (start_at (starts_from base l) q) → number < q
above_from base l offset number is above q some =
    let o = offset_of base l q some in
    let high = above o.0 (subst IsSome (start_there base l q o.0 o.1) some) in
    omega (arith, high, o.1, is)

-- no number is too far from the base
pub within_from : (base : ℕ) (l : StartList) (bound : ℕ) → ((q : ℕ) → IsSome (start_at l q) → q < bound) → (q : ℕ) → IsSome (start_at (starts_from base l) q) → q < base + bound
within_from base l bound within q some =
    let o = offset_of base l q some in
    let low = within o.0 (subst IsSome (start_there base l q o.0 o.1) some) in
    omega (arith, low, o.1)

-- the parts
pub cut_from : (base : ℕ) (l low high : StartList) (middle : ℕ) → IsCut l low middle (starts_from middle high) → IsCut (starts_from base l) (starts_from base low) (base + middle) (starts_from (base + middle) high)
cut_from base l low high middle cut = subst (IsCut (starts_from base l) (starts_from base low) (base + middle)) (from_twice base middle high) (record {
  below = λ q lt. elim (cases_lt q base) [
    | inl under ↦ (none_from base low q under ∙ sym (none_from base l q under), none_from base (starts_from middle high) q under)
    | inr le ↦ (let there : base + (q - base) ≡ q = omega (arith, le) in
        let both = cut.below (q - base) (omega (arith, lt, there)) in
        (start_there base low q (q - base) there ∙ both.0 ∙ sym (start_there base l q (q - base) there), start_there base (starts_from middle high) q (q - base) there ∙ both.1))
  ];
  above = λ q le.
      let there : base + (q - base) ≡ q = omega (arith, le) in
      let both = cut.above (q - base) (omega (arith, le, there)) in
      (start_there base (starts_from middle high) q (q - base) there ∙ both.0 ∙ sym (start_there base l q (q - base) there), start_there base low q (q - base) there ∙ both.1);
  first = subst IsSome (sym (start_from base l middle)) cut.first;
  lower = base + cut.lower;
  lower_low = omega (arith, cut.lower_low);
  lower_is = subst IsSome (sym (start_from base l cut.lower)) cut.lower_is;
})

-- ---- numbers rise, and so do offsets

first_from : (base : ℕ) (l : StartList) (i : ℕ) → i < length l → first_at (starts_from base l) i ≡ base + first_at l i
first_from base [] i lt = absurd (omega (arith, lt))
first_from base (x ∷ l) zero lt = refl
first_from base (x ∷ l) (suc i) lt = first_from base l i (omega (arith, lt))

pub length_from : (base : ℕ) (l : StartList) → length (starts_from base l) ≡ length l
length_from base [] = refl
length_from base (x ∷ l) = ap suc (length_from base l)

pub rising_from : (base : ℕ) (l starts : StartList) → starts_from base l ≡ starts → AreRising starts → AreRising l
rising_from base l starts is rising i j lt within =
    let long = length_from base l in
    let up = subst AreRising (sym is) rising i j lt (omega (arith, long, within)) in
    omega (arith, up, first_from base l i (omega (arith, lt, within)), first_from base l j within)

pub below_from : (base : ℕ) (l starts : StartList) (bound : ℕ) → starts_from base l ≡ starts → AreBelow bound starts → AreBelow bound l
below_from base l starts bound is low = All-from_get_or (λ (x : ℕ × Option ℕ). x.0 < bound) l (0, None) (λ i lt.
    let long = length_from base l in
    let under : first_at (starts_from base l) i < bound = (subst (AreBelow bound) (sym is) low) i (0, None) (omega (arith, long, lt)) in
    omega (arith, under, first_from base l i lt))
