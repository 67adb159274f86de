-- A script as it is read.
use Rattle.std.proofs.Common.{◌≡◌, ℕ, ◌+◌, ◌*◌, ◌^◌, ◌<◌, ◌≤◌, Bool, List, [], ◌∷◌, ◌++◌, length, map, take, drop, get_or, refl, sym, ap, subst, ◌∙◌, append_assoc, append-nil, arith, length-append, length-drop, lit<}
use Rattle.std.specs.Prelude.{fold}
use Rattle.std.proofs.Math.ListN.{set}
use Rattle.std.proofs.lemmas.List.{length_push, map_push, take-append-drop, length-take-le, take_more}
use Rattle.std.proofs.lemmas.List.Elements.{All-push, All-nil}
use Rattle.std.proofs.lemmas.List.Sums.{fold-append}
use Rattle.ox_address.specs.Digits.{number}
use Rattle.ox_address.specs.Checksum.{step}
use Rattle.ox_address.specs.Passes.{Unpacks, Took, AreSymbols, value_of, values_of}
use Rattle.ox_address.proofs.DigitLaws.{number-push}
use Rattle.ox_address.proofs.Carrying.{carries-none, carries-with, carries-take}
use Rattle.ox_address.proofs.Writes.{placed}

unpacks-none : (before : List ℕ) → 2 ≤ length before → Unpacks (take 2 before) before before 2 0 0 0 0
unpacks-none before long =
    let whole : take 2 before ++ [] ≡ take 2 before = append-nil (take 2 before) in
    record {
      out = [];
      stands = sym (ap (λ xs. xs ++ drop 2 before) whole ∙ take-append-drop 2 before);
      place = sym (ap length whole ∙ length-take-le 2 before long);
      carries = carries-none 8;
    }

pub unpacks-with :
    (head before into : List ℕ) (len whole total value count w digit value' count' : ℕ) →
    value' ≡ value * 2 ^ w + digit → count' ≡ count + w → Unpacks head before into len whole total value count →
    Unpacks head before into len (whole * 2 ^ w + digit) (total + w) value' count'
unpacks-with head before into len whole total value count w digit value' count' v c unpacks =
    record {
      out = unpacks.out;
      stands = unpacks.stands;
      place = unpacks.place;
      carries = carries-with 8 unpacks.out whole total value count w digit value' count' v c unpacks.carries;
    }

pub unpacks-take :
    (head before into : List ℕ) (len whole total value count d rest k : ℕ) → len < length into →
    k + 8 ≡ count → value ≡ d * 2 ^ k + rest → d < 256 → Unpacks head before into len whole total value count →
    Unpacks head before (set into len d) (len + 1) whole total rest k
unpacks-take head before into len whole total value count d rest k room some split low unpacks =
    let front : List ℕ = head ++ unpacks.out in
    let fits : len < length before =
    omega (arith, ap length unpacks.stands, length-append front (drop len before), length-drop len before, unpacks.place) in
    let more : front ++ d ∷ [] ≡ head ++ (unpacks.out ++ d ∷ []) = append_assoc head unpacks.out (d ∷ []) in
    record {
      out = unpacks.out ++ d ∷ [];
      stands = ap (λ xs. set xs len d) unpacks.stands ∙ placed front before len d (sym unpacks.place) fits
          ∙ ap (λ f. f ++ drop (len + 1) before) more;
      place = ap (λ n. n + 1) unpacks.place ∙ sym (length_push front d) ∙ ap length more;
      carries = carries-take 8 unpacks.out whole total value count d rest k some split low unpacks.carries;
    }

pub took-none : (is_capital : Bool) (first : ℕ) (before : List ℕ) → first < 2 ^ 30 → 2 ≤ length before → Took is_capital [] first before before 2 0 0 first
unfolding number
took-none is_capital first before bounded long =
    record {
      symbols = All-nil (λ c. value_of is_capital c < 32);
      checked = refl;
      bounded = bounded;
      unpacks = unpacks-none before long;
      few = lit< tt;
      within = lit< tt;
    }

pub took-more :
    (is_capital : Bool) (xs : List ℕ) (c s first : ℕ) (before into into' : List ℕ) (len value count sum len' value' count' sum' : ℕ) →
    s < 32 → s ≡ value_of is_capital c → Took is_capital xs first before into len value count sum →
    Unpacks (take 2 before) before into' len' (number 32 (values_of is_capital xs) * 32 + s) (5 * length xs + 5) value' count' →
    count' < 8 → value' < 2 ^ count' → sum' ≡ step sum s → sum' < 2 ^ 30 →
    Took is_capital (xs ++ c ∷ []) first before into' len' value' count' sum'
took-more is_capital xs c s first before into into' len value count sum len' value' count' sum' low is took unpacks few within adds bounded =
    let P : ℕ → Type 0 = λ n. n < 32 in
    let v : ℕ → ℕ = value_of is_capital in
    let pushed : map v (xs ++ c ∷ []) ≡ map v xs ++ v c ∷ [] = map_push v xs c in
    let whole : number 32 (map v xs) * 32 + s ≡ number 32 (map v (xs ++ c ∷ [])) =
    ap (λ n. number 32 (map v xs) * 32 + n) is ∙ sym (ap (number 32) pushed ∙ number-push 32 (map v xs) (v c)) in
    let total : 5 * length xs + 5 ≡ 5 * length (xs ++ c ∷ []) = omega (arith, length_push xs c) in
    let Q : ℕ → Type 0 = λ n. Unpacks (take 2 before) before into' len' n (5 * length xs + 5) value' count' in
    let R : ℕ → Type 0 = λ n. Unpacks (take 2 before) before into' len' (number 32 (map v (xs ++ c ∷ []))) n value' count' in
    record {
      symbols = All-push (λ c. value_of is_capital c < 32) xs c took.symbols (subst P is low);
      checked = adds ∙ ap (λ m. step m s) took.checked ∙ ap (λ n. step (fold step first (map v xs)) n) is
          ∙ sym (ap (fold step first) pushed ∙ fold-append step first (map v xs) (v c ∷ []));
      bounded = bounded;
      unpacks = subst R total (subst Q whole unpacks);
      few = few;
      within = within;
    }

-- the bytes so far fit
pub took-room :
    (is_capital : Bool) (xs : List ℕ) (first : ℕ) (before into : List ℕ) (len value count sum : ℕ) →
    length xs < 64 → 2 ≤ length before → Took is_capital xs first before into len value count sum → len < 42
took-room is_capital xs first before into len value count sum short long took =
    omega (arith, took.unpacks.place, length-append (take 2 before) took.unpacks.out, length-take-le 2 before long, took.unpacks.carries.bits)

pub took-start :
    (is_capital : Bool) (first value count : ℕ) (before : List ℕ) → first < 2 ^ 30 → 2 ≤ length before → value ≡ 0 → count ≡ 0 →
    Took is_capital [] first before before 2 value count first
took-start is_capital first value count before bounded long v c =
    let P : ℕ → Type 0 = λ n. Took is_capital [] first before before 2 n count first in
    let Q : ℕ → Type 0 = λ n. Took is_capital [] first before before 2 0 n first in
    subst P (sym v) (subst Q (sym c) (took-none is_capital first before bounded long))

-- the next letter of a list
pub took-next :
    (is_capital : Bool) (letters : List ℕ) (i s first : ℕ) (before into into' : List ℕ) (len value count sum len' value' count' sum' : ℕ) →
    i < length letters → s < 32 → s ≡ value_of is_capital (get_or letters i 0) →
    Took is_capital (take i letters) first before into len value count sum →
    Unpacks (take 2 before) before into' len' (number 32 (values_of is_capital (take i letters)) * 32 + s) (5 * length (take i letters) + 5) value' count' →
    count' < 8 → value' < 2 ^ count' → sum' ≡ step sum s → sum' < 2 ^ 30 →
    Took is_capital (take (i + 1) letters) first before into' len' value' count' sum'
took-next is_capital letters i s first before into into' len value count sum len' value' count' sum' inside low is took unpacks few within adds bounded =
    let P : List ℕ → Type 0 = λ xs. Took is_capital xs first before into' len' value' count' sum' in
    subst P (sym (take_more letters i 0 inside))
    (took-more is_capital (take i letters) (get_or letters i 0) s first before into into' len value count sum len' value' count' sum'
    low is took unpacks few within adds bounded)

-- the polynomial and the symbols of one letter more
pub with-next :
    (is_capital : Bool) (letters : List ℕ) (i s first sum sum' : ℕ) → i < length letters → s < 32 →
    s ≡ value_of is_capital (get_or letters i 0) → AreSymbols is_capital (take i letters) →
    sum ≡ fold step first (values_of is_capital (take i letters)) → sum' ≡ step sum s →
    AreSymbols is_capital (take (i + 1) letters) × (sum' ≡ fold step first (values_of is_capital (take (i + 1) letters)))
with-next is_capital letters i s first sum sum' inside low is symbols checked adds =
    let P : ℕ → Type 0 = λ n. n < 32 in
    let v : ℕ → ℕ = value_of is_capital in
    let c : ℕ = get_or letters i 0 in
    let more : take (i + 1) letters ≡ take i letters ++ c ∷ [] = take_more letters i 0 inside in
    let Q : List ℕ → Type 0 = λ xs. AreSymbols is_capital xs in
    let pushed : map v (take (i + 1) letters) ≡ map v (take i letters) ++ v c ∷ [] = ap (map v) more ∙ map_push v (take i letters) c in (
      subst Q (sym more) (All-push (λ b. value_of is_capital b < 32) (take i letters) c symbols (subst P is low)),
      adds ∙ ap (λ m. step m s) checked ∙ ap (λ n. step (fold step first (map v (take i letters))) n) is
          ∙ sym (ap (fold step first) pushed ∙ fold-append step first (map v (take i letters)) (v c ∷ [])),
    )
