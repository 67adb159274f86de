-- An address as it is written.
use Rattle.std.proofs.Common.{◌≡◌, ℕ, ◌+◌, ◌*◌, ◌^◌, ◌<◌, List, [], ◌∷◌, ◌++◌, length, map, take, drop, get_or, refl, sym, ap, subst, ◌∙◌, append_assoc, arith, length-append, length-drop, append-nil}
use Rattle.std.specs.Prelude.{fold}
use Rattle.std.proofs.Math.ListN.{set}
use Rattle.std.proofs.lemmas.List.{length_push, map_push, set_at, drop_more, length-map, take_more}
use Rattle.ox_address.proofs.DigitLaws.{number-push}
use Rattle.std.proofs.lemmas.List.Sums.{fold-append}
use Rattle.ox_address.specs.Checksum.{step, polynomial, expanded}
use Rattle.ox_address.specs.Digits.{number}
use Rattle.ox_address.specs.Address.{letter_of, groups}
use Rattle.ox_address.specs.Passes.{Wrote, SumIs, StandsIn, Packs, front_of}
use Rattle.ox_address.proofs.Carrying.{carries-none, carries-with, carries-take, groups_are}

-- one element more in front of what was there before
pub placed :
    (front before : List ℕ) (n a : ℕ) → length front ≡ n → n < length before →
    set (front ++ drop n before) n a ≡ (front ++ a ∷ []) ++ drop (n + 1) before
placed front before n a long room =
    ap (λ xs. set (front ++ xs) n a) (drop_more before n 0 room)
    ∙ set_at front (get_or before n 0) (drop (n + 1) before) a n long
    ∙ sym (append_assoc front (a ∷ []) (drop (n + 1) before))

front-push : (hrp symbols : List ℕ) (s : ℕ) → front_of hrp symbols ++ letter_of s ∷ [] ≡ front_of hrp (symbols ++ s ∷ [])
front-push hrp symbols s =
    append_assoc hrp (49 ∷ map letter_of symbols) (letter_of s ∷ [])
    ∙ ap (λ ls. hrp ++ 49 ∷ ls) (sym (map_push letter_of symbols s))

pub wrote-put :
    (hrp symbols before into : List ℕ) (len s : ℕ) → len < length into → Wrote hrp symbols before into len →
    Wrote hrp (symbols ++ s ∷ []) before (set into len (letter_of s)) (len + 1)
wrote-put hrp symbols before into len s room wrote =
    let front : List ℕ = front_of hrp symbols in
    let fits : len < length before =
    omega (arith, ap length wrote.text, length-append front (drop len before), length-drop len before, wrote.place) in
    record {
      text = ap (λ xs. set xs len (letter_of s)) wrote.text
          ∙ placed front before len (letter_of s) (sym wrote.place) fits
          ∙ ap (λ f. f ++ drop (len + 1) before) (front-push hrp symbols s);
      place = ap (λ n. n + 1) wrote.place ∙ sym (length_push front (letter_of s)) ∙ ap length (front-push hrp symbols s);
    }

pub sum-push : (hrp symbols : List ℕ) (sum s : ℕ) → SumIs hrp symbols sum → SumIs hrp (symbols ++ s ∷ []) (step sum s)
unfolding polynomial
sum-push hrp symbols sum s is =
    ap (λ m. step m s) is
    ∙ sym (fold-append step 1 (expanded hrp ++ symbols) (s ∷ []))
    ∙ ap (fold step 1) (append_assoc (expanded hrp) symbols (s ∷ []))

pub stands_in_order :
    (hrp front out before into : List ℕ) (s len sum : ℕ) →
    StandsIn hrp ((front ++ out) ++ s ∷ []) before into len sum → StandsIn hrp (front ++ (out ++ s ∷ [])) before into len sum
stands_in_order hrp front out before into s len sum stands =
    let P : List ℕ → Type 0 = λ xs. StandsIn hrp xs before into len sum in
    subst P (append_assoc front out (s ∷ [])) stands

pub packs-none :
    (hrp front before into : List ℕ) (len sum : ℕ) → StandsIn hrp front before into len sum →
    Packs hrp front before into len sum 0 0 0 0
packs-none hrp front before into len sum stands =
    let P : List ℕ → Type 0 = λ xs. StandsIn hrp xs before into len sum in
    record { out = []; stands = subst P (sym (append-nil front)) stands; carries = carries-none 5 }

pub packs-with :
    (hrp front before into : List ℕ) (len sum whole total value count w digit value' count' : ℕ) →
    value' ≡ value * 2 ^ w + digit → count' ≡ count + w →
    Packs hrp front before into len sum whole total value count →
    Packs hrp front before into len sum (whole * 2 ^ w + digit) (total + w) value' count'
packs-with hrp front before into len sum whole total value count w digit value' count' v c packs =
    record {
      out = packs.out;
      stands = packs.stands;
      carries = carries-with 5 packs.out whole total value count w digit value' count' v c packs.carries;
    }

pub packs-take :
    (hrp front before into into' : List ℕ) (len sum len' sum' whole total value count d rest k : ℕ) →
    k + 5 ≡ count → value ≡ d * 2 ^ k + rest → d < 32 →
    ((symbols : List ℕ) → Wrote hrp symbols before into len → Wrote hrp (symbols ++ d ∷ []) before into' len') →
    ((symbols : List ℕ) → SumIs hrp symbols sum → SumIs hrp (symbols ++ d ∷ []) sum') →
    Packs hrp front before into len sum whole total value count →
    Packs hrp front before into' len' sum' whole total rest k
packs-take hrp front before into into' len sum len' sum' whole total value count d rest k some split low writes adds packs =
    record {
      out = packs.out ++ d ∷ [];
      stands = stands_in_order hrp front packs.out before into' d len' sum' (record {
        wrote = writes (front ++ packs.out) packs.stands.wrote;
        checked = adds (front ++ packs.out) packs.stands.checked;
      });
      carries = carries-take 5 packs.out whole total value count d rest k some split low packs.carries;
    }

pub packs-same :
    (hrp front before into : List ℕ) (len sum whole total value count whole' total' : ℕ) →
    whole ≡ whole' → total ≡ total' → Packs hrp front before into len sum whole total value count →
    Packs hrp front before into len sum whole' total' value count
packs-same hrp front before into len sum whole total value count whole' total' w t packs =
    let P : ℕ → Type 0 = λ n. Packs hrp front before into len sum n total value count in
    let Q : ℕ → Type 0 = λ n. Packs hrp front before into len sum whole' n value count in
    subst Q t (subst P w packs)

-- Where no bit waits, what stands there are the groups of the bytes.
pub packs-end :
    (hrp front before into bytes : List ℕ) (len sum whole total value count fill : ℕ) →
    fill < 5 → whole ≡ number 256 bytes * 2 ^ fill → total ≡ 8 * length bytes + fill → count ≡ 0 → value < 2 ^ count →
    Packs hrp front before into len sum whole total value count →
    StandsIn hrp (front ++ groups bytes) before into len sum
packs-end hrp front before into bytes len sum whole total value count fill few w t none within packs =
    let P : List ℕ → Type 0 = λ xs. StandsIn hrp (front ++ xs) before into len sum in
    let g : ℕ = number 32 packs.out in
    let one : 2 ^ count ≡ 1 = ap (λ n. 2 ^ n) none ∙ refl in
    let all : g * 2 ^ count ≡ g * 1 = ap (λ n. g * n) one in
    let n : whole ≡ g * 2 ^ count + value = packs.carries.number_is in
    let same : g ≡ number 256 bytes * 2 ^ fill = omega (arith, n, all, one, w, within) in
    let bits : 5 * length packs.out ≡ 8 * length bytes + fill = omega (arith, packs.carries.bits, t, none) in
    subst P (groups_are bytes packs.out fill few packs.carries.below bits same) packs.stands

pub length-front_of : (hrp symbols : List ℕ) → length (front_of hrp symbols) ≡ length hrp + 1 + length symbols
length-front_of hrp symbols = length-append hrp (49 ∷ map letter_of symbols) ∙ omega (arith, length-map symbols letter_of)

pub packs-start :
    (hrp front before into : List ℕ) (len sum value count : ℕ) → value ≡ 0 → count ≡ 0 → StandsIn hrp front before into len sum →
    Packs hrp front before into len sum (number 256 []) 0 value count
unfolding number
packs-start hrp front before into len sum value count v c stands =
    let P : ℕ → Type 0 = λ n. Packs hrp front before into len sum 0 0 n count in
    let Q : ℕ → Type 0 = λ n. Packs hrp front before into len sum 0 0 0 n in
    subst P (sym v) (subst Q (sym c) (packs-none hrp front before into len sum stands))

-- one byte more of a program
pub packs-more :
    (hrp front before into program : List ℕ) (len sum i value count : ℕ) → i < length program →
    Packs hrp front before into len sum (number 256 (take i program) * 256 + get_or program i 0) (8 * i + 8) value count →
    Packs hrp front before into len sum (number 256 (take (i + 1) program)) (8 * (i + 1)) value count
packs-more hrp front before into program len sum i value count inside packs =
    packs-same hrp front before into len sum (number 256 (take i program) * 256 + get_or program i 0) (8 * i + 8) value count
    (number 256 (take (i + 1) program)) (8 * (i + 1))
    (sym (ap (number 256) (take_more program i 0 inside) ∙ number-push 256 (take i program) (get_or program i 0)))
    (omega arith) packs
