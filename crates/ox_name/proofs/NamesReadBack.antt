-- Texts of names, from the front on.
use Rattle.std.proofs.Common.{◌≡◌, ◌≢◌, ℕ, suc, ◌+◌, ◌-◌, ◌*◌, ◌/◌, ◌%◌, ◌^◌, ◌<◌, ◌≤◌, List, [], ◌∷◌, ◌++◌, length, Bool, true, false, cond, eqb, ltb, leb, Option, Some, None, All, refl, sym, ap, subst, ◌∙◌, lit<, add-one, arith, inl, inr}
use Rattle.std.specs.Prelude.{◌&&◌}
use Rattle.std.proofs.Math.Nat.{pow-suc, pow-le-pow_right}
use Rattle.std.proofs.lemmas.Bool.{cases_lt, cases_eq, lt-ltb, le-ltb, le-leb, lt-leb, ne_eqb, and_right, cases_Bool, cond_both, cond-true, cond-false, false≢true}
use Rattle.std.proofs.lemmas.List.Elements.{All-head, All-tail}
use Rattle.std.proofs.lemmas.List.{nil_from_length}
use Rattle.std.proofs.lemmas.Nat.{mod-pow-add}
use Rattle.ox_name.specs.declared.reading.Named.{Named}
use Rattle.ox_name.specs.Name.{IsLetter, IsName, number_with, number_after, number_of, name_of}
use Rattle.ox_name.specs.Texts.{dotted_text, BeginsWithNone}
use Rattle.ox_name.specs.Spaced.{bullet, spaced_name, is_letter, Mark, with_letter, with_spacer, marks, letters_of, spacers_of, name_if_fits, name_of_marks, name_in, ReadsBack}
use Rattle.ox_name.proofs.NamesAreOneToOne.{number_after-ge, name_of-is, number_of-name_of}

letter-is : (c : ℕ) → IsLetter c → is_letter c ≡ true
letter-is c h = rw (le-leb 65 c h.0, le-leb c 90 h.1) refl

letter-not : (c : ℕ) → (IsLetter c → ⊥) → is_letter c ≡ false
letter-not c h =
    elim (cases_lt c 65) [
      | inl low ↦ rw (lt-leb 65 c low) refl
      | inr high ↦
          elim (cases_lt 90 c) [
            | inl up ↦ rw (lt-leb c 90 up) (and_right (leb 65 c) false refl)
            | inr le ↦ absurd (h (high, le))
          ]
    ]

-- ---- U+2022

dotted-other : (c : ℕ) (cs : List ℕ) → c ≢ 0xe2 → dotted_text (c ∷ cs) ≡ c ∷ dotted_text cs
dotted-other c [] ne = refl
dotted-other c (d ∷ []) ne = refl
dotted-other c (d ∷ e ∷ cs) ne = rw (ne_eqb c 0xe2 ne) refl

-- what is in front of a text is in front of the text with dots, but for a dot itself
dotted-none : (c : ℕ) (cs : List ℕ) → (IsLetter c → ⊥) → BeginsWithNone IsLetter (dotted_text (c ∷ cs))
dotted-none c [] h = h
dotted-none c (d ∷ []) h = h
dotted-none c (d ∷ e ∷ cs) h =
    let A : List ℕ → Type 0 = λ (t : List ℕ). BeginsWithNone IsLetter t in
    cond_both (eqb c 0xe2 && (eqb d 0x80 && eqb e 0xa2)) (46 ∷ dotted_text cs) (c ∷ dotted_text (d ∷ e ∷ cs)) A (λ t. λ letter. let l : 65 ≤ 46 = letter.0 in absurd (omega arith)) (λ t. h)

dotted-long : (text : List ℕ) → 0 < length text → 0 < length (dotted_text text)
dotted-long [] h = h
dotted-long (c ∷ []) h = h
dotted-long (c ∷ d ∷ []) h = omega arith
dotted-long (c ∷ d ∷ e ∷ cs) h = cond_both (eqb c 0xe2 && (eqb d 0x80 && eqb e 0xa2)) (46 ∷ dotted_text cs) (c ∷ dotted_text (d ∷ e ∷ cs)) (λ t. 0 < length t) (λ t. omega arith) (λ f. omega arith)

-- ---- the letters of a text

marks-letter : (c : ℕ) (cs : List ℕ) → IsLetter c → marks (c ∷ cs) ≡ with_letter c (marks cs)
marks-letter c cs h = rw (letter-is c h) refl

marks-dot : (cs : List ℕ) → marks (46 ∷ cs) ≡ with_spacer (marks cs)
marks-dot cs = refl

marks-bad : (c : ℕ) (cs : List ℕ) → (IsLetter c → ⊥) → c ≢ 46 → marks (c ∷ cs) ≡ None
marks-bad c cs h ne = rw (letter-not c h, ne_eqb c 46 ne) refl

with_spacer-twice : (ms : Option (List Mark)) → with_spacer (with_spacer ms) ≡ None
with_spacer-twice None = refl
with_spacer-twice (Some []) = refl
with_spacer-twice (Some ((true, c) ∷ ms)) = refl
with_spacer-twice (Some ((false, c) ∷ ms)) = refl

begun-spacer : (ms : Option (List Mark)) → name_of_marks (with_spacer ms) ≡ None
begun-spacer None = refl
begun-spacer (Some []) = refl
begun-spacer (Some ((true, c) ∷ ms)) = refl
begun-spacer (Some ((false, c) ∷ ms)) = refl

-- no letter follows a spacer
spacer-then-none : (text : List ℕ) → BeginsWithNone IsLetter text → with_spacer (marks text) ≡ None
spacer-then-none [] h = refl
spacer-then-none (c ∷ cs) h =
    elim (cases_eq c 46) [
      | inl dot ↦ rw dot (ap with_spacer (marks-dot cs) ∙ with_spacer-twice (marks cs))
      | inr ne ↦ ap with_spacer (marks-bad c cs h ne)
    ]

-- neither a letter nor a spacer is in front
none-in-front : (text : List ℕ) → 0 < length text → BeginsWithNone IsLetter text → BeginsWithNone (λ c. c ≡ 46) text → marks text ≡ None
none-in-front [] long h ne = absurd (omega arith)
none-in-front (c ∷ cs) long h ne = marks-bad c cs h ne

-- ---- the loop of the reader

-- what the rest of a text adds to a number and its spacers
abbrev pub name_from : ℕ → ℕ → ℕ → Option (List Mark) → Option Named
name_from n spacers place None = None
name_from n spacers place (Some ms) = name_if_fits (number_after n (letters_of ms)) (spacers + 2 ^ place * spacers_of ms)

begun-letter : (c : ℕ) (ms : Option (List Mark)) → name_of_marks (with_letter c ms) ≡ name_from (c - 65) 0 0 ms
begun-letter c None = refl
begun-letter c (Some ms) = let e : 0 + 2 ^ 0 * spacers_of ms ≡ spacers_of ms = omega arith in rw e refl

-- a letter, with a spacer before it or none
abbrev pub with_mark : Bool → ℕ → Option (List Mark) → Option (List Mark)
with_mark b c ms = cond b (with_spacer (with_letter c ms)) (with_letter c ms)

name_from-letter : (n spacers place c : ℕ) (b : Bool) (ms : Option (List Mark)) → name_from n spacers place (with_mark b c ms) ≡ name_from (number_with n c) (spacers + cond b (2 ^ place) 0) (place + 1) ms
name_from-letter n spacers place c true None = refl
name_from-letter n spacers place c false None = refl
name_from-letter n spacers place c true (Some ms) =
    let p : 2 ^ (place + 1) ≡ 2 ^ place * 2 = ap (λ k. 2 ^ k) (add-one place) ∙ pow-suc 2 place in
    let e : spacers + 2 ^ place * (1 + 2 * spacers_of ms) ≡ spacers + 2 ^ place + 2 ^ (place + 1) * spacers_of ms = rw p (omega arith) in
    ap (name_if_fits (number_after (number_with n c) (letters_of ms))) e
name_from-letter n spacers place c false (Some ms) =
    let p : 2 ^ (place + 1) ≡ 2 ^ place * 2 = ap (λ k. 2 ^ k) (add-one place) ∙ pow-suc 2 place in
    let e : spacers + 2 ^ place * (0 + 2 * spacers_of ms) ≡ spacers + 0 + 2 ^ (place + 1) * spacers_of ms = rw p (omega arith) in
    ap (name_if_fits (number_after (number_with n c) (letters_of ms))) e

name_from-over : (n spacers place : ℕ) (ms : Option (List Mark)) → 2 ^ 128 ≤ n → name_from n spacers place ms ≡ None
name_from-over n spacers place None over = refl
name_from-over n spacers place (Some ms) over =
    let up : 2 ^ 128 ≤ number_after n (letters_of ms) = omega (arith, number_after-ge n (letters_of ms)) in
    rw (le-ltb (number_after n (letters_of ms)) (2 ^ 128) up) refl

name_from-end : (n spacers place : ℕ) → n < 2 ^ 128 → name_from n spacers place (Some []) ≡ Some (record { name = n; spacers = spacers })
name_from-end n spacers place lt = let e : spacers + 2 ^ place * 0 ≡ spacers = omega arith in rw (e, lt-ltb n (2 ^ 128) lt) refl

-- what stands in front of the rest, where a letter follows at once or behind a spacer
marks-with_mark : (b : Bool) (rest behind after : List ℕ) (c : ℕ) → (b ≡ true → dotted_text rest ≡ 46 ∷ dotted_text behind) → (b ≡ false → behind ≡ rest) → IsLetter c → behind ≡ c ∷ after → marks (dotted_text rest) ≡ with_mark b c (marks (dotted_text after))
marks-with_mark b rest behind after c spacer none letter is =
    let low : 65 ≤ c = letter.0 in
    let up : c ≤ 90 = letter.1 in
    let ne : c ≢ 0xe2 = omega arith in
    let text : dotted_text behind ≡ c ∷ dotted_text after = ap dotted_text is ∙ dotted-other c after ne in
    let here : marks (dotted_text behind) ≡ with_letter c (marks (dotted_text after)) = ap marks text ∙ marks-letter c (dotted_text after) letter in
    let P : Bool → Type 0 = λ (x : Bool). b ≡ x → marks (dotted_text rest) ≡ with_mark x c (marks (dotted_text after)) in
    let q : P b = elim b as (λ x. b ≡ x → marks (dotted_text rest) ≡ with_mark x c (marks (dotted_text after))) [
      | true ↦ λ t. ap marks (spacer t) ∙ marks-dot (dotted_text behind) ∙ ap with_spacer here
      | false ↦ λ f. ap (λ t. marks (dotted_text t)) (sym (none f)) ∙ here
    ] in
    q refl

none-behind : (behind : List ℕ) → BeginsWithNone IsLetter behind → BeginsWithNone IsLetter (dotted_text behind)
none-behind [] h = h
none-behind (c ∷ cs) h = dotted-none c cs h

-- what stands in front of the rest is neither a letter nor a spacer and a letter
marks-none : (b : Bool) (rest behind : List ℕ) → 0 < length rest → (b ≡ true → dotted_text rest ≡ 46 ∷ dotted_text behind) → (b ≡ false → (behind ≡ rest) × BeginsWithNone (λ c. c ≡ 46) (dotted_text rest)) → BeginsWithNone IsLetter behind → marks (dotted_text rest) ≡ None
marks-none b rest behind long spacer none letter =
    elim (cases_Bool b) [
      | inl t ↦ ap marks (spacer t) ∙ marks-dot (dotted_text behind) ∙ spacer-then-none (dotted_text behind) (none-behind behind letter)
      | inr f ↦
          let n = none f in
          let A : List ℕ → Type 0 = λ (t : List ℕ). BeginsWithNone IsLetter (dotted_text t) in
          none-in-front (dotted_text rest) (dotted-long rest long) (subst A n.0 (none-behind behind letter)) n.1
    ]

begun-none : (text : List ℕ) → BeginsWithNone IsLetter text → name_of_marks (marks text) ≡ None
begun-none [] h = refl
begun-none (c ∷ cs) h =
    elim (cases_eq c 46) [
      | inl dot ↦ rw dot (begun-spacer (marks cs))
      | inr ne ↦ ap name_of_marks (marks-bad c cs h ne)
    ]

-- a text that doesn't begin with a letter names nothing
pub named-none : (text : List ℕ) → BeginsWithNone IsLetter text → name_in text ≡ None
unfolding name_in
named-none text h = begun-none (dotted_text text) (none-behind text h)

pub named-first : (text after : List ℕ) (c : ℕ) → IsLetter c → text ≡ c ∷ after → name_from (c - 65) 0 0 (marks (dotted_text after)) ≡ name_in text
unfolding name_in
named-first text after c letter is =
    let same : (t : List ℕ) → t ≡ t = λ t. refl in
    sym (ap name_of_marks (marks-with_mark false text text after c (λ t. absurd (false≢true t)) (λ f. refl) letter is) ∙ begun-letter c (marks (dotted_text after)))

-- ---- numbers in the loop

pub below_from_some : (f x : ℕ) → Some x ≡ cond (ltb f (2 ^ 128)) (Some f) None → (x ≡ f) × (f < 2 ^ 128)
below_from_some f x e =
    elim (cases_lt f (2 ^ 128)) [
      | inl lt ↦ let g : Some x ≡ Some f = e ∙ cond-true (ltb f (2 ^ 128)) (Some f) None (lt-ltb f (2 ^ 128) lt) in (cc, lt)
      | inr ge ↦ let g : Some x ≡ None = e ∙ cond-false (ltb f (2 ^ 128)) (Some f) None (le-ltb f (2 ^ 128) ge) in absurd cc
    ]

pub above_from_none : (f : ℕ) → None ≡ cond (ltb f (2 ^ 128)) (Some f) None → 2 ^ 128 ≤ f
above_from_none f e =
    elim (cases_lt f (2 ^ 128)) [
      | inl lt ↦ let g : None ≡ Some f = e ∙ cond-true (ltb f (2 ^ 128)) (Some f) None (lt-ltb f (2 ^ 128) lt) in absurd cc
      | inr ge ↦ ge
    ]

-- so many letters have been read
pub place_small : (place n : ℕ) → 26 ^ place ≤ n + 1 → n < 2 ^ 128 → place < 28
place_small place n low lt =
    elim (cases_lt place 28) [
      | inl small ↦ small
      | inr large ↦
          let up : 26 ^ 28 ≤ 26 ^ place = pow-le-pow_right {n = 26} (lit< tt) {i = 28} {j = place} large in
          let big : 2 ^ 128 < 26 ^ 28 = lit< tt in
          absurd (omega arith)
    ]

place_more : (place n c : ℕ) → 26 ^ place ≤ n + 1 → 26 ^ (place + 1) ≤ number_with n c + 1
place_more place n c low =
    let p : 26 ^ (place + 1) ≡ 26 ^ place * 26 = ap (λ k. 26 ^ k) (add-one place) ∙ pow-suc 26 place in
    rw p (omega arith)

-- the bits of the gaps so far
bits_more : (spacers place : ℕ) (b : Bool) → spacers < 2 ^ place → spacers + cond b (2 ^ place) 0 < 2 ^ (place + 1)
bits_more spacers place true lt = let p : 2 ^ (place + 1) ≡ 2 ^ place * 2 = ap (λ k. 2 ^ k) (add-one place) ∙ pow-suc 2 place in rw p (omega arith)
bits_more spacers place false lt = let p : 2 ^ (place + 1) ≡ 2 ^ place * 2 = ap (λ k. 2 ^ k) (add-one place) ∙ pow-suc 2 place in rw p (omega arith)

pub bits_fit : (spacers place : ℕ) (b : Bool) → place < 28 → spacers < 2 ^ place → spacers + cond b (2 ^ place) 0 < 2 ^ 32
bits_fit spacers place b small lt =
    let up : 2 ^ (place + 1) ≤ 2 ^ 32 = pow-le-pow_right {n = 2} (lit< tt) {i = place + 1} {j = 32} (omega arith) in
    omega (arith, bits_more spacers place b lt)

-- the state after so many letters
pub record Read (text rest : List ℕ) (n spacers place : ℕ) : Type 0 where
  pub is : name_from n spacers place (marks (dotted_text rest)) ≡ name_in text
  pub letters : 26 ^ place ≤ n + 1
  pub bits : spacers < 2 ^ place
  pub small : n < 2 ^ 128

pub reads_on : (text rest behind after : List ℕ) (n spacers place c : ℕ) (b : Bool) → Read text rest n spacers place → (b ≡ true → dotted_text rest ≡ 46 ∷ dotted_text behind) → (b ≡ false → behind ≡ rest) → IsLetter c → behind ≡ c ∷ after → number_with n c < 2 ^ 128 → Read text after (number_with n c) (spacers + cond b (2 ^ place) 0) (place + 1)
reads_on text rest behind after n spacers place c b read spacer none letter is lt = record {
  is = sym (name_from-letter n spacers place c b (marks (dotted_text after))) ∙ ap (name_from n spacers place) (sym (marks-with_mark b rest behind after c spacer none letter is)) ∙ read.is;
  letters = place_more place n c read.letters;
  bits = bits_more spacers place b read.bits;
  small = lt;
}

pub reads_over : (text rest behind after : List ℕ) (n spacers place c : ℕ) (b : Bool) → Read text rest n spacers place → (b ≡ true → dotted_text rest ≡ 46 ∷ dotted_text behind) → (b ≡ false → behind ≡ rest) → IsLetter c → behind ≡ c ∷ after → 2 ^ 128 ≤ number_with n c → name_in text ≡ None
reads_over text rest behind after n spacers place c b read spacer none letter is over =
    let next : name_from (number_with n c) (spacers + cond b (2 ^ place) 0) (place + 1) (marks (dotted_text after)) ≡ name_in text = sym (name_from-letter n spacers place c b (marks (dotted_text after))) ∙ ap (name_from n spacers place) (sym (marks-with_mark b rest behind after c spacer none letter is)) ∙ read.is in
    sym next ∙ name_from-over (number_with n c) (spacers + cond b (2 ^ place) 0) (place + 1) (marks (dotted_text after)) over

pub reads_none : (text rest behind : List ℕ) (n spacers place : ℕ) (b : Bool) → Read text rest n spacers place → 0 < length rest → (b ≡ true → dotted_text rest ≡ 46 ∷ dotted_text behind) → (b ≡ false → (behind ≡ rest) × BeginsWithNone (λ c. c ≡ 46) (dotted_text rest)) → BeginsWithNone IsLetter behind → name_in text ≡ None
reads_none text rest behind n spacers place b read long spacer none letter =
    sym read.is ∙ ap (name_from n spacers place) (marks-none b rest behind long spacer none letter)

pub reads_all : (text rest : List ℕ) (n spacers place : ℕ) → Read text rest n spacers place → length rest ≡ 0 → name_in text ≡ Some (record { name = n; spacers = spacers })
reads_all text rest n spacers place read end =
    let none : rest ≡ [] = nil_from_length rest end in
    sym read.is ∙ ap (λ t. name_from n spacers place (marks (dotted_text t))) none ∙ name_from-end n spacers place read.small

-- ---- what was written reads back

marks_of : ℕ → List ℕ → List Mark
marks_of spacers [] = []
marks_of spacers (c ∷ cs) = (eqb (spacers % 2) 1, c) ∷ marks_of (spacers / 2) cs

marks-spaced : (cs : List ℕ) (spacers c : ℕ) → All IsLetter (c ∷ cs) → marks (dotted_text (spaced_name spacers (c ∷ cs))) ≡ Some ((false, c) ∷ marks_of spacers cs)
unfolding marks_of
marks-spaced [] spacers c all = marks-letter c [] (All-head IsLetter c [] all)
marks-spaced (d ∷ ds) spacers c all =
    let letter = All-head IsLetter c (d ∷ ds) all in
    let up : c ≤ 90 = letter.1 in
    let ne : c ≢ 0xe2 = omega arith in
    let r : List ℕ = spaced_name (spacers / 2) (d ∷ ds) in
    let ih : marks (dotted_text (spaced_name (spacers / 2) (d ∷ ds))) ≡ Some ((false, d) ∷ marks_of (spacers / 2) ds) = marks-spaced ds (spacers / 2) d (All-tail IsLetter c (d ∷ ds) all) in
    elim (cases_Bool (eqb (spacers % 2) 1)) [
      | inl odd ↦ rw odd (ap marks (dotted-other c (bullet ++ r) ne) ∙ marks-letter c (46 ∷ dotted_text r) letter ∙ ap (λ m. with_letter c (with_spacer m)) ih)
      | inr even ↦ rw even (ap marks (dotted-other c r ne) ∙ marks-letter c (dotted_text r) letter ∙ ap (with_letter c) ih)
    ]

letters_of-marks_of : (spacers : ℕ) (cs : List ℕ) → letters_of (marks_of spacers cs) ≡ cs
unfolding marks_of
letters_of-marks_of spacers [] = refl
letters_of-marks_of spacers (c ∷ cs) = ap (λ t. c ∷ t) (letters_of-marks_of (spacers / 2) cs)

bit-is : (k : ℕ) → cond (eqb (k % 2) 1) 1 0 ≡ k % 2
bit-is k =
    elim (cases_eq (k % 2) 1) [
      | inl one ↦ rw one refl
      | inr other ↦ let zero : k % 2 ≡ 0 = omega arith in rw zero refl
    ]

spacers_of-marks_of : (spacers : ℕ) (cs : List ℕ) → spacers_of (marks_of spacers cs) ≡ spacers % 2 ^ length cs
unfolding marks_of
spacers_of-marks_of spacers [] = omega arith
spacers_of-marks_of spacers (c ∷ cs) =
    let k : ℕ = length cs in
    let p : 2 ^ suc (length cs) ≡ 2 ^ (length cs + 1) = ap (λ n. 2 ^ n) (sym (add-one (length cs))) in
    let m : spacers % 2 ^ (length cs + 1) ≡ spacers / 2 ^ 1 % 2 ^ length cs * 2 ^ 1 + spacers % 2 ^ 1 = mod-pow-add spacers (length cs) 1 in
    let ih : spacers_of (marks_of (spacers / 2) cs) ≡ spacers / 2 % 2 ^ length cs = spacers_of-marks_of (spacers / 2) cs in
    rw (bit-is spacers, ih, p, m) (omega arith)

written_back : (text : List ℕ) (spacers : ℕ) → IsName text → number_of text < 2 ^ 128 → name_in (spaced_name spacers text) ≡ Some (record { name = number_of text; spacers = spacers % 2 ^ (length text - 1) })
unfolding name_in
written_back [] spacers is lt = absurd (omega (arith, is.0))
written_back (c ∷ cs) spacers is lt =
    let k : suc (length cs) - 1 ≡ length cs = omega arith in
    let n : number_after (c - 65) cs < 2 ^ 128 = lt in
    ap name_of_marks (marks-spaced cs spacers c is.1) ∙ rw (letters_of-marks_of spacers cs, spacers_of-marks_of spacers cs, k, lt-ltb (number_after (c - 65) cs) (2 ^ 128) n) refl

pub all_read_back : ReadsBack
all_read_back n spacers lt =
    let e : number_of (name_of n) ≡ n = number_of-name_of n in
    let lt' : number_of (name_of n) < 2 ^ 128 = rw e lt in
    written_back (name_of n) spacers (name_of-is n lt) lt' ∙ ap (λ m. Some (record { name = m; spacers = spacers % 2 ^ (length (name_of n) - 1) })) e
