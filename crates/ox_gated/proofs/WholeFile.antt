-- A file of a head and a body, without records, whatever byte its first gate is and whatever stands behind its last gate.
use Rattle.std.proofs.Common.{◌≡◌, ◌∙◌, ◌<◌, ◌+◌, ◌^◌, ℕ, true, List, [], ◌∷◌, ◌++◌, length, take, ◌&&◌, if◌then◌else◌, Some, None, refl, sym, ap, arith, length-append, append_assoc}
use Rattle.std.specs.Prelude.{Ok, IsTrue, nat_le, slice_range, bytes_eq}
use Rattle.std.specs.Int.{w16, w64, to_le_bytes}
use Rattle.std.proofs.lemmas.Bool.{le-leb}
use Rattle.std.proofs.lemmas.List.{take_at}
use Rattle.std.proofs.lemmas.Nat.{from_le_bytes-to_le_bytes_2, from_le_bytes-to_le_bytes_8}
use Rattle.std.proofs.lemmas.Slice.Eq.{bytes_eq-Decides}
use Rattle.ox_outside.specs.declared.site.Which.{Which}
use Rattle.ox_gated.specs.Layout.{Layout, layout_of, has_layout, is_lawful, opening_at, head_of, head_front, head_bytes, checkpoint_bytes}
use Rattle.ox_gated.specs.OtherFile.{found_in}
use Rattle.ox_gated.specs.Reading.{Chain, found_or_fault, body_reading}
use Rattle.ox_gated.specs.declared.head.Head.{Head}
use Rattle.ox_gated.specs.declared.head.Opening.{Opening}
use Rattle.ox_gated.proofs.Chain.{chain_shut}
use Rattle.ox_gated.proofs.CurrentByFront.{body_on}
use Rattle.ox_gated.proofs.LayoutLaws.{Laws, laws_of}

-- five letters, one by one
record Letters (letters : List ℕ) : Type 0 where
  a : ℕ
  b : ℕ
  c : ℕ
  d : ℕ
  e : ℕ
  are : letters ≡ a ∷ b ∷ c ∷ d ∷ e ∷ []

five : (letters : List ℕ) → length letters ≡ 5 → Letters letters
five [] size = absurd (omega (arith, size))
five (a ∷ []) size = absurd (omega (arith, size))
five (a ∷ b ∷ []) size = absurd (omega (arith, size))
five (a ∷ b ∷ c ∷ []) size = absurd (omega (arith, size))
five (a ∷ b ∷ c ∷ d ∷ []) size = absurd (omega (arith, size))
five (a ∷ b ∷ c ∷ d ∷ e ∷ []) size = record { a = a; b = b; c = c; d = d; e = e; are = refl }
five (a ∷ b ∷ c ∷ d ∷ e ∷ f ∷ more) size = absurd (omega (arith, size))

-- a front behind these letters
abbrev behind_letters : List ℕ → Head → ℕ → List ℕ
behind_letters letters head size = letters ++ head.version ∷ head.profile ∷ to_le_bytes w16 head.depth ++ to_le_bytes w64 head.generation ++ to_le_bytes w64 size

module _ (head : Head) (size : ℕ) (depth : head.depth < 2 ^ 16) (generation : head.generation < 2 ^ 64) (small : size < 2 ^ 64) where
  opening_behind : (gate a b c d e : ℕ) (t : List ℕ) → opening_at (gate ∷ behind_letters (a ∷ b ∷ c ∷ d ∷ e ∷ []) head size ++ t) ≡ record { head = head; size = size }
  opening_behind gate a b c d e t =
      let de = from_le_bytes-to_le_bytes_2 head.depth depth in
      let g = from_le_bytes-to_le_bytes_8 head.generation generation in
      let s = from_le_bytes-to_le_bytes_8 size small in
      λ i. record { head = record { version = head.version; profile = head.profile; depth = de i; generation = g i }; size = s i }

  opening_there : (gate : ℕ) (letters t : List ℕ) → length letters ≡ 5 → opening_at (gate ∷ behind_letters letters head size ++ t) ≡ record { head = head; size = size }
  opening_there gate letters t long =
      let l = five letters long in
      ap (λ (x : List ℕ). opening_at (gate ∷ behind_letters x head size ++ t)) l.are ∙ opening_behind gate l.a l.b l.c l.d l.e t

letters_there : (gate : ℕ) (letters t : List ℕ) (head : Head) (size : ℕ) → length letters ≡ 5 → slice_range (gate ∷ behind_letters letters head size ++ t) 1 6 ≡ letters
letters_there gate letters t head size long =
    let l = five letters long in
    ap (λ (x : List ℕ). slice_range (gate ∷ behind_letters x head size ++ t) 1 6) l.are ∙ sym l.are

front_size : (letters : List ℕ) (head : Head) (size : ℕ) → length letters ≡ 5 → length (behind_letters letters head size) ≡ 25
front_size letters head size long =
    let l = five letters long in
    ap (λ (x : List ℕ). length (behind_letters x head size)) l.are

pub length-head_bytes : (head : Head) (body : List ℕ) → length (head_bytes head body) + 1 ≡ (layout_of head.version).body_at
length-head_bytes head body =
    let laws = laws_of head.version in
    let front = head_front head (length body) in
    let sums = (layout_of head.version).sums front body in
    omega (arith, front_size (layout_of head.version).letters head (length body) laws.letters_size, laws.sums_size front body, length-append front sums)

module _ (head : Head) (body : List ℕ) (lawful : IsTrue (is_lawful head)) (depth : head.depth < 2 ^ 16) (generation : head.generation < 2 ^ 64) (small : length body < 2 ^ 64) where
  abbrev pub opening : Opening
  opening = record { head = head; size = length body }

  abbrev layout : Layout
  layout = layout_of head.version

  abbrev laws : Laws layout
  laws = laws_of head.version

  abbrev plain_front : List ℕ
  plain_front = head_front head (length body)

  abbrev sums : List ℕ
  sums = layout.sums plain_front body

  plain_size : length plain_front ≡ 25
  plain_size = front_size layout.letters head (length body) laws.letters_size

  module _ (gate : ℕ) (older : List ℕ) where
    abbrev front : List ℕ
    front = gate ∷ head_bytes head body

    pub length-front : length front ≡ layout.body_at
    length-front = omega (arith, length-head_bytes head body)

    -- what stands behind the plain front
    parted : front ++ older ≡ gate ∷ plain_front ++ (sums ++ older)
    parted = ap (λ (l : List ℕ). gate ∷ l) (append_assoc plain_front sums older)

    opened : opening_at (front ++ older) ≡ opening
    opened = ap opening_at parted ∙ opening_there head (length body) depth generation small gate layout.letters (sums ++ older) laws.letters_size

    has : has_layout layout (front ++ older) ≡ true
    has =
        let enough : nat_le layout.body_at (length (front ++ older)) ≡ true = le-leb layout.body_at (length (front ++ older)) (omega (arith, length-front, length-append front older)) in
        let letters : slice_range (front ++ older) 1 6 ≡ layout.letters = ap (λ (l : List ℕ). slice_range l 1 6) parted ∙ letters_there gate layout.letters (sums ++ older) head (length body) laws.letters_size in
        let right : layout.is_head (take layout.body_at (front ++ older)) ≡ true = ap layout.is_head (take_at front older layout.body_at length-front) ∙ laws.head_right gate plain_front body plain_size in
        let same : bytes_eq (slice_range (front ++ older) 1 6) layout.letters ≡ true = (bytes_eq-Decides (slice_range (front ++ older) 1 6) layout.letters).1 letters in
        λ i. enough i && same i && right i

    pub head_there : head_of (front ++ older) ≡ Some opening
    head_there =
        ap (λ (o : Opening). if is_lawful o.head && has_layout (layout_of o.head.version) (front ++ older) then Some o else None) opened
        ∙ (λ i. if lawful i && has i then Some opening else None)

    pub right_body : layout.is_body front body ≡ true
    right_body = laws.body_right gate plain_front body plain_size

  module _ (gate : ℕ) (older : List ℕ) where
    whole : gate ∷ checkpoint_bytes head body ++ older ≡ (gate ∷ head_bytes head body) ++ (body ++ (0 ∷ older))
    whole = ap (λ (l : List ℕ). gate ∷ l) (append_assoc (head_bytes head body ++ body) (0 ∷ []) older ∙ append_assoc (head_bytes head body) body (0 ∷ older))

    pub head_whole : head_of (gate ∷ checkpoint_bytes head body ++ older) ≡ Some opening
    head_whole = ap head_of whole ∙ head_there gate (body ++ (0 ∷ older))

    pub body_whole : (file : Which) → body_reading file (gate ∷ checkpoint_bytes head body ++ older) opening ≡ Ok (found_in file (record { head = head; body = body }))
    body_whole file =
        ap (λ (l : List ℕ). body_reading file l opening) whole
        ∙ body_on layout file opening (gate ∷ head_bytes head body) body (0 ∷ older) (length-front gate older) refl (right_body gate older)
        ∙ ap (λ (c : Chain). found_or_fault file head body c.records c.end) (chain_shut layout head.generation (layout.body_at + length body) 0 older refl)
