-- What a gate of a file of version 3 is, by the 41 bytes from there on, its record's payload and the sum of that.
use Rattle.std.proofs.Common.{◌≡◌, ◌≢◌, ◌∙◌, ◌≤◌, ◌<◌, ◌+◌, ◌-◌, min, inl, inr, ⊎_elim, ℕ, Bool, false, List, [], ◌∷◌, ◌++◌, length, take, drop, if◌then◌else◌, refl, sym, ap, subst, arith, length-append, length-drop, take-append-drop, append_assoc}
use Rattle.std.specs.Prelude.{Result, Ok, Err, bytes_eq, slice_range}
use Rattle.std.specs.Int.{w64, from_le_bytes}
use Rattle.std.proofs.lemmas.Bool.{cases_lt}
use Rattle.std.proofs.lemmas.List.{length-take, nil_from_length, take_all, take_at, take_min, drop-drop}
use Rattle.ox_bytes.specs.Reading.{number_at}
use Rattle.ox_gated.specs.Gate.{HasFront, IsBroken, IsCutFront, IsOpen, IsShut}
use Rattle.ox_gated.specs.Layout.{Layout, is_summed, layout_of, summed}
use Rattle.ox_gated.specs.OtherFile.{BeginsShut}
use Rattle.ox_gated.specs.Reading.{gate_behind}
use Rattle.ox_gated.specs.RecordLayout.{record_sum, summed_payload}
use Rattle.ox_gated.specs.declared.head.Head.{Head}
use Rattle.ox_gated.proofs.Chain.{is_cut, is_missing, is_open, is_shut}
use Rattle.ox_gated.proofs.LayoutLaws.{SummedRead, layout_summed, number_read, number_short, summed_again, summed_by, summed_read}

-- ---- payloads that are none

abbrev IsNone : ℕ → ℕ → List ℕ → Type 0
IsNone generation place bytes = (left : ℕ) × (summed_payload generation place bytes ≡ Err left)

none_by : (generation place : ℕ) (bytes : List ℕ) → ((found : List ℕ × List ℕ) → SummedRead generation place bytes found.0 found.1 → ⊥) → IsNone generation place bytes
none_by generation place bytes never = by (summed_payload generation place bytes) refl
  where
    by : (r : Result (List ℕ × List ℕ) ℕ) → summed_payload generation place bytes ≡ r → IsNone generation place bytes
    by (Err left) is = (left, is)
    by (Ok found) is = absurd (never found (summed_read generation place bytes found is))

-- how long the bytes are that were read
read_size : (generation place : ℕ) (bytes : List ℕ) (found : List ℕ × List ℕ) → SummedRead generation place bytes found.0 found.1 → 40 + length found.0 ≤ length bytes
read_size generation place bytes found read =
    omega (arith, ap length read.parts, length-append read.number (read.sum ++ (found.0 ++ found.1)), length-append read.sum (found.0 ++ found.1), length-append found.0 found.1, read.number_size, read.sum_size)

-- the length or the sum is cut
none_short : (generation place : ℕ) (bytes : List ℕ) → length bytes < 40 → IsNone generation place bytes
none_short generation place bytes short = none_by generation place bytes (λ found read. let size = read_size generation place bytes found read in omega (arith, size, short))

-- or the payload
none_long : (generation place : ℕ) (number sum after : List ℕ) → length number ≡ 8 → length sum ≡ 32 → length after < from_le_bytes w64 number → IsNone generation place (number ++ (sum ++ after))
none_long generation place number sum after number_size sum_size long =
    let bytes = number ++ (sum ++ after) in
    none_by generation place bytes (λ found read.
    let size = read_size generation place bytes found read in
    let same : number ≡ read.number =
    sym (take_at number (sum ++ after) 8 number_size) ∙ ap (λ (l : List ℕ). take 8 l) read.parts ∙ take_at read.number (read.sum ++ (found.0 ++ found.1)) 8 read.number_size in
    omega (arith, size, long, read.size_is, ap (from_le_bytes w64) same, number_size, sum_size, length-append number (sum ++ after), length-append sum after))

-- or it isn't as its sum says
none_wrong : (generation place : ℕ) (number sum payload t : List ℕ) → length number ≡ 8 → length sum ≡ 32 → length payload ≡ from_le_bytes w64 number → bytes_eq sum (record_sum generation place payload) ≡ false
    → IsNone generation place (number ++ (sum ++ (payload ++ t)))
none_wrong generation place number sum payload t number_size sum_size size_is wrong =
    let bytes = number ++ (sum ++ (payload ++ t)) in (
      length bytes,
      summed_by generation place number sum payload t number_size sum_size size_is ∙ ap (λ (b : Bool). if b then Ok (payload, t) else Err (length bytes)) wrong,
    )

-- ---- the first 41 bytes

pub has_front : (bytes behind sum : List ℕ) (gate size : ℕ) → bytes ≡ gate ∷ behind → gate ≢ 0 → number_at w64 behind ≡ Ok (size, sum) → length sum ≡ 32 → HasFront bytes size sum
has_front bytes behind sum gate size parts not_shut is long =
    let n = number_read w64 behind (size, sum) is in
    record {
      gate = gate;
      number = n.text;
      not_shut = not_shut;
      parts = parts ∙ ap (λ (l : List ℕ). gate ∷ l) n.parts;
      number_size = n.size;
      sum_size = long;
      size_is = n.number;
    }

-- the sum is cut
pub cut_sum : (bytes behind sum : List ℕ) (gate size : ℕ) → bytes ≡ gate ∷ behind → gate ≢ 0 → length bytes ≤ 41 → number_at w64 behind ≡ Ok (size, sum) → length sum ≢ 32 → IsCutFront bytes
cut_sum bytes behind sum gate size parts not_shut most is other =
    let n = number_read w64 behind (size, sum) is in
    let text : length n.text ≡ 8 = n.size in
    let long : length behind ≡ 8 + length sum = omega (arith, text, ap length n.parts, length-append n.text sum) in
    let within : 1 + length behind ≤ 41 = omega (arith, most, ap length parts) in
    let short : length behind < 40 = elim (cases_lt (length sum) 32) [
      | inl less ↦ omega (arith, less, long)
      | inr more ↦ absurd (other (omega (arith, more, long, within)))
    ] in
    inr (gate, behind, parts, not_shut, short)

-- or the length
pub cut_number : (bytes behind : List ℕ) (gate left : ℕ) → bytes ≡ gate ∷ behind → gate ≢ 0 → number_at w64 behind ≡ Err left → IsCutFront bytes
cut_number bytes behind gate left parts not_shut is =
    let short = number_short behind left is in
    inr (gate, behind, parts, not_shut, omega (arith, short))

-- what was read of a file from this place on, of at most 41 bytes
pub front_read : (file items : List ℕ) (place len m : ℕ) → len ≡ length file → m ≡ min (len - place) 41 → items ≡ slice_range file place (place + m) → items ≡ take 41 (drop place file)
front_read file items place len m is_len is_m is =
    let size : place + m - place ≡ min 41 (length (drop place file)) = omega (arith, is_len, is_m, length-drop place file) in
    is ∙ ap (λ (k : ℕ). take k (drop place file)) size ∙ take_min 41 (drop place file)

-- ---- at a place of a file

module _ (head : Head) (version : head.version ≡ 3) (place : ℕ) (file : List ℕ) where
  abbrev rest : List ℕ
  rest = drop place file

  abbrev front : List ℕ
  front = take 41 rest

  abbrev after : List ℕ
  after = drop 41 rest

  pub layout_is : layout_of head.version ≡ summed
  layout_is = layout_summed head.version (ap is_summed version)

  payload_is : (bytes : List ℕ) (r : Result (List ℕ × List ℕ) ℕ) → summed_payload head.generation place bytes ≡ r → (layout_of head.version).payload_at head.generation place bytes ≡ r
  payload_is bytes r is = ap (λ (l : Layout). l.payload_at head.generation place bytes) layout_is ∙ is

  parted : rest ≡ front ++ after
  parted = sym (take-append-drop 41 rest)

  cut_here : (gate : ℕ) (behind : List ℕ) → rest ≡ gate ∷ behind → gate ≢ 0 → IsNone head.generation place behind → IsBroken head place rest
  cut_here gate behind parts not_shut none = is_cut head place rest behind gate none.0 parts not_shut (payload_is behind (Err none.0) none.1)

  pub shut_here : BeginsShut front → IsShut head place rest
  shut_here shut = is_shut head place rest (shut.0 ++ after) 0 (parted ∙ ap (λ (l : List ℕ). l ++ after) shut.1) refl

  pub broken_here : IsCutFront front → IsBroken head place rest
  broken_here cut = ⊎_elim
      (λ (none : front ≡ []).
      let empty : length rest ≡ 0 = let size = ap length none in omega (arith, size, length-take 41 rest) in
      is_missing head place rest (nil_from_length rest empty))
      (λ (gated : (gate : ℕ) × (behind : List ℕ) × (front ≡ gate ∷ behind) × (gate ≢ 0) × (length behind < 40)).
      let all : front ≡ rest = let size = ap length gated.2 in take_all 41 rest (omega (arith, size, gated.4, length-take 41 rest)) in
      cut_here gated.0 gated.1 (sym all ∙ gated.2) gated.3 (none_short head.generation place gated.1 gated.4))
      cut

  module _ (size : ℕ) (sum : List ℕ) (has : HasFront front size sum) where
    from_gate : rest ≡ has.gate ∷ (has.number ++ (sum ++ after))
    from_gate = parted ∙ ap (λ (l : List ℕ). l ++ after) has.parts ∙ ap (λ (l : List ℕ). has.gate ∷ l) (append_assoc has.number sum after)

    -- the whole front is there
    pub front_whole : place + 41 ≤ length file
    front_whole =
        let long = ap length has.parts in
        omega (arith, long, length-append has.number sum, has.number_size, has.sum_size, length-take 41 rest, length-drop place file)

    pub long_here : length file < place + 41 + size → IsBroken head place rest
    long_here long =
        let less : length after < from_le_bytes w64 has.number = let at = front_whole in omega (arith, long, at, has.size_is, length-drop 41 rest, length-drop place file) in
        cut_here has.gate _ from_gate has.not_shut (none_long head.generation place has.number sum after has.number_size has.sum_size less)

    module _ (payload : List ℕ) (is : payload ≡ slice_range file (place + 41) (place + 41 + size)) (long : length payload ≡ size) where
      abbrev t : List ℕ
      t = drop size after

      payload_there : after ≡ payload ++ t
      payload_there =
          let one : place + 41 + size - (place + 41) ≡ size = omega arith in
          let there : payload ≡ take size after = is ∙ ap (λ (k : ℕ). take k (drop (place + 41) file)) one ∙ ap (λ (l : List ℕ). take size l) (sym (drop-drop 41 place file)) in
          sym (take-append-drop size after) ∙ ap (λ (l : List ℕ). l ++ t) (sym there)

      there_from : rest ≡ has.gate ∷ (has.number ++ (sum ++ (payload ++ t)))
      there_from = from_gate ∙ ap (λ (l : List ℕ). has.gate ∷ (has.number ++ (sum ++ l))) payload_there

      pub wrong_here : bytes_eq sum (record_sum head.generation place payload) ≡ false → IsBroken head place rest
      wrong_here wrong = cut_here has.gate _ there_from has.not_shut (none_wrong head.generation place has.number sum payload t has.number_size has.sum_size (long ∙ has.size_is) wrong)

      pub open_here : sum ≡ record_sum head.generation place payload → IsOpen head place rest payload (drop (gate_behind summed place payload) file)
      open_here right =
          let found = summed_again head.generation place has.number sum payload t has.number_size has.sum_size (long ∙ has.size_is) right in
          let at : place + (41 + length payload) ≡ place + 41 + size = omega (arith, long) in
          let behind : t ≡ drop (gate_behind summed place payload) file =
          ap (λ (l : List ℕ). drop size l) (drop-drop 41 place file) ∙ drop-drop size (place + 41) file ∙ ap (λ (k : ℕ). drop k file) (sym at) in
          subst (IsOpen head place rest payload) behind (is_open head place rest _ payload t has.gate there_from has.not_shut (payload_is _ (Ok (payload, t)) found))
