-- What is so of each layout, by which all else goes: where the body begins, how long the parts are, and that what is spelled is read, whatever follows it.
use Rattle.std.proofs.Common.{◌≡◌, ◌∙◌, ◌≤◌, ◌<◌, ◌+◌, ◌^◌, inl, inr, ℕ, Bool, true, false, List, [], ◌∷◌, ◌++◌, length, take, drop, if◌then◌else◌, refl, sym, ap, subst, arith, length-append, take-append-drop, append_assoc}
use Rattle.std.specs.Prelude.{Result, Ok, Err, nat_lt, bytes_eq}
use Rattle.std.specs.Int.{Width, w32, w64, byte_len, from_le_bytes, to_le_bytes}
use Rattle.std.proofs.lemmas.Bool.{cases_lt, ltb-false, le-ltb}
use Rattle.std.proofs.lemmas.List.{append-nil, length-take, take_at, drop_at, take-take, drop-take}
use Rattle.std.proofs.lemmas.Slice.Eq.{bytes_eq-Decides}
use Rattle.sha2.specs.Sha256.{sha256}
use Rattle.sha2.proofs.Facts256.{length-sha256}
use Rattle.ox_bytes.specs.Reading.{number_at, run_at, ◌>>=◌}
use Rattle.ox_bytes.proofs.Laws.{bind_ok, guard_ok, ok_is, number_law, run_law, wide32, wide64}
use Rattle.ox_gated.specs.Layout.{Layout, layout_of, plain, summed, is_summed}
use Rattle.ox_gated.specs.RecordLayout.{plain_payload, plain_record, record_sum, summed_payload, summed_record}

-- ---- fields

-- a number that was read
pub record NumberRead (w : Width) (bytes : List ℕ) (n : ℕ) (rest : List ℕ) : Type 0 where
  pub text : List ℕ
  pub size : length text ≡ byte_len w
  pub parts : bytes ≡ text ++ rest
  pub number : n ≡ from_le_bytes w text
  pub again : (t : List ℕ) → number_at w (text ++ t) ≡ Ok (n, t)

number_again : (w : Width) (x t : List ℕ) → length x ≡ byte_len w → number_at w (x ++ t) ≡ Ok (from_le_bytes w x, t)
unfolding number_at
number_again w x t long =
    let enough : nat_lt (length (x ++ t)) (byte_len w) ≡ false = le-ltb (length (x ++ t)) (byte_len w) (omega (arith, long, length-append x t)) in
    ap (λ (b : Bool). if b then Err (length (x ++ t)) else Ok (from_le_bytes w (take (byte_len w) (x ++ t)), drop (byte_len w) (x ++ t))) enough
    ∙ ap (λ (l : List ℕ). Ok (from_le_bytes w l, drop (byte_len w) (x ++ t))) (take_at x t (byte_len w) long)
    ∙ ap (λ (l : List ℕ). Ok (from_le_bytes w x, l)) (drop_at x t (byte_len w) long)

pub number_read : (w : Width) (bytes : List ℕ) (found : ℕ × List ℕ) → number_at w bytes ≡ Ok found → NumberRead w bytes found.0 found.1
unfolding number_at
number_read w bytes found is =
    let h = guard_ok _ _ _ _ is in
    let enough : byte_len w ≤ length bytes = ltb-false (length bytes) (byte_len w) h.0 in
    let text = take (byte_len w) bytes in
    let long : length text ≡ byte_len w = omega (arith, enough, length-take (byte_len w) bytes) in
    subst (λ (f : ℕ × List ℕ). NumberRead w bytes f.0 f.1) (ok_is {F = ℕ} _ _ h.1) (
    record {
      text = text;
      size = long;
      parts = sym (take-append-drop (byte_len w) bytes);
      number = refl;
      again = λ t. number_again w text t long;
    }
    )

-- a number that is cut
pub number_short : (bytes : List ℕ) (left : ℕ) → number_at w64 bytes ≡ Err left → length bytes < 8
number_short bytes left is = elim (cases_lt (length bytes) 8) [
  | inl short ↦ short
  | inr long ↦
      let size : length (take 8 bytes) ≡ 8 = omega (arith, long, length-take 8 bytes) in
      let no = sym (number_again w64 (take 8 bytes) (drop 8 bytes) size) ∙ ap (number_at w64) (take-append-drop 8 bytes) ∙ is in
      absurd (cc no)
]

-- a run of bytes that was read
pub record RunRead (n : ℕ) (bytes run rest : List ℕ) : Type 0 where
  pub size : length run ≡ n
  pub parts : bytes ≡ run ++ rest

pub run_read : (n : ℕ) (bytes : List ℕ) (found : List ℕ × List ℕ) → run_at n bytes ≡ Ok found → RunRead n bytes found.0 found.1
unfolding run_at
run_read n bytes found is =
    let h = guard_ok _ _ _ _ is in
    let enough : n ≤ length bytes = ltb-false (length bytes) n h.0 in
    subst (λ (f : List ℕ × List ℕ). RunRead n bytes f.0 f.1) (ok_is {F = ℕ} _ _ h.1) (
    record { size = omega (arith, enough, length-take n bytes); parts = sym (take-append-drop n bytes) }
    )

-- ---- payloads

-- a payload that was read
pub record Parts (layout : Layout) (generation place : ℕ) (bytes payload rest : List ℕ) : Type 0 where
  pub text : List ℕ
  pub size : 1 + length text ≡ layout.before_payload + length payload
  pub parts : bytes ≡ text ++ rest
  pub again : (t : List ℕ) → layout.payload_at generation place (text ++ t) ≡ Ok (payload, t)

plain_again : (payload t : List ℕ) → length payload < 2 ^ 32 → plain_payload (plain_record payload ++ t) ≡ Ok (payload, t)
unfolding plain_payload plain_record
plain_again payload t fits =
    ap (λ (l : List ℕ). number_at w32 l >>= λ n. run_at n.0 n.1) (append_assoc (to_le_bytes w32 (length payload)) payload t)
    ∙ ap (λ r. r >>= λ n. run_at n.0 n.1) ((number_law w32 (2 ^ 32) wide32).again (length payload) (payload ++ t) fits)
    ∙ (run_law (length payload)).again payload t refl

plain_size : (payload : List ℕ) → 1 + length (plain_record payload) ≡ 5 + length payload
unfolding plain_record
plain_size payload = omega (arith, length-append (to_le_bytes w32 (length payload)) payload, wide32.len (length payload))

plain_parts : (generation place : ℕ) (bytes : List ℕ) (found : List ℕ × List ℕ) → plain_payload bytes ≡ Ok found → Parts plain generation place bytes found.0 found.1
unfolding plain_payload
plain_parts generation place bytes found is =
    let first = bind_ok _ _ _ is in
    let number = number_read w32 bytes first.0 first.1 in
    let run = run_read first.0.0 first.0.1 found first.2 in
    record {
      text = number.text ++ found.0;
      size = omega (arith, number.size, length-append number.text found.0);
      parts = number.parts ∙ ap (λ (l : List ℕ). number.text ++ l) run.parts ∙ sym (append_assoc number.text found.0 found.1);
      again = λ t.
          ap (λ (l : List ℕ). number_at w32 l >>= λ n. run_at n.0 n.1) (append_assoc number.text found.0 t)
          ∙ ap (λ r. r >>= λ n. run_at n.0 n.1) (number.again (found.0 ++ t))
          ∙ (run_law first.0.0).again found.0 t run.size;
    }

abbrev checked : ℕ → ℕ → List ℕ → List ℕ → List ℕ × List ℕ → Result (List ℕ × List ℕ) ℕ
checked generation place bytes sum found = if bytes_eq sum (record_sum generation place found.0) then Ok found else Err (length bytes)

checked_ok : (generation place : ℕ) (bytes sum : List ℕ) (one found : List ℕ × List ℕ) → checked generation place bytes sum one ≡ Ok found → (bytes_eq sum (record_sum generation place found.0) ≡ true) × (one ≡ found)
checked_ok generation place bytes sum one found is = by (bytes_eq sum (record_sum generation place one.0)) refl is
  where
    by : (b : Bool) → bytes_eq sum (record_sum generation place one.0) ≡ b → (if b then Ok one else Err (length bytes)) ≡ Ok found → (bytes_eq sum (record_sum generation place found.0) ≡ true) × (one ≡ found)
    by true same is =
        let one_is = ok_is {F = ℕ} one found is in
        (subst (λ (f : List ℕ × List ℕ). bytes_eq sum (record_sum generation place f.0) ≡ true) one_is same, one_is)
    by false differs is = absurd (cc is)

-- what a payload with its sum was read of
pub record SummedRead (generation place : ℕ) (bytes payload rest : List ℕ) : Type 0 where
  pub number : List ℕ
  pub sum : List ℕ
  pub number_size : length number ≡ 8
  pub sum_size : length sum ≡ 32
  pub size_is : length payload ≡ from_le_bytes w64 number
  pub sum_is : sum ≡ record_sum generation place payload
  pub parts : bytes ≡ number ++ (sum ++ (payload ++ rest))

pub summed_read : (generation place : ℕ) (bytes : List ℕ) (found : List ℕ × List ℕ) → summed_payload generation place bytes ≡ Ok found → SummedRead generation place bytes found.0 found.1
unfolding summed_payload
summed_read generation place bytes found is =
    let first = bind_ok _ _ _ is in
    let second = bind_ok _ _ _ first.2 in
    let third = bind_ok _ _ _ second.2 in
    let number = number_read w64 bytes first.0 first.1 in
    let sum = run_read 32 first.0.1 second.0 second.1 in
    let right = checked_ok generation place bytes second.0.0 third.0 found third.2 in
    let run : RunRead first.0.0 second.0.1 found.0 found.1 = subst (λ (f : List ℕ × List ℕ). RunRead first.0.0 second.0.1 f.0 f.1) right.1 (run_read first.0.0 second.0.1 third.0 third.1) in
    record {
      number = number.text;
      sum = second.0.0;
      number_size = number.size;
      sum_size = sum.size;
      size_is = run.size ∙ number.number;
      sum_is = (bytes_eq-Decides second.0.0 (record_sum generation place found.0)).0 right.0;
      parts = number.parts ∙ ap (λ (l : List ℕ). number.text ++ l) (sum.parts ∙ ap (λ (l : List ℕ). second.0.0 ++ l) run.parts);
    }

-- what is like it is read by its sum
pub summed_by : (generation place : ℕ) (number sum payload t : List ℕ) → length number ≡ 8 → length sum ≡ 32 → length payload ≡ from_le_bytes w64 number
    → summed_payload generation place (number ++ (sum ++ (payload ++ t))) ≡ (if bytes_eq sum (record_sum generation place payload) then Ok (payload, t) else Err (length (number ++ (sum ++ (payload ++ t)))))
unfolding summed_payload
summed_by generation place number sum payload t number_size sum_size size_is =
    let bytes = number ++ (sum ++ (payload ++ t)) in
    ap (λ r. r >>= λ size. run_at 32 size.1 >>= λ s. run_at size.0 s.1 >>= λ found. checked generation place bytes s.0 found) (number_again w64 number (sum ++ (payload ++ t)) number_size)
    ∙ ap (λ r. r >>= λ s. run_at (from_le_bytes w64 number) s.1 >>= λ found. checked generation place bytes s.0 found) ((run_law 32).again sum (payload ++ t) sum_size)
    ∙ ap (λ r. r >>= λ found. checked generation place bytes sum found) ((run_law (from_le_bytes w64 number)).again payload t size_is)

-- and where that is right it is read so
pub summed_again : (generation place : ℕ) (number sum payload t : List ℕ) → length number ≡ 8 → length sum ≡ 32 → length payload ≡ from_le_bytes w64 number → sum ≡ record_sum generation place payload
    → summed_payload generation place (number ++ (sum ++ (payload ++ t))) ≡ Ok (payload, t)
summed_again generation place number sum payload t number_size sum_size size_is sum_is =
    summed_by generation place number sum payload t number_size sum_size size_is
    ∙ ap (λ (b : Bool). if b then Ok (payload, t) else Err (length (number ++ (sum ++ (payload ++ t))))) ((bytes_eq-Decides sum (record_sum generation place payload)).1 sum_is)

length-record_sum : (generation place : ℕ) (payload : List ℕ) → length (record_sum generation place payload) ≡ 32
unfolding record_sum
length-record_sum generation place payload = length-sha256 _

three : (a b c t : List ℕ) → (a ++ b ++ c) ++ t ≡ a ++ (b ++ (c ++ t))
three a b c t = append_assoc (a ++ b) c t ∙ append_assoc a b (c ++ t)

summed_back : (generation place : ℕ) (payload t : List ℕ) → length payload < 2 ^ 64 → summed_payload generation place (summed_record generation place payload ++ t) ≡ Ok (payload, t)
unfolding summed_record
summed_back generation place payload t fits =
    let number = to_le_bytes w64 (length payload) in
    let sum = record_sum generation place payload in
    ap (summed_payload generation place) (three number sum payload t)
    ∙ summed_again generation place number sum payload t (wide64.len (length payload)) (length-record_sum generation place payload) (sym (wide64.again (length payload) fits)) refl

summed_size : (generation place : ℕ) (payload : List ℕ) → 1 + length (summed_record generation place payload) ≡ 41 + length payload
unfolding summed_record
summed_size generation place payload =
    let number = to_le_bytes w64 (length payload) in
    let sum = record_sum generation place payload in
    omega (arith, length-append (number ++ sum) payload, length-append number sum, wide64.len (length payload), length-record_sum generation place payload)

summed_parts : (generation place : ℕ) (bytes : List ℕ) (found : List ℕ × List ℕ) → summed_payload generation place bytes ≡ Ok found → Parts summed generation place bytes found.0 found.1
summed_parts generation place bytes found is =
    let read = summed_read generation place bytes found is in
    let text = read.number ++ read.sum ++ found.0 in
    record {
      text = text;
      size = omega (arith, read.number_size, read.sum_size, length-append (read.number ++ read.sum) found.0, length-append read.number read.sum);
      parts = read.parts ∙ sym (three read.number read.sum found.0 found.1);
      again = λ t. ap (summed_payload generation place) (three read.number read.sum found.0 t) ∙ summed_again generation place read.number read.sum found.0 t read.number_size read.sum_size read.size_is read.sum_is;
    }

-- ---- the laws

pub record Laws (layout : Layout) : Type 0 where
  pub begins : 26 ≤ layout.body_at
  pub ends : layout.body_at ≤ 90
  pub letters_size : length layout.letters ≡ 5
  pub sums_size : (front body : List ℕ) → 26 + length (layout.sums front body) ≡ layout.body_at
  pub head_any_gate : (gate byte : ℕ) (front : List ℕ) → layout.is_head (gate ∷ front) ≡ layout.is_head (byte ∷ front)
  pub head_right : (gate : ℕ) (front body : List ℕ) → length front ≡ 25 → layout.is_head (gate ∷ front ++ layout.sums front body) ≡ true
  pub body_right : (gate : ℕ) (front body : List ℕ) → length front ≡ 25 → layout.is_body (gate ∷ front ++ layout.sums front body) body ≡ true
  pub record_size : (generation place : ℕ) (payload : List ℕ) → 1 + length (layout.record_bytes generation place payload) ≡ layout.before_payload + length payload
  pub parts : (generation place : ℕ) (bytes : List ℕ) (found : List ℕ × List ℕ) → layout.payload_at generation place bytes ≡ Ok found → Parts layout generation place bytes found.0 found.1
  pub back : (generation place : ℕ) (payload t : List ℕ) → length payload < layout.payload_limit → layout.payload_at generation place (layout.record_bytes generation place payload ++ t) ≡ Ok (payload, t)

plain_laws : Laws plain
plain_laws = record {
  begins = omega arith;
  ends = omega arith;
  letters_size = refl;
  sums_size = λ front body. refl;
  head_any_gate = λ gate byte front. refl;
  head_right = λ gate front body size. refl;
  body_right = λ gate front body size. refl;
  record_size = λ generation place payload. plain_size payload;
  parts = plain_parts;
  back = λ generation place payload t fits. plain_again payload t fits;
}

-- the sums of a head with this front and this body
module _ (gate : ℕ) (front body : List ℕ) (size : length front ≡ 25) where
  abbrev body_sum : List ℕ
  body_sum = sha256 body

  abbrev head_sum : List ℕ
  head_sum = sha256 (front ++ body_sum)

  abbrev whole : List ℕ
  whole = gate ∷ front ++ (body_sum ++ head_sum)

  parted : whole ≡ (gate ∷ front ++ body_sum) ++ head_sum
  parted = ap (λ (l : List ℕ). gate ∷ l) (sym (append_assoc front body_sum head_sum))

  head_sum_there : take 32 (drop 58 whole) ≡ head_sum
  head_sum_there =
      let long : length (gate ∷ front ++ body_sum) ≡ 58 = omega (arith, size, length-append front body_sum, length-sha256 body) in
      ap (λ (l : List ℕ). take 32 (drop 58 l)) parted
      ∙ ap (λ (l : List ℕ). take 32 l) (drop_at (gate ∷ front ++ body_sum) head_sum 58 long)
      ∙ ap (λ (l : List ℕ). take 32 l) (sym (append-nil head_sum)) ∙ take_at head_sum [] 32 (length-sha256 (front ++ body_sum))

  message_there : take 57 (drop 1 whole) ≡ front ++ body_sum
  message_there =
      let long : length (front ++ body_sum) ≡ 57 = omega (arith, size, length-append front body_sum, length-sha256 body) in
      ap (λ (l : List ℕ). take 57 (drop 1 l)) parted ∙ take_at (front ++ body_sum) head_sum 57 long

  summed_head : bytes_eq (take 32 (drop 58 whole)) (sha256 (take 57 (drop 1 whole))) ≡ true
  summed_head = (bytes_eq-Decides _ _).1 (head_sum_there ∙ ap sha256 (sym message_there))

  summed_body : bytes_eq (take 32 (drop 26 whole)) (sha256 body) ≡ true
  summed_body =
      let long : length (gate ∷ front) ≡ 26 = omega (arith, size) in
      let there = ap (λ (l : List ℕ). take 32 l) (drop_at (gate ∷ front) (body_sum ++ head_sum) 26 long) ∙ take_at body_sum head_sum 32 (length-sha256 body) in
      (bytes_eq-Decides _ _).1 there

pub summed_laws : Laws summed
summed_laws = record {
  begins = omega arith;
  ends = omega arith;
  letters_size = refl;
  sums_size = λ front body. omega (arith, length-append (sha256 body) (sha256 (front ++ sha256 body)), length-sha256 body, length-sha256 (front ++ sha256 body));
  head_any_gate = λ gate byte front. refl;
  head_right = summed_head;
  body_right = summed_body;
  record_size = summed_size;
  parts = summed_parts;
  back = summed_back;
}

pub laws_of : (version : ℕ) → Laws (layout_of version)
unfolding layout_of
laws_of version = by (is_summed version)
  where
    by : (b : Bool) → Laws (if b then summed else plain)
    by true = summed_laws
    by false = plain_laws

-- ---- by the version

pub layout_summed : (version : ℕ) → is_summed version ≡ true → layout_of version ≡ summed
unfolding layout_of
layout_summed version is = ap (λ (b : Bool). if b then summed else plain) is

pub layout_plain : (version : ℕ) → is_summed version ≡ false → layout_of version ≡ plain
unfolding layout_of
layout_plain version is = ap (λ (b : Bool). if b then summed else plain) is

pub body_summed : (version : ℕ) → is_summed version ≡ true → (front body sum : List ℕ) (right : Bool) → right ≡ bytes_eq (take 32 (drop 26 front)) sum → sum ≡ sha256 body
    → right ≡ (layout_of version).is_body (take (layout_of version).body_at front) body
body_summed version is front body sum right test sum_is =
    let cut : take 32 (drop 26 (take 90 front)) ≡ take 32 (drop 26 front) = ap (λ (l : List ℕ). take 32 l) (drop-take 26 64 front) ∙ take-take 32 64 (drop 26 front) (omega arith) in
    test ∙ (λ i. bytes_eq (sym cut i) (sum_is i)) ∙ ap (λ (l : Layout). l.is_body (take l.body_at front) body) (sym (layout_summed version is))

-- the message of a record's sum, piece by piece
pub sum_of_pieces : (generation place : ℕ) (front rest g p n : List ℕ) (size : ℕ) → g ≡ to_le_bytes w64 generation → p ≡ to_le_bytes w64 place → n ≡ to_le_bytes w64 size → size ≡ length front + length rest
    → sha256 (((([] ++ g) ++ p) ++ n) ++ front ++ rest) ≡ record_sum generation place (front ++ rest)
unfolding record_sum
sum_of_pieces generation place front rest g p n size g_is p_is n_is size_is =
    let size_of : size ≡ length (front ++ rest) = size_is ∙ sym (length-append front rest) in
    (λ i. sha256 (((g_is i ++ p_is i) ++ (n_is ∙ ap (to_le_bytes w64) size_of) i) ++ front ++ rest))
    ∙ ap sha256 (append_assoc ((to_le_bytes w64 generation ++ to_le_bytes w64 place) ++ to_le_bytes w64 (length (front ++ rest))) front rest)
