-- An outpoint is what its parts spell.
use Rattle.std.proofs.Common.{◌≡◌, ◌≢◌, true≢false, Bool, true, false, ℕ, ◌+◌, ◌-◌, ◌<◌, ◌≤◌, ◌^◌, ◌==◌, ◌&&◌, inl, inr, ltb, List, [], ◌∷◌, ◌++◌, length, get_or, take, drop, reverse, append_assoc, Option, Some, None, MatchResult, Result, Ok, Err, decimal, bytes_eq, refl, sym, ap, ap₂, ◌∙◌, subst, arith, unwrap_or, ltb-true, eqb-true}
use Rattle.std.specs.List.{before_first, after_first, list_any}
use Rattle.std.specs.Result.{OkIff, result_ok, result_unwrap_or}
use Rattle.std.specs.Str.Parse.{digits_value}
use Rattle.std.proofs.Math.Seq.{take-append_seam, drop-append-add, split_at}
use Rattle.std.proofs.lemmas.Bool.{cases_lt}
use Rattle.std.proofs.lemmas.List.{get_or_past, get_or-reverse, length-reverse, reverse-reverse, length-take-le, take_all, length-drop}
use Rattle.hex.specs.Hex.{IsBytes, decode_of, decode_sized, encode_lower, lower_digits}
use Rattle.hex.specs.declared.error.FromHexError.{FromHexError}
use Rattle.hex.proofs.HexLemmas.{decode_of-even, decode_of-ok, decode_sized-ok, decode_sized-twice, decode_sized-encode_lower, length-encode_with}
use Rattle.ox_block.specs.declared.block.OutPoint.{OutPoint}
use Rattle.ox_rules.specs.Text.{outpoint_text, hash_text}
use Rattle.ox_replies.specs.Texts.{number_in, outpoint_in}
use Rattle.ox_replies.proofs.Halves.{first_half, second_half}
use Rattle.ox_replies.proofs.Read.{number_read, number_written, outpoint_read, outpoint_written}
use Rattle.ox_query.specs.Sides.{Sides}
use Rattle.ox_query.proofs.Capitals.{is_capital, printed_small, pairs_printed}
use Rattle.ox_query.proofs.Spelled.{test_passed}

reverse_bytes : (xs : List ℕ) → IsBytes xs → IsBytes (reverse xs)
reverse_bytes xs h i = elim (cases_lt i (length xs)) [
  | inl within ↦ subst (λ (x : ℕ). x < 256) (sym (get_or-reverse xs i 0 within)) (h (length xs - 1 - i))
  | inr past ↦ subst (λ (x : ℕ). x < 256) (sym (get_or_past (reverse xs) i 0 (omega (arith, past, length-reverse xs)))) (omega arith)
]

-- what a slice's decoding told
abbrev pub Told : List ℕ → Result (Unit {0}) FromHexError → List ℕ → Type 0
Told digits r out = MatchResult (decode_sized digits 32) (λ bytes. (r ≡ Ok tt) × (out ≡ bytes)) (λ e. r ≡ Err e)

-- the digits of a hash are read as its bytes, last first
digits_read : (digits hash : List ℕ) → length hash ≡ 32 → IsBytes hash → digits ≡ hash_text hash → decode_sized digits 32 ≡ Ok (reverse hash)
unfolding hash_text
digits_read digits hash long bytes e =
    ap (λ d. decode_sized d 32) e ∙ decode_sized-encode_lower (reverse hash) 32 (length-reverse hash ∙ long) (reverse_bytes hash bytes)

told_of : (digits : List ℕ) (r : Result (Unit {0}) FromHexError) (out hash : List ℕ) → Told digits r out
    → length hash ≡ 32 → IsBytes hash → digits ≡ hash_text hash → (r ≡ Ok tt) × (out ≡ reverse hash)
told_of digits r out hash told long bytes e =
    subst (λ (d : Result (List ℕ) FromHexError). MatchResult d (λ bytes. (r ≡ Ok tt) × (out ≡ bytes)) (λ e. r ≡ Err e)) (digits_read digits hash long bytes e) told

-- what isn't decoded is no hash
pub no_digits : (digits : List ℕ) (e : FromHexError) (out : List ℕ) → Told digits (Err e) out
    → (hash : List ℕ) → length hash ≡ 32 → IsBytes hash → digits ≢ hash_text hash
no_digits digits e out told hash long bytes is =
    let no : Err e ≡ Ok tt = (told_of digits (Err e) out hash told long bytes is).0 in absurd cc

-- digits with a capital letter are no hash
pub with_capitals : (digits : List ℕ) (capitals : Bool) → capitals ≡ list_any is_capital digits → capitals ≡ true
    → (hash : List ℕ) → length hash ≡ 32 → IsBytes hash → digits ≢ hash_text hash
unfolding hash_text
with_capitals digits capitals is some hash long bytes e =
    true≢false (sym some ∙ is ∙ ap (list_any is_capital) e ∙ printed_small (reverse hash))

decoded : (out : List ℕ) (d : Result (List ℕ) FromHexError) (r : Result (Unit {0}) FromHexError) → r ≡ Ok tt
    → MatchResult d (λ bytes. (r ≡ Ok tt) × (out ≡ bytes)) (λ e. r ≡ Err e) → d ≡ Ok out
decoded out (Ok bytes) r ok told = ap Ok (sym told.1)
decoded out (Err e) r ok told = let no : Err e ≡ Ok tt = sym told ∙ ok in absurd cc

decoded_of : (digits out : List ℕ) → Told digits (Ok tt) out → decode_of digits ≡ Ok out
decoded_of digits out told =
    let is : decode_sized digits 32 ≡ Ok out = decoded out (decode_sized digits 32) (Ok tt) refl told in
    sym (decode_sized-twice digits 32 (decode_sized-ok digits 32 out is)) ∙ is

pub hash_bytes : (digits out : List ℕ) → Told digits (Ok tt) out → (length (reverse out) ≡ 32) × IsBytes (reverse out)
hash_bytes digits out told =
    let is : decode_sized digits 32 ≡ Ok out = decoded out (decode_sized digits 32) (Ok tt) refl told in
    let len = decode_sized-ok digits 32 out is in
    let ok = decode_of-ok digits out (decoded_of digits out told) in
    (omega (arith, length-reverse out, len, ok.2), reverse_bytes out ok.3)

-- digits without a capital letter are those that are printed for what they decode to
pub printed_hash : (digits out : List ℕ) (capitals : Bool) → capitals ≡ list_any is_capital digits → capitals ≡ false
    → Told digits (Ok tt) out → digits ≡ hash_text (reverse out)
unfolding hash_text
printed_hash digits out capitals is none told =
    let ok = decoded_of digits out told in
    let even = (decode_of-ok digits out ok).0 in
    sym (pairs_printed 0 digits out (sym (decode_of-even digits even) ∙ ok) (sym is ∙ none)) ∙ ap encode_lower (sym (reverse-reverse out))

-- two texts with a colon at the same place
apart : (a b x y : List ℕ) → length a ≡ length b → a ++ 58 ∷ x ≡ b ++ 58 ∷ y → (a ≡ b) × (x ≡ y)
apart a b x y same e = (
  sym (take-append_seam a (58 ∷ x)) ∙ ap₂ (λ (n : ℕ) (t : List ℕ). take n t) same e ∙ take-append_seam b (58 ∷ y),
  sym (drop-append-add a (58 ∷ x) 1) ∙ ap₂ (λ (n : ℕ) (t : List ℕ). drop (n + 1) t) same e ∙ drop-append-add b (58 ∷ y) 1,
)

-- a colon behind 64 bytes has both its sides
pub cut_at : (part : List ℕ) → 64 < length part → get_or part 64 0 ≡ 58 → Sides part (take 64 part) (take (length part - 65) (drop 65 part))
cut_at part within colon = (
  split_at part 64 0 within ∙ ap₂ (λ (c : ℕ) (rest : List ℕ). take 64 part ++ c ∷ rest) colon (sym (take_all (length part - 65) (drop 65 part) rest)),
  front,
)
  where
    rest : length (drop 65 part) ≤ length part - 65
    rest = omega (arith, length-drop 65 part)

    front : length (take 64 part) ≡ 64
    front = length-take-le 64 part (omega arith)

parts_of : (at : OutPoint) → outpoint_text at ≡ hash_text at.txid.0 ++ 58 ∷ decimal at.index
unfolding outpoint_text
parts_of at = append_assoc (hash_text at.txid.0) (58 ∷ []) (decimal at.index)

digits_long : (hash : List ℕ) → length hash ≡ 32 → length (hash_text hash) ≡ 64
unfolding hash_text
digits_long hash long = omega (arith, length-encode_with lower_digits (reverse hash), length-reverse hash, long)

-- no outpoint is printed so
abbrev pub NoneIs : List ℕ → Type 0
NoneIs text = (at : OutPoint) → length at.txid.0 ≡ 32 → IsBytes at.txid.0 → at.index < 2 ^ 32 → text ≢ outpoint_text at

sides_are : (text digits rest : List ℕ) (at : OutPoint) → Sides text digits rest → length at.txid.0 ≡ 32 → text ≡ outpoint_text at
    → (digits ≡ hash_text at.txid.0) × (rest ≡ decimal at.index)
sides_are text digits rest at sides long is =
    apart digits (hash_text at.txid.0) rest (decimal at.index) (sides.1 ∙ sym (digits_long at.txid.0 long)) (sym sides.0 ∙ is ∙ parts_of at)

none_spelled : (text : List ℕ) → NoneIs text → None ≡ outpoint_in text
none_spelled text none = by (outpoint_in text) refl
  where
    by : (r : Option OutPoint) → outpoint_in text ≡ r → None ≡ outpoint_in text
    by None e = sym e
    by (Some at) e =
        let txid = reverse (result_unwrap_or (decode_of (before_first (λ c. c == 58) text)) []) in
        let index = digits_value 10 (after_first (λ c. c == 58) text) in
        let spelled : OutPoint = record { txid = record { 0 = txid }; index = index } in
        let is = test_passed (((length txid == 32) && ltb index (2 ^ 32)) && bytes_eq text (outpoint_text spelled)) spelled at e in
        let fits = first_half ((length txid == 32) && ltb index (2 ^ 32)) (bytes_eq text (outpoint_text spelled)) is.0 in
        let long : length txid ≡ 32 = eqb-true (length txid) 32 (first_half (length txid == 32) (ltb index (2 ^ 32)) fits) in
        let small : index < 2 ^ 32 = ltb-true index (2 ^ 32) (second_half (length txid == 32) (ltb index (2 ^ 32)) fits) in
        absurd (none spelled long (bytes_of (decode_of (before_first (λ c. c == 58) text)) refl) small (outpoint_read text at e ∙ ap outpoint_text (sym is.1)))
      where
        bytes_of : (r : Result (List ℕ) FromHexError) → decode_of (before_first (λ c. c == 58) text) ≡ r → IsBytes (reverse (result_unwrap_or r []))
        bytes_of (Ok bytes) d = reverse_bytes bytes (decode_of-ok (before_first (λ c. c == 58) text) bytes d).3
        bytes_of (Err x) d = reverse_bytes [] (λ i. omega arith)

-- the four causes of none: no colon there, no hash, no number, and one that is too large
pub without_sides : (text : List ℕ) → ((digits rest : List ℕ) → length digits ≡ 64 → text ≢ digits ++ 58 ∷ rest) → None ≡ outpoint_in text
without_sides text none = none_spelled text (λ at long bytes small e. none (hash_text at.txid.0) (decimal at.index) (digits_long at.txid.0 long) (e ∙ parts_of at))

pub without_hash : (text digits rest : List ℕ) → Sides text digits rest
    → ((hash : List ℕ) → length hash ≡ 32 → IsBytes hash → digits ≢ hash_text hash) → None ≡ outpoint_in text
without_hash text digits rest sides none =
    none_spelled text (λ at long bytes small e. none at.txid.0 long bytes (sides_are text digits rest at sides long e).0)

index_read : (text digits rest : List ℕ) (at : OutPoint) → Sides text digits rest → length at.txid.0 ≡ 32 → at.index < 2 ^ 32
    → text ≡ outpoint_text at → number_in rest ≡ Some at.index
index_read text digits rest at sides long small e =
    ap number_in (sides_are text digits rest at sides long e).1 ∙ number_written at.index (omega (arith, small))

pub without_number : (text digits rest : List ℕ) → Sides text digits rest → None ≡ number_in rest → None ≡ outpoint_in text
without_number text digits rest sides none =
    none_spelled text (λ at long bytes small e. let no : None ≡ Some at.index = none ∙ index_read text digits rest at sides long small e in absurd cc)

pub past_numbers : (text digits rest : List ℕ) (n : ℕ) → Sides text digits rest → Some n ≡ number_in rest → 2 ^ 32 ≤ n → None ≡ outpoint_in text
past_numbers text digits rest n sides is past =
    none_spelled text (λ at long bytes small e.
    let same : n ≡ at.index = ap (λ o. unwrap_or o n) (is ∙ index_read text digits rest at sides long small e) in
    omega (arith, same, small, past))

-- an index that fits 32 bits, or is none
pub index_within : {E : Type 0} (r : Result ℕ E) (n i : ℕ) → OkIff r (n < 4294967296) n → Some i ≡ result_ok r → (i ≡ n) × (i < 2 ^ 32)
index_within (Ok x) n i h e = (first, omega (arith, h.0, first))
  where
    first : i ≡ n
    first = let same : i ≡ x = ap (λ o. unwrap_or o i) e in same ∙ h.1
index_within (Err e) n i h is = let no : Some i ≡ None = is in absurd cc

pub index_past : {E : Type 0} (r : Result ℕ E) (n : ℕ) → OkIff r (n < 4294967296) n → None ≡ result_ok r → 2 ^ 32 ≤ n
index_past (Ok x) n h is = let no : None ≡ Some x = is in absurd cc
index_past (Err e) n h is = omega (arith, h)

pub outpoint_is : (text digits rest : List ℕ) (at : OutPoint) → Sides text digits rest → digits ≡ hash_text at.txid.0
    → length at.txid.0 ≡ 32 → IsBytes at.txid.0 → Some at.index ≡ number_in rest → at.index < 2 ^ 32 → Some at ≡ outpoint_in text
outpoint_is text digits rest at sides is long bytes number small =
    sym (ap outpoint_in (sides.0 ∙ ap₂ (λ (d r : List ℕ). d ++ 58 ∷ r) is (number_read rest at.index (sym number)) ∙ sym (parts_of at)) ∙ outpoint_written at long bytes small)
