-- The integers of a payload are the only ones into whose varints it can be split.
use Rattle.std.proofs.Common.{◌≡◌, ℕ, zero, suc, ◌+◌, ◌-◌, ◌*◌, ◌<◌, ◌^◌, List, [], ◌∷◌, ◌++◌, length, take, drop}
use Rattle.std.proofs.Common.{cond, leb, ltb, Option, Some, None, Result, Ok, Err, refl, sym, ap, subst, ◌∙◌, arith, inl, inr}
use Rattle.std.proofs.Math.Seq.{drop-append_seam}
use Rattle.std.proofs.Math.Nat.{pow-suc}
use Rattle.std.proofs.lemmas.Bool.{cases_Bool, leb-true, ltb-true}
use Rattle.std.proofs.lemmas.List.{length-append, length-take-le, take-append-drop}
use Rattle.ox_varint.specs.Varint.{IsVarint, with_byte, varint_at, varint_within}
use Rattle.ox_varint.specs.declared.VarintFault.TheVariants.{Overflow}
use Rattle.ox_varint.specs.declared.VarintFault.{VarintFault}
use Rattle.ox_varint.proofs.GrammarLaws.{Found, IsBytes, is_found, is_read}
use Rattle.ox_runestone.specs.Causes.{AreIntegers, IsInteger}
use Rattle.ox_runestone.specs.Payload.{before, integers_of}
use Rattle.ox_runestone.proofs.PayloadLoops.{integers_of-nil, integers_of-more, integers_of-fault}

-- ---- what is split so is read so

varint_long : (text : List ℕ) (n : ℕ) → IsVarint text n → 0 < length text
varint_long [] n is = absurd is
varint_long (b ∷ text) n is = omega arith

varint_read : (text rest : List ℕ) (n : ℕ) → IsInteger text n → varint_at (text ++ rest) ≡ Ok (n, length text)
unfolding varint_at
varint_read text rest n is = is_read 18 text rest n is.varint is.bytes is.fits

pub split_is_read : (integers payload : List ℕ) → AreIntegers payload integers → integers_of payload ≡ Some integers
split_is_read [] payload is = ap integers_of is ∙ integers_of-nil
split_is_read (n ∷ integers) payload (text, rest, is, one, more) =
    let long : 0 < length text = varint_long text n one.varint in
    let at : varint_at (text ++ rest) ≡ Ok (n, length text) = varint_read text rest n one in
    let whole : 0 < length (text ++ rest) = subst (λ (m : ℕ). 0 < m) (sym (length-append text rest)) (omega arith) in
    ap integers_of is ∙ integers_of-more (text ++ rest) n (length text) whole long at
    ∙ ap (λ (l : List ℕ). before (n ∷ []) (integers_of l)) (drop-append_seam text rest)
    ∙ ap (before (n ∷ [])) (split_is_read integers rest more)

-- ---- what is read is split so

bytes_behind : (bytes : List ℕ) (len : ℕ) → IsBytes bytes → IsBytes (drop len bytes)
bytes_behind bytes zero fit = fit
bytes_behind [] (suc len) fit = fit
bytes_behind (b ∷ bytes) (suc len) fit = bytes_behind bytes len (λ i. fit (suc i))

before_nil : (n : ℕ) (more : Option (List ℕ)) → before (n ∷ []) more ≡ Some [] → ⊥
before_nil n None is = absurd cc
before_nil n (Some more) is = absurd cc

record Ahead (n m : ℕ) (integers : List ℕ) (more : Option (List ℕ)) : Type 0 where
  same : n ≡ m
  rest : more ≡ Some integers

before_cons : (n m : ℕ) (integers : List ℕ) (more : Option (List ℕ)) → before (n ∷ []) more ≡ Some (m ∷ integers) → Ahead n m integers more
before_cons n m integers None is = absurd cc
before_cons n m integers (Some more) is =
    let lists : n ∷ more ≡ m ∷ integers = cc in
    record { same = cc; rest = ap Some cc }

found_number : (bytes : List ℕ) (n len : ℕ) → IsBytes bytes → varint_at bytes ≡ Ok (n, len) → Found 18 bytes n len
unfolding varint_at
found_number bytes n len fit is = is_found 18 bytes n len fit is

done-number : (m j n k : ℕ) → ◌≡◌ {A = Result (ℕ × ℕ) VarintFault} (Ok (m, j)) (Ok (n, k)) → m ≡ n
done-number m j n k is = let p : ◌≡◌ {A = ℕ × ℕ} (m, j) (n, k) = cc in ap (λ (x : ℕ × ℕ). x.0) p

-- a number that is read has 128 bits: 18 groups of seven and the two of the last byte
with_byte_fits : (more b n len : ℕ) (r : Result (ℕ × ℕ) VarintFault) → b < 256
    → ((m j : ℕ) → r ≡ Ok (m, j) → m < 4 * 128 ^ more) → with_byte b r ≡ Ok (n, len) → n < 4 * 128 ^ suc more
with_byte_fits more b n len (Err fault) byte rest is = absurd cc
with_byte_fits more b n len (Ok x) byte rest is =
    let high : x.0 < 4 * 128 ^ more = rest x.0 x.1 refl in
    let number : b - 128 + 128 * x.0 ≡ n = done-number _ _ n len is in
    let pow : 128 ^ suc more ≡ 128 ^ more * 128 = pow-suc 128 more in
    omega (arith, pow, high, number)

some_pow : (more : ℕ) → 0 < 128 ^ more
some_pow zero = omega arith
some_pow (suc more) = let pow : 128 ^ suc more ≡ 128 ^ more * 128 = pow-suc 128 more in omega (arith, some_pow more)

within_fits : (more : ℕ) (bytes : List ℕ) (n len : ℕ) → IsBytes bytes → varint_within more bytes ≡ Ok (n, len) → n < 4 * 128 ^ more
within_fits zero [] n len fit is = absurd cc
within_fits (suc more) [] n len fit is = absurd cc
within_fits zero (b ∷ bytes) n len fit is =
    elim (cases_Bool (leb b 3)) [
      | inl low ↦ let e : Ok (b, 1) ≡ Ok (n, len) = sym (ap (λ t. cond t (Ok (b, 1)) (Err Overflow)) low) ∙ is in
          let number : b ≡ n = done-number b 1 n len e in omega (arith, leb-true b 3 low)
      | inr high ↦ let e : Err Overflow ≡ Ok (n, len) = sym (ap (λ t. cond t (Ok (b, 1)) (Err Overflow)) high) ∙ is in absurd cc
    ]
within_fits (suc more) (b ∷ bytes) n len fit is =
    elim (cases_Bool (ltb b 128)) [
      | inl low ↦ let e : Ok (b, 1) ≡ Ok (n, len) = sym (ap (λ t. cond t (Ok (b, 1)) (with_byte b (varint_within more bytes))) low) ∙ is in
          let number : b ≡ n = done-number b 1 n len e in
          let pow : 128 ^ suc more ≡ 128 ^ more * 128 = pow-suc 128 more in
          let some : 0 < 128 ^ more = some_pow more in
          omega (arith, ltb-true b 128 low)
      | inr high ↦ let e : with_byte b (varint_within more bytes) ≡ Ok (n, len)
          = sym (ap (λ t. cond t (Ok (b, 1)) (with_byte b (varint_within more bytes))) high) ∙ is in
          with_byte_fits more b n len (varint_within more bytes) (fit 0) (λ m j h. within_fits more bytes m j (λ i. fit (suc i)) h) e
    ]

small_number : (bytes : List ℕ) (n len : ℕ) → IsBytes bytes → varint_at bytes ≡ Ok (n, len) → n < 2 ^ 128
unfolding varint_at
small_number bytes n len fit at = within_fits 18 bytes n len fit at

-- the number at the front of bytes that read as these integers, and the rest that reads as the others
record Front (payload : List ℕ) (n : ℕ) (integers : List ℕ) : Type 0 where
  len : ℕ
  found : Found 18 payload n len
  fits : n < 2 ^ 128
  rest : integers_of (drop len payload) ≡ Some integers

front_of : (payload : List ℕ) (n : ℕ) (integers : List ℕ) → IsBytes payload → 0 < length payload
    → (r : Result (ℕ × ℕ) VarintFault) → varint_at payload ≡ r → integers_of payload ≡ Some (n ∷ integers) → Front payload n integers
front_of payload n integers fit long (Err fault) at is =
    let none : None ≡ Some (n ∷ integers) = sym (integers_of-fault payload fault long at) ∙ is in absurd cc
front_of payload n integers fit long (Ok found) at is =
    let f = found_number payload found.0 found.1 fit at in
    let ahead = before_cons found.0 n integers (integers_of (drop found.1 payload))
    (sym (integers_of-more payload found.0 found.1 long f.some at) ∙ is) in record {
      len = found.1;
      found = subst (λ (m : ℕ). Found 18 payload m found.1) ahead.same f;
      fits = subst (λ (m : ℕ). m < 2 ^ 128) ahead.same (small_number payload found.0 found.1 fit at);
      rest = ahead.rest;
    }

nothing_left : (payload : List ℕ) → IsBytes payload → (r : Result (ℕ × ℕ) VarintFault) → varint_at payload ≡ r
    → integers_of payload ≡ Some [] → payload ≡ []
nothing_left [] fit r at is = refl
nothing_left (b ∷ payload) fit (Err fault) at is =
    let none : None ≡ Some [] = sym (integers_of-fault (b ∷ payload) fault (omega arith) at) ∙ is in absurd cc
nothing_left (b ∷ payload) fit (Ok found) at is =
    let f = found_number (b ∷ payload) found.0 found.1 fit at in
    absurd (before_nil found.0 (integers_of (drop found.1 (b ∷ payload)))
    (sym (integers_of-more (b ∷ payload) found.0 found.1 (omega arith) f.some at) ∙ is))

some_payload : (payload : List ℕ) (n : ℕ) (integers : List ℕ) → integers_of payload ≡ Some (n ∷ integers) → 0 < length payload
some_payload [] n integers is = let none : Some [] ≡ Some (n ∷ integers) = sym integers_of-nil ∙ is in absurd cc
some_payload (b ∷ payload) n integers is = omega arith

pub read_is_split : (integers payload : List ℕ) → IsBytes payload → integers_of payload ≡ Some integers → AreIntegers payload integers
read_is_split [] payload fit is = nothing_left payload fit (varint_at payload) refl is
read_is_split (n ∷ integers) payload fit is =
    let f = front_of payload n integers fit (some_payload payload n integers is) (varint_at payload) refl is in
    let long : length (take f.len payload) ≡ f.len = length-take-le f.len payload f.found.within in
    let one : IsInteger (take f.len payload) n = record {
      varint = f.found.spelled;
      bytes = omega (arith, long, f.found.short);
      fits = f.fits;
    } in (
      take f.len payload,
      drop f.len payload,
      sym (take-append-drop f.len payload),
      one,
      read_is_split integers (drop f.len payload) (bytes_behind payload f.len fit) f.rest,
    )
