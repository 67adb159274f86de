-- Hashes and paths are read from what is written of them.
use Rattle.std.proofs.Common.{inl, inr, ◌≡◌, ◌≢◌, ◌∙◌, ℕ, ◌+◌, ◌-◌, ◌<◌, ◌==◌, ◌&&◌, Bool, true, false, cond, List, [], ◌++◌, length, take, drop, reverse, refl, sym, ap, subst, arith, Option, Some, None, Ok, Err, Result, bytes_eq, codes, length-append, append_assoc, eqb-true, true≢false}
use Rattle.std.specs.Option.{option_and_then}
use Rattle.std.specs.Prelude.{IfNone, IfSome}
use Rattle.std.specs.Result.{result_unwrap_or}
use Rattle.std.proofs.lemmas.Bool.{cases_lt, eq-eqb}
use Rattle.std.proofs.lemmas.List.{drop_at, get_or_past, get_or-reverse, length-reverse, reverse-reverse, take-append-drop, take_at}
use Rattle.std.proofs.lemmas.Bool.Decides.{Decides-eqb}
use Rattle.std.proofs.lemmas.Slice.Eq.{bytes_eq-Decides, slice_eq-Decides}
use Rattle.std.specs.Cmp.Lexicographic.{pointwise}
use Rattle.hex.specs.Hex.{IsBytes, decode_of, lower_digits}
use Rattle.hex.specs.declared.error.FromHexError.{FromHexError}
use Rattle.hex.proofs.HexLemmas.{decode_of-ok, decode_of-encode_lower, length-encode_with}
use Rattle.ox_rules.specs.Text.{hash_text}
use Rattle.ox_asof.specs.Paths.{hash_in, path_and_hash, path_at}

reverse_bytes : (xs : List ℕ) → IsBytes xs → IsBytes (reverse xs)
reverse_bytes xs h i = elim (cases_lt i (length xs)) [
  | inl within ↦ subst (λ (x : ℕ). x < 256) (sym (get_or-reverse xs i 0 within)) (h (length xs - 1 - i))
  | inr past ↦ subst (λ (x : ℕ). x < 256) (sym (get_or_past (reverse xs) i 0 (omega (arith, past, length-reverse xs)))) (omega arith)
]

first_half : (a b : Bool) → (a && b) ≡ true → a ≡ true
first_half true b is = refl
first_half false b is = is

second_half : (a b : Bool) → (a && b) ≡ true → b ≡ true
second_half true b is = is
second_half false b is = absurd (cc is)

both : (a b : Bool) → a ≡ true → b ≡ true → (a && b) ≡ true
both a b one two = ap (λ (c : Bool). c && b) one ∙ two

-- what a test let through
passed : {A : Type 0} (b : Bool) (x y : A) → cond b (Some x) None ≡ Some y → (b ≡ true) × (x ≡ y)
passed true x y is = (refl, cc is)
passed false x y is = absurd (cc is)

-- ---- a hash

pub hash_long : (hash : List ℕ) → length hash ≡ 32 → length (hash_text hash) ≡ 64
unfolding hash_text
hash_long hash long = omega (arith, length-encode_with lower_digits (reverse hash), length-reverse hash, long)

decoded : (hash : List ℕ) → IsBytes hash → reverse (result_unwrap_or (decode_of (hash_text hash)) []) ≡ hash
unfolding hash_text
decoded hash bytes =
    ap (λ (r : Result (List ℕ) FromHexError). reverse (result_unwrap_or r [])) (decode_of-encode_lower (reverse hash) (reverse_bytes hash bytes))
    ∙ reverse-reverse hash

pub hash_written : (hash : List ℕ) → length hash ≡ 32 → IsBytes hash → hash_in (hash_text hash) ≡ Some hash
hash_written hash long bytes =
    let read = decoded hash bytes in
    ap (λ (h : List ℕ). cond ((length h == 32) && bytes_eq (hash_text hash) (hash_text h)) (Some h) None) read
    ∙ ap (λ (b : Bool). cond b (Some hash) None)
    (both (length hash == 32) (bytes_eq (hash_text hash) (hash_text hash)) (eq-eqb (length hash) 32 long) ((bytes_eq-Decides (hash_text hash) (hash_text hash)).1 refl))

pub record IsHash (text hash : List ℕ) : Type 0 where
  pub is : text ≡ hash_text hash
  pub long : length hash ≡ 32
  pub bytes : IsBytes hash

pub hash_read : (text hash : List ℕ) → hash_in text ≡ Some hash → IsHash text hash
hash_read text hash is =
    let found : List ℕ = reverse (result_unwrap_or (decode_of text) []) in
    let through = passed ((length found == 32) && bytes_eq text (hash_text found)) found hash is in
    let same : found ≡ hash = through.1 in
    record {
      is = (bytes_eq-Decides text (hash_text found)).0 (second_half _ _ through.0) ∙ ap hash_text same;
      long = sym (ap (λ (h : List ℕ). length h) same) ∙ eqb-true (length found) 32 (first_half _ _ through.0);
      bytes = subst IsBytes same (bytes_of (decode_of text) refl);
    }
  where
    bytes_of : (r : Result (List ℕ) FromHexError) → decode_of text ≡ r → IsBytes (reverse (result_unwrap_or r []))
    bytes_of (Ok bytes) d = reverse_bytes bytes (decode_of-ok text bytes d).3
    bytes_of (Err x) d = reverse_bytes [] (λ i. omega arith)

pub none_read : (text : List ℕ) → ((hash : List ℕ) → length hash ≡ 32 → IsBytes hash → text ≢ hash_text hash) → hash_in text ≡ None
none_read text none = by_read (hash_in text) refl where
  by_read : (o : Option (List ℕ)) → hash_in text ≡ o → o ≡ None
  by_read None is = refl
  by_read (Some hash) is = let read = hash_read text hash is in absurd (none hash read.long read.bytes read.is)

-- ---- a path

path_long : (path hash : List ℕ) → length hash ≡ 32 → length (path_at path hash) ≡ length path + 68
path_long path hash long =
    let four : length (codes "?at=") ≡ 4 = refl in
    omega (arith, four, length-append (path ++ codes "?at=") (hash_text hash), length-append path (codes "?at="), hash_long hash long)

abbrev with_front : List ℕ → List ℕ → Option (List ℕ) → Option (List ℕ × List ℕ)
with_front path front hash = option_and_then (λ h. cond (bytes_eq path (path_at front h)) (Some (front, h)) None) hash

pub path_written : (path hash : List ℕ) → length hash ≡ 32 → IsBytes hash → path_and_hash (path_at path hash) ≡ Some (path, hash)
path_written path hash long bytes =
    let whole : List ℕ = path_at path hash in
    let size : length whole ≡ length path + 68 = path_long path hash long in
    let four : length (codes "?at=") ≡ 4 = refl in
    let front : take (length whole - 68) whole ≡ path =
    ap (take (length whole - 68)) (append_assoc path (codes "?at=") (hash_text hash))
    ∙ take_at path (codes "?at=" ++ hash_text hash) (length whole - 68) (omega (arith, size)) in
    let digits : drop (length whole - 64) whole ≡ hash_text hash =
    drop_at (path ++ codes "?at=") (hash_text hash) (length whole - 64) (omega (arith, size, four, length-append path (codes "?at="))) in
    ap (λ (f : List ℕ). with_front whole f (hash_in (drop (length whole - 64) whole))) front
    ∙ ap (λ (text : List ℕ). with_front whole path (hash_in text)) digits
    ∙ ap (with_front whole path) (hash_written hash long bytes)
    ∙ ap (λ (b : Bool). cond b (Some (path, hash)) None) ((bytes_eq-Decides whole whole).1 refl)

pub record IsCut (whole path hash : List ℕ) : Type 0 where
  pub is : whole ≡ path_at path hash
  pub long : length hash ≡ 32
  pub bytes : IsBytes hash

pub path_read : (whole path hash : List ℕ) → path_and_hash whole ≡ Some (path, hash) → IsCut whole path hash
path_read whole path hash is = by_hash (hash_in (drop (length whole - 64) whole)) refl is where
  by_hash : (o : Option (List ℕ)) → hash_in (drop (length whole - 64) whole) ≡ o → with_front whole (take (length whole - 68) whole) o ≡ Some (path, hash) → IsCut whole path hash
  by_hash None read none = absurd (cc none)
  by_hash (Some h) read some =
      let front : List ℕ = take (length whole - 68) whole in
      let through = passed (bytes_eq whole (path_at front h)) (front, h) (path, hash) some in
      let found = hash_read (drop (length whole - 64) whole) h read in
      let first : front ≡ path = ap (λ (x : List ℕ × List ℕ). x.0) through.1 in
      let second : h ≡ hash = ap (λ (x : List ℕ × List ℕ). x.1) through.1 in
      record {
        is = (bytes_eq-Decides whole (path_at front h)).0 through.0 ∙ ap (λ (f : List ℕ). path_at f h) first ∙ ap (path_at path) second;
        long = sym (ap (λ (x : List ℕ). length x) second) ∙ found.long;
        bytes = subst IsBytes second found.bytes;
      }

-- no path that isn't written so
pub none_cut : (whole : List ℕ) → ((path hash : List ℕ) → length hash ≡ 32 → IsBytes hash → whole ≢ path_at path hash) → path_and_hash whole ≡ None
none_cut whole none = by_cut (path_and_hash whole) refl where
  by_cut : (o : Option (List ℕ × List ℕ)) → path_and_hash whole ≡ o → o ≡ None
  by_cut None is = refl
  by_cut (Some cut) is = let read = path_read whole cut.0 cut.1 is in absurd (none cut.0 cut.1 read.long read.bytes read.is)

-- a path that is too short for a hash
pub short_path : (whole : List ℕ) → length whole < 68 → path_and_hash whole ≡ None
short_path whole short = none_cut whole (λ path hash long bytes is.
    let size = path_long path hash long in
    let same = ap (λ (l : List ℕ). length l) is in
    omega (arith, short, size, same))

-- ---- what is read

-- a hash that is printed so is the one, and where there is none no other is
pub hash_found : (text : List ℕ) (found : Option (List ℕ)) → IfSome found (λ hash. text ≡ hash_text hash) → IfSome found (λ hash. length hash ≡ 32) → IfSome found (λ hash. IsBytes hash)
    → IfNone found ((hash : List ℕ) → length hash ≡ 32 → IsBytes hash → text ≢ hash_text hash) → found ≡ hash_in text
hash_found text (Some hash) is long bytes none = sym (ap hash_in is ∙ hash_written hash long bytes)
hash_found text None is long bytes none = sym (none_read text none)

-- where a path is cut
module _ (whole front ending : List ℕ) (parts : whole ≡ front ++ ending) (long : length front + 68 ≡ length whole) where
  front_is : (path hash : List ℕ) → length hash ≡ 32 → whole ≡ path_at path hash → path ≡ front
  front_is path hash short is =
      let size = path_long path hash short in
      let same = ap (λ (l : List ℕ). length l) is in
      let count : length path ≡ length front = omega (arith, size, same, long) in
      sym (take_at path (codes "?at=" ++ hash_text hash) (length front) count)
      ∙ ap (take (length front)) (sym (is ∙ append_assoc path (codes "?at=") (hash_text hash)) ∙ parts)
      ∙ take_at front ending (length front) refl

  ending_is : (path hash : List ℕ) → length hash ≡ 32 → whole ≡ path_at path hash → ending ≡ codes "?at=" ++ hash_text hash
  ending_is path hash short is =
      let size = path_long path hash short in
      let same = ap (λ (l : List ℕ). length l) is in
      let count : length path ≡ length front = omega (arith, size, same, long) in
      sym (drop_at front ending (length front) refl)
      ∙ ap (drop (length front)) (sym parts ∙ is ∙ append_assoc path (codes "?at=") (hash_text hash))
      ∙ drop_at path (codes "?at=" ++ hash_text hash) (length front) count

  -- the ending isn't marked
  pub no_mark : take 4 ending ≢ codes "?at=" → None ≡ path_and_hash whole
  no_mark other = sym (none_cut whole (λ path hash short bytes is. other (ap (take 4) (ending_is path hash short is))))

  -- no hash stands behind the mark
  pub no_hash : (digits : List ℕ) → digits ≡ drop 4 ending → None ≡ hash_in digits → None ≡ path_and_hash whole
  no_hash digits behind none = sym (none_cut whole (λ path hash short bytes is.
      let there : digits ≡ hash_text hash = behind ∙ ap (drop 4) (ending_is path hash short is) in
      let some : None ≡ Some hash = none ∙ ap hash_in there ∙ hash_written hash short bytes in
      cc some))

  pub is_cut : (digits hash : List ℕ) → take 4 ending ≡ codes "?at=" → digits ≡ drop 4 ending → Some hash ≡ hash_in digits → Some (front, hash) ≡ path_and_hash whole
  is_cut digits hash mark behind some =
      let read = hash_read digits hash (sym some) in
      let written : whole ≡ path_at front hash =
      parts ∙ ap (λ (l : List ℕ). front ++ l) (sym (take-append-drop 4 ending) ∙ ap (λ (l : List ℕ). l ++ drop 4 ending) mark ∙ ap (λ (l : List ℕ). codes "?at=" ++ l) (sym behind ∙ read.is))
      ∙ sym (append_assoc front (codes "?at=") (hash_text hash)) in
      sym (ap path_and_hash written ∙ path_written front hash read.long read.bytes)

-- whether bytes are the mark, by a test of each
pub is_mark : (bytes : List ℕ) → pointwise (λ a b. a == b) bytes (codes "?at=") ≡ true → bytes ≡ codes "?at="
is_mark bytes is = (slice_eq-Decides Decides-eqb bytes (codes "?at=") (pointwise (λ a b. a == b) bytes (codes "?at=")) refl).0 is

pub isnt_mark : (bytes : List ℕ) → pointwise (λ a b. a == b) bytes (codes "?at=") ≡ false → bytes ≢ codes "?at="
isnt_mark bytes isnt is = true≢false (sym ((slice_eq-Decides Decides-eqb bytes (codes "?at=") (pointwise (λ a b. a == b) bytes (codes "?at=")) refl).1 is) ∙ isnt)
