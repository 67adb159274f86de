-- Pairs of hex digits, decoded one after the other.
use Rattle.std.proofs.Common.{◌≡◌, ◌∙◌, ℕ, ◌+◌, ◌*◌, ◌%◌, ◌<◌, Bool, true, false, List, length, take, drop, slice_index, slice_set, sym, refl}
use Rattle.std.specs.Prelude.{IsErr, Result, Ok, Err, ◌&&◌}
use Rattle.hex.specs.Hex.{decode_of, decode_pairs, pair_value}
use Rattle.hex.specs.declared.error.FromHexError.{FromHexError}
use Rattle.hex.specs.declared.error.FromHexError.TheVariants.{OddLength}
use Rattle.hex.proofs.HexLemmas.{decode_of-even, decode_of-odd}
use Rattle.hex.proofs.Pairs.{decode_err, decode_step, prepend}

-- all pairs so far were decoded, or some pair has no byte
abbrev pub Decodes : List ℕ → List ℕ → ℕ → Bool → Type 0
Decodes digits bytes i all =
    (all ≡ true → decode_pairs 0 digits ≡ prepend (take i bytes) (decode_pairs (2 * i) (drop (2 * i) digits)))
    × (all ≡ false → IsErr (decode_pairs 0 digits))

abbrev pair_at : List ℕ → ℕ → ℕ → Result ℕ FromHexError
pair_at digits i place = pair_value (slice_index digits (2 * i)) (slice_index digits (2 * i + 1)) place

not_both : (b : Bool) → b ≡ true → b ≡ false → ⊥
not_both b e f = cc

pub error_of : {A : Type 0} (r : Result A FromHexError) → IsErr r → (e : FromHexError) × (r ≡ Err e)
error_of (Ok x) h = absurd (not_both true refl (sym h))
error_of (Err e) h = (e, refl)

is_error : {A : Type 0} (r : Result A FromHexError) (e : FromHexError) → r ≡ Err e → IsErr r
is_error r e is = rw is refl

-- one pair more
pub decodes_more : (digits bytes : List ℕ) (i byte : ℕ) (all good now : Bool) → 2 * i + 1 < length digits → i < length bytes
    → Decodes digits bytes i all → (good ≡ true → (k : ℕ) → pair_at digits i k ≡ Ok byte) → (good ≡ false → (k : ℕ) → IsErr (pair_at digits i k))
    → now ≡ (all && good) → Decodes digits (slice_set bytes i byte) (i + 1) now
decodes_more digits bytes i byte true true now fits room so_far reads fails is =
    (λ _. decode_step digits bytes i byte fits room (reads refl (2 * i)) (so_far.0 refl), λ f. absurd (not_both now is f))
decodes_more digits bytes i byte true false now fits room so_far reads fails is =
    let e = error_of (pair_at digits i (2 * i)) (fails refl (2 * i)) in
    (λ t. absurd (not_both now t is), λ _. is_error _ e.0 (decode_err digits bytes i e.0 fits e.1 (so_far.0 refl)))
decodes_more digits bytes i byte false good now fits room so_far reads fails is =
    (λ t. absurd (not_both now t is), λ _. so_far.1 refl)

-- what decodes is an even number of digits
pub decode_of-pairs : (digits bytes : List ℕ) → length digits % 2 ≡ 0 → decode_pairs 0 digits ≡ Ok bytes → decode_of digits ≡ Ok bytes
decode_of-pairs digits bytes even is = decode_of-even digits even ∙ is

pub decode_of-not_pairs : (digits : List ℕ) → length digits % 2 ≡ 0 → IsErr (decode_pairs 0 digits) → IsErr (decode_of digits)
decode_of-not_pairs digits even is = let e = error_of (decode_pairs 0 digits) is in is_error _ e.0 (decode_of-even digits even ∙ e.1)

pub decode_of-odd_number : (digits : List ℕ) → length digits % 2 ≡ 1 → IsErr (decode_of digits)
decode_of-odd_number digits odd = is_error _ OddLength (decode_of-odd digits odd)
