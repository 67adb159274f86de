-- Hexadecimal digits are text.
use Rattle.std.proofs.Common.{◌≡◌, ℕ, true, ltb, ltb-true, IsUtf8, List, [], ◌∷◌, reverse, refl}
use Rattle.std.specs.List.{list_all}
use Rattle.std.specs.Str.{IsAscii}
use Rattle.std.proofs.lemmas.Str.{IsUtf8-from_ascii}
use Rattle.std.proofs.lemmas.Str.Ascii.{IsAscii-cons, IsAscii-nil}
use Rattle.hex.specs.Hex.{encode_lower, lower_digits}
use Rattle.hex.proofs.HexLemmas.{IsAscii-encode_with}
use Rattle.ox_rules.specs.Text.{hash_text}
use Rattle.ox_replies.proofs.Halves.{first_half, second_half}

-- bytes that all pass the test are ASCII
all_small : (bytes : List ℕ) → list_all (λ b. ltb b 128) bytes ≡ true → IsAscii bytes
all_small [] h = IsAscii-nil
all_small (b ∷ bytes) h =
    let rest = list_all (λ b. ltb b 128) bytes in
    IsAscii-cons b bytes (ltb-true b 128 (first_half (ltb b 128) rest h)) (all_small bytes (second_half (ltb b 128) rest h))

pub digits_small : (bytes : List ℕ) → IsAscii (encode_lower bytes)
digits_small bytes = IsAscii-encode_with lower_digits bytes (all_small lower_digits refl)

hash_small : (hash : List ℕ) → IsAscii (hash_text hash)
unfolding hash_text
hash_small hash = digits_small (reverse hash)

pub hash_is_text : (hash : List ℕ) → IsUtf8 (hash_text hash)
hash_is_text hash = IsUtf8-from_ascii (hash_text hash) (hash_small hash)

pub digits_are_text : (bytes : List ℕ) → IsUtf8 (encode_lower bytes)
digits_are_text bytes = IsUtf8-from_ascii (encode_lower bytes) (digits_small bytes)
