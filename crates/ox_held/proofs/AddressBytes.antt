-- An address is ASCII, and has at most 90 bytes.
use Rattle.std.proofs.Common.{◌≡◌, ◌<◌, ◌≤◌, ℕ, true, ltb, ltb-true, IsUtf8, List, [], ◌∷◌, ◌++◌, length, map, refl, inl, arith}
use Rattle.std.specs.List.{list_all}
use Rattle.std.specs.Str.{IsAscii}
use Rattle.std.proofs.lemmas.Bool.{and_parts}
use Rattle.std.proofs.lemmas.List.Elements.{All-weaker}
use Rattle.std.proofs.lemmas.Str.{IsAscii-append, IsUtf8-from_ascii}
use Rattle.std.proofs.lemmas.Str.Ascii.{IsAscii-cons, IsAscii-from_all, IsAscii-nil}
use Rattle.ox_address.specs.Address.{IsHrp, IsLetter, IsSegwit, address_of, letter_of, letters, symbols_of}
use Rattle.ox_address.specs.Checksum.{checksum}
use Rattle.ox_address.proofs.AddressLaws.{is_short}

all_small : (bytes : List ℕ) → list_all (λ b. ltb b 128) bytes ≡ true → IsAscii bytes
all_small [] passes = IsAscii-nil
all_small (b ∷ bytes) passes =
    let both = and_parts (ltb b 128) (list_all (λ c. ltb c 128) bytes) passes in
    IsAscii-cons b bytes (ltb-true b 128 both.0) (all_small bytes both.1)

letter_small : (symbol : ℕ) → letter_of symbol < 128
unfolding letter_of
letter_small symbol = all_small letters refl symbol

letters_small : (symbols : List ℕ) → IsAscii (map letter_of symbols)
letters_small [] = IsAscii-nil
letters_small (symbol ∷ symbols) = IsAscii-cons (letter_of symbol) (map letter_of symbols) (letter_small symbol) (letters_small symbols)

pub address_is_text : (hrp script : List ℕ) → IsHrp hrp → IsUtf8 (address_of hrp script)
unfolding address_of
address_is_text hrp script lawful =
    IsUtf8-from_ascii _ (
    IsAscii-append hrp _
    (IsAscii-from_all hrp (All-weaker IsLetter (λ c. c < 128) (λ c letter. omega (arith, letter.1)) hrp lawful.letters))
    (IsAscii-cons 49 _ (omega arith) (letters_small (symbols_of script ++ checksum hrp (symbols_of script))))
    )

pub address_fits : (hrp script : List ℕ) → IsHrp hrp → IsSegwit script → length (address_of hrp script) ≤ 90
address_fits hrp script lawful segwit =
    let most = (is_short hrp script (address_of hrp script) lawful (record { segwit = segwit; spelled = inl refl })).1 in
    omega (arith, most)
