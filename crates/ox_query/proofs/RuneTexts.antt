-- What is written of a rune is text.
use Rattle.std.proofs.Common.{◌≡◌, ℕ, zero, suc, ◌+◌, ◌/◌, ◌%◌, ◌^◌, ◌<◌, ◌≤◌, ◌==◌, Bool, true, false, cond, List, [], ◌∷◌, ◌++◌, IsAscii, length, take, IsUtf8, refl, sym, ap, ◌∙◌, subst, lit<, arith}
use Rattle.std.specs.Prelude.{All}
use Rattle.std.specs.Fmt.{decimal}
use Rattle.std.proofs.Math.Nat.{div-le_self}
use Rattle.std.proofs.Math.Utf8.{encode}
use Rattle.std.proofs.lemmas.Fmt.{IsAscii-decimal_wide}
use Rattle.std.proofs.lemmas.List.{take_at}
use Rattle.std.proofs.lemmas.List.Elements.{All-head, All-tail}
use Rattle.std.proofs.lemmas.Nat.{mod_below}
use Rattle.std.proofs.lemmas.Str.{IsAscii-append, IsUtf8-append, IsUtf8-encode, IsUtf8-from_ascii, IsUtf8-nil}
use Rattle.std.proofs.lemmas.Str.Ascii.{IsAscii-cons, IsAscii-nil}
use Rattle.ox_name.specs.Amount.{amount_text, decimals, with_point}
use Rattle.ox_name.specs.Name.{IsLetter, IsName, name_of}
use Rattle.ox_name.specs.Spaced.{bullet, gap, spaced_name}
use Rattle.ox_name.proofs.Decimals.{digit_below, ten_pos}
use Rattle.ox_name.proofs.NamesAreOneToOne.{name_of-is}

letter_text : (c : ℕ) → IsLetter c → IsUtf8 (c ∷ [])
letter_text c letter = IsUtf8-from_ascii (c ∷ []) (IsAscii-cons c [] (omega (arith, letter.1)) IsAscii-nil)

spacer_text : (v : Bool) → IsUtf8 (cond v bullet [])
unfolding encode
spacer_text true = IsUtf8-encode 0x2022 refl
spacer_text false = IsUtf8-nil

gap_text : (spacers : ℕ) → IsUtf8 (gap spacers)
gap_text spacers = spacer_text (spacers % 2 == 1)

letters_text : (spacers : ℕ) (text : List ℕ) → All IsLetter text → IsUtf8 (spaced_name spacers text)
letters_text spacers [] all = IsUtf8-nil
letters_text spacers (c ∷ []) all = letter_text c (All-head IsLetter c [] all)
letters_text spacers (c ∷ d ∷ cs) all =
    IsUtf8-append (c ∷ []) (gap spacers ++ spaced_name (spacers / 2) (d ∷ cs)) (letter_text c (All-head IsLetter c (d ∷ cs) all))
    (IsUtf8-append (gap spacers) (spaced_name (spacers / 2) (d ∷ cs)) (gap_text spacers)
    (letters_text (spacers / 2) (d ∷ cs) (All-tail IsLetter c (d ∷ cs) all)))

-- a name with its spacers
pub name_is_text : (name spacers : ℕ) → name < 2 ^ 128 → IsUtf8 (spaced_name spacers (name_of name))
name_is_text name spacers small = let named : IsName (name_of name) = name_of-is name small in letters_text spacers (name_of name) named.1

digits_ascii : (v : Bool) (digit : ℕ) (digits : List ℕ) → digit < 10 → IsAscii digits → IsAscii (cond v [] ((48 + digit) ∷ digits))
digits_ascii true digit digits small ascii = IsAscii-nil
digits_ascii false digit digits small ascii = IsAscii-cons (48 + digit) digits (omega (arith, small)) ascii

decimals_ascii : (places part : ℕ) → part < 10 ^ places → IsAscii (decimals places part)
decimals_ascii zero part small = IsAscii-nil
decimals_ascii (suc places) part small =
    digits_ascii (part == 0) (part / 10 ^ places) (decimals places (part % 10 ^ places)) (digit_below (10 ^ suc places) part places refl small)
    (decimals_ascii places (part % 10 ^ places) (mod_below part (10 ^ places) (ten_pos places)))

pointed_ascii : (digits : List ℕ) → IsAscii digits → IsAscii (with_point digits)
pointed_ascii [] ascii = IsAscii-nil
pointed_ascii (c ∷ cs) ascii = IsAscii-cons 46 (c ∷ cs) (omega arith) ascii

-- an amount with its decimals
pub amount_is_text : (amount divisibility : ℕ) → amount < 2 ^ 128 → IsUtf8 (amount_text amount divisibility)
unfolding amount_text
amount_is_text amount k small =
    let few : amount / 10 ^ k ≤ amount = div-le_self amount (10 ^ k) in
    let big : 2 ^ 128 < 10 ^ 64 = lit< tt in
    let part : amount % 10 ^ k < 10 ^ k = mod_below amount (10 ^ k) (ten_pos k) in
    IsUtf8-from_ascii (amount_text amount k)
    (IsAscii-append (decimal (amount / 10 ^ k)) (with_point (decimals k (amount % 10 ^ k)))
    (IsAscii-decimal_wide (amount / 10 ^ k) (omega (arith, few, big, small)))
    (pointed_ascii (decimals k (amount % 10 ^ k)) (decimals_ascii k (amount % 10 ^ k) part)))

-- what is written in front
pub front_is_text : (text rest into : List ℕ) (len : ℕ) → into ≡ text ++ rest → len ≡ length text → IsUtf8 text → IsUtf8 (take len into)
front_is_text text rest into len written long is = subst IsUtf8 (sym (ap (take len) written ∙ take_at text rest len (sym long))) is
