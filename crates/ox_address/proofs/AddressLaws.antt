-- The laws of addresses.
use Rattle.std.proofs.Common.{◌≡◌, ℕ, ◌+◌, ◌*◌, ◌^◌, ◌<◌, Bool, false, List, ◌∷◌, ◌++◌, length, map, drop, get_or, All, refl, sym, ap, subst, ◌∙◌, arith, inl, inr, length-append}
use Rattle.std.specs.Prelude.{◌&&◌, nat_le, IsTrue, ◌↔◌}
use Rattle.std.proofs.lemmas.Bool.{and_from, and_parts, le-leb, leb-true}
use Rattle.std.proofs.lemmas.Nat.{pow_pos}
use Rattle.std.proofs.lemmas.List.{append_cancel_left, length-map}
use Rattle.std.proofs.lemmas.List.Elements.{All-append, All-contains}
use Rattle.ox_address.specs.Checksum.{checksum, IsSymbol}
use Rattle.ox_address.specs.Address.{IsCapital, IsSegwit, HasOneScript, HasOneCase, IsShort, letter_of, symbols_of, address_of, version_of, groups, group_count, capital}
use Rattle.ox_address.specs.Passes.{opcode_of, tail_of}
use Rattle.ox_address.proofs.Scripts.{segwit-short, segwit-long}
use Rattle.ox_address.proofs.Groups.{length-groups, number-groups, same_program, fill_of}
use Rattle.ox_address.proofs.Spelling.{split_same, values-back}
use Rattle.ox_address.proofs.Decide.{symbols_of-symbols, checksum-symbols, length-checksum, opcode-version, parts_of}
use Rattle.ox_address.proofs.Cases.{IsLower, case-forth, address_of-lower, capitals-below, small-same}
use Rattle.ox_address.specs.Digits.{number}

begins : List ℕ → Bool
begins text = nat_le 65 (get_or text 0 0) && nat_le (get_or text 0 0) 90

begins-says : (text : List ℕ) → IsTrue (begins text) ↔ IsCapital (get_or text 0 0)
unfolding begins
begins-says text =
    let c : ℕ = get_or text 0 0 in (
      λ is_up. let both = and_parts (nat_le 65 c) (nat_le c 90) is_up in (leb-true 65 c both.0, leb-true c 90 both.1),
      λ up. and_from (nat_le 65 c) (nat_le c 90) (le-leb 65 c up.0) (le-leb c 90 up.1),
    )

-- the symbols of two scripts with one address are the same
one_tail : (hrp first second : List ℕ) → IsSegwit first → IsSegwit second → tail_of hrp first ≡ tail_of hrp second → symbols_of first ≡ symbols_of second
one_tail hrp first second is_first is_second e =
    let xs : List ℕ = symbols_of first ++ checksum hrp (symbols_of first) in
    let ys : List ℕ = symbols_of second ++ checksum hrp (symbols_of second) in
    let all_x : All IsSymbol xs = All-append IsSymbol (symbols_of first) (checksum hrp (symbols_of first)) (symbols_of-symbols first is_first) (checksum-symbols hrp (symbols_of first)) in
    let all_y : All IsSymbol ys = All-append IsSymbol (symbols_of second) (checksum hrp (symbols_of second)) (symbols_of-symbols second is_second) (checksum-symbols hrp (symbols_of second)) in
    let text : List ℕ = map letter_of ys in
    let from_x = values-back false text xs all_x (small-same text ∙ sym e) in
    let from_y = values-back false text ys all_y (small-same text) in
    let same : xs ≡ ys = sym from_x ∙ from_y in
    (split_same (symbols_of first) (checksum hrp (symbols_of first)) (symbols_of second) (checksum hrp (symbols_of second))
    (length-checksum hrp (symbols_of first) ∙ sym (length-checksum hrp (symbols_of second))) same).0

-- the symbols of a script are its own
one_script : (first second : List ℕ) → IsSegwit first → IsSegwit second → symbols_of first ≡ symbols_of second → first ≡ second
unfolding symbols_of
one_script first second is_first is_second e =
    let p = parts_of first (version_of (get_or first 0 0)) (groups (drop 2 first)) is_first refl in
    let q = parts_of second (version_of (get_or first 0 0)) (groups (drop 2 first)) is_second e in
    let opcode : p.opcode ≡ q.opcode =
    sym (opcode-version p.opcode (length p.program) p.is_program)
    ∙ ap opcode_of (sym p.version_is ∙ q.version_is)
    ∙ opcode-version q.opcode (length q.program) q.is_program in
    let groups_same : groups p.program ≡ groups q.program = sym p.groups_is ∙ q.groups_is in
    let count : group_count (length p.program) ≡ group_count (length q.program) =
    sym (length-groups p.program) ∙ ap length groups_same ∙ length-groups q.program in
    let long : length p.program ≡ length q.program = omega (arith, count) in
    let fill : fill_of (length p.program) ≡ fill_of (length q.program) = ap fill_of long in
    let few : fill_of (length p.program) < 5 = omega arith in
    let few_q : fill_of (length q.program) < 8 = omega arith in
    let numbers : number 256 p.program * 2 ^ fill_of (length p.program) ≡ number 256 q.program * 2 ^ fill_of (length q.program) + 0 =
    sym (number-groups p.program p.bytes) ∙ ap (number 32) groups_same ∙ number-groups q.program q.bytes ∙ omega arith in
    let found = same_program p.program q.program (fill_of (length p.program)) (fill_of (length q.program)) 0 p.bytes q.bytes few few_q
    (pow_pos (fill_of (length q.program))) (omega (arith, long, fill)) numbers in
    p.script_is
    ∙ ap (λ o. o ∷ length p.program ∷ p.program) opcode
    ∙ ap (λ bytes. q.opcode ∷ length bytes ∷ bytes) found.2
    ∙ sym q.script_is

pub has_one_script : HasOneScript
unfolding address_of
has_one_script hrp first second text is_hrp is_first is_second =
    let says = begins-says text in
    let e : address_of hrp first ≡ address_of hrp second =
    sym (case-forth hrp first text (begins text) is_hrp says is_first) ∙ case-forth hrp second text (begins text) is_hrp says is_second in
    let f : 49 ∷ tail_of hrp first ≡ 49 ∷ tail_of hrp second = append_cancel_left hrp (49 ∷ tail_of hrp first) (49 ∷ tail_of hrp second) e in
    one_script first second is_first.segwit is_second.segwit
    (one_tail hrp first second is_first.segwit is_second.segwit (ap (drop 1) f))

pub has_one_case : HasOneCase
has_one_case hrp script text low up is_hrp is has_low is_letter has_up is_capital =
    let a : List ℕ = address_of hrp script in
    let lower = address_of-lower hrp script is_hrp is.segwit in
    elim is.spelled [
      | inl same ↦
          let P : List ℕ → Type 0 = λ xs. All IsLower xs in
          let here : IsLower up = All-contains IsLower text up (subst P (sym same) lower) has_up in
          elim here [ inl digit ↦ omega (arith, digit.1, is_capital.0) | inr letter ↦ omega (arith, letter.0, is_capital.1) ]
      | inr large ↦
          let P : List ℕ → Type 0 = λ xs. All (λ c. c < 97) xs in
          let here : low < 97 = All-contains (λ c. c < 97) text low (subst P (sym large) (capitals-below a lower)) has_low in
          omega (arith, here, is_letter.0)
    ]

pub length-address_of : (hrp script : List ℕ) → length (address_of hrp script) ≡ length hrp + 8 + group_count (length (drop 2 script))
unfolding address_of symbols_of
length-address_of hrp script =
    let symbols : List ℕ = symbols_of script in
    let six : List ℕ = checksum hrp symbols in
    omega (
      arith,
      length-append hrp (49 ∷ map letter_of (symbols ++ six)),
      length-map (symbols ++ six) letter_of,
      length-append symbols six,
      length-checksum hrp symbols,
      length-groups (drop 2 script),
    )

pub is_short : IsShort
is_short hrp script text is_hrp is =
    let long = length-address_of hrp script in
    let short = segwit-short script is.segwit in
    let some = segwit-long script is.segwit in
    let same : length text ≡ length (address_of hrp script) =
    elim is.spelled [ inl e ↦ ap length e | inr e ↦ ap length e ∙ length-map (address_of hrp script) capital ] in
    (omega (arith, same, long, some, is_hrp.some), omega (arith, same, long, short, is_hrp.few))
