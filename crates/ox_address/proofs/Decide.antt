-- What the letters behind the digit 1 say.
use Rattle.std.proofs.Common.{◌≡◌, ℕ, ◌+◌, ◌-◌, ◌*◌, ◌/◌, ◌^◌, ◌<◌, ◌≤◌, Bool, List, [], ◌∷◌, ◌++◌, length, map, take, drop, get_or, All, refl, sym, ap, subst, ◌∙◌, arith, inl, inr, lit<, length-append}
use Rattle.std.specs.Prelude.{fold}
use Rattle.std.proofs.lemmas.Bool.{cases_eq, cond-false, ne_eqb}
use Rattle.std.proofs.lemmas.List.{map-append, drop_more, take-append-drop, get_or-take, length-drop, length-map, drop-set-lt}
use Rattle.std.proofs.lemmas.List.Elements.{All-head, All-tail, All-append, All-cons}
use Rattle.std.proofs.lemmas.List.Sums.{fold-append}
use Rattle.ox_address.specs.Digits.{number}
use Rattle.ox_address.specs.Checksum.{step, polynomial, expanded, wanted, checksum, IsSymbol}
use Rattle.ox_address.specs.Address.{IsSegwit, IsProgram, version_of, groups, group_count, symbols_of, letter_of}
use Rattle.ox_address.specs.Passes.{small, value_of, values_of, AreSymbols, opcode_of, tail_of, Carries, Took, ReadsLetters}
use Rattle.std.proofs.Math.ListN.{set}
use Rattle.ox_address.proofs.DigitLaws.{length-digits, digits-below}
use Rattle.ox_address.proofs.Carrying.{groups_are}
use Rattle.ox_address.proofs.ChecksumLaw.{is_the_checksum}
use Rattle.ox_address.proofs.Groups.{length-groups, groups-below, number-groups, same_program, fill_of}
use Rattle.ox_address.proofs.Spelling.{split_same, values-back, letters-forth, symbols-from_values, values-symbols}

pub version-opcode : (v : ℕ) → version_of (opcode_of v) ≡ v
version-opcode v =
    elim (cases_eq v 0) [
      | inl none ↦ ap (λ n. version_of (opcode_of n)) none ∙ sym none
      | inr some ↦
          let e : opcode_of v ≡ v + 80 = cond-false _ 0 (v + 80) (ne_eqb v 0 some) in
          ap version_of e ∙ cond-false _ 0 (v + 80 - 80) (ne_eqb (v + 80) 0 (λ z. omega arith)) ∙ omega arith
    ]

pub opcode-version : (opcode size : ℕ) → IsProgram opcode size → opcode_of (version_of opcode) ≡ opcode
opcode-version opcode size (inl program) = ap (λ n. opcode_of (version_of n)) program.0 ∙ sym program.0
opcode-version opcode size (inr program) =
    let low : 81 ≤ opcode = program.0.0 in
    let e : version_of opcode ≡ opcode - 80 = cond-false _ 0 (opcode - 80) (ne_eqb opcode 0 (λ z. omega arith)) in
    ap opcode_of e ∙ cond-false _ 0 (opcode - 80 + 80) (ne_eqb (opcode - 80) 0 (λ z. omega arith)) ∙ omega arith

version-below : (opcode size : ℕ) → IsProgram opcode size → version_of opcode < 32
version-below opcode size (inl program) =
    let P : ℕ → Type 0 = λ n. version_of n < 32 in
    subst P (sym program.0) (lit< tt)
version-below opcode size (inr program) =
    let low : 81 ≤ opcode = program.0.0 in
    let high : opcode ≤ 96 = program.0.1 in
    let e : version_of opcode ≡ opcode - 80 = cond-false _ 0 (opcode - 80) (ne_eqb opcode 0 (λ z. omega arith)) in
    omega (arith, e)

pub symbols_of-symbols : (script : List ℕ) → IsSegwit script → All IsSymbol (symbols_of script)
unfolding symbols_of
symbols_of-symbols [] segwit = absurd segwit
symbols_of-symbols (opcode ∷ []) segwit = absurd segwit
symbols_of-symbols (opcode ∷ size ∷ program) segwit =
    All-cons IsSymbol (version_of opcode) (groups program) (version-below opcode size segwit.0) (groups-below program)

pub checksum-symbols : (hrp symbols : List ℕ) → All IsSymbol (checksum hrp symbols)
unfolding checksum
checksum-symbols hrp symbols = digits-below 32 6 _ (lit< tt)

pub length-checksum : (hrp symbols : List ℕ) → length (checksum hrp symbols) ≡ 6
unfolding checksum
length-checksum hrp symbols = length-digits 32 6 _

-- what letters have to be that are those of a script
pub record Expected (is_capital : Bool) (hrp script : List ℕ) (c : ℕ) (gs cs : List ℕ) : Type 0 where
  pub data_is : value_of is_capital c ∷ values_of is_capital gs ≡ symbols_of script
  pub check_is : values_of is_capital cs ≡ checksum hrp (symbols_of script)
  pub first : value_of is_capital c < 32
  pub groups_are_symbols : AreSymbols is_capital gs
  pub check : AreSymbols is_capital cs

pub expected :
    (is_capital : Bool) (hrp script : List ℕ) (c : ℕ) (gs cs : List ℕ) → IsSegwit script → length cs ≡ 6 →
    map (small is_capital) ((c ∷ gs) ++ cs) ≡ tail_of hrp script → Expected is_capital hrp script c gs cs
expected is_capital hrp script c gs cs segwit long spelled =
    let v : ℕ → ℕ = value_of is_capital in
    let symbols : List ℕ = symbols_of script in
    let six : List ℕ = checksum hrp symbols in
    let all : All IsSymbol (symbols ++ six) = All-append IsSymbol symbols six (symbols_of-symbols script segwit) (checksum-symbols hrp symbols) in
    let whole : map v (c ∷ gs) ++ map v cs ≡ symbols ++ six =
    sym (map-append v (c ∷ gs) cs) ∙ values-back is_capital ((c ∷ gs) ++ cs) (symbols ++ six) all spelled in
    let parts = split_same (map v (c ∷ gs)) (map v cs) symbols six (length-map cs v ∙ long ∙ sym (length-checksum hrp symbols)) whole in
    let P : List ℕ → Type 0 = λ xs. All IsSymbol xs in
    let items : AreSymbols is_capital (c ∷ gs) =
    symbols-from_values is_capital (c ∷ gs) (subst P (sym parts.0) (symbols_of-symbols script segwit)) in
    let Q : ℕ → Type 0 = λ b. value_of is_capital b < 32 in
    record {
      data_is = parts.0;
      check_is = parts.1;
      first = All-head Q c gs items;
      groups_are_symbols = All-tail Q c gs items;
      check = symbols-from_values is_capital cs (subst P (sym parts.1) (checksum-symbols hrp symbols));
    }

-- the parts of a segwit script's symbols
pub record Parts (script : List ℕ) (v : ℕ) (gs : List ℕ) : Type 0 where
  pub program : List ℕ
  pub opcode : ℕ
  pub script_is : script ≡ opcode ∷ length program ∷ program
  pub is_program : IsProgram opcode (length program)
  pub bytes : All (λ b. b < 256) program
  pub version_is : v ≡ version_of opcode
  pub groups_is : gs ≡ groups program

pub parts_of : (script : List ℕ) (v : ℕ) (gs : List ℕ) → IsSegwit script → v ∷ gs ≡ symbols_of script → Parts script v gs
unfolding symbols_of
parts_of [] v gs segwit e = absurd segwit
parts_of (opcode ∷ []) v gs segwit e = absurd segwit
parts_of (opcode ∷ size ∷ program) v gs segwit e =
    let P : ℕ → Type 0 = λ n. IsProgram opcode n in
    record {
      program = program;
      opcode = opcode;
      script_is = ap (λ n. opcode ∷ n ∷ program) segwit.1;
      is_program = subst P segwit.1 segwit.0;
      bytes = segwit.2;
      version_is = cc;
      groups_is = cc;
    }

size-back : (n : ℕ) → group_count n * 5 / 8 ≡ n
size-back n = omega arith

pub program-expected :
    (is_capital : Bool) (hrp script : List ℕ) (c : ℕ) (gs cs : List ℕ) (v size : ℕ) → IsSegwit script →
    Expected is_capital hrp script c gs cs → v ≡ value_of is_capital c → size ≡ length gs * 5 / 8 →
    IsProgram (opcode_of v) size
program-expected is_capital hrp script c gs cs v size segwit exp is same =
    let parts = parts_of script (value_of is_capital c) (values_of is_capital gs) segwit exp.data_is in
    let opcode : opcode_of v ≡ parts.opcode =
    ap opcode_of (is ∙ parts.version_is) ∙ opcode-version parts.opcode (length parts.program) parts.is_program in
    let count : length gs ≡ group_count (length parts.program) =
    sym (length-map gs (value_of is_capital)) ∙ ap length parts.groups_is ∙ length-groups parts.program in
    let n : size ≡ length parts.program =
    same ∙ ap (λ m. m * 5 / 8) count ∙ size-back (length parts.program) in
    let P : ℕ → Type 0 = λ o. IsProgram o size in
    let Q : ℕ → Type 0 = λ m. IsProgram parts.opcode m in
    subst P (sym opcode) (subst Q (sym n) parts.is_program)

pub bits-expected :
    (is_capital : Bool) (hrp script : List ℕ) (c : ℕ) (gs cs out : List ℕ) (value count : ℕ) → IsSegwit script →
    Expected is_capital hrp script c gs cs →
    Carries 8 out (number 32 (values_of is_capital gs)) (5 * length gs) value count → count < 8 → value < 2 ^ count →
    (value ≡ 0) × (count < 5)
bits-expected is_capital hrp script c gs cs out value count segwit exp carries few within =
    let parts = parts_of script (value_of is_capital c) (values_of is_capital gs) segwit exp.data_is in
    let p : List ℕ = parts.program in
    let n : ℕ = length p in
    let count_is : length gs ≡ group_count n =
    sym (length-map gs (value_of is_capital)) ∙ ap length parts.groups_is ∙ length-groups p in
    let few_zeros : fill_of n < 5 = omega arith in
    let total : 8 * n + fill_of n ≡ 8 * length out + count = omega (arith, carries.bits, count_is) in
    let same : number 256 p * 2 ^ fill_of n ≡ number 256 out * 2 ^ count + value =
    sym (ap (number 32) parts.groups_is ∙ number-groups p parts.bytes) ∙ carries.number_is in
    let found = same_program p out (fill_of n) count value parts.bytes carries.below few_zeros few within total same in
    (found.0, omega (arith, found.1, few_zeros))

-- the polynomial over all values
pub sum-all :
    (is_capital : Bool) (hrp gs cs : List ℕ) (v sum start mid all : ℕ) → sum ≡ polynomial (expanded hrp) →
    start ≡ step sum v → mid ≡ fold step start (values_of is_capital gs) → all ≡ fold step mid (values_of is_capital cs) →
    all ≡ polynomial (expanded hrp ++ (v ∷ values_of is_capital gs) ++ values_of is_capital cs)
unfolding polynomial
sum-all is_capital hrp gs cs v sum start mid all s e f g =
    let xs : List ℕ = values_of is_capital gs in
    let ys : List ℕ = values_of is_capital cs in
    g ∙ ap (λ n. fold step n ys) (f ∙ ap (λ n. fold step n xs) (e ∙ ap (λ n. step n v) s))
    ∙ sym (fold-append step 1 (expanded hrp ++ (v ∷ xs)) ys ∙ ap (λ n. fold step n ys) (fold-append step 1 (expanded hrp) (v ∷ xs)))

pub sum-expected :
    (is_capital : Bool) (hrp script : List ℕ) (c : ℕ) (gs cs : List ℕ) (v all : ℕ) → All (λ b. b < 256) hrp → length cs ≡ 6 →
    Expected is_capital hrp script c gs cs → v ≡ value_of is_capital c →
    all ≡ polynomial (expanded hrp ++ (v ∷ values_of is_capital gs) ++ values_of is_capital cs) → all ≡ wanted v
sum-expected is_capital hrp script c gs cs v all bytes long exp is sum =
    let xs : List ℕ = v ∷ values_of is_capital gs in
    let ys : List ℕ = values_of is_capital cs in
    let P : ℕ → Type 0 = λ n. n < 32 in
    let symbols : All IsSymbol xs =
    All-cons IsSymbol v (values_of is_capital gs) (subst P (sym is) exp.first) (values-symbols is_capital gs exp.groups_are_symbols) in
    let xs_is : xs ≡ symbols_of script = ap (λ n. n ∷ values_of is_capital gs) is ∙ exp.data_is in
    let six : ys ≡ checksum hrp xs = exp.check_is ∙ ap (checksum hrp) (sym xs_is) in
    let law = is_the_checksum hrp xs ys bytes symbols (values-symbols is_capital cs exp.check) (length-map cs (value_of is_capital) ∙ long) in
    sum ∙ law.1 six

-- The script that passes each test has these letters.
pub sound :
    (is_capital : Bool) (hrp : List ℕ) (c : ℕ) (gs cs out : List ℕ) (v size value count all : ℕ) →
    All (λ b. b < 256) hrp → length cs ≡ 6 → v < 32 → v ≡ value_of is_capital c → AreSymbols is_capital gs → AreSymbols is_capital cs →
    IsProgram (opcode_of v) size → size ≡ length gs * 5 / 8 →
    Carries 8 out (number 32 (values_of is_capital gs)) (5 * length gs) value count → value ≡ 0 → count < 5 →
    all ≡ polynomial (expanded hrp ++ (v ∷ values_of is_capital gs) ++ values_of is_capital cs) → all ≡ wanted v →
    IsSegwit (opcode_of v ∷ size ∷ out) × (map (small is_capital) ((c ∷ gs) ++ cs) ≡ tail_of hrp (opcode_of v ∷ size ∷ out))
unfolding symbols_of
sound is_capital hrp c gs cs out v size value count all bytes long low is symbols check program size_is carries none few sum right =
    let xs : List ℕ = values_of is_capital gs in
    let ys : List ℕ = values_of is_capital cs in
    let length_is : length xs ≡ length gs = length-map gs (value_of is_capital) in
    let n : size ≡ length out = omega (arith, carries.bits, size_is) in
    let groups_is : xs ≡ groups out =
    groups_are out xs count few (values-symbols is_capital gs symbols)
    (omega (arith, carries.bits, length_is)) (omega (arith, carries.number_is, none)) in
    let items : All IsSymbol (v ∷ xs) = All-cons IsSymbol v xs low (values-symbols is_capital gs symbols) in
    let law = is_the_checksum hrp (v ∷ xs) ys bytes items (values-symbols is_capital cs check) (length-map cs (value_of is_capital) ∙ long) in
    let six : ys ≡ checksum hrp (v ∷ xs) = law.0 (sym sum ∙ right) in
    let script_symbols : v ∷ xs ≡ version_of (opcode_of v) ∷ groups out =
    ap (λ m. m ∷ xs) (sym (version-opcode v)) ∙ ap (λ gs. version_of (opcode_of v) ∷ gs) groups_is in
    let Q : ℕ → Type 0 = λ b. value_of is_capital b < 32 in
    let P : ℕ → Type 0 = λ m. m < 32 in
    let each : AreSymbols is_capital ((c ∷ gs) ++ cs) =
    All-append Q (c ∷ gs) cs (All-cons Q c gs (subst P is low) symbols) check in (
      (program, n, carries.below),
      letters-forth is_capital ((c ∷ gs) ++ cs) each
          ∙ ap (map letter_of) (map-append (value_of is_capital) (c ∷ gs) cs
          ∙ ap (λ m. (m ∷ xs) ++ ys) (sym is)
          ∙ ap (λ zs. (v ∷ xs) ++ zs) six
          ∙ ap (λ zs. zs ++ checksum hrp zs) script_symbols),
    )

-- the letters in parts
pub letters-parts :
    (letters items check first gs : List ℕ) → 11 ≤ length letters → items ≡ take (length letters - 6) letters →
    check ≡ drop (length letters - 6) letters → first ≡ take 1 items → gs ≡ drop 1 items →
    (letters ≡ (get_or first 0 0 ∷ gs) ++ check) × (length check ≡ 6) × (length gs + 7 ≡ length letters)
letters-parts letters items check first gs long d k f g =
    let whole : items ++ check ≡ letters =
    ap (λ xs. xs ++ check) d ∙ ap (λ xs. take (length letters - 6) letters ++ xs) k ∙ take-append-drop (length letters - 6) letters in
    let six : length check ≡ 6 = omega (arith, ap length k, length-drop (length letters - 6) letters) in
    let n : length items + 6 ≡ length letters = omega (arith, ap length whole, length-append items check, six) in
    let some : 0 < length items = omega arith in
    let head : get_or first 0 0 ≡ get_or items 0 0 = ap (λ xs. get_or xs 0 0) f ∙ get_or-take 1 items 0 0 (lit< tt) in
    let cut : items ≡ get_or items 0 0 ∷ drop 1 items = drop_more items 0 0 some in
    let all : items ≡ get_or first 0 0 ∷ gs = cut ∙ ap (λ a. a ∷ drop 1 items) (sym head) ∙ ap (λ xs. get_or first 0 0 ∷ xs) (sym g) in
    (sym whole ∙ ap (λ xs. xs ++ check) all, six, omega (arith, n, ap length all))

-- the symbols of letters that are those of a script
pub expected-letters :
    (is_capital : Bool) (hrp script letters : List ℕ) (c : ℕ) (gs cs : List ℕ) → letters ≡ (c ∷ gs) ++ cs → length cs ≡ 6 →
    IsSegwit script → map (small is_capital) letters ≡ tail_of hrp script → Expected is_capital hrp script c gs cs
expected-letters is_capital hrp script letters c gs cs e long segwit spelled =
    expected is_capital hrp script c gs cs segwit long (sym (ap (map (small is_capital)) e) ∙ spelled)

-- letters that are those of a script pass the last test
pub whole-expected :
    (is_capital : Bool) (hrp script letters : List ℕ) (c : ℕ) (gs cs before into : List ℕ) (v sum start len value count mid all : ℕ) →
    All (λ b. b < 256) hrp → sum ≡ polynomial (expanded hrp) → letters ≡ (c ∷ gs) ++ cs → length cs ≡ 6 →
    v ≡ value_of is_capital c → start ≡ step sum v → Took is_capital gs start before into len value count mid →
    all ≡ fold step mid (values_of is_capital cs) → IsSegwit script → map (small is_capital) letters ≡ tail_of hrp script →
    (all ≡ wanted v) × (value ≡ 0) × (count < 5)
whole-expected is_capital hrp script letters c gs cs before into v sum start len value count mid all bytes s e long is st took a segwit spelled =
    let exp = expected-letters is_capital hrp script letters c gs cs e long segwit spelled in
    let found = bits-expected is_capital hrp script c gs cs took.unpacks.out value count segwit exp took.unpacks.carries took.few took.within in
    let total = sum-all is_capital hrp gs cs v sum start mid all s st took.checked a in
    (sum-expected is_capital hrp script c gs cs v all bytes long exp is total, found.0, found.1)

head-set : (before : List ℕ) (a b : ℕ) → 2 ≤ length before → take 2 (set (set before 0 a) 1 b) ≡ a ∷ b ∷ []
head-set [] a b long = absurd (omega arith)
head-set (x ∷ []) a b long = absurd (omega arith)
head-set (x ∷ y ∷ rest) a b long = refl

drop-set_two : (before : List ℕ) (a b len : ℕ) → 2 ≤ len → drop len (set (set before 0 a) 1 b) ≡ drop len before
drop-set_two before a b len long = drop-set-lt len (set before 0 a) 1 b (omega arith) ∙ drop-set-lt len before 0 a (omega arith)

-- what stands there once each test is passed
pub read-sound :
    (is_capital : Bool) (hrp letters : List ℕ) (c : ℕ) (gs cs before into : List ℕ) (v op size sum start len value count mid all : ℕ) →
    All (λ b. b < 256) hrp → sum ≡ polynomial (expanded hrp) → letters ≡ (c ∷ gs) ++ cs → length cs ≡ 6 → 2 ≤ length before →
    v < 32 → v ≡ value_of is_capital c → op ≡ opcode_of v → IsProgram op size → size ≡ length gs * 5 / 8 → start ≡ step sum v →
    Took is_capital gs start (set (set before 0 op) 1 size) into len value count mid →
    AreSymbols is_capital cs → all ≡ fold step mid (values_of is_capital cs) →
    (all ≡ wanted v) × (value ≡ 0) × (count < 5) → ReadsLetters is_capital hrp letters before into len
read-sound is_capital hrp letters c gs cs before into v op size sum start len value count mid all bytes s e long room low is o program size_is st took check a tests =
    let out : List ℕ = took.unpacks.out in
    let P : ℕ → Type 0 = λ n. IsProgram n size in
    let total = sum-all is_capital hrp gs cs v sum start mid all s st took.checked a in
    let found = sound is_capital hrp c gs cs out v size value count all bytes long low is took.symbols check (subst P o program) size_is
    took.unpacks.carries tests.1 tests.2 total tests.0 in
    let head : take 2 (set (set before 0 op) 1 size) ≡ opcode_of v ∷ size ∷ [] =
    head-set before op size room ∙ ap (λ n. n ∷ size ∷ []) o in
    let n : len ≡ 2 + length out = took.unpacks.place ∙ ap (λ xs. length (xs ++ out)) head ∙ omega arith in
    let rest : drop len (set (set before 0 op) 1 size) ≡ drop len before = drop-set_two before op size len (omega arith) in
    record {
      script = opcode_of v ∷ size ∷ out;
      segwit = found.0;
      spelled = ap (map (small is_capital)) e ∙ found.1;
      stands = took.unpacks.stands ∙ ap (λ xs. (xs ++ out) ++ drop len (set (set before 0 op) 1 size)) head
          ∙ ap (λ xs. (opcode_of v ∷ size ∷ out) ++ xs) rest;
      place = n ∙ omega arith;
    }
