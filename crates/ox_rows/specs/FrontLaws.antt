-- The readers of this crate look at nothing behind what they take.
use Rattle.std.proofs.Common.{◌≡◌, ℕ, zero, suc, ◌+◌, ◌-◌, Bool, true, false, cond, eqb, ltb, List, [], ◌∷◌, ◌++◌, length, take, drop, Ok, Err, Option, Some, None, Ordering, refl, sym, ap, subst, ◌∙◌, append_assoc, arith, inl, inr}
use Rattle.std.specs.Prelude.{not}
use Rattle.std.specs.Int.{Width, w8, w16, w32, w64, w128, byte_len, from_le_bytes}
use Rattle.std.specs.Ordering.{nat_cmp}
use Rattle.std.proofs.lemmas.Bool.{ltb-false, le-ltb}
use Rattle.std.proofs.lemmas.List.{take_at, drop_at, take-append-drop, length-append, length-take}
use Rattle.ox_bytes.specs.Reading.{◌>>=◌, Reader, number_at, run_at as bytes_at, reading_map, times, unless}
use Rattle.ox_bytes.proofs.Laws.{bind_ok, chosen, guard_ok, ok_is}
use Rattle.ox_block.specs.Spelling.{most_value}
use Rattle.ox_range.specs.Numbers.{numbers_from}
use Rattle.ox_range.specs.Runs.{end_of}
use Rattle.ox_rules.specs.Outputs.{outpoint_cmp}
use Rattle.ox_allocation.specs.Balances.{id_cmp}
use Rattle.ox_rows.specs.Front.{ReadsFronts, TakesFront}
use Rattle.ox_rows.specs.Reading.{◌<*>◌, falls, flag_at, goes_on, is_wrong_count, list_at, maybe_at, optional_at, rising_at, run_at, runs_at, sats_at, text_at}
use Rattle.ox_rows.specs.RowFits.{is_character}
use Rattle.ox_rows.specs.RowReading.{amount_at, balances_at, change_at, change_of, character_at, counts_at, counts_then_at, counts_then_of, inscription_at, inscription_id_at, inscription_id_of, inscription_of, out_row_at, out_row_of, outpoint_at, outpoint_of, outputs_at, placements_at, rune_at, rune_id_at, rune_id_of, rune_of, terms_at, terms_of}

-- ---- of readers that are made of others

-- a value that takes nothing
abbrev gives : {A : Type 0} → A → Reader A
gives x bytes = Ok (x, bytes)

-- a reader, and one that the value tells
abbrev then : {A B : Type 0} → Reader A → (A → Reader B) → Reader B
then read next bytes = read bytes >>= λ x. next x.0 x.1

gives_fronts : {A : Type 0} (x : A) → ReadsFronts (gives x)
gives_fronts {A} x bytes z e =
    subst (TakesFront (gives x) bytes) (ok_is {F = ℕ} (x, bytes) z e)
    (record { front = []; parts = refl; again = λ rest. refl })

then_fronts : {A B : Type 0} (read : Reader A) (next : A → Reader B) → ReadsFronts read
    → ((x : A) → ReadsFronts (next x)) → ReadsFronts (then read next)
then_fronts {A} {B} read next first second bytes z e =
    let a = bind_ok (read bytes) (λ (x : A × List ℕ). next x.0 x.1) z e in
    let p = first bytes a.0 a.1 in
    let q = second a.0.0 a.0.1 z a.2 in
    record {
      front = p.front ++ q.front;
      parts =
          p.parts ∙ ap (λ (t : List ℕ). p.front ++ t) q.parts
          ∙ sym (append_assoc p.front q.front z.1);
      again = λ rest.
          ap (then read next) (append_assoc p.front q.front rest)
          ∙ rw (p.again (q.front ++ rest)) (q.again rest);
    }

unless_fronts : {A : Type 0} (refused : A → Bool) (read : Reader A) → ReadsFronts read
    → ReadsFronts (unless refused read)
unless_fronts {A} refused read reads bytes z e =
    let a =
    bind_ok (read bytes)
    (λ (y : A × List ℕ). cond (refused y.0) (Err (length bytes)) (Ok y)) z e in
    let g = guard_ok (refused a.0.0) (length bytes) (Ok a.0) z a.2 in
    let p = reads bytes a.0 a.1 in
    subst (TakesFront (unless refused read) bytes) (ok_is {F = ℕ} a.0 z g.1) (record {
      front = p.front;
      parts = p.parts;
      again = λ rest. rw (p.again rest, g.0) refl;
    })

map_fronts : {A B : Type 0} (f : A → B) (read : Reader A) → ReadsFronts read
    → ReadsFronts (reading_map f read)
map_fronts f read reads = then_fronts read (λ x. gives (f x)) reads (λ x. gives_fronts (f x))

infixl 20 ◌and◌
◌and◌ : {A B : Type 0} {front : Reader (A → B)} {field : Reader A} → ReadsFronts front
    → ReadsFronts field → ReadsFronts (front <*> field)
◌and◌ {front = front} {field = field} first second =
    then_fronts front (λ f. reading_map f field) first (λ f. map_fronts f field second)

times_fronts : {A : Type 0} (read : Reader A) → ReadsFronts read → (n : ℕ)
    → ReadsFronts (times read n)
unfolding times
times_fronts read reads zero = gives_fronts []
times_fronts read reads (suc n) =
    then_fronts read (λ x bytes. times read n bytes >>= λ xs. Ok (x ∷ xs.0, xs.1)) reads
    (λ x. map_fronts (λ xs. x ∷ xs) (times read n) (times_fronts read reads n))

-- ---- fields

pub number_fronts : (w : Width) → ReadsFronts (number_at w)
unfolding number_at
number_fronts w bytes z e =
    let n = byte_len w in
    let g =
    guard_ok (ltb (length bytes) n) (length bytes)
    (Ok (from_le_bytes w (take n bytes), drop n bytes)) z e in
    let len : length (take n bytes) ≡ n = omega (arith, length-take n bytes, ltb-false _ _ g.0) in
    subst (TakesFront (number_at w) bytes)
    (ok_is {F = ℕ} (from_le_bytes w (take n bytes), drop n bytes) z g.1) (record {
      front = take n bytes;
      parts = sym (take-append-drop n bytes);
      again = λ rest.
          let long : ltb (length (take n bytes ++ rest)) n ≡ false =
          le-ltb _ _ (omega (arith, length-append (take n bytes) rest, len)) in
          rw (long, take_at (take n bytes) rest n len, drop_at (take n bytes) rest n len) refl;
    })

pub bytes_fronts : (n : ℕ) → ReadsFronts (bytes_at n)
unfolding bytes_at
bytes_fronts n bytes z e =
    let g = guard_ok (ltb (length bytes) n) (length bytes) (Ok (take n bytes, drop n bytes)) z e in
    let len : length (take n bytes) ≡ n = omega (arith, length-take n bytes, ltb-false _ _ g.0) in
    subst (TakesFront (bytes_at n) bytes)
    (ok_is {F = ℕ} (take n bytes, drop n bytes) z g.1) (record {
      front = take n bytes;
      parts = sym (take-append-drop n bytes);
      again = λ rest.
          let long : ltb (length (take n bytes ++ rest)) n ≡ false =
          le-ltb _ _ (omega (arith, length-append (take n bytes) rest, len)) in
          rw (long, take_at (take n bytes) rest n len, drop_at (take n bytes) rest n len) refl;
    })

flag_fronts : ReadsFronts flag_at
unfolding flag_at
flag_fronts [] z e = absurd cc
flag_fronts (flag ∷ rest) z e =
    elim (chosen (eqb flag 0) (Ok (false, rest))
    (cond (eqb flag 1) (Ok (true, rest)) (Err (length rest + 1))) (Ok z) e) [
      | inl p ↦
          subst (TakesFront flag_at (flag ∷ rest)) (ok_is {F = ℕ} (false, rest) z p.1)
          (record { front = flag ∷ []; parts = refl; again = λ more. rw p.0 refl })
      | inr p ↦
          elim (chosen (eqb flag 1) (Ok (true, rest)) (Err (length rest + 1)) (Ok z) p.1) [
            | inl q ↦
                subst (TakesFront flag_at (flag ∷ rest)) (ok_is {F = ℕ} (true, rest) z q.1)
                (record { front = flag ∷ []; parts = refl; again = λ more. rw (p.0, q.0) refl })
            | inr q ↦ absurd (let no = q.1 in cc)
          ]
    ]

pub text_fronts : ReadsFronts text_at
unfolding text_at
text_fronts = then_fronts (number_at w32) bytes_at (number_fronts w32) bytes_fronts

pub list_fronts : {A : Type 0} (read : Reader A) → ReadsFronts read → ReadsFronts (list_at read)
list_fronts read reads =
    then_fronts (number_at w32) (times read) (number_fronts w32) (times_fronts read reads)

maybe_fronts : {A : Type 0} (read : Reader A) → ReadsFronts read → (flag : Bool)
    → ReadsFronts (maybe_at flag read)
maybe_fronts read reads false = gives_fronts None
maybe_fronts read reads true = map_fronts Some read reads

pub optional_fronts : {A : Type 0} (read : Reader A) → ReadsFronts read
    → ReadsFronts (optional_at read)
optional_fronts read reads =
    then_fronts flag_at (λ flag. maybe_at flag read) flag_fronts (maybe_fronts read reads)

pub key_fronts : {K : Type 0} (cmp : K → K → Ordering) (last : Option K) (key : Reader K)
    → ReadsFronts key → ReadsFronts (unless (falls cmp last) key)
key_fronts cmp last key keys = unless_fronts (falls cmp last) key keys

rising_fronts : {K X : Type 0} (cmp : K → K → Ordering) (key : Reader K) (value : Reader X)
    → ReadsFronts key → ReadsFronts value → (n : ℕ) (last : Option K)
    → ReadsFronts (rising_at cmp key value last n)
unfolding rising_at
rising_fronts cmp key value keys values zero last = gives_fronts []
rising_fronts cmp key value keys values (suc n) last =
    then_fronts (unless (falls cmp last) key) (λ k at. value at >>= λ row.
    rising_at cmp key value (Some k) n row.1 >>= λ rows. Ok ((k, row.0) ∷ rows.0, rows.1))
    (key_fronts cmp last key keys)
    (λ k. then_fronts value (λ x at. rising_at cmp key value (Some k) n at
    >>= λ rows. Ok ((k, x) ∷ rows.0, rows.1)) values
    (λ x. map_fronts (λ rows. (k, x) ∷ rows) (rising_at cmp key value (Some k) n)
    (rising_fronts cmp key value keys values n (Some k))))

-- ---- satoshis

pub run_fronts : (spare : ℕ) (end : Option ℕ) → ReadsFronts (run_at spare end)
unfolding run_at
run_fronts spare end =
    then_fronts (unless (goes_on end) (number_at w64))
    (λ first at. unless (is_wrong_count spare first) (number_at w64) at
    >>= λ count. Ok (record { first = first; count = count.0 }, count.1))
    (unless_fronts (goes_on end) (number_at w64) (number_fronts w64))
    (λ first. map_fronts (λ count. record { first = first; count = count })
    (unless (is_wrong_count spare first) (number_at w64))
    (unless_fronts (is_wrong_count spare first) (number_at w64) (number_fronts w64)))

runs_fronts : (n spare : ℕ) (end : Option ℕ) → ReadsFronts (runs_at spare end n)
unfolding runs_at
runs_fronts zero spare end = gives_fronts []
runs_fronts (suc n) spare end =
    then_fronts (run_at spare end)
    (λ run at. runs_at (spare - run.count) (Some (end_of run)) n at
    >>= λ more. Ok (numbers_from run.first run.count ++ more.0, more.1)) (run_fronts spare end)
    (λ run. map_fronts (λ more. numbers_from run.first run.count ++ more)
    (runs_at (spare - run.count) (Some (end_of run)) n)
    (runs_fronts n (spare - run.count) (Some (end_of run))))

pub sats_fronts : ReadsFronts sats_at
unfolding sats_at
sats_fronts =
    then_fronts (number_at w32) (λ n. runs_at most_value None n) (number_fronts w32)
    (λ n. runs_fronts n most_value None)

-- ---- rows

pub outpoint_fronts : ReadsFronts outpoint_at
unfolding outpoint_at
outpoint_fronts = gives_fronts outpoint_of and bytes_fronts 32 and number_fronts w32

pub inscription_id_fronts : ReadsFronts inscription_id_at
unfolding inscription_id_at
inscription_id_fronts = gives_fronts inscription_id_of and bytes_fronts 32 and number_fronts w32

pub rune_id_fronts : ReadsFronts rune_id_at
unfolding rune_id_at
rune_id_fronts = gives_fronts rune_id_of and number_fronts w64 and number_fronts w32

pub out_row_fronts : ReadsFronts out_row_at
unfolding out_row_at
out_row_fronts = gives_fronts out_row_of and text_fronts and number_fronts w32 and sats_fronts

optional_text_fronts : ReadsFronts (optional_at text_at)
optional_text_fronts = optional_fronts text_at text_fronts

optional_number_fronts : (w : Width) → ReadsFronts (optional_at (number_at w))
optional_number_fronts w = optional_fronts (number_at w) (number_fronts w)

pub inscription_fronts : ReadsFronts inscription_at
unfolding inscription_at
inscription_fronts =
    gives_fronts inscription_of and inscription_id_fronts and number_fronts w32
    and optional_text_fronts and optional_text_fronts and optional_text_fronts
    and optional_text_fronts and optional_text_fronts
    and optional_fronts inscription_id_at inscription_id_fronts and optional_text_fronts
    and list_fronts inscription_id_at inscription_id_fronts and number_fronts w16
    and optional_number_fronts w64

amount_fronts : ReadsFronts amount_at
unfolding amount_at
amount_fronts = unless_fronts (λ amount. eqb amount 0) (number_at w128) (number_fronts w128)

pub balances_fronts : ReadsFronts balances_at
unfolding balances_at
balances_fronts =
    then_fronts (unless (λ n. eqb n 0) (number_at w32))
    (λ n. rising_at id_cmp rune_id_at amount_at None n)
    (unless_fronts (λ n. eqb n 0) (number_at w32) (number_fronts w32))
    (λ n. rising_fronts id_cmp rune_id_at amount_at rune_id_fronts amount_fronts n None)

pub terms_fronts : ReadsFronts terms_at
unfolding terms_at
terms_fronts =
    gives_fronts terms_of and optional_number_fronts w128 and optional_number_fronts w128
    and optional_number_fronts w64 and optional_number_fronts w64
    and optional_number_fronts w64 and optional_number_fronts w64

pub character_fronts : ReadsFronts character_at
unfolding character_at
character_fronts = unless_fronts (λ n. not (is_character n)) (number_at w32) (number_fronts w32)

pub rune_fronts : ReadsFronts rune_at
unfolding rune_at
rune_fronts =
    gives_fronts rune_of and rune_id_fronts and number_fronts w128 and number_fronts w32
    and number_fronts w8 and optional_fronts character_at character_fronts
    and number_fronts w128 and optional_fronts terms_at terms_fronts
    and number_fronts w128 and number_fronts w128 and bytes_fronts 32

pub counts_then_fronts : ReadsFronts counts_then_at
unfolding counts_then_at
counts_then_fronts =
    gives_fronts counts_then_of and number_fronts w128 and number_fronts w128
    and number_fronts w128 and number_fronts w128

-- ---- a change

rows_fronts : {X : Type 0} (value : Reader X) → ReadsFronts value
    → ReadsFronts (λ bytes. number_at w32 bytes
    >>= λ n. rising_at outpoint_cmp outpoint_at value None n.0 n.1)
rows_fronts value values =
    then_fronts (number_at w32) (λ n. rising_at outpoint_cmp outpoint_at value None n)
    (number_fronts w32)
    (λ n. rising_fronts outpoint_cmp outpoint_at value outpoint_fronts values n None)

outputs_fronts : ReadsFronts outputs_at
unfolding outputs_at
outputs_fronts = rows_fronts out_row_at out_row_fronts

placements_fronts : ReadsFronts placements_at
unfolding placements_at
placements_fronts = rows_fronts balances_at balances_fronts

counts_fronts : ReadsFronts counts_at
unfolding counts_at
counts_fronts =
    map_fronts _
    (λ at. number_at w32 at >>= λ n. rising_at nat_cmp (number_at w32) counts_then_at None n.0 n.1)
    (then_fronts (number_at w32)
    (λ n. rising_at nat_cmp (number_at w32) counts_then_at None n) (number_fronts w32)
    (λ n. rising_fronts nat_cmp (number_at w32) counts_then_at (number_fronts w32)
    counts_then_fronts n None))

pub change_fronts : ReadsFronts change_at
unfolding change_at
change_fronts =
    gives_fronts change_of and bytes_fronts 32 and outputs_fronts and outputs_fronts
    and sats_fronts and list_fronts inscription_at inscription_fronts and placements_fronts
    and placements_fronts and counts_fronts
    and list_fronts rune_at rune_fronts
