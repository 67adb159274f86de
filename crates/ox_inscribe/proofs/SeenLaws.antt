-- The envelopes of a transaction, as they are found.
use Rattle.std.proofs.Common.{◌≡◌, ◌∙◌, ℕ, zero, suc, ◌+◌, ◌-◌, ◌*◌, ◌^◌, ◌<◌, ◌≤◌, Bool, true, false, List, [], ◌∷◌, ◌++◌, length, take, drop, get_or, refl, sym, ap, ap₂, subst, arith, append_assoc, append-nil, length-append, Option, Some, None, Bor, nat_lt}
use Rattle.std.specs.Prelude.{All, map, option_copied, slice_get, unwrap_or}
use Rattle.std.proofs.lemmas.Bool.{le-ltb}
use Rattle.std.proofs.lemmas.List.{drop_more, drop_all, take_more, take_all}
use Rattle.std.proofs.lemmas.List.Elements.{All-nil, All-cons, All-append}
use Rattle.std.proofs.lemmas.Option.{get_or_from_slice_get}
use Rattle.ox_script.specs.Script.{little_endian}
use Rattle.ox_script.specs.Witness.{tapscript, item_at}
use Rattle.ox_block.specs.declared.block.TxIn.{TxIn}
use Rattle.ox_envelope.specs.Envelope.{EnvelopePushes}
use Rattle.ox_envelope.specs.Mark.{bit}
use Rattle.ox_envelope.specs.Payload.{inscribed_of}
use Rattle.ox_envelope.specs.declared.inscribed.Inscribed.{Inscribed}
use Rattle.ox_rules.specs.Outputs.{sats_of}
use Rattle.ox_rules.specs.declared.rows.OutRow.{OutRow}
use Rattle.ox_inscribe.specs.Reveal.{said_by, sightings_in, sightings_from, sources_of}
use Rattle.ox_inscribe.specs.declared.sightings.Sighting.{Sighting}

-- ---- a pointer's bytes

last_parts : (k : ℕ) (bytes : List ℕ) → little_endian (drop k bytes) ≤ little_endian bytes
last_parts zero bytes = omega arith
last_parts (suc k) [] = omega arith
last_parts (suc k) (byte ∷ bytes) = let rest = last_parts k bytes in omega (arith, rest)

pub too_much : (bytes : List ℕ) (end number behind : ℕ) → behind < length bytes → number ≡ little_endian (drop (length bytes - behind) bytes) → 2 ^ 64 ≤ number * 256 → end < 2 ^ 64 → nat_lt (little_endian bytes) end ≡ false
too_much bytes end number behind within is much fits =
    let k = length bytes - behind - 1 in
    let one : k + 1 ≡ length bytes - behind = omega arith in
    let cut : little_endian (drop k bytes) ≡ get_or bytes k 0 + 256 * little_endian (drop (k + 1) bytes) = ap little_endian (drop_more bytes k 0 (omega arith)) in
    let rest : little_endian (drop (k + 1) bytes) ≡ number = ap (λ (n : ℕ). little_endian (drop n bytes)) one ∙ sym is in
    le-ltb (little_endian bytes) end (omega (arith, cut, rest, much, fits, last_parts k bytes))

-- ---- the tapscript

pub tapscript_at : (items : List (List ℕ)) (last : List ℕ) (place : ℕ) → slice_get items (length items - 1) ≡ Some last
    → ((before : List (List ℕ)) → length before + 1 ≡ length items → tapscript (before ++ last ∷ []) ≡ item_at (before ++ last ∷ []) (Some place))
    → slice_get items place ≡ tapscript items
tapscript_at [] last place ends at = absurd (cc ends)
tapscript_at (first ∷ others) last place ends at =
    let items : List (List ℕ) = first ∷ others in
    let count = length items - 1 in
    let counted : count + 1 ≡ length items = omega arith in
    let whole : take count items ++ last ∷ [] ≡ items =
    ap (λ (one : List ℕ). take count items ++ one ∷ []) (sym (get_or_from_slice_get items count last last ends))
    ∙ sym (take_more items count last (omega arith))
    ∙ take_all (count + 1) items (omega arith) in
    let short : length (take count items) + 1 ≡ length items = omega (arith, length-append (take count items) (last ∷ []), ap length whole) in
    ap (λ (all : List (List ℕ)). slice_get all place) (sym whole) ∙ sym (at (take count items) short) ∙ ap tapscript whole

-- what a look-up of bytes gives, and other bytes where it gives none
pub given_or : (found : Option (Bor (List ℕ))) (other result : Bor (List ℕ)) → result ≡ unwrap_or found other → result.now ≡ unwrap_or (option_copied found) other.now
given_or (Some bytes) other result is = ap (λ (b : Bor (List ℕ)). b.now) is
given_or None other result is = ap (λ (b : Bor (List ℕ)). b.now) is

-- ---- envelopes one by one

in-cons : (input before sats place : ℕ) (says : Inscribed) (more : List Inscribed) → sightings_in input before sats place (says ∷ more) ≡ (record { says = says; input = input; place = place; before = before; sats = sats }) ∷ sightings_in input before sats (place + 1) more
unfolding sightings_in
in-cons input before sats place says more = refl

in-none : (input before sats place : ℕ) → sightings_in input before sats place [] ≡ []
unfolding sightings_in
in-none input before sats place = refl

pub see_more : (seen after all : List Sighting) (input before sats place : ℕ) (envelopes : List EnvelopePushes) (envelope : EnvelopePushes) → place < length envelopes → envelope ≡ get_or envelopes place envelope
    → after ≡ seen ++ (record { says = inscribed_of envelope; input = input; place = place; before = before; sats = sats }) ∷ []
    → seen ++ sightings_in input before sats place (map inscribed_of (drop place envelopes)) ≡ all
    → after ++ sightings_in input before sats (place + 1) (map inscribed_of (drop (place + 1) envelopes)) ≡ all
see_more seen after all input before sats place envelopes envelope within is pushed so_far =
    let here : Sighting = record { says = inscribed_of envelope; input = input; place = place; before = before; sats = sats } in
    let rest = sightings_in input before sats (place + 1) (map inscribed_of (drop (place + 1) envelopes)) in
    let split : drop place envelopes ≡ envelope ∷ drop (place + 1) envelopes = drop_more envelopes place envelope within ∙ ap (λ (e : EnvelopePushes). e ∷ drop (place + 1) envelopes) (sym is) in
    ap (λ (front : List Sighting). front ++ rest) pushed
    ∙ append_assoc seen (here ∷ []) rest
    ∙ ap (λ (back : List Sighting). seen ++ back) (sym (ap (λ (es : List EnvelopePushes). sightings_in input before sats place (map inscribed_of es)) split ∙ in-cons input before sats place (inscribed_of envelope) (map inscribed_of (drop (place + 1) envelopes))))
    ∙ so_far

pub see_all : (seen all : List Sighting) (input before sats place : ℕ) (envelopes : List EnvelopePushes) → length envelopes ≤ place
    → seen ++ sightings_in input before sats place (map inscribed_of (drop place envelopes)) ≡ all → seen ≡ all
see_all seen all input before sats place envelopes past so_far =
    sym (ap (λ (back : List Sighting). seen ++ back) (ap (λ (es : List EnvelopePushes). sightings_in input before sats place (map inscribed_of es)) (drop_all place envelopes past) ∙ in-none input before sats place) ∙ append-nil seen) ∙ so_far

-- ---- inputs one by one

from-cons : (place before : ℕ) (input : TxIn) (inputs : List TxIn) (row : OutRow) (rows : List OutRow) → sightings_from place before (sources_of (input ∷ inputs) (row ∷ rows)) ≡ sightings_in place before (length row.sats) 0 (said_by input) ++ sightings_from (place + 1) (before + length row.sats) (sources_of inputs rows)
unfolding sightings_from sources_of
from-cons place before input inputs row rows = refl

from-none : (place before : ℕ) (rows : List OutRow) → sightings_from place before (sources_of [] rows) ≡ []
unfolding sightings_from sources_of
from-none place before rows = refl

pub input_more : (seen after all : List Sighting) (place before sats : ℕ) (inputs : List TxIn) (rows : List OutRow) (input : TxIn) (row : OutRow) → place < length inputs → place < length rows → input ≡ get_or inputs place input → row ≡ get_or rows place row → sats ≡ length (get_or rows place row).sats
    → after ≡ seen ++ sightings_in place before sats 0 (said_by input)
    → seen ++ sightings_from place before (sources_of (drop place inputs) (drop place rows)) ≡ all
    → after ++ sightings_from (place + 1) (before + sats) (sources_of (drop (place + 1) inputs) (drop (place + 1) rows)) ≡ all
input_more seen after all place before sats inputs rows input row within too is row_is long pushed so_far =
    let rest = sources_of (drop (place + 1) inputs) (drop (place + 1) rows) in
    let split : drop place inputs ≡ input ∷ drop (place + 1) inputs = drop_more inputs place input within ∙ ap (λ (i : TxIn). i ∷ drop (place + 1) inputs) (sym is) in
    let split_rows : drop place rows ≡ row ∷ drop (place + 1) rows = drop_more rows place row too ∙ ap (λ (r : OutRow). r ∷ drop (place + 1) rows) (sym row_is) in
    ap (λ (front : List Sighting). front ++ sightings_from (place + 1) (before + sats) rest) pushed
    ∙ append_assoc seen _ _
    ∙ ap (λ (n : ℕ). seen ++ (sightings_in place before n 0 (said_by input) ++ sightings_from (place + 1) (before + n) rest)) (long ∙ ap (λ (r : OutRow). length r.sats) (sym row_is))
    ∙ ap (λ (back : List Sighting). seen ++ back) (sym (ap₂ (λ (is : List TxIn) (rs : List OutRow). sightings_from place before (sources_of is rs)) split split_rows ∙ from-cons place before input (drop (place + 1) inputs) row (drop (place + 1) rows)))
    ∙ so_far

pub from_start : (seen : List Sighting) (held : ℕ) (inputs : List TxIn) (rows : List OutRow) → seen ≡ [] → seen ++ sightings_from 0 (held - held) (sources_of inputs rows) ≡ sightings_from 0 0 (sources_of inputs rows)
from_start seen held inputs rows none =
    let start : held - held ≡ 0 = omega arith in
    ap (λ (front : List Sighting). front ++ sightings_from 0 (held - held) (sources_of inputs rows)) none ∙ ap (λ (before : ℕ). sightings_from 0 before (sources_of inputs rows)) start

pub input_all : (seen all : List Sighting) (place before : ℕ) (inputs : List TxIn) (rows : List OutRow) → length inputs ≤ place
    → seen ++ sightings_from place before (sources_of (drop place inputs) (drop place rows)) ≡ all → seen ≡ all
input_all seen all place before inputs rows past so_far =
    sym (ap (λ (back : List Sighting). seen ++ back) (ap (λ (is : List TxIn). sightings_from place before (sources_of is (drop place rows))) (drop_all place inputs past) ∙ from-none place before (drop place rows)) ∙ append-nil seen) ∙ so_far

-- the satoshis that are left to bring
pub sats_more : (place : ℕ) (rows : List OutRow) (row : OutRow) → place < length rows → length (sats_of (drop place rows)) ≡ length (get_or rows place row).sats + length (sats_of (drop (place + 1) rows))
sats_more place rows row within =
    ap (λ (rs : List OutRow). length (sats_of rs)) (drop_more rows place row within)
    ∙ length-append (get_or rows place row).sats (sats_of (drop (place + 1) rows))

-- ---- the marks of an envelope

abbrev IsSmall : Sighting → Type 0
IsSmall one = one.says.marks < 128

a_bit : (is : Bool) (worth : ℕ) → bit is worth ≤ worth
a_bit true worth = omega arith
a_bit false worth = omega arith

small_sum : (a b c d e : Bool) → bit a 1 + bit b 2 + bit c 4 + bit d 32 + bit e 64 < 128
small_sum a b c d e = omega (arith, a_bit a 1, a_bit b 2, a_bit c 4, a_bit d 32, a_bit e 64)

small_marks : (envelope : EnvelopePushes) → (inscribed_of envelope).marks < 128
small_marks envelope = small_sum _ _ _ _ _

small_in : (input before sats place : ℕ) (envelopes : List EnvelopePushes) → All IsSmall (sightings_in input before sats place (map inscribed_of envelopes))
unfolding sightings_in
small_in input before sats place [] = All-nil IsSmall
small_in input before sats place (envelope ∷ envelopes) =
    All-cons IsSmall (record { says = inscribed_of envelope; input = input; place = place; before = before; sats = sats }) _ (small_marks envelope) (small_in input before sats (place + 1) envelopes)

all_small : (place before : ℕ) (inputs : List TxIn) (rows : List OutRow) → All IsSmall (sightings_from place before (sources_of inputs rows))
unfolding sightings_from sources_of
all_small place before [] rows = All-nil IsSmall
all_small place before (input ∷ inputs) [] = All-nil IsSmall
all_small place before (input ∷ inputs) (row ∷ rows) =
    All-append IsSmall _ _ (small_in place before (length row.sats) 0 _) (all_small (place + 1) (before + length row.sats) inputs rows)

pub small_seen : (seen : List Sighting) (inputs : List TxIn) (rows : List OutRow) → seen ≡ sightings_from 0 0 (sources_of inputs rows) → All (λ (one : Sighting). one.says.marks < 128) seen
small_seen seen inputs rows is = subst (λ (all : List Sighting). All IsSmall all) (sym is) (all_small 0 0 inputs rows)
