-- The envelopes of a transaction, as they are seen over its inputs.
use Rattle.std.proofs.Common.{◌≡◌, ◌∙◌, ◌≤◌, ℕ, suc, ◌+◌, List, [], ◌∷◌, ◌++◌, length, refl, ap, arith, Some, length-append}
use Rattle.std.specs.Prelude.{map, All, slice_get}
use Rattle.std.proofs.lemmas.List.{map-append}
use Rattle.std.proofs.lemmas.List.Elements.{All-nil, All-cons, All-append, All-weaker}
use Rattle.ox_block.specs.declared.block.TxIn.{TxIn}
use Rattle.ox_envelope.specs.declared.inscribed.Inscribed.{Inscribed}
use Rattle.ox_rules.specs.Outputs.{sats_of}
use Rattle.ox_rules.specs.declared.rows.OutRow.{OutRow}
use Rattle.ox_inscribe.specs.Reveal.{said_by, sightings_in, sightings_from, sources_of}
use Rattle.ox_inscribe.specs.declared.sightings.Sighting.{Sighting}
use Rattle.ox_inscribe.specs.Origins.{Saying, sayings_from}

abbrev pub saying_of : Sighting → Saying
saying_of seen = record { input = seen.input; says = seen.says }

-- each is seen once, in order
sayings_in : (input before sats place : ℕ) (says : List Inscribed) → map saying_of (sightings_in input before sats place says) ≡ map (λ one. record { input = input; says = one }) says
unfolding sightings_in
sayings_in input before sats place [] = refl
sayings_in input before sats place (one ∷ more) = ap (λ (rest : List Saying). record { input = input; says = one } ∷ rest) (sayings_in input before sats (place + 1) more)

pub sightings_are : (input before : ℕ) (inputs : List TxIn) (spent : List OutRow) → length spent ≡ length inputs → map saying_of (sightings_from input before (sources_of inputs spent)) ≡ sayings_from input inputs
unfolding sightings_from sources_of sayings_from
sightings_are input before [] [] each = refl
sightings_are input before [] (row ∷ rows) each = absurd (cc each)
sightings_are input before (one ∷ inputs) [] each = absurd (cc each)
sightings_are input before (one ∷ inputs) (row ∷ rows) each =
    map-append saying_of (sightings_in input before (length row.sats) 0 (said_by one)) _
    ∙ ap (λ (front : List Saying). front ++ map saying_of (sightings_from (input + 1) (before + length row.sats) (sources_of inputs rows))) (sayings_in input before (length row.sats) 0 (said_by one))
    ∙ ap (λ (back : List Saying). map (λ says. record { input = input; says = says }) (said_by one) ++ back) (sightings_are (input + 1) (before + length row.sats) inputs rows (cc each))

-- an envelope of this input
record IsOfInput (input before sats : ℕ) (seen : Sighting) : Type 0 where
  input_is : seen.input ≡ input
  before_is : seen.before ≡ before
  sats_is : seen.sats ≡ sats

of_input : (input before sats place : ℕ) (says : List Inscribed) → All (IsOfInput input before sats) (sightings_in input before sats place says)
unfolding sightings_in
of_input input before sats place [] = All-nil _
of_input input before sats place (one ∷ more) = All-cons (IsOfInput input before sats) _ _ (record { input_is = refl; before_is = refl; sats_is = refl }) (of_input input before sats (place + 1) more)

-- an envelope of an input among these, which spend these rows, the first of them at this place and behind so many satoshis
pub record IsIn (input before : ℕ) (spent : List OutRow) (seen : Sighting) : Type 0 where
  pub place : ℕ
  pub row : OutRow
  pub input_is : seen.input ≡ input + place
  pub there : slice_get spent place ≡ Some row
  pub size : seen.sats ≡ length row.sats
  pub fits : seen.before + seen.sats ≤ before + length (sats_of spent)

first_in : (input before : ℕ) (row : OutRow) (rows : List OutRow) (seen : Sighting) → IsOfInput input before (length row.sats) seen → IsIn input before (row ∷ rows) seen
first_in input before row rows seen is = record {
  place = 0;
  row = row;
  input_is = omega (arith, is.input_is);
  there = refl;
  size = is.sats_is;
  fits = omega (arith, is.before_is, is.sats_is, length-append row.sats (sats_of rows));
}

later_in : (input before : ℕ) (row : OutRow) (rows : List OutRow) (seen : Sighting) → IsIn (input + 1) (before + length row.sats) rows seen → IsIn input before (row ∷ rows) seen
later_in input before row rows seen is = record {
  place = suc is.place;
  row = is.row;
  input_is = omega (arith, is.input_is);
  there = is.there;
  size = is.size;
  fits = omega (arith, is.fits, length-append row.sats (sats_of rows));
}

pub all_in : (input before : ℕ) (inputs : List TxIn) (spent : List OutRow) → All (IsIn input before spent) (sightings_from input before (sources_of inputs spent))
unfolding sightings_from sources_of
all_in input before [] spent = All-nil _
all_in input before (one ∷ inputs) [] = All-nil _
all_in input before (one ∷ inputs) (row ∷ rows) =
    All-append (IsIn input before (row ∷ rows)) _ _
    (All-weaker (IsOfInput input before (length row.sats)) (IsIn input before (row ∷ rows)) (first_in input before row rows) _ (of_input input before (length row.sats) 0 (said_by one)))
    (All-weaker (IsIn (input + 1) (before + length row.sats) rows) (IsIn input before (row ∷ rows)) (later_in input before row rows) _ (all_in (input + 1) (before + length row.sats) inputs rows))
