-- Rules that look at a change and at what it touches alone: where it keeps them, the index after it
-- is as sound as the one before it.
use Rattle.std.specs.Prelude.{◌≡◌, ℕ, ◌+◌, ◌-◌, ◌*◌, Bool, true, not, ◌&&◌, ◌||◌, IsTrue, ◌==◌}
use Rattle.std.specs.Prelude.{List, ◌++◌, length, map, sum_by, nat_le, is_some, slice_get}
use Rattle.std.specs.Prelude.{if◌then◌else◌}
use Rattle.std.specs.FinMap.{get}
use Rattle.std.specs.List.{list_all, list_any}
use Rattle.std.specs.Option.{option_map_or}
use Rattle.ox_block.specs.declared.block.OutPoint.{OutPoint}
use Rattle.ox_sat.specs.declared.profiles.Profile.{Profile}
use Rattle.ox_sat.specs.Heights.{first_at, subsidy_at}
use Rattle.ox_range.specs.Numbers.{numbers_from}
use Rattle.ox_runestone.specs.declared.stone.RuneId.{RuneId}
use Rattle.ox_rules.specs.Outputs.{sats_of, times}
use Rattle.ox_rules.specs.declared.rows.OutRow.{OutRow}
use Rattle.ox_etching.specs.declared.row.RuneRow.{RuneRow}
use Rattle.ox_allocation.specs.Balances.{is_same}
use Rattle.ox_ledger.specs.Balanced.{amount_per_mint, cap_in, made_of}
use Rattle.ox_ledger.specs.declared.part.CountChange.{CountChange}
use Rattle.ox_ledger.specs.declared.part.RunePart.{RunePart}
use Rattle.ox_ledger.specs.Runes.{Placement}
use Rattle.ox_model.specs.Change.{redone}
use Rattle.ox_model.specs.Index.{Index}
use Rattle.ox_model.specs.Sound.{is_first}
use Rattle.ox_model.specs.declared.change.Change.{Change}
use Rattle.ox_sound.specs.Amounts.{sum_held}
use Rattle.ox_sound.specs.Rows.{are_known, ids_differ, is_bounded, names_differ}
use Rattle.ox_sound.specs.Sound.{is_revealed}

-- ---- heights, outputs and inscriptions

-- one block more is allowed
abbrev pub heights_keep : Profile → Index → Bool
heights_keep p before = nat_le (length before.hashes) p.last

-- outputs that come are of heights up to the new one
abbrev pub outputs_keep : ℕ → List (OutPoint × OutRow) → Bool
outputs_keep height came = list_all (λ row. nat_le row.1.height height) came

-- inscriptions are of heights up to the new one, and on satoshis that could be claimed up to it
abbrev pub inscriptions_keep : Profile → ℕ → Change → Bool
inscriptions_keep p height change =
    list_all (is_revealed (height + 1) (first_at p (height + 1))) change.inscriptions

-- ---- satoshis

-- the satoshis of some rows
abbrev pub sats_in : List (OutPoint × OutRow) → List ℕ
sats_in rows = sats_of (map (λ row. row.1) rows)

-- satoshis that come and those that are lost are those that are gone and the new height's
pub record KeepsSats (p : Profile) (height : ℕ) (change : Change) : Type 0 where
  pub same : (sat : ℕ)
      → times sat (sats_in change.came ++ change.lost)
      ≡ times sat (sats_in change.gone ++ numbers_from (first_at p height) (subsidy_at p height))

-- ---- where balances are

-- something stands at an outpoint after the change
abbrev pub is_output_after : Index → Change → OutPoint → Bool
is_output_after before change at = is_some (get (redone before change).outs at)

abbrev pub has_runes_after : Index → Change → OutPoint → Bool
has_runes_after before change at = is_some (get (redone before change).bal at)

-- balances come at outputs that stand after, and at outputs that go nothing is left
abbrev pub places_keep : Index → Change → Bool
places_keep before change =
    list_all (λ (row : Placement). is_output_after before change row.0) change.runes.after
    && list_all (λ (row : OutPoint × OutRow). is_output_after before change row.0
    || not (has_runes_after before change row.0)) change.gone

-- ---- runes

-- its id is of the block at this height
abbrev pub has_new_id : Profile → ℕ → RuneRow → Bool
has_new_id p height row = (row.id.block == height) && not (is_first p row)

-- none of these runes has its name
abbrev pub is_named_apart : List RuneRow → RuneRow → Bool
is_named_apart runes row = not (list_any (λ (other : RuneRow). other.name == row.name) runes)

-- counts of a rune that is there rise, and it isn't minted beyond its cap
abbrev pub count_keeps : List RuneRow → CountChange → Bool
count_keeps runes change =
    nat_le change.before.mints change.after.mints
    && nat_le change.before.burned change.after.burned
    && option_map_or (λ (row : RuneRow). nat_le change.after.mints (cap_in row.terms))
    (slice_get runes change.place) true

-- new runes have ids and names of their own and numbers within their bounds
abbrev pub new_runes_keep : Profile → ℕ → List RuneRow → List RuneRow → Bool
new_runes_keep p height runes appended =
    ids_differ appended && names_differ appended
    && list_all (λ (row : RuneRow). has_new_id p height row && is_bounded row) appended
    && list_all (is_named_apart appended) runes

-- balances that come are of runes that are there after
abbrev pub balances_keep : List RuneRow → List Placement → Bool
balances_keep runes came = list_all (λ (row : Placement). are_known runes row.1) came

-- ---- amounts

-- how much of a rune is in some balances
abbrev pub amount_placed : List Placement → RuneId → ℕ
amount_placed rows id = sum_held (map (λ (row : Placement). row.1) rows) id

-- what changed counts come to, where they are of the rune with an id
abbrev pub counted_of : (CountChange → RuneRow → ℕ) → List RuneRow → RuneId → CountChange → ℕ
counted_of of runes id change =
    option_map_or (λ (row : RuneRow). if is_same row.id id then of change row else 0)
    (slice_get runes change.place) 0

-- what all changed counts of the rune with an id come to
abbrev pub sum_counted : (CountChange → RuneRow → ℕ) → List RuneRow → List CountChange → RuneId → ℕ
sum_counted of runes counts id = sum_by (counted_of of runes id) counts

-- what new runes with an id come to
abbrev pub sum_new : (RuneRow → ℕ) → List RuneRow → RuneId → ℕ
sum_new of appended id =
    sum_by (λ (row : RuneRow). if is_same row.id id then of row else 0) appended

-- how much more is burned by changed counts, and how much more is minted
abbrev pub burned_more : CountChange → RuneRow → ℕ
burned_more change row = change.after.burned - change.before.burned

abbrev pub minted_more : CountChange → RuneRow → ℕ
minted_more change row =
    (change.after.mints - change.before.mints) * amount_per_mint row.terms

-- of each rune what comes and is burned is what is gone, is minted and is etched
pub record KeepsAmounts (runes : List RuneRow) (part : RunePart) : Type 0 where
  pub same : (id : RuneId)
      → amount_placed part.after id + sum_counted burned_more runes part.counts id
      + sum_new (λ row. row.burned) part.appended id
      ≡ amount_placed part.before id + sum_counted minted_more runes part.counts id
      + sum_new made_of part.appended id

pub record KeepsRunes (p : Profile) (before : Index) (change : Change) : Type 0 where
  pub new : IsTrue (new_runes_keep p (length before.hashes) before.runes change.runes.appended)
  pub counts : IsTrue (list_all (count_keeps before.runes) change.runes.counts)
  pub balances : IsTrue (balances_keep (redone before change).runes change.runes.after)
  pub amounts : KeepsAmounts before.runes change.runes

-- all rules together
pub record Keeps (p : Profile) (before : Index) (change : Change) : Type 0 where
  pub heights : IsTrue (heights_keep p before)
  pub outputs : IsTrue (outputs_keep (length before.hashes) change.came)
  pub inscriptions : IsTrue (inscriptions_keep p (length before.hashes) change)
  pub sats : KeepsSats p (length before.hashes) change
  pub places : IsTrue (places_keep before change)
  pub runes : KeepsRunes p before change
