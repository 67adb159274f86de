-- A sound index and a change between two of them keep what their rows ask for.
use Rattle.std.proofs.Common.{◌≡◌, ◌≢◌, ◌∙◌, ℕ, ◌+◌, ◌<◌, ◌≤◌, Bool, true, false, cond, List, [], ◌∷◌, ◌++◌, length, map, refl, sym, ap, subst, arith, Some}
use Rattle.std.specs.Prelude.{nat_lt, All}
use Rattle.std.specs.FinMap.{get, remove}
use Rattle.std.specs.List.{AllByRecursion}
use Rattle.std.specs.List.Sorted.{IsStrictlySortedBy}
use Rattle.std.specs.Ordering.{nat_cmp}
use Rattle.std.specs.declared.cmp.Ordering.TheVariants.{Less}
use Rattle.std.proofs.lemmas.Bool.{cond-true, lt-ltb}
use Rattle.std.proofs.lemmas.List.Elements.{All-cons, All-nil}
use Rattle.ox_block.specs.declared.block.OutPoint.{OutPoint}
use Rattle.ox_block.specs.Spelling.{most_value}
use Rattle.ox_sat.specs.declared.profiles.Profile.{Profile}
use Rattle.ox_sat.specs.Profiles.{IsProfile}
use Rattle.ox_sat.specs.Heights.{first_at}
use Rattle.ox_sat.proofs.Epochs.{counts, first_most}
use Rattle.ox_rules.specs.declared.rows.OutRow.{OutRow}
use Rattle.ox_rules.specs.Outputs.{Outputs, sats_held, times}
use Rattle.ox_rules.specs.Differences.{AreGone}
use Rattle.ox_rules.proofs.Conservation.{times-append, times_held, times_in}
use Rattle.ox_rules.proofs.MapSums.{total_remove}
use Rattle.ox_rules.proofs.Orders.{outpoints_total, outpoints_exact}
use Rattle.ox_allocation.specs.Balances.{Balance}
use Rattle.ox_etching.specs.declared.row.RuneRow.{RuneRow}
use Rattle.ox_ledger.specs.Part.{changes_from, counts_alike, counts_of}
use Rattle.ox_ledger.specs.declared.part.CountChange.{CountChange}
use Rattle.ox_ledger.specs.Runes.{Placement}
use Rattle.ox_model.specs.Change.{IsChange, undone}
use Rattle.ox_model.specs.Ends.{AllEnd}
use Rattle.ox_model.specs.Index.{Index}
use Rattle.ox_model.specs.Sound.{IsSound}
use Rattle.ox_model.specs.declared.change.Change.{Change}
use Rattle.ox_rows.specs.Fits.{AreSats}
use Rattle.ox_rows.specs.RowFits.{AreHeld, KeepsChange, KeepsIndex, KeepsOutputs, KeepsPlacements}
use Rattle.ox_checkpoint.proofs.RowLemmas.{all_entries, all_rows, entries_rise}
use Rattle.ox_checkpoint.proofs.SatLemmas.{are_sats}

bounded : (p : Profile) (height : ℕ) → IsProfile p → first_at p height ≤ most_value
bounded p height known =
    let few : p.supply ≤ 2099999997690000 = (counts p known).few in
    let most : first_at p height ≤ p.supply = first_most p height (counts p known) in
    omega (arith, few, most)

-- satoshis that an index has, each as often at most
some_of : (p : Profile) (index : Index) (sats : List ℕ) → IsProfile p → IsSound p index
    → ((sat : ℕ) → times sat sats ≤ times sat (sats_held index.outs ++ index.lost)) → AreSats sats
some_of p index sats known sound fewer =
    are_sats (first_at p (length index.hashes)) sats (bounded p (length index.hashes) known) (record {
      once = λ sat. let less : times sat sats ≤ times sat (sats_held index.outs ++ index.lost) = fewer sat in
          let all : times sat (sats_held index.outs ++ index.lost) ≡ cond (nat_lt sat (first_at p (length index.hashes))) 1 0 = sound.sats.once sat in
          omega (arith, less, all);
    })

row_in : (sat : ℕ) (outs : Outputs) (at : OutPoint) (row : OutRow) → get outs at ≡ Some row → times sat row.sats ≤ times sat (sats_held outs)
row_in sat outs at row there =
    let rest : times_in sat (remove outs at) + times sat row.sats ≡ times_in sat outs = total_remove outpoints_total outpoints_exact (λ (r : OutRow). times sat r.sats) outs at row there in
    let all : times sat (sats_held outs) ≡ times_in sat outs = times_held sat outs in
    omega (arith, rest, all)

-- the satoshis of an output
output_sats : (p : Profile) (index : Index) → IsProfile p → IsSound p index → (at : OutPoint) (row : OutRow) → get index.outs at ≡ Some row → AreSats row.sats
output_sats p index known sound at row there =
    some_of p index row.sats known sound (λ sat.
    let here : times sat row.sats ≤ times sat (sats_held index.outs) = row_in sat index.outs at row there in
    let all : times sat (sats_held index.outs ++ index.lost) ≡ times sat (sats_held index.outs) + times sat index.lost = times-append sat (sats_held index.outs) index.lost in
    omega (arith, here, all))

-- the last of the lost satoshis
lost_sats : (p : Profile) (index : Index) (front last : List ℕ) → IsProfile p → IsSound p index → index.lost ≡ front ++ last → AreSats last
lost_sats p index front last known sound is =
    some_of p index last known sound (λ sat.
    let lost : times sat index.lost ≡ times sat front + times sat last = ap (times sat) is ∙ times-append sat front last in
    let all : times sat (sats_held index.outs ++ index.lost) ≡ times sat (sats_held index.outs) + times sat index.lost = times-append sat (sats_held index.outs) index.lost in
    omega (arith, lost, all))

some_there : {A : Type 0} (list : List A) → list ≢ [] → 0 < length list
some_there [] some = absurd (some refl)
some_there (x ∷ list) some = omega arith

pub held_there : (p : Profile) (index : Index) → IsSound p index → (at : OutPoint) (balances : List Balance) → get index.bal at ≡ Some balances → AreHeld balances
held_there p index sound at balances there =
    let held = sound.runes.balanced.held at balances there in record {
      some = some_there balances held.0;
      proper = held.1.proper;
    }

pub keeps_index : (p : Profile) (index : Index) → IsProfile p → IsSound p index → KeepsIndex index
keeps_index p index known sound = record {
  outs = record {
    rising = entries_rise index.outs;
    sats = all_entries (λ (placed : OutPoint × OutRow). AreSats placed.1.sats) index.outs (output_sats p index known sound);
  };
  lost = lost_sats p index [] index.lost known sound refl;
  bal = record {
    rising = entries_rise index.bal;
    held = all_entries (λ (placed : Placement). AreHeld placed.1) index.bal (held_there p index sound);
  };
}

-- ---- a change

-- the outputs that are in one index and not so in another
outputs_of : (p : Profile) (index other : Index) (rows : List (OutPoint × OutRow)) → IsProfile p → IsSound p index → AreGone index.outs other.outs rows → KeepsOutputs rows
outputs_of p index other rows known sound gone = record {
  rising = gone.rising;
  sats = all_rows (λ (placed : OutPoint × OutRow). AreSats placed.1.sats) rows gone.rising (λ at row found. output_sats p index known sound at row ((gone.rows at row).0 found).0);
}

placements_of : (p : Profile) (index other : Index) (rows : List Placement) → IsSound p index → AreGone index.bal other.bal rows → KeepsPlacements rows
placements_of p index other rows sound gone = record {
  rising = gone.rising;
  held = all_rows (λ (placed : Placement). AreHeld placed.1) rows gone.rising (λ at balances found. held_there p index sound at balances ((gone.rows at balances).0 found).0);
}

abbrev places : List CountChange → List ℕ
places changes = map (λ (c : CountChange). c.place) changes

abbrev Above : ℕ → List ℕ → Type 0
Above place numbers = AllByRecursion (λ (n : ℕ). place ≤ n) numbers

lower : (low high : ℕ) (numbers : List ℕ) → low ≤ high → Above high numbers → Above low numbers
lower low high [] h all = tt
lower low high (n ∷ numbers) h all = (let here : high ≤ n = all.0 in omega (arith, h, here), lower low high numbers h all.1)

less : (a b : ℕ) → a < b → nat_cmp a b ≡ Less
less a b h = cond-true _ _ _ (lt-ltb a b h)

all_less : (place : ℕ) (numbers : List ℕ) → Above (place + 1) numbers → AllByRecursion (λ (n : ℕ). nat_cmp place n ≡ Less) numbers
all_less place [] all = tt
all_less place (n ∷ numbers) all = (less place n (let here : place + 1 ≤ n = all.0 in omega (arith, here)), all_less place numbers all.1)

record Rise (place : ℕ) (changes : List CountChange) : Type 0 where
  above : Above place (places changes)
  rising : IsStrictlySortedBy nat_cmp (places changes)

no_changes : (place : ℕ) → Rise place []
unfolding IsStrictlySortedBy
no_changes place = record { above = tt; rising = tt }

one_more : (place : ℕ) (change : CountChange) (changes : List CountChange) → change.place ≡ place → Rise (place + 1) changes → Rise place (change ∷ changes)
unfolding IsStrictlySortedBy
one_more place change changes is rest = record {
  above = (omega (arith, is), lower place (place + 1) (places changes) (omega arith) rest.above);
  rising = (all_less change.place (places changes) (subst (λ (n : ℕ). Above (n + 1) (places changes)) (sym is) rest.above), rest.rising);
}

chosen : (place : ℕ) (one : CountChange) (changes : List CountChange) (alike : Bool) → one.place ≡ place → Rise (place + 1) changes → Rise place (cond alike changes (one ∷ changes))
chosen place one changes true is rest = record { above = lower place (place + 1) (places changes) (omega arith) rest.above; rising = rest.rising }
chosen place one changes false is rest = one_more place one changes is rest

changes_rise : (place : ℕ) (before after : List RuneRow) → Rise place (changes_from place before after)
unfolding changes_from
changes_rise place [] after = no_changes place
changes_rise place (old ∷ before) [] = no_changes place
changes_rise place (old ∷ before) (new ∷ after) =
    chosen place (record { place = place; before = counts_of old; after = counts_of new }) (changes_from (place + 1) before after) (counts_alike old new) refl (changes_rise (place + 1) before after)

pub keeps_change : (p : Profile) (before after : Index) (change : Change) → IsProfile p → IsChange before after change → IsSound p before → IsSound p after → KeepsChange change
keeps_change p before after change known leads sound_before sound_after = record {
  gone = outputs_of p before after change.gone known sound_before leads.gone;
  came = outputs_of p after before change.came known sound_after leads.came;
  lost = lost_sats p after before.lost change.lost known sound_after leads.lost;
  before = placements_of p before after change.runes.before sound_before leads.runes.balances.gone;
  after = placements_of p after before change.runes.after sound_after leads.runes.balances.came;
  counts = subst (λ (changes : List CountChange). IsStrictlySortedBy nat_cmp (places changes)) (sym leads.runes.counts) (changes_rise 0 before.runes after.runes).rising;
}

-- changes that lead down from a sound index
pub each_keeps : (p : Profile) (index : Index) (changes : List Change) → IsProfile p → IsSound p index → AllEnd p index changes → All KeepsChange changes
each_keeps p index [] known sound end = All-nil KeepsChange
each_keeps p index (change ∷ changes) known sound end =
    All-cons KeepsChange change changes (keeps_change p (undone index change) index change known end.0.leads end.0.sound sound)
    (each_keeps p (undone index change) changes known end.0.sound end.1)
