-- What a change leaves where it keeps the rules: heights, outputs, inscriptions, satoshis, and where
-- balances are.
use Rattle.std.proofs.Common.{◌≡◌, ◌∙◌, ℕ, suc, ◌+◌, ◌<◌, ◌≤◌, Bool, true, false, cond, not, List, [], ◌∷◌, ◌++◌, length, refl, sym, ap, arith, inl, inr, Option, Some, None}
use Rattle.std.specs.Prelude.{◌||◌, nat_lt, nat_le, is_some, IfSome, IsSome}
use Rattle.std.specs.FinMap.{find, get}
use Rattle.std.specs.List.{AllByRecursion, list_all}
use Rattle.std.proofs.lemmas.Bool.{and_parts, cases_lt, cond-false, cond-true, false≢true, le-ltb, leb-true, lt-ltb, or_cases}
use Rattle.std.proofs.lemmas.List.{length-append}
use Rattle.std.proofs.lemmas.List.Elements.{All-append, All-weaker}
use Rattle.ox_block.specs.declared.block.OutPoint.{OutPoint}
use Rattle.ox_sat.specs.Heights.{first_at, subsidy_at}
use Rattle.ox_sat.specs.declared.profiles.Profile.{Profile}
use Rattle.ox_range.specs.Numbers.{numbers_from}
use Rattle.ox_rules.specs.Differences.{reverse_of}
use Rattle.ox_rules.specs.Outputs.{Outputs, outpoint_cmp, sats_held, times}
use Rattle.ox_rules.specs.declared.rows.OutRow.{OutRow}
use Rattle.ox_rules.proofs.Conservation.{times-append, times_held}
use Rattle.ox_rules.proofs.DifferenceLemmas.{or_else}
use Rattle.ox_rules.proofs.MapSums.{total}
use Rattle.ox_rules.proofs.Orders.{outpoints_exact, outpoints_total}
use Rattle.ox_inscribe.specs.declared.row.InsRow.{InsRow}
use Rattle.ox_allocation.specs.Balances.{Balance}
use Rattle.ox_ledger.specs.Part.{balances_of}
use Rattle.ox_ledger.specs.Runes.{Placement}
use Rattle.ox_model.specs.Change.{outputs_changed, redone}
use Rattle.ox_model.specs.Index.{Index}
use Rattle.ox_model.specs.Sound.{SoundHeights, SoundInscriptions, SoundOutputs, SoundSats}
use Rattle.ox_model.specs.declared.change.Change.{Change}
use Rattle.ox_plain.specs.Ends.{difference_ends}
use Rattle.ox_plain.specs.Same.{same_output}
use Rattle.ox_plain.proofs.SameLemmas.{same_output-Decides}
use Rattle.ox_sound.specs.Keeps.{KeepsSats, has_runes_after, heights_keep, inscriptions_keep, is_output_after, outputs_keep, places_keep, sats_in}
use Rattle.ox_sound.specs.Sound.{inscriptions_pass, is_revealed}
use Rattle.ox_sound.proofs.ExchangeLemmas.{each_from, each_other, each_weaker, exchanged, get_other, holds_found}
use Rattle.ox_sound.proofs.SoundLemmas.{Decides-inscriptions}
use Rattle.ox_sound.proofs.TileLemmas.{times_in_run, within}

-- ---- one block more

pub one_more : (before : Index) (change : Change) → length (redone before change).hashes ≡ length before.hashes + 1
one_more before change = length-append before.hashes (change.hash ∷ [])

first_next : (p : Profile) (height : ℕ) → first_at p (height + 1) ≡ first_at p height + subsidy_at p height
unfolding first_at
first_next p height = let next : height + 1 ≡ suc height = omega arith in ap (first_at p) next

pub heights_after : (p : Profile) (before : Index) (change : Change) → heights_keep p before ≡ true → SoundHeights p (redone before change)
heights_after p before change is = record {
  last =
      let below : length before.hashes ≤ p.last = leb-true (length before.hashes) p.last is in
      let more = one_more before change in
      omega (arith, below, more);
}

-- ---- outputs

pub outputs_after : (before : Index) (change : Change) → SoundOutputs before → outputs_keep (length before.hashes) change.came ≡ true → SoundOutputs (redone before change)
outputs_after before change sound is = record {
  below = each_other outpoints_total outpoints_exact (λ (at : OutPoint) (row : OutRow). row.height < length (redone before change).hashes) before.outs (outputs_changed change)
      (each_weaker (λ (e : OutPoint × OutRow). nat_le e.1.height (length before.hashes) ≡ true) (λ (e : OutPoint × OutRow). e.1.height < length (redone before change).hashes)
      (λ e low. let most : e.1.height ≤ length before.hashes = leb-true e.1.height (length before.hashes) low in let more = one_more before change in omega (arith, most, more))
      change.came (each_from (λ (e : OutPoint × OutRow). nat_le e.1.height (length before.hashes)) change.came is))
      (λ at row there none. let low : row.height < length before.hashes = sound.below at row there in let more = one_more before change in omega (arith, low, more));
}

-- ---- inscriptions

below_next : (first next : ℕ) (o : Option ℕ) → first ≤ next → IfSome o (λ sat. sat < first) → IfSome o (λ sat. sat < next)
below_next first next None less low = tt
below_next first next (Some n) less low = omega (arith, less, low)

-- an index with these inscriptions
abbrev WithInscriptions : Index → List InsRow → Index
WithInscriptions index rows = record { hashes = index.hashes; outs = index.outs; lost = index.lost; inscriptions = rows; bal = index.bal; runes = index.runes }

new_inscriptions : (p : Profile) (before : Index) (change : Change) → inscriptions_keep p (length before.hashes) change ≡ true
    → SoundInscriptions p (WithInscriptions (redone before change) change.inscriptions)
unfolding inscriptions_pass
new_inscriptions p before change is =
    (Decides-inscriptions p (WithInscriptions (redone before change) change.inscriptions)).0
    (ap (λ (n : ℕ). list_all (is_revealed n (first_at p n)) change.inscriptions) (one_more before change) ∙ is)

pub inscriptions_after : (p : Profile) (before : Index) (change : Change) → SoundInscriptions p before → inscriptions_keep p (length before.hashes) change ≡ true
    → SoundInscriptions p (redone before change)
inscriptions_after p before change sound is =
    let more = one_more before change in
    let blocks : ℕ = length (redone before change).hashes in
    let next : first_at p blocks ≡ first_at p (length before.hashes) + subsidy_at p (length before.hashes) = ap (first_at p) more ∙ first_next p (length before.hashes) in
    let new = new_inscriptions p before change is in
    record {
      below = All-append (λ (row : InsRow). row.height < blocks) before.inscriptions change.inscriptions
          (All-weaker (λ (row : InsRow). row.height < length before.hashes) (λ (row : InsRow). row.height < blocks) (λ row low. omega (arith, low, more)) before.inscriptions sound.below)
          new.below;
      minted = All-append (λ (row : InsRow). IfSome row.sat (λ sat. sat < first_at p blocks)) before.inscriptions change.inscriptions
          (All-weaker (λ (row : InsRow). IfSome row.sat (λ sat. sat < first_at p (length before.hashes))) (λ (row : InsRow). IfSome row.sat (λ sat. sat < first_at p blocks))
          (λ row low. below_next (first_at p (length before.hashes)) (first_at p blocks) row.sat (omega (arith, next)) low) before.inscriptions sound.minted)
          new.minted;
    }

-- ---- satoshis

rows_held : (sat : ℕ) (rows : List (OutPoint × OutRow)) → times sat (sats_in rows) ≡ total outpoints_total (λ (row : OutRow). times sat row.sats) rows
rows_held sat [] = refl
rows_held sat (row ∷ rows) = times-append sat row.1.sats (sats_in rows) ∙ ap (λ (n : ℕ). times sat row.1.sats + n) (rows_held sat rows)

-- those up to a number and a stretch behind them
more_below : (sat first count : ℕ) → cond (nat_lt sat first) 1 0 + within first (first + count) sat ≡ cond (nat_lt sat (first + count)) 1 0
more_below sat first count =
    elim (cases_lt sat first) [
      | inl low ↦
          let one : ◌≡◌ {A = ℕ} (cond (nat_lt sat first) 1 0) 1 = cond-true (nat_lt sat first) 1 0 (lt-ltb sat first low) in
          let none : within first (first + count) sat ≡ 0 = cond-true (nat_lt sat first) 0 (cond (nat_lt sat (first + count)) 1 0) (lt-ltb sat first low) in
          let all : ◌≡◌ {A = ℕ} (cond (nat_lt sat (first + count)) 1 0) 1 = cond-true (nat_lt sat (first + count)) 1 0 (lt-ltb sat (first + count) (omega (arith, low))) in
          omega (arith, one, none, all)
      | inr high ↦
          let none : ◌≡◌ {A = ℕ} (cond (nat_lt sat first) 1 0) 0 = cond-false (nat_lt sat first) 1 0 (le-ltb sat first high) in
          let here : within first (first + count) sat ≡ cond (nat_lt sat (first + count)) 1 0 = cond-false (nat_lt sat first) 0 (cond (nat_lt sat (first + count)) 1 0) (le-ltb sat first high) in
          omega (arith, none, here)
    ]

pub sats_after : (p : Profile) (before : Index) (change : Change) → SoundSats p before → difference_ends same_output before.outs (reverse_of (outputs_changed change)) ≡ true
    → KeepsSats p (length before.hashes) change → SoundSats p (redone before change)
sats_after p before change sound begins keeps = record { once = once } where
  first : ℕ
  first = first_at p (length before.hashes)

  count : ℕ
  count = subsidy_at p (length before.hashes)

  outs : Outputs
  outs = (redone before change).outs

  next : first_at p (length (redone before change).hashes) ≡ first + count
  next = ap (first_at p) (one_more before change) ∙ first_next p (length before.hashes)

  once : (sat : ℕ) → times sat (sats_held outs ++ (before.lost ++ change.lost)) ≡ cond (nat_lt sat (first_at p (length (redone before change).hashes))) 1 0
  once sat = counted ∙ more_below sat first count ∙ ap (λ (n : ℕ). cond (nat_lt sat n) 1 0) (sym next) where
    counted : times sat (sats_held outs ++ (before.lost ++ change.lost)) ≡ cond (nat_lt sat first) 1 0 + within first (first + count) sat
    counted =
        omega (
          arith,
          times-append sat (sats_held outs) (before.lost ++ change.lost),
          times-append sat before.lost change.lost,
          times_held sat outs,
          exchanged outpoints_total outpoints_exact same_output same_output-Decides (λ (row : OutRow). times sat row.sats) before.outs (outputs_changed change) begins,
          times_held sat before.outs,
          times-append sat (sats_held before.outs) before.lost,
          sound.once sat,
          keeps.same sat,
          times-append sat (sats_in change.came) change.lost,
          times-append sat (sats_in change.gone) (numbers_from first count),
          times_in_run first count sat,
          rows_held sat change.came,
          rows_held sat change.gone,
        )

-- ---- where balances are

some_or : {X : Type 0} (found rest : Option X) → is_some rest ≡ true → is_some (or_else found rest) ≡ true
some_or None rest some = some
some_or (Some x) rest some = refl

pub not_both : {A : Type 0} (b : Bool) → b ≡ true → not b ≡ true → A
not_both true is other = absurd (false≢true other)
not_both false is other = absurd (false≢true is)

pub placed_after : (before : Index) (change : Change) → ((at : OutPoint) (balances : List Balance) → get before.bal at ≡ Some balances → IsSome (get before.outs at)) → places_keep before change ≡ true
    → (at : OutPoint) (balances : List Balance) → get (redone before change).bal at ≡ Some balances → IsSome (get (redone before change).outs at)
placed_after before change placed keeps at balances there =
    each_other outpoints_total outpoints_exact Stands before.bal (balances_of change.runes) came stood at balances there there
  where
    Stands : OutPoint → List Balance → Type 0
    Stands at balances = get (redone before change).bal at ≡ Some balances → IsSome (get (redone before change).outs at)

    left : OutPoint × OutRow → Bool
    left row = is_output_after before change row.0 || not (has_runes_after before change row.0)

    parts : (list_all (λ (row : Placement). is_output_after before change row.0) change.runes.after ≡ true) × (list_all left change.gone ≡ true)
    parts = and_parts (list_all (λ (row : Placement). is_output_after before change row.0) change.runes.after) (list_all left change.gone) keeps

    came : AllByRecursion (λ (e : Placement). Stands e.0 e.1) change.runes.after
    came = each_weaker (λ (e : Placement). is_output_after before change e.0 ≡ true) (λ (e : Placement). Stands e.0 e.1) (λ e is there. is) change.runes.after
        (each_from (λ (row : Placement). is_output_after before change row.0) change.runes.after parts.0)

    gone : (at : OutPoint) (row : OutRow) → find outpoint_cmp at change.gone ≡ Some row → left (at, row) ≡ true
    gone = holds_found outpoints_total outpoints_exact (λ (at : OutPoint) (row : OutRow). left (at, row) ≡ true) change.gone (each_from left change.gone parts.1)

    stood : (at : OutPoint) (balances : List Balance) → get before.bal at ≡ Some balances → find outpoint_cmp at change.runes.before ≡ None → Stands at balances
    stood at balances was none there = by_gone (find outpoint_cmp at change.gone) refl where
      by_gone : (found : Option OutRow) → find outpoint_cmp at change.gone ≡ found → IsSome (get (redone before change).outs at)
      by_gone None is =
          ap is_some (get_other outpoints_total outpoints_exact before.outs (outputs_changed change) at)
          ∙ some_or (find outpoint_cmp at change.came) (cond (is_some (find outpoint_cmp at change.gone)) None (get before.outs at))
          (ap (λ (g : Option OutRow). is_some (cond (is_some g) None (get before.outs at))) is ∙ placed at balances was)
      by_gone (Some row) is =
          elim (or_cases (is_output_after before change at) (not (has_runes_after before change at)) (gone at row is)) [
            | inl stands ↦ stands
            | inr nothing ↦ not_both (has_runes_after before change at) (ap is_some there) nothing
          ]
