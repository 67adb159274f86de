-- Runes and balances after a change that keeps the rules.
use Rattle.std.proofs.Common.{◌≡◌, ◌≢◌, ◌∙◌, ℕ, zero, suc, ◌+◌, ◌-◌, ◌*◌, ◌<◌, ◌≤◌, add-mul, ap₂, Bool, true, List, [], ◌∷◌, ◌++◌, length, map, refl, sym, ap, subst, arith, inl, inr, Option, Some, None}
use Rattle.std.specs.Prelude.{◌&&◌, ◌||◌, ◌==◌, not, nat_le, nat_lt, slice_get, All, IsTrue}
use Rattle.std.specs.FinMap.{entries, get, values}
use Rattle.std.specs.List.{AllByRecursion, list_all, list_any}
use Rattle.std.specs.Option.{option_map_or}
use Rattle.std.proofs.lemmas.Bool.{and_parts, eq-eqb, eqb-true, leb-true, lt-ltb, ltb-true, or_cases, or_left, or_right}
use Rattle.std.proofs.lemmas.List.{map-append}
use Rattle.std.proofs.lemmas.List.Elements.{All-append, All-nil}
use Rattle.std.proofs.lemmas.List.Folds.{list_any_at}
use Rattle.std.proofs.lemmas.List.Sums.{sum_by-cons}
use Rattle.std.proofs.lemmas.Option.{get_or_from_slice_get, slice_get-get_or, slice_get_within}
use Rattle.ox_block.specs.declared.block.OutPoint.{OutPoint}
use Rattle.ox_sat.specs.declared.profiles.Profile.{Profile}
use Rattle.ox_runestone.specs.declared.stone.RuneId.{RuneId}
use Rattle.ox_rules.specs.Differences.{reverse_of}
use Rattle.ox_rules.proofs.MapSums.{total}
use Rattle.ox_rules.proofs.Orders.{outpoints_exact, outpoints_total}
use Rattle.ox_allocation.specs.Balances.{Balance, amount_in, is_same}
use Rattle.ox_etching.specs.declared.row.RuneRow.{RuneRow}
use Rattle.ox_ledger.specs.Balanced.{AreDistinct, AreKnown, IsBounded, IsSettled, amount_held, amount_per_mint, cap_in, made_of}
use Rattle.ox_ledger.specs.Block.{first_rune}
use Rattle.ox_ledger.specs.Part.{balances_of, change_at, counts_at, counts_of, row_at_end, rows_at_end}
use Rattle.ox_ledger.specs.declared.part.CountChange.{CountChange}
use Rattle.ox_ledger.specs.declared.part.Counts.{Counts}
use Rattle.ox_ledger.specs.Runes.{Placement}
use Rattle.ox_ledger.proofs.ByIds.{found_row}
use Rattle.ox_ledger.proofs.Fresh.{none_held}
use Rattle.ox_ledger.proofs.Held.{amount_of, total_is}
use Rattle.ox_ledger.proofs.Known.{Member, ids_in, knows_from, knows_to, member_front}
use Rattle.ox_model.specs.Change.{outputs_changed, redone}
use Rattle.ox_model.specs.Index.{Index, runes_of}
use Rattle.ox_model.specs.Sound.{IsSound, SoundRunes, is_first, is_of_chain}
use Rattle.ox_model.specs.declared.change.Change.{Change}
use Rattle.ox_plain.specs.Ends.{begins_in, counts_stand, difference_ends, has_counts, part_begins, places_rise}
use Rattle.ox_plain.specs.Same.{same_balances, same_counts, same_output}
use Rattle.ox_plain.proofs.SameLemmas.{same_balances-Decides, same_counts-Decides}
use Rattle.ox_sound.specs.Amounts.{sum_of}
use Rattle.ox_sound.specs.Keeps.{Keeps, KeepsRunes, amount_placed, burned_more, count_keeps, has_new_id, is_named_apart, minted_more, places_keep, sum_counted, sum_new}
use Rattle.ox_sound.specs.Rows.{are_known, ids_differ, is_bounded, names_differ, rise}
use Rattle.ox_sound.proofs.CountedLemmas.{all_from, counted, distinct_append, each_of, found_change, later, map_end, none_counted, none_new_at, one_counted, one_new, stays_fixed, still_distinct, test_of}
use Rattle.ox_sound.proofs.DifferLemmas.{Decides-ids, Decides-names}
use Rattle.ox_sound.proofs.ExchangeLemmas.{begins, each_from, each_other, each_weaker, exchanged}
use Rattle.ox_sound.proofs.HeldLemmas.{Decides-known, Known, sum_is_amount}
use Rattle.ox_sound.proofs.KeepsLemmas.{heights_after, inscriptions_after, not_both, one_more, outputs_after, placed_after, sats_after}
use Rattle.ox_sound.proofs.SoundLemmas.{Decides-bounded}

any_of : {X : Type 0} (p : X → Bool) (xs : List X) (k : ℕ) (x : X) → slice_get xs k ≡ Some x → p x ≡ true → list_any p xs ≡ true
any_of p xs k x there is = list_any_at p xs k x (slice_get_within xs k x there) (ap p (get_or_from_slice_get xs k x x there) ∙ is)

zero_not : (n : ℕ) → (n ≢ 0 → ⊥) → n ≡ 0
zero_not zero none = refl
zero_not (suc n) none = absurd (none (λ e. absurd (omega (arith, e))))

rise_of : (runes : List RuneRow) (balances : List Balance) → are_known runes balances ≡ true → rise balances ≡ true
unfolding are_known
rise_of runes balances is = (and_parts (nat_lt 0 (length balances)) (rise balances) (and_parts (nat_lt 0 (length balances) && rise balances) _ is).0).1

placed_is : (rows : List Placement) (id : RuneId) → AllByRecursion (λ (e : Placement). rise e.1 ≡ true) rows → amount_placed rows id ≡ total outpoints_total (amount_of id) rows
placed_is [] id all = refl
placed_is (row ∷ rows) id all =
    sum_by-cons (λ (balances : List Balance). sum_of balances id) row.1 (map (λ (e : Placement). e.1) rows)
    ∙ ap₂ (λ (a b : ℕ). a + b) (sum_is_amount row.1 id all.0) (placed_is rows id all.1)

mul_parts : (a b n : ℕ) → b ≤ a → (a - b) * n + b * n ≡ a * n
mul_parts a b n less = let whole : a - b + b ≡ a = omega (arith, less) in sym (add-mul (a - b) b n) ∙ ap (λ (m : ℕ). m * n) whole

bounded_end : (row : RuneRow) (o : Option CountChange) → IsBounded row → ((change : CountChange) → o ≡ Some change → change.after.mints ≤ cap_in row.terms) → IsBounded (row_at_end later o row)
bounded_end row None bounded cap = bounded
bounded_end row (Some change) bounded cap = record {
  place = bounded.place;
  divisibility = bounded.divisibility;
  spacers = bounded.spacers;
  reserved = bounded.reserved;
  supply = bounded.supply;
  mints = cap change refl;
}

-- whether a rune with an id comes from one of so many blocks, or is there from the start
abbrev of_id : Profile → ℕ → RuneId → Bool
of_id p blocks id = nat_lt id.block blocks || (p.first_rune && is_same id first_rune.id)

next_of : (p : Profile) (height blocks : ℕ) (id : RuneId) → blocks ≡ height + 1 → of_id p height id ≡ true → of_id p blocks id ≡ true
next_of p height blocks id more is =
    elim (or_cases (nat_lt id.block height) (p.first_rune && is_same id first_rune.id) is) [
      | inl low ↦
          let below : id.block < height = ltb-true id.block height low in
          or_left (nat_lt id.block blocks) (p.first_rune && is_same id first_rune.id) (lt-ltb id.block blocks (omega (arith, below, more)))
      | inr first ↦ or_right (nat_lt id.block blocks) (p.first_rune && is_same id first_rune.id) first
    ]

new_of : (p : Profile) (height blocks : ℕ) (id : RuneId) → blocks ≡ height + 1 → id.block ≡ height → of_id p blocks id ≡ true
new_of p height blocks id more at = or_left (nat_lt id.block blocks) (p.first_rune && is_same id first_rune.id) (lt-ltb id.block blocks (omega (arith, at, more)))

-- what the change of a rune's counts says
record OfChange (row : RuneRow) (change : CountChange) : Type 0 where
  mints_were : row.mints ≡ change.before.mints
  burned_was : row.burned ≡ change.before.burned
  mints : change.before.mints ≤ change.after.mints
  burned : change.before.burned ≤ change.after.burned
  cap : change.after.mints ≤ cap_in row.terms

module _ (p : Profile) (before : Index) (change : Change) (sound : SoundRunes p before) (started : part_begins (runes_of before) change.runes ≡ true) (keeps : KeepsRunes p before change) where
  -- the runes that were there, with their new counts
  abbrev earlier : List RuneRow
  earlier = rows_at_end later change.runes.counts 0 before.runes

  starts : (difference_ends same_balances before.bal (reverse_of (balances_of change.runes)) ≡ true) × (counts_stand (counts_at true) before.runes change.runes.counts ≡ true)
  starts = and_parts (difference_ends same_balances before.bal (reverse_of (balances_of change.runes))) (counts_stand (counts_at true) before.runes change.runes.counts) started

  abbrev stand : CountChange → Bool
  stand c = has_counts (slice_get before.runes c.place) (counts_at true c) && not (same_counts c.before c.after)

  counts_are : (places_rise 0 change.runes.counts ≡ true) × (list_all stand change.runes.counts ≡ true)
  counts_are = and_parts (places_rise 0 change.runes.counts) (list_all stand change.runes.counts) starts.1

  abbrev new_row : RuneRow → Bool
  new_row row = has_new_id p (length before.hashes) row && is_bounded row

  -- the parts of the rule on new runes
  apart : (((ids_differ change.runes.appended ≡ true) × (names_differ change.runes.appended ≡ true)) × (list_all new_row change.runes.appended ≡ true)) × (list_all (is_named_apart change.runes.appended) before.runes ≡ true)
  apart =
      let a = and_parts (ids_differ change.runes.appended && names_differ change.runes.appended && list_all new_row change.runes.appended) (list_all (is_named_apart change.runes.appended) before.runes) keeps.new in
      let b = and_parts (ids_differ change.runes.appended && names_differ change.runes.appended) (list_all new_row change.runes.appended) a.0 in
      ((and_parts (ids_differ change.runes.appended) (names_differ change.runes.appended) b.0, b.1), a.1)

  new_at : (j : ℕ) (one : RuneRow) → slice_get change.runes.appended j ≡ Some one → ((one.id.block ≡ length before.hashes) × (not (is_first p one) ≡ true)) × IsBounded one
  new_at j one here =
      let parts = and_parts (has_new_id p (length before.hashes) one) (is_bounded one) (test_of new_row change.runes.appended apart.0.1 j one here) in
      let both = and_parts (one.id.block == length before.hashes) (not (is_first p one)) parts.0 in
      ((eqb-true one.id.block (length before.hashes) both.0, both.1), (Decides-bounded one).0 parts.1)

  old_at : (k : ℕ) (row : RuneRow) → slice_get before.runes k ≡ Some row → is_of_chain p (length before.hashes) row ≡ true
  old_at k row there = each_of (λ (r : RuneRow). IsTrue (is_of_chain p (length before.hashes) r)) before.runes sound.below k row there

  -- no new rune has the id of an earlier one
  fresh_row : (k : ℕ) (row : RuneRow) → slice_get before.runes k ≡ Some row → (j : ℕ) (one : RuneRow) → slice_get change.runes.appended j ≡ Some one → row.id ≡ one.id → ⊥
  fresh_row k row there j one here like =
      let new = (new_at j one here).0 in
      elim (or_cases (nat_lt row.id.block (length before.hashes)) (is_first p row) (old_at k row there)) [
        | inl low ↦
            let below : row.id.block < length before.hashes = ltb-true row.id.block (length before.hashes) low in
            let at : one.id.block ≡ length before.hashes = new.0 in
            let same : row.id.block ≡ one.id.block = ap (λ (id : RuneId). id.block) like in
            absurd (omega (arith, below, at, same))
        | inr first ↦ not_both (is_first p one) (ap (λ (id : RuneId). p.first_rune && is_same id first_rune.id) (sym like) ∙ first) new.1
      ]

  -- ---- ids and names

  ids : AreDistinct (λ row. row.id) (earlier ++ change.runes.appended)
  ids = distinct_append (λ row. row.id) earlier change.runes.appended (still_distinct (λ row. row.id) (λ row n m. refl) change.runes.counts before.runes sound.balanced.ids)
      ((Decides-ids change.runes.appended).0 apart.0.0.0)
      (λ i j a b here there like.
      let x = counted before.runes change.runes.counts i a here in
      fresh_row i x.row x.there j b there (sym (stays_fixed (λ row. row.id) (λ row n m. refl) (change_at change.runes.counts i) x.row) ∙ sym (ap (λ (r : RuneRow). r.id) x.is) ∙ like))

  names : AreDistinct (λ row. row.name) (earlier ++ change.runes.appended)
  names = distinct_append (λ row. row.name) earlier change.runes.appended (still_distinct (λ row. row.name) (λ row n m. refl) change.runes.counts before.runes sound.balanced.names)
      ((Decides-names change.runes.appended).0 apart.0.0.1)
      (λ i j a b here there like.
      let x = counted before.runes change.runes.counts i a here in
      let named : not (list_any (λ (other : RuneRow). other.name == x.row.name) change.runes.appended) ≡ true = test_of (is_named_apart change.runes.appended) before.runes apart.1 i x.row x.there in
      let same : b.name ≡ x.row.name = sym like ∙ ap (λ (r : RuneRow). r.name) x.is ∙ stays_fixed (λ row. row.name) (λ row n m. refl) (change_at change.runes.counts i) x.row in
      not_both (list_any (λ (other : RuneRow). other.name == x.row.name) change.runes.appended)
      (any_of (λ (other : RuneRow). other.name == x.row.name) change.runes.appended j b there (eq-eqb b.name x.row.name same)) named)

  -- ---- counts

  of_change : (k : ℕ) (row : RuneRow) → slice_get before.runes k ≡ Some row → (c : CountChange) → change_at change.runes.counts k ≡ Some c → OfChange row c
  of_change k row there c is =
      let stood = found_change stand change.runes.counts k c counts_are.1 is in
      let kept = found_change (count_keeps before.runes) change.runes.counts k c keeps.counts is in
      let at : slice_get before.runes c.place ≡ Some row = ap (slice_get before.runes) stood.0 ∙ there in
      let has : has_counts (slice_get before.runes c.place) c.before ≡ true = (and_parts (has_counts (slice_get before.runes c.place) (counts_at true c)) (not (same_counts c.before c.after)) stood.1).0 in
      let same : same_counts (counts_of row) c.before ≡ true = sym (ap (λ (found : Option RuneRow). has_counts found c.before) at) ∙ has in
      let counts : counts_of row ≡ c.before = (same_counts-Decides (counts_of row) c.before).0 same in
      let cap_test : RuneRow → Bool = λ (r : RuneRow). nat_le c.after.mints (cap_in r.terms) in
      let parts = and_parts (nat_le c.before.mints c.after.mints && nat_le c.before.burned c.after.burned) (option_map_or cap_test (slice_get before.runes c.place) true) kept.1 in
      let up = and_parts (nat_le c.before.mints c.after.mints) (nat_le c.before.burned c.after.burned) parts.0 in
      let below : nat_le c.after.mints (cap_in row.terms) ≡ true = sym (ap (λ (found : Option RuneRow). option_map_or cap_test found true) at) ∙ parts.1 in
      record {
        mints_were = ap (λ (x : Counts). x.mints) counts;
        burned_was = ap (λ (x : Counts). x.burned) counts;
        mints = leb-true c.before.mints c.after.mints up.0;
        burned = leb-true c.before.burned c.after.burned up.1;
        cap = leb-true c.after.mints (cap_in row.terms) below;
      }

  bounded : All IsBounded (earlier ++ change.runes.appended)
  bounded = All-append IsBounded earlier change.runes.appended
      (all_from IsBounded earlier (λ k now there.
      let x = counted before.runes change.runes.counts k now there in
      subst IsBounded (sym x.is) (bounded_end x.row (change_at change.runes.counts k) (each_of IsBounded before.runes sound.balanced.bounded k x.row x.there) (λ c is. (of_change k x.row x.there c is).cap))))
      (all_from IsBounded change.runes.appended (λ j one here. (new_at j one here).1))

  below : All (λ (row : RuneRow). IsTrue (is_of_chain p (length (redone before change).hashes) row)) (earlier ++ change.runes.appended)
  below = All-append OfChain earlier change.runes.appended
      (all_from OfChain earlier (λ k now there.
      let x = counted before.runes change.runes.counts k now there in
      let same : now.id ≡ x.row.id = ap (λ (r : RuneRow). r.id) x.is ∙ stays_fixed (λ row. row.id) (λ row n m. refl) (change_at change.runes.counts k) x.row in
      ap (of_id p (length (redone before change).hashes)) same ∙ next_of p (length before.hashes) (length (redone before change).hashes) x.row.id (one_more before change) (old_at k x.row x.there)))
      (all_from OfChain change.runes.appended (λ j one here. new_of p (length before.hashes) (length (redone before change).hashes) one.id (one_more before change) (new_at j one here).0.0))
    where
      OfChain : RuneRow → Type 0
      OfChain row = IsTrue (is_of_chain p (length (redone before change).hashes) row)

  -- ---- balances

  known_on : (balances : List Balance) → AreKnown before.runes balances → AreKnown (earlier ++ change.runes.appended) balances
  known_on balances known =
      let knows = knows_from before.runes balances known in
      let front : ids_in (earlier ++ change.runes.appended) ≡ ids_in before.runes ++ ids_in change.runes.appended =
      map-append (λ (row : RuneRow). row.id) earlier change.runes.appended
      ∙ ap (λ (some : List RuneId). some ++ ids_in change.runes.appended) (map_end (λ (row : RuneRow). row.id) (λ row n m. refl) change.runes.counts 0 before.runes) in
      knows_to (earlier ++ change.runes.appended) balances (record {
        proper = knows.proper;
        known = λ id some. subst (λ (all : List RuneId). Member all id) (sym front) (member_front (ids_in before.runes) (ids_in change.runes.appended) id (knows.known id some));
      })

  balances_known : AllByRecursion (λ (e : Placement). are_known (redone before change).runes e.1 ≡ true) change.runes.after
  balances_known = each_from (λ (e : Placement). are_known (redone before change).runes e.1) change.runes.after keeps.balances

  held : (at : OutPoint) (balances : List Balance) → get (redone before change).bal at ≡ Some balances → (balances ≢ []) × AreKnown (redone before change).runes balances
  held = each_other outpoints_total outpoints_exact (λ (at : OutPoint) (balances : List Balance). Known (redone before change).runes balances) before.bal (balances_of change.runes)
      (each_weaker (λ (e : Placement). are_known (redone before change).runes e.1 ≡ true) (λ (e : Placement). Known (redone before change).runes e.1)
      (λ e is. (Decides-known (redone before change).runes e.1).0 is) change.runes.after balances_known)
      (λ at balances there none. let was = sound.balanced.held at balances there in (was.0, known_on balances was.1))

  -- ---- amounts

  moved : (id : RuneId) → amount_held (values (redone before change).bal) id + amount_placed change.runes.before id ≡ amount_held (values before.bal) id + amount_placed change.runes.after id
  moved id =
      let sums : total outpoints_total (amount_of id) (entries (redone before change).bal) + total outpoints_total (amount_of id) change.runes.before
      ≡ total outpoints_total (amount_of id) (entries before.bal) + total outpoints_total (amount_of id) change.runes.after =
      exchanged outpoints_total outpoints_exact same_balances same_balances-Decides (amount_of id) before.bal (balances_of change.runes) starts.0 in
      let now : amount_held (values (redone before change).bal) id ≡ total outpoints_total (amount_of id) (entries (redone before change).bal) = total_is (entries (redone before change).bal) id in
      let was : amount_held (values before.bal) id ≡ total outpoints_total (amount_of id) (entries before.bal) = total_is (entries before.bal) id in
      let went : amount_placed change.runes.before id ≡ total outpoints_total (amount_of id) change.runes.before = placed_is change.runes.before id rises_gone in
      let came : amount_placed change.runes.after id ≡ total outpoints_total (amount_of id) change.runes.after = placed_is change.runes.after id rises_came in
      omega (arith, sums, now, was, went, came)
    where
      rises_came : AllByRecursion (λ (e : Placement). rise e.1 ≡ true) change.runes.after
      rises_came = each_weaker (λ (e : Placement). are_known (redone before change).runes e.1 ≡ true) (λ (e : Placement). rise e.1 ≡ true) (λ e is. rise_of (redone before change).runes e.1 is) change.runes.after balances_known

      rises_gone : AllByRecursion (λ (e : Placement). rise e.1 ≡ true) change.runes.before
      rises_gone = each_weaker (λ (e : Placement). get before.bal e.0 ≡ Some e.1) (λ (e : Placement). rise e.1 ≡ true)
          (λ e there. rise_of before.runes e.1 ((Decides-known before.runes e.1).1 (sound.balanced.held e.0 e.1 there))) change.runes.before
          (begins outpoints_total outpoints_exact same_balances same_balances-Decides before.bal (balances_of change.runes) starts.0).gone

  abbrev AmountIs : RuneRow → Type 0
  AmountIs row = amount_held (values (redone before change).bal) row.id + 0 + row.burned ≡ row.premine + row.mints * amount_per_mint row.terms

  settled_row : (k : ℕ) (row : RuneRow) → slice_get before.runes k ≡ Some row → AmountIs (row_at_end later (change_at change.runes.counts k) row)
  settled_row k row there = by_change (change_at change.runes.counts k) refl where
    none_burned : sum_new (λ r. r.burned) change.runes.appended row.id ≡ 0
    none_burned = none_new_at (λ r. r.burned) change.runes.appended row.id (λ j one here like. fresh_row k row there j one here (sym like))

    none_made : sum_new made_of change.runes.appended row.id ≡ 0
    none_made = none_new_at made_of change.runes.appended row.id (λ j one here like. fresh_row k row there j one here (sym like))

    was : amount_held (values before.bal) row.id + 0 + row.burned ≡ row.premine + row.mints * amount_per_mint row.terms
    was = each_of (IsSettled (runes_of before)) before.runes sound.balanced.settled k row there

    by_change : (o : Option CountChange) → change_at change.runes.counts k ≡ o → AmountIs (row_at_end later o row)
    by_change o is = by_case o (sum burned_more) (sum minted_more) (λ c some. of_change k row there c (is ∙ some)) where
      sum : (of : CountChange → RuneRow → ℕ) → sum_counted of before.runes change.runes.counts row.id ≡ option_map_or (λ (c : CountChange). of c row) o 0
      sum of = one_counted of before.runes sound.balanced.ids k row there 0 change.runes.counts counts_are.0 ∙ ap (λ (found : Option CountChange). option_map_or (λ (c : CountChange). of c row) found 0) is

      by_case : (o : Option CountChange) → sum_counted burned_more before.runes change.runes.counts row.id ≡ option_map_or (λ (c : CountChange). burned_more c row) o 0
          → sum_counted minted_more before.runes change.runes.counts row.id ≡ option_map_or (λ (c : CountChange). minted_more c row) o 0
          → ((c : CountChange) → o ≡ Some c → OfChange row c) → AmountIs (row_at_end later o row)
      by_case None burned minted of =
          let b : sum_counted burned_more before.runes change.runes.counts row.id ≡ 0 = burned in
          let m : sum_counted minted_more before.runes change.runes.counts row.id ≡ 0 = minted in
          let r : amount_held (values (redone before change).bal) row.id + 0 + row.burned ≡ row.premine + row.mints * amount_per_mint row.terms =
          omega (arith, moved row.id, keeps.amounts.same row.id, b, m, none_burned, none_made, was) in
          r
      by_case (Some c) burned minted of =
          let says = of c refl in
          let b : sum_counted burned_more before.runes change.runes.counts row.id ≡ c.after.burned - c.before.burned = burned in
          let m : sum_counted minted_more before.runes change.runes.counts row.id ≡ (c.after.mints - c.before.mints) * amount_per_mint row.terms = minted in
          let parts = mul_parts c.after.mints c.before.mints (amount_per_mint row.terms) says.mints in
          let old : row.mints * amount_per_mint row.terms ≡ c.before.mints * amount_per_mint row.terms = ap (λ (n : ℕ). n * amount_per_mint row.terms) says.mints_were in
          let r : amount_held (values (redone before change).bal) row.id + 0 + c.after.burned ≡ row.premine + c.after.mints * amount_per_mint row.terms =
          omega (arith, moved row.id, keeps.amounts.same row.id, b, m, none_burned, none_made, was, parts, old, says.burned_was, says.burned) in
          r

  settled_new : (j : ℕ) (one : RuneRow) → slice_get change.runes.appended j ≡ Some one → AmountIs one
  settled_new j one here =
      let no_row : (k : ℕ) (row : RuneRow) → slice_get before.runes k ≡ Some row → row.id ≡ one.id → ⊥ = λ k row there like. fresh_row k row there j one here like in
      let b : sum_counted burned_more before.runes change.runes.counts one.id ≡ 0 = none_counted burned_more before.runes change.runes.counts one.id no_row in
      let m : sum_counted minted_more before.runes change.runes.counts one.id ≡ 0 = none_counted minted_more before.runes change.runes.counts one.id no_row in
      let distinct = (Decides-ids change.runes.appended).0 apart.0.0.0 in
      let new_burned : sum_new (λ r. r.burned) change.runes.appended one.id ≡ one.burned = one_new (λ r. r.burned) change.runes.appended distinct j one here in
      let new_made : sum_new made_of change.runes.appended one.id ≡ one.premine + one.mints * amount_per_mint one.terms = one_new made_of change.runes.appended distinct j one here in
      let none : amount_held (values before.bal) one.id ≡ 0 = none_held before.bal one.id (λ at balances there. zero_not (amount_in balances one.id) (λ some.
      let found = found_row before.runes one.id ((sound.balanced.held at balances there).1.known one.id some) in
      no_row found.1.0 found.0 (slice_get-get_or before.runes found.1.0 found.0 found.1.1 ∙ ap Some found.1.2) found.2)) in
      omega (arith, moved one.id, keeps.amounts.same one.id, b, m, new_burned, new_made, none)

  settled : All AmountIs (earlier ++ change.runes.appended)
  settled = All-append AmountIs earlier change.runes.appended
      (all_from AmountIs earlier (λ k now there.
      let x = counted before.runes change.runes.counts k now there in
      subst AmountIs (sym x.is) (settled_row k x.row x.there)))
      (all_from AmountIs change.runes.appended (λ j one here. settled_new j one here))

  pub runes_after : places_keep before change ≡ true → SoundRunes p (redone before change)
  runes_after places = record {
    balanced = record {
      ids = ids;
      names = names;
      bounded = bounded;
      held = held;
      due = All-nil (λ (new : Placement). AreKnown (redone before change).runes new.1);
      settled = settled;
    };
    below = below;
    placed = placed_after before change sound.placed places;
  }

-- ---- all of it

pub sound_after : (p : Profile) (before : Index) (change : Change) → IsSound p before → begins_in before change ≡ true → Keeps p before change → IsSound p (redone before change)
sound_after p before change sound begun keeps =
    let starts = and_parts (difference_ends same_output before.outs (reverse_of (outputs_changed change))) (part_begins (runes_of before) change.runes) begun in
    record {
      heights = heights_after p before change keeps.heights;
      outputs = outputs_after before change sound.outputs keeps.outputs;
      sats = sats_after p before change sound.sats starts.0 keeps.sats;
      inscriptions = inscriptions_after p before change sound.inscriptions keeps.inscriptions;
      runes = runes_after p before change sound.runes starts.1 keeps.runes keeps.places;
    }
