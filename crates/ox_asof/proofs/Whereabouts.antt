-- Where a satoshi is in the index before a change.
use Rattle.std.proofs.Common.{◌≡◌, ◌≢◌, ◌∙◌, ℕ, zero, suc, ◌+◌, ◌-◌, ◌<◌, ◌≤◌, ◌==◌, Bool, true, false, cond, not, List, [], ◌∷◌, ◌++◌, length, map, refl, sym, ap, subst, arith, Option, Some, None, option_map, is_some, Ordering, T, nat_lt, length-take-le, ltb-false}
use Rattle.std.specs.Prelude.{◌&&◌, IsTrue}
use Rattle.std.specs.FinMap.{entries, entries_sorted, find, get, get-entries, is_sorted}
use Rattle.std.specs.FinMap.Entries.{below_all, find_tied}
use Rattle.std.specs.List.{position_or_len}
use Rattle.std.specs.Option.{option_map_or}
use Rattle.std.specs.Ordering.{eq_by_cmp, is_eq, is_lt}
use Rattle.std.specs.declared.cmp.Ordering.TheVariants.{Less, Equal, Greater}
use Rattle.std.specs.Cmp.{eq_by_cmp_equiv}
use Rattle.std.proofs.lemmas.List.Sums.{sum_by-cons}
use Rattle.ox_block.specs.declared.block.OutPoint.{OutPoint}
use Rattle.ox_sat.specs.declared.profiles.Profile.{Profile}
use Rattle.ox_sat.specs.Heights.{first_at}
use Rattle.ox_sat.proofs.Epochs.{first_le}
use Rattle.ox_range.proofs.RunLemmas.{position_some}
use Rattle.ox_rules.specs.declared.place.Place.{Place}
use Rattle.ox_rules.specs.declared.place.Place.TheVariants.{Out, Lost}
use Rattle.ox_rules.specs.declared.rows.OutRow.{OutRow}
use Rattle.ox_rules.specs.Outputs.{outpoint_cmp, sats_held, sats_of, times}
use Rattle.ox_rules.specs.Where.{place_among, place_in}
use Rattle.ox_rules.proofs.Conservation.{times-append}
use Rattle.ox_rules.proofs.Orders.{outpoints_exact, outpoints_total}
use Rattle.ox_replies.proofs.Nowhere.{in_no_place, nowhere}
use Rattle.ox_model.specs.Change.{outputs_changed, undone}
use Rattle.ox_model.specs.Ends.{AllEnd, EndsIn}
use Rattle.ox_model.specs.Index.{Index}
use Rattle.ox_model.specs.Sound.{IsSound}
use Rattle.ox_model.specs.Where.{where_is}
use Rattle.ox_model.specs.declared.change.Change.{Change}
use Rattle.ox_asof.specs.Past.{number_below}
use Rattle.ox_asof.specs.Places.{place_before, place_by}
use Rattle.ox_asof.specs.Said.{by}
use Rattle.ox_asof.specs.Undone.{undone_by}
use Rattle.ox_asof.proofs.Numbering.{position_below}
use Rattle.ox_asof.proofs.Undoing.{one_back}

no_some : {A X : Type 0} (x : X) → None ≡ Some x → A
no_some x is = absurd (cc is)

same_some : {X : Type 0} (x y : X) → Some x ≡ Some y → x ≡ y
same_some x y is = cc is

-- ---- satoshis in a list

place_within : (sat : ℕ) (sats : List ℕ) → 1 ≤ times sat sats → position_or_len (λ s. s == sat) sats < length sats
place_within sat [] some = absurd (omega (arith, some))
place_within sat (x ∷ sats) some = by_test (x == sat) (sym (sum_by-cons (λ s. cond (s == sat) 1 0) x sats)) (place_within sat sats) where
  by_test : (same : Bool) → cond same 1 0 + times sat sats ≡ times sat (x ∷ sats) → (1 ≤ times sat sats → position_or_len (λ s. s == sat) sats < length sats)
      → cond (not same) (1 + position_or_len (λ s. s == sat) sats) 0 < suc (length sats)
  by_test true e rest = omega arith
  by_test false e rest = let less = rest (omega (arith, e, some)) in omega (arith, less)

some_place : (sat : ℕ) (sats : List ℕ) → 1 ≤ times sat sats → (offset : ℕ) × (place_in sats sat ≡ Some offset)
some_place sat sats some = (position_or_len (λ s. s == sat) sats, sym (position_some sats sat (position_or_len (λ s. s == sat) sats) refl (place_within sat sats some)))

placed_some : (sat : ℕ) (sats : List ℕ) (offset : ℕ) → place_in sats sat ≡ Some offset → 1 ≤ times sat sats
placed_some sat sats offset is = by_times (times sat sats) refl where
  by_times : (k : ℕ) → times sat sats ≡ k → 1 ≤ k
  by_times zero none = no_some offset (sym (in_no_place sat sats none) ∙ is)
  by_times (suc k) some = omega arith

placed_none : (sat : ℕ) (sats : List ℕ) → place_in sats sat ≡ None → times sat sats ≡ 0
placed_none sat sats is = by_times (times sat sats) refl where
  by_times : (k : ℕ) → times sat sats ≡ k → k ≡ 0
  by_times zero none = refl
  by_times (suc k) some = let there = some_place sat sats (omega (arith, some)) in no_some there.0 (sym is ∙ there.1)

-- ---- satoshis in outputs

abbrev all_sats : List (OutPoint × OutRow) → List ℕ
all_sats es = sats_of (map (λ e. e.1) es)

tie : (r : Ordering) → is_eq r ≡ true → r ≡ Equal
tie Less p = absurd (cc p)
tie Equal p = refl
tie Greater p = absurd (cc p)

-- a row that is found holds no more than all of them
found_least : (sat : ℕ) (es : List (OutPoint × OutRow)) (at : OutPoint) (row : OutRow) → find outpoint_cmp at es ≡ Some row → times sat row.sats ≤ times sat (all_sats es)
found_least sat [] at row found = no_some row found
found_least sat (e ∷ es) at row found = by_tie (eq_by_cmp outpoint_cmp at e.0) found (times-append sat e.1.sats (all_sats es)) (λ more. found_least sat es at row more) where
  by_tie : (tied : Bool) → cond tied (Some e.1) (find outpoint_cmp at es) ≡ Some row → times sat (e.1.sats ++ all_sats es) ≡ times sat e.1.sats + times sat (all_sats es)
      → (find outpoint_cmp at es ≡ Some row → times sat row.sats ≤ times sat (all_sats es)) → times sat row.sats ≤ times sat (e.1.sats ++ all_sats es)
  by_tie true is parts rest = let alike = ap (λ (r : OutRow). times sat r.sats) (same_some e.1 row is) in omega (arith, parts, alike)
  by_tie false is parts rest = let least = rest is in omega (arith, parts, least)

none_among : (sat : ℕ) (es : List (OutPoint × OutRow)) → times sat (all_sats es) ≡ 0 → place_among es sat ≡ None
none_among sat [] none = refl
none_among sat (e ∷ es) none =
    let parts : times sat e.1.sats + times sat (all_sats es) ≡ 0 = sym (times-append sat e.1.sats (all_sats es)) ∙ none in
    ap (λ (o : Option ℕ). option_map_or (λ offset. Some (Out e.0 offset)) o (place_among es sat)) (in_no_place sat e.1.sats (omega (arith, parts)))
    ∙ none_among sat es (omega (arith, parts))

among_none : (sat : ℕ) (es : List (OutPoint × OutRow)) → place_among es sat ≡ None → times sat (all_sats es) ≡ 0
among_none sat [] none = refl
among_none sat (e ∷ es) none = by_place (place_in e.1.sats sat) refl none (among_none sat es) where
  by_place : (o : Option ℕ) → place_in e.1.sats sat ≡ o → option_map_or (λ offset. Some (Out e.0 offset)) o (place_among es sat) ≡ None
      → (place_among es sat ≡ None → times sat (all_sats es) ≡ 0) → times sat (e.1.sats ++ all_sats es) ≡ 0
  by_place None here rest more =
      let first = placed_none sat e.1.sats here in
      let others = more rest in
      omega (arith, first, others, times-append sat e.1.sats (all_sats es))
  by_place (Some offset) here rest more = no_some (Out e.0 offset) (sym rest)

-- no place among outputs is among the lost ones
never_lost : (sat : ℕ) (es : List (OutPoint × OutRow)) (offset : ℕ) → place_among es sat ≡ Some (Lost offset) → ⊥
never_lost sat [] offset is = no_some (Lost offset) is
never_lost sat (e ∷ es) offset is = by_place (place_in e.1.sats sat) is (never_lost sat es offset) where
  by_place : (o : Option ℕ) → option_map_or (λ k. Some (Out e.0 k)) o (place_among es sat) ≡ Some (Lost offset) → (place_among es sat ≡ Some (Lost offset) → ⊥) → ⊥
  by_place None rest more = more rest
  by_place (Some k) here more = let out : Out e.0 k ≡ Lost offset = same_some (Out e.0 k) (Lost offset) here in absurd (cc out)

-- a satoshi that stands once has its place in the row that holds it
among_held : (sat : ℕ) (es : List (OutPoint × OutRow)) (at : OutPoint) (row : OutRow) (offset : ℕ) → find outpoint_cmp at es ≡ Some row → times sat (all_sats es) ≤ 1 → place_in row.sats sat ≡ Some offset
    → place_among es sat ≡ Some (Out at offset)
among_held sat [] at row offset found once holds = no_some row found
among_held sat (e ∷ es) at row offset found once holds =
    by_tie (eq_by_cmp outpoint_cmp at e.0) refl found (times-append sat e.1.sats (all_sats es)) (λ more few. among_held sat es at row offset more few holds)
  where
    by_tie : (tied : Bool) → eq_by_cmp outpoint_cmp at e.0 ≡ tied → cond tied (Some e.1) (find outpoint_cmp at es) ≡ Some row → times sat (e.1.sats ++ all_sats es) ≡ times sat e.1.sats + times sat (all_sats es)
        → (find outpoint_cmp at es ≡ Some row → times sat (all_sats es) ≤ 1 → place_among es sat ≡ Some (Out at offset)) → place_among (e ∷ es) sat ≡ Some (Out at offset)
    by_tie true tied is parts more =
        ap (λ (o : Option ℕ). option_map_or (λ k. Some (Out e.0 k)) o (place_among es sat)) (ap (λ (r : OutRow). place_in r.sats sat) (same_some e.1 row is) ∙ holds)
        ∙ ap (λ (a : OutPoint). Some (Out a offset)) (sym (outpoints_exact at e.0 (tie _ tied)))
    by_tie false tied is parts more =
        let least = found_least sat es at row is in
        let some = placed_some sat row.sats offset holds in
        ap (λ (o : Option ℕ). option_map_or (λ k. Some (Out e.0 k)) o (place_among es sat)) (in_no_place sat e.1.sats (omega (arith, once, parts, least, some)))
        ∙ more is (omega (arith, once, parts))

first_true : (a b : Bool) → T (a && b) → T a
first_true true b p = tt
first_true false b p = absurd p

second_true : (a b : Bool) → T (a && b) → T b
second_true true b p = p
second_true false b p = absurd p

less_order : (r : Ordering) → T (is_lt r) → is_eq r ≡ false
less_order Less p = refl
less_order Equal p = absurd p
less_order Greater p = absurd p

absent_key : (x : OutPoint) (es : List (OutPoint × OutRow)) → T (below_all outpoint_cmp x es) → find outpoint_cmp x es ≡ None
absent_key x [] below = refl
absent_key x (e ∷ es) below =
    ap (λ (b : Bool). cond b (Some e.1) (find outpoint_cmp x es)) (less_order (outpoint_cmp x e.0) (first_true _ _ below)) ∙ absent_key x es (second_true _ _ below)

-- a row behind another is found behind it
found_behind : (e : OutPoint × OutRow) (es : List (OutPoint × OutRow)) (at : OutPoint) (row : OutRow) → T (is_sorted outpoint_cmp (e ∷ es)) → find outpoint_cmp at es ≡ Some row → find outpoint_cmp at (e ∷ es) ≡ Some row
found_behind e es at row sorted is = by_tie (eq_by_cmp outpoint_cmp at e.0) refl where
  by_tie : (b : Bool) → eq_by_cmp outpoint_cmp at e.0 ≡ b → cond b (Some e.1) (find outpoint_cmp at es) ≡ Some row
  by_tie true tied = no_some row (sym (absent_key e.0 es (first_true _ _ sorted)) ∙ find_tied outpoint_cmp outpoints_total at e.0 (tie _ tied) es ∙ is)
  by_tie false other = is

found_front : (e : OutPoint × OutRow) (es : List (OutPoint × OutRow)) → find outpoint_cmp e.0 (e ∷ es) ≡ Some e.1
found_front e es = ap (λ (b : Bool). cond b (Some e.1) (find outpoint_cmp e.0 es)) ((eq_by_cmp_equiv outpoints_total).refl e.0)

-- the row of a place is found, and has the satoshi there
record IsHeld (sat : ℕ) (found : OutPoint → Option OutRow) (at : OutPoint) (offset : ℕ) : Type 0 where
  pub row : OutRow
  pub there : found at ≡ Some row
  pub place : place_in row.sats sat ≡ Some offset

held_among : (sat : ℕ) (es : List (OutPoint × OutRow)) (at : OutPoint) (offset : ℕ) → T (is_sorted outpoint_cmp es) → place_among es sat ≡ Some (Out at offset) → IsHeld sat (λ k. find outpoint_cmp k es) at offset
held_among sat [] at offset sorted is = no_some (Out at offset) is
held_among sat (e ∷ es) at offset sorted is = by_place (place_in e.1.sats sat) refl is (λ rest. held_among sat es at offset (second_true _ _ sorted) rest) where
  by_place : (o : Option ℕ) → place_in e.1.sats sat ≡ o → option_map_or (λ k. Some (Out e.0 k)) o (place_among es sat) ≡ Some (Out at offset)
      → (place_among es sat ≡ Some (Out at offset) → IsHeld sat (λ k. find outpoint_cmp k es) at offset) → IsHeld sat (λ k. find outpoint_cmp k (e ∷ es)) at offset
  by_place None none rest more =
      let behind = more rest in
      record { row = behind.row; there = found_behind e es at behind.row sorted behind.there; place = behind.place }
  by_place (Some k) here same more =
      let out : Out e.0 k ≡ Out at offset = same_some (Out e.0 k) (Out at offset) same in
      let one : e.0 ≡ at = cc out in
      let placed : k ≡ offset = cc out in
      record {
        row = e.1;
        there = subst (λ (a : OutPoint). find outpoint_cmp a (e ∷ es) ≡ Some e.1) one (found_front e es);
        place = here ∙ ap (λ (j : ℕ). Some j) placed;
      }

-- ---- satoshis of a sound index

abbrev Stands : Index → ℕ → OutPoint → ℕ → Type 0
Stands index sat at offset = IsHeld sat (get index.outs) at offset

at_most_one : (b : Bool) → cond b 1 0 ≤ 1
at_most_one true = omega arith
at_most_one false = omega arith

module _ (p : Profile) (index : Index) (sound : IsSound p index) (sat : ℕ) where
  once : times sat (sats_held index.outs) + times sat index.lost ≤ 1
  once =
      let most = at_most_one (nat_lt sat (first_at p (length index.hashes))) in
      omega (arith, most, sound.sats.once sat, times-append sat (sats_held index.outs) index.lost)

  where_stands : (at : OutPoint) (offset : ℕ) → Stands index sat at offset → where_is index sat ≡ Some (Out at offset)
  where_stands at offset stands =
      ap (λ (place : Option Place). option_map_or (λ place. Some place) place (option_map Lost (place_in index.lost sat)))
      (among_held sat (entries index.outs) at stands.row offset (sym (get-entries index.outs at) ∙ stands.there) (omega (arith, once)) stands.place)

  where_lost : (offset : ℕ) → place_in index.lost sat ≡ Some offset → where_is index sat ≡ Some (Lost offset)
  where_lost offset is =
      let some = placed_some sat index.lost offset is in
      let none : times sat (sats_held index.outs) ≡ 0 = omega (arith, some, once) in
      ap (λ (place : Option Place). option_map_or (λ place. Some place) place (option_map Lost (place_in index.lost sat))) (none_among sat (entries index.outs) none)
      ∙ ap (option_map Lost) is

  -- it is nowhere where no block could claim it yet
  unminted : where_is index sat ≡ None → first_at p (length index.hashes) ≤ sat
  unminted is = by_among (place_among (entries index.outs) sat) refl is where
    by_test : (b : Bool) → nat_lt sat (first_at p (length index.hashes)) ≡ b → ◌≡◌ {A = ℕ} (cond b 1 0) 0 → first_at p (length index.hashes) ≤ sat
    by_test true below none = absurd (omega (arith, none))
    by_test false above none = ltb-false _ _ above

    by_lost : (o : Option ℕ) → place_in index.lost sat ≡ o → option_map Lost o ≡ None → times sat (sats_held index.outs) ≡ 0 → first_at p (length index.hashes) ≤ sat
    by_lost (Some offset) there none held = no_some (Lost offset) (sym none)
    by_lost None there none held =
        let lost = placed_none sat index.lost there in
        by_test (nat_lt sat (first_at p (length index.hashes))) refl (omega (arith, held, lost, sound.sats.once sat, times-append sat (sats_held index.outs) index.lost))

    by_among : (o : Option Place) → place_among (entries index.outs) sat ≡ o → option_map_or (λ place. Some place) o (option_map Lost (place_in index.lost sat)) ≡ None → first_at p (length index.hashes) ≤ sat
    by_among (Some place) there none = no_some place (sym none)
    by_among None there none = by_lost (place_in index.lost sat) refl none (among_none sat (entries index.outs) there)

stands_there : (index : Index) (sat : ℕ) (at : OutPoint) (offset : ℕ) → where_is index sat ≡ Some (Out at offset) → Stands index sat at offset
stands_there index sat at offset is = by_among (place_among (entries index.outs) sat) refl is where
  by_lost : (o : Option ℕ) → option_map Lost o ≡ Some (Out at offset) → Stands index sat at offset
  by_lost None none = no_some (Out at offset) none
  by_lost (Some k) lost = let out : Lost k ≡ Out at offset = same_some (Lost k) (Out at offset) lost in absurd (cc out)

  by_among : (o : Option Place) → place_among (entries index.outs) sat ≡ o → option_map_or (λ place. Some place) o (option_map Lost (place_in index.lost sat)) ≡ Some (Out at offset) → Stands index sat at offset
  by_among None none lost = by_lost (place_in index.lost sat) lost
  by_among (Some place) there same =
      let held = held_among sat (entries index.outs) at offset (entries_sorted index.outs) (there ∙ same) in
      record { row = held.row; there = get-entries index.outs at ∙ held.there; place = held.place }

lost_there : (index : Index) (sat offset : ℕ) → where_is index sat ≡ Some (Lost offset) → place_in index.lost sat ≡ Some offset
lost_there index sat offset is = by_among (place_among (entries index.outs) sat) refl is where
  by_lost : (o : Option ℕ) → option_map Lost o ≡ Some (Lost offset) → o ≡ Some offset
  by_lost None none = no_some (Lost offset) none
  by_lost (Some k) lost = let out : Lost k ≡ Lost offset = same_some (Lost k) (Lost offset) lost in ap (λ (j : ℕ). Some j) (cc out)

  by_among : (o : Option Place) → place_among (entries index.outs) sat ≡ o → option_map_or (λ place. Some place) o (option_map Lost (place_in index.lost sat)) ≡ Some (Lost offset) → place_in index.lost sat ≡ Some offset
  by_among None none lost = by_lost (place_in index.lost sat) lost
  by_among (Some place) there same = absurd (never_lost sat (entries index.outs) offset (there ∙ same))

-- ---- one change back

below_is : (n k : ℕ) (o : Option ℕ) → number_below n o ≡ Some k → o ≡ Some k
below_is n k None is = is
below_is n k (Some j) is = by_test (nat_lt j n) is where
  by_test : (b : Bool) → cond b (Some j) None ≡ Some k → Some j ≡ Some k
  by_test true same = same
  by_test false none = no_some k none

of_true : (b : Bool) → IsTrue b → T b
of_true b is = subst T (sym is) tt

module _ (p : Profile) (index : Index) (change : Change) (sat : ℕ) (sound : IsSound p index) (ends : EndsIn p index change) where
  abbrev before : Index
  before = undone index change

  abbrev fewer : ℕ
  fewer = length index.lost - length change.lost

  lost_before : place_in before.lost sat ≡ number_below fewer (place_in index.lost sat)
  lost_before = position_below (λ (s : ℕ). s == sat) fewer index.lost

  -- what stands before at an outpoint is by the rows that are gone and those that came
  stood : (at : OutPoint) (gone came : Option OutRow) → find outpoint_cmp at change.gone ≡ gone → find outpoint_cmp at change.came ≡ came
      → get before.outs at ≡ by (option_map_or (λ row. Some (Some row)) gone (cond (is_some came) (Some None) None)) (get index.outs at)
  stood at gone came went comes =
      one_back index.outs (outputs_changed change) at
      ∙ ap (λ (o : Option OutRow). by (option_map_or (λ row. Some (Some row)) o (cond (is_some (find outpoint_cmp at change.came)) (Some None) None)) (get index.outs at)) went
      ∙ ap (λ (o : Option OutRow). by (option_map_or (λ row. Some (Some row)) gone (cond (is_some o) (Some None) None)) (get index.outs at)) comes

  -- an output before that isn't gone stands still, and didn't come
  record Stays (at : OutPoint) (offset : ℕ) : Type 0 where
    stands : Stands index sat at offset
    came_none : find outpoint_cmp at change.came ≡ None

  stays : (at : OutPoint) (offset : ℕ) → Stands before sat at offset → find outpoint_cmp at change.gone ≡ None → Stays at offset
  stays at offset held none = by_came (find outpoint_cmp at change.came) refl where
    by_came : (o : Option OutRow) → find outpoint_cmp at change.came ≡ o → Stays at offset
    by_came (Some row) comes = no_some held.row (sym (stood at None (Some row) none comes) ∙ held.there)
    by_came None comes = record {
      stands = record { row = held.row; there = sym (stood at None None none comes) ∙ held.there; place = held.place };
      came_none = comes;
    }

  -- an output that didn't come stood before
  stood_still : (at : OutPoint) (offset : ℕ) → Stands index sat at offset → find outpoint_cmp at change.came ≡ None → Stands before sat at offset
  stood_still at offset held none = by_gone (find outpoint_cmp at change.gone) refl where
    by_gone : (o : Option OutRow) → find outpoint_cmp at change.gone ≡ o → Stands before sat at offset
    by_gone None went = record { row = held.row; there = stood at None None went none ∙ held.there; place = held.place }
    by_gone (Some row) went =
        let was = (ends.leads.gone.rows at row).0 went in
        let other : get before.outs at ≢ Some held.row = λ same. was.1 (held.there ∙ sym same ∙ was.0) in
        no_some held.row (sym none ∙ (ends.leads.came.rows at held.row).1 (held.there, other))

  -- where it isn't in an output that stays, nor among those lost before, it was in one that is gone
  was_gone : ((at : OutPoint) (offset : ℕ) → Stands before sat at offset → find outpoint_cmp at change.gone ≡ None → ⊥)
      → ((offset : ℕ) → place_in before.lost sat ≡ Some offset → ⊥) → where_is before sat ≡ place_among change.gone sat
  was_gone none_stays none_lost = by_among (place_among change.gone sat) refl where
    by_gone : (at : OutPoint) (offset : ℕ) → place_among change.gone sat ≡ None → Stands before sat at offset → (o : Option OutRow) → find outpoint_cmp at change.gone ≡ o → ⊥
    by_gone at offset none held None went = none_stays at offset held went
    by_gone at offset none held (Some row) went =
        let same : row ≡ held.row = same_some row held.row (sym ((ends.leads.gone.rows at row).0 went).0 ∙ held.there) in
        let some = placed_some sat row.sats offset (ap (λ (r : OutRow). place_in r.sats sat) same ∙ held.place) in
        let least = found_least sat change.gone at row went in
        absurd (omega (arith, some, least, among_none sat change.gone none))

    by_where : place_among change.gone sat ≡ None → (o : Option Place) → where_is before sat ≡ o → o ≡ None
    by_where none None is = refl
    by_where none (Some (Out at offset)) is =
        absurd (by_gone at offset none (stands_there before sat at offset is) (find outpoint_cmp at change.gone) refl)
    by_where none (Some (Lost offset)) is = absurd (none_lost offset (lost_there before sat offset is))

    by_among : (o : Option Place) → place_among change.gone sat ≡ o → where_is before sat ≡ o
    by_among None none = by_where none (where_is before sat) refl
    by_among (Some (Lost offset)) is = absurd (never_lost sat change.gone offset is)
    by_among (Some (Out at offset)) is =
        let held = held_among sat change.gone at offset (of_true _ ends.leads.gone.rising) is in
        where_stands p before ends.sound sat at offset
        (record { row = held.row; there = ((ends.leads.gone.rows at held.row).0 held.there).0; place = held.place })

  -- ---- by where it is now

  from_out : (at : OutPoint) (offset : ℕ) → where_is index sat ≡ Some (Out at offset) → where_is before sat ≡ place_before change fewer sat (Some (Out at offset))
  from_out at offset is = by_came (find outpoint_cmp at change.came) refl where
    by_came : (o : Option OutRow) → find outpoint_cmp at change.came ≡ o → where_is before sat ≡ cond (not (is_some o)) (Some (Out at offset)) (place_among change.gone sat)
    by_came None none = where_stands p before ends.sound sat at offset (stood_still at offset (stands_there index sat at offset is) none)
    by_came (Some row) comes = was_gone
        (λ other k held none.
        let stay = stays other k held none in
        let out : Out other k ≡ Out at offset = same_some _ _ (sym (where_stands p index sound sat other k stay.stands) ∙ is) in
        let same : other ≡ at = cc out in
        no_some row (sym stay.came_none ∙ ap (λ (a : OutPoint). find outpoint_cmp a change.came) same ∙ comes))
        (λ k lost.
        let there : place_in index.lost sat ≡ Some k = below_is fewer k (place_in index.lost sat) (sym lost_before ∙ lost) in
        let out : Lost k ≡ Out at offset = same_some _ _ (sym (where_lost p index sound sat k there) ∙ is) in
        absurd (cc out))

  from_lost : (offset : ℕ) → where_is index sat ≡ Some (Lost offset) → where_is before sat ≡ place_before change fewer sat (Some (Lost offset))
  from_lost offset is = by_test (nat_lt offset fewer) refl where
    there : place_in before.lost sat ≡ cond (nat_lt offset fewer) (Some offset) None
    there = lost_before ∙ ap (number_below fewer) (lost_there index sat offset is)

    by_test : (b : Bool) → nat_lt offset fewer ≡ b → where_is before sat ≡ cond b (Some (Lost offset)) (place_among change.gone sat)
    by_test true test = where_lost p before ends.sound sat offset (there ∙ ap (λ (b : Bool). cond b (Some offset) None) test)
    by_test false test = was_gone
        (λ other k held none.
        let out : Out other k ≡ Lost offset = same_some _ _ (sym (where_stands p index sound sat other k (stays other k held none).stands) ∙ is) in
        absurd (cc out))
        (λ k lost. no_some k (sym (there ∙ ap (λ (b : Bool). cond b (Some offset) None) test) ∙ lost))

  from_nowhere : where_is index sat ≡ None → where_is before sat ≡ None
  from_nowhere is =
      let less : length before.hashes ≤ length index.hashes = omega (arith, length-take-le (length index.hashes - 1) index.hashes (omega arith)) in
      let late = first_le p (length before.hashes) (length index.hashes) less in
      nowhere p before sat ends.sound (omega (arith, late, unminted p index sound sat is))

  pub place_was : where_is before sat ≡ place_before change fewer sat (where_is index sat)
  place_was = by_where (where_is index sat) refl where
    by_where : (o : Option Place) → where_is index sat ≡ o → where_is before sat ≡ place_before change fewer sat o
    by_where None is = from_nowhere is
    by_where (Some (Out at offset)) is = from_out at offset is
    by_where (Some (Lost offset)) is = from_lost offset is

-- ---- some changes back

pub places_were : (p : Profile) (index : Index) (changes : List Change) (sat : ℕ) → IsSound p index → AllEnd p index changes
    → where_is (undone_by index changes) sat ≡ place_by changes (length index.lost) sat (where_is index sat)
places_were p index [] sat sound all = refl
places_were p index (change ∷ changes) sat sound all =
    let fewer : ℕ = length index.lost - length change.lost in
    let left : length (undone index change).lost ≡ fewer = length-take-le fewer index.lost (omega arith) in
    places_were p (undone index change) changes sat all.0.sound all.1
    ∙ ap (λ (n : ℕ). place_by changes n sat (where_is (undone index change) sat)) left
    ∙ ap (place_by changes fewer sat) (place_was p index change sat sound all.0)

-- an output without the satoshi is passed by
pub passed_by : (e : OutPoint × OutRow) (rest : List (OutPoint × OutRow)) (sat : ℕ) → place_in e.1.sats sat ≡ None → place_among rest sat ≡ place_among (e ∷ rest) sat
passed_by e rest sat none = sym (ap (λ (o : Option ℕ). option_map_or (λ offset. Some (Out e.0 offset)) o (place_among rest sat)) none)
