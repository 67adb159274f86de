-- An inscription is told at an output exactly where its satoshi's place is in it.
use Rattle.std.proofs.Common.{◌≡◌, ◌∙◌, ◌↔◌, ℕ, zero, suc, ◌+◌, ◌<◌, ◌≤◌, ◌==◌, Bool, true, false, cond, not, List, [], ◌∷◌, ◌++◌, length, map, get_or, refl, sym, ap, subst, arith, Option, Some, None, ⊎_elim, Ordering, T, nat_lt}
use Rattle.std.specs.Prelude.{◌&&◌, Contains, option_map, slice_get}
use Rattle.std.specs.FinMap.{entries, entries_sorted, find, get, get-entries, is_sorted}
use Rattle.std.specs.FinMap.Entries.{below_all, find_tied}
use Rattle.std.specs.List.{flat_map, position_or_len}
use Rattle.std.specs.Option.{option_map_or}
use Rattle.std.specs.Ordering.{eq_by_cmp, is_eq, is_lt}
use Rattle.std.specs.declared.cmp.Ordering.TheVariants.{Less, Equal, Greater}
use Rattle.std.specs.Cmp.{eq_by_cmp_equiv}
use Rattle.std.proofs.lemmas.Bool.{eq-eqb, eqb-true, or_left, or_right}
use Rattle.std.proofs.lemmas.List.Elements.{Contains-append_cases, Contains-append_left, Contains-append_right, Contains-get_or}
use Rattle.std.proofs.lemmas.List.Sums.{get_or-le-sum_by, sum_by-cons}
use Rattle.std.proofs.lemmas.Map.Views.{Contains-from_any}
use Rattle.ox_block.specs.declared.block.OutPoint.{OutPoint}
use Rattle.ox_sat.specs.declared.profiles.Profile.{Profile}
use Rattle.ox_sat.specs.Heights.{first_at}
use Rattle.ox_range.proofs.RunLemmas.{position_some}
use Rattle.ox_rules.specs.declared.place.Place.{Place}
use Rattle.ox_rules.specs.declared.place.Place.TheVariants.{Out, Lost}
use Rattle.ox_rules.specs.declared.rows.OutRow.{OutRow}
use Rattle.ox_rules.specs.Outputs.{outpoint_cmp, sats_held, sats_of, times}
use Rattle.ox_rules.specs.Where.{place_among, place_in}
use Rattle.ox_rules.proofs.Conservation.{times-append}
use Rattle.ox_rules.proofs.Orders.{outpoints_exact, outpoints_total}
use Rattle.ox_inscribe.specs.Inscriptions.{is_on, on}
use Rattle.ox_inscribe.specs.Numbers.{is_among}
use Rattle.ox_inscribe.specs.declared.row.InsRow.{InsRow}
use Rattle.ox_inscribe.proofs.NumberLaws.{numbers_pass}
use Rattle.ox_model.specs.Index.{Index}
use Rattle.ox_model.specs.Sound.{IsSound}
use Rattle.ox_model.specs.Where.{where_is}
use Rattle.ox_replies.proofs.Nowhere.{in_no_place}

-- ---- numbers in lists

among_there : (numbers : List ℕ) (n k : ℕ) → k < length numbers → get_or numbers k n ≡ n → is_among n numbers ≡ true
among_there [] n k low is = absurd (omega (arith, low))
among_there (x ∷ numbers) n zero low is = or_left _ _ (eq-eqb x n is)
among_there (x ∷ numbers) n (suc k) low is = or_right _ _ (among_there numbers n k (omega (arith, low)) is)

there_among : (numbers : List ℕ) (n : ℕ) → is_among n numbers ≡ true → Contains numbers n
there_among numbers n is = Contains-from_any {eq = λ q x. x == q} (λ q x same. sym (eqb-true x q same)) n numbers is

from_lists : (f : ℕ → List ℕ) (xs : List ℕ) (n : ℕ) → Contains (flat_map f xs) n → (x : ℕ) × Contains xs x × Contains (f x) n
from_lists f [] n there = absurd (omega (arith, there.1))
from_lists f (x ∷ xs) n there = ⊎_elim
    (λ here. (x, Contains-get_or (x ∷ xs) 0 x (omega arith), here))
    (λ more. let one = from_lists f xs n more in (one.0, Contains-append_right (x ∷ []) xs one.0 one.1, one.2))
    (Contains-append_cases (f x) (flat_map f xs) n there)

into_lists : (f : ℕ → List ℕ) (xs : List ℕ) (x n k : ℕ) → k < length xs → get_or xs k x ≡ x → Contains (f x) n → Contains (flat_map f xs) n
into_lists f [] x n k low is there = absurd (omega (arith, low))
into_lists f (y ∷ xs) x n zero low is there = Contains-append_left (f y) (flat_map f xs) n (subst (λ (z : ℕ). Contains (f z) n) (sym is) there)
into_lists f (y ∷ xs) x n (suc k) low is there = Contains-append_right (f y) (flat_map f xs) n (into_lists f xs x n k (omega (arith, low)) is there)

-- ---- satoshis in lists

times_there : (sats : List ℕ) (sat : ℕ) → Contains sats sat → 1 ≤ times sat sats
times_there sats sat there =
    let f : ℕ → ℕ = λ s. cond (s == sat) 1 0 in
    let least : f (get_or sats there.0 sat) ≤ times sat sats = get_or-le-sum_by f sats there.0 sat there.1 in
    let is : f (get_or sats there.0 sat) ≡ f sat = ap f there.2 in
    let one : f sat ≡ 1 = ap (λ (b : Bool). cond b 1 0) (eq-eqb sat sat refl) in
    omega (arith, least, is, one)

there_times : (sats : List ℕ) (sat : ℕ) → 1 ≤ times sat sats → Contains sats sat
there_times [] sat some = absurd (omega (arith, some))
there_times (x ∷ sats) sat some = by (x == sat) refl (sym (sum_by-cons (λ s. cond (s == sat) 1 0) x sats)) (there_times sats sat)
  where
    by : (same : Bool) → (x == sat) ≡ same → cond same 1 0 + times sat sats ≡ times sat (x ∷ sats) → (1 ≤ times sat sats → Contains sats sat) → Contains (x ∷ sats) sat
    by true same e rest = subst (λ (y : ℕ). Contains (x ∷ sats) y) (eqb-true x sat same) (Contains-get_or (x ∷ sats) 0 x (omega arith))
    by false same e rest = Contains-append_right (x ∷ []) sats sat (rest (omega (arith, e, some)))

place_before : (sat : ℕ) (sats : List ℕ) → 1 ≤ times sat sats → position_or_len (λ s. s == sat) sats < length sats
place_before sat [] some = absurd (omega (arith, some))
place_before sat (x ∷ sats) some = by (x == sat) (sym (sum_by-cons (λ s. cond (s == sat) 1 0) x sats)) (place_before sat sats)
  where
    by : (same : Bool) → cond same 1 0 + times sat sats ≡ times sat (x ∷ sats) → (1 ≤ times sat sats → position_or_len (λ s. s == sat) sats < length sats)
        → cond (not same) (1 + position_or_len (λ s. s == sat) sats) 0 < suc (length sats)
    by true e rest = omega arith
    by false e rest = let less = rest (omega (arith, e, some)) in omega (arith, less)

in_place : (sat : ℕ) (sats : List ℕ) → 1 ≤ times sat sats → (offset : ℕ) × (place_in sats sat ≡ Some offset)
in_place sat sats some = (position_or_len (λ s. s == sat) sats, sym (position_some sats sat (position_or_len (λ s. s == sat) sats) refl (place_before sat sats some)))

placed_times : (sat : ℕ) (sats : List ℕ) (offset : ℕ) → place_in sats sat ≡ Some offset → 1 ≤ times sat sats
placed_times sat sats offset is = by (times sat sats) refl
  where
    by : (k : ℕ) → times sat sats ≡ k → 1 ≤ k
    by zero none = absurd (let e : None ≡ Some offset = sym (in_no_place sat sats none) ∙ is in cc e)
    by (suc k) some = omega arith

-- ---- satoshis in outputs

tie : (r : Ordering) → is_eq r ≡ true → r ≡ Equal
tie Less p = absurd (cc p)
tie Equal p = refl
tie Greater p = absurd (cc p)

-- a row that is found holds no more than all of them
held_found : (sat : ℕ) (es : List (OutPoint × OutRow)) (at : OutPoint) (row : OutRow) → find outpoint_cmp at es ≡ Some row → times sat row.sats ≤ times sat (sats_of (map (λ e. e.1) es))
held_found sat [] at row found = absurd (cc found)
held_found sat (e ∷ es) at row found = by (eq_by_cmp outpoint_cmp at e.0) found (times-append sat e.1.sats (sats_of (map (λ e. e.1) es))) (λ more. held_found sat es at row more)
  where
    by : (tied : Bool) → cond tied (Some e.1) (find outpoint_cmp at es) ≡ Some row → times sat (e.1.sats ++ sats_of (map (λ e. e.1) es)) ≡ times sat e.1.sats + times sat (sats_of (map (λ e. e.1) es))
        → (find outpoint_cmp at es ≡ Some row → times sat row.sats ≤ times sat (sats_of (map (λ e. e.1) es))) → times sat row.sats ≤ times sat (e.1.sats ++ sats_of (map (λ e. e.1) es))
    by true is parts rest = let same : e.1 ≡ row = cc is in let alike = ap (λ (r : OutRow). times sat r.sats) same in omega (arith, parts, alike)
    by false is parts rest = let least = rest is in omega (arith, parts, least)

-- a satoshi that stands once has its place in the row that holds it
among_held : (sat : ℕ) (es : List (OutPoint × OutRow)) (at : OutPoint) (row : OutRow) → find outpoint_cmp at es ≡ Some row → times sat (sats_of (map (λ e. e.1) es)) ≤ 1 → 1 ≤ times sat row.sats → (offset : ℕ) × (place_among es sat ≡ Some (Out at offset))
among_held sat [] at row found once some = absurd (cc found)
among_held sat (e ∷ es) at row found once some = by (eq_by_cmp outpoint_cmp at e.0) refl found (times-append sat e.1.sats (sats_of (map (λ e. e.1) es))) (λ more few. among_held sat es at row more few some)
  where
    by : (tied : Bool) → eq_by_cmp outpoint_cmp at e.0 ≡ tied → cond tied (Some e.1) (find outpoint_cmp at es) ≡ Some row → times sat (e.1.sats ++ sats_of (map (λ e. e.1) es)) ≡ times sat e.1.sats + times sat (sats_of (map (λ e. e.1) es))
        → (find outpoint_cmp at es ≡ Some row → times sat (sats_of (map (λ e. e.1) es)) ≤ 1 → (offset : ℕ) × (place_among es sat ≡ Some (Out at offset))) → (offset : ℕ) × (place_among (e ∷ es) sat ≡ Some (Out at offset))
    by true tied is parts more =
        let same : at ≡ e.0 = outpoints_exact at e.0 (tie _ tied) in
        let one : row ≡ e.1 = cc is in
        let held = in_place sat e.1.sats (subst (λ (r : OutRow). 1 ≤ times sat r.sats) one some) in
        (held.0, ap (λ (o : Option ℕ). option_map_or (λ offset. Some (Out e.0 offset)) o (place_among es sat)) held.1 ∙ ap (λ (a : OutPoint). Some (Out a held.0)) (sym same))
    by false tied is parts more =
        let least = held_found sat es at row is in
        let rest = more is (omega (arith, once, parts)) in
        (rest.0, ap (λ (o : Option ℕ). option_map_or (λ offset. Some (Out e.0 offset)) o (place_among es sat)) (in_no_place sat e.1.sats (omega (arith, once, parts, least, some))) ∙ rest.1)

first_true : (a b : Bool) → T (a && b) → T a
first_true true b p = tt
first_true false b p = absurd p

second_true : (a b : Bool) → T (a && b) → T b
second_true true b p = p
second_true false b p = absurd p

less_order : (r : Ordering) → T (is_lt r) → is_eq r ≡ false
less_order Less p = refl
less_order Equal p = absurd p
less_order Greater p = absurd p

absent_key : (x : OutPoint) (es : List (OutPoint × OutRow)) → T (below_all outpoint_cmp x es) → find outpoint_cmp x es ≡ None
absent_key x [] below = refl
absent_key x (e ∷ es) below =
    ap (λ (b : Bool). cond b (Some e.1) (find outpoint_cmp x es)) (less_order (outpoint_cmp x e.0) (first_true _ _ below)) ∙ absent_key x es (second_true _ _ below)

-- a row behind another is found behind it
pub found_behind : (e : OutPoint × OutRow) (es : List (OutPoint × OutRow)) (at : OutPoint) (row : OutRow) → T (is_sorted outpoint_cmp (e ∷ es)) → find outpoint_cmp at es ≡ Some row → find outpoint_cmp at (e ∷ es) ≡ Some row
found_behind e es at row sorted is = by (eq_by_cmp outpoint_cmp at e.0) refl
  where
    by : (b : Bool) → eq_by_cmp outpoint_cmp at e.0 ≡ b → cond b (Some e.1) (find outpoint_cmp at es) ≡ Some row
    by true tied = absurd (let e : None ≡ Some row = sym (absent_key e.0 es (first_true _ _ sorted)) ∙ find_tied outpoint_cmp outpoints_total at e.0 (tie _ tied) es ∙ is in cc e)
    by false other = is

pub found_front : (e : OutPoint × OutRow) (es : List (OutPoint × OutRow)) → find outpoint_cmp e.0 (e ∷ es) ≡ Some e.1
found_front e es = ap (λ (b : Bool). cond b (Some e.1) (find outpoint_cmp e.0 es)) ((eq_by_cmp_equiv outpoints_total).refl e.0)

-- the row of a place is found, and holds the satoshi
record IsHeld (sat : ℕ) (es : List (OutPoint × OutRow)) (at : OutPoint) : Type 0 where
  pub row : OutRow
  pub found : find outpoint_cmp at es ≡ Some row
  pub some : 1 ≤ times sat row.sats

held_among : (sat : ℕ) (es : List (OutPoint × OutRow)) (at : OutPoint) (offset : ℕ) → T (is_sorted outpoint_cmp es) → place_among es sat ≡ Some (Out at offset) → IsHeld sat es at
held_among sat [] at offset sorted is = absurd (cc is)
held_among sat (e ∷ es) at offset sorted is = by (place_in e.1.sats sat) refl is (λ rest. held_among sat es at offset (second_true _ _ sorted) rest)
  where
    by : (o : Option ℕ) → place_in e.1.sats sat ≡ o → option_map_or (λ offset. Some (Out e.0 offset)) o (place_among es sat) ≡ Some (Out at offset) → (place_among es sat ≡ Some (Out at offset) → IsHeld sat es at) → IsHeld sat (e ∷ es) at
    by None none rest more =
        let behind = more rest in
        record { row = behind.row; found = found_behind e es at behind.row sorted behind.found; some = behind.some }
    by (Some k) here same more =
        let one : e.0 ≡ at = cc same in
        record {
          row = e.1;
          found = subst (λ (a : OutPoint). find outpoint_cmp a (e ∷ es) ≡ Some e.1) one (found_front e es);
          some = placed_times sat e.1.sats k here;
        }

-- ---- an index

at_most_one : (b : Bool) → cond b 1 0 ≤ 1
at_most_one true = omega arith
at_most_one false = omega arith

module _ (p : Profile) (index : Index) (at : OutPoint) (row : OutRow) (n : ℕ) (one : InsRow) (sat : ℕ) (sound : IsSound p index) (found : get index.outs at ≡ Some row) (there : slice_get index.inscriptions n ≡ Some one) (is : one.sat ≡ Some sat) where
  -- the inscription is on its satoshi alone
  on_alone : (s : ℕ) → is_among n (on index.inscriptions s) ≡ (sat == s)
  on_alone s = numbers_pass (is_on s) 0 n n index.inscriptions (omega arith)
      ∙ ap (λ (r : Option InsRow). option_map_or (is_on s) r false) there
      ∙ ap (λ (o : Option ℕ). option_map_or (λ t. t == s) o false) is

  held : Contains (flat_map (on index.inscriptions) row.sats) n → 1 ≤ times sat row.sats
  held told =
      let of = from_lists (on index.inscriptions) row.sats n told in
      let same : sat ≡ of.0 = eqb-true sat of.0 (sym (on_alone of.0) ∙ among_there (on index.inscriptions of.0) n of.2.0 of.2.1 of.2.2) in
      times_there row.sats sat (subst (λ (s : ℕ). Contains row.sats s) (sym same) of.1)

  told_if : 1 ≤ times sat row.sats → Contains (flat_map (on index.inscriptions) row.sats) n
  told_if some =
      let in_row = there_times row.sats sat some in
      into_lists (on index.inscriptions) row.sats sat n in_row.0 in_row.1 in_row.2
      (there_among (on index.inscriptions sat) n (on_alone sat ∙ eq-eqb sat sat refl))

  once : times sat (sats_held index.outs) ≤ 1
  once =
      let most = at_most_one (nat_lt sat (first_at p (length index.hashes))) in
      omega (arith, most, sound.sats.once sat, times-append sat (sats_held index.outs) index.lost)

  placed : 1 ≤ times sat row.sats → (offset : ℕ) × (where_is index sat ≡ Some (Out at offset))
  placed some =
      let among = among_held sat (entries index.outs) at row (sym (get-entries index.outs at) ∙ found) once some in
      (among.0, ap (λ (place : Option Place). option_map_or (λ place. Some place) place (option_map Lost (place_in index.lost sat))) among.1)

  in_lost : (o : Option ℕ) (offset : ℕ) → option_map Lost o ≡ Some (Out at offset) → ⊥
  in_lost None offset e = absurd (cc e)
  in_lost (Some k) offset e = absurd (cc e)

  where_among : (offset : ℕ) → where_is index sat ≡ Some (Out at offset) → place_among (entries index.outs) sat ≡ Some (Out at offset)
  where_among offset e = by (place_among (entries index.outs) sat) e
    where
      by : (o : Option Place) → option_map_or (λ place. Some place) o (option_map Lost (place_in index.lost sat)) ≡ Some (Out at offset) → o ≡ Some (Out at offset)
      by None lost = absurd (in_lost (place_in index.lost sat) offset lost)
      by (Some place) same = same

  told_at : (offset : ℕ) → where_is index sat ≡ Some (Out at offset) → Contains (flat_map (on index.inscriptions) row.sats) n
  told_at offset e =
      let of = held_among sat (entries index.outs) at offset (entries_sorted index.outs) (where_among offset e) in
      let two : Some of.row ≡ Some row = sym of.found ∙ sym (get-entries index.outs at) ∙ found in
      let same : of.row ≡ row = cc two in
      told_if (subst (λ (r : OutRow). 1 ≤ times sat r.sats) same of.some)

  pub agree : Contains (flat_map (on index.inscriptions) row.sats) n ↔ ((offset : ℕ) × (where_is index sat ≡ Some (Out at offset)))
  agree = (λ told. placed (held told), λ at. told_at at.0 at.1)
