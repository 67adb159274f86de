-- Lists of which a part counts, with one block more or one less.
use Rattle.std.proofs.Common.{◌≡◌, ◌∙◌, ◌≤◌, ◌<◌, ◌+◌, ◌-◌, ◌^◌, ℕ, List, [], ◌∷◌, ◌++◌, length, take, refl, sym, ap, subst, arith, length-append, Bool, true, false, Some, None}
use Rattle.std.specs.Prelude.{cond, position, nat_lt, if◌then◌else◌}
use Rattle.std.proofs.lemmas.Bool.{lt-ltb, le-ltb, ltb-false}
use Rattle.std.proofs.lemmas.List.{take_all, take-take, take-append-le, length-take-le, get_or-take}
use Rattle.std.proofs.lemmas.List.Sums.{position_or_len_is, fails_before_first}
use Rattle.std.proofs.lemmas.List.Quantifiers.{position-Some}
use Rattle.std.specs.List.{position_or_len}
use Rattle.ox_sat.specs.Heights.{first_at}
use Rattle.ox_sat.specs.Profiles.{IsProfile}
use Rattle.ox_sat.specs.declared.profiles.Profile.{Profile}
use Rattle.ox_rules.specs.Differences.{reverse_of}
use Rattle.ox_rules.specs.Outputs.{Outputs, sats_held, times}
use Rattle.ox_rules.proofs.Conservation.{times-append}
use Rattle.ox_rules.proofs.DifferenceLemmas.{from_the_other}
use Rattle.ox_outputs.specs.Table.{EndsIn as EndsAt}
use Rattle.ox_transfer.proofs.Claims.{first_few}
use Rattle.ox_transfer.proofs.Once.{fits}
use Rattle.ox_model.specs.Change.{outputs_changed, redone, undone}
use Rattle.ox_model.specs.Ends.{BeginsIn, EndsIn}
use Rattle.ox_model.specs.Index.{Index}
use Rattle.ox_model.specs.Sound.{IsSound}
use Rattle.ox_model.specs.declared.change.Change.{Change}
use Rattle.ox_model.proofs.Changes.{outputs_differ}
use Rattle.ox_index.specs.Lengths.{AreWithin, index_of_parts, index_to}
use Rattle.ox_index.specs.Held.{Held}
use Rattle.ox_index.specs.declared.lengths.Lengths.{Lengths}

pub whole_list : {X : Type 0} (xs : List X) (n : ℕ) → length xs ≡ n → take n xs ≡ xs
whole_list xs n is = take_all n xs (omega (arith, is))

-- ---- where all counts

pub all_to : (items : List (List ℕ)) (lost : List ℕ) (held : Held) (lengths : Lengths) → length items ≡ lengths.blocks → length lost ≡ lengths.lost
    → index_to items held lost lengths ≡ index_of_parts items held lost
all_to items lost held lengths many few = λ i. index_of_parts (whole_list items lengths.blocks many i) held (whole_list lost lengths.lost few i)

pub all_there : (items : List (List ℕ)) (lost : List ℕ) (lengths : Lengths) → length items ≡ lengths.blocks → length lost ≡ lengths.lost → AreWithin items lost lengths
all_there items lost lengths many few = record { hashes_there = omega (arith, many); lost_there = omega (arith, few) }

-- ---- one block more

pushed : {X : Type 0} (xs ys : List X) (n m : ℕ) → length xs ≡ n → length ys ≡ m → take (n + m) (xs ++ ys) ≡ take n xs ++ ys
pushed xs ys n m many more =
    whole_list (xs ++ ys) (n + m) (omega (arith, many, more, length-append xs ys)) ∙ ap (λ l. l ++ ys) (sym (whole_list xs n many))

pub grown_to : (items : List (List ℕ)) (lost : List ℕ) (lengths : Lengths) (hash : List ℕ) (new : List ℕ) (held : Held)
    → length items ≡ lengths.blocks → length lost ≡ lengths.lost
    → index_to (items ++ hash ∷ []) held (lost ++ new) (record { blocks = lengths.blocks + 1; lost = lengths.lost + length new })
    ≡ index_of_parts (take lengths.blocks items ++ hash ∷ []) held (take lengths.lost lost ++ new)
grown_to items lost lengths hash new held many few =
    let hashes = pushed items (hash ∷ []) lengths.blocks 1 many refl in
    let losts = pushed lost new lengths.lost (length new) few refl in
    λ i. index_of_parts (hashes i) held (losts i)

-- what counted before is as before
pub kept_to : (items more : List (List ℕ)) (lost new : List ℕ) (lengths : Lengths) (held : Held)
    → AreWithin items lost lengths → index_to (items ++ more) held (lost ++ new) lengths ≡ index_to items held lost lengths
kept_to items more lost new lengths held within =
    let hashes = take-append-le lengths.blocks items more within.hashes_there in
    let losts = take-append-le lengths.lost lost new within.lost_there in
    λ i. index_of_parts (hashes i) held (losts i)

pub within_more : (items more : List (List ℕ)) (lost new : List ℕ) (lengths : Lengths) → AreWithin items lost lengths → AreWithin (items ++ more) (lost ++ new) lengths
within_more items more lost new lengths within = record {
  hashes_there = omega (arith, within.hashes_there, length-append items more);
  lost_there = omega (arith, within.lost_there, length-append lost new);
}

-- ---- one block less

shortened : {X : Type 0} (xs : List X) (n m : ℕ) → n ≤ length xs → take (n - m) xs ≡ take (length (take n xs) - m) (take n xs)
shortened xs n m le =
    let many : length (take n xs) ≡ n = length-take-le n xs le in
    rw many (sym (take-take (n - m) n xs (omega arith)))

pub shrunk_to : (items : List (List ℕ)) (lost new : List ℕ) (lengths : Lengths) (held : Held) → AreWithin items lost lengths
    → index_to items held lost (record { blocks = lengths.blocks - 1; lost = lengths.lost - length new })
    ≡ index_of_parts (take (length (take lengths.blocks items) - 1) (take lengths.blocks items)) held
    (take (length (take lengths.lost lost) - length new) (take lengths.lost lost))
shrunk_to items lost new lengths held within =
    let hashes = shortened items lengths.blocks 1 within.hashes_there in
    let losts = shortened lost lengths.lost (length new) within.lost_there in
    λ i. index_of_parts (hashes i) held (losts i)

-- ---- the ends of a change

held_once : (p : Profile) (index : Index) → IsSound p index → (sat : ℕ) → times sat (sats_held index.outs) ≤ 1
held_once p index sound sat =
    let all : times sat (sats_held index.outs) + times sat index.lost ≡ (if nat_lt sat (first_at p (length index.hashes)) then 1 else 0) =
    sym (times-append sat (sats_held index.outs) index.lost) ∙ sound.sats.once sat in
    by_test (nat_lt sat (first_at p (length index.hashes))) all where
      by_test : (b : Bool) → times sat (sats_held index.outs) + times sat index.lost ≡ (if b then 1 else 0) → times sat (sats_held index.outs) ≤ 1
      by_test true is = omega (arith, is)
      by_test false is = omega (arith, is)

pub ends_at : (p : Profile) (index : Index) (change : Change) (rows : Outputs) → EndsIn p index change → rows ≡ index.outs → EndsAt rows (outputs_changed change)
ends_at p index change rows ends is =
    subst (λ (r : Outputs). EndsAt r (outputs_changed change)) (sym is) (record {
      before = (undone index change).outs;
      differ = outputs_differ (undone index change) index change ends.leads;
      once = held_once p (undone index change) ends.sound;
    })

pub begins_at : (p : Profile) (index : Index) (change : Change) (rows : Outputs) → BeginsIn p index change → rows ≡ index.outs → EndsAt rows (reverse_of (outputs_changed change))
begins_at p index change rows begins is =
    subst (λ (r : Outputs). EndsAt r (reverse_of (outputs_changed change))) (sym is) (record {
      before = (redone index change).outs;
      differ = from_the_other index.outs (redone index change).outs (outputs_changed change) (outputs_differ index (redone index change) change begins.leads);
      once = held_once p (redone index change) begins.sound;
    })

-- the lost satoshis of a sound index can be counted
pub lost_few : (p : Profile) (index : Index) → IsProfile p → IsSound p index → length index.lost ≤ 2 ^ 63
lost_few p index known sound =
    let few : length index.lost ≤ first_at p (length index.hashes) =
    fits (first_at p (length index.hashes)) index.lost (λ sat. omega (arith, sound.sats.once sat, times-append sat (sats_held index.outs) index.lost)) in
    omega (arith, few, first_few p (length index.hashes) known)

-- ---- the place of a satoshi in a list of which a part counts

module _ (p : ℕ → Bool) where
  found_by : (at len i : ℕ) → at ≡ i → i < len → cond (nat_lt at len) (Some at) None ≡ Some i
  found_by at len i is less = rw (is, lt-ltb i len less) refl

  none_by : (at len : ℕ) → len ≤ at → cond (nat_lt at len) (Some at) None ≡ None
  none_by at len le = rw (le-ltb at len le) refl

  pub found_in_part : (n : ℕ) (xs : List ℕ) (i : ℕ) → n ≤ length xs → position p xs ≡ Some i → i < n → position p (take n xs) ≡ Some i
  found_in_part n xs i le is less =
      let many : length (take n xs) ≡ n = length-take-le n xs le in
      let there = position-Some p xs i 0 is in
      found_by (position_or_len p (take n xs)) (length (take n xs)) i
      (position_or_len_is p (take n xs) i 0 (omega (arith, many))
      (λ k lt. rw (get_or-take n xs k 0 (omega (arith, lt, less))) (there.2 k lt))
      (λ h. rw (get_or-take n xs i 0 less) there.1))
      (omega (arith, many, less))

  part_fails : (n : ℕ) (xs : List ℕ) → n ≤ length xs → n ≤ position_or_len p xs → position p (take n xs) ≡ None
  part_fails n xs le past =
      let many : length (take n xs) ≡ n = length-take-le n xs le in
      let at : position_or_len p (take n xs) ≡ n =
      position_or_len_is p (take n xs) n 0 (omega (arith, many))
      (λ k lt. rw (get_or-take n xs k 0 lt) (fails_before_first p xs k 0 (omega (arith, lt, past))))
      (λ h. absurd (omega (arith, h, many))) in
      none_by (position_or_len p (take n xs)) (length (take n xs)) (omega (arith, at, many))

  pub found_behind : (n : ℕ) (xs : List ℕ) (i : ℕ) → n ≤ length xs → position p xs ≡ Some i → n ≤ i → position p (take n xs) ≡ None
  found_behind n xs i le is past =
      let there = position-Some p xs i 0 is in
      let at : position_or_len p xs ≡ i = position_or_len_is p xs i 0 (omega (arith, there.0)) there.2 (λ h. there.1) in
      part_fails n xs le (omega (arith, at, past))

  pub found_nowhere : (n : ℕ) (xs : List ℕ) → n ≤ length xs → position p xs ≡ None → position p (take n xs) ≡ None
  found_nowhere n xs le is = part_fails n xs le (omega (arith, le, by_test (nat_lt (position_or_len p xs) (length xs)) refl is)) where
    by_test : (b : Bool) → nat_lt (position_or_len p xs) (length xs) ≡ b → cond b (Some (position_or_len p xs)) None ≡ None → length xs ≤ position_or_len p xs
    by_test true test none = absurd (cc none)
    by_test false test none = ltb-false _ _ test
