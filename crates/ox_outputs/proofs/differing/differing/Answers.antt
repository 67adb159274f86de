use Rattle.std.proofs.Common.{◌≡◌, ◌∙◌, ◌<◌, ◌≤◌, ◌++◌, ℕ, List, [], None, sym, ap, subst, arith, get_or, length}
use Rattle.std.specs.List.{position_from}
use Rattle.std.specs.List.Sorted.{IsStrictlySortedBy}
use Rattle.std.specs.Prelude.{option_copied}
use Rattle.std.specs.BTreeMap.{is_at}
use Rattle.std.specs.FinMap.{get}
use Rattle.std.specs.Map.{keys_of, lookup}
use Rattle.ox_block.specs.declared.block.OutPoint.{OutPoint}
use Rattle.ox_rules.specs.Differences.{AreGone}
use Rattle.ox_rules.specs.Outputs.{Outputs, outpoint_cmp}
use Rattle.ox_outputs.specs.Differing.{gone_at, outpoint_in, pairs_in, row_at, row_unless}
use Rattle.ox_outputs.specs.Fronts.{pair_of}
use Rattle.ox_outputs.specs.Slots.{outpoint_at, rows_of, undone}
use Rattle.ox_outputs.specs.declared.fronted.Fronted.{Fronted}
use Rattle.ox_outputs.specs.declared.slot_of.SlotOf.{SlotOf}
use Rattle.ox_outputs.proofs.DifferingRows.{all_rows, are_gone, is_of, one_more, stays_at, stays_spot, stays_stood}
use Rattle.ox_outputs.proofs.FrontLemmas.{outpoint_of_pair, pair_is, pairs_count}
use Rattle.ox_outputs.proofs.differing.differing.Goals as goal

-- what is known of the places is known of the slice that the loop goes over
ordered_too : (changed : List SlotOf) (places items : List Fronted) → items ≡ places → IsStrictlySortedBy outpoint_cmp (keys_of (pairs_in changed places)) → IsStrictlySortedBy outpoint_cmp (keys_of (pairs_in changed items))
ordered_too changed places items is ordered = subst (λ (l : List Fronted). IsStrictlySortedBy outpoint_cmp (keys_of (pairs_in changed l))) (sym is) ordered

found_too : (changed : List SlotOf) (places items : List Fronted) → items ≡ places → ((at : OutPoint) → lookup (is_at (outpoint_cmp at)) (pairs_in changed places) ≡ position_from (is_of at) 0 changed)
    → (at : OutPoint) → lookup (is_at (outpoint_cmp at)) (pairs_in changed items) ≡ position_from (is_of at) 0 changed
found_too changed places items is found at = ap (λ (l : List Fronted). lookup (is_at (outpoint_cmp at)) (pairs_in changed l)) is ∙ found at

abbrev nothing : Fronted
nothing = record { front = 0; place = 0 }

abbrev no_spot : SlotOf
no_spot = record { at = record { txid = record { 0 = [] }; index = 0 }; place = 0 }

-- a place in the list is that of a change
within : (changed : List SlotOf) (items : List Fronted) (k : ℕ) → (get_or (pairs_in changed items) k (pair_of (outpoint_in changed) nothing)).1 < length changed → (get_or items k nothing).place < length changed
within changed items k low = subst (λ (p : OutPoint × ℕ). p.1 < length changed) (pair_is changed items k nothing) low

as_many : (changed : List SlotOf) (items : List Fronted) (k : ℕ) → k < length items → k < length (pairs_in changed items)
as_many changed items k low = omega (arith, low, pairs_count changed items)

pub bounds-changed-one : goal.bounds-changed-one
bounds-changed-one c =
    let changed = c.args.changed.now in
    let places = c.in_ok-places.places.items in
    let items = c.deref-one-items.result.now in
    let is = c.deref-one-items.ensures.value in
    let k = c.loop-one.one-index in
    within changed items k (stays_spot no_spot changed c.args.slots.now (pairs_in changed items) k (pair_of (outpoint_in changed) nothing) c.requires.known (ordered_too changed places items is c.in_ok-places.ensures.ordered)
    (found_too changed places items is c.in_ok-places.ensures.places) (as_many changed items k c.loop-one-test.true)).0

pub offset_bounds-changed-one : goal.offset_bounds-changed-one
offset_bounds-changed-one c =
    let changed = c.args.changed.now in
    let places = c.in_ok-places.places.items in
    let items = c.deref-one-items.result.now in
    let is = c.deref-one-items.ensures.value in
    let k = c.loop-one.one-index in
    let low : (get_or items k nothing).place < length changed =
    within changed items k (stays_spot no_spot changed c.args.slots.now (pairs_in changed items) k (pair_of (outpoint_in changed) nothing) c.requires.known (ordered_too changed places items is c.in_ok-places.ensures.ordered)
    (found_too changed places items is c.in_ok-places.ensures.places) (as_many changed items k c.loop-one-test.true)).0 in
    omega (arith, low, c.well_formed)

pub loop-one-preserved : goal.loop-one-preserved
loop-one-preserved c =
    let changed = c.args.changed.now in
    let places = c.in_ok-places.places.items in
    let items = c.deref-one-items.result.now in
    let is = c.deref-one-items.ensures.value in
    let k = c.loop-one.one-index in
    let d : OutPoint × ℕ = pair_of (outpoint_in changed) nothing in
    let pairs = pairs_in changed items in
    let low = as_many changed items k c.loop-one-test.true in
    let ordered = ordered_too changed places items is c.in_ok-places.ensures.ordered in
    let found = found_too changed places items is c.in_ok-places.ensures.places in
    let now : Outputs = rows_of c.args.slots.now in
    let marked : Outputs = undone c.args.before.now changed now in
    let at : OutPoint = (get_or pairs k d).0 in
    let place : (get_or pairs k d).1 ≡ (get_or items k nothing).place = ap (λ (p : OutPoint × ℕ). p.1) (pair_is changed items k nothing) in
    let spot = stays_spot no_spot changed c.args.slots.now pairs k d c.requires.known ordered found low in
    let same : (get_or changed (get_or items k nothing).place no_spot).at ≡ at = sym (outpoint_of_pair no_spot changed items k nothing (within changed items k spot.0)) in
    let stood : option_copied c.row_before-stood.result ≡ get marked at =
    c.row_before-stood.ensures ∙ sym (ap (λ (n : ℕ). get_or c.args.before.now n None) place) ∙ stays_stood c.args.before.now changed now pairs k d c.requires.paired ordered found low in
    let stands : option_copied c.row-stands.result ≡ get now at =
    c.row-stands.ensures.row at (sym (ap (λ (n : ℕ). outpoint_at c.args.slots.now (get_or changed n no_spot).place) place) ∙ spot.1) in
    let was = option_copied c.row_before-stood.result in
    let is_now = option_copied c.row-stands.result in record {
      gone = one_more (gone_at marked now) c.loop-one.gone c.push_unless.new.rows _ pairs k d (row_unless was is_now) low
          (λ i. row_unless (stood i) (stands i)) (c.in_ok-push_unless.ensures ∙ ap (λ (q : OutPoint). c.loop-one.gone ++ row_at q (row_unless was is_now)) same) c.loop-one.invariant.gone;
      came = one_more (gone_at now marked) c.loop-one.came c.push_unless-in-loop-one.new.rows _ pairs k d (row_unless is_now was) low
          (λ i. row_unless (stands i) (stood i)) (c.in_ok-push_unless-2.ensures ∙ ap (λ (q : OutPoint). c.loop-one.came ++ row_at q (row_unless is_now was)) same) c.loop-one.invariant.came;
    }

pub returns : goal.returns
returns c =
    let changed = c.args.changed.now in
    let places = c.in_ok-places.places.items in
    let items = c.deref-one-items.result.now in
    let is = c.deref-one-items.ensures.value in
    let k = c.loop-one.one-index in
    let pairs = pairs_in changed items in
    let high : length pairs ≤ k = omega (arith, c.loop-one-test.false, pairs_count changed items) in
    let ordered = ordered_too changed places items is c.in_ok-places.ensures.ordered in
    let found = found_too changed places items is c.in_ok-places.ensures.places in
    let now : Outputs = rows_of c.args.slots.now in
    let marked : Outputs = undone c.args.before.now changed now in
    let stays : (q : OutPoint) → lookup (is_at (outpoint_cmp q)) pairs ≡ None → get marked q ≡ get now q = λ q none. stays_at c.args.before.now changed now q 0 (sym (found q) ∙ none) in
    let gone = all_rows (gone_at marked now) c.loop-one.gone pairs k high c.loop-one.invariant.gone in
    let came = all_rows (gone_at now marked) c.loop-one.came pairs k high c.loop-one.invariant.came in record {
      gone = subst (AreGone marked now) gone (are_gone marked now pairs ordered stays);
      came = subst (AreGone now marked) came (are_gone now marked pairs ordered (λ q none. sym (stays q none)));
    }
