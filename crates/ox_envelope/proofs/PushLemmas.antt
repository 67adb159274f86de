-- Each push of an envelope is a part of the script, but for the constants.
use Rattle.std.proofs.Common.{◌≡◌, ℕ, zero, suc, ◌+◌, Bool, true, false, cond, List, [], ◌∷◌, ◌++◌, length, drop, Some, None, refl, sym, subst, inl, inr}
use Rattle.std.specs.Prelude.{is_some, slice_get}
use Rattle.std.specs.List.{AllByRecursion, filter_map, cons_option}
use Rattle.ox_script.specs.Script.{Instruction, Push, Op, IsPartOf, items_of, is_cut}
use Rattle.ox_envelope.specs.Envelope.{EnvelopePushes, IsPushOf, HasPushesOf, is_number, number_of, bytes_pushed, envelope_of, is_opening, stretch, is_end, envelope_at, envelopes_past, envelopes_among, envelopes}

either : {X : Type 0} (P : X → Type 0) (test : Bool) (first second : X) → P first → P second → P (cond test first second)
either P true first second holds_first holds_second = holds_first
either P false first second holds_first holds_second = holds_second

all_drop : {X : Type 0} (P : X → Type 0) (n : ℕ) (xs : List X) → AllByRecursion P xs → AllByRecursion P (drop n xs)
all_drop P zero xs all = all
all_drop P (suc n) [] all = tt
all_drop P (suc n) (x ∷ xs) all = all_drop P n xs all.1

all_append : {X : Type 0} (P : X → Type 0) (xs ys : List X) → AllByRecursion P xs → AllByRecursion P ys → AllByRecursion P (xs ++ ys)
all_append P [] ys all_xs all_ys = all_ys
all_append P (x ∷ xs) ys all_xs all_ys = (all_xs.0, all_append P xs ys all_xs.1 all_ys)

all_stretch : (script : List ℕ) (items : List Instruction) → AllByRecursion (IsPartOf script) items → AllByRecursion (IsPartOf script) (stretch items)
all_stretch script [] all = tt
all_stretch script (item ∷ items) all =
    either (λ found. AllByRecursion (IsPartOf script) found) (is_some (bytes_pushed item)) (item ∷ stretch items) [] (all.0, all_stretch script items all.1) tt

op_pushes : (script : List ℕ) (op : ℕ) (number : Bool) (pushes : List (List ℕ)) → is_number op ≡ number → AllByRecursion (IsPushOf script) pushes → AllByRecursion (IsPushOf script) (cons_option (cond number (Some (number_of op ∷ [])) None) pushes)
op_pushes script op true pushes is all = (inr (op, is, refl), all)
op_pushes script op false pushes is all = all

all_pushed : (script : List ℕ) (items : List Instruction) → AllByRecursion (IsPartOf script) items → AllByRecursion (IsPushOf script) (filter_map bytes_pushed items)
all_pushed script [] all = tt
all_pushed script (Push bytes ∷ items) all = (inl all.0, all_pushed script items all.1)
all_pushed script (Op op ∷ items) all = op_pushes script op (is_number op) (filter_map bytes_pushed items) refl (all_pushed script items all.1)

all_envelopes : (script : List ℕ) (skipped : ℕ) (items : List Instruction) → AllByRecursion (IsPartOf script) items → AllByRecursion (HasPushesOf script) (envelopes_past skipped items)
all_envelopes script skipped [] all = tt
all_envelopes script (suc skipped) (item ∷ items) all = all_envelopes script skipped items all.1
all_envelopes script zero (item ∷ items) all =
    let inside = drop 2 items in
    let Has : List EnvelopePushes → Type 0 = λ found. AllByRecursion (HasPushesOf script) found in
    let whole = all_pushed script (stretch inside) (all_stretch script inside (all_drop (IsPartOf script) 2 items all.1)) in
    let here : Has (envelope_at inside) = either Has (is_end (slice_get inside (length (stretch inside)))) (envelope_of (stretch inside) ∷ []) [] (whole, tt) tt in
    let later = all_envelopes script (3 + length (stretch inside)) items all.1 in
    let next = all_envelopes script zero items all.1 in
    either Has (is_opening (item ∷ items)) (envelope_at inside ++ envelopes_past (3 + length (stretch inside)) items) (envelopes_past zero items) (all_append (HasPushesOf script) (envelope_at inside) (envelopes_past (3 + length (stretch inside)) items) here later) next

pub all_in_script : (script : List ℕ) → AllByRecursion (IsPartOf script) (items_of script) → AllByRecursion (HasPushesOf script) (envelopes script)
unfolding envelopes_among
all_in_script script parts = either (AllByRecursion (HasPushesOf script)) (is_cut script) [] (envelopes_past 0 (items_of script)) tt (all_envelopes script 0 (items_of script) parts)

pub all_found : (script : List ℕ) (found : List EnvelopePushes) → AllByRecursion (IsPartOf script) (items_of script) → found ≡ envelopes script → AllByRecursion (HasPushesOf script) found
all_found script found parts is = subst (λ (found : List EnvelopePushes). AllByRecursion (HasPushesOf script) found) (sym is) (all_in_script script parts)
