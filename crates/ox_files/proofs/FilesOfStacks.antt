-- What files stand for where they have no record and where one more is appended, and what holds of the stack that they stand for.
use Rattle.std.proofs.Common.{◌≡◌, ◌∙◌, ℕ, ◌≤◌, List, [], ◌∷◌, ◌++◌, length, take, ap, arith, refl, subst, sym}
use Rattle.std.specs.Prelude.{All, Bool, true, false, ◌&&◌, ◌==◌, Option, Some, None, Result, Ok, Err, if◌then◌else◌, nat_le}
use Rattle.std.specs.Result.{result_ok}
use Rattle.std.proofs.Math.Nat.{min-le_left}
use Rattle.std.proofs.lemmas.Bool.{and_parts, leb-true}
use Rattle.std.proofs.lemmas.List.{length-take}
use Rattle.std.proofs.lemmas.List.Elements.{All-cons, All-nil, All-tail, All-take}
use Rattle.std.proofs.lemmas.Option.{same_Some}
use Rattle.ox_bytes.specs.Reading.{◌>>=◌}
use Rattle.ox_outside.specs.Files.{Files}
use Rattle.ox_outside.specs.declared.site.Which.{Which}
use Rattle.ox_gated.specs.Layout.{layout_of}
use Rattle.ox_gated.specs.Reading.{Found, Fault, IntactPart, is_present, with_payload, reading}
use Rattle.ox_gated.specs.declared.head.Head.{Head}
use Rattle.ox_gated.specs.declared.records.Record.{Record}
use Rattle.ox_sat.specs.Profiles.{IsProfile, name_at, profile_named}
use Rattle.ox_sat.specs.declared.profiles.Profile.{Profile}
use Rattle.ox_rules.proofs.Conservation.{bind_ok, ok_same}
use Rattle.ox_model.specs.Change.{redone, undone}
use Rattle.ox_model.specs.Ends.{AllEnd, older_by}
use Rattle.ox_model.specs.Index.{Index}
use Rattle.ox_model.specs.Sound.{IsSound}
use Rattle.ox_model.specs.Stack.{Stack, back_to}
use Rattle.ox_model.specs.declared.change.Change.{Change}
use Rattle.ox_plain.specs.Ends.{begins_in}
use Rattle.ox_rows.specs.RowReading.{change_at}
use Rattle.ox_sound.specs.Sound.{sound}
use Rattle.ox_sound.proofs.SoundLemmas.{Decides-sound}
use Rattle.ox_files.specs.Body as bodies
use Rattle.ox_files.specs.Body.{Body, is_kept, leads_down, stack_in_body, stack_of, whole}
use Rattle.ox_files.specs.Payload.{payload_step, stack_back, stack_by_change, with_change}
use Rattle.ox_files.specs.Stands.{or_place, stack_after_records, stack_at_body, stack_in_file, in_file, place_of_cut, stack_in, stands}
use Rattle.ox_files.proofs.DownLemmas.{down_to}

-- ---- one record more

abbrev one_more : Stack → Record → Result Stack ℕ
one_more stack one = or_place one.place (payload_step stack one.payload)

then_one : (r : Result Stack ℕ) (records : List Record) (one : Record)
    → ((next : Stack) → r ≡ Ok next → stack_after_records next (records ++ one ∷ []) ≡ (stack_after_records next records >>= λ last. one_more last one))
    → (r >>= λ next. stack_after_records next (records ++ one ∷ [])) ≡ ((r >>= λ next. stack_after_records next records) >>= λ last. one_more last one)
then_one (Ok next) records one more = more next refl
then_one (Err at) records one more = refl

only_one : (r : Result Stack ℕ) → (r >>= λ next. stack_after_records next []) ≡ r
unfolding stack_after_records
only_one (Ok next) = refl
only_one (Err at) = refl

-- the last of the records is taken behind the others
pub records_more : (stack : Stack) (records : List Record) (one : Record) → stack_after_records stack (records ++ one ∷ []) ≡ (stack_after_records stack records >>= λ last. one_more last one)
unfolding stack_after_records
records_more stack [] one = only_one (one_more stack one)
records_more stack (first ∷ records) one = then_one (one_more stack first) records one (λ next is. records_more next records one)

behind_more : (r : Result Stack ℕ) (records : List Record) (one : Record) (stack new : Stack)
    → (r >>= λ first. stack_after_records first records) ≡ Ok stack → one_more stack one ≡ Ok new → (r >>= λ first. stack_after_records first (records ++ one ∷ [])) ≡ Ok new
behind_more (Ok first) records one stack new is next = records_more first records one ∙ ap (λ (r : Result Stack ℕ). r >>= λ last. one_more last one) is ∙ next
behind_more (Err at) records one stack new is next = absurd (cc is)

in_file_ok : {X : Type 0} (file : Which) (r : Result X ℕ) (x : X) → in_file file r ≡ Ok x → r ≡ Ok x
in_file_ok file (Ok y) x is = cc is
in_file_ok file (Err at) x is = absurd (cc is)

-- files in which a test fails stand for no stack
abbrev err_at : ℕ → Result Stack ℕ
err_at at = Err at

no_cut : (file : Which) (at : ℕ) (r : Result Stack ℕ) (stack : Stack) → in_file file (r >>= λ s. err_at at) ≡ Ok stack → ⊥
no_cut file at (Ok s) stack is = cc is
no_cut file at (Err a) stack is = cc is

no_stack : (file : Which) (at : ℕ) (before : Option IntactPart) (stack : Stack) → in_file file (place_of_cut at before) ≡ Ok stack → ⊥
no_stack file at None stack is = cc is
no_stack file at (Some before) stack is = no_cut file at (stack_in_file before.head before.body before.records) stack is

-- the record of a payload that is accepted
pub stands_more : (found : Result Found Fault) (payload : List ℕ) (stack new : Stack) → stack_in found ≡ Ok stack → payload_step stack payload ≡ Some new
    → stack_in (with_payload payload found) ≡ Ok new
stands_more (Ok found) payload stack new is next =
    ap (in_file found.file)
    (behind_more (stack_at_body found.head found.body) found.records (record { place = found.gate; payload = payload }) stack new
    (in_file_ok found.file (stack_in_file found.head found.body found.records) stack is) (ap (or_place found.gate) next))
stands_more (Err fault) payload stack new is next = absurd (no_stack fault.file fault.at fault.before stack is)

-- ---- no record

-- a body that stands for a stack, and nothing behind it
pub file_turned : (head : Head) (bytes : List ℕ) (stack : Stack) → stack_in_body (profile_named (name_at head.profile)) head.depth bytes ≡ Some stack
    → stack_in_file head bytes [] ≡ Ok stack
file_turned head bytes stack is = only_one (stack_at_body head bytes) ∙ ap (or_place (layout_of head.version).body_at) is

pub stands_turned : (found : Found) (stack : Stack) → found.records ≡ [] → stack_in_body (profile_named (name_at found.head.profile)) found.head.depth found.body ≡ Some stack
    → stack_in (Ok found) ≡ Ok stack
stands_turned found stack none is =
    ap (λ (records : List Record). in_file found.file (stack_in_file found.head found.body records)) none
    ∙ ap (in_file found.file) (file_turned found.head found.body stack is)

-- ---- what holds of the stack

-- a stack of this profile and depth: at most depth many older indexes are kept, and each index is sound
pub record IsStackOf (p : Profile) (most : ℕ) (stack : Stack) : Type 0 where
  pub has_profile : stack.profile ≡ p
  pub has_depth : stack.depth ≡ most
  pub few : length stack.older ≤ stack.depth
  pub each_sound : All (IsSound stack.profile) (stack.index ∷ stack.older)

-- the older indexes of changes that lead down from a sound one
sound_older : (p : Profile) (index : Index) (changes : List Change) → IsSound p index → AllEnd p index changes → All (IsSound p) (index ∷ older_by index changes)
sound_older p index [] is end = All-cons (IsSound p) index [] is (All-nil (IsSound p))
sound_older p index (change ∷ changes) is end =
    All-cons (IsSound p) index (older_by index (change ∷ changes)) is (sound_older p (undone index change) changes end.0.sound end.1)

as_many : (index : Index) (changes : List Change) → length (older_by index changes) ≡ length changes
as_many index [] = refl
as_many index (change ∷ changes) = let rest : length (older_by (undone index change) changes) ≡ length changes = as_many (undone index change) changes in omega (arith, rest)

of_kept : (p : Profile) (depth : ℕ) (kept : Body) → is_kept p depth kept ≡ true → IsStackOf p depth (stack_of p depth kept)
of_kept p depth kept is =
    let parts = and_parts (nat_le (length kept.changes) depth) (leads_down p kept.index kept.changes) is in
    let down = down_to p kept.index kept.changes parts.1 in
    let few : length kept.changes ≤ depth = leb-true (length kept.changes) depth parts.0 in
    let many : length (older_by kept.index kept.changes) ≡ length kept.changes = as_many kept.index kept.changes in
    record {
      has_profile = refl;
      has_depth = refl;
      few = omega (arith, few, many);
      each_sound = sound_older p kept.index kept.changes down.0 down.1;
    }

of_body : (p : Profile) (depth : ℕ) (read : Option Body) (stack : Stack) → bodies.stack_in p depth read ≡ Some stack → IsStackOf p depth stack
of_body p depth None stack is = absurd (cc is)
of_body p depth (Some kept) stack is = by_test (is_kept p depth kept) refl is where
  by_test : (b : Bool) → is_kept p depth kept ≡ b → (if b then Some (stack_of p depth kept) else None) ≡ Some stack → IsStackOf p depth stack
  by_test true passes same = subst (IsStackOf p depth) (same_Some (stack_of p depth kept) stack same) (of_kept p depth kept passes)
  by_test false passes same = absurd (cc same)

-- with the index after a change in front
in_front : (p : Profile) (depth : ℕ) (stack : Stack) (change : Change) → IsStackOf p depth stack → IsSound stack.profile (redone stack.index change) → IsStackOf p depth (with_change stack change)
in_front p depth stack change of is =
    let older = stack.index ∷ stack.older in record {
      has_profile = of.has_profile;
      has_depth = of.has_depth;
      few = subst (λ (n : ℕ). n ≤ stack.depth) (sym (length-take stack.depth older)) (min-le_left stack.depth (length older));
      each_sound = All-cons (IsSound stack.profile) (redone stack.index change) (take stack.depth older) is (All-take (IsSound stack.profile) stack.depth older of.each_sound);
    }

by_change : (p : Profile) (depth : ℕ) (stack new : Stack) (read : Option Change) → IsStackOf p depth stack → stack_by_change stack read ≡ Some new → IsStackOf p depth new
by_change p depth stack new None of is = absurd (cc is)
by_change p depth stack new (Some change) of is = by_test (begins_in stack.index change && sound stack.profile (redone stack.index change)) refl is where
  by_test : (b : Bool) → (begins_in stack.index change && sound stack.profile (redone stack.index change)) ≡ b → (if b then Some (with_change stack change) else None) ≡ Some new → IsStackOf p depth new
  by_test true passes same =
      let parts = and_parts (begins_in stack.index change) (sound stack.profile (redone stack.index change)) passes in
      subst (IsStackOf p depth) (same_Some (with_change stack change) new same)
      (in_front p depth stack change of ((Decides-sound stack.profile (redone stack.index change)).0 parts.1))
  by_test false passes same = absurd (cc same)

without_front : (p : Profile) (depth : ℕ) (stack : Stack) (index : Index) (older : List Index) → IsStackOf p depth stack → stack.older ≡ index ∷ older
    → IsStackOf p depth (record stack { index = index; older = older })
without_front p depth stack index older of is =
    let few : length stack.older ≤ stack.depth = of.few in
    let many : length stack.older ≡ length (index ∷ older) = ap (λ (l : List Index). length l) is in record {
      has_profile = of.has_profile;
      has_depth = of.has_depth;
      few = omega (arith, few, many);
      each_sound = subst (λ (l : List Index). All (IsSound stack.profile) l) is (All-tail (IsSound stack.profile) stack.index stack.older of.each_sound);
    }

by_older : (p : Profile) (depth : ℕ) (stack new : Stack) (older : List Index) → IsStackOf p depth stack → stack.older ≡ older → result_ok (back_to stack older) ≡ Some new → IsStackOf p depth new
by_older p depth stack new [] of all is = absurd (cc is)
by_older p depth stack new (index ∷ older) of all is =
    subst (IsStackOf p depth) (same_Some (record stack { index = index; older = older }) new is) (without_front p depth stack index older of all)

by_back : (p : Profile) (depth : ℕ) (stack new : Stack) (rest : List ℕ) → IsStackOf p depth stack → stack_back stack rest ≡ Some new → IsStackOf p depth new
by_back p depth stack new [] of is = by_older p depth stack new stack.older of refl is
by_back p depth stack new (b ∷ rest) of is = absurd (cc is)

-- a payload that is accepted
pub by_payload : (p : Profile) (depth : ℕ) (stack new : Stack) (payload : List ℕ) → IsStackOf p depth stack → payload_step stack payload ≡ Some new → IsStackOf p depth new
by_payload p depth stack new [] of is = absurd (cc is)
by_payload p depth stack new (kind ∷ rest) of is = by_kind (kind == 1) (kind == 0) is where
  by_kind : (one none : Bool) → (if one then stack_by_change stack (whole (change_at rest)) else if none then stack_back stack rest else None) ≡ Some new → IsStackOf p depth new
  by_kind true none is = by_change p depth stack new (whole (change_at rest)) of is
  by_kind false true is = by_back p depth stack new rest of is
  by_kind false false is = absurd (cc is)

placed : {X : Type 0} (place : ℕ) (o : Option X) (x : X) → or_place place o ≡ Ok x → o ≡ Some x
placed place None x is = absurd (cc is)
placed place (Some y) x is = ap (λ (z : _). Some z) (ok_same {F = ℕ} y x is)

by_records : (p : Profile) (depth : ℕ) (first stack : Stack) (records : List Record) → IsStackOf p depth first → stack_after_records first records ≡ Ok stack → IsStackOf p depth stack
unfolding stack_after_records
by_records p depth first stack [] of is = subst (IsStackOf p depth) (ok_same {F = ℕ} first stack is) of
by_records p depth first stack (one ∷ records) of is =
    let next = bind_ok (one_more first one) (λ next. stack_after_records next records) stack is in
    by_records p depth next.0 stack records (by_payload p depth first next.0 one.payload of (placed one.place (payload_step first one.payload) next.0 next.1)) next.2

-- the stack of a file has the profile and the depth of its head
pub file_stack : (head : Head) (bytes : List ℕ) (records : List Record) (stack : Stack) → stack_in_file head bytes records ≡ Ok stack
    → IsStackOf (profile_named (name_at head.profile)) head.depth stack
file_stack head bytes records stack is =
    let p = profile_named (name_at head.profile) in
    let begun = bind_ok (stack_at_body head bytes) (λ first. stack_after_records first records) stack is in
    by_records p head.depth begun.0 stack records
    (of_body p head.depth (whole (bodies.body_at bytes)) begun.0 (placed (layout_of head.version).body_at (stack_in_body p head.depth bytes) begun.0 begun.1)) begun.2

-- the stack that files stand for is of some head
pub record IsStackOfHead (stack : Stack) : Type 0 where
  pub head : Head
  pub of : IsStackOf (profile_named (name_at head.profile)) head.depth stack

of_found : (found : Result Found Fault) (stack : Stack) → stack_in found ≡ Ok stack → IsStackOfHead stack
of_found (Ok found) stack is =
    record { head = found.head; of = file_stack found.head found.body found.records stack (in_file_ok found.file (stack_in_file found.head found.body found.records) stack is) }
of_found (Err fault) stack is = absurd (no_stack fault.file fault.at fault.before stack is)

pub stands_of_head : (files : Files) (stack : Stack) → stands files ≡ Ok stack → IsStackOfHead stack
stands_of_head files stack is = of_found (reading is_present files) stack is

-- its profile is one of the table
pub stands_for_known : (files : Files) (stack : Stack) → stands files ≡ Ok stack → IsProfile stack.profile
stands_for_known files stack is = let there = stands_of_head files stack is in record { name = name_at there.head.profile; is = there.of.has_profile }

-- at most depth many older indexes are kept
pub stands_for_few : (files : Files) (stack : Stack) → stands files ≡ Ok stack → length stack.older ≤ stack.depth
stands_for_few files stack is = (stands_of_head files stack is).of.few

-- each of its indexes is sound
pub stands_for_sound : (files : Files) (stack : Stack) → stands files ≡ Ok stack → All (IsSound stack.profile) (stack.index ∷ stack.older)
stands_for_sound files stack is = (stands_of_head files stack is).of.each_sound
