-- Where files stand, before a piece and after it.
use Rattle.std.proofs.Common.{◌≡◌, ◌∙◌, inl, inr, ⊎_elim, ℕ, suc, ◌+◌, ◌==◌, Bool, true, false, List, [], ◌∷◌, ◌++◌, length, refl, sym, ap, subst, arith}
use Rattle.std.specs.Prelude.{◌||◌, not, Option, Some, Result, Ok, Err, if◌then◌else◌}
use Rattle.std.specs.Option.{option_map}
use Rattle.std.specs.Result.{result_ok}
use Rattle.std.proofs.lemmas.List.{length-map}
use Rattle.std.proofs.lemmas.Option.{same_Some}
use Rattle.ox_outside.specs.Files.{Files, file_of}
use Rattle.ox_outside.specs.declared.site.Which.{Which}
use Rattle.ox_gated.specs.Layout.{Whole, layout_of, version_at}
use Rattle.ox_gated.specs.OtherFile.{IsOldOrNew, ReadsNew}
use Rattle.ox_gated.specs.Pick.{Choice, choice_of}
use Rattle.ox_gated.specs.Reading.{Found, Fault, ReadsMore, body_reading, fault_at, gate_behind, is_any, is_led, is_present, reading, reading_by, with_payload}
use Rattle.ox_gated.specs.Tail.{IsBeforeOrAfter, Keeps, KeepsFound, Kept}
use Rattle.ox_gated.specs.declared.records.Record.{Record}
use Rattle.ox_model.specs.Stack.{Stack}
use Rattle.ox_files.specs.Payload.{payload_step}
use Rattle.ox_files.specs.Stands.{Misfit, in_file, stack_in, stack_in_file, stands}
use Rattle.ox_files.proofs.FilesOfStacks.{stands_more}
use Rattle.ox_follow.specs.Position.{next_place, start_of}
use Rattle.ox_follow.specs.World.{Stood, stood}
use Rattle.ox_pieces.specs.Follower.{position_of}
use Rattle.ox_pieces.specs.Stood.{leader_by, leader_of, led_reading, led_stands, payloads_of, stood_in}
use Rattle.ox_pieces.specs.Writing.{StandsEither}

abbrev stood_by : Result Found Fault → Option (Stood Stack)
stood_by found = option_map stood (leader_by found)

-- ---- one file

-- what a current file stands for
abbrev of_stack : Found → Result Stack ℕ → Option (Stood Stack)
of_stack found read = option_map stood (option_map (leader_of found.head found.body found.records) (result_ok read))

stood_at : Found → Stack → Stood Stack
stood_at found stack = record { at = record { generation = found.head.generation; place = length (payloads_of found.records) }; state = stack }

same_stood : (found : Found) (read : Result Stack ℕ) (mine : Stood Stack) → of_stack found read ≡ Some mine → (read ≡ Ok mine.state) × (mine.at ≡ record { generation = found.head.generation; place = length found.records })
same_stood found (Err place) mine is = absurd (cc is)
same_stood found (Ok stack) mine is =
    let same = same_Some (stood (leader_of found.head found.body found.records stack)) mine is in (
      (λ i. Ok (same i).state),
      ap (λ (m : Stood Stack). m.at) (sym same) ∙ (λ i. record { generation = found.head.generation; place = length-map found.records (λ (one : Record). one.payload) i }),
    )

-- a current file whose stack is this one
pub stood_so : (found : Found) (stack : Stack) → stack_in_file found.head found.body found.records ≡ Ok stack
    → stood_by (Ok found) ≡ Some (record { at = record { generation = found.head.generation; place = length found.records }; state = stack })
stood_so found stack is =
    ap (of_stack found) is
    ∙ (λ i. Some (record { at = record { generation = found.head.generation; place = length-map found.records (λ (one : Record). one.payload) i }; state = stack }))

-- where it stands, and what for
stood_of : (found : Result Found Fault) (mine : Stood Stack) → stood_by found ≡ Some mine → stack_in found ≡ Ok mine.state
stood_of (Err fault) mine is = absurd (cc is)
stood_of (Ok found) mine is = ap (in_file found.file) (same_stood found (stack_in_file found.head found.body found.records) mine is).0

-- what stands for something somewhere stands for it
pub stands_for_stood : (files : Files) (mine : Stood Stack) → stood_in files ≡ Some mine → led_stands files ≡ Ok mine.state
stands_for_stood files mine is = stood_of (led_reading files) mine is

-- ---- the version

-- what stands for nothing isn't led
pub none_led : (files : Files) (misfit : Misfit) → stands files ≡ Err misfit → (other : Misfit) × (led_stands files ≡ Err other)
none_led files misfit = by (choice_of files.a files.b)
  where
    of_version : (two three : Bool) (file : Which) (body : Result Found Fault) → stack_in (if not (two || three) then fault_at file version_at else body) ≡ Err misfit
        → (other : Misfit) × (stack_in (if not two then fault_at file version_at else body) ≡ Err other)
    of_version true three file body is = (misfit, is)
    of_version false three file body is = (record { file = file; at = version_at }, refl)

    by : (choice : Choice) → stack_in (reading_by is_present files choice) ≡ Err misfit → (other : Misfit) × (stack_in (reading_by is_led files choice) ≡ Err other)
    by (Err fault) is = (misfit, is)
    by (Ok choice) is = of_version (choice.1.head.version == 2) (choice.1.head.version == 3) choice.0 (body_reading choice.0 (file_of files choice.0) choice.1) is

-- ---- the tail

behind_version : (read : Bool) (file : Which) (body : Result Found Fault) (found : Found) → (if not read then fault_at file version_at else body) ≡ Ok found → body ≡ Ok found
behind_version true file body found is = is
behind_version false file body found is = absurd (cc is)

-- what is led is read whichever version it has
read_as_any : (files : Files) (found : Found) → reading is_led files ≡ Ok found → reading is_any files ≡ Ok found
read_as_any files found is = by (choice_of files.a files.b) is
  where
    by : (choice : Choice) → reading_by is_led files choice ≡ Ok found → reading_by is_any files choice ≡ Ok found
    by (Err fault) is = absurd (cc is)
    by (Ok choice) is = behind_version (is_led choice.1.head.version) choice.0 (body_reading choice.0 (file_of files choice.0) choice.1) found is

at_found : (tail : Kept) (files : Files) (mine : Stood Stack) (read : Result Found Fault) → reading is_led files ≡ read → Keeps tail (reading is_any files) → stood_by read ≡ Some mine
    → mine.at ≡ position_of tail
at_found tail files mine (Err fault) same keeps is = absurd (cc is)
at_found tail files mine (Ok found) same keeps is =
    let kept : KeepsFound tail found = subst (λ (r : Result Found Fault). Keeps tail r) (read_as_any files found same) keeps in
    (same_stood found (stack_in_file found.head found.body found.records) mine is).1
    ∙ (λ i. record { generation = (sym kept.head i).generation; place = sym kept.records i })

stands_at : (tail : Kept) (files : Files) (mine : Stood Stack) → Keeps tail (reading is_any files) → stood_in files ≡ Some mine → mine.at ≡ position_of tail
stands_at tail files mine keeps is = at_found tail files mine (led_reading files) refl keeps is

-- files that are opened, which stay as they are
pub opened_there : (tail : Kept) (old new : Files) (found : Found) (stack : Stack) (mine : Stood Stack) → new ≡ old → Keeps tail (reading is_any new) → led_reading old ≡ Ok found
    → stack_in_file found.head found.body found.records ≡ Ok stack → mine.at ≡ position_of tail → mine.state ≡ stack → stood_in old ≡ Some mine
opened_there tail old new found stack mine same keeps is stands at state =
    let there : Stood Stack = record { at = record { generation = found.head.generation; place = length found.records }; state = stack } in
    let stood : stood_in old ≡ Some there = ap stood_by is ∙ stood_so found stack stands in
    let here : there.at ≡ mine.at = stands_at tail old there (subst (λ (f : Files). Keeps tail (reading is_any f)) same keeps) stood ∙ sym at in
    stood ∙ (λ i. Some (record { at = here i; state = sym state i }))

-- ---- one record more

in_file_ok : {X : Type 0} (file : Which) (r : Result X ℕ) (x : X) → in_file file r ≡ Ok x → r ≡ Ok x
in_file_ok file (Ok y) x is = cc is
in_file_ok file (Err at) x is = absurd (cc is)

one_more : (records : List Record) (one : Record) → length (records ++ one ∷ []) ≡ suc (length records)
one_more [] one = refl
one_more (first ∷ records) one = ap suc (one_more records one)

-- files with one record more
stood_more : (payload : List ℕ) (read : Result Found Fault) (before : Stood Stack) (after : Stack) → stood_by read ≡ Some before → payload_step before.state payload ≡ Some after
    → stood_by (with_payload payload read) ≡ Some (record { at = next_place before.at; state = after })
stood_more payload (Err fault) before after is leads = absurd (cc is)
stood_more payload (Ok found) before after is leads =
    let one : Record = record { place = found.gate; payload = payload } in
    let more : Found = record found { records = found.records ++ one ∷ []; gate = gate_behind (layout_of found.head.version) found.gate payload } in
    let at = (same_stood found (stack_in_file found.head found.body found.records) before is).1 in
    stood_so more after (in_file_ok found.file (stack_in_file found.head found.body (found.records ++ one ∷ [])) after (stands_more (Ok found) payload before.state after (stood_of (Ok found) before is) leads))
    ∙ (λ i. Some (record { at = record { generation = found.head.generation; place = one_more found.records one i }; state = after }))
    ∙ (λ i. Some (record { at = next_place (sym at i); state = after }))

pub next_position : (old new : Kept) → new.head ≡ old.head → new.records ≡ old.records + 1 → position_of new ≡ next_place (position_of old)
next_position old new head records =
    let place : new.records ≡ suc old.records = omega (arith, records) in
    λ i. record { generation = (head i).generation; place = place i }

-- ---- a piece

-- a step behind the files of a tail
pub appended : (tail : Kept) (payload : List ℕ) (old new : Files) (before : Stood Stack) (after : Stack) → Keeps tail (reading is_any old) → stood_in old ≡ Some before
    → payload_step before.state payload ≡ Some after → ReadsMore payload old new
    → stood_in new ≡ Some (record { at = next_place (position_of tail); state = after })
appended tail payload old new before after keeps is leads more =
    let at : before.at ≡ position_of tail = stands_at tail old before keeps is in
    ap stood_by (more is_led)
    ∙ stood_more payload (led_reading old) before after is leads
    ∙ (λ i. Some (record { at = next_place (at i); state = after }))

pub appended_or_not : (tail : Kept) (payload : List ℕ) (old image : Files) (before : Stood Stack) (after : Stack) → Keeps tail (reading is_any old) → stood_in old ≡ Some before
    → payload_step before.state payload ≡ Some after → IsBeforeOrAfter payload old image → StandsEither before (record { at = next_place (position_of tail); state = after }) image
appended_or_not tail payload old image before after keeps is leads = ⊎_elim
    (λ alike. inl (ap stood_by (alike is_led) ∙ is))
    (λ more. inr (appended tail payload old image before after keeps is leads more))

-- a base in place of the current file
pub turned : (file : Which) (whole : Whole) (new : Files) (after : Stack) → whole.head.version ≡ 2 → stack_in_file whole.head whole.body [] ≡ Ok after → ReadsNew file whole new
    → stood_in new ≡ Some (record { at = start_of whole.head.generation; state = after })
turned file whole new after two leads reads =
    ap stood_by (reads is_led (ap is_led two))
    ∙ ap (λ (r : Result Stack ℕ). option_map stood (option_map (leader_of whole.head whole.body []) (result_ok r))) leads

pub turned_or_not : (file : Which) (whole : Whole) (old image : Files) (before : Stood Stack) (after : Stack) → whole.head.version ≡ 2 → stood_in old ≡ Some before → stack_in_file whole.head whole.body [] ≡ Ok after
    → IsOldOrNew file whole old image → StandsEither before (record { at = start_of whole.head.generation; state = after }) image
turned_or_not file whole old image before after two is leads = ⊎_elim
    (λ alike. inl (ap stood_by (alike is_led) ∙ is))
    (λ new. inr (turned file whole image after two leads new))
