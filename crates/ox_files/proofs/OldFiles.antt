-- What old files stand for stays while they are read as before; and the stack that their commands lead to is of the profile and the depth of their head.
use Rattle.std.proofs.Common.{◌≡◌, ◌≢◌, ◌∙◌, ℕ, ◌+◌, ◌==◌, ◌||◌, Bool, true, false, List, [], ◌∷◌, length, take, drop, not, if◌then◌else◌, ap, refl, sym}
use Rattle.std.specs.Prelude.{nat_lt, Option, Some, None, Result, Ok, Err}
use Rattle.std.proofs.lemmas.Bool.{ne_eqb}
use Rattle.ox_outside.specs.Files.{Files, file_of}
use Rattle.ox_outside.specs.declared.site.Which.{Which}
use Rattle.ox_gated.specs.OldReading.{followed_reading, old_reading}
use Rattle.ox_gated.specs.OtherFile.{last_generation}
use Rattle.ox_gated.specs.Pick.{Choice, choice_of}
use Rattle.ox_gated.specs.Layout.{Layout, layout_of}
use Rattle.ox_gated.specs.Reading.{Found, Fault, body_reading, body_reading_at, chain, current_reading, fault_at, found_or_fault, is_old, of_picked, reading, reading_by}
use Rattle.ox_gated.specs.declared.head.Opening.{Opening}
use Rattle.ox_gated.specs.declared.head.Head.{Head}
use Rattle.ox_gated.specs.declared.records.Record.{Record}
use Rattle.ox_gated.proofs.OldReading.{old_is_reading}
use Rattle.ox_sat.specs.Profiles.{name_at, profile_named}
use Rattle.ox_rules.specs.declared.refusal.Refusal.{Refusal}
use Rattle.ox_rules.proofs.Conservation.{bind_ok, ok_same}
use Rattle.ox_feed.specs.declared.command.Command.{Command}
use Rattle.ox_feed.specs.declared.command.Command.TheVariants.{Connect, Disconnect}
use Rattle.ox_model.specs.Index.{Index}
use Rattle.ox_model.specs.Stack.{Stack, back_to, stack_after, with_index}
use Rattle.ox_model.specs.Step.{step}
use Rattle.ox_files.specs.OldStands.{OldFault, command_in, empty_stack_at, old_stack_after, old_stack_after_records, old_stack_by, old_stack_in, old_stack_in_file, old_stands, or_refused}

-- both count by the same profile and keep as many blocks at most
pub record CountsAlike (before after : Stack) : Type 0 where
  pub profile : after.profile ≡ before.profile
  pub depth : after.depth ≡ before.depth

alike_of : (before put after : Stack) → put ≡ after → put.profile ≡ before.profile → put.depth ≡ before.depth → CountsAlike before after
alike_of before put after same profile depth = record {
  profile = sym (ap (λ (s : Stack). s.profile) same) ∙ profile;
  depth = sym (ap (λ (s : Stack). s.depth) same) ∙ depth;
}

alike_then : (first next last : Stack) → CountsAlike first next → CountsAlike next last → CountsAlike first last
alike_then first next last before behind = record {
  profile = behind.profile ∙ before.profile;
  depth = behind.depth ∙ before.depth;
}

alike_connected : (before after : Stack) (r : Result Index Refusal) → with_index before r ≡ Ok after → CountsAlike before after
alike_connected before after (Ok index) is = alike_of before _ after (ok_same {F = Refusal} _ after is) refl refl
alike_connected before after (Err refusal) is = absurd (cc is)

alike_back : (before after : Stack) (older : List Index) → back_to before older ≡ Ok after → CountsAlike before after
alike_back before after [] is = absurd (cc is)
alike_back before after (index ∷ older) is = alike_of before _ after (ok_same {F = Refusal} _ after is) refl refl

alike_after : (before after : Stack) (command : Command) → stack_after before command ≡ Ok after → CountsAlike before after
alike_after before after (Connect block) is = alike_connected before after (step before.profile before.index block) is
alike_after before after Disconnect is = alike_back before after before.older is

not_refused : (number : ℕ) (r : Result Stack Refusal) (after : Stack) → or_refused number r ≡ Ok after → r ≡ Ok after
not_refused number (Ok stack) after is = ap Ok (ok_same {F = OldFault ℕ} stack after is)
not_refused number (Err refusal) after is = absurd (cc is)

alike_by : (number place : ℕ) (before after : Stack) (command : Option Command) → old_stack_by number place before command ≡ Ok after → CountsAlike before after
alike_by number place before after None is = absurd (cc is)
alike_by number place before after (Some command) is = alike_after before after command (not_refused number (stack_after before command) after is)

alike_behind : (number : ℕ) (before after : Stack) (records : List Record) → old_stack_after_records number before records ≡ Ok after → CountsAlike before after
unfolding old_stack_after_records
alike_behind number before after [] is = alike_of before before after (ok_same {F = OldFault ℕ} before after is) refl refl
alike_behind number before after (one ∷ records) is =
    let next = bind_ok (old_stack_after number before one) (λ next. old_stack_after_records (number + 1) next records) after is in
    alike_then before next.0 after (alike_by number one.place before next.0 (command_in one.payload) next.1) (alike_behind (number + 1) next.0 after records next.2)

-- ---- a file

-- a stack counts by the profile of this head, and keeps as many blocks at most as the head says
pub record CountsBy (head : Head) (stack : Stack) : Type 0 where
  pub profile : stack.profile ≡ profile_named (name_at head.profile)
  pub depth : stack.depth ≡ head.depth

pub old_file_counts : (head : Head) (body : List ℕ) (records : List Record) (stack : Stack) → old_stack_in_file head body records ≡ Ok stack → CountsBy head stack
old_file_counts head [] records stack is = let alike = alike_behind 0 (empty_stack_at head) stack records is in record { profile = alike.profile; depth = alike.depth }
old_file_counts head (b ∷ body) records stack is = absurd (cc is)

-- ---- files that are read as before

body_ok : (v : Bool) (file : Which) (body : Result Found Fault) (found : Found) → (if not v then fault_at file 6 else body) ≡ Ok found → body ≡ Ok found
body_ok true file body found is = is
body_ok false file body found is = absurd (cc is)

head_ok : (cut : Bool) (place : ℕ) (file : Which) (head : Head) (body : List ℕ) (records : List Record) (end : Result ℕ ℕ) (found : Found) → (if cut then fault_at file place else found_or_fault file head body records end) ≡ Ok found → found.head ≡ head
head_ok true place file head body records end found is = absurd (cc is)
head_ok false place file head body records (Ok gate) found is = sym (ap (λ (f : Found). f.head) (ok_same {F = Fault} _ found is))
head_ok false place file head body records (Err at) found is = absurd (cc is)

-- the head of what is found in a file of this layout
head_at : (layout : Layout) (file : Which) (bytes : List ℕ) (opening : Opening) (found : Found) → body_reading_at layout file bytes opening ≡ Ok found → found.head ≡ opening.head
head_at layout file bytes opening found is =
    let behind = drop layout.body_at bytes in
    let body = take opening.size behind in
    let records = chain layout opening.head.generation (layout.body_at + opening.size) (drop opening.size behind) in
    head_ok (nat_lt (length bytes) (layout.body_at + opening.size) || not (layout.is_body (take layout.body_at bytes) body)) layout.body_at file opening.head body records.records records.end found is

lesser : (v last : Bool) (file : Which) (body : Result Found Fault) (found : Found) → last ≡ false → (if not v then fault_at file 6 else body) ≡ Ok found → (if not v then fault_at file 6 else if last then fault_at file 10 else body) ≡ Ok found
lesser true true file body found not_last is = absurd (cc not_last)
lesser true false file body found not_last is = is
lesser false last file body found not_last is = absurd (cc is)

current_is_followed : (file : Which) (bytes : List ℕ) (opening : Opening) (found : Found) → current_reading is_old file bytes opening ≡ Ok found → found.head.generation ≢ last_generation → followed_reading file bytes opening ≡ Ok found
current_is_followed file bytes opening found is not_last =
    let there = body_ok (is_old opening.head.version) file (body_reading file bytes opening) found is in
    let same = head_at (layout_of opening.head.version) file bytes opening found there in
    lesser (is_old opening.head.version) (opening.head.generation == last_generation) file (body_reading file bytes opening) found
    (ne_eqb opening.head.generation last_generation (λ e. not_last (ap (λ (h : Head). h.generation) same ∙ e))) is

-- what the plain reading finds, of a generation that another one can follow, the old one finds
pub reading_is_old : (files : Files) (found : Found) → reading is_old files ≡ Ok found → found.head.generation ≢ last_generation → old_reading files ≡ Ok found
reading_is_old files found is not_last = by (choice_of files.a files.b) is
  where
    by : (choice : Choice) → reading_by is_old files choice ≡ Ok found → of_picked followed_reading files choice ≡ Ok found
    by (Err fault) is = absurd (cc is)
    by (Ok choice) is = current_is_followed choice.0 (file_of files choice.0) choice.1 found is not_last

-- files that are read as these stand for what these stand for
pub old_stands_alike : (files image : Files) (found : Found) → old_reading files ≡ Ok found → found.head.generation ≢ last_generation → reading is_old image ≡ reading is_old files → old_stands image ≡ old_stands files
old_stands_alike files image found is not_last alike =
    ap old_stack_in (reading_is_old image found (alike ∙ old_is_reading files found is) not_last ∙ sym is)
