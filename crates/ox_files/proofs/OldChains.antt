-- The commands of the records of files of version 1, and the stack that they lead to.
use Rattle.std.proofs.Common.{◌≡◌, ◌∙◌, ℕ, suc, ◌+◌, List, [], ◌∷◌, length, map, refl, sym, ap}
use Rattle.std.specs.Prelude.{Option, Some, None, Result, Ok, Err}
use Rattle.ox_bytes.specs.Reading.{◌>>=◌}
use Rattle.ox_outside.specs.Files.{Files}
use Rattle.ox_outside.specs.declared.site.Which.{Which}
use Rattle.ox_gated.specs.OldReading.{old_reading}
use Rattle.ox_gated.specs.Reading.{Found, Fault, IntactPart}
use Rattle.ox_gated.specs.declared.head.Head.{Head}
use Rattle.ox_gated.specs.declared.records.Record.{Record}
use Rattle.ox_feed.specs.declared.command.Command.{Command}
use Rattle.ox_rules.specs.declared.refusal.Refusal.{Refusal}
use Rattle.ox_rules.proofs.Conservation.{bind_ok, ok_same}
use Rattle.ox_model.specs.Replies.{after_by, after_turn, after_commands_on}
use Rattle.ox_model.specs.Stack.{Stack, stack_after}
use Rattle.ox_model.proofs.AnswersOfStacks.{commands_alike}
use Rattle.ox_files.specs.OldChains.{command_at, first_machine, HaveChain}
use Rattle.ox_files.specs.OldStands.{OldFault, IllFormed, Refused, or_refused, old_stack_by, old_stack_after, old_stack_after_records, old_stack_in_file, old_fault_of_cut, old_in_file, with_count, old_stack_in, old_stands, empty_stack_at}
use Rattle.ox_files.specs.Stands.{Misfit}

-- ---- one record

accepted : (number : ℕ) (r : Result Stack Refusal) (next : Stack) → or_refused number r ≡ Ok next → r ≡ Ok next
accepted number (Ok stack) next is = ap (λ (s : Stack). Ok s) (ok_same {F = OldFault ℕ} stack next is)
accepted number (Err refusal) next is = absurd (cc is)

of_command : (number place : ℕ) (start next : Stack) (o : Option Command) → old_stack_by number place start o ≡ Ok next → (command : Command) × (o ≡ Some command) × (stack_after start command ≡ Ok next)
of_command number place start next None is = absurd (cc is)
of_command number place start next (Some command) is = (command, refl, accepted number (stack_after start command) next is)

-- ---- records

-- so many commands, one for each record, lead from one stack to the other
record Lead (start stack : Stack) (records : List Record) : Type 0 where
  commands : List Command
  are_those : map command_at records ≡ map Some commands
  count : length commands ≡ length records
  leads : after_commands_on start commands ≡ stack

lead : (number : ℕ) (start stack : Stack) (records : List Record) → old_stack_after_records number start records ≡ Ok stack → Lead start stack records
unfolding old_stack_after_records after_by
lead number start stack [] is = record { commands = []; are_those = refl; count = refl; leads = ok_same {F = OldFault ℕ} start stack is }
lead number start stack (one ∷ records) is =
    let next = bind_ok (old_stack_after number start one) (λ next. old_stack_after_records (number + 1) next records) stack is in
    let first = of_command number one.place start next.0 (command_at one) next.1 in
    let rest = lead (number + 1) next.0 stack records next.2 in
    record {
      commands = first.0 ∷ rest.commands;
      are_those = (λ i. first.1 i ∷ rest.are_those i);
      count = ap (λ (n : ℕ). suc n) rest.count;
      leads = ap (λ (r : Result Stack Refusal). after_commands_on (after_turn start r) rest.commands) first.2 ∙ rest.leads;
    }

-- ---- files

abbrev given : Stack × ℕ → Result (Stack × ℕ) (OldFault Misfit)
given two = Ok two

in_file_ok : (file : Which) (r : Result (Stack × ℕ) (OldFault ℕ)) (two : Stack × ℕ) → old_in_file file r ≡ given two → r ≡ Ok two
in_file_ok file (Ok x) two is = ap (λ (x : Stack × ℕ). Ok x) (ok_same {F = OldFault Misfit} x two is)
in_file_ok file (Err (IllFormed at)) two is = absurd (cc is)
in_file_ok file (Err (Refused command refusal)) two is = absurd (cc is)

counted_ok : (many : ℕ) (r : Result Stack (OldFault ℕ)) (two : Stack × ℕ) → with_count many r ≡ Ok two → (r ≡ Ok two.0) × (many ≡ two.1)
counted_ok many (Ok stack) two is =
    let same : (stack, many) ≡ two = ok_same {F = OldFault ℕ} (stack, many) two is in
    let first : ◌≡◌ {A = Result Stack (OldFault ℕ)} (Ok stack) (Ok two.0) = ap (λ (x : Stack × ℕ). Ok x.0) same in
    (first, ap (λ (x : Stack × ℕ). x.1) same)
counted_ok many (Err fault) two is = absurd (cc is)

abbrev err_at : ℕ → Result (Stack × ℕ) (OldFault ℕ)
err_at at = Err (IllFormed at)

cut_by : (at : ℕ) (r : Result Stack (OldFault ℕ)) (two : Stack × ℕ) → (r >>= λ stack. err_at at) ≡ Ok two → ⊥
cut_by at (Ok stack) two is = cc is
cut_by at (Err fault) two is = cc is

no_cut : (at : ℕ) (before : Option IntactPart) (two : Stack × ℕ) → old_fault_of_cut at before ≡ Ok two → ⊥
no_cut at None two is = cc is
no_cut at (Some before) two is = cut_by at (old_stack_in_file before.head before.body before.records) two is

in_body : (head : Head) (body : List ℕ) (records : List Record) (stack : Stack) → old_stack_in_file head body records ≡ Ok stack → Lead (empty_stack_at head) stack records
in_body head [] records stack is = lead 0 (empty_stack_at head) stack records is
in_body head (b ∷ body) records stack is = absurd (cc is)

have_by : (files : Files) (stack : Stack) (many : ℕ) (r : Result Found Fault) → old_reading files ≡ r → old_stack_in r ≡ Ok (stack, many) → HaveChain files stack many
have_by files stack many (Ok found) reads is =
    let two = counted_ok (length found.records) (old_stack_in_file found.head found.body found.records) (stack, many) (in_file_ok found.file _ (stack, many) is) in
    let led = in_body found.head found.body found.records stack two.0 in
    record {
      found = found;
      reads = reads;
      commands = led.commands;
      are_those = led.are_those;
      count = led.count ∙ two.1;
      stack_is = sym (commands_alike (first_machine found.head) led.commands ∙ led.leads);
    }
have_by files stack many (Err fault) reads is = absurd (no_cut fault.at fault.before (stack, many) (in_file_ok fault.file _ (stack, many) is))

pub have_chain : (files : Files) (stack : Stack) (many : ℕ) → old_stands files ≡ Ok (stack, many) → HaveChain files stack many
have_chain files stack many is = have_by files stack many (old_reading files) refl is
