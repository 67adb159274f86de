-- Commands leave the profile as it is.
use Rattle.std.proofs.Common.{◌≡◌, ◌∙◌, List, [], ◌∷◌, Result, Ok, Err, refl}
use Rattle.ox_feed.specs.declared.command.Command.{Command}
use Rattle.ox_feed.specs.declared.command.Command.TheVariants.{Connect, Disconnect}
use Rattle.ox_rules.specs.declared.refusal.Refusal.{Refusal}
use Rattle.ox_model.specs.Index.{Index}
use Rattle.ox_model.specs.Replies.{after_by, after_commands_on, after_turn}
use Rattle.ox_model.specs.Stack.{Stack, back_to, with_index}
use Rattle.ox_model.specs.Step.{step}
use Rattle.ox_drill.specs.InTurn.{after_command}

one_kept : (stack : Stack) (command : Command) → (after_command stack command).profile ≡ stack.profile
one_kept stack (Connect bytes) = on (step stack.profile stack.index bytes) where
  on : (result : Result Index Refusal) → (after_turn stack (with_index stack result)).profile ≡ stack.profile
  on (Ok index) = refl
  on (Err refusal) = refl
one_kept stack Disconnect = back stack.older where
  back : (older : List Index) → (after_turn stack (back_to stack older)).profile ≡ stack.profile
  back [] = refl
  back (index ∷ older) = refl

pub profile_kept : (stack : Stack) (commands : List Command) → (after_commands_on stack commands).profile ≡ stack.profile
unfolding after_by
profile_kept stack [] = refl
profile_kept stack (command ∷ commands) = profile_kept (after_command stack command) commands ∙ one_kept stack command
