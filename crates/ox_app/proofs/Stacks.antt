-- Some stack, for a run that logged nothing: whatever it is, its answers are none.
use Rattle.ox_model.specs.Machine.{empty_machine, stack_of}
use Rattle.ox_model.specs.Stack.{Stack}
use Rattle.ox_sat.specs.Profiles.{profile_named}
use Rattle.ox_sat.specs.declared.profiles.ProfileName.TheVariants.{Regtest}

unfoldable pub any_stack : Stack
any_stack = stack_of (empty_machine (profile_named Regtest) 1)
