-- The head of a store's file, by the stack of the store.
use Rattle.std.specs.Prelude.{◌≡◌, ◌+◌, IsTrue}
use Rattle.ox_gated.specs.Layout.{is_lawful}
use Rattle.ox_gated.specs.Reading.{is_present}
use Rattle.ox_gated.specs.declared.head.Head.{Head}
use Rattle.ox_sat.specs.Profiles.{name_at, profile_named}
use Rattle.ox_model.specs.Stack.{Stack}

-- The head, of version 2 or 3, names the profile and the depth of this stack.
pub record Names (head : Head) (stack : Stack) : Type 0 where
  pub version : IsTrue (is_present head.version)
  pub lawful : IsTrue (is_lawful head)
  pub profile : profile_named (name_at head.profile) ≡ stack.profile
  pub depth : head.depth ≡ stack.depth

-- the head of the file that takes the place of one with this head: its generation is the next one
abbrev pub next_head : Head → Head
next_head head = record head { generation = head.generation + 1 }
