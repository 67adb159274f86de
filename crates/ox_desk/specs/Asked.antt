-- What is asked of a stack, and of a machine.
use Rattle.std.specs.Prelude.{ℕ, ◌-◌, length, take}
use Rattle.ox_asof.specs.AskedKept.{AskedKept}
use Rattle.ox_replies.specs.Asked.{Asked}
use Rattle.ox_model.specs.Machine.{Machine, chain_index, older_of}
use Rattle.ox_model.specs.Stack.{Stack}

-- what is asked of the index of a stack
abbrev pub now_on : Stack → Asked
now_on stack = record {
  profile = stack.profile;
  index = stack.index;
  depth = stack.depth;
  kept = length stack.older;
}

-- what is asked of a stack
abbrev pub asked_on : Stack → AskedKept
asked_on stack = record { first = now_on stack; older = stack.older }

-- what is asked of the chain of a machine: fresh indexing of its blocks
abbrev pub now_in : Machine → Asked
now_in machine = record {
  profile = machine.profile;
  index = chain_index machine;
  depth = machine.depth;
  kept = machine.kept;
}

-- what is asked of a machine: fresh indexing of its blocks, and of them without the last one, the
-- last two, and so on, as many as are kept
abbrev pub asked_in : Machine → AskedKept
asked_in machine = record {
  first = now_in machine;
  older = older_of machine.profile machine.kept machine.blocks;
}

-- a machine without its last blocks, so many, so that as many fewer are kept
abbrev pub without_last : Machine → ℕ → Machine
without_last machine count = record machine {
  blocks = take (length machine.blocks - count) machine.blocks;
  kept = machine.kept - count;
}
