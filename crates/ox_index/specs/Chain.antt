-- What a chain in memory shows.
use Rattle.std.specs.Prelude.{Option}
use Rattle.ox_model.specs.Ends.{older_by}
use Rattle.ox_model.specs.Stack.{Stack}
use Rattle.ox_model.specs.declared.change.Change.{Change}
use Rattle.ox_index.specs.Earlier.{stack_then}
use Rattle.ox_index.specs.Live.{index_in, marked_in, profile_in}
use Rattle.ox_index.specs.declared.chain.Chain.{Chain}

-- its stack, of which the older indexes are had by undoing the changes that are kept
abbrev pub stack_in : Chain → Stack
stack_in chain = record {
  profile = profile_in chain.live;
  depth = chain.depth;
  index = index_in chain.live;
  older = older_by (index_in chain.live) chain.changes.kept;
}

-- the stack that `cancel` gives, where there is one
abbrev pub earlier_in : Chain → Option Stack
earlier_in chain =
    stack_then (profile_in chain.live) chain.depth (marked_in chain.live) chain.changes.before

-- the change of the block that the last command took back
abbrev pub taken_back_in : Chain → Option Change
taken_back_in chain = chain.changes.taken_back
