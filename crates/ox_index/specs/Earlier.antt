-- The stack before the last command, where a chain can go back to it.
use Rattle.std.specs.Prelude.{ℕ, List, Option, Some, None}
use Rattle.std.specs.Option.{ForSome}
use Rattle.ox_sat.specs.declared.profiles.Profile.{Profile}
use Rattle.ox_model.specs.Change.{IsChange}
use Rattle.ox_model.specs.Ends.{AllEnd, older_by}
use Rattle.ox_model.specs.Index.{Index}
use Rattle.ox_model.specs.Stack.{Stack}
use Rattle.ox_model.specs.declared.change.Change.{Change}
use Rattle.ox_index.specs.Live.{marked_in, profile_in}
use Rattle.ox_index.specs.declared.live.Live.{Live}

-- the stack of an index and of the changes that lead down from it, where there are both
abbrev pub stack_then : Profile → ℕ → Option Index → Option (List Change) → Option Stack
stack_then p depth (Some index) (Some changes) = Some (record {
  profile = p;
  depth = depth;
  index = index;
  older = older_by index changes;
})
stack_then p depth _ _ = None

-- where there are both, each change ends in its index, of which the newest is the one before the
-- last command
abbrev pub EndThen : Live → Option (List Change) → Type 0
EndThen live changes =
    ForSome (marked_in live) (λ index. ForSome changes (AllEnd (profile_in live) index))

-- there is a change, and it leads from one index to another
abbrev pub LeadsBy : Index → Index → Option Change → Type 0
LeadsBy before after None = ⊥
LeadsBy before after (Some change) = IsChange before after change
