-- What is asked of a chain whose newest blocks are kept.
use Rattle.std.specs.Prelude.{◌-◌, List, [], ◌∷◌}
use Rattle.ox_model.specs.Ends.{older_by}
use Rattle.ox_model.specs.Index.{Index}
use Rattle.ox_model.specs.declared.change.Change.{Change}
use Rattle.ox_replies.specs.Asked.{Asked}

-- what is asked of a chain, and the indexes of it without its last block, its last two, and so on:
-- one for each kept block
pub record AskedKept : Type 0 where
  pub first : Asked
  pub older : List Index

-- what is asked of these, each with one block less, so that one less is kept
abbrev pub older_asked : Asked → List Index → List Asked
older_asked asked [] = []
older_asked asked (index ∷ older) =
    let before : Asked = record asked { index = index; kept = asked.kept - 1 } in
    before ∷ older_asked before older

-- what is asked of the chain, and of it without its last block, its last two, and so on
abbrev pub all_asked : AskedKept → List Asked
all_asked kept = kept.first ∷ older_asked kept.first kept.older

-- what is asked of a chain whose newest blocks made these changes, the newest first
abbrev pub kept_of : Asked → List Change → AskedKept
kept_of asked changes = record { first = asked; older = older_by asked.index changes }
