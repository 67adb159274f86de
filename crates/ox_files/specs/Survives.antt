-- What a crash leaves of a run over a feed and a store.
use Rattle.std.specs.Prelude.{◌≡◌, ◌⊎◌, ℕ, suc, ◌≤◌, List, take, Ok}
use Rattle.std.specs.List.{concat}
use Rattle.ox_outside.specs.Event.{Event, shown_bytes}
use Rattle.ox_outside.specs.Files.{Files}
use Rattle.ox_outside.specs.Shown.{IsFrontOf}
use Rattle.ox_feed.specs.Feed.{FeedLine}
use Rattle.ox_files.specs.Moments.{acknowledgements_in, count, lines_in}
use Rattle.ox_model.specs.Stack.{Stack}
use Rattle.ox_files.specs.Stands.{stands}

-- Files that survive these events of a run whose lines have these answers and lead to these stacks.
pub record Survives (answers : List FeedLine → List (List ℕ)) (leads : List FeedLine → Stack)
    (events : List Event) (files : Files) : Type 0 where
  -- they stand for the stack after so many of its first lines
  pub kept : ℕ
  pub stands_for : stands files ≡ Ok (leads (take kept (lines_in events)))
  -- which are all whose moment is in the log, or all but the last of them
  pub counted : (count (answers (lines_in events)) events ≡ kept)
      ⊎ (count (answers (lines_in events)) events ≡ suc kept)
  -- each line of whose answer a byte was shown is among them
  pub acknowledged : acknowledgements_in (answers (lines_in events)) events ≤ kept
  -- and no byte was shown but of their answers
  pub shown : IsFrontOf (shown_bytes 0 events) (concat (answers (take kept (lines_in events))))
