-- When the commands of a feed are carried out, by what a run has heard and shown. The moment of a
-- line is the first event of the log after which the line stands whole in what was heard and all
-- answers before its own are wholly shown.
use Rattle.std.specs.Prelude.{ℕ, suc, List, [], ◌∷◌, length, drop, nat_le, if◌then◌else◌}
use Rattle.ox_outside.specs.Event.{Event, heard_bytes, shown_bytes, has_ended}
use Rattle.ox_outside.specs.Shown.{acknowledgements}
use Rattle.ox_feed.specs.Feed.{FeedLine, lines_of}

-- the lines that stand whole in what a run has heard on channel 0
abbrev pub lines_in : List Event → List FeedLine
lines_in log = lines_of (heard_bytes 0 log) (has_ended 0 log)

-- With these answers to the lines that stand whole, and so much shown, of how many lines the moment
-- has come: of the first, and of each other one once the answer before its own is wholly shown.
unfoldable pub moments : List (List ℕ) → List ℕ → ℕ
moments [] shown = 0
moments (answer ∷ answers) shown =
    suc
    (if nat_le (length answer) (length shown)
    then moments answers (drop (length answer) shown) else 0)

-- the number of commands, accepted or refused, whose moment is in a log
abbrev pub count : List (List ℕ) → List Event → ℕ
count answers log = moments answers (shown_bytes 0 log)

-- the number of commands of whose answer a byte is in a log
abbrev pub acknowledgements_in : List (List ℕ) → List Event → ℕ
acknowledgements_in answers log = acknowledgements answers (shown_bytes 0 log)
