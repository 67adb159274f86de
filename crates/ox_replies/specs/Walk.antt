-- How the inscriptions on consecutive satoshis are walked: from one satoshi that bears some to the
-- next.
use Rattle.std.specs.Prelude.{ℕ, ◌+◌, ◌-◌, List, [], ◌++◌, Option, Some, None, nat_lt}
use Rattle.std.specs.Prelude.{if◌then◌else◌}
use Rattle.std.specs.List.{flat_map}
use Rattle.ox_range.specs.Numbers.{numbers_from}
use Rattle.ox_inscribe.specs.Inscriptions.{on}
use Rattle.ox_inscribe.specs.declared.row.InsRow.{InsRow}

-- the sequences of the inscriptions on the satoshis from one up to another, without that
abbrev pub on_between : List InsRow → ℕ → ℕ → List ℕ
on_between rows first end = flat_map (on rows) (numbers_from first (end - first))

-- the same from the next satoshi on that bears some
abbrev pub walk_of : List InsRow → ℕ → Option (ℕ × List ℕ) → List ℕ
walk_of rows end None = []
walk_of rows end (Some next) =
    if nat_lt next.0 end then next.1 ++ on_between rows (next.0 + 1) end else []
