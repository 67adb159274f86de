-- Satoshis that each stand in one place.
use Rattle.std.specs.Prelude.{ℕ, ◌+◌, ◌<◌, ◌^◌, Bool, ◌&&◌, List, [], ◌∷◌, ◌==◌, nat_lt}
use Rattle.std.specs.List.{list_all}
use Rattle.ox_range.specs.Numbers.{numbers_from}
use Rattle.ox_range.specs.declared.runs.Run.{Run}
use Rattle.ox_rules.specs.Outputs.{times}

-- each number below a bound stands in the list once, and no other does
unfoldable pub stand_once : ℕ → List ℕ → Bool
stand_once bound sats =
    list_all (λ sat. nat_lt sat bound) sats
    && list_all (λ sat. times sat sats == 1) (numbers_from 0 bound)

-- the first run begins at a number, each next where the one before ends, and the last ends at
-- another number; without runs both are the same
unfoldable pub tiles : ℕ → List Run → ℕ → Bool
tiles from [] end = from == end
tiles from (run ∷ runs) end = (run.first == from) && tiles (from + run.count) runs end

-- a run of some numbers, all of 64 bits
pub record IsRun (run : Run) : Type 0 where
  pub some : 0 < run.count
  pub fits : run.first + run.count < 2 ^ 64
