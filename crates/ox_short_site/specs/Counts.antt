-- What a site over another counts.
use Rattle.std.specs.Prelude.{ℕ, ◌+◌}
use Rattle.ox_outside.specs.Counts.{Counts}

-- with so many more failures of calls on a file
abbrev pub with_disk_faults : ℕ → Counts → Counts
with_disk_faults more counts = record counts { disk = counts.disk + more }
