-- What a crash at a chosen moment makes of a site in memory.
use Rattle.std.specs.Prelude.{ℕ, List, ◌++◌, take}
use Rattle.ox_outside.specs.Crash.{Remains}
use Rattle.ox_outside.specs.Disk.{image_with}
use Rattle.ox_outside.specs.declared.site.Which.{Which}
use Rattle.ox_outside.specs.declared.site.Which.TheVariants.{A, B}
use Rattle.ox_memsite.specs.World.{World, first_site, disk_of, events_of, seen_of, log_of}
use Rattle.ox_memsite.specs.declared.crash.Choice.{Choice}

-- The file as it was then, each byte that a crash may change being `fill`, and cut to `keep` bytes
-- as far as may be.
abbrev pub crashed_file : World → Choice → Which → List ℕ
crashed_file w choice which =
    image_with choice.fill choice.keep (disk_of w.first (take choice.moment w.steps) which)

-- A new site over these files, all of them on the disk, with the log of that moment. Its links have
-- nothing more to say.
abbrev pub site_after_crash : Choice → World → World
site_after_crash choice w =
    first_site (crashed_file w choice A) (crashed_file w choice B)
    (w.past ++ events_of (take choice.moment w.steps))

-- what is read of a site, and its log
abbrev pub remains_of : World → Remains
remains_of w = record { files = seen_of w; log = log_of w }
