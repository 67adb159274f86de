-- How often calls on each channel have failed.
use Rattle.std.specs.Prelude.{ℕ, ◌==◌, if◌then◌else◌}

-- the count of channel 0, and one of all links
abbrev pub faults_of : ℕ → ℕ → ℕ → ℕ
faults_of own links channel = if channel == 0 then own else links
