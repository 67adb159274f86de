-- The bytes that are due.
use Rattle.std.specs.Prelude.{ℕ, List, drop}
use Rattle.ox_http.specs.Written.{unavailable}
use Rattle.ox_session.specs.declared.due.Due.{Due}
use Rattle.ox_session.specs.declared.due.Due.TheVariants.{Reply, Unavailable}

abbrev pub due_bytes : Due → List ℕ
due_bytes (Reply bytes) = bytes
due_bytes (Unavailable taken) = drop taken unavailable
