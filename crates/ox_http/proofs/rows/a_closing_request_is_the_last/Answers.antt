-- Computed.
use Rattle.std.proofs.Common.{refl}
use Rattle.ox_http.proofs.Computed.{http_on_literals}
use Rattle.ox_http.proofs.rows.a_closing_request_is_the_last.Goals as goal

pub returns : goal.returns
unfolding http_on_literals
returns c = record { asked = refl; rest = refl }
