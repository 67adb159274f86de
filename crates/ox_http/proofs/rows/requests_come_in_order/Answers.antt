-- Computed.
use Rattle.std.proofs.Common.{refl}
use Rattle.ox_http.proofs.Computed.{http_on_literals}
use Rattle.ox_http.proofs.rows.requests_come_in_order.Goals as goal

pub returns : goal.returns
unfolding http_on_literals
returns c = record { asked = refl; whole = refl }
