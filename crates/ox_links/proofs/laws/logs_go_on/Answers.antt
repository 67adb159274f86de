use Rattle.ox_links.proofs.GoingOn.{serve_on-append, serve_on_keeps}
use Rattle.ox_links.proofs.laws.logs_go_on.Goals as goal

pub returns : goal.returns
returns g c = record { joined = serve_on-append; kept = serve_on_keeps }
