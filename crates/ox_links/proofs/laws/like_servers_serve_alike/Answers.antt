use Rattle.ox_links.proofs.Like.{serve_alike}
use Rattle.ox_links.proofs.laws.like_servers_serve_alike.Goals as goal

pub returns : goal.returns
returns g c = serve_alike _
