use Rattle.ox_links.proofs.Apart.{after_event_apart}
use Rattle.ox_links.proofs.laws.links_are_apart.Goals as goal

pub returns : goal.returns
returns g c = after_event_apart
