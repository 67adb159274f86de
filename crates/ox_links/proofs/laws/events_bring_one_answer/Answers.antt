use Rattle.ox_links.proofs.Apart.{after_event_adds}
use Rattle.ox_links.proofs.Quiet.{asks_nothing}
use Rattle.ox_links.proofs.laws.events_bring_one_answer.Goals as goal

pub returns : goal.returns
returns g c = record { one = after_event_adds; quiet = asks_nothing }
