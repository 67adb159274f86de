use Rattle.ox_links.proofs.Tallied.{hit_has_earlier, hits_are_requests}
use Rattle.ox_links.proofs.hits.hits_have_an_earlier_answer.Goals as goal

pub returns : goal.returns
returns g c = record { earlier = hit_has_earlier; most = hits_are_requests }
