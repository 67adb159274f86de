use Rattle.ox_links.specs.Serving.{start_at}
use Rattle.ox_links.proofs.States.{serve_on_leads, start_leads}
use Rattle.ox_links.proofs.laws.commands_lead_to_the_state.Goals as goal

pub returns : goal.returns
returns g c = record {
  all = λ server first log. (serve_on_leads server first (start_at first) log (start_leads server first)).all.state;
  accepted = λ server first log. (serve_on_leads server first (start_at first) log (start_leads server first)).accepted.state;
  counted = λ server first log. (serve_on_leads server first (start_at first) log (start_leads server first)).all.many;
  accepted_counted = λ server first log. (serve_on_leads server first (start_at first) log (start_leads server first)).accepted.many;
}
