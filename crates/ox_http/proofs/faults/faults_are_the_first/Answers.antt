use Rattle.ox_http.proofs.Faulty.{faults_order}
use Rattle.ox_http.proofs.faults.faults_are_the_first.Goals as goal

pub returns : goal.returns
returns c = record {
  unclear = λ head. (faults_order head).unclear;
  lacking = λ head. (faults_order head).lacking;
  long = λ head. (faults_order head).long;
  none = λ head. (faults_order head).none;
}
