-- Both ways, by the lines of a head.
use Rattle.ox_http.proofs.Heads.{head_of-printed, head_of_sound}
use Rattle.ox_http.proofs.laws.heads_are_the_grammars.Goals as goal

pub returns : goal.returns
returns c = record { read = head_of-printed; spelled = head_of_sound }
