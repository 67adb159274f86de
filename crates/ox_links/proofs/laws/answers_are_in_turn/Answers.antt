use Rattle.ox_links.proofs.Answered.{all_answer, are_to, never_fall}
use Rattle.ox_links.proofs.laws.answers_are_in_turn.Goals as goal

pub returns : goal.returns
returns g c = record { each = all_answer; to_talk = are_to; never_fall = never_fall }
