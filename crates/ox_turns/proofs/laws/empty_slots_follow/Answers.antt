use Rattle.std.proofs.Common.{[], refl}
use Rattle.ox_turns.proofs.Rotating.{none_held}
use Rattle.ox_turns.proofs.laws.empty_slots_follow.Goals as goal

pub returns : goal.returns
returns g c = λ server log state. record {
  places = refl;
  apart = λ i j a b at_i at_j e. absurd (none_held 32 i a at_i);
  new = λ i slot held. absurd (none_held 32 i slot held);
  links = λ i slot held. absurd (none_held 32 i slot held);
  shown = λ channel one. ([], refl);
  state = refl;
}
