use Rattle.std.proofs.Common.{sym, subst}
use Rattle.ox_model.specs.Sound.{IsSound}
use Rattle.ox_sat.specs.declared.profiles.Profile.{Profile}
use Rattle.ox_index.specs.Lengths.{index_to}
use Rattle.ox_index.specs.Parts.{held_in}
use Rattle.ox_index.proofs.live.Live.cancel.Goals as goal

pub invariant_of-self : goal.invariant_of-self
invariant_of-self c =
    let self = c.args.self.now in
    let before = c.in-Some.before in
    let now = held_in c.cancel.new.self in
    let mark = self.mark before c.in-Some.is in record {
      within = mark.within;
      sound = subst (λ (p : Profile). IsSound p (index_to self.hashes.items now self.lost before)) (sym c.cancel.ensures.profile) (mark.sound now (sym c.cancel.ensures.held));
      mark = λ lengths none. absurd (cc none);
    }
