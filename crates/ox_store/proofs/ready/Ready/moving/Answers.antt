use Rattle.std.proofs.Common.{subst}
use Rattle.ox_index.specs.Chain.{stack_in, taken_back_in}
use Rattle.ox_model.specs.Change.{IsChange}
use Rattle.ox_model.specs.Sound.{IsSound}
use Rattle.ox_store.specs.Ready.{PreparedCommand}
use Rattle.ox_store.proofs.CommandsInMemory.{moves_back, moves_on, sound_back, sound_on}
use Rattle.ox_store.proofs.ready.Ready.moving.Goals as goal

pub returns-in-Some : goal.returns-in-Some
returns-in-Some c =
    let chain = c.self.inside.chain in
    let stack = stack_in chain in
    let change = c.in-Some.change.now in
    let has = c.self.invariant.3 in record {
      moves = subst (λ (r : PreparedCommand). IsChange r.stack.index r.left change) c.self.view_is
          (moves_back stack stack.older (taken_back_in chain) change c.in-Some.ensures has);
      before = subst (λ (r : PreparedCommand). IsSound r.stack.profile r.left) c.self.view_is
          (sound_back stack stack.older (taken_back_in chain) change c.in-Some.ensures has);
      after = subst (λ (r : PreparedCommand). IsSound r.stack.profile r.stack.index) c.self.view_is chain.live.sound;
    }

pub returns-in-Some-get : goal.returns-in-Some-get
returns-in-Some-get c =
    let chain = c.self.inside.chain in
    let stack = stack_in chain in
    let change = c.in-Some-get.change.now in
    let kept = c.changes.result.now.kept in record {
      moves = subst (λ (r : PreparedCommand). IsChange r.left r.stack.index change) c.self.view_is
          (moves_on stack stack.older (taken_back_in chain) kept change c.in-None.ensures c.changes.ensures.lead c.in-Some-get.ensures);
      before = subst (λ (r : PreparedCommand). IsSound r.stack.profile r.left) c.self.view_is
          (sound_on stack stack.older (taken_back_in chain) kept change c.in-None.ensures c.changes.ensures.lead c.changes.ensures.end c.in-Some-get.ensures);
      after = subst (λ (r : PreparedCommand). IsSound r.stack.profile r.stack.index) c.self.view_is chain.live.sound;
    }
