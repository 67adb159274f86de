use Rattle.std.proofs.Common.{◌∙◌, sym}
use Rattle.ox_plain.specs.Plain.{index_in}
use Rattle.ox_checkpoint.proofs.StepLemmas.{back_here, begins_so, begins_there, ends_there, leads_there, sound_there, tells_there}
use Rattle.ox_checkpoint.proofs.leads.leads_on.Goals as goal

pub goes_on-requires : goal.goes_on-requires
goes_on-requires c =
    let tested = c.in_ok-does_begin.ensures in
    let b = begins_so (index_in c.args.index.now) (index_in c.does_begin.new.index) c.args.change.now _ tested.told c.if-not-branch.false tested.stays in record {
      profile = c.requires.profile;
      sound = sound_there b c.args.p.now c.requires.sound;
      begins = begins_there b;
    }

pub returns-then-not-branch-2 : goal.returns-then-not-branch-2
returns-then-not-branch-2 c =
    let tested = c.in_ok-does_begin.ensures in
    let b = begins_so (index_in c.args.index.now) (index_in c.does_begin.new.index) c.args.change.now _ tested.told c.if-not-branch.false tested.stays in
    let after = index_in c.goes_on.new.index in
    let is = c.in_ok-goes_on.ensures.leads in record {
      told = tells_there b c.args.p.now _ (sym c.if-not-branch-2.true ∙ c.in_ok-goes_on.ensures.told);
      leads = tt;
      stays = back_here b after (index_in c.step.new.self) is (rw (c.in_ok-step.ensures.told ∙ ends_there b after is) at c.in_ok-step.ensures.leads);
    }

pub returns : goal.returns
returns c =
    let tested = c.in_ok-does_begin.ensures in
    let b = begins_so (index_in c.args.index.now) (index_in c.does_begin.new.index) c.args.change.now _ tested.told c.if-not-branch.false tested.stays in record {
      told = tells_there b c.args.p.now _ (sym c.if-not-branch-2.false ∙ c.in_ok-goes_on.ensures.told);
      leads = leads_there b (index_in c.goes_on.new.index) c.in_ok-goes_on.ensures.leads;
      stays = tt;
    }
