use Rattle.std.proofs.Common.{◌∙◌, ap, subst, sym}
use Rattle.ox_model.specs.Ends.{AllEnd, older_by}
use Rattle.ox_model.specs.Index.{Index}
use Rattle.ox_sat.specs.declared.profiles.Profile.{Profile}
use Rattle.ox_index.specs.Live.{index_in}
use Rattle.ox_checkpoint.proofs.standing.Standing.into_chain.Goals as goal

pub of-requires : goal.of-requires
of-requires c = record { known = c.self.invariant.known; sound = c.self.invariant.sound }

pub of-requires-2 : goal.of-requires-2
of-requires-2 c =
    let s = c.self.inside in
    let can = c.self.invariant in
    let live = c.in_ok-live.live in record {
      depth = (can.some, can.most);
      few = can.few;
      end = subst (λ (p : Profile). AllEnd p (index_in live) s.changes.items) (sym c.in_ok-live.ensures.profile)
          (subst (λ (index : Index). AllEnd s.profile index s.changes.items) (sym c.in_ok-live.ensures.index) can.end);
    }

pub returns : goal.returns
returns c =
    let s = c.self.inside in
    (λ i. record {
      profile = (c.of-2.ensures.chain ∙ c.in_ok-live.ensures.profile) i;
      depth = c.of-2.ensures.depth i;
      index = (c.of-2.ensures.index ∙ c.in_ok-live.ensures.index) i;
      older = (c.of-2.ensures.older ∙ ap (λ (index : Index). older_by index s.changes.items) c.in_ok-live.ensures.index) i;
    }) ∙ c.self.view_is
