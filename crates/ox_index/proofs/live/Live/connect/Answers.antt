use Rattle.std.proofs.Common.{◌≡◌, subst}
use Rattle.ox_model.specs.Index.{Index}
use Rattle.ox_model.specs.Step.{step}
use Rattle.ox_sat.specs.declared.profiles.Profile.{Profile}
use Rattle.ox_index.specs.Live.{index_in}
use Rattle.ox_index.specs.Promises.{BlockPromises}
use Rattle.ox_index.proofs.live.Live.connect.Goals as goal

pub returns : goal.returns
returns c =
    subst (λ (p : Profile). BlockPromises c.read_in.result (step p (index_in c.args.self.now) c.args.bytes.now) p (index_in c.args.self.now) c.read_in.new.self) c.forget.ensures.profile
    (subst (λ (index : Index). BlockPromises c.read_in.result (step c.forget.new.self.parts.profile index c.args.bytes.now) c.forget.new.self.parts.profile index c.read_in.new.self) c.forget.ensures.index c.read_in.ensures)
