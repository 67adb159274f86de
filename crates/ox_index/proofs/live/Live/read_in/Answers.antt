use Rattle.std.proofs.Common.{◌≡◌, List, ℕ, refl, sym, subst}
use Rattle.std.proofs.lemmas.Result.{err_from_is_err_and}
use Rattle.std.specs.Prelude.{Result}
use Rattle.ox_model.specs.Index.{Index}
use Rattle.ox_model.specs.Step.{admission}
use Rattle.ox_rules.specs.declared.refusal.Refusal.{Refusal}
use Rattle.ox_rules.specs.Why.{Refuses}
use Rattle.ox_index.specs.Live.{index_in}
use Rattle.ox_index.specs.Promises.{BlockPromises}
use Rattle.ox_index.proofs.Standing.{none_shown}
use Rattle.ox_index.proofs.Steps.{step_unread, step_unadmitted, step_read}
use Rattle.ox_index.proofs.live.Live.read_in.Goals as goal

pub returns-in_err-block : goal.returns-in_err-block
returns-in_err-block c =
    let p = err_from_is_err_and c.from_residual.result c.from_residual.ensures.1 in
    let live = c.args.self.now in
    rw p.1 (record {
      ok = tt;
      change = tt;
      refused = step_unread live.parts.profile (index_in live) c.args.bytes.now c.in_err-block.field-0.0 p.0 c.in_err-block.ensures.exact p.2;
      err = refl;
      mark = tt;
      no_mark = none_shown _ live.marked c.requires.none;
      profile = refl;
    })

pub returns-in_err-ids : goal.returns-in_err-ids
returns-in_err-ids c =
    let p = err_from_is_err_and c.from_residual-in_err-ids.result c.from_residual-in_err-ids.ensures.1 in
    let live = c.args.self.now in
    let refuses = subst (λ (hashes : List (List ℕ)). Refuses c.in_err-ids.field-0.0 (admission live.parts.profile hashes c.in_ok-block.block)) c.hashes.ensures c.in_err-ids.ensures.refused in
    rw (p.1, p.2) (record {
      ok = tt;
      change = tt;
      refused = step_unadmitted live.parts.profile (index_in live) c.args.bytes.now c.in_ok-block.block c.in_err-ids.field-0.0 c.in_ok-block.ensures.exact refuses;
      err = refl;
      mark = tt;
      no_mark = none_shown _ live.marked c.requires.none;
      profile = refl;
    })

pub returns : goal.returns
returns c =
    let live = c.args.self.now in
    let read = step_read live.parts.profile (index_in live) c.args.bytes.now c.in_ok-block.block c.in_ok-block.ensures.exact in
    subst (λ (r : Result Index Refusal). BlockPromises c.take_in.result r live.parts.profile (index_in live) c.take_in.new.self) (sym read) c.take_in.ensures
