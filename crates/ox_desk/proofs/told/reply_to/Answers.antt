use Rattle.std.proofs.Common.{◌∙◌, ap, sym}
use Rattle.ox_address.specs.Spelled.{script_in}
use Rattle.ox_holders.specs.Outputs.{outputs_with}
use Rattle.ox_http.specs.declared.Method.{Method}
use Rattle.ox_sat.specs.declared.profiles.Profile.{Profile}
use Rattle.ox_model.specs.Index.{Index}
use Rattle.ox_held.specs.Paths.{hrp_in}
use Rattle.ox_store.specs.Store.{StoreContents}
use Rattle.ox_desk.specs.Held.{script_asked}
use Rattle.ox_desk.proofs.told.reply_to.Goals as goal

pub answer_address-requires : goal.answer_address-requires
answer_address-requires c =
    let profile = c.live-live.ensures.profile ∙ ap (λ (s : StoreContents). s.stack.profile) c.store-2.ensures in
    let index = c.live-live.ensures.index ∙ ap (λ (s : StoreContents). s.stack.index) c.store-2.ensures in
    record {
      held = λ script get is.
          c.as_slice-2.ensures
          ∙ c.in_ok-held.ensures script
          (ap (λ (m : Method). script_asked c.args.store.now.stack.profile m c.in-Some.part.now) get
          ∙ ap (λ (p : Profile). script_in (hrp_in p) c.in-Some.part.now) (sym profile) ∙ is)
          ∙ ap (λ (i : Index). outputs_with script i.outs) (sym index);
    }
