use Rattle.std.proofs.Common.{◌≡◌, ◌∙◌, IfOk, sym, subst}
use Rattle.ox_sat.specs.declared.profiles.Profile.{Profile}
use Rattle.ox_index.specs.Live.{index_in, profile_in}
use Rattle.ox_model.specs.Ends.{AllEnd}
use Rattle.ox_model.specs.Index.{Index}
use Rattle.ox_asof.specs.AskedKept.{AskedKept}
use Rattle.ox_asof.specs.Reply.{reply_at}
use Rattle.ox_asof.proofs.Standing.{as_many, kept_same}
use Rattle.ox_desk.proofs.told.reply_at.Goals as goal

pub answer_at-requires-clause-end : goal.answer_at-requires-clause-end
answer_at-requires-clause-end c =
    let stack = c.args.store.now.stack in
    let changes = c.changes.result.now.kept in
    subst (λ (p : Profile). AllEnd p (index_in c.live.result.now) changes) (sym c.live.ensures.profile)
    (subst (λ (i : Index). AllEnd stack.profile i changes) (sym c.live.ensures.index) c.changes.ensures.end)

pub answer_at-requires-clause-kept : goal.answer_at-requires-clause-kept
answer_at-requires-clause-kept c =
    let stack = c.args.store.now.stack in
    c.about.ensures.kept ∙ as_many stack.index stack.older c.changes.result.now.kept c.changes.ensures.lead

pub returns : goal.returns
returns c =
    let stack = c.args.store.now.stack in
    subst (λ (kept : AskedKept). IfOk c.answer_at.result (λ reply. reply ≡ reply_at kept c.args.request.now))
    (kept_same (profile_in c.live.result.now) stack.profile (index_in c.live.result.now) stack.index c.about.result stack.depth stack.older c.changes.result.now.kept
    c.live.ensures.profile c.live.ensures.index c.about.ensures.depth c.about.ensures.kept c.changes.ensures.lead)
    c.answer_at.ensures
