use Rattle.std.proofs.Common.{◌∙◌, ◌==◌, ℕ, List, length, ap, subst, sym}
use Rattle.std.proofs.lemmas.Bool.{eqb-false}
use Rattle.std.specs.Prelude.{IsTrue}
use Rattle.std.proofs.lemmas.Result.{err_from_is_err_and}
use Rattle.ox_feed.specs.Feed.{Feed}
use Rattle.ox_follow.specs.Frame.{plain}
use Rattle.ox_follow.specs.Front.{front_of}
use Rattle.ox_pieces.proofs.FramesInTurn.{bad_frame, cut_frame, gives_frame}
use Rattle.ox_pieces.proofs.frames.Frames.frame.Goals as goal

pub returns-in_err-frame : goal.returns-in_err-frame
returns-in_err-frame c =
    let p = err_from_is_err_and c.from_residual.result c.from_residual.ensures.1 in
    rw p.1 (bad_frame c.args.self.now (ap front_of (sym c.rest.ensures) ∙ c.in_err-frame.ensures))

pub returns-in-Some : goal.returns-in-Some
returns-in-Some c =
    let whole = rw c.in-Some.is at c.in_ok-frame.ensures in
    gives_frame c.args.self.now.rest (plain c.in-Some.frame) c.in-Some.field-0-1 (ap front_of (sym c.rest.ensures) ∙ whole)

pub returns-in-None : goal.returns-in-None
returns-in-None c =
    let part = rw c.in-None.is at c.in_ok-frame.ensures in
    cut_frame c.args.self.now (ap front_of (sym c.rest.ensures) ∙ part)
    (subst (λ (f : Feed). IsTrue f.ended) c.self.view_is c.if-self.true)
    (eqb-false _ 0 (ap (λ (l : List ℕ). length l == 0) (sym c.rest-then-self.ensures) ∙ sym c.if-not-is_empty.ensures))
