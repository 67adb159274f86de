use Rattle.std.proofs.Common.{◌≡◌, ◌∙◌, ap, subst, sym}
use Rattle.std.specs.Prelude.{Some}
use Rattle.std.proofs.lemmas.Result.{err_from_is_err_and}
use Rattle.ox_outside.specs.Runs.{LeavesOnly}
use Rattle.ox_gated.proofs.Writing.{ends_failed}
use Rattle.ox_store.proofs.Exits.{no_value}
use Rattle.ox_pieces.specs.Stood.{stood_in}
use Rattle.ox_pieces.specs.Taken.{TakenPiece}
use Rattle.ox_pieces.specs.Writing.{LeadsTo, StandsEither}
use Rattle.ox_pieces.proofs.taken.Taken.commit.Goals as goal

pub invariant_of-result : goal.invariant_of-result
invariant_of-result g c = c.in_ok-tail.ensures.names c.self.inside.standing c.self.invariant.1

pub returns : goal.returns
returns g c =
    let i = c.self.inside in record {
      mine = (λ j. record { at = c.in_ok-tail.ensures.position j; state = i.standing }) ∙ ap (λ (t : TakenPiece). t.next) c.self.view_is;
      holds = c.in_ok-tail.ensures.holds;
      stood = λ told mine is leads. subst (λ (t : TakenPiece). stood_in (g.S.Site.seen c.write.new.site) ≡ Some t.next) c.self.view_is
          (c.in_ok-tail.ensures.stood told mine i.standing is (subst (λ (t : TakenPiece). LeadsTo mine.state t.next.state t.writing) (sym c.self.view_is) leads));
      any_moment = λ told mine is leads.
          subst (λ (t : TakenPiece). LeavesOnly g.S.Site c.args.site.now c.write.new.site (λ r. StandsEither mine t.next r.files)) c.self.view_is
          (c.write.ensures.any_moment told mine i.standing is (subst (λ (t : TakenPiece). LeadsTo mine.state t.next.state t.writing) (sym c.self.view_is) leads));
      failed = tt;
      counted = c.in_ok-tail.ensures.counted;
      writes = c.write.ensures.writes;
    }

pub returns-in_err-tail : goal.returns-in_err-tail
returns-in_err-tail g c =
    let i = c.self.inside in
    let left = c.from_residual.result in
    let p = err_from_is_err_and left c.from_residual.ensures.1 in record {
      mine = no_value left p.0 _ p.1;
      holds = λ told. no_value left p.0 _ p.1;
      stood = λ told mine is leads. no_value left p.0 _ p.1;
      any_moment = λ told mine is leads.
          subst (λ (t : TakenPiece). LeavesOnly g.S.Site c.args.site.now c.write.new.site (λ r. StandsEither mine t.next r.files)) c.self.view_is
          (c.write.ensures.any_moment told mine i.standing is (subst (λ (t : TakenPiece). LeadsTo mine.state t.next.state t.writing) (sym c.self.view_is) leads));
      failed = rw p.1 c.in_err-tail.ensures.failed;
      counted = ends_failed _ left p.0 _ _ p.1 c.write.ensures.counted;
      writes = c.write.ensures.writes;
    }
