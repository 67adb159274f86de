use Rattle.std.proofs.Common.{◌∙◌, ◌-◌, ℕ, Some, None, sym, ap, subst}
use Rattle.ox_query.specs.Asked.{asked_of}
use Rattle.ox_replies.specs.Ask.{reply_of}
use Rattle.ox_asof.specs.AskedKept.{kept_of}
use Rattle.ox_asof.specs.Back.{IsBack, IsNoneBack}
use Rattle.ox_asof.specs.Paths.{path_and_hash}
use Rattle.ox_asof.specs.Shown.{shown}
use Rattle.ox_asof.proofs.Asking.{asked_back, found_back, none_back}
use Rattle.ox_asof.proofs.Replying.{as_of, reply_is}
use Rattle.ox_asof.proofs.Showing.{shown_reply}
use Rattle.ox_asof.proofs.answer.answer_at.Goals as goal

pub returns-in_default-back_to : goal.returns-in_default-back_to
returns-in_default-back_to g c =
    let index = g.V.View.index c.args.view.now in
    let asked = asked_of (g.V.View.chain c.args.view.now) index c.args.about.now in
    let changes = c.args.changes.now.kept in
    let hash = c.in-Some.cut.1 in
    reply_is c.error_reply-in_default-back_to.result _ _ c.error_reply-in_default-back_to.ensures
    (as_of (kept_of asked changes) c.args.request.now c.in-Some.cut.0.now hash (sym (c.in-Some.ensures ∙ ap path_and_hash c.as_slice.ensures))
    c.in-Some-query_of.ensures.is (sym c.is_get.ensures ∙ c.if-not-is_get.false) None
    (none_back asked changes hash (subst (λ (n : ℕ). IsNoneBack index.hashes n hash) c.requires.kept c.in_default-back_to.ensures.none)))

pub returns : goal.returns
returns g c =
    let index = g.V.View.index c.args.view.now in
    let asked = asked_of (g.V.View.chain c.args.view.now) index c.args.about.now in
    let changes = c.args.changes.now.kept in
    let hash = c.in-Some.cut.1 in
    let back = c.in-Some-back_to.back in
    let found = c.in-Some-query_of.found in
    let past = c.in_ok-past.past in
    reply_is c.answer_by-2.result _ _ c.answer_by-2.ensures
    ((λ i. reply_of (record asked { profile = c.in_ok-past.ensures.chain i; index = shown past.has_runes (c.in_ok-past.ensures.index i); kept = c.args.about.now.kept - back }) (c.in_ok-request.ensures i))
    ∙ shown_reply (asked_back asked changes back) c.in-Some.cut.0.now c.args.request.now.close past.has_runes found.route found.part.now c.in-Some-query_of.ensures.taken c.in_ok-past.ensures.runes
    ∙ as_of (kept_of asked changes) c.args.request.now c.in-Some.cut.0.now hash (sym (c.in-Some.ensures ∙ ap path_and_hash c.as_slice.ensures))
    c.in-Some-query_of.ensures.is (sym c.is_get.ensures ∙ c.if-not-is_get.false) (Some (asked_back asked changes back))
    (found_back asked changes hash back (subst (λ (n : ℕ). IsBack index.hashes n hash back) c.requires.kept c.in-Some-back_to.ensures.some)))
