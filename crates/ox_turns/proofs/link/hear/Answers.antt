use Rattle.std.proofs.Common.{◌∙◌, ℕ, List, [], ◌∷◌, ◌++◌, take, refl, ap, subst, inl, inr}
use Rattle.std.specs.Prelude.{Ok}
use Rattle.ox_outside.specs.Event.{Heard, Ended, Broke, hear_events}
use Rattle.ox_outside.specs.Log.{Adds}
use Rattle.ox_outside.specs.declared.site.Heard.{Heard as HeardAnswer}
use Rattle.ox_session.specs.Link.{Link}
use Rattle.ox_turns.specs.declared.link.Came.TheVariants.{More, NoMemory, Over}
use Rattle.ox_turns.proofs.Coming.{comes_by, adds_broke}
use Rattle.ox_turns.proofs.link.hear.Goals as goal

pub returns-in-Ok-clause-comes : goal.returns-in-Ok-clause-comes
returns-in-Ok-clause-comes g c =
    let S = g.S.Site in
    let room = c.hear.new.into in
    let n = c.in-Ok-Bytes.n in
    let old = c.args.slot.now.session in
    let adds = subst (λ (h : HeardAnswer). Adds (hear_events c.args.slot.now.channel room (Ok h)) (S.log c.args.site.now) (S.log c.hear.new.self)) c.in-Ok-Bytes.field-0-is c.in-Ok-Bytes.ensures.logged in
    let is = c.in-Ok.ensures.ok in
    comes_by S g.met.S.Site.only_now g.met.S.Site.logs_now More c.args.slot.now.channel old c.heard.new.self c.args.site.now c.hear.new.self (Heard c.args.slot.now.channel (take n room) ∷ [])
    (inl (c.requires.none, take n room, refl, is ∙ ap (λ (l : List ℕ). record old { heard = old.heard ++ l }) c.split_at.ensures.front), ap (λ (l : Link). l.due) is ∙ c.requires.none)
    adds c.in-Ok-Bytes.ensures.files c.in-Ok-Bytes.ensures.call

pub returns-in-Err-heard-clause-comes : goal.returns-in-Err-heard-clause-comes
returns-in-Err-heard-clause-comes g c =
    let S = g.S.Site in
    let room = c.hear.new.into in
    let n = c.in-Ok-Bytes.n in
    let adds = subst (λ (h : HeardAnswer). Adds (hear_events c.args.slot.now.channel room (Ok h)) (S.log c.args.site.now) (S.log c.hear.new.self)) c.in-Ok-Bytes.field-0-is c.in-Ok-Bytes.ensures.logged in
    comes_by S g.met.S.Site.only_now g.met.S.Site.logs_now NoMemory c.args.slot.now.channel c.args.slot.now.session c.heard.new.self c.args.site.now c.hear.new.self (Heard c.args.slot.now.channel (take n room) ∷ [])
    (c.requires.none, take n room, refl, c.in-Err-heard.ensures.err)
    adds c.in-Ok-Bytes.ensures.files c.in-Ok-Bytes.ensures.call

pub returns-in-Ok-End-clause-comes : goal.returns-in-Ok-End-clause-comes
returns-in-Ok-End-clause-comes g c =
    let S = g.S.Site in
    let room = c.hear.new.into in
    let adds = subst (λ (h : HeardAnswer). Adds (hear_events c.args.slot.now.channel room (Ok h)) (S.log c.args.site.now) (S.log c.hear.new.self)) c.in-Ok-End.field-0-is c.in-Ok-End.ensures.logged in
    comes_by S g.met.S.Site.only_now g.met.S.Site.logs_now Over c.args.slot.now.channel c.args.slot.now.session c.args.slot.now.session c.args.site.now c.hear.new.self (Ended c.args.slot.now.channel ∷ [])
    (inl (c.requires.none, refl), refl) adds c.in-Ok-End.ensures.files c.in-Ok-End.ensures.call

pub returns-in-Err-clause-comes : goal.returns-in-Err-clause-comes
returns-in-Err-clause-comes g c =
    let S = g.S.Site in
    comes_by S g.met.S.Site.only_now g.met.S.Site.logs_now Over c.args.slot.now.channel c.args.slot.now.session c.args.slot.now.session c.args.site.now c.hear.new.self (Broke c.args.slot.now.channel ∷ [])
    (inr refl, refl) (adds_broke c.args.slot.now.channel (S.log c.args.site.now) (S.log c.hear.new.self) c.requires.whole c.in-Err.ensures.logged) c.in-Err.ensures.files c.in-Err.ensures.call
