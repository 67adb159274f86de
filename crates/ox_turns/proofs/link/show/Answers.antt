use Rattle.std.proofs.Common.{◌∙◌, ◌≤◌, ℕ, List, [], ◌∷◌, length, take, refl, sym, subst, inr}
use Rattle.std.specs.Prelude.{Ok}
use Rattle.ox_outside.specs.Event.{Showed, Broke, show_events}
use Rattle.ox_outside.specs.Log.{Adds}
use Rattle.ox_outside.specs.declared.site.Shown.{Shown as ShownAnswer}
use Rattle.ox_turns.specs.declared.link.Came.TheVariants.{More, Part, Over}
use Rattle.ox_turns.proofs.Coming.{comes_by, adds_broke, empty_is, some_is}
use Rattle.ox_turns.proofs.link.show.Goals as goal

pub returns-then-is_empty-clause-comes : goal.returns-then-is_empty-clause-comes
returns-then-is_empty-clause-comes g c =
    let S = g.S.Site in
    let channel = c.args.slot.now.channel in
    let due = c.args.slot.now.session.due in
    let n = c.in-Ok-Took.n in
    let adds = subst (λ (s : ShownAnswer). Adds (show_events channel c.due.result.now (Ok s)) (S.log c.args.site.now) (S.log c.show.new.self)) c.in-Ok-Took.field-0-is c.in-Ok-Took.ensures.logged in
    let adds = subst (λ (l : List ℕ). Adds (λ log. Showed channel (take n l) ∷ []) (S.log c.args.site.now) (S.log c.show.new.self)) c.due.ensures adds in
    comes_by S g.met.S.Site.only_now g.met.S.Site.logs_now More channel c.args.slot.now.session c.took.new.self c.args.site.now c.show.new.self (Showed channel (take n due) ∷ [])
    (inr (c.requires.some, n, refl, c.took.ensures), sym c.due-in-Ok-Took.ensures ∙ empty_is c.due-in-Ok-Took.result.now c.is_empty.result c.is_empty.ensures c.if-is_empty.true) adds c.in-Ok-Took.ensures.files c.in-Ok-Took.ensures.call

pub returns-else-is_empty-clause-comes : goal.returns-else-is_empty-clause-comes
returns-else-is_empty-clause-comes g c =
    let S = g.S.Site in
    let channel = c.args.slot.now.channel in
    let due = c.args.slot.now.session.due in
    let n = c.in-Ok-Took.n in
    let adds = subst (λ (s : ShownAnswer). Adds (show_events channel c.due.result.now (Ok s)) (S.log c.args.site.now) (S.log c.show.new.self)) c.in-Ok-Took.field-0-is c.in-Ok-Took.ensures.logged in
    let adds = subst (λ (l : List ℕ). Adds (λ log. Showed channel (take n l) ∷ []) (S.log c.args.site.now) (S.log c.show.new.self)) c.due.ensures adds in
    comes_by S g.met.S.Site.only_now g.met.S.Site.logs_now Part channel c.args.slot.now.session c.took.new.self c.args.site.now c.show.new.self (Showed channel (take n due) ∷ [])
    ((c.requires.some, n, refl, c.took.ensures), subst (λ (l : List ℕ). 1 ≤ length l) c.due-in-Ok-Took.ensures (some_is c.due-in-Ok-Took.result.now c.is_empty.result c.is_empty.ensures c.if-is_empty.false)) adds c.in-Ok-Took.ensures.files c.in-Ok-Took.ensures.call

pub returns-in-Err-clause-comes : goal.returns-in-Err-clause-comes
returns-in-Err-clause-comes g c =
    let S = g.S.Site in
    comes_by S g.met.S.Site.only_now g.met.S.Site.logs_now Over c.args.slot.now.channel c.args.slot.now.session c.args.slot.now.session c.args.site.now c.show.new.self (Broke c.args.slot.now.channel ∷ [])
    (inr refl, refl) (adds_broke c.args.slot.now.channel (S.log c.args.site.now) (S.log c.show.new.self) c.requires.whole c.in-Err.ensures.logged) c.in-Err.ensures.files c.in-Err.ensures.call
