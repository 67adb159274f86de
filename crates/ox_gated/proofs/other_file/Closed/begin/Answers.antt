use Rattle.std.proofs.Common.{refl, subst, sym}
use Rattle.std.specs.Prelude.{IsTrue}
use Rattle.ox_outside.specs.Files.{file_of, other}
use Rattle.ox_gated.specs.Filling.{PoursOn, StaysShut}
use Rattle.ox_gated.specs.Tail.{Kept, Holds}
use Rattle.ox_gated.proofs.BehindGate.{shut_beside, some_shut}
use Rattle.ox_gated.proofs.TakenPieces.{begun}
use Rattle.ox_gated.proofs.other_file.Closed.begin.Goals as goal

pub pour-requires-clause-shut : goal.pour-requires-clause-shut
pour-requires-clause-shut g c told =
    let tail = c.into_tail-tail.result in
    let holds : Holds g.S.Site tail c.args.site.now = subst (λ (t : Kept). Holds g.S.Site t c.args.site.now) (sym c.into_tail-tail.ensures.tail) (c.requires told) in
    shut_beside g.S.Site tail c.args.site.now holds c.into_tail-tail.ensures.closed

pub pour-requires-clause-within : goal.pour-requires-clause-within
pour-requires-clause-within g c told =
    let tail = c.into_tail-tail.result in
    let holds : Holds g.S.Site tail c.args.site.now = subst (λ (t : Kept). Holds g.S.Site t c.args.site.now) (sym c.into_tail-tail.ensures.tail) (c.requires told) in
    some_shut (file_of (g.S.Site.seen c.args.site.now) (other tail.file)) (shut_beside g.S.Site tail c.args.site.now holds c.into_tail-tail.ensures.closed).now

pub returns-clause-begun : goal.returns-clause-begun
returns-clause-begun g c =
    let tail = c.into_tail-tail.result in
    let e = c.in_ok-pour.ensures in
    let shut : IsTrue (g.S.Site.told c.args.site.now) → StaysShut g.S.Site tail c.args.site.now =
    λ told. shut_beside g.S.Site tail c.args.site.now (subst (λ (t : Kept). Holds g.S.Site t c.args.site.now) (sym c.into_tail-tail.ensures.tail) (c.requires told)) c.into_tail-tail.ensures.closed in
    begun g.S.Site tail _ c.new.result c.args.site.now c.pour.new.site refl c.new.ensures shut e.pours e.written

pub returns-clause-pours : goal.returns-clause-pours
returns-clause-pours g c = subst (λ (t : Kept). PoursOn g.S.Site t c.args.site.now c.pour.new.site) c.into_tail-tail.ensures.tail c.in_ok-pour.ensures.pours

pub returns-in_err-pour-clause-pours : goal.returns-in_err-pour-clause-pours
returns-in_err-pour-clause-pours g c = subst (λ (t : Kept). PoursOn g.S.Site t c.args.site.now c.pour.new.site) c.into_tail-tail.ensures.tail c.pour.ensures.pours
