use Rattle.std.proofs.Common.{◌<◌, ◌+◌, ◌^◌, length, sym, subst, arith}
use Rattle.ox_gated.specs.Filling.{HasTaken, Poured}
use Rattle.ox_gated.proofs.TakenPieces.{taken_on}
use Rattle.ox_gated.proofs.filling.FillingSink.take.Goals as goal

pub returns-in-Ok-clause-holds : goal.returns-in-Ok-clause-holds
returns-in-Ok-clause-holds g c body taken =
    let i = c.self.inside in
    let k : Poured = record { tail = i.tail; size = i.size; hasher = i.hasher } in
    let was : HasTaken g.S.Site k c.args.site.now body = subst (λ (p : Poured). HasTaken g.S.Site p c.args.site.now body) (sym c.self.view_is) taken in
    let e = c.in-Ok.ensures in
    let fits = c.if-piece-self.false in
    let short : i.size + length c.args.piece.now < 2 ^ 63 = omega (arith, fits, was.short) in
    taken_on g.S.Site k c.args.site.now body was c.args.piece.now c.update.new.self c.pour.new.site short (c.update.ensures body was.hashed) e.pours e.written
