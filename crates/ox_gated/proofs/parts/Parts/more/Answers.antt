use Rattle.std.proofs.Common.{◌≤◌, ◌+◌, ◌∙◌, refl, sym, ap, subst, arith}
use Rattle.std.specs.Prelude.{◌++◌, List, ℕ}
use Rattle.ox_gated.specs.Parts.{IsLeft, Unread}
use Rattle.ox_gated.proofs.BodyRead.{goes_on}
use Rattle.ox_gated.proofs.parts.Parts.more.Goals as goal

pub returns-clause-left : goal.returns-clause-left
returns-clause-left g c rest is =
    let i = c.self.inside in
    let e = i.examined in
    let k : Unread = record { file = e.file; head = e.opening.head; size = e.opening.size; read = i.read; len = e.front.len; front = e.front.bytes.items; other_closed = e.other_closed } in
    let left : IsLeft g.S.Site k c.args.site.now rest = subst (λ (p : Unread). IsLeft g.S.Site p c.args.site.now rest) (sym c.self.view_is) is in
    let looks = c.in_ok-piece.ensures.looks in
    let within : i.read + c.min-size.result ≤ e.opening.size = omega (arith, c.min-size.ensures, c.self.invariant.5) in
    goes_on k c.args.most c.min-size.result c.min-size.ensures c.args.window.now (g.S.Site.seen c.args.site.now) within g.S.Site c.args.site.now c.read_part.new.site rest c.in_ok-piece.piece.items c.append.new.self
    looks.calls.as_told looks.nothing.files refl left (c.in_ok-piece.ensures.bytes left.told) (c.in_ok-append.ensures.ok ∙ ap (λ (l : List ℕ). c.args.window.now ++ l) c.deref.ensures.value)
