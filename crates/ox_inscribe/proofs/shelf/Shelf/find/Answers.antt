use Rattle.std.proofs.Common.{◌∙◌, sym, ap}
use Rattle.ox_inscribe.specs.Inscriptions.{find}
use Rattle.ox_inscribe.specs.Shelved.{Shelved}
use Rattle.ox_inscribe.proofs.ShelfLaws.{find_none, find_shown, find_hidden}
use Rattle.ox_inscribe.proofs.shelf.Shelf.find.Goals as goal

pub returns-in_err-number : goal.returns-in_err-number
returns-in_err-number c =
    let id = c.args.id.now in
    let none = find_none c.self.inside.rows.rows c.self.inside.shown id (sym c.find.ensures ∙ c.in_err-number.was) in
    let seen = ap (λ (s : Shelved). find s.rows id) c.self.view_is in
    cc (none, seen, c.from_residual.ensures)

pub returns-then-number-self : goal.returns-then-number-self
returns-then-number-self c =
    let id = c.args.id.now in
    let some = find_shown c.self.inside.rows.rows c.self.inside.shown c.in_ok-number.number id (sym c.find.ensures ∙ c.in_ok-number.was) c.if-number-self.true in
    sym some ∙ ap (λ (s : Shelved). find s.rows id) c.self.view_is

pub returns-else-number-self : goal.returns-else-number-self
returns-else-number-self c =
    let id = c.args.id.now in
    let none = find_hidden c.self.inside.rows.rows c.self.inside.shown c.in_ok-number.number id (sym c.find.ensures ∙ c.in_ok-number.was) c.if-number-self.false in
    sym none ∙ ap (λ (s : Shelved). find s.rows id) c.self.view_is
