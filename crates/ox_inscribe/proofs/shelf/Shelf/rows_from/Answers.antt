use Rattle.std.proofs.Common.{◌≡◌, ◌+◌, ◌-◌, ◌∙◌, ℕ, List, arith, sym, ap, length, take, drop}
use Rattle.std.proofs.lemmas.List.{drop-take, length-take-le}
use Rattle.std.proofs.lemmas.Result.{IfOk-weaker}
use Rattle.ox_inscribe.specs.Shelved.{Shelved}
use Rattle.ox_inscribe.specs.declared.row.InsRow.{InsRow}
use Rattle.ox_inscribe.proofs.shelf.Shelf.rows_from.Goals as goal

pub returns : goal.returns
returns c =
    let n = c.args.n in
    let all = c.self.inside.rows.rows in
    let shown = c.self.inside.shown in
    let seen : length c.args.self.now.rows ≡ shown = ap (λ (s : Shelved). length s.rows) (sym c.self.view_is) ∙ length-take-le shown all c.self.invariant.fits in
    let whole : n + (shown - n) ≡ shown = omega (arith, c.requires, seen) in
    let part : take (shown - n) (drop n all) ≡ drop n c.args.self.now.rows =
    sym (drop-take n (shown - n) all) ∙ ap (λ (end : ℕ). drop n (take end all)) whole ∙ ap (λ (s : Shelved). drop n s.rows) c.self.view_is in
    IfOk-weaker c.share_all.result _ _ (λ shared is. is ∙ ap (λ (rows : List InsRow). take (shown - n) (drop n rows)) c.as_slice.ensures ∙ part) c.share_all.ensures
