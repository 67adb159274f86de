use Rattle.std.proofs.Common.{◌∙◌, sym, ap, subst, arith, nat_lt, ℕ, List}
use Rattle.std.specs.Prelude.{filter}
use Rattle.std.specs.List.Sorted.{IsStrictlyIncreasing}
use Rattle.ox_inscribe.specs.Inscriptions.{is_on, on}
use Rattle.ox_inscribe.specs.Shelved.{Shelved}
use Rattle.ox_inscribe.proofs.NumberLaws.{numbers_rise}
use Rattle.ox_inscribe.proofs.ShelfLaws.{numbers_cut}
use Rattle.ox_inscribe.proofs.shelf.Shelf.on.Goals as goal

pub numbers_below-requires : goal.numbers_below-requires
numbers_below-requires c = subst IsStrictlyIncreasing (sym c.on.ensures) (numbers_rise (is_on c.args.sat) 0 c.self.inside.rows.rows)

pub returns : goal.returns
returns c =
    c.numbers_below.ensures
    ∙ ap (λ (numbers : List ℕ). filter (λ n. nat_lt n c.self.inside.shown) numbers) c.on.ensures
    ∙ numbers_cut (is_on c.args.sat) 0 c.self.inside.shown c.self.inside.shown c.self.inside.rows.rows (omega arith)
    ∙ ap (λ (s : Shelved). on s.rows c.args.sat) c.self.view_is
