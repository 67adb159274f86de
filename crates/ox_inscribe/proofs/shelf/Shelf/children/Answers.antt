use Rattle.std.proofs.Common.{◌∙◌, sym, ap, subst, arith, nat_lt, ℕ, List, [], Option}
use Rattle.std.specs.Prelude.{filter}
use Rattle.std.specs.List.Sorted.{IsStrictlyIncreasing}
use Rattle.std.specs.Option.{option_map_or}
use Rattle.ox_inscribe.specs.Inscriptions.{has_parent, numbers_where, children_of}
use Rattle.ox_inscribe.specs.Shelved.{Shelved}
use Rattle.ox_inscribe.specs.declared.row.InsRow.{InsRow}
use Rattle.ox_inscribe.proofs.NumberLaws.{numbers_rise}
use Rattle.ox_inscribe.proofs.ShelfLaws.{numbers_cut}
use Rattle.ox_inscribe.proofs.shelf.Shelf.children.Goals as goal

pub numbers_below-requires : goal.numbers_below-requires
numbers_below-requires c = subst IsStrictlyIncreasing (sym c.children.ensures) (numbers_rise (has_parent c.row.result.now.id) 0 c.self.inside.rows.rows)

pub returns : goal.returns
returns c =
    let id = c.row.result.now.id in
    c.numbers_below.ensures
    ∙ ap (λ (numbers : List ℕ). filter (λ n. nat_lt n c.self.inside.shown) numbers) c.children.ensures
    ∙ numbers_cut (has_parent id) 0 c.self.inside.shown c.self.inside.shown c.self.inside.rows.rows (omega arith)
    ∙ ap (λ (s : Shelved). numbers_where (has_parent id) 0 s.rows) c.self.view_is
    ∙ sym (ap (λ (row : Option InsRow). option_map_or (children_of c.args.self.now.rows) row []) c.row.ensures)
