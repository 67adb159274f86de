use Rattle.std.proofs.Common.{◌≡◌, ◌∙◌, ℕ, Bool, false, List, [], ap, arith, Option, Some, None}
use Rattle.std.specs.Prelude.{slice_get}
use Rattle.std.specs.List.Sorted.{IsStrictlyIncreasing}
use Rattle.std.specs.Option.{option_map_or}
use Rattle.ox_inscribe.specs.Inscriptions.{numbers_where, has_parent, is_on, children_of}
use Rattle.ox_inscribe.specs.Numbers.{is_among}
use Rattle.ox_inscribe.specs.declared.row.InsRow.{InsRow}
use Rattle.ox_inscribe.proofs.NextLaws.{next_shown}
use Rattle.ox_inscribe.proofs.NumberLaws.{numbers_pass, numbers_rise}
use Rattle.ox_inscribe.proofs.laws.rows_are_looked_up_exactly.Goals as goal

-- numbered from 0 on, a row's number is its place
at_place : (passes : InsRow → Bool) (rows : List InsRow) (number : ℕ) → is_among number (numbers_where passes 0 rows) ≡ option_map_or passes (slice_get rows number) false
at_place passes rows number = numbers_pass passes 0 number number rows (omega arith)

children_rise : (rows : List InsRow) (row : Option InsRow) → IsStrictlyIncreasing (option_map_or (children_of rows) row [])
children_rise rows None = λ k short. absurd (omega arith)
children_rise rows (Some row) = numbers_rise (has_parent row.id) 0 rows

pub returns-clause-children : goal.returns-clause-children
returns-clause-children c = λ rows number child row is.
    ap (λ (found : Option InsRow). is_among child (option_map_or (children_of rows) found [])) is ∙ at_place (has_parent row.id) rows child

pub returns-clause-on : goal.returns-clause-on
returns-clause-on c = λ rows sat number. at_place (is_on sat) rows number

pub returns-clause-children_rise : goal.returns-clause-children_rise
returns-clause-children_rise c = λ rows number. children_rise rows (slice_get rows number)

pub returns-clause-on_rises : goal.returns-clause-on_rises
returns-clause-on_rises c = λ rows sat. numbers_rise (is_on sat) 0 rows

pub returns-clause-next : goal.returns-clause-next
returns-clause-next c = next_shown
