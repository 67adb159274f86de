use Rattle.std.proofs.Common.{◌∙◌, sym, ap, subst, take, nat_lt, ℕ, List, Some, None}
use Rattle.std.specs.Prelude.{filter}
use Rattle.std.specs.List.Sorted.{IsStrictlyIncreasing}
use Rattle.ox_inscribe.specs.Inscriptions.{is_on, next_on}
use Rattle.ox_inscribe.specs.Shelved.{Numbered}
use Rattle.ox_inscribe.proofs.NextKeyLaws.{next_on_shown, none_on_shown, one_next}
use Rattle.ox_inscribe.proofs.NextLaws.{next_shown}
use Rattle.ox_inscribe.proofs.NumberLaws.{numbers_rise}
use Rattle.ox_inscribe.proofs.rows.Rows.next_on.Goals as goal

pub numbers_below-requires : goal.numbers_below-requires
numbers_below-requires c =
    let sat = c.in-Some.found in
    subst IsStrictlyIncreasing (sym (c.in-Some.ensures.numbers ∙ c.self.invariant.found.sats sat)) (numbers_rise (is_on sat) 0 c.self.inside.list.items)

pub returns-in-Some : goal.returns-in-Some
returns-in-Some c =
    let rows = c.self.inside.list.items in
    let end = c.args.end in
    let sat = c.in-Some.found in
    let numbers = c.in-Some.places.now in
    ap (λ (some : List ℕ). Some (sat, some)) c.numbers_below.ensures
    ∙ one_next (take end rows) c.args.sat (Some (sat, filter (λ n. nat_lt n end) numbers)) (next_on (take end rows) c.args.sat)
    (next_on_shown rows c.self.inside.keys.sats end c.args.sat sat numbers c.self.invariant.found.sats c.in-Some.ensures)
    (next_shown (take end rows) c.args.sat)
    ∙ ap (λ (seen : Numbered). next_on (take end seen.rows) c.args.sat) c.self.view_is

pub returns-in-None : goal.returns-in-None
returns-in-None c =
    let rows = c.self.inside.list.items in
    let end = c.args.end in
    one_next (take end rows) c.args.sat None (next_on (take end rows) c.args.sat)
    (none_on_shown rows c.self.inside.keys.sats end c.args.sat c.self.invariant.found.sats c.in-None.ensures)
    (next_shown (take end rows) c.args.sat)
    ∙ ap (λ (seen : Numbered). next_on (take end seen.rows) c.args.sat) c.self.view_is
