use Rattle.std.proofs.Common.{sym, ap, ◌∙◌}
use Rattle.std.proofs.lemmas.Option.{get_or_from_slice_get}
use Rattle.ox_inscribe.specs.declared.row.InsRow.{InsRow}
use Rattle.ox_inscribe.proofs.StandLaws.{stands_none, stands_hidden, stands_unbound, stands_on}
use Rattle.ox_inscribe.proofs.parents.stands_among.Goals as goal

pub returns-in_default : goal.returns-in_default
returns-in_default c = stands_none c.args.joined.now c.args.rows.now.rows c.args.count c.args.id.now (sym c.find.ensures ∙ c.in_default.is)

pub returns-then-number-count : goal.returns-then-number-count
returns-then-number-count c = stands_hidden c.args.joined.now c.args.rows.now.rows c.args.count c.in-Some.number c.args.id.now (sym c.find.ensures ∙ c.in-Some.is) c.if-number-count.true

pub returns-in-Some-sat : goal.returns-in-Some-sat
returns-in-Some-sat c =
    let row = get_or_from_slice_get c.args.rows.now.rows c.in-Some.number c.row.result.now c.row.result.now c.row.ensures in
    c.contains.ensures ∙ stands_on c.args.joined.now c.args.rows.now.rows c.args.count c.in-Some.number c.in-Some-sat.sat c.args.id.now _ (sym c.find.ensures ∙ c.in-Some.is) c.if-number-count.false c.requires (ap (λ (r : InsRow). r.sat) row ∙ c.in-Some-sat.is)

pub returns-in-None : goal.returns-in-None
returns-in-None c =
    let row = get_or_from_slice_get c.args.rows.now.rows c.in-Some.number c.row.result.now c.row.result.now c.row.ensures in
    stands_unbound c.args.joined.now c.args.rows.now.rows c.args.count c.in-Some.number c.args.id.now _ (sym c.find.ensures ∙ c.in-Some.is) c.if-number-count.false c.requires (ap (λ (r : InsRow). r.sat) row ∙ c.in-None.is)
