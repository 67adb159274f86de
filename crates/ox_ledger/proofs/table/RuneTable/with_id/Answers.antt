use Rattle.std.proofs.Common.{◌∙◌, ap, sym, subst, rules, arith, List}
use Rattle.std.specs.Option.{option_copied}
use Rattle.std.proofs.lemmas.Grind.{common_steps}
use Rattle.ox_marked.specs.Marked.{content_in}
use Rattle.ox_allocation.specs.Balances.{id_cmp}
use Rattle.ox_etching.specs.declared.row.RuneRow.{RuneRow}
use Rattle.ox_ledger.specs.Shown.{Finds}
use Rattle.ox_ledger.proofs.TableLemmas.{found, none_anyhow, not_placed, not_there, not_this}
use Rattle.ox_ledger.proofs.table.RuneTable.with_id.Goals as goal

pub returns-in_err-place-clause-none : goal.returns-in_err-place-clause-none
returns-in_err-place-clause-none c =
    let finds = subst (λ (l : List RuneRow). Finds (λ row. row.id) l (content_in id_cmp c.self.inside.ids)) (ap (λ v. v.now) c.self.view_is) c.self.invariant.now.ids in
    none_anyhow c.from_residual.result (not_placed (λ row. row.id) c.args.self.now.now (content_in id_cmp c.self.inside.ids) c.args.id finds (ap option_copied (sym c.in_err-place.was) ∙ c.get.ensures))

pub returns-in_err-row-clause-none : goal.returns-in_err-row-clause-none
returns-in_err-row-clause-none c =
    let finds = subst (λ (l : List RuneRow). Finds (λ row. row.id) l (content_in id_cmp c.self.inside.ids)) (ap (λ v. v.now) c.self.view_is) c.self.invariant.now.ids in
    none_anyhow c.from_residual-in_err-row.result
    (not_there (λ row. row.id) c.args.self.now.now (content_in id_cmp c.self.inside.ids) c.args.id c.in_ok-place.field-0.now finds (ap option_copied (sym c.in_ok-place.was) ∙ c.get.ensures)
    (ap option_copied (sym c.in_err-row.was) ∙ c.row_at.ensures))

pub returns-then-eq-clause-some : goal.returns-then-eq-clause-some
returns-then-eq-clause-some c =
    let finds = subst (λ (l : List RuneRow). Finds (λ row. row.id) l (content_in id_cmp c.self.inside.ids)) (ap (λ v. v.now) c.self.view_is) c.self.invariant.now.ids in
    found (λ row. row.id) c.args.self.now.now (content_in id_cmp c.self.inside.ids) c.args.id c.in_ok-place.field-0.now c.in_ok-row.field-0.now finds
    (ap option_copied (sym c.in_ok-place.was) ∙ c.get.ensures) (ap option_copied (sym c.in_ok-row.was) ∙ c.row_at.ensures) (search rules)

pub returns-else-eq-clause-none : goal.returns-else-eq-clause-none
returns-else-eq-clause-none c =
    let finds = subst (λ (l : List RuneRow). Finds (λ row. row.id) l (content_in id_cmp c.self.inside.ids)) (ap (λ v. v.now) c.self.view_is) c.self.invariant.now.ids in
    not_this (λ row. row.id) c.args.self.now.now (content_in id_cmp c.self.inside.ids) c.args.id c.in_ok-place.field-0.now c.in_ok-row.field-0.now finds
    (ap option_copied (sym c.in_ok-place.was) ∙ c.get.ensures) (ap option_copied (sym c.in_ok-row.was) ∙ c.row_at.ensures) (λ same. grind (arith, common_steps))
