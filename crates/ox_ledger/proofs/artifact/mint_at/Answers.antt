use Rattle.std.proofs.Common.{◌∙◌, ap, sym, Option, ℕ}
use Rattle.std.specs.Option.{option_and_then, option_map}
use Rattle.ox_allocation.specs.Balances.{Balance}
use Rattle.ox_etching.specs.Minted.{minted}
use Rattle.ox_etching.specs.declared.row.RuneRow.{RuneRow}
use Rattle.ox_ledger.proofs.ArtifactLemmas.{none_with_id, place_within, some_with_id}
use Rattle.ox_ledger.proofs.artifact.mint_at.Goals as goal

pub returns-in_err-by_id : goal.returns-in_err-by_id
returns-in_err-by_id c =
    c.from_residual.ensures
    ∙ ap (λ (there : Option RuneRow). option_map {T = ℕ} {U = Balance} (λ amount. (c.args.id, amount)) (option_and_then (λ row. minted row c.args.height) there))
    (none_with_id c.args.table.now.now c.args.id c.by_id.result c.by_id.ensures c.in_err-by_id.was)

pub get-row-requires : goal.get-row-requires
get-row-requires c = place_within c.args.table.now.now c.args.id c.in_ok-by_id.field-0 ((c.by_id.ensures c.in_ok-by_id.field-0).0 c.in_ok-by_id.was)

pub returns-in_err-amount : goal.returns-in_err-amount
returns-in_err-amount c =
    c.from_residual-in_err-amount.ensures
    ∙ ap (λ (amount : Option ℕ). option_map {T = ℕ} {U = Balance} (λ a. (c.args.id, a)) amount) (sym c.in_err-amount.was ∙ c.minted.ensures)
    ∙ ap (λ (there : Option RuneRow). option_map {T = ℕ} {U = Balance} (λ amount. (c.args.id, amount)) (option_and_then (λ row. minted row c.args.height) there))
    (some_with_id c.args.table.now.now c.args.id c.by_id.result c.in_ok-by_id.field-0 c.get-row.result.now c.by_id.ensures c.in_ok-by_id.was c.get-row.ensures)

pub returns : goal.returns
returns c =
    ap (λ (amount : Option ℕ). option_map {T = ℕ} {U = Balance} (λ a. (c.args.id, a)) amount) (sym c.in_ok-amount.was ∙ c.minted.ensures)
    ∙ ap (λ (there : Option RuneRow). option_map {T = ℕ} {U = Balance} (λ amount. (c.args.id, amount)) (option_and_then (λ row. minted row c.args.height) there))
    (some_with_id c.args.table.now.now c.args.id c.by_id.result c.in_ok-by_id.field-0 c.get-row.result.now c.by_id.ensures c.in_ok-by_id.was c.get-row.ensures)
