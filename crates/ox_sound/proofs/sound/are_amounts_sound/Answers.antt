use Rattle.std.proofs.Common.{◌≡◌, ◌∙◌, ◌+◌, ℕ, Bool, List, Option, Some, ap, subst, sym, true}
use Rattle.std.specs.Prelude.{◌==◌, IfSome, IsTrue, is_some}
use Rattle.std.specs.BTreeMap.{BTreeMap}
use Rattle.std.specs.FinMap.{values}
use Rattle.std.specs.List.{list_all}
use Rattle.ox_runestone.specs.declared.stone.RuneId.{RuneId}
use Rattle.ox_etching.specs.declared.row.RuneRow.{RuneRow}
use Rattle.ox_ledger.specs.Balanced.{made_of}
use Rattle.ox_sound.specs.Amounts.{AreAmounts, balances_in, burned_in, outputs_in, sum_held}
use Rattle.ox_sound.specs.Rows.{are_held, are_settled, ids_differ, is_bounded}
use Rattle.ox_sound.proofs.HeldLemmas.{sums_settle}
use Rattle.ox_sound.proofs.PassLemmas.{amounts_pass, held_fails}
use Rattle.ox_sound.proofs.sound.are_amounts_sound.Goals as goal

-- the table that was found is that of these runes
table_of : (found : Option (BTreeMap RuneId (Option ℕ))) (amounts : BTreeMap RuneId (Option ℕ)) (slice runes : List RuneRow) → found ≡ Some amounts → slice ≡ runes
    → IfSome found (λ table. AreAmounts table (burned_in slice) (λ id. 0)) → AreAmounts amounts (burned_in runes) (λ id. 0)
table_of found amounts slice runes is same are =
    subst (λ (rs : List RuneRow). AreAmounts amounts (burned_in rs) (λ id. 0)) same (subst (λ (f : Option (BTreeMap RuneId (Option ℕ))). IfSome f (λ table. AreAmounts table (burned_in slice) (λ id. 0))) is are)

made_here : (slice runes : List RuneRow) (made : Bool) (amounts : BTreeMap RuneId (Option ℕ)) (held : RuneId → ℕ) → slice ≡ runes → IsTrue (ids_differ runes) → AreAmounts amounts (burned_in runes) held
    → ((held : RuneId → ℕ) → IsTrue (ids_differ slice) → AreAmounts amounts (burned_in slice) held → made ≡ list_all (λ (row : RuneRow). held row.id + row.burned == made_of row) slice)
    → made ≡ list_all (λ (row : RuneRow). held row.id + row.burned == made_of row) runes
made_here slice runes made amounts held same ids are law =
    law held (subst (λ (rs : List RuneRow). IsTrue (ids_differ rs)) (sym same) ids) (subst (λ (rs : List RuneRow). AreAmounts amounts (burned_in rs) held) (sym same) are)
    ∙ ap (list_all (λ (row : RuneRow). held row.id + row.burned == made_of row)) same

pub returns-then-not-are_held : goal.returns-then-not-are_held
returns-then-not-are_held c =
    let index = c.args.index.now in
    let are = table_of c.in_ok-amounts.field-0 c.in-Some.amounts c.as_slice-runes.result.now index.runes c.in-Some.is c.as_slice-runes.ensures c.in_ok-amounts.ensures.burned in
    held_fails (ids_differ index.runes) (are_held index.runes (outputs_in index.outs) (balances_in index.bal)) (are_settled index.runes (balances_in index.bal))
    (sym (c.are_held.ensures index.runes (λ id. 0) are) ∙ c.if-not-are_held.true)

pub returns : goal.returns
returns c =
    let index = c.args.index.now in
    let are = table_of c.in_ok-amounts.field-0 c.in-Some.amounts c.as_slice-runes.result.now index.runes c.in-Some.is c.as_slice-runes.ensures c.in_ok-amounts.ensures.burned in
    let ids : ids_differ index.runes ≡ true = ap ids_differ (sym c.as_slice-runes.ensures) ∙ sym c.in_ok-amounts.ensures.differ ∙ ap is_some c.in-Some.is in
    let held : are_held index.runes (outputs_in index.outs) (balances_in index.bal) ≡ true = sym (c.are_held.ensures index.runes (λ id. 0) are) ∙ c.if-not-are_held.false in
    let sums = c.add_all.ensures (burned_in index.runes) (λ id. 0) are in
    let made = made_here c.as_slice-runes.result.now index.runes c.are_made.result c.add_all.new.amounts (λ id. 0 + sum_held (values (balances_in index.bal)) id) c.as_slice-runes.ensures ids sums c.are_made.ensures in
    amounts_pass (ids_differ index.runes) (are_held index.runes (outputs_in index.outs) (balances_in index.bal)) (are_settled index.runes (balances_in index.bal)) c.are_made.result ids held
    (made ∙ sums_settle index.runes (outputs_in index.outs) (balances_in index.bal) held)

pub are_made-requires : goal.are_made-requires
are_made-requires c = subst (λ (runes : List RuneRow). IsTrue (list_all is_bounded runes)) (sym c.as_slice-runes.ensures) c.requires
