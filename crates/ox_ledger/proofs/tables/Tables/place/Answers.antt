use Rattle.std.proofs.Common.{◌≡◌, ◌∙◌, [], List, Option, ap, subst, sym}
use Rattle.std.specs.Prelude.{All, unwrap_or}
use Rattle.std.specs.List.Sorted.{IsStrictlySortedBy}
use Rattle.ox_allocation.specs.Balances.{Balance, id_cmp, ids_of}
use Rattle.ox_etching.specs.declared.row.RuneRow.{RuneRow}
use Rattle.ox_ledger.specs.Marks.{WithMark}
use Rattle.ox_ledger.specs.Runes.{balances_at, burn}
use Rattle.ox_ledger.specs.Shown.{held_in}
use Rattle.ox_ledger.specs.Steps.{CanBurn}
use Rattle.ox_ledger.proofs.HolderLemmas.{get-held_in, on_ok}
use Rattle.ox_ledger.proofs.TablesLemmas.{burn_at_none}
use Rattle.ox_ledger.proofs.tables.Tables.place.Goals.{After-as_slice}
use Rattle.ox_ledger.proofs.tables.Tables.place.Goals as goal

-- what is found is what the output holds
found : (c : After-as_slice) → c.as_slice.result.now ≡ balances_at (held_in c.args.self.now.holders) c.args.at
found c = c.as_slice.ensures ∙ ap (λ (o : Option (List Balance)). unwrap_or o []) (c.in-Some.ensures ∙ sym (get-held_in c.args.self.now.holders c.args.at))

pub burn-requires-clause-rising : goal.burn-requires-clause-rising
burn-requires-clause-rising c = subst (λ (l : List Balance). IsStrictlySortedBy id_cmp (ids_of l)) (sym (found c)) c.requires.proper.rising

pub burn-requires-clause-fits : goal.burn-requires-clause-fits
burn-requires-clause-fits c = subst (λ (l : List Balance). All (CanBurn l) c.args.self.now.runes.now) (sym (found c)) c.requires.fits

pub fill_free-requires : goal.fill_free-requires
fill_free-requires c = get-held_in c.args.self.now.holders c.args.at ∙ sym c.in_default.ensures

pub returns-in_default-clause-ok : goal.returns-in_default-clause-ok
returns-in_default-clause-ok c =
    let old = c.args.self.now in
    let none = get-held_in old.holders c.args.at ∙ sym c.in_default.ensures in
    on_ok c.fill_free.result (λ is i. record {
      bal = is i;
      runes = sym (burn_at_none (held_in old.holders) c.args.at old.runes.now none) i;
      due = old.due.now;
    }) c.fill_free.ensures.ok

pub returns-clause-ok : goal.returns-clause-ok
returns-clause-ok c =
    let old = c.args.self.now in
    let p = (goal.at.returns-clause-ok c).After-as_slice in
    on_ok c.fill.result (λ is i. record {
      bal = is i;
      runes = (ap (λ (v : WithMark (List RuneRow)). v.now) c.in_ok-burn.ensures.ok ∙ ap (λ (l : List Balance). burn l old.runes.now) (found p)) i;
      due = old.due.now;
    }) c.fill.ensures.ok
