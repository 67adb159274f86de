use Rattle.std.proofs.Common.{◌≡◌, ◌∙◌, ◌+◌, ◌^◌, ◌<◌, [], List, Option, ap, subst, sym}
use Rattle.std.specs.Prelude.{unwrap_or}
use Rattle.std.specs.List.Sorted.{IsStrictlySortedBy}
use Rattle.ox_allocation.specs.Balances.{Balance, amount_in, id_cmp, ids_of}
use Rattle.ox_ledger.specs.Runes.{balances_at, joined_with}
use Rattle.ox_ledger.specs.Shown.{held_in}
use Rattle.ox_ledger.proofs.HolderLemmas.{get-held_in, none_joins, on_ok, remove_none}
use Rattle.ox_ledger.proofs.holders.bring.Goals.{After-as_slice}
use Rattle.ox_ledger.proofs.holders.bring.Goals as goal

-- what is found is what the output holds
found : (c : After-as_slice) → c.as_slice.result.now ≡ balances_at (held_in c.args.holders.now) c.args.at.now
found c = c.as_slice.ensures ∙ ap (λ (o : Option (List Balance)). unwrap_or o []) (c.in-Some.ensures ∙ sym (get-held_in c.args.holders.now c.args.at.now))

pub join-requires-clause-fits : goal.join-requires-clause-fits
join-requires-clause-fits c = λ id. subst (λ (l : List Balance). amount_in c.args.pool.now id + amount_in l id < 2 ^ 128) (sym (found c)) (c.requires.fits id)

pub join-requires-clause-proper : goal.join-requires-clause-proper
join-requires-clause-proper c = subst (λ (l : List Balance). IsStrictlySortedBy id_cmp (ids_of l)) (sym (found c)) c.requires.proper

pub returns-in_default-clause-pool : goal.returns-in_default-clause-pool
returns-in_default-clause-pool c = none_joins c.args.pool.now (held_in c.args.holders.now) c.args.at.now (get-held_in c.args.holders.now c.args.at.now ∙ sym c.in_default.ensures)

pub returns-in_default-clause-left : goal.returns-in_default-clause-left
returns-in_default-clause-left c = remove_none (held_in c.args.holders.now) c.args.at.now (get-held_in c.args.holders.now c.args.at.now ∙ sym c.in_default.ensures)

pub returns-clause-pool : goal.returns-clause-pool
returns-clause-pool c = let p = (goal.at.returns-clause-pool c).After-as_slice in on_ok c.empty.result (λ _. c.in_ok-join.ensures ∙ ap (joined_with c.args.pool.now) (found p)) c.empty.ensures.ok
