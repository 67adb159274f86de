use Rattle.std.proofs.Common.{◌∙◌, sym, ap, Option, List, []}
use Rattle.std.specs.Prelude.{unwrap_or}
use Rattle.ox_allocation.specs.Balances.{Balance}
use Rattle.ox_ledger.proofs.HolderLemmas.{get-held_in}
use Rattle.ox_ledger.proofs.holders.balances_at.Goals as goal

pub returns-in-Some : goal.returns-in-Some
returns-in-Some c = c.as_slice.ensures ∙ ap (λ (o : Option (List Balance)). unwrap_or o []) (c.in-Some.ensures ∙ sym (get-held_in c.args.holders.now c.args.at.now))

pub returns-in-None : goal.returns-in-None
returns-in-None c = ap (λ (o : Option (List Balance)). unwrap_or o []) (c.in-None.ensures ∙ sym (get-held_in c.args.holders.now c.args.at.now))
