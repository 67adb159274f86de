use Rattle.std.proofs.Common.{◌∙◌, cond, List, Some, sym, ap}
use Rattle.std.specs.Map.{lookup}
use Rattle.std.specs.BTreeMap.{is_at}
use Rattle.ox_rules.specs.Outputs.{outpoint_cmp}
use Rattle.ox_allocation.specs.Balances.{Balance}
use Rattle.ox_index.proofs.Holding.{inserted, not_empty, with_held}
use Rattle.ox_index.proofs.live.plain.put_held.Goals as goal

pub returns-in_ok-insert : goal.returns-in_ok-insert
returns-in_ok-insert c =
    let old = c.args.table.now.entries in
    let new = c.insert.new.self.entries in
    with_held old new c.args.at c.args.held.now (not_empty c.args.held.now (sym c.is_empty.ensures ∙ c.if-not-is_empty.true))
    (inserted old new c.args.at c.args.held.now (λ q.
    c.in_ok-insert.ensures.updates.0 q
    ∙ ap (λ (held : List Balance). cond (is_at (outpoint_cmp c.args.at) q) (Some held) (lookup (is_at (outpoint_cmp q)) old)) c.in_ok-copy_of.ensures))
