use Rattle.std.proofs.Common.{◌∙◌, ap, sym, Some, None}
use Rattle.std.specs.BTreeMap.{is_at}
use Rattle.ox_shards.proofs.ListLemmas.{held_in_list, gone_from_list, not_found, none_or, changed_in_others}
use Rattle.ox_shards.proofs.shards.take.Goals as goal

pub returns-in-Some-clause-taken : goal.returns-in-Some-clause-taken
returns-in-Some-clause-taken g c =
    ap Some (c.take.ensures.taken (c.args.key.now, c.take.result))
    ∙ held_in_list g.met.K.Ord.total c.args.list.now c.args.others.now.entries c.requires c.args.key.now c.in-Some.place (c.args.key.now, c.take.result) (sym c.in-Some.ensures)

pub returns-in-Some-clause-left : goal.returns-in-Some-clause-left
returns-in-Some-clause-left g c = gone_from_list g.met.K.Ord.total c.args.list.now c.args.others.now.entries c.requires c.args.key.now c.in-Some.place (c.args.key.now, c.take.result) c.take.new.self (sym c.in-Some.ensures) (c.take.ensures.left (c.args.key.now, c.take.result))

pub returns-in-None-clause-taken : goal.returns-in-None-clause-taken
returns-in-None-clause-taken g c = c.remove.ensures.value ∙ sym (none_or _ _ (not_found (is_at (g.K.Ord.cmp c.args.key.now)) c.args.list.now (sym c.in-None.ensures)))

pub returns-in-None-clause-left : goal.returns-in-None-clause-left
returns-in-None-clause-left g c = changed_in_others g.met.K.Ord.total c.args.list.now c.args.others.now.entries c.requires c.args.key.now (not_found (is_at (g.K.Ord.cmp c.args.key.now)) c.args.list.now (sym c.in-None.ensures)) c.remove.new.self.entries None c.remove.ensures.updates.0
