use Rattle.std.proofs.Common.{rules, ◌∙◌, ap, subst, sym, Some}
use Rattle.std.specs.Prelude.{IsSome}
use Rattle.std.specs.BTreeMap.{is_at}
use Rattle.std.proofs.lemmas.Result.{IfOk-weaker}
use Rattle.ox_shards.specs.Shards.{value_at, Changes}
use Rattle.ox_shards.proofs.ListLemmas.{held_in_list, changed_in_list, not_found, none_or, not_some, changed_in_others, added_to_list, no_value, ok_there}
use Rattle.ox_shards.proofs.shards.put.Goals as goal

pub returns-in-Some-clause-displaced : goal.returns-in-Some-clause-displaced
returns-in-Some-clause-displaced g c =
    ap Some (c.replace.ensures.displaced (c.args.key, c.args.value))
    ∙ held_in_list g.met.K.Ord.total c.args.list.now c.args.others.now.entries c.requires c.args.key c.in-Some.place (c.args.key, c.args.value) (sym c.in-Some.ensures)

pub returns-in-Some-clause-ok : goal.returns-in-Some-clause-ok
returns-in-Some-clause-ok g c =
    subst (λ l. Changes g.K.Ord.cmp c.args.list.now c.args.others.now.entries l c.args.others.now.entries c.args.key (Some c.args.value)) (sym (c.replace.ensures.replaced (c.args.key, c.args.value)))
    (changed_in_list g.met.K.Ord.total c.args.list.now c.args.others.now.entries c.requires c.args.key c.in-Some.place (c.args.key, c.args.value) c.args.value (sym c.in-Some.ensures))

pub returns-then-len-ge-MOST-clause-displaced : goal.returns-then-len-ge-MOST-clause-displaced
returns-then-len-ge-MOST-clause-displaced g c = IfOk-weaker c.insert.result _ _ (λ v has. has ∙ sym (none_or _ _ (not_found (is_at (g.K.Ord.cmp c.args.key)) c.args.list.now (sym c.in_default.ensures)))) c.insert.ensures.old

pub returns-then-len-ge-MOST-clause-ok : goal.returns-then-len-ge-MOST-clause-ok
returns-then-len-ge-MOST-clause-ok g c = IfOk-weaker c.insert.result _ _ (λ _ has. changed_in_others g.met.K.Ord.total c.args.list.now c.args.others.now.entries c.requires c.args.key (not_found (is_at (g.K.Ord.cmp c.args.key)) c.args.list.now (sym c.in_default.ensures)) c.insert.new.self.entries (Some c.args.value) has.0) c.insert.ensures.updates

pub returns-clause-displaced : goal.returns-clause-displaced
returns-clause-displaced g c =
    sym (none_or _ _ (not_found (is_at (g.K.Ord.cmp c.args.key)) c.args.list.now (sym c.in_default.ensures))
    ∙ not_some (value_at g.K.Ord.cmp c.args.others.now.entries c.args.key) (search rules))

pub returns-clause-ok : goal.returns-clause-ok
returns-clause-ok g c =
    subst (λ l. Changes g.K.Ord.cmp c.args.list.now c.args.others.now.entries l c.args.others.now.entries c.args.key (Some c.args.value)) (sym c.in_ok-push.ensures.ok)
    (added_to_list g.met.K.Ord.total c.args.list.now c.args.others.now.entries c.requires c.args.key
    (not_found (is_at (g.K.Ord.cmp c.args.key)) c.args.list.now (sym c.in_default.ensures)) c.args.value
    (not_some (value_at g.K.Ord.cmp c.args.others.now.entries c.args.key) (search rules)))

pub returns-then-len-ge-MOST-clause-present : goal.returns-then-len-ge-MOST-clause-present
returns-then-len-ge-MOST-clause-present g c = λ some.
    ok_there c.insert.result (value_at g.K.Ord.cmp c.args.others.now.entries c.args.key) c.insert.ensures.absent
    (subst IsSome (none_or _ _ (not_found (is_at (g.K.Ord.cmp c.args.key)) c.args.list.now (sym c.in_default.ensures))) some)

pub returns-in_err-push-clause-present : goal.returns-in_err-push-clause-present
returns-in_err-push-clause-present g c = λ some.
    absurd (no_value _ (none_or _ _ (not_found (is_at (g.K.Ord.cmp c.args.key)) c.args.list.now (sym c.in_default.ensures))
    ∙ not_some (value_at g.K.Ord.cmp c.args.others.now.entries c.args.key) (search rules)) some)
