use Rattle.std.proofs.Common.{arith, rules, subst, ◌≡◌}
use Rattle.std.proofs.lemmas.List.Sorted.{IsPartitionPoint-from_clause}
use Rattle.ox_range_index.proofs.ReachLaws.{Cuts, begins, over_none, over_some, partitioned}
use Rattle.ox_range_index.proofs.reaches.reach_over.Goals as goal

pub returns-in-Some : goal.returns-in-Some
returns-in-Some c = λ runs is.
    let cut : Cuts c.args.number c.args.reaches.now c.partition_point-count.result =
    IsPartitionPoint-from_clause (begins c.args.number) c.args.reaches.now c.partition_point-count.result c.partition_point-count.ensures.partitioned (partitioned c.args.number runs c.args.reaches.now is) (λ a r q k. search rules) in
    over_some c.args.number c.in-Some.last c.partition_point-count.result runs c.args.reaches.now _ is cut c.partition_point-count.ensures.bound (let e = c.in-Some.ensures in omega (arith, e.0, e.1))

pub returns-in-None : goal.returns-in-None
returns-in-None c = λ runs is.
    let cut : Cuts c.args.number c.args.reaches.now c.partition_point-count.result =
    IsPartitionPoint-from_clause (begins c.args.number) c.args.reaches.now c.partition_point-count.result c.partition_point-count.ensures.partitioned (partitioned c.args.number runs c.args.reaches.now is) (λ a r q k. search rules) in
    let none : c.partition_point-count.result ≡ 0 = omega (arith, c.in-None.ensures) in
    over_none c.args.number runs c.args.reaches.now is (subst (Cuts c.args.number c.args.reaches.now) none cut)
