use Rattle.std.proofs.Common.{sym, subst}
use Rattle.std.specs.List.Sorted.{IsStrictlySortedBy}
use Rattle.ox_rules.specs.Outputs.{outpoint_cmp}
use Rattle.ox_held.specs.Paths.{hrp_in}
use Rattle.ox_held.specs.Trees.{address_tree}
use Rattle.ox_held.proofs.Found.{outputs_rise}
use Rattle.ox_query.specs.Written.{tokens_of}
use Rattle.ox_query.proofs.Addresses.{inscriptions_there, its_tree}
use Rattle.ox_query.proofs.Arrays.{first_tree}
use Rattle.ox_query.proofs.Steps.{same}
use Rattle.ox_query.proofs.address.address_body.Goals as goal

pub held_at-requires : goal.held_at-requires
held_at-requires g c =
    let index = g.V.View.index c.args.live.now in
    subst (IsStrictlySortedBy outpoint_cmp) (sym c.requires) (outputs_rise c.args.script.now index.outs)

pub write_held-requires : goal.write_held-requires
write_held-requires g c =
    inscriptions_there (g.V.View.index c.args.live.now) c.args.places.now c.in_ok-held.held c.in_ok-held.ensures

pub returns : goal.returns
returns g c =
    let index = g.V.View.index c.args.live.now in
    let hrp = hrp_in (g.V.View.chain c.args.live.now) in
    let script = c.args.script.now in
    let tree = address_tree index hrp script in
    let is = its_tree index hrp script c.args.places.now c.in_ok-held.held c.requires c.in_ok-held.ensures in
    c.into_bytes.ensures tree (first_tree c.new-out.result c.write_held.new.out tree c.new-out.ensures (same tokens_of is c.write_held.ensures))
