use Rattle.std.proofs.Common.{refl, subst, sym}
use Rattle.ox_gated.specs.Tail.{Kept}
use Rattle.ox_index.specs.Chain.{stack_in}
use Rattle.ox_model.specs.Stack.{Stack}
use Rattle.ox_store.specs.Heads.{Names}
use Rattle.ox_store.proofs.parts.store_at_end.Goals as goal

pub invariant_of-result : goal.invariant_of-result
invariant_of-result c =
    subst (λ (t : Kept). Names t.head (stack_in c.in-Ok.chain)) (sym c.tail.ensures)
    (subst (λ (s : Stack). Names c.args.all.walker.head s) (sym c.in-Ok.ensures) c.requires)

pub returns-in-Ok : goal.returns-in-Ok
returns-in-Ok c = record {
  stack = c.in-Ok.ensures;
  tail = c.tail.ensures;
  fresh = refl;
  memory = tt;
}
