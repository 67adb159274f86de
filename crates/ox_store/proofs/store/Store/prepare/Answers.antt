use Rattle.std.proofs.Common.{◌≡◌, ◌∙◌, ap, subst, sym}
use Rattle.std.specs.Prelude.{◌<◌, ◌^◌, ◌-◌, Ok}
use Rattle.ox_index.specs.Chain.{stack_in}
use Rattle.ox_model.specs.Stack.{Stack, stack_after}
use Rattle.ox_rules.specs.Why.{Refuses}
use Rattle.ox_store.specs.Heads.{Names}
use Rattle.ox_store.specs.Store.{StoreContents}
use Rattle.ox_store.specs.Writing.{LeadsTo}
use Rattle.ox_store.proofs.store.Store.prepare.Goals as goal

pub carry_out-requires : goal.carry_out-requires
carry_out-requires c = c.self.invariant

pub invariant_of-result : goal.invariant_of-result
invariant_of-result c =
    (subst (λ (s : StoreContents). s.commands < 2 ^ 64 - 1) (sym c.self.view_is) c.requires, c.in-Ok.ensures.due, c.in-Ok.ensures.names, c.in-Ok.ensures.change)

pub invariant_of-result-in-Err : goal.invariant_of-result-in-Err
invariant_of-result-in-Err c = subst (λ (s : Stack). Names c.self.inside.tail.head s) (sym c.in-Err.ensures.err) c.self.invariant

pub returns-in-Ok : goal.returns-in-Ok
returns-in-Ok c =
    let new = stack_in c.carry_out.new.chain in record {
      ready = record {
        after = subst (λ (s : StoreContents). stack_after s.stack c.args.command.now ≡ Ok new) c.self.view_is c.in-Ok.ensures.ok;
        leads = record {
          due = c.in-Ok.ensures.due;
          leads = subst (λ (s : StoreContents). LeadsTo s.stack new c.in-Ok.writing) c.self.view_is c.in-Ok.ensures.leads;
        };
        left = c.in-Ok.ensures.left ∙ ap (λ (s : StoreContents). s.stack.index) c.self.view_is;
        tail = ap (λ (s : StoreContents). s.tail) c.self.view_is;
        commands = ap (λ (s : StoreContents). s.commands) c.self.view_is;
      };
      refused = tt;
      kept = tt;
    }

pub returns-in-Err : goal.returns-in-Err
returns-in-Err c =
    let old = c.self.inside in record {
      ready = tt;
      refused = subst (λ (s : StoreContents). Refuses c.in-Err.why (stack_after s.stack c.args.command.now)) c.self.view_is c.in-Err.ensures.refused;
      kept = (λ i. record { stack = c.in-Err.ensures.err i; tail = old.tail; commands = old.commands }) ∙ c.self.view_is;
    }
