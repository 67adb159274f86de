use Rattle.std.proofs.Common.{sym, ap, subst, ◌∙◌, ◌<◌, length}
use Rattle.ox_block.specs.declared.block.TxOut.{TxOut}
use Rattle.ox_script.specs.Shape.{is_return}
use Rattle.ox_allocation.specs.Dealing.{Held}
use Rattle.ox_allocation.proofs.Handing.{gift_burned, gift_held, on_ok}
use Rattle.ox_allocation.proofs.hands.Hands.give.Goals as goal

pub returns-then-is_return-clause-ok : goal.returns-then-is_return-clause-ok
returns-then-is_return-clause-ok c =
    let within = subst (λ (held : Held). c.args.place < length held.outputs) (sym c.self.view_is) c.requires.place in
    rw (sym c.self.view_is) (on_ok c.add.result (λ new i. record {
      outputs = c.self.inside.outputs.now;
      hands =
          gift_burned c.self.inside.outputs.now c.args.place c.index-outputs-place.result (record { given = c.self.inside.given.items; burned = c.self.inside.burned }) c.args.id c.args.amount c.add.new.self within c.index-outputs-place.is
          (ap (λ (output : TxOut). is_return output.script) c.index-outputs-place.is ∙ (ap is_return (sym c.as_slice.ensures) ∙ sym c.if-is_return.ensures)) new i;
    }) c.add.ensures.ok)

pub returns-else-is_return-clause-ok : goal.returns-else-is_return-clause-ok
returns-else-is_return-clause-ok c =
    let within = subst (λ (held : Held). c.args.place < length held.outputs) (sym c.self.view_is) c.requires.place in
    rw (sym c.self.view_is) (on_ok c.add-else-is_return.result (λ new i. record {
      outputs = c.self.inside.outputs.now;
      hands =
          gift_held c.self.inside.outputs.now c.args.place c.index-outputs-place.result (record { given = c.self.inside.given.items; burned = c.self.inside.burned }) c.args.id c.args.amount c.index_mut.result.now c.add-else-is_return.new.self within c.self.invariant c.index-outputs-place.is
          (ap (λ (output : TxOut). is_return output.script) c.index-outputs-place.is ∙ (ap is_return (sym c.as_slice.ensures) ∙ sym c.if-is_return.ensures)) c.index_mut.ensures.value new i;
    }) c.add-else-is_return.ensures.ok)
