use Rattle.std.proofs.Common.{◌∙◌, refl}
use Rattle.ox_gated.proofs.LayoutLaws.{sum_of_pieces}
use Rattle.ox_gated.proofs.layout.record_sum.Goals as goal

pub returns : goal.returns
returns c =
    let message = c.update-5.ensures _ (c.update-4.ensures _ (c.update-3.ensures _ (c.update-2.ensures _ (c.update.ensures _ c.new-hasher.ensures)))) in
    c.finalize.ensures _ message ∙ sum_of_pieces c.args.generation c.args.place c.args.front.now c.args.rest.now _ _ _ _ c.to_le_bytes.ensures c.to_le_bytes-2.ensures c.to_le_bytes-3.ensures refl
