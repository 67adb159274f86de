use Rattle.std.proofs.Common.{◌∙◌, sym, ap, subst}
use Rattle.ox_index.proofs.KeptBlocks.{AllEnd-take}
use Rattle.ox_model.specs.Ends.{AllEnd}
use Rattle.ox_asof.specs.Undone.{undone_by}
use Rattle.ox_asof.proofs.Ending.{sound_undone}
use Rattle.ox_asof.proofs.Showing.{bare_lengths, bare_sound, none_recounted}
use Rattle.ox_asof.proofs.Undoing.{lengths_undone}
use Rattle.ox_asof.proofs.past.past_without_runes.Goals as goal

pub invariant_of-result : goal.invariant_of-result
invariant_of-result g c =
    let p = g.V.View.chain c.args.view.now in
    let index = g.V.View.index c.args.view.now in
    let undone = c.of-undone.result in
    let end : AllEnd p index undone = subst (AllEnd p index) (sym c.of-undone.ensures) (AllEnd-take p c.args.back index c.args.changes.now.kept c.requires.end) in
    record {
      end = end;
      sound = bare_sound p (undone_by index undone) (sound_undone p index undone (g.met.V.View.sound c.args.view.now) end);
      counted = bare_lengths c.lengths_by.result (undone_by index undone) (c.lengths_by.ensures ∙ sym (lengths_undone index undone));
      recounted = none_recounted index.runes undone _;
    }

pub returns-clause-index : goal.returns-clause-index
returns-clause-index g c = ap (undone_by (g.V.View.index c.args.view.now)) c.of-undone.ensures
