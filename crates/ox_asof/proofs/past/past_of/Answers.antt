use Rattle.std.proofs.Common.{◌≡◌, ◌∙◌, length, sym, ap, subst, arith}
use Rattle.ox_index.proofs.KeptBlocks.{AllEnd-take}
use Rattle.ox_model.specs.Ends.{AllEnd}
use Rattle.ox_asof.specs.Past.{lengths_of}
use Rattle.ox_asof.specs.Undone.{undone_by}
use Rattle.ox_asof.specs.declared.lengths.Lengths.{Lengths}
use Rattle.ox_asof.proofs.Ending.{sound_undone}
use Rattle.ox_asof.proofs.Undoing.{lengths_undone, runes_within}
use Rattle.ox_asof.proofs.past.past_of.Goals as goal

pub recounted-requires : goal.recounted-requires
recounted-requires g c =
    let index = g.V.View.index c.args.view.now in
    let undone = c.of-undone.result in
    let same : c.lengths_by-lengths.result ≡ lengths_of (undone_by index undone) = c.lengths_by-lengths.ensures ∙ sym (lengths_undone index undone) in
    let many : c.lengths_by-lengths.result.runes ≡ length (undone_by index undone).runes = ap (λ (l : Lengths). l.runes) same in
    omega (arith, many, runes_within index undone)

pub invariant_of-result : goal.invariant_of-result
invariant_of-result g c =
    let p = g.V.View.chain c.args.view.now in
    let index = g.V.View.index c.args.view.now in
    let undone = c.of-undone.result in
    let end : AllEnd p index undone = subst (AllEnd p index) (sym c.of-undone.ensures) (AllEnd-take p c.args.back index c.args.changes.now.kept c.requires.end) in
    record {
      end = end;
      sound = sound_undone p index undone (g.met.V.View.sound c.args.view.now) end;
      counted = c.lengths_by-lengths.ensures ∙ sym (lengths_undone index undone);
      recounted = c.in_ok-rows.ensures;
    }

pub returns-clause-index : goal.returns-clause-index
returns-clause-index g c = ap (undone_by (g.V.View.index c.args.view.now)) c.of-undone.ensures
