use Rattle.std.proofs.Common.{sym, ◌∙◌, ap, List, take}
use Rattle.std.specs.Prelude.{filter}
use Rattle.std.specs.BTreeSet.{contains}
use Rattle.ox_envelope.specs.declared.id.InsId.{InsId}
use Rattle.ox_inscribe.specs.Reveal.{stands_among}
use Rattle.ox_inscribe.specs.Shelved.{id_cmp}
use Rattle.ox_inscribe.proofs.StandLaws.{kept_more, kept_same, met_more, once-none}
use Rattle.ox_inscribe.proofs.parents.parents_among.Goals as goal
use Rattle.ox_inscribe.proofs.parents.parents_among.Goals.{then-branch+in_ok-push, else-branch}

pub loop-id-init : goal.loop-id-init
loop-id-init c = record {
  met = λ q. ap (λ (keys : List InsId). contains id_cmp (record { keys = keys }) q) c.new-met.ensures.empty;
  parents = c.new-parents.ensures ∙ sym (ap (filter (stands_among c.args.joined.now (take c.args.count c.args.rows.now.rows))) once-none);
}

pub loop-id-preserved : goal.loop-id-preserved
loop-id-preserved c = record {
  met = met_more c.loop-id.met c.is_parent.new.met c.args.named.now c.loop-id.id-index _ c.loop-id-test.true c.in_ok-is_parent.ensures.met c.loop-id.invariant.met;
  parents = elim c.if-branch.branch [
    | then-branch+in_ok-push w ↦
        kept_more (stands_among c.args.joined.now (take c.args.count c.args.rows.now.rows)) c.args.named.now c.loop-id.parents c.if-branch.parents c.loop-id.id-index _ _ c.loop-id-test.true (c.loop-id.invariant.met _)
        (sym w.if-branch.true ∙ c.in_ok-is_parent.ensures.parent) (w.parents-is ∙ w.in_ok-push.ensures.ok) c.loop-id.invariant.parents
    | else-branch w ↦
        w.parents-is ∙ kept_same (stands_among c.args.joined.now (take c.args.count c.args.rows.now.rows)) c.args.named.now c.loop-id.parents c.loop-id.id-index _ _ c.loop-id-test.true (c.loop-id.invariant.met _)
        (sym w.if-branch.false ∙ c.in_ok-is_parent.ensures.parent) c.loop-id.invariant.parents
  ];
}
