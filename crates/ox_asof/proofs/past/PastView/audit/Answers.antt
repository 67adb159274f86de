use Rattle.std.proofs.Common.{◌≡◌, ◌∙◌, ◌<◌, ◌++◌, ◌+◌, List, drop, map, length, slice_get, IfSome, Option, sym, ap, subst, arith}
use Rattle.ox_sat.specs.declared.profiles.Profile.{Profile}
use Rattle.ox_sat.specs.Heights.{first_at}
use Rattle.ox_etching.specs.declared.row.RuneRow.{RuneRow}
use Rattle.ox_model.specs.Audit.{rune_audit}
use Rattle.ox_model.specs.declared.audit.RuneAudit.{RuneAudit}
use Rattle.ox_index.proofs.Audits.{adds_up, all_done, lost_within, one_more}
use Rattle.ox_asof.specs.Shown.{shown}
use Rattle.ox_asof.specs.Undone.{undone_by}
use Rattle.ox_asof.specs.declared.lengths.Lengths.{Lengths}
use Rattle.ox_asof.proofs.Amounting.{audit_told, burned_within, made_fits}
use Rattle.ox_asof.proofs.past.PastView.audit.Goals as goal

pub rune-requires : goal.rune-requires
rune-requires g c =
    let past = c.args.self.now in
    let many = ap (λ (l : Lengths). l.runes) past.counted in
    omega (arith, many, c.loop-n-test.true)

pub rune_audit-requires-clause-fits : goal.rune_audit-requires-clause-fits
rune_audit-requires-clause-fits g c =
    let past = c.args.self.now in
    made_fits (g.V.View.chain past.view.now) (shown past.has_runes (undone_by (g.V.View.index past.view.now) past.undone)) past.sound c.loop-n.n c.rune.result.now c.rune.ensures

pub rune_audit-requires-clause-burned : goal.rune_audit-requires-clause-burned
rune_audit-requires-clause-burned g c =
    let past = c.args.self.now in
    burned_within (g.V.View.chain past.view.now) (shown past.has_runes (undone_by (g.V.View.index past.view.now) past.undone)) past.sound c.loop-n.n c.rune.result.now c.rune.ensures

pub loop-n-preserved : goal.loop-n-preserved
loop-n-preserved g c =
    let past = c.args.self.now in
    let p = g.V.View.chain past.view.now in
    let index = shown past.has_runes (undone_by (g.V.View.index past.view.now) past.undone) in
    let many = ap (λ (l : Lengths). l.runes) past.counted in
    let less : c.loop-n.n < length index.runes = omega (arith, many, c.loop-n-test.true) in
    let told : IfSome (slice_get index.runes c.loop-n.n) (λ row. c.rune_audit.result ≡ rune_audit index row) =
    subst (λ (o : Option RuneRow). IfSome o (λ row. c.rune_audit.result ≡ rune_audit index row)) (sym c.rune.ensures)
    (audit_told p index past.sound c.loop-n.n c.rune.result.now c.rune.ensures c.rune_audit.result c.rune_audit.ensures) in
    subst (λ (audits : List RuneAudit). audits ++ map (rune_audit index) (drop (c.loop-n.n + 1) index.runes) ≡ map (rune_audit index) index.runes) (sym c.in_ok-push.ensures.ok)
    (one_more (rune_audit index) index.runes c.loop-n.n c.loop-n.runes c.loop-n.invariant c.rune_audit.result less told)

pub overflow_sub-result : goal.overflow_sub-result
overflow_sub-result g c =
    let past = c.args.self.now in
    let p = g.V.View.chain past.view.now in
    let index = shown past.has_runes (undone_by (g.V.View.index past.view.now) past.undone) in
    lost_within p index past.sound c.first-claimable.result past.lengths.lost
    (c.first-claimable.ensures.value ∙ ap (λ (q : Profile). first_at q c.from.result) c.profile.ensures ∙ ap (first_at p) (c.from.ensures ∙ ap (λ (l : Lengths). l.blocks) past.counted))
    (ap (λ (l : Lengths). l.lost) past.counted)

pub returns : goal.returns
returns g c =
    let past = c.args.self.now in
    let p = g.V.View.chain past.view.now in
    let index = shown past.has_runes (undone_by (g.V.View.index past.view.now) past.undone) in
    let many = ap (λ (l : Lengths). l.runes) past.counted in
    adds_up p index past.sound c.first-claimable.result past.lengths.lost
    (c.first-claimable.ensures.value ∙ ap (λ (q : Profile). first_at q c.from.result) c.profile.ensures ∙ ap (first_at p) (c.from.ensures ∙ ap (λ (l : Lengths). l.blocks) past.counted))
    (ap (λ (l : Lengths). l.lost) past.counted) c.loop-n.runes
    (all_done (rune_audit index) index.runes c.loop-n.n c.loop-n.runes c.loop-n.invariant (omega (arith, many, c.loop-n-test.false)))
