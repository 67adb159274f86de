use Rattle.std.proofs.Common.{◌∙◌, ap, arith, subst, sym}
use Rattle.std.proofs.lemmas.Result.{IfOk-weaker, on_ok_weaker}
use Rattle.ox_outside.specs.Files.{other}
use Rattle.ox_outside.proofs.Calls.{leaves_weaker}
use Rattle.ox_gated.specs.Tail.{Kept}
use Rattle.ox_gated.specs.declared.head.Head.{Head}
use Rattle.ox_store.specs.Heads.{Names}
use Rattle.ox_store.proofs.FilesOfStores.{after_record, after_turn, before_or_after, old_or_new}
use Rattle.ox_store.proofs.HeadLemmas.{names_next}
use Rattle.ox_store.proofs.writing.Writing.write.Goals as goal

pub append-requires-clause-fits : goal.append-requires-clause-fits
append-requires-clause-fits g c =
    let due = rw c.in-Append.is at c.requires.due in
    due.2

pub append-requires-clause-framed : goal.append-requires-clause-framed
append-requires-clause-framed g c =
    let due = rw c.in-Append.is at c.requires.due in
    due.1

pub returns-in-Append : goal.returns-in-Append
returns-in-Append g c = record {
  appended = λ stays. IfOk-weaker c.append.result _ _ (λ new kept. record { file = kept.0; head = kept.1; records = kept.2 }) c.append.ensures.kept;
  turned = λ must. let due = rw c.in-Append.is at c.requires.due in absurd (due.0 must);
  names = λ stack names. IfOk-weaker c.append.result _ _ (λ new kept. subst (λ (h : Head). Names h stack) (sym kept.1) names) c.append.ensures.kept;
  holds = c.append.ensures.holds;
  stands = λ told before after is led. let leads = rw c.in-Append.is at led in
      on_ok_weaker c.append.result
      (λ more. after_record c.in-Append.framed.payload (g.S.Site.seen c.args.site.now) (g.S.Site.seen c.append.new.site) before after is leads more)
      (c.append.ensures.appended told);
  any_moment = λ told before after is led. let leads = rw c.in-Append.is at led in
      leaves_weaker g.S.Site c.args.site.now c.append.new.site _ _
      (λ r either. before_or_after c.in-Append.framed.payload (g.S.Site.seen c.args.site.now) r.files before after is leads either)
      (c.append.ensures.any_moment told);
  failed = c.append.ensures.failed;
  counted = c.append.ensures.counted;
  writes = c.append.ensures.writes;
}

pub turn_to-requires-clause-generation : goal.turn_to-requires-clause-generation
turn_to-requires-clause-generation g c =
    let due = rw c.in-Turn.is at c.requires.due in
    omega (arith, ap (λ (h : Head). h.generation) due.1)

pub returns-in-Turn : goal.returns-in-Turn
returns-in-Turn g c = record {
  appended = λ stays. let due = rw c.in-Turn.is at c.requires.due in absurd (stays due.0);
  turned = λ must. let due = rw c.in-Turn.is at c.requires.due in
      IfOk-weaker c.turn_to.result _ _
      (λ new kept. record { file = ap (λ (t : Kept). t.file) kept; head = ap (λ (t : Kept). t.head) kept ∙ due.1; records = ap (λ (t : Kept). t.records) kept }) c.turn_to.ensures.kept;
  names = λ stack names. let due = rw c.in-Turn.is at c.requires.due in
      IfOk-weaker c.turn_to.result _ _
      (λ new kept. subst (λ (h : Head). Names h stack) (sym (ap (λ (t : Kept). t.head) kept ∙ due.1)) (names_next c.args.tail.head stack names)) c.turn_to.ensures.kept;
  holds = c.turn_to.ensures.holds;
  stands = λ told before after is led. let due = rw c.in-Turn.is at c.requires.due in let leads = rw c.in-Turn.is at led in
      on_ok_weaker c.turn_to.result
      (λ reads. after_turn (other c.args.tail.file) c.in-Turn.checkpoint (g.S.Site.seen c.turn_to.new.site) after (ap (λ (h : Head). h.version) due.1 ∙ due.0.0) leads reads)
      (c.turn_to.ensures.turned told);
  any_moment = λ told before after is led. let due = rw c.in-Turn.is at c.requires.due in let leads = rw c.in-Turn.is at led in
      leaves_weaker g.S.Site c.args.site.now c.turn_to.new.site _ _
      (λ r either. old_or_new (other c.args.tail.file) c.in-Turn.checkpoint (g.S.Site.seen c.args.site.now) r.files before after (ap (λ (h : Head). h.version) due.1 ∙ due.0.0) is leads either)
      (c.turn_to.ensures.any_moment told);
  failed = c.turn_to.ensures.failed;
  counted = c.turn_to.ensures.counted;
  writes = c.turn_to.ensures.writes;
}
