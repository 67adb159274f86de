use Rattle.std.proofs.Common.{ap, subst, sym}
use Rattle.std.proofs.lemmas.Result.{IfOk-weaker, on_ok_weaker}
use Rattle.ox_outside.specs.Files.{other}
use Rattle.ox_outside.proofs.Calls.{leaves_weaker}
use Rattle.ox_gated.specs.Tail.{Kept}
use Rattle.ox_gated.specs.declared.head.Head.{Head}
use Rattle.ox_pieces.specs.Follower.{NamesLed, position_of}
use Rattle.ox_pieces.proofs.HeadsOfPieces.{names_later, version_later}
use Rattle.ox_pieces.proofs.StoodFiles.{appended, appended_or_not, next_position, turned, turned_or_not}
use Rattle.ox_pieces.proofs.writing.Writing.write.Goals as goal

pub append-requires-clause-framed : goal.append-requires-clause-framed
append-requires-clause-framed g c =
    let can = rw c.in-Append.is at c.requires.can in
    can.0

pub append-requires-clause-fits : goal.append-requires-clause-fits
append-requires-clause-fits g c =
    let can = rw c.in-Append.is at c.requires.can in
    can.1

pub returns-in-Append : goal.returns-in-Append
returns-in-Append g c =
    let tail = c.args.tail in
    let old = g.S.Site.seen c.args.site.now in record {
      position = rw c.in-Append.is (IfOk-weaker c.append.result _ _ (λ new kept. next_position tail new kept.1 kept.2) c.append.ensures.kept);
      names = λ stack names. IfOk-weaker c.append.result _ _ (λ new kept. subst (λ (h : Head). NamesLed h stack) (sym kept.1) names) c.append.ensures.kept;
      holds = c.append.ensures.holds;
      stood = λ told before after is led. let leads = rw c.in-Append.is at led in
          rw c.in-Append.is (on_ok_weaker c.append.result
          (appended tail c.in-Append.framed.payload old (g.S.Site.seen c.append.new.site) before after (c.requires.holds told).keeps is leads)
          (c.append.ensures.appended told));
      any_moment = λ told before after is led. let leads = rw c.in-Append.is at led in
          rw c.in-Append.is (leaves_weaker g.S.Site c.args.site.now c.append.new.site _ _
          (λ r either. appended_or_not tail c.in-Append.framed.payload old r.files before after (c.requires.holds told).keeps is leads either)
          (c.append.ensures.any_moment told));
      failed = c.append.ensures.failed;
      counted = c.append.ensures.counted;
      writes = c.append.ensures.writes;
    }

pub turn_to-requires-clause-generation : goal.turn_to-requires-clause-generation
turn_to-requires-clause-generation g c =
    let can = rw c.in-Turn.is at c.requires.can in
    can.greater

pub returns-in-Turn : goal.returns-in-Turn
returns-in-Turn g c =
    let file = other c.args.tail.file in
    let whole = c.in-Turn.checkpoint in
    let old = g.S.Site.seen c.args.site.now in record {
      position = rw c.in-Turn.is (IfOk-weaker c.turn_to.result _ _ (λ new kept. ap position_of kept) c.turn_to.ensures.kept);
      names = λ stack names. let can = rw c.in-Turn.is at c.requires.can in
          IfOk-weaker c.turn_to.result _ _
          (λ new kept. subst (λ (h : Head). NamesLed h stack) (sym (ap (λ (t : Kept). t.head) kept))
          (record { version = version_later c.args.tail.head whole.head can names.version; names = names_later c.args.tail.head whole.head stack can names.names })) c.turn_to.ensures.kept;
      holds = c.turn_to.ensures.holds;
      stood = λ told before after is led. let can = rw c.in-Turn.is at c.requires.can in let leads = rw c.in-Turn.is at led in
          rw c.in-Turn.is (on_ok_weaker c.turn_to.result
          (λ reads. turned file whole (g.S.Site.seen c.turn_to.new.site) after (version_later c.args.tail.head whole.head can c.requires.version) leads reads)
          (c.turn_to.ensures.turned told));
      any_moment = λ told before after is led. let can = rw c.in-Turn.is at c.requires.can in let leads = rw c.in-Turn.is at led in
          rw c.in-Turn.is (leaves_weaker g.S.Site c.args.site.now c.turn_to.new.site _ _
          (λ r either. turned_or_not file whole old r.files before after (version_later c.args.tail.head whole.head can c.requires.version) is leads either)
          (c.turn_to.ensures.any_moment told));
      failed = c.turn_to.ensures.failed;
      counted = c.turn_to.ensures.counted;
      writes = c.turn_to.ensures.writes;
    }
