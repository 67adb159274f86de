use Rattle.std.proofs.Common.{◌≡◌, ◌∙◌, ap, subst}
use Rattle.std.specs.Prelude.{OnOk}
use Rattle.ox_outside.proofs.Counts.{file_call}
use Rattle.ox_outside.specs.Files.{other}
use Rattle.ox_outside.specs.declared.site.Which.{Which}
use Rattle.ox_gated.specs.Written.{with_write}
use Rattle.ox_gated.proofs.BehindGate.{pours_write}
use Rattle.ox_gated.proofs.filling.pour.Goals as goal

pub returns-clause-written : goal.returns-clause-written
returns-clause-written g c told =
    let is = c.other_file.ensures ∙ ap other c.file.ensures in
    subst (λ (f : Which). OnOk c.write.result (g.S.Site.seen c.write.new.self ≡ with_write f c.args.at c.args.piece.now (g.S.Site.seen c.args.site.now))) is (c.write.ensures.written told)

pub returns-clause-pours : goal.returns-clause-pours
returns-clause-pours g c =
    let e = c.write.ensures in
    pours_write g.S.Site g.met.S.Site.only_now g.met.S.Site.logs_now c.args.tail.now c.args.site.now c.write.new.self c.requires.shut e.logged e.call c.other_file.result (c.other_file.ensures ∙ ap other c.file.ensures) c.args.at c.requires.behind c.args.piece.now c.write.result e.written e.cut_short e.crash

pub returns-clause-counted : goal.returns-clause-counted
returns-clause-counted g c = file_call _ _ _ c.write.ensures.counted
