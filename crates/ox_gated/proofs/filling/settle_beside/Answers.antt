use Rattle.std.proofs.Common.{◌∙◌, ap}
use Rattle.ox_outside.proofs.Counts.{file_call}
use Rattle.ox_outside.specs.Files.{other}
use Rattle.ox_gated.proofs.BehindGate.{pours_sync, settled_beside}
use Rattle.ox_gated.proofs.filling.settle_beside.Goals as goal

pub returns-clause-settled : goal.returns-clause-settled
returns-clause-settled g c told =
    let e = c.sync.ensures in
    settled_beside g.S.Site g.met.S.Site.only_now g.met.S.Site.logs_now c.args.tail.now c.args.site.now c.sync.new.self c.requires.shut e.files.as_logged e.call e.files c.other_file.result (c.other_file.ensures ∙ ap other c.file.ensures) c.sync.result e.durable told

pub returns-clause-pours : goal.returns-clause-pours
returns-clause-pours g c =
    let e = c.sync.ensures in
    pours_sync g.S.Site g.met.S.Site.only_now g.met.S.Site.logs_now c.args.tail.now c.args.site.now c.sync.new.self c.requires.shut e.files.as_logged e.call e.files

pub returns-clause-counted : goal.returns-clause-counted
returns-clause-counted g c = file_call _ _ _ c.sync.ensures.counted
