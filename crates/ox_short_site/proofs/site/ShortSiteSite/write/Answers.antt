use Rattle.std.proofs.Common.{◌≤◌, length, arith}
use Rattle.ox_short_site.proofs.TornWrites.{on_err, torn_file_wider, written_torn_file}
use Rattle.ox_short_site.proofs.TornWrites.{tears_wider}
use Rattle.ox_short_site.proofs.site.ShortSiteSite.write.Goals as goal

pub returns-in_err-write-clause-cut_short : goal.returns-in_err-write-clause-cut_short
returns-in_err-write-clause-cut_short g c told =
    let within : length c.split_at.result.0.now ≤ length c.args.bytes.now =
    omega (arith, c.split_at.ensures.front_len, c.of.ensures.most) in
    let torn = c.in_err-write.ensures.cut_short told in
    on_err c.from_residual.result (torn_file_wider c.args.file c.args.at _ _ _ _ within torn)

pub returns-in_err-write-clause-crash : goal.returns-in_err-write-clause-crash
returns-in_err-write-clause-crash g c =
    tears_wider c.args.file c.args.at _ _ _ _
    (omega (arith, c.split_at.ensures.front_len, c.of.ensures.most)) c.write-2.ensures.crash

pub returns-clause-cut_short : goal.returns-clause-cut_short
returns-clause-cut_short g c told =
    written_torn_file c.args.file c.args.at _ c.split_at.result.0.now _ _ (c.requires told)
    (omega (arith, c.split_at.ensures.front_len, c.of.ensures.most))
    (c.in_ok-write.ensures.written told)

pub returns-clause-crash : goal.returns-clause-crash
returns-clause-crash g c =
    tears_wider c.args.file c.args.at _ _ _ _
    (omega (arith, c.split_at.ensures.front_len, c.of.ensures.most)) c.write-2.ensures.crash
