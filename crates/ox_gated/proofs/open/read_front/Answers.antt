use Rattle.std.proofs.Common.{◌∙◌, ◌+◌, ap}
use Rattle.std.proofs.lemmas.Result.{err_from_is_err_and}
use Rattle.std.specs.Prelude.{slice_range}
use Rattle.ox_outside.specs.Files.{Files, file_of}
use Rattle.ox_outside.proofs.Calls.{looks_then}
use Rattle.ox_outside.proofs.Counts.{file_call, no_fault_then, stops_at_none}
use Rattle.ox_gated.proofs.ChoiceByFronts.{front_is}
use Rattle.ox_gated.proofs.OneWrite.{file_worked, if_none, looks_one, read_failed, read_worked}
use Rattle.ox_gated.proofs.open.read_front.Goals as goal

pub returns-in_err-len : goal.returns-in_err-len
returns-in_err-len g c =
    let result = c.from_residual.result in
    let p = err_from_is_err_and result c.from_residual.ensures.1 in
    let e = c.len.ensures in record {
      len = λ told. if_none result p.0 p.1 _;
      bytes = λ told. if_none result p.0 p.1 _;
      size = if_none result p.0 p.1 _;
      looks = looks_one g.S.Site g.met.S.Site.only_now c.args.site.now c.len.new.self e.files e.call;
      failed = λ is. c.in_err-len.ensures.failed;
      counted = read_failed c.len.result result p.0 _ _ p.1 p.2 (file_call _ _ _ e.counted);
    }

pub returns-clause-bytes : goal.returns-clause-bytes
returns-clause-bytes g c told =
    let told_mid = c.in_ok-len.ensures.call.as_told ∙ told in
    let read = c.in_ok-bytes.ensures.bytes told_mid in
    let moved = ap (λ (f : Files). slice_range (file_of f c.args.file) 0 (0 + c.min.result)) c.in_ok-len.ensures.files.files in
    front_is (file_of (g.S.Site.seen c.args.site.now) c.args.file) c.in_ok-bytes.bytes.items c.in_ok-len.len c.min.result (c.in_ok-len.ensures.length told) c.min.ensures (read ∙ moved)

pub returns-clause-looks : goal.returns-clause-looks
returns-clause-looks g c =
    let first = c.in_ok-len.ensures in
    looks_then g.S.Site c.args.site.now c.len.new.self c.read_part.new.site (looks_one g.S.Site g.met.S.Site.only_now c.args.site.now c.len.new.self first.files first.call) c.in_ok-bytes.ensures.looks

pub returns-clause-counted : goal.returns-clause-counted
returns-clause-counted g c =
    stops_at_none _ _ _ _ _ (no_fault_then _ _ _ (file_worked _ _ _ c.in_ok-len.ensures.counted) (read_worked c.in_ok-bytes.bytes _ _ c.in_ok-bytes.ensures.counted))
