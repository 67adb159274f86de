use Rattle.std.proofs.lemmas.Result.{err_from_is_err_and}
use Rattle.ox_outside.proofs.Calls.{looks_none}
use Rattle.ox_outside.proofs.Counts.{file_call, no_fault_yet, stops_at_none}
use Rattle.ox_gated.proofs.OneWrite.{file_worked, if_none, looks_one, no_disk, read_failed}
use Rattle.ox_gated.proofs.open.read_part.Goals as goal

pub returns-in_err-bytes : goal.returns-in_err-bytes
returns-in_err-bytes g c =
    let result = c.from_residual.result in
    let p = err_from_is_err_and result c.from_residual.ensures.1 in record {
      bytes = λ told. if_none result p.0 p.1 _;
      size = if_none result p.0 p.1 _;
      looks = looks_none g.S.Site g.met.S.Site.only_now c.args.site.now;
      failed = λ is. absurd (no_disk result p.0 p.1 p.2 is);
      counted = stops_at_none _ _ _ _ _ (no_fault_yet _);
    }

pub returns-in_err-read : goal.returns-in_err-read
returns-in_err-read g c =
    let result = c.from_residual-in_err-read.result in
    let p = err_from_is_err_and result c.from_residual-in_err-read.ensures.1 in
    let e = c.read.ensures in record {
      bytes = λ told. if_none result p.0 p.1 _;
      size = if_none result p.0 p.1 _;
      looks = looks_one g.S.Site g.met.S.Site.only_now c.args.site.now c.read.new.self e.files e.call;
      failed = λ is. c.in_err-read.ensures.failed;
      counted = read_failed c.read.result result p.0 _ _ p.1 p.2 (file_call _ _ _ e.counted);
    }

pub returns-clause-looks : goal.returns-clause-looks
returns-clause-looks g c = looks_one g.S.Site g.met.S.Site.only_now c.args.site.now c.read.new.self c.in_ok-read.ensures.files c.in_ok-read.ensures.call

pub returns-clause-counted : goal.returns-clause-counted
returns-clause-counted g c = stops_at_none _ _ _ _ _ (file_worked _ _ _ c.in_ok-read.ensures.counted)
