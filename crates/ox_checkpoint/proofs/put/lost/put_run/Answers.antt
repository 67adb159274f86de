use Rattle.std.specs.Int.{w64, to_le_bytes}
use Rattle.std.proofs.lemmas.Result.{on_ok_weaker}
use Rattle.ox_rows.proofs.Putting.{more}
use Rattle.ox_checkpoint.proofs.put.lost.put_run.Goals as goal

pub returns : goal.returns
returns c =
    on_ok_weaker c.put_u64le-2.result
    (λ last. more c.args.bytes.now (to_le_bytes w64 c.args.one.first) (to_le_bytes w64 c.args.one.count) c.in_ok-put_u64le.ensures.ok last)
    c.put_u64le-2.ensures.ok
