-- No more bytes than there are.
use Rattle.std.proofs.Common.{◌≡◌, length, min, arith, ◌∙◌}
use Rattle.ox_http.proofs.Fronts.{take_limit}
use Rattle.ox_http.proofs.reader.front.Goals as goal

pub returns : goal.returns
returns c =
    c.split_at.ensures.front
    ∙ take_limit c.min.result c.args.bytes.now
    (let is : c.min.result ≡ min 8192 (length c.args.bytes.now) = omega arith in is)
