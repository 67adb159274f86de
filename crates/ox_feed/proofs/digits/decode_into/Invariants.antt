use Rattle.std.proofs.Common.{◌≡◌, ◌*◌, true, false, take, drop}
use Rattle.std.specs.Prelude.{IsErr}
use Rattle.hex.specs.Hex.{decode_pairs}
use Rattle.hex.proofs.Pairs.{prepend}
use Rattle.ox_feed.proofs.digits.decode_into.Given as goal

abbrev pub invariant-loop-i : goal.invariant-loop-i
invariant-loop-i l =
    (l.all ≡ true → decode_pairs 0 l.digits ≡ prepend (take l.i l.bytes) (decode_pairs (2 * l.i) (drop (2 * l.i) l.digits)))
    × (l.all ≡ false → IsErr (decode_pairs 0 l.digits))
