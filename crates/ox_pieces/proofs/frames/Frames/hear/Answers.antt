use Rattle.std.proofs.Common.{◌≡◌, ◌≤◌, ◌∙◌, ℕ, List, length, ap, arith}
use Rattle.ox_feed.specs.Feed.{Feed}
use Rattle.ox_follow.proofs.Reading.{more_is_short}
use Rattle.ox_pieces.proofs.FramesInTurn.{not_ready}
use Rattle.ox_pieces.proofs.frames.Frames.hear.Goals as goal

pub invariant_of-self-in-Some : goal.invariant_of-self-in-Some
invariant_of-self-in-Some g c =
    let short : length c.args.self.now.rest ≤ 4294967323 = more_is_short c.args.self.now.rest (not_ready c.args.self.now c.requires).1 in
    let left : length c.forget.new.bytes.items ≡ length c.args.self.now.rest =
    ap (λ (l : List ℕ). length l) c.forget.ensures ∙ ap (λ (f : Feed). length f.rest) c.self.view_is in
    let some = rw c.in-Some.is at c.in_ok-n.ensures.some in
    let count = rw c.in-Some.is at c.in_ok-n.ensures.count in
    (omega arith, omega (arith, some.1, c.min-most.ensures, c.self.invariant.1), omega (arith, short, left, count, some.1, c.min-most.ensures, c.hear_behind.new.bytes.ok.0))

pub returns-in-Some-clause-size : goal.returns-in-Some-clause-size
returns-in-Some-clause-size g c =
    let short : length c.args.self.now.rest ≤ 4294967323 = more_is_short c.args.self.now.rest (not_ready c.args.self.now c.requires).1 in
    let left : length c.forget.new.bytes.items ≡ length c.args.self.now.rest =
    ap (λ (l : List ℕ). length l) c.forget.ensures ∙ ap (λ (f : Feed). length f.rest) c.self.view_is in
    let some = rw c.in-Some.is at c.in_ok-n.ensures.some in
    let count = rw c.in-Some.is at c.in_ok-n.ensures.count in
    omega (arith, short, left, count, some.1, c.min-most.ensures)
