use Rattle.std.proofs.Common.{arith}
use Rattle.ox_feed.proofs.Parts.{no_line}
use Rattle.ox_feed.proofs.held.Held.hear.Goals as goal

pub returns-then-most-eq0-clause-too_much : goal.returns-then-most-eq0-clause-too_much
returns-then-most-eq0-clause-too_much g c = λ _. record {
  heard = omega (arith, c.requires.sound.count);
  more = c.requires.more;
  no_line = no_line c.args.self.now.begun c.args.self.now.piece c.requires.sound.no_feed c.requires.none;
}
