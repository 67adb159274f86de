use Rattle.std.proofs.Common.{rules, arith, ◌+◌, ◌^◌, ◌%◌, refl}
use Rattle.std.proofs.lemmas.Nat.{pow_pos}
use Rattle.ox_shards.proofs.LineLemmas.{one_more, a_round_more, still_lawful}
use Rattle.ox_shards.proofs.lines.Lines.more.Goals as goal

pub invariant_of-result-then-level-lt-MOST_LEVEL : goal.invariant_of-result-then-level-lt-MOST_LEVEL
invariant_of-result-then-level-lt-MOST_LEVEL c = record {
  lawful = still_lawful c.args.self.now.level c.args.self.now.count c.args.self.now.lawful (search (rules, arith)) (search (rules, arith));
}

pub returns-then-count-half : goal.returns-then-count-half
returns-then-count-half c = record {
  more = refl;
  among = omega (arith, c.half-half.ensures, pow_pos c.args.self.now.level, c.args.self.now.lawful.many);
  leads = λ s. one_more c.args.self.now.level c.args.self.now.count c.half-half.result (s % 2 ^ (c.args.self.now.level + 1)) c.half-half.ensures;
}

pub returns-then-level-lt-MOST_LEVEL : goal.returns-then-level-lt-MOST_LEVEL
returns-then-level-lt-MOST_LEVEL c = record {
  more = refl;
  among = omega (arith, pow_pos c.args.self.now.level, c.args.self.now.lawful.many);
  leads = λ s. a_round_more c.args.self.now.level c.args.self.now.count s (omega (arith, c.half-half.ensures, c.if-count-half.false, c.args.self.now.lawful.few));
}
