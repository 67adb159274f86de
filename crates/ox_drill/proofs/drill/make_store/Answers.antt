use Rattle.ox_drill.proofs.Parts.{in_step, makes_as}
use Rattle.ox_drill.proofs.drill.make_store.Goals as goal

pub returns : goal.returns
returns g c =
    let made = c.make.ensures in
    let site = c.make.new.site in
    record {
      stack = made.stack;
      fresh = made.fresh;
      in_step = λ told. in_step g.S.Site c.make.result site (made.holds told) (made.stands told);
      empty = made.empty;
      not_empty = made.not_empty;
      spared = made.spared;
      none = makes_as g.S.Site c.make.result c.args.site.now site made.wrote_nothing made.writes;
      failed = made.failed;
      counted = made.counted;
      writes = made.writes;
    }
