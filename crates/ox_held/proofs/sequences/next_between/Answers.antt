use Rattle.ox_held.proofs.Between.{from_first, is_first, none_between, one_between, past_end, there_between}
use Rattle.ox_held.proofs.sequences.next_between.Goals.{in_default-via-in-Some+else-sat-end, in_default-via-in_default}
use Rattle.ox_held.proofs.sequences.next_between.Goals as goal

pub returns-in-Some : goal.returns-in-Some
returns-in-Some g c =
    let rows = (g.V.View.index c.args.live.now).inscriptions in
    let of = c.in-Some.ensures in
    record {
      told = one_between rows c.args.from c.args.end c.in-Some.sat c.in-Some.numbers.now of c.if-sat-end.true;
      first = is_first rows c.args.from c.args.end c.in-Some.sat c.in-Some.numbers.now of;
      between = (from_first rows c.args.from c.args.end c.in-Some.sat c.in-Some.numbers.now of, c.if-sat-end.true);
      there = there_between rows c.args.from c.args.end c.in-Some.sat c.in-Some.numbers.now of;
    }

pub returns-in_default-clause-told : goal.returns-in_default-clause-told
returns-in_default-clause-told g c =
    let rows = (g.V.View.index c.args.live.now).inscriptions in
    elim c.in_default.branch [
      | in_default-via-in-Some+else-sat-end w ↦
          past_end rows c.args.from c.args.end w.in-Some.sat w.in-Some.numbers.now w.in-Some.ensures w.if-sat-end.false
      | in_default-via-in_default w ↦ none_between rows c.args.from c.args.end w.in_default.ensures
    ]
