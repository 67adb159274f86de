use Rattle.std.proofs.Common.{◌≡◌, ◌+◌, ◌-◌, ◌≤◌, ◌<◌, length, refl, sym, ap, ◌∙◌, arith, append-nil, take_at, length-set, length-take-le, drop}
use Rattle.std.proofs.lemmas.List.{drop-set-lt, drop-drop}
use Rattle.ox_sat.proofs.Epochs.{counts}
use Rattle.ox_sat.proofs.Letters.{most_of, name_begins, room_for, fewer, letter_more, letters-zero}
use Rattle.ox_sat.proofs.names.write_name.Goals as goal

pub loop-left-init : goal.loop-left-init
loop-left-init c = record {
  size = omega arith;
  within = omega arith;
  small = name_begins c.args.p.now c.args.sat (counts c.args.p.now c.requires.known);
  name = append-nil _;
  rest = refl;
}

pub bounds-into-len : goal.bounds-into-len
bounds-into-len c = room_for c.loop-left.len c.loop-left.left c.loop-left.invariant.within c.loop-left-test.true c.loop-left.invariant.small

pub loop-left-preserved : goal.loop-left-preserved
loop-left-preserved c =
    let room : c.loop-left.len < 11 = bounds-into-len c in
    let one : 11 - c.loop-left.len ≡ 11 - (c.loop-left.len + 1) + 1 = omega arith in
    let small : c.loop-left.left ≤ most_of (11 - (c.loop-left.len + 1) + 1) = rw (sym one) c.loop-left.invariant.small in
    record {
      size = length-set c.loop-left.into c.loop-left.len _ ∙ c.loop-left.invariant.size;
      within = omega arith;
      small = fewer (11 - (c.loop-left.len + 1)) c.loop-left.left c.loop-left-test.true small;
      name = letter_more (11 - (c.loop-left.len + 1)) c.loop-left.left c.loop-left.into c.loop-left.len _ c.loop-left-test.true (omega (arith, room)) refl ∙ rw (sym one) c.loop-left.invariant.name;
      rest = drop-set-lt (c.loop-left.len + 1) c.loop-left.into c.loop-left.len _ (omega arith) ∙ sym (drop-drop 1 c.loop-left.len c.loop-left.into) ∙ ap (drop 1) c.loop-left.invariant.rest ∙ drop-drop 1 c.loop-left.len c.args.into.now;
    }

pub returns-clause-name : goal.returns-clause-name
returns-clause-name c =
    let len : length c.reverse.new.self ≡ c.loop-left.len = c.reverse.ensures.len ∙ length-take-le c.loop-left.len c.loop-left.into (omega arith) in
    let written : c.loop-left.left ≡ 0 = omega arith in
    let name = rw (written, letters-zero (11 - c.loop-left.len)) at c.loop-left.invariant.name in
    rw (take_at c.reverse.new.self _ c.loop-left.len len, c.reverse.ensures.after) name
