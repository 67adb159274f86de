use Rattle.std.proofs.Common.{◌≡◌, ◌≤◌, ◌-◌, ◌++◌, length, take, drop, reverse}
use Rattle.ox_sat.specs.Names.{letters, name_of}
use Rattle.ox_sat.proofs.Letters.{most_of}
use Rattle.ox_sat.proofs.names.write_name.Given as goal

abbrev pub invariant-loop-left : goal.invariant-loop-left
invariant-loop-left l = record {
  size : length l.into ≡ 11;
  within : l.len ≤ 11;
  small : l.left ≤ most_of (11 - l.len);
  name : letters (11 - l.len) l.left ++ reverse (take l.len l.into) ≡ name_of l.p l.fn.sat;
  rest : drop l.len l.into ≡ drop l.len l.fn.into;
}

abbrev pub decreases-loop-left : goal.decreases-loop-left
decreases-loop-left l = l.left
