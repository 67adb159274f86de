use Rattle.std.proofs.Common.{◌≡◌, ◌≤◌, take, All}
use Rattle.ox_sat.specs.Names.{IsLetter, letters_value}
use Rattle.ox_sat.proofs.Letters.{most_of}
use Rattle.ox_sat.proofs.spellings.read_letters.Given as goal

abbrev pub invariant-loop-letter : goal.invariant-loop-letter
invariant-loop-letter l = record {
  value : letters_value (take l.letter-index l.text) ≡ l.value;
  most : l.value ≤ most_of l.letter-index;
  letters : All IsLetter (take l.letter-index l.text);
}
