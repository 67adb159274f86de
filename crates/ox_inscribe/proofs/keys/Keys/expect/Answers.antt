use Rattle.ox_inscribe.proofs.keys.Keys.expect.Goals as goal

pub returns : goal.returns
returns c = λ rows found. record {
  firsts = found.firsts;
  sats = found.sats;
  parents = found.parents;
}
