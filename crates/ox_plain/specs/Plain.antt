-- Which index it is that stands as plain data.
use Rattle.std.specs.FinMap.{from_entries}
use Rattle.ox_model.specs.Index.{Index as IndexOfChain}
use Rattle.ox_plain.specs.declared.index.Index.{Index}

-- the index, whatever the order in which its tables were filled
abbrev pub index_in : Index → IndexOfChain
index_in plain = record {
  hashes = plain.hashes;
  outs = from_entries plain.outs.entries;
  lost = plain.lost;
  inscriptions = plain.inscriptions;
  bal = from_entries plain.bal.entries;
  runes = plain.runes;
}
