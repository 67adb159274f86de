use Rattle.ox_index.specs.Live.{index_in}
use Rattle.ox_index.proofs.Holding.{placed_found}
use Rattle.ox_index.proofs.live.Live.plain.Goals as goal

pub tables_of-requires : goal.tables_of-requires
tables_of-requires c = placed_found (index_in c.args.self.now) c.args.self.now.sound.runes.placed

pub returns : goal.returns
returns c = λ i. record {
  hashes = c.in_ok-hashes.ensures.hashes i;
  outs = c.in_ok-outs.ensures.outs i;
  lost = c.in_ok-hashes.ensures.lost i;
  inscriptions = c.in_ok-inscriptions.ensures i;
  bal = c.in_ok-outs.ensures.balances i;
  runes = c.in_ok-runes.ensures i;
}
