use Rattle.std.proofs.lemmas.Result.{on_ok_weaker}
use Rattle.ox_index.specs.Live.{index_in, profile_in}
use Rattle.ox_rows.specs.RowSpelling.{index_rows}
use Rattle.ox_checkpoint.proofs.KeepLemmas.{keeps_index}
use Rattle.ox_checkpoint.proofs.PutsLemmas.{puts_then}
use Rattle.ox_checkpoint.proofs.put.put_live.Goals as goal

pub returns-clause-put : goal.returns-clause-put
unfolding index_rows
returns-clause-put g c =
    let holds = g.K.Sink.holds in
    let went = g.K.Sink.went in
    let then_went = g.met.K.Sink.then_went in
    let front = puts_then holds went then_went _ _ c.in_ok-put_outputs.ensures.put c.in_ok-put_list_of.ensures.put in
    let both = puts_then holds went then_went _ _ front c.in_ok-put_balances.ensures.put in
    on_ok_weaker c.put_list_of-2.result (λ last. puts_then holds went then_went _ _ both last) c.put_list_of-2.ensures.put

pub returns-clause-fits : goal.returns-clause-fits
returns-clause-fits g c =
    let live = c.args.live.now in
    let keep = keeps_index (profile_in live) (index_in live) live.parts.known live.sound in
    let front = c.in_ok-put_outputs.ensures in
    on_ok_weaker c.put_list_of-2.result (λ last. record {
      hashes = front.hashes;
      outs = record { rising = keep.outs.rising; each = front.outputs };
      lost = front.lost;
      inscriptions = c.in_ok-put_list_of.ensures.fits;
      bal = record { rising = keep.bal.rising; each = c.in_ok-put_balances.ensures.fits };
      runes = last;
    }) c.put_list_of-2.ensures.fits
