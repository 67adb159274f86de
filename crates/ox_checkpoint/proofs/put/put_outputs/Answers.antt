use Rattle.std.proofs.Common.{◌∙◌, ◌++◌, List, ℕ, sym, ap, subst}
use Rattle.std.specs.Prelude.{All}
use Rattle.std.proofs.lemmas.Result.{on_ok_weaker}
use Rattle.ox_block.specs.declared.block.OutPoint.{OutPoint}
use Rattle.ox_rules.specs.declared.rows.OutRow.{OutRow}
use Rattle.ox_index.specs.Live.{index_in, profile_in}
use Rattle.ox_rows.specs.Fits.{AreSats, FitsList, IsHash}
use Rattle.ox_rows.specs.RowFits.{FitsOutput}
use Rattle.ox_rows.specs.RowSpelling.{output}
use Rattle.ox_rows.specs.Spelling.{hash, list, sats}
use Rattle.ox_checkpoint.proofs.KeepLemmas.{keeps_index}
use Rattle.ox_checkpoint.proofs.PutsLemmas.{puts_as, puts_then}
use Rattle.ox_checkpoint.proofs.put.put_outputs.Goals as goal

pub put_list_of-requires-2-clause-keeps : goal.put_list_of-requires-2-clause-keeps
put_list_of-requires-2-clause-keeps g c =
    let live = c.args.live.now in
    subst (All (λ (placed : OutPoint × OutRow). AreSats placed.1.sats)) (sym c.requires.order) (keeps_index (profile_in live) (index_in live) live.parts.known live.sound).outs.sats

pub put_lost-requires-clause-sats : goal.put_lost-requires-clause-sats
put_lost-requires-clause-sats g c = let live = c.args.live.now in (keeps_index (profile_in live) (index_in live) live.parts.known live.sound).lost

pub returns-clause-put : goal.returns-clause-put
returns-clause-put g c =
    let holds = g.K.Sink.holds in
    let went = g.K.Sink.went in
    let then_went = g.met.K.Sink.then_went in
    let index = index_in c.args.live.now in
    let same = ap (λ (hashes : List (List ℕ)). list hash hashes ++ list output c.args.order.now ++ sats index.lost) c.hashes.ensures
    ∙ ap (λ (order : List (OutPoint × OutRow)). list hash index.hashes ++ list output order ++ sats index.lost) c.requires.order in
    let front = puts_then holds went then_went _ _ c.in_ok-put_list_of.ensures.put c.in_ok-put_list_of-2.ensures.put in
    on_ok_weaker c.put_lost.result (λ last. puts_as holds went same (puts_then holds went then_went _ _ front last)) c.put_lost.ensures.put

pub returns-clause-hashes : goal.returns-clause-hashes
returns-clause-hashes g c = on_ok_weaker c.put_lost.result (λ last. subst (FitsList IsHash) c.hashes.ensures c.in_ok-put_list_of.ensures.fits) c.put_lost.ensures.fits

pub returns-clause-outputs : goal.returns-clause-outputs
returns-clause-outputs g c = on_ok_weaker c.put_lost.result (λ last. subst (FitsList FitsOutput) c.requires.order c.in_ok-put_list_of-2.ensures.fits) c.put_lost.ensures.fits
