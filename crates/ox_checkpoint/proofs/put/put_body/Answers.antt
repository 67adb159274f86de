use Rattle.ox_index.specs.Live.{index_in, profile_in}
use Rattle.ox_files.specs.Body.{body_rows}
use Rattle.ox_checkpoint.proofs.KeepLemmas.{each_keeps}
use Rattle.ox_checkpoint.proofs.PutsLemmas.{all_taken, puts_then}
use Rattle.ox_checkpoint.proofs.put.put_body.Goals as goal

pub put_list_of-requires-clause-keeps : goal.put_list_of-requires-clause-keeps
put_list_of-requires-clause-keeps g c =
    let live = c.args.live.now in
    each_keeps (profile_in live) (index_in live) c.args.changes.now.kept live.parts.known live.sound c.requires.end

pub returns-in-Ok-clause-ok : goal.returns-in-Ok-clause-ok
unfolding body_rows
returns-in-Ok-clause-ok g c =
    let holds = g.K.Sink.holds in
    let went = g.K.Sink.went in
    let both = puts_then holds went g.met.K.Sink.then_went _ _ c.in_ok-put_live.ensures.put c.in_ok-put_list_of.ensures.put in
    all_taken holds went _ c.empty.ensures c.as_slice.ensures both c.in-Ok.ensures.holds

pub returns-in-Ok-clause-fits : goal.returns-in-Ok-clause-fits
returns-in-Ok-clause-fits g c = record { index = c.in_ok-put_live.ensures.fits; changes = c.in_ok-put_list_of.ensures.fits }
