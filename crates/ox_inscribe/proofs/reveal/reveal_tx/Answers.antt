use Rattle.std.proofs.Common.{sym, ap, ap₂, refl, ◌≡◌, ◌∙◌, ◌++◌, List, length}
use Rattle.std.specs.Prelude.{map, sum}
use Rattle.std.specs.Vec.{vec_len}
use Rattle.std.proofs.lemmas.Bool.{eqb-true}
use Rattle.ox_block.specs.declared.block.TxIn.{TxIn}
use Rattle.ox_block.specs.declared.block.TxOut.{TxOut}
use Rattle.ox_rules.specs.declared.rows.OutRow.{OutRow}
use Rattle.ox_inscribe.specs.Reveal.{Revealed, rows_of, sightings_from, sources_of}
use Rattle.ox_inscribe.specs.Scenes.{fees_of}
use Rattle.ox_inscribe.specs.declared.scene.Scene.{Scene}
use Rattle.ox_inscribe.proofs.FrontLaws.{all_front}
use Rattle.ox_inscribe.proofs.MapLaws.{on_ok}
use Rattle.ox_inscribe.proofs.TurnLaws.{by_scene, no_envelope, none_there, no_rows, no_fees}
use Rattle.ox_inscribe.proofs.reveal.reveal_tx.Goals as goal

pub returns-then-is_empty-clause-rows : goal.returns-then-is_empty-clause-rows
returns-then-is_empty-clause-rows c =
    let none : length c.in_ok-seen.seen.items ≡ 0 = sym c.in_ok-seen.seen.ok.0 ∙ eqb-true (vec_len c.in_ok-seen.seen) 0 (sym c.is_empty.ensures ∙ c.if-is_empty.true) in
    let seen : c.in_ok-seen.seen.items ≡ sightings_from 0 0 (sources_of c.args.tx.now.inputs c.args.did.now.spent) = c.in_ok-seen.ensures.seen ∙ ap₂ (λ (is : List TxIn) (rs : List OutRow). sightings_from 0 0 (sources_of is rs)) c.as_slice.ensures c.as_slice-2.ensures in
    no_rows c.args.rows.now.rows _ (no_envelope c.args.height c.args.tx.now c.args.did.now c.args.rows.now.rows c.in_ok-seen.seen.items seen (none_there c.in_ok-seen.seen.items none))

pub returns-then-is_empty-clause-fees : goal.returns-then-is_empty-clause-fees
returns-then-is_empty-clause-fees c =
    let none : length c.in_ok-seen.seen.items ≡ 0 = sym c.in_ok-seen.seen.ok.0 ∙ eqb-true (vec_len c.in_ok-seen.seen) 0 (sym c.is_empty.ensures ∙ c.if-is_empty.true) in
    let seen : c.in_ok-seen.seen.items ≡ sightings_from 0 0 (sources_of c.args.tx.now.inputs c.args.did.now.spent) = c.in_ok-seen.ensures.seen ∙ ap₂ (λ (is : List TxIn) (rs : List OutRow). sightings_from 0 0 (sources_of is rs)) c.as_slice.ensures c.as_slice-2.ensures in
    no_fees c.args.fees.now.items _ (no_envelope c.args.height c.args.tx.now c.args.did.now c.args.rows.now.rows c.in_ok-seen.seen.items seen (none_there c.in_ok-seen.seen.items none))

pub returns-clause-rows : goal.returns-clause-rows
returns-clause-rows c =
    let scene : Scene = record { txid = c.args.did.now.txid; height = c.args.height; joined = c.in_ok-new.field-0; taken = c.value_sum.result } in
    let seen : c.in_ok-seen.seen.items ≡ sightings_from 0 0 (sources_of c.args.tx.now.inputs c.args.did.now.spent) = c.in_ok-seen.ensures.seen ∙ ap₂ (λ (is : List TxIn) (rs : List OutRow). sightings_from 0 0 (sources_of is rs)) c.as_slice.ensures c.as_slice-2.ensures in
    let same = by_scene scene c.args.height c.args.tx.now c.args.did.now c.args.rows.now.rows c.in_ok-seen.seen.items refl refl c.in_ok-new.ensures (c.value_sum.ensures ∙ ap (λ (outs : List TxOut). sum (map (λ (output : TxOut). output.value) outs)) c.as_slice-3.ensures) seen in
    on_ok c.reveal_seen.result c.reveal_seen.ensures.rows (λ is. is ∙ ap (λ (found : List Revealed). c.args.rows.now.rows ++ rows_of found) same)

pub returns-clause-fees : goal.returns-clause-fees
returns-clause-fees c =
    let scene : Scene = record { txid = c.args.did.now.txid; height = c.args.height; joined = c.in_ok-new.field-0; taken = c.value_sum.result } in
    let seen : c.in_ok-seen.seen.items ≡ sightings_from 0 0 (sources_of c.args.tx.now.inputs c.args.did.now.spent) = c.in_ok-seen.ensures.seen ∙ ap₂ (λ (is : List TxIn) (rs : List OutRow). sightings_from 0 0 (sources_of is rs)) c.as_slice.ensures c.as_slice-2.ensures in
    let same = by_scene scene c.args.height c.args.tx.now c.args.did.now c.args.rows.now.rows c.in_ok-seen.seen.items refl refl c.in_ok-new.ensures (c.value_sum.ensures ∙ ap (λ (outs : List TxOut). sum (map (λ (output : TxOut). output.value) outs)) c.as_slice-3.ensures) seen in
    on_ok c.reveal_seen.result c.reveal_seen.ensures.fees (λ is. is ∙ ap (λ (found : List Revealed). c.args.fees.now.items ++ fees_of found) same)

pub returns-in_err-seen-clause-front : goal.returns-in_err-seen-clause-front
returns-in_err-seen-clause-front c = all_front c.args.rows.now.rows

pub returns-then-is_empty-clause-front : goal.returns-then-is_empty-clause-front
returns-then-is_empty-clause-front c = all_front c.args.rows.now.rows

pub returns-in_err-new-clause-front : goal.returns-in_err-new-clause-front
returns-in_err-new-clause-front c = all_front c.args.rows.now.rows

pub returns-clause-front : goal.returns-clause-front
returns-clause-front c = c.reveal_seen.ensures.front

pub returns-clause-jubilee : goal.returns-clause-jubilee
returns-clause-jubilee c = c.reveal_seen.ensures.jubilee
