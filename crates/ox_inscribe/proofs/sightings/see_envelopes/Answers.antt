use Rattle.std.proofs.Common.{ap, List, ◌∙◌, ◌++◌, ◌∷◌, []}
use Rattle.std.specs.Prelude.{map}
use Rattle.ox_envelope.specs.Envelope.{EnvelopePushes, envelopes}
use Rattle.ox_envelope.specs.Payload.{inscribed_of}
use Rattle.ox_envelope.specs.declared.inscribed.Inscribed.{Inscribed}
use Rattle.ox_inscribe.specs.Reveal.{sightings_in}
use Rattle.ox_inscribe.proofs.SeenLaws.{see_more, see_all}
use Rattle.ox_inscribe.proofs.sightings.see_envelopes.Goals as goal

pub loop-place-init : goal.loop-place-init
loop-place-init c =
    ap (λ (found : List EnvelopePushes). c.args.seen.now.items ++ sightings_in c.args.input c.args.before c.args.sats 0 (map inscribed_of found))
    (c.as_slice-envelopes.ensures ∙ c.in_ok-found.ensures.found ∙ ap envelopes c.tapscript_of.ensures)

pub loop-place-preserved : goal.loop-place-preserved
loop-place-preserved c =
    see_more c.loop-place.seen.items _ _ c.args.input c.args.before c.args.sats c.loop-place.place c.as_slice-envelopes.result.now c.index-envelopes-place.result c.loop-place-test.true c.index-envelopes-place.is
    (c.in_ok-push_seen.ensures
    ∙ ap (λ (says : Inscribed). c.loop-place.seen.items ++ (record { says = says; input = c.args.input; place = c.loop-place.place; before = c.args.before; sats = c.args.sats }) ∷ []) c.in_ok-says.ensures)
    c.loop-place.invariant

pub returns : goal.returns
returns c = see_all c.loop-place.seen.items _ c.args.input c.args.before c.args.sats c.loop-place.place c.as_slice-envelopes.result.now c.loop-place-test.false c.loop-place.invariant
