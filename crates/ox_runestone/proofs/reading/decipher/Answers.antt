use Rattle.std.proofs.Common.{ap, subst, sym, ◌∙◌}
use Rattle.std.specs.Option.{option_map}
use Rattle.ox_runestone.specs.Message.{message_of, edicts_of}
use Rattle.ox_runestone.specs.Artifact.{artifact_from, of_message}
use Rattle.ox_runestone.proofs.ArtifactFromFields.{silent, speaks}
use Rattle.ox_runestone.proofs.ArtifactCanCome.{artifact_can}
use Rattle.ox_runestone.proofs.EdictIdsDontFall.{rising_of}
use Rattle.ox_runestone.specs.Spelling.{EdictsDontFall}
use Rattle.ox_runestone.proofs.reading.decipher.Goals as goal

pub returns-in_default-clause-exact : goal.returns-in_default-clause-exact
returns-in_default-clause-exact c = silent c.args.script.now c.args.outputs (sym c.in_ok-integers.ensures ∙ ap (option_map (λ v. v.items)) c.in_default.is)

pub returns-clause-exact : goal.returns-clause-exact
returns-clause-exact c =
    c.artifact_from.ensures (message_of c.as_slice.result.now).fields c.read_message-rest.ensures.fields
    ∙ ap (λ l. artifact_from c.args.outputs (message_of c.as_slice.result.now).fields l (option_map (λ v. v.items) c.in_ok-edicts.edicts)) c.read_message-rest.ensures.lone
    ∙ ap (artifact_from c.args.outputs (message_of c.as_slice.result.now).fields (message_of c.as_slice.result.now).lone) (c.in_ok-edicts.ensures ∙ ap (edicts_of c.args.outputs) c.read_message-rest.ensures.body)
    ∙ ap (λ i. of_message c.args.outputs (message_of i)) c.as_slice.ensures.value
    ∙ speaks c.args.script.now c.in-Some.integers.items c.args.outputs
    (sym c.in_ok-integers.ensures ∙ ap (option_map (λ v. v.items)) c.in-Some.is)

pub returns-clause-possible : goal.returns-clause-possible
returns-clause-possible c =
    artifact_can c.args.outputs c.as_slice.result.now c.artifact_from.result c.read_message-rest.ensures.small
    (c.artifact_from.ensures (message_of c.as_slice.result.now).fields c.read_message-rest.ensures.fields
    ∙ ap (λ l. artifact_from c.args.outputs (message_of c.as_slice.result.now).fields l (option_map (λ v. v.items) c.in_ok-edicts.edicts)) c.read_message-rest.ensures.lone
    ∙ ap (artifact_from c.args.outputs (message_of c.as_slice.result.now).fields (message_of c.as_slice.result.now).lone) (c.in_ok-edicts.ensures ∙ ap (edicts_of c.args.outputs) c.read_message-rest.ensures.body))

pub returns-clause-rising : goal.returns-clause-rising
returns-clause-rising c = subst EdictsDontFall (sym (returns-clause-exact c)) (rising_of c.args.script.now c.args.outputs)
