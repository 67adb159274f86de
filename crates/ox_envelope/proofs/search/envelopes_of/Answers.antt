use Rattle.std.proofs.Common.{◌≡◌, arith}
use Rattle.std.proofs.lemmas.Grind.{common_steps}
use Rattle.ox_envelope.specs.Envelope.{envelopes}
use Rattle.ox_envelope.proofs.PushLemmas.{all_found}
use Rattle.ox_envelope.proofs.search.envelopes_of.Goals as goal

pub returns-clause-parts : goal.returns-clause-parts
returns-clause-parts c =
    let same : c.loop-items.found ≡ envelopes c.args.script.now = grind (arith, common_steps) in
    all_found c.args.script.now c.loop-items.found c.instructions_of-items.ensures.parts same
