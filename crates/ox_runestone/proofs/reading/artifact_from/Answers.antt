use Rattle.std.proofs.Common.{ap, sym, ◌∙◌}
use Rattle.std.specs.Option.{option_map}
use Rattle.ox_runestone.proofs.ArtifactFromFields.{artifact_from_stone}
use Rattle.ox_runestone.proofs.reading.artifact_from.Goals as goal

pub returns : goal.returns
returns c = λ list h. rw (c.etching.ensures, c.mint.ensures, c.pointer.ensures) (artifact_from_stone c.args.fields.now c.args.outputs list c.args.lone _ c.in-Some.edicts.items c.from_vec.result (ap (option_map (λ v. v.items)) c.in-Some.is) c.from_vec.ensures c.if-lone.false (sym (c.are_flawed.ensures list h) ∙ c.if-are_flawed.false) h)
