use Rattle.std.specs.Prelude.{None, Some, codes}
use Rattle.std.proofs.lemmas.Slice.Eq.{strip_prefix_is}
use Rattle.std.proofs.lemmas.Bool.Decides.{Decides-eqb}
use Rattle.ox_query.proofs.RuneParts.{front_read, spacer_read}
use Rattle.ox_query.proofs.rune_named.front_of.Goals as goal

pub returns-in-Some : goal.returns-in-Some
returns-in-Some c =
    spacer_read c.args.text.now c.in-Some.rest.now
    (strip_prefix_is Decides-eqb c.args.text.now (codes "%E2%80%A2") (Some c.in-Some.rest) c.in-Some.ensures.cases)

pub returns-in-None : goal.returns-in-None
returns-in-None c =
    front_read c.args.text.now c.split_at_checked.result
    (strip_prefix_is Decides-eqb c.args.text.now (codes "%E2%80%A2") None c.in-None.ensures.cases) c.split_at_checked.ensures.cases
