use Rattle.std.proofs.Common.{◌∙◌, ap, sym}
use Rattle.std.specs.Prelude.{Ok, Some, None, codes}
use Rattle.std.proofs.lemmas.Slice.Eq.{strip_prefix_is}
use Rattle.std.proofs.lemmas.Bool.Decides.{Decides-eqb}
use Rattle.ox_feed.proofs.Words.{connect_in-connect, connect_in-no_digits, connect_in-other}
use Rattle.ox_feed.proofs.command.connect_in.Goals as goal

pub returns-in_default-clause-syntax : goal.returns-in_default-clause-syntax
returns-in_default-clause-syntax c = λ _.
    connect_in-other c.args.line.now (strip_prefix_is Decides-eqb c.args.line.now (codes "connect ") None c.in_default.ensures.cases)

pub returns-in-Some-2-clause-found : goal.returns-in-Some-2-clause-found
returns-in-Some-2-clause-found c =
    let is = strip_prefix_is Decides-eqb c.args.line.now (codes "connect ") (Some c.in-Some.digits) c.in-Some.ensures.cases in
    let decodes = rw c.in-Some-2.is at c.in_ok-bytes.ensures in
    connect_in-connect c.args.line.now c.in-Some.digits.now c.from_vec.result is (decodes ∙ ap Ok (sym c.from_vec.ensures))

pub returns-in-None-clause-syntax : goal.returns-in-None-clause-syntax
returns-in-None-clause-syntax c = λ _.
    let is = strip_prefix_is Decides-eqb c.args.line.now (codes "connect ") (Some c.in-Some.digits) c.in-Some.ensures.cases in
    let fails = rw c.in-None.is at c.in_ok-bytes.ensures in
    connect_in-no_digits c.args.line.now c.in-Some.digits.now is fails
