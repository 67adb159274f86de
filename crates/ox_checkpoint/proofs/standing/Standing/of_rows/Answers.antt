use Rattle.std.proofs.Common.{◌∙◌, ap}
use Rattle.std.proofs.lemmas.Result.{err_from_is_err_and}
use Rattle.ox_plain.specs.Plain.{index_in}
use Rattle.ox_files.specs.Body.{body_of, stack_in}
use Rattle.ox_checkpoint.proofs.ComingLemmas.{no_body}
use Rattle.ox_checkpoint.proofs.CountLemmas.{counts_found}
use Rattle.ox_checkpoint.proofs.standing.Standing.of_rows.Goals as goal

pub returns-in_err-index : goal.returns-in_err-index
returns-in_err-index g c =
    let left = c.from_residual.result in
    let p = err_from_is_err_and left c.from_residual.ensures.1 in record {
      stack = λ bytes comes. no_body left p.0 _ p.1;
      counts = no_body left p.0 _ p.1;
      went = rw p.1 tt;
      ended = rw (p.1, p.2) c.in_err-index.ensures.ended;
    }

pub returns-in_default : goal.returns-in_default
returns-in_default g c = record {
  stack = λ bytes comes. ap (stack_in c.args.profile c.args.depth) (rw c.in_default.is at c.in_ok-index.ensures.body bytes comes);
  counts = tt;
  went = c.in_ok-index.ensures.went;
  ended = tt;
}

pub returns-in_err-of_kept : goal.returns-in_err-of_kept
returns-in_err-of_kept g c =
    let left = c.from_residual-in_err-of_kept.result in
    let p = err_from_is_err_and left c.from_residual-in_err-of_kept.ensures.1 in record {
      stack = λ bytes comes. no_body left p.0 _ p.1;
      counts = no_body left p.0 _ p.1;
      went = rw p.1 tt;
      ended = rw (p.1, p.2) c.in_ok-index.ensures.went;
    }

pub returns : goal.returns
returns g c =
    let body = body_of (index_in c.in-Some.index) c.in-Some.changes in record {
      stack = λ bytes comes. c.in_ok-of_kept.ensures ∙ ap (stack_in c.args.profile c.args.depth) (rw c.in-Some.is at c.in_ok-index.ensures.body bytes comes);
      counts = counts_found c.args.profile c.args.depth body _ c.in_ok-of_kept.ensures;
      went = c.in_ok-index.ensures.went;
      ended = tt;
    }
