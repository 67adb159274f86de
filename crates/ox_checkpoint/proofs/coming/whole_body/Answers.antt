use Rattle.std.proofs.Common.{◌∙◌, sym}
use Rattle.std.proofs.lemmas.Result.{err_from_is_err_and}
use Rattle.ox_plain.specs.Plain.{index_in}
use Rattle.ox_rows.proofs.Ahead.{until_then}
use Rattle.ox_files.specs.Body.{body_at, body_of}
use Rattle.ox_checkpoint.proofs.ComingLemmas.{at_end, ends_so, is_not_whole, is_whole, never_stops, no_body, spells_none}
use Rattle.ox_checkpoint.proofs.coming.whole_body.Goals as goal

pub returns-in_err-index : goal.returns-in_err-index
returns-in_err-index g c =
    let left = c.from_residual.result in
    let fault = c.in_err-index.field-0.0 in
    let p = err_from_is_err_and left c.from_residual.ensures.1 in record {
      body = λ bytes ahead. no_body left p.0 _ p.1;
      none = rw (p.1, p.2) (λ bytes ahead. spells_none fault (body_at bytes) (c.in_err-index.ensures.read bytes ahead));
      calls = rw (p.1, p.2) c.in_err-index.ensures.calls;
    }

pub returns-in_err-is_at_end : goal.returns-in_err-is_at_end
returns-in_err-is_at_end g c =
    let left = c.from_residual-in_err-is_at_end.result in
    let fault = c.in_err-is_at_end.field-0.0 in
    let p = err_from_is_err_and left c.from_residual-in_err-is_at_end.ensures.1 in record {
      body = λ bytes ahead. no_body left p.0 _ p.1;
      none = rw (p.1, p.2) (λ bytes ahead.
          let s = c.in_ok-index.ensures.read bytes ahead in
          never_stops fault s.0 _ (c.in_err-is_at_end.ensures.read s.0 s.1));
      calls = rw (p.1, p.2) (until_then g.S.Source.went g.S.Source.ended g.met.S.Source.then_went g.met.S.Source.then_ended _ _ _ _ _ _ fault c.in_ok-index.ensures.calls c.in_err-is_at_end.ensures.calls);
    }

pub returns-then-not-branch : goal.returns-then-not-branch
returns-then-not-branch g c = record {
  body = λ bytes ahead.
      let s = c.in_ok-index.ensures.read bytes ahead in
      let e = c.in_ok-is_at_end.ensures.read s.0 s.1 in
      is_not_whole (body_at bytes) (body_of (index_in c.in_ok-index.index) c.in_ok-index.changes) s.0 s.2 (ends_so s.0 e.0 _ e.2 ∙ c.if-not-branch.true);
  none = λ bytes ahead. tt;
  calls = g.met.S.Source.then_went _ _ _ _ _ _ c.in_ok-index.ensures.calls c.in_ok-is_at_end.ensures.calls;
}

pub returns : goal.returns
returns g c = record {
  body = λ bytes ahead.
      let s = c.in_ok-index.ensures.read bytes ahead in
      let e = c.in_ok-is_at_end.ensures.read s.0 s.1 in
      is_whole (body_at bytes) (body_of (index_in c.in_ok-index.index) c.in_ok-index.changes) s.0 s.2 (at_end s.0 (ends_so s.0 e.0 _ e.2 ∙ c.if-not-branch.false));
  none = λ bytes ahead. tt;
  calls = g.met.S.Source.then_went _ _ _ _ _ _ c.in_ok-index.ensures.calls c.in_ok-is_at_end.ensures.calls;
}
