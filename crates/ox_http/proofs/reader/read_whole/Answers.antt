-- What the parser answers says whether the bytes are a head.
use Rattle.std.proofs.Common.{Ok, length, ap, sym, subst, ◌∙◌}
use Rattle.std.specs.Prelude.{OnErr}
use Rattle.httparse.specs.Grammar.{HasNoRequest}
use Rattle.httparse.specs.Outcome.{OnPartial}
use Rattle.httparse.specs.Spans.{RequestOverflows}
use Rattle.ox_http.specs.First.{at_head}
use Rattle.ox_http.proofs.Fields.{many_read, none_read}
use Rattle.ox_http.proofs.reader.read_whole.Goals as goal

pub returns-in-Ok-Partial : goal.returns-in-Ok-Partial
returns-in-Ok-Partial c =
    sym (ap (at_head (length c.args.head.now)) (none_read c.args.head.now
    (subst (λ r. OnPartial r (HasNoRequest c.args.head.now))
    (c.in-Ok-Partial.is ∙ ap (λ s. Ok s) c.in-Ok-Partial.field-0-is)
    c.parse_request.ensures.partial)))

pub returns-in-Err : goal.returns-in-Err
returns-in-Err c =
    sym (ap (at_head (length c.args.head.now)) (many_read c.args.head.now
    (subst (λ r. OnErr r (RequestOverflows 64 c.args.head.now)) c.in-Err.is
    (subst (λ n. OnErr c.parse_request.result (RequestOverflows n c.args.head.now))
    c.no_spans-spans.ensures c.parse_request.ensures.no_room))))
