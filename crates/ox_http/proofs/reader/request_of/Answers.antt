-- The head is read, and the body awaited.
use Rattle.std.proofs.Common.{◌≡◌, refl, ap, sym, subst, IfOk, ◌∙◌}
use Rattle.ox_http.specs.First.{First, head_length}
use Rattle.ox_http.specs.Read.{first_in, front_in}
use Rattle.ox_http.proofs.Fronts.{first_is}
use Rattle.ox_http.proofs.reader.request_of.Goals as goal

pub read_head-requires-clause-none : goal.read_head-requires-clause-none
unfolding head_length
read_head-requires-clause-none c = refl

pub returns-in-Opens : goal.returns-in-Opens
returns-in-Opens c =
    subst (λ (first : First). IfOk c.with_body_of.result (λ parsed. first_in parsed ≡ first))
    (first_is c.args.bytes.now _ (ap front_in (sym c.in-Opens.is) ∙ c.read_head.ensures.front))
    c.with_body_of.ensures

pub returns-in-Waits : goal.returns-in-Waits
returns-in-Waits c =
    first_is c.args.bytes.now _ (ap front_in (sym c.in-Waits.is) ∙ c.read_head.ensures.front)

pub returns-in-Fails : goal.returns-in-Fails
returns-in-Fails c =
    first_is c.args.bytes.now _ (ap front_in (sym c.in-Fails.is) ∙ c.read_head.ensures.front)
