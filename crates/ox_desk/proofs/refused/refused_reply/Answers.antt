use Rattle.std.proofs.Common.{◌≡◌, ◌∙◌, ℕ, List, None, IfOk, subst, codes}
use Rattle.ox_http.specs.Written.{written}
use Rattle.ox_desk.proofs.refused.refused_reply.Goals as goal

pub returns : goal.returns
returns c =
    let body = c.as_slice.ensures ∙ c.in_ok-body.ensures in
    subst
    (λ (b : List ℕ). IfOk c.write_parts.result (λ bytes. bytes ≡ written (record { status = 409; kind = codes "application/json"; encoding = None; body = b; close = c.args.close })))
    body c.write_parts.ensures
