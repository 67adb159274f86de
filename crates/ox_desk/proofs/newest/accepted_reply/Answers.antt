use Rattle.std.proofs.Common.{◌≡◌, ◌∙◌, ◌++◌, ℕ, List, ap, None, codes}
use Rattle.serde_json.specs.Written.{compact_text}
use Rattle.ox_http.specs.Written.{written}
use Rattle.ox_desk.specs.Replies.{newest_tree}
use Rattle.ox_desk.proofs.newest.accepted_reply.Goals as goal

pub returns : goal.returns
returns c =
    let tree = compact_text (newest_tree c.args.tip) in
    let body : c.as_slice.result.now ≡ tree =
    c.as_slice.ensures ∙ c.put_newest.ensures.filled ∙ ap (λ (l : List ℕ). l ++ tree) c.args.rooms.empty.0 in
    c.into_bytes.ensures ∙ c.put_reply.ensures.filled
    ∙ ap (λ (l : List ℕ). l ++ written (record { status = 200; kind = codes "application/json"; encoding = None; body = c.as_slice.result.now; close = c.args.close })) c.args.rooms.empty.1
    ∙ ap (λ (b : List ℕ). written (record { status = 200; kind = codes "application/json"; encoding = None; body = b; close = c.args.close })) body
