use Rattle.std.proofs.Common.{◌∙◌, sym}
use Rattle.ox_http.specs.declared.Method.TheVariants.{Get}
use Rattle.ox_held.specs.Replies.{tree_named}
use Rattle.ox_query.proofs.Addresses.{another_method, its_method, method_is}
use Rattle.ox_query.proofs.address.answer_address.Goals as goal

pub returns-then-not-same_method : goal.returns-then-not-same_method
returns-then-not-same_method g c =
    another_method c.error_reply.result (g.V.View.chain c.args.live.now) (g.V.View.index c.args.live.now) c.args.request.now c.args.part.now
    (sym c.same_method.ensures ∙ c.if-not-same_method.true) c.error_reply.ensures

pub address_at-requires : goal.address_at-requires
address_at-requires g c = λ script named.
    c.requires.held script (method_is c.args.request.now.method Get (sym c.same_method.ensures ∙ c.if-not-same_method.false)) named

pub returns : goal.returns
returns g c =
    let p = g.V.View.chain c.args.live.now in
    let index = g.V.View.index c.args.live.now in
    its_method c.tree_or_missing.result p index c.args.request.now c.args.part.now
    (sym c.same_method.ensures ∙ c.if-not-same_method.false)
    (c.tree_or_missing.ensures (tree_named p index c.args.part.now) c.in_ok-address_at.ensures)
