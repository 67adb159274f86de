use Rattle.std.proofs.Common.{◌≡◌, ◌≤◌, List, ℕ, Some, length, sym, ap, ◌∙◌, subst}
use Rattle.ox_routes.specs.Table.{route_taken, row_of}
use Rattle.ox_routes.proofs.Table.{not_text, text_takes, taken_fits, rest_is}
use Rattle.ox_routes.proofs.router.Routes.find.Goals as goal

pub returns-in_default : goal.returns-in_default
returns-in_default c = not_text c.args.path.now c.in_default.ensures.cases.0

pub slice_bounds-result-count : goal.slice_bounds-result-count
slice_bounds-result-count c =
    let taken : route_taken c.args.path.now ≡ Some c.in_ok-route.route =
    ap route_taken (sym c.in-Ok.ensures.cases.0) ∙ sym c.route_of.ensures ∙ c.in_ok-route.was in
    subst (λ (text : List ℕ). length text ≤ length c.args.path.now) (sym c.text.ensures) (taken_fits c.in_ok-route.route c.args.path.now taken)

pub slice_bounds-result-start : goal.slice_bounds-result-start
slice_bounds-result-start c =
    let taken : route_taken c.args.path.now ≡ Some c.in_ok-route.route =
    ap route_taken (sym c.in-Ok.ensures.cases.0) ∙ sym c.route_of.ensures ∙ c.in_ok-route.was in
    subst (λ (text : List ℕ). length text ≤ length c.args.path.now) (sym c.text.ensures) (taken_fits c.in_ok-route.route c.args.path.now taken)

pub returns : goal.returns
returns c =
    let taken : route_taken c.args.path.now ≡ Some c.in_ok-route.route =
    ap route_taken (sym c.in-Ok.ensures.cases.0) ∙ sym c.route_of.ensures ∙ c.in_ok-route.was in
    text_takes c.args.path.now c.in_ok-route.route c.in-Ok.ensures.cases.1 taken
    ∙ ap (λ part. Some (c.in_ok-route.route, part)) (rest_is c.text.result.now (row_of c.in_ok-route.route).text c.args.path.now c.text.ensures)
