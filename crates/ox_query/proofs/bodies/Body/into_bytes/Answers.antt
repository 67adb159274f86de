use Rattle.std.proofs.Common.{ap₂, ◌∙◌, ◌++◌, List, ℕ}
use Rattle.json.specs.Token.{Token}
use Rattle.json.specs.Print.{print}
use Rattle.serde_json.proofs.Texts.{print-outline}
use Rattle.ox_query.proofs.bodies.Body.into_bytes.Goals as goal

pub returns : goal.returns
returns c tree told =
    let is = told c.if-is_short.false in
    c.from_vec.ensures ∙ c.into_inner.ensures.items ∙ ap₂ (λ (b : List ℕ) (ts : List Token). b ++ print ts) is.0 is.1 ∙ print-outline tree
