-- What is written of trees, token by token.
use Rattle.std.specs.Prelude.{◌≡◌, false, List, [], ◌++◌, flat_map}
use Rattle.json.specs.Token.{Token}
use Rattle.json.specs.Tree.{json_tokens}
use Rattle.serde_json.specs.Data.{Data}
use Rattle.serde_json.specs.Written.{outline}
use Rattle.ox_query.specs.declared.bodies.Body.{Body}

-- the tokens of a tree
abbrev pub tokens_of : Data → List Token
tokens_of tree = json_tokens (outline tree)

-- the tokens of trees that stand one behind the other in an array, without its brackets
abbrev pub tokens_of_all : List Data → List Token
tokens_of_all = flat_map tokens_of

-- with memory for all there was memory for what stood there before, and behind it came these tokens
pub record Adds (old new : Body) (tokens : List Token) : Type 0 where
  pub whole : new.is_short ≡ false
      → (old.is_short ≡ false) × (new.out.before ≡ old.out.before)
      × (new.out.tokens ≡ old.out.tokens ++ tokens)

-- nothing is written yet
abbrev pub IsBlank : Body → Type 0
IsBlank body = (body.out.before ≡ []) × (body.out.tokens ≡ [])

-- if there was memory for all, a tree is written, and nothing else
abbrev pub IsTree : Body → Data → Type 0
IsTree body tree =
    body.is_short ≡ false → (body.out.before ≡ []) × (body.out.tokens ≡ tokens_of tree)
