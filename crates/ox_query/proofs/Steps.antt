-- Tokens that are written one behind the other.
use Rattle.std.proofs.Common.{◌≡◌, List, [], ◌++◌, refl, sym, subst, ap, ◌∙◌, append_assoc}
use Rattle.std.proofs.lemmas.List.{append-nil}
use Rattle.json.specs.Token.{Token}
use Rattle.ox_query.specs.Written.{Adds}
use Rattle.ox_query.specs.declared.bodies.Body.{Body}

-- what is written of one that is another
pub same : {A : Type 0} (told : A → List Token) {x y : A} {old new : Body} → x ≡ y → Adds old new (told x) → Adds old new (told y)
same told {old = old} {new = new} is adds = subst (λ x. Adds old new (told x)) is adds

-- nothing is written
pub nothing : (body : Body) → Adds body body []
nothing body = record { whole = λ whole. (whole, refl, sym (append-nil body.out.tokens)) }

infixr 10 ◌▸◌
-- what is written, and all that is written behind it
pub ◌▸◌ : {old mid new : Body} {here rest : List Token} → Adds old mid here → Adds mid new rest → Adds old new (here ++ rest)
◌▸◌ {old = old} {here = here} {rest = rest} first others = record {
  whole = λ whole.
      let later = others.whole whole in
      let sooner = first.whole later.0 in (
        sooner.0,
        later.1 ∙ sooner.1,
        later.2 ∙ ap (λ (ts : List Token). ts ++ rest) sooner.2 ∙ append_assoc old.out.tokens here rest,
      );
}
