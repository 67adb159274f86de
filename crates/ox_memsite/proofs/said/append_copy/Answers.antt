use Rattle.std.proofs.Common.{◌≡◌, ◌∙◌, ◌++◌, ◌∷◌, [], List, ap, sym}
use Rattle.ox_memsite.specs.Script.{kept_said}
use Rattle.ox_memsite.specs.declared.said.Said.{Said}
use Rattle.ox_memsite.proofs.said.append_copy.Goals as goal

pub returns-in_ok-push : goal.returns-in_ok-push
returns-in_ok-push c =
    let same : kept_said c.args.entry.now ≡ c.in-Some.copy ∷ [] = rw c.in-Some.is at c.in_ok-copy.ensures in
    c.in_ok-push.ensures.items ∙ ap (λ (l : List Said). c.args.said.now.items ++ l) (sym same)
