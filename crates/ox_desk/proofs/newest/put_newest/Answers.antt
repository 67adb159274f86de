use Rattle.std.proofs.Common.{◌∙◌, ◌++◌, ℕ, List, Option, ap, sym}
use Rattle.serde_json.specs.Written.{compact_text}
use Rattle.ox_desk.specs.Replies.{newest_tree}
use Rattle.ox_desk.proofs.Bodies.{none_is}
use Rattle.ox_desk.proofs.newest.put_newest.Goals as goal

pub returns-in-None-clause-filled : goal.returns-in-None-clause-filled
returns-in-None-clause-filled c =
    c.put.ensures.filled
    ∙ ap (λ (l : List ℕ). c.args.room.now.filled ++ l) (none_is ∙ ap (λ (tip : Option (ℕ × List ℕ)). compact_text (newest_tree tip)) (sym c.in-None.is))
