use Rattle.std.proofs.Common.{◌≡◌, ◌∙◌, ◌++◌, ℕ, List, ap, reverse, codes, decimal, arith}
use Rattle.std.proofs.lemmas.Grind.{common_steps}
use Rattle.hex.specs.Hex.{encode_lower}
use Rattle.ox_rules.specs.Text.{hash_text}
use Rattle.ox_desk.proofs.Bodies.{five_pieces, newest_is}
use Rattle.ox_desk.proofs.newest.put_block.Goals as goal

pub returns-clause-filled : goal.returns-clause-filled
unfolding hash_text
returns-clause-filled c =
    let old = c.args.room.now.filled in
    let hash = c.args.hash in
    let put : c.put-5.new.self.filled
    ≡ ((((old ++ codes "{\"hash\":\"") ++ encode_lower (reverse hash)) ++ codes "\",\"height\":") ++ decimal c.args.height) ++ codes "}" = grind (arith, common_steps) in
    put
    ∙ five_pieces old (codes "{\"hash\":\"") (hash_text hash) (codes "\",\"height\":") (decimal c.args.height) (codes "}")
    ∙ ap (λ (l : List ℕ). old ++ l) (newest_is c.args.height hash c.hash_is_plain.ensures)
