use Rattle.std.proofs.Common.{◌≡◌, true, length, sym, ap, ◌∙◌}
use Rattle.std.proofs.lemmas.Bool.{eqb-true, eqb-false}
use Rattle.ox_feed.specs.declared.held.Held.{Held}
use Rattle.ox_feed.proofs.Parts.{last_bytes, no_bytes, tells_line}
use Rattle.ox_feed.proofs.held.Held.last_line.Goals as goal

pub returns-then-is_empty-clause-tells : goal.returns-then-is_empty-clause-tells
returns-then-is_empty-clause-tells c =
    let empty : length c.args.self.now.begun ≡ 0 = eqb-true _ 0 (sym c.if-is_empty.ensures) in
    record { ended = c.requires.ended; none = no_bytes c.args.self.now.begun c.args.self.now.piece empty c.requires.none }

pub returns-else-is_empty-clause-tells : goal.returns-else-is_empty-clause-tells
returns-else-is_empty-clause-tells c =
    let some : (length c.args.self.now.begun ≡ 0 → ⊥) = eqb-false _ 0 (sym c.if-is_empty.ensures) in
    let over : c.close.new.self.ended ≡ true = ap (λ (held : Held). held.ended) c.close.ensures.rest ∙ c.requires.ended in
    rw c.close.ensures.line
    (tells_line _ _ _ _ (λ more ended comes.
    let none_comes = comes over in
    rw c.close.ensures.rest
    (last_bytes c.args.self.now.begun c.args.self.now.piece more ended c.requires.sound.no_feed some c.requires.none none_comes.0 none_comes.1)))
