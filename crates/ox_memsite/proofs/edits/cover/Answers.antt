use Rattle.std.proofs.Common.{◌≡◌, ◌∙◌, ℕ, ◌+◌, ◌-◌, Bool, false, List, ◌++◌, length, take, drop, sym, ap, arith, length-drop}
use Rattle.std.specs.Prelude.{replicate}
use Rattle.std.proofs.lemmas.List.{length-take, drop-drop, append_assoc}
use borrow.Rule.Slice.PartMut.{put_mid}
use Rattle.ox_memsite.proofs.Covered.{covered_parts}
use Rattle.ox_memsite.proofs.edits.cover.Goals as goal

pub returns : goal.returns
returns c =
    let solid = c.args.solid.now in
    let start = c.min-start.result in
    let over = c.min.result in
    let size : start + over - start ≡ over = omega arith in
    let long : length (take (start + over - start) (drop start solid)) ≡ over =
    omega (arith, c.min.ensures, c.min-start.ensures, length-take (start + over - start) (drop start solid), length-drop start solid) in
    let is_filled : c.fill.new.self ≡ replicate over false = c.fill.ensures.after (λ y e. e) ∙ ap (λ (k : ℕ). replicate k false) long in
    let parts = covered_parts c.args.at c.args.length solid start over c.min-start.ensures c.min.ensures in
    let here : put_mid start (start + over - start) solid c.fill.new.self ≡ take start solid ++ c.fill.new.self ++ drop (start + (start + over - start)) solid = ap (λ (l : List Bool). take start solid ++ (c.fill.new.self ++ l)) (drop-drop (start + over - start) start solid) ∙ sym (append_assoc (take start solid) c.fill.new.self (drop (start + (start + over - start)) solid)) in
    here ∙ ap (λ (l : List Bool). take start solid ++ l ++ drop (start + (start + over - start)) solid) is_filled
    ∙ ap (λ (k : ℕ). take start solid ++ replicate over false ++ drop (start + k) solid) size
    ∙ sym parts
