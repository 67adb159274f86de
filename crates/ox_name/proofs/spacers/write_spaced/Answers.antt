use Rattle.std.proofs.Common.{◌≡◌, ℕ, ◌<◌, ◌≤◌, Bool, true, false, cond, List, length, get_or, drop, ap, ◌∙◌, arith}
use Rattle.std.proofs.lemmas.List.{get_or_append_left}
use Rattle.ox_name.specs.Name.{name_of}
use Rattle.ox_name.specs.Spaced.{spaced_name}
use Rattle.ox_name.proofs.SpacedNames.{put_more, all_put}
use Rattle.ox_name.proofs.spacers.write_spaced.Goals as goal

at_most : (b : Bool) → cond b 4 1 ≤ 4
at_most true = omega arith
at_most false = omega arith

pub loop-place-preserved : goal.loop-place-preserved
loop-place-preserved c =
    let name = name_of c.args.name in
    let count : c.write_name-count.result ≡ length (name_of c.args.name) = c.write_name-count.ensures.length in
    let within : c.loop-place.place < length (name_of c.args.name) = omega arith in
    let letter : get_or c.write_name-count.new.into c.loop-place.place 0 ≡ get_or (name_of c.args.name) c.loop-place.place 0 = ap (λ (t : List ℕ). get_or t c.loop-place.place 0) c.write_name-count.ensures.written ∙ get_or_append_left name (drop c.write_name-count.result _) 0 c.loop-place.place within in
    let b-is = c.has_spacer-spaced.ensures in
    let p = put_more (spaced_name c.args.spacers name) name c.loop-place.into c.args.into.now c.put_letter-len.new.into c.loop-place.gaps c.loop-place.place c.loop-place.len c.put_letter-len.result _ c.has_spacer-spaced.result within (omega arith) letter (rw count at b-is) c.put_letter-len.ensures.place c.put_letter-len.ensures.written c.loop-place.invariant.1 c.loop-place.invariant.2 in
    (omega (arith, c.put_letter-len.ensures.place, at_most c.has_spacer-spaced.result), p.0, p.1, c.put_letter-len.array_long)

pub returns-clause-length : goal.returns-clause-length
returns-clause-length c =
    let name = name_of c.args.name in
    let count : c.write_name-count.result ≡ length (name_of c.args.name) = c.write_name-count.ensures.length in
    (all_put (spaced_name c.args.spacers name) name c.loop-place.into c.loop-place.gaps c.loop-place.place c.loop-place.len (omega arith) (omega arith) c.loop-place.invariant.1).1
