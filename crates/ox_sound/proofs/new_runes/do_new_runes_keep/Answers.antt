use Rattle.std.proofs.Common.{◌∙◌, length, sym}
use Rattle.std.proofs.lemmas.Bool.{eqb-true}
use Rattle.std.proofs.lemmas.List.{nil_from_length}
use Rattle.ox_sound.proofs.KeepsPassLemmas.{nothing_new}
use Rattle.ox_sound.proofs.new_runes.do_new_runes_keep.Goals as goal

pub returns-then-is_empty : goal.returns-then-is_empty
returns-then-is_empty c = λ yes.
    nothing_new c.args.p.now c.args.height c.args.runes.now c.args.appended.now (nil_from_length c.args.appended.now (eqb-true (length c.args.appended.now) 0 (sym c.is_empty.ensures ∙ c.if-is_empty.true)))
