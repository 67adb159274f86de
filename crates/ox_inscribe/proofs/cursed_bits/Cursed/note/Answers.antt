use mir.Val.{bool_byte}
use Rattle.std.proofs.Common.{◌≡◌, ◌∙◌, ◌/◌, ◌%◌, ℕ, Bool, true, false, cond, Ok, Err, ap, subst, [], ◌∷◌, ◌++◌, sym, arith}
use Rattle.std.specs.Prelude.{OnOk, Result}
use Rattle.ox_inscribe.specs.Shelved.{AreWordsOf}
use Rattle.ox_inscribe.specs.Signed.{is_cursed}
use Rattle.ox_inscribe.proofs.CursedLaws.{bit_added, word_added}
use Rattle.ox_inscribe.proofs.cursed_bits.Cursed.note.Goals as goal

as_bit : (b : Bool) (bit : ℕ) → bit ≡ bool_byte b → bit ≡ cond b 1 0
as_bit true bit is = is
as_bit false bit is = is

pub returns-then-index-len-clause-ok : goal.returns-then-index-len-clause-ok
returns-then-index-len-clause-ok c = λ rows noted is.
    let place = c.args.place in
    bit_added (is_cursed c.args.self.now.jubilee) rows c.args.row.now _ _ (place / 64) (place % 64) c.from-bit.result c.index_mut.result.now noted (omega (arith, is)) (omega arith) (omega (arith, c.if-index-len.true)) (as_bit c.is_cursed.result c.from-bit.result c.from-bit.ensures ∙ ap (λ (b : Bool). cond {A = ℕ} b 1 0) c.is_cursed.ensures) c.index_mut.ensures.value

on_both : {A E P Q R : Type 0} (r : Result A E) → OnOk r P → OnOk r Q → (P → Q → R) → OnOk r R
on_both (Ok x) one other then = then one other
on_both (Err e) one other then = tt

pub returns-clause-ok : goal.returns-clause-ok
returns-clause-ok c = on_both c.begin_word.result c.begin_word.ensures.words c.begin_word.ensures.counts (λ words counts rows noted is.
    let place = c.args.place in
    let passes = is_cursed c.args.self.now.jubilee in
    let count = c.count-count.ensures rows noted (omega (arith, is, c.ranges.place)) in
    subst (λ (jubilee : ℕ). AreWordsOf (is_cursed jubilee) (rows ++ c.args.row.now ∷ []) c.begin_word.new.self.words.items c.begin_word.new.self.counts.items) (sym c.begin_word.ensures.jubilee)
    (word_added passes rows c.args.row.now _ _ _ _ (place / 64) (place % 64) c.from-bit.result c.count-count.result noted (omega (arith, is)) (omega arith) (omega (arith, c.if-index-len.false, c.len.ensures))
    (as_bit c.is_cursed.result c.from-bit.result c.from-bit.ensures ∙ ap (λ (b : Bool). cond {A = ℕ} b 1 0) c.is_cursed.ensures) count words counts))
