use Rattle.std.proofs.Common.{◌≡◌, ◌∙◌, ◌-◌, ℕ, List, length, Some, ap, sym, arith}
use Rattle.std.specs.Prelude.{slice_get}
use Rattle.std.proofs.Math.Nat.{mod-eq_of_lt}
use Rattle.std.proofs.lemmas.List.Sums.{count_by-le-length}
use Rattle.ox_inscribe.specs.Signed.{is_cursed}
use Rattle.ox_inscribe.proofs.CursedLaws.{counted_all}
use Rattle.ox_inscribe.proofs.cursed_bits.Cursed.count.Goals as goal

pub returns-in-Some-Some : goal.returns-in-Some-Some
returns-in-Some-Some c = λ rows noted small.
    let passes = is_cursed c.args.self.now.jubilee in
    let word : slice_get c.args.self.now.words.items (length c.args.self.now.words.items - 1) ≡ Some c.in-Some-Some.word.now =
    sym (c.in-Some-Some.ensures.value ∙ ap (λ (items : List ℕ). slice_get items (length items - 1)) c.deref.ensures.value) in
    let count : slice_get c.args.self.now.counts.items (length c.args.self.now.counts.items - 1) ≡ Some c.in-Some-Some.count.now =
    sym (c.in-Some-Some.ensures'.value ∙ ap (λ (items : List ℕ). slice_get items (length items - 1)) c.deref-2.ensures.value) in
    let all = counted_all passes rows _ _ c.in-Some-Some.word.now c.in-Some-Some.count.now noted word count in
    let most = count_by-le-length passes rows in
    mod-eq_of_lt (omega (arith, all, most, small)) ∙ all
