use Rattle.std.proofs.Common.{◌≡◌, ◌∙◌, ◌+◌, ◌-◌, ◌*◌, ◌/◌, ◌%◌, ◌≤◌, ◌<◌, ℕ, zero, suc, ℤ, Bool, List, [], ◌∷◌, refl, length, take, sym, ap, ap₂, arith, rules, Option, Some, w64, FitsSigned}
use Rattle.std.proofs.lemmas.Int.{to_z-of_z}
use Rattle.std.specs.Prelude.{count_by, count_ones, option_map, slice_get}
use Rattle.ox_inscribe.specs.Signed.{is_cursed, is_uncursed, number_at, number_of, signed}
use Rattle.ox_inscribe.specs.declared.row.InsRow.{InsRow}
use Rattle.ox_inscribe.proofs.CursedLaws.{both, counted, told}
use Rattle.ox_inscribe.proofs.cursed_bits.Cursed.number.Goals as goal
use Rattle.ox_inscribe.proofs.cursed_bits.Cursed.number.Goals.{After-bits_below}

-- of the rows before, as many as the count and the bits tell are cursed
before : (c : After-bits_below) → c.index.result.now + count_ones c.bits_below.result ≡ count_by (is_cursed c.args.self.now.jubilee) (take c.args.place c.args.rows.now)
before c =
    let passes = is_cursed c.args.self.now.jubilee in
    let rows = c.args.rows.now in
    let place = c.args.place in
    ap (λ (below : ℕ). c.index.result.now + count_ones below) c.bits_below.ensures
    ∙ counted passes rows c.args.self.now.words.items c.args.self.now.counts.items (place / 64) (place % 64) c.index-word.result.now c.index.result.now c.requires.all (omega (arith, c.requires.there)) (omega arith) c.index-word.ensures c.index.ensures
    ∙ ap (λ (n : ℕ). count_by passes (take n rows)) (omega arith)

pub overflow_add-cursed : goal.overflow_add-cursed
overflow_add-cursed c =
    let is = before c in
    let all = both (is_cursed c.args.self.now.jubilee) c.args.place c.args.rows.now (omega (arith, c.requires.there)) in
    omega (arith, is, all, c.ranges.place)

pub overflow_sub-place : goal.overflow_sub-place
overflow_sub-place c =
    let is = before (goal.at.overflow_sub-place c).After-bits_below in
    let all = both (is_cursed c.args.self.now.jubilee) c.args.place c.args.rows.now (omega (arith, c.requires.there)) in
    omega (arith, is, all)

numbered : (jubilee : ℕ) (rows : List InsRow) (n : ℕ) (row : InsRow) (is_it : Bool) (cursed : ℕ) (z : ℤ) → slice_get rows n ≡ Some row → is_it ≡ is_cursed jubilee row → cursed ≡ count_by (is_cursed jubilee) (take n rows) → n ≤ length rows
    → z ≡ signed is_it cursed (n - cursed) → number_at jubilee rows n ≡ Some z
numbered jubilee rows n row is_it cursed z there same count within is =
    let all = both (is_cursed jubilee) n rows within in
    let others : count_by (is_uncursed jubilee) (take n rows) ≡ n - cursed = omega (arith, all, count) in
    ap (λ (found : Option InsRow). option_map (number_of jubilee rows n) found) there
    ∙ ap₂ (λ (a b : ℕ). Some (signed (is_cursed jubilee row) a b)) (sym count) others
    ∙ ap (λ (b : Bool). Some (signed b cursed (n - cursed))) (sym same)
    ∙ ap (λ (x : ℤ). Some x) (sym is)

row_there : (rows : List InsRow) (n : ℕ) → n < length rows → (row : InsRow) × (slice_get rows n ≡ Some row)
row_there [] n within = absurd (omega (arith, within))
row_there (row ∷ rows) zero within = (row, refl)
row_there (row ∷ rows) (suc n) within = row_there rows n (omega (arith, within))

pub returns : goal.returns
returns c =
    let jubilee = c.args.self.now.jubilee in
    let rows = c.args.rows.now in
    let place = c.args.place in
    let within = c.requires.there in
    let word = c.index-word.result.now in
    let is = before (goal.at.returns c).After-bits_below in
    let named : (row : InsRow) → slice_get rows place ≡ Some row → number_at jubilee rows place ≡ Some c.signed.result = λ row there.
    let whole : place / 64 * 64 + place % 64 ≡ place = omega arith in
    let same : c.has_bit.result ≡ is_cursed jubilee row = c.has_bit.ensures
    ∙ told (is_cursed jubilee) rows row c.args.self.now.words.items c.args.self.now.counts.items (place / 64) (place % 64) word c.requires.all (ap (slice_get rows) whole ∙ there) (omega (arith, within)) (omega arith) c.index-word.ensures in
    numbered jubilee rows place row c.has_bit.result _ c.signed.result there same is (omega (arith, within)) c.signed.ensures in
    let fits : FitsSigned w64 c.signed.result = search rules in
    let row = row_there rows place within in
    named row.0 row.1
    ∙ ap (λ (x : ℤ). Some x) (sym (to_z-of_z w64 c.signed.result fits))
