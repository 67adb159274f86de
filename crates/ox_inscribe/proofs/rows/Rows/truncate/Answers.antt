use Rattle.std.proofs.Common.{◌≡◌, ◌∙◌, ◌+◌, ◌<◌, ℕ, List, [], ◌∷◌, ◌++◌, length, take, sym, ap, arith, length-append, Option, Some, None}
use Rattle.std.specs.Prelude.{option_to_list, IsSome, ◌↔◌}
use Rattle.std.proofs.lemmas.List.{take-append-le}
use Rattle.ox_inscribe.specs.declared.row.InsRow.{InsRow}
use Rattle.ox_inscribe.proofs.rows.Rows.truncate.Goals as goal

-- the last row goes
shorter : (len : ℕ) (old new : List InsRow) (last : Option InsRow) → old ≡ new ++ option_to_list last → (IsSome last ↔ (0 < length old)) → len < length old → (take len new ≡ take len old) × (length new < length old)
shorter len old new None is some long = absurd (cc (some.1 (omega (arith, long))))
shorter len old new (Some row) is some long =
    let longer : length old ≡ length new + 1 = ap length is ∙ length-append new (row ∷ []) in
    (sym (ap (take len) is ∙ take-append-le len new (row ∷ []) (omega (arith, longer, long))), omega (arith, longer))

pub loop-self-preserved : goal.loop-self-preserved
loop-self-preserved c = record {
  rows = (shorter c.args.len c.loop-self.self.rows c.pop-row.new.self.rows c.pop-row.result c.pop-row.ensures.rows c.pop-row.ensures.some (omega arith)).0 ∙ c.loop-self.invariant.rows;
  jubilee = c.pop-row.ensures.jubilee ∙ c.loop-self.invariant.jubilee;
}

pub loop-self-smaller : goal.loop-self-smaller
loop-self-smaller c = (shorter c.args.len c.loop-self.self.rows c.pop-row.new.self.rows c.pop-row.result c.pop-row.ensures.rows c.pop-row.ensures.some (omega arith)).1
