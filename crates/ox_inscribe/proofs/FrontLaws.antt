-- Rows that stay in front as more come.
use Rattle.std.proofs.Common.{◌≡◌, ◌∙◌, ◌≤◌, ℕ, List, ◌++◌, length, take, refl, sym, ap, arith}
use Rattle.std.proofs.lemmas.List.{length-take, take_all, take_at, take-take}
use Rattle.ox_inscribe.specs.declared.row.InsRow.{InsRow}

pub all_front : (rows : List InsRow) → take (length rows) rows ≡ rows
all_front rows = take_all (length rows) rows (omega arith)

pub same_front : (rows after : List InsRow) → after ≡ rows → take (length rows) after ≡ rows
same_front rows after is = ap (take (length rows)) is ∙ all_front rows

pub pushed_front : (rows after more : List InsRow) → after ≡ rows ++ more → take (length rows) after ≡ rows
pushed_front rows after more is = ap (take (length rows)) is ∙ take_at rows more (length rows) refl

-- what stood in front of those that still stand in front does so too
pub still_front : (rows earlier after : List InsRow) → take (length rows) earlier ≡ rows → take (length earlier) after ≡ earlier → take (length rows) after ≡ rows
still_front rows earlier after front stays =
    sym (take-take (length rows) (length earlier) after (omega (arith, ap length front, length-take (length rows) earlier)))
    ∙ ap (take (length rows)) stays
    ∙ front

-- of rows that are cut, the first so many stay as more come behind them
pub cut_front : (count : ℕ) (rows cut after : List InsRow) → count ≤ length rows → cut ≡ take count rows → take (length cut) after ≡ cut → take count after ≡ take count rows
cut_front count rows cut after fits is front =
    let long : length cut ≡ count = omega (arith, fits, ap length is, length-take count rows) in
    sym (ap (λ (n : ℕ). take n after) long) ∙ front ∙ is
