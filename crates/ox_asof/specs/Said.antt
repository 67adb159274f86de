-- What changes say of an outpoint, and what they leave there once they are undone.
use Rattle.std.specs.Prelude.{List, [], ◌∷◌, IsTrue, is_some, Option, Some, None}
use Rattle.std.specs.Prelude.{if◌then◌else◌}
use Rattle.std.specs.FinMap.{find, is_sorted}
use Rattle.std.specs.Option.{option_map_or}
use Rattle.ox_block.specs.declared.block.OutPoint.{OutPoint}
use Rattle.ox_rules.specs.Differences.{Difference}
use Rattle.ox_rules.specs.Outputs.{outpoint_cmp}
use Rattle.ox_asof.specs.declared.said.Said.{Said}
use Rattle.ox_asof.specs.declared.said.Said.TheVariants.{Stood, Gone, Nothing}

-- a row that stood there, or none, if anything is said
abbrev pub meant : {X : Type 0} → Said X → Option (Option X)
meant (Stood row) = Some (Some row.now)
meant Gone = Some None
meant Nothing = None

-- what stands there before what says this
abbrev pub by : {X : Type 0} → Option (Option X) → Option X → Option X
by None now = now
by (Some stood) now = stood

-- what a difference says: the row that is gone, or nothing where one came alone
abbrev pub said_in : {X : Type 0} → Difference OutPoint X → OutPoint → Option (Option X)
said_in difference at =
    option_map_or (λ row. Some (Some row)) (find outpoint_cmp at difference.gone)
    (if is_some (find outpoint_cmp at difference.came) then Some None else None)

-- what stands there before some differences, the newest first
abbrev pub before_all : {X : Type 0} → List (Difference OutPoint X) → OutPoint → Option X
    → Option X
before_all [] at now = now
before_all (difference ∷ older) at now =
    before_all older at (by (said_in difference at) now)

-- its keys rise
abbrev pub AreRising : {X : Type 0} → Difference OutPoint X → Type 0
AreRising difference =
    IsTrue (is_sorted outpoint_cmp difference.gone)
    × IsTrue (is_sorted outpoint_cmp difference.came)
