-- An index as far as a reply tells of it.
use Rattle.std.specs.Prelude.{◌≡◌, ℕ, Bool, List, [], Some, if◌then◌else◌}
use Rattle.std.specs.FinMap.{empty}
use Rattle.ox_block.specs.declared.block.OutPoint.{OutPoint}
use Rattle.ox_routes.specs.declared.route.Route.{Route}
use Rattle.ox_routes.specs.declared.route.Route.TheVariants.{Audit, Output, Rune, Runes}
use Rattle.ox_ledger.specs.Runes.{balances_at}
use Rattle.ox_model.specs.Index.{Index}
use Rattle.ox_replies.specs.Texts.{outpoint_in}

-- the index, with its runes or without
abbrev pub shown : Bool → Index → Index
shown with_runes index = record index {
  bal = if with_runes then index.bal else empty;
  runes = if with_runes then index.runes else [];
}

-- the reply to a part of a route tells of no rune: of outputs alone do some tell of runes
abbrev pub TellsNoRune : Index → Route → List ℕ → Type 0
TellsNoRune index Audit part = ⊥
TellsNoRune index Rune part = ⊥
TellsNoRune index Runes part = ⊥
TellsNoRune index Output part =
    (at : OutPoint) → outpoint_in part ≡ Some at → balances_at index.bal at ≡ []
TellsNoRune index route part = Unit {0}
