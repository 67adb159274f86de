-- The scripts and outpoints of a table of outputs.
use Rattle.std.specs.Prelude.{◌≡◌, ℕ, Bool, List, [], ◌∷◌, ◌++◌, Some, None}
use Rattle.std.specs.List.{list_any}
use Rattle.std.specs.BTreeMap.{is_at}
use Rattle.std.specs.Option.{option_cmp}
use Rattle.std.specs.Ordering.{nat_cmp, ordering_then}
use Rattle.std.specs.declared.cmp.Ordering.{Ordering}
use Rattle.std.specs.Cmp.Lexicographic.{slice_cmp}
use Rattle.ox_block.specs.declared.block.OutPoint.{OutPoint}
use Rattle.ox_rules.specs.Outputs.{Outputs, outpoint_cmp}
use Rattle.ox_rules.specs.Transfer.{as_list}
use Rattle.ox_rules.specs.declared.rows.OutRow.{OutRow}
use Rattle.ox_holders.specs.declared.key.Key.{Key}
use Rattle.ox_holders.specs.declared.holders.Holders.{Holders}
use Rattle.ox_holders.specs.Outputs.{has_output}

-- scripts by their bytes, and then outpoints; none stands first
abbrev pub key_cmp : Key → Key → Ordering
key_cmp a b =
    ordering_then (slice_cmp nat_cmp a.lock.script b.lock.script)
    (option_cmp outpoint_cmp a.at b.at)

abbrev pub key_of : List ℕ → OutPoint → Key
key_of script at = record { lock = record { script = script }; at = Some at }

-- a script and an outpoint are among these keys
unfoldable pub is_among : List Key → List ℕ → OutPoint → Bool
is_among keys script at = list_any (is_at (key_cmp (key_of script at))) keys

-- a row at an outpoint is one with this script, at this outpoint
abbrev pub is_row : OutPoint → OutRow → List ℕ → OutPoint → Bool
is_row place row script at = is_at (key_cmp (key_of row.script place)) (key_of script at)

-- one of these rows has the script, and this outpoint
unfoldable pub is_in : List (OutPoint × OutRow) → List ℕ → OutPoint → Bool
is_in rows script at = list_any (λ e. is_row e.0 e.1 script at) rows

-- the key of a script, without an outpoint: it stands before all others of the script
abbrev pub first_of : List ℕ → Key
first_of script = record { lock = record { script = script }; at = None }

-- the outpoints of keys, in their order
abbrev pub outpoints_in : List Key → List OutPoint
outpoints_in [] = []
outpoints_in (key ∷ keys) = as_list key.at ++ outpoints_in keys

-- the outpoints among keys are those of these outputs, each with its script
pub record StandFor (holders : Holders) (outs : Outputs) : Type 0 where
  pub each : (script : List ℕ) (at : OutPoint)
      → is_among holders.keys.keys script at ≡ has_output outs script at
