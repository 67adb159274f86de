-- What the rows of a block are made from, piece by piece.
use Rattle.std.specs.Prelude.{Bool, List, [], ◌∷◌, map, if◌then◌else◌}
use Rattle.ox_inscribe.specs.Reveal.{Revealing, Revealed}
use Rattle.ox_inscribe.specs.declared.row.InsRow.{InsRow}
use Rattle.ox_inscribe.specs.declared.scene.Scene.{Scene}

-- what a transaction's rows have in common, as a transaction whose envelopes aren't named
abbrev pub revealing : Scene → Revealing
revealing scene = record {
  txid = scene.txid;
  height = scene.height;
  joined = scene.joined;
  taken = scene.taken;
  sources = [];
}

-- whether the satoshi of each row goes to the fees
abbrev pub fees_of : List Revealed → List Bool
fees_of all = map (λ one. one.in_fees) all

-- the rows whose flag passes a test
unfoldable pub rows_if : (Bool → Bool) → List Bool → List InsRow → List InsRow
rows_if passes (flag ∷ flags) (row ∷ rows) =
    if passes flag then row ∷ rows_if passes flags rows else rows_if passes flags rows
rows_if passes _ _ = []
