-- How rows come into a sink, through a buffer in which they wait for it.
use Rattle.std.specs.Prelude.{◌≡◌, ℕ, List, ◌++◌}
use Rattle.ox_checkpoint.specs.declared.put.buffer.PutFault.{PutFault}
use Rattle.ox_checkpoint.specs.declared.put.buffer.PutFault.TheVariants as faults

-- The sink took more, and a piece was put: what it took more, and behind that what waits now, are
-- the rows that waited before, and the piece.
pub record Puts {K W : Type 0} (holds : K → W → List ℕ → Type 0) (goes : K → W → K → W → Type 0)
    (piece : List ℕ) (k : K) (w : W) (before : List ℕ) (l : K) (x : W) (waits : List ℕ)
    : Type 0 where
  pub more : List ℕ
  pub went : goes k w l x
  pub took : (bytes : List ℕ) → holds k w bytes → holds l x (bytes ++ more)
  pub whole : before ++ piece ≡ more ++ waits

-- Calls of a sink: where memory ran out none of them failed, and else it ended by the last one.
abbrev pub Ended : {K W F : Type 0} → (K → W → K → W → Type 0) → (K → W → F → K → W → Type 0)
    → K → W → PutFault F → K → W → Type 0
Ended goes ends k w faults.Memory l x = goes k w l x
Ended goes ends k w (faults.Sink fault) l x = ends k w fault l x
