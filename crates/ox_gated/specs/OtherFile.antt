-- A whole file in place of the current one: the other file is closed, filled behind its closed
-- gate, and opened; and when it is time for that.
use Rattle.std.specs.Prelude.{◌≡◌, ◌≢◌, ◌⊎◌, ℕ, ◌+◌, ◌-◌, ◌*◌, ◌%◌, ◌≤◌, Bool, false}
use Rattle.std.specs.Prelude.{IsTrue, List, [], ◌∷◌, ◌++◌, length, Ok}
use Rattle.ox_outside.specs.Files.{Files, file_of, other}
use Rattle.ox_outside.specs.declared.site.Site.{Ghosts as Meanings}
use Rattle.ox_outside.specs.declared.site.Which.{Which}
use Rattle.ox_gated.specs.Layout.{Whole, checkpoint_bytes, layout_of, summed_body_at}
use Rattle.ox_gated.specs.Reading.{Found, ReadsAlike, reading}
use Rattle.ox_gated.specs.Tail.{Kept, Holds}
use Rattle.ox_gated.specs.declared.head.Head.{Head}

-- this file stays as it is
abbrev pub IsSpared : Which → Files → Files → Type 0
IsSpared file old new = file_of new file ≡ file_of old file

-- the first gate is there, and closed
abbrev pub BeginsShut : List ℕ → Type 0
BeginsShut file = (rest : List ℕ) × (file ≡ 0 ∷ rest)

-- where the gate behind this body is, in a file with this head
abbrev pub first_gate_at : Head → List ℕ → ℕ
first_gate_at head body = (layout_of head.version).body_at + length body

-- Behind a closed first gate stand this head and body, and a closed gate at this place. What an
-- older, longer file had behind that may stand there still.
pub record IsFilled (head : Head) (body : List ℕ) (gate : ℕ) (file : List ℕ) : Type 0 where
  pub older : List ℕ
  pub bytes : file ≡ 0 ∷ checkpoint_bytes head body ++ older
  pub gate_is : gate ≡ first_gate_at head body

-- what a tail keeps of the current file; and of the other one, which is filled, its head and the
-- place of its last gate
pub record KeptBoth : Type 0 where
  pub tail : Kept
  pub head : Head
  pub gate : ℕ

-- The tail holds of these files, and the other one is filled with this body.
pub record HoldsBoth {S : Type 0} (means : Meanings S) (both : KeptBoth) (body : List ℕ) (site : S)
    : Type 0 where
  pub current : Holds means both.tail site
  pub filled : IsFilled both.head body both.gate (file_of (means.seen site) (other both.tail.file))

-- the head and the body of the other file
abbrev pub filled_with : KeptBoth → List ℕ → Whole
filled_with both body = record { head = both.head; body = body }

-- what a file without records holds
abbrev pub found_in : Which → Whole → Found
found_in file whole = record {
  file = file;
  head = whole.head;
  body = whole.body;
  records = [];
  gate = first_gate_at whole.head whole.body;
}

-- the files stand for the head and the body in this file, without records, wherever their version
-- is one of those that are read
abbrev pub ReadsNew : Which → Whole → Files → Type 0
ReadsNew file whole image =
    (reads : ℕ → Bool) → IsTrue (reads whole.head.version)
    → reading reads image ≡ Ok (found_in file whole)

-- the files stand for what these stand for, or for the head and the body in this file
abbrev pub IsOldOrNew : Which → Whole → Files → Files → Type 0
IsOldOrNew file whole files image = ReadsAlike files image ⊎ ReadsNew file whole image

-- the tail of the other file, once it was opened: the one that was current stays open
abbrev pub tail_of_other : Which → Head → ℕ → Kept
tail_of_other file head gate = record {
  file = other file;
  head = head;
  first = gate;
  records = 0;
  gate = gate;
  other_closed = false;
}

-- ---- when

-- how many records a file has at the least when the other one takes its place
abbrev pub most_records : ℕ
most_records = 64

-- the greatest generation, which no other follows
abbrev pub last_generation : ℕ
last_generation = 18446744073709551615

-- There are so many records, and there is a generation that can follow.
abbrev pub MustTurn : Kept → Type 0
MustTurn tail = (most_records ≤ tail.records) × (tail.head.generation ≢ last_generation)

-- The file is of version 3; there are so many records or a multiple of that, with gates and sums at
-- least half as long as the body, and there is a generation that can follow.
abbrev pub MayTurn : Kept → Type 0
MayTurn tail =
    (tail.head.version ≡ 3) × MustTurn tail × (tail.records % most_records ≡ 0)
    × (tail.first - summed_body_at ≤ 2 * (tail.gate - tail.first))
