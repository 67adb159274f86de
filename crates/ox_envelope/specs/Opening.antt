-- How far an opening is read, and what follows a whole one.
use Rattle.std.specs.Prelude.{◌+◌, ◌||◌, List, [], ◌∷◌, ◌++◌, length, drop, slice_get, codes, ◌==◌}
use Rattle.std.specs.Prelude.{bytes_eq, if◌then◌else◌}
use Rattle.ox_script.specs.Script.{Instruction, Push, Op}
use Rattle.ox_envelope.specs.Envelope.{EnvelopePushes, envelope_of, stretch, is_end}
use Rattle.ox_envelope.specs.Envelope.{envelopes_among}
use Rattle.ox_envelope.specs.declared.search.Opened.{Opened}
use Rattle.ox_envelope.specs.declared.search.Opened.TheVariants.{Nothing, Empty, If, Whole}

-- how much of an opening stands before the item after this one. An item that breaks one may
-- begin another.
abbrev pub next_opened : Opened → Instruction → Opened
next_opened opened (Push []) = Empty
next_opened If (Push (byte ∷ bytes)) =
    if bytes_eq (byte ∷ bytes) (codes "ord") then Whole else Nothing
next_opened Empty (Op op) = if op == 0x63 then If else Nothing
next_opened _ _ = Nothing

-- pushes, and more of them
abbrev pub with_more : EnvelopePushes → EnvelopePushes → EnvelopePushes
with_more first second = record {
  pushes = first.pushes ++ second.pushes;
  has_number = first.has_number || second.has_number;
}

-- the envelopes from within one on, of which some pushes were read
unfoldable pub envelopes_within : EnvelopePushes → List Instruction → List EnvelopePushes
envelopes_within before inside =
    let pushes = stretch inside in
    let after = envelopes_among (drop (length pushes + 1) inside) in
    if is_end (slice_get inside (length pushes))
    then with_more before (envelope_of pushes) ∷ after else after
