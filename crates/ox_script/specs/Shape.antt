-- Kinds of output scripts.
use Rattle.std.specs.Prelude.{ℕ, Bool, false, ◌&&◌, List, [], ◌∷◌, length, ◌==◌}

-- the script begins with OP_RETURN, so its output can't be spent (Bitcoin Core's IsUnspendable)
abbrev pub is_return : List ℕ → Bool
is_return [] = false
is_return (op ∷ _) = op == 0x6a

-- OP_1 and a push of 32 bytes, and nothing else: pay-to-taproot (BIP 341, "Script validation
-- rules")
abbrev pub is_taproot : List ℕ → Bool
is_taproot (version ∷ size ∷ program) =
    (version == 0x51) && ((size == 0x20) && (length program == 32))
is_taproot _ = false
