-- The commands that a line may be.
use Rattle.std.specs.Prelude.{ℕ, ◌==◌, bytes_eq, List, [], ◌∷◌, codes, Option, Some, None, Result}
use Rattle.std.specs.Prelude.{Ok, Err, if◌then◌else◌}
use Rattle.hex.specs.Hex.{decode_of}
use Rattle.hex.specs.declared.error.FromHexError.{FromHexError}
use Rattle.ox_feed.specs.declared.command.Command.{Command}
use Rattle.ox_feed.specs.declared.command.Command.TheVariants.{Connect, Disconnect}

-- what stands behind the word, where the line begins with it
abbrev pub after_word : List ℕ → List ℕ → Option (List ℕ)
after_word [] line = Some line
after_word (c ∷ word) [] = None
after_word (c ∷ word) (b ∷ line) = if b == c then after_word word line else None

-- the connect with the bytes that the digits spell, where they spell any
abbrev pub connect_of : Result (List ℕ) FromHexError → Option Command
connect_of (Ok bytes) = Some (Connect bytes)
connect_of (Err _) = None

abbrev pub command_of_digits : Option (List ℕ) → Option Command
command_of_digits (Some digits) = connect_of (decode_of digits)
command_of_digits None = None

-- the connect that a line is: the word, one space, and an even number of hex digits of either case,
-- none allowed
unfoldable pub connect_in : List ℕ → Option Command
connect_in line = command_of_digits (after_word (codes "connect ") line)

-- the command that a line is: `disconnect`, or a connect
unfoldable pub command_of : List ℕ → Option Command
command_of line = if bytes_eq line (codes "disconnect") then Some Disconnect else connect_in line
