-- The lines that answer a command, and how the hashes and outpoints in them are printed.
use Rattle.std.specs.Prelude.{ℕ, ◌-◌, ◌==◌, List, ◌++◌, length, reverse, codes, decimal}
use Rattle.std.specs.Prelude.{if◌then◌else◌, [], Option, Some, None}
use Rattle.hex.specs.Hex.{encode_lower}
use Rattle.ox_block.specs.declared.block.OutPoint.{OutPoint}
use Rattle.ox_rules.specs.Newest.{newest_of}
use Rattle.ox_rules.specs.declared.refusal.Refusal.{Refusal}
use Rattle.ox_rules.specs.declared.refusal.Refusal.TheVariants.{TooLong, Syntax, Malformed}
use Rattle.ox_rules.specs.declared.refusal.Refusal.TheVariants.{ChainEnd, Unlinked, BadRoot}
use Rattle.ox_rules.specs.declared.refusal.Refusal.TheVariants.{Coinbase, BadWitness, UnknownOutput}
use Rattle.ox_rules.specs.declared.refusal.Refusal.TheVariants.{Overspend, Overclaim, Depth}

-- a hash as it is printed: its bytes in reversed order, each as two lower-case hex digits
unfoldable pub hash_text : List ℕ → List ℕ
hash_text hash = encode_lower (reverse hash)

-- an outpoint as it is printed: the txid, a colon and the index
unfoldable pub outpoint_text : OutPoint → List ℕ
outpoint_text at = hash_text at.txid.0 ++ codes ":" ++ decimal at.index

-- two numbers with a space between
unfoldable pub pair_text : ℕ → ℕ → List ℕ
pair_text first second = decimal first ++ codes " " ++ decimal second

-- a refusal's line: its number, and its values with single spaces
unfoldable pub refusal_line : Refusal → List ℕ
refusal_line TooLong = codes "refused 2\n"
refusal_line Syntax = codes "refused 1\n"
refusal_line (Malformed at) = codes "refused 3 " ++ decimal at ++ codes "\n"
refusal_line (ChainEnd height) = codes "refused 4 " ++ decimal height ++ codes "\n"
refusal_line (Unlinked have want) =
    codes "refused 5 " ++ hash_text have ++ codes " " ++ hash_text want ++ codes "\n"
refusal_line (BadRoot have want) =
    codes "refused 6 " ++ hash_text have ++ codes " " ++ hash_text want ++ codes "\n"
refusal_line (Coinbase tx) = codes "refused 7 " ++ decimal tx ++ codes "\n"
refusal_line BadWitness = codes "refused 12\n"
refusal_line (UnknownOutput tx input at) =
    codes "refused 8 " ++ decimal tx ++ codes " " ++ decimal input ++ codes " "
    ++ outpoint_text at ++ codes "\n"
refusal_line (Overspend tx inputs outputs) =
    codes "refused 9 " ++ decimal tx ++ codes " " ++ pair_text inputs outputs ++ codes "\n"
refusal_line (Overclaim claimable claimed) =
    codes "refused 10 " ++ pair_text claimable claimed ++ codes "\n"
refusal_line Depth = codes "refused 11\n"

-- the line of a newest block, by its height and its hash
unfoldable pub block_line : ℕ → List ℕ → List ℕ
block_line height hash = codes "ok " ++ decimal height ++ codes " " ++ hash_text hash ++ codes "\n"

-- the line of an accepted command, by the hashes of the chain then
unfoldable pub ok_text : List (List ℕ) → List ℕ
ok_text hashes =
    if length hashes == 0 then codes "ok empty\n"
    else block_line (length hashes - 1) (newest_of hashes)

-- the same, by the newest block's height and hash, where there is a block
abbrev pub tip_line : Option (ℕ × List ℕ) → List ℕ
tip_line None = ok_text []
tip_line (Some tip) = block_line tip.0 tip.1
