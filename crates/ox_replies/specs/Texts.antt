-- How satoshis, heights and outpoints are written in paths and replies.
use Rattle.std.specs.Prelude.{ℕ, ◌-◌, ◌^◌, ◌&&◌, ◌==◌, nat_lt, List, [], ◌++◌, length, reverse}
use Rattle.std.specs.Prelude.{codes, decimal, bytes_eq, Option, Some, None, if◌then◌else◌}
use Rattle.std.specs.Char.{encode_utf8}
use Rattle.std.specs.List.{before_first, after_first}
use Rattle.std.specs.Result.{result_unwrap_or}
use Rattle.std.specs.Str.Parse.{digits_value}
use Rattle.hex.specs.Hex.{decode_of}
use Rattle.ox_block.specs.declared.block.OutPoint.{OutPoint}
use Rattle.ox_rules.specs.Text.{outpoint_text}
use Rattle.ox_sat.specs.declared.profiles.Profile.{Profile}
use Rattle.ox_sat.specs.declared.degrees.Degree.{Degree}
use Rattle.ox_sat.specs.declared.degrees.Rarity.{Rarity}
use Rattle.ox_sat.specs.declared.degrees.Rarity.TheVariants.{Common, Uncommon, Rare, Epic}
use Rattle.ox_sat.specs.declared.degrees.Rarity.TheVariants.{Legendary, Mythic}
use Rattle.ox_sat.specs.Heights.{first_at, height_minting}

-- a satoshi's height and its place in that block, with a point between
abbrev pub decimal_text : Profile → ℕ → List ℕ
decimal_text p sat =
    let height = height_minting p sat in
    decimal height ++ codes "." ++ decimal (sat - first_at p height)

-- a degree: hour°minute′second″third‴
abbrev pub degree_text : Degree → List ℕ
degree_text d =
    decimal d.hour ++ encode_utf8 0xb0 ++ decimal d.minute ++ encode_utf8 0x2032
    ++ decimal d.second ++ encode_utf8 0x2033 ++ decimal d.third ++ encode_utf8 0x2034

abbrev pub rarity_text : Rarity → List ℕ
rarity_text Common = codes "common"
rarity_text Uncommon = codes "uncommon"
rarity_text Rare = codes "rare"
rarity_text Epic = codes "epic"
rarity_text Legendary = codes "legendary"
rarity_text Mythic = codes "mythic"

-- the number of 64 bits that a text spells, if any: its decimal digits, without a sign and without
-- a leading zero but for that of 0
abbrev pub number_in : List ℕ → Option ℕ
number_in text =
    let number = digits_value 10 text in
    if nat_lt number (2 ^ 64) && bytes_eq text (decimal number) then Some number else None

-- the outpoint that a text spells, if any: the text is read as the digits of a txid and a number
-- behind the first colon, and counts where what was read is an outpoint that is written so
abbrev pub outpoint_in : List ℕ → Option OutPoint
outpoint_in text =
    let txid = reverse (result_unwrap_or (decode_of (before_first (λ c. c == 58) text)) []) in
    let index = digits_value 10 (after_first (λ c. c == 58) text) in
    let at : OutPoint = record { txid = record { 0 = txid }; index = index } in
    let fits = (length txid == 32) && nat_lt index (2 ^ 32) in
    if fits && bytes_eq text (outpoint_text at) then Some at else None
