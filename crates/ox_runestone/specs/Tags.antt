-- The tags of a runestone's fields, and the bits of its flags: Runes specification, "Fields".
use Rattle.std.specs.Prelude.{ℕ}

abbrev pub divisibility_tag : ℕ
divisibility_tag = 1

abbrev pub flags_tag : ℕ
flags_tag = 2

abbrev pub spacers_tag : ℕ
spacers_tag = 3

abbrev pub name_tag : ℕ
name_tag = 4

abbrev pub symbol_tag : ℕ
symbol_tag = 5

abbrev pub premine_tag : ℕ
premine_tag = 6

abbrev pub cap_tag : ℕ
cap_tag = 8

abbrev pub amount_tag : ℕ
amount_tag = 10

abbrev pub height_start_tag : ℕ
height_start_tag = 12

abbrev pub height_end_tag : ℕ
height_end_tag = 14

abbrev pub offset_start_tag : ℕ
offset_start_tag = 16

abbrev pub offset_end_tag : ℕ
offset_end_tag = 18

abbrev pub mint_tag : ℕ
mint_tag = 20

abbrev pub pointer_tag : ℕ
pointer_tag = 22

-- an etching is there
abbrev pub etching_flag : ℕ
etching_flag = 1

-- the etching has terms of minting
abbrev pub terms_flag : ℕ
terms_flag = 2

-- the rune follows later changes of the protocol
abbrev pub turbo_flag : ℕ
turbo_flag = 4
