-- By what keys are spread over lines that are a transaction's id and an index, and by which tag.
use Rattle.std.specs.Prelude.{ℕ, ◌+◌, ◌*◌, ◌%◌, ◌^◌, List, slice_index_or}

-- eight bytes of the id, low byte first, and the index
abbrev pub spread_of : List ℕ → ℕ → ℕ
spread_of id index =
    (slice_index_or id 6 0 + slice_index_or id 7 0 * 2 ^ 8 + slice_index_or id 8 0 * 2 ^ 16
    + slice_index_or id 9 0 * 2 ^ 24 + slice_index_or id 10 0 * 2 ^ 32
    + slice_index_or id 11 0 * 2 ^ 40 + slice_index_or id 12 0 * 2 ^ 48
    + slice_index_or id 13 0 * 2 ^ 56 + index) % 2 ^ 64

-- the tag: four other bytes of the id, low byte first, and the index
abbrev pub tag_of : List ℕ → ℕ → ℕ
tag_of id index =
    (slice_index_or id 2 0 + slice_index_or id 3 0 * 2 ^ 8 + slice_index_or id 4 0 * 2 ^ 16
    + slice_index_or id 5 0 * 2 ^ 24 + index) % 2 ^ 32
