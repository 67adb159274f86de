-- Cells in pieces: what a change of one leaves of all slots.
use Rattle.std.proofs.Common.{nat_lt, IsTrue, ◌≡◌, ◌≢◌, ◌∙◌, ℕ, zero, suc, ◌*◌, ◌/◌, ◌%◌, ◌<◌, ◌≤◌, List, [], ◌∷◌, map, length, get_or, zero-add, slice_set, refl, sym, ap, arith, Option, Some, None, ⊎_elim, subst}
use Rattle.std.specs.Prelude.{◌++◌, IsSome, slice_get, unwrap_or}
use Rattle.std.specs.Global.{Vec}
use Rattle.std.specs.Vec.{vec_len}
use Rattle.std.specs.List.{range_with_len}
use Rattle.std.specs.Option.{option_and_then, option_map}
use Rattle.std.proofs.lemmas.Bool.{cases_eq, cases_lt, lt-ltb, ltb-true}
use Rattle.std.proofs.lemmas.List.{get_or_past}
use Rattle.std.proofs.lemmas.List.FromFn.{get_or-map-range_with_len, length-map-range_with_len}
use Rattle.std.proofs.lemmas.Option.{slice_get_past, slice_get_read}
use Rattle.ox_block.specs.declared.block.OutPoint.{OutPoint}
use Rattle.ox_rules.specs.declared.rows.OutRow.{OutRow}
use Rattle.ox_outputs.specs.declared.piece.Piece.{Piece}
use Rattle.ox_outputs.specs.declared.slot_cell.SlotCell.{SlotCell}
use Rattle.ox_outputs.specs.declared.slot_cell.Mark.{Mark}
use Rattle.ox_outputs.specs.SlotCells.{AreSideBySide, cells_of, slot_in}
use Rattle.ox_outputs.specs.Pieces.{Turns, cell_among, slot_among, slots_of}
use Rattle.ox_outputs.specs.Slots.{Slot, SlotList, Updates, outpoint_at, slot_at, slot_with}

-- ---- lists

got_here : {X : Type 0} (xs : List X) (k : ℕ) (x y : X) → slice_get xs k ≡ Some x → slice_get (slice_set xs k y) k ≡ Some y
got_here [] k x y is = absurd (cc is)
got_here (a ∷ xs) zero x y is = refl
got_here (a ∷ xs) (suc k) x y is = got_here xs k x y is

got_elsewhere : {X : Type 0} (xs : List X) (k j : ℕ) (y : X) → j ≢ k → slice_get (slice_set xs k y) j ≡ slice_get xs j
got_elsewhere [] k j y other = refl
got_elsewhere (a ∷ xs) zero zero y other = absurd (other refl)
got_elsewhere (a ∷ xs) zero (suc j) y other = refl
got_elsewhere (a ∷ xs) (suc k) zero y other = refl
got_elsewhere (a ∷ xs) (suc k) (suc j) y other = got_elsewhere xs k j y (λ same. other (ap suc same))

none_from : {X Y : Type 0} (f : X → Option Y) (o : Option X) → o ≡ None → IsSome (option_and_then f o) → ⊥
none_from f None is some = absurd (cc some)
none_from f (Some x) is some = absurd (cc is)

-- ---- cells whose parts stand side by side

some_is : {X : Type 0} (x y : X) → ◌≡◌ {A = Option X} (Some x) (Some y) → x ≡ y
some_is {X} x y is = ap (λ (o : Option X). unwrap_or o x) is

pub cell_read : (ats : List OutPoint) (marks : List Mark) (rows : List OutRow) (k : ℕ) (at : OutPoint) (mark : Mark) (row : OutRow) → slice_get ats k ≡ Some at → slice_get marks k ≡ Some mark → slice_get rows k ≡ Some row
    → ◌≡◌ {A = Option SlotCell} (slice_get (cells_of ats marks rows) k) (Some (record { at = at; mark = mark; row = row }))
cell_read [] marks rows k at mark row p q r = absurd (cc p)
cell_read (a ∷ ats) [] rows k at mark row p q r = absurd (cc q)
cell_read (a ∷ ats) (m ∷ marks) [] k at mark row p q r = absurd (cc r)
cell_read (a ∷ ats) (m ∷ marks) (x ∷ rows) zero at mark row p q r = λ i. Some (record { at = some_is a at p i; mark = some_is m mark q i; row = some_is x row r i })
cell_read (a ∷ ats) (m ∷ marks) (x ∷ rows) (suc k) at mark row p q r = cell_read ats marks rows k at mark row p q r

pub cells_count : (ats : List OutPoint) (marks : List Mark) (rows : List OutRow) → length marks ≡ length ats → length rows ≡ length ats → length (cells_of ats marks rows) ≡ length ats
cells_count [] marks rows p q = refl
cells_count (a ∷ ats) [] rows p q = absurd (cc p)
cells_count (a ∷ ats) (m ∷ marks) [] p q = absurd (cc q)
cells_count (a ∷ ats) (m ∷ marks) (x ∷ rows) p q = ap suc (cells_count ats marks rows (omega (arith, p)) (omega (arith, q)))

pub cells_more : (ats : List OutPoint) (marks : List Mark) (rows : List OutRow) (cell : SlotCell) → length marks ≡ length ats → length rows ≡ length ats
    → cells_of (ats ++ cell.at ∷ []) (marks ++ cell.mark ∷ []) (rows ++ cell.row ∷ []) ≡ cells_of ats marks rows ++ cell ∷ []
cells_more [] [] [] cell p q = refl
cells_more [] [] (x ∷ rows) cell p q = absurd (cc q)
cells_more [] (m ∷ marks) rows cell p q = absurd (cc p)
cells_more (a ∷ ats) [] rows cell p q = absurd (cc p)
cells_more (a ∷ ats) (m ∷ marks) [] cell p q = absurd (cc q)
cells_more (a ∷ ats) (m ∷ marks) (x ∷ rows) cell p q = ap (λ (l : List SlotCell). record { at = a; mark = m; row = x } ∷ l) (cells_more ats marks rows cell (omega (arith, p)) (omega (arith, q)))

pub cells_set : (ats : List OutPoint) (marks : List Mark) (rows : List OutRow) (k : ℕ) (cell : SlotCell) → cells_of (slice_set ats k cell.at) (slice_set marks k cell.mark) (slice_set rows k cell.row) ≡ slice_set (cells_of ats marks rows) k cell
cells_set [] marks rows k cell = refl
cells_set (a ∷ ats) [] rows zero cell = refl
cells_set (a ∷ ats) [] rows (suc k) cell = refl
cells_set (a ∷ ats) (m ∷ marks) [] zero cell = refl
cells_set (a ∷ ats) (m ∷ marks) [] (suc k) cell = refl
cells_set (a ∷ ats) (m ∷ marks) (x ∷ rows) zero cell = refl
cells_set (a ∷ ats) (m ∷ marks) (x ∷ rows) (suc k) cell = ap (λ (l : List SlotCell). record { at = a; mark = m; row = x } ∷ l) (cells_set ats marks rows k cell)

module _ (ats : Vec OutPoint) (marks : Vec Mark) (rows : Vec OutRow) (cells : List SlotCell) (side : AreSideBySide ats marks rows) (view : cells_of ats.items marks.items rows.items ≡ cells) where
  pub outpoints_seen : vec_len ats ≡ length cells
  outpoints_seen = ats.ok.0 ∙ sym (cells_count ats.items marks.items rows.items side.marked side.filled) ∙ ap (λ (l : List SlotCell). length l) view

  pub marks_seen : vec_len marks ≡ length cells
  marks_seen = marks.ok.0 ∙ side.marked ∙ sym ats.ok.0 ∙ outpoints_seen

  pub rows_seen : vec_len rows ≡ length cells
  rows_seen = rows.ok.0 ∙ side.filled ∙ sym ats.ok.0 ∙ outpoints_seen

  -- the cell whose parts were read
  pub cell_seen : (k : ℕ) (at : OutPoint) (mark : Mark) (row : OutRow) → k < vec_len ats → at ≡ get_or ats.items k at → mark ≡ get_or marks.items k mark → row ≡ get_or rows.items k row
      → ◌≡◌ {A = Option SlotCell} (Some (record { at = at; mark = mark; row = row })) (slice_get cells k)
  cell_seen k at mark row low p q r =
      sym (cell_read ats.items marks.items rows.items k at mark row
      (slice_get_read ats.items (vec_len ats) k at ats.ok.0 low p)
      (slice_get_read marks.items (vec_len ats) k mark (ats.ok.0 ∙ sym side.marked) low q)
      (slice_get_read rows.items (vec_len ats) k row (ats.ok.0 ∙ sym side.filled) low r))
      ∙ ap (λ (l : List SlotCell). slice_get l k) view

  -- the cell of which the parts were taken
  pub cell_was : (k : ℕ) (at at' : OutPoint) (mark mark' : Mark) (row row' : OutRow) → k < vec_len ats → at ≡ get_or ats.items k at → mark ≡ get_or marks.items k mark → row ≡ get_or rows.items k row → at' ≡ at → mark' ≡ mark → row' ≡ row
      → ◌≡◌ {A = Option SlotCell} (slice_get cells k) (Some (record { at = at'; mark = mark'; row = row' }))
  cell_was k at at' mark mark' row row' low p q r a m x = sym (cell_seen k at mark row low p q r) ∙ (λ i. Some (record { at = sym a i; mark = sym m i; row = sym x i }))

  pub no_cell : (k : ℕ) → vec_len ats ≤ k → ◌≡◌ {A = Option SlotCell} None (slice_get cells k)
  no_cell k high = sym (slice_get_past cells k (omega (arith, high, outpoints_seen)))

  pub room_seen : (count : ℕ) → count ≡ vec_len ats → (IsTrue (nat_lt count 16384) → length cells < 16384) × (length cells < 16384 → IsTrue (nat_lt count 16384))
  room_seen count is = let same = is ∙ outpoints_seen in (λ low. omega (arith, ltb-true count 16384 low, same), λ low. lt-ltb count 16384 (omega (arith, low, same)))

  -- one cell more
  pub cells_grown : (ats' : List OutPoint) (marks' : List Mark) (rows' : List OutRow) (cell : SlotCell) → ats' ≡ ats.items ++ cell.at ∷ [] → marks' ≡ marks.items ++ cell.mark ∷ [] → rows' ≡ rows.items ++ cell.row ∷ [] → cells_of ats' marks' rows' ≡ cells ++ cell ∷ []
  cells_grown ats' marks' rows' cell p q r =
      (λ i. cells_of (p i) (q i) (r i))
      ∙ cells_more ats.items marks.items rows.items cell side.marked side.filled
      ∙ ap (λ (l : List SlotCell). l ++ cell ∷ []) view

  -- another cell
  pub cells_turned : (ats' : List OutPoint) (marks' : List Mark) (rows' : List OutRow) (k : ℕ) (cell : SlotCell) → ats' ≡ slice_set ats.items k cell.at → marks' ≡ slice_set marks.items k cell.mark → rows' ≡ slice_set rows.items k cell.row → cells_of ats' marks' rows' ≡ slice_set cells k cell
  cells_turned ats' marks' rows' k cell p q r =
      (λ i. cells_of (p i) (q i) (r i))
      ∙ cells_set ats.items marks.items rows.items k cell
      ∙ ap (λ (l : List SlotCell). slice_set l k cell) view

-- ---- one cell more or another

-- the cell at a place, where this is its piece
abbrev in_piece : ℕ → Option Piece → Option SlotCell
in_piece place = option_and_then (λ (piece : Piece). slice_get piece (place % 16384))

-- a place with a cell is in a piece
pub within : (pieces : List Piece) (place : ℕ) → IsSome (cell_among pieces place) → place / 16384 < length pieces
within pieces place some = ⊎_elim
    (λ low. low)
    (λ high. absurd (none_from (λ (piece : Piece). slice_get piece (place % 16384)) (slice_get pieces (place / 16384)) (slice_get_past pieces (place / 16384) high) some))
    (cases_lt (place / 16384) (length pieces))

-- a cell of a piece is put in place of another
pub turned : (pieces : List Piece) (place : ℕ) (piece new : Piece) (was cell : SlotCell) → IsSome (cell_among pieces place) → piece ≡ get_or pieces (place / 16384) piece
    → slice_get piece (place % 16384) ≡ Some was → new ≡ slice_set piece (place % 16384) cell
    → Turns pieces (slice_set pieces (place / 16384) new) place cell
turned pieces place piece new was cell some is stood cells =
    let there : slice_get pieces (place / 16384) ≡ Some piece = slice_get_read pieces (length pieces) (place / 16384) piece refl (within pieces place some) is in
    record {
      changed = ap (in_piece place) (got_here pieces (place / 16384) piece new there)
          ∙ ap (λ (l : List SlotCell). slice_get l (place % 16384)) cells
          ∙ got_here piece (place % 16384) was cell stood;
      others = λ p other. ⊎_elim
          (λ same.
          let apart : p % 16384 ≢ place % 16384 = λ e. other (omega (arith, same, e)) in
          ap (λ (k : ℕ). in_piece p (slice_get (slice_set pieces (place / 16384) new) k)) same
          ∙ ap (in_piece p) (got_here pieces (place / 16384) piece new there)
          ∙ ap (λ (l : List SlotCell). slice_get l (p % 16384)) cells
          ∙ got_elsewhere piece (place % 16384) (p % 16384) cell apart
          ∙ sym (ap (in_piece p) there)
          ∙ sym (ap (λ (k : ℕ). in_piece p (slice_get pieces k)) same))
          (λ differs. ap (in_piece p) (got_elsewhere pieces (place / 16384) (p / 16384) new differs))
          (cases_eq (p / 16384) (place / 16384));
    }

-- ---- all slots

tabulated : (f : ℕ → Option Slot) (n place : ℕ) → (n ≤ place → f place ≡ None) → slot_at (map f (range_with_len 0 n)) place ≡ f place
tabulated f n place none = ⊎_elim
    (λ low. get_or-map-range_with_len f 0 n place place None low (zero-add place))
    (λ high. get_or_past (map f (range_with_len 0 n)) place None (omega (arith, high, length-map-range_with_len f 0 n)) ∙ sym (none high))
    (cases_lt place n)

-- behind the last piece there is no cell
none_past : (pieces : List Piece) (place : ℕ) → 16384 * length pieces ≤ place → cell_among pieces place ≡ None
none_past pieces place high =
    let past : length pieces ≤ place / 16384 = omega (arith, high) in
    ap (in_piece place) (slice_get_past pieces (place / 16384) past)

-- the slot at a place
pub slot_there : (pieces : List Piece) (place : ℕ) → slot_at (slots_of pieces) place ≡ slot_among pieces place
slot_there pieces place = tabulated (slot_among pieces) (16384 * length pieces) place (λ high. ap (option_and_then slot_in) (none_past pieces place high))

pub slots_count : (pieces : List Piece) → length (slots_of pieces) ≡ 16384 * length pieces
slots_count pieces = length-map-range_with_len (slot_among pieces) 0 (16384 * length pieces)

pub none_made : (pieces : List Piece) → pieces ≡ [] → slots_of pieces ≡ []
none_made pieces none = ap slots_of none

-- a place with a cell is low
pub low_place : (pieces : List Piece) (place : ℕ) → length pieces ≤ 262143 → IsSome (cell_among pieces place) → place < 4294967295
low_place pieces place few some = omega (arith, few, within pieces place some)

-- the slots, where one cell is another
pub updated : (pieces new : List Piece) (place : ℕ) (cell : SlotCell) (slot : Option Slot) → Turns pieces new place cell → slot_in cell ≡ slot → Updates (slots_of pieces) (slots_of new) place slot
updated pieces new place cell slot turns is = record {
  changed = slot_there new place ∙ ap (option_and_then slot_in) turns.changed ∙ is;
  others = λ p other. slot_there new p ∙ ap (option_and_then slot_in) (turns.others p other) ∙ sym (slot_there pieces p);
}

-- and where a piece was made before
pub updated_more : (pieces more new : List Piece) (place : ℕ) (cell : SlotCell) (slot : Option Slot) → ((p : ℕ) → cell_among more p ≡ cell_among pieces p) → Turns more new place cell → slot_in cell ≡ slot
    → Updates (slots_of pieces) (slots_of new) place slot
updated_more pieces more new place cell slot same turns is = updated pieces new place cell slot (record {
  changed = turns.changed;
  others = λ p other. turns.others p other ∙ same p;
}) is

-- a slot with something else in it
pub with_row : (slots : SlotList) (place : ℕ) (at : OutPoint) (row : Option OutRow) → Some at ≡ outpoint_at slots place → ◌≡◌ {A = Option Slot} (Some (record { at = at; row = row })) (slot_with (slot_at slots place) row)
with_row slots place at row is = by_slot (slot_at slots place) is where
  by_slot : (slot : Option Slot) → Some at ≡ option_map (λ s. s.at) slot → ◌≡◌ {A = Option Slot} (Some (record { at = at; row = row })) (slot_with slot row)
  by_slot None is = absurd (cc is)
  by_slot (Some s) is = ap (λ (o : Option OutPoint). option_map {U = Slot} (λ q. record { at = q; row = row }) o) is

-- ---- slots that are seen

module _ (pieces : List Piece) (slots : SlotList) (view : slots_of pieces ≡ slots) where
  pub slot_seen : (place : ℕ) → slot_at slots place ≡ slot_among pieces place
  slot_seen place = sym (ap (λ (l : SlotList). slot_at l place) view) ∙ slot_there pieces place

  -- the slot in a cell that was found
  pub seen_in : (now : List Piece) (place : ℕ) (cell : Option SlotCell) → now ≡ pieces → cell ≡ cell_among now place → option_and_then slot_in cell ≡ slot_at slots place
  seen_in now place cell same is = ap (option_and_then slot_in) (is ∙ ap (λ (l : List Piece). cell_among l place) same) ∙ sym (slot_seen place)

  -- where no slot was found
  pub none_seen : (now : List Piece) (place : ℕ) → now ≡ pieces → slot_among now place ≡ None → slot_at slots place ≡ None
  none_seen now place same none = slot_seen place ∙ sym (ap (λ (l : List Piece). slot_among l place) same) ∙ none

  -- a place with a slot has a cell
  pub cell_there : (place : ℕ) → IsSome (slot_at slots place) → IsSome (cell_among pieces place)
  cell_there place some = by_cell (cell_among pieces place) (subst IsSome (slot_seen place) some) where
    by_cell : (cell : Option SlotCell) → IsSome (option_and_then slot_in cell) → IsSome cell
    by_cell None some = absurd (cc some)
    by_cell (Some cell) some = refl

  -- the row that stood at a place
  pub row_there : (place : ℕ) (was : SlotCell) → cell_among pieces place ≡ Some was → option_and_then (λ s. s.row) (slot_in was) ≡ option_and_then (λ s. s.row) (slot_at slots place)
  row_there place was is = ap (option_and_then (λ (s : Slot). s.row)) (sym (slot_seen place ∙ ap (option_and_then slot_in) is))

  -- one cell is another
  pub updated_there : (new : List Piece) (place : ℕ) (cell : SlotCell) (slot : Option Slot) → Turns pieces new place cell → slot_in cell ≡ slot → Updates slots (slots_of new) place slot
  updated_there new place cell slot turns is = subst (λ (l : SlotList). Updates l (slots_of new) place slot) view (updated pieces new place cell slot turns is)

  -- how far the places go
  pub end_there : (count : ℕ) → count ≡ length pieces → count * 16384 ≡ length slots
  end_there count is = omega (arith, is, slots_count pieces, ap (λ (l : SlotList). length l) view)
