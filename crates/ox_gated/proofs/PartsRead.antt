-- A current file of version 3 before its body is read: what is known of it, and that by its body it is decided what the two files stand for.
use Rattle.std.proofs.Common.{◌≡◌, ◌∙◌, ◌≤◌, ◌<◌, ◌+◌, ℕ, Bool, true, false, List, [], length, take, drop, ◌||◌, not, if◌then◌else◌, refl, sym, ap, arith}
use Rattle.std.specs.Prelude.{Result, Err, None, IsTrue, nat_lt}
use Rattle.std.proofs.lemmas.Bool.{le-ltb, lt-ltb}
use Rattle.std.proofs.lemmas.List.{drop-drop}
use Rattle.ox_outside.specs.Files.{Files, file_of}
use Rattle.ox_gated.specs.Layout.{Layout, is_summed, layout_of, summed}
use Rattle.ox_gated.specs.Opened.{IsExamined}
use Rattle.ox_gated.specs.Parts.{AreParts, Unread, found_behind, is_intact_in, walker_behind}
use Rattle.ox_gated.specs.Reading.{Found, Fault, body_reading, body_reading_at, chain, fault_at, found_or_fault, is_present, reading, reading_by}
use Rattle.ox_gated.specs.declared.open.Examined.{Examined}
use Rattle.ox_gated.proofs.ChoiceByFronts.{choice_some}
use Rattle.ox_gated.proofs.LayoutLaws.{layout_summed}

module _ (e : Examined) (files : Files) (is : IsExamined e files) (version : e.opening.head.version ≡ 3) where
  abbrev bytes : List ℕ
  bytes = file_of files e.file

  abbrev size : ℕ
  size = e.opening.size

  abbrev body : List ℕ
  body = take size (drop 90 bytes)

  abbrev parts : Unread
  parts = record { file = e.file; head = e.opening.head; size = size; read = 0; len = e.front.len; front = e.front.bytes.items; other_closed = e.other_closed }

  abbrev stood : Layout → List ℕ → Result Found Fault
  stood layout rest = let records = chain layout e.opening.head.generation (90 + size) rest in found_or_fault e.file e.opening.head body records.records records.end

  layout_is : layout_of e.opening.head.version ≡ summed
  layout_is = layout_summed e.opening.head.version (ap is_summed version)

  behind_is : stood summed (drop size (drop 90 bytes)) ≡ found_behind (walker_behind parts) body [] files
  behind_is = ap (stood summed) (drop-drop size 90 bytes) ∙ ap (λ (l : Layout). stood l (drop (90 + size) bytes)) (sym layout_is)

  -- which version it is
  read_as : (reads : ℕ → Bool) → IsTrue (reads 3) → reading reads files ≡ body_reading_at summed e.file bytes e.opening
  read_as reads read =
      ap (reading_by reads files) is.picks
      ∙ ap (λ (b : Bool). if not b then fault_at e.file 6 else body_reading e.file bytes e.opening) (ap reads version ∙ read)
      ∙ ap (λ (l : Layout). body_reading_at l e.file bytes e.opening) layout_is

  by_front : (b : Bool) → nat_lt (length bytes) (90 + size) ≡ b → body_reading_at summed e.file bytes e.opening
      ≡ (if b || not (is_intact_in parts files) then fault_at e.file 90 else stood summed (drop size (drop 90 bytes)))
  by_front b cut = λ i. if cut i || not (summed.is_body (sym is.front.bytes i) body) then fault_at e.file 90 else stood summed (drop size (drop 90 bytes))

  by_sum : (b : Bool) → (if not b then fault_at e.file 90 else stood summed (drop size (drop 90 bytes))) ≡ (if b then found_behind (walker_behind parts) body [] files else fault_at e.file 90)
  by_sum true = behind_is
  by_sum false = refl

  pub are_parts : 90 + size ≤ e.front.len → AreParts parts files
  are_parts within =
      let some = choice_some files.a files.b (e.file, e.opening) is.picks in
      let long = le-ltb (length bytes) (90 + size) (omega (arith, within, is.front.len)) in
      record {
        there = record { some_a = some.0; some_b = some.1; len = is.front.len; closed = is.closed };
        front = is.front.bytes;
        stand = λ reads read. read_as reads read ∙ by_front false long ∙ by_sum (is_intact_in parts files);
      }

  pub cut_body : e.front.len < 90 + size → reading is_present files ≡ Err (record { file = e.file; at = 90; before = None })
  cut_body short =
      let cut = lt-ltb (length bytes) (90 + size) (omega (arith, short, is.front.len)) in
      read_as is_present refl ∙ by_front true cut
