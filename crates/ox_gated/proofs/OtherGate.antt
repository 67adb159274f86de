-- Which of two files is current where the first gate of the other one changes.
use Rattle.std.proofs.Common.{◌≡◌, ◌≢◌, ◌∙◌, inl, inr, ℕ, false, List, [], ◌∷◌, ◌++◌, refl, sym, ap, subst, arith}
use Rattle.std.specs.Prelude.{Result, Ok, Err}
use Rattle.std.proofs.lemmas.Bool.{cases_eq, ne_eqb}
use Rattle.ox_outside.specs.Files.{Files, file_of, other, Torn}
use Rattle.ox_outside.specs.declared.site.Which.{Which}
use Rattle.ox_gated.specs.Layout.{is_closed, head_of}
use Rattle.ox_gated.specs.Pick.{Choice, choice_of, Beside, Picked}
use Rattle.ox_gated.specs.Reading.{Found, Fault, ReadsAlike, body_reading, is_any, reading_by, reading}
use Rattle.ox_gated.specs.Tail.{Kept, Keeps}
use Rattle.ox_gated.specs.declared.head.Opening.{Opening}
use Rattle.ox_gated.proofs.CurrentByFront.{head_any_gate}
use Rattle.ox_gated.proofs.Picking.{picked}
use Rattle.ox_gated.proofs.Stands.{current_ok, judged, reading_of}

-- ---- what the tail keeps

-- the current file by what the tail keeps
pub record Chosen (files : Files) (tail : Kept) : Type 0 where
  pub opening : Opening
  pub same_head : tail.head ≡ opening.head
  pub why : Picked files tail.file opening

chosen_by : (files : Files) (tail : Kept) (choice : Choice) (r : Result Found Fault) → choice_of files.a files.b ≡ choice → reading_by is_any files choice ≡ r → Keeps tail r → Chosen files tail
chosen_by files tail (Err fault) (Ok found) is reads keeps = absurd (cc reads)
chosen_by files tail choice (Err fault) is reads keeps = absurd keeps
chosen_by files tail (Ok choice) (Ok found) is reads keeps =
    let c = current_ok choice.0 (file_of files choice.0) choice.1 found reads in
    record {
      opening = choice.1;
      same_head = keeps.head ∙ c.same_head;
      why = subst (λ (w : Which). Picked files w choice.1) (sym (keeps.file ∙ c.same_file)) (picked files choice is);
    }

pub chosen : (files : Files) (tail : Kept) → Keeps tail (reading is_any files) → Chosen files tail
chosen files tail keeps = chosen_by files tail (choice_of files.a files.b) (reading is_any files) refl refl keeps

-- the current file stays, with another one beside it
pub beside_alike : (files image : Files) (file : Which) (opening : Opening) → Picked files file opening → file_of image file ≡ file_of files file → Beside opening (file_of image (other file)) → ReadsAlike files image
beside_alike files image file opening why same beside reads =
    let why_image : Picked image file opening = record {
      opened = ap is_closed same ∙ why.opened;
      head = ap head_of same ∙ why.head;
      beside = beside;
    } in
    reading_of image file opening reads why_image
    ∙ ap (λ (l : List ℕ). judged (reads opening.head.version) file (body_reading file l opening)) same
    ∙ sym (reading_of files file opening reads why)

-- ---- torn gates

-- a torn gate is any byte
pub torn_gate : (gate : ℕ) (rest new : List ℕ) → Torn 0 1 (gate ∷ rest) new → (byte : ℕ) × (new ≡ byte ∷ rest)
torn_gate gate rest [] torn = absurd (omega (arith, torn.no_shorter))
torn_gate gate rest (byte ∷ new) torn = (byte, ap (λ (l : List ℕ). byte ∷ l) torn.after)

-- behind a gate that stays all may be torn
pub torn_behind : (gate n : ℕ) (rest new : List ℕ) → Torn 1 n (gate ∷ rest) new → (behind : List ℕ) × (new ≡ gate ∷ behind)
torn_behind gate n rest [] torn = absurd (omega (arith, torn.no_shorter))
torn_behind gate n rest (byte ∷ new) torn = (new, ap (λ (l : List ℕ). l ++ new) torn.before)

pub open_gate : (gate : ℕ) (rest : List ℕ) → gate ≢ 0 → is_closed (gate ∷ rest) ≡ false
open_gate gate rest some = ne_eqb gate 0 some

-- a closed gate
pub shut_gate : (opening : Opening) (rest : List ℕ) → Beside opening (0 ∷ rest)
shut_gate opening rest = inl (refl, omega arith)

-- whatever an open one becomes
pub any_gate : (opening : Opening) (gate byte : ℕ) (rest : List ℕ) → is_closed (gate ∷ rest) ≡ false → Beside opening (gate ∷ rest) → Beside opening (byte ∷ rest)
any_gate opening gate byte rest opened beside = elim (cases_eq byte 0) [
  | inl shut ↦ subst (λ (b : ℕ). Beside opening (b ∷ rest)) (sym shut) (shut_gate opening rest)
  | inr some ↦ elim beside [
    | inl was_shut ↦ absurd (let no = sym was_shut.0 ∙ opened in cc no)
    | inr lesser ↦ inr (open_gate byte rest some, (lesser.1.0, head_any_gate byte gate rest ∙ lesser.1.1, lesser.1.2))
  ]
]
