-- Two files that stand for something: what stands before the current one's last gate, and what any bytes from there on make of the two.
use Rattle.std.proofs.Common.{◌≡◌, ◌∙◌, ◌≤◌, ◌+◌, ℕ, Bool, true, false, List, [], ◌∷◌, ◌++◌, length, not, if◌then◌else◌, refl, sym, ap, subst, arith, length-append, append_assoc}
use Rattle.std.specs.Prelude.{Result, Ok, Err}
use Rattle.ox_bytes.proofs.Laws.{ok_is}
use Rattle.ox_outside.specs.Files.{Files, file_of, with_file}
use Rattle.ox_outside.specs.declared.site.Which.{Which}
use Rattle.ox_gated.specs.Gate.{chain_of}
use Rattle.ox_gated.specs.Layout.{layout_of, is_closed, head_of}
use Rattle.ox_gated.specs.Pick.{Beside, Choice, Picked, choice_of}
use Rattle.ox_gated.specs.Reading.{Chain, chain, Found, Fault, fault_at, found_or_fault, body_reading, reading_by, reading}
use Rattle.ox_gated.specs.declared.head.Head.{Head}
use Rattle.ox_gated.specs.declared.head.Opening.{Opening}
use Rattle.ox_gated.specs.declared.records.Record.{Record}
use Rattle.ox_gated.proofs.Chain.{fronts}
use Rattle.ox_gated.proofs.CurrentByFront.{body_on, parts_of, head_by_front}
use Rattle.ox_gated.proofs.LayoutLaws.{laws_of}
use Rattle.ox_gated.proofs.OneFile.{file_of-with_file, file_of-with_other}
use Rattle.ox_gated.proofs.Picking.{picked, picks}

-- what is read of a current file, by whether its version is
abbrev pub judged : Bool → Which → Result Found Fault → Result Found Fault
judged read file body = if not read then fault_at file 6 else body

pub judged_ok : (read : Bool) (file : Which) (body : Result Found Fault) (found : Found) → judged read file body ≡ Ok found → (read ≡ true) × (body ≡ Ok found)
judged_ok true file body found is = (refl, is)
judged_ok false file body found is = absurd (cc is)

-- ---- the current file

-- what stands before the last gate of a current file, and what any bytes from there on make of it
pub record Current (file : Which) (bytes : List ℕ) (opening : Opening) (found : Found) : Type 0 where
  pub same_file : found.file ≡ file
  pub same_head : found.head ≡ opening.head
  pub front : List ℕ
  pub junk : List ℕ
  pub parts : bytes ≡ front ++ 0 ∷ junk
  pub gate_is : found.gate ≡ length front
  pub long : (layout_of found.head.version).body_at ≤ length front
  pub any : (t : List ℕ) → body_reading file (front ++ t) opening ≡ found_or_fault file found.head found.body (found.records ++ (chain_of found.head found.gate t).records) (chain_of found.head found.gate t).end

pub ends_ok : (file : Which) (head : Head) (body : List ℕ) (records : List Record) (end : Result ℕ ℕ) (found : Found) → found_or_fault file head body records end ≡ Ok found
    → (gate : ℕ) × (end ≡ Ok gate) × (record { file = file; head = head; body = body; records = records; gate = gate } ≡ found)
ends_ok file head body records (Ok gate) found is = (gate, refl, ok_is {F = Fault} _ _ is)
ends_ok file head body records (Err at) found is = absurd (cc is)

inside : (a b c t : List ℕ) → (a ++ (b ++ c)) ++ t ≡ a ++ (b ++ (c ++ t))
inside a b c t = append_assoc a (b ++ c) t ∙ ap (λ (l : List ℕ). a ++ l) (append_assoc b c t)

pub current_ok : (file : Which) (bytes : List ℕ) (opening : Opening) (found : Found) → body_reading file bytes opening ≡ Ok found → Current file bytes opening found
current_ok file bytes opening found is =
    let layout = layout_of opening.head.version in
    let generation = opening.head.generation in
    let start = layout.body_at + opening.size in
    let p = parts_of layout file opening bytes found is in
    let first = chain layout generation start p.rest in
    let ends = ends_ok file opening.head p.body first.records first.end found p.reads in
    let gates = fronts layout (laws_of opening.head.version) generation (length p.rest) start ends.0 p.rest (omega arith) ends.1 in
    let front = p.front ++ (p.body ++ gates.front) in
    let size : length front ≡ start + length gates.front = omega (arith, p.size, p.body_size, length-append p.front (p.body ++ gates.front), length-append p.body gates.front) in
    subst (Current file bytes opening) ends.2 (
    record {
      same_file = refl;
      same_head = refl;
      front = front;
      junk = gates.junk;
      parts = p.parts ∙ ap (λ (l : List ℕ). p.front ++ (p.body ++ l)) gates.parts ∙ sym (inside p.front p.body gates.front (0 ∷ gates.junk));
      gate_is = omega (arith, gates.gate_is, size);
      long = omega (arith, size);
      any = λ t.
          ap (λ (l : List ℕ). body_reading file l opening) (inside p.front p.body gates.front t)
          ∙ body_on layout file opening p.front p.body (gates.front ++ t) p.size p.body_size p.right
          ∙ ap (λ (c : Chain). found_or_fault file opening.head p.body c.records c.end) (gates.before t);
    }
    )

-- ---- both files

-- the same of two files, of which this one is current
pub record Stands (files : Files) (which : Which) (found : Found) : Type 0 where
  pub same_file : found.file ≡ which
  pub opening : Opening
  pub same_head : found.head ≡ opening.head
  pub why : Picked files which opening
  pub front : List ℕ
  pub junk : List ℕ
  pub parts : file_of files which ≡ front ++ 0 ∷ junk
  pub gate_is : found.gate ≡ length front
  pub long : (layout_of found.head.version).body_at ≤ length front
  pub any : (t : List ℕ) (reads : ℕ → Bool) → reading reads (with_file files which (front ++ t))
      ≡ judged (reads found.head.version) which (found_or_fault which found.head found.body (found.records ++ (chain_of found.head found.gate t).records) (chain_of found.head found.gate t).end)

closed_by_front : (front t u : List ℕ) → 1 ≤ length front → is_closed (front ++ t) ≡ is_closed (front ++ u)
closed_by_front [] t u some = absurd (omega (arith, some))
closed_by_front (gate ∷ front) t u some = refl

-- which file is current stays where the bytes before its body stay
pub picked_with : (files : Files) (which : Which) (opening : Opening) (front t u : List ℕ) → Picked files which opening → file_of files which ≡ front ++ u → (layout_of opening.head.version).body_at ≤ length front
    → Picked (with_file files which (front ++ t)) which opening
picked_with files which opening front t u why parts long =
    let begins = (laws_of opening.head.version).begins in
    let now = file_of-with_file files which (front ++ t) in
    record {
      opened = ap is_closed now ∙ closed_by_front front t u (omega (arith, long, begins)) ∙ sym (ap is_closed parts) ∙ why.opened;
      head = ap head_of now ∙ head_by_front front u t opening (sym (ap head_of parts) ∙ why.head) long;
      beside = subst (Beside opening) (sym (file_of-with_other files which (front ++ t))) why.beside;
    }

-- what is read of two files by the one that is current
pub reading_of : (files : Files) (which : Which) (opening : Opening) (reads : ℕ → Bool) → Picked files which opening → reading reads files ≡ judged (reads opening.head.version) which (body_reading which (file_of files which) opening)
reading_of files which opening reads why = ap (reading_by reads files) (picks files which opening why)

module _ (files : Files) (found : Found) where
  by_file : (which : Which) (opening : Opening) → Picked files which opening → body_reading which (file_of files which) opening ≡ Ok found → Stands files which found
  by_file which opening why is =
      let c = current_ok which (file_of files which) opening found is in
      let long : (layout_of opening.head.version).body_at ≤ length c.front = subst (λ (h : Head). (layout_of h.version).body_at ≤ length c.front) c.same_head c.long in
      record {
        same_file = c.same_file;
        opening = opening;
        same_head = c.same_head;
        why = why;
        front = c.front;
        junk = c.junk;
        parts = c.parts;
        gate_is = c.gate_is;
        long = c.long;
        any = λ t reads.
            let new = with_file files which (c.front ++ t) in
            reading_of new which opening reads (picked_with files which opening c.front t (0 ∷ c.junk) why c.parts long)
            ∙ ap (λ (l : List ℕ). judged (reads opening.head.version) which (body_reading which l opening)) (file_of-with_file files which (c.front ++ t))
            ∙ (λ i. judged (reads (sym c.same_head i).version) which (c.any t i));
      }

  -- and the version is one of those that are read
  by_choice : (reads : ℕ → Bool) (choice : Choice) → choice_of files.a files.b ≡ choice → reading_by reads files choice ≡ Ok found → Stands files found.file found × (reads found.head.version ≡ true)
  by_choice reads (Err fault) chose is = absurd (cc is)
  by_choice reads (Ok choice) chose is =
      let parts = judged_ok (reads choice.1.head.version) choice.0 (body_reading choice.0 (file_of files choice.0) choice.1) found is in
      let s = by_file choice.0 choice.1 (picked files choice chose) parts.1 in (
        subst (λ (w : Which). Stands files w found) (sym s.same_file) s,
        ap (λ (h : Head). reads h.version) (current_ok choice.0 (file_of files choice.0) choice.1 found parts.1).same_head ∙ parts.0,
      )

  pub stands : (reads : ℕ → Bool) → reading reads files ≡ Ok found → Stands files found.file found × (reads found.head.version ≡ true)
  stands reads is = by_choice reads (choice_of files.a files.b) refl is

  -- where something is found, whichever other versions are read decides by the version alone
  pub reading_any : (reads : ℕ → Bool) → reading reads files ≡ Ok found → (others : ℕ → Bool) → reading others files ≡ judged (others found.head.version) found.file (Ok found)
  reading_any reads is others =
      let s = (stands reads is).0 in
      let read = (stands reads is).1 in
      let at = reading_of files found.file s.opening reads s.why in
      let body = (judged_ok (reads s.opening.head.version) found.file (body_reading found.file (file_of files found.file) s.opening) found (sym at ∙ is)).1 in
      reading_of files found.file s.opening others s.why ∙ (λ i. judged (others (sym s.same_head i).version) found.file (body i))
