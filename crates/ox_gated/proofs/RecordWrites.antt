-- What the two writes of a record make of files that stand for something.
use Rattle.std.proofs.Common.{◌≡◌, ◌≢◌, ◌∙◌, ◌≤◌, ◌<◌, ◌+◌, inl, inr, ℕ, Bool, true, false, List, [], ◌∷◌, ◌++◌, length, get_or, take, drop, refl, sym, ap, arith, length-append, take-append-drop, append_assoc}
use Rattle.std.specs.Prelude.{Ok}
use Rattle.std.proofs.lemmas.Bool.{cases_eq}
use Rattle.std.proofs.lemmas.List.{append-nil, take_at, drop_at, drop_more}
use Rattle.ox_outside.specs.Files.{Files, file_of, with_file, with_bytes, Torn}
use Rattle.ox_gated.specs.Layout.{layout_of}
use Rattle.ox_gated.specs.Reading.{with_record, gate_behind, Chain, Found, found_or_fault, is_any, reading, with_payload, ReadsAlike, ReadsMore}
use Rattle.ox_gated.specs.Tail.{IsBeforeOrAfter}
use Rattle.ox_gated.specs.declared.head.Head.{Head}
use Rattle.ox_gated.specs.declared.records.Record.{Record}
use Rattle.ox_gated.proofs.Chain.{chain_shut, chain_more}
use Rattle.ox_gated.proofs.LayoutLaws.{laws_of}
use Rattle.ox_gated.proofs.Stands.{Stands, judged, stands, reading_any}

-- a record and the closed gate behind it, in a file with this head
abbrev pub written : Head → ℕ → List ℕ → List ℕ
written head place payload = (layout_of head.version).record_bytes head.generation place payload ++ 0 ∷ []

pub length-written : (head : Head) (place : ℕ) (payload : List ℕ) → length (written head place payload) ≡ (layout_of head.version).before_payload + length payload
length-written head place payload =
    let bytes = (layout_of head.version).record_bytes head.generation place payload in
    omega (arith, length-append bytes (0 ∷ []), (laws_of head.version).record_size head.generation place payload)

payload_there : (head : Head) (place : ℕ) (payload t : List ℕ) → length payload < (layout_of head.version).payload_limit → (layout_of head.version).payload_at head.generation place (written head place payload ++ t) ≡ Ok (payload, 0 ∷ t)
payload_there head place payload t fits =
    let layout = layout_of head.version in
    ap (layout.payload_at head.generation place) (append_assoc (layout.record_bytes head.generation place payload) (0 ∷ []) t)
    ∙ (laws_of head.version).back head.generation place payload (0 ∷ t) fits

judged_more : (read : Bool) (found : Found) (payload : List ℕ) → judged read found.file (with_payload payload (Ok found)) ≡ with_payload payload (judged read found.file (Ok found))
judged_more true found payload = refl
judged_more false found payload = refl

module _ (files : Files) (found : Found) (is : reading is_any files ≡ Ok found) (payload : List ℕ) (fits : length payload < (layout_of found.head.version).payload_limit) where
  abbrev pub here : Stands files found.file found
  here = (stands files found is_any is).0

  abbrev file_now : List ℕ
  file_now = file_of files found.file

  abbrev pub record_now : List ℕ
  record_now = written found.head found.gate payload

  -- a closed gate ends the records, whatever lies behind it
  stays_shut : (t : List ℕ) → ReadsAlike files (with_file files found.file (here.front ++ 0 ∷ t))
  stays_shut t reads =
      let read = reads found.head.version in
      here.any (0 ∷ t) reads
      ∙ ap (λ (c : Chain). judged read found.file (found_or_fault found.file found.head found.body (found.records ++ c.records) c.end)) (chain_shut (layout_of found.head.version) found.head.generation found.gate 0 t refl)
      ∙ ap (λ (l : List Record). judged read found.file (found_or_fault found.file found.head found.body l (Ok found.gate))) (append-nil found.records)
      ∙ sym (reading_any files found is_any is reads)

  -- an open one lets the record behind it count
  opens : (gate : ℕ) (t : List ℕ) → gate ≢ 0 → ReadsMore payload files (with_file files found.file (here.front ++ gate ∷ (record_now ++ t)))
  opens gate t is_open reads =
      let read = reads found.head.version in
      let layout = layout_of found.head.version in
      let generation = found.head.generation in
      here.any (gate ∷ (record_now ++ t)) reads
      ∙ ap (λ (c : Chain). judged read found.file (found_or_fault found.file found.head found.body (found.records ++ c.records) c.end))
      (chain_more layout (laws_of found.head.version) generation found.gate gate (record_now ++ t) payload (0 ∷ t) is_open (payload_there found.head found.gate payload t fits)
      ∙ ap (with_record found.gate payload) (chain_shut layout generation (gate_behind layout found.gate payload) 0 t refl))
      ∙ judged_more read found payload
      ∙ sym (ap (with_payload payload) (reading_any files found is_any is reads))

  before_gate : take found.gate file_now ≡ here.front
  before_gate = ap (λ (l : List ℕ). take found.gate l) here.parts ∙ take_at here.front (0 ∷ here.junk) found.gate (sym here.gate_is)

  parts_at_gate : file_now ≡ (here.front ++ 0 ∷ []) ++ here.junk
  parts_at_gate = here.parts ∙ sym (append_assoc here.front (0 ∷ []) here.junk)

  with_gate : take (found.gate + 1) file_now ≡ here.front ++ 0 ∷ []
  with_gate = ap (λ (l : List ℕ). take (found.gate + 1) l) parts_at_gate ∙ take_at (here.front ++ 0 ∷ []) here.junk (found.gate + 1) (omega (arith, here.gate_is, length-append here.front (0 ∷ [])))

  abbrev pub behind : List ℕ
  behind = drop (found.gate + 1 + length record_now) (file_of files found.file)

  -- the file with the record behind its closed gate
  pub staged_bytes : with_bytes (found.gate + 1) record_now (file_of files found.file) ≡ here.front ++ 0 ∷ (record_now ++ behind)
  staged_bytes =
      ap (λ (l : List ℕ). l ++ record_now ++ drop (found.gate + 1 + length record_now) (file_of files found.file)) with_gate
      ∙ append_assoc (here.front ++ 0 ∷ []) record_now behind
      ∙ append_assoc here.front (0 ∷ []) (record_now ++ behind)

  -- What a crash leaves of the first write stands for what the files stood for.
  pub staging_is_before : (image : List ℕ) → Torn (found.gate + 1) (length record_now) (file_of files found.file) image → ReadsAlike files (with_file files found.file image)
  staging_is_before image torn reads =
      let whole : image ≡ here.front ++ 0 ∷ drop (found.gate + 1) image =
      sym (take-append-drop (found.gate + 1) image) ∙ ap (λ (l : List ℕ). l ++ drop (found.gate + 1) image) (torn.before ∙ with_gate) ∙ append_assoc here.front (0 ∷ []) (drop (found.gate + 1) image) in
      ap (λ (l : List ℕ). reading reads (with_file files found.file l)) whole ∙ stays_shut (drop (found.gate + 1) image) reads

  -- What a crash leaves of the second stands for that, or for that with the record.
  pub opening_is_either : (image : List ℕ) → Torn found.gate 1 (here.front ++ 0 ∷ (record_now ++ behind)) image → IsBeforeOrAfter payload files (with_file files found.file image)
  opening_is_either image torn =
      let old = here.front ++ 0 ∷ (record_now ++ behind) in
      let front : take found.gate image ≡ here.front = torn.before ∙ take_at here.front (0 ∷ (record_now ++ behind)) found.gate (sym here.gate_is) in
      let old_parts : old ≡ (here.front ++ 0 ∷ []) ++ (record_now ++ behind) = sym (append_assoc here.front (0 ∷ []) (record_now ++ behind)) in
      let back : drop (found.gate + 1) image ≡ record_now ++ behind =
      torn.after ∙ ap (λ (l : List ℕ). drop (found.gate + 1) l) old_parts ∙ drop_at (here.front ++ 0 ∷ []) (record_now ++ behind) (found.gate + 1) (omega (arith, here.gate_is, length-append here.front (0 ∷ []))) in
      let long : found.gate < length image = omega (arith, torn.no_shorter, here.gate_is, length-append here.front (0 ∷ (record_now ++ behind))) in
      let gate = get_or image found.gate 0 in
      let rest : drop found.gate image ≡ gate ∷ (record_now ++ behind) = drop_more image found.gate 0 long ∙ ap (λ (l : List ℕ). gate ∷ l) back in
      let whole : image ≡ here.front ++ gate ∷ (record_now ++ behind) =
      sym (take-append-drop found.gate image) ∙ ap (λ (l : List ℕ). l ++ drop found.gate image) front ∙ ap (λ (l : List ℕ). here.front ++ l) rest in
      elim (cases_eq gate 0) [
        | inl shut ↦ inl (λ reads. ap (λ (l : List ℕ). reading reads (with_file files found.file l)) (whole ∙ ap (λ (g : ℕ). here.front ++ g ∷ (record_now ++ behind)) shut) ∙ stays_shut (record_now ++ behind) reads)
        | inr is_open ↦ inr (λ reads. ap (λ (l : List ℕ). reading reads (with_file files found.file l)) whole ∙ opens gate behind is_open reads)
      ]

  -- the file with its gate opened
  pub opened_bytes : with_bytes found.gate (1 ∷ []) (here.front ++ 0 ∷ (record_now ++ behind)) ≡ here.front ++ 1 ∷ (record_now ++ behind)
  opened_bytes =
      let old_parts : here.front ++ 0 ∷ (record_now ++ behind) ≡ (here.front ++ 0 ∷ []) ++ (record_now ++ behind) = sym (append_assoc here.front (0 ∷ []) (record_now ++ behind)) in
      let front = take_at here.front (0 ∷ (record_now ++ behind)) found.gate (sym here.gate_is) in
      let back : drop (found.gate + 1) (here.front ++ 0 ∷ (record_now ++ behind)) ≡ record_now ++ behind =
      ap (λ (l : List ℕ). drop (found.gate + 1) l) old_parts ∙ drop_at (here.front ++ 0 ∷ []) (record_now ++ behind) (found.gate + 1) (omega (arith, here.gate_is, length-append here.front (0 ∷ []))) in
      ap (λ (l : List ℕ). l ++ (1 ∷ []) ++ drop (found.gate + 1) (here.front ++ 0 ∷ (record_now ++ behind))) front
      ∙ ap (λ (l : List ℕ). here.front ++ (1 ∷ []) ++ l) back
      ∙ append_assoc here.front (1 ∷ []) (record_now ++ behind)

  pub stands_appended : ReadsMore payload files (with_file files found.file (here.front ++ 1 ∷ (record_now ++ behind)))
  stands_appended = opens 1 behind (λ no. absurd (omega (arith, no)))

  pub gate_within : found.gate + 1 ≤ length (file_of files found.file)
  gate_within = omega (arith, here.gate_is, ap length here.parts, length-append here.front (0 ∷ here.junk))

  pub gate_within_staged : found.gate ≤ length (here.front ++ 0 ∷ (record_now ++ behind))
  gate_within_staged = omega (arith, here.gate_is, length-append here.front (0 ∷ (record_now ++ behind)))
