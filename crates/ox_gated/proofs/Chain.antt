-- The gates of a file: one step of reading them, and what they are behind the last one that is closed.
use Rattle.std.proofs.Common.{◌≡◌, ◌≢◌, ◌∙◌, ◌≤◌, ◌+◌, inl, inr, ⊎_elim, ℕ, zero, suc, Bool, false, List, [], ◌∷◌, ◌++◌, length, ◌==◌, if◌then◌else◌, refl, sym, ap, subst, arith, length-append, append_assoc}
use Rattle.std.specs.Prelude.{Result, Ok, Err, IfOk}
use Rattle.std.proofs.lemmas.Bool.{cases_eq, eq-eqb}
use Rattle.std.proofs.lemmas.Bool.Decides.{eqb_tells}
use Rattle.ox_bytes.proofs.Laws.{ok_is}
use Rattle.ox_gated.specs.Gate.{IsShut, IsBroken, IsOpen, chain_of}
use Rattle.ox_gated.specs.Layout.{Layout, layout_of}
use Rattle.ox_gated.specs.Reading.{with_record, gate_behind, Chain, behind, gates, chain}
use Rattle.ox_gated.specs.declared.head.Head.{Head}
use Rattle.ox_gated.specs.declared.records.Record.{Record}
use Rattle.ox_gated.proofs.LayoutLaws.{Laws, laws_of}

-- ---- one gate

pub neq-eqb : (a b : ℕ) → a ≢ b → (a == b) ≡ false
neq-eqb a b differ = ⊎_elim (λ same. absurd (differ same.1)) (λ other. other.0) (eqb_tells a b)

pub chain_none : (layout : Layout) (generation place : ℕ) → chain layout generation place [] ≡ record { records = []; end = Err place }
unfolding gates
chain_none layout generation place = refl

pub chain_shut : (layout : Layout) (generation place gate : ℕ) (rest : List ℕ) → gate ≡ 0 → chain layout generation place (gate ∷ rest) ≡ record { records = []; end = Ok place }
unfolding gates
chain_shut layout generation place gate rest shut =
    ap (λ (b : Bool). if b then record { records = []; end = Ok place } else behind layout place (layout.payload_at generation place rest) (gates layout generation (length rest))) (eq-eqb gate 0 shut)

chain_step : (layout : Layout) (generation place gate : ℕ) (rest : List ℕ) → gate ≢ 0 → chain layout generation place (gate ∷ rest) ≡ behind layout place (layout.payload_at generation place rest) (gates layout generation (length rest))
unfolding gates
chain_step layout generation place gate rest is_open =
    ap (λ (b : Bool). if b then record { records = []; end = Ok place } else behind layout place (layout.payload_at generation place rest) (gates layout generation (length rest))) (neq-eqb gate 0 is_open)

pub chain_cut : (layout : Layout) (generation place gate left : ℕ) (rest : List ℕ) → gate ≢ 0 → layout.payload_at generation place rest ≡ Err left → chain layout generation place (gate ∷ rest) ≡ record { records = []; end = Err place }
chain_cut layout generation place gate left rest is_open cut =
    chain_step layout generation place gate rest is_open ∙ ap (λ (r : Result (List ℕ × List ℕ) ℕ). behind layout place r (gates layout generation (length rest))) cut

behind_same : (layout : Layout) (place : ℕ) (r : Result (List ℕ × List ℕ) ℕ) (f g : ℕ → List ℕ → Chain) → ((found : List ℕ × List ℕ) → r ≡ Ok found → (q : ℕ) → f q found.1 ≡ g q found.1) → behind layout place r f ≡ behind layout place r g
behind_same layout place (Err left) f g same = refl
behind_same layout place (Ok found) f g same =
    ap (λ (more : Chain). record { records = record { place = place; payload = found.0 } ∷ more.records; end = more.end }) (same found refl (gate_behind layout place found.0))

module _ (layout : Layout) (laws : Laws layout) (generation : ℕ) where
  -- what stands behind a record is shorter
  pub shorter : (place : ℕ) (bytes : List ℕ) (found : List ℕ × List ℕ) → layout.payload_at generation place bytes ≡ Ok found → length found.1 ≤ length bytes
  shorter place bytes found is =
      let p = laws.parts generation place bytes found is in
      omega (arith, ap length p.parts, length-append p.text found.1)

  -- how many gates are looked for makes no difference, once there can't be more
  gates_enough : (m n place : ℕ) (bytes : List ℕ) → length bytes ≤ m → length bytes ≤ n → gates layout generation m place bytes ≡ gates layout generation n place bytes
  unfolding gates
  gates_enough zero zero place bytes le_m le_n = refl
  gates_enough zero (suc n) place [] le_m le_n = refl
  gates_enough zero (suc n) place (gate ∷ rest) le_m le_n = absurd (omega arith)
  gates_enough (suc m) zero place [] le_m le_n = refl
  gates_enough (suc m) zero place (gate ∷ rest) le_m le_n = absurd (omega arith)
  gates_enough (suc m) (suc n) place [] le_m le_n = refl
  gates_enough (suc m) (suc n) place (gate ∷ rest) le_m le_n =
      let same = λ (found : List ℕ × List ℕ) (is : layout.payload_at generation place rest ≡ Ok found) (q : ℕ).
      let less = shorter place rest found is in
      gates_enough m n q found.1 (omega (arith, less)) (omega (arith, less)) in
      ap (λ (c : Chain). if gate == 0 then record { records = []; end = Ok place } else c) (behind_same layout place (layout.payload_at generation place rest) (gates layout generation m) (gates layout generation n) same)

  pub chain_more : (place gate : ℕ) (rest payload next : List ℕ) → gate ≢ 0 → layout.payload_at generation place rest ≡ Ok (payload, next)
      → chain layout generation place (gate ∷ rest) ≡ with_record place payload (chain layout generation (gate_behind layout place payload) next)
  chain_more place gate rest payload next is_open found =
      let less = shorter place rest (payload, next) found in
      chain_step layout generation place gate rest is_open
      ∙ ap (λ (r : Result (List ℕ × List ℕ) ℕ). behind layout place r (gates layout generation (length rest))) found
      ∙ ap (with_record place payload) (gates_enough (length rest) (length next) (gate_behind layout place payload) next (omega (arith, less)) (omega arith))

-- ---- what stands before the last gate

-- What stands before a file's last gate, and what any bytes from there on make of the file.
pub record Fronts (layout : Layout) (generation place gate : ℕ) (bytes : List ℕ) (records : List Record) : Type 0 where
  pub front : List ℕ
  pub junk : List ℕ
  pub parts : bytes ≡ front ++ 0 ∷ junk
  pub gate_is : gate ≡ place + length front
  pub before : (t : List ℕ) → chain layout generation place (front ++ t) ≡ record { records = records ++ (chain layout generation gate t).records; end = (chain layout generation gate t).end }

module _ (layout : Layout) (laws : Laws layout) (generation : ℕ) where
  fronts_shut : (place gate first : ℕ) (rest : List ℕ) → first ≡ 0 → place ≡ gate → Fronts layout generation place gate (first ∷ rest) []
  fronts_shut place gate first rest shut same =
      subst (λ (g : ℕ). Fronts layout generation place g (first ∷ rest) []) same (
      record {
        front = [];
        junk = rest;
        parts = ap (λ (n : ℕ). n ∷ rest) shut;
        gate_is = omega arith;
        before = λ t. refl;
      }
      )

  fronts_more : (place gate first : ℕ) (rest payload next : List ℕ) (records : List Record) → first ≢ 0 → layout.payload_at generation place rest ≡ Ok (payload, next) → Fronts layout generation (gate_behind layout place payload) gate next records
      → Fronts layout generation place gate (first ∷ rest) (record { place = place; payload = payload } ∷ records)
  fronts_more place gate first rest payload next records is_open found more =
      let parts = laws.parts generation place rest (payload, next) found in
      let text = parts.text in
      record {
        front = first ∷ text ++ more.front;
        junk = more.junk;
        parts = ap (λ (l : List ℕ). first ∷ l) (parts.parts ∙ ap (λ (l : List ℕ). text ++ l) more.parts ∙ sym (append_assoc text more.front (0 ∷ more.junk)));
        gate_is = omega (arith, more.gate_is, parts.size, length-append text more.front);
        before = λ t.
            let here : layout.payload_at generation place ((text ++ more.front) ++ t) ≡ Ok (payload, more.front ++ t) = ap (layout.payload_at generation place) (append_assoc text more.front t) ∙ parts.again (more.front ++ t) in
            chain_more layout laws generation place first ((text ++ more.front) ++ t) payload (more.front ++ t) is_open here ∙ ap (with_record place payload) (more.before t);
      }

  -- the end of no records
  end_none : (place gate : ℕ) (e : Result ℕ ℕ) → e ≡ Err place → e ≡ Ok gate → ⊥
  end_none place gate e is ok = let no = sym is ∙ ok in cc no

  pub fronts : (most place gate : ℕ) (bytes : List ℕ) → length bytes ≤ most → (chain layout generation place bytes).end ≡ Ok gate → Fronts layout generation place gate bytes (chain layout generation place bytes).records
  fronts most place gate [] le is = absurd (end_none place gate _ (ap (λ (c : Chain). c.end) (chain_none layout generation place)) is)
  fronts zero place gate (first ∷ rest) le is = absurd (omega arith)
  fronts (suc most) place gate (first ∷ rest) le is = elim (cases_eq first 0) [
    | inl shut ↦
        let here = chain_shut layout generation place first rest shut in
        subst (λ (c : Chain). Fronts layout generation place gate (first ∷ rest) c.records) (sym here) (fronts_shut place gate first rest shut (ok_is {F = ℕ} place gate (sym (ap (λ (c : Chain). c.end) here) ∙ is)))
    | inr is_open ↦ by_payload (layout.payload_at generation place rest) refl is_open (λ q next short. fronts most q gate next short)
  ]
    where
      by_payload : (r : Result (List ℕ × List ℕ) ℕ) → layout.payload_at generation place rest ≡ r → first ≢ 0
          → ((q : ℕ) (next : List ℕ) → length next ≤ most → (chain layout generation q next).end ≡ Ok gate → Fronts layout generation q gate next (chain layout generation q next).records)
          → Fronts layout generation place gate (first ∷ rest) (chain layout generation place (first ∷ rest)).records
      by_payload (Err left) cut is_open further = absurd (end_none place gate _ (ap (λ (c : Chain). c.end) (chain_cut layout generation place first left rest is_open cut)) is)
      by_payload (Ok found) has is_open further =
          let less = shorter layout laws generation place rest found has in
          let here = chain_more layout laws generation place first rest found.0 found.1 is_open has in
          let more = further (gate_behind layout place found.0) found.1 (omega (arith, less)) (sym (ap (λ (c : Chain). c.end) here) ∙ is) in
          subst (λ (c : Chain). Fronts layout generation place gate (first ∷ rest) c.records) (sym here) (fronts_more place gate first rest found.0 found.1 _ is_open has more)

  -- a chain has no more records than places
  pub count : (most place gate : ℕ) (bytes : List ℕ) → length bytes ≤ most → (chain layout generation place bytes).end ≡ Ok gate → place + length (chain layout generation place bytes).records ≤ gate
  count most place gate [] le is = absurd (end_none place gate _ (ap (λ (c : Chain). c.end) (chain_none layout generation place)) is)
  count zero place gate (first ∷ rest) le is = absurd (omega arith)
  count (suc most) place gate (first ∷ rest) le is = elim (cases_eq first 0) [
    | inl shut ↦
        let here = chain_shut layout generation place first rest shut in
        let same : place ≡ gate = ok_is {F = ℕ} place gate (sym (ap (λ (c : Chain). c.end) here) ∙ is) in
        subst (λ (c : Chain). place + length c.records ≤ gate) (sym here) (omega (arith, same))
    | inr is_open ↦ by_payload (layout.payload_at generation place rest) refl is_open (λ q next short. count most q gate next short)
  ]
    where
      by_payload : (r : Result (List ℕ × List ℕ) ℕ) → layout.payload_at generation place rest ≡ r → first ≢ 0
          → ((q : ℕ) (next : List ℕ) → length next ≤ most → (chain layout generation q next).end ≡ Ok gate → q + length (chain layout generation q next).records ≤ gate)
          → place + length (chain layout generation place (first ∷ rest)).records ≤ gate
      by_payload (Err left) cut is_open further = absurd (end_none place gate _ (ap (λ (c : Chain). c.end) (chain_cut layout generation place first left rest is_open cut)) is)
      by_payload (Ok found) has is_open further =
          let parts = laws.parts generation place rest found has in
          let less = shorter layout laws generation place rest found has in
          let here = chain_more layout laws generation place first rest found.0 found.1 is_open has in
          let more = further (gate_behind layout place found.0) found.1 (omega (arith, less)) (sym (ap (λ (c : Chain). c.end) here) ∙ is) in
          subst (λ (c : Chain). place + length c.records ≤ gate) (sym here) (omega (arith, more, parts.size))

  pub count_of : (place : ℕ) (bytes : List ℕ) (records : List Record) (end : Result ℕ ℕ) → record { records = records; end = end } ≡ chain layout generation place bytes → IfOk end (λ gate. place + length records ≤ gate)
  count_of place bytes records (Ok gate) is =
      subst (λ (c : Chain). place + length c.records ≤ gate) (sym is) (count (length bytes) place gate bytes (omega arith) (sym (ap (λ (c : Chain). c.end) is)))
  count_of place bytes records (Err at) is = tt

-- ---- the same of any bytes of a file with this head

module _ (head : Head) (place : ℕ) where
  abbrev here_at : List ℕ → Result (List ℕ × List ℕ) ℕ
  here_at = (layout_of head.version).payload_at head.generation place

  pub is_open : (bytes behind payload next : List ℕ) (gate : ℕ) → bytes ≡ gate ∷ behind → gate ≢ 0 → here_at behind ≡ Ok (payload, next) → IsOpen head place bytes payload next
  is_open bytes behind payload next gate parts not_shut found =
      let read = (laws_of head.version).parts head.generation place behind (payload, next) found in
      record {
        chain_is = ap (chain_of head place) parts ∙ chain_more (layout_of head.version) (laws_of head.version) head.generation place gate behind payload next not_shut found;
        size = omega (arith, read.size, ap length read.parts, length-append read.text next, ap length parts);
      }

  pub is_shut : (bytes behind : List ℕ) (gate : ℕ) → bytes ≡ gate ∷ behind → gate ≡ 0 → IsShut head place bytes
  is_shut bytes behind gate parts shut = ap (chain_of head place) parts ∙ chain_shut (layout_of head.version) head.generation place gate behind shut

  pub is_cut : (bytes behind : List ℕ) (gate left : ℕ) → bytes ≡ gate ∷ behind → gate ≢ 0 → here_at behind ≡ Err left → IsBroken head place bytes
  is_cut bytes behind gate left parts not_shut cut = ap (chain_of head place) parts ∙ chain_cut (layout_of head.version) head.generation place gate left behind not_shut cut

  pub is_missing : (bytes : List ℕ) → bytes ≡ [] → IsBroken head place bytes
  is_missing bytes none = ap (chain_of head place) none ∙ chain_none (layout_of head.version) head.generation place
