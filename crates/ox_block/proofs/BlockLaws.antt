-- The laws of a transaction, a header and a block, and of all of the bytes.
use Rattle.std.proofs.Common.{◌≡◌, ℕ, zero, suc, ◌^◌, ◌<◌, ◌≤◌, Bool, true, false, cond, ltb, eqb, List, [], ◌∷◌, ◌++◌, length, Result, Ok, Err, refl, sym, ap, subst, ◌∙◌, append_assoc, arith, inl, inr}
use Rattle.std.specs.Int.{w32, to_le_bytes}
use Rattle.std.specs.List.{flat_map, AllByRecursion, list_any}
use Rattle.std.proofs.lemmas.Bool.{cases_lt, ltb-false, le-ltb, eqb-true, eqb-false}
use Rattle.std.proofs.lemmas.List.{append-nil, nil_from_length}
use Rattle.ox_bytes.specs.Spelling.{compact}
use Rattle.ox_bytes.specs.Reading.{◌>>=◌, number_at, run_at, both, counted_list}
use Rattle.ox_bytes.proofs.Laws.{IsBytes, IsBytes-rest, bind_ok, chosen, guard_ok, ok_of, ok_is, Takes, Takes-then, Law, wide32, number_law, run_law, compact_1, compact_2, compact_4, compact_8, both_law, reading_map_law, counted_list_law}
use Rattle.ox_block.specs.declared.block.TxIn.{TxIn}
use Rattle.ox_block.specs.declared.block.TxOut.{TxOut}
use Rattle.ox_block.specs.declared.block.Tx.{Tx}
use Rattle.ox_block.specs.declared.block.Header.{Header}
use Rattle.ox_block.specs.declared.block.Block.{Block}
use Rattle.ox_block.specs.Spelling.{input, inputs, outputs, stacks, stripped_form, extended_form, tx, header, spell, most_bytes, has_witness, LawfulTx, FitsHeader, Lawful, Spells}
use Rattle.std.specs.Prelude.{IfOk}
use Rattle.ox_block.specs.declared.fault.BlockFault.{BlockFault}
use Rattle.ox_block.specs.Answer.{Gives}
use Rattle.ox_block.proofs.PartsAsPairs.{HeaderParts, header_from, header_parts, header_same}
use Rattle.ox_block.specs.Reading.{count_at, inputs_at, outputs_at, stacks_of, witnesses_at, marker_at, maybe_witnesses_at, tx_at, header_at, block_at, whole_of, with_place, block_of}
use Rattle.ox_block.proofs.Laws.{IsCount, count_law, count_from, FitsBare, inputs_law, FitsOutputs, outputs_law, bares, FitStacks, stacks_take, stacks_repeat, inputs_bare, length_bare, fits_bare, from_bare, bare_already, none_of_bare, bare_if_none}

-- ---- marker and flag

abbrev pub mark : Bool → List ℕ
mark true = 0 ∷ 1 ∷ []
mark false = []

marker_takes : (bytes : List ℕ) (z : Bool × List ℕ) → IsBytes bytes → marker_at bytes ≡ Ok z → Takes bytes (mark z.0) z.1
unfolding marker_at
marker_takes [] z fits e = subst (λ (y : Bool × List ℕ). Takes [] (mark y.0) y.1) (ok_is {F = ℕ} (false, []) z e) (record { parts = refl; rest_fits = fits })
marker_takes (zero ∷ []) z fits e = absurd cc
marker_takes (zero ∷ zero ∷ rest) z fits e = absurd cc
marker_takes (zero ∷ suc zero ∷ rest) z fits e =
    subst (λ (y : Bool × List ℕ). Takes (0 ∷ 1 ∷ rest) (mark y.0) y.1) (ok_is {F = ℕ} (true, rest) z e) (record { parts = refl; rest_fits = IsBytes-rest 1 rest (IsBytes-rest 0 (1 ∷ rest) fits) })
marker_takes (zero ∷ suc (suc b) ∷ rest) z fits e = absurd cc
marker_takes (suc b ∷ rest) z fits e = subst (λ (y : Bool × List ℕ). Takes (suc b ∷ rest) (mark y.0) y.1) (ok_is {F = ℕ} (false, suc b ∷ rest) z e) (record { parts = refl; rest_fits = fits })

-- A first byte that is not 0 is no marker.
unmarked : (b : ℕ) (rest : List ℕ) → 0 < b → marker_at (b ∷ rest) ≡ Ok (false, b ∷ rest)
unfolding marker_at
unmarked zero rest more = absurd (omega arith)
unmarked (suc b) rest more = refl

unmarked_count : (n : ℕ) (rest : List ℕ) → 0 < n → marker_at (compact n ++ rest) ≡ Ok (false, compact n ++ rest)
unmarked_count n rest more =
    let P : List ℕ → Type 0 = λ (t : List ℕ). marker_at (t ++ rest) ≡ Ok (false, t ++ rest) in
    elim (cases_lt n 253) [
      | inl small ↦ subst P (sym (compact_1 n small)) (unmarked n rest more)
      | inr le ↦
          elim (cases_lt n (2 ^ 16)) [
            | inl small ↦ subst P (sym (compact_2 n le small)) (unmarked 253 _ (omega arith))
            | inr le ↦
                elim (cases_lt n (2 ^ 32)) [
                  | inl small ↦ subst P (sym (compact_4 n le small)) (unmarked 254 _ (omega arith))
                  | inr le ↦ subst P (sym (compact_8 n le)) (unmarked 255 _ (omega arith))
                ]
          ]
    ]

marker_again : (m : Bool) (n : ℕ) (rest : List ℕ) → 0 < n → marker_at (mark m ++ (compact n ++ rest)) ≡ Ok (m, compact n ++ rest)
unfolding marker_at
marker_again true n rest more = refl
marker_again false n rest more = unmarked_count n rest more

-- ---- stacks, where there is a marker

abbrev pub tail : Bool → List TxIn → List ℕ
tail true is = stacks is
tail false is = []

maybe_take : (m : Bool) (marker : ℕ) (is : List TxIn) (bytes : List ℕ) (z : List TxIn × List ℕ) → IsBytes bytes → AllByRecursion FitsBare is → maybe_witnesses_at m marker is bytes ≡ Ok z
    → Takes bytes (tail m z.0) z.1 × FitStacks z.0 × (bares z.0 ≡ is) × (m ≡ list_any has_witness z.0)
unfolding maybe_witnesses_at witnesses_at
maybe_take true marker is bytes z fits bare e =
    let a = bind_ok (stacks_of is bytes) (λ x. cond (list_any has_witness x.0) (Ok x) (Err marker)) z e in
    let t = stacks_take is bytes a.0 fits a.1 in
    elim (chosen (list_any has_witness a.0.0) (Ok a.0) (Err marker) (Ok z) a.2) [
      | inl p ↦
          subst (λ (y : List TxIn × List ℕ). Takes bytes (stacks y.0) y.1 × FitStacks y.0 × (bares y.0 ≡ is) × (true ≡ list_any has_witness y.0)) (ok_is {F = ℕ} a.0 z p.1)
          (t.0, t.1.0, t.1.1 ∙ bare_already is bare, sym p.0)
      | inr p ↦ absurd (let no = p.1 in cc)
    ]
maybe_take false marker is bytes z fits bare e =
    let none = none_of_bare is bare in
    subst (λ (y : List TxIn × List ℕ). Takes bytes [] y.1 × FitStacks y.0 × (bares y.0 ≡ is) × (false ≡ list_any has_witness y.0)) (ok_is {F = ℕ} (is, bytes) z e)
    (record { parts = refl; rest_fits = fits }, none.1, bare_already is bare, sym none.0)

maybe_again : (m : Bool) (marker : ℕ) (is : List TxIn) (rest : List ℕ) → FitStacks is → m ≡ list_any has_witness is → maybe_witnesses_at m marker (bares is) (tail m is ++ rest) ≡ Ok (is, rest)
unfolding maybe_witnesses_at witnesses_at
maybe_again true marker is rest fits some = rw (stacks_repeat is rest fits, ← some) refl
maybe_again false marker is rest fits none = ap (λ (xs : List TxIn). Ok (xs, rest)) (bare_if_none is (sym none))

-- ---- a transaction

-- its parts in order, with the mark and the tail that it has or has not
abbrev pub parts_of : Bool → Tx → List ℕ
parts_of m t = to_le_bytes w32 t.version ++ (mark m ++ (inputs t.inputs ++ (outputs t.outputs ++ (tail m t.inputs ++ to_le_bytes w32 t.lock))))

regroup_6 : (a b c d e f : List ℕ) → a ++ b ++ c ++ d ++ e ++ f ≡ a ++ (b ++ (c ++ (d ++ (e ++ f))))
regroup_6 a b c d e f = simp append_assoc

regroup_4 : (a c d f : List ℕ) → a ++ c ++ d ++ f ≡ a ++ (c ++ (d ++ f))
regroup_4 a c d f = simp append_assoc

parts_are : (m : Bool) (t : Tx) → cond m (extended_form t) (stripped_form t) ≡ parts_of m t
parts_are true t = regroup_6 (to_le_bytes w32 t.version) (mark true) (inputs t.inputs) (outputs t.outputs) (stacks t.inputs) (to_le_bytes w32 t.lock)
parts_are false t = regroup_4 (to_le_bytes w32 t.version) (inputs t.inputs) (outputs t.outputs) (to_le_bytes w32 t.lock)

positive : (n : ℕ) → eqb n 0 ≡ false → 0 < n
positive n e = omega (arith, eqb-false n 0 e)

regroup_rest : (a b c d e f rest : List ℕ) → (a ++ (b ++ (c ++ (d ++ (e ++ f))))) ++ rest ≡ a ++ (b ++ (c ++ (d ++ (e ++ (f ++ rest)))))
regroup_rest a b c d e f rest = simp append_assoc

marker_inputs : (m : Bool) (is : List TxIn) (rest : List ℕ) → 0 < length is → marker_at (mark m ++ (inputs is ++ rest)) ≡ Ok (m, inputs is ++ rest)
marker_inputs m is rest more =
    subst (λ (t : List ℕ). marker_at (mark m ++ t) ≡ Ok (m, t)) (sym (append_assoc (compact (length is)) (flat_map input is) rest)) (marker_again m (length is) (flat_map input is ++ rest) more)

-- the parts that were read make a lawful transaction, spelled by what they took
tx_joined : (bytes r1 r2 r3 r4 r5 r6 : List ℕ) (version : ℕ) (m : Bool) (bare ins : List TxIn) (outs : List TxOut) (lock : ℕ)
    → Takes bytes (to_le_bytes w32 version) r1 × (version < 2 ^ 32) → Takes r1 (mark m) r2 → Takes r2 (inputs bare) r3 × (IsCount (length bare) × AllByRecursion FitsBare bare)
    → Takes r3 (outputs outs) r4 × FitsOutputs outs → Takes r4 (tail m ins) r5 × FitStacks ins × (bares ins ≡ bare) × (m ≡ list_any has_witness ins) → Takes r5 (to_le_bytes w32 lock) r6 × (lock < 2 ^ 32)
    → Takes bytes (tx (record { version = version; marked = m; inputs = ins; outputs = outs; lock = lock })) r6 × LawfulTx (record { version = version; marked = m; inputs = ins; outputs = outs; lock = lock })
tx_joined bytes r1 r2 r3 r4 r5 r6 version m bare ins outs lock tv tm tb to tw tl =
    let made : Tx = record { version = version; marked = m; inputs = ins; outputs = outs; lock = lock } in
    let same : inputs bare ≡ inputs ins = sym (ap inputs tw.2) ∙ inputs_bare ins in
    let many : length bare ≡ length ins = sym (ap (λ (xs : List TxIn). length xs) tw.2) ∙ length_bare ins in
    let some : IsCount (length ins) = subst IsCount many tb.1.0 in
    let p5 = Takes-then r4 (tail m ins) r5 (to_le_bytes w32 lock) r6 tw.0 tl.0 in
    let p4 = Takes-then r3 (outputs outs) r4 (tail m ins ++ to_le_bytes w32 lock) r6 to.0 p5 in
    let bare_front : Takes r2 (inputs ins) r3 = subst (λ (t : List ℕ). Takes r2 t r3) same tb.0 in
    let p3 = Takes-then r2 (inputs ins) r3 (outputs outs ++ (tail m ins ++ to_le_bytes w32 lock)) r6 bare_front p4 in
    let p2 = Takes-then r1 (mark m) r2 (inputs ins ++ (outputs outs ++ (tail m ins ++ to_le_bytes w32 lock))) r6 tm p3 in
    let p1 = Takes-then bytes (to_le_bytes w32 version) r1 (mark m ++ (inputs ins ++ (outputs outs ++ (tail m ins ++ to_le_bytes w32 lock)))) r6 tv.0 p2 in (
      subst (λ (t : List ℕ). Takes bytes t r6) (sym (parts_are m made)) p1,
      record {
        version = tv.1;
        some_input = positive (length ins) some.1;
        few_inputs = some.0;
        inputs = from_bare ins (subst (λ (xs : List TxIn). AllByRecursion FitsBare xs) (sym tw.2) tb.1.1);
        some_output = positive (length outs) to.1.0.1;
        few_outputs = to.1.0.0;
        outputs = to.1.1.0;
        values = to.1.1.1;
        stacks = tw.1;
        marked = tw.3;
        lock = tl.1;
      },
    )

-- What is left to read of a transaction, by the parts that were read.
abbrev lock_then : ℕ → Bool → List TxIn → List TxOut → List ℕ → Result (Tx × List ℕ) ℕ
lock_then version m ins outs bytes = number_at w32 bytes >>= λ lock. Ok (record { version = version; marked = m; inputs = ins; outputs = outs; lock = lock.0 }, lock.1)

abbrev stacks_then : ℕ → Bool → ℕ → List TxIn → List TxOut → List ℕ → Result (Tx × List ℕ) ℕ
stacks_then version m marker bare outs bytes = maybe_witnesses_at m marker bare bytes >>= λ ins. lock_then version m ins.0 outs ins.1

abbrev outputs_then : ℕ → Bool → ℕ → List TxIn → List ℕ → Result (Tx × List ℕ) ℕ
outputs_then version m marker bare bytes = outputs_at bytes >>= λ outs. stacks_then version m marker bare outs.0 outs.1

abbrev inputs_then : ℕ → Bool → ℕ → List ℕ → Result (Tx × List ℕ) ℕ
inputs_then version m marker bytes = inputs_at bytes >>= λ bare. outputs_then version m marker bare.0 bare.1

abbrev marker_then : ℕ → List ℕ → Result (Tx × List ℕ) ℕ
marker_then version bytes = marker_at bytes >>= λ m. inputs_then version m.0 (length bytes) m.1

-- A lawful transaction was read, spelled by what it took.
abbrev IsTaken : List ℕ → Tx × List ℕ → Type 0
IsTaken bytes z = Takes bytes (tx z.0) z.1 × LawfulTx z.0

-- what the bytes of a version, and of a mark, and so on, were taken from
abbrev VersionTaken : List ℕ → ℕ → List ℕ → Type 0
VersionTaken bytes version r1 = Takes bytes (to_le_bytes w32 version) r1 × (version < 2 ^ 32)

abbrev BareTaken : List ℕ → List TxIn → List ℕ → Type 0
BareTaken r2 bare r3 = Takes r2 (inputs bare) r3 × (IsCount (length bare) × AllByRecursion FitsBare bare)

abbrev OutputsTaken : List ℕ → List TxOut → List ℕ → Type 0
OutputsTaken r3 outs r4 = Takes r3 (outputs outs) r4 × FitsOutputs outs

abbrev StacksTaken : List ℕ → Bool → List TxIn → List TxIn → List ℕ → Type 0
StacksTaken r4 m bare ins r5 = Takes r4 (tail m ins) r5 × FitStacks ins × (bares ins ≡ bare) × (m ≡ list_any has_witness ins)

-- each step, by the parts before it
lock_taken : (bytes r1 r2 r3 r4 r5 : List ℕ) (version : ℕ) (m : Bool) (bare ins : List TxIn) (outs : List TxOut) (lock : ℕ × List ℕ) (z : Tx × List ℕ)
    → VersionTaken bytes version r1 → Takes r1 (mark m) r2 → BareTaken r2 bare r3 → OutputsTaken r3 outs r4 → StacksTaken r4 m bare ins r5
    → number_at w32 r5 ≡ Ok lock → ok_of {F = ℕ} (record { version = version; marked = m; inputs = ins; outputs = outs; lock = lock.0 }, lock.1) ≡ Ok z → IsTaken bytes z
lock_taken bytes r1 r2 r3 r4 r5 version m bare ins outs lock z tv tm tb to tw is e =
    let made : Tx × List ℕ = (record { version = version; marked = m; inputs = ins; outputs = outs; lock = lock.0 }, lock.1) in
    subst (IsTaken bytes) (ok_is {F = ℕ} made z e)
    (tx_joined bytes r1 r2 r3 r4 r5 lock.1 version m bare ins outs lock.0 tv tm tb to tw ((number_law w32 (2 ^ 32) wide32).takes r5 lock tw.0.rest_fits is))

stacks_taken : (bytes r1 r2 r3 r4 : List ℕ) (version : ℕ) (m : Bool) (bare : List TxIn) (outs : List TxOut) (ins : List TxIn × List ℕ) (z : Tx × List ℕ)
    → VersionTaken bytes version r1 → Takes r1 (mark m) r2 → BareTaken r2 bare r3 → OutputsTaken r3 outs r4
    → maybe_witnesses_at m (length r1) bare r4 ≡ Ok ins → lock_then version m ins.0 outs ins.1 ≡ Ok z → IsTaken bytes z
stacks_taken bytes r1 r2 r3 r4 version m bare outs ins z tv tm tb to is e =
    let l = bind_ok (number_at w32 ins.1) (λ lock. Ok (record { version = version; marked = m; inputs = ins.0; outputs = outs; lock = lock.0 }, lock.1)) z e in
    lock_taken bytes r1 r2 r3 r4 ins.1 version m bare ins.0 outs l.0 z tv tm tb to (maybe_take m (length r1) bare r4 ins to.0.rest_fits tb.1.1 is) l.1 l.2

outputs_taken : (bytes r1 r2 r3 : List ℕ) (version : ℕ) (m : Bool) (bare : List TxIn) (outs : List TxOut × List ℕ) (z : Tx × List ℕ)
    → VersionTaken bytes version r1 → Takes r1 (mark m) r2 → BareTaken r2 bare r3
    → outputs_at r3 ≡ Ok outs → stacks_then version m (length r1) bare outs.0 outs.1 ≡ Ok z → IsTaken bytes z
outputs_taken bytes r1 r2 r3 version m bare outs z tv tm tb is e =
    let w = bind_ok (maybe_witnesses_at m (length r1) bare outs.1) (λ ins. lock_then version m ins.0 outs.0 ins.1) z e in
    stacks_taken bytes r1 r2 r3 outs.1 version m bare outs.0 w.0 z tv tm tb (outputs_law.takes r3 outs tb.0.rest_fits is) w.1 w.2

inputs_taken : (bytes r1 r2 : List ℕ) (version : ℕ) (m : Bool) (bare : List TxIn × List ℕ) (z : Tx × List ℕ)
    → VersionTaken bytes version r1 → Takes r1 (mark m) r2 → inputs_at r2 ≡ Ok bare → outputs_then version m (length r1) bare.0 bare.1 ≡ Ok z → IsTaken bytes z
inputs_taken bytes r1 r2 version m bare z tv tm is e =
    let o = bind_ok (outputs_at bare.1) (λ outs. stacks_then version m (length r1) bare.0 outs.0 outs.1) z e in
    outputs_taken bytes r1 r2 bare.1 version m bare.0 o.0 z tv tm (inputs_law.takes r2 bare tm.rest_fits is) o.1 o.2

marker_taken : (bytes r1 : List ℕ) (version : ℕ) (m : Bool × List ℕ) (z : Tx × List ℕ)
    → VersionTaken bytes version r1 → marker_at r1 ≡ Ok m → inputs_then version m.0 (length r1) m.1 ≡ Ok z → IsTaken bytes z
marker_taken bytes r1 version m z tv is e =
    let b = bind_ok (inputs_at m.1) (λ bare. outputs_then version m.0 (length r1) bare.0 bare.1) z e in
    inputs_taken bytes r1 m.1 version m.0 b.0 z tv (marker_takes r1 m tv.0.rest_fits is) b.1 b.2

version_taken : (bytes : List ℕ) (version : ℕ × List ℕ) (z : Tx × List ℕ) → IsBytes bytes → number_at w32 bytes ≡ Ok version → marker_then version.0 version.1 ≡ Ok z → IsTaken bytes z
version_taken bytes version z fits is e =
    let m = bind_ok (marker_at version.1) (λ m. inputs_then version.0 m.0 (length version.1) m.1) z e in
    marker_taken bytes version.1 version.0 m.0 z ((number_law w32 (2 ^ 32) wide32).takes bytes version fits is) m.1 m.2

tx_take : (bytes : List ℕ) (z : Tx × List ℕ) → IsBytes bytes → tx_at bytes ≡ Ok z → IsTaken bytes z
unfolding tx_at
tx_take bytes z fits e =
    let v = bind_ok (number_at w32 bytes) (λ version. marker_then version.0 version.1) z e in
    version_taken bytes v.0 z fits v.1 v.2

tx_repeat : (t : Tx) (rest : List ℕ) → LawfulTx t → tx_at (tx t ++ rest) ≡ Ok (t, rest)
unfolding tx_at
tx_repeat t rest h =
    let v = to_le_bytes w32 t.version in
    let l = to_le_bytes w32 t.lock in
    let bare_text : inputs t.inputs ≡ inputs (bares t.inputs) = sym (inputs_bare t.inputs) in
    let some : IsCount (length (bares t.inputs)) = subst IsCount (sym (length_bare t.inputs)) (count_from (length t.inputs) h.some_input h.few_inputs) in
    let laid_out : tx t ++ rest ≡ v ++ (mark t.marked ++ (inputs t.inputs ++ (outputs t.outputs ++ (tail t.marked t.inputs ++ (l ++ rest))))) =
    ap (λ (x : List ℕ). x ++ rest) (parts_are t.marked t) ∙ regroup_rest v (mark t.marked) (inputs t.inputs) (outputs t.outputs) (tail t.marked t.inputs) l rest in
    let after_outputs = tail t.marked t.inputs ++ (l ++ rest) in
    let after_inputs = outputs t.outputs ++ after_outputs in
    let e1 = (number_law w32 (2 ^ 32) wide32).again t.version (mark t.marked ++ (inputs t.inputs ++ after_inputs)) h.version in
    let e2 : marker_at (mark t.marked ++ (inputs t.inputs ++ after_inputs)) ≡ Ok (t.marked, inputs t.inputs ++ after_inputs) = marker_inputs t.marked t.inputs after_inputs h.some_input in
    let e3 : inputs_at (inputs t.inputs ++ after_inputs) ≡ Ok (bares t.inputs, after_inputs) = ap (λ (x : List ℕ). inputs_at (x ++ after_inputs)) bare_text ∙ inputs_law.again (bares t.inputs) after_inputs (some, fits_bare t.inputs h.inputs) in
    let e4 = outputs_law.again t.outputs after_outputs (count_from (length t.outputs) h.some_output h.few_outputs, (h.outputs, h.values)) in
    let e5 = maybe_again t.marked (length (mark t.marked ++ (inputs t.inputs ++ after_inputs))) t.inputs (l ++ rest) h.stacks h.marked in
    let e6 = (number_law w32 (2 ^ 32) wide32).again t.lock rest h.lock in
    ap tx_at laid_out ∙ rw (e1, e2, e3, e4, e5, e6) refl

pub tx_law : Law LawfulTx tx tx_at
tx_law = record { takes = tx_take; again = tx_repeat }

-- ---- a header

parts_law : Law FitsHeader header header_parts
parts_law =
    let n = number_law w32 (2 ^ 32) wide32 in
    let r = run_law 32 in
    let F : ℕ → Type 0 = λ x. x < 2 ^ 32 in
    let R : List ℕ → Type 0 = λ x. length x ≡ 32 in
    let s : ℕ → List ℕ = λ x. to_le_bytes w32 x in
    let t : List ℕ → List ℕ = λ x. x in
    let at = number_at w32 in
    let run = run_at 32 in
    let l2 = both_law F R s t at run n r in
    let l3 = both_law (λ (p : ℕ × List ℕ). F p.0 × R p.1) R (λ (p : ℕ × List ℕ). s p.0 ++ t p.1) t (both at run) run l2 r in
    let l4 = both_law (λ (p : (ℕ × List ℕ) × List ℕ). (F p.0.0 × R p.0.1) × R p.1) F (λ (p : (ℕ × List ℕ) × List ℕ). (s p.0.0 ++ t p.0.1) ++ t p.1) s (both (both at run) run) at l3 n in
    let l5 = both_law (λ (p : ((ℕ × List ℕ) × List ℕ) × ℕ). ((F p.0.0.0 × R p.0.0.1) × R p.0.1) × F p.1) F (λ (p : ((ℕ × List ℕ) × List ℕ) × ℕ). ((s p.0.0.0 ++ t p.0.0.1) ++ t p.0.1) ++ s p.1) s (both (both (both at run) run) at) at l4 n in
    let l6 = both_law (λ (p : (((ℕ × List ℕ) × List ℕ) × ℕ) × ℕ). (((F p.0.0.0.0 × R p.0.0.0.1) × R p.0.0.1) × F p.0.1) × F p.1) F (λ (p : (((ℕ × List ℕ) × List ℕ) × ℕ) × ℕ). (((s p.0.0.0.0 ++ t p.0.0.0.1) ++ t p.0.0.1) ++ s p.0.1) ++ s p.1) s (both (both (both (both at run) run) at) at) at l5 n in
    reading_map_law header_from (λ (h : Header). (((((h.version, h.previous), h.root), h.time), h.bits), h.nonce))
    (λ (p : HeaderParts). ((((F p.0.0.0.0.0 × R p.0.0.0.0.1) × R p.0.0.0.1) × F p.0.0.1) × F p.0.1) × F p.1) FitsHeader
    (λ (p : HeaderParts). ((((s p.0.0.0.0.0 ++ t p.0.0.0.0.1) ++ t p.0.0.0.1) ++ s p.0.0.1) ++ s p.0.1) ++ s p.1) header (both (both (both (both (both at run) run) at) at) at)
    (λ p h. record { version = h.0.0.0.0.0; previous = h.0.0.0.0.1; root = h.0.0.0.1; time = h.0.0.1; bits = h.0.1; nonce = h.1 }) (λ p h. refl)
    (λ h f. (((((f.version, f.previous), f.root), f.time), f.bits), f.nonce)) (λ h f. refl) l6

header_law : Law FitsHeader header header_at
header_law = record {
  takes = λ bytes z fits e. parts_law.takes bytes z fits (header_same bytes ∙ e);
  again = λ h rest fits. sym (header_same (header h ++ rest)) ∙ parts_law.again h rest fits;
}

-- ---- a block

-- lawful but for its size
abbrev pub LawfulParts : Block → Type 0
LawfulParts b = FitsHeader b.header × (IsCount (length b.txs) × AllByRecursion LawfulTx b.txs)

txs_law : Law (λ (ts : List Tx). IsCount (length ts) × AllByRecursion LawfulTx ts) (λ (ts : List Tx). compact (length ts) ++ flat_map tx ts) (counted_list count_at tx_at)
txs_law = counted_list_law IsCount compact count_at LawfulTx tx tx_at count_law tx_law

block_law : Law LawfulParts spell block_at
unfolding block_at spell
block_law = reading_map_law (λ (p : Header × List Tx). record { header = p.0; txs = p.1 }) (λ (b : Block). (b.header, b.txs))
    (λ (p : Header × List Tx). FitsHeader p.0 × (IsCount (length p.1) × AllByRecursion LawfulTx p.1)) LawfulParts
    (λ (p : Header × List Tx). header p.0 ++ (compact (length p.1) ++ flat_map tx p.1)) spell (both header_at (counted_list count_at tx_at))
    (λ p h. h) (λ p h. refl) (λ b h. h) (λ b h. refl)
    (both_law FitsHeader (λ (ts : List Tx). IsCount (length ts) × AllByRecursion LawfulTx ts) header (λ (ts : List Tx). compact (length ts) ++ flat_map tx ts) header_at (counted_list count_at tx_at) header_law txs_law)

whole_take : (bytes : List ℕ) (b : Block) → IsBytes bytes → whole_of bytes ≡ Ok b → LawfulParts b × (bytes ≡ spell b)
unfolding whole_of
whole_take bytes b fits e =
    let a = bind_ok (block_at bytes) (λ x. cond (eqb (length x.1) 0) (Ok x.0) (Err (length x.1))) b e in
    let t = block_law.takes bytes a.0 fits a.1 in
    elim (chosen (eqb (length a.0.1) 0) (Ok a.0.0) (Err (length a.0.1)) (Ok b) a.2) [
      | inl p ↦
          let nothing : a.0.1 ≡ [] = nil_from_length a.0.1 (eqb-true _ _ p.0) in
          let text : bytes ≡ spell a.0.0 = t.0.parts ∙ ap (λ (r : List ℕ). spell a.0.0 ++ r) nothing ∙ append-nil (spell a.0.0) in
          subst (λ (y : Block). LawfulParts y × (bytes ≡ spell y)) (ok_is {F = ℕ} a.0.0 b p.1) (t.1, text)
      | inr p ↦ absurd (let no = p.1 in cc)
    ]

whole_again : (b : Block) → LawfulParts b → whole_of (spell b) ≡ Ok b
unfolding whole_of
whole_again b h =
    let read : block_at (spell b) ≡ Ok (b, []) = ap block_at (sym (append-nil (spell b))) ∙ block_law.again b [] h in
    rw read refl

placed_ok : {A : Type 0} (n : ℕ) (r : Result A ℕ) (x : A) → with_place n r ≡ Ok x → r ≡ Ok x
placed_ok n (Ok y) x e = e
placed_ok n (Err d) x e = absurd cc

-- what is read is lawful, and is spelled so
pub block_takes : (bytes : List ℕ) (b : Block) → IsBytes bytes → block_of bytes ≡ Ok b → Lawful b × (bytes ≡ spell b)
unfolding block_of
block_takes bytes b fits e =
    let g = guard_ok (ltb most_bytes (length bytes)) most_bytes (with_place (length bytes) (whole_of bytes)) b e in
    let t = whole_take bytes b fits (placed_ok (length bytes) (whole_of bytes) b g.1) in
    let few : length bytes ≤ most_bytes = ltb-false _ _ g.0 in
    (record { header = t.0.0; some_tx = positive (length b.txs) t.0.1.0.1; few_txs = t.0.1.0.0; txs = t.0.1.1; size = subst (λ (x : List ℕ). length x ≤ most_bytes) t.1 few }, t.1)

-- what is lawful is read from its spelling
pub block_again : (b : Block) → Lawful b → block_of (spell b) ≡ Ok b
unfolding block_of
block_again b h = rw (le-ltb most_bytes (length (spell b)) h.size, whole_again b (h.header, (count_from (length b.txs) h.some_tx h.few_txs, h.txs))) refl

pub is_found : (bytes : List ℕ) (r : Result Block BlockFault) → IsBytes bytes → Gives r (block_of bytes) → IfOk r (λ b. Spells bytes b)
is_found bytes (Ok b) fits given = block_takes bytes b fits given
is_found bytes (Err e) fits given = tt
