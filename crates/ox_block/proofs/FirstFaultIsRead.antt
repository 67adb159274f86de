-- The first fault of the fields is the fault that reading meets.
use Rattle.std.proofs.Common.{◌≡◌, ℕ, zero, suc, ◌+◌, ◌-◌, ◌<◌, ◌≤◌, Bool, true, false, ◌||◌, ◌&&◌, cond, ltb, eqb, List, [], ◌∷◌, ◌++◌, length, get_or, take, drop, Some, None, Result, Ok, Err, refl, sym, ap, subst, ◌∙◌, arith, inl, inr}
use Rattle.std.specs.Prelude.{not}
use Rattle.std.specs.Int.{w32, w64, from_le_bytes}
use Rattle.std.specs.List.{list_any}
use Rattle.std.proofs.lemmas.Bool.{cases_lt, ltb-false, le-ltb, lt-ltb, ne_eqb, eq-eqb}
use Rattle.std.proofs.lemmas.List.{length-drop, drop-drop, drop_all}
use Rattle.ox_bytes.specs.Reading.{◌>>=◌, Reader, number_at, run_at, compact_at, string_at, both, reading_map, unless, times}
use Rattle.ox_bytes.specs.Reading as reading
use Rattle.ox_bytes.proofs.Laws.{bind_ok, guard_ok, ok_is, ok_of}
use Rattle.ox_block.specs.declared.block.TxIn.{TxIn}
use Rattle.ox_block.specs.declared.block.TxOut.{TxOut}
use Rattle.ox_block.specs.declared.block.Tx.{Tx}
use Rattle.ox_block.specs.declared.block.Header.{Header}
use Rattle.ox_block.specs.declared.block.Block.{Block}
use Rattle.ox_block.specs.declared.fault.BlockFault.{BlockFault}
use Rattle.ox_block.specs.declared.fault.BlockFault.TheVariants as BlockFaults
use Rattle.ox_block.specs.Answer.{Gives, Tells}
use Rattle.ox_block.specs.Spelling.{most_value, most_bytes, has_witness}
use Rattle.ox_block.proofs.PartsAsPairs.{header_from, header_parts, header_same, input_from, input_parts, input_same}
use Rattle.ox_block.specs.Reading.{count_at, outpoint_at, input_at, inputs_at, output_at, outputs_of, outputs_at, stack_at, stacks_of, witnesses_at, marker_at, maybe_witnesses_at, tx_at, header_at, block_at, whole_of, with_place, block_of}
use Rattle.ox_block.specs.Fields.{Field, plain, size, count, value, flag, marker, surplus, size_len_at, size_at, value_at, Layout, LayoutFrom, one, ◌▹◌, copies, bytes_of, text, counted_copies, input, output, outputs, counted_outputs, stack, some_item, stacks, is_marker, behind_version, tx, header, block, surplus_from, fields_of, is_cut, is_fault, first_fault, fault_of, fault_in}
use Rattle.ox_block.proofs.LayoutAgrees.{Agrees, Joins, cond_true, cond_false, or_left, or_right, or_none, after_none, after_some, single, shifted, agrees_bind, agrees_map, both_joins, reading_map_joins, nothing_agrees, cut_agrees, stands_agrees, number_joins, run_joins, size_laid, size_joins, size_number, count_joins, count_number, text_joins, counted_list_joins, next_of, pair_is}

-- ---- inputs

outpoint_joins : (bytes : List ℕ) → Joins bytes (bytes_of 32 ▹ bytes_of 4) outpoint_at
unfolding outpoint_at
outpoint_joins bytes = reading_map_joins (λ (p : List ℕ × ℕ). record { txid = record { 0 = p.0 }; index = p.1 }) bytes (bytes_of 32 ▹ bytes_of 4) (both (run_at 32) (number_at w32))
    (both_joins bytes (bytes_of 32) (bytes_of 4) (run_at 32) (number_at w32) (run_joins bytes 32) (number_joins bytes w32))

input_parts_joins : (bytes : List ℕ) → Joins bytes (input bytes) input_parts
unfolding input
input_parts_joins bytes = reading_map_joins input_from bytes (bytes_of 32 ▹ bytes_of 4 ▹ text bytes ▹ bytes_of 4) (both (both outpoint_at string_at) (number_at w32))
    (both_joins bytes (bytes_of 32 ▹ bytes_of 4 ▹ text bytes) (bytes_of 4) (both outpoint_at string_at) (number_at w32)
    (both_joins bytes (bytes_of 32 ▹ bytes_of 4) (text bytes) outpoint_at string_at (outpoint_joins bytes) (text_joins bytes)) (number_joins bytes w32))

input_joins : (bytes : List ℕ) → Joins bytes (input bytes) input_at
input_joins bytes p le =
    subst (λ (r : Result (TxIn × List ℕ) ℕ). Agrees {X = TxIn} bytes (input bytes p) r) (input_same (drop p bytes)) (input_parts_joins bytes p le)

inputs_join : (bytes : List ℕ) → Joins bytes (counted_copies count bytes (input bytes)) inputs_at
unfolding inputs_at
inputs_join bytes = counted_list_joins bytes count (input bytes) count_at input_at (count_joins bytes) (count_number bytes) (input_joins bytes)

times_len : {A : Type 0} (read : Reader A) (n : ℕ) (b : List ℕ) (z : List A × List ℕ) → times read n b ≡ Ok z → length z.0 ≡ n
unfolding times
times_len {A} read zero b z e = ap (λ (y : List A × List ℕ). length y.0) (sym (ok_is {F = ℕ} ([], b) z e))
times_len {A} read (suc n) b z e =
    let x = bind_ok (read b) (λ x. times read n x.1 >>= λ xs. Ok (x.0 ∷ xs.0, xs.1)) z e in
    let xs = bind_ok (times read n x.0.1) (λ xs. Ok (x.0.0 ∷ xs.0, xs.1)) z x.2 in
    ap (λ (y : List A × List ℕ). length y.0) (sym (ok_is {F = ℕ} (x.0.0 ∷ xs.0.0, xs.0.1) z xs.2)) ∙ ap suc (times_len read n x.0.1 xs.0 xs.1)

inputs_number : (bytes : List ℕ) (p : ℕ) (x : List TxIn × List ℕ) → p ≤ length bytes → inputs_at (drop p bytes) ≡ Ok x → length x.0 ≡ size_at bytes p
unfolding inputs_at
inputs_number bytes p x le e =
    let n = bind_ok (count_at (drop p bytes)) (λ n. times input_at n.0 n.1) x e in
    times_len input_at n.0.0 n.0.1 x n.2 ∙ count_number bytes p n.0 le n.1

-- ---- outputs

value_joins : (bytes : List ℕ) (before most : ℕ) → before + most ≡ most_value → Joins bytes (one (value before) 8) (unless (λ v. ltb most v) (number_at w64))
unfolding number_at value_at
value_joins bytes before most sum p le =
    let d = drop p bytes in
    let n = from_le_bytes w64 (take 8 d) in
    let long = length-drop p bytes in
    let cut = is_cut bytes p 8 in
    let over = ltb most_value (before + value_at bytes p) in
    let P : Bool → Type 0 = λ (b : Bool). Agrees {X = ℕ} bytes (one (value before) 8 p) (cond b (Err (length d)) (Ok (n, drop 8 d)) >>= λ x. cond (ltb most x.0) (Err (length d)) (Ok x)) in
    let Q : Bool → Type 0 = λ (b : Bool). Agrees {X = ℕ} bytes (one (value before) 8 p) (cond b (Err (length d)) (Ok (n, drop 8 d))) in
    elim (cases_lt (length d) 8) [
      | inl short ↦ subst P (sym (lt-ltb _ _ short)) (cut_agrees ℕ bytes p 8 (length d) (value before) le long (or_left cut over (lt-ltb _ _ (omega (arith, long)))))
      | inr enough ↦
          subst P (sym (le-ltb _ _ enough))
          (elim (cases_lt most n) [
            | inl more ↦ subst Q (sym (lt-ltb _ _ more)) (cut_agrees ℕ bytes p 8 (length d) (value before) le long (or_right cut over (lt-ltb _ _ (omega arith))))
            | inr fits ↦ subst Q (sym (le-ltb _ _ fits)) (stands_agrees bytes p 8 (value before) n (drop 8 d) (omega (arith, long)) (drop-drop 8 p bytes) (or_none cut over (le-ltb _ _ (omega (arith, long))) (le-ltb _ _ (omega arith))))
          ])
    ]

output_joins : (bytes : List ℕ) (before most : ℕ) → before + most ≡ most_value → Joins bytes (output bytes before) (output_at most)
unfolding output output_at
output_joins bytes before most sum = reading_map_joins (λ (p : ℕ × List ℕ). record { value = p.0; script = p.1 }) bytes (one (value before) 8 ▹ text bytes) (both (unless (λ v. ltb most v) (number_at w64)) string_at)
    (both_joins bytes (one (value before) 8) (text bytes) (unless (λ v. ltb most v) (number_at w64)) string_at (value_joins bytes before most sum) (text_joins bytes))

output_value : (bytes : List ℕ) (most p : ℕ) (x : TxOut × List ℕ) → output_at most (drop p bytes) ≡ Ok x → (x.0.value ≡ value_at bytes p) × (x.0.value ≤ most)
unfolding output_at number_at value_at
output_value bytes most p x e =
    let d = drop p bytes in
    let checked : Reader ℕ = unless (λ v. ltb most v) (number_at w64) in
    let a = bind_ok (both checked string_at d) (λ y. Ok (record { value = y.0.0; script = y.0.1 }, y.1)) x e in
    let b = bind_ok (checked d) (λ v. string_at v.1 >>= λ t. Ok ((v.0, t.0), t.1)) a.0 a.1 in
    let c = bind_ok (string_at b.0.1) (λ t. Ok ((b.0.0, t.0), t.1)) a.0 b.2 in
    let u = bind_ok (number_at w64 d) (λ v. cond (ltb most v.0) (Err (length d)) (Ok v)) b.0 b.1 in
    let g = guard_ok (ltb most u.0.0) (length d) (Ok u.0) b.0 u.2 in
    let h = guard_ok (ltb (length d) 8) (length d) (Ok (from_le_bytes w64 (take 8 d), drop 8 d)) u.0 u.1 in
    let made : TxOut = record { value = a.0.0.0; script = a.0.0.1 } in
    let e1 : a.0.0.0 ≡ x.0.value = ap (λ (y : TxOut × List ℕ). y.0.value) (ok_is {F = ℕ} (made, a.0.1) x a.2) in
    let e2 : b.0.0 ≡ a.0.0.0 = ap (λ (y : (ℕ × List ℕ) × List ℕ). y.0.0) (ok_is {F = ℕ} ((b.0.0, c.0.0), c.0.1) a.0 c.2) in
    let e3 : u.0.0 ≡ b.0.0 = ap (λ (y : ℕ × List ℕ). y.0) (ok_is {F = ℕ} u.0 b.0 g.1) in
    let e4 : value_at bytes p ≡ u.0.0 = ap (λ (y : ℕ × List ℕ). y.0) (ok_is {F = ℕ} (from_le_bytes w64 (take 8 d), drop 8 d) u.0 h.1) in
    let all : value_at bytes p ≡ x.0.value = e4 ∙ e3 ∙ e2 ∙ e1 in
    let few : u.0.0 ≤ most = ltb-false _ _ g.0 in
    let reach : u.0.0 ≡ x.0.value = e3 ∙ e2 ∙ e1 in
    (sym all, subst (λ (v : ℕ). v ≤ most) reach few)

outputs_join : (bytes : List ℕ) (n before most : ℕ) → before + most ≡ most_value → Joins bytes (outputs bytes n before) (outputs_of n most)
unfolding outputs outputs_of
outputs_join bytes zero before most sum p le = nothing_agrees {X = List TxOut} bytes p [] le
outputs_join bytes (suc n) before most sum p le =
    agrees_bind bytes (output bytes before p) (outputs bytes n (before + value_at bytes p)) (output_at most (drop p bytes)) (λ x. outputs_of n (most - x.0.value) x.1 >>= λ xs. Ok (x.0 ∷ xs.0, xs.1)) (output_joins bytes before most sum p le)
    (λ x is inside at.
    let v = output_value bytes most p x is in
    let q = (output bytes before p).behind in
    let later = outputs bytes n (before + value_at bytes p) in
    subst (λ (t : List ℕ). Agrees {X = List TxOut} bytes (later q) (outputs_of n (most - x.0.value) t >>= λ xs. Ok (x.0 ∷ xs.0, xs.1))) (sym at)
    (agrees_map (λ (xs : List TxOut). x.0 ∷ xs) bytes (later q) (outputs_of n (most - x.0.value) (drop q bytes)) (outputs_join bytes n (before + value_at bytes p) (most - x.0.value) (omega (arith, v.0, v.1)) q inside)))

counted_outputs_join : (bytes : List ℕ) → Joins bytes (counted_outputs bytes) outputs_at
unfolding counted_outputs outputs_at
counted_outputs_join bytes p le =
    agrees_bind bytes (size_laid count bytes p) (outputs bytes (size_at bytes p) 0) (count_at (drop p bytes)) (λ n. outputs_of n.0 most_value n.1) (count_joins bytes p le)
    (λ x is inside at. subst (λ (n : ℕ × List ℕ). Agrees bytes (outputs bytes (size_at bytes p) 0 (p + size_len_at bytes p)) (outputs_of n.0 most_value n.1)) (pair_is x (size_at bytes p) (drop (p + size_len_at bytes p) bytes) (count_number bytes p x le is) at)
    (outputs_join bytes (size_at bytes p) 0 most_value (omega arith) (p + size_len_at bytes p) inside))

-- ---- stacks

stack_joins : (bytes : List ℕ) → Joins bytes (stack bytes) stack_at
unfolding stack stack_at
stack_joins bytes = counted_list_joins bytes size (text bytes) compact_at string_at (size_joins bytes) (size_number bytes) (text_joins bytes)

stack_number : (bytes : List ℕ) (p : ℕ) (x : List (List ℕ) × List ℕ) → p ≤ length bytes → stack_at (drop p bytes) ≡ Ok x → length x.0 ≡ size_at bytes p
unfolding stack_at
stack_number bytes p x le e =
    let n = bind_ok (compact_at (drop p bytes)) (λ n. times string_at n.0 n.1) x e in
    times_len string_at n.0.0 n.0.1 x n.2 ∙ size_number bytes p n.0 le n.1

stacks_join : (bytes : List ℕ) (is : List TxIn) → Joins bytes (copies (length is) (stack bytes)) (stacks_of is)
unfolding copies stacks_of
stacks_join bytes [] p le = nothing_agrees {X = List TxIn} bytes p [] le
stacks_join bytes (i ∷ is) p le =
    agrees_bind bytes (stack bytes p) (copies (length is) (stack bytes)) (stack_at (drop p bytes)) (λ w. stacks_of is w.1 >>= λ xs. Ok (record i { witness = w.0 } ∷ xs.0, xs.1)) (stack_joins bytes p le)
    (λ x is_ inside at.
    let q = (stack bytes p).behind in
    subst (λ (t : List ℕ). Agrees {X = List TxIn} bytes (copies (length is) (stack bytes) q) (stacks_of is t >>= λ xs. Ok (record i { witness = x.0 } ∷ xs.0, xs.1))) (sym at)
    (agrees_map (λ (xs : List TxIn). record i { witness = x.0 } ∷ xs) bytes (copies (length is) (stack bytes) q) (stacks_of is (drop q bytes)) (stacks_join bytes is q inside)))

-- where reading leaves off
behind_of : {X : Type 0} (bytes : List ℕ) (laid : Layout) (r : Result (X × List ℕ) ℕ) (x : X × List ℕ) → Agrees bytes laid r → r ≡ Ok x → (laid.behind ≤ length bytes) × (x.1 ≡ drop laid.behind bytes)
behind_of {X} bytes laid r x h e = let k = subst (λ (s : Result (X × List ℕ) ℕ). Agrees bytes laid s) e h in (k.1, k.2)

some_items : (bytes : List ℕ) (is : List TxIn) (p : ℕ) (x : List TxIn × List ℕ) → p ≤ length bytes → stacks_of is (drop p bytes) ≡ Ok x → list_any has_witness x.0 ≡ some_item bytes (length is) p
unfolding stacks_of some_item
some_items bytes [] p x le e = ap (λ (y : List TxIn × List ℕ). list_any has_witness y.0) (sym (ok_is {F = ℕ} ([], drop p bytes) x e))
some_items bytes (i ∷ is) p x le e =
    let w = bind_ok (stack_at (drop p bytes)) (λ w. stacks_of is w.1 >>= λ xs. Ok (record i { witness = w.0 } ∷ xs.0, xs.1)) x e in
    let xs = bind_ok (stacks_of is w.0.1) (λ xs. Ok (record i { witness = w.0.0 } ∷ xs.0, xs.1)) x w.2 in
    let q = (stack bytes p).behind in
    let at = behind_of bytes (stack bytes p) (stack_at (drop p bytes)) w.0 (stack_joins bytes p le) w.1 in
    let later = some_items bytes is q xs.0 at.0 (subst (λ (t : List ℕ). stacks_of is t ≡ Ok xs.0) at.1 xs.1) in
    let made : TxIn = record i { witness = w.0.0 } in
    ap (λ (y : List TxIn × List ℕ). list_any has_witness y.0) (sym (ok_is {F = ℕ} (made ∷ xs.0.0, xs.0.1) x xs.2))
    ∙ ap (λ (n : ℕ). ltb 0 n || list_any has_witness xs.0.0) (stack_number bytes p w.0 le w.1)
    ∙ ap (λ (v : Bool). ltb 0 (size_at bytes p) || v) later

-- the marker, looked at again
mark_agrees : {X : Type 0} (bytes : List ℕ) (left place q : ℕ) (s : Bool) (x : X × List ℕ) → place ≤ length bytes → left ≡ length bytes - place → q ≤ length bytes → x.1 ≡ drop q bytes
    → Agrees bytes (record { fields = record { place = place; kind = marker s } ∷ []; behind = q }) (cond s (Ok x) (Err left))
mark_agrees bytes left place q true x le is inside at = (single bytes place (marker true), inside, at)
mark_agrees bytes left place q false x le is inside at = (omega arith, single bytes place (marker false) ∙ ap (λ (k : ℕ). Some k) (let e : place ≡ length bytes - left = omega arith in e))

witnesses_join : (bytes : List ℕ) (left place : ℕ) (is : List TxIn) (p : ℕ) → place ≤ length bytes → left ≡ length bytes - place → p ≤ length bytes → Agrees bytes (stacks bytes place (length is) p) (witnesses_at left is (drop p bytes))
unfolding stacks witnesses_at
witnesses_join bytes left place is p marker_in left_is le =
    let s = some_item bytes (length is) p in
    agrees_bind bytes (copies (length is) (stack bytes) p) (λ q. record { fields = record { place = place; kind = marker s } ∷ []; behind = q }) (stacks_of is (drop p bytes)) (λ x. cond (list_any has_witness x.0) (Ok x) (Err left)) (stacks_join bytes is p le)
    (λ x is_ inside at.
    let q = (copies (length is) (stack bytes) p).behind in
    subst (λ (b : Bool). Agrees {X = List TxIn} bytes (record { fields = record { place = place; kind = marker s } ∷ []; behind = q }) (cond b (Ok x) (Err left))) (sym (some_items bytes is p x le is_))
    (mark_agrees bytes left place q s x marker_in left_is inside at))

-- ---- marker and flag

abbrev Marked : List ℕ → ℕ → Bool → List ℕ → Type 0
Marked bytes q true rest = (is_marker bytes q ≡ true) × (q + 2 ≤ length bytes) × (rest ≡ drop (q + 1 + 1) bytes) × (is_fault bytes (q + 1) flag ≡ false)
Marked bytes q false rest = (is_marker bytes q ≡ false) × (rest ≡ drop q bytes)

abbrev MarkerIs : List ℕ → ℕ → Result (Bool × List ℕ) ℕ → Type 0
MarkerIs bytes q (Ok z) = Marked bytes q z.0 z.1
MarkerIs bytes q (Err left) = (is_marker bytes q ≡ true) × (q < length bytes) × (left ≡ length bytes - (q + 1)) × (is_fault bytes (q + 1) flag ≡ true)

and_true : (a b : Bool) → a ≡ true → b ≡ true → (a && b) ≡ true
and_true a b e f = ap (λ (v : Bool). v && b) e ∙ f

and_false : (a b : Bool) → b ≡ false → (a && b) ≡ false
and_false true b e = e
and_false false b e = refl

not_of_false : (b : Bool) → b ≡ false → not b ≡ true
not_of_false b e = ap not e

not_of_true : (b : Bool) → b ≡ true → not b ≡ false
not_of_true b e = ap not e

flag_is : (bytes : List ℕ) (q g : ℕ) → q < length bytes → get_or bytes q 0 ≡ 0 → q + 1 < length bytes → get_or bytes (q + 1) 0 ≡ g → MarkerIs bytes q (marker_at (0 ∷ g ∷ drop (q + 1 + 1) bytes))
unfolding marker_at is_marker
flag_is bytes q zero in_ is lt second = (
  and_true (ltb q (length bytes)) (eqb (get_or bytes q 0) 0) (lt-ltb _ _ in_) (eq-eqb _ _ is),
  in_,
  omega (arith, length-drop (q + 1 + 1) bytes),
  or_right (is_cut bytes (q + 1) 1) (not (eqb (get_or bytes (q + 1) 0) 1)) (not_of_false (eqb (get_or bytes (q + 1) 0) 1) (ne_eqb _ _ (λ e. omega arith))),
)
flag_is bytes q (suc zero) in_ is lt second = (
  and_true (ltb q (length bytes)) (eqb (get_or bytes q 0) 0) (lt-ltb _ _ in_) (eq-eqb _ _ is),
  omega arith,
  refl,
  or_none (is_cut bytes (q + 1) 1) (not (eqb (get_or bytes (q + 1) 0) 1)) (le-ltb _ _ (omega arith)) (not_of_true (eqb (get_or bytes (q + 1) 0) 1) (eq-eqb _ _ second)),
)
flag_is bytes q (suc (suc g)) in_ is lt second = (
  and_true (ltb q (length bytes)) (eqb (get_or bytes q 0) 0) (lt-ltb _ _ in_) (eq-eqb _ _ is),
  in_,
  omega (arith, length-drop (q + 1 + 1) bytes),
  or_right (is_cut bytes (q + 1) 1) (not (eqb (get_or bytes (q + 1) 0) 1)) (not_of_false (eqb (get_or bytes (q + 1) 0) 1) (ne_eqb _ _ (λ e. omega arith))),
)

marker_cons : (bytes : List ℕ) (q f : ℕ) → q < length bytes → get_or bytes q 0 ≡ f → MarkerIs bytes q (marker_at (f ∷ drop (q + 1) bytes))
unfolding marker_at is_marker
marker_cons bytes q zero in_ is =
    elim (cases_lt (q + 1) (length bytes)) [
      | inl lt ↦
          subst (λ (t : List ℕ). MarkerIs bytes q (marker_at (0 ∷ t))) (sym (next_of bytes (q + 1) lt)) (flag_is bytes q (get_or bytes (q + 1) 0) in_ is lt refl)
      | inr ge ↦
          subst (λ (t : List ℕ). MarkerIs bytes q (marker_at (0 ∷ t))) (sym (drop_all (q + 1) bytes ge))
          (and_true (ltb q (length bytes)) (eqb (get_or bytes q 0) 0) (lt-ltb _ _ in_) (eq-eqb _ _ is), in_, omega arith, or_left (is_cut bytes (q + 1) 1) (not (eqb (get_or bytes (q + 1) 0) 1)) (lt-ltb _ _ (omega arith)))
    ]
marker_cons bytes q (suc f) in_ is =
    (and_false (ltb q (length bytes)) (eqb (get_or bytes q 0) 0) (ne_eqb _ _ (λ e. omega arith)), ap (λ (k : ℕ). k ∷ drop (q + 1) bytes) (sym is) ∙ sym (next_of bytes q in_))

marker_end : (bytes : List ℕ) (q : ℕ) → length bytes ≤ q → MarkerIs bytes q (marker_at [])
unfolding marker_at is_marker
marker_end bytes q ge = (ap (λ (b : Bool). b && eqb (get_or bytes q 0) 0) (le-ltb _ _ ge), sym (drop_all q bytes ge))

marker_is : (bytes : List ℕ) (q : ℕ) → q ≤ length bytes → MarkerIs bytes q (marker_at (drop q bytes))
marker_is bytes q le =
    elim (cases_lt q (length bytes)) [
      | inl lt ↦
          subst (λ (t : List ℕ). MarkerIs bytes q (marker_at t)) (sym (next_of bytes q lt)) (marker_cons bytes q (get_or bytes q 0) lt refl)
      | inr ge ↦ subst (λ (t : List ℕ). MarkerIs bytes q (marker_at t)) (sym (drop_all q bytes ge)) (marker_end bytes q ge)
    ]

-- ---- transactions

-- what is read of a transaction behind version and marker, where its marker has that many bytes from its place to the end
abbrev more : ℕ → ℕ → Bool → List ℕ → Result (Tx × List ℕ) ℕ
more version left m t = inputs_at t >>= λ bare. outputs_at bare.1 >>= λ outs. maybe_witnesses_at m left bare.0 outs.1 >>= λ ins. number_at w32 ins.1 >>= λ lock. Ok (record { version = version; marked = m; inputs = ins.0; outputs = outs.0; lock = lock.0 }, lock.1)

unmarked_agrees : (bytes : List ℕ) (version left q : ℕ) → q ≤ length bytes → Agrees bytes (behind_version false bytes q) (more version left false (drop q bytes))
unfolding behind_version maybe_witnesses_at
unmarked_agrees bytes version left q le =
    agrees_bind bytes (counted_copies count bytes (input bytes) q) (counted_outputs bytes ▹ bytes_of 4) (inputs_at (drop q bytes)) (λ bare. outputs_at bare.1 >>= λ outs. number_at w32 outs.1 >>= λ lock. Ok (record { version = version; marked = false; inputs = bare.0; outputs = outs.0; lock = lock.0 }, lock.1)) (inputs_join bytes q le)
    (λ x is inside at.
    let q1 = (counted_copies count bytes (input bytes) q).behind in
    subst (λ (t : List ℕ). Agrees {X = Tx} bytes ((counted_outputs bytes ▹ bytes_of 4) q1) (outputs_at t >>= λ outs. number_at w32 outs.1 >>= λ lock. Ok (record { version = version; marked = false; inputs = x.0; outputs = outs.0; lock = lock.0 }, lock.1))) (sym at)
    (agrees_bind bytes (counted_outputs bytes q1) (bytes_of 4) (outputs_at (drop q1 bytes)) (λ outs. number_at w32 outs.1 >>= λ lock. Ok (record { version = version; marked = false; inputs = x.0; outputs = outs.0; lock = lock.0 }, lock.1)) (counted_outputs_join bytes q1 inside)
    (λ y is_ inside_ at_.
    let q2 = (counted_outputs bytes q1).behind in
    subst (λ (t : List ℕ). Agrees {X = Tx} bytes (bytes_of 4 q2) (number_at w32 t >>= λ lock. Ok (record { version = version; marked = false; inputs = x.0; outputs = y.0; lock = lock.0 }, lock.1))) (sym at_)
    (agrees_map (λ (lock : ℕ). record { version = version; marked = false; inputs = x.0; outputs = y.0; lock = lock }) bytes (bytes_of 4 q2) (number_at w32 (drop q2 bytes)) (number_joins bytes w32 q2 inside_)))))

-- the inputs, outputs, stacks and lock time behind marker and flag
abbrev marked_parts : List ℕ → ℕ → ℕ → LayoutFrom
marked_parts bytes place n = counted_copies count bytes (input bytes) ▹ (counted_outputs bytes ▹ (stacks bytes place n ▹ bytes_of 4))

marked_agrees : (bytes : List ℕ) (version left place q : ℕ) → q ≤ length bytes → place ≤ length bytes → left ≡ length bytes - place → Agrees bytes (marked_parts bytes place (size_at bytes q) q) (more version left true (drop q bytes))
unfolding maybe_witnesses_at
marked_agrees bytes version left place q le marker_in left_is =
    let n = size_at bytes q in
    agrees_bind bytes (counted_copies count bytes (input bytes) q) (counted_outputs bytes ▹ (stacks bytes place n ▹ bytes_of 4)) (inputs_at (drop q bytes)) (λ bare. outputs_at bare.1 >>= λ outs. witnesses_at left bare.0 outs.1 >>= λ ins. number_at w32 ins.1 >>= λ lock. Ok (record { version = version; marked = true; inputs = ins.0; outputs = outs.0; lock = lock.0 }, lock.1)) (inputs_join bytes q le)
    (λ x is inside at.
    let q1 = (counted_copies count bytes (input bytes) q).behind in
    subst (λ (t : List ℕ). Agrees {X = Tx} bytes ((counted_outputs bytes ▹ (stacks bytes place n ▹ bytes_of 4)) q1) (outputs_at t >>= λ outs. witnesses_at left x.0 outs.1 >>= λ ins. number_at w32 ins.1 >>= λ lock. Ok (record { version = version; marked = true; inputs = ins.0; outputs = outs.0; lock = lock.0 }, lock.1))) (sym at)
    (agrees_bind bytes (counted_outputs bytes q1) (stacks bytes place n ▹ bytes_of 4) (outputs_at (drop q1 bytes)) (λ outs. witnesses_at left x.0 outs.1 >>= λ ins. number_at w32 ins.1 >>= λ lock. Ok (record { version = version; marked = true; inputs = ins.0; outputs = outs.0; lock = lock.0 }, lock.1)) (counted_outputs_join bytes q1 inside)
    (λ y is_ inside_ at_.
    let q2 = (counted_outputs bytes q1).behind in
    subst (λ (t : List ℕ). Agrees {X = Tx} bytes ((stacks bytes place n ▹ bytes_of 4) q2) (witnesses_at left x.0 t >>= λ ins. number_at w32 ins.1 >>= λ lock. Ok (record { version = version; marked = true; inputs = ins.0; outputs = y.0; lock = lock.0 }, lock.1))) (sym at_)
    (subst (λ (k : ℕ). Agrees {X = Tx} bytes ((stacks bytes place k ▹ bytes_of 4) q2) (witnesses_at left x.0 (drop q2 bytes) >>= λ ins. number_at w32 ins.1 >>= λ lock. Ok (record { version = version; marked = true; inputs = ins.0; outputs = y.0; lock = lock.0 }, lock.1))) (inputs_number bytes q x le is)
    (agrees_bind bytes (stacks bytes place (length x.0) q2) (bytes_of 4) (witnesses_at left x.0 (drop q2 bytes)) (λ ins. number_at w32 ins.1 >>= λ lock. Ok (record { version = version; marked = true; inputs = ins.0; outputs = y.0; lock = lock.0 }, lock.1)) (witnesses_join bytes left place x.0 q2 marker_in left_is inside_)
    (λ z is3 inside3 at3.
    let q3 = (stacks bytes place (length x.0) q2).behind in
    subst (λ (t : List ℕ). Agrees {X = Tx} bytes (bytes_of 4 q3) (number_at w32 t >>= λ lock. Ok (record { version = version; marked = true; inputs = z.0; outputs = y.0; lock = lock.0 }, lock.1))) (sym at3)
    (agrees_map (λ (lock : ℕ). record { version = version; marked = true; inputs = z.0; outputs = y.0; lock = lock }) bytes (bytes_of 4 q3) (number_at w32 (drop q3 bytes)) (number_joins bytes w32 q3 inside3))))))))

-- marker and flag
abbrev marks : ℕ → List Field
marks q = record { place = q; kind = plain 1 } ∷ record { place = q + 1; kind = flag } ∷ []

marks_fine : (bytes : List ℕ) (q : ℕ) → q < length bytes → is_fault bytes (q + 1) flag ≡ false → first_fault bytes (marks q) ≡ None
unfolding first_fault
marks_fine bytes q lt fine =
    cond_false (is_cut bytes q 1) (Some q) (cond (is_fault bytes (q + 1) flag) (Some (q + 1)) None) (le-ltb _ _ (omega arith)) ∙ cond_false (is_fault bytes (q + 1) flag) (Some (q + 1)) None fine

marks_fault : (bytes : List ℕ) (q : ℕ) → q < length bytes → is_fault bytes (q + 1) flag ≡ true → first_fault bytes (marks q) ≡ Some (q + 1)
unfolding first_fault
marks_fault bytes q lt fault =
    cond_false (is_cut bytes q 1) (Some q) (cond (is_fault bytes (q + 1) flag) (Some (q + 1)) None) (le-ltb _ _ (omega arith)) ∙ cond_true (is_fault bytes (q + 1) flag) (Some (q + 1)) None fault

from_marked : (bytes : List ℕ) (version left q : ℕ) (m : Bool) (rest : List ℕ) → q ≤ length bytes → left ≡ length bytes - q → Marked bytes q m rest → Agrees bytes (behind_version m bytes q) (more version left m rest)
unfolding behind_version
from_marked bytes version left q true rest le left_is h =
    let q2 = q + 1 + 1 in
    let n_is : size_at bytes q2 ≡ size_at bytes (q + 2) = ap (λ (k : ℕ). size_at bytes k) (let e : q + 1 + 1 ≡ q + 2 = omega arith in e) in
    let parts : Agrees bytes (marked_parts bytes q (size_at bytes (q + 2)) q2) (more version left true (drop q2 bytes)) =
    subst (λ (k : ℕ). Agrees bytes (marked_parts bytes q k q2) (more version left true (drop q2 bytes))) n_is (marked_agrees bytes version left q q2 (omega arith) le left_is) in
    subst (λ (t : List ℕ). Agrees {X = Tx} bytes (behind_version true bytes q) (more version left true t)) (sym h.2)
    (shifted bytes (marks q) (marked_parts bytes q (size_at bytes (q + 2)) q2) (more version left true (drop q2 bytes)) (marks_fine bytes q (omega (arith, h.1)) h.3) parts)
from_marked bytes version left q false rest le left_is h =
    subst (λ (t : List ℕ). Agrees {X = Tx} bytes (behind_version false bytes q) (more version left false t)) (sym h.1) (unmarked_agrees bytes version left q le)

marker_known : (bytes : List ℕ) (q : ℕ) (m : Bool) (rest : List ℕ) → Marked bytes q m rest → is_marker bytes q ≡ m
marker_known bytes q true rest h = h.0
marker_known bytes q false rest h = h.0

from_marker : (bytes : List ℕ) (version left q : ℕ) (r : Result (Bool × List ℕ) ℕ) → q ≤ length bytes → left ≡ length bytes - q → MarkerIs bytes q r → Agrees bytes (behind_version (is_marker bytes q) bytes q) (r >>= λ m. more version left m.0 m.1)
unfolding behind_version
from_marker bytes version left q (Ok z) le left_is h =
    subst (λ (b : Bool). Agrees bytes (behind_version b bytes q) (more version left z.0 z.1)) (sym (marker_known bytes q z.0 z.1 h)) (from_marked bytes version left q z.0 z.1 le left_is h)
from_marker bytes version left q (Err gone) le left_is h =
    let q2 = q + 1 + 1 in
    let place : q + 1 ≡ length bytes - gone = omega (arith, h.1, h.2) in
    subst (λ (b : Bool). Agrees {X = Tx} bytes (behind_version b bytes q) (Err gone)) (sym h.0)
    (omega (arith, h.2), after_some bytes (marks q) (marked_parts bytes q (size_at bytes (q + 2)) q2).fields (length bytes - gone) (marks_fault bytes q h.1 h.3 ∙ ap (λ (k : ℕ). Some k) place))

tx_joins : (bytes : List ℕ) → Joins bytes (tx bytes) tx_at
unfolding tx tx_at
tx_joins bytes p le =
    agrees_bind bytes (bytes_of 4 p) (behind_version (is_marker bytes (p + 4)) bytes) (number_at w32 (drop p bytes)) (λ version. marker_at version.1 >>= λ m. more version.0 (length version.1) m.0 m.1) (number_joins bytes w32 p le)
    (λ x is inside at.
    let q = p + 4 in
    subst (λ (t : List ℕ). Agrees {X = Tx} bytes (behind_version (is_marker bytes q) bytes q) (marker_at t >>= λ m. more x.0 (length t) m.0 m.1)) (sym at)
    (from_marker bytes x.0 (length (drop q bytes)) q (marker_at (drop q bytes)) inside (length-drop q bytes) (marker_is bytes q inside)))

-- ---- blocks

parts_joins : (bytes : List ℕ) → Joins bytes header header_parts
unfolding header
parts_joins bytes =
    let n = number_joins bytes w32 in
    let r = run_joins bytes 32 in
    let four = bytes_of 4 in
    let hash = bytes_of 32 in
    let at = number_at w32 in
    let run = run_at 32 in
    reading_map_joins header_from bytes
    (four ▹ hash ▹ hash ▹ four ▹ four ▹ four) (both (both (both (both (both at run) run) at) at) at)
    (both_joins bytes (four ▹ hash ▹ hash ▹ four ▹ four) four (both (both (both (both at run) run) at) at) at
    (both_joins bytes (four ▹ hash ▹ hash ▹ four) four (both (both (both at run) run) at) at
    (both_joins bytes (four ▹ hash ▹ hash) four (both (both at run) run) at
    (both_joins bytes (four ▹ hash) hash (both at run) run (both_joins bytes four hash at run n r) r) n) n) n)

header_joins : (bytes : List ℕ) → Joins bytes header header_at
header_joins bytes p le =
    subst (λ (r : Result (Header × List ℕ) ℕ). Agrees {X = Header} bytes (header p) r) (header_same (drop p bytes)) (parts_joins bytes p le)

block_joins : (bytes : List ℕ) → Joins bytes (block bytes) block_at
unfolding block block_at
block_joins bytes = reading_map_joins (λ (p : Header × List Tx). record { header = p.0; txs = p.1 }) bytes (header ▹ counted_copies count bytes (tx bytes)) (both header_at (reading.counted_list count_at tx_at))
    (both_joins bytes header (counted_copies count bytes (tx bytes)) header_at (reading.counted_list count_at tx_at) (header_joins bytes) (counted_list_joins bytes count (tx bytes) count_at tx_at (count_joins bytes) (count_number bytes) (tx_joins bytes)))

-- the fields, with what stands behind the last transaction, and what reading makes of it
from_block : (bytes : List ℕ) (laid : Layout) (r : Result (Block × List ℕ) ℕ) → Agrees bytes laid r
    → first_fault bytes (laid.fields ++ surplus_from bytes laid.behind) ≡ fault_in (with_place (length bytes) (r >>= λ x. cond (eqb (length x.1) 0) (Ok x.0) (Err (length x.1))))
unfolding first_fault
from_block bytes laid (Err left) h = after_some bytes laid.fields (surplus_from bytes laid.behind) (length bytes - left) h.1
from_block bytes laid (Ok x) h =
    let long : length x.1 ≡ length bytes - laid.behind = ap (λ (t : List ℕ). length t) h.2 ∙ length-drop laid.behind bytes in
    let P : Bool → Type 0 = λ (b : Bool). first_fault bytes (surplus_from bytes laid.behind) ≡ fault_in (with_place (length bytes) (cond b (ok_of x.0) (Err (length x.1)))) in
    after_none bytes laid.fields (surplus_from bytes laid.behind) h.0 ∙
    elim (cases_lt laid.behind (length bytes)) [
      | inl more_ ↦
          subst P (sym (ne_eqb (length x.1) 0 (λ e. omega arith)))
          (ap (λ (b : Bool). first_fault bytes (cond b (record { place = laid.behind; kind = surplus } ∷ []) [])) (lt-ltb _ _ more_) ∙ ap (λ (k : ℕ). Some k) (let e : laid.behind ≡ length bytes - length x.1 = omega arith in e))
      | inr none ↦
          subst P (sym (eq-eqb (length x.1) 0 (omega arith)))
          (ap (λ (b : Bool). first_fault bytes (cond b (record { place = laid.behind; kind = surplus } ∷ []) [])) (le-ltb _ _ none))
    ]

-- The first fault of the fields is where reading stops, and there is none where it gives a block.
pub same_fault : (bytes : List ℕ) → fault_of bytes ≡ fault_in (block_of bytes)
unfolding fault_of block_of whole_of fields_of
same_fault bytes =
    elim (cases_lt most_bytes (length bytes)) [
      | inl more_ ↦ rw (lt-ltb most_bytes (length bytes) more_) refl
      | inr few ↦ rw (le-ltb most_bytes (length bytes) few) (from_block bytes (block bytes 0) (block_at bytes) (block_joins bytes 0 (omega arith)))
    ]

pub is_told : (bytes : List ℕ) (r : Result Block BlockFault) → Gives r (block_of bytes) → Tells r (fault_of bytes)
is_told bytes (Ok b) given = same_fault bytes ∙ ap fault_in given
is_told bytes (Err BlockFaults.Memory) given = tt
is_told bytes (Err (BlockFaults.Malformed place)) given = same_fault bytes ∙ ap fault_in given
