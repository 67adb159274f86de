-- A changed byte of a record with a sum.
use Rattle.std.proofs.Common.{◌≡◌, ◌≢◌, ◌∙◌, ◌⊎◌, ◌≤◌, ◌<◌, ◌+◌, ◌-◌, inl, inr, ℕ, zero, suc, List, [], ◌∷◌, ◌++◌, length, get_or, take, drop, refl, sym, ap, subst, arith, length-append, length-set, append_assoc}
use Rattle.std.specs.Prelude.{Result, Ok, Err, All, IsErr, set, slice_range}
use Rattle.std.specs.Int.{w64, from_le_bytes}
use Rattle.std.proofs.lemmas.Bool.{cases_eq, cases_lt, eqb-false}
use Rattle.std.proofs.lemmas.List.{take_at, drop_at, get_or_append_left, get_or-set_same, get_or-set_other, set-append_left, set-append_right}
use Rattle.std.proofs.Math.Seq.{drop-append-add}
use Rattle.std.proofs.lemmas.List.Elements.{All-head, All-tail}
use Rattle.ox_bytes.proofs.Laws.{ok_is}
use Rattle.ox_gated.specs.Layout.{summed}
use Rattle.ox_gated.specs.Reading.{Chain, chain}
use Rattle.ox_gated.specs.RecordLayout.{record_sum, summed_payload}
use Rattle.ox_gated.specs.declared.records.Record.{Record}
use Rattle.ox_gated.proofs.Chain.{chain_none, chain_shut, chain_cut, chain_more}
use Rattle.ox_gated.proofs.LayoutLaws.{SummedRead, summed_again, summed_laws, summed_read}

-- ---- a byte of a list

-- a byte there differs from what stood there
abbrev pub Differs : List ℕ → ℕ → ℕ → Type 0
Differs old at byte = byte ≢ get_or old at 0

pub set_differs : (old : List ℕ) (at byte : ℕ) → at < length old → Differs old at byte → set old at byte ≢ old
set_differs old at byte within differs same = differs (sym (get_or-set_same old at byte 0 within) ∙ ap (λ (l : List ℕ). get_or l at 0) same)

pub differs_left : (a b : List ℕ) (at byte : ℕ) → at < length a → Differs (a ++ b) at byte → Differs a at byte
differs_left a b at byte within differs same = differs (same ∙ sym (get_or_append_left a b 0 at within))

pub get_right : (a b : List ℕ) (at : ℕ) → length a ≤ at → get_or (a ++ b) at 0 ≡ get_or b (at - length a) 0
get_right [] b at le = ap (λ (k : ℕ). get_or b k 0) (omega arith)
get_right (x ∷ a) b zero le = absurd (omega (arith, le))
get_right (x ∷ a) b (suc at) le = get_right a b at (omega (arith, le)) ∙ ap (λ (k : ℕ). get_or b k 0) (omega arith)

pub differs_right : (a b : List ℕ) (at byte : ℕ) → length a ≤ at → Differs (a ++ b) at byte → Differs b (at - length a) byte
differs_right a b at byte le differs same = differs (same ∙ sym (get_right a b at le))

-- pieces of one length are the same where all is
pub same_pieces : (a b x y : List ℕ) → length a ≡ length b → a ++ x ≡ b ++ y → (a ≡ b) × (x ≡ y)
same_pieces a b x y size is = (
  sym (take_at a x (length b) size) ∙ ap (take (length b)) is ∙ take_at b y (length b) refl,
  sym (drop_at a x (length b) size) ∙ ap (drop (length b)) is ∙ drop_at b y (length b) refl,
)

-- numbers that are the same are so at each byte, where they are at all others
one_place : (a b : List ℕ) (k : ℕ) → k < 8 → ((j : ℕ) → j ≢ k → get_or a j 0 ≡ get_or b j 0) → from_le_bytes w64 a ≡ from_le_bytes w64 b → get_or a k 0 ≡ get_or b k 0
one_place a b zero less same is = omega (arith, is, same 1 (eqb-false 1 0 refl), same 2 (eqb-false 2 0 refl), same 3 (eqb-false 3 0 refl), same 4 (eqb-false 4 0 refl), same 5 (eqb-false 5 0 refl), same 6 (eqb-false 6 0 refl), same 7 (eqb-false 7 0 refl))
one_place a b (suc zero) less same is = omega (arith, is, same 0 (eqb-false 0 1 refl), same 2 (eqb-false 2 1 refl), same 3 (eqb-false 3 1 refl), same 4 (eqb-false 4 1 refl), same 5 (eqb-false 5 1 refl), same 6 (eqb-false 6 1 refl), same 7 (eqb-false 7 1 refl))
one_place a b (suc (suc zero)) less same is = omega (arith, is, same 0 (eqb-false 0 2 refl), same 1 (eqb-false 1 2 refl), same 3 (eqb-false 3 2 refl), same 4 (eqb-false 4 2 refl), same 5 (eqb-false 5 2 refl), same 6 (eqb-false 6 2 refl), same 7 (eqb-false 7 2 refl))
one_place a b (suc (suc (suc zero))) less same is = omega (arith, is, same 0 (eqb-false 0 3 refl), same 1 (eqb-false 1 3 refl), same 2 (eqb-false 2 3 refl), same 4 (eqb-false 4 3 refl), same 5 (eqb-false 5 3 refl), same 6 (eqb-false 6 3 refl), same 7 (eqb-false 7 3 refl))
one_place a b (suc (suc (suc (suc zero)))) less same is = omega (arith, is, same 0 (eqb-false 0 4 refl), same 1 (eqb-false 1 4 refl), same 2 (eqb-false 2 4 refl), same 3 (eqb-false 3 4 refl), same 5 (eqb-false 5 4 refl), same 6 (eqb-false 6 4 refl), same 7 (eqb-false 7 4 refl))
one_place a b (suc (suc (suc (suc (suc zero))))) less same is = omega (arith, is, same 0 (eqb-false 0 5 refl), same 1 (eqb-false 1 5 refl), same 2 (eqb-false 2 5 refl), same 3 (eqb-false 3 5 refl), same 4 (eqb-false 4 5 refl), same 6 (eqb-false 6 5 refl), same 7 (eqb-false 7 5 refl))
one_place a b (suc (suc (suc (suc (suc (suc zero)))))) less same is = omega (arith, is, same 0 (eqb-false 0 6 refl), same 1 (eqb-false 1 6 refl), same 2 (eqb-false 2 6 refl), same 3 (eqb-false 3 6 refl), same 4 (eqb-false 4 6 refl), same 5 (eqb-false 5 6 refl), same 7 (eqb-false 7 6 refl))
one_place a b (suc (suc (suc (suc (suc (suc (suc zero))))))) less same is = omega (arith, is, same 0 (eqb-false 0 7 refl), same 1 (eqb-false 1 7 refl), same 2 (eqb-false 2 7 refl), same 3 (eqb-false 3 7 refl), same 4 (eqb-false 4 7 refl), same 5 (eqb-false 5 7 refl), same 6 (eqb-false 6 7 refl))
one_place a b (suc (suc (suc (suc (suc (suc (suc (suc more)))))))) less same is = absurd (omega (arith, less))

-- another byte makes another number
number_differs : (bytes : List ℕ) (at byte : ℕ) → length bytes ≡ 8 → at < 8 → Differs bytes at byte → from_le_bytes w64 (set bytes at byte) ≢ from_le_bytes w64 bytes
number_differs bytes at byte size within differs same =
    let here = get_or-set_same bytes at byte 0 (omega (arith, size, within)) in
    let others = λ (j : ℕ) (other : j ≢ at). get_or-set_other bytes at j byte 0 other in
    differs (sym here ∙ one_place (set bytes at byte) bytes at within others same)

-- ---- a record

-- Of two files, whose bytes from a gate at this place on these are, two payloads at one place differ, and have one sum.
pub record Clash (generation place : ℕ) (old new : List ℕ) : Type 0 where
  pub offset : ℕ
  pub before : List ℕ
  pub after : List ℕ
  pub before_there : before ≡ slice_range old (offset + 41) (offset + 41 + length before)
  pub after_there : after ≡ slice_range new (offset + 41) (offset + 41 + length after)
  pub differ : after ≢ before
  pub same : record_sum generation (place + offset) after ≡ record_sum generation (place + offset) before

three_on : (a b c t : List ℕ) → (a ++ (b ++ c)) ++ t ≡ a ++ (b ++ (c ++ t))
three_on a b c t = append_assoc a (b ++ c) t ∙ ap (λ (l : List ℕ). a ++ l) (append_assoc b c t)

-- a payload where it stands
payload_there : (first : ℕ) (number sum payload next : List ℕ) → length number ≡ 8 → length sum ≡ 32 → payload ≡ slice_range (first ∷ (number ++ (sum ++ (payload ++ next)))) 41 (41 + length payload)
payload_there first number sum payload next number_size sum_size =
    let front = first ∷ (number ++ sum) in
    let size : length front ≡ 41 = omega (arith, number_size, sum_size, length-append number sum) in
    let count : 41 + length payload - 41 ≡ length payload = omega arith in
    sym (ap (λ (l : List ℕ). slice_range (first ∷ l) 41 (41 + length payload)) (sym (append_assoc number sum (payload ++ next)))
    ∙ ap (λ (l : List ℕ). take (41 + length payload - 41) l) (drop_at front (payload ++ next) 41 size)
    ∙ ap (λ (k : ℕ). take k (payload ++ next)) count
    ∙ take_at payload next (length payload) refl)

module _ (generation place first : ℕ) (bytes payload next : List ℕ) (read : SummedRead generation place bytes payload next) where
  -- of a record that is read, with other bytes than it had
  clash_by : (bytes' payload' next' : List ℕ) → SummedRead generation place bytes' payload' next' → payload' ≢ payload → record_sum generation place payload' ≡ record_sum generation place payload → Clash generation place (first ∷ bytes) (first ∷ bytes')
  clash_by bytes' payload' next' read' differ same = record {
    offset = 0;
    before = payload;
    after = payload';
    before_there = payload_there first read.number read.sum payload next read.number_size read.sum_size ∙ ap (λ (l : List ℕ). slice_range (first ∷ l) 41 (41 + length payload)) (sym read.parts);
    after_there = payload_there first read'.number read'.sum payload' next' read'.number_size read'.sum_size ∙ ap (λ (l : List ℕ). slice_range (first ∷ l) 41 (41 + length payload')) (sym read'.parts);
    differ = differ;
    same = ap (λ (p : ℕ). record_sum generation p payload') (omega arith) ∙ same ∙ ap (λ (p : ℕ). record_sum generation p payload) (omega arith);
  }

  module _ (at byte : ℕ) (differs : Differs bytes at byte) (payload' next' : List ℕ) (read' : SummedRead generation place (set bytes at byte) payload' next') where
    abbrev number : List ℕ
    number = read.number

    abbrev sum : List ℕ
    sum = read.sum

    here : Differs (number ++ (sum ++ (payload ++ next))) at byte
    here = subst (λ (l : List ℕ). Differs l at byte) read.parts differs

    new_parts : set (number ++ (sum ++ (payload ++ next))) at byte ≡ read'.number ++ (read'.sum ++ (payload' ++ next'))
    new_parts = ap (λ (l : List ℕ). set l at byte) (sym read.parts) ∙ read'.parts

    -- in the length
    in_number : at < 8 → Clash generation place (first ∷ bytes) (first ∷ set bytes at byte)
    in_number within =
        let inside : at < length number = omega (arith, within, read.number_size) in
        let moved = sym (set-append_left number (sum ++ (payload ++ next)) at byte inside) ∙ new_parts in
        let outer = same_pieces (set number at byte) read'.number (sum ++ (payload ++ next)) (read'.sum ++ (payload' ++ next')) (omega (arith, length-set number at byte, read.number_size, read'.number_size)) moved in
        let inner = same_pieces sum read'.sum (payload ++ next) (payload' ++ next') (read.sum_size ∙ sym read'.sum_size) outer.1 in
        let other = number_differs number at byte read.number_size within (differs_left number (sum ++ (payload ++ next)) at byte inside here) in
        clash_by (set bytes at byte) payload' next' read' (λ same. other (ap (from_le_bytes w64) outer.0 ∙ sym read'.size_is ∙ ap length same ∙ read.size_is)) (sym read'.sum_is ∙ sym inner.0 ∙ read.sum_is)

    -- in the sum: then it isn't read
    in_sum : 8 ≤ at → at < 40 → ⊥
    in_sum from within =
        let behind = sum ++ (payload ++ next) in
        let at_sum = at - length number in
        let inside : at_sum < length sum = omega (arith, from, within, read.number_size, read.sum_size) in
        let moved = sym (set-append_right number behind (length number) at byte refl (omega (arith, from, read.number_size))) ∙ new_parts in
        let outer = same_pieces number read'.number (set behind at_sum byte) (read'.sum ++ (payload' ++ next')) (read.number_size ∙ sym read'.number_size) moved in
        let second = sym (set-append_left sum (payload ++ next) at_sum byte inside) ∙ outer.1 in
        let inner = same_pieces (set sum at_sum byte) read'.sum (payload ++ next) (payload' ++ next') (omega (arith, length-set sum at_sum byte, read.sum_size, read'.sum_size)) second in
        let sizes : length payload ≡ length payload' = read.size_is ∙ ap (from_le_bytes w64) outer.0 ∙ sym read'.size_is in
        let same = (same_pieces payload payload' next next' sizes inner.1).0 in
        let there = differs_left sum (payload ++ next) at_sum byte inside (differs_right number behind at byte (omega (arith, from, read.number_size)) here) in
        set_differs sum at_sum byte inside there (inner.0 ∙ read'.sum_is ∙ ap (record_sum generation place) (sym same) ∙ sym read.sum_is)

    -- in the payload
    in_payload : 40 ≤ at → at < 40 + length payload → Clash generation place (first ∷ bytes) (first ∷ set bytes at byte)
    in_payload from within =
        let behind = sum ++ (payload ++ next) in
        let at_sum = at - length number in
        let at_payload = at_sum - length sum in
        let inside : at_payload < length payload = omega (arith, from, within, read.number_size, read.sum_size) in
        let past_sum : length sum ≤ at_sum = omega (arith, from, read.number_size, read.sum_size) in
        let past_number : length number ≤ at = omega (arith, from, read.number_size) in
        let moved = sym (set-append_right number behind (length number) at byte refl past_number) ∙ new_parts in
        let outer = same_pieces number read'.number (set behind at_sum byte) (read'.sum ++ (payload' ++ next')) (read.number_size ∙ sym read'.number_size) moved in
        let second = sym (set-append_right sum (payload ++ next) (length sum) at_sum byte refl past_sum) ∙ outer.1 in
        let inner = same_pieces sum read'.sum (set (payload ++ next) at_payload byte) (payload' ++ next') (read.sum_size ∙ sym read'.sum_size) second in
        let third = sym (set-append_left payload next at_payload byte inside) ∙ inner.1 in
        let sizes : length (set payload at_payload byte) ≡ length payload' = length-set payload at_payload byte ∙ read.size_is ∙ ap (from_le_bytes w64) outer.0 ∙ sym read'.size_is in
        let new_is = (same_pieces (set payload at_payload byte) payload' next next' sizes third).0 in
        let there = differs_left payload next at_payload byte inside (differs_right sum (payload ++ next) at_sum byte past_sum (differs_right number behind at byte past_number here)) in
        clash_by (set bytes at byte) payload' next' read' (λ same. set_differs payload at_payload byte inside there (new_is ∙ same)) (sym read'.sum_is ∙ sym inner.0 ∙ read.sum_is)

    pub clash_here : at < 40 + length payload → Clash generation place (first ∷ bytes) (first ∷ set bytes at byte)
    clash_here within = elim (cases_lt at 8) [
      | inl less ↦ in_number less
      | inr from ↦ elim (cases_lt at 40) [
        | inl less ↦ absurd (in_sum from less)
        | inr past ↦ in_payload past within
      ]
    ]

-- ---- the records of a file

-- they end otherwise than by a closed gate, or two payloads clash
abbrev pub EndsOrClashes : ℕ → ℕ → List ℕ → List ℕ → Type 0
EndsOrClashes generation place old new = IsErr (chain summed generation place new).end ⊎ Clash generation place old new

ended : (end : Result ℕ ℕ) (at : ℕ) → end ≡ Err at → IsErr end
ended end at is = subst (λ (e : Result ℕ ℕ). IsErr e) (sym is) refl

-- behind a record that is read as before
clash_behind : (generation place size : ℕ) (front old new : List ℕ) → length front ≡ size → Clash generation (place + size) old new → Clash generation place (front ++ old) (front ++ new)
clash_behind generation place size front old new size_is clash =
    record {
      offset = size + clash.offset;
      before = clash.before;
      after = clash.after;
      before_there = clash.before_there ∙ sym (behind_front old clash.before);
      after_there = clash.after_there ∙ sym (behind_front new clash.after);
      differ = clash.differ;
      same = ap (λ (p : ℕ). record_sum generation p clash.after) (omega arith) ∙ clash.same ∙ ap (λ (p : ℕ). record_sum generation p clash.before) (omega arith);
    }
  where
    behind_front : (l payload : List ℕ) → slice_range (front ++ l) (size + clash.offset + 41) (size + clash.offset + 41 + length payload) ≡ slice_range l (clash.offset + 41) (clash.offset + 41 + length payload)
    behind_front l payload =
        let k = clash.offset + 41 in
        let many : size + clash.offset + 41 + length payload - (size + clash.offset + 41) ≡ k + length payload - k = omega arith in
        let place_is : size + clash.offset + 41 ≡ length front + k = omega (arith, size_is) in
        (λ i. take (many i) (drop (place_is i) (front ++ l))) ∙ ap (λ (x : List ℕ). take (k + length payload - k) x) (drop-append-add front l k)

module _ (generation : ℕ) where
  abbrev Goal : ℕ → List ℕ → ℕ → ℕ → Type 0
  Goal place bytes at byte = EndsOrClashes generation place bytes (set bytes at byte)

  by_first : (place first : ℕ) (rest : List ℕ) (at byte : ℕ) (payload next : List ℕ) → first ≢ 0 → (read : SummedRead generation place rest payload next) → Differs rest at byte → at < 40 + length payload
      → (r : Result (List ℕ × List ℕ) ℕ) → summed_payload generation place (set rest at byte) ≡ r → Goal place (first ∷ rest) (suc at) byte
  by_first place first rest at byte payload next is_open read differs within (Err left) is = inl (ended _ place (ap (λ (c : Chain). c.end) (chain_cut summed generation place first left (set rest at byte) is_open is)))
  by_first place first rest at byte payload next is_open read differs within (Ok found) is =
      inr (clash_here generation place first rest payload next read at byte differs found.0 found.1 (summed_read generation place (set rest at byte) found is) within)

  -- what is known of the records behind one
  abbrev Further : ℕ → ℕ → ℕ → Type 0
  Further most gate byte = (q : ℕ) (next : List ℕ) (k : ℕ) → length next ≤ most → (chain summed generation q next).end ≡ Ok gate → q + k < gate → All (λ (one : Record). q + k ≢ one.place) (chain summed generation q next).records → Differs next k byte → Goal q next k byte

  whole_clash : (place first : ℕ) (rest rest' text next next' : List ℕ) → rest ≡ text ++ next → rest' ≡ text ++ next' → Clash generation place ((first ∷ text) ++ next) ((first ∷ text) ++ next') → Clash generation place (first ∷ rest) (first ∷ rest')
  whole_clash place first rest rest' text next next' old new clash =
      subst (λ (l : List ℕ). Clash generation place (first ∷ rest) (first ∷ l)) (sym new) (subst (λ (l : List ℕ). Clash generation place (first ∷ l) (first ∷ (text ++ next'))) (sym old) clash)

  changed_behind : (most place gate first : ℕ) (rest : List ℕ) (at byte : ℕ) (payload next : List ℕ) → length (first ∷ rest) ≤ suc most → (chain summed generation place (first ∷ rest)).end ≡ Ok gate → SummedRead generation place rest payload next → first ≢ 0 → summed_payload generation place rest ≡ Ok (payload, next)
      → 40 + length payload ≤ at → place + suc at < gate → All (λ (one : Record). place + suc at ≢ one.place) (chain summed generation place (first ∷ rest)).records → Differs rest at byte → Further most gate byte
      → Goal place (first ∷ rest) (suc at) byte
  changed_behind most place gate first rest at byte payload next le is read is_open has past less none differs further =
      let text = read.number ++ (read.sum ++ payload) in
      let text_size : length text ≡ 40 + length payload = omega (arith, read.number_size, read.sum_size, length-append read.number (read.sum ++ payload), length-append read.sum payload) in
      let parts : rest ≡ text ++ next = read.parts ∙ sym (three_on read.number read.sum payload next) in
      let q = place + (41 + length payload) in
      let k = at - length text in
      let moved : place + suc at ≡ q + k = omega (arith, past, text_size) in
      let here = chain_more summed summed_laws generation place first rest payload next is_open has in
      let end_is : (chain summed generation q next).end ≡ Ok gate = sym (ap (λ (c : Chain). c.end) here) ∙ is in
      let rest_of = All-tail (λ (one : Record). place + suc at ≢ one.place) _ _ (subst (λ (c : Chain). All (λ (one : Record). place + suc at ≢ one.place) c.records) here none) in
      let none_behind = subst (λ (n : ℕ). All (λ (one : Record). n ≢ one.place) (chain summed generation q next).records) moved rest_of in
      let there = differs_right text next at byte (omega (arith, past, text_size)) (subst (λ (l : List ℕ). Differs l at byte) parts differs) in
      let new_rest : set rest at byte ≡ text ++ set next k byte = ap (λ (l : List ℕ). set l at byte) parts ∙ set-append_right text next (length text) at byte refl (omega (arith, past, text_size)) in
      let read_again : summed_payload generation place (set rest at byte) ≡ Ok (payload, set next k byte) =
      ap (summed_payload generation place) (new_rest ∙ three_on read.number read.sum payload (set next k byte)) ∙ summed_again generation place read.number read.sum payload (set next k byte) read.number_size read.sum_size read.size_is read.sum_is in
      let new_chain = chain_more summed summed_laws generation place first (set rest at byte) payload (set next k byte) is_open read_again in
      let found_behind = further q next k (omega (arith, le, ap length parts, length-append text next)) end_is (omega (arith, less, moved)) none_behind there in
      elim found_behind [
        | inl ends ↦ inl (subst (λ (c : Chain). IsErr c.end) (sym new_chain) ends)
        | inr clash ↦ inr (whole_clash place first rest (set rest at byte) text next (set next k byte) parts new_rest (clash_behind generation place (41 + length payload) (first ∷ text) next (set next k byte) (omega (arith, text_size)) clash))
      ]

  pub changed_chain : (most place gate : ℕ) (bytes : List ℕ) (at byte : ℕ) → length bytes ≤ most → (chain summed generation place bytes).end ≡ Ok gate → place + at < gate → All (λ (one : Record). place + at ≢ one.place) (chain summed generation place bytes).records → Differs bytes at byte
      → Goal place bytes at byte
  changed_chain most place gate [] at byte le is less none differs = absurd (let no = sym (ap (λ (c : Chain). c.end) (chain_none summed generation place)) ∙ is in cc no)
  changed_chain zero place gate (first ∷ rest) at byte le is less none differs = absurd (omega arith)
  changed_chain (suc most) place gate (first ∷ rest) at byte le is less none differs = elim (cases_eq first 0) [
    | inl shut ↦
        let same : place ≡ gate = ok_is {F = ℕ} place gate (sym (ap (λ (c : Chain). c.end) (chain_shut summed generation place first rest shut)) ∙ is) in
        absurd (omega (arith, same, less))
    | inr is_open ↦ by_payload (summed_payload generation place rest) refl is_open at less none differs (λ q next k short. changed_chain most q gate next k byte short)
  ]
    where
      by_payload : (r : Result (List ℕ × List ℕ) ℕ) → summed_payload generation place rest ≡ r → first ≢ 0 → (at : ℕ) → place + at < gate → All (λ (one : Record). place + at ≢ one.place) (chain summed generation place (first ∷ rest)).records → Differs (first ∷ rest) at byte
          → Further most gate byte → Goal place (first ∷ rest) at byte
      by_payload (Err left) cut is_open at less none differs further = absurd (let no = sym (ap (λ (c : Chain). c.end) (chain_cut summed generation place first left rest is_open cut)) ∙ is in cc no)
      by_payload (Ok found) has is_open zero less none differs further =
          let here = chain_more summed summed_laws generation place first rest found.0 found.1 is_open has in
          let first_place = subst (λ (c : Chain). All (λ (one : Record). place + 0 ≢ one.place) c.records) here none in
          absurd (All-head (λ (one : Record). place + 0 ≢ one.place) _ _ first_place (omega arith))
      by_payload (Ok found) has is_open (suc at) less none differs further =
          let read = summed_read generation place rest found has in
          let here = chain_more summed summed_laws generation place first rest found.0 found.1 is_open has in
          elim (cases_lt at (40 + length found.0)) [
            | inl within ↦ by_first place first rest at byte found.0 found.1 is_open read differs within (summed_payload generation place (set rest at byte)) refl
            | inr past ↦ changed_behind most place gate first rest at byte found.0 found.1 le is read is_open has past less none differs further
          ]
