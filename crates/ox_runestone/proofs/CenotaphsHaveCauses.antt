-- A script is a cenotaph exactly where one of the causes holds, and a stone's supply is an amount.
use Rattle.std.proofs.Common.{◌≡◌, ◌≢◌, ◌⊎◌, ℕ, ◌+◌, ◌%◌, ◌^◌, ◌<◌, List, [], ◌∷◌, ◌++◌, length, drop}
use Rattle.std.proofs.Common.{◌-◌, get_or, Bool, true, false, cond, leb, ltb, eqb, ◌||◌, ◌&&◌, Option, Some, None, refl, sym, ap, subst, ◌∙◌, arith, inl, inr}
use Rattle.std.specs.Prelude.{IfSome, option_and_then, unwrap_or}
use Rattle.std.specs.List.{AllByRecursion, list_any}
use Rattle.std.proofs.lemmas.Bool.{and_from, and_parts, cases_Bool, cases_lt, eq-eqb, eqb-true, leb-false, leb-true, le-leb, lt-leb, lt-ltb, ltb-true, or_cases, or_parts}
use Rattle.ox_script.proofs.PartLemmas.{all_parts}
use Rattle.ox_varint.proofs.GrammarLaws.{IsBytes}
use Rattle.ox_runestone.proofs.IntegersAreTheSplit.{read_is_split, split_is_read}
use Rattle.std.proofs.lemmas.List.{length-append, get_or-append-add, get_or_append_left, get_or_past}
use Rattle.std.proofs.Math.Seq.{get_or-append_right}
use Rattle.ox_script.specs.Script.{Instruction, Push, Op, IsPartOf, StandsIn, items_of, is_cut}
use Rattle.ox_runestone.specs.Artifact.{are_flawed, artifact_of, cenotaph_of, artifact_from, mint_in, of_integers, of_message}
use Rattle.ox_runestone.specs.Causes.{AreIntegers, HasBadId, HasBadOutput, HasCause, HasSmallSupply, IsCenotaph, IsFlawed, LeavesEven, Overflows, has_op, is_op}
use Rattle.ox_runestone.specs.Causes.{opcode, cut_push, varint, message as message_cause, lone_tag, trailing_integers, edict_id, edict_output, unknown_flag, even_tag, supply}
use Rattle.ox_runestone.specs.Fields.{count_taken, etching_of, first_of, has_strange_flag, leaves_even, mintable, overflows}
use Rattle.ox_runestone.specs.Message.{Field, Message, edict_before, edicts_after, edicts_of, id_after, message_of, values}
use Rattle.ox_runestone.specs.Payload.{before, integers_of, joined_pushes, payload_of}
use Rattle.ox_runestone.specs.declared.stone.Artifact.{Artifact}
use Rattle.ox_runestone.specs.declared.stone.Edict.{Edict}
use Rattle.ox_runestone.specs.declared.stone.Etching.{Etching}
use Rattle.ox_runestone.specs.declared.stone.RuneId.{RuneId}

-- ---- supply

small_supply : (etching : Option Etching) → overflows etching ≡ false
    → IfSome etching (λ e. unwrap_or e.premine 0 + mintable e.terms < 2 ^ 128)
small_supply None is = tt
small_supply (Some etching) is = leb-false (2 ^ 128) (unwrap_or etching.premine 0 + mintable etching.terms) is

-- what a message says that has no flaw
record Whole (outputs : ℕ) (fields : List Field) (lone : Bool) : Type 0 where
  lone_tag : lone ≡ false
  flag : has_strange_flag (first_of fields) ≡ false
  even : leaves_even (first_of fields) (mint_in fields) outputs fields ≡ false
  supply : overflows (etching_of (first_of fields)) ≡ false

whole_of : (outputs : ℕ) (fields : List Field) (lone : Bool) → (lone || are_flawed outputs fields) ≡ false → Whole outputs fields lone
whole_of outputs fields lone is =
    let first = or_parts lone (are_flawed outputs fields) is in
    let second = or_parts (has_strange_flag (first_of fields))
    (leaves_even (first_of fields) (mint_in fields) outputs fields || overflows (etching_of (first_of fields))) first.1 in
    let third = or_parts (leaves_even (first_of fields) (mint_in fields) outputs fields) (overflows (etching_of (first_of fields))) second.1 in
    record { lone_tag = first.0; flag = second.0; even = third.0; supply = third.1 }

artifact_from_supply : (outputs : ℕ) (fields : List Field) (lone : Bool) (edicts : Option (List Edict)) → HasSmallSupply (artifact_from outputs fields lone edicts)
artifact_from_supply outputs fields lone None = tt
artifact_from_supply outputs fields lone (Some edicts) =
    elim (cases_Bool (lone || are_flawed outputs fields)) [
      | inl flawed ↦ rw flawed tt
      | inr sound ↦ rw sound (small_supply (etching_of (first_of fields)) (whole_of outputs fields lone sound).supply)
    ]

integers_supply : (outputs : ℕ) (integers : Option (List ℕ)) → HasSmallSupply (of_integers outputs integers)
integers_supply outputs None = tt
integers_supply outputs (Some integers) =
    artifact_from_supply outputs (message_of integers).fields (message_of integers).lone (edicts_of outputs (message_of integers).body)

pub supply_small : (script : List ℕ) (outputs : ℕ) → HasSmallSupply (artifact_of script outputs)
unfolding artifact_of
supply_small script outputs = integers_supply outputs (option_and_then integers_of (payload_of script))

-- ---- pushes

before_none : (bytes : List ℕ) (more : Option (List ℕ)) → before bytes more ≡ None → more ≡ None
before_none bytes None is = refl
before_none bytes (Some more) is = absurd cc

op_where_none : (items : List Instruction) → joined_pushes items ≡ None → list_any is_op items ≡ true
op_where_none [] is = absurd cc
op_where_none (Push bytes ∷ items) is = op_where_none items (before_none bytes (joined_pushes items) is)
op_where_none (Op op ∷ items) is = refl

none_where_op : (items : List Instruction) → list_any is_op items ≡ true → joined_pushes items ≡ None
none_where_op [] is = absurd cc
none_where_op (Push bytes ∷ items) is = ap (before bytes) (none_where_op items is)
none_where_op (Op op ∷ items) is = refl

no_payload : (script : List ℕ) (outputs : ℕ) → payload_of script ≡ None → HasCause script outputs
unfolding payload_of
no_payload script outputs is =
    elim (cases_Bool (is_cut script)) [
      | inl cut ↦ cut_push cut
      | inr whole ↦ opcode (op_where_none (drop 2 (items_of script))
          (sym (ap (λ b. cond b None (joined_pushes (drop 2 (items_of script)))) whole) ∙ is))
    ]

payload_cut : (script : List ℕ) → is_cut script ≡ true → payload_of script ≡ None
unfolding payload_of
payload_cut script cut = rw cut refl

payload_op : (script : List ℕ) → has_op script ≡ true → payload_of script ≡ None
unfolding payload_of
payload_op script op =
    elim (cases_Bool (is_cut script)) [
      | inl cut ↦ rw cut refl
      | inr whole ↦ rw whole (none_where_op (drop 2 (items_of script)) op)
    ]

-- ---- edicts

only_some : {A : Type 0} (b : Bool) (x : A) → ◌≡◌ {A = Option A} (cond b (Some x) None) None → b ≡ false
only_some true x is = absurd cc
only_some false x is = refl

edict_none : (outputs : ℕ) (id : RuneId) (amount output : ℕ) (rest : Option (List Edict))
    → edict_before outputs (Some id) amount output rest ≡ None → (outputs < output) ⊎ (rest ≡ None)
edict_none outputs id amount output None is = inr refl
edict_none outputs id amount output (Some edicts) is = inl (leb-false output outputs (only_some (leb output outputs) _ is))

-- what is wrong with the edicts that integers spell behind an id
abbrev AreBad : ℕ → RuneId → List ℕ → Type 0
AreBad outputs id body = (length body % 4 ≢ 0) ⊎ (HasBadId id body ⊎ HasBadOutput outputs body)

bad_behind : (outputs : ℕ) (id next : RuneId) (a b c d : ℕ) (rest : List ℕ) → id_after id a b ≡ Some next
    → AreBad outputs next rest → AreBad outputs id (a ∷ b ∷ c ∷ d ∷ rest)
bad_behind outputs id next a b c d rest is (inl ragged) = inl (λ e. ragged (omega (arith, e)))
bad_behind outputs id next a b c d rest is (inr (inl bad)) = inr (inl (inr (next, is, bad)))
bad_behind outputs id next a b c d rest is (inr (inr bad)) = inr (inr (inr bad))

bad_at : (outputs : ℕ) (id : RuneId) (a b c d : ℕ) (rest : List ℕ) (r : Option RuneId) → id_after id a b ≡ r
    → ((next : RuneId) → edicts_after outputs (Some next) rest ≡ None → AreBad outputs next rest)
    → edict_before outputs r c d (edicts_after outputs r rest) ≡ None → AreBad outputs id (a ∷ b ∷ c ∷ d ∷ rest)
bad_at outputs id a b c d rest None at more is = inr (inl (inl at))
bad_at outputs id a b c d rest (Some next) at more is =
    elim (edict_none outputs next c d (edicts_after outputs (Some next) rest) is) [
      | inl above ↦ inr (inr (inl above))
      | inr none ↦ bad_behind outputs id next a b c d rest at (more next none)
    ]

bad_where_none : (outputs : ℕ) (id : RuneId) (body : List ℕ) → edicts_after outputs (Some id) body ≡ None → AreBad outputs id body
bad_where_none outputs id [] is = absurd cc
bad_where_none outputs id (a ∷ []) is = inl (λ e. omega (arith, e))
bad_where_none outputs id (a ∷ b ∷ []) is = inl (λ e. omega (arith, e))
bad_where_none outputs id (a ∷ b ∷ c ∷ []) is = inl (λ e. omega (arith, e))
bad_where_none outputs id (a ∷ b ∷ c ∷ d ∷ rest) is =
    bad_at outputs id a b c d rest (id_after id a b) refl (λ next h. bad_where_none outputs next rest h) is

nothing_before : (outputs : ℕ) (id : Option RuneId) (amount output : ℕ) → edict_before outputs id amount output None ≡ None
nothing_before outputs None amount output = refl
nothing_before outputs (Some id) amount output = refl

none_above : (outputs : ℕ) (id : Option RuneId) (amount output : ℕ) (rest : Option (List Edict)) → outputs < output
    → edict_before outputs id amount output rest ≡ None
none_above outputs None amount output rest above = refl
none_above outputs (Some id) amount output None above = refl
none_above outputs (Some id) amount output (Some edicts) above = rw (lt-leb output outputs above) refl

none_where_ragged : (outputs : ℕ) (id : Option RuneId) (body : List ℕ) → length body % 4 ≢ 0 → edicts_after outputs id body ≡ None
none_where_ragged outputs None body ragged = refl
none_where_ragged outputs (Some id) [] ragged = absurd (ragged (omega arith))
none_where_ragged outputs (Some id) (a ∷ []) ragged = refl
none_where_ragged outputs (Some id) (a ∷ b ∷ []) ragged = refl
none_where_ragged outputs (Some id) (a ∷ b ∷ c ∷ []) ragged = refl
none_where_ragged outputs (Some id) (a ∷ b ∷ c ∷ d ∷ rest) ragged =
    ap (edict_before outputs (id_after id a b) c d) (none_where_ragged outputs (id_after id a b) rest (λ e. ragged (omega (arith, e))))
    ∙ nothing_before outputs (id_after id a b) c d

none_where_bad_id : (outputs : ℕ) (id : RuneId) (body : List ℕ) → HasBadId id body → edicts_after outputs (Some id) body ≡ None
none_where_bad_id outputs id [] bad = absurd bad
none_where_bad_id outputs id (a ∷ []) bad = absurd bad
none_where_bad_id outputs id (a ∷ b ∷ []) bad = absurd bad
none_where_bad_id outputs id (a ∷ b ∷ c ∷ []) bad = absurd bad
none_where_bad_id outputs id (a ∷ b ∷ c ∷ d ∷ rest) (inl none) =
    ap (λ i. edict_before outputs i c d (edicts_after outputs i rest)) none
none_where_bad_id outputs id (a ∷ b ∷ c ∷ d ∷ rest) (inr (next, is, bad)) =
    ap (λ i. edict_before outputs i c d (edicts_after outputs i rest)) is
    ∙ ap (edict_before outputs (Some next) c d) (none_where_bad_id outputs next rest bad)

none_where_bad_output : (outputs : ℕ) (id : Option RuneId) (body : List ℕ) → HasBadOutput outputs body → edicts_after outputs id body ≡ None
none_where_bad_output outputs None body bad = refl
none_where_bad_output outputs (Some id) [] bad = absurd bad
none_where_bad_output outputs (Some id) (a ∷ []) bad = absurd bad
none_where_bad_output outputs (Some id) (a ∷ b ∷ []) bad = absurd bad
none_where_bad_output outputs (Some id) (a ∷ b ∷ c ∷ []) bad = absurd bad
none_where_bad_output outputs (Some id) (a ∷ b ∷ c ∷ d ∷ rest) (inl above) =
    none_above outputs (id_after id a b) c d (edicts_after outputs (id_after id a b) rest) above
none_where_bad_output outputs (Some id) (a ∷ b ∷ c ∷ d ∷ rest) (inr bad) =
    ap (edict_before outputs (id_after id a b) c d) (none_where_bad_output outputs (id_after id a b) rest bad)
    ∙ nothing_before outputs (id_after id a b) c d

-- ---- even tags

any_field : (p : Field → Bool) (list : List Field) → list_any p list ≡ true → (field : Field) × (p field ≡ true)
any_field p [] is = absurd cc
any_field p (field ∷ list) is =
    elim (or_cases (p field) (list_any p list) is) [
      | inl here ↦ (field, here)
      | inr there ↦ any_field p list there
    ]

or_right : (b : Bool) → (b || true) ≡ true
or_right true = refl
or_right false = refl

any_at : (p : ℕ → Bool) (list : List Field) (tag : ℕ) → p tag ≡ true → 0 < length (values list tag)
    → list_any (λ (field : Field). p field.0) list ≡ true
any_at p [] tag is some = absurd (omega (arith, some))
any_at p (field ∷ list) tag is some =
    elim (cases_Bool (eqb field.0 tag)) [
      | inl same ↦ let here : p field.0 ≡ true = ap p (eqb-true field.0 tag same) ∙ is in rw here refl
      | inr other ↦
          let rest : 0 < length (values list tag)
          = subst (λ (l : List ℕ). 0 < length l) (ap (λ b. cond b (field.1 ∷ values list tag) (values list tag)) other) some in
          ap (λ b. p field.0 || b) (any_at p list tag is rest) ∙ or_right (p field.0)
    ]

even_left : (fields : List Field) (outputs : ℕ) → leaves_even (first_of fields) (mint_in fields) outputs fields ≡ true → LeavesEven fields outputs
even_left fields outputs is =
    let found = any_field _ fields is in
    let parts = and_parts (eqb (found.0.0 % 2) 0) _ found.1 in
    record { tag = found.0.0; even = eqb-true (found.0.0 % 2) 0 parts.0; more = ltb-true _ _ parts.1 }

left_even : (fields : List Field) (outputs : ℕ) → LeavesEven fields outputs → leaves_even (first_of fields) (mint_in fields) outputs fields ≡ true
left_even fields outputs left =
    any_at (λ tag. eqb (tag % 2) 0 && ltb (count_taken (first_of fields) (mint_in fields) outputs tag) (length (values fields tag)))
    fields left.tag (and_from _ _ (eq-eqb (left.tag % 2) 0 left.even) (lt-ltb _ _ left.more)) (omega (arith, left.more))

-- ---- messages

stone_or : (b : Bool) (cenotaph stone : Artifact) → (IsCenotaph stone → ⊥) → IsCenotaph (cond b cenotaph stone) → b ≡ true
stone_or true cenotaph stone refuted is = refl
stone_or false cenotaph stone refuted is = absurd (refuted is)

too_much : (fields : List Field) (etching : Option Etching) → etching_of (first_of fields) ≡ etching → overflows etching ≡ true → Overflows fields
too_much fields None at is = absurd cc
too_much fields (Some etching) at is = record {
  etching = etching;
  is = at;
  supply = leb-true (2 ^ 128) (unwrap_or etching.premine 0 + mintable etching.terms) is;
}

flaw_of : (message : Message) (outputs : ℕ) → are_flawed outputs message.fields ≡ true → IsFlawed message outputs
flaw_of message outputs is =
    let fields = message.fields in
    elim (or_cases (has_strange_flag (first_of fields))
    (leaves_even (first_of fields) (mint_in fields) outputs fields || overflows (etching_of (first_of fields))) is) [
      | inl flag ↦ unknown_flag flag
      | inr more ↦ elim (or_cases (leaves_even (first_of fields) (mint_in fields) outputs fields) (overflows (etching_of (first_of fields))) more) [
        | inl even ↦ even_tag (even_left fields outputs even)
        | inr over ↦ supply (too_much fields (etching_of (first_of fields)) refl over)
      ]
    ]

flaw_in_edicts : (message : Message) (outputs : ℕ) → AreBad outputs (record { block = 0; tx = 0 }) message.body → IsFlawed message outputs
flaw_in_edicts message outputs (inl ragged) = trailing_integers ragged
flaw_in_edicts message outputs (inr (inl bad)) = edict_id bad
flaw_in_edicts message outputs (inr (inr bad)) = edict_output bad

no_edicts : (outputs : ℕ) (body : List ℕ) → edicts_of outputs body ≡ None → AreBad outputs (record { block = 0; tx = 0 }) body
unfolding edicts_of
no_edicts outputs body is = bad_where_none outputs (record { block = 0; tx = 0 }) body is

flawed_by : (message : Message) (outputs : ℕ) (edicts : Option (List Edict)) → edicts_of outputs message.body ≡ edicts
    → IsCenotaph (artifact_from outputs message.fields message.lone edicts) → IsFlawed message outputs
flawed_by message outputs None at is = flaw_in_edicts message outputs (no_edicts outputs message.body at)
flawed_by message outputs (Some edicts) at is =
    elim (or_cases message.lone (are_flawed outputs message.fields)
    (stone_or (message.lone || are_flawed outputs message.fields) (cenotaph_of message.fields) _ (λ x. x) is)) [
      | inl lone ↦ lone_tag lone
      | inr flawed ↦ flaw_of message outputs flawed
    ]

cenotaph_where : (outputs : ℕ) (fields : List Field) (lone : Bool) (edicts : Option (List Edict))
    → (lone || are_flawed outputs fields) ≡ true → IsCenotaph (artifact_from outputs fields lone edicts)
cenotaph_where outputs fields lone None is = tt
cenotaph_where outputs fields lone (Some edicts) is = rw is tt

cenotaph_without : (outputs : ℕ) (message : Message) → edicts_of outputs message.body ≡ None → IsCenotaph (of_message outputs message)
cenotaph_without outputs message none =
    subst IsCenotaph (ap (artifact_from outputs message.fields message.lone) (sym none)) tt

or_left : (a b : Bool) → a ≡ true → (a || b) ≡ true
or_left a b is = rw is refl

flawed_so : (message : Message) (outputs : ℕ) → are_flawed outputs message.fields ≡ true → IsCenotaph (of_message outputs message)
flawed_so message outputs is =
    cenotaph_where outputs message.fields message.lone (edicts_of outputs message.body)
    (ap (λ b. message.lone || b) is ∙ or_right message.lone)

even_flawed : (outputs : ℕ) (fields : List Field) → leaves_even (first_of fields) (mint_in fields) outputs fields ≡ true → are_flawed outputs fields ≡ true
even_flawed outputs fields is =
    ap (λ b. has_strange_flag (first_of fields) || (b || overflows (etching_of (first_of fields)))) is ∙ or_right (has_strange_flag (first_of fields))

over_flawed : (outputs : ℕ) (fields : List Field) → Overflows fields → are_flawed outputs fields ≡ true
over_flawed outputs fields over =
    let much : overflows (etching_of (first_of fields)) ≡ true = ap overflows over.is ∙ le-leb (2 ^ 128) _ over.supply in
    ap (λ b. has_strange_flag (first_of fields) || (leaves_even (first_of fields) (mint_in fields) outputs fields || b)) much
    ∙ ap (λ b. has_strange_flag (first_of fields) || b) (or_right (leaves_even (first_of fields) (mint_in fields) outputs fields))
    ∙ or_right (has_strange_flag (first_of fields))

none_of : (outputs : ℕ) (body : List ℕ) → AreBad outputs (record { block = 0; tx = 0 }) body → edicts_of outputs body ≡ None
unfolding edicts_of
none_of outputs body (inl ragged) = none_where_ragged outputs (Some (record { block = 0; tx = 0 })) body ragged
none_of outputs body (inr (inl bad)) = none_where_bad_id outputs (record { block = 0; tx = 0 }) body bad
none_of outputs body (inr (inr bad)) = none_where_bad_output outputs (Some (record { block = 0; tx = 0 })) body bad

cenotaph_so : (message : Message) (outputs : ℕ) → IsFlawed message outputs → IsCenotaph (of_message outputs message)
cenotaph_so message outputs (lone_tag lone) =
    cenotaph_where outputs message.fields message.lone (edicts_of outputs message.body) (or_left message.lone (are_flawed outputs message.fields) lone)
cenotaph_so message outputs (trailing_integers ragged) = cenotaph_without outputs message (none_of outputs message.body (inl ragged))
cenotaph_so message outputs (edict_id bad) = cenotaph_without outputs message (none_of outputs message.body (inr (inl bad)))
cenotaph_so message outputs (edict_output bad) = cenotaph_without outputs message (none_of outputs message.body (inr (inr bad)))
cenotaph_so message outputs (unknown_flag flag) =
    flawed_so message outputs (or_left (has_strange_flag (first_of message.fields)) _ flag)
cenotaph_so message outputs (even_tag left) = flawed_so message outputs (even_flawed outputs message.fields (left_even message.fields outputs left))
cenotaph_so message outputs (supply over) = flawed_so message outputs (over_flawed outputs message.fields over)

-- ---- a payload's bytes

bytes-append : (xs ys : List ℕ) → IsBytes xs → IsBytes ys → IsBytes (xs ++ ys)
bytes-append xs ys fit_x fit_y = λ i.
    elim (cases_lt i (length xs)) [
      | inl inside ↦ subst (λ (n : ℕ). n < 256) (sym (get_or_append_left xs ys 0 i inside)) (fit_x i)
      | inr behind ↦ subst (λ (n : ℕ). n < 256) (sym (get_or-append_right xs ys i 0 behind)) (fit_y (i - length xs))
    ]

part_bytes : (script bytes : List ℕ) → StandsIn script bytes → IsBytes script → IsBytes bytes
part_bytes script bytes (front, back, is) fit = λ i.
    elim (cases_lt i (length bytes)) [
      | inl inside ↦
          let at : get_or script (length front + i) 0 ≡ get_or bytes i 0
          = ap (λ (l : List ℕ). get_or l (length front + i) 0) is
          ∙ get_or_append_left (front ++ bytes) back 0 (length front + i) (omega (arith, length-append front bytes))
          ∙ get_or-append-add front bytes i 0 in
          subst (λ (n : ℕ). n < 256) at (fit (length front + i))
      | inr past ↦ subst (λ (n : ℕ). n < 256) (sym (get_or_past bytes i 0 past)) (omega arith)
    ]

before_some : (bytes payload : List ℕ) (more : Option (List ℕ)) → before bytes more ≡ Some payload
    → (rest : List ℕ) × (more ≡ Some rest) × (bytes ++ rest ≡ payload)
before_some bytes payload None is = absurd cc
before_some bytes payload (Some rest) is = (rest, refl, cc)

joined_bytes : (script payload : List ℕ) (items : List Instruction) → IsBytes script → AllByRecursion (IsPartOf script) items
    → joined_pushes items ≡ Some payload → IsBytes payload
joined_bytes script payload [] fit parts is = let none : [] ≡ payload = cc in subst IsBytes none (λ i. omega arith)
joined_bytes script payload (Push bytes ∷ items) fit parts is =
    let found = before_some bytes payload (joined_pushes items) is in
    subst IsBytes found.2 (bytes-append bytes found.0 (part_bytes script bytes parts.0 fit) (joined_bytes script found.0 items fit parts.1 found.1))
joined_bytes script payload (Op op ∷ items) fit parts is = absurd cc

parts_behind : (script : List ℕ) (items : List Instruction) → AllByRecursion (IsPartOf script) items → AllByRecursion (IsPartOf script) (drop 2 items)
parts_behind script [] parts = tt
parts_behind script (a ∷ []) parts = tt
parts_behind script (a ∷ b ∷ items) parts = parts.1.1

payload_bytes : (script payload : List ℕ) → IsBytes script → payload_of script ≡ Some payload → IsBytes payload
unfolding payload_of
payload_bytes script payload fit is =
    elim (cases_Bool (is_cut script)) [
      | inl cut ↦ let none : None ≡ Some payload = sym (ap (λ b. cond b None (joined_pushes (drop 2 (items_of script)))) cut) ∙ is in absurd cc
      | inr whole ↦ joined_bytes script payload (drop 2 (items_of script)) fit (parts_behind script (items_of script) (all_parts script))
          (sym (ap (λ b. cond b None (joined_pushes (drop 2 (items_of script)))) whole) ∙ is)
    ]

-- ---- scripts

artifact_where : (script : List ℕ) (outputs : ℕ) (payload : Option (List ℕ)) → payload_of script ≡ payload
    → artifact_of script outputs ≡ of_integers outputs (option_and_then integers_of payload)
unfolding artifact_of
artifact_where script outputs payload is = ap (λ p. of_integers outputs (option_and_then integers_of p)) is

cause_in_payload : (script : List ℕ) (outputs : ℕ) (payload : List ℕ) → IsBytes script → payload_of script ≡ Some payload
    → (integers : Option (List ℕ)) → integers_of payload ≡ integers → IsCenotaph (of_integers outputs integers) → HasCause script outputs
cause_in_payload script outputs payload fit pushed None at is =
    varint (record {
      payload = payload;
      pushed = pushed;
      broken = λ integers split. let e : None ≡ Some integers = sym at ∙ split_is_read integers payload split in absurd cc;
    })
cause_in_payload script outputs payload fit pushed (Some integers) at is =
    message_cause integers (record {
      payload = payload;
      pushed = pushed;
      split = read_is_split integers payload (payload_bytes script payload fit pushed) at;
    }) (flawed_by (message_of integers) outputs (edicts_of outputs (message_of integers).body) refl is)

cause_of : (script : List ℕ) (outputs : ℕ) → IsBytes script → (payload : Option (List ℕ)) → payload_of script ≡ payload
    → IsCenotaph (of_integers outputs (option_and_then integers_of payload)) → HasCause script outputs
cause_of script outputs fit None at is = no_payload script outputs at
cause_of script outputs fit (Some payload) at is = cause_in_payload script outputs payload fit at (integers_of payload) refl is

pub cenotaph_cause : (script : List ℕ) (outputs : ℕ) → IsBytes script → IsCenotaph (artifact_of script outputs) → HasCause script outputs
cenotaph_cause script outputs fit is =
    cause_of script outputs fit (payload_of script) refl (subst IsCenotaph (artifact_where script outputs (payload_of script) refl) is)

silent : (script : List ℕ) (outputs : ℕ) → payload_of script ≡ None → IsCenotaph (artifact_of script outputs)
silent script outputs none = subst IsCenotaph (sym (artifact_where script outputs None none)) tt

broken_silent : (outputs : ℕ) (payload : List ℕ) → IsBytes payload → ((integers : List ℕ) → AreIntegers payload integers → ⊥)
    → (integers : Option (List ℕ)) → integers_of payload ≡ integers → IsCenotaph (of_integers outputs integers)
broken_silent outputs payload fit broken None at = tt
broken_silent outputs payload fit broken (Some integers) at = absurd (broken integers (read_is_split integers payload fit at))

pub cause_cenotaph : (script : List ℕ) (outputs : ℕ) → IsBytes script → HasCause script outputs → IsCenotaph (artifact_of script outputs)
cause_cenotaph script outputs fit (opcode op) = silent script outputs (payload_op script op)
cause_cenotaph script outputs fit (cut_push cut) = silent script outputs (payload_cut script cut)
cause_cenotaph script outputs fit (varint nothing) =
    subst IsCenotaph (sym (artifact_where script outputs (Some nothing.payload) nothing.pushed))
    (broken_silent outputs nothing.payload (payload_bytes script nothing.payload fit nothing.pushed) nothing.broken (integers_of nothing.payload) refl)
cause_cenotaph script outputs fit (message_cause integers says flaw) =
    let at : integers_of says.payload ≡ Some integers = split_is_read integers says.payload says.split in
    subst IsCenotaph (sym (artifact_where script outputs (Some says.payload) says.pushed ∙ ap (of_integers outputs) at))
    (cenotaph_so (message_of integers) outputs flaw)
