-- The forms at a script's front are the items that it reads as.
use Rattle.std.proofs.Common.{◌≡◌, ℕ, zero, suc, ◌+◌, ◌<◌, ◌≤◌, ◌⊎◌, inl, inr, true}
use Rattle.std.proofs.Common.{List, [], ◌∷◌, ◌++◌, length, take, drop, map, refl, sym, ap, ◌∙◌, subst, arith}
use Rattle.std.specs.List.{AllByRecursion, flat_map}
use Rattle.std.proofs.lemmas.Bool.{lt-ltb, cases_lt, cases_eq}
use Rattle.std.proofs.lemmas.List.{append_assoc, take_at, drop_at, take-append-drop, length-append, length-take-le, length-drop}
use Rattle.ox_script.specs.Script.{Instruction, Push, little_endian, width_of, count_of, reach, items_of, is_cut}
use Rattle.ox_script.specs.Form.{Form, opcode, direct, pushdata1, pushdata2, pushdata4, spelling, item_of, IsLength, IsLawful, NoItemAt, Splits, HasSplit, is_some_byte}
use Rattle.ox_script.proofs.ScriptLemmas.{items_of-op, is_cut-op, items_of-short, is_cut-short, items_of-push, is_cut-push, items_of-nil, is_cut-nil}

-- the item and what follows it are what the bytes read as
pub record Fronts (bytes : List ℕ) (item : Instruction) (rest : List ℕ) : Type 0 where
  pub items : items_of bytes ≡ item ∷ items_of rest
  pub cut : is_cut bytes ≡ is_cut rest

-- a push, by its opcode, the bytes of its length and its own
push_fronts : (op : ℕ) (size bytes rest : List ℕ) → op ≤ 78 → length size ≡ width_of op
    → count_of op ((size ++ bytes) ++ rest) ≡ length bytes
    → Fronts (op ∷ ((size ++ bytes) ++ rest)) (Push bytes) rest
push_fronts op size bytes rest pushes width count =
    let all = (size ++ bytes) ++ rest in
    let split : all ≡ size ++ (bytes ++ rest) = append_assoc size bytes rest in
    let far : reach op all ≡ length (size ++ bytes) = omega (arith, length-append size bytes, width, count) in
    let whole : reach op all ≤ length all = omega (arith, far, length-append (size ++ bytes) rest) in
    let behind : drop (width_of op) all ≡ bytes ++ rest =
    ap (drop (width_of op)) split ∙ drop_at size (bytes ++ rest) (width_of op) width in
    let pushed : take (count_of op all) (drop (width_of op) all) ≡ bytes =
    ap (take (count_of op all)) behind ∙ take_at bytes rest (count_of op all) (sym count) in
    let left : drop (reach op all) all ≡ rest = drop_at (size ++ bytes) rest (reach op all) (sym far) in
    record {
      items = items_of-push op all pushes whole ∙ ap (λ b. Push b ∷ items_of (drop (reach op all) all)) pushed
          ∙ ap (λ r. Push bytes ∷ items_of r) left;
      cut = is_cut-push op all pushes whole ∙ ap is_cut left;
    }

-- what a length's bytes count, before others
sized : (size bytes rest : List ℕ) (width : ℕ) → IsLength width size bytes
    → little_endian (take width ((size ++ bytes) ++ rest)) ≡ length bytes
sized size bytes rest width is =
    ap (λ all. little_endian (take width all)) (append_assoc size bytes rest)
    ∙ ap little_endian (take_at size (bytes ++ rest) width is.width) ∙ is.number

-- an opcode below OP_PUSHDATA1 has no length behind it, and counts itself
width_of_direct : (op : ℕ) → op < 76 → width_of op ≡ 0
width_of_direct op small = grind arith

count_of_direct : (op : ℕ) (rest : List ℕ) → op < 76 → count_of op rest ≡ op
count_of_direct op rest small = rw (lt-ltb op 76 small) refl

pub form_fronts : (form : Form) (rest : List ℕ) → IsLawful form
    → Fronts (spelling form ++ rest) (item_of form) rest
form_fronts (opcode op) rest above = record { items = items_of-op op rest above; cut = is_cut-op op rest above }
form_fronts (direct bytes) rest small =
    push_fronts (length bytes) [] bytes rest (omega arith) (sym (width_of_direct (length bytes) small))
    (count_of_direct (length bytes) (bytes ++ rest) small)
form_fronts (pushdata1 size bytes) rest is = push_fronts 76 size bytes rest (omega arith) is.width (sized size bytes rest 1 is)
form_fronts (pushdata2 size bytes) rest is = push_fronts 77 size bytes rest (omega arith) is.width (sized size bytes rest 2 is)
form_fronts (pushdata4 size bytes) rest is = push_fronts 78 size bytes rest (omega arith) is.width (sized size bytes rest 4 is)

-- a form at the front
record Begins (bytes : List ℕ) : Type 0 where
  form : Form
  rest : List ℕ
  lawful : IsLawful form
  whole : bytes ≡ spelling form ++ rest

-- no item, at a push that is cut short
record Ends (bytes : List ℕ) : Type 0 where
  items : items_of bytes ≡ []
  cut : is_cut bytes ≡ true

-- a push whose length has its bytes
lengthy : (width : ℕ) (rest : List ℕ) → width + little_endian (take width rest) ≤ length rest
    → IsLength width (take width rest) (take (little_endian (take width rest)) (drop width rest))
lengthy width rest whole =
    let count = little_endian (take width rest) in
    let left : count ≤ length (drop width rest) = omega (arith, length-drop width rest, whole) in
    record { width = length-take-le width rest (omega (arith, whole)); number = sym (length-take-le count (drop width rest) left) }

-- its bytes, joined again
joined_again : (width count : ℕ) (rest : List ℕ)
    → rest ≡ (take width rest ++ take count (drop width rest)) ++ drop count (drop width rest)
joined_again width count rest =
    sym (take-append-drop width rest) ∙ ap (λ tail. take width rest ++ tail) (sym (take-append-drop count (drop width rest)))
    ∙ sym (append_assoc (take width rest) (take count (drop width rest)) (drop count (drop width rest)))

direct_begins : (op : ℕ) (rest : List ℕ) → op < 76 → op ≤ length rest → Begins (op ∷ rest)
direct_begins op rest small whole =
    let size : length (take op rest) ≡ op = length-take-le op rest whole in
    record {
      form = direct (take op rest);
      rest = drop op rest;
      lawful = omega (arith, size, small);
      whole = ap (λ bytes. op ∷ bytes) (sym (take-append-drop op rest)) ∙ ap (λ first. first ∷ (take op rest ++ drop op rest)) (sym size);
    }

push_begins : (op : ℕ) (rest : List ℕ) → op ≤ 78 → reach op rest ≤ length rest → Begins (op ∷ rest)
push_begins op rest pushes whole = elim (cases_lt op 76) [
  | inl small ↦ direct_begins op rest small (omega (arith, whole, width_of_direct op small, count_of_direct op rest small))
  | inr large ↦ elim (cases_eq op 76) [
    | inl is ↦ subst (λ o. Begins (o ∷ rest)) (sym is)
        (let long : 1 + little_endian (take 1 rest) ≤ length rest = subst (λ o. reach o rest ≤ length rest) is whole in
        record {
          form = pushdata1 (take 1 rest) (take (little_endian (take 1 rest)) (drop 1 rest));
          rest = drop (little_endian (take 1 rest)) (drop 1 rest);
          lawful = lengthy 1 rest long;
          whole = ap (λ bytes. 76 ∷ bytes) (joined_again 1 (little_endian (take 1 rest)) rest);
        })
    | inr not_one ↦ elim (cases_eq op 77) [
      | inl is ↦ subst (λ o. Begins (o ∷ rest)) (sym is)
          (let long : 2 + little_endian (take 2 rest) ≤ length rest = subst (λ o. reach o rest ≤ length rest) is whole in
          record {
            form = pushdata2 (take 2 rest) (take (little_endian (take 2 rest)) (drop 2 rest));
            rest = drop (little_endian (take 2 rest)) (drop 2 rest);
            lawful = lengthy 2 rest long;
            whole = ap (λ bytes. 77 ∷ bytes) (joined_again 2 (little_endian (take 2 rest)) rest);
          })
      | inr not_two ↦
          let is : op ≡ 78 = omega (arith, pushes, large, not_one, not_two) in
          subst (λ o. Begins (o ∷ rest)) (sym is)
          (let long : 4 + little_endian (take 4 rest) ≤ length rest = subst (λ o. reach o rest ≤ length rest) is whole in
          record {
            form = pushdata4 (take 4 rest) (take (little_endian (take 4 rest)) (drop 4 rest));
            rest = drop (little_endian (take 4 rest)) (drop 4 rest);
            lawful = lengthy 4 rest long;
            whole = ap (λ bytes. 78 ∷ bytes) (joined_again 4 (little_endian (take 4 rest)) rest);
          })
    ]
  ]
]

-- a byte begins an item or ends them
begins_or_ends : (op : ℕ) (rest : List ℕ) → Begins (op ∷ rest) ⊎ Ends (op ∷ rest)
begins_or_ends op rest = elim (cases_lt 78 op) [
  | inl above ↦ inl (record { form = opcode op; rest = rest; lawful = above; whole = refl })
  | inr pushes ↦ elim (cases_lt (length rest) (reach op rest)) [
    | inl short ↦ inr (record { items = items_of-short op rest pushes short; cut = is_cut-short op rest pushes short })
    | inr whole ↦ inl (push_begins op rest pushes whole)
  ]
]

nil_or_cons : (item : Instruction) (items : List Instruction) → [] ≡ item ∷ items → ⊥
nil_or_cons item items same = grind (arith, same)

-- where nothing is read, no form stands
nothing_read : (bytes : List ℕ) → items_of bytes ≡ [] → NoItemAt bytes
nothing_read bytes none form rest lawful is =
    nil_or_cons (item_of form) (items_of rest) (sym none ∙ ap items_of is ∙ (form_fronts form rest lawful).items)

-- what is read of an end without an item
end_items : (end : List ℕ) → NoItemAt end → items_of end ≡ []
end_items [] bare = items_of-nil
end_items (op ∷ rest) bare = elim (begins_or_ends op rest) [
  | inl begins ↦ absurd (bare begins.form begins.rest begins.lawful begins.whole)
  | inr ends ↦ ends.items
]

end_cut : (end : List ℕ) → NoItemAt end → is_cut end ≡ is_some_byte end
end_cut [] bare = is_cut-nil
end_cut (op ∷ rest) bare = elim (begins_or_ends op rest) [
  | inl begins ↦ absurd (bare begins.form begins.rest begins.lawful begins.whole)
  | inr ends ↦ ends.cut
]

-- the forms of a script read as its items
forms_items : (forms : List Form) (end : List ℕ) → AllByRecursion IsLawful forms → NoItemAt end
    → items_of (flat_map spelling forms ++ end) ≡ map item_of forms
forms_items [] end lawful bare = end_items end bare
forms_items (form ∷ forms) end lawful bare =
    ap items_of (append_assoc (spelling form) (flat_map spelling forms) end)
    ∙ (form_fronts form (flat_map spelling forms ++ end) lawful.0).items
    ∙ ap (λ items. item_of form ∷ items) (forms_items forms end lawful.1 bare)

forms_cut : (forms : List Form) (end : List ℕ) → AllByRecursion IsLawful forms → NoItemAt end
    → is_cut (flat_map spelling forms ++ end) ≡ is_some_byte end
forms_cut [] end lawful bare = end_cut end bare
forms_cut (form ∷ forms) end lawful bare =
    ap is_cut (append_assoc (spelling form) (flat_map spelling forms) end)
    ∙ (form_fronts form (flat_map spelling forms ++ end) lawful.0).cut ∙ forms_cut forms end lawful.1 bare

pub split_items : (script : List ℕ) (forms : List Form) (end : List ℕ) → Splits script forms end
    → items_of script ≡ map item_of forms
split_items script forms end is = ap items_of is.whole ∙ forms_items forms end is.lawful is.no_item

pub split_cut : (script : List ℕ) (forms : List Form) (end : List ℕ) → Splits script forms end
    → is_cut script ≡ is_some_byte end
split_cut script forms end is = ap is_cut is.whole ∙ forms_cut forms end is.lawful is.no_item

-- a form has a byte at least
spelling_some : (form : Form) → 0 < length (spelling form)
spelling_some (opcode op) = omega arith
spelling_some (direct bytes) = omega arith
spelling_some (pushdata1 size bytes) = omega arith
spelling_some (pushdata2 size bytes) = omega arith
spelling_some (pushdata4 size bytes) = omega arith

-- a form before a script that splits
split_behind : (script rest : List ℕ) (form : Form) → IsLawful form → script ≡ spelling form ++ rest
    → HasSplit rest → HasSplit script
split_behind script rest form lawful whole split =
    let forms = split.0 in
    let end = split.1.0 in
    let is = split.1.1 in (
      form ∷ forms,
      (
        end,
        record {
          whole = whole ∙ ap (λ r. spelling form ++ r) is.whole ∙ sym (append_assoc (spelling form) (flat_map spelling forms) end);
          lawful = (lawful, is.lawful);
          no_item = is.no_item;
        },
      ),
    )

split_within : (steps : ℕ) (script : List ℕ) → length script ≤ steps → HasSplit script
split_within steps [] fits = ([], ([], record { whole = refl; lawful = tt; no_item = nothing_read [] items_of-nil }))
split_within zero (op ∷ rest) fits = absurd (omega (arith, fits))
split_within (suc steps) (op ∷ rest) fits = elim (begins_or_ends op rest) [
  | inl begins ↦
      let len = ap length begins.whole ∙ length-append (spelling begins.form) begins.rest in
      let fewer : length begins.rest ≤ steps = omega (arith, len, fits, spelling_some begins.form) in
      split_behind (op ∷ rest) begins.rest begins.form begins.lawful begins.whole (split_within steps begins.rest fewer)
  | inr ends ↦ ([], (op ∷ rest, record { whole = refl; lawful = tt; no_item = nothing_read (op ∷ rest) ends.items }))
]

pub has_split : (script : List ℕ) → HasSplit script
has_split script = split_within (length script) script (omega arith)
