-- The loops over tags and values, and over edicts.
use Rattle.std.proofs.Common.{◌≡◌, ◌≢◌, ℕ, ◌%◌, ◌<◌, ◌≤◌, List, [], ◌∷◌, ◌++◌, length, drop, get_or, set, Bool, true, false, cond, eqb, leb, ◌&&◌, ◌||◌, Option, Some, None, refl, sym, ap, subst, ◌∙◌, append_assoc, append-nil, arith, inl, inr}
use Rattle.std.specs.List.{list_any}
use Rattle.std.proofs.lemmas.Bool.{cases_lt, cases_eq, cases_Bool, lt-ltb, le-ltb, lt-leb, le-leb, eq-eqb, ne_eqb}
use Rattle.std.proofs.lemmas.List.{get_or-set_same, get_or-set_other, length-set}
use Rattle.ox_runestone.specs.declared.message.Values.{Values}
use Rattle.ox_runestone.specs.declared.message.Fields.{Fields}
use Rattle.ox_runestone.specs.declared.stone.RuneId.{RuneId}
use Rattle.ox_runestone.specs.declared.stone.Edict.{Edict}
use Rattle.ox_runestone.specs.Message.{Field, Message, field_before, message_of, values, id_after, edict_before, edicts_after, edicts_of}
use Rattle.ox_runestone.specs.ValuesKept.{values_kept, with_value, values_at, with_field, is_strange, IsKeptOf}

-- ---- the values of a tag

values-append : (list : List Field) (own value tag : ℕ) → values (list ++ (own, value) ∷ []) tag ≡ values list tag ++ cond (eqb own tag) (value ∷ []) []
values-append [] own value tag = refl
values-append (field ∷ list) own value tag =
    elim (cases_Bool (eqb field.0 tag)) [
      | inl same ↦ rw same (ap (λ t. field.1 ∷ t) (values-append list own value tag))
      | inr other ↦ rw other (values-append list own value tag)
    ]

values_kept-push : (list : List ℕ) (value : ℕ) → with_value (values_kept list) value ≡ values_kept (list ++ value ∷ [])
values_kept-push [] value = refl
values_kept-push (a ∷ []) value = refl
values_kept-push (a ∷ b ∷ []) value = refl
values_kept-push (a ∷ b ∷ c ∷ list) value = refl

or-last : (b : Bool) → (b || false) ≡ (false || b)
or-last true = refl
or-last false = refl

or-assoc : (a b c : Bool) → ((a || b) || c) ≡ (a || (b || c))
or-assoc true b c = refl
or-assoc false b c = refl

or_right_false : (b : Bool) → (b || false) ≡ b
or_right_false true = refl
or_right_false false = refl

low-strange : (own : ℕ) → own < 23 → (leb 23 own && eqb (own % 2) 0) ≡ false
low-strange own low = rw (lt-leb 23 own low) refl

high-strange : (own : ℕ) → 23 ≤ own → (leb 23 own && eqb (own % 2) 0) ≡ eqb (own % 2) 0
high-strange own high = rw (le-leb 23 own high) refl

list_any-append : (list : List Field) (field : Field) → list_any is_strange (list ++ field ∷ []) ≡ (list_any is_strange list || is_strange field)
list_any-append [] field = or-last (is_strange field)
list_any-append (other ∷ list) field = ap (λ b. is_strange other || b) (list_any-append list field) ∙ sym (or-assoc (is_strange other) (list_any is_strange list) (is_strange field))

with_field-low : (fields : Fields) (own value : ℕ) → own < 23 → with_field fields own value ≡ record { values = set fields.values own (with_value (values_at fields own) value); strange = fields.strange }
with_field-low fields own value low = rw (lt-ltb own 23 low) refl

with_field-high : (fields : Fields) (own value : ℕ) → 23 ≤ own → with_field fields own value ≡ record { values = fields.values; strange = fields.strange || eqb (own % 2) 0 }
with_field-high fields own value high = rw (le-ltb own 23 high) refl

values-other : (list : List Field) (own value tag : ℕ) → own ≢ tag → values (list ++ (own, value) ∷ []) tag ≡ values list tag
values-other list own value tag ne = values-append list own value tag ∙ rw (ne_eqb own tag ne) (append-nil (values list tag))

values-own : (list : List Field) (own value : ℕ) → values (list ++ (own, value) ∷ []) own ≡ values list own ++ value ∷ []
values-own list own value = values-append list own value own ∙ rw (eq-eqb own own refl) refl

pub IsKeptOf-with_field : (fields : Fields) (list : List Field) (own value : ℕ) → IsKeptOf fields list → IsKeptOf (with_field fields own value) (list ++ (own, value) ∷ [])
IsKeptOf-with_field fields list own value h =
    elim (cases_lt own 23) [
      | inl low ↦
          let H : Fields → Type 0 = λ (f : Fields). IsKeptOf f (list ++ (own, value) ∷ []) in
          let long : length fields.values ≡ 23 = h.long in
          let within : own < length fields.values = omega arith in
          let new : Values = with_value (values_at fields own) value in
          subst H (sym (with_field-low fields own value low)) (record {
            known = λ tag lt. elim (cases_eq own tag) [
              | inl same ↦
                  let K : ℕ → Type 0 = λ (t : ℕ). get_or (set fields.values own new) t (values_kept []) ≡ values_kept (values (list ++ (own, value) ∷ []) t) in
                  subst K same (get_or-set_same fields.values own new (values_kept []) within ∙ ap (λ v. with_value v value) (h.known own low) ∙ values_kept-push (values list own) value ∙ ap values_kept (sym (values-own list own value)))
              | inr other ↦
                  let ne : tag ≢ own = λ e. other (sym e) in
                  get_or-set_other fields.values own tag new (values_kept []) ne ∙ h.known tag lt ∙ ap values_kept (sym (values-other list own value tag other))
            ];
            strange = h.strange ∙ sym (list_any-append list (own, value) ∙ ap (λ b. list_any is_strange list || b) (low-strange own low) ∙ or_right_false (list_any is_strange list));
            long = length-set fields.values own new ∙ h.long;
          })
      | inr high ↦
          let H : Fields → Type 0 = λ (f : Fields). IsKeptOf f (list ++ (own, value) ∷ []) in
          subst H (sym (with_field-high fields own value high)) (record {
            known = λ tag lt. let ne : own ≢ tag = omega arith in h.known tag lt ∙ ap values_kept (sym (values-other list own value tag ne));
            strange = ap (λ b. b || eqb (own % 2) 0) h.strange ∙ sym (list_any-append list (own, value) ∙ ap (λ b. list_any is_strange list || b) (high-strange own high));
            long = h.long;
          })
    ]

-- ---- tags and values in turn

abbrev pub fields_before : List Field → Message → Message
fields_before done message = record { fields = done ++ message.fields; lone = message.lone; body = message.body }

pub record Passed (integers rest : List ℕ) (fields : Fields) : Type 0 where
  pub done : List Field
  pub holds : IsKeptOf fields done
  pub all : fields_before done (message_of rest) ≡ message_of integers

pub passed_none : (integers : List ℕ) (fields : Fields) → IsKeptOf fields [] → Passed integers integers fields
passed_none integers fields holds = record { done = []; holds = holds; all = refl }

pair_front : (rest : List ℕ) → 2 ≤ length rest → rest ≡ get_or rest 0 0 ∷ get_or rest 1 0 ∷ drop 2 rest
pair_front [] long = absurd (omega arith)
pair_front (a ∷ []) long = absurd (omega arith)
pair_front (a ∷ b ∷ rest) long = refl

message_of-pair : (tag value : ℕ) (rest : List ℕ) → tag ≢ 0 → message_of (tag ∷ value ∷ rest) ≡ field_before (tag, value) (message_of rest)
message_of-pair tag value rest ne = rw (ne_eqb tag 0 ne) refl

abbrev fields_with : List Field → Message → Message
fields_with fields message = record { fields = fields; lone = message.lone; body = message.body }

pub passed_more : (integers rest behind : List ℕ) (fields : Fields) → Passed integers rest fields → 2 ≤ length rest → get_or rest 0 0 ≢ 0 → behind ≡ drop 2 rest → Passed integers behind (with_field fields (get_or rest 0 0) (get_or rest 1 0))
passed_more integers rest behind fields passed long ne is =
    let tag : ℕ = get_or rest 0 0 in
    let value : ℕ = get_or rest 1 0 in
    let here : message_of rest ≡ field_before (get_or rest 0 0, get_or rest 1 0) (message_of behind) = ap message_of (pair_front rest long ∙ ap (λ r. get_or rest 0 0 ∷ get_or rest 1 0 ∷ r) (sym is)) ∙ message_of-pair tag value behind ne in
    let shift : fields_before (passed.done ++ (get_or rest 0 0, get_or rest 1 0) ∷ []) (message_of behind) ≡ fields_before passed.done (field_before (get_or rest 0 0, get_or rest 1 0) (message_of behind)) = ap (λ f. fields_with f (message_of behind)) (append_assoc passed.done ((tag, value) ∷ []) (message_of behind).fields) in
    record {
      done = passed.done ++ (tag, value) ∷ [];
      holds = IsKeptOf-with_field fields passed.done tag value passed.holds;
      all = shift ∙ ap (fields_before passed.done) (sym here) ∙ passed.all;
    }

message_of-body : (tag value : ℕ) (rest : List ℕ) → tag ≡ 0 → message_of (tag ∷ value ∷ rest) ≡ record { fields = []; lone = false; body = value ∷ rest }
message_of-body tag value rest e = rw (eq-eqb tag 0 e) refl

-- the message, where the fields behind those that were passed are none
pub record Ends (integers : List ℕ) (fields : Fields) (lone : Bool) (body : List ℕ) : Type 0 where
  pub fields-are : IsKeptOf fields (message_of integers).fields
  pub lone-is : lone ≡ (message_of integers).lone
  pub body-is : body ≡ (message_of integers).body

ends_with : (integers rest : List ℕ) (fields : Fields) (message : Message) → Passed integers rest fields → message_of rest ≡ message → message.fields ≡ [] → Ends integers fields message.lone message.body
ends_with integers rest fields message passed is none =
    let all : fields_before passed.done message ≡ message_of integers = ap (fields_before passed.done) (sym is) ∙ passed.all in
    let fields-all : passed.done ≡ (message_of integers).fields = sym (append-nil passed.done) ∙ ap (λ f. passed.done ++ f) (sym none) ∙ ap (λ (m : Message). m.fields) all in
    let H : List Field → Type 0 = λ (l : List Field). IsKeptOf fields l in
    record {
      fields-are = subst H fields-all passed.holds;
      lone-is = ap (λ (m : Message). m.lone) all;
      body-is = ap (λ (m : Message). m.body) all;
    }

pub ends_at_body : (integers rest : List ℕ) (fields : Fields) → Passed integers rest fields → 2 ≤ length rest → get_or rest 0 0 ≡ 0 → Ends integers fields false (drop 1 rest)
ends_at_body integers [] fields passed long zero-tag = absurd (omega arith)
ends_at_body integers (a ∷ []) fields passed long zero-tag = absurd (omega arith)
ends_at_body integers (a ∷ b ∷ rest) fields passed long zero-tag =
    ends_with integers (a ∷ b ∷ rest) fields (record { fields = []; lone = false; body = b ∷ rest }) passed (message_of-body a b rest zero-tag) refl

pub ends_at_end : (integers rest : List ℕ) (fields : Fields) → Passed integers rest fields → length rest < 2 → Ends integers fields (message_of rest).lone []
ends_at_end integers [] fields passed short = ends_with integers [] fields (message_of []) passed refl refl
ends_at_end integers (a ∷ []) fields passed short = ends_with integers (a ∷ []) fields (message_of (a ∷ [])) passed refl refl
ends_at_end integers (a ∷ b ∷ rest) fields passed short = absurd (omega arith)

-- ---- edicts

abbrev pub edicts_joined : List Edict → Option (List Edict) → Option (List Edict)
edicts_joined done None = None
edicts_joined done (Some edicts) = Some (done ++ edicts)

edicts_joined-nil : (edicts : Option (List Edict)) → edicts_joined [] edicts ≡ edicts
edicts_joined-nil None = refl
edicts_joined-nil (Some edicts) = refl

pub edicts_start : (outputs : ℕ) (body : List ℕ) → edicts_joined [] (edicts_after outputs (Some (record { block = 0; tx = 0 })) body) ≡ edicts_of outputs body
unfolding edicts_of
edicts_start outputs body = edicts_joined-nil (edicts_after outputs (Some (record { block = 0; tx = 0 })) body)

four_front : (rest : List ℕ) → 4 ≤ length rest → rest ≡ get_or rest 0 0 ∷ get_or rest 1 0 ∷ get_or rest 2 0 ∷ get_or rest 3 0 ∷ drop 4 rest
four_front [] long = absurd (omega arith)
four_front (a ∷ []) long = absurd (omega arith)
four_front (a ∷ b ∷ []) long = absurd (omega arith)
four_front (a ∷ b ∷ c ∷ []) long = absurd (omega arith)
four_front (a ∷ b ∷ c ∷ d ∷ rest) long = refl

-- the edict in front, and those behind it
abbrev pub edicts_at : ℕ → RuneId → List ℕ → Option (List Edict)
edicts_at outputs id rest = edict_before outputs (id_after id (get_or rest 0 0) (get_or rest 1 0)) (get_or rest 2 0) (get_or rest 3 0) (edicts_after outputs (id_after id (get_or rest 0 0) (get_or rest 1 0)) (drop 4 rest))

edicts_after-four : (outputs : ℕ) (id : RuneId) (rest : List ℕ) → 4 ≤ length rest → edicts_after outputs (Some id) rest ≡ edicts_at outputs id rest
edicts_after-four outputs id rest long = ap (edicts_after outputs (Some id)) (four_front rest long)

pub edicts_id_fails : (outputs : ℕ) (id : RuneId) (done : List Edict) (rest : List ℕ) (target : Option (List Edict)) → 4 ≤ length rest → id_after id (get_or rest 0 0) (get_or rest 1 0) ≡ None → edicts_joined done (edicts_after outputs (Some id) rest) ≡ target → target ≡ None
edicts_id_fails outputs id done rest target long none so_far =
    sym so_far ∙ ap (edicts_joined done) (edicts_after-four outputs id rest long ∙ ap (λ next. edict_before outputs next (get_or rest 2 0) (get_or rest 3 0) (edicts_after outputs next (drop 4 rest))) none)

edict_before-past : (outputs amount output : ℕ) (id : RuneId) (more : Option (List Edict)) → outputs < output → edict_before outputs (Some id) amount output more ≡ None
edict_before-past outputs amount output id None past = refl
edict_before-past outputs amount output id (Some edicts) past = rw (lt-leb output outputs past) refl

pub edicts_output_fails : (outputs : ℕ) (id next : RuneId) (done : List Edict) (rest : List ℕ) (target : Option (List Edict)) → 4 ≤ length rest → id_after id (get_or rest 0 0) (get_or rest 1 0) ≡ Some next → outputs < get_or rest 3 0 → edicts_joined done (edicts_after outputs (Some id) rest) ≡ target → target ≡ None
edicts_output_fails outputs id next done rest target long is past so_far =
    sym so_far ∙ ap (edicts_joined done) (edicts_after-four outputs id rest long ∙ ap (λ n. edict_before outputs n (get_or rest 2 0) (get_or rest 3 0) (edicts_after outputs n (drop 4 rest))) is ∙ edict_before-past outputs (get_or rest 2 0) (get_or rest 3 0) next (edicts_after outputs (Some next) (drop 4 rest)) past)

edict_before-joined : (outputs amount output : ℕ) (id : RuneId) (done : List Edict) (more : Option (List Edict)) → output ≤ outputs → edicts_joined done (edict_before outputs (Some id) amount output more) ≡ edicts_joined (done ++ record { id = id; amount = amount; output = output } ∷ []) more
edict_before-joined outputs amount output id done None fits = refl
edict_before-joined outputs amount output id done (Some edicts) fits = rw (le-leb output outputs fits) (ap Some (sym (append_assoc done (record { id = id; amount = amount; output = output } ∷ []) edicts)))

pub edicts_go_on : (outputs : ℕ) (id next : RuneId) (done : List Edict) (rest behind : List ℕ) (target : Option (List Edict)) → 4 ≤ length rest → id_after id (get_or rest 0 0) (get_or rest 1 0) ≡ Some next → get_or rest 3 0 ≤ outputs → behind ≡ drop 4 rest → edicts_joined done (edicts_after outputs (Some id) rest) ≡ target → edicts_joined (done ++ record { id = next; amount = get_or rest 2 0; output = get_or rest 3 0 } ∷ []) (edicts_after outputs (Some next) behind) ≡ target
edicts_go_on outputs id next done rest behind target long is fits behind-is so_far =
    ap (λ b. edicts_joined (done ++ record { id = next; amount = get_or rest 2 0; output = get_or rest 3 0 } ∷ []) (edicts_after outputs (Some next) b)) behind-is
    ∙ sym (edict_before-joined outputs (get_or rest 2 0) (get_or rest 3 0) next done (edicts_after outputs (Some next) (drop 4 rest)) fits)
    ∙ sym (ap (edicts_joined done) (edicts_after-four outputs id rest long ∙ ap (λ n. edict_before outputs n (get_or rest 2 0) (get_or rest 3 0) (edicts_after outputs n (drop 4 rest))) is))
    ∙ so_far

pub edicts_cut : (outputs : ℕ) (id : RuneId) (done : List Edict) (rest : List ℕ) (target : Option (List Edict)) → length rest < 4 → 0 < length rest → edicts_joined done (edicts_after outputs (Some id) rest) ≡ target → target ≡ None
edicts_cut outputs id done [] target short some so_far = absurd (omega arith)
edicts_cut outputs id done (a ∷ []) target short some so_far = sym so_far
edicts_cut outputs id done (a ∷ b ∷ []) target short some so_far = sym so_far
edicts_cut outputs id done (a ∷ b ∷ c ∷ []) target short some so_far = sym so_far
edicts_cut outputs id done (a ∷ b ∷ c ∷ d ∷ rest) target short some so_far = absurd (omega arith)

pub edicts_end : (outputs : ℕ) (id : RuneId) (done : List Edict) (rest : List ℕ) (target : Option (List Edict)) → length rest ≡ 0 → edicts_joined done (edicts_after outputs (Some id) rest) ≡ target → target ≡ Some done
edicts_end outputs id done [] target end so_far = sym so_far ∙ ap Some (append-nil done)
edicts_end outputs id done (a ∷ rest) target end so_far = absurd (omega arith)
