-- What fields say of a head's faults.
use Rattle.std.proofs.Common.{◌≡◌, ℕ, ◌<◌, ◌≤◌, Bool, true, false, cond, ◌&&◌, ◌||◌, ◌==◌, List, [], ◌∷◌, length, map, take, drop, Option, Some, None, is_some, MatchOption, codes, min, refl, sym, ap, ◌∙◌, subst, arith, nat_lt, ◌++◌, append-nil}
use Rattle.std.proofs.lemmas.Bool.{lt-ltb, le-ltb, ne_eqb}
use Rattle.std.proofs.lemmas.List.{length-map, length-drop, length-take, nil_from_length}
use Rattle.httparse.specs.declared.spans.HeaderSpan.{HeaderSpan}
use Rattle.httparse.specs.declared.spans.RequestSpans.{RequestSpans}
use Rattle.httparse.specs.Grammar.{HasNoRequest, ReadsRequest, RequestHead}
use Rattle.httparse.specs.Spans.{IsRequestAt, IsRequestOf, RequestOverflows, header_bytes, name_and_value, span_bytes}
use Rattle.httparse.proofs.GrammarLemmas.{request_unique}
use Rattle.ox_http.specs.declared.Method.{Method}
use Rattle.ox_http.specs.Head.{Head, IsHead, head_of}
use Rattle.ox_http.specs.First.{are_one_length, asked_by, body_length, closes, method_of, fault_by, fault_of, is_post, length_told, values_of}
use Rattle.ox_http.specs.Read.{IsFirstOf}
use Rattle.ox_http.proofs.Heads.{head_of-printed, head_of_sound}

pub some_first : {A : Type 0} (now : A → List ℕ) (o : Option A) (values : List (List ℕ))
    → MatchOption o (values ≡ []) (λ v. IsFirstOf values (now v))
    → is_some o ≡ nat_lt 0 (length values)
some_first now None values h = sym (ap (λ vs. nat_lt 0 (length vs)) h)
some_first now (Some v) values h =
    sym (ap (λ vs. nat_lt 0 (length vs)) h.1 ∙ lt-ltb 0 (length (now v ∷ h.0)) (omega arith))

abbrev lengths_of : Head → List (List ℕ)
lengths_of head = values_of (codes "content-length") head.fields

abbrev encodings_of : Head → List (List ℕ)
encodings_of head = values_of (codes "transfer-encoding") head.fields

pub fault_unclear : (head : Head) → are_one_length (lengths_of head) ≡ false
    → fault_of head ≡ Some 400
unfolding fault_of
fault_unclear head h = rw h refl

pub fault_untold : (head : Head) → lengths_of head ≡ [] → is_post head ≡ true
    → fault_of head ≡ Some 411
unfolding fault_of
fault_untold head none post =
    ap (fault_by head) none
    ∙ ap (λ p. cond {A = Option ℕ} (nat_lt 0 (length (encodings_of head)) || (p && true)) (Some 411)
    (cond (nat_lt 4000000 0) (Some 413) None)) post
    ∙ lacks (nat_lt 0 (length (encodings_of head)))
  where
    lacks : (v : Bool) → cond {A = Option ℕ} (v || (true && true)) (Some 411)
        (cond (nat_lt 4000000 0) (Some 413) None) ≡ Some 411
    lacks true = refl
    lacks false = refl

-- the lengths are one or none, a POST has one, and this is the length or more than the most
pub record IsSized (head : Head) (n : ℕ) : Type 0 where
  pub one : are_one_length (lengths_of head) ≡ true
  pub told : (is_post head && length (lengths_of head) == 0) ≡ false
  pub is : n ≡ min (length_told (lengths_of head)) 4000001

pub sized_untold : (head : Head) → lengths_of head ≡ [] → is_post head ≡ false → IsSized head 0
sized_untold head none post = record {
  one = ap are_one_length none;
  told = ap (λ p. p && length (lengths_of head) == 0) post;
  is = sym (ap (λ vs. min (length_told vs) 4000001) none);
}

and_false : (v : Bool) → (v && false) ≡ false
and_false true = refl
and_false false = refl

pub sized_told : (head : Head) (n : ℕ)
    → (0 < length (lengths_of head)) × (are_one_length (lengths_of head) ≡ true)
    × (n ≡ min (length_told (lengths_of head)) 4000001) → IsSized head n
sized_told head n h = record {
  one = h.1;
  told = ap (λ v. is_post head && v)
      (ne_eqb (length (lengths_of head)) 0 (λ e. absurd (omega (arith, h.0))))
      ∙ and_false (is_post head);
  is = h.2;
}

pub fault_encoded : (head : Head) (n : ℕ) → IsSized head n
    → nat_lt 0 (length (encodings_of head)) ≡ true → fault_of head ≡ Some 411
unfolding fault_of
fault_encoded head n sized encoded = rw (sized.one, encoded) refl

pub fault_long : (head : Head) (n : ℕ) → IsSized head n
    → nat_lt 0 (length (encodings_of head)) ≡ false → 4000000 < n → fault_of head ≡ Some 413
unfolding fault_of
fault_long head n sized plain long =
    let over : 4000000 < length_told (lengths_of head) = omega (arith, sized.is) in
    rw (sized.one, plain, sized.told, lt-ltb 4000000 (length_told (lengths_of head)) over) refl

pub fault_none : (head : Head) (n : ℕ) → IsSized head n
    → nat_lt 0 (length (encodings_of head)) ≡ false → n ≤ 4000000 → fault_of head ≡ None
unfolding fault_of
fault_none head n sized plain short =
    let under : length_told (lengths_of head) ≤ 4000000 = omega (arith, sized.is) in
    rw (sized.one, plain, sized.told, le-ltb 4000000 (length_told (lengths_of head)) under) refl

pub size_is : (head : Head) (n : ℕ) → IsSized head n → n ≤ 4000000 → n ≡ body_length head
size_is head n sized short = omega (arith, sized.is)

-- ---- what the parser answers

abbrev pub covered : List ℕ → RequestSpans → List HeaderSpan → Head
covered head r spans = record {
  start = record {
    method = span_bytes head r.method;
    target = span_bytes head r.path;
    minor = r.version;
  };
  fields = map (header_bytes head) (take r.headers spans);
}

-- heads with the same parts are the same
pub head_same : {a b c d : List ℕ} {m n : ℕ} {f g : List (List ℕ × List ℕ)} → a ≡ b → c ≡ d → m ≡ n
    → f ≡ g
    → ◌≡◌ {A = Head} (record { start = record { method = a; target = c; minor = m }; fields = f })
    (record { start = record { method = b; target = d; minor = n }; fields = g })
head_same e f g h = cc

-- what a head asks, part by part
pub asked_same : (head : Head) (method : Method) (n : ℕ) (close : Bool)
    → method ≡ method_of head.start.method → n ≡ body_length head → close ≡ closes head
    → record { method = method; path = head.start.target; size = n; close = close }
    ≡ asked_by head
asked_same head method n close e f g = cc

-- a head of all the bytes
pub whole_read : (head : List ℕ) (spans : List HeaderSpan) (r : RequestSpans) (h : RequestHead)
    → IsRequestAt head spans r h → r.len ≡ length head → length spans ≤ 64
    → head_of head ≡ Some (covered head r spans)
whole_read head spans r h at all few =
    let rest : drop r.len head ≡ [] = nil_from_length (drop r.len head) (omega (arith, all, length-drop r.len head)) in
    let reads : ReadsRequest head h [] = subst (ReadsRequest head h) rest at.reads in
    let count : length h.fields ≤ 64
    = omega (
      arith,
      ap length at.fields,
      length-map (take r.headers spans) (header_bytes head),
      length-map h.fields name_and_value,
      length-take r.headers spans,
      few,
    ) in
    head_of-printed head h reads count
    ∙ ap Some (head_same (sym at.method) (sym at.path) (sym at.version) (sym at.fields))

no_head : (head : List ℕ) → ((found : Head) → IsHead head found → ⊥) → head_of head ≡ None
no_head head never = by (head_of head) refl
  where
    by : (o : Option Head) → head_of head ≡ o → head_of head ≡ None
    by None e = e
    by (Some found) e = absurd (never found (head_of_sound head found e))

-- a head that isn't all of the bytes
pub part_read : (head : List ℕ) (spans : List HeaderSpan) (r : RequestSpans)
    → IsRequestOf head spans r → r.len ≤ length head → (r.len ≡ length head → ⊥)
    → head_of head ≡ None
part_read head spans r found within part =
    no_head head (λ other is.
    let at = found.1 in
    let same = request_unique head found.0 is.read (drop r.len head) [] at.reads is.reads in
    let none : length (drop r.len head) ≡ 0 = ap length same.1 in
    part (omega (arith, none, length-drop r.len head)))

pub none_read : (head : List ℕ) → HasNoRequest head → head_of head ≡ None
none_read head none = no_head head (λ other is. none is.read [] is.reads)

pub many_read : (head : List ℕ) → RequestOverflows 64 head → head_of head ≡ None
many_read head over =
    no_head head (λ other is.
    let reads : ReadsRequest (head ++ []) is.read []
    = subst (λ z. ReadsRequest z is.read []) (sym (append-nil head)) is.reads in
    absurd (omega (arith, over [] is.read [] reads, is.few)))
