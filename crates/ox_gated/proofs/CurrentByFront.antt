-- A head depends on the bytes before the body alone; and what a current file is that goes on otherwise behind its body.
use Rattle.std.proofs.Common.{◌≡◌, ◌∙◌, ◌≤◌, ◌<◌, ◌+◌, ◌-◌, ℕ, zero, suc, Bool, true, false, List, ◌∷◌, ◌++◌, length, take, drop, ◌&&◌, ◌||◌, not, if◌then◌else◌, Some, None, refl, sym, ap, subst, arith, length-append, length-drop, take-append-drop}
use Rattle.std.specs.Prelude.{nat_lt, nat_le, slice_range, slice_index, bytes_eq, Result, Ok}
use Rattle.std.specs.Int.{w16, w64, from_le_bytes}
use Rattle.std.proofs.lemmas.Bool.{and_parts, le-ltb, ltb-false, le-leb, leb-true, lt-leb}
use Rattle.std.proofs.lemmas.List.{length-take, take_at, drop_at, take-append-le, drop-append-le, get_or_append_left}
use Rattle.std.proofs.lemmas.Option.{same_Some}
use Rattle.ox_bytes.proofs.Laws.{guard_ok}
use Rattle.ox_outside.specs.declared.site.Which.{Which}
use Rattle.ox_gated.specs.Layout.{Layout, layout_of, has_layout, is_lawful, opening_at, head_of}
use Rattle.ox_gated.specs.Reading.{Found, Fault, fault_at, by_parts, body_reading_at}
use Rattle.ox_gated.specs.declared.head.Opening.{Opening}
use Rattle.ox_gated.proofs.LayoutLaws.{Laws, laws_of}

-- ---- heads

module _ (front t : List ℕ) (long : 26 ≤ length front) where
  index_front : (i : ℕ) → i < 26 → slice_index (front ++ t) i ≡ slice_index front i
  index_front i lt = get_or_append_left front t 0 i (omega (arith, long))

  range_front : (i j : ℕ) → i ≤ j → j ≤ 26 → slice_range (front ++ t) i j ≡ slice_range front i j
  range_front i j le lt =
      ap (λ (l : List ℕ). take (j - i) l) (drop-append-le i front t (omega (arith, long)))
      ∙ take-append-le (j - i) (drop i front) t (omega (arith, long, length-drop i front))

  pub opening_front : opening_at (front ++ t) ≡ opening_at front
  opening_front =
      let version = index_front 6 (omega arith) in
      let profile = index_front 7 (omega arith) in
      let depth = range_front 8 10 (omega arith) (omega arith) in
      let generation = range_front 10 18 (omega arith) (omega arith) in
      let size = range_front 18 26 (omega arith) (omega arith) in
      λ i. record {
        head = record { version = version i; profile = profile i; depth = from_le_bytes w16 (depth i); generation = from_le_bytes w64 (generation i) };
        size = from_le_bytes w64 (size i);
      }

  pub layout_front : (layout : Layout) → layout.body_at ≤ length front → has_layout layout (front ++ t) ≡ has_layout layout front
  layout_front layout enough =
      let there = le-leb layout.body_at (length (front ++ t)) (omega (arith, enough, length-append front t)) in
      let there_before = le-leb layout.body_at (length front) enough in
      let letters = range_front 1 6 (omega arith) (omega arith) in
      let bytes = take-append-le layout.body_at front t enough in
      (λ i. there i && bytes_eq (letters i) layout.letters && layout.is_head (bytes i))
      ∙ sym (ap (λ (b : Bool). b && bytes_eq (slice_range front 1 6) layout.letters && layout.is_head (take layout.body_at front)) there_before)

  pub head_of_front : (layout_of (opening_at front).head.version).body_at ≤ length front → head_of (front ++ t) ≡ head_of front
  head_of_front enough =
      ap (λ (o : Opening). if is_lawful o.head && has_layout (layout_of o.head.version) (front ++ t) then Some o else None) opening_front
      ∙ ap (λ (b : Bool). if is_lawful (opening_at front).head && b then Some (opening_at front) else None) (layout_front (layout_of (opening_at front).head.version) enough)

-- what it means that there is a head
pub record HeadThere (file : List ℕ) (opening : Opening) : Type 0 where
  pub same : opening_at file ≡ opening
  pub lawful : is_lawful opening.head ≡ true
  pub has : has_layout (layout_of opening.head.version) file ≡ true
  pub long : (layout_of opening.head.version).body_at ≤ length file

there_by : (file : List ℕ) (opening : Opening) (b : Bool) → (is_lawful (opening_at file).head && has_layout (layout_of (opening_at file).head.version) file) ≡ b → (if b then Some (opening_at file) else None) ≡ Some opening → HeadThere file opening
there_by file opening true passes is =
    let o = opening_at file in
    let layout = layout_of o.head.version in
    let both = and_parts (is_lawful o.head) (has_layout layout file) passes in
    let front = and_parts (nat_le layout.body_at (length file) && bytes_eq (slice_range file 1 6) layout.letters) (layout.is_head (take layout.body_at file)) both.1 in
    let enough = and_parts (nat_le layout.body_at (length file)) (bytes_eq (slice_range file 1 6) layout.letters) front.0 in
    subst (HeadThere file) (same_Some o opening is) (
    record { same = refl; lawful = both.0; has = both.1; long = leb-true layout.body_at (length file) enough.0 }
    )
there_by file opening false passes is = absurd (cc is)

pub head_there : (file : List ℕ) (opening : Opening) → head_of file ≡ Some opening → HeadThere file opening
head_there file opening is = there_by file opening _ refl is

-- too short for a head
pub head_short : (file : List ℕ) → length file < 26 → head_of file ≡ None
head_short file short =
    let layout = layout_of (opening_at file).head.version in
    let begins = (laws_of (opening_at file).head.version).begins in
    let no : nat_le layout.body_at (length file) ≡ false = lt-leb layout.body_at (length file) (omega (arith, short, begins)) in
    ap (λ (b : Bool). if is_lawful (opening_at file).head && (b && bytes_eq (slice_range file 1 6) layout.letters && layout.is_head (take layout.body_at file)) then Some (opening_at file) else None) no
    ∙ and_false (is_lawful (opening_at file).head) (opening_at file)
  where
    and_false : (b : Bool) (o : Opening) → (if b && false then Some o else None) ≡ None
    and_false true o = refl
    and_false false o = refl

-- the bytes before the body decide
pub head_by_front : (front t u : List ℕ) (opening : Opening) → head_of (front ++ t) ≡ Some opening → (layout_of opening.head.version).body_at ≤ length front → head_of (front ++ u) ≡ Some opening
head_by_front front t u opening is enough =
    let begins = (laws_of opening.head.version).begins in
    let long : 26 ≤ length front = omega (arith, enough, begins) in
    let same : opening_at front ≡ opening = sym (opening_front front t long) ∙ (head_there (front ++ t) opening is).same in
    let enough_here : (layout_of (opening_at front).head.version).body_at ≤ length front = subst (λ (o : Opening). (layout_of o.head.version).body_at ≤ length front) (sym same) enough in
    head_of_front front u long enough_here ∙ sym (head_of_front front t long enough_here) ∙ is

-- and whatever the first gate is
head_of_gate : (layout : Layout) → Laws layout → (gate byte : ℕ) (rest : List ℕ) → layout.is_head (take layout.body_at (gate ∷ rest)) ≡ layout.is_head (take layout.body_at (byte ∷ rest))
head_of_gate layout laws gate byte rest = by layout.body_at laws.begins
  where
    by : (n : ℕ) → 26 ≤ n → layout.is_head (take n (gate ∷ rest)) ≡ layout.is_head (take n (byte ∷ rest))
    by zero le = absurd (omega (arith, le))
    by (suc n) le = laws.head_any_gate gate byte (take n rest)

pub head_any_gate : (gate byte : ℕ) (rest : List ℕ) → head_of (gate ∷ rest) ≡ head_of (byte ∷ rest)
head_any_gate gate byte rest =
    let o = opening_at (gate ∷ rest) in
    let layout = layout_of o.head.version in
    ap (λ (b : Bool). if is_lawful o.head && (nat_le layout.body_at (length (gate ∷ rest)) && bytes_eq (slice_range (gate ∷ rest) 1 6) layout.letters && b) then Some o else None) (head_of_gate layout (laws_of o.head.version) gate byte rest)

-- ---- the current file

neither : (x y : Bool) → (x || not y) ≡ false → (x ≡ false) × (y ≡ true)
neither true y is = absurd (cc is)
neither false true is = (refl, refl)
neither false false is = absurd (cc is)

module _ (layout : Layout) (file : Which) (opening : Opening) where
  abbrev by_bytes : List ℕ → List ℕ → List ℕ → ℕ → Result Found Fault
  by_bytes front body rest len =
      if nat_lt len (layout.body_at + opening.size) || not (layout.is_body front body) then fault_at file layout.body_at else by_parts layout file opening body rest

  -- a file of a head, a body and what stands behind these
  body_by : (front body t : List ℕ) (right : Bool) → length front ≡ layout.body_at → length body ≡ opening.size → layout.is_body front body ≡ right
      → body_reading_at layout file (front ++ (body ++ t)) opening ≡ (if not right then fault_at file layout.body_at else by_parts layout file opening body t)
  body_by front body t right size body_size is =
      let bytes = front ++ (body ++ t) in
      let enough : nat_lt (length bytes) (layout.body_at + opening.size) ≡ false = le-ltb (length bytes) (layout.body_at + opening.size) (omega (arith, size, body_size, length-append front (body ++ t), length-append body t)) in
      let front_is = take_at front (body ++ t) layout.body_at size in
      let behind = drop_at front (body ++ t) layout.body_at size in
      let body_is : take opening.size (drop layout.body_at bytes) ≡ body = ap (λ (l : List ℕ). take opening.size l) behind ∙ take_at body t opening.size body_size in
      let rest_is : drop opening.size (drop layout.body_at bytes) ≡ t = ap (λ (l : List ℕ). drop opening.size l) behind ∙ drop_at body t opening.size body_size in
      (λ i. by_bytes (front_is i) (body_is i) (rest_is i) (length bytes))
      ∙ (λ i. if enough i || not (is i) then fault_at file layout.body_at else by_parts layout file opening body t)

  pub body_on : (front body t : List ℕ) → length front ≡ layout.body_at → length body ≡ opening.size → layout.is_body front body ≡ true
      → body_reading_at layout file (front ++ (body ++ t)) opening ≡ by_parts layout file opening body t
  body_on front body t size body_size right = body_by front body t true size body_size right

  -- whose body isn't as its sum says
  pub body_wrong : (front body t : List ℕ) → length front ≡ layout.body_at → length body ≡ opening.size → layout.is_body front body ≡ false
      → body_reading_at layout file (front ++ (body ++ t)) opening ≡ fault_at file layout.body_at
  body_wrong front body t size body_size wrong = body_by front body t false size body_size wrong

  -- and a file that is one
  pub record OfParts (bytes : List ℕ) (found : Found) : Type 0 where
    pub front : List ℕ
    pub body : List ℕ
    pub rest : List ℕ
    pub parts : bytes ≡ front ++ (body ++ rest)
    pub size : length front ≡ layout.body_at
    pub body_size : length body ≡ opening.size
    pub right : layout.is_body front body ≡ true
    pub reads : by_parts layout file opening body rest ≡ Ok found

  pub parts_of : (bytes : List ℕ) (found : Found) → body_reading_at layout file bytes opening ≡ Ok found → OfParts bytes found
  parts_of bytes found is =
      let front = take layout.body_at bytes in
      let behind = drop layout.body_at bytes in
      let body = take opening.size behind in
      let rest = drop opening.size behind in
      let passes = guard_ok {F = Fault} (nat_lt (length bytes) (layout.body_at + opening.size) || not (layout.is_body front body)) _ _ found is in
      let tests = neither (nat_lt (length bytes) (layout.body_at + opening.size)) (layout.is_body front body) passes.0 in
      let enough : layout.body_at + opening.size ≤ length bytes = ltb-false (length bytes) (layout.body_at + opening.size) tests.0 in
      record {
        front = front;
        body = body;
        rest = rest;
        parts = sym (ap (λ (l : List ℕ). front ++ l) (take-append-drop opening.size behind) ∙ take-append-drop layout.body_at bytes);
        size = omega (arith, enough, length-take layout.body_at bytes);
        body_size = omega (arith, enough, length-take opening.size behind, length-drop layout.body_at bytes);
        right = tests.1;
        reads = passes.1;
      }
