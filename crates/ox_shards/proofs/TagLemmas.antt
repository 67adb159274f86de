-- The tags in front of keys.
use Rattle.std.proofs.Common.{arith, ◌≡◌, ◌≢◌, ◌∙◌, ℕ, ◌-◌, ◌<◌, ◌≤◌, Bool, true, false, List, ◌∷◌, length, map, get_or, take, slice_set, swap_remove, Ordering, IsPermutation, refl, sym, ap, subst}
use Rattle.std.specs.Ordering.{is_eq}
use Rattle.std.specs.BTreeMap.{is_at}
use Rattle.std.proofs.lemmas.List.{get_or-map, get_or_default, length-map, map-set, take-map}
use Rattle.std.proofs.lemmas.List.Sorted.{IsPermutation-swap_remove}
use Rattle.std.proofs.Math.Seq.{map-set_same}
use Rattle.ox_shards.specs.Shards.{Entries}

-- the last of a list takes the place of one that goes, and so does what f makes of it
pub map-swap_remove : {A B : Type 0} (f : A → B) (xs : List A) (i : ℕ) (d : A) (e : B) → i < length xs → swap_remove (map f xs) i e ≡ map f (swap_remove xs i d)
map-swap_remove {A = A} {B = B} f xs i d e low =
    ap (λ (n : ℕ). take (n - 1) (slice_set (map f xs) i (get_or (map f xs) (n - 1) e))) (length-map xs f)
    ∙ ap (λ (x : B). take (length xs - 1) (slice_set (map f xs) i x)) (get_or-map f xs (length xs - 1) d e (omega (arith, low)))
    ∙ ap (take (length xs - 1)) (sym (map-set f xs i (get_or xs (length xs - 1) d)))
    ∙ take-map f (length xs - 1) (slice_set xs i (get_or xs (length xs - 1) d))

-- what is left where one of a list goes
pub left_after : {A : Type 0} (xs new : List A) (i : ℕ) (x d : A) → i < length xs → x ≡ get_or xs i x → new ≡ swap_remove xs i x → IsPermutation xs (get_or xs i d ∷ new)
left_after {A = A} xs new i x d low is items =
    subst (λ (y : A). IsPermutation xs (y ∷ new)) (is ∙ get_or_default xs i x d low)
    (subst (λ (l : List A). IsPermutation xs (x ∷ l)) (sym items) (IsPermutation-swap_remove xs i x low is))

module _ {K V : Type 0} (tag : K → ℕ) where
  -- the tag of each key, in order
  abbrev tags_of : Entries K V → List ℕ
  tags_of es = map (λ e. tag e.0) es

  -- another value at a key leaves the tags
  pub tags_stay : (tags : List ℕ) (es : Entries K V) (i : ℕ) (x : K × V) (w : V) → tags ≡ tags_of es → x ≡ get_or es i x → tags ≡ tags_of (slice_set es i (x.0, w))
  tags_stay tags es i x w are is = are ∙ sym (map-set_same (λ (e : K × V). tag e.0) es i (x.0, w) x (ap (λ (e : K × V). tag e.0) is))

  -- a key and its tag go
  pub tags_left : (tags new_tags : List ℕ) (es new : Entries K V) (i t : ℕ) (x : K × V) → i < length es → tags ≡ tags_of es → new_tags ≡ swap_remove tags i t → new ≡ swap_remove es i x → new_tags ≡ tags_of new
  tags_left tags new_tags es new i t x low are is items =
      is ∙ ap (λ (l : List ℕ). swap_remove l i t) are ∙ map-swap_remove (λ (e : K × V). tag e.0) es i x t low ∙ ap tags_of (sym items)

  -- a tag stands at each place of the keys, as they are seen
  pub tag_low : (tags : List ℕ) (es seen : Entries K V) (i : ℕ) → tags ≡ tags_of es → es ≡ seen → i < length seen → i < length tags
  tag_low tags es seen i are is low = omega (arith, low, ap length is, ap length are, length-map es (λ (e : K × V). tag e.0))

  module _ (tags : List ℕ) (es : Entries K V) (are : tags ≡ tags_of es) where
    pub as_many : length tags ≡ length es
    as_many = ap length are ∙ length-map es (λ (e : K × V). tag e.0)

    -- a key stands where its tag does, and the other way round
    pub key_there : (i : ℕ) → i < length tags → i < length es
    key_there i low = omega (arith, low, as_many)

    pub tag_there : (i n : ℕ) → length tags ≤ n → i < length es → i < n
    tag_there i n high low = omega (arith, high, low, as_many)

    module _ (cmp : K → K → Ordering) (key : K) where
      -- what a test by equality says of the key at a place
      pub same_test : (eq : K → K → Bool) → ((x y : K) → eq x y ≡ is_eq (cmp x y)) → (i : ℕ) (x d : K × V) → i < length tags → (answer b : Bool) → answer ≡ eq key (get_or es i x).0 → answer ≡ b → is_at (cmp key) (get_or es i d).0 ≡ b
      same_test eq matches i x d low answer b says is =
          ap (λ (e : K × V). is_eq (cmp key e.0)) (get_or_default es i d x (key_there i low)) ∙ sym (matches key (get_or es i x).0) ∙ sym says ∙ is

      -- a key with another tag is another key
      pub other_tag : ((a b : K) → is_eq (cmp a b) ≡ true → tag a ≡ tag b) → (t i : ℕ) → t ≡ tag key → i < length tags → get_or tags i 0 ≢ t → (d : K × V) → is_at (cmp key) (get_or es i d).0 ≡ false
      other_tag same_tag t i is low other d = by (is_eq (cmp key (get_or es i d).0)) refl where
        by : (b : Bool) → is_eq (cmp key (get_or es i d).0) ≡ b → b ≡ false
        by false _ = refl
        by true same = absurd (other
            (ap (λ (l : List ℕ). get_or l i 0) are ∙ get_or-map (λ (e : K × V). tag e.0) es i d 0 (key_there i low)
            ∙ sym (is ∙ same_tag key (get_or es i d).0 same)))
