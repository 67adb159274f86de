-- What is asked of a chain so many blocks back.
use Rattle.std.proofs.Common.{◌≡◌, ◌≢◌, ◌∙◌, ℕ, zero, suc, ◌+◌, ◌-◌, ◌<◌, Bool, true, false, cond, List, [], ◌∷◌, length, take, refl, sym, ap, arith, Option, Some, None, bytes_eq, find, slice_get, length-take-le, take_all, take-take}
use Rattle.std.specs.Option.{option_map_or}
use Rattle.std.specs.Bool.{Decides}
use Rattle.std.proofs.lemmas.Slice.Eq.{bytes_eq-Decides}
use Rattle.ox_model.specs.Change.{undone}
use Rattle.ox_model.specs.Ends.{older_by}
use Rattle.ox_model.specs.Index.{Index}
use Rattle.ox_model.specs.declared.change.Change.{Change}
use Rattle.ox_replies.specs.Asked.{Asked}
use Rattle.ox_replies.specs.Status.{tip}
use Rattle.ox_asof.specs.AskedKept.{AskedKept, kept_of, older_asked}
use Rattle.ox_asof.specs.Back.{IsBack, IsNoneBack, tip_back}
use Rattle.ox_asof.specs.Reply.{asked_as_of, is_as_of}
use Rattle.ox_asof.specs.Undone.{undone_by}

-- ---- the older indexes

pub older_undone : (index : Index) (changes : List Change) (j : ℕ) → j < length changes → slice_get (older_by index changes) j ≡ Some (undone_by index (take (j + 1) changes))
older_undone index [] j less = absurd (omega (arith, less))
older_undone index (change ∷ changes) zero less = refl
older_undone index (change ∷ changes) (suc j) less =
    let one : suc (j + 1) ≡ suc j + 1 = omega arith in
    older_undone (undone index change) changes j (omega (arith, less)) ∙ ap (λ (n : ℕ). Some (undone_by index (take n (change ∷ changes)))) one

-- ---- the newest block

no_some : {A X : Type 0} (x : X) → None ≡ Some x → A
no_some x is = absurd (cc is)

-- the newest is this one exactly where the test says so
newest_is : (hash : List ℕ) (newest : Option (List ℕ)) → Decides (option_map_or (bytes_eq hash) newest false) (newest ≡ Some hash)
newest_is hash None = (λ no. absurd (cc no), λ none. no_some hash none)
newest_is hash (Some other) =
    let same = bytes_eq-Decides hash other in
    (λ is. ap (λ (h : List ℕ). Some h) (sym (same.0 is)), λ is. let one : other ≡ hash = cc is in same.1 (sym one))

is_not : (hash : List ℕ) (newest : Option (List ℕ)) → newest ≢ Some hash → option_map_or (bytes_eq hash) newest false ≡ false
is_not hash newest other = by_test (option_map_or (bytes_eq hash) newest false) refl where
  by_test : (b : Bool) → option_map_or (bytes_eq hash) newest false ≡ b → b ≡ false
  by_test true is = absurd (other ((newest_is hash newest).0 is))
  by_test false is = refl

-- all of the hashes
whole : (hashes : List (List ℕ)) → tip_back hashes 0 ≡ tip hashes
whole hashes = ap tip (take_all (length hashes - 0) hashes (omega arith))

one_less : (hashes : List (List ℕ)) (back : ℕ) → tip_back (take (length hashes - 1) hashes) back ≡ tip_back hashes (suc back)
one_less hashes back =
    let fewer : length (take (length hashes - 1) hashes) ≡ length hashes - 1 = length-take-le (length hashes - 1) hashes (omega arith) in
    let same : length (take (length hashes - 1) hashes) - back ≡ length hashes - suc back = omega (arith, fewer) in
    ap (λ (n : ℕ). tip (take n (take (length hashes - 1) hashes))) same
    ∙ ap tip (take-take (length hashes - suc back) (length hashes - 1) hashes (omega arith))

-- ---- as of a block

-- what is asked so many changes back
abbrev pub asked_back : Asked → List Change → ℕ → Asked
asked_back asked changes back = record asked { index = undone_by asked.index (take back changes); kept = asked.kept - back }

abbrev one_back : Asked → Change → Asked
one_back asked change = record asked { index = undone asked.index change; kept = asked.kept - 1 }

asked_less : (asked : Asked) (change : Change) (changes : List Change) (back : ℕ) → asked_back (one_back asked change) changes back ≡ asked_back asked (change ∷ changes) (suc back)
asked_less asked change changes back =
    let same : asked.kept - 1 - back ≡ asked.kept - suc back = omega arith in
    ap (λ (k : ℕ). record asked { index = undone_by asked.index (take (suc back) (change ∷ changes)); kept = k }) same

asked_same : (asked : Asked) (changes : List Change) → asked ≡ asked_back asked changes 0
asked_same asked changes =
    let same : asked.kept ≡ asked.kept - 0 = omega arith in
    ap (λ (k : ℕ). record asked { kept = k }) same

find_first : {A : Type 0} (p : A → Bool) (x : A) (xs : List A) → p x ≡ true → find p (x ∷ xs) ≡ Some x
find_first p x xs is = ap (λ (b : Bool). cond b (Some x) (find p xs)) is

find_next : {A : Type 0} (p : A → Bool) (x : A) (xs : List A) → p x ≡ false → find p (x ∷ xs) ≡ find p xs
find_next p x xs is = ap (λ (b : Bool). cond b (Some x) (find p xs)) is

pub found_back : (asked : Asked) (changes : List Change) (hash : List ℕ) (back : ℕ) → IsBack asked.index.hashes (length changes) hash back
    → asked_as_of (kept_of asked changes) hash ≡ Some (asked_back asked changes back)
found_back asked changes hash zero is =
    find_first (is_as_of hash) asked (older_asked asked (older_by asked.index changes))
    ((newest_is hash (tip asked.index.hashes)).1 (sym (whole asked.index.hashes) ∙ is.newest))
    ∙ ap (λ (a : Asked). Some a) (asked_same asked changes)
found_back asked [] hash (suc back) is = absurd (omega (arith, is.within))
found_back asked (change ∷ changes) hash (suc back) is =
    find_next (is_as_of hash) asked (older_asked asked (older_by asked.index (change ∷ changes)))
    (is_not hash (tip asked.index.hashes) (λ first. is.least 0 (omega arith) (whole asked.index.hashes ∙ first)))
    ∙ found_back (one_back asked change) changes hash back (record {
      within = omega (arith, is.within);
      newest = one_less asked.index.hashes back ∙ is.newest;
      least = λ fewer less same. is.least (suc fewer) (omega (arith, less)) (sym (one_less asked.index.hashes fewer) ∙ same);
    })
    ∙ ap (λ (a : Asked). Some a) (asked_less asked change changes back)

pub none_back : (asked : Asked) (changes : List Change) (hash : List ℕ) → IsNoneBack asked.index.hashes (length changes) hash → asked_as_of (kept_of asked changes) hash ≡ None
none_back asked [] hash none =
    find_next (is_as_of hash) asked [] (is_not hash (tip asked.index.hashes) (λ first. none 0 (omega arith) (whole asked.index.hashes ∙ first)))
none_back asked (change ∷ changes) hash none =
    find_next (is_as_of hash) asked (older_asked asked (older_by asked.index (change ∷ changes)))
    (is_not hash (tip asked.index.hashes) (λ first. none 0 (omega arith) (whole asked.index.hashes ∙ first)))
    ∙ none_back (one_back asked change) changes hash
    (λ back less same. none (suc back) (omega (arith, less)) (sym (one_less asked.index.hashes back) ∙ same))

-- the newest is none back
pub newest_first : (kept : AskedKept) (hash : List ℕ) → tip kept.first.index.hashes ≡ Some hash → asked_as_of kept hash ≡ Some kept.first
newest_first kept hash is =
    find_first (is_as_of hash) kept.first (older_asked kept.first kept.older) ((newest_is hash (tip kept.first.index.hashes)).1 is)
