-- Pages of a list: a hundred entries each, counted from 0.
use Rattle.std.specs.Prelude.{◌≡◌, ◌↔◌, ℕ, ◌+◌, ◌*◌, ◌/◌, ◌%◌, ◌<◌, ◌≤◌, Bool, IsTrue, nat_lt}
use Rattle.std.specs.Prelude.{List, length, take, drop, map, codes, slice_get}
use Rattle.serde_json.specs.Data.{Data, array, boolean, object, no_members, member}
use Rattle.serde_json.specs.View.{items_of}
use Rattle.ox_replies.specs.Values.{count}

-- the entries of a page; past the end there are none
abbrev pub entries_of : {A : Type 0} → ℕ → List A → List A
entries_of page rows = take 100 (drop (100 * page) rows)

-- whether entries follow those of a page
abbrev pub has_more : {A : Type 0} → ℕ → List A → Bool
has_more page rows = nat_lt (100 * page + 100) (length rows)

-- a page, which tells of each entry its id
abbrev pub page_tree : {A : Type 0} → (A → Data) → List A → ℕ → Data
page_tree id rows page = object (
    member (codes "ids") (array (items_of (map id (entries_of page rows)))) (
    member (codes "more") (boolean (has_more page rows)) (
    member (codes "page") (count page) no_members)))

-- Each entry stands on one page. A page has at most a hundred, and more follow exactly where the
-- next page has one.
pub record ArePages {A : Type 0} (rows : List A) : Type 0 where
  pub held : (n : ℕ) → slice_get (entries_of (n / 100) rows) (n % 100) ≡ slice_get rows n
  pub few : (page : ℕ) → length (entries_of page rows) ≤ 100
  pub more : (page : ℕ)
      → IsTrue (has_more page rows) ↔ (0 < length (entries_of (page + 1) rows))
