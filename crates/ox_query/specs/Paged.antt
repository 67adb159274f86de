-- What is written of pages.
use Rattle.std.specs.Prelude.{ℕ, ◌-◌, Bool, List, [], ◌∷◌, take, drop, codes, decimal}
use Rattle.json.specs.Token.{Token, boolean, key, number}

-- the rows from one up to another, without that
abbrev pub rows_between : {A : Type 0} → List A → ℕ → ℕ → List A
rows_between rows first end = take (end - first) (drop first rows)

-- the tokens behind a page's ids: whether more follow, and its number
abbrev pub page_end : Bool → ℕ → List Token
page_end more page =
    key (codes "more") ∷ boolean more ∷ key (codes "page") ∷ number (decimal page) ∷ []
