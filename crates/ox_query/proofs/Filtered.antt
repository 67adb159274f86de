-- Trees of some rows, of which each has one or none, written one by one.
use Rattle.std.proofs.Common.{◌≡◌, ◌<◌, ◌≤◌, ◌+◌, ℕ, List, [], ◌∷◌, ◌++◌, length, get_or, take, Option, sym, ap, ◌∙◌}
use Rattle.std.specs.List.{filter_map}
use Rattle.std.proofs.lemmas.Grind.{flat_map-append}
use Rattle.std.proofs.lemmas.List.{take_all, take_more}
use Rattle.std.proofs.lemmas.List.Elements.{filter_map-append}
use Rattle.json.specs.Token.{Token, begin_array}
use Rattle.serde_json.specs.Data.{Data}
use Rattle.ox_query.specs.Written.{Adds, tokens_of, tokens_of_all}
use Rattle.ox_query.specs.declared.bodies.Body.{Body}
use Rattle.ox_query.proofs.Arrays.{begun}
use Rattle.ox_query.proofs.Steps.{same, ◌▸◌}

module _ {A : Type 0} (told : A → Option Data) where
  abbrev pub told_of : List A → List Token
  told_of rows = tokens_of_all (filter_map told rows)

  told_of-append : (a b : List A) → told_of (a ++ b) ≡ told_of a ++ told_of b
  told_of-append a b = ap tokens_of_all (filter_map-append told a b) ∙ flat_map-append tokens_of (filter_map told a) (filter_map told b)

  pub one_more : {old so_far new : Body} (rows : List A) (i : ℕ) (d : A) → i < length rows
      → Adds old so_far (begin_array ∷ told_of (take i rows)) → Adds so_far new (told_of (get_or rows i d ∷ []))
      → Adds old new (begin_array ∷ told_of (take (i + 1) rows))
  one_more rows i d within is here =
      same begun (sym (told_of-append (take i rows) (get_or rows i d ∷ [])) ∙ ap told_of (sym (take_more rows i d within))) (is ▸ here)

  pub all : {old new : Body} (rows : List A) (i : ℕ) → length rows ≤ i
      → Adds old new (begin_array ∷ told_of (take i rows)) → Adds old new (begin_array ∷ told_of rows)
  all rows i past is = same (λ (xs : List A). begin_array ∷ told_of xs) (take_all i rows past) is
