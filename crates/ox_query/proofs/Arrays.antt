-- Arrays, tree by tree.
use Rattle.std.proofs.Common.{◌≡◌, ◌<◌, ◌≤◌, ◌+◌, ℕ, List, [], ◌∷◌, ◌++◌, length, get_or, take, map, refl, sym, ap, ◌∙◌, append_assoc}
use Rattle.std.proofs.lemmas.Grind.{flat_map-append}
use Rattle.std.proofs.lemmas.List.{append-nil, map-append, take_all, take_more}
use Rattle.json.specs.Token.{Token, begin_array, end_array}
use Rattle.json.specs.Tree.{items_tokens}
use Rattle.serde_json.specs.Data.{Data, array}
use Rattle.serde_json.specs.View.{items_of}
use Rattle.serde_json.specs.Written.{items_outline}
use Rattle.ox_query.specs.Written.{Adds, IsBlank, IsTree, tokens_of, tokens_of_all}
use Rattle.ox_query.specs.declared.bodies.Body.{Body}
use Rattle.ox_query.proofs.Steps.{same, ◌▸◌}

pub items_are : (trees : List Data) → items_tokens (items_outline (items_of trees)) ≡ tokens_of_all trees ++ end_array ∷ []
items_are [] = refl
items_are (tree ∷ trees) =
    ap (λ (ts : List Token). tokens_of tree ++ ts) (items_are trees)
    ∙ sym (append_assoc (tokens_of tree) (tokens_of_all trees) (end_array ∷ []))

-- the tokens behind an array's bracket
abbrev pub begun : List Token → List Token
begun tokens = begin_array ∷ tokens

-- trees written one by one, behind a bracket
module _ {A : Type 0} (told : A → Data) where
  pub one_behind : (rows : List A) (row : A) → tokens_of_all (map told rows) ++ tokens_of (told row) ≡ tokens_of_all (map told (rows ++ row ∷ []))
  one_behind rows row =
      ap (λ (ts : List Token). tokens_of_all (map told rows) ++ ts) (sym (append-nil (tokens_of (told row))))
      ∙ sym (flat_map-append tokens_of (map told rows) (told row ∷ []))
      ∙ ap tokens_of_all (sym (map-append told rows (row ∷ [])))

  pub one_more : {old so_far new : Body} (rows : List A) (i : ℕ) (d : A) → i < length rows
      → Adds old so_far (begin_array ∷ tokens_of_all (map told (take i rows))) → Adds so_far new (tokens_of (told (get_or rows i d)))
      → Adds old new (begin_array ∷ tokens_of_all (map told (take (i + 1) rows)))
  one_more rows i d within is here =
      same begun (one_behind (take i rows) (get_or rows i d) ∙ ap (λ (xs : List A). tokens_of_all (map told xs)) (sym (take_more rows i d within))) (is ▸ here)

  pub all : {old new : Body} (rows : List A) (i : ℕ) → length rows ≤ i
      → Adds old new (begin_array ∷ tokens_of_all (map told (take i rows))) → Adds old new (begin_array ∷ tokens_of_all (map told rows))
  all rows i past is = same (λ (xs : List A). begin_array ∷ tokens_of_all (map told xs)) (take_all i rows past) is

-- between its brackets it is an array
pub bracketed : {old all new : Body} (trees : List Data) → Adds old all (begin_array ∷ tokens_of_all trees) → Adds all new (end_array ∷ [])
    → Adds old new (tokens_of (array (items_of trees)))
bracketed trees inside ends = same begun (sym (items_are trees)) (inside ▸ ends)

-- what comes first is all that is written
pub first_tree : (old new : Body) (tree : Data) → IsBlank old → Adds old new (tokens_of tree) → IsTree new tree
first_tree old new tree blank adds whole =
    let is = adds.whole whole in (is.1 ∙ blank.0, is.2 ∙ ap (λ (ts : List Token). ts ++ tokens_of tree) blank.1)
