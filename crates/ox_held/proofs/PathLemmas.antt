-- Which part of a path stands for an address, and which script that has.
use Rattle.std.proofs.Common.{◌≡◌, ◌∙◌, ℕ, Bool, true, false, cond, nat_eq, IsUtf8, List, ◌++◌, codes, drop, length, take, refl, sym, ap, Option, Some, None, option_map}
use Rattle.std.specs.Cmp.Lexicographic.{bytes_decides}
use Rattle.std.specs.List.{starts_with}
use Rattle.std.specs.Str.{is_utf8}
use Rattle.std.proofs.lemmas.Bool.{and_parts}
use Rattle.std.proofs.lemmas.List.{take-append-drop}
use Rattle.std.proofs.lemmas.Str.{IsUtf8-from_is_utf8}
use Rattle.ox_address.specs.Address.{IsAddress, IsHrp}
use Rattle.ox_address.specs.Spelled.{script_in}
use Rattle.ox_address.proofs.SpelledLaws.{is_found}
use Rattle.ox_routes.specs.Table.{is_part, route_and_part, route_taken, row_of, takes}
use Rattle.ox_routes.specs.declared.route.Route.{Route}
use Rattle.ox_held.specs.Paths.{address_part, address_row, part_behind}

-- what isn't UTF-8 has no such part
pub no_text : (path : List ℕ) → (IsUtf8 path → ⊥) → address_part path ≡ None
no_text path not_text = by (is_utf8 path) refl where
  by : (b : Bool) → is_utf8 path ≡ b → cond b (part_behind path) None ≡ None
  by true is = absurd (not_text (IsUtf8-from_is_utf8 path is))
  by false is = refl

-- a text that is no script's address has none
pub no_script : (hrp text : List ℕ) → IsHrp hrp → ((script : List ℕ) → IsAddress hrp script text → ⊥) → script_in hrp text ≡ None
no_script hrp text lawful none = by (script_in hrp text) refl where
  by : (found : Option (List ℕ)) → script_in hrp text ≡ found → found ≡ None
  by None is = refl
  by (Some script) is = absurd (none script ((is_found hrp script text lawful).0 is))

pub its_script : (hrp script text : List ℕ) → IsHrp hrp → IsAddress hrp script text → script_in hrp text ≡ Some script
its_script hrp script text lawful is = (is_found hrp script text lawful).1 is

-- ---- no route

behind : (path : List ℕ) → takes address_row path ≡ true → path ≡ codes "/address/" ++ drop 9 path
behind path taken =
    let begins = (and_parts (starts_with nat_eq path (codes "/address/")) (is_part (drop 9 path)) taken).0 in
    sym (take-append-drop 9 path) ∙ ap (λ (front : List ℕ). front ++ drop 9 path) (sym ((bytes_decides (codes "/address/") (take 9 path)).0 begins))

no_route : (rest : List ℕ) → route_taken (codes "/address/" ++ rest) ≡ None
unfolding route_taken
no_route rest = refl

abbrev with_part : List ℕ → Route → Route × List ℕ
with_part path route = (route, drop (length (row_of route).text) path)

without_route : (path : List ℕ) → route_taken path ≡ None → route_and_part path ≡ None
without_route path none = by (is_utf8 path) where
  by : (b : Bool) → cond b (option_map (with_part path) (route_taken path)) None ≡ None
  by true = ap (option_map (with_part path)) none
  by false = refl

pub address_apart : (path part : List ℕ) → address_part path ≡ Some part → route_and_part path ≡ None
address_apart path part is = by (is_utf8 path) is where
  taken : (b : Bool) → takes address_row path ≡ b → cond b (Some (drop 9 path)) None ≡ Some part → route_and_part path ≡ None
  taken true is e = without_route path (ap route_taken (behind path is) ∙ no_route (drop 9 path))
  taken false is e = absurd (let no : None ≡ Some part = e in cc no)

  by : (b : Bool) → cond b (part_behind path) None ≡ Some part → route_and_part path ≡ None
  by true e = taken (takes address_row path) refl e
  by false e = absurd (let no : None ≡ Some part = e in cc no)
