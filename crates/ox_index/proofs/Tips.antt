-- The line of the newest block is the one that the index gives.
use Rattle.std.proofs.Common.{◌≡◌, ◌-◌, ℕ, List, [], ◌∷◌, length, refl, arith}
use Rattle.std.proofs.lemmas.Bool.Decides.{nat_tests}
use Rattle.std.proofs.lemmas.Option.{slice_get-get_or}
use Rattle.std.specs.Prelude.{false, option_map, slice_get, ◌==◌}
use Rattle.ox_rules.specs.Newest.{zero_hash}
use Rattle.ox_rules.specs.Text.{ok_text, tip_line}

some_first : (h : List ℕ) (t : List (List ℕ)) → (length (h ∷ t) == 0) ≡ false
some_first h t = grind (arith, nat_tests)

pub tip_says : (hashes : List (List ℕ)) → tip_line (option_map (λ hash. (length hashes - 1, hash)) (slice_get hashes (length hashes - 1))) ≡ ok_text hashes
unfolding ok_text
tip_says [] = refl
tip_says (h ∷ t) = rw (some_first h t, slice_get-get_or (h ∷ t) (length (h ∷ t) - 1) zero_hash (omega arith)) refl
