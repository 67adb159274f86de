-- The place that is counted is that of the tapscript.
use Rattle.std.proofs.Common.{◌≡◌, ℕ, ◌+◌, ◌-◌, Bool, true, false, List, [], ◌∷◌, ◌++◌, length, refl, sym, ap, ◌∙◌, arith, Some}
use Rattle.std.proofs.Common.{◌≤◌}
use Rattle.std.proofs.lemmas.Bool.{le-leb}
use Rattle.std.specs.Prelude.{reverse, slice_get}
use Rattle.std.proofs.lemmas.List.{reverse-append, reverse-reverse, length-reverse, append_assoc}
use Rattle.ox_script.specs.Witness.{begins_annex, drop_annex, script_before, tapscript, tapscript_place, item_at}

slice_get_at : {X : Type 0} (front : List X) (x : X) (back : List X) → slice_get (front ++ x ∷ back) (length front) ≡ Some x
slice_get_at [] x back = refl
slice_get_at (y ∷ front) x back = slice_get_at front x back

-- without the annex, of three items or more
place_with_annex : (items : ℕ) (last : List ℕ) → 3 ≤ items → begins_annex last ≡ true → tapscript_place items last ≡ Some (items - 3)
place_with_annex items last enough is =
    let two : 2 ≤ items = omega arith in
    let left : 2 ≤ items - 1 = omega arith in
    let place : items - 1 - 2 ≡ items - 3 = omega arith in
    rw (le-leb 2 items two, is, le-leb 2 (items - 1) left) (ap Some place)

-- without one
place_without_annex : (items : ℕ) (last : List ℕ) → 2 ≤ items → begins_annex last ≡ false → tapscript_place items last ≡ Some (items - 2)
place_without_annex items last enough is = rw (le-leb 2 items enough, is, le-leb 2 items enough) refl

-- the items before the last, given from the last of them to the first, and the annex or the control block
place_of : (last : List ℕ) (items : List (List ℕ)) (annex : Bool) → begins_annex last ≡ annex
    → script_before (drop_annex (last ∷ items)) ≡ item_at (reverse items ++ last ∷ []) (tapscript_place (length items + 1) last)
place_of last [] annex is = refl
place_of last (x ∷ []) true is = rw is refl
place_of last (x ∷ items) false is =
    let count : length (x ∷ items) + 1 - 2 ≡ length (reverse items) = omega (arith, length-reverse items) in
    let place = place_without_annex (length (x ∷ items) + 1) last (omega arith) is ∙ ap Some count in
    let turned = ap (λ front. front ++ last ∷ []) (reverse-append (x ∷ []) items) ∙ append_assoc (reverse items) (x ∷ []) (last ∷ []) in
    let found = ap (λ all. slice_get all (length (reverse items))) turned ∙ slice_get_at (reverse items) x (last ∷ []) in
    let first : script_before (drop_annex (last ∷ x ∷ items)) ≡ Some x = rw is refl in
    first ∙ sym (ap (item_at (reverse (x ∷ items) ++ last ∷ [])) place ∙ found)
place_of last (x ∷ y ∷ items) true is =
    let count : length (x ∷ y ∷ items) + 1 - 3 ≡ length (reverse items) = omega (arith, length-reverse items) in
    let place = place_with_annex (length (x ∷ y ∷ items) + 1) last (omega arith) is ∙ ap Some count in
    let turned = ap (λ front. front ++ last ∷ []) (reverse-append (x ∷ y ∷ []) items) ∙ append_assoc (reverse items) (y ∷ x ∷ []) (last ∷ []) in
    let found = ap (λ all. slice_get all (length (reverse items))) turned ∙ slice_get_at (reverse items) y (x ∷ last ∷ []) in
    let first : script_before (drop_annex (last ∷ x ∷ y ∷ items)) ≡ Some y = rw is refl in
    first ∙ sym (ap (item_at (reverse (x ∷ y ∷ items) ++ last ∷ [])) place ∙ found)

pub tapscript-place : (before : List (List ℕ)) (last : List ℕ) → tapscript (before ++ last ∷ []) ≡ item_at (before ++ last ∷ []) (tapscript_place (length before + 1) last)
tapscript-place before last =
    let turned = ap (λ items. script_before (drop_annex items)) (reverse-append before (last ∷ [])) in
    let same = place_of last (reverse before) (begins_annex last) refl in
    turned ∙ same ∙ rw (reverse-reverse before, length-reverse before) refl
