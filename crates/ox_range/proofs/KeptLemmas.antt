use Rattle.std.proofs.Common.{◌≡◌, ℕ, ◌+◌, ◌-◌, ◌^◌, ◌<◌, ◌≤◌, ◌==◌, Bool, true, true≢false, inl, inr, List, [], ◌∷◌, ◌++◌, length, get_or, drop, sym, subst, ap, ap₂, ◌∙◌, arith, length-append, length-drop}
use Rattle.std.proofs.lemmas.Bool.{cases_eq, ne_eqb}
use Rattle.std.proofs.lemmas.List.{drop_more, drop_all}
use Rattle.ox_range.specs.declared.runs.Run.{Run}
use Rattle.ox_range.specs.declared.few.Runs.TheVariants.{Empty, One}
use Rattle.ox_range.specs.Few.{IsKept}
use Rattle.ox_range.specs.Runs.{numbers_of, AreMaximal, AreRunsOf}
use Rattle.ox_range.proofs.RunLemmas.{zero_run, kept_none}
use Rattle.ox_range.proofs.CutLemmas.{length-one}

pub kept_empty : IsKept Empty
kept_empty = record { are_runs = kept_none; compact = tt }

-- one run, with its own count
pub alone_count : (r : Run) (n : ℕ) → AreRunsOf (r ∷ []) n → r.count ≡ n
alone_count r n kept = sym (length-one r) ∙ kept.len

pub kept_alone : (r : Run) (n : ℕ) → AreRunsOf (r ∷ []) n → IsKept (One r)
kept_alone r n kept = record {
  are_runs = record {
    maximal = kept.maximal;
    len = length-one r;
    fits = omega (arith, alone_count r n kept, kept.fits);
  };
  compact = tt;
}

-- runs of which there is one
pub alone_of : (runs : List Run) (n : ℕ) → AreRunsOf runs n → 0 < length runs → length runs ≤ 1 → AreRunsOf (get_or runs 0 zero_run ∷ []) n
alone_of runs n kept some few =
    let one : runs ≡ get_or runs 0 zero_run ∷ [] = drop_more runs 0 zero_run some ∙ ap (λ (rs : List Run). get_or runs 0 zero_run ∷ rs) (drop_all 1 runs few) in
    subst (λ (rs : List Run). AreRunsOf rs n) one kept

-- a run with none behind it
pub alone_first : (r : Run) (runs : List Run) (n : ℕ) → AreRunsOf (r ∷ runs) n → length runs ≡ 0 → AreRunsOf (r ∷ []) n
alone_first r runs n kept none =
    let same : runs ≡ [] = drop_all 0 runs (omega (arith, none)) in
    subst (λ (rs : List Run). AreRunsOf (r ∷ rs) n) same kept

pub no_items : (runs : List Run) (b : Bool) → b ≡ (length runs == 0) → b ≡ true → length runs ≡ 0
no_items runs b is on =
    elim (cases_eq (length runs) 0) [
      | inl none ↦ none
      | inr some ↦ absurd (true≢false (sym on ∙ is ∙ ne_eqb (length runs) 0 some))
    ]

-- runs of which the numbers are those of two lists
pub kept_joined : (runs tail new : List Run) (n m : ℕ) → AreRunsOf runs n → AreRunsOf tail m → n + m < 2 ^ 64 → AreMaximal new → numbers_of new ≡ numbers_of runs ++ numbers_of tail → AreRunsOf new (n + m)
kept_joined runs tail new n m a b fits maximal numbers = record {
  maximal = maximal;
  len = ap length numbers ∙ length-append (numbers_of runs) (numbers_of tail) ∙ ap₂ (λ (x y : ℕ). x + y) a.len b.len;
  fits = fits;
}

-- runs of which the numbers are a list's last
pub kept_rest : (runs new : List Run) (n place : ℕ) → AreRunsOf runs n → place ≤ n → AreMaximal new → numbers_of new ≡ drop place (numbers_of runs) → AreRunsOf new (n - place)
kept_rest runs new n place a within maximal numbers = record {
  maximal = maximal;
  len = ap length numbers ∙ length-drop place (numbers_of runs) ∙ ap (λ (x : ℕ). x - place) a.len;
  fits = omega (arith, a.fits, within);
}

-- runs that are read from a list's
pub kept_copy : (runs items : List Run) (sats : List ℕ) (n : ℕ) → items ≡ runs → AreMaximal runs → numbers_of runs ≡ sats → n ≡ length sats → n < 2 ^ 64 → AreRunsOf items n
kept_copy runs items sats n same maximal numbers count fits = record {
  maximal = rw same maximal;
  len = ap (λ (rs : List Run). length (numbers_of rs)) same ∙ ap length numbers ∙ sym count;
  fits = fits;
}
