-- What is asked of an index, older indexes and the changes that lead down to these.
use Rattle.std.proofs.Common.{◌≡◌, ◌∙◌, ℕ, suc, List, [], ◌∷◌, length, refl, ap}
use Rattle.ox_sat.specs.declared.profiles.Profile.{Profile}
use Rattle.ox_model.specs.Ends.{LeadDown, older_by}
use Rattle.ox_model.specs.Index.{Index}
use Rattle.ox_model.specs.declared.about.About.{About}
use Rattle.ox_model.specs.declared.change.Change.{Change}
use Rattle.ox_model.proofs.Changes.{goes_undone}
use Rattle.ox_query.specs.Asked.{asked_of}
use Rattle.ox_asof.specs.AskedKept.{kept_of}

pub older_are : (index : Index) (older : List Index) (changes : List Change) → LeadDown index older changes → older_by index changes ≡ older
older_are index [] [] lead = refl
older_are index [] (change ∷ changes) lead = absurd lead
older_are index (before ∷ older) [] lead = absurd lead
older_are index (before ∷ older) (change ∷ changes) lead =
    ap (λ (i : Index). i ∷ older_by i changes) (goes_undone before index change lead.0)
    ∙ ap (λ (l : List Index). before ∷ l) (older_are before older changes lead.1)

pub as_many : (index : Index) (older : List Index) (changes : List Change) → LeadDown index older changes → length older ≡ length changes
as_many index [] [] lead = refl
as_many index [] (change ∷ changes) lead = absurd lead
as_many index (before ∷ older) [] lead = absurd lead
as_many index (before ∷ older) (change ∷ changes) lead = ap suc (as_many before older changes lead.1)

pub kept_same : (p q : Profile) (index now : Index) (about : About) (depth : ℕ) (older : List Index) (changes : List Change) → p ≡ q → index ≡ now → about.depth ≡ depth → about.kept ≡ length older
    → LeadDown now older changes
    → kept_of (asked_of p index about) changes ≡ record { first = record { profile = q; index = now; depth = depth; kept = length older }; older = older }
kept_same p q index now about depth older changes of_p of_index deep many lead =
    let olds : older_by index changes ≡ older = ap (λ (i : Index). older_by i changes) of_index ∙ older_are now older changes lead in
    λ i. record { first = record { profile = of_p i; index = of_index i; depth = deep i; kept = many i }; older = olds i }
