-- The index of a chain: fresh indexing of its blocks, from none on.
use Rattle.std.specs.Prelude.{ℕ, List, fold, Result, Ok, Err}
use Rattle.ox_sat.specs.declared.profiles.Profile.{Profile}
use Rattle.ox_rules.specs.declared.refusal.Refusal.{Refusal}
use Rattle.ox_model.specs.Index.{Index, no_blocks}
use Rattle.ox_model.specs.Step.{step}

-- the new index where there is one
abbrev pub kept_index : Index → Result Index Refusal → Index
kept_index old (Ok new) = new
kept_index old (Err refusal) = old

-- the index after these bytes; where they are refused it is as before
abbrev pub after_block : Profile → Index → List ℕ → Index
after_block p index bytes = kept_index index (step p index bytes)

abbrev pub index_of : Profile → List (List ℕ) → Index
index_of p blocks = fold (after_block p) (no_blocks p) blocks
