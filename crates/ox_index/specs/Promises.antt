-- What taking a block in promises.
use Rattle.std.specs.Prelude.{◌≡◌, Some, None, Result, Ok, IfOk, IfErr, OnOk, OnErr}
use Rattle.ox_sat.specs.declared.profiles.Profile.{Profile}
use Rattle.ox_rules.specs.Why.{Refuses}
use Rattle.ox_rules.specs.declared.refusal.Refusal.{Refusal}
use Rattle.ox_rules.specs.declared.why.Why.{Why}
use Rattle.ox_model.specs.Change.{IsChange}
use Rattle.ox_model.specs.Index.{Index}
use Rattle.ox_model.specs.declared.change.Change.{Change}
use Rattle.ox_index.specs.Live.{index_in, marked_in, profile_in}
use Rattle.ox_index.specs.declared.live.Live.{Live}

-- Of an index before it and of what the definition makes of the block, whichever way it ends.
pub record BlockPromises (result : Result Change Why) (wanted : Result Index Refusal)
    (p : Profile) (before : Index) (after : Live) : Type 0 where
  pub ok : OnOk result (wanted ≡ Ok (index_in after))
  pub change : IfOk result (IsChange before (index_in after))
  pub refused : IfErr result (λ fault. Refuses fault wanted)
  pub err : OnErr result (index_in after ≡ before)
  pub mark : OnOk result (marked_in after ≡ Some before)
  pub no_mark : OnErr result (marked_in after ≡ None)
  pub profile : profile_in after ≡ p
