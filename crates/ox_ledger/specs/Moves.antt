-- States between which a part leads.
use Rattle.std.specs.Prelude.{◌≡◌, []}
use Rattle.ox_ledger.specs.Balanced.{Balanced}
use Rattle.ox_ledger.specs.Part.{Continues, IsPart, RunePart}
use Rattle.ox_ledger.specs.Runes.{Runes}

-- a part leads from one state to a later one, and nothing is due in either
pub record Leads (before after : Runes) (part : RunePart) : Type 0 where
  pub continues : Continues before.runes after.runes
  pub undue_before : before.due ≡ []
  pub undue_after : after.due ≡ []
  pub is : IsPart before after part

-- a part begins in a state, and leads to one that is balanced
pub record Begins (part : RunePart) (before : Runes) : Type 0 where
  pub after : Runes
  pub leads : Leads before after part
  pub balanced : Balanced after

-- a part ends in a state, and leads from one that is balanced
pub record Ends (part : RunePart) (after : Runes) : Type 0 where
  pub before : Runes
  pub leads : Leads before after part
  pub balanced : Balanced before
