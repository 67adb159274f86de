use Rattle.ox_store.proofs.PartsLemmas.{StoodSince}
use Rattle.ox_store.proofs.parts.stand_on_records.Given as goal

-- the records so far led to what stands, and no call failed
abbrev pub invariant-loop : goal.invariant-loop
invariant-loop g l = StoodSince g.S.Site l.fn.site l.stood.walker l.stood.standing l.site
