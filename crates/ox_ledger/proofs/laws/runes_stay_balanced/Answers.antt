use Rattle.ox_allocation.proofs.LawLemmas.{lost_or_made}
use Rattle.ox_ledger.proofs.BlockStays.{block_balanced, nothing_due}
use Rattle.ox_ledger.proofs.StartBalanced.{start_balanced}
use Rattle.ox_ledger.proofs.StaysBalanced.{stays_balanced}
use Rattle.ox_ledger.proofs.laws.runes_stay_balanced.Goals as goal

pub returns : goal.returns
returns c = record { start = start_balanced; turn = stays_balanced lost_or_made; block = block_balanced lost_or_made; due = nothing_due }
