use Rattle.std.proofs.Common.{◌≡◌, ◌++◌, drop}
use Rattle.std.specs.Prelude.{map}
use Rattle.ox_ledger.specs.Ledger.{runes_in}
use Rattle.ox_index.specs.Audits.{audit_of_rune}
use Rattle.ox_index.proofs.audit.audits_of.Given as goal

-- with those that are left they are all
abbrev pub invariant-loop-n : goal.invariant-loop-n
invariant-loop-n l =
    l.audits ++ map (audit_of_rune (runes_in l.ledger).bal) (drop l.n (runes_in l.ledger).runes) ≡ map (audit_of_rune (runes_in l.ledger).bal) (runes_in l.ledger).runes
