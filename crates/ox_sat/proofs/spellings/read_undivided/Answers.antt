use Rattle.std.proofs.Common.{◌≡◌, sym, ◌∙◌, arith}
use Rattle.std.proofs.lemmas.Fmt.{decimal_injective}
use Rattle.ox_sat.proofs.Epochs.{counts}
use Rattle.ox_sat.proofs.Numbers.{if_none}
use Rattle.ox_sat.proofs.spellings.read_undivided.Goals.{in_default-via-in-Some+else-sat-p, in_default-via-in_default}
use Rattle.ox_sat.proofs.spellings.read_undivided.Goals as goal

pub returns-in_default-clause-number : goal.returns-in_default-clause-number
returns-in_default-clause-number c =
    let known = counts c.args.p.now c.requires in
    if_none c.read_name.result _ (λ sat number.
    elim c.in_default.branch [
      | in_default-via-in-Some+else-sat-p w ↦
          let same : w.in-Some.sat ≡ sat = decimal_injective w.in-Some.sat sat w.in-Some.ensures.small (omega (arith, number.minted, known.few)) (sym w.in-Some.ensures.reads ∙ number.digits) in
          absurd (omega (arith, same, w.if-sat-p.false, number.minted))
      | in_default-via-in_default w ↦ w.in_default.ensures.none sat (omega (arith, number.minted, known.few)) number.digits
    ])

pub returns-in_default-clause-name : goal.returns-in_default-clause-name
returns-in_default-clause-name c = rw c.as_bytes.ensures.value at c.read_name.ensures.none
