use Rattle.std.proofs.Common.{◌∙◌, ◌+◌, sym, subst}
use Rattle.std.proofs.lemmas.Bool.{ltb-false, ltb-true}
use Rattle.ox_gated.specs.Opened.{IsFault}
use Rattle.ox_gated.specs.Reading.{is_present, reading}
use Rattle.ox_gated.specs.declared.fault.GateFault.{GateFault}
use Rattle.ox_gated.proofs.PartsRead.{are_parts, cut_body}
use Rattle.ox_gated.proofs.parts.parts_of.Goals as goal

pub returns-then-is_cut-clause-not_store : goal.returns-then-is_cut-clause-not_store
returns-then-is_cut-clause-not_store c files is =
    let e = c.args.examined in
    let short = ltb-true e.front.len (90 + e.opening.size) (sym c.is_cut.ensures ∙ c.if-is_cut.true) in
    subst (λ (f : GateFault). IsFault (reading is_present files) f) (sym c.refused_at.ensures) (cut_body e files is c.requires.version short)

pub returns-clause-begun : goal.returns-clause-begun
returns-clause-begun c files is =
    let e = c.args.examined in
    are_parts e files is c.requires.version (ltb-false e.front.len (90 + e.opening.size) (sym c.is_cut.ensures ∙ c.if-is_cut.false))
