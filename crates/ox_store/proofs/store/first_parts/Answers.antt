use Rattle.std.proofs.Common.{◌∙◌, ap, subst, sym}
use Rattle.ox_index.specs.Chain.{stack_in}
use Rattle.ox_model.specs.Machine.{empty_machine, stack_of}
use Rattle.ox_sat.specs.declared.profiles.Profile.{Profile}
use Rattle.ox_store.specs.Heads.{Names}
use Rattle.ox_store.proofs.HeadLemmas.{names_first}
use Rattle.ox_store.proofs.store.first_parts.Goals as goal

pub file_of-requires : goal.file_of-requires
file_of-requires c =
    let named = c.profile_of-profile.ensures.value in
    let stack = stack_in c.in_ok-chain.chain in
    subst (λ (p : Profile). Names (record { version = 2; profile = p.byte; depth = c.args.depth; generation = 1 }) stack) (sym named)
    (names_first c.args.name c.args.depth stack c.requires.0 c.requires.1 (c.in_ok-chain.ensures ∙ ap (λ (p : Profile). stack_of (empty_machine p c.args.depth)) named))
