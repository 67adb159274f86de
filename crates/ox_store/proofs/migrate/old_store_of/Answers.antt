use Rattle.std.proofs.Common.{subst, sym}
use Rattle.ox_gated.specs.declared.head.Head.{Head}
use Rattle.ox_index.specs.Chain.{stack_in}
use Rattle.ox_store.specs.Heads.{Names}
use Rattle.ox_store.proofs.HeadLemmas.{names_next}
use Rattle.ox_store.proofs.OldStores.{names_migrated}
use Rattle.ox_store.proofs.migrate.old_store_of.Goals as goal

pub next_file-requires-clause-names : goal.next_file-requires-clause-names
next_file-requires-clause-names c =
    let opened = c.args.opened in
    names_migrated opened.head opened.body opened.records (stack_in c.in-Ok.chain) c.requires.lawful c.in-Ok.ensures.stack

pub returns-clause-names : goal.returns-clause-names
returns-clause-names c =
    let opened = c.args.opened in
    let stack = stack_in c.in-Ok.chain in
    let head : Head = record { version = 2; profile = opened.head.profile; depth = opened.head.depth; generation = opened.head.generation } in
    subst (λ (h : Head). Names h stack) (sym c.in-Ok-next_file.ensures.head)
    (names_next head stack (names_migrated opened.head opened.body opened.records stack c.requires.lawful c.in-Ok.ensures.stack))
