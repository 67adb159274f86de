use Rattle.std.proofs.Common.{◌∙◌, ap, refl, sym}
use Rattle.std.proofs.lemmas.Result.{err_from_is_err_and}
use Rattle.std.specs.Prelude.{Err}
use Rattle.ox_index.specs.Chain.{stack_in}
use Rattle.ox_store.proofs.Exits.{no_fault, same_fault}
use Rattle.ox_store.proofs.TurningLemmas.{goes_as, goes_pouring, goes_then, memory_is, stands_alike, stands_then}
use Rattle.ox_store.proofs.WritingLemmas.{file_of_stack}
use Rattle.ox_store.proofs.turning.turn.Goals as goal

pub returns-in_err-filling-clause-goes : goal.returns-in_err-filling-clause-goes
returns-in_err-filling-clause-goes g c =
    let p = err_from_is_err_and c.from_residual.result c.from_residual.ensures.1 in
    rw p.1 (c.in_err-filling.ensures.goes (stack_in c.args.chain.now))

-- ---- where the body is put

pub returns-in_err-tail-in-Ok-clause-goes : goal.returns-in_err-tail-in-Ok-clause-goes
returns-in_err-tail-in-Ok-clause-goes g c =
    let left = c.from_residual-in_err-tail-in-Ok.result in
    let p = err_from_is_err_and left c.from_residual-in_err-tail-in-Ok.ensures.1 in
    let stack = stack_in c.args.chain.now in
    let first = c.in_ok-filling.ensures in
    let next = c.in-Ok.ensures in
    let leads = file_of_stack c.args.head.now stack next.taken.0 (record { head = c.args.head.now; body = next.taken.0 }) c.requires.names next.taken.2 refl in
    let both = goes_then g.S.Site stack g.met.S.Site.logs_now ⊥ _ c.args.site.now c.begin.new.site c.put_stack.new.site (first.goes stack) (λ no. no) (first.stands stack) (next.goes stack) in
    let stands = stands_then g.S.Site stack g.met.S.Site.logs_now ⊥ c.args.site.now c.begin.new.site c.put_stack.new.site (first.goes stack) (first.stands stack) (next.stands stack) in
    rw p.1 (goes_then g.S.Site stack g.met.S.Site.logs_now _ _ c.args.site.now c.put_stack.new.site c.open_filled.new.site both (λ is. no_fault _ _ is) stands (c.in_err-tail-in-Ok.ensures.goes next.taken.0 next.taken.1 stack leads))

pub returns-in_ok-tail-in-Ok-clause-holds : goal.returns-in_ok-tail-in-Ok-clause-holds
returns-in_ok-tail-in-Ok-clause-holds g c told =
    let stack = stack_in c.args.chain.now in
    c.in_ok-tail-in-Ok.ensures.holds ((c.in-Ok.ensures.goes stack).writes.calls.as_told ∙ (c.in_ok-filling.ensures.goes stack).writes.calls.as_told ∙ told)

pub returns-in_ok-tail-in-Ok-clause-stands : goal.returns-in_ok-tail-in-Ok-clause-stands
returns-in_ok-tail-in-Ok-clause-stands g c told is =
    let stack = stack_in c.args.chain.now in
    let first = c.in_ok-filling.ensures in
    let next = c.in-Ok.ensures in
    let leads = file_of_stack c.args.head.now stack next.taken.0 (record { head = c.args.head.now; body = next.taken.0 }) c.requires.names next.taken.2 refl in
    let stands = stands_then g.S.Site stack g.met.S.Site.logs_now ⊥ c.args.site.now c.begin.new.site c.put_stack.new.site (first.goes stack) (first.stands stack) (next.stands stack) in
    c.in_ok-tail-in-Ok.ensures.stands next.taken.0 next.taken.1 stack leads ((next.goes stack).writes.calls.as_told ∙ (first.goes stack).writes.calls.as_told ∙ told) (stands told is)

pub returns-in_ok-tail-in-Ok-clause-goes : goal.returns-in_ok-tail-in-Ok-clause-goes
returns-in_ok-tail-in-Ok-clause-goes g c =
    let stack = stack_in c.args.chain.now in
    let first = c.in_ok-filling.ensures in
    let next = c.in-Ok.ensures in
    let leads = file_of_stack c.args.head.now stack next.taken.0 (record { head = c.args.head.now; body = next.taken.0 }) c.requires.names next.taken.2 refl in
    let both = goes_then g.S.Site stack g.met.S.Site.logs_now ⊥ _ c.args.site.now c.begin.new.site c.put_stack.new.site (first.goes stack) (λ no. no) (first.stands stack) (next.goes stack) in
    let stands = stands_then g.S.Site stack g.met.S.Site.logs_now ⊥ c.args.site.now c.begin.new.site c.put_stack.new.site (first.goes stack) (first.stands stack) (next.stands stack) in
    goes_then g.S.Site stack g.met.S.Site.logs_now _ ⊥ c.args.site.now c.put_stack.new.site c.open_filled.new.site both (λ is. no_fault _ _ is) stands (c.in_ok-tail-in-Ok.ensures.goes next.taken.0 next.taken.1 stack leads)

-- ---- where there is no memory for it

pub give_up-requires : goal.give_up-requires
give_up-requires g c told = c.in-Err-Memory.ensures.shut (sym (c.in-Err-Memory.ensures.goes (stack_in c.args.chain.now)).writes.calls.as_told ∙ told)

pub returns-in_err-tail-in-Err-Memory-clause-goes : goal.returns-in_err-tail-in-Err-Memory-clause-goes
returns-in_err-tail-in-Err-Memory-clause-goes g c =
    let left = c.from_residual-in_err-tail-in-Err-Memory.result in
    let p = err_from_is_err_and left c.from_residual-in_err-tail-in-Err-Memory.ensures.1 in
    let stack = stack_in c.args.chain.now in
    let first = c.in_ok-filling.ensures in
    let next = c.in-Err-Memory.ensures in
    let last = c.in_err-tail-in-Err-Memory.ensures in
    let both = goes_then g.S.Site stack g.met.S.Site.logs_now ⊥ _ c.args.site.now c.begin.new.site c.put_stack.new.site (first.goes stack) (λ no. no) (first.stands stack) (next.goes stack) in
    let stands = stands_then g.S.Site stack g.met.S.Site.logs_now ⊥ c.args.site.now c.begin.new.site c.put_stack.new.site (first.goes stack) (first.stands stack) (next.stands stack) in
    rw p.1 (goes_then g.S.Site stack g.met.S.Site.logs_now _ _ c.args.site.now c.put_stack.new.site c.give_up.new.site both (λ is. memory_is g.S.Site _ c.in-Err-Memory.field-0-is (same_fault _ _ is)) stands
    (goes_pouring g.S.Site stack c.put_stack.new.filling.tail _ c.put_stack.new.site c.give_up.new.site last.pours last.counted (λ failed. last.failed)))

pub returns-in_ok-tail-in-Err-Memory-clause-holds : goal.returns-in_ok-tail-in-Err-Memory-clause-holds
returns-in_ok-tail-in-Err-Memory-clause-holds g c told =
    let stack = stack_in c.args.chain.now in
    c.in_ok-tail-in-Err-Memory.ensures.holds ((c.in-Err-Memory.ensures.goes stack).writes.calls.as_told ∙ (c.in_ok-filling.ensures.goes stack).writes.calls.as_told ∙ told)

pub returns-in_ok-tail-in-Err-Memory-clause-stands : goal.returns-in_ok-tail-in-Err-Memory-clause-stands
returns-in_ok-tail-in-Err-Memory-clause-stands g c told is =
    let stack = stack_in c.args.chain.now in
    let first = c.in_ok-filling.ensures in
    let next = c.in-Err-Memory.ensures in
    let stands = stands_then g.S.Site stack g.met.S.Site.logs_now ⊥ c.args.site.now c.begin.new.site c.put_stack.new.site (first.goes stack) (first.stands stack) (next.stands stack) in
    stands_alike (g.S.Site.seen c.put_stack.new.site) (g.S.Site.seen c.give_up.new.site) stack
    (c.in_ok-tail-in-Err-Memory.ensures.pours.alike ((next.goes stack).writes.calls.as_told ∙ (first.goes stack).writes.calls.as_told ∙ told)) (stands told is)

pub returns-in_ok-tail-in-Err-Memory-clause-goes : goal.returns-in_ok-tail-in-Err-Memory-clause-goes
returns-in_ok-tail-in-Err-Memory-clause-goes g c =
    let stack = stack_in c.args.chain.now in
    let first = c.in_ok-filling.ensures in
    let next = c.in-Err-Memory.ensures in
    let last = c.in_ok-tail-in-Err-Memory.ensures in
    let both = goes_then g.S.Site stack g.met.S.Site.logs_now ⊥ _ c.args.site.now c.begin.new.site c.put_stack.new.site (first.goes stack) (λ no. no) (first.stands stack) (next.goes stack) in
    let stands = stands_then g.S.Site stack g.met.S.Site.logs_now ⊥ c.args.site.now c.begin.new.site c.put_stack.new.site (first.goes stack) (first.stands stack) (next.stands stack) in
    goes_then g.S.Site stack g.met.S.Site.logs_now _ ⊥ c.args.site.now c.put_stack.new.site c.give_up.new.site both (λ is. memory_is g.S.Site _ c.in-Err-Memory.field-0-is (same_fault _ _ is)) stands
    (goes_pouring g.S.Site stack c.put_stack.new.filling.tail ⊥ c.put_stack.new.site c.give_up.new.site last.pours last.counted (λ no. absurd no))

-- ---- where the disk failed

pub returns-in-Err-Disk-clause-goes : goal.returns-in-Err-Disk-clause-goes
returns-in-Err-Disk-clause-goes g c =
    let stack = stack_in c.args.chain.now in
    let first = c.in_ok-filling.ensures in
    let next = c.in-Err-Disk.ensures in
    goes_as g.S.Site stack _ (Unit {0}) c.args.site.now c.put_stack.new.site (λ is. tt) (λ is. ap Err c.in-Err-Disk.field-0-is)
    (goes_then g.S.Site stack g.met.S.Site.logs_now ⊥ _ c.args.site.now c.begin.new.site c.put_stack.new.site (first.goes stack) (λ no. no) (first.stands stack) (next.goes stack))
