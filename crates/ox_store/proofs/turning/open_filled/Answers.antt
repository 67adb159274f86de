use Rattle.std.proofs.Common.{◌≡◌, ◌∙◌, [], sym, ap, subst}
use Rattle.std.specs.Prelude.{Ok}
use Rattle.std.proofs.lemmas.Result.{IfOk-weaker, err_from_is_err_and, on_ok_weaker}
use Rattle.ox_outside.specs.Counts.{IsFailure}
use Rattle.ox_outside.specs.Files.{other}
use Rattle.ox_gated.specs.OtherFile.{KeptBoth, filled_with}
use Rattle.ox_gated.specs.Tail.{Kept}
use Rattle.ox_gated.specs.declared.head.Head.{Head}
use Rattle.ox_files.specs.Stands.{stack_in_file}
use Rattle.ox_store.proofs.Exits.{on_ok_later, rose_at}
use Rattle.ox_store.proofs.TurningLemmas.{goes_opening, goes_pouring, goes_then, stands_alike, stands_new}
use Rattle.ox_store.proofs.turning.open_filled.Goals as goal

pub open_other-requires : goal.open_other-requires
open_other-requires g c told =
    let first = c.in_ok-filled.ensures in
    let was = sym first.pours.writes.calls.as_told ∙ told in
    (c.requires.taken.0, first.holds was c.requires.taken.0 c.requires.taken.1)

pub returns-in_err-filled-clause-goes : goal.returns-in_err-filled-clause-goes
returns-in_err-filled-clause-goes g c body taken stack is =
    let p = err_from_is_err_and c.from_residual.result c.from_residual.ensures.1 in
    let first = c.in_err-filled.ensures in
    rw p.1 (goes_pouring g.S.Site stack c.args.filling.tail _ c.args.site.now c.end.new.site first.pours first.counted (λ failed. first.failed))

pub returns-clause-kept : goal.returns-clause-kept
returns-clause-kept g c =
    let kept = c.in_ok-filled.ensures.kept c.requires.taken.0 c.requires.taken.1 in
    IfOk-weaker c.open_other.result _ _
    (λ tail is. record {
      file = ap (λ (t : Kept). t.file) is ∙ ap (λ (b : KeptBoth). other b.tail.file) kept;
      head = ap (λ (t : Kept). t.head) is ∙ ap (λ (b : KeptBoth). b.head) kept;
      records = ap (λ (t : Kept). t.records) is;
    })
    c.open_other.ensures.kept

pub returns-clause-holds : goal.returns-clause-holds
returns-clause-holds g c told = c.open_other.ensures.holds (c.in_ok-filled.ensures.pours.writes.calls.as_told ∙ told)

pub returns-clause-stands : goal.returns-clause-stands
returns-clause-stands g c body taken stack leads =
    let first = c.in_ok-filled.ensures in
    let filled = c.in_ok-filled.filled in
    let head_is : filled.head ≡ c.args.head.now = ap (λ (b : KeptBoth). b.head) (first.kept body taken) in
    let three = ap (λ (h : Head). h.version) head_is ∙ c.requires.version in
    let leads_so = subst (λ (h : Head). stack_in_file h body [] ≡ Ok stack) (sym head_is) leads in
    on_ok_later _ c.open_other.result (λ told.
    on_ok_weaker c.open_other.result (λ reads is. stands_new (other filled.tail.file) (filled_with filled body) (g.S.Site.seen c.open_other.new.site) stack three leads_so reads)
    (c.open_other.ensures.opened (first.pours.writes.calls.as_told ∙ told) body (first.holds told body taken)))

pub returns-clause-goes : goal.returns-clause-goes
returns-clause-goes g c body taken stack leads =
    let first = c.in_ok-filled.ensures in
    let second = c.open_other.ensures in
    let filled = c.in_ok-filled.filled in
    let head_is : filled.head ≡ c.args.head.now = ap (λ (b : KeptBoth). b.head) (first.kept body taken) in
    let three = ap (λ (h : Head). h.version) head_is ∙ c.requires.version in
    let leads_so = subst (λ (h : Head). stack_in_file h body [] ≡ Ok stack) (sym head_is) leads in
    goes_then g.S.Site stack g.met.S.Site.logs_now ⊥ (IsFailure c.open_other.result) c.args.site.now c.end.new.site c.open_other.new.site
    (goes_pouring g.S.Site stack c.args.filling.tail ⊥ c.args.site.now c.end.new.site first.pours first.counted (λ no. absurd no)) (λ no. no)
    (λ told is. stands_alike (g.S.Site.seen c.args.site.now) (g.S.Site.seen c.end.new.site) stack (first.pours.alike told) is)
    (goes_opening g.S.Site stack (other filled.tail.file) (filled_with filled body) (IsFailure c.open_other.result) c.end.new.site c.open_other.new.site three leads_so second.writes second.counted (λ failed. rose_at c.open_other.result _ failed second.failed)
    (λ told. second.any_moment told body (first.holds (sym first.pours.writes.calls.as_told ∙ told) body taken)))
