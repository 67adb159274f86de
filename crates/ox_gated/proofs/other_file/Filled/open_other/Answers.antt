use Rattle.std.proofs.Common.{◌≡◌, ◌∙◌, ℕ, List, sym, ap, subst}
use Rattle.ox_outside.specs.Files.{file_of, other}
use Rattle.ox_outside.specs.Runs.{LeavesOnly}
use Rattle.ox_outside.specs.declared.site.Which.{Which}
use Rattle.ox_gated.specs.OtherFile.{KeptBoth, HoldsBoth, IsOldOrNew, ReadsNew, filled_with}
use Rattle.ox_gated.specs.Tail.{Kept, Holds}
use Rattle.ox_gated.specs.Written.{with_open_gate}
use Rattle.ox_gated.proofs.OneFile.{spared}
use Rattle.ox_gated.proofs.Turning.{open_moments, open_reads, open_holds}
use Rattle.ox_gated.proofs.other_file.Filled.open_other.Goals as goal

pub returns-in_err-write_synced-clause-any_moment : goal.returns-in_err-write_synced-clause-any_moment
returns-in_err-write_synced-clause-any_moment g c told body is =
    let i = c.self.inside in
    let v = c.self.invariant in
    let both : KeptBoth = record { tail = i.tail; head = i.head; gate = i.gate } in
    let h : HoldsBoth g.S.Site both body c.args.site.now = subst (λ (b : KeptBoth). HoldsBoth g.S.Site b body c.args.site.now) (sym c.self.view_is) is in
    subst (λ (b : KeptBoth). LeavesOnly g.S.Site c.args.site.now c.write_synced.new.site (λ r. IsOldOrNew (other b.tail.file) (filled_with b body) (g.S.Site.seen c.args.site.now) r.files)) c.self.view_is
    (open_moments g.S.Site both body c.args.site.now h v.0 v.1 v.2 v.3 v.4 c.write_synced.new.site c.other_file-file.result (c.other_file-file.ensures ∙ ap other c.file.ensures) (c.write_synced.ensures.moments h.current.settled))

pub returns-clause-any_moment : goal.returns-clause-any_moment
returns-clause-any_moment g c told body is =
    let i = c.self.inside in
    let v = c.self.invariant in
    let both : KeptBoth = record { tail = i.tail; head = i.head; gate = i.gate } in
    let h : HoldsBoth g.S.Site both body c.args.site.now = subst (λ (b : KeptBoth). HoldsBoth g.S.Site b body c.args.site.now) (sym c.self.view_is) is in
    subst (λ (b : KeptBoth). LeavesOnly g.S.Site c.args.site.now c.write_synced.new.site (λ r. IsOldOrNew (other b.tail.file) (filled_with b body) (g.S.Site.seen c.args.site.now) r.files)) c.self.view_is
    (open_moments g.S.Site both body c.args.site.now h v.0 v.1 v.2 v.3 v.4 c.write_synced.new.site c.other_file-file.result (c.other_file-file.ensures ∙ ap other c.file.ensures) (c.in_ok-write_synced.ensures.moments h.current.settled))

pub returns-clause-opened : goal.returns-clause-opened
returns-clause-opened g c told body is =
    let i = c.self.inside in
    let v = c.self.invariant in
    let e = c.in_ok-write_synced.ensures in
    let both : KeptBoth = record { tail = i.tail; head = i.head; gate = i.gate } in
    let h : HoldsBoth g.S.Site both body c.args.site.now = subst (λ (b : KeptBoth). HoldsBoth g.S.Site b body c.args.site.now) (sym c.self.view_is) is in
    subst (λ (b : KeptBoth). ReadsNew (other b.tail.file) (filled_with b body) (g.S.Site.seen c.write_synced.new.site)) c.self.view_is
    (open_reads g.S.Site both body c.args.site.now h v.0 v.1 v.2 v.3 v.4 c.other_file-file.result (c.other_file-file.ensures ∙ ap other c.file.ensures) c.write_synced.new.site (record { written = e.written told; durable = e.durable; others = e.others }))

pub returns-clause-holds : goal.returns-clause-holds
returns-clause-holds g c told =
    let i = c.self.inside in
    let v = c.self.invariant in
    let e = c.in_ok-write_synced.ensures in
    let both : KeptBoth = record { tail = i.tail; head = i.head; gate = i.gate } in
    let filled = c.requires told in
    let body = filled.0 in
    let new = c.write_synced.new.site in
    let h : HoldsBoth g.S.Site both body c.args.site.now = subst (λ (b : KeptBoth). HoldsBoth g.S.Site b body c.args.site.now) (sym c.self.view_is) filled.1 in
    let file_is = c.other_file-file.ensures ∙ ap other c.file.ensures in
    subst (λ (t : Kept). Holds g.S.Site t new) (sym (c.at.ensures ∙ (λ i'. record { file = file_is i'; head = i.head; first = i.gate; records = 0; gate = i.gate; other_closed = Rattle.std.proofs.Common.false })))
    (open_holds g.S.Site both body c.args.site.now h v.0 v.1 v.2 v.3 v.4 c.other_file-file.result file_is new (record { written = e.written told; durable = e.durable; others = e.others }))

pub returns-clause-spared : goal.returns-clause-spared
returns-clause-spared g c told =
    let old = g.S.Site.seen c.args.site.now in
    let new = g.S.Site.seen c.write_synced.new.site in
    subst (λ (b : KeptBoth). file_of new b.tail.file ≡ file_of old b.tail.file) c.self.view_is
    (spared c.self.inside.tail.file c.other_file-file.result old new _ (c.other_file-file.ensures ∙ ap other c.file.ensures) (c.in_ok-write_synced.ensures.written told))

pub returns-clause-files : goal.returns-clause-files
returns-clause-files g c told =
    let old = g.S.Site.seen c.args.site.now in
    let new = g.S.Site.seen c.write_synced.new.site in
    let file_is = c.other_file-file.ensures ∙ ap other c.file.ensures in
    let written = c.in_ok-write_synced.ensures.written told ∙ ap (λ (w : Which). with_open_gate w 0 old) file_is in
    subst (λ (b : KeptBoth). new ≡ with_open_gate (other b.tail.file) 0 old) c.self.view_is written
