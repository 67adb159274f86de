use Rattle.std.proofs.Common.{◌≡◌, ◌∙◌, ◌+◌, ◌++◌, [], ◌∷◌, length, sym, ap, subst, append_assoc, arith}
use Rattle.ox_outside.specs.Files.{file_of, other}
use Rattle.ox_gated.specs.Layout.{head_bytes, checkpoint_bytes}
use Rattle.ox_gated.specs.OtherFile.{HoldsBoth, first_gate_at}
use Rattle.ox_gated.specs.Tail.{Kept, Holds}
use Rattle.ox_gated.specs.declared.head.Head.{Head}
use Rattle.ox_gated.proofs.OneFile.{spared}
use Rattle.ox_gated.proofs.Turning.{fill_moments, fill_alike, fill_holds}
use Rattle.ox_gated.proofs.other_file.Closed.fill_other.Goals as goal

pub returns-in_err-write_pieces_synced-clause-any_moment : goal.returns-in_err-write_pieces_synced-clause-any_moment
returns-in_err-write_pieces_synced-clause-any_moment g c told =
    let tail = c.self.inside.tail in
    let h : Holds g.S.Site tail c.args.site.now = subst (λ (t : Kept). Holds g.S.Site t c.args.site.now) (sym c.self.view_is) (c.requires.holds told) in
    fill_moments g.S.Site tail c.args.site.now h c.self.invariant _ c.write_pieces_synced.new.site c.other_file.result (c.other_file.ensures ∙ ap other c.file.ensures) (c.write_pieces_synced.ensures.moments h.settled)

pub returns-clause-any_moment : goal.returns-clause-any_moment
returns-clause-any_moment g c told =
    let tail = c.self.inside.tail in
    let h : Holds g.S.Site tail c.args.site.now = subst (λ (t : Kept). Holds g.S.Site t c.args.site.now) (sym c.self.view_is) (c.requires.holds told) in
    fill_moments g.S.Site tail c.args.site.now h c.self.invariant _ c.write_pieces_synced.new.site c.other_file.result (c.other_file.ensures ∙ ap other c.file.ensures) (c.in_ok-write_pieces_synced.ensures.moments h.settled)

pub returns-clause-alike : goal.returns-clause-alike
returns-clause-alike g c told =
    let tail = c.self.inside.tail in
    let h : Holds g.S.Site tail c.args.site.now = subst (λ (t : Kept). Holds g.S.Site t c.args.site.now) (sym c.self.view_is) (c.requires.holds told) in
    let e = c.in_ok-write_pieces_synced.ensures in
    let w = c.args.checkpoint.now in
    let bytes_are : c.front-front.result.now ++ c.behind-behind.result.now ≡ checkpoint_bytes w.head w.body = (λ i. c.front-front.ensures.bytes i ++ c.behind-behind.ensures.bytes i) ∙ sym (append_assoc (head_bytes w.head w.body) w.body (0 ∷ [])) in
    fill_alike g.S.Site tail c.args.site.now h c.self.invariant c.other_file.result (c.other_file.ensures ∙ ap other c.file.ensures) w _ bytes_are c.write_pieces_synced.new.site (record { written = e.written told; durable = e.durable; others = e.others })

pub returns-clause-holds : goal.returns-clause-holds
returns-clause-holds g c told =
    let tail = c.self.inside.tail in
    let h : Holds g.S.Site tail c.args.site.now = subst (λ (t : Kept). Holds g.S.Site t c.args.site.now) (sym c.self.view_is) (c.requires.holds told) in
    let e = c.in_ok-write_pieces_synced.ensures in
    let w = c.args.checkpoint.now in
    let new = c.write_pieces_synced.new.site in
    let gate = length c.front-front.result.now + length c.behind-behind.result.now in
    let bytes_are : c.front-front.result.now ++ c.behind-behind.result.now ≡ checkpoint_bytes w.head w.body = (λ i. c.front-front.ensures.bytes i ++ c.behind-behind.ensures.bytes i) ∙ sym (append_assoc (head_bytes w.head w.body) w.body (0 ∷ [])) in
    let gate_is : gate ≡ first_gate_at w.head w.body = omega (arith, c.front-front.ensures.size, c.behind-behind.ensures.size) in
    subst (λ (head : Head). HoldsBoth g.S.Site (record { tail = tail; head = head; gate = gate }) w.body new) (sym c.head.ensures)
    (fill_holds g.S.Site tail c.args.site.now h c.self.invariant c.other_file.result (c.other_file.ensures ∙ ap other c.file.ensures) w _ bytes_are new (record { written = e.written told; durable = e.durable; others = e.others }) gate gate_is)

pub returns-clause-spared : goal.returns-clause-spared
returns-clause-spared g c told =
    let old = g.S.Site.seen c.args.site.now in
    let new = g.S.Site.seen c.write_pieces_synced.new.site in
    subst (λ (t : Kept). file_of new t.file ≡ file_of old t.file) c.self.view_is
    (spared c.self.inside.tail.file c.other_file.result old new _ (c.other_file.ensures ∙ ap other c.file.ensures) (c.in_ok-write_pieces_synced.ensures.written told))
