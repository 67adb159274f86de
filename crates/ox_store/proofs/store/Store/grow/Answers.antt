use Rattle.std.proofs.Common.{◌≡◌, ◌≢◌, ◌∙◌, inl, ap, subst, sym}
use Rattle.std.proofs.lemmas.Result.{IfErr-weaker, IfOk-weaker, err_from_is_err_and}
use Rattle.std.specs.Prelude.{IsErrOf, IsTrue, Ok}
use Rattle.ox_outside.proofs.Calls.{leaves_weaker}
use Rattle.ox_outside.proofs.Counts.{stops_after, stops_as, then_rose}
use Rattle.ox_gated.proofs.Writing.{writes_looking}
use Rattle.ox_gated.specs.WritesOn.{writes_then}
use Rattle.ox_gated.specs.declared.fault.Halt.TheVariants as halts
use Rattle.ox_gated.specs.OtherFile.{last_generation}
use Rattle.ox_gated.specs.Tail.{Holds, Kept}
use Rattle.ox_index.specs.Chain.{stack_in}
use Rattle.ox_files.specs.Stands.{stands}
use Rattle.ox_store.specs.Grow.{growing}
use Rattle.ox_store.specs.declared.fault.OpenFault.TheVariants as opens
use Rattle.ox_store.proofs.Exits.{no_value, not_both, passed_on, passed_so}
use Rattle.ox_store.proofs.GrowFaults.{halt_grows, no_halt}
use Rattle.ox_store.proofs.GrowingFiles.{grown_moments, growing_stands, has_grown}
use Rattle.ox_store.proofs.OldStores.{none_failed}
use Rattle.ox_store.proofs.WritingLemmas.{and_ok}
use Rattle.ox_store.proofs.store.Store.grow.Goals as goal

pub turn_grown-requires-clause-generation : goal.turn_grown-requires-clause-generation
turn_grown-requires-clause-generation g c = subst (λ (t : Kept). t.head.generation ≢ last_generation) (sym c.into_parts-chain.ensures.tail) c.in_ok-store.ensures.generation

pub turn_grown-requires-clause-holds : goal.turn_grown-requires-clause-holds
turn_grown-requires-clause-holds g c told =
    subst (λ (t : Kept). Holds g.S.Site t c.open_growing.new.site) (sym c.into_parts-chain.ensures.tail) (c.in_ok-store.ensures.holds (sym c.in_ok-store.ensures.looks.calls.as_told ∙ told))

pub returns-in_err-store : goal.returns-in_err-store
returns-in_err-store g c =
    let left = c.from_residual.result in
    let fault = c.in_err-store.field-0.0 in
    let looks = c.open_growing.ensures.looks in
    let p = err_from_is_err_and left c.from_residual.ensures.1 in record {
      grown = λ told. no_value left p.0 _ p.1;
      stands = λ told. no_value left p.0 _ p.1;
      turned = λ told found is. no_value left p.0 _ p.1;
      shut = λ told. no_value left p.0 _ p.1;
      fresh = no_value left p.0 _ p.1;
      holds = λ told. no_value left p.0 _ p.1;
      fault = λ told. rw (p.1, p.2) (c.in_err-store.ensures.not_store told);
      wrote_nothing = λ file at is. looks;
      untouched = λ told misfit is. looks;
      any_moment = λ told. leaves_weaker g.S.Site c.args.site.now c.open_growing.new.site (g.S.Site.may_leave c.args.site.now) _ (λ r may. inl may) looks.moments;
      failed = λ is. c.in_err-store.ensures.failed (passed_on left p.0 fault (opens.Halt halts.Disk) p.1 p.2 is);
      counted = stops_as _ ⊥ ⊥ (IsErrOf left (opens.Halt halts.Disk)) ⊥ ⊥ _ _ (λ is. passed_so left p.0 fault (opens.Halt halts.Disk) p.1 p.2 is) (λ no. no) (λ no. no) c.in_err-store.ensures.counted;
      writes = writes_looking g.S.Site g.met.S.Site.logs_now c.args.site.now c.open_growing.new.site looks;
    }

pub returns : goal.returns
returns g c =
    let first = c.in_ok-store.ensures in
    let parts = c.into_parts-chain in
    let looks = first.looks in
    let stack = stack_in parts.result.0 in
    let result = c.turn_grown.result in
    let next = c.turn_grown.ensures in
    let files = g.S.Site.seen c.args.site.now in
    let grown = λ (told : IsTrue (g.S.Site.told c.args.site.now)). first.grown told ∙ ap Ok (sym parts.ensures.stack) in record {
      grown = λ told. IfOk-weaker result _ _ (λ new same. grown told ∙ ap Ok (sym same)) next.stack;
      stands = λ told. IfOk-weaker result _ _
          (λ new both. both.1 (looks.calls.as_told ∙ told) (ap stands looks.nothing.files ∙ growing_stands files stack (grown told)) ∙ ap Ok (sym both.0))
          (and_ok result _ _ next.stack next.stands);
      turned = λ told found is.
          let at = subst (λ (t : Kept). (t.file ≡ found.file) × (t.head ≡ found.head)) (sym parts.ensures.tail) (first.tail told found is) in
          IfOk-weaker result _ _ (λ new other. has_grown parts.result.1 new.tail found other at) next.turned;
      shut = λ told. next.shut (looks.calls.as_told ∙ told);
      fresh = next.fresh;
      holds = λ told. next.holds (looks.calls.as_told ∙ told);
      fault = λ told. IfErr-weaker result _ _ (λ fault halt. halt_grows (growing files) fault halt) next.halts;
      wrote_nothing = λ file at is. absurd (no_halt result file at next.halts is);
      untouched = λ told misfit is. absurd (not_both _ _ misfit (first.grown told) is);
      any_moment = λ told. grown_moments g.S.Site stack (IsErrOf result (opens.Halt halts.Disk)) c.args.site.now c.open_growing.new.site c.turn_grown.new.site told looks (grown told) next.goes;
      failed = λ is. then_rose _ _ _ looks.calls.none_fell.disk (next.goes.rose is);
      counted = stops_after _ _ _ _ _ _ (none_failed _ _ _ _ first.counted) next.goes.counted;
      writes = writes_then g.S.Site g.met.S.Site.logs_now c.args.site.now c.open_growing.new.site c.turn_grown.new.site
          (writes_looking g.S.Site g.met.S.Site.logs_now c.args.site.now c.open_growing.new.site looks) next.goes.writes;
    }
