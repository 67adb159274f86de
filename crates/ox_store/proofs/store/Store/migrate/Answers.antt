use Rattle.std.proofs.Common.{◌∙◌, ℕ, inl, refl, ap}
use Rattle.std.proofs.lemmas.Result.{err_from_is_err_and}
use Rattle.std.specs.Prelude.{◌⊎◌, Err, IsErrOf}
use Rattle.ox_outside.specs.Counts.{IsFailure}
use Rattle.ox_outside.specs.Files.{other}
use Rattle.ox_outside.proofs.Calls.{leaves_weaker}
use Rattle.ox_outside.proofs.Counts.{no_fault_then, stops_after, stops_as, stops_at_none, then_rose}
use Rattle.ox_gated.specs.OtherFile.{first_gate_at}
use Rattle.ox_gated.specs.declared.fault.Halt.TheVariants as halts
use Rattle.ox_gated.specs.declared.head.Head.{Head}
use Rattle.ox_gated.proofs.Writing.{all_worked, writes_looking}
use Rattle.ox_gated.specs.WritesOn.{writes_then}
use Rattle.ox_index.specs.Chain.{stack_in}
use Rattle.ox_store.specs.Migrate.{IsOldOrMigrated}
use Rattle.ox_store.specs.Store.{StoreContents}
use Rattle.ox_store.proofs.Exits.{no_fault, no_value, not_both, passed_on, passed_so}
use Rattle.ox_store.proofs.FilesOfStores.{after_turn}
use Rattle.ox_store.proofs.OldStores.{any_moment, has_migrated, none_failed, spared_other}
use Rattle.ox_store.specs.declared.fault.MigrateFault.TheVariants as migrates
use Rattle.ox_store.proofs.store.Store.migrate.Goals as goal

-- ---- where no store was opened

pub returns-in_err-chain : goal.returns-in_err-chain
returns-in_err-chain g c =
    let left = c.from_residual.result in
    let fault = c.in_err-chain.field-0.0 in
    let p = err_from_is_err_and left c.from_residual.ensures.1 in
    let looks = c.open_old.ensures.looks in record {
      commands = λ told. no_value left p.0 _ p.1;
      stands = λ told. no_value left p.0 _ p.1;
      turned = λ told found is. no_value left p.0 _ p.1;
      spared = λ told. no_value left p.0 _ p.1;
      fresh = no_value left p.0 _ p.1;
      holds = λ told. no_value left p.0 _ p.1;
      fault = λ told. rw (p.1, p.2) (c.in_err-chain.ensures.fault told);
      wrote_nothing = rw p.1 (λ other. looks);
      untouched = λ told fault is. looks;
      any_moment = λ told. leaves_weaker g.S.Site c.args.site.now c.open_old.new.site (g.S.Site.may_leave c.args.site.now)
          (λ r. g.S.Site.may_leave c.args.site.now r ⊎ IsOldOrMigrated (g.S.Site.seen c.args.site.now) r.files) (λ r may. inl may) looks.moments;
      failed = λ is. c.in_err-chain.ensures.failed (passed_on left p.0 fault (migrates.Halt halts.Disk) p.1 p.2 is);
      counted = stops_as _ ⊥ ⊥ (IsErrOf left (migrates.Halt halts.Disk)) ⊥ ⊥ _ _ (λ is. passed_so left p.0 fault (migrates.Halt halts.Disk) p.1 p.2 is) (λ no. no) (λ no. no) c.in_err-chain.ensures.counted;
      writes = writes_looking g.S.Site g.met.S.Site.logs_now c.args.site.now c.open_old.new.site looks;
    }

-- ---- where the other file doesn't take the place

pub returns-in_default : goal.returns-in_default
returns-in_default g c =
    let parts = c.in_ok-chain in
    let old = parts.field-0 in
    let looks = parts.ensures.looks in record {
      commands = λ told. tt;
      stands = λ told. tt;
      turned = λ told found is. tt;
      spared = λ told. tt;
      fresh = tt;
      holds = λ told. tt;
      fault = λ told. tt;
      wrote_nothing = λ other. absurd (other refl);
      untouched = λ told fault is. absurd (not_both _ _ fault (parts.ensures.commands told) is);
      any_moment = λ told. any_moment g.S.Site (other old.tail.file) old.file (stack_in old.chain, old.commands) c.args.site.now c.open_old.new.site c.turn_to.new.site looks (parts.ensures.stays told)
          (parts.ensures.commands told) (ap (λ (h : Head). h.version) parts.ensures.head) parts.ensures.file
          (c.turn_to.ensures.any_moment (looks.calls.as_told ∙ told));
      failed = λ is. then_rose _ _ _ looks.calls.none_fell.disk c.in_default.ensures.failed;
      counted = stops_after _ _ _ _ _ _ (none_failed _ _ _ _ parts.ensures.counted)
          (stops_as (IsFailure c.turn_to.result) ⊥ ⊥ (IsErrOf {T = StoreContents × ℕ} (Err (migrates.Halt halts.Disk)) (migrates.Halt halts.Disk)) ⊥ ⊥ _ _ (λ failed. refl) (λ no. no) (λ no. no) c.turn_to.ensures.counted);
      writes = writes_then g.S.Site g.met.S.Site.logs_now c.args.site.now c.open_old.new.site c.turn_to.new.site
          (writes_looking g.S.Site g.met.S.Site.logs_now c.args.site.now c.open_old.new.site looks) c.turn_to.ensures.writes;
    }

-- ---- where it does

pub returns : goal.returns
returns g c =
    let parts = c.in_ok-chain in
    let old = parts.field-0 in
    let looks = parts.ensures.looks in
    let files = g.S.Site.seen c.args.site.now in
    let new = g.S.Site.seen c.turn_to.new.site in
    let whole = old.file in record {
      commands = parts.ensures.commands;
      stands = λ told. after_turn (other old.tail.file) whole new (stack_in old.chain) (ap (λ (h : Head). h.version) parts.ensures.head) parts.ensures.file
          (c.in-Ok.ensures.turned (looks.calls.as_told ∙ told));
      turned = λ told found is. has_migrated old.tail c.in-Ok.tail whole.head (first_gate_at whole.head whole.body) found c.in-Ok.ensures.kept parts.ensures.head (parts.ensures.tail told found is);
      spared = λ told. spared_other old.tail c.in-Ok.tail whole.head (first_gate_at whole.head whole.body) files (g.S.Site.seen c.open_old.new.site) new c.in-Ok.ensures.kept looks.nothing.files
          (c.in-Ok.ensures.spared (looks.calls.as_told ∙ told));
      fresh = refl;
      holds = λ told. c.in-Ok.ensures.holds (looks.calls.as_told ∙ told);
      fault = λ told. tt;
      wrote_nothing = tt;
      untouched = λ told fault is. absurd (not_both _ _ fault (parts.ensures.commands told) is);
      any_moment = λ told. any_moment g.S.Site (other old.tail.file) whole (stack_in old.chain, old.commands) c.args.site.now c.open_old.new.site c.turn_to.new.site looks (parts.ensures.stays told)
          (parts.ensures.commands told) (ap (λ (h : Head). h.version) parts.ensures.head) parts.ensures.file
          (c.turn_to.ensures.any_moment (looks.calls.as_told ∙ told));
      failed = λ is. absurd (no_fault _ _ is);
      counted = stops_at_none _ _ _ _ _ (no_fault_then _ _ _ (none_failed _ _ _ _ parts.ensures.counted) (all_worked _ _ c.in-Ok.ensures.counted));
      writes = writes_then g.S.Site g.met.S.Site.logs_now c.args.site.now c.open_old.new.site c.turn_to.new.site
          (writes_looking g.S.Site g.met.S.Site.logs_now c.args.site.now c.open_old.new.site looks) c.turn_to.ensures.writes;
    }
