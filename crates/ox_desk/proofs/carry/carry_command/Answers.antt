use Rattle.std.proofs.Common.{◌≡◌, ◌∙◌, ◌<◌, ◌-◌, ◌^◌, ap, refl, subst, sym}
use Rattle.std.specs.Prelude.{IsTrue, Ok}
use Rattle.ox_outside.specs.Runs.{LeavesOnly}
use Rattle.ox_gated.specs.Tail.{Holds, Kept}
use Rattle.ox_files.specs.Stands.{stands}
use Rattle.ox_model.specs.Index.{Index}
use Rattle.ox_model.specs.Stack.{Stack, stack_after}
use Rattle.ox_rules.specs.Why.{Refuses}
use Rattle.ox_store.specs.Ready.{Prepares, StandsForEither}
use Rattle.ox_store.specs.Store.{StoreContents}
use Rattle.ox_desk.specs.Desk.{IsCarried, stack_behind}
use Rattle.ox_desk.specs.Held.{AreHoldersOf}
use Rattle.ox_desk.proofs.Commanded.{accepted_comes, behind_is, counts_none, files_untouched, refused_comes, writes_none}
use Rattle.ox_desk.proofs.carry.carry_command.Goals as goal

-- there was no memory for the reply
pub returns-in_default : goal.returns-in_default
returns-in_default g c = record {
  carries = refl;
  holds = c.requires.holds;
  stands = λ told stood. stood;
  any_moment = λ told stood.
      files_untouched g.S.Site g.met.S.Site.only_now c.args.site.now c.args.store.stack (stack_behind c.args.store.stack c.args.command.now) (c.requires.holds told).settled stood;
  failed = tt;
  counted = counts_none (g.S.Site.counts c.args.site.now);
  writes = writes_none g.S.Site g.met.S.Site.only_now g.met.S.Site.logs_now c.args.site.now;
}

-- the command is prepared
pub prepare-requires : goal.prepare-requires
prepare-requires g c = subst (λ (s : StoreContents). s.commands < 2 ^ 64 - 1) (sym c.into_parts-store.ensures.store) c.requires.few

pub commit-requires : goal.commit-requires
commit-requires g c =
    subst (λ (tail : Kept). IsTrue (g.S.Site.told c.args.site.now) → Holds g.S.Site tail c.args.site.now)
    (sym (c.in-Ok-prepare.ensures.ready.tail ∙ ap (λ (s : StoreContents). s.tail) c.into_parts-store.ensures.store)) c.requires.holds

-- its record failed
pub returns-in_default-commit : goal.returns-in_default-commit
returns-in_default-commit g c =
    let before = c.args.store in
    let prepared = subst (λ (s : StoreContents). Prepares s c.args.command.now c.in-Ok-prepare.ready) c.into_parts-store.ensures.store c.in-Ok-prepare.ensures.ready in
    record {
      carries = tt;
      holds = λ told. tt;
      stands = λ told stood. tt;
      any_moment = λ told stood.
          subst (λ (after : Stack). LeavesOnly g.S.Site c.args.site.now c.commit.new.site (λ r. StandsForEither before.stack after r.files))
          (sym (behind_is before.stack c.args.command.now c.in-Ok-prepare.ready.stack prepared.after))
          (c.commit.ensures.any_moment told before.stack stood prepared.leads);
      failed = c.in_default-commit.ensures.failed;
      counted = c.in_default-commit.ensures.counted;
      writes = c.commit.ensures.writes;
    }

-- it is carried out
pub of-requires : goal.of-requires
of-requires g c =
    let ready = c.in-Ok-prepare.ready in
    let left = c.in-Ok-prepare.ensures.ready.left ∙ ap (λ (s : StoreContents). s.stack.index) c.into_parts-store.ensures.store in
    subst (λ (s : Stack). AreHoldersOf s.index c.holders_behind-holders.result) (sym c.in-Ok-commit.ensures.stack)
    (c.holders_behind-holders.ensures ready.left ready.stack.index c.moving.ensures.moves
    (subst (λ (i : Index). AreHoldersOf i c.into_parts-store.result.1) (sym left) c.into_parts-store.ensures.holders))

pub returns-in-Ok-commit : goal.returns-in-Ok-commit
returns-in-Ok-commit g c =
    let before = c.args.store in
    let same = sym c.of.ensures in
    let prepared = subst (λ (s : StoreContents). Prepares s c.args.command.now c.in-Ok-prepare.ready) c.into_parts-store.ensures.store c.in-Ok-prepare.ensures.ready in
    record {
      carries =
          subst (λ (s : StoreContents). IsCarried before c.args.command.now c.args.close c.accepted_reply-bytes.result s) same
          (accepted_comes before c.in-Ok-commit.store c.args.command.now c.args.close c.in-Ok-prepare.ready.stack c.tip.result c.accepted_reply-bytes.result c.in-Ok-prepare.ready.commands
          prepared.after c.tip.ensures c.accepted_reply-bytes.ensures c.in-Ok-commit.ensures.stack c.in-Ok-commit.ensures.one_more prepared.commands);
      holds = λ told. subst (λ (s : StoreContents). Holds g.S.Site s.tail c.commit.new.site) same (c.in-Ok-commit.ensures.holds told);
      stands = λ told stood.
          subst (λ (s : StoreContents). stands (g.S.Site.seen c.commit.new.site) ≡ Ok s.stack) same
          (c.in-Ok-commit.ensures.stands told before.stack stood prepared.leads);
      any_moment = λ told stood.
          subst (λ (after : Stack). LeavesOnly g.S.Site c.args.site.now c.commit.new.site (λ r. StandsForEither before.stack after r.files))
          (sym (behind_is before.stack c.args.command.now c.in-Ok-prepare.ready.stack prepared.after))
          (c.commit.ensures.any_moment told before.stack stood prepared.leads);
      failed = tt;
      counted = c.in-Ok-commit.ensures.counted;
      writes = c.commit.ensures.writes;
    }

-- it is refused
pub of-requires-in-Err : goal.of-requires-in-Err
of-requires-in-Err g c =
    subst (λ (s : StoreContents). AreHoldersOf s.stack.index c.into_parts-store.result.1) (sym (c.in-Err.ensures.kept ∙ c.into_parts-store.ensures.store)) c.into_parts-store.ensures.holders

pub returns-in-Err : goal.returns-in-Err
returns-in-Err g c =
    let before = c.args.store in
    let kept = c.of-in-Err.ensures ∙ c.in-Err.ensures.kept ∙ c.into_parts-store.ensures.store in
    let same = sym (c.refuse.ensures.store ∙ kept) in
    record {
      carries =
          refused_comes before c.of-in-Err.result c.refuse.result.store c.args.command.now c.args.close c.in-Err.field-0.why c.refuse.result.told
          (subst (λ (s : StoreContents). Refuses c.in-Err.field-0.why (stack_after s.stack c.args.command.now)) c.into_parts-store.ensures.store c.in-Err.ensures.refused)
          kept c.refuse.ensures.store c.refuse.ensures.told;
      holds = λ told. subst (λ (s : StoreContents). Holds g.S.Site s.tail c.args.site.now) same (c.requires.holds told);
      stands = λ told stood. subst (λ (s : StoreContents). stands (g.S.Site.seen c.args.site.now) ≡ Ok s.stack) same stood;
      any_moment = λ told stood.
          files_untouched g.S.Site g.met.S.Site.only_now c.args.site.now before.stack (stack_behind before.stack c.args.command.now) (c.requires.holds told).settled stood;
      failed = tt;
      counted = counts_none (g.S.Site.counts c.args.site.now);
      writes = writes_none g.S.Site g.met.S.Site.only_now g.met.S.Site.logs_now c.args.site.now;
    }
