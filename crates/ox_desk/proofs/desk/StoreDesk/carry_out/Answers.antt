use Rattle.std.proofs.Common.{◌≡◌, ◌∙◌, ap, arith, subst, sym}
use Rattle.std.specs.Prelude.{IsTrue, Ok}
use Rattle.ox_outside.specs.Counts.{Rose}
use Rattle.ox_outside.specs.Runs.{LeavesOnly}
use Rattle.ox_gated.specs.Tail.{Holds}
use Rattle.ox_files.specs.Stands.{stands}
use Rattle.ox_store.specs.Ready.{StandsForEither}
use Rattle.ox_desk.specs.Desk.{DeskContents, stack_behind}
use Rattle.ox_desk.proofs.PutBack.{asked_few, carries_out, counted_behind, failed_behind, none_open, rests_behind, seen_open, sound_behind, sound_open, stays}
use Rattle.ox_desk.proofs.desk.StoreDesk.carry_out.Goals as goal

pub carry_command-carried-requires : goal.carry_command-carried-requires
carry_command-carried-requires g c =
    let taken = sym c.take.ensures.value ∙ c.in-Some.is in
    let seen = seen_open c.self.inside.store c.in-Some.store c.self.inside.requests c.self.inside.cache taken c.args.self.now c.self.view_is in
    let sound = sound_open c.self.inside.store c.in-Some.store c.self.inside.requests c.self.inside.cache taken c.self.invariant in
    record {
      holds = subst (λ (d : DeskContents). IsTrue (g.S.Site.told c.args.site.now) → Holds g.S.Site d.tail c.args.site.now) (sym seen) c.requires.rests.holds;
      few =
          let same : c.self.inside.requests ≡ c.args.self.now.requests = ap (λ (d : DeskContents). d.requests) c.self.view_is in
          let fewer = sound.commands in
          omega (arith, fewer, same, c.requires.room);
    }

pub invariant_of-self : goal.invariant_of-self
invariant_of-self g c = λ is_open. absurd (none_open c.take.new.self c.take.ensures.after is_open)

pub put_back-requires : goal.put_back-requires
put_back-requires g c = record {
  room =
      let same : c.self.inside.requests ≡ c.args.self.now.requests = ap (λ (d : DeskContents). d.requests) c.self.view_is in
      omega (arith, same, c.requires.room);
  sound =
      sound_behind c.in-Some.store c.self.inside.requests c.self.inside.cache c.args.command.now c.args.close c.take.new.self c.carry_command-carried.result
      (sound_open c.self.inside.store c.in-Some.store c.self.inside.requests c.self.inside.cache (sym c.take.ensures.value ∙ c.in-Some.is) c.self.invariant)
      c.carry_command-carried.ensures.carries;
}

pub returns : goal.returns
returns g c =
    let store = c.in-Some.store in
    let requests = c.self.inside.requests in
    let cache = c.self.inside.cache in
    let command = c.args.command.now in
    let carried = c.carry_command-carried.result in
    let of_carried = c.carry_command-carried.ensures in
    let seen = seen_open c.self.inside.store store requests cache (sym c.take.ensures.value ∙ c.in-Some.is) c.args.self.now c.self.view_is in
    record {
      ok = carries_out store requests cache command c.args.close c.take.new.self carried c.args.self.now c.put_back.new.self c.put_back.result seen c.put_back.ensures.made c.put_back.ensures.desk of_carried.carries;
      memory = stays store requests cache command c.args.close c.take.new.self carried c.args.self.now c.put_back.new.self c.put_back.result seen c.put_back.ensures.made c.put_back.ensures.desk of_carried.carries;
      rests =
          rests_behind store requests cache command c.args.close c.take.new.self carried c.args.self.now c.put_back.new.self c.put_back.result seen c.put_back.ensures.made c.put_back.ensures.desk
          g.S.Site c.args.site.now c.carry_command-carried.new.site of_carried.writes.calls.as_told c.requires.rests of_carried.holds of_carried.stands;
      asked = asked_few store requests cache command c.args.close c.take.new.self carried c.args.self.now c.put_back.new.self c.put_back.result seen c.put_back.ensures.made c.put_back.ensures.desk;
      any_moment = λ told.
          subst (λ (d : DeskContents). LeavesOnly g.S.Site c.args.site.now c.carry_command-carried.new.site (λ r. StandsForEither d.stack (stack_behind d.stack command) r.files)) seen
          (of_carried.any_moment told
          (subst (λ (d : DeskContents). stands (g.S.Site.seen c.args.site.now) ≡ Ok d.stack) (sym seen) (c.requires.rests.stands_for told)));
      failed =
          failed_behind store requests cache command c.args.close c.take.new.self carried c.args.self.now c.put_back.new.self c.put_back.result seen c.put_back.ensures.made c.put_back.ensures.desk
          (Rose (g.S.Site.counts c.args.site.now).disk (g.S.Site.counts c.carry_command-carried.new.site).disk) of_carried.failed;
      counted =
          counted_behind store requests cache command c.args.close c.take.new.self carried c.args.self.now c.put_back.new.self c.put_back.result seen c.put_back.ensures.made c.put_back.ensures.desk
          (g.S.Site.counts c.args.site.now) (g.S.Site.counts c.carry_command-carried.new.site) of_carried.counted;
      writes = of_carried.writes;
    }
