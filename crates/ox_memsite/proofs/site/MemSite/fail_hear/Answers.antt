use Rattle.std.proofs.Common.{arith, rules, sym, subst, ◌≡◌, ◌<◌, length, List}
use Rattle.ox_memsite.specs.Channels.{hear_fault}
use Rattle.ox_memsite.specs.World.{World}
use Rattle.ox_memsite.specs.declared.channel.Channel.{Channel}
use Rattle.ox_memsite.proofs.Lent.{put_back, put_as_many, counted}
use Rattle.ox_memsite.proofs.Kept.{kept_count}
use Rattle.ox_memsite.proofs.site.MemSite.fail_hear.Goals as goal

pub count_hear_fault-requires : goal.count_hear_fault-requires
count_hear_fault-requires c =
    let below = subst (λ (w : World). c.args.channel < length w.channels) (sym c.self.view_is) c.requires in
    subst (λ (l : List Channel). c.args.channel < length l) (sym c.deref_mut.ensures.value) below

pub invariant_of-self : goal.invariant_of-self
invariant_of-self c =
    let size : length c.self.inside.channels.items ≡ c.self.inside.channels.len = search rules in
    kept_count _ _ _ _ _ _ _ _ _ _ c.self.invariant _ (put_as_many c.args.channel hear_fault _ _ _ _ size c.deref_mut.ensures.value c.count_hear_fault.ensures)

pub break_channel-requires : goal.break_channel-requires
break_channel-requires c =
    let below = subst (λ (w : World). c.args.channel < length w.channels) (sym c.self.view_is) c.requires in
    let size : length c.self.inside.channels.items ≡ c.self.inside.channels.len = search rules in
    omega (arith, below, put_as_many c.args.channel hear_fault _ _ _ _ size c.deref_mut.ensures.value c.count_hear_fault.ensures)

pub returns : goal.returns
returns c =
    let size : length c.self.inside.channels.items ≡ c.self.inside.channels.len = search rules in
    counted c.args.channel hear_fault _ _ _ _ c.self.view_is (put_back c.args.channel hear_fault _ _ _ _ size c.deref_mut.ensures.value c.count_hear_fault.ensures) c.break_channel.ensures
