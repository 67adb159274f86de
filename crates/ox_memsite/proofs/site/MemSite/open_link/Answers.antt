use Rattle.std.proofs.Common.{arith, ap, sym, subst, ◌≡◌, ◌∙◌, ◌+◌, ◌++◌, ◌∷◌, [], length, false, Bool, List, ℕ}
use Rattle.std.proofs.Common.{length-append}
use Rattle.ox_memsite.specs.Channels.{new_channel}
use Rattle.ox_memsite.specs.World.{World}
use Rattle.ox_memsite.specs.declared.channel.Channel.{Channel}
use Rattle.ox_memsite.specs.declared.said.Said.{Said}
use Rattle.ox_memsite.specs.declared.step.Step.TheVariants.{Opened}
use Rattle.ox_memsite.proofs.Kept.{kept_opened, pushed}
use Rattle.ox_memsite.proofs.Starts.{opens}
use Rattle.ox_memsite.proofs.site.MemSite.open_link.Goals as goal

pub invariant_of-self-2 : goal.invariant_of-self-2
invariant_of-self-2 c =
    let number : c.args.number ≡ length c.self.inside.channels.items = subst (λ (w : World). c.args.number ≡ length w.channels) (sym c.self.view_is) c.requires.number in
    let one = new_channel c.take_first-script.result in
    let came : c.put_channel.new.channels.items ≡ c.self.inside.channels.items ++ one ∷ [] = c.put_channel.ensures.channels ∙ ap (λ (l : List Channel). l ++ one ∷ []) c.in_ok-make_place.ensures.channels in
    let whole : c.put_channel.new.broken.items ≡ c.self.inside.broken.items ++ false ∷ [] = c.put_channel.ensures.broken ∙ ap (λ (l : List Bool). l ++ false ∷ []) c.in_ok-make_place.ensures.broken in
    let is_count : length c.put_channel.new.channels.items ≡ length c.self.inside.channels.items + 1 = ap length came ∙ length-append c.self.inside.channels.items (one ∷ []) in
    kept_opened _ _ _ _ _ _ _ _ _ _ c.self.invariant c.args.door _ _ _ _ whole is_count (omega (arith, number, c.ranges.number.fits))
    (pushed _ _ _ _ _ c.push.ensures.filled c.in_ok-make_place.ensures.steps (ap (λ (n : ℕ). Opened n c.args.door) number))
    (omega (arith, is_count, c.push.ensures.spare, c.in_ok-make_place.ensures.ok))

pub returns-clause-ok : goal.returns-clause-ok
returns-clause-ok c =
    let number : c.args.number ≡ length c.self.inside.channels.items = subst (λ (w : World). c.args.number ≡ length w.channels) (sym c.self.view_is) c.requires.number in
    opens c.args.door _ _ _ _ _ _ c.self.view_is c.take_first-script.ensures.public c.take_first-script.ensures.operator
    (pushed _ _ _ _ _ c.push.ensures.filled c.in_ok-make_place.ensures.steps (ap (λ (n : ℕ). Opened n c.args.door) number))
    (c.put_channel.ensures.channels ∙ ap (λ (l : List Channel). l ++ new_channel c.take_first-script.result ∷ []) c.in_ok-make_place.ensures.channels
    ∙ ap (λ (s : List Said). c.self.inside.channels.items ++ new_channel s ∷ []) c.take_first-script.ensures.first)
