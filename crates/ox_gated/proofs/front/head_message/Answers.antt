use Rattle.std.proofs.Common.{◌≡◌, ◌∙◌, ◌++◌, length, refl, arith}
use Rattle.ox_gated.specs.Layout.{head_front}
use Rattle.ox_gated.proofs.TwoParts.{two_parts}
use Rattle.ox_gated.proofs.front.head_message.Goals as goal

pub returns : goal.returns
returns c =
    let front = c.copy_from_slice.new.self in
    let long : length front ≡ 25 = omega (arith, c.copy_from_slice.ensures.len) in
    let front_is : front ≡ head_front c.args.head.now c.args.size = c.copy_from_slice.ensures.after ∙ c.plain_front.ensures in
    two_parts 25 32 front _ c.copy_from_slice-2.new.self long refl ∙ (λ i. front_is i ++ c.copy_from_slice-2.ensures.after i)
