use Rattle.std.proofs.Common.{◌≡◌, ◌∙◌, ◌++◌, length, refl, ap, arith}
use Rattle.sha2.specs.Sha256.{sha256}
use Rattle.ox_gated.specs.Layout.{head_front}
use Rattle.ox_gated.proofs.TwoParts.{two_parts}
use Rattle.ox_gated.proofs.front.summed_front.Goals as goal

pub returns : goal.returns
returns c =
    let front = c.copy_from_slice.new.self in
    let long : length front ≡ 57 = omega (arith, c.copy_from_slice.ensures.len) in
    let message_is = c.head_message-message.ensures in
    let front_is : front ≡ head_front c.args.head.now c.args.size ++ c.args.body_sum.now = c.copy_from_slice.ensures.after ∙ message_is in
    let sum_is : c.copy_from_slice-2.new.self ≡ sha256 (head_front c.args.head.now c.args.size ++ c.args.body_sum.now) = c.copy_from_slice-2.ensures.after ∙ c.digest-sum.ensures ∙ ap sha256 message_is in
    two_parts 57 32 front _ c.copy_from_slice-2.new.self long refl ∙ (λ i. front_is i ++ sum_is i)
