use Rattle.std.proofs.Common.{◌∙◌, ◌++◌, ◌∷◌, [], List, ap}
use Rattle.std.specs.Prelude.{replicate}
use Rattle.std.proofs.lemmas.List.{replicate_more}
use Rattle.ox_memsite.specs.Channels.{new_channel, silent_channel}
use Rattle.ox_memsite.specs.declared.channel.Channel.{Channel}
use Rattle.ox_memsite.proofs.channel.silent_channels.Goals as goal

pub loop-preserved : goal.loop-preserved
loop-preserved c =
    c.in_ok-push.ensures.items
    ∙ ap (λ (l : List Channel). l ++ c.new_channel.result ∷ []) c.loop.invariant
    ∙ ap (λ (x : Channel). replicate c.loop.counter silent_channel ++ x ∷ []) (c.new_channel.ensures ∙ ap new_channel c.empty.ensures)
    ∙ replicate_more c.loop.counter silent_channel
