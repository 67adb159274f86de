-- Channels that were lent as a slice and changed, back in their place.
use Rattle.std.proofs.Common.{◌≡◌, ◌∙◌, ◌++◌, ℕ, List, length, take, drop, ap, sym}
use Rattle.std.proofs.lemmas.List.{length-set}
use Rattle.ox_memsite.specs.Channels.{channel_at, at_channel}
use Rattle.ox_memsite.specs.Heard.{channels_after, channels_with}
use Rattle.ox_memsite.specs.World.{World, after_break}
use Rattle.ox_memsite.specs.declared.channel.Channel.{Channel}
use Rattle.ox_memsite.specs.declared.said.Said.{Said}
use Rattle.ox_memsite.proofs.Starts.{back_same, length-channels_after, length-channels_with}

-- one of them changed
module _ (channel : ℕ) (change : Channel → Channel) (n : ℕ) (new lent old : List Channel) (size : length old ≡ n) (same : lent ≡ old) (is : new ≡ at_channel channel change lent) where
  as_many : length new ≡ length old
  as_many = ap length is ∙ length-set lent channel (change (channel_at lent channel)) ∙ ap length same

  pub put_back : take n (new ++ drop (length new) old) ≡ at_channel channel change old
  put_back = back_same n new old size as_many ∙ is ∙ ap (λ (l : List Channel). at_channel channel change l) same

  pub put_as_many : length (take n (new ++ drop (length new) old)) ≡ length old
  put_as_many = ap length (back_same n new old size as_many) ∙ as_many

-- a failure is counted so, and logged where it is the first
pub counted : (channel : ℕ) (change : Channel → Channel) (w old new : World) (channels : List Channel) → w ≡ old → channels ≡ at_channel channel change w.channels → new ≡ after_break channel (record w { channels = channels })
    → new ≡ after_break channel (record old { channels = at_channel channel change old.channels })
counted channel change w old new channels is same ends =
    ends ∙ ap (λ (l : List Channel). after_break channel (record w { channels = l })) same
    ∙ ap (λ (o : World). after_break channel (record o { channels = at_channel channel change o.channels })) is

-- lent to be heard, and once more to note what was said
module _ (channel room n : ℕ) (new lent old again : List Channel) (size : length old ≡ n) (same : lent ≡ old) (is : new ≡ channels_after channel room lent) (second : again ≡ take n (new ++ drop (length new) old)) where
  new_is : new ≡ channels_after channel room old
  new_is = is ∙ ap (λ (l : List Channel). channels_after channel room l) same

  heard_back : again ≡ channels_after channel room old
  heard_back = second ∙ back_same n new old size (ap length new_is ∙ length-channels_after channel room old) ∙ new_is

  pub heard_many : length again ≡ length old
  heard_many = ap length heard_back ∙ length-channels_after channel room old

  module _ (said : Said) (noted : List Channel) (is_noted : noted ≡ channels_with channel said again) where
    noted_many : length noted ≡ length again
    noted_many = ap length is_noted ∙ length-channels_with channel said again

    again_back : take n (noted ++ drop (length noted) again) ≡ noted
    again_back = back_same n noted again (heard_many ∙ size) noted_many

    pub noted_back : take n (noted ++ drop (length noted) (take n (new ++ drop (length new) old))) ≡ channels_with channel said (channels_after channel room old)
    noted_back = ap (λ (l : List Channel). take n (noted ++ drop (length noted) l)) (sym second) ∙ again_back ∙ is_noted ∙ ap (λ (l : List Channel). channels_with channel said l) heard_back

    pub noted_as_many : length (take n (noted ++ drop (length noted) (take n (new ++ drop (length new) old)))) ≡ length old
    noted_as_many = ap (λ (l : List Channel). length (take n (noted ++ drop (length noted) l))) (sym second) ∙ ap length again_back ∙ noted_many ∙ heard_many
