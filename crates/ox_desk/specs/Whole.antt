-- What every reply is.
use Rattle.std.specs.Prelude.{◌≡◌, Bool, length}
use Rattle.ox_http.specs.Written.{written}
use Rattle.ox_http.specs.declared.Reply.{Reply}
use Rattle.ox_links.specs.Link.{Written}
use Rattle.ox_replies.specs.Content.{FitsHead}

-- One reply: a head, and as many bytes behind it as it tells. Its kind and its encoding end no line
-- of the head.
pub record IsOneReply (close : Bool) (reply : Written) : Type 0 where
  pub said : Reply
  pub bytes : reply.bytes ≡ written said
  pub size : reply.size ≡ length said.body
  pub fits : FitsHead said
  pub closes : (reply.close ≡ close) × (said.close ≡ close)
