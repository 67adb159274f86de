-- The reply to a request that is no command. Its path may name an address, or a kept block.
use Rattle.std.specs.Prelude.{ℕ, List, Option, Some, None, is_some, if◌then◌else◌}
use Rattle.ox_http.specs.declared.Reply.{Reply}
use Rattle.ox_http.specs.declared.Request.{Request}
use Rattle.ox_held.specs.Paths.{address_part}
use Rattle.ox_held.specs.Replies.{address_reply}
use Rattle.ox_asof.specs.AskedKept.{AskedKept}
use Rattle.ox_asof.specs.Paths.{path_and_hash}
use Rattle.ox_asof.specs.Reply.{reply_at}

-- the part of a path that stands for an address, where the path names no block
abbrev pub part_named : List ℕ → Option (List ℕ)
part_named path = if is_some (path_and_hash path) then None else address_part path

-- an address is asked of the chain as it stands
abbrev pub reply_by_part : AskedKept → Request → Option (List ℕ) → Reply
reply_by_part kept request (Some part) =
    address_reply kept.first.profile kept.first.index request part
reply_by_part kept request None = reply_at kept request

-- the reply to a request that is no command
unfoldable pub query_reply : AskedKept → Request → Reply
query_reply kept request = reply_by_part kept request (part_named request.path)
