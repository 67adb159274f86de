-- What every reply to a request that is no command has.
use Rattle.std.proofs.Common.{Bool, not, List, ℕ, Option, Some, None, refl, unwrap_or}
use Rattle.std.specs.Option.{option_map}
use Rattle.serde_json.specs.Data.{Data}
use Rattle.ox_http.specs.declared.Method.TheVariants.{Get}
use Rattle.ox_http.specs.declared.Request.{Request}
use Rattle.ox_replies.specs.Ask.{error_reply, same_method, tree_reply}
use Rattle.ox_replies.proofs.Told.{IsTold}
use Rattle.ox_held.specs.Replies.{tree_named}
use Rattle.ox_asof.specs.AskedKept.{AskedKept}
use Rattle.ox_asof.proofs.Telling.{either, error_told, told_at}
use Rattle.ox_desk.specs.Queries.{part_named, query_reply, reply_by_part}

-- a tree as 200, and where there is none 404
tree_told : (close : Bool) (tree : Option Data)
    → IsTold close (unwrap_or (option_map (λ t. tree_reply 200 t close) tree)
    (error_reply 404 close))
tree_told close (Some tree) = (refl, record { kind = refl; encoding = tt })
tree_told close None = error_told 404 close

part_told : (kept : AskedKept) (request : Request) (part : Option (List ℕ))
    → IsTold request.close (reply_by_part kept request part)
part_told kept request None = told_at kept request
part_told kept request (Some part) =
    either (not (same_method request.method Get)) request.close _ _
    (error_told 405 request.close)
    (tree_told request.close (tree_named kept.first.profile kept.first.index part))

pub query_told : (kept : AskedKept) (request : Request)
    → IsTold request.close (query_reply kept request)
unfolding query_reply
query_told kept request = part_told kept request (part_named request.path)
