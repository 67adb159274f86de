-- The reply to a request of a link that isn't the operator's, whose path may name a kept block.
use Rattle.std.specs.Prelude.{ℕ, Bool, false, not, List, [], Option, Some, None, bytes_eq, find}
use Rattle.std.specs.Prelude.{if◌then◌else◌}
use Rattle.std.specs.Option.{option_map_or}
use Rattle.ox_http.specs.declared.Method.TheVariants.{Get}
use Rattle.ox_http.specs.declared.Reply.{Reply}
use Rattle.ox_http.specs.declared.Request.{Request}
use Rattle.ox_routes.specs.declared.route.Route.{Route}
use Rattle.ox_routes.specs.Table.{route_and_part, row_of}
use Rattle.ox_replies.specs.Ask.{error_reply, reply_of, same_method}
use Rattle.ox_replies.specs.Asked.{Asked}
use Rattle.ox_replies.specs.Status.{tip}
use Rattle.ox_asof.specs.AskedKept.{AskedKept, all_asked}
use Rattle.ox_asof.specs.Paths.{path_and_hash}

-- a GET of a path
abbrev pub get_of : List ℕ → Bool → Request
get_of path close = record { method = Get; path = path; body = []; close = close }

-- the path takes a route that is no command's
abbrev pub is_query : List ℕ → Bool
is_query path =
    option_map_or (λ (at : Route × List ℕ). same_method (row_of at.0).method Get)
    (route_and_part path) false

-- the newest block has this hash
abbrev pub is_as_of : List ℕ → Asked → Bool
is_as_of hash asked = option_map_or (bytes_eq hash) (tip asked.index.hashes) false

-- what is asked as of a block: of the longest chain of which it is the newest
abbrev pub asked_as_of : AskedKept → List ℕ → Option Asked
asked_as_of kept hash = find (is_as_of hash) (all_asked kept)

-- the reply as of a block: 404 where it isn't there
abbrev pub reply_from : Option Asked → List ℕ → Bool → Reply
reply_from None path close = error_reply 404 close
reply_from (Some asked) path close = reply_of asked (get_of path close)

-- The reply by what the path has before a block's hash: 404 where that takes no route, or a
-- command's; 405 for another method than GET.
abbrev pub reply_as_of : AskedKept → Request → List ℕ × List ℕ → Reply
reply_as_of kept request cut =
    if not (is_query cut.0) then error_reply 404 request.close
    else if not (same_method request.method Get) then error_reply 405 request.close
    else reply_from (asked_as_of kept cut.1) cut.0 request.close

-- a path that names no block is asked of the chain as it stands
abbrev pub reply_by_cut : AskedKept → Request → Option (List ℕ × List ℕ) → Reply
reply_by_cut kept request None = reply_of kept.first request
reply_by_cut kept request (Some cut) = reply_as_of kept request cut

-- the reply to a request
unfoldable pub reply_at : AskedKept → Request → Reply
reply_at kept request = reply_by_cut kept request (path_and_hash request.path)
