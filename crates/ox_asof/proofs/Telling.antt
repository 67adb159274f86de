-- What every reply has, whether its path names a block or not.
use Rattle.std.proofs.Common.{Bool, true, false, cond, not, List, ℕ, Option, Some, None, refl}
use Rattle.ox_http.specs.declared.Method.TheVariants.{Get}
use Rattle.ox_http.specs.declared.Reply.{Reply}
use Rattle.ox_http.specs.declared.Request.{Request}
use Rattle.ox_replies.specs.Ask.{error_reply, same_method}
use Rattle.ox_replies.specs.Asked.{Asked}
use Rattle.ox_replies.proofs.Told.{IsTold, reply_told}
use Rattle.ox_asof.specs.AskedKept.{AskedKept}
use Rattle.ox_asof.specs.Paths.{path_and_hash}
use Rattle.ox_asof.specs.Reply.{asked_as_of, get_of, is_query, reply_at, reply_by_cut, reply_from}

pub error_told : (status : ℕ) (close : Bool) → IsTold close (error_reply status close)
error_told status close = (refl, record { kind = refl; encoding = tt })

from_told : (asked : Option Asked) (path : List ℕ) (close : Bool) → IsTold close (reply_from asked path close)
from_told None path close = error_told 404 close
from_told (Some asked) path close = reply_told asked (get_of path close)

pub either : (b : Bool) (close : Bool) (one other : Reply) → IsTold close one → IsTold close other → IsTold close (cond b one other)
either true close one other first second = first
either false close one other first second = second

cut_told : (kept : AskedKept) (request : Request) (cut : Option (List ℕ × List ℕ)) → IsTold request.close (reply_by_cut kept request cut)
cut_told kept request None = reply_told kept.first request
cut_told kept request (Some cut) =
    either (not (is_query cut.0)) request.close _ _ (error_told 404 request.close)
    (either (not (same_method request.method Get)) request.close _ _ (error_told 405 request.close)
    (from_told (asked_as_of kept cut.1) cut.0 request.close))

pub told_at : (kept : AskedKept) (request : Request) → IsTold request.close (reply_at kept request)
unfolding reply_at
told_at kept request = cut_told kept request (path_and_hash request.path)
