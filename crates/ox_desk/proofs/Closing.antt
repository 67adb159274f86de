-- The reply to a GET depends on its path and `close` alone, and on the latter as it is told.
use Rattle.std.proofs.Common.{◌≡◌, ◌∙◌, Bool, true, false, cond, not, List, [], ℕ, Option, Some, None, refl, sym, ap, unwrap_or}
use Rattle.std.specs.Option.{option_and_then, option_map}
use Rattle.ox_http.specs.declared.Method.{Method}
use Rattle.ox_http.specs.declared.Method.TheVariants.{Get}
use Rattle.ox_http.specs.declared.Reply.{Reply}
use Rattle.ox_http.specs.declared.Request.{Request}
use Rattle.ox_routes.specs.declared.route.Route.{Route}
use Rattle.ox_routes.specs.declared.route.Route.TheVariants.{Audit, BlockHash, Connect, Content, Disconnect, Inscription, Inscriptions, Output, Rune, Runes, Sat, Status}
use Rattle.ox_routes.specs.Table.{row_of, route_and_part}
use Rattle.serde_json.specs.Data.{Data}
use Rattle.ox_replies.specs.Ask.{error_reply, named_reply, path_reply, reply_of, same_method, tree_at, tree_reply}
use Rattle.ox_replies.specs.Content.{body_reply, shown_reply}
use Rattle.ox_replies.specs.Asked.{Asked}
use Rattle.ox_cache.specs.Kept.{closing}
use Rattle.ox_asof.specs.AskedKept.{AskedKept}
use Rattle.ox_asof.specs.Paths.{path_and_hash}
use Rattle.ox_asof.specs.Reply.{asked_as_of, get_of, is_query, reply_at, reply_by_cut, reply_from}
use Rattle.ox_held.specs.Replies.{tree_named}
use Rattle.ox_desk.specs.Queries.{part_named, query_reply, reply_by_part}

-- ---- what is replied, with another `close`

mapped : {X : Type 0} (f g : X → Reply) (close : Bool) (o : Option X) → ((x : X) → closing close (f x) ≡ g x) → option_map (closing close) (option_map f o) ≡ option_map g o
mapped f g close None same = refl
mapped f g close (Some x) same = ap Some (same x)

chosen : {X : Type 0} (f g : X → Option Reply) (close : Bool) (o : Option X) → ((x : X) → option_map (closing close) (f x) ≡ g x) → option_map (closing close) (option_and_then f o) ≡ option_and_then g o
chosen f g close None same = refl
chosen f g close (Some x) same = same x

trees : (a b : Bool) (tree : Option Data) → option_map (closing b) (option_map (λ t. tree_reply 200 t a) tree) ≡ option_map (λ t. tree_reply 200 t b) tree
trees a b tree = mapped (λ t. tree_reply 200 t a) (λ t. tree_reply 200 t b) b tree (λ t. refl)

named : (asked : Asked) (route : Route) (part : List ℕ) (a b : Bool) → option_map (closing b) (named_reply asked route part a) ≡ named_reply asked route part b
named asked Content part a b =
    chosen (shown_reply a) (shown_reply b) b _ (λ row. mapped (body_reply a row) (body_reply b row) b row.body (λ body. refl))
named asked Audit part a b = trees a b (tree_at asked Audit part)
named asked BlockHash part a b = trees a b (tree_at asked BlockHash part)
named asked Connect part a b = trees a b (tree_at asked Connect part)
named asked Disconnect part a b = trees a b (tree_at asked Disconnect part)
named asked Inscription part a b = trees a b (tree_at asked Inscription part)
named asked Inscriptions part a b = trees a b (tree_at asked Inscriptions part)
named asked Output part a b = trees a b (tree_at asked Output part)
named asked Rune part a b = trees a b (tree_at asked Rune part)
named asked Runes part a b = trees a b (tree_at asked Runes part)
named asked Sat part a b = trees a b (tree_at asked Sat part)
named asked Status part a b = trees a b (tree_at asked Status part)

or_error : (o p : Option Reply) (a b : Bool) → option_map (closing b) o ≡ p → closing b (unwrap_or o (error_reply 404 a)) ≡ unwrap_or p (error_reply 404 b)
or_error None p a b is = ap (λ (q : Option Reply). unwrap_or q (error_reply 404 b)) is
or_error (Some reply) p a b is = ap (λ (q : Option Reply). unwrap_or q (error_reply 404 b)) is

either : (test : Bool) (close : Bool) (x y u v : Reply) → closing close x ≡ u → closing close y ≡ v → closing close (cond test x y) ≡ cond test u v
either true close x y u v first second = first
either false close x y u v first second = second

taken : (asked : Asked) (path body : List ℕ) (a b : Bool) (at : Option (Route × List ℕ))
    → closing b (path_reply asked (record { method = Get; path = path; body = body; close = a }) at) ≡ path_reply asked (get_of path b) at
taken asked path body a b None = refl
taken asked path body a b (Some at) =
    either (not (same_method Get (row_of at.0).method)) b _ _ _ _ refl
    (or_error (named_reply asked at.0 at.1 a) (named_reply asked at.0 at.1 b) a b (named asked at.0 at.1 a b))

get_closes : (asked : Asked) (path body : List ℕ) (a b : Bool) → closing b (reply_of asked (record { method = Get; path = path; body = body; close = a })) ≡ reply_of asked (get_of path b)
unfolding reply_of
get_closes asked path body a b = taken asked path body a b (route_and_part path)

-- a body changes nothing
own_taken : (asked : Asked) (path body : List ℕ) (close : Bool) (at : Option (Route × List ℕ))
    → path_reply asked (get_of path close) at ≡ path_reply asked (record { method = Get; path = path; body = body; close = close }) at
own_taken asked path body close None = refl
own_taken asked path body close (Some at) = refl

own_get : (asked : Asked) (path body : List ℕ) (close : Bool) → reply_of asked (get_of path close) ≡ reply_of asked (record { method = Get; path = path; body = body; close = close })
unfolding reply_of
own_get asked path body close = own_taken asked path body close (route_and_part path)

-- ---- where the path may name a block

or_none : (asked : Option Asked) (path : List ℕ) (a b : Bool) → closing b (reply_from asked path a) ≡ reply_from asked path b
or_none None path a b = refl
or_none (Some asked) path a b = get_closes asked path [] a b

cut_closes : (kept : AskedKept) (path body : List ℕ) (a b : Bool) (cut : Option (List ℕ × List ℕ))
    → closing b (reply_by_cut kept (record { method = Get; path = path; body = body; close = a }) cut) ≡ reply_by_cut kept (get_of path b) cut
cut_closes kept path body a b None = get_closes kept.first path body a b
cut_closes kept path body a b (Some cut) =
    either (not (is_query cut.0)) b _ _ _ _ refl (or_none (asked_as_of kept cut.1) cut.0 a b)

closes_at : (kept : AskedKept) (request : Request) (close : Bool) → request.method ≡ Get → closing close (reply_at kept request) ≡ reply_at kept (get_of request.path close)
unfolding reply_at
closes_at kept request close get =
    ap (λ (m : Method). closing close (reply_by_cut kept (record { method = m; path = request.path; body = request.body; close = request.close }) (path_and_hash request.path))) get
    ∙ cut_closes kept request.path request.body request.close close (path_and_hash request.path)

own_cut : (kept : AskedKept) (path body : List ℕ) (close : Bool) (cut : Option (List ℕ × List ℕ))
    → reply_by_cut kept (get_of path close) cut ≡ reply_by_cut kept (record { method = Get; path = path; body = body; close = close }) cut
own_cut kept path body close None = own_get kept.first path body close
own_cut kept path body close (Some cut) = refl

closes_own_at : (kept : AskedKept) (request : Request) → request.method ≡ Get → reply_at kept (get_of request.path request.close) ≡ reply_at kept request
unfolding reply_at
closes_own_at kept request get =
    own_cut kept request.path request.body request.close (path_and_hash request.path)
    ∙ ap (λ (m : Method). reply_by_cut kept (record { method = m; path = request.path; body = request.body; close = request.close }) (path_and_hash request.path)) (sym get)

-- ---- where it may name an address

part_closes : (kept : AskedKept) (path body : List ℕ) (a b : Bool) (part : Option (List ℕ))
    → closing b (reply_by_part kept (record { method = Get; path = path; body = body; close = a }) part) ≡ reply_by_part kept (get_of path b) part
part_closes kept path body a b None = closes_at kept (record { method = Get; path = path; body = body; close = a }) b refl
part_closes kept path body a b (Some part) = or_error _ _ a b (trees a b (tree_named kept.first.profile kept.first.index part))

pub query_closes : (kept : AskedKept) (request : Request) (close : Bool) → request.method ≡ Get → closing close (query_reply kept request) ≡ query_reply kept (get_of request.path close)
unfolding query_reply
query_closes kept request close get =
    ap (λ (m : Method). closing close (reply_by_part kept (record { method = m; path = request.path; body = request.body; close = request.close }) (part_named request.path))) get
    ∙ part_closes kept request.path request.body request.close close (part_named request.path)

own_part : (kept : AskedKept) (path body : List ℕ) (close : Bool) (part : Option (List ℕ))
    → reply_by_part kept (get_of path close) part ≡ reply_by_part kept (record { method = Get; path = path; body = body; close = close }) part
own_part kept path body close None = closes_own_at kept (record { method = Get; path = path; body = body; close = close }) refl
own_part kept path body close (Some part) = refl

pub query_closes_own : (kept : AskedKept) (request : Request) → request.method ≡ Get → query_reply kept (get_of request.path request.close) ≡ query_reply kept request
unfolding query_reply
query_closes_own kept request get =
    own_part kept request.path request.body request.close (part_named request.path)
    ∙ ap (λ (m : Method). reply_by_part kept (record { method = m; path = request.path; body = request.body; close = request.close }) (part_named request.path)) (sym get)
