-- The reply to a request whose path may name a block, by what the path is.
use Rattle.std.proofs.Common.{◌≡◌, ◌∙◌, ℕ, ◌≤◌, Bool, true, false, cond, not, ◌&&◌, List, [], ◌∷◌, length, drop, refl, sym, ap, arith, Option, Some, None, codes, find, option_map, length-drop}
use Rattle.std.specs.Str.{is_utf8}
use Rattle.std.specs.Prelude.{nat_eq, IfOk, Result, Ok, Err}
use Rattle.std.specs.List.{starts_with}
use Rattle.ox_http.specs.declared.Method.{Method}
use Rattle.ox_http.specs.declared.Method.TheVariants.{Get, Post}
use Rattle.ox_http.specs.declared.Reply.{Reply}
use Rattle.ox_http.specs.declared.Request.{Request}
use Rattle.ox_routes.specs.declared.route.Route.{Route}
use Rattle.ox_routes.specs.declared.route.Route.TheVariants.{Audit, BlockHash, Connect, Content, Disconnect, Inscription, Inscriptions, Output, Rune, Runes, Sat, Status}
use Rattle.ox_routes.specs.Table.{fits, route_and_part, route_taken, routes, row_of, takes}
use Rattle.ox_replies.specs.Ask.{error_reply, reply_of, same_method}
use Rattle.ox_replies.specs.Asked.{Asked}
use Rattle.ox_replies.specs.Status.{tip}
use Rattle.ox_asof.specs.AskedKept.{AskedKept}
use Rattle.ox_asof.specs.Paths.{path_and_hash}
use Rattle.ox_asof.specs.Reply.{asked_as_of, get_of, is_query, reply_at, reply_by_cut, reply_from}
use Rattle.ox_asof.proofs.Asking.{newest_first}
use Rattle.ox_asof.proofs.Hashes.{short_path}

module _ (kept : AskedKept) (request : Request) where
  module _ (path hash : List ℕ) (cut : path_and_hash request.path ≡ Some (path, hash)) where
    abbrev found : Reply
    found = reply_from (asked_as_of kept hash) path request.close

    abbrev by_method : Bool → Reply
    by_method is_get = cond (not is_get) (error_reply 405 request.close) found

    abbrev by_route : Bool → Bool → Reply
    by_route is_there is_get = cond (not is_there) (error_reply 404 request.close) (by_method is_get)

    cut_reply : reply_at kept request ≡ by_route (is_query path) (same_method request.method Get)
    unfolding reply_at
    cut_reply = ap (reply_by_cut kept request) cut

    pub as_of : is_query path ≡ true → same_method request.method Get ≡ true → (asked : Option Asked) → asked_as_of kept hash ≡ asked
        → reply_from asked path request.close ≡ reply_at kept request
    as_of is get asked there =
        sym (cut_reply ∙ ap (λ (b : Bool). by_route b (same_method request.method Get)) is ∙ ap by_method get
        ∙ ap (λ (a : Option Asked). reply_from a path request.close) there)

    pub newest_reply : tip kept.first.index.hashes ≡ Some hash → is_query path ≡ true → request.method ≡ Get
        → reply_at kept request ≡ reply_of kept.first (get_of path request.close)
    newest_reply newest is get =
        sym (as_of is (ap (λ (m : Method). same_method m Get) get) (Some kept.first) (newest_first kept hash newest))

-- ---- the paths of commands

found_passes : {A : Type 0} (p : A → Bool) (xs : List A) (x : A) → find p xs ≡ Some x → p x ≡ true
found_passes p [] x is = absurd (cc is)
found_passes p (y ∷ xs) x is = by_test (p y) refl is (found_passes p xs x) where
  by_test : (b : Bool) → p y ≡ b → cond b (Some y) (find p xs) ≡ Some x → (find p xs ≡ Some x → p x ≡ true) → p x ≡ true
  by_test true passes here more = let same : y ≡ x = cc here in ap p (sym same) ∙ passes
  by_test false fails rest more = more rest

taken_passes : (path : List ℕ) (route : Route) → route_taken path ≡ Some route → takes (row_of route) path ≡ true
unfolding route_taken
taken_passes path route is = found_passes (λ (r : Route). takes (row_of r) path) routes route is

route_of : (path : List ℕ) (found : Option Route) (route : Route) (part : List ℕ) → option_map {U = Route × List ℕ} (λ (r : Route). (r, drop (length (row_of r).text) path)) found ≡ Some (route, part) → found ≡ Some route
route_of path None route part is = absurd (cc is)
route_of path (Some r) route part is =
    let both : ◌≡◌ {A = Route × List ℕ} (r, drop (length (row_of r).text) path) (route, part) = cc is in
    ap (λ (x : Route × List ℕ). Some x.0) both

path_takes : (path : List ℕ) (route : Route) (part : List ℕ) → route_and_part path ≡ Some (route, part) → takes (row_of route) path ≡ true
path_takes path route part is = by_test (is_utf8 path) is where
  by_test : (b : Bool) → cond b (option_map {U = Route × List ℕ} (λ (r : Route). (r, drop (length (row_of r).text) path)) (route_taken path)) None ≡ Some (route, part) → takes (row_of route) path ≡ true
  by_test true some = taken_passes path route (route_of path (route_taken path) route part some)
  by_test false none = absurd (cc none)

nothing_behind : (rest : List ℕ) → fits false rest ≡ true → rest ≡ []
nothing_behind [] is = refl
nothing_behind (b ∷ rest) is = absurd (cc is)

second : (a b : Bool) → (a && b) ≡ true → b ≡ true
second true b is = is
second false b is = absurd (cc is)

no_longer : (path text : List ℕ) → (starts_with nat_eq path text && fits false (drop (length text) path)) ≡ true → length path ≤ length text
no_longer path text is =
    let none : drop (length text) path ≡ [] = nothing_behind (drop (length text) path) (second _ _ is) in
    no_more (length text) (ap (λ (l : List ℕ). length l) none)
  where
    no_more : (n : ℕ) → length (drop n path) ≡ 0 → length path ≤ n
    no_more n left = omega (arith, left, length-drop n path)

get_no_post : {A : Type 0} → Get ≡ Post → A
get_no_post is = absurd (cc is)

pub command_uncut : (path : List ℕ) (route : Route) (part : List ℕ) → route_and_part path ≡ Some (route, part) → (row_of route).method ≡ Post → path_and_hash path ≡ None
command_uncut path Connect part is post =
    let eight : length (codes "/connect") ≡ 8 = refl in
    short_path path (omega (arith, eight, no_longer path (codes "/connect") (path_takes path Connect part is)))
command_uncut path Disconnect part is post =
    let eleven : length (codes "/disconnect") ≡ 11 = refl in
    short_path path (omega (arith, eleven, no_longer path (codes "/disconnect") (path_takes path Disconnect part is)))
command_uncut path Audit part is post = get_no_post post
command_uncut path BlockHash part is post = get_no_post post
command_uncut path Content part is post = get_no_post post
command_uncut path Inscription part is post = get_no_post post
command_uncut path Inscriptions part is post = get_no_post post
command_uncut path Output part is post = get_no_post post
command_uncut path Rune part is post = get_no_post post
command_uncut path Runes part is post = get_no_post post
command_uncut path Sat part is post = get_no_post post
command_uncut path Status part is post = get_no_post post

pub reply_is : {E : Type 0} (result : Result Reply E) (one other : Reply) → IfOk result (λ reply. reply ≡ one) → one ≡ other → IfOk result (λ reply. reply ≡ other)
reply_is (Ok reply) one other is same = is ∙ same
reply_is (Err e) one other is same = tt
