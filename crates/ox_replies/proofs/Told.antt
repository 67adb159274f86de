-- What every reply has.
use Rattle.std.proofs.Common.{◌≡◌, Bool, true, false, cond, not, List, ℕ, Option, Some, None, IfSome, codes, refl, unwrap_or}
use Rattle.std.specs.Option.{option_and_then, option_map}
use Rattle.serde_json.specs.Data.{Data}
use Rattle.ox_http.specs.declared.Method.TheVariants.{Post}
use Rattle.ox_http.specs.declared.Reply.{Reply}
use Rattle.ox_http.specs.declared.Request.{Request}
use Rattle.ox_inscribe.specs.declared.row.InsRow.{InsRow}
use Rattle.ox_routes.specs.declared.route.Route.{Route}
use Rattle.ox_routes.specs.declared.route.Route.TheVariants.{Audit, BlockHash, Connect, Content, Disconnect, Inscription, Inscriptions, Output, Rune, Runes, Sat, Status}
use Rattle.ox_routes.specs.Table.{row_of, route_and_part}
use Rattle.ox_replies.specs.Ask.{tree_at, tree_reply, error_reply, same_method, named_reply, path_reply, reply_of}
use Rattle.ox_replies.specs.Content.{FitsHead, body_reply, header_text, is_header_text, shown_reply}
use Rattle.ox_replies.specs.Asked.{Asked}
use Rattle.ox_replies.specs.Errors.{error_tree}

-- the reply closes the link where that is so, and fits a head
abbrev pub IsTold : Bool → Reply → Type 0
IsTold close reply = (reply.close ≡ close) × FitsHead reply

pub tree_told : (status : ℕ) (tree : Data) (close : Bool) → IsTold close (tree_reply status tree close)
tree_told status tree close = (refl, record { kind = refl; encoding = tt })

-- bytes are a header's, or there are none
header_fits : (bytes : List ℕ) (test : Bool) → is_header_text bytes ≡ test → IfSome (cond test (Some bytes) None) (λ x. is_header_text x ≡ true)
header_fits bytes true e = e
header_fits bytes false e = tt

field_fits : (bytes : Option (List ℕ)) → IfSome (header_text bytes) (λ x. is_header_text x ≡ true)
field_fits None = tt
field_fits (Some bytes) = header_fits bytes (is_header_text bytes) refl

or_fits : (field : Option (List ℕ)) (other : List ℕ) → IfSome field (λ x. is_header_text x ≡ true) → is_header_text other ≡ true → is_header_text (unwrap_or field other) ≡ true
or_fits None other h k = k
or_fits (Some x) other h k = h

body_told : (close : Bool) (row : InsRow) (body : List ℕ) → IsTold close (body_reply close row body)
body_told close row body =
    (refl, record { kind = or_fits (header_text row.content_type) (codes "application/octet-stream") (field_fits row.content_type) refl; encoding = field_fits row.encoding })

mapped_told : {X : Type 0} (close : Bool) (f : X → Reply) (o : Option X) → ((x : X) → IsTold close (f x)) → IfSome (option_map f o) (IsTold close)
mapped_told close f None h = tt
mapped_told close f (Some x) h = h x

chosen_told : {X : Type 0} (close : Bool) (f : X → Option Reply) (o : Option X) → ((x : X) → IfSome (f x) (IsTold close)) → IfSome (option_and_then f o) (IsTold close)
chosen_told close f None h = tt
chosen_told close f (Some x) h = h x

pub trees_told : (close : Bool) (tree : Option Data) → IfSome (option_map (λ t. tree_reply 200 t close) tree) (IsTold close)
trees_told close tree = mapped_told close (λ t. tree_reply 200 t close) tree (λ t. tree_told 200 t close)

named_told : (asked : Asked) (route : Route) (part : List ℕ) (close : Bool) → IfSome (named_reply asked route part close) (IsTold close)
named_told asked Content part close =
    chosen_told close (shown_reply close) _ (λ row. mapped_told close (body_reply close row) row.body (body_told close row))
named_told asked Audit part close = trees_told close (tree_at asked Audit part)
named_told asked BlockHash part close = trees_told close (tree_at asked BlockHash part)
named_told asked Connect part close = trees_told close (tree_at asked Connect part)
named_told asked Disconnect part close = trees_told close (tree_at asked Disconnect part)
named_told asked Inscription part close = trees_told close (tree_at asked Inscription part)
named_told asked Inscriptions part close = trees_told close (tree_at asked Inscriptions part)
named_told asked Output part close = trees_told close (tree_at asked Output part)
named_told asked Rune part close = trees_told close (tree_at asked Rune part)
named_told asked Runes part close = trees_told close (tree_at asked Runes part)
named_told asked Sat part close = trees_told close (tree_at asked Sat part)
named_told asked Status part close = trees_told close (tree_at asked Status part)

pub or_told : (reply : Option Reply) (close : Bool) → IfSome reply (IsTold close) → IsTold close (unwrap_or reply (error_reply 404 close))
or_told None close h = tree_told 404 (error_tree 404) close
or_told (Some reply) close h = h

pub either_told : (test : Bool) (close : Bool) (a b : Reply) → IsTold close a → IsTold close b → IsTold close (cond test a b)
either_told true close a b h k = h
either_told false close a b h k = k

taken_told : (asked : Asked) (request : Request) (at : Option (Route × List ℕ)) → IsTold request.close (path_reply asked request at)
taken_told asked request None = tree_told 404 (error_tree 404) request.close
taken_told asked request (Some at) =
    either_told (not (same_method request.method (row_of at.0).method)) request.close _ _ (tree_told 405 (error_tree 405) request.close)
    (either_told (same_method request.method Post) request.close _ _ (tree_told 403 (error_tree 403) request.close) (or_told (named_reply asked at.0 at.1 request.close) request.close (named_told asked at.0 at.1 request.close)))

pub reply_told : (asked : Asked) (request : Request) → IsTold request.close (reply_of asked request)
unfolding reply_of
reply_told asked request = taken_told asked request (route_and_part request.path)
