-- The reply to each request of a link that isn't the operator's.
use Rattle.std.specs.Prelude.{ℕ, Bool, true, false, List, Option, Some, None, codes, slice_get}
use Rattle.std.specs.Prelude.{if◌then◌else◌, not, unwrap_or}
use Rattle.std.specs.Option.{option_map, option_and_then}
use Rattle.std.specs.FinMap as map
use Rattle.serde_json.specs.Data.{Data}
use Rattle.serde_json.specs.Written.{compact_text}
use Rattle.ox_http.specs.declared.Method.{Method}
use Rattle.ox_http.specs.declared.Method.TheVariants.{Get, Post, Other}
use Rattle.ox_http.specs.declared.Reply.{Reply}
use Rattle.ox_http.specs.declared.Request.{Request}
use Rattle.ox_routes.specs.declared.route.Route.{Route}
use Rattle.ox_routes.specs.declared.route.Route.TheVariants.{Audit, BlockHash, Connect, Content}
use Rattle.ox_routes.specs.declared.route.Route.TheVariants.{Disconnect, Inscription, Inscriptions}
use Rattle.ox_routes.specs.declared.route.Route.TheVariants.{Output, Rune, Runes, Sat, Status}
use Rattle.ox_routes.specs.Table.{row_of, route_and_part}
use Rattle.ox_sat.specs.Spellings.{sat_in}
use Rattle.ox_model.specs.Audit.{audit_of}
use Rattle.ox_model.specs.Index.{Index}
use Rattle.ox_replies.specs.Audits.{audit_tree}
use Rattle.ox_replies.specs.Content.{content_at}
use Rattle.ox_replies.specs.Inscriptions.{inscription_id, inscription_tree}
use Rattle.ox_replies.specs.Named.{inscription_named, rune_named}
use Rattle.ox_replies.specs.Pages.{page_tree}
use Rattle.ox_replies.specs.Runes.{rune_id, rune_tree}
use Rattle.ox_replies.specs.Texts.{number_in, outpoint_in}
use Rattle.ox_replies.specs.Asked.{Asked}
use Rattle.ox_replies.specs.Blocks.{block_tree}
use Rattle.ox_replies.specs.Errors.{error_tree}
use Rattle.ox_replies.specs.Outputs.{output_tree}
use Rattle.ox_replies.specs.Sats.{sat_tree}
use Rattle.ox_replies.specs.Status.{status_tree}

-- an inscription by its sequence and a jubilee, and a rune by its number
abbrev pub inscription_at : ℕ → Index → ℕ → Option Data
inscription_at jubilee index n =
    option_map (inscription_tree jubilee index n) (slice_get index.inscriptions n)

abbrev pub rune_at : Index → ℕ → Option Data
rune_at index n = option_map (rune_tree index n) (slice_get index.runes n)

-- the tree that a route has for its part, if the part names something; a content and a command have
-- none
abbrev pub tree_at : Asked → Route → List ℕ → Option Data
tree_at asked Status part = Some (status_tree asked)
tree_at asked Audit part = Some (audit_tree (audit_of asked.profile asked.index))
tree_at asked BlockHash part =
    option_and_then
    (λ height. option_map (block_tree height) (slice_get asked.index.hashes height))
    (number_in part)
tree_at asked Inscription part =
    option_and_then (inscription_at asked.profile.jubilee asked.index)
    (inscription_named asked.index.inscriptions part)
tree_at asked Inscriptions part =
    option_map (page_tree inscription_id asked.index.inscriptions) (number_in part)
tree_at asked Output part =
    option_and_then
    (λ at. option_map (output_tree asked.index at) (map.get asked.index.outs at))
    (outpoint_in part)
tree_at asked Rune part = option_and_then (rune_at asked.index) (rune_named asked.index.runes part)
tree_at asked Runes part = option_map (page_tree rune_id asked.index.runes) (number_in part)
tree_at asked Sat part = option_map (sat_tree asked.profile asked.index) (sat_in asked.profile part)
tree_at asked Connect part = None
tree_at asked Content part = None
tree_at asked Disconnect part = None

abbrev pub same_method : Method → Method → Bool
same_method Get Get = true
same_method Post Post = true
same_method Other Other = true
same_method a b = false

-- a reply with a tree, as compact JSON
abbrev pub tree_reply : ℕ → Data → Bool → Reply
tree_reply status tree close = record {
  status = status;
  kind = codes "application/json";
  encoding = None;
  body = compact_text tree;
  close = close;
}

-- a status that isn't 200
abbrev pub error_reply : ℕ → Bool → Reply
error_reply status close = tree_reply status (error_tree status) close

-- the reply of 200 to a part, if it names something: a content as it is, all else as a tree
abbrev pub named_reply : Asked → Route → List ℕ → Bool → Option Reply
named_reply asked Content part close = content_at asked.index.inscriptions part close
named_reply asked route part close =
    option_map (λ tree. tree_reply 200 tree close) (tree_at asked route part)

-- what a route that the path takes replies: 405 for a method that isn't the route's, 403 for a
-- command, and else what its part names
abbrev pub route_reply : Asked → Request → Route → List ℕ → Reply
route_reply asked request route part =
    if not (same_method request.method (row_of route).method) then error_reply 405 request.close
    else if same_method request.method Post then error_reply 403 request.close
    else unwrap_or (named_reply asked route part request.close) (error_reply 404 request.close)

abbrev pub path_reply : Asked → Request → Option (Route × List ℕ) → Reply
path_reply asked request None = error_reply 404 request.close
path_reply asked request (Some at) = route_reply asked request at.0 at.1

-- the reply to a request: 404 where its path takes no route
unfoldable pub reply_of : Asked → Request → Reply
reply_of asked request = path_reply asked request (route_and_part request.path)
