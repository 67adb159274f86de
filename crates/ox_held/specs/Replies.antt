-- The reply to a request for what an address holds.
use Rattle.std.specs.Prelude.{ℕ, not, List, Option, unwrap_or, if◌then◌else◌}
use Rattle.std.specs.Option.{option_map}
use Rattle.serde_json.specs.Data.{Data}
use Rattle.ox_address.specs.Spelled.{script_in}
use Rattle.ox_http.specs.declared.Reply.{Reply}
use Rattle.ox_http.specs.declared.Request.{Request}
use Rattle.ox_sat.specs.declared.profiles.Profile.{Profile}
use Rattle.ox_model.specs.Index.{Index}
use Rattle.ox_replies.specs.Ask.{error_reply, same_method, tree_reply}
use Rattle.ox_held.specs.Paths.{address_row, hrp_in}
use Rattle.ox_held.specs.Trees.{address_tree}

-- the tree of a part, if it is an address of the chain
abbrev pub tree_named : Profile → Index → List ℕ → Option Data
tree_named p index part =
    option_map (address_tree index (hrp_in p)) (script_in (hrp_in p) part)

-- the reply to a request whose path has a part that stands for an address: 405 for another method
-- than GET, 404 where the part is no address of the chain
abbrev pub address_reply : Profile → Index → Request → List ℕ → Reply
address_reply p index request part =
    if not (same_method request.method address_row.method) then error_reply 405 request.close
    else unwrap_or
    (option_map (λ tree. tree_reply 200 tree request.close) (tree_named p index part))
    (error_reply 404 request.close)
