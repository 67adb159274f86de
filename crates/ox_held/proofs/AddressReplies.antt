-- What every reply to an address has.
use Rattle.std.proofs.Common.{ℕ, List, not}
use Rattle.std.specs.Option.{option_map}
use Rattle.ox_http.specs.declared.Request.{Request}
use Rattle.ox_sat.specs.declared.profiles.Profile.{Profile}
use Rattle.ox_model.specs.Index.{Index}
use Rattle.ox_replies.specs.Ask.{same_method, tree_reply}
use Rattle.ox_replies.specs.Errors.{error_tree}
use Rattle.ox_replies.proofs.Told.{IsTold, either_told, or_told, tree_told, trees_told}
use Rattle.ox_held.specs.Paths.{address_row}
use Rattle.ox_held.specs.Replies.{address_reply, tree_named}

pub address_told : (p : Profile) (index : Index) (request : Request) (part : List ℕ) → IsTold request.close (address_reply p index request part)
address_told p index request part =
    either_told (not (same_method request.method address_row.method)) request.close _ _ (tree_told 405 (error_tree 405) request.close)
    (or_told (option_map (λ tree. tree_reply 200 tree request.close) (tree_named p index part)) request.close (trees_told request.close (tree_named p index part)))
