-- The reply to each request of a link of either door, by a state that turns by commands. The state
-- is a machine, or a machine's stack.
use Rattle.std.specs.Prelude.{ℕ, Bool, List, ◌++◌, codes, decimal, Option, Some, None, Result, Ok}
use Rattle.std.specs.Prelude.{Err}
use Rattle.serde_json.specs.Data.{Data, string, object, no_members, member}
use Rattle.ox_feed.specs.declared.command.Command.{Command}
use Rattle.ox_http.specs.declared.Reply.{Reply}
use Rattle.ox_http.specs.declared.Request.{Request}
use Rattle.ox_rules.specs.Text.{hash_text, outpoint_text, pair_text}
use Rattle.ox_rules.specs.declared.refusal.Refusal.{Refusal}
use Rattle.ox_rules.specs.declared.refusal.Refusal.TheVariants.{TooLong, Syntax, Malformed}
use Rattle.ox_rules.specs.declared.refusal.Refusal.TheVariants.{ChainEnd, Unlinked, BadRoot}
use Rattle.ox_rules.specs.declared.refusal.Refusal.TheVariants.{Coinbase, BadWitness, UnknownOutput}
use Rattle.ox_rules.specs.declared.refusal.Refusal.TheVariants.{Overspend, Overclaim, Depth}
use Rattle.ox_index.specs.Tip.{tip_of}
use Rattle.ox_asof.specs.AskedKept.{AskedKept}
use Rattle.ox_replies.specs.Ask.{tree_reply}
use Rattle.ox_replies.specs.Values.{count, or_null}
use Rattle.ox_desk.specs.Commands.{command_of}
use Rattle.ox_desk.specs.Queries.{query_reply}

-- ---- what is said of a command

-- an accepted command tells the newest block after it; both are null where there is none
abbrev pub newest_tree : Option (ℕ × List ℕ) → Data
newest_tree tip = object (
    member (codes "hash") (or_null (λ (t : ℕ × List ℕ). string (hash_text t.1)) tip) (
    member (codes "height") (or_null (λ (t : ℕ × List ℕ). count t.0) tip) no_members))

-- a refusal's number, and its values with single spaces
unfoldable pub refusal_text : Refusal → List ℕ
refusal_text TooLong = codes "2"
refusal_text Syntax = codes "1"
refusal_text (Malformed at) = codes "3 " ++ decimal at
refusal_text (ChainEnd height) = codes "4 " ++ decimal height
refusal_text (Unlinked have want) = codes "5 " ++ hash_text have ++ codes " " ++ hash_text want
refusal_text (BadRoot have want) = codes "6 " ++ hash_text have ++ codes " " ++ hash_text want
refusal_text (Coinbase tx) = codes "7 " ++ decimal tx
refusal_text BadWitness = codes "12"
refusal_text (UnknownOutput tx input at) =
    codes "8 " ++ decimal tx ++ codes " " ++ decimal input ++ codes " " ++ outpoint_text at
refusal_text (Overspend tx inputs outputs) =
    codes "9 " ++ decimal tx ++ codes " " ++ pair_text inputs outputs
refusal_text (Overclaim claimable claimed) = codes "10 " ++ pair_text claimable claimed
refusal_text Depth = codes "11"

abbrev pub refused_tree : Refusal → Data
refused_tree refusal =
    object (member (codes "refused") (string (refusal_text refusal)) no_members)

-- the reply to an accepted command, by the newest block after it: 200
abbrev pub accepted_reply : Option (ℕ × List ℕ) → Bool → Reply
accepted_reply tip close = tree_reply 200 (newest_tree tip) close

-- the reply to a command that is refused: 409
abbrev pub refused_reply : Refusal → Bool → Reply
refused_reply refusal close = tree_reply 409 (refused_tree refusal) close

-- ---- the reply to a request

-- the reply to a command, by what came of it
abbrev pub command_reply : {X : Type 0} → (X → AskedKept) → Result X Refusal → Bool → Reply
command_reply asked (Ok new) close = accepted_reply (tip_of (asked new).first.index) close
command_reply asked (Err refusal) close = refused_reply refusal close

-- the reply to a request that may be a command
abbrev pub reply_or : {X : Type 0} → (X → Command → Result X Refusal) → (X → AskedKept) → X
    → Request → Option Command → Reply
reply_or turn asked state request (Some command) =
    command_reply asked (turn state command) request.close
reply_or turn asked state request None = query_reply (asked state) request

-- the reply to a request, by the state before it; whether its link is the operator's
abbrev pub reply_by : {X : Type 0} → (X → Command → Result X Refusal) → (X → AskedKept) → X
    → Bool → Request → Reply
reply_by turn asked state operator request =
    reply_or turn asked state request (command_of operator request)
