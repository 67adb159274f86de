-- What is counted of the answers of a run: requests, and hits of a cache of 64 replies.
use Rattle.std.specs.Prelude.{ℕ, ◌+◌, ◌==◌, nat_le, Bool, true, false, ◌&&◌, not, bytes_eq}
use Rattle.std.specs.Prelude.{if◌then◌else◌}
use Rattle.std.specs.Prelude.{List, [], ◌∷◌, take, filter, count_by, Option, Some, None}
use Rattle.std.specs.List.{list_any}
use Rattle.ox_http.specs.declared.Method.{Method}
use Rattle.ox_http.specs.declared.Method.TheVariants.{Get}
use Rattle.ox_http.specs.Talk.{Message, asks, faults}
use Rattle.ox_links.specs.Link.{Answer}

abbrev pub is_request : Option Message → Bool
is_request (Some (asks request)) = true
is_request (Some (faults status)) = false
is_request None = false

-- how many requests are answered; faults and links that gave up aren't counted
abbrev pub requests_in : {C : Type 0} → List (Answer C) → ℕ
requests_in answers = count_by (λ (a : Answer _). is_request a.message) answers

-- what a reply is kept under
pub record Key : Type 0 where
  -- the number of accepted commands
  pub accepted : ℕ
  pub path : List ℕ

-- the keys of which a reply is kept, the last used first, and the hits so far
pub record Tally : Type 0 where
  pub keys : List Key
  pub hits : ℕ

abbrev pub no_tally : Tally
no_tally = record { keys = []; hits = 0 }

abbrev pub is_key : Key → Key → Bool
is_key x y = (x.accepted == y.accepted) && bytes_eq x.path y.path

-- Behind a GET of this key, whose reply has a body of so many bytes. A hit brings its key to the
-- front. A miss puts it there, unless the body is above 65,536 bytes, and the last key of 65 goes.
abbrev pub with_get : Key → ℕ → Tally → Tally
with_get key size tally =
    if list_any (is_key key) tally.keys
    then record {
      keys = key ∷ filter (λ k. not (is_key key k)) tally.keys;
      hits = tally.hits + 1;
    }
    else if nat_le size 65536
    then record tally { keys = take 64 (key ∷ tally.keys) }
    else tally

abbrev pub with_request : {C : Type 0} → Method → List ℕ → Answer C → Tally → Tally
with_request Get path answer tally =
    with_get (record { accepted = answer.accepted; path = path }) answer.reply.size tally
with_request method path answer tally = tally

abbrev pub with_answer_to : {C : Type 0} → Option Message → Answer C → Tally → Tally
with_answer_to (Some (asks request)) answer tally =
    with_request request.method request.path answer tally
with_answer_to (Some (faults status)) answer tally = tally
with_answer_to None answer tally = tally

abbrev pub tally_after : {C : Type 0} → Tally → List (Answer C) → Tally
tally_after tally [] = tally
tally_after tally (answer ∷ answers) =
    tally_after (with_answer_to answer.message answer tally) answers

-- how many of the GETs that are answered a cache would have had a reply for
abbrev pub hits_in : {C : Type 0} → List (Answer C) → ℕ
hits_in answers = (tally_after no_tally answers).hits
