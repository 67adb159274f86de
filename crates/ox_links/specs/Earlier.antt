-- Answers to the same GET.
use Rattle.std.specs.Prelude.{◌≡◌, ℕ, List, Some}
use Rattle.std.specs.List.{Any}
use Rattle.ox_http.specs.declared.Method.TheVariants.{Get}
use Rattle.ox_http.specs.declared.Request.{Request}
use Rattle.ox_http.specs.Talk.{asks}
use Rattle.ox_links.specs.Link.{Answer}

-- an answer to a GET of this path, before which so many commands were accepted
pub record IsToGet {C : Type 0} (path : List ℕ) (accepted : ℕ) (answer : Answer C) : Type 0 where
  pub request : Request
  pub message : answer.message ≡ Some (asks request)
  pub get : request.method ≡ Get
  pub same_path : request.path ≡ path
  pub same_accepted : answer.accepted ≡ accepted

-- an answer is to a GET, and one of those before it is to the same, by the same state
abbrev pub HasEarlier : {C : Type 0} → List (Answer C) → Answer C → Type 0
HasEarlier before answer =
    (path : List ℕ) × IsToGet path answer.accepted answer
    × Any (IsToGet path answer.accepted) before
