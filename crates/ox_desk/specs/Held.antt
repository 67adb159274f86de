-- Which outputs each script has, beside a store, and of which script a request asks.
use Rattle.std.specs.Prelude.{ℕ, List, Option, None, IfSome}
use Rattle.ox_http.specs.declared.Method.{Method}
use Rattle.ox_http.specs.declared.Method.TheVariants.{Get}
use Rattle.ox_sat.specs.declared.profiles.Profile.{Profile}
use Rattle.ox_address.specs.Spelled.{script_in}
use Rattle.ox_holders.specs.Keys.{StandFor}
use Rattle.ox_holders.specs.declared.holders.Holders.{Holders}
use Rattle.ox_model.specs.Index.{Index}
use Rattle.ox_held.specs.Paths.{hrp_in}

-- the holders of an index, if there are any
abbrev pub AreHoldersOf : Index → Option Holders → Type 0
AreHoldersOf index holders = IfSome holders (λ held. StandFor held index.outs)

-- the script of a GET, by the chain's profile and the part that stands for the script's address
abbrev pub script_asked : Profile → Method → List ℕ → Option (List ℕ)
script_asked p Get part = script_in (hrp_in p) part
script_asked p method part = None
