-- What a desk over a store counts.
use Rattle.std.proofs.Common.{ap}
use Rattle.ox_http.specs.declared.Request.{Request}
use Rattle.std.specs.Prelude.{Bool}
use Rattle.ox_desk.specs.Desk.{DeskContents, Moved, Same, tally_of}
use Rattle.ox_desk.specs.Servers.{server_on}
use Rattle.ox_app.proofs.CountsAlong.{Counts, Stays}

abbrev pub DeskCounts : DeskContents → Request → Bool → DeskContents → Type 0
DeskCounts = Counts server_on (λ (d : DeskContents). d.stack) (λ (d : DeskContents). d.requests) (λ (d : DeskContents). d.commands) (λ (d : DeskContents). tally_of d.cache)

pub moves : (old : DeskContents) (request : Request) (operator : Bool) (new : DeskContents) → Moved old request operator new → DeskCounts old request operator new
moves old request operator new moved = record { many = moved.requests; commands = moved.commands; tallied = moved.tally }

pub stays : (old new : DeskContents) → Same old new → Stays (λ (d : DeskContents). d.requests) (λ (d : DeskContents). d.commands) (λ (d : DeskContents). tally_of d.cache) old new
stays old new same = record {
  many = ap (λ (d : DeskContents). d.requests) same;
  commands = ap (λ (d : DeskContents). d.commands) same;
  tallied = ap (λ (d : DeskContents). tally_of d.cache) same;
}
