-- What a step behind the body makes of what two files stand for.
use Rattle.std.proofs.Common.{◌≡◌, ◌∙◌, ◌≤◌, ◌+◌, ℕ, List, [], ◌∷◌, ◌++◌, length, refl, sym, ap, subst, arith, length-append, append_assoc}
use Rattle.std.specs.Prelude.{Result, Ok, Err, Option, Some, None, IfSome, drop}
use Rattle.std.proofs.lemmas.List.{append-nil}
use Rattle.ox_outside.specs.Files.{Files, file_of, other}
use Rattle.ox_outside.specs.declared.site.Site.{Ghosts as Meanings}
use Rattle.ox_gated.specs.Gate.{IsBroken, IsOpen, IsShut, chain_of}
use Rattle.ox_gated.specs.Layout.{Layout, is_closed, summed}
use Rattle.ox_gated.specs.Parts.{HasEnded, HasStepped, HasWalked, IsHere, IsWithin, StandAs, Walked, found_at, tail_at, walked_on}
use Rattle.ox_gated.specs.Reading.{Chain, Found, Fault, found_or_fault, gate_behind, is_any, reading, with_record}
use Rattle.ox_gated.specs.Tail.{Keeps}
use Rattle.ox_gated.specs.declared.records.Record.{Record}
use Rattle.ox_gated.proofs.GateHere.{layout_is}

module _ (walker : Walked) (version : walker.head.version ≡ 3) (body : List ℕ) (records : List Record) (files : Files) (walked : HasWalked walker body records files) where
  abbrev rest : List ℕ
  rest = drop walker.place (file_of files walker.file)

  abbrev stood : Chain → Result Found Fault
  stood chain = found_or_fault walker.file walker.head body (records ++ chain.records) chain.end

  pub stand_ended : IsShut walker.head walker.place rest → StandAs files (Ok (found_at walker body records))
  stand_ended shut reads read = walked.stand reads read ∙ ap stood shut ∙ ap (λ (l : List Record). Ok (found_at walker body l)) (append-nil records)

  pub stand_broken : IsBroken walker.head walker.place rest
      → StandAs files (Err (record { file = walker.file; at = walker.place; before = Some (record { head = walker.head; body = body; records = records }) }))
  stand_broken broken reads read =
      walked.stand reads read ∙ ap stood broken
      ∙ ap (λ (l : List Record). Err (record { file = walker.file; at = walker.place; before = Some (record { head = walker.head; body = body; records = l }) })) (append-nil records)

  pub ended : {S : Type 0} (means : Meanings S) (site : S) → means.seen site ≡ files → IsShut walker.head walker.place rest → HasEnded means walker body records site
  ended means site same shut =
      let there = walked.there in
      let stand = stand_ended shut in
      let head = layout_is walker.head version walker.place (file_of files walker.file) in
      let keeps : Keeps (tail_at walker) (Ok (found_at walker body records)) =
      record { file = refl; head = refl; first = walked.first ∙ ap (λ (l : Layout). l.body_at + length body) (sym head); records = walked.count; gate = refl } in
      let reads : Keeps (tail_at walker) (reading is_any files) = subst (Keeps (tail_at walker)) (sym (stand is_any refl)) keeps in
      record {
        stand = subst (λ (f : Files). StandAs f (Ok (found_at walker body records))) (sym same) stand;
        holds = λ settled. record {
          settled = settled;
          some_a = subst (λ (f : Files). 1 ≤ length f.a) (sym same) there.some_a;
          some_b = subst (λ (f : Files). 1 ≤ length f.b) (sym same) there.some_b;
          keeps = subst (λ (f : Files). Keeps (tail_at walker) (reading is_any f)) (sym same) reads;
          closed = subst (λ (f : Files). walker.other_closed ≡ is_closed (file_of f (other walker.file))) (sym same) there.closed;
        };
      }

  -- one record further
  pub walked_further : (one : Record) → one.place ≡ walker.place → IsOpen walker.head walker.place rest one.payload (drop (gate_behind summed walker.place one.payload) (file_of files walker.file))
      → HasWalked (walked_on walker (Some one)) body (records ++ one ∷ []) files
  walked_further one place is_open =
      let behind = drop (gate_behind summed walker.place one.payload) (file_of files walker.file) in
      let more = chain_of walker.head (gate_behind summed walker.place one.payload) behind in
      let gate = ap (λ (l : Layout). with_record walker.place one.payload (chain_of walker.head (gate_behind l walker.place one.payload) behind)) (layout_is walker.head version walker.place (file_of files walker.file)) in
      let same : record { place = walker.place; payload = one.payload } ≡ one = λ i. record { place = sym place i; payload = one.payload } in
      let chain : chain_of walker.head walker.place rest ≡ record { records = one ∷ more.records; end = more.end } =
      is_open.chain_is ∙ gate ∙ ap (λ (r : Record). record { records = r ∷ more.records; end = more.end }) same in
      record {
        there = walked.there;
        first = walked.first;
        count = omega (arith, walked.count, length-append records (one ∷ []));
        stand = λ reads read.
            walked.stand reads read ∙ ap stood chain
            ∙ ap (λ (l : List Record). found_or_fault walker.file walker.head body l more.end) (sym (append_assoc records (one ∷ []) more.records));
      }

  -- after a step
  pub stepped : {S : Type 0} (means : Meanings S) (site : S) → means.seen site ≡ files → (step : Option Record) → IsHere walker (file_of files walker.file) step → IfSome step (IsWithin walker)
      → (new : Walked) → new ≡ walked_on walker step → HasStepped means new body records step site
  stepped means site same None here within new is = subst (λ (w : Walked). HasEnded means w body records site) (sym is) (ended means site same here)
  stepped means site same (Some one) here within new is =
      subst (λ (f : Files). HasWalked new body (records ++ one ∷ []) f) (sym same)
      (subst (λ (w : Walked). HasWalked w body (records ++ one ∷ []) files) (sym is) (walked_further one within.0 here))
