-- Inscriptions and runes keep their numbers in longer chains.
use Rattle.std.proofs.Common.{◌≡◌, ℕ, ℤ, zero, suc, List, [], ◌∷◌, ◌++◌, length, sym, subst, Some, None, Ok}
use Rattle.std.specs.Prelude.{slice_get}
use Rattle.std.proofs.lemmas.List.Sums.{fold-append}
use Rattle.ox_sat.specs.declared.profiles.Profile.{Profile}
use Rattle.ox_inscribe.specs.Reveal.{reveal_of}
use Rattle.ox_inscribe.specs.Signed.{number_at}
use Rattle.ox_inscribe.specs.declared.row.InsRow.{InsRow}
use Rattle.ox_inscribe.proofs.SignedLaws.{number_stays}
use Rattle.ox_ledger.specs.Part.{Continues}
use Rattle.ox_ledger.proofs.GoOnLemmas.{goes_on_itself, runes_go_on}
use Rattle.ox_model.specs.Chain.{after_block, index_of}
use Rattle.ox_model.specs.Index.{Index, no_blocks, runes_of}
use Rattle.ox_model.specs.Step.{grown_index, step}
use Rattle.ox_model.proofs.Soundness.{kept_by, step_grows}

at_front : {X : Type 0} (xs ys : List X) (n : ℕ) (x : X) → slice_get xs n ≡ Some x → slice_get (xs ++ ys) n ≡ Some x
at_front [] ys n x is = let none : None ≡ Some x = is in absurd (cc none)
at_front (first ∷ xs) ys zero x is = is
at_front (first ∷ xs) ys (suc n) x is = at_front xs ys n x is

-- what is numbered in an index has its number in a later one
pub record Stays (p : Profile) (before after : Index) : Type 0 where
  pub inscriptions : (number : ℕ) (row : InsRow) → slice_get before.inscriptions number ≡ Some row → slice_get after.inscriptions number ≡ Some row
  pub signed : (sequence : ℕ) (number : ℤ) → number_at p.jubilee before.inscriptions sequence ≡ Some number → number_at p.jubilee after.inscriptions sequence ≡ Some number
  pub runes : Continues before.runes after.runes

step_stays : (p : Profile) (first index : Index) (bytes : List ℕ) (new : Index) → Stays p first index → step p index bytes ≡ Ok new → Stays p first new
step_stays p first index bytes new stays is =
    let grows = step_grows p index bytes new is in
    let height = length index.hashes in
    let txs = grows.block.txs in
    let moved = grows.after.moved.txs in
    let grown : Stays p first (grown_index p index grows.block grows.after) = record {
      inscriptions = λ number row there. at_front index.inscriptions (reveal_of index.inscriptions height txs moved) number row (stays.inscriptions number row there);
      signed = λ sequence number there. number_stays p.jubilee index.inscriptions (reveal_of index.inscriptions height txs moved) sequence number (stays.signed sequence number there);
      runes = runes_go_on.on first.runes index.runes (grown_index p index grows.block grows.after).runes stays.runes (runes_go_on.block p height txs moved (runes_of index));
    } in
    subst (Stays p first) grows.is grown

pub stay : (p : Profile) (blocks more : List (List ℕ)) → Stays p (index_of p blocks) (index_of p (blocks ++ more))
stay p blocks more =
    let first = index_of p blocks in
    subst (Stays p first) (sym (fold-append (after_block p) (no_blocks p) blocks more))
    (kept_by p (Stays p first) (step_stays p first) first more (record { inscriptions = λ number row there. there; signed = λ sequence number there. there; runes = goes_on_itself first.runes }))
