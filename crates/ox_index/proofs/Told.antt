-- What is told of a block whose satoshis, inscriptions and runes have moved.
use Rattle.std.proofs.Common.{◌≡◌, ◌∙◌, ℕ, List, ◌++◌, length, drop, sym, ap, subst, Option, Some, None}
use Rattle.std.specs.Option.{IfSome}
use Rattle.std.proofs.Math.Seq.{drop-append_seam}
use Rattle.ox_block.specs.Hashes.{block_hash}
use Rattle.ox_block.specs.declared.block.Block.{Block}
use Rattle.ox_sat.specs.declared.profiles.Profile.{Profile}
use Rattle.ox_rules.specs.Differences.{Differ}
use Rattle.ox_rules.specs.Outputs.{Outputs}
use Rattle.ox_rules.specs.declared.moved.Moved.{Moved}
use Rattle.ox_inscribe.specs.Reveal.{reveal_of}
use Rattle.ox_inscribe.specs.declared.row.InsRow.{InsRow}
use Rattle.ox_ledger.specs.Block.{runes_after}
use Rattle.ox_ledger.specs.Part.{Continues, IsPart}
use Rattle.ox_ledger.specs.Runes.{Runes}
use Rattle.ox_ledger.proofs.GoOnLemmas.{runes_go_on}
use Rattle.ox_transfer.specs.Parts.{transferred_of}
use Rattle.ox_model.specs.Change.{outputs_changed}
use Rattle.ox_model.specs.declared.change.Change.{Change}
use Rattle.ox_index.specs.Held.{HasMoved, Held, IsTaken, IsTold, held_then}
use Rattle.ox_index.proofs.Marks.{each_marked, same_held}

module _ (p : Profile) (height : ℕ) (block : Block) (moved : Moved) (mark : Option Held) (old before : Held) (rows : List InsRow) (runes : Runes) (from : ℕ) (change : Change) (has : HasMoved p height block moved mark old) (is : mark ≡ Some before) where
  -- what was held at the mark is what is held but for the outputs
  at_mark : before ≡ record { outs = has.outs; inscriptions = old.inscriptions; runes = old.runes }
  at_mark = same_held before (record { outs = has.outs; inscriptions = old.inscriptions; runes = old.runes }) (sym is ∙ has.marked)

  abbrev pub now : Held
  now = record { outs = old.outs; inscriptions = rows; runes = runes }

  told_of : {hash : List ℕ} → rows ≡ old.inscriptions ++ reveal_of old.inscriptions height block.txs moved.txs
      → runes ≡ runes_after p height block.txs moved.txs old.runes → from ≡ length old.inscriptions → hash ≡ block_hash block.header
      → IsTold mark now hash moved.lost from change
      → IsTaken p height block (record { outs = has.outs; inscriptions = old.inscriptions; runes = old.runes }) now change
  told_of rows_are runes_are from_is hash_is told = record {
    moved = transferred_of moved old.outs;
    moves = has.moves;
    holds = λ i. record { outs = old.outs; inscriptions = rows_are i; runes = runes_are i };
    lost = told.lost_are;
    hash = told.hash_is ∙ hash_is;
    tells = record {
      outputs = told.outputs (record { outs = has.outs; inscriptions = old.inscriptions; runes = old.runes }) has.marked;
      inscriptions =
          let new = reveal_of old.inscriptions height block.txs moved.txs in
          let last : change.inscriptions ≡ new =
          told.inscriptions ∙ (λ i. drop (from_is i) (rows_are i)) ∙ drop-append_seam old.inscriptions new in
          rows_are ∙ ap (λ (l : List InsRow). old.inscriptions ++ l) (sym last);
      continues = subst (λ (r : Runes). Continues old.runes.runes r.runes) (sym runes_are) (runes_go_on.block p height block.txs moved.txs old.runes);
      runes = told.runes (record { outs = has.outs; inscriptions = old.inscriptions; runes = old.runes }) has.marked;
    };
  }

  pub taken_by : {hash : List ℕ} → rows ≡ old.inscriptions ++ reveal_of old.inscriptions height block.txs moved.txs
      → runes ≡ runes_after p height block.txs moved.txs old.runes → from ≡ length old.inscriptions → hash ≡ block_hash block.header
      → IsTold mark now hash moved.lost from change → IsTaken p height block before now change
  taken_by rows_are runes_are from_is hash_is told =
      subst (λ (h : Held). IsTaken p height block h now change) (sym at_mark) (told_of rows_are runes_are from_is hash_is told)

-- ---- what each part tells of its mark is told of the mark of all

part_at : (runes : Option Runes) (before now : Runes) (change : Change) → runes ≡ Some before → IfSome runes (λ (r : Runes). IsPart r now change.runes) → IsPart before now change.runes
part_at (Some r) before now change is part = subst (λ (x : Runes). IsPart x now change.runes) (some_same r before is) part where
  some_same : (a b : Runes) → Some a ≡ Some b → a ≡ b
  some_same a b same = cc
part_at None before now change is part = absurd (cc is)

pub told_since : (outs : Option Outputs) (rows : Option (List InsRow)) (runes : Option Runes) (held : Held) (hash lost : List ℕ) (from : ℕ) (change : Change)
    → change.hash ≡ hash → change.lost ≡ lost
    → ((before : Outputs) → outs ≡ Some before → Differ before held.outs (outputs_changed change))
    → change.inscriptions ≡ drop from held.inscriptions
    → IfSome runes (λ (r : Runes). IsPart r held.runes change.runes)
    → IsTold (held_then outs rows runes) held hash lost from change
told_since outs rows runes held hash lost from change hash_is lost_are differ inscriptions part = record {
  hash_is = hash_is;
  lost_are = lost_are;
  outputs = λ before is. differ before.outs (each_marked outs rows runes before is).outs_at;
  inscriptions = inscriptions;
  runes = λ before is. part_at runes before.runes held.runes change (each_marked outs rows runes before is).runes_at part;
}
