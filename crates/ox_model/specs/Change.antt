-- What one block changes in an index, and how the index before it and the one after it are had from
-- one another.
use Rattle.std.specs.Prelude.{◌≡◌, ◌-◌, [], ◌∷◌, ◌++◌, length, take}
use Rattle.ox_block.specs.declared.block.OutPoint.{OutPoint}
use Rattle.ox_rules.specs.declared.rows.OutRow.{OutRow}
use Rattle.ox_rules.specs.Differences.{AreGone, Difference, other_end, reverse_of}
use Rattle.ox_ledger.specs.Part.{Continues, IsPart, earlier_end, later_end}
use Rattle.ox_model.specs.Index.{Index, runes_of}
use Rattle.ox_model.specs.declared.change.Change.{Change}

-- a change leads from one index to another
pub record IsChange (before after : Index) (change : Change) : Type 0 where
  -- the block's hash stands behind those before
  pub hash : after.hashes ≡ before.hashes ++ change.hash ∷ []
  -- the outputs before that don't stand so after, and those after that didn't stand so before
  pub gone : AreGone before.outs after.outs change.gone
  pub came : AreGone after.outs before.outs change.came
  -- the satoshis that the block lost stand behind those lost before
  pub lost : after.lost ≡ before.lost ++ change.lost
  -- and the inscriptions that it revealed behind those before
  pub inscriptions : after.inscriptions ≡ before.inscriptions ++ change.inscriptions
  -- of earlier runes no more changed than their mints and what was burned
  pub continues : Continues before.runes after.runes
  pub runes : IsPart (runes_of before) (runes_of after) change.runes

-- how the tables of outputs differ
abbrev pub outputs_changed : Change → Difference OutPoint OutRow
outputs_changed change = record { gone = change.gone; came = change.came }

-- the index before a change that ends in this one
abbrev pub undone : Index → Change → Index
undone after change =
    let runes = earlier_end (runes_of after) change.runes in record {
      hashes = take (length after.hashes - 1) after.hashes;
      outs = other_end after.outs (outputs_changed change);
      lost = take (length after.lost - length change.lost) after.lost;
      inscriptions =
          take (length after.inscriptions - length change.inscriptions) after.inscriptions;
      bal = runes.bal;
      runes = runes.runes;
    }

-- the index after a change that begins in this one
abbrev pub redone : Index → Change → Index
redone before change =
    let runes = later_end (runes_of before) change.runes in record {
      hashes = before.hashes ++ change.hash ∷ [];
      outs = other_end before.outs (reverse_of (outputs_changed change));
      lost = before.lost ++ change.lost;
      inscriptions = before.inscriptions ++ change.inscriptions;
      bal = runes.bal;
      runes = runes.runes;
    }
