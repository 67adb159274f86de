use Rattle.std.proofs.Common.{◌∙◌, ℕ, subst, sym}
use Rattle.ox_plain.specs.Plain.{index_in}
use Rattle.ox_sound.specs.Keeps.{Keeps, KeepsRunes, KeepsSats}
use Rattle.ox_sound.proofs.KeepsPassLemmas.{answer_weaker}
use Rattle.ox_sound.proofs.keeps.does_keep.Goals as goal

pub returns : goal.returns
returns c =
    answer_weaker c.do_runes_keep.result (KeepsRunes c.args.p.now (index_in c.args.before.now) c.args.change.now) (Keeps c.args.p.now (index_in c.args.before.now) c.args.change.now)
    (λ runes. record {
      heights = c.do_rows_keep.ensures.heights c.if-not-do_rows_keep.false;
      outputs = c.do_rows_keep.ensures.outputs c.if-not-do_rows_keep.false;
      inscriptions = c.do_rows_keep.ensures.inscriptions c.if-not-do_rows_keep.false;
      sats = subst (λ (n : ℕ). KeepsSats c.args.p.now n c.args.change.now) c.len.ensures (c.in_ok-do_sats_keep.ensures c.if-not-branch.false);
      places = sym c.do_places_keep.ensures ∙ c.if-not-do_places_keep.false;
      runes = runes;
    })
    c.do_runes_keep.ensures
