use Rattle.std.proofs.Common.{◌||◌, not, ap, ap₂, sym, ◌∙◌}
use Rattle.std.specs.List.{list_any}
use Rattle.std.specs.Ordering.{is_eq, nat_cmp}
use Rattle.std.specs.Cmp.Lexicographic.{slice_cmp}
use Rattle.std.proofs.lemmas.Map.Text.{is_eq-slice_cmp}
use Rattle.ox_envelope.proofs.PayloadLemmas.{cond_or, is_among-cmp}
use Rattle.ox_envelope.proofs.payload.add_tag.Goals as goal

pub returns-clause-added : goal.returns-clause-added
returns-clause-added c = c.in_ok-insert.ensures.added ∙ ap not (is_among-cmp c.args.tag.now c.args.known.now.keys)

pub returns-clause-known : goal.returns-clause-known
returns-clause-known c = λ q.
    let tag = c.args.tag.now in
    sym (is_among-cmp q c.insert.new.self.keys) ∙ c.in_ok-insert.ensures.updates.0 (record { ref_ptr = (0, 0); now = q })
    ∙ cond_or (is_eq (slice_cmp nat_cmp tag q)) (list_any (λ key. is_eq (slice_cmp nat_cmp q key.now)) c.args.known.now.keys) ∙ ap₂ (λ first others. first || others) (is_eq-slice_cmp tag q) (is_among-cmp q c.args.known.now.keys)
