use Rattle.std.proofs.Common.{◌∙◌, List, ap, refl, sym, Some}
use Rattle.ox_model.specs.declared.change.Change.{Change}
use Rattle.ox_plain.specs.Plain.{index_in}
use Rattle.ox_files.specs.Body.{body_of, is_kept}
use Rattle.ox_checkpoint.proofs.StackLemmas.{Kept, none_found, stack_found, stands_found}
use Rattle.ox_checkpoint.proofs.standing.Standing.of_kept.Goals as goal

pub returns-then-not-branch : goal.returns-then-not-branch
returns-then-not-branch c =
    let index = index_in c.args.index in
    none_found c.args.profile c.args.depth (body_of index c.args.changes) (Some (body_of index c.args.changes)) refl
    (sym c.if-not-branch.true ∙ c.in_ok-is_kept.ensures.told ∙ ap (λ (l : List Change). is_kept c.args.profile c.args.depth (body_of index l)) c.as_slice.ensures)

kept : (c : goal.After-from_vec)
    → Kept c.args.profile c.args.depth (body_of (index_in c.args.index) c.args.changes) (body_of (index_in c.is_kept.new.index) c.from_vec.result.items) (Some (body_of (index_in c.args.index) c.args.changes))
kept c =
    let index = index_in c.args.index in
    let same = rw c.if-not-branch.false at c.in_ok-is_kept.ensures.stays in
    let all = c.from_vec.ensures.items ∙ c.into_vec.ensures in record {
      is = refl;
      kept = sym c.if-not-branch.false ∙ c.in_ok-is_kept.ensures.told ∙ ap (λ (l : List Change). is_kept c.args.profile c.args.depth (body_of index l)) c.as_slice.ensures;
      same = λ i. body_of (same i) (all i);
    }

pub invariant_of-result : goal.invariant_of-result
invariant_of-result c = stands_found (kept c) c.requires.known c.requires.depth.0 c.requires.depth.1

pub returns : goal.returns
returns c = stack_found (kept c)
