use Rattle.std.proofs.Common.{◌≡◌, ◌∙◌, ◌∷◌, take, refl, sym, ap}
use Rattle.std.proofs.lemmas.Result.{err_from_is_err_and}
use Rattle.std.specs.Prelude.{Some, Ok, Option, is_some}
use Rattle.ox_index.specs.Chain.{stack_in}
use Rattle.ox_index.specs.Earlier.{stack_then}
use Rattle.ox_model.specs.Ends.{AllEnd, older_by}
use Rattle.ox_model.specs.Index.{Index}
use Rattle.ox_model.specs.Step.{step}
use Rattle.ox_sat.specs.declared.profiles.Profile.{Profile}
use Rattle.ox_index.specs.Changes.{Kept}
use Rattle.ox_index.specs.Live.{index_in, marked_in, profile_in}
use Rattle.ox_index.proofs.Cancelling.{end_then, ends_alike, few_then, no_mark_then, no_then, refused_on, same_index, same_stack, stack_then_is, still_few, taken_few}
use Rattle.ox_index.proofs.KeptBlocks.{AllEnd-push, AllEnd-take, puts_on}
use Rattle.ox_index.proofs.chain.Chain.connect.Goals as goal

pub invariant_of-self-in_default-clause-kept_then : goal.invariant_of-self-in_default-clause-kept_then
invariant_of-self-in_default-clause-kept_then c =
    let chain = c.args.self.now in
    few_then chain.depth c.push.new.self.before chain.changes.kept (c.in_default.ensures.before ∙ ap (λ (k : Kept). Some k.kept) c.forget.ensures) chain.kept

pub invariant_of-self-in_default-clause-lead : goal.invariant_of-self-in_default-clause-lead
invariant_of-self-in_default-clause-lead c =
    let chain = c.args.self.now in
    let p : Profile = profile_in chain.live in
    let after : Index = index_in c.connect.new.self in
    let kept : c.push.new.self.kept ≡ take chain.depth (c.in_ok-change.change ∷ chain.changes.kept) =
    c.in_default.ensures.kept ∙ ap (λ (k : Kept). take chain.depth (c.in_ok-change.change ∷ k.kept)) c.forget.ensures in
    let all : AllEnd p after (take chain.depth (c.in_ok-change.change ∷ chain.changes.kept)) =
    AllEnd-take p chain.depth after (c.in_ok-change.change ∷ chain.changes.kept)
    (AllEnd-push p (index_in chain.live) after c.in_ok-change.change chain.changes.kept c.in_ok-change.ensures.change chain.live.sound chain.lead) in
    ends_alike p (profile_in c.connect.new.self) after after (take chain.depth (c.in_ok-change.change ∷ chain.changes.kept)) c.push.new.self.kept c.in_ok-change.ensures.profile refl kept all

pub invariant_of-self-in_default-clause-lead_then : goal.invariant_of-self-in_default-clause-lead_then
invariant_of-self-in_default-clause-lead_then c =
    let chain = c.args.self.now in
    end_then (profile_in chain.live) c.connect.new.self (index_in chain.live) c.push.new.self.before chain.changes.kept
    c.in_ok-change.ensures.profile c.in_ok-change.ensures.mark (c.in_default.ensures.before ∙ ap (λ (k : Kept). Some k.kept) c.forget.ensures) chain.lead

pub returns-clause-ok : goal.returns-clause-ok
returns-clause-ok c =
    let chain = c.args.self.now in
    let p : Profile = profile_in chain.live in
    let before : Index = index_in chain.live in
    let after : Index = index_in c.connect.new.self in
    let kept : c.push.new.self.kept ≡ take chain.depth (c.in_ok-change.change ∷ chain.changes.kept) =
    c.in_default.ensures.kept ∙ ap (λ (k : Kept). take chain.depth (c.in_ok-change.change ∷ k.kept)) c.forget.ensures in
    let on = puts_on p chain.depth before after c.in_ok-change.change chain.changes.kept (step p before c.args.block.now) c.in_ok-change.ensures.ok c.in_ok-change.ensures.change in
    let profile = c.in_ok-change.ensures.profile in
    on ∙ (λ i. Ok (record { profile = sym profile i; depth = chain.depth; index = after; older = older_by after (sym kept i) }))

pub returns-clause-mark : goal.returns-clause-mark
returns-clause-mark c =
    let chain = c.args.self.now in
    stack_then_is (profile_in chain.live) (profile_in c.connect.new.self) chain.depth (marked_in c.connect.new.self) (index_in chain.live) c.push.new.self.before chain.changes.kept
    c.in_ok-change.ensures.profile c.in_ok-change.ensures.mark (c.in_default.ensures.before ∙ ap (λ (k : Kept). Some k.kept) c.forget.ensures)

pub invariant_of-self-in_default-clause-kept : goal.invariant_of-self-in_default-clause-kept
invariant_of-self-in_default-clause-kept c =
    taken_few c.args.self.now.depth (c.in_ok-change.change ∷ c.forget.new.self.kept) c.push.new.self.kept c.in_default.ensures.kept

pub returns-clause-none_back : goal.returns-clause-none_back
returns-clause-none_back c = c.in_default.ensures.none

-- ---- where the block isn't taken in

pub invariant_of-self : goal.invariant_of-self
invariant_of-self c =
    let chain = c.args.self.now in
    let kept = ap (λ (k : Kept). k.kept) c.forget.ensures in
    let before = ap (λ (k : Kept). k.before) c.forget.ensures in record {
      some = chain.some;
      few = chain.few;
      kept = still_few chain.depth chain.changes.kept c.forget.new.self.kept kept chain.kept;
      kept_then = λ changes is. no_then c.forget.new.self.before changes before is;
      lead = ends_alike (profile_in chain.live) (profile_in c.connect.new.self) (index_in chain.live) (index_in c.connect.new.self) chain.changes.kept c.forget.new.self.kept c.connect.ensures.profile c.in_err-change.ensures.err kept chain.lead;
      lead_then = λ index is. no_mark_then (marked_in c.connect.new.self) index c.in_err-change.ensures.no_mark is;
    }

pub returns-in_err-change-clause-ok : goal.returns-in_err-change-clause-ok
returns-in_err-change-clause-ok c =
    let p = err_from_is_err_and c.from_residual.result c.from_residual.ensures.1 in
    rw p.1 tt

pub returns-in_err-change-clause-refused : goal.returns-in_err-change-clause-refused
returns-in_err-change-clause-refused c =
    let p = err_from_is_err_and c.from_residual.result c.from_residual.ensures.1 in
    let chain = c.args.self.now in
    rw (p.1, p.2) (refused_on (stack_in chain) (step (profile_in chain.live) (index_in chain.live) c.args.block.now) c.in_err-change.field-0.0 c.in_err-change.ensures.refused)

pub returns-in_err-change-clause-err : goal.returns-in_err-change-clause-err
returns-in_err-change-clause-err c =
    let p = err_from_is_err_and c.from_residual.result c.from_residual.ensures.1 in
    let chain = c.args.self.now in
    rw p.1
    (same_stack (profile_in chain.live) (profile_in c.connect.new.self) chain.depth (index_in chain.live) (index_in c.connect.new.self) chain.changes.kept c.forget.new.self.kept
    c.connect.ensures.profile c.in_err-change.ensures.err (ap (λ (k : Kept). k.kept) c.forget.ensures))

pub returns-in_err-change-clause-mark : goal.returns-in_err-change-clause-mark
returns-in_err-change-clause-mark c =
    let p = err_from_is_err_and c.from_residual.result c.from_residual.ensures.1 in
    rw p.1 tt

pub returns-in_err-change-clause-no_mark : goal.returns-in_err-change-clause-no_mark
returns-in_err-change-clause-no_mark c =
    let p = err_from_is_err_and c.from_residual.result c.from_residual.ensures.1 in
    rw p.1 (ap (λ (m : Option Index). stack_then (profile_in c.connect.new.self) c.args.self.now.depth m c.forget.new.self.before) c.in_err-change.ensures.no_mark)

pub returns-in_err-change-clause-none_back : goal.returns-in_err-change-clause-none_back
returns-in_err-change-clause-none_back c = ap (λ (k : Kept). k.taken_back) c.forget.ensures

-- ---- where there is no memory for its change

pub cancel-requires : goal.cancel-requires
cancel-requires c = ap (λ (m : Option Index). is_some m) c.in_ok-change.ensures.mark

pub invariant_of-self-in-Err : goal.invariant_of-self-in-Err
invariant_of-self-in-Err c =
    let chain = c.args.self.now in
    let only_kept = c.in-Err.ensures.err in
    let kept = ap (λ (k : Kept). k.kept) only_kept ∙ ap (λ (k : Kept). k.kept) c.forget.ensures in
    let before = ap (λ (k : Kept). k.before) only_kept in
    let back = same_index (index_in c.cancel.new.self) (index_in chain.live) (c.cancel.ensures.index ∙ c.in_ok-change.ensures.mark) in record {
      some = chain.some;
      few = chain.few;
      kept = still_few chain.depth chain.changes.kept c.push.new.self.kept kept chain.kept;
      kept_then = λ changes is. no_then c.push.new.self.before changes before is;
      lead = ends_alike (profile_in chain.live) (profile_in c.cancel.new.self) (index_in chain.live) (index_in c.cancel.new.self) chain.changes.kept c.push.new.self.kept (c.cancel.ensures.profile ∙ c.connect.ensures.profile) back kept chain.lead;
      lead_then = λ index is. no_mark_then (marked_in c.cancel.new.self) index c.cancel.ensures.spent is;
    }

pub returns-in-Err-clause-err : goal.returns-in-Err-clause-err
returns-in-Err-clause-err c =
    let chain = c.args.self.now in
    same_stack (profile_in chain.live) (profile_in c.cancel.new.self) chain.depth (index_in chain.live) (index_in c.cancel.new.self) chain.changes.kept c.push.new.self.kept
    (c.cancel.ensures.profile ∙ c.connect.ensures.profile)
    (same_index (index_in c.cancel.new.self) (index_in chain.live) (c.cancel.ensures.index ∙ c.in_ok-change.ensures.mark))
    (ap (λ (k : Kept). k.kept) c.in-Err.ensures.err ∙ ap (λ (k : Kept). k.kept) c.forget.ensures)

pub returns-in-Err-clause-no_mark : goal.returns-in-Err-clause-no_mark
returns-in-Err-clause-no_mark c =
    ap (λ (m : Option Index). stack_then (profile_in c.cancel.new.self) c.args.self.now.depth m c.push.new.self.before) c.cancel.ensures.spent

pub returns-in-Err-clause-none_back : goal.returns-in-Err-clause-none_back
returns-in-Err-clause-none_back c = ap (λ (k : Kept). k.taken_back) c.in-Err.ensures.err
