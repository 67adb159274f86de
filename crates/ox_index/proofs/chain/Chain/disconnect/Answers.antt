use Rattle.std.proofs.Common.{◌≡◌, ◌∙◌, List, drop, refl, sym, ap, subst, Option}
use Rattle.std.proofs.lemmas.Result.{err_from_is_err_and}
use Rattle.std.specs.Prelude.{slice_get, Some, Ok}
use Rattle.ox_sat.specs.declared.profiles.Profile.{Profile}
use Rattle.ox_model.specs.Change.{IsChange, undone}
use Rattle.ox_model.specs.Ends.{AllEnd, EndsIn}
use Rattle.ox_model.specs.Index.{Index}
use Rattle.ox_model.specs.Stack.{Stack}
use Rattle.ox_model.specs.declared.change.Change.{Change}
use Rattle.ox_index.specs.Changes.{Kept}
use Rattle.ox_index.specs.Chain.{stack_in}
use Rattle.ox_index.specs.Earlier.{stack_then}
use Rattle.ox_index.specs.Live.{index_in, marked_in, profile_in}
use Rattle.ox_index.proofs.Cancelling.{dropped_few, end_then, ends_alike, few_then, leads_by, no_then, none_then, same_stack, stack_then_is, still_few}
use Rattle.ox_index.proofs.KeptBlocks.{AllEnd-drop, goes_back_to, newest_ends, none_kept}
use Rattle.ox_index.proofs.chain.Chain.disconnect.Goals as goal

pub returns-in_default-clause-refused : goal.returns-in_default-clause-refused
returns-in_default-clause-refused c =
    let chain = c.args.self.now in
    none_kept (stack_in chain) (index_in chain.live) chain.changes.kept (c.in_default.ensures ∙ ap (λ (k : Kept). slice_get k.kept 0) c.forget.ensures)

pub back-requires : goal.back-requires
back-requires c =
    let chain = c.args.self.now in
    newest_ends (profile_in chain.live) (index_in chain.live) chain.changes.kept c.in-Some.change.now chain.lead (c.in-Some.ensures ∙ ap (λ (k : Kept). slice_get k.kept 0) c.forget.ensures)

-- ---- where no block is kept

pub invariant_of-self : goal.invariant_of-self
invariant_of-self c =
    let chain = c.args.self.now in
    let kept = ap (λ (k : Kept). k.kept) c.forget.ensures in
    let before = ap (λ (k : Kept). k.before) c.forget.ensures in record {
      some = chain.some;
      few = chain.few;
      kept = still_few chain.depth chain.changes.kept c.forget.new.self.kept kept chain.kept;
      kept_then = λ changes is. no_then c.forget.new.self.before changes before is;
      lead = ends_alike (profile_in chain.live) (profile_in chain.live) (index_in chain.live) (index_in chain.live) chain.changes.kept c.forget.new.self.kept refl refl kept chain.lead;
      lead_then = λ index there changes is. no_then c.forget.new.self.before changes before is;
    }

pub returns-in_default-clause-err : goal.returns-in_default-clause-err
returns-in_default-clause-err c =
    let chain = c.args.self.now in
    same_stack (profile_in chain.live) (profile_in chain.live) chain.depth (index_in chain.live) (index_in chain.live) chain.changes.kept c.forget.new.self.kept refl refl (ap (λ (k : Kept). k.kept) c.forget.ensures)

pub returns-in_default-clause-no_mark : goal.returns-in_default-clause-no_mark
returns-in_default-clause-no_mark c =
    let chain = c.args.self.now in
    none_then (profile_in chain.live) chain.depth (marked_in chain.live) c.forget.new.self.before (ap (λ (k : Kept). k.before) c.forget.ensures)

pub returns-in_default-clause-none_back : goal.returns-in_default-clause-none_back
returns-in_default-clause-none_back c = ap (λ (k : Kept). k.taken_back) c.forget.ensures

-- ---- where there is no memory for the way back

pub returns-in_err-back-clause-ok : goal.returns-in_err-back-clause-ok
returns-in_err-back-clause-ok c =
    let p = err_from_is_err_and c.from_residual.result c.from_residual.ensures.1 in
    rw p.1 tt

pub returns-in_err-back-clause-change : goal.returns-in_err-back-clause-change
returns-in_err-back-clause-change c =
    let p = err_from_is_err_and c.from_residual.result c.from_residual.ensures.1 in
    rw p.1 tt

pub returns-in_err-back-clause-refused : goal.returns-in_err-back-clause-refused
returns-in_err-back-clause-refused c =
    let p = err_from_is_err_and c.from_residual.result c.from_residual.ensures.1 in
    rw (p.1, p.2) tt

pub returns-in_err-back-clause-err : goal.returns-in_err-back-clause-err
returns-in_err-back-clause-err c =
    let p = err_from_is_err_and c.from_residual.result c.from_residual.ensures.1 in
    let chain = c.args.self.now in
    rw p.1
    (same_stack (profile_in chain.live) (profile_in c.back.new.self) chain.depth (index_in chain.live) (index_in c.back.new.self) chain.changes.kept c.forget.new.self.kept
    c.back.ensures.profile c.in_err-back.ensures.err (ap (λ (k : Kept). k.kept) c.forget.ensures))

pub returns-in_err-back-clause-mark : goal.returns-in_err-back-clause-mark
returns-in_err-back-clause-mark c =
    let p = err_from_is_err_and c.from_residual.result c.from_residual.ensures.1 in
    rw p.1 tt

pub returns-in_err-back-clause-no_mark : goal.returns-in_err-back-clause-no_mark
returns-in_err-back-clause-no_mark c =
    let p = err_from_is_err_and c.from_residual.result c.from_residual.ensures.1 in
    rw p.1 (ap (λ (m : Option Index). stack_then (profile_in c.back.new.self) c.args.self.now.depth m c.forget.new.self.before) c.in_err-back.ensures.no_mark)

pub returns-in_err-back-clause-none_back : goal.returns-in_err-back-clause-none_back
returns-in_err-back-clause-none_back c =
    let p = err_from_is_err_and c.from_residual.result c.from_residual.ensures.1 in
    rw p.1 (ap (λ (k : Kept). k.taken_back) c.forget.ensures)

-- ---- where the newest block is taken back

pub invariant_of-self-2 : goal.invariant_of-self-2
invariant_of-self-2 c =
    let chain = c.args.self.now in
    let p : Profile = profile_in chain.live in
    let index : Index = index_in chain.live in
    let change = c.in-Some.change.now in
    let was = c.forget.new.self.kept in
    let lead : AllEnd p index was = subst (AllEnd p index) (sym (ap (λ (k : Kept). k.kept) c.forget.ensures)) chain.lead in record {
      some = chain.some;
      few = chain.few;
      kept = dropped_few chain.depth was c.take_back.new.self.kept c.take_back.ensures.kept (still_few chain.depth chain.changes.kept was (ap (λ (k : Kept). k.kept) c.forget.ensures) chain.kept);
      kept_then = few_then chain.depth c.take_back.new.self.before was c.take_back.ensures.before (still_few chain.depth chain.changes.kept was (ap (λ (k : Kept). k.kept) c.forget.ensures) chain.kept);
      lead = ends_alike p (profile_in c.back.new.self) (undone index change) (index_in c.back.new.self) (drop 1 was) c.take_back.new.self.kept c.back.ensures.profile c.in_ok-back.ensures.ok c.take_back.ensures.kept
          (AllEnd-drop p index was change lead c.in-Some.ensures);
      lead_then = end_then p c.back.new.self index c.take_back.new.self.before was c.back.ensures.profile c.in_ok-back.ensures.mark c.take_back.ensures.before lead;
    }

pub returns-clause-ok : goal.returns-clause-ok
returns-clause-ok c =
    let chain = c.args.self.now in
    let p : Profile = profile_in chain.live in
    let index : Index = index_in chain.live in
    let change = c.in-Some.change.now in
    let was = c.forget.new.self.kept in
    let same = ap (λ (k : Kept). k.kept) c.forget.ensures in
    let there : Some change ≡ slice_get chain.changes.kept 0 = c.in-Some.ensures ∙ ap (λ (l : List Change). slice_get l 0) same in
    goes_back_to (stack_in chain) index chain.changes.kept change there
    ∙ ap (λ (s : Stack). Ok s)
    (sym (same_stack p (profile_in c.back.new.self) chain.depth (undone index change) (index_in c.back.new.self) (drop 1 chain.changes.kept) c.take_back.new.self.kept c.back.ensures.profile c.in_ok-back.ensures.ok
    (c.take_back.ensures.kept ∙ ap (λ (l : List Change). drop 1 l) same)))

pub returns-clause-change : goal.returns-clause-change
returns-clause-change c =
    let chain = c.args.self.now in
    let p : Profile = profile_in chain.live in
    let index : Index = index_in chain.live in
    let change = c.in-Some.change.now in
    let there : Some change ≡ slice_get chain.changes.kept 0 = c.in-Some.ensures ∙ ap (λ (k : Kept). slice_get k.kept 0) c.forget.ensures in
    let ends : EndsIn p index change = newest_ends p index chain.changes.kept change chain.lead there in
    leads_by (index_in c.back.new.self) index c.take_back.new.self.taken_back change (c.take_back.ensures.taken ∙ sym c.in-Some.ensures)
    (subst (λ (i : Index). IsChange i index change) (sym c.in_ok-back.ensures.ok) ends.leads)

pub returns-clause-mark : goal.returns-clause-mark
returns-clause-mark c =
    let chain = c.args.self.now in
    stack_then_is (profile_in chain.live) (profile_in c.back.new.self) chain.depth (marked_in c.back.new.self) (index_in chain.live) c.take_back.new.self.before chain.changes.kept
    c.back.ensures.profile c.in_ok-back.ensures.mark (c.take_back.ensures.before ∙ ap (λ (k : Kept). Some k.kept) c.forget.ensures)
