use Rattle.std.proofs.Common.{rules, refl, ◌<◌, ◌≡◌, ◌∙◌, ℕ, Bool, cond, List, length-set, sym, ap, subst, Option, Some, inl, inr, ⊎_elim}
use Rattle.std.specs.Prelude.{Result, Ok, Err, OnErr}
use Rattle.std.specs.BTreeMap.{is_at}
use Rattle.std.specs.Map.{lookup}
use Rattle.ox_block.specs.Keys.{outpoint_tag}
use Rattle.ox_rules.specs.Outputs.{outpoint_cmp}
use Rattle.ox_shards.specs.Lines.{line_of}
use Rattle.ox_outputs.specs.declared.entry.Entry.{Entry}
use Rattle.ox_outputs.specs.Lists.{is_in}
use Rattle.ox_outputs.specs.Places.{other_at}
use Rattle.ox_outputs.proofs.ListLemmas.{pushed_here, pushed_still, set_again}
use Rattle.ox_outputs.proofs.PlaceLemmas.{same_or_not, same_itself, is_same}
use Rattle.ox_outputs.proofs.places.Places.add.Goals as goal

on_err : {A E P : Type 0} (r : Result A E) → P → OnErr r P
on_err (Ok x) holds = tt
on_err (Err e) holds = holds

below : (i count n : ℕ) → i < count → n ≡ count → i < n
below i count n low all = subst (λ (m : ℕ). i < m) (sym all) low

pub grow-requires : goal.grow-requires
grow-requires c = length-set c.make_first.new.lists.items c.line_of.result c.push.new.list ∙ c.in_ok-make_first.ensures.all

pub returns-in_ok-push-clause-added : goal.returns-in_ok-push-clause-added
returns-in_ok-push-clause-added c =
    c.grow.ensures.kept c.args.at c.args.place
    (inl (pushed_here c.make_first.new.lists.items c.line_of.result (line_of c.args.self.now.lines (outpoint_tag c.args.at)) c.index_mut-list.result.now.items c.push.new.list c.tag-tag.result (outpoint_tag c.args.at) c.args.place
    (below c.line_of.result c.args.self.now.lines.count _ c.line_of.ensures.in_range c.in_ok-make_first.ensures.all) (search rules) c.tag-tag.ensures c.in_ok-push.ensures.ok))

pub returns-in_ok-push-clause-before : goal.returns-in_ok-push-clause-before
returns-in_ok-push-clause-before c = λ q p has other.
    c.grow.ensures.kept q p (⊎_elim
    (λ is. inl (pushed_still c.make_first.new.lists.items c.line_of.result (line_of c.args.self.now.lines (outpoint_tag q)) c.index_mut-list.result.now c.push.new.list _ (outpoint_tag q) p
    (below c.line_of.result c.args.self.now.lines.count _ c.line_of.ensures.in_range c.in_ok-make_first.ensures.all) c.index_mut-list.ensures.value c.in_ok-push.ensures.ok
    (ap (λ (l : List Entry). is_in l (outpoint_tag q) p) (c.make_first.ensures.same (line_of c.args.self.now.lines (outpoint_tag q))) ∙ is)))
    (λ is. inr is)
    has)

pub returns-in_ok-push-clause-others : goal.returns-in_ok-push-clause-others
returns-in_ok-push-clause-others c = λ q p is. inl (sym (c.grow.ensures.others q) ∙ is)

pub returns-in_ok-insert-clause-before : goal.returns-in_ok-insert-clause-before
returns-in_ok-insert-clause-before c = λ q p has other. ⊎_elim
    (λ is. inl (ap (λ (l : List Entry). is_in l (outpoint_tag q) p)
    (set_again c.make_first.new.lists.items c.line_of.result (line_of c.args.self.now.lines (outpoint_tag q)) c.index_mut-list.result.now c.index_mut-list.result.now
    (below c.line_of.result c.args.self.now.lines.count _ c.line_of.ensures.in_range c.in_ok-make_first.ensures.all) c.index_mut-list.ensures.value refl
    ∙ c.make_first.ensures.same (line_of c.args.self.now.lines (outpoint_tag q))) ∙ is))
    (λ is. inr (⊎_elim
    (λ same. absurd (other (sym same)))
    (λ differs. c.in_ok-insert.ensures.updates.0 q ∙ ap (λ (b : Bool). cond b (Some c.args.place) (other_at c.args.self.now q)) differs ∙ is)
    (same_or_not c.args.at q)))
    has

the_place : (p q : ℕ) → ◌≡◌ {A = Option ℕ} (Some p) (Some q) → p ≡ q
the_place p q is = cc is

pub returns-in_ok-insert-clause-others : goal.returns-in_ok-insert-clause-others
returns-in_ok-insert-clause-others c = λ q p is. ⊎_elim
    (λ same. inr (sym same, sym (the_place c.args.place p (sym (c.in_ok-insert.ensures.updates.0 q ∙ ap (λ (b : Bool). cond b (Some c.args.place) (other_at c.args.self.now q)) (ap (is_same c.args.at) (sym same) ∙ same_itself c.args.at)) ∙ is))))
    (λ differs. inl (sym (c.in_ok-insert.ensures.updates.0 q ∙ ap (λ (b : Bool). cond b (Some c.args.place) (other_at c.args.self.now q)) differs) ∙ is))
    (same_or_not c.args.at q)

pub returns-in_err-push-clause-err : goal.returns-in_err-push-clause-err
returns-in_err-push-clause-err c =
    on_err c.from_residual-in_err-push.result (λ q. (
      set_again c.make_first.new.lists.items c.line_of.result (line_of c.args.self.now.lines (outpoint_tag q)) c.index_mut-list.result.now c.push.new.list
          (below c.line_of.result c.args.self.now.lines.count _ c.line_of.ensures.in_range c.in_ok-make_first.ensures.all) c.index_mut-list.ensures.value c.in_err-push.ensures.err
          ∙ c.make_first.ensures.same (line_of c.args.self.now.lines (outpoint_tag q)),
      refl,
    ))

pub returns-in_err-push-clause-before : goal.returns-in_err-push-clause-before
returns-in_err-push-clause-before c = λ q p has other. ⊎_elim
    (λ is. inl (ap (λ (l : List Entry). is_in l (outpoint_tag q) p)
    (set_again c.make_first.new.lists.items c.line_of.result (line_of c.args.self.now.lines (outpoint_tag q)) c.index_mut-list.result.now c.push.new.list
    (below c.line_of.result c.args.self.now.lines.count _ c.line_of.ensures.in_range c.in_ok-make_first.ensures.all) c.index_mut-list.ensures.value c.in_err-push.ensures.err
    ∙ c.make_first.ensures.same (line_of c.args.self.now.lines (outpoint_tag q))) ∙ is))
    (λ is. inr is)
    has

pub returns-in_err-insert-clause-err : goal.returns-in_err-insert-clause-err
returns-in_err-insert-clause-err c =
    on_err c.from_residual-in_err-insert.result (λ q. (
      set_again c.make_first.new.lists.items c.line_of.result (line_of c.args.self.now.lines (outpoint_tag q)) c.index_mut-list.result.now c.index_mut-list.result.now
          (below c.line_of.result c.args.self.now.lines.count _ c.line_of.ensures.in_range c.in_ok-make_first.ensures.all) c.index_mut-list.ensures.value refl
          ∙ c.make_first.ensures.same (line_of c.args.self.now.lines (outpoint_tag q)),
      ap (lookup (is_at (outpoint_cmp q))) c.in_err-insert.ensures.err,
    ))

pub returns-in_err-insert-clause-before : goal.returns-in_err-insert-clause-before
returns-in_err-insert-clause-before c = λ q p has other. ⊎_elim
    (λ is. inl (ap (λ (l : List Entry). is_in l (outpoint_tag q) p)
    (set_again c.make_first.new.lists.items c.line_of.result (line_of c.args.self.now.lines (outpoint_tag q)) c.index_mut-list.result.now c.index_mut-list.result.now
    (below c.line_of.result c.args.self.now.lines.count _ c.line_of.ensures.in_range c.in_ok-make_first.ensures.all) c.index_mut-list.ensures.value refl
    ∙ c.make_first.ensures.same (line_of c.args.self.now.lines (outpoint_tag q))) ∙ is))
    (λ is. inr (ap (lookup (is_at (outpoint_cmp q))) c.in_err-insert.ensures.err ∙ is))
    has
