use Rattle.std.proofs.Common.{rules, ◌≡◌, ◌∙◌, ℕ, Bool, cond, List, sym, ap, None, inl, inr, ⊎_elim, true≢false}
use Rattle.std.proofs.lemmas.Bool.{cases_eq}
use Rattle.ox_block.specs.Keys.{outpoint_tag}
use Rattle.ox_shards.specs.Lines.{line_of}
use Rattle.ox_outputs.specs.declared.entry.Entry.{Entry}
use Rattle.ox_outputs.specs.Lists.{is_in, items_at}
use Rattle.ox_outputs.specs.Places.{other_at}
use Rattle.ox_outputs.proofs.PlaceLemmas.{same_itself, same_or_not, no_place}
use Rattle.ox_outputs.proofs.places.Places.remove.Goals as goal

pub returns-clause-gone : goal.returns-clause-gone
returns-clause-gone c = λ has.
    let led : c.line_of.result ≡ line_of c.args.self.now.lines (outpoint_tag c.args.at.now) = search rules in
    ⊎_elim
    (λ is. true≢false (sym is ∙ ap (λ (l : List Entry). is_in l (outpoint_tag c.args.at.now) c.args.place) (ap (items_at c.take_out.new.lists.items) (sym led))
    ∙ c.take_out.ensures.gone (outpoint_tag c.args.at.now)))
    (λ is. no_place c.args.place (sym (c.remove.ensures.updates.0 c.args.at.now ∙ ap (λ (b : Bool). cond b None (other_at c.args.self.now c.args.at.now)) (same_itself c.args.at.now)) ∙ is))
    has

pub returns-clause-left : goal.returns-clause-left
returns-clause-left c = λ q p has other differs.
    let j : ℕ = line_of c.args.self.now.lines (outpoint_tag q) in
    ⊎_elim
    (λ is. inl (⊎_elim
    (λ same. ap (λ (l : List Entry). is_in l (outpoint_tag q) p) (ap (items_at c.take_out.new.lists.items) (sym same))
    ∙ c.take_out.ensures.left (outpoint_tag q) p differs
    ∙ ap (λ (l : List Entry). is_in l (outpoint_tag q) p) (ap (items_at c.args.self.now.lists.items) same) ∙ is)
    (λ another. ap (λ (l : List Entry). is_in l (outpoint_tag q) p) (c.take_out.ensures.others j (λ same. another (sym same))) ∙ is)
    (cases_eq c.line_of.result j)))
    (λ is. inr (⊎_elim
    (λ same. absurd (other (sym same)))
    (λ apart. c.remove.ensures.updates.0 q ∙ ap (λ (b : Bool). cond b None (other_at c.args.self.now q)) apart ∙ is)
    (same_or_not c.args.at.now q)))
    has
