use Rattle.std.proofs.Common.{◌≡◌, ◌∙◌, ◌≤◌, ℕ, List, [], ◌∷◌, length, sym, ap, subst, arith, length-append}
use Rattle.ox_ledger.specs.Moves.{Ends}
use Rattle.ox_model.specs.Change.{undone}
use Rattle.ox_model.specs.Ends.{EndsIn}
use Rattle.ox_model.specs.Index.{Index}
use Rattle.ox_model.specs.Sound.{IsSound}
use Rattle.ox_sat.specs.declared.profiles.Profile.{Profile}
use Rattle.ox_index.specs.Lengths.{IsMark, index_to}
use Rattle.ox_index.specs.Live.{index_in}
use Rattle.ox_index.specs.Held.{Held, IsBack}
use Rattle.ox_index.specs.Parts.{held_in, mark_of}
use Rattle.ox_index.specs.declared.lengths.Lengths.{Lengths}
use Rattle.ox_index.proofs.Counting.{ends_at}
use Rattle.ox_index.proofs.Whole.{Whole, all_within, back_is, blocks_are, few_inscriptions, held_are, held_of, mark_right, runes_end, sats_are, some_same, without_block}
use Rattle.ox_index.proofs.live.Live.back.Goals as goal

pub back-requires-clause-rows : goal.back-requires-clause-rows
back-requires-clause-rows c =
    let live = c.forget.new.self in
    let p = live.parts.profile in
    let change = c.args.change.now in
    let index : Index = index_in c.args.self.now in
    let whole : Whole index live.hashes.items (held_in live.parts) live.lost live.shown = record { index_is = c.forget.ensures.index; undue = live.parts.undue; many = c.forget.ensures.blocks; few = c.forget.ensures.lost } in
    let sound : IsSound p index = subst (IsSound p) whole.index_is live.sound in
    let are : held_in live.parts ≡ held_of index = held_are index live.hashes.items (held_in live.parts) live.lost live.shown whole in
    let ends : EndsIn p index change = subst (λ (q : Profile). EndsIn q index change) (sym c.forget.ensures.profile) c.requires in
    ends_at p index change (held_in live.parts).outs ends (ap (λ (h : Held). h.outs) are)

pub back-requires-clause-inscriptions : goal.back-requires-clause-inscriptions
back-requires-clause-inscriptions c =
    let live = c.forget.new.self in
    let p = live.parts.profile in
    let change = c.args.change.now in
    let index : Index = index_in c.args.self.now in
    let whole : Whole index live.hashes.items (held_in live.parts) live.lost live.shown = record { index_is = c.forget.ensures.index; undue = live.parts.undue; many = c.forget.ensures.blocks; few = c.forget.ensures.lost } in
    let sound : IsSound p index = subst (IsSound p) whole.index_is live.sound in
    let are : held_in live.parts ≡ held_of index = held_are index live.hashes.items (held_in live.parts) live.lost live.shown whole in
    let ends : EndsIn p index change = subst (λ (q : Profile). EndsIn q index change) (sym c.forget.ensures.profile) c.requires in
    subst (λ (h : Held). length change.inscriptions ≤ length h.inscriptions) (sym are) (few_inscriptions p index change ends)

pub back-requires-clause-runes : goal.back-requires-clause-runes
back-requires-clause-runes c =
    let live = c.forget.new.self in
    let p = live.parts.profile in
    let change = c.args.change.now in
    let index : Index = index_in c.args.self.now in
    let whole : Whole index live.hashes.items (held_in live.parts) live.lost live.shown = record { index_is = c.forget.ensures.index; undue = live.parts.undue; many = c.forget.ensures.blocks; few = c.forget.ensures.lost } in
    let sound : IsSound p index = subst (IsSound p) whole.index_is live.sound in
    let are : held_in live.parts ≡ held_of index = held_are index live.hashes.items (held_in live.parts) live.lost live.shown whole in
    let ends : EndsIn p index change = subst (λ (q : Profile). EndsIn q index change) (sym c.forget.ensures.profile) c.requires in
    subst (λ (h : Held). Ends change.runes h.runes) (sym are) (runes_end p index change ends)

pub without_block-self-requires : goal.without_block-self-requires
without_block-self-requires c =
    let live = c.forget.new.self in
    let p = live.parts.profile in
    let change = c.args.change.now in
    let index : Index = index_in c.args.self.now in
    let whole : Whole index live.hashes.items (held_in live.parts) live.lost live.shown = record { index_is = c.forget.ensures.index; undue = live.parts.undue; many = c.forget.ensures.blocks; few = c.forget.ensures.lost } in
    let sound : IsSound p index = subst (IsSound p) whole.index_is live.sound in
    let are : held_in live.parts ≡ held_of index = held_are index live.hashes.items (held_in live.parts) live.lost live.shown whole in
    let ends : EndsIn p index change = subst (λ (q : Profile). EndsIn q index change) (sym c.forget.ensures.profile) c.requires in (
      omega (arith, ap (λ (l : List (List ℕ)). length l) ends.leads.hash, length-append (undone index change).hashes (change.hash ∷ []), blocks_are index live.hashes.items (held_in live.parts) live.lost live.shown whole),
      omega (arith, ap (λ (l : List ℕ). length l) ends.leads.lost, length-append (undone index change).lost change.lost, sats_are index live.hashes.items (held_in live.parts) live.lost live.shown whole),
    )

pub invariant_of-self-2-clause-sound : goal.invariant_of-self-2-clause-sound
invariant_of-self-2-clause-sound c =
    let live = c.forget.new.self in
    let p = live.parts.profile in
    let change = c.args.change.now in
    let index : Index = index_in c.args.self.now in
    let whole : Whole index live.hashes.items (held_in live.parts) live.lost live.shown = record { index_is = c.forget.ensures.index; undue = live.parts.undue; many = c.forget.ensures.blocks; few = c.forget.ensures.lost } in
    let sound : IsSound p index = subst (IsSound p) whole.index_is live.sound in
    let are : held_in live.parts ≡ held_of index = held_are index live.hashes.items (held_in live.parts) live.lost live.shown whole in
    let ends : EndsIn p index change = subst (λ (q : Profile). EndsIn q index change) (sym c.forget.ensures.profile) c.requires in
    let next = held_in c.back.new.self in
    let back : IsBack (held_of index) next change = subst (λ (h : Held). IsBack h next change) are c.in_ok-back.ensures.ok in
    let to : index_to live.hashes.items next live.lost c.without_block-self.result ≡ undone index change =
    ap (index_to live.hashes.items next live.lost) c.without_block-self.ensures ∙ (without_block index live.hashes.items (held_in live.parts) live.lost live.shown whole change.lost next ∙ back_is index change next back) in
    subst (λ (q : Profile). IsSound q (index_to live.hashes.items next live.lost c.without_block-self.result)) (sym c.back.ensures.profile) (subst (IsSound p) (sym to) ends.sound)

pub invariant_of-self-2-clause-mark : goal.invariant_of-self-2-clause-mark
invariant_of-self-2-clause-mark c =
    let live = c.forget.new.self in
    let p = live.parts.profile in
    let change = c.args.change.now in
    let index : Index = index_in c.args.self.now in
    let whole : Whole index live.hashes.items (held_in live.parts) live.lost live.shown = record { index_is = c.forget.ensures.index; undue = live.parts.undue; many = c.forget.ensures.blocks; few = c.forget.ensures.lost } in
    let sound : IsSound p index = subst (IsSound p) whole.index_is live.sound in
    let are : held_in live.parts ≡ held_of index = held_are index live.hashes.items (held_in live.parts) live.lost live.shown whole in
    let ends : EndsIn p index change = subst (λ (q : Profile). EndsIn q index change) (sym c.forget.ensures.profile) c.requires in
    let mark : IsMark c.back.new.self.profile live.hashes.items (mark_of c.back.new.self) live.lost live.shown =
    subst (λ (q : Profile). IsMark q live.hashes.items (mark_of c.back.new.self) live.lost live.shown) (sym c.back.ensures.profile)
    (mark_right index live.hashes.items (held_in live.parts) live.lost live.shown (mark_of c.back.new.self) c.in_ok-back.ensures.mark whole.index_is p (all_within index live.hashes.items (held_in live.parts) live.lost live.shown whole) sound) in
    λ x is. subst (λ (l : Lengths). IsMark c.back.new.self.profile live.hashes.items (mark_of c.back.new.self) live.lost l) (some_same live.shown x is) mark

pub returns-clause-ok : goal.returns-clause-ok
returns-clause-ok c =
    let live = c.forget.new.self in
    let p = live.parts.profile in
    let change = c.args.change.now in
    let index : Index = index_in c.args.self.now in
    let whole : Whole index live.hashes.items (held_in live.parts) live.lost live.shown = record { index_is = c.forget.ensures.index; undue = live.parts.undue; many = c.forget.ensures.blocks; few = c.forget.ensures.lost } in
    let sound : IsSound p index = subst (IsSound p) whole.index_is live.sound in
    let are : held_in live.parts ≡ held_of index = held_are index live.hashes.items (held_in live.parts) live.lost live.shown whole in
    let ends : EndsIn p index change = subst (λ (q : Profile). EndsIn q index change) (sym c.forget.ensures.profile) c.requires in
    let next = held_in c.back.new.self in
    let back : IsBack (held_of index) next change = subst (λ (h : Held). IsBack h next change) are c.in_ok-back.ensures.ok in
    let to : index_to live.hashes.items next live.lost c.without_block-self.result ≡ undone index change =
    ap (index_to live.hashes.items next live.lost) c.without_block-self.ensures ∙ (without_block index live.hashes.items (held_in live.parts) live.lost live.shown whole change.lost next ∙ back_is index change next back) in
    to
