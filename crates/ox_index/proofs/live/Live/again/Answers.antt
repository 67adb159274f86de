use Rattle.std.proofs.Common.{◌≡◌, ◌∙◌, ◌≤◌, ◌^◌, ℕ, List, [], ◌∷◌, ◌++◌, length, refl, sym, ap, subst, arith, length-append}
use Rattle.ox_ledger.specs.Moves.{Begins}
use Rattle.ox_model.specs.Change.{redone}
use Rattle.ox_model.specs.Ends.{BeginsIn}
use Rattle.ox_model.specs.Index.{Index}
use Rattle.ox_model.specs.Sound.{IsSound}
use Rattle.ox_sat.specs.declared.profiles.Profile.{Profile}
use Rattle.ox_index.specs.Lengths.{IsMark, index_to}
use Rattle.ox_index.specs.Live.{index_in}
use Rattle.ox_index.specs.Held.{Held, IsOn}
use Rattle.ox_index.specs.Parts.{held_in, mark_of}
use Rattle.ox_index.specs.declared.lengths.Lengths.{Lengths}
use Rattle.ox_index.proofs.Counting.{begins_at, lost_few}
use Rattle.ox_index.proofs.Whole.{Whole, blocks_are, blocks_few, held_are, held_of, mark_right, mark_shown, marked_to, more_to, on_is, runes_begin, sats_are, some_same, within_grown, within_to}
use Rattle.std.proofs.lemmas.Result.{err_from_is_err_and}
use Rattle.ox_index.proofs.Marks.{marked_some, same_held}
use Rattle.ox_index.proofs.Standing.{none_marked, none_shown, still_sound, still_within}
use Rattle.ox_index.proofs.live.Live.again.Goals as goal

pub again-requires-clause-rows : goal.again-requires-clause-rows
again-requires-clause-rows c =
    let live = c.forget.new.self in
    let p = live.parts.profile in
    let change = c.args.change.now in
    let index : Index = index_in c.args.self.now in
    let whole : Whole index live.hashes.items (held_in live.parts) live.lost live.shown = record { index_is = c.forget.ensures.index; undue = live.parts.undue; many = c.forget.ensures.blocks; few = c.forget.ensures.lost } in
    let sound : IsSound p index = subst (IsSound p) whole.index_is live.sound in
    let are : held_in live.parts ≡ held_of index = held_are index live.hashes.items (held_in live.parts) live.lost live.shown whole in
    let begins : BeginsIn p index change = subst (λ (q : Profile). BeginsIn q index change) (sym c.forget.ensures.profile) c.requires in
    begins_at p index change (held_in live.parts).outs begins (ap (λ (h : Held). h.outs) are)

pub again-requires-clause-runes : goal.again-requires-clause-runes
again-requires-clause-runes c =
    let live = c.forget.new.self in
    let p = live.parts.profile in
    let change = c.args.change.now in
    let index : Index = index_in c.args.self.now in
    let whole : Whole index live.hashes.items (held_in live.parts) live.lost live.shown = record { index_is = c.forget.ensures.index; undue = live.parts.undue; many = c.forget.ensures.blocks; few = c.forget.ensures.lost } in
    let sound : IsSound p index = subst (IsSound p) whole.index_is live.sound in
    let are : held_in live.parts ≡ held_of index = held_are index live.hashes.items (held_in live.parts) live.lost live.shown whole in
    let begins : BeginsIn p index change = subst (λ (q : Profile). BeginsIn q index change) (sym c.forget.ensures.profile) c.requires in
    subst (λ (h : Held). Begins change.runes h.runes) (sym are) (runes_begin p index change begins)

pub join-requires : goal.join-requires
join-requires c =
    let live = c.forget.new.self in
    let p = live.parts.profile in
    let change = c.args.change.now in
    let index : Index = index_in c.args.self.now in
    let whole : Whole index live.hashes.items (held_in live.parts) live.lost live.shown = record { index_is = c.forget.ensures.index; undue = live.parts.undue; many = c.forget.ensures.blocks; few = c.forget.ensures.lost } in
    let sound : IsSound p index = subst (IsSound p) whole.index_is live.sound in
    let are : held_in live.parts ≡ held_of index = held_are index live.hashes.items (held_in live.parts) live.lost live.shown whole in
    let begins : BeginsIn p index change = subst (λ (q : Profile). BeginsIn q index change) (sym c.forget.ensures.profile) c.requires in
    let few : length (redone index change).lost ≤ 2 ^ 63 = lost_few p (redone index change) live.parts.known begins.sound in
    omega (arith, few, length-append index.lost change.lost, sats_are index live.hashes.items (held_in live.parts) live.lost live.shown whole, whole.few)

pub with_block-self-requires : goal.with_block-self-requires
with_block-self-requires c =
    let live = c.forget.new.self in
    let p = live.parts.profile in
    let change = c.args.change.now in
    let index : Index = index_in c.args.self.now in
    let whole : Whole index live.hashes.items (held_in live.parts) live.lost live.shown = record { index_is = c.forget.ensures.index; undue = live.parts.undue; many = c.forget.ensures.blocks; few = c.forget.ensures.lost } in
    let sound : IsSound p index = subst (IsSound p) whole.index_is live.sound in
    let are : held_in live.parts ≡ held_of index = held_are index live.hashes.items (held_in live.parts) live.lost live.shown whole in
    let begins : BeginsIn p index change = subst (λ (q : Profile). BeginsIn q index change) (sym c.forget.ensures.profile) c.requires in
    let few : length (redone index change).lost ≤ 2 ^ 63 = lost_few p (redone index change) live.parts.known begins.sound in
    let blocks : length index.hashes ≤ 2 ^ 63 = blocks_few p (length index.hashes) live.parts.known sound.heights.last in (
      omega (arith, blocks, blocks_are index live.hashes.items (held_in live.parts) live.lost live.shown whole),
      omega (arith, few, length-append index.lost change.lost, sats_are index live.hashes.items (held_in live.parts) live.lost live.shown whole),
    )

pub invariant_of-self-in-Ok-clause-sound : goal.invariant_of-self-in-Ok-clause-sound
invariant_of-self-in-Ok-clause-sound c =
    let live = c.forget.new.self in
    let p = live.parts.profile in
    let change = c.args.change.now in
    let index : Index = index_in c.args.self.now in
    let whole : Whole index live.hashes.items (held_in live.parts) live.lost live.shown = record { index_is = c.forget.ensures.index; undue = live.parts.undue; many = c.forget.ensures.blocks; few = c.forget.ensures.lost } in
    let sound : IsSound p index = subst (IsSound p) whole.index_is live.sound in
    let are : held_in live.parts ≡ held_of index = held_are index live.hashes.items (held_in live.parts) live.lost live.shown whole in
    let begins : BeginsIn p index change = subst (λ (q : Profile). BeginsIn q index change) (sym c.forget.ensures.profile) c.requires in
    let next = held_in c.again.new.self in
    let on : IsOn (held_of index) next change = subst (λ (h : Held). IsOn h next change) are c.in_ok-again.ensures.ok in
    let items : c.push_reserved.new.self.items ≡ live.hashes.items ++ change.hash ∷ [] = c.push_reserved.ensures.items ∙ ap (λ (l : List (List ℕ)). l ++ change.hash ∷ []) c.reserve.ensures.items in
    let to : index_to c.push_reserved.new.self.items next c.join.new.self c.with_block-self.result ≡ redone index change =
    more_to index live.hashes.items (held_in live.parts) live.lost live.shown whole next change.hash change.lost c.push_reserved.new.self.items c.join.new.self c.with_block-self.result items c.in-Ok.ensures.ok c.with_block-self.ensures
    ∙ on_is index change next on in
    subst (λ (q : Profile). IsSound q (index_to c.push_reserved.new.self.items next c.join.new.self c.with_block-self.result)) (sym c.again.ensures.profile) (subst (IsSound p) (sym to) begins.sound)

pub invariant_of-self-in-Ok-clause-mark : goal.invariant_of-self-in-Ok-clause-mark
invariant_of-self-in-Ok-clause-mark c =
    let live = c.forget.new.self in
    let p = live.parts.profile in
    let change = c.args.change.now in
    let index : Index = index_in c.args.self.now in
    let whole : Whole index live.hashes.items (held_in live.parts) live.lost live.shown = record { index_is = c.forget.ensures.index; undue = live.parts.undue; many = c.forget.ensures.blocks; few = c.forget.ensures.lost } in
    let sound : IsSound p index = subst (IsSound p) whole.index_is live.sound in
    let are : held_in live.parts ≡ held_of index = held_are index live.hashes.items (held_in live.parts) live.lost live.shown whole in
    let begins : BeginsIn p index change = subst (λ (q : Profile). BeginsIn q index change) (sym c.forget.ensures.profile) c.requires in
    let items : c.push_reserved.new.self.items ≡ live.hashes.items ++ change.hash ∷ [] = c.push_reserved.ensures.items ∙ ap (λ (l : List (List ℕ)). l ++ change.hash ∷ []) c.reserve.ensures.items in
    let to = marked_to index live.hashes.items (held_in live.parts) live.lost live.shown whole (change.hash ∷ []) change.lost c.push_reserved.new.self.items c.join.new.self items c.in-Ok.ensures.ok in
    let within = within_to index live.hashes.items (held_in live.parts) live.lost live.shown whole (change.hash ∷ []) change.lost c.push_reserved.new.self.items c.join.new.self items c.in-Ok.ensures.ok in
    let mark : IsMark c.again.new.self.profile c.push_reserved.new.self.items (mark_of c.again.new.self) c.join.new.self live.shown =
    subst (λ (q : Profile). IsMark q c.push_reserved.new.self.items (mark_of c.again.new.self) c.join.new.self live.shown) (sym c.again.ensures.profile)
    (mark_right index c.push_reserved.new.self.items (held_in live.parts) c.join.new.self live.shown (mark_of c.again.new.self) c.in_ok-again.ensures.mark to p within sound) in
    λ x is. subst (λ (l : Lengths). IsMark c.again.new.self.profile c.push_reserved.new.self.items (mark_of c.again.new.self) c.join.new.self l) (some_same live.shown x is) mark

pub returns-in-Ok-clause-ok : goal.returns-in-Ok-clause-ok
returns-in-Ok-clause-ok c =
    let live = c.forget.new.self in
    let p = live.parts.profile in
    let change = c.args.change.now in
    let index : Index = index_in c.args.self.now in
    let whole : Whole index live.hashes.items (held_in live.parts) live.lost live.shown = record { index_is = c.forget.ensures.index; undue = live.parts.undue; many = c.forget.ensures.blocks; few = c.forget.ensures.lost } in
    let sound : IsSound p index = subst (IsSound p) whole.index_is live.sound in
    let are : held_in live.parts ≡ held_of index = held_are index live.hashes.items (held_in live.parts) live.lost live.shown whole in
    let begins : BeginsIn p index change = subst (λ (q : Profile). BeginsIn q index change) (sym c.forget.ensures.profile) c.requires in
    let next = held_in c.again.new.self in
    let on : IsOn (held_of index) next change = subst (λ (h : Held). IsOn h next change) are c.in_ok-again.ensures.ok in
    let items : c.push_reserved.new.self.items ≡ live.hashes.items ++ change.hash ∷ [] = c.push_reserved.ensures.items ∙ ap (λ (l : List (List ℕ)). l ++ change.hash ∷ []) c.reserve.ensures.items in
    let to : index_to c.push_reserved.new.self.items next c.join.new.self c.with_block-self.result ≡ redone index change =
    more_to index live.hashes.items (held_in live.parts) live.lost live.shown whole next change.hash change.lost c.push_reserved.new.self.items c.join.new.self c.with_block-self.result items c.in-Ok.ensures.ok c.with_block-self.ensures
    ∙ on_is index change next on in
    to

-- ---- where there is no memory for one hash more

pub invariant_of-self : goal.invariant_of-self
invariant_of-self c =
    let live = c.forget.new.self in
    let p = live.parts.profile in
    let held = held_in live.parts in record {
      within = still_within live.hashes.items c.reserve.new.self.items live.lost live.lost live.shown c.reserve.ensures.items refl live.within;
      sound = still_sound p p live.hashes.items c.reserve.new.self.items held held live.lost live.lost live.shown refl c.reserve.ensures.items refl refl live.sound;
      mark = λ lengths some. none_marked live.marked lengths c.forget.ensures.none some;
    }

pub returns-in_err-reserve-clause-ok : goal.returns-in_err-reserve-clause-ok
returns-in_err-reserve-clause-ok c =
    let p = err_from_is_err_and c.from_residual.result c.from_residual.ensures.1 in
    rw p.1 tt

pub returns-in_err-reserve-clause-err : goal.returns-in_err-reserve-clause-err
returns-in_err-reserve-clause-err c =
    let p = err_from_is_err_and c.from_residual.result c.from_residual.ensures.1 in
    let live = c.forget.new.self in
    rw p.1 ((λ i. index_to (c.reserve.ensures.items i) (held_in live.parts) live.lost live.shown) ∙ c.forget.ensures.index)

pub returns-in_err-reserve-clause-mark : goal.returns-in_err-reserve-clause-mark
returns-in_err-reserve-clause-mark c =
    let p = err_from_is_err_and c.from_residual.result c.from_residual.ensures.1 in
    rw p.1 tt

pub returns-in_err-reserve-clause-no_mark : goal.returns-in_err-reserve-clause-no_mark
returns-in_err-reserve-clause-no_mark c =
    let p = err_from_is_err_and c.from_residual.result c.from_residual.ensures.1 in
    rw p.1 (none_shown _ c.forget.new.self.marked c.forget.ensures.none)

pub returns-in_err-reserve-clause-profile : goal.returns-in_err-reserve-clause-profile
returns-in_err-reserve-clause-profile c = c.forget.ensures.profile

-- ---- where there is none for the satoshis that it lost

pub cancel-requires : goal.cancel-requires
cancel-requires c = marked_some (mark_of c.again.new.self) (held_in c.forget.new.self.parts) c.in_ok-again.ensures.mark

pub invariant_of-self-in-Err : goal.invariant_of-self-in-Err
invariant_of-self-in-Err c =
    let live = c.forget.new.self in
    let back = same_held (held_in c.cancel.new.self) (held_in live.parts) (c.cancel.ensures.held ∙ c.in_ok-again.ensures.mark) in record {
      within = still_within live.hashes.items c.reserve.new.self.items live.lost c.join.new.self live.shown c.reserve.ensures.items c.in-Err.ensures.err live.within;
      sound = still_sound live.parts.profile c.cancel.new.self.profile live.hashes.items c.reserve.new.self.items (held_in live.parts) (held_in c.cancel.new.self) live.lost c.join.new.self live.shown
          (c.cancel.ensures.profile ∙ c.again.ensures.profile) c.reserve.ensures.items back c.in-Err.ensures.err live.sound;
      mark = λ lengths some. none_marked live.marked lengths c.forget.ensures.none some;
    }

pub returns-in-Err-clause-err : goal.returns-in-Err-clause-err
returns-in-Err-clause-err c =
    let live = c.forget.new.self in
    let back = same_held (held_in c.cancel.new.self) (held_in live.parts) (c.cancel.ensures.held ∙ c.in_ok-again.ensures.mark) in
    (λ i. index_to (c.reserve.ensures.items i) (back i) (c.in-Err.ensures.err i) live.shown) ∙ c.forget.ensures.index

pub returns-in-Err-clause-no_mark : goal.returns-in-Err-clause-no_mark
returns-in-Err-clause-no_mark c = none_shown _ c.forget.new.self.marked c.forget.ensures.none

pub returns-in-Err-clause-profile : goal.returns-in-Err-clause-profile
returns-in-Err-clause-profile c = c.cancel.ensures.profile ∙ c.again.ensures.profile ∙ c.forget.ensures.profile

-- ---- where it goes on

pub invariant_of-self-in-Ok-clause-within : goal.invariant_of-self-in-Ok-clause-within
invariant_of-self-in-Ok-clause-within c =
    let live = c.forget.new.self in
    let index : Index = index_in c.args.self.now in
    let whole : Whole index live.hashes.items (held_in live.parts) live.lost live.shown = record { index_is = c.forget.ensures.index; undue = live.parts.undue; many = c.forget.ensures.blocks; few = c.forget.ensures.lost } in
    let change = c.args.change.now in
    let items : c.push_reserved.new.self.items ≡ live.hashes.items ++ change.hash ∷ [] = c.push_reserved.ensures.items ∙ ap (λ (l : List (List ℕ)). l ++ change.hash ∷ []) c.reserve.ensures.items in
    within_grown index live.hashes.items (held_in live.parts) live.lost live.shown whole change.hash change.lost c.push_reserved.new.self.items c.join.new.self c.with_block-self.result items c.in-Ok.ensures.ok c.with_block-self.ensures

pub returns-in-Ok-clause-mark : goal.returns-in-Ok-clause-mark
returns-in-Ok-clause-mark c =
    let live = c.forget.new.self in
    let index : Index = index_in c.args.self.now in
    let whole : Whole index live.hashes.items (held_in live.parts) live.lost live.shown = record { index_is = c.forget.ensures.index; undue = live.parts.undue; many = c.forget.ensures.blocks; few = c.forget.ensures.lost } in
    let change = c.args.change.now in
    let items : c.push_reserved.new.self.items ≡ live.hashes.items ++ change.hash ∷ [] = c.push_reserved.ensures.items ∙ ap (λ (l : List (List ℕ)). l ++ change.hash ∷ []) c.reserve.ensures.items in
    mark_shown index c.push_reserved.new.self.items (held_in live.parts) c.join.new.self live.shown (mark_of c.again.new.self) c.in_ok-again.ensures.mark
    (marked_to index live.hashes.items (held_in live.parts) live.lost live.shown whole (change.hash ∷ []) change.lost c.push_reserved.new.self.items c.join.new.self items c.in-Ok.ensures.ok)

pub returns-in-Ok-clause-profile : goal.returns-in-Ok-clause-profile
returns-in-Ok-clause-profile c = c.again.ensures.profile ∙ c.forget.ensures.profile
