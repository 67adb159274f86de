use Rattle.std.proofs.Common.{◌≡◌, ◌∙◌, ◌≤◌, ◌^◌, ℕ, List, [], ◌∷◌, ◌++◌, length, refl, sym, ap, subst, arith}
use Rattle.std.specs.Prelude.{Ok, Result}
use Rattle.ox_model.specs.Change.{IsChange}
use Rattle.ox_model.specs.Index.{Index}
use Rattle.ox_model.specs.Sound.{IsSound}
use Rattle.ox_model.specs.Step.{admission, index_after}
use Rattle.ox_rules.specs.declared.refusal.Refusal.{Refusal}
use Rattle.ox_model.proofs.Soundness.{admitted_right, grown_sound}
use Rattle.ox_sat.specs.declared.profiles.Profile.{Profile}
use Rattle.ox_transfer.proofs.Sizes.{few_txs}
use Rattle.ox_index.specs.Lengths.{IsMark, index_to}
use Rattle.ox_index.specs.Live.{index_in}
use Rattle.ox_index.specs.Held.{IsTaken}
use Rattle.ox_index.specs.Parts.{held_in, mark_of}
use Rattle.ox_index.specs.declared.lengths.Lengths.{Lengths}
use Rattle.ox_index.proofs.Begun.{none_here, once_here}
use Rattle.ox_index.proofs.Steps.{after_taken, lost_fits}
use Rattle.ox_index.proofs.Whole.{Whole, blocks_are, blocks_few, change_right, held_are, held_of, is_grown, mark_right, mark_shown, marked_to, more_to, next_index, sats_are, some_same, taken_of, within_grown, within_to}
use Rattle.std.proofs.lemmas.Result.{err_from_is_err_and}
use Rattle.ox_index.proofs.Marks.{marked_some, same_held}
use Rattle.ox_index.proofs.Standing.{none_marked, none_shown, still_sound, still_within, unmoved_here}
use Rattle.ox_index.proofs.live.Live.take_in.Goals as goal

pub take_in-requires-clause-once : goal.take_in-requires-clause-once
take_in-requires-clause-once c =
    let live = c.forget.new.self in
    let p = live.parts.profile in
    let index : Index = index_in c.args.self.now in
    let whole : Whole index live.hashes.items (held_in live.parts) live.lost live.shown = record { index_is = c.forget.ensures.index; undue = live.parts.undue; many = c.forget.ensures.blocks; few = c.forget.ensures.lost } in
    let sound : IsSound p index = subst (IsSound p) whole.index_is live.sound in
    once_here p index live.hashes.items (held_in live.parts) live.lost live.shown whole live.parts.known sound

pub take_in-requires-clause-none : goal.take_in-requires-clause-none
take_in-requires-clause-none c =
    let live = c.forget.new.self in
    let p = live.parts.profile in
    let index : Index = index_in c.args.self.now in
    let whole : Whole index live.hashes.items (held_in live.parts) live.lost live.shown = record { index_is = c.forget.ensures.index; undue = live.parts.undue; many = c.forget.ensures.blocks; few = c.forget.ensures.lost } in
    let sound : IsSound p index = subst (IsSound p) whole.index_is live.sound in
    none_here p index live.hashes.items (held_in live.parts) live.lost live.shown whole live.parts.known sound

pub join-requires : goal.join-requires
join-requires c =
    let live = c.forget.new.self in
    let p = live.parts.profile in
    let index : Index = index_in c.args.self.now in
    let whole : Whole index live.hashes.items (held_in live.parts) live.lost live.shown = record { index_is = c.forget.ensures.index; undue = live.parts.undue; many = c.forget.ensures.blocks; few = c.forget.ensures.lost } in
    let sound : IsSound p index = subst (IsSound p) whole.index_is live.sound in
    let begun : admission p index.hashes c.args.block.now ≡ Ok tt = subst (λ (q : Profile). admission q index.hashes c.args.block.now ≡ Ok tt) (sym c.forget.ensures.profile) c.requires.admitted in
    let few : length c.args.block.now.txs ≤ 2 ^ 32 = omega (arith, few_txs c.args.block.now c.requires.lawful) in
    let next = held_in c.take_in.new.self in
    let change = c.in_ok-change.change in
    let taken : IsTaken p (length index.hashes) c.args.block.now (held_of index) next change =
    taken_of p index c.args.block.now live.shown.blocks (held_in live.parts) next change (blocks_are index live.hashes.items (held_in live.parts) live.lost live.shown whole) (held_are index live.hashes.items (held_in live.parts) live.lost live.shown whole) c.in_ok-change.ensures.ok in
    omega (arith, lost_fits p index c.args.block.now taken.moved live.parts.known few sound begun taken.moves, sats_are index live.hashes.items (held_in live.parts) live.lost live.shown whole, whole.few, ap (λ (l : List ℕ). length l) taken.lost)

pub with_block-self-requires : goal.with_block-self-requires
with_block-self-requires c =
    let live = c.forget.new.self in
    let p = live.parts.profile in
    let index : Index = index_in c.args.self.now in
    let whole : Whole index live.hashes.items (held_in live.parts) live.lost live.shown = record { index_is = c.forget.ensures.index; undue = live.parts.undue; many = c.forget.ensures.blocks; few = c.forget.ensures.lost } in
    let sound : IsSound p index = subst (IsSound p) whole.index_is live.sound in
    let begun : admission p index.hashes c.args.block.now ≡ Ok tt = subst (λ (q : Profile). admission q index.hashes c.args.block.now ≡ Ok tt) (sym c.forget.ensures.profile) c.requires.admitted in
    let few : length c.args.block.now.txs ≤ 2 ^ 32 = omega (arith, few_txs c.args.block.now c.requires.lawful) in
    let next = held_in c.take_in.new.self in
    let change = c.in_ok-change.change in
    let taken : IsTaken p (length index.hashes) c.args.block.now (held_of index) next change =
    taken_of p index c.args.block.now live.shown.blocks (held_in live.parts) next change (blocks_are index live.hashes.items (held_in live.parts) live.lost live.shown whole) (held_are index live.hashes.items (held_in live.parts) live.lost live.shown whole) c.in_ok-change.ensures.ok in
    let blocks : length index.hashes ≤ 2 ^ 63 = blocks_few p (length index.hashes) live.parts.known sound.heights.last in (
      omega (arith, blocks, blocks_are index live.hashes.items (held_in live.parts) live.lost live.shown whole),
      omega (arith, lost_fits p index c.args.block.now taken.moved live.parts.known few sound begun taken.moves, sats_are index live.hashes.items (held_in live.parts) live.lost live.shown whole, ap (λ (l : List ℕ). length l) taken.lost),
    )

pub invariant_of-self-in-Ok-clause-sound : goal.invariant_of-self-in-Ok-clause-sound
invariant_of-self-in-Ok-clause-sound c =
    let live = c.forget.new.self in
    let p = live.parts.profile in
    let index : Index = index_in c.args.self.now in
    let whole : Whole index live.hashes.items (held_in live.parts) live.lost live.shown = record { index_is = c.forget.ensures.index; undue = live.parts.undue; many = c.forget.ensures.blocks; few = c.forget.ensures.lost } in
    let sound : IsSound p index = subst (IsSound p) whole.index_is live.sound in
    let begun : admission p index.hashes c.args.block.now ≡ Ok tt = subst (λ (q : Profile). admission q index.hashes c.args.block.now ≡ Ok tt) (sym c.forget.ensures.profile) c.requires.admitted in
    let few : length c.args.block.now.txs ≤ 2 ^ 32 = omega (arith, few_txs c.args.block.now c.requires.lawful) in
    let next = held_in c.take_in.new.self in
    let change = c.in_ok-change.change in
    let taken : IsTaken p (length index.hashes) c.args.block.now (held_of index) next change =
    taken_of p index c.args.block.now live.shown.blocks (held_in live.parts) next change (blocks_are index live.hashes.items (held_in live.parts) live.lost live.shown whole) (held_are index live.hashes.items (held_in live.parts) live.lost live.shown whole) c.in_ok-change.ensures.ok in
    let items : c.push_reserved.new.self.items ≡ live.hashes.items ++ change.hash ∷ [] = c.push_reserved.ensures.items ∙ ap (λ (l : List (List ℕ)). l ++ change.hash ∷ []) c.reserve.ensures.items in
    let to : index_to c.push_reserved.new.self.items next c.join.new.self c.with_block-self.result ≡ next_index p index c.args.block.now next change taken =
    more_to index live.hashes.items (held_in live.parts) live.lost live.shown whole next change.hash change.lost c.push_reserved.new.self.items c.join.new.self c.with_block-self.result items c.in-Ok.ensures.ok c.with_block-self.ensures in
    let grown = to ∙ is_grown p index c.args.block.now next change taken in
    let right : IsSound p (index_to c.push_reserved.new.self.items next c.join.new.self c.with_block-self.result) =
    subst (IsSound p) (sym grown) (grown_sound p index c.args.block.now taken.moved live.parts.known few sound (admitted_right p index c.args.block.now tt begun) taken.moves) in
    subst (λ (q : Profile). IsSound q (index_to c.push_reserved.new.self.items next c.join.new.self c.with_block-self.result)) (sym c.take_in.ensures.profile) right

pub invariant_of-self-in-Ok-clause-mark : goal.invariant_of-self-in-Ok-clause-mark
invariant_of-self-in-Ok-clause-mark c =
    let live = c.forget.new.self in
    let p = live.parts.profile in
    let index : Index = index_in c.args.self.now in
    let whole : Whole index live.hashes.items (held_in live.parts) live.lost live.shown = record { index_is = c.forget.ensures.index; undue = live.parts.undue; many = c.forget.ensures.blocks; few = c.forget.ensures.lost } in
    let sound : IsSound p index = subst (IsSound p) whole.index_is live.sound in
    let change = c.in_ok-change.change in
    let items : c.push_reserved.new.self.items ≡ live.hashes.items ++ change.hash ∷ [] = c.push_reserved.ensures.items ∙ ap (λ (l : List (List ℕ)). l ++ change.hash ∷ []) c.reserve.ensures.items in
    let to = marked_to index live.hashes.items (held_in live.parts) live.lost live.shown whole (change.hash ∷ []) change.lost c.push_reserved.new.self.items c.join.new.self items c.in-Ok.ensures.ok in
    let within = within_to index live.hashes.items (held_in live.parts) live.lost live.shown whole (change.hash ∷ []) change.lost c.push_reserved.new.self.items c.join.new.self items c.in-Ok.ensures.ok in
    let mark : IsMark c.take_in.new.self.profile c.push_reserved.new.self.items (mark_of c.take_in.new.self) c.join.new.self live.shown =
    subst (λ (q : Profile). IsMark q c.push_reserved.new.self.items (mark_of c.take_in.new.self) c.join.new.self live.shown) (sym c.take_in.ensures.profile)
    (mark_right index c.push_reserved.new.self.items (held_in live.parts) c.join.new.self live.shown (mark_of c.take_in.new.self) c.in_ok-change.ensures.mark to p within sound) in
    λ x is. subst (λ (l : Lengths). IsMark c.take_in.new.self.profile c.push_reserved.new.self.items (mark_of c.take_in.new.self) c.join.new.self l) (some_same live.shown x is) mark

pub returns-in-Ok : goal.returns-in-Ok
returns-in-Ok c =
    let live = c.forget.new.self in
    let p = live.parts.profile in
    let index : Index = index_in c.args.self.now in
    let whole : Whole index live.hashes.items (held_in live.parts) live.lost live.shown = record { index_is = c.forget.ensures.index; undue = live.parts.undue; many = c.forget.ensures.blocks; few = c.forget.ensures.lost } in
    let sound : IsSound p index = subst (IsSound p) whole.index_is live.sound in
    let begun : admission p index.hashes c.args.block.now ≡ Ok tt = subst (λ (q : Profile). admission q index.hashes c.args.block.now ≡ Ok tt) (sym c.forget.ensures.profile) c.requires.admitted in
    let next = held_in c.take_in.new.self in
    let change = c.in_ok-change.change in
    let taken : IsTaken p (length index.hashes) c.args.block.now (held_of index) next change =
    taken_of p index c.args.block.now live.shown.blocks (held_in live.parts) next change (blocks_are index live.hashes.items (held_in live.parts) live.lost live.shown whole) (held_are index live.hashes.items (held_in live.parts) live.lost live.shown whole) c.in_ok-change.ensures.ok in
    let items : c.push_reserved.new.self.items ≡ live.hashes.items ++ change.hash ∷ [] = c.push_reserved.ensures.items ∙ ap (λ (l : List (List ℕ)). l ++ change.hash ∷ []) c.reserve.ensures.items in
    let to : index_to c.push_reserved.new.self.items next c.join.new.self c.with_block-self.result ≡ next_index p index c.args.block.now next change taken =
    more_to index live.hashes.items (held_in live.parts) live.lost live.shown whole next change.hash change.lost c.push_reserved.new.self.items c.join.new.self c.with_block-self.result items c.in-Ok.ensures.ok c.with_block-self.ensures in
    let grown = to ∙ is_grown p index c.args.block.now next change taken in
    let after : Result Index Refusal = Ok (index_to c.push_reserved.new.self.items next c.join.new.self c.with_block-self.result) in record {
      ok = subst (λ (q : Profile). index_after q index c.args.block.now ≡ after) c.forget.ensures.profile (after_taken p index c.args.block.now taken.moved begun taken.moves ∙ ap Ok (sym grown));
      change = subst (λ (i : Index). IsChange index i change) (sym to) (change_right p index c.args.block.now next change taken);
      refused = tt;
      err = tt;
      mark = mark_shown index c.push_reserved.new.self.items (held_in live.parts) c.join.new.self live.shown (mark_of c.take_in.new.self) c.in_ok-change.ensures.mark
          (marked_to index live.hashes.items (held_in live.parts) live.lost live.shown whole (change.hash ∷ []) change.lost c.push_reserved.new.self.items c.join.new.self items c.in-Ok.ensures.ok);
      no_mark = tt;
      profile = c.take_in.ensures.profile ∙ c.forget.ensures.profile;
    }

-- ---- where there is no memory for one hash more

pub invariant_of-self : goal.invariant_of-self
invariant_of-self c =
    let live = c.forget.new.self in
    let p = live.parts.profile in
    let held = held_in live.parts in record {
      within = still_within live.hashes.items c.reserve.new.self.items live.lost live.lost live.shown c.reserve.ensures.items refl live.within;
      sound = still_sound p p live.hashes.items c.reserve.new.self.items held held live.lost live.lost live.shown refl c.reserve.ensures.items refl refl live.sound;
      mark = λ lengths some. none_marked live.marked lengths c.forget.ensures.none some;
    }

pub returns-in_err-reserve : goal.returns-in_err-reserve
returns-in_err-reserve c =
    let p = err_from_is_err_and c.from_residual.result c.from_residual.ensures.1 in
    let live = c.forget.new.self in
    rw (p.1, p.2) (record {
      ok = tt;
      change = tt;
      refused = tt;
      err = (λ i. index_to (c.reserve.ensures.items i) (held_in live.parts) live.lost live.shown) ∙ c.forget.ensures.index;
      mark = tt;
      no_mark = none_shown _ live.marked c.forget.ensures.none;
      profile = c.forget.ensures.profile;
    })

-- ---- where the block's satoshis, or all else of it, can't be moved

pub returns-in_err-change : goal.returns-in_err-change
returns-in_err-change c =
    let p = err_from_is_err_and c.from_residual-in_err-change.result c.from_residual-in_err-change.ensures.1 in
    let live = c.forget.new.self in
    let index : Index = index_in c.args.self.now in
    let whole : Whole index live.hashes.items (held_in live.parts) live.lost live.shown = record { index_is = c.forget.ensures.index; undue = live.parts.undue; many = c.forget.ensures.blocks; few = c.forget.ensures.lost } in
    rw (p.1, p.2) (record {
      ok = tt;
      change = tt;
      refused = unmoved_here live.parts.profile c.args.self.now.parts.profile index live.hashes.items (held_in live.parts) live.lost live.shown whole c.args.block.now c.in_err-change.field-0.0 c.forget.ensures.profile c.requires.admitted c.in_err-change.ensures.refused;
      err = (λ i. index_to (c.reserve.ensures.items i) (c.in_err-change.ensures.err i) live.lost live.shown) ∙ c.forget.ensures.index;
      mark = tt;
      no_mark = none_shown _ live.marked c.forget.ensures.none;
      profile = c.take_in.ensures.profile ∙ c.forget.ensures.profile;
    })

-- ---- where there is no memory for the satoshis that it lost

pub cancel-requires : goal.cancel-requires
cancel-requires c = marked_some (mark_of c.take_in.new.self) (held_in c.forget.new.self.parts) c.in_ok-change.ensures.mark

pub invariant_of-self-in-Err : goal.invariant_of-self-in-Err
invariant_of-self-in-Err c =
    let live = c.forget.new.self in
    let back = same_held (held_in c.cancel.new.self) (held_in live.parts) (c.cancel.ensures.held ∙ c.in_ok-change.ensures.mark) in record {
      within = still_within live.hashes.items c.reserve.new.self.items live.lost c.join.new.self live.shown c.reserve.ensures.items c.in-Err.ensures.err live.within;
      sound = still_sound live.parts.profile c.cancel.new.self.profile live.hashes.items c.reserve.new.self.items (held_in live.parts) (held_in c.cancel.new.self) live.lost c.join.new.self live.shown
          (c.cancel.ensures.profile ∙ c.take_in.ensures.profile) c.reserve.ensures.items back c.in-Err.ensures.err live.sound;
      mark = λ lengths some. none_marked live.marked lengths c.forget.ensures.none some;
    }

pub returns-in-Err : goal.returns-in-Err
returns-in-Err c =
    let live = c.forget.new.self in
    let back = same_held (held_in c.cancel.new.self) (held_in live.parts) (c.cancel.ensures.held ∙ c.in_ok-change.ensures.mark) in record {
      ok = tt;
      change = tt;
      refused = tt;
      err = (λ i. index_to (c.reserve.ensures.items i) (back i) (c.in-Err.ensures.err i) live.shown) ∙ c.forget.ensures.index;
      mark = tt;
      no_mark = none_shown _ live.marked c.forget.ensures.none;
      profile = c.cancel.ensures.profile ∙ c.take_in.ensures.profile ∙ c.forget.ensures.profile;
    }

pub invariant_of-self-in-Ok-clause-within : goal.invariant_of-self-in-Ok-clause-within
invariant_of-self-in-Ok-clause-within c =
    let live = c.forget.new.self in
    let index : Index = index_in c.args.self.now in
    let whole : Whole index live.hashes.items (held_in live.parts) live.lost live.shown = record { index_is = c.forget.ensures.index; undue = live.parts.undue; many = c.forget.ensures.blocks; few = c.forget.ensures.lost } in
    let items : c.push_reserved.new.self.items ≡ live.hashes.items ++ c.in_ok-change.change.hash ∷ [] = c.push_reserved.ensures.items ∙ ap (λ (l : List (List ℕ)). l ++ c.in_ok-change.change.hash ∷ []) c.reserve.ensures.items in
    within_grown index live.hashes.items (held_in live.parts) live.lost live.shown whole c.in_ok-change.change.hash c.in_ok-change.change.lost c.push_reserved.new.self.items c.join.new.self c.with_block-self.result items c.in-Ok.ensures.ok c.with_block-self.ensures
