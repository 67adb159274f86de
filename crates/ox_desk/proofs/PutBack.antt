-- How a desk takes back the store that carried out a command, and what is told of it.
use Rattle.std.proofs.Common.{◌≡◌, ◌≢◌, ◌∙◌, ℕ, ◌+◌, ◌≤◌, Bool, List, Option, Some, None, is_some, refl, sym, ap, subst, arith}
use Rattle.std.specs.Prelude.{Result, Ok, Err, IfOk, OnErr, IsErrOf, IsTrue}
use Rattle.ox_outside.specs.Counts.{Counts, IsFailure, StopsAtFault}
use Rattle.ox_outside.specs.declared.site.Site.{Ghosts as Meanings}
use Rattle.ox_outside.proofs.Counts.{stops_as}
use Rattle.ox_feed.specs.declared.command.Command.{Command}
use Rattle.ox_turns.specs.declared.handler.DeskFault.{DeskFault}
use Rattle.ox_turns.specs.declared.handler.DeskFault.TheVariants.{DiskFault, Memory}
use Rattle.ox_turns.specs.declared.handler.Made.{Made}
use Rattle.ox_gated.specs.Tail.{Holds}
use Rattle.ox_files.specs.Stands.{stands}
use Rattle.ox_store.specs.Store.{StoreContents}
use Rattle.ox_cache.specs.Kept.{Kept}
use Rattle.ox_desk.specs.Desk.{CarriesOut, ComesOf, DeskContents, IsSound, Rests, contents_in}
use Rattle.ox_desk.specs.PutBack.{desk_behind, desk_by, made_by, made_of, requests_by}
use Rattle.ox_desk.specs.declared.carry.Carried.{Carried}
use Rattle.ox_desk.proofs.Answering.{accepted_few, keeps_behind}

pub ok_is_no_error : {T E : Type 0} (x : T) (e : E) → Ok x ≡ Err e → ⊥
ok_is_no_error x e is = cc is

pub memory_is_no_fault : (result : Result Made DeskFault) → result ≡ Err Memory → result ≡ Err DiskFault → ⊥
memory_is_no_fault result memory fault = cc (memory, fault)

-- ---- where the outcome is known

-- an outcome that is known, and what is told by it, of a desk that is seen so
module _ {E : Type 0} (r : Result Carried E) (carried : Carried) (told : Option (List ℕ)) (is : r ≡ Ok carried) (some : carried.told ≡ told)
    (held : Option StoreContents) (requests : ℕ) (cache : Kept) (old : DeskContents) (seen : contents_in held requests cache ≡ old) where
  pub made_is : (close : Bool) → made_of told close ≡ made_by r close
  made_is close = ap (λ (o : Option (List ℕ)). made_of o close) (sym some) ∙ ap (λ (q : Result Carried E). made_by q close) (sym is)

  pub desk_is : contents_in (Some carried.store) (requests_by told requests) cache ≡ desk_by r old
  desk_is =
      ap (λ (o : Option (List ℕ)). contents_in (Some carried.store) (requests_by o requests) cache) (sym some)
      ∙ ap (λ (d : DeskContents). desk_behind carried d) seen
      ∙ ap (λ (q : Result Carried E). desk_by q old) (sym is)

  pub sound_is : IfOk r (λ left. IsSound (desk_behind left old)) → IsSound (contents_in (Some carried.store) (requests_by told requests) cache)
  sound_is sound =
      subst (λ (o : Option (List ℕ)). IsSound (contents_in (Some carried.store) (requests_by o requests) cache)) some
      (subst (λ (q : Result Carried E). IfOk q (λ left. IsSound (desk_behind left (contents_in held requests cache)))) is
      (subst (λ (d : DeskContents). IfOk r (λ left. IsSound (desk_behind left d))) (sym seen) sound))

-- ---- the store that is taken out

-- where there is none, nothing is open
pub none_open : (held : Option StoreContents) → held ≡ None → IsTrue (is_some held) → ⊥
none_open (Some store) none there = cc none
none_open None none there = cc there

module _ (held : Option StoreContents) (store : StoreContents) (requests : ℕ) (cache : Kept) (is : held ≡ Some store) where
  pub seen_open : (old : DeskContents) → contents_in held requests cache ≡ old → contents_in (Some store) requests cache ≡ old
  seen_open old seen = subst (λ (o : Option StoreContents). contents_in o requests cache ≡ old) is seen

  pub sound_open : (IsTrue (contents_in held requests cache).is_open → IsSound (contents_in held requests cache)) → IsSound (contents_in (Some store) requests cache)
  sound_open sound = subst (λ (o : Option StoreContents). IsTrue (contents_in o requests cache).is_open → IsSound (contents_in o requests cache)) is sound refl

-- ---- behind a command

-- A store carried out a command, or refused it, or had no memory for it, and a desk that is left without its store takes it back.
module _ (store : StoreContents) (requests : ℕ) (cache : Kept) (command : Command) (close : Bool) (taken : Option StoreContents) where
  sound_told : (told : Option (List ℕ)) (after : StoreContents) → IsSound (contents_in (Some store) requests cache) → ComesOf store command close told after
      → IsSound (contents_in (Some after) (requests_by told requests) cache)
  sound_told (Some bytes) after was carried =
      let few = accepted_few store.stack command in
      record {
        keeps = keeps_behind store.stack after.stack store.commands after.commands cache command carried.stack carried.commands was.keeps;
        commands = let e = was.commands in omega (arith, carried.commands, few, e);
        hits = let e = was.hits in omega (arith, e);
      }
  sound_told None after was same = subst (λ (s : StoreContents). IsSound (contents_in (Some s) requests cache)) (sym same) was

  -- the desk stays sound
  pub sound_behind : {E : Type 0} (r : Result Carried E) → IsSound (contents_in (Some store) requests cache) → IfOk r (λ carried. ComesOf store command close carried.told carried.store)
      → IfOk r (λ left. IsSound (desk_behind left (contents_in taken requests cache)))
  sound_behind (Ok carried) was comes = sound_told carried.told carried.store was comes
  sound_behind (Err e) was comes = tt

  told_out : (told : Option (List ℕ)) (after : StoreContents) → ComesOf store command close told after
      → IfOk (made_of told close) (λ made. CarriesOut (contents_in (Some store) requests cache) command close made (contents_in (Some after) (requests_by told requests) cache))
  told_out (Some bytes) after carried = record { reply = carried.reply; closes = refl; stack = carried.stack; commands = carried.commands; requests = refl; cache = refl }
  told_out None after same = tt

  out : {E : Type 0} (r : Result Carried E) → IfOk r (λ carried. ComesOf store command close carried.told carried.store)
      → IfOk (made_by r close) (λ made. CarriesOut (contents_in (Some store) requests cache) command close made (desk_by r (contents_in taken requests cache)))
  out (Ok carried) comes = told_out carried.told carried.store comes
  out (Err e) comes = tt

  untold : (told : Option (List ℕ)) (after : StoreContents) → ComesOf store command close told after → made_of told close ≡ Err Memory
      → contents_in (Some after) (requests_by told requests) cache ≡ contents_in (Some store) requests cache
  untold (Some bytes) after carried none = absurd (ok_is_no_error _ _ none)
  untold None after same none = ap (λ (s : StoreContents). contents_in (Some s) requests cache) same

  as_before : {E : Type 0} (r : Result Carried E) → IfOk r (λ carried. ComesOf store command close carried.told carried.store) → made_by r close ≡ Err Memory
      → desk_by r (contents_in taken requests cache) ≡ contents_in (Some store) requests cache
  as_before (Ok carried) comes none = untold carried.told carried.store comes none
  as_before (Err e) comes none = absurd (memory_is_no_fault (Err Memory) refl (sym none))

  told_few : (told : Option (List ℕ)) → requests_by told requests ≤ requests + 1
  told_few (Some bytes) = omega arith
  told_few None = omega arith

  few : {E : Type 0} (r : Result Carried E) → (desk_by r (contents_in taken requests cache)).requests ≤ requests + 1
  few (Ok carried) = told_few carried.told
  few (Err e) = omega arith

  told_no_fault : (told : Option (List ℕ)) → made_of told close ≡ Err DiskFault → ⊥
  told_no_fault (Some bytes) is = ok_is_no_error _ _ is
  told_no_fault None is = memory_is_no_fault (Err Memory) refl is

  fault_is : {E : Type 0} (r : Result Carried E) (P : Type 0) → OnErr r P → made_by r close ≡ Err DiskFault → P
  fault_is (Ok carried) P on is = absurd (told_no_fault carried.told is)
  fault_is (Err e) P on is = on

  failure_is : {E : Type 0} (r : Result Carried E) → IsFailure r → made_by r close ≡ Err DiskFault
  failure_is (Ok carried) failed = absurd failed
  failure_is (Err e) failed = refl

  rests : {E S : Type 0} (means : Meanings S) (site : S) (r : Result Carried E) → (IsTrue (means.told site) → IfOk r (λ carried. Holds means carried.store.tail site))
      → (IsTrue (means.told site) → IfOk r (λ carried. stands (means.seen site) ≡ Ok carried.store.stack)) → (made_by r close ≡ Err DiskFault → ⊥)
      → Rests means (desk_by r (contents_in taken requests cache)) site
  rests means site (Ok carried) holds stood no_fault = record { is_open = refl; holds = holds; stands_for = stood }
  rests means site (Err e) holds stood no_fault = absurd (no_fault refl)

-- the same of the desks before and after, as they are seen, and of what the call answers
module _ {E : Type 0} (store : StoreContents) (requests : ℕ) (cache : Kept) (command : Command) (close : Bool) (taken : Option StoreContents) (r : Result Carried E)
    (old new : DeskContents) (result : Result Made DeskFault)
    (seen : contents_in (Some store) requests cache ≡ old) (made : result ≡ made_by r close) (desk : new ≡ desk_by r (contents_in taken requests cache)) where
  pub carries_out : IfOk r (λ carried. ComesOf store command close carried.told carried.store) → IfOk result (λ made. CarriesOut old command close made new)
  carries_out comes =
      subst (λ (d : DeskContents). IfOk result (λ made. CarriesOut d command close made new)) seen
      (subst (λ (d : DeskContents). IfOk result (λ made. CarriesOut (contents_in (Some store) requests cache) command close made d)) (sym desk)
      (subst (λ (q : Result Made DeskFault). IfOk q (λ made. CarriesOut (contents_in (Some store) requests cache) command close made (desk_by r (contents_in taken requests cache)))) (sym made)
      (out store requests cache command close taken r comes)))

  pub stays : IfOk r (λ carried. ComesOf store command close carried.told carried.store) → IsErrOf result Memory → new ≡ old
  stays comes none = desk ∙ as_before store requests cache command close taken r comes (sym made ∙ none) ∙ seen

  pub rests_behind : {S : Type 0} (means : Meanings S) (before after : S) → means.told after ≡ means.told before → Rests means old before
      → (IsTrue (means.told before) → IfOk r (λ carried. Holds means carried.store.tail after))
      → (IsTrue (means.told before) → stands (means.seen before) ≡ Ok store.stack → IfOk r (λ carried. stands (means.seen after) ≡ Ok carried.store.stack))
      → result ≢ Err DiskFault → Rests means new after
  rests_behind means before after told rested holds stood no_fault =
      let stood_before : IsTrue (means.told before) → stands (means.seen before) ≡ Ok store.stack =
      λ is. subst (λ (d : DeskContents). stands (means.seen before) ≡ Ok d.stack) (sym seen) (rested.stands_for is) in
      subst (λ (d : DeskContents). Rests means d after) (sym desk)
      (rests store requests cache command close taken means after r (λ is. holds (sym told ∙ is)) (λ is. stood (sym told ∙ is) (stood_before (sym told ∙ is))) (λ is. no_fault (made ∙ is)))

  pub asked_few : new.requests ≤ old.requests + 1
  asked_few =
      subst (λ (d : DeskContents). new.requests ≤ d.requests + 1) seen
      (subst (λ (d : DeskContents). d.requests ≤ requests + 1) (sym desk) (few store requests cache command close taken r))

  pub failed_behind : (P : Type 0) → OnErr r P → IsErrOf result DiskFault → P
  failed_behind P on is = fault_is store requests cache command close taken r P on (sym made ∙ is)

  pub counted_behind : (a b : Counts) → StopsAtFault (IsFailure r) ⊥ ⊥ a b → StopsAtFault (result ≡ Err DiskFault) ⊥ ⊥ a b
  counted_behind a b = stops_as (IsFailure r) ⊥ ⊥ (result ≡ Err DiskFault) ⊥ ⊥ a b (λ f. made ∙ failure_is store requests cache command close taken r f) (λ x. x) (λ x. x)
