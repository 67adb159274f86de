-- One call behind the other, of those that read what is next.
use Rattle.std.proofs.Common.{ℕ, List, Result, Ok, Err, refl}
use Rattle.ox_bytes.specs.Reading.{◌>>=◌, Reader}
use Rattle.ox_rows.specs.Coming.{IsAhead}
use Rattle.ox_rows.specs.Promises.{NextPromises}
use Rattle.ox_rows.specs.Reading.{made, ◌<*>◌}
use Rattle.ox_rows.specs.declared.next.NextFault.{NextFault}
use Rattle.ox_rows.specs.declared.source.Source.{Ghosts as Meanings}
use Rattle.ox_rows.proofs.Ahead.{calls_then, gives_then, stops_as, stops_first, until_then}
use Rattle.ox_rows.proofs.Fours.{one_go, one_stop, one_stopped}

module _ {S W F : Type 0} (means : Meanings S W F) where
  -- what is read is seen in another way
  pub seen_as : {X Y : Type 0} {reader : Reader Y} (view : X → Y) (x : X) {old new : List ℕ} {s t : S} {w v : W} → NextPromises means (λ y. y) reader (Ok (view x)) old new s t w v
      → NextPromises means view reader (Ok x) old new s t w v
  seen_as view x h = record { read = h.read; ready = h.ready; calls = h.calls }

  -- the first of two readings fails
  pub fails_first : {A B X Y : Type 0} {first : X → A} {view : Y → B} (reader : Reader A) (next : A × List ℕ → Result (B × List ℕ) ℕ) (e : NextFault F) {old new : List ℕ} {s t : S} {w v : W}
      → NextPromises means first reader (Err e) old new s t w v → NextPromises means view (λ bytes. reader bytes >>= next) (Err e) old new s t w v
  fails_first reader next e h = record { read = λ bytes ahead. stops_first e (reader bytes) next (h.read bytes ahead); ready = tt; calls = h.calls }

  -- one field of several failed, and so do all
  pub failed : {A B Y : Type 0} {view : Y → B} {front : Reader (A → B)} (field : Reader A) (e : NextFault F) {old new : List ℕ} {s t : S} {w v : W}
      → NextPromises means (λ (f : A → B). f) front (Err e) old new s t w v → NextPromises means view (front <*> field) (Err e) old new s t w v
  failed {front = front} field e h = record {
    read = λ bytes ahead. stops_as e (front bytes) ((front <*> field) bytes) (λ left is. one_stopped field is) (h.read bytes ahead);
    ready = tt;
    calls = h.calls;
  }

  module _ (no_call : (s : S) (w : W) → means.went s w s w)
      (then_went : (s t u : S) (w v x : W) → means.went s w t v → means.went t v u x → means.went s w u x)
      (then_ended : (s t u : S) (w v x : W) (fault : F) → means.went s w t v → means.ended t v fault u x → means.ended s w fault u x) where
    -- no field is read yet
    pub begins : {A : Type 0} (make : A) (old : List ℕ) (s : S) (w : W) → means.ready s w → NextPromises means (λ x. x) (made make) (Ok make) old old s s w w
    begins make old s w ready = record { read = λ bytes ahead. (bytes, ahead, refl); ready = ready; calls = no_call s w }

    -- the first of two readings is done
    pub goes_on : {A B X Y : Type 0} {first : X → A} {view : Y → B} (reader : Reader A) (next : A × List ℕ → Result (B × List ℕ) ℕ) (x : X) (result : Result Y (NextFault F)) {old mid new : List ℕ} {s t u : S} {w v z : W}
        → NextPromises means first reader (Ok x) old mid s t w v → NextPromises means view (λ bytes. next (first x, bytes)) result mid new t u v z
        → NextPromises means view (λ bytes. reader bytes >>= next) result old new s u w z
    goes_on {first = first} {view = view} reader next x result {new = new} {u = u} {z = z} h behind = record {
      read = λ bytes ahead.
          let n = h.read bytes ahead in
          gives_then view (IsAhead (means.comes u z) new) result (reader bytes) next (first x, n.0) n.2 (behind.read n.0 n.1);
      ready = behind.ready;
      calls = calls_then means.went means.ended then_went then_ended _ _ _ _ _ _ result h.calls behind.calls;
    }

    -- the next of several fields is read
    pub and_then : {A B X : Type 0} {view : X → A} {front : Reader (A → B)} (field : Reader A) (f : A → B) (x : X) {old mid new : List ℕ} {s t u : S} {w v z : W}
        → NextPromises means (λ y. y) front (Ok f) old mid s t w v → NextPromises means view field (Ok x) mid new t u v z
        → NextPromises means (λ y. y) (front <*> field) (Ok (f (view x))) old new s u w z
    and_then field f x h behind = record {
      read = λ bytes ahead.
          let n = h.read bytes ahead in
          let m = behind.read n.0 n.1 in
          (m.0, m.1, one_go field n.2 m.2);
      ready = behind.ready;
      calls = then_went _ _ _ _ _ _ h.calls behind.calls;
    }

    -- or fails
    pub and_fails : {A B X Y : Type 0} {first : X → A} {view : Y → B} {front : Reader (A → B)} (field : Reader A) (f : A → B) (e : NextFault F) {old mid new : List ℕ} {s t u : S} {w v z : W}
        → NextPromises means (λ y. y) front (Ok f) old mid s t w v → NextPromises means first field (Err e) mid new t u v z
        → NextPromises means view (front <*> field) (Err e) old new s u w z
    and_fails {front = front} field f e h behind = record {
      read = λ bytes ahead.
          let n = h.read bytes ahead in
          stops_as e (field n.0) ((front <*> field) bytes) (λ left is. one_stop field n.2 is) (behind.read n.0 n.1);
      ready = tt;
      calls = until_then means.went means.ended then_went then_ended _ _ _ _ _ _ e h.calls behind.calls;
    }
