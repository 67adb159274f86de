-- The loops that join pushes and read integers.
use Rattle.std.proofs.Common.{◌≡◌, ℕ, zero, suc, ◌-◌, ◌<◌, List, [], ◌∷◌, ◌++◌, length, drop, Bool, true, false, cond, ◌≢◌, Option, Some, None, Ok, Err, refl, sym, ap, ◌∙◌, append_assoc, append-nil, arith}
use Rattle.std.specs.Prelude.{is_some}
use Rattle.std.proofs.lemmas.Bool.{true≢false}
use Rattle.std.proofs.lemmas.List.{drop-drop, nil_from_length}
use Rattle.ox_script.specs.declared.instructions.Item.{Item}
use Rattle.ox_script.specs.Script.{Push, Op, Reading, GivesItem, items_of, is_cut}
use Rattle.ox_varint.specs.declared.VarintFault.{VarintFault}
use Rattle.ox_varint.specs.Varint.{varint_at}
use Rattle.ox_runestone.specs.Payload.{before, joined_pushes, payload_of, integer_before, integers_past, integers_of}

pub before-nil : (more : Option (List ℕ)) → before [] more ≡ more
before-nil None = refl
before-nil (Some more) = refl

pub before-append : (bytes others : List ℕ) (more : Option (List ℕ)) → before (bytes ++ others) more ≡ before bytes (before others more)
before-append bytes others None = refl
before-append bytes others (Some more) = ap Some (append_assoc bytes others more)

-- ---- items

-- what `next` leaves, whatever it gives
pub after_next : (old : Reading) (item : Option Item) (new : Reading) → GivesItem old item new → (new.left ≡ drop 1 old.left) × (new.ends_cut ≡ old.ends_cut)
after_next old None new gives = (gives.1 ∙ sym (ap (drop 1) gives.0), gives.2)
after_next old (Some item) new gives = (sym (ap (drop 1) gives.0), gives.1)

-- after two, the items behind them are left
pub after_two : (script : List ℕ) (start one two : Reading) (a b : Option Item) → start.left ≡ items_of script → start.ends_cut ≡ is_cut script → GivesItem start a one → GivesItem one b two → (two.left ≡ drop 2 (items_of script)) × (two.ends_cut ≡ is_cut script)
after_two script start one two a b left ends first second =
    let f = after_next start a one first in
    let s = after_next one b two second in
    (s.0 ∙ ap (drop 1) (f.0 ∙ ap (drop 1) left) ∙ drop-drop 1 1 (items_of script), s.1 ∙ f.1 ∙ ends)

-- what is joined, in front of what the items to come add
pub record Joins (script payload : List ℕ) (items : Reading) : Type 0 where
  pub all : before payload (joined_pushes items.left) ≡ joined_pushes (drop 2 (items_of script))
  pub ends : items.ends_cut ≡ is_cut script

pub joins_none : (script : List ℕ) (items : Reading) → (items.left ≡ drop 2 (items_of script)) × (items.ends_cut ≡ is_cut script) → Joins script [] items
joins_none script items is = record { all = before-nil (joined_pushes items.left) ∙ ap joined_pushes is.0; ends = is.1 }

pub joins_push : (script payload bytes : List ℕ) (old new : Reading) → Joins script payload old → old.left ≡ Push bytes ∷ new.left → new.ends_cut ≡ old.ends_cut → Joins script (payload ++ bytes) new
joins_push script payload bytes old new joins left ends = record {
  all = before-append payload bytes (joined_pushes new.left) ∙ sym (ap (λ items. before payload (joined_pushes items)) left) ∙ joins.all;
  ends = ends ∙ joins.ends;
}

same_none : (b : Bool) → ◌≡◌ {A = Option (List ℕ)} None (cond b None None)
same_none true = refl
same_none false = refl

pub joins_op : (script payload : List ℕ) (op : ℕ) (old new : Reading) → Joins script payload old → old.left ≡ Op op ∷ new.left → None ≡ payload_of script
unfolding payload_of
joins_op script payload op old new joins left =
    let none : joined_pushes (drop 2 (items_of script)) ≡ None = sym joins.all ∙ ap (λ items. before payload (joined_pushes items)) left in
    rw none (same_none (is_cut script))

pub joins_cut : (script : List ℕ) → is_cut script ≡ true → None ≡ payload_of script
unfolding payload_of
joins_cut script cut = rw cut refl

pub joins_all : (script payload : List ℕ) (items : Reading) → Joins script payload items → items.left ≡ [] → is_cut script ≡ false → Some payload ≡ payload_of script
unfolding payload_of
joins_all script payload items joins left whole =
    let all : Some (payload ++ []) ≡ joined_pushes (drop 2 (items_of script)) = sym (ap (λ i. before payload (joined_pushes i)) left) ∙ joins.all in
    rw whole (ap Some (sym (append-nil payload)) ∙ all)

-- where no item is given, the end is met
end_met : (old : Reading) (item : Option Item) (new : Reading) → is_some item ≡ false → GivesItem old item new → (old.left ≡ []) × (new.met_cut ≡ old.ends_cut)
end_met old None new none gives = (gives.0, gives.3)
end_met old (Some item) new none gives = absurd (true≢false none)

-- a push behind the first two items, and nothing else
pub pushed_alone : (script bytes : List ℕ) (start one two three four : Reading) (a b d : Option Item) → start.left ≡ items_of script → start.ends_cut ≡ is_cut script → GivesItem start a one → GivesItem one b two → two.left ≡ Push bytes ∷ three.left → three.ends_cut ≡ two.ends_cut → GivesItem three d four → is_some d ≡ false → four.met_cut ≡ false → payload_of script ≡ Some bytes
pushed_alone script bytes start one two three four a b d left ends first second push same last none whole =
    let joins = joins_push script [] bytes two three (joins_none script two (after_two script start one two a b left ends first second)) push same in
    let end = end_met three d four none last in
    sym (joins_all script bytes three joins end.0 (sym joins.ends ∙ sym end.1 ∙ whole))

-- ---- integers

integers_past-drop : (skipped : ℕ) (bytes : List ℕ) → integers_past skipped bytes ≡ integers_of (drop skipped bytes)
unfolding integers_of
integers_past-drop zero bytes = refl
integers_past-drop (suc skipped) [] = refl
integers_past-drop (suc skipped) (byte ∷ bytes) = integers_past-drop skipped bytes

pub integers_of-nil : integers_of [] ≡ Some []
unfolding integers_of
integers_of-nil = refl

one_before : (n len : ℕ) (more : Option (List ℕ)) → integer_before (Ok (n, len)) more ≡ before (n ∷ []) more
one_before n len None = refl
one_before n len (Some more) = refl

pub integers_of-more : (bytes : List ℕ) (n len : ℕ) → 0 < length bytes → 0 < len → varint_at bytes ≡ Ok (n, len) → integers_of bytes ≡ before (n ∷ []) (integers_of (drop len bytes))
unfolding integers_of
integers_of-more [] n len long some is = absurd (omega arith)
integers_of-more (byte ∷ bytes) n len long some is =
    let k : len ≡ suc (len - 1) = omega arith in
    let rest : integers_past (len - 1) bytes ≡ integers_past 0 (drop len (byte ∷ bytes)) = integers_past-drop (len - 1) bytes ∙ ap (λ j. integers_past 0 (drop j (byte ∷ bytes))) (sym k) in
    rw is (ap (integer_before (Ok (n, len))) rest ∙ one_before n len (integers_past 0 (drop len (byte ∷ bytes))))

pub integers_of-fault : (bytes : List ℕ) (fault : VarintFault) → 0 < length bytes → varint_at bytes ≡ Err fault → integers_of bytes ≡ None
unfolding integers_of
integers_of-fault [] fault long is = absurd (omega arith)
integers_of-fault (byte ∷ bytes) fault long is = rw is refl

pub reads_more : (payload done rest : List ℕ) (n len : ℕ) → length rest ≢ 0 → 0 < len → Ok (n, len) ≡ varint_at rest → before done (integers_of rest) ≡ integers_of payload → before (done ++ n ∷ []) (integers_of (drop len rest)) ≡ integers_of payload
reads_more payload done rest n len long some is so_far =
    before-append done (n ∷ []) (integers_of (drop len rest)) ∙ ap (before done) (sym (integers_of-more rest n len (omega arith) some (sym is))) ∙ so_far

pub reads_fault : (payload done rest : List ℕ) (fault : VarintFault) → length rest ≢ 0 → Err fault ≡ varint_at rest → before done (integers_of rest) ≡ integers_of payload → None ≡ integers_of payload
reads_fault payload done rest fault long is so_far =
    sym (ap (before done) (integers_of-fault rest fault (omega arith) (sym is))) ∙ so_far

pub reads_all : (payload done rest : List ℕ) → length rest ≡ 0 → before done (integers_of rest) ≡ integers_of payload → Some done ≡ integers_of payload
reads_all payload done rest end so_far =
    let none : rest ≡ [] = nil_from_length rest end in
    ap Some (sym (append-nil done)) ∙ sym (ap (before done) (ap integers_of none ∙ integers_of-nil)) ∙ so_far
