-- The entries of the cache's map are those of its contracts.
use Rattle.std.proofs.Common.{◌≡◌, refl, sym, ap, subst, ◌∙◌, ℕ, zero, suc, ◌+◌, ◌-◌, ◌^◌}
use Rattle.std.proofs.Common.{min, ◌&&◌}
use Rattle.std.proofs.Common.{Bool, true, false, cond, List, [], ◌∷◌, map, take, Option, Some, None}
use Rattle.std.proofs.Common.{option_map, nat_le, length}
use Rattle.std.specs.List.{slice_get}
use Rattle.std.specs.Option.{option_map_or, option_copied}
use Rattle.std.specs.Str.{bytes_eq}
use Rattle.std.specs.Map.{lookup, lookup_entry, remove_entry}
use Rattle.std.proofs.lemmas.Bool.{eq-eqb}
use Rattle.std.proofs.lemmas.Slice.Eq.{bytes_eq-Decides}
use Rattle.lru.specs.LruCache.{LruCache, lru_cache, promoted, put_entries}
use Rattle.ox_http.specs.declared.Reply.{Reply}
use Rattle.ox_http.specs.declared.writer.ReplyParts.{ReplyParts}
use Rattle.ox_http.specs.Written.{reply_of, written}
use Rattle.ox_cache.specs.declared.Key.{Key}
use Rattle.ox_cache.specs.Kept.{Answers, Entry, Hits, IsNewest, Kept, Peeked, after_hit, after_miss}
use Rattle.ox_cache.specs.Kept.{closing, counted, entry_in, entry_of, kept_in, others}
use Rattle.ox_cache.specs.contracts.KeyPartialEq.TheImpl as same

-- the equality that is derived
abbrev pub equal : Key → Key → Bool
equal = (same.eq-value).it

pub take-map : {X Y : Type 0} (f : X → Y) (n : ℕ) (xs : List X)
    → map f (take n xs) ≡ take n (map f xs)
take-map f zero xs = refl
take-map f (suc n) [] = refl
take-map f (suc n) (x ∷ xs) = ap (λ ys. f x ∷ ys) (take-map f n xs)

pub closing-parts : (parts : ReplyParts) (reply : Reply) (close : Bool)
    → parts.status ≡ reply.status → parts.kind.now ≡ reply.kind
    → option_copied parts.encoding ≡ reply.encoding → parts.body.now ≡ reply.body
    → reply_of parts close ≡ closing close reply
closing-parts parts reply close status kind encoding body =
    λ i. record {
      status = status i;
      kind = kind i;
      encoding = encoding i;
      body = body i;
      close = close;
    }

module _ (key : Key) where
  -- the entry that the contracts see
  abbrev pub seen : List (Key × Reply) → Option Entry
  seen entries = entry_of key.commands key.path.items (map entry_in entries)

  pub seen-is : (entries : List (Key × Reply))
      → seen entries ≡ option_map entry_in (lookup_entry (equal key) entries)
  seen-is [] = refl
  seen-is (e ∷ entries) =
      elim (equal key e.0)
      as (λ b. cond b (Some (entry_in e)) (seen entries)
      ≡ option_map entry_in (cond b (Some e) (lookup_entry (equal key) entries))) [
        | true ↦ refl
        | false ↦ seen-is entries
      ]

  pub lookup-is : (entries : List (Key × Reply))
      → lookup (equal key) entries ≡ option_map (λ (entry : Entry). entry.reply) (seen entries)
  lookup-is [] = refl
  lookup-is (e ∷ entries) =
      elim (equal key e.0)
      as (λ b. cond b (Some e.1) (lookup (equal key) entries)
      ≡ option_map (λ (entry : Entry). entry.reply) (cond b (Some (entry_in e)) (seen entries))) [
        | true ↦ refl
        | false ↦ lookup-is entries
      ]

  pub others-is : (entries : List (Key × Reply))
      → map entry_in (remove_entry (equal key) entries)
      ≡ others key.commands key.path.items (map entry_in entries)
  others-is [] = refl
  others-is (e ∷ entries) =
      elim (equal key e.0)
      as (λ b. map entry_in (cond b entries (e ∷ remove_entry (equal key) entries))
      ≡ cond b (map entry_in entries)
      (entry_in e ∷ others key.commands key.path.items (map entry_in entries))) [
        | true ↦ refl
        | false ↦ ap (λ es. entry_in e ∷ es) (others-is entries)
      ]

  promoted-hits : (old : LruCache Key Reply) (hits : ℕ) (o : Option (Key × Reply))
      → Hits key.commands key.path.items (option_map entry_in o) (kept_in old hits)
      (kept_in
      (lru_cache (option_map_or (λ e. e ∷ remove_entry (equal key) old.entries) o old.entries)
      old.cap)
      (min (hits + 1) (2 ^ 64 - 1)))
  promoted-hits old hits None = tt
  promoted-hits old hits (Some e) =
      λ i. record {
        entries = entry_in e ∷ others-is old.entries i;
        room = old.cap;
        hits = min (hits + 1) (2 ^ 64 - 1);
      }

  -- an entry comes to the front
  pub Hits-promoted : (old new : LruCache Key Reply) (hits count : ℕ)
      → new ≡ lru_cache (promoted (equal key) old.entries) old.cap
      → count ≡ min (hits + 1) (2 ^ 64 - 1)
      → Hits key.commands key.path.items (seen old.entries) (kept_in old hits) (kept_in new count)
  Hits-promoted old new hits count e n =
      subst
      (λ o. Hits key.commands key.path.items o (kept_in old hits) (kept_in new count))
      (sym (seen-is old.entries))
      (subst
      (λ m. Hits key.commands key.path.items
      (option_map entry_in (lookup_entry (equal key) old.entries)) (kept_in old hits)
      (kept_in m count))
      (sym e)
      (subst
      (λ m. Hits key.commands key.path.items
      (option_map entry_in (lookup_entry (equal key) old.entries)) (kept_in old hits)
      (kept_in (lru_cache (promoted (equal key) old.entries) old.cap) m))
      (sym n)
      (promoted-hits old hits (lookup_entry (equal key) old.entries))))

  put-at : (old : LruCache Key Reply) (reply : Reply) (o : Option (Key × Reply))
      → option_map entry_in o ≡ None
      → option_map_or (λ e. (e.0, reply) ∷ remove_entry (equal key) old.entries) o
      ((key, reply) ∷ take (old.cap - 1) old.entries)
      ≡ (key, reply) ∷ take (old.cap - 1) old.entries
  put-at old reply None none = refl
  put-at old reply (Some e) none = cc

  -- a new entry goes in front, and the last one falls off
  pub put-is : (old : LruCache Key Reply) (reply : Reply) → seen old.entries ≡ None
      → map entry_in (put_entries equal old key reply)
      ≡ entry_in (key, reply) ∷ take (old.cap - 1) (map entry_in old.entries)
  put-is old reply none =
      ap (map entry_in)
      (put-at old reply (lookup_entry (equal key) old.entries)
      (sym (seen-is old.entries) ∙ none))
      ∙ ap (λ es. entry_in (key, reply) ∷ es) (take-map entry_in (old.cap - 1) old.entries)

  miss-at : (reply : Reply) (old : LruCache Key Reply) (hits : ℕ) (kept : Bool) → kept ≡ true
      → kept_in (lru_cache (put_entries equal old key reply) old.cap) hits
      ≡ cond kept
      (kept_in (lru_cache (put_entries equal old key reply) old.cap) hits) (kept_in old hits)
  miss-at reply old hits true is = refl
  miss-at reply old hits false is = cc

  -- a reply of which the body isn't too long is kept
  pub after_miss-put : (old new : LruCache Key Reply) (reply : Reply) (hits : ℕ)
      → nat_le (length reply.body) 65536 ≡ true → seen old.entries ≡ None
      → new ≡ lru_cache (put_entries equal old key reply) old.cap
      → kept_in new hits ≡ after_miss (entry_in (key, reply)) (kept_in old hits)
  after_miss-put old new reply hits short none is =
      ap (λ m. kept_in m hits) is
      ∙ miss-at reply old hits (nat_le (length reply.body) 65536) short
      ∙ ap (λ es. cond (nat_le (length reply.body) 65536)
      (record { entries = es; room = old.cap; hits = hits }) (kept_in old hits))
      (put-is old reply none)

  peeked-at : (close : Bool) (o : Option Entry)
      → Peeked close
      (option_map (λ reply. written (closing close reply)) (option_map (λ (e : Entry). e.reply) o)) o
  peeked-at close None = refl
  peeked-at close (Some e) = refl

  -- what is looked up is peeked
  pub Peeked-lookup : (close : Bool) (entries : List (Key × Reply)) (found : Option (List ℕ))
      → found ≡ option_map (λ reply. written (closing close reply)) (lookup (equal key) entries)
      → Peeked close found (seen entries)
  Peeked-lookup close entries found is =
      subst (λ f. Peeked close f (seen entries))
      (sym (is ∙ ap (option_map (λ reply. written (closing close reply))) (lookup-is entries)))
      (peeked-at close (seen entries))

-- what was peeked and hit is the answer
pub Answers-hit : (IsMade : Reply → Type 0) (commands : ℕ) (path : List ℕ) (close : Bool)
    (old : Kept) (bytes : List ℕ) (new : Kept) (o : Option Entry)
    → Peeked close (Some bytes) o → Hits commands path o old new
    → Answers IsMade commands path close old bytes new o
Answers-hit IsMade commands path close old bytes new None peeked hits = cc
Answers-hit IsMade commands path close old bytes new (Some e) peeked hits = (cc, hits)

-- where nothing was peeked there is no entry
pub Peeked-none : (close : Bool) (o : Option Entry) → Peeked close None o → o ≡ None
Peeked-none close None peeked = refl
Peeked-none close (Some e) peeked = cc

-- the map's first pair is the most recent entry
pub newest-is : (commands : ℕ) (path : List ℕ) (close : Bool) (bytes : List ℕ) (key : Key)
    (reply : Reply) (entries : List (Key × Reply)) → slice_get entries 0 ≡ Some (key, reply)
    → key.commands ≡ commands → key.path.items ≡ path → bytes ≡ written (closing close reply)
    → IsNewest commands path close bytes (map entry_in entries)
newest-is commands path close bytes key reply [] first number text spelled = cc first
newest-is commands path close bytes key reply (e ∷ entries) first number text spelled =
    let same : e ≡ (key, reply) = let some : Some e ≡ Some (key, reply) = first in cc some in
    record {
      entry = entry_in (key, reply);
      older = map entry_in entries;
      first = ap (λ pair. entry_in pair ∷ map entry_in entries) same;
      asked = ap (λ b. b && bytes_eq path key.path.items)
          (eq-eqb commands key.commands (sym number))
          ∙ (bytes_eq-Decides path key.path.items).1 (sym text);
      spelled = spelled;
    }

-- the most recent entry stays where it is
newest-stays : (commands : ℕ) (path : List ℕ) (close : Bool) (bytes : List ℕ) (old : Kept)
    (newest : IsNewest commands path close bytes old.entries)
    → counted old ≡ after_hit commands path newest.entry old
newest-stays commands path close bytes old newest =
    let front : old.entries ≡ newest.entry ∷ others commands path old.entries =
    newest.first
    ∙ sym (ap (λ es. newest.entry ∷ others commands path es) newest.first
    ∙ ap (λ b. newest.entry ∷ cond b newest.older
    (newest.entry ∷ others commands path newest.older)) newest.asked) in
    λ i. record {
      entries = front i;
      room = old.room;
      hits = min (old.hits + 1) (2 ^ 64 - 1);
    }

-- the most recent entry was the answer
pub Answers-newest : (IsMade : Reply → Type 0) (commands : ℕ) (path : List ℕ) (close : Bool)
    (old : Kept) (bytes : List ℕ) (new : Kept) → IsNewest commands path close bytes old.entries
    → new ≡ counted old
    → Answers IsMade commands path close old bytes new (entry_of commands path old.entries)
Answers-newest IsMade commands path close old bytes new newest is =
    subst (Answers IsMade commands path close old bytes new)
    (sym (ap (entry_of commands path) newest.first
    ∙ ap (λ b. cond b (Some newest.entry) (entry_of commands path newest.older)) newest.asked))
    (newest.spelled, is ∙ newest-stays commands path close bytes old newest)
