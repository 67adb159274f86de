-- What a cache of replies is seen as, and what an answer makes of it.
use Rattle.std.specs.Prelude.{◌≡◌, ℕ, ◌+◌, ◌-◌, ◌^◌, ◌==◌, ◌&&◌, Bool, true, List, [], ◌∷◌}
use Rattle.std.specs.Prelude.{Option, Some, None, if◌then◌else◌, nat_le, length, map, min, take, ⊤}
use Rattle.std.specs.Str.{bytes_eq}
use Rattle.lru.specs.LruCache.{LruCache}
use Rattle.ox_http.specs.declared.Reply.{Reply}
use Rattle.ox_http.specs.Written.{written}
use Rattle.ox_cache.specs.declared.Key.{Key}

-- a reply that is kept, with the number of commands and the path that it answers
pub record Entry : Type 0 where
  pub commands : ℕ
  pub path : List ℕ
  pub reply : Reply

-- The replies that are kept, the most recent first, how many there may be, and how often one of
-- them was the answer.
pub record Kept : Type 0 where
  pub entries : List Entry
  pub room : ℕ
  pub hits : ℕ

-- nothing is kept yet
abbrev pub none_kept : ℕ → Kept
none_kept room = record { entries = []; room = room; hits = 0 }

-- the entry has this number and this path
abbrev pub is_of : ℕ → List ℕ → Entry → Bool
is_of commands path entry = (commands == entry.commands) && bytes_eq path entry.path

-- the entry of a number and a path
abbrev pub entry_of : ℕ → List ℕ → List Entry → Option Entry
entry_of commands path [] = None
entry_of commands path (entry ∷ entries) =
    if is_of commands path entry then Some entry else entry_of commands path entries

-- the entries but that of a number and a path
abbrev pub others : ℕ → List ℕ → List Entry → List Entry
others commands path [] = []
others commands path (entry ∷ entries) =
    if is_of commands path entry then entries else entry ∷ others commands path entries

-- the most bytes of a body that is kept
abbrev pub body_kept : ℕ
body_kept = 65536

-- the reply with which the link ends or not
abbrev pub closing : Bool → Reply → Reply
closing close reply = record reply { close = close }

-- an entry was the answer: it comes to the front, and is counted, up to the greatest number
abbrev pub after_hit : ℕ → List ℕ → Entry → Kept → Kept
after_hit commands path entry kept = record kept {
  entries = entry ∷ others commands path kept.entries;
  hits = min (kept.hits + 1) (2 ^ 64 - 1);
}

-- one hit more is counted, up to the greatest number
abbrev pub counted : Kept → Kept
counted kept = record kept { hits = min (kept.hits + 1) (2 ^ 64 - 1) }

-- A reply was made: one whose body isn't too long comes to the front, and past the room the last
-- one falls off.
abbrev pub after_miss : Entry → Kept → Kept
after_miss entry kept =
    if nat_le (length entry.reply.body) body_kept
    then record kept { entries = entry ∷ take (kept.room - 1) kept.entries } else kept

-- The answer is the entry that is kept, if there is one, and else a reply that was made.
abbrev pub Answers : (Reply → Type 0) → ℕ → List ℕ → Bool → Kept → List ℕ → Kept → Option Entry
    → Type 0
Answers IsMade commands path close old bytes new (Some entry) =
    (bytes ≡ written (closing close entry.reply)) × (new ≡ after_hit commands path entry old)
Answers IsMade commands path close old bytes new None =
    (reply : Reply) × IsMade reply × (bytes ≡ written (closing close reply))
    × (new ≡ after_miss (record { commands = commands; path = path; reply = reply }) old)

-- an entry of the cache's map
abbrev pub entry_in : Key × Reply → Entry
entry_in pair =
    record { commands = pair.0.commands; path = pair.0.path.items; reply = pair.1 }

-- what a map and a count are seen as
abbrev pub kept_in : LruCache Key Reply → ℕ → Kept
kept_in map_of hits =
    record { entries = map entry_in map_of.entries; room = map_of.cap; hits = hits }

-- the bytes of an entry's reply were found, if there is an entry
abbrev pub Peeked : Bool → Option (List ℕ) → Option Entry → Type 0
Peeked close found None = found ≡ None
Peeked close found (Some entry) = found ≡ Some (written (closing close entry.reply))

-- these are the bytes of the most recent entry, which is that of a number and a path
pub record IsNewest (commands : ℕ) (path : List ℕ) (close : Bool) (bytes : List ℕ)
    (entries : List Entry) : Type 0 where
  pub entry : Entry
  pub older : List Entry
  pub first : entries ≡ entry ∷ older
  pub asked : is_of commands path entry ≡ true
  pub spelled : bytes ≡ written (closing close entry.reply)

-- the entry was the answer, if there is one
abbrev pub Hits : ℕ → List ℕ → Option Entry → Kept → Kept → Type 0
Hits commands path None old new = ⊤
Hits commands path (Some entry) old new = new ≡ after_hit commands path entry old
