-- What a desk over a store holds, and what a request makes of it.
use Rattle.std.specs.Prelude.{◌≡◌, ◌+◌, ◌≤◌, ℕ, Bool, false, IsTrue, is_some, unwrap_or}
use Rattle.std.specs.Prelude.{List, [], ◌∷◌, length, map, Option, Some, None, Ok}
use Rattle.std.specs.List.{AllByRecursion}
use Rattle.std.specs.Result.{result_ok}
use Rattle.ox_outside.specs.declared.site.Site.{Ghosts as Meanings}
use Rattle.ox_outside.specs.declared.site.Which.TheVariants.{A}
use Rattle.ox_feed.specs.declared.command.Command.{Command}
use Rattle.ox_http.specs.Written.{written}
use Rattle.ox_http.specs.declared.Method.{Method}
use Rattle.ox_http.specs.declared.Method.TheVariants.{Get}
use Rattle.ox_http.specs.declared.Request.{Request}
use Rattle.ox_turns.specs.declared.handler.Made.{Made}
use Rattle.ox_links.specs.Counted.{Key, Tally, with_get}
use Rattle.ox_links.specs.Serving.{next_state, one_if}
use Rattle.ox_gated.specs.Tail.{Holds, Kept as Tail}
use Rattle.ox_sat.specs.declared.profiles.ProfileName.TheVariants.{Mainnet}
use Rattle.ox_model.specs.Stack.{Stack, stack_after}
use Rattle.ox_files.specs.Stands.{stands}
use Rattle.ox_store.specs.Make.{first_head, made_stack}
use Rattle.ox_store.specs.Store.{StoreContents}
pub use Rattle.ox_asof.specs.Reply.{get_of}
use Rattle.ox_cache.specs.Kept.{Entry, Kept, closing, entry_of}
use Rattle.ox_desk.specs.Asked.{asked_on}
use Rattle.ox_desk.specs.Commands.{command_of}
use Rattle.ox_desk.specs.Queries.{query_reply}
use Rattle.ox_desk.specs.Replies.{command_reply}
use Rattle.ox_desk.specs.Servers.{reply_to, server_on}
use Rattle.ox_desk.specs.declared.told.Step.{Step}
use Rattle.ox_desk.specs.declared.told.Step.TheVariants.{Told, Carries}

-- What a desk holds: what its store does, how many requests were answered, and the replies that are
-- kept. A fault of the disk takes the store; stack, tail and commands say nothing then.
pub record DeskContents : Type 0 where
  pub is_open : Bool
  pub stack : Stack
  pub tail : Tail
  -- that were accepted since the store was opened
  pub commands : ℕ
  pub requests : ℕ
  pub cache : Kept

-- what says nothing, where there is no store
abbrev pub no_store : StoreContents
no_store = record {
  stack = made_stack Mainnet 1;
  tail = record {
    file = A;
    head = first_head Mainnet 1;
    first = 0;
    records = 0;
    gate = 0;
    other_closed = false;
  };
  commands = 0;
}

abbrev pub contents_in : Option StoreContents → ℕ → Kept → DeskContents
contents_in store requests cache = let s = unwrap_or store no_store in record {
  is_open = is_some store;
  stack = s.stack;
  tail = s.tail;
  commands = s.commands;
  requests = requests;
  cache = cache;
}

-- ---- the replies that are kept

-- An entry is of fewer commands than were accepted, and is never found again; or of as many, and
-- then it is the stack's reply to a GET of its path, but for `close`.
pub record IsTrueOf (stack : Stack) (commands : ℕ) (entry : Entry) : Type 0 where
  pub none_above : entry.commands ≤ commands
  pub present : entry.commands ≡ commands → (close : Bool)
      → closing close entry.reply ≡ query_reply (asked_on stack) (get_of entry.path close)

-- no two entries are of one number and one path
abbrev pub AreApart : List Entry → Type 0
AreApart [] = Unit {0}
AreApart (entry ∷ entries) =
    (entry_of entry.commands entry.path entries ≡ None) × AreApart entries

-- The replies that are kept by a stack behind so many commands: 64 at most, all of them true.
pub record KeepsTrue (stack : Stack) (commands : ℕ) (cache : Kept) : Type 0 where
  pub room : cache.room ≡ 64
  pub entries : AllByRecursion (IsTrueOf stack commands) cache.entries
  pub apart : AreApart cache.entries

-- what always holds of a desk that has its store
pub record IsSound (desk : DeskContents) : Type 0 where
  pub keeps : KeepsTrue desk.stack desk.commands desk.cache
  pub commands : desk.commands ≤ desk.requests
  pub hits : desk.cache.hits ≤ desk.requests

-- ---- what is counted

abbrev pub key_of : Entry → Key
key_of entry = record { accepted = entry.commands; path = entry.path }

-- the keys of the replies that are kept, the last used first, and the hits
abbrev pub tally_of : Kept → Tally
tally_of cache = record { keys = map key_of cache.entries; hits = cache.hits }

-- a tally behind a request, of which only a GET is counted
abbrev pub tally_by : Method → Key → ℕ → Tally → Tally
tally_by Get key size tally = with_get key size tally
tally_by method key size tally = tally

-- An answered request is counted; a command that is accepted, too; and a GET as a cache of 64
-- replies has it.
pub record Moved (old : DeskContents) (request : Request) (operator : Bool) (new : DeskContents)
    : Type 0 where
  pub requests : new.requests ≡ old.requests + 1
  pub commands : new.commands
      ≡ old.commands
      + one_if (is_some (next_state server_on old.stack (command_of operator request)))
  pub tally : tally_of new.cache
      ≡ tally_by request.method (record { accepted = old.commands; path = request.path })
      (length (reply_to old.stack operator request).body) (tally_of old.cache)

-- where there was no memory, all stays
abbrev pub Same : DeskContents → DeskContents → Type 0
Same old new = new ≡ old

-- The store is there. On a site that tells, its tail holds the files, and they stand for its stack.
pub record Rests {S : Type 0} (means : Meanings S) (desk : DeskContents) (site : S) : Type 0 where
  pub is_open : IsTrue desk.is_open
  pub holds : IsTrue (means.told site) → Holds means desk.tail site
  pub stands_for : IsTrue (means.told site) → stands (means.seen site) ≡ Ok desk.stack

-- ---- what carries out nothing

-- A GET was answered from a cache, with the stack's reply, and is counted.
pub record LooksUp (stack : Stack) (commands : ℕ) (request : Request) (old : Kept)
    (bytes : List ℕ) (new : Kept) : Type 0 where
  pub reply : bytes ≡ written (query_reply (asked_on stack) request)
  pub keeps : KeepsTrue stack commands new
  pub tally : tally_of new
      ≡ with_get (record { accepted = commands; path = request.path })
      (length (query_reply (asked_on stack) request).body) (tally_of old)
  pub hits : new.hits ≤ old.hits + 1

-- A request was answered with the stack's reply. It is counted, and the store is as it was.
pub record Tells (old : DeskContents) (request : Request) (bytes : List ℕ) (new : DeskContents)
    : Type 0 where
  pub reply : bytes ≡ written (query_reply (asked_on old.stack) request)
  pub is_open : new.is_open ≡ old.is_open
  pub stack : new.stack ≡ old.stack
  pub tail : new.tail ≡ old.tail
  pub commands : new.commands ≡ old.commands
  pub requests : new.requests ≡ old.requests + 1
  pub tally : tally_of new.cache
      ≡ tally_by request.method (record { accepted = old.commands; path = request.path })
      (length (query_reply (asked_on old.stack) request).body) (tally_of old.cache)

-- A request carries out nothing and was answered; or this is its command, and nothing has changed
-- yet.
abbrev pub Steps : DeskContents → Request → Bool → Step → DeskContents → Type 0
Steps old request operator (Told bytes) new =
    (command_of operator request ≡ None) × Tells old request bytes new
Steps old request operator (Carries command) new =
    (command_of operator request ≡ Some command) × (new ≡ old)

-- ---- a command

-- the stack after a command; one that is refused leaves it
abbrev pub stack_behind : Stack → Command → Stack
stack_behind stack command = unwrap_or (result_ok (stack_after stack command)) stack

-- one, where the command is accepted
abbrev pub accepted_one : Stack → Command → ℕ
accepted_one stack command = one_if (is_some (result_ok (stack_after stack command)))

-- a command was carried out by a store, or refused, and this is the reply
pub record IsCarried (before : StoreContents) (command : Command) (close : Bool)
    (bytes : List ℕ) (after : StoreContents) : Type 0 where
  pub reply : bytes ≡ written (command_reply asked_on (stack_after before.stack command) close)
  pub stack : after.stack ≡ stack_behind before.stack command
  pub commands : after.commands ≡ before.commands + accepted_one before.stack command

-- What came of a command: the reply, or, where there was no memory for it, nothing.
abbrev pub ComesOf : StoreContents → Command → Bool → Option (List ℕ) → StoreContents → Type 0
ComesOf before command close (Some bytes) after = IsCarried before command close bytes after
ComesOf before command close None after = after ≡ before

-- A command was carried out by a desk, or refused, and this is the reply. It is counted, and the
-- replies that are kept stay.
pub record CarriesOut (old : DeskContents) (command : Command) (close : Bool) (made : Made)
    (new : DeskContents) : Type 0 where
  pub reply : made.bytes
      ≡ written (command_reply asked_on (stack_after old.stack command) close)
  pub closes : made.close ≡ close
  pub stack : new.stack ≡ stack_behind old.stack command
  pub commands : new.commands ≡ old.commands + accepted_one old.stack command
  pub requests : new.requests ≡ old.requests + 1
  pub cache : new.cache ≡ old.cache
