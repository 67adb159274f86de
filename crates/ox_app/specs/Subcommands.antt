-- The words of the program, subcommand by subcommand.
use Rattle.std.specs.Prelude.{◌≡◌, ◌≢◌, ◌⊎◌, ℕ, ◌≤◌, List, [], ◌∷◌, codes, decimal}
use Rattle.ox_outside.specs.Counts.{greatest}
use Rattle.ox_sat.specs.Profiles.{profile_word}
use Rattle.ox_sat.specs.declared.profiles.ProfileName.{ProfileName}
use Rattle.ox_app.specs.declared.subcommand.Subcommand.{Subcommand}
use Rattle.ox_app.specs.declared.subcommand.Subcommand.TheVariants.{Fold, Init, Apply, Query}
use Rattle.ox_app.specs.declared.subcommand.Subcommand.TheVariants.{Serve, Drill, Migrate, Lead}
use Rattle.ox_app.specs.declared.subcommand.Subcommand.TheVariants.{Follow, Grow, Unknown}

-- a run over a feed, by its profile
abbrev pub fold_words : ProfileName → List (List ℕ)
fold_words name = codes "fold" ∷ profile_word name ∷ []

-- the making of a store, by its profile and its depth
abbrev pub init_words : ProfileName → ℕ → List (List ℕ)
init_words name depth = codes "init" ∷ profile_word name ∷ decimal depth ∷ []

-- a run over a feed and a store
abbrev pub apply_words : List (List ℕ)
apply_words = codes "apply" ∷ []

-- a query of a path
abbrev pub query_words : List ℕ → List (List ℕ)
query_words path = codes "query" ∷ path ∷ []

-- so many turns of a server
abbrev pub serve_words : ℕ → List (List ℕ)
serve_words turns = codes "serve" ∷ decimal turns ∷ []

-- a drill of so many blocks
abbrev pub drill_words : ℕ → List (List ℕ)
drill_words n = codes "drill" ∷ decimal n ∷ []

-- the migration of a store of version 1
abbrev pub migrate_words : List (List ℕ)
migrate_words = codes "migrate" ∷ []

-- a store that hands out its pieces
abbrev pub lead_words : List (List ℕ)
lead_words = codes "lead" ∷ []

-- a store that takes another one's
abbrev pub follow_words : List (List ℕ)
follow_words = codes "follow" ∷ []

-- the growing of a store of version 2
abbrev pub grow_words : List (List ℕ)
grow_words = codes "grow" ∷ []

-- a number from 1 to this one
pub record IsUpTo (most n : ℕ) : Type 0 where
  pub some : 1 ≤ n
  pub few : n ≤ most

-- how many blocks a store may keep
abbrev pub IsDepth : ℕ → Type 0
IsDepth = IsUpTo 1000

-- how many turns a server may make
abbrev pub IsTurns : ℕ → Type 0
IsTurns = IsUpTo greatest

-- how many blocks a drill may have
abbrev pub IsDrillLength : ℕ → Type 0
IsDrillLength = IsUpTo 100000

-- the words are no subcommand
pub record IsUnknown (words : List (List ℕ)) : Type 0 where
  pub no_fold : (name : ProfileName) → words ≢ fold_words name
  pub no_init : (name : ProfileName) (depth : ℕ) → IsDepth depth → words ≢ init_words name depth
  pub no_apply : words ≢ apply_words
  pub no_query : (path : List ℕ) → words ≢ query_words path
  pub no_serve : (turns : ℕ) → IsTurns turns → words ≢ serve_words turns
  pub no_drill : (n : ℕ) → IsDrillLength n → words ≢ drill_words n
  pub no_migrate : words ≢ migrate_words
  pub no_lead : words ≢ lead_words
  pub no_follow : words ≢ follow_words
  pub no_grow : words ≢ grow_words

-- the words are this subcommand
abbrev pub IsSubcommand : List (List ℕ) → Subcommand → Type 0
IsSubcommand words (Fold name) = words ≡ fold_words name
IsSubcommand words (Init name depth) = IsDepth depth × (words ≡ init_words name depth)
IsSubcommand words Apply = words ≡ apply_words
IsSubcommand words (Query path) = words ≡ query_words path.now
IsSubcommand words (Serve turns) = IsTurns turns × (words ≡ serve_words turns)
IsSubcommand words (Drill n) = IsDrillLength n × (words ≡ drill_words n)
IsSubcommand words Migrate = words ≡ migrate_words
IsSubcommand words Lead = words ≡ lead_words
IsSubcommand words Follow = words ≡ follow_words
IsSubcommand words Grow = words ≡ grow_words
IsSubcommand words Unknown = IsUnknown words

-- the words of a run that opens files
abbrev pub IsOpening : List (List ℕ) → Type 0
IsOpening words =
    (words ≡ apply_words) ⊎ ((path : List ℕ) × (words ≡ query_words path))
    ⊎ ((turns : ℕ) × IsTurns turns × (words ≡ serve_words turns))
    ⊎ (words ≡ lead_words) ⊎ (words ≡ follow_words)

-- the words of a run that writes no file
abbrev pub IsReading : List (List ℕ) → Type 0
IsReading words =
    ((name : ProfileName) × (words ≡ fold_words name))
    ⊎ ((path : List ℕ) × (words ≡ query_words path)) ⊎ (words ≡ lead_words)
