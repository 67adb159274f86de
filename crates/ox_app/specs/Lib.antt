-- Read Headline first: it says what `run` promises of a feed, of the files and of a crash. Promises
-- has what it promises of each subcommand, Subcommands the words of the command line, Status how a
-- run ends, Show what is said of shown lines and of faults, Init and Unopened the lines of a making
-- and of files that are no store, Query what a query shows, Serve what a server logs and a crash
-- leaves of it, Drill the same of a drill, Migrate of a migration, and Grow of a growing. Talks is
-- of runs that hear and show frames, and Follow of what a crash leaves of a follower. Stacks says
-- of any stack what Headline and Serve say of a machine's, and AnyRuns joins runs one after the
-- other. For the functions below `run`, Fold and Apply are of single lines, Carry of what a line
-- asks for, OneFrame of single frames, Turns of a server's turns over any desk, and Along of how
-- that desk goes along their answers.
pub mod Headline
pub mod Promises
pub mod Subcommands
pub mod Status
pub mod Show
pub mod Init
pub mod Unopened
pub mod Query
pub mod Serve
pub mod Stacks
pub mod AnyRuns
pub mod Drill
pub mod Migrate
pub mod Grow
pub mod Talks
pub mod Follow
pub mod Fold
pub mod Apply
pub mod Carry
pub mod OneFrame
pub mod Turns
pub mod Along
