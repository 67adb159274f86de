use Rattle.std.proofs.Common.{arith, refl}
use Rattle.ox_memsite.proofs.Kept.{seen_synced}
use Rattle.ox_memsite.proofs.site.MemSite.note_sync.Goals as goal

pub note-requires : goal.note-requires
note-requires c = record { seen = λ which disk. seen_synced which c.args.file disk; whole = λ channel. refl; named = omega arith }
