use Rattle.std.proofs.Common.{arith, refl}
use Rattle.ox_memsite.proofs.Kept.{seen_torn}
use Rattle.ox_memsite.proofs.site.MemSite.note_tear.Goals as goal

pub note-requires : goal.note-requires
note-requires c = record { seen = λ which disk. seen_torn which c.args.file disk c.args.at c.args.length; whole = λ channel. refl; named = omega arith }
