use Rattle.std.proofs.Common.{arith, refl}
use Rattle.ox_memsite.proofs.site.MemSite.note_show.Goals as goal

pub note-requires : goal.note-requires
note-requires c = record { seen = λ which disk. refl; whole = λ channel. refl; named = omega (arith, c.requires) }
