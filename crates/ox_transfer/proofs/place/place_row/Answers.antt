use Rattle.std.proofs.Common.{◌∙◌, sym, ◌^◌}
use Rattle.ox_transfer.proofs.Once.{may_stand}
use Rattle.ox_transfer.proofs.Places.{displaced_fits}
use Rattle.ox_transfer.proofs.place.place_row.Goals as goal

pub place-requires : goal.place-requires
place-requires g c = may_stand (2 ^ 63) (g.O.OutTable.contents c.args.table.now) c.args.row.sats c.args.lost.now c.args.at c.requires.apart

pub join-requires : goal.join-requires
join-requires g c = displaced_fits (g.O.OutTable.contents c.args.table.now) c.args.at c.in-Some.old c.args.row.sats c.args.lost.now c.requires.apart (sym c.in_ok-old.ensures.displaced ∙ c.in-Some.is)
