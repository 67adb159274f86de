use Rattle.ox_gated.specs.Opened.{found_of}
use Rattle.ox_pieces.proofs.StoodFiles.{opened_there}
use Rattle.ox_pieces.proofs.follower.Follower.open.Goals as goal

pub returns-in-Ok-clause-stood : goal.returns-in-Ok-clause-stood
returns-in-Ok-clause-stood g c told =
    let current = c.in-Ok.current in
    let opened = c.in-Ok.ensures in
    let follower = c.follower_of in
    opened_there current.opened.tail (g.S.Site.seen c.args.site.now) (g.S.Site.seen c.open_files.new.site) (found_of current.opened) current.standing follower.result.mine
    opened.looks.nothing.files (opened.holds told).keeps (opened.found told) opened.stack follower.ensures.at follower.ensures.state
