use Rattle.ox_store.proofs.PiecesLemmas.{comes_on, ended_on, falls_on, ready_on, stays_on, went_on}
use Rattle.ox_store.proofs.pieces.PiecesSource.more.Goals as goal

pub returns : goal.returns
returns g c =
    let means = g.S.Site in
    let more = c.more in
    let most = c.args.self.now.most in
    let k = c.args.self.now.parts in
    let l = more.new.self in
    let old = c.args.site.now in
    let new = more.new.site in
    let window = c.args.window.now in
    let later = more.new.window in record {
      ready = ready_on means most k l old new window later more.result c.requires.ready.0 more.ensures.moved more.ensures.looks c.requires.ready.1;
      comes = λ rest left. comes_on means most k l old new window later more.result rest more.ensures.moved left (more.ensures.left rest left);
      falls = falls_on means most k l old new window later more.result more.ensures.moved;
      stays = stays_on means most k l old new window later more.result more.ensures.moved;
      went = went_on means most k l old new window later more.result more.ensures.moved more.ensures.looks more.ensures.counted;
      ended = ended_on means most k l old new window later more.result more.ensures.looks more.ensures.failed more.ensures.counted;
    }
