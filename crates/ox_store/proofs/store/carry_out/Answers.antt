use Rattle.std.proofs.lemmas.Result.{err_from_is_err_and}
use Rattle.ox_index.specs.Chain.{stack_in}
use Rattle.ox_store.proofs.Exits.{no_value}
use Rattle.ox_store.proofs.HeadLemmas.{names_after}
use Rattle.ox_store.proofs.store.carry_out.Goals as goal

pub returns-in_err-obey : goal.returns-in_err-obey
returns-in_err-obey c =
    let left = c.from_residual.result in
    let p = err_from_is_err_and left c.from_residual.ensures.1 in record {
      ok = no_value left p.0 _ p.1;
      due = no_value left p.0 _ p.1;
      leads = no_value left p.0 _ p.1;
      names = no_value left p.0 _ p.1;
      change = no_value left p.0 _ p.1;
      left = no_value left p.0 _ p.1;
      refused = rw (p.1, p.2) c.in_err-obey.ensures.refused;
      err = rw p.1 c.in_err-obey.ensures.err;
    }

pub returns-in-Ok : goal.returns-in-Ok
returns-in-Ok c =
    let obeyed = c.in_ok-obey.ensures in record {
      ok = obeyed.ok;
      due = c.in-Ok.ensures.due;
      leads = c.in-Ok.ensures.leads (stack_in c.args.chain.now) obeyed.ok;
      names = names_after c.args.tail.now.head (stack_in c.args.chain.now) (stack_in c.obey.new.chain) c.args.command.now c.requires obeyed.ok;
      change = obeyed.change;
      left = obeyed.left;
      refused = tt;
      err = tt;
    }
