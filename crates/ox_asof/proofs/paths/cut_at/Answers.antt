use Rattle.std.proofs.Common.{◌≡◌, ◌+◌, length, rules}
use Rattle.ox_asof.proofs.Hashes.{is_cut, is_mark, isnt_mark, no_hash, no_mark}
use Rattle.ox_asof.proofs.paths.cut_at.Goals as goal

pub returns-in_err-digits : goal.returns-in_err-digits
returns-in_err-digits c =
    let front = c.split_at.result.0.now in
    let ending = c.split_at.result.1.now in
    let long : length front + 68 ≡ length c.args.path.now = search rules in
    rw c.from_residual-in_err-digits.ensures (no_mark c.args.path.now front ending c.split_at.ensures.by_index.0 long (isnt_mark _ c.in_err-digits.ensures.cases))

pub returns-in_err-hash : goal.returns-in_err-hash
returns-in_err-hash c =
    let front = c.split_at.result.0.now in
    let ending = c.split_at.result.1.now in
    let long : length front + 68 ≡ length c.args.path.now = search rules in
    rw c.from_residual-in_err-hash.ensures (no_hash c.args.path.now front ending c.split_at.ensures.by_index.0 long c.in_ok-digits.digits.now c.in_ok-digits.ensures.cases.1 c.in_err-hash.ensures)

pub returns : goal.returns
returns c =
    let front = c.split_at.result.0.now in
    let ending = c.split_at.result.1.now in
    let long : length front + 68 ≡ length c.args.path.now = search rules in
    is_cut c.args.path.now front ending c.split_at.ensures.by_index.0 long c.in_ok-digits.digits.now c.in_ok-hash.hash (is_mark _ c.in_ok-digits.ensures.cases.0) c.in_ok-digits.ensures.cases.1 c.in_ok-hash.ensures
