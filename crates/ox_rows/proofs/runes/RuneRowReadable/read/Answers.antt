use Rattle.std.specs.Int.{w8, w32, w128}
use Rattle.std.proofs.lemmas.Result.{err_from_is_err_and}
use Rattle.ox_bytes.specs.Reading.{number_at, run_at}
use Rattle.ox_rows.specs.Reading.{four_at}
use Rattle.ox_rows.specs.RowReading.{optional_character_at, optional_terms_at, rune_at, rune_id_at, rune_of}
use Rattle.ox_rows.proofs.Fours.{fails_as, first_go, first_stop, four_go, four_stop, four_stopped, one_go, one_stop, one_stopped}
use Rattle.ox_rows.proofs.runes.RuneRowReadable.read.Goals as goal

pub returns-in_err-id : goal.returns-in_err-id
unfolding rune_at
returns-in_err-id c =
    let p = err_from_is_err_and c.from_residual.result c.from_residual.ensures.1 in
    rw (p.1, p.2) (fails_as c.in_err-id.field-0.0 (four_at rune_id_at (number_at w128) (number_at w32) (number_at w8) c.args.bytes.now) (rune_at c.args.bytes.now) (λ left e. one_stopped (run_at 32) (one_stopped (number_at w128) (four_stopped optional_character_at (number_at w128) optional_terms_at (number_at w128) (first_stop rune_id_at (number_at w128) (number_at w32) (number_at w8) rune_of c.args.bytes.now e)))) c.in_err-id.ensures)

pub returns-in_err-symbol : goal.returns-in_err-symbol
unfolding rune_at
returns-in_err-symbol c =
    let e1 = first_go rune_id_at (number_at w128) (number_at w32) (number_at w8) rune_of c.args.bytes.now c.in_ok-id.ensures in
    let p = err_from_is_err_and c.from_residual-in_err-symbol.result c.from_residual-in_err-symbol.ensures.1 in
    rw (p.1, p.2) (fails_as c.in_err-symbol.field-0.0 (four_at optional_character_at (number_at w128) optional_terms_at (number_at w128) c.in_ok-id.rest.now) (rune_at c.args.bytes.now) (λ left e. one_stopped (run_at 32) (one_stopped (number_at w128) (four_stop optional_character_at (number_at w128) optional_terms_at (number_at w128) e1 e))) c.in_err-symbol.ensures)

pub returns-in_err-burned : goal.returns-in_err-burned
unfolding rune_at
returns-in_err-burned c =
    let e1 = first_go rune_id_at (number_at w128) (number_at w32) (number_at w8) rune_of c.args.bytes.now c.in_ok-id.ensures in
    let e2 = four_go optional_character_at (number_at w128) optional_terms_at (number_at w128) e1 c.in_ok-symbol.ensures in
    let p = err_from_is_err_and c.from_residual-in_err-burned.result c.from_residual-in_err-burned.ensures.1 in
    rw (p.1, p.2) (fails_as c.in_err-burned.field-0.0 (number_at w128 c.in_ok-symbol.rest.now) (rune_at c.args.bytes.now) (λ left e. one_stopped (run_at 32) (one_stop (number_at w128) e2 e)) c.in_err-burned.ensures)

pub returns-in_err-etching : goal.returns-in_err-etching
unfolding rune_at
returns-in_err-etching c =
    let e1 = first_go rune_id_at (number_at w128) (number_at w32) (number_at w8) rune_of c.args.bytes.now c.in_ok-id.ensures in
    let e2 = four_go optional_character_at (number_at w128) optional_terms_at (number_at w128) e1 c.in_ok-symbol.ensures in
    let e3 = one_go (number_at w128) e2 c.in_ok-burned.ensures in
    let p = err_from_is_err_and c.from_residual-in_err-etching.result c.from_residual-in_err-etching.ensures.1 in
    rw (p.1, p.2) (fails_as c.in_err-etching.field-0.0 (run_at 32 c.in_ok-burned.rest.now) (rune_at c.args.bytes.now) (λ left e. one_stop (run_at 32) e3 e) c.in_err-etching.ensures)

pub returns : goal.returns
unfolding rune_at
returns c =
    let e1 = first_go rune_id_at (number_at w128) (number_at w32) (number_at w8) rune_of c.args.bytes.now c.in_ok-id.ensures in
    let e2 = four_go optional_character_at (number_at w128) optional_terms_at (number_at w128) e1 c.in_ok-symbol.ensures in
    let e3 = one_go (number_at w128) e2 c.in_ok-burned.ensures in
    one_go (run_at 32) e3 c.in_ok-etching.ensures
