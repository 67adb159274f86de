use Rattle.std.proofs.Common.{◌≡◌, ◌∙◌, ◌+◌, ◌-◌, ◌++◌, ℕ, [], Ok, ap, arith, refl, replicate, subst, sym}
use Rattle.std.specs.Prelude.{Err, Result}
use Rattle.std.proofs.Math.Nat.{min-le_left}
use Rattle.std.proofs.lemmas.List.{length-replicate}
use Rattle.std.proofs.lemmas.Result.{err_from_is_err_and}
use Rattle.ox_feed.specs.declared.command.Command.TheVariants.{Disconnect}
use Rattle.ox_outside.specs.declared.site.Site.{Ghosts as Meanings}
use Rattle.ox_gated.specs.declared.fault.Halt.{Halt}
use Rattle.ox_store.specs.Store.{StoreContents}
use Rattle.ox_drill.specs.Chain.{blocks_from, connects}
use Rattle.ox_drill.specs.Drill.{Carries}
use Rattle.ox_drill.specs.declared.blocks.Behind.{Behind}
use Rattle.ox_drill.proofs.Lists.{commands_are, length-connects, newest_back, oldest_in_hand}
use Rattle.ox_drill.proofs.Parts.{carries_broken, carries_none, carries_same, carries_then, stops_then, stops_with}
use Rattle.ox_drill.proofs.drill.carry_all.Goals as goal

-- what is connected from a height on
from_height : {S : Type 0} (means : Meanings S) (store : StoreContents) (height same some : ℕ) (result : Result StoreContents Halt) (old new : S) → height ≡ same
    → Carries means store (connects (blocks_from height some)) result old new → Carries means store (connects (blocks_from same some)) result old new
from_height means store height same some result old new is carried =
    subst (λ (h : ℕ). Carries means store (connects (blocks_from h some)) result old new) is carried

pub returns-in_err-store-clause-carries : goal.returns-in_err-store-clause-carries
returns-in_err-store-clause-carries g c =
    let newest = c.min-newest.result in
    let oldest = c.args.n - newest in
    let y = connects (blocks_from oldest newest) in
    let fault = c.in_err-store.field-0.0 in
    let p = err_from_is_err_and c.from_residual.result c.from_residual.ensures.1 in
    carries_broken g.S.Site c.args.store c.args.store [] (connects (blocks_from 0 oldest)) (y ++ (replicate newest Disconnect ++ y)) _
    c.from_residual.result fault p.0 c.args.site.now c.args.site.now c.connect_blocks.new.site p.1 refl
    (oldest_in_hand c.args.n oldest newest c.min-newest.ensures refl) (carries_none g.S.Site c.args.store c.args.site.now c.requires.in_step)
    (from_height g.S.Site c.args.store c.first_behind-behind.result.height 0 oldest (Err fault) c.args.site.now c.connect_blocks.new.site
    (ap (λ (b : Behind). b.height) c.first_behind-behind.ensures) c.in_err-store.ensures.carries)

pub connect_blocks-requires-2-clause-few : goal.connect_blocks-requires-2-clause-few
connect_blocks-requires-2-clause-few g c =
    let newest = c.min-newest.result in
    let oldest = c.args.n - newest in
    omega (arith, c.requires.few, c.in_ok-store.ensures.carries.few, length-connects c.first_behind-behind.result.height oldest, c.min-newest.ensures, min-le_left c.args.n 10)

pub returns-in_err-store-2-clause-carries : goal.returns-in_err-store-2-clause-carries
returns-in_err-store-2-clause-carries g c =
    let newest = c.min-newest.result in
    let oldest = c.args.n - newest in
    let old = c.args.site.now in
    let none : c.first_behind-behind.result.height ≡ 0 = ap (λ (b : Behind). b.height) c.first_behind-behind.ensures in
    let at : c.connect_blocks.new.behind.height ≡ c.first_behind-behind.result.height + oldest = ap (λ (b : Behind). b.height) c.in_ok-store.ensures.next in
    let there : c.connect_blocks.new.behind.height ≡ oldest = omega (arith, none, at) in
    let y = connects (blocks_from oldest newest) in
    let one = from_height g.S.Site c.args.store c.first_behind-behind.result.height 0 oldest (Ok c.in_ok-store.store) old c.connect_blocks.new.site none c.in_ok-store.ensures.carries in
    let fault = c.in_err-store-2.field-0.0 in
    let p = err_from_is_err_and c.from_residual-in_err-store-2.result c.from_residual-in_err-store-2.ensures.1 in
    carries_broken g.S.Site c.args.store c.in_ok-store.store (connects (blocks_from 0 oldest)) y (replicate newest Disconnect ++ y) _
    c.from_residual-in_err-store-2.result fault p.0 old c.connect_blocks.new.site c.connect_blocks-2.new.site p.1 c.in_ok-store.ensures.stops.writes.calls.as_told
    (oldest_in_hand c.args.n oldest newest c.min-newest.ensures refl) one
    (from_height g.S.Site c.in_ok-store.store c.connect_blocks.new.behind.height oldest newest (Err fault) c.connect_blocks.new.site c.connect_blocks-2.new.site there c.in_err-store-2.ensures.carries)

pub disconnect_blocks-requires-clause-in_step : goal.disconnect_blocks-requires-clause-in_step
disconnect_blocks-requires-clause-in_step g c told =
    (c.in_ok-store-2.ensures.carries.in_turn (sym c.in_ok-store-2.ensures.stops.writes.calls.as_told ∙ told)).1

pub disconnect_blocks-requires-clause-few : goal.disconnect_blocks-requires-clause-few
disconnect_blocks-requires-clause-few g c =
    let newest = c.min-newest.result in
    let oldest = c.args.n - newest in
    omega (
      arith,
      c.requires.few,
      c.in_ok-store.ensures.carries.few,
      c.in_ok-store-2.ensures.carries.few,
      length-connects c.first_behind-behind.result.height oldest,
      length-connects c.connect_blocks.new.behind.height newest,
      c.min-newest.ensures,
      min-le_left c.args.n 10,
    )

pub returns-in_err-store-3-clause-carries : goal.returns-in_err-store-3-clause-carries
returns-in_err-store-3-clause-carries g c =
    let newest = c.min-newest.result in
    let oldest = c.args.n - newest in
    let old = c.args.site.now in
    let mid = c.connect_blocks-2.new.site in
    let none : c.first_behind-behind.result.height ≡ 0 = ap (λ (b : Behind). b.height) c.first_behind-behind.ensures in
    let at : c.connect_blocks.new.behind.height ≡ c.first_behind-behind.result.height + oldest = ap (λ (b : Behind). b.height) c.in_ok-store.ensures.next in
    let there : c.connect_blocks.new.behind.height ≡ oldest = omega (arith, none, at) in
    let x = connects (blocks_from 0 oldest) in
    let y = connects (blocks_from oldest newest) in
    let told_one = c.in_ok-store.ensures.stops.writes.calls.as_told in
    let told_two = c.in_ok-store-2.ensures.stops.writes.calls.as_told ∙ told_one in
    let one = from_height g.S.Site c.args.store c.first_behind-behind.result.height 0 oldest (Ok c.in_ok-store.store) old c.connect_blocks.new.site none c.in_ok-store.ensures.carries in
    let two = carries_then g.S.Site c.args.store c.in_ok-store.store x y (Ok c.in_ok-store-2.store) old c.connect_blocks.new.site mid told_one one
    (from_height g.S.Site c.in_ok-store.store c.connect_blocks.new.behind.height oldest newest (Ok c.in_ok-store-2.store) c.connect_blocks.new.site mid there c.in_ok-store-2.ensures.carries) in
    let fault = c.in_err-store-3.field-0.0 in
    let p = err_from_is_err_and c.from_residual-in_err-store-3.result c.from_residual-in_err-store-3.ensures.1 in
    carries_broken g.S.Site c.args.store c.in_ok-store-2.store (x ++ y) (replicate newest Disconnect) y _
    c.from_residual-in_err-store-3.result fault p.0 old mid c.disconnect_blocks.new.site p.1 told_two
    (newest_back c.args.n oldest newest c.min-newest.ensures refl) two c.in_err-store-3.ensures.carries

pub connect_blocks-requires-3-clause-few : goal.connect_blocks-requires-3-clause-few
connect_blocks-requires-3-clause-few g c =
    let newest = c.min-newest.result in
    let oldest = c.args.n - newest in
    omega (
      arith,
      c.requires.few,
      c.in_ok-store.ensures.carries.few,
      c.in_ok-store-2.ensures.carries.few,
      c.in_ok-store-3.ensures.carries.few,
      length-connects c.first_behind-behind.result.height oldest,
      length-connects c.connect_blocks.new.behind.height newest,
      length-replicate newest Disconnect,
      c.min-newest.ensures,
      min-le_left c.args.n 10,
    )

pub returns-clause-carries : goal.returns-clause-carries
returns-clause-carries g c =
    let newest = c.min-newest.result in
    let oldest = c.args.n - newest in
    let old = c.args.site.now in
    let mid = c.connect_blocks-2.new.site in
    let back = c.disconnect_blocks.new.site in
    let none : c.first_behind-behind.result.height ≡ 0 = ap (λ (b : Behind). b.height) c.first_behind-behind.ensures in
    let at : c.connect_blocks.new.behind.height ≡ c.first_behind-behind.result.height + oldest = ap (λ (b : Behind). b.height) c.in_ok-store.ensures.next in
    let there : c.connect_blocks.new.behind.height ≡ oldest = omega (arith, none, at) in
    let x = connects (blocks_from 0 oldest) in
    let y = connects (blocks_from oldest newest) in
    let d = replicate newest Disconnect in
    let told_one = c.in_ok-store.ensures.stops.writes.calls.as_told in
    let told_two = c.in_ok-store-2.ensures.stops.writes.calls.as_told ∙ told_one in
    let told_three = c.in_ok-store-3.ensures.stops.writes.calls.as_told ∙ told_two in
    let one = from_height g.S.Site c.args.store c.first_behind-behind.result.height 0 oldest (Ok c.in_ok-store.store) old c.connect_blocks.new.site none c.in_ok-store.ensures.carries in
    let two = carries_then g.S.Site c.args.store c.in_ok-store.store x y (Ok c.in_ok-store-2.store) old c.connect_blocks.new.site mid told_one one
    (from_height g.S.Site c.in_ok-store.store c.connect_blocks.new.behind.height oldest newest (Ok c.in_ok-store-2.store) c.connect_blocks.new.site mid there c.in_ok-store-2.ensures.carries) in
    let three = carries_then g.S.Site c.args.store c.in_ok-store-2.store (x ++ y) d (Ok c.in_ok-store-3.store) old mid back told_two two c.in_ok-store-3.ensures.carries in
    carries_same g.S.Site c.args.store (x ++ y ++ d ++ y) _ c.connect_blocks-3.result old c.connect_blocks-3.new.site (commands_are c.args.n oldest newest c.min-newest.ensures refl)
    (carries_then g.S.Site c.args.store c.in_ok-store-3.store (x ++ y ++ d) y c.connect_blocks-3.result old back c.connect_blocks-3.new.site told_three three
    (from_height g.S.Site c.in_ok-store-3.store c.connect_blocks.new.behind.height oldest newest c.connect_blocks-3.result back c.connect_blocks-3.new.site there c.connect_blocks-3.ensures.carries))

pub returns-in_err-store-2-clause-stops : goal.returns-in_err-store-2-clause-stops
returns-in_err-store-2-clause-stops g c =
    let result = c.from_residual-in_err-store-2.result in
    let p = err_from_is_err_and result c.from_residual-in_err-store-2.ensures.1 in
    stops_then g.S.Site g.met.S.Site.logs_now c.in_ok-store.store result c.args.site.now c.connect_blocks.new.site c.connect_blocks-2.new.site c.in_ok-store.ensures.stops
    (stops_with g.S.Site result c.in_err-store-2.field-0.0 p.0 c.connect_blocks.new.site c.connect_blocks-2.new.site p.1 p.2 c.in_err-store-2.ensures.stops)

pub returns-in_err-store-3-clause-stops : goal.returns-in_err-store-3-clause-stops
returns-in_err-store-3-clause-stops g c =
    let result = c.from_residual-in_err-store-3.result in
    let p = err_from_is_err_and result c.from_residual-in_err-store-3.ensures.1 in
    let mid = c.connect_blocks-2.new.site in
    let two = stops_then g.S.Site g.met.S.Site.logs_now c.in_ok-store.store (Ok c.in_ok-store-2.store) c.args.site.now c.connect_blocks.new.site mid c.in_ok-store.ensures.stops c.in_ok-store-2.ensures.stops in
    stops_then g.S.Site g.met.S.Site.logs_now c.in_ok-store-2.store result c.args.site.now mid c.disconnect_blocks.new.site two
    (stops_with g.S.Site result c.in_err-store-3.field-0.0 p.0 mid c.disconnect_blocks.new.site p.1 p.2 c.in_err-store-3.ensures.stops)

pub returns-clause-stops : goal.returns-clause-stops
returns-clause-stops g c =
    let old = c.args.site.now in
    let mid = c.connect_blocks-2.new.site in
    let back = c.disconnect_blocks.new.site in
    let two = stops_then g.S.Site g.met.S.Site.logs_now c.in_ok-store.store (Ok c.in_ok-store-2.store) old c.connect_blocks.new.site mid c.in_ok-store.ensures.stops c.in_ok-store-2.ensures.stops in
    let three = stops_then g.S.Site g.met.S.Site.logs_now c.in_ok-store-2.store (Ok c.in_ok-store-3.store) old mid back two c.in_ok-store-3.ensures.stops in
    stops_then g.S.Site g.met.S.Site.logs_now c.in_ok-store-3.store c.connect_blocks-3.result old back c.connect_blocks-3.new.site three c.connect_blocks-3.ensures.stops
