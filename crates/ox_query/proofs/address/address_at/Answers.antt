use Rattle.std.proofs.Common.{◌≡◌, ◌∙◌, Some, sym, ap}
use Rattle.ox_address.specs.Spelled.{script_in}
use Rattle.ox_sat.specs.declared.profiles.Profile.{Profile}
use Rattle.ox_held.specs.Paths.{hrp_in}
use Rattle.ox_query.proofs.Addresses.{its_body}
use Rattle.ox_query.proofs.address.address_at.Goals as goal

pub returns-in_ok-address_body-in-Some : goal.returns-in_ok-address_body-in-Some
returns-in_ok-address_body-in-Some g c =
    let p = g.V.View.chain c.args.live.now in
    let named : script_in (hrp_in p) c.args.part.now ≡ Some c.in-Some.script =
    ap (λ (q : Profile). script_in (hrp_in q) c.args.part.now) (sym c.profile.ensures) ∙ sym c.in-Some.ensures in
    its_body p (g.V.View.index c.args.live.now) c.args.part.now c.in-Some.script c.in_ok-address_body-in-Some.field-0 named
    c.in_ok-address_body-in-Some.ensures
