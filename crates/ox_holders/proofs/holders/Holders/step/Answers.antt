use Rattle.std.proofs.Common.{◌∙◌, ap}
use Rattle.std.specs.Prelude.{◌&&◌, ◌||◌, not}
use Rattle.ox_holders.specs.Keys.{is_in}
use Rattle.ox_holders.proofs.Steps.{stepped}
use Rattle.ox_holders.proofs.holders.Holders.step.Goals as goal

pub returns : goal.returns
returns c = λ before after stands gone came. record {
  each = λ script at.
      c.in_ok-join.ensures script at
      ∙ ap (λ b. b || is_in c.args.came.now script at) (c.in_ok-leave.ensures script at)
      ∙ ap (λ b. (b && not (is_in c.args.gone.now script at)) || is_in c.args.came.now script at) (stands.each script at)
      ∙ stepped before after c.args.gone.now c.args.came.now script at gone came;
}
