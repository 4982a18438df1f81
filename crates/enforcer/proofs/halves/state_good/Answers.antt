-- `enforcer::halves::state_good` meets its contract: what is not within the state's own limits is in range in no policy.
use Rattle.std.proofs.Common.{rules, ◌≡◌, sym, ap, ◌∙◌, length, replicate}
use Rattle.stepping.specs.State.{in_range}
use Rattle.enforcer.specs.States.{laid_good, own_limits}
use Rattle.stepping.specs.declared.state.Limits.{Limits}
use Rattle.enforcer.proofs.halves.state_good.Goals as goal

pub returns-then-in_range : goal.returns-then-in_range
returns-then-in_range c =
    let four : length c.args.state.clocks ≡ 4 = search rules in
    c.in_range-then-in_range.ensures ∙ sym (laid_good c.requires c.args.state four)

pub returns-else-in_range : goal.returns-else-in_range
returns-else-in_range c =
    let four : length c.args.state.clocks ≡ 4 = search rules in
    c.if-in_range.false ∙ sym (own_limits c.requires c.args.state four
    (ap (λ (m : Limits). in_range m.locations (replicate 4 m.ceiling) c.args.state) (sym c.limits-most.ensures)
    ∙ sym c.in_range.ensures ∙ c.if-in_range.false))
