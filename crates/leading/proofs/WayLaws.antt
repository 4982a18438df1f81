-- Whether a rule of the state's location holds, by its bytes.
use mathlib.Core.Path.{◌≡◌, ap, ◌∙◌, sym, subst}
use mathlib.Core.Bool.{Bool}
use mathlib.Core.List.{List}
use Prim.Native.Nat.{ℕ, ◌+◌}
use lib.ListN.{take}
use borrow.Author.Tests.{eq-eqb}
use Rattle.policy.specs.Rules.{Place, stopped, hold, looked}
use Rattle.policy.specs.File.{bounds_from, rule_from, policy_of}
use Rattle.policy.specs.declared.Layout.{Layout}
use Rattle.stepping.specs.State.{place}
use Rattle.stepping.specs.Ready.{Laid, HereOf}
use Rattle.stepping.specs.Laid.{here_seen}
use Rattle.stepping.specs.declared.state.State.{State}
use Rattle.stepping.specs.declared.here.Here.{Here}
use Rattle.stepping.specs.Ways.{holds}
use Rattle.stepping.specs.RuleAhead.{RuleAt}

-- A location's own rule holds if its bounds do.
pub rule_holds : {f : List ℕ} {l : Layout} (s : State) {at : ℕ} → RuleAt f l s.location at → (b : Bool) →
    hold (bounds_from f (at + 7) l.clocks) (take l.clocks s.clocks) ≡ b → holds (place l.clocks s) (rule_from l.clocks f at) ≡ b
unfolding rule_from
rule_holds s h b e = rw (eq-eqb _ _ h.ours.source) e

-- So it does for the state that bounds see.
pub rule_seen : {f : List ℕ} {l : Layout} → Laid f l → {h : Here} → HereOf f l h → {at : ℕ} → RuleAt f l h.state.location at → (b : Bool) →
    hold (bounds_from f (at + 7) l.clocks) (take l.clocks h.seen.clocks) ≡ b →
    holds (looked stopped (policy_of l.reading f) (place l.clocks h.state)) (rule_from l.clocks f at) ≡ b
rule_seen {f} {l} k {h} o {at} r b e =
    ap (λ (z : Place). holds z (rule_from l.clocks f at)) (sym (here_seen k o))
    ∙ rule_holds h.seen (subst (λ (a : ℕ). RuleAt f l a at) (sym (ap (λ (z : Place). z.location) (here_seen k o))) r) b e
