use Rattle.std.proofs.Common.{◌≡◌, ◌≤◌, arith, sym, ◌∙◌, length-take}
use Rattle.refusals.specs.declared.Refusal.{Refusal}
use Rattle.policy.specs.Check.{refusal_of}
use Rattle.policy.specs.LayoutLaws.{ShapeOf}
use Rattle.policy.specs.declared.rules.Shape.{Shape}
use Rattle.policy.proofs.Laws.{inputs_fit, outputs_fit, clocks_fit, locations_fit}
use Rattle.policy.proofs.CheckLaws.{after_rules, from_inputs, past_inputs, past_outputs, past_clocks, past_locations, past_rules}
use Rattle.policy.proofs.CheckLaws.{not_named, refused_by, handed_here, passed_by, ends_early, ends_late, too_many, not_too_many}
use Rattle.policy.proofs.CheckLaws.{outputs-at, clocks-at, locations-at, shape_read}
use Rattle.policy.proofs.CheckLaws.{count-at, ceilings_small, states_read, rules-end, layout_read}
use Rattle.policy.proofs.layout_under.Goals as goal
use Rattle.policy.proofs.layout_under.Goals.{In_ok-clocks, In_ok-locations, In_ok-rules}

-- How much the sections before the rules hold.
abbrev shape : In_ok-locations → Shape
shape c =
    record {
      inputs = c.in_ok-inputs.inputs;
      outputs = c.in_ok-outputs.outputs;
      clocks = c.in_ok-clocks.clocks;
      locations = c.in_ok-locations.locations;
      ceilings = c.ceilings_of-ceilings.result;
    }

shaped : (c : In_ok-locations) → ShapeOf c.args.file.now (shape c)
shaped c =
    shape_read _ c.in_ok-inputs.ensures.counts c.in_ok-outputs.ensures.counts c.in_ok-clocks.ensures.counts c.in_ok-locations.ensures.counts
    c.ceilings_of-ceilings.ensures c.in_ok-inputs.ensures.refuses c.in_ok-outputs.ensures.refuses c.in_ok-clocks.ensures.refuses

-- No section is refused.
past : (c : In_ok-rules) → refusal_of c.args.file.now ≡ after_rules c.args.file.now
past c =
    past_rules _ c.in_ok-inputs.ensures.refuses c.in_ok-outputs.ensures.refuses c.in_ok-clocks.ensures.refuses c.in_ok-locations.ensures.refuses c.in_ok-rules.ensures.refuses

pub returns-then-not-is_reading : goal.returns-then-not-is_reading
returns-then-not-is_reading c = not_named _ _ c.if-not-is_reading.ensures

pub returns-in_err-inputs : goal.returns-in_err-inputs
returns-in_err-inputs c =
    handed_here _ _ c.if-not-is_reading.ensures _ _ _ _ (from_inputs _) c.from_residual.ensures.1 c.in_err-inputs.ensures.refuses

pub check_outputs-requires : goal.check_outputs-requires
check_outputs-requires c =
    (sym c.in_ok-inputs.ensures.refuses, c.in_ok-inputs.ensures.counts, outputs-at _ c.in_ok-inputs.ensures.counts)

pub returns-in_err-outputs : goal.returns-in_err-outputs
returns-in_err-outputs c =
    handed_here _ _ c.if-not-is_reading.ensures _ _ _ _ (past_inputs _ c.in_ok-inputs.ensures.refuses)
    c.from_residual-in_err-outputs.ensures.1 c.in_err-outputs.ensures.refuses

pub check_clocks-requires : goal.check_clocks-requires
check_clocks-requires c = (
  omega (
    arith,
    inputs_fit _ (sym c.in_ok-inputs.ensures.refuses),
    outputs_fit _ (sym c.in_ok-outputs.ensures.refuses),
    c.in_ok-inputs.ensures.counts,
    c.in_ok-outputs.ensures.counts,
  ),
  clocks-at _ c.in_ok-inputs.ensures.counts c.in_ok-outputs.ensures.counts,
)

pub returns-in_err-clocks : goal.returns-in_err-clocks
returns-in_err-clocks c =
    handed_here _ _ c.if-not-is_reading.ensures _ _ _ _ (past_outputs _ c.in_ok-inputs.ensures.refuses c.in_ok-outputs.ensures.refuses)
    c.from_residual-in_err-clocks.ensures.1 c.in_err-clocks.ensures.refuses

-- How much the sections before the locations hold.
few : (c : In_ok-clocks) → (c.in_ok-inputs.inputs ≤ 4) × (c.in_ok-outputs.outputs ≤ 4) × (c.in_ok-clocks.clocks ≤ 4)
few c = (
  rw c.in_ok-inputs.ensures.counts (inputs_fit _ (sym c.in_ok-inputs.ensures.refuses)).0,
  rw c.in_ok-outputs.ensures.counts (outputs_fit _ (sym c.in_ok-outputs.ensures.refuses)),
  rw c.in_ok-clocks.ensures.counts (clocks_fit _ (sym c.in_ok-clocks.ensures.refuses)).0,
)

pub ceilings_of-ceilings-requires : goal.ceilings_of-ceilings-requires
ceilings_of-ceilings-requires c = omega (arith, few (goal.at.ceilings_of-ceilings-requires c).In_ok-clocks)

pub check_locations-requires : goal.check_locations-requires
check_locations-requires c = (
  omega (arith, few (goal.at.check_locations-requires c).In_ok-clocks),
  locations-at _ c.in_ok-inputs.ensures.counts c.in_ok-outputs.ensures.counts c.in_ok-clocks.ensures.counts,
)

pub returns-in_err-locations : goal.returns-in_err-locations
returns-in_err-locations c =
    handed_here _ _ c.if-not-is_reading.ensures _ _ _ _
    (past_clocks _ c.in_ok-inputs.ensures.refuses c.in_ok-outputs.ensures.refuses c.in_ok-clocks.ensures.refuses)
    c.from_residual-in_err-locations.ensures.1 c.in_err-locations.ensures.refuses

pub check_rules-requires : goal.check_rules-requires
check_rules-requires c =
    let s = shaped (goal.at.check_rules-requires c).In_ok-locations in
    (omega (arith, s.shaped, s.locations, locations_fit _ (sym c.in_ok-locations.ensures.refuses)), count-at _ _ s, s)

pub returns-in_err-rules : goal.returns-in_err-rules
returns-in_err-rules c =
    handed_here _ _ c.if-not-is_reading.ensures _ _ _ _
    (past_locations _ c.in_ok-inputs.ensures.refuses c.in_ok-outputs.ensures.refuses c.in_ok-clocks.ensures.refuses c.in_ok-locations.ensures.refuses)
    c.from_residual-in_err-rules.ensures.1 c.in_err-rules.ensures.refuses

pub returns-then-rules_end-file : goal.returns-then-rules_end-file
returns-then-rules_end-file c =
    let s = shaped (goal.at.returns-then-rules_end-file c).In_ok-locations in
    let p = past (goal.at.returns-then-rules_end-file c).In_ok-rules in
    refused_by _ _ c.if-not-is_reading.ensures Refusal.LeftOver (p ∙ ends_early _ c.if-rules_end-file.true (rules-end _ _ s c.in_ok-rules.ensures.counts))

pub slice_bounds-ceilings-end : goal.slice_bounds-ceilings-end
slice_bounds-ceilings-end c = omega (arith, few (goal.at.slice_bounds-ceilings-end c).In_ok-clocks)

pub slice_bounds-state_count-end : goal.slice_bounds-state_count-end
slice_bounds-state_count-end c =
    omega (arith, few (goal.at.slice_bounds-state_count-end c).In_ok-clocks, length-take c.in_ok-clocks.clocks c.ceilings_of-ceilings.result)

pub state_count-states-requires : goal.state_count-states-requires
state_count-states-requires c =
    let s = shaped (goal.at.state_count-states-requires c).In_ok-locations in
    let small = ceilings_small _ _ s c.in_ok-clocks.ensures.refuses in
    (small.0, omega (arith, locations_fit _ (sym c.in_ok-locations.ensures.refuses), s.locations), small.1)

pub returns-then-states-gt-STATES : goal.returns-then-states-gt-STATES
returns-then-states-gt-STATES c =
    let s = shaped (goal.at.returns-then-states-gt-STATES c).In_ok-locations in
    let p = past (goal.at.returns-then-states-gt-STATES c).In_ok-rules in
    let late = ends_late _ c.if-rules_end-file.false (rules-end _ _ s c.in_ok-rules.ensures.counts) in
    refused_by _ _ c.if-not-is_reading.ensures Refusal.ManyStates (p ∙ late ∙ too_many _ c.if-states-gt-STATES.true (c.state_count-states.ensures ∙ states_read _ _ s))

pub returns : goal.returns
returns c =
    let s = shaped (goal.at.returns c).In_ok-locations in
    let p = past (goal.at.returns c).In_ok-rules in
    let late = ends_late _ c.if-rules_end-file.false (rules-end _ _ s c.in_ok-rules.ensures.counts) in
    let no_more = not_too_many _ c.if-states-gt-STATES.false (c.state_count-states.ensures ∙ states_read _ _ s) in
    passed_by _ _ c.if-not-is_reading.ensures (p ∙ late ∙ no_more) (layout_read _ _ s _ c.in_ok-rules.ensures.counts (c.state_count-states.ensures ∙ states_read _ _ s))
