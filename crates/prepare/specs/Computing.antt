-- What samples are computed by, topic by topic: to unfold one of these names is to unfold all that its line names.
use Rattle.std.proofs.Math.Option.{bind}
use Rattle.std.specs.Int.Count.{ones_in, ones}
use Rattle.streams.specs.Nearness.{distance, spares, nearer}
use Rattle.streams.specs.Choose.{some_below, better, nearest}
use Rattle.policy.specs.Rules.{within, hold, fires, decides, advance, tested, taken, step, rests}
use Rattle.policy.specs.Number.{number_from, states_of, location_from, clocks_from}
use Rattle.policy.specs.File.{policy_of, outputs_at, clocks_at, locations_at, rules_at, rules_start, rules_end, pairs_from, rules_from, rule_from, bounds_from}
use Rattle.policy.specs.Check.{reading_refusal, refusal_under, refusal_of, inputs_refusal, outputs_refusal, clocks_refusal, locations_refusal, rules_section_refusal, section_refusal, tags_good, among, all_pass, rules_refusal, rule_refusal, head_good, mask_good, bounds_good, bound_good}
use Rattle.policy.specs.Bytes.{bytes_of, counts_bytes, pairs_bytes, rules_bytes, rule_bytes, bounds_bytes}
use Rattle.stepping.specs.State.{clocks_good, state_good}
use Rattle.stepping.specs.Tick.{reaches, may_stand, input_choice, output_choice, moved, output_tick, tick, ran}
use Rattle.enforcer.specs.Entries.{marks_refusal, state_refusal, run_refusal, run_of}
use Rattle.resting.specs.Table.{rounds_by, round_by, tab}
use Rattle.resting.specs.Keeps.{keeps, leads_to, stays, some_event}
use Rattle.prepare.specs.Entry.{prepare_of, prepared_marks}

-- What the bytes of a file say.
unfoldable pub the_file : Unit {0}
unfolding policy_of outputs_at clocks_at locations_at rules_at rules_start rules_end pairs_from rules_from rule_from bounds_from
the_file = tt

-- The check of a file, under a reading.
unfoldable pub the_check : Unit {0}
unfolding
    refusal_under reading_refusal refusal_of inputs_refusal outputs_refusal clocks_refusal locations_refusal rules_section_refusal section_refusal tags_good
    among all_pass rules_refusal rule_refusal head_good mask_good bounds_good bound_good states_of
the_check = tt

-- The file of a policy.
unfoldable pub the_bytes : Unit {0}
unfolding bytes_of counts_bytes pairs_bytes rules_bytes rule_bytes bounds_bytes
the_bytes = tt

-- One event of a policy.
unfoldable pub a_step : Unit {0}
unfolding step decides fires hold within tested taken advance bind
a_step = tt

-- Prepare and its marks.
unfoldable pub the_marks : Unit {0}
unfolding
    prepare_of prepared_marks marks_refusal number_from location_from clocks_from may_stand reaches some_below rounds_by round_by keeps leads_to stays some_event rests
    tab
the_marks = tt

-- The run and its choices.
unfoldable pub the_run : Unit {0}
unfolding
    run_of run_refusal state_refusal state_good clocks_good ran tick output_tick moved output_choice input_choice nearest better nearer distance spares ones
    ones_in
the_run = tt
