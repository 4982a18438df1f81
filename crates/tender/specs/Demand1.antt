-- Demand 1: each public entry takes anything and ends, for it has no `requires`; its promise fixes "the result fixed here" and the later contents of
-- every slice and state lent to it; and "Any pair of results allowed by the statement is proved equal".
-- Where the contract of a function is one equation, its right side is named here: two results that meet it are the same.
-- The laws `.._one` speak of what a result says, as an answer in numbers. Two results that say the same are the same, which carries these laws over to the code's own results.
pub use Rattle.refusals.specs.Laws.{told_one}
pub use Rattle.policy.specs.LayoutLaws.{said_one}
pub use Rattle.enforcer.specs.Promises.{told_same}
pub use Rattle.tender.specs.Said.{refusal_in_one, handed_one, walked_one, answer_said_one, read_said_one, judged_said_one, written_said_one, rule_said_one}
-- The check of a file, and under a reading: `policy::layout_under` gives `checked_under`, by `checked_said`.
pub use Rattle.policy.specs.Layout.{CheckPromise, check_one, checked_under}
-- The limits and the start of the state's own type: `State::limits` gives `limits_said`, and `State::start` gives `start_state`.
pub use Rattle.stepping.specs.Code.{limits_said, start_state}
-- Prepare.
pub use Rattle.prepare.specs.Promise.{PreparePromise, prepare_one}
pub use Rattle.prepare.specs.PromiseLaws.{prepare_live, prepare_dead}
-- The second engine: as prepare, unless it gives 23.
pub use Rattle.fast.specs.Promise.{FastPromise}
pub use Rattle.fast.specs.PromiseLaws.{fast_one}
pub use Rattle.fast.proofs.PromiseLaws.{same_answers, fast_unless}
-- The input half, the output half by value and over a lent state, and the run.
pub use Rattle.enforcer.specs.Promises.{InputPromise, input_one, OutputPromise, handed, output_one, RunPromise, ran_told, run_one}
-- An index is built, and the two halves that use one.
pub use Rattle.index.specs.Entry.{BuildPromise, build_one}
pub use Rattle.indexed.specs.Promises.{InputIndexedPromise, OutputIndexedPromise, input_one as input_indexed_one, output_one as output_indexed_one}
-- A new list of bays, and the two halves of a bay.
pub use Rattle.bays.specs.Promises.{NewPromise, new_one, BayInputPromise, bay_input_one, BayOutputPromise, bay_output_one}
-- A station with a meter: setting it up, and the two halves.
pub use Rattle.meter.specs.Promises.{MeterNewPromise, meter_new_one, MeterInputPromise, meter_input_one, MeterOutputPromise, meter_output_one}
-- Why a half was edited, for one event and for a run of them.
pub use Rattle.reasons.specs.Promise.{WhyPromise, why_one}
pub use Rattle.reasons.specs.Runs.{WhyRunPromise, why_run_one}
-- The join.
pub use Rattle.join.specs.Promise.{JoinPromise, join_one}
-- A policy is cleaned.
pub use Rattle.cleaning.specs.Promise.{CleanPromise, clean_one}
-- Milliseconds to ticks.
pub use Rattle.ticks.specs.Conversion.{Converted, converted_one}
-- The wave writer and the wave reader.
pub use Rattle.waves.specs.Promise.{WritePromise, TakePromise}
pub use Rattle.waves.specs.Laws.{write_one, take_one, written_reads, read_writes}
-- The file of a text, and the text of a policy file.
pub use Rattle.compiling.specs.Promise.{ReadTextPromise, read_one as read_text_one}
pub use Rattle.showing.specs.Promise.{WriteTextPromise, write_one as write_text_one}
-- Where the rules and the names of a text stand in it.
pub use Rattle.pointing.specs.RuleAt.{RuleAtPromise, rule_at_one}
pub use Rattle.pointing.specs.NameAt.{NameAtPromise, name_at_one}
pub use Rattle.pointing.specs.Said.{Named, name_said_one}
-- The functions for a controller in C. groovepawn_prepare, _input, _output, _run, _join, _ticks:
pub use Rattle.groovepawn.specs.Calls.{
  PrepareCall,
  InputCall,
  OutputCall,
  RunCall,
  JoinCall,
  TicksCall,
  prepare_one as c_prepare_one,
  input_one as c_input_one,
  output_one as c_output_one,
  run_one as c_run_one,
  join_one as c_join_one,
  ticks_one as c_ticks_one,
}
-- groovepawn_prepare_fast:
pub use Rattle.groovepawn.specs.Fast.{FastCall, fast_one as c_fast_one, same_answers as c_same_answers}
-- groovepawn_index, _input_indexed, _output_indexed:
pub use Rattle.groovepawn.specs.Indexed.{
  IndexCall,
  InputIndexedCall,
  OutputIndexedCall,
  index_one as c_index_one,
  input_one as c_input_indexed_one,
  output_one as c_output_indexed_one,
}
-- groovepawn_bays_new, _bay_input, _bay_output:
pub use Rattle.groovepawn.specs.Bays.{
  NewCall,
  BayInputCall,
  BayOutputCall,
  new_one as c_new_one,
  bay_input_one as c_bay_input_one,
  bay_output_one as c_bay_output_one,
}
-- groovepawn_meter_new, _meter_input, _meter_output:
pub use Rattle.groovepawn.specs.Meter.{
  MeterNewCall,
  MeterInputCall,
  MeterOutputCall,
  meter_new_one as c_meter_new_one,
  meter_input_one as c_meter_input_one,
  meter_output_one as c_meter_output_one,
}
-- groovepawn_why, _why_run:
pub use Rattle.groovepawn.specs.Why.{WhyCall, why_one as c_why_one, WhyRunCall, why_run_one as c_why_run_one}
-- groovepawn_check:
pub use Rattle.groovepawn.specs.Check.{CheckCall, check_one as c_check_one}
-- groovepawn_clean:
pub use Rattle.groovepawn.specs.Clean.{CleanCall, clean_one as c_clean_one}
-- groovepawn_wave_write, _wave_read:
pub use Rattle.groovepawn.specs.Waves.{WaveWriteCall, WaveReadCall, wave_write_one, wave_read_one}
-- groovepawn_text_read, _text_write, _text_line_of_rule, _text_name_of_signal, _text_name_of_clock, _text_name_of_location:
pub use Rattle.groovepawn.specs.Text.{
  TextReadCall,
  TextWriteCall,
  TextRuleCall,
  TextNameCall,
  text_read_one as c_text_read_one,
  text_write_one as c_text_write_one,
  text_rule_one as c_text_rule_one,
  text_name_one as c_text_name_one,
}
-- The program `enforce`: `console::respond` writes the text `printed input`, and returns how many bytes it is.
pub use Rattle.console.specs.Printed.{printed}
pub use Rattle.printing.specs.Reply.{Replied, replied_one}
-- The program `wave`: `viewer::respond` writes the text `shown reading input` likewise.
pub use Rattle.viewer.specs.Shown.{shown}
-- The program `why`: `telling::respond` writes a text that it `Prints` for the reading and the input, of which there is one, and returns how many bytes it is.
pub use Rattle.telling.specs.Prints.{Prints, prints_one, Writes, writes_one}
-- The program `clean`: `listing::reading_of` gives `reading_of word`; `listing::respond` writes the policy `clean_written reading file` and the text
-- `cleanPrinted reading file` likewise.
pub use Rattle.listing.specs.Listed.{reading_of, written as clean_written, printed as clean_printed}
-- The program `compile`: `translating::to_file::respond` writes the policy file `compileWritten text` and the line `compilePrinted text` likewise.
pub use Rattle.translating.specs.ToFile.{written as compile_written, printed as compile_printed}
-- The program `show`: `translating::to_text::respond` writes the text `showPrinted file` likewise.
pub use Rattle.translating.specs.ToText.{printed as show_printed}
