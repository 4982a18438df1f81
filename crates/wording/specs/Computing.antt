-- What samples of texts are computed by: to unfold one of these names is to unfold all that its line names.
use Rattle.policy.specs.File.{pairs_from, bounds_from, rule_from, rules_from, outputs_at, clocks_at, locations_at, rules_at, rules_start, rules_end, policy_of}
use Rattle.policy.specs.Bytes.{pairs_bytes, bounds_bytes, rule_bytes, rules_bytes, counts_bytes, bytes_of}
use Rattle.policy.specs.Number.{states_of}
use Rattle.policy.specs.Check.{all_pass, section_refusal, among, tags_good, mask_good, head_good, bound_good, bounds_good, rule_refusal, rules_refusal}
use Rattle.policy.specs.Check.{inputs_refusal, outputs_refusal, clocks_refusal, locations_refusal, rules_section_refusal, refusal_of}
use Rattle.texts.specs.Text.{digits, decimal}
use Rattle.texts.specs.Decimal.{value_from}
use Rattle.wording.specs.Words.{parts, is_sign, kind, words_of, split, lines_of, spaced_out, laid}
use Rattle.wording.specs.Names.{same, find, is_plain, every, is_name, is_digit, is_number, numbered, through, name_of, names_from, letters_of}
use Rattle.wording.specs.Reader.{signal_line, input_line, output_line, clock_line, new_place, location_line, at_line, on_signal, change, on_bound, on_target, on_reset, signal, condition}
use Rattle.wording.specs.Reader.{word_at, rule_of, add_rule, rule_line, read_line, read_lines, policy_from, policy_from_text, file_from_text}
use Rattle.wording.specs.Writer.{signal_lines, clock_lines, location_lines, signal_words, bound_words, target_word, reset_names, condition_words, rule_words, rule_lines, policy_lines, text_of}

-- The bytes of a file and what they say.
unfoldable pub the_file : Unit {0}
unfolding pairs_from bounds_from rule_from rules_from outputs_at clocks_at locations_at rules_at rules_start rules_end policy_of pairs_bytes bounds_bytes rule_bytes rules_bytes counts_bytes bytes_of
the_file = tt

-- The check of a file.
unfoldable pub the_check : Unit {0}
unfolding states_of all_pass section_refusal among tags_good mask_good head_good bound_good bounds_good rule_refusal rules_refusal inputs_refusal outputs_refusal clocks_refusal locations_refusal rules_section_refusal refusal_of
the_check = tt

-- Words, names and numbers.
unfoldable pub the_words : Unit {0}
unfolding digits decimal value_from parts is_sign kind words_of split lines_of spaced_out laid same find is_plain every is_name is_digit is_number numbered through name_of names_from letters_of
the_words = tt

-- The reader.
unfoldable pub the_reader : Unit {0}
unfolding signal_line input_line output_line clock_line new_place location_line at_line on_signal change on_bound on_target on_reset signal condition word_at rule_of add_rule rule_line read_line read_lines policy_from policy_from_text file_from_text
the_reader = tt

-- The writer.
unfoldable pub the_writer : Unit {0}
unfolding signal_lines clock_lines location_lines signal_words bound_words target_word reset_names condition_words rule_words rule_lines policy_lines text_of
the_writer = tt
