-- Samples S, D, T, K and N of 01 and a policy of a valve as text that a person writes, and as the writer writes them; and what is refused. All by
-- computing.
use Rattle.std.specs.Prelude.{◌≡◌, refl, List, [], ◌∷◌, ℕ}
use Rattle.texts.specs.Text.{ascii}
use Rattle.wording.specs.Computing.{the_file, the_check, the_words, the_reader, the_writer}
use Rattle.wording.specs.Reader.{file_from_text, reads, stops}
use Rattle.wording.specs.Writer.{text_of_file}
use Rattle.wording.specs.RuleLines.{is_rule, rules_among, rule_numbers}
use Rattle.wording.specs.Lettered.{noted, letter_for, word_lettered, rule_lettered, lettered, with_letters}

abbrev S : List ℕ
S =
    0x02 ∷ 0x41 ∷ 0x42 ∷ 0x01 ∷ 0x52 ∷ 0x00 ∷ 0x01 ∷ 0x00 ∷ 0x00 ∷ 0x03
    ∷ 0x00 ∷ 0x03 ∷ 0x03 ∷ 0x00 ∷ 0x00 ∷ 0x00 ∷ 0xFF
    ∷ 0x00 ∷ 0x02 ∷ 0x02 ∷ 0x01 ∷ 0x01 ∷ 0x00 ∷ 0xFF
    ∷ 0x00 ∷ 0x00 ∷ 0x00 ∷ 0x00 ∷ 0x00 ∷ 0x00 ∷ 0x00 ∷ []

abbrev D : List ℕ
D =
    0x01 ∷ 0x52 ∷ 0x01 ∷ 0x43 ∷ 0x01 ∷ 0x00 ∷ 0x03 ∷ 0x02 ∷ 0x00 ∷ 0x00 ∷ 0x00 ∷ 0x04
    ∷ 0x00 ∷ 0x01 ∷ 0x01 ∷ 0x00 ∷ 0x00 ∷ 0x01 ∷ 0x01 ∷ 0x00 ∷ 0x00 ∷ 0xFF ∷ 0xFF
    ∷ 0x00 ∷ 0x00 ∷ 0x00 ∷ 0x00 ∷ 0x00 ∷ 0x01 ∷ 0x00 ∷ 0x00 ∷ 0x00 ∷ 0xFF ∷ 0xFF
    ∷ 0x01 ∷ 0x00 ∷ 0x00 ∷ 0x01 ∷ 0x01 ∷ 0x01 ∷ 0x00 ∷ 0x00 ∷ 0x00 ∷ 0xFF ∷ 0xFF
    ∷ 0x01 ∷ 0x00 ∷ 0x00 ∷ 0x01 ∷ 0x00 ∷ 0x00 ∷ 0x01 ∷ 0x00 ∷ 0x00 ∷ 0x00 ∷ 0x02 ∷ []

abbrev T : List ℕ
T =
    0x01 ∷ 0x41 ∷ 0x01 ∷ 0x42 ∷ 0x00 ∷ 0x02 ∷ 0x00 ∷ 0x00 ∷ 0x00 ∷ 0x02
    ∷ 0x00 ∷ 0x01 ∷ 0x01 ∷ 0x00 ∷ 0x00 ∷ 0x00 ∷ 0x01
    ∷ 0x00 ∷ 0x00 ∷ 0x00 ∷ 0x00 ∷ 0x00 ∷ 0x00 ∷ 0x00 ∷ []

abbrev K : List ℕ
K =
    0x00 ∷ 0x01 ∷ 0x4B ∷ 0x01 ∷ 0x00 ∷ 0x03 ∷ 0x01 ∷ 0x00 ∷ 0x00 ∷ 0x02
    ∷ 0x00 ∷ 0x00 ∷ 0x00 ∷ 0x01 ∷ 0x01 ∷ 0x00 ∷ 0xFF ∷ 0x00 ∷ 0x03 ∷ 0xFF ∷ 0xFF
    ∷ 0x00 ∷ 0x00 ∷ 0x00 ∷ 0x00 ∷ 0x00 ∷ 0x00 ∷ 0x00 ∷ 0x00 ∷ 0x00 ∷ 0xFF ∷ 0xFF ∷ []

abbrev N : List ℕ
N = 0x00 ∷ 0x00 ∷ 0x00 ∷ 0x01 ∷ 0x00 ∷ 0x00 ∷ 0x00 ∷ []

abbrev Valve : List ℕ
Valve =
    0x02 ∷ 0x43 ∷ 0x50 ∷ 0x01 ∷ 0x56 ∷ 0x01 ∷ 0x00 ∷ 0x06 ∷ 0x02 ∷ 0x00 ∷ 0x01 ∷ 0x00 ∷ 0x05
    ∷ 0x00 ∷ 0x01 ∷ 0x01 ∷ 0x00 ∷ 0x00 ∷ 0x01 ∷ 0x01 ∷ 0x00 ∷ 0x00 ∷ 0xFF ∷ 0xFF
    ∷ 0x00 ∷ 0x00 ∷ 0x00 ∷ 0x01 ∷ 0x01 ∷ 0x00 ∷ 0xFF ∷ 0x00 ∷ 0x00 ∷ 0xFF ∷ 0xFF
    ∷ 0x00 ∷ 0x00 ∷ 0x00 ∷ 0x00 ∷ 0x00 ∷ 0x00 ∷ 0x00 ∷ 0x00 ∷ 0x00 ∷ 0xFF ∷ 0xFF
    ∷ 0x01 ∷ 0x00 ∷ 0x00 ∷ 0x01 ∷ 0x01 ∷ 0x00 ∷ 0x01 ∷ 0x00 ∷ 0x00 ∷ 0x00 ∷ 0x04
    ∷ 0x01 ∷ 0x00 ∷ 0x00 ∷ 0x01 ∷ 0x00 ∷ 0x00 ∷ 0x00 ∷ 0x00 ∷ 0x00 ∷ 0xFF ∷ 0xFF ∷ []

abbrev text_s : List ℕ
text_s = ascii "# Not A with B, not B with R.\ninput A\ninput B\noutput R\nlocation open\nat open\n  A B -> violation\n  B R -> violation\n  any -> open\n"

abbrev written_s : List ℕ
written_s = ascii "input A\ninput B\noutput R\nlocation q0\n\nat q0\n  A B -> violation\n  B R -> violation\n  any -> q0\n"

abbrev text_d : List ℕ
text_d = ascii "# After R, C at latest on the fourth tick.\ninput R request\noutput C confirm\nclock wait 3\nlocation quiet\nlocation waiting\n\nat quiet\n  request -> waiting reset wait\n  any -> quiet reset wait\nat waiting\n  confirm -> quiet reset wait\n  !confirm wait<=2 -> waiting\n"

abbrev written_d : List ℕ
written_d = ascii "input R\noutput C\nclock t0 3\nlocation q0\nlocation q1\n\nat q0\n  R -> q1 reset t0\n  any -> q0 reset t0\n\nat q1\n  C -> q0 reset t0\n  !C t0 <= 2 -> q1\n"

abbrev text_t : List ℕ
text_t = ascii "input A\noutput B\nlocation first\nlocation trap\nat first\n  A -> trap\n  any -> first\n"

abbrev text_k : List ℕ
text_k = ascii "# Credit K only while the clock is at most 2.\noutput K\nclock age 3\nlocation on\nat on\n\tK age>=3 -> violation   # too late\r\n\tany -> on"

abbrev written_k : List ℕ
written_k = ascii "output K\nclock t0 3\nlocation q0\n\nat q0\n  K t0 >= 3 -> violation\n  any -> q0\n"

abbrev text_valve : List ℕ
text_valve = ascii "# V opens only after a credit, for at most 5 ticks\ninput  C credit            # a capital letter; then, if one is wanted, a name\ninput  P pulse\noutput V valve\nclock  age 6               # name, ceiling in ticks\nlocation idle              # the first is the start\nlocation open must be left # byte 1; without the three words byte 0\n\nat idle\n  credit           -> open reset age\n  valve            -> violation\n  any              -> idle\nat open\n  valve age <= 4   -> open\n  !valve           -> idle\n"

-- Letters in the place of the names, and no names declared.
abbrev letters_valve : List ℕ
letters_valve = ascii "input C\ninput P\noutput V\nclock age 6\nlocation idle\nlocation open must be left\nat idle\n  C -> open reset age\n  V -> violation\n  any -> idle\nat open\n  V age <= 4 -> open\n  !V -> idle\n"

abbrev written_valve : List ℕ
written_valve = ascii "input C\ninput P\noutput V\nclock t0 6\nlocation q0\nlocation q1 must be left\n\nat q0\n  C -> q1 reset t0\n  V -> violation\n  any -> q0\n\nat q1\n  V t0 <= 4 -> q1\n  !V -> q0\n"

-- S, D, T, K and N: which file each text gives, and which text is written for a file.
pub samples : (file_from_text text_s ≡ reads S)
    × (text_of_file S ≡ written_s)
    × (file_from_text written_s ≡ reads S)
    × (file_from_text text_d ≡ reads D)
    × (text_of_file D ≡ written_d)
    × (file_from_text written_d ≡ reads D)
    × (file_from_text text_t ≡ reads T)
    × (file_from_text text_k ≡ reads K)
    × (text_of_file K ≡ written_k)
    × (file_from_text written_k ≡ reads K)
    × (file_from_text (ascii "location q0\n") ≡ reads N)
    × (text_of_file N ≡ ascii "location q0\n")
unfolding the_file the_check the_words the_reader the_writer
samples = (refl, refl, refl, refl, refl, refl, refl, refl, refl, refl, refl, refl)

-- Names change nothing.
pub valve : (file_from_text text_valve ≡ reads Valve)
    × (file_from_text letters_valve ≡ reads Valve)
    × (text_of_file Valve ≡ written_valve)
    × (file_from_text written_valve ≡ reads Valve)
unfolding the_file the_check the_words the_reader the_writer
valve = (refl, refl, refl, refl)

-- Letters for the names of signals, and for those alone: a location may have such a name too.
pub lettered_shown : with_letters (ascii "input A lid\nclock age 6\nlocation lid\nat lid\n  !lid age<=4 -> lid reset age # closed\n")
    ≡ ascii "input A lid\nclock age 6\nlocation lid\nat lid\n!A age <= 4 -> lid reset age\n"
unfolding the_words is_rule noted letter_for word_lettered rule_lettered lettered with_letters
lettered_shown = refl

-- The lines of the rules.
pub numbers_shown : rule_numbers text_valve ≡ 10 ∷ 11 ∷ 12 ∷ 14 ∷ 15 ∷ []
unfolding the_words is_rule rules_among
numbers_shown = refl

-- The number of the refusal, and its line; 0 for the file as a whole.
pub refusals :
    (file_from_text (ascii "location q\n any -> q") ≡ stops 30 2)
    × (file_from_text (ascii "location q\nat q\n a >= 1 -> q") ≡ stops 31 3)
    × (file_from_text (ascii "input A\nlocation q\nat q\n A !A -> q") ≡ stops 31 4)
    × (file_from_text (ascii "input A lid\nlocation q\nat q\n lid !A -> q") ≡ stops 31 4)
    × (file_from_text (ascii "input A\n\noutput A") ≡ stops 31 3)
    × (file_from_text (ascii "input A lid\nclock lid 1") ≡ stops 31 2)
    × (file_from_text (ascii "input A\noutput B\ninput C") ≡ stops 30 3)
    × (file_from_text (ascii "input A\nlocation q\nat q\n any A -> q") ≡ stops 30 4)
    × (file_from_text (ascii "clock c 65536") ≡ stops 32 1)
    × (file_from_text (ascii "clock a 1\nclock b 1\nclock c 1\nclock d 1\nclock e 1") ≡ stops 33 5)
    × (file_from_text (ascii "location reset") ≡ stops 30 1)
    × (file_from_text (ascii "location q must be") ≡ stops 30 1)
    × (file_from_text (ascii "clock c 1002\nlocation q") ≡ stops 4 1)
    × (file_from_text (ascii "clock c 3\nlocation q\nat q\n c <= 3 -> q") ≡ stops 7 4)
    × (file_from_text (ascii "location p\nlocation q\nat q\nat p") ≡ stops 34 4)
    × (file_from_text (ascii "clock a 1001\nclock b 1001\nlocation q") ≡ stops 9 0)
    × (file_from_text (ascii "") ≡ stops 2 0)
unfolding the_file the_check the_words the_reader the_writer
refusals = (refl, refl, refl, refl, refl, refl, refl, refl, refl, refl, refl, refl, refl, refl, refl, refl, refl)
