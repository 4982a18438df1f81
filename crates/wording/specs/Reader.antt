-- The reader: a text's lines one after another, and a rule's words one after another.
-- In order: what the lines so far have said; the lines that declare, and `at`; what the words of a rule so far have said; one word; a rule's line;
-- any line; all lines; the policy and the file of a text.
use Rattle.std.specs.Prelude.{Bool, true, false, cond, ◌&&◌, List, [], ◌∷◌, ◌++◌, ℕ, zero, suc, ◌+◌, ◌*◌, ◌/◌, ◌%◌, ◌^◌, min, max, leb, ltb, eqb, length, replicate}
use Rattle.std.proofs.Math.Option.{Option, none, some}
use Rattle.streams.specs.Answer.{Answer, refused, gives}
use Rattle.policy.specs.Rules.{Bound, Rule, Policy}
use Rattle.policy.specs.Check.{is_capital, among, ceiling_good, bounds_good, refusal_of}
use Rattle.policy.specs.Bytes.{bytes_of}
use Rattle.wording.specs.Words.{Word, Line, lines_of}
use Rattle.wording.specs.Names.{find, is, is_name, ◌and_then◌, must, known, free, numbered, through, letters_of}

-- What the lines so far have said. The stage is 1 after an input, 2 after an output, 3 after a clock, 4 after a location, 5 after an `at`. For each
-- signal, the inputs first, stands its name, or no byte for none; for each location its byte.
pub record Draft : Type 0 where
  pub inputs : List ℕ
  pub outputs : List ℕ
  pub names : List Word
  pub clocks : List Word
  pub ceilings : List ℕ
  pub places : List Word
  pub left : List ℕ
  pub rules : List Rule
  pub stage : ℕ
  pub source : Option ℕ

-- Before the first line nothing is said.
abbrev pub empty : Draft
empty =
    record {
      inputs = [];
      outputs = [];
      names = [];
      clocks = [];
      ceilings = [];
      places = [];
      left = [];
      rules = [];
      stage = 0;
      source = none;
    }

-- The letter of a signal. 30: no capital letter. 31: it is taken.
abbrev pub letter : List ℕ → Word → Answer ℕ
letter before [] = refused 30
letter before (t ∷ []) = must (is_capital t) 30 (cond (among t before) (refused 31) (gives t))
letter before (t ∷ u ∷ us) = refused 30

-- A new name: 30 if it is none, 31 if it is taken.
abbrev pub new_name : Word → List Word → Answer Draft → Answer Draft
new_name w names a = must (is_name w) 30 (free (find 0 w names) a)

module _ (d : Draft) where
  -- The letters of all signals, the inputs first.
  abbrev pub tags : List ℕ
  tags = d.inputs ++ d.outputs

  -- The new name of a signal. Signals and clocks have one space of names.
  abbrev pub new_signal : Word → Answer Draft → Answer Draft
  new_signal w a = new_name w d.names (free (find 0 w d.clocks) a)

  -- One input more.
  abbrev pub with_input : ℕ → Word → Draft
  with_input t name =
      record {
        inputs = d.inputs ++ (t ∷ []);
        outputs = d.outputs;
        names = d.names ++ (name ∷ []);
        clocks = d.clocks;
        ceilings = d.ceilings;
        places = d.places;
        left = d.left;
        rules = d.rules;
        stage = 1;
        source = d.source;
      }

  -- One output more.
  abbrev pub with_output : ℕ → Word → Draft
  with_output t name =
      record {
        inputs = d.inputs;
        outputs = d.outputs ++ (t ∷ []);
        names = d.names ++ (name ∷ []);
        clocks = d.clocks;
        ceilings = d.ceilings;
        places = d.places;
        left = d.left;
        rules = d.rules;
        stage = 2;
        source = d.source;
      }

  -- `LETTER` or `LETTER NAME`. 33: more than the file has room for.
  unfoldable pub signal_line : (count : ℕ) → (ℕ → Word → Draft) → Line → Answer Draft
  signal_line count go [] = refused 30
  signal_line count go (w ∷ []) = letter tags w and_then λ t. must (ltb count 4) 33 (gives (go t []))
  signal_line count go (w ∷ n ∷ []) = letter tags w and_then λ t. new_signal n (must (ltb count 4) 33 (gives (go t n)))
  signal_line count go (w ∷ n ∷ v ∷ ws) = refused 30

  -- What follows `input`. 30: a later section has begun.
  unfoldable pub input_line : Line → Answer Draft
  input_line ws = must (leb d.stage 1) 30 (signal_line (length d.inputs) with_input ws)

  -- What follows `output`. 30: a later section has begun.
  unfoldable pub output_line : Line → Answer Draft
  output_line ws = must (leb d.stage 2) 30 (signal_line (length d.outputs) with_output ws)

  -- What follows `clock`: `NAME CEILING`. 4: a ceiling that is 0 or above 1,001.
  unfoldable pub clock_line : Line → Answer Draft
  clock_line [] = refused 30
  clock_line (w ∷ []) = refused 30
  clock_line (w ∷ n ∷ []) =
      must (leb d.stage 3) 30 (new_name w d.clocks (free (find 0 w d.names) (numbered n
      λ c.
      must (ceiling_good c) 4 (must (ltb (length d.clocks) 4) 33 (gives (record {
        inputs = d.inputs;
        outputs = d.outputs;
        names = d.names;
        clocks = d.clocks ++ (w ∷ []);
        ceilings = d.ceilings ++ (c ∷ []);
        places = d.places;
        left = d.left;
        rules = d.rules;
        stage = 3;
        source = d.source;
      }))))))
  clock_line (w ∷ n ∷ v ∷ ws) = refused 30

  -- One location more, with its byte. 30: an `at` came before. 33: there are 64 already.
  unfoldable pub new_place : Word → ℕ → Answer Draft
  new_place w byte =
      must (leb d.stage 4) 30 (new_name w d.places (must (ltb (length d.places) 64) 33 (gives (record {
        inputs = d.inputs;
        outputs = d.outputs;
        names = d.names;
        clocks = d.clocks;
        ceilings = d.ceilings;
        places = d.places ++ (w ∷ []);
        left = d.left ++ (byte ∷ []);
        rules = d.rules;
        stage = 4;
        source = d.source;
      }))))

  -- What follows `location`: `NAME`, or `NAME must be left`.
  unfoldable pub location_line : Line → Answer Draft
  location_line [] = refused 30
  location_line (w ∷ []) = new_place w 0
  location_line (w ∷ a ∷ []) = refused 30
  location_line (w ∷ a ∷ b ∷ []) = refused 30
  location_line (w ∷ a ∷ b ∷ c ∷ []) = must (is "must" a && (is "be" b && is "left" c)) 30 (new_place w 1)
  location_line (w ∷ a ∷ b ∷ c ∷ v ∷ ws) = refused 30

  -- The location does not stand before that of the last `at`; else 34.
  abbrev pub risen : Option ℕ → ℕ → Bool
  risen none k = true
  risen (some s) k = leb s k

  -- What follows `at`: the rules to come are this location's. 31: there is no such location.
  unfoldable pub at_line : Line → Answer Draft
  at_line [] = refused 30
  at_line (w ∷ []) =
      known (find 0 w d.places) λ k.
      must (risen d.source k) 34 (gives (record {
        inputs = d.inputs;
        outputs = d.outputs;
        names = d.names;
        clocks = d.clocks;
        ceilings = d.ceilings;
        places = d.places;
        left = d.left;
        rules = d.rules;
        stage = 5;
        source = some k;
      }))
  at_line (w ∷ v ∷ ws) = refused 30

-- What may come next in a rule: its first word; a condition or the arrow; the arrow after `any`; after a clock's name its sign; after the sign a number;
-- after the arrow the target; after that nothing or `reset`; after that names of clocks.
pub data Part : Type 0 where
  opening more arrow : Part
  sign at_least at_most : ℕ → Part
  goes gone clears : Part

-- What the words so far have said. The masks are over the inputs and then the outputs.
pub record Begun : Type 0 where
  pub part : Part
  pub care : ℕ
  pub value : ℕ
  pub bounds : List Bound
  pub target : ℕ
  pub reset : ℕ

-- A low of 0 and a high of 65,535 are no bound.
abbrev pub no_bound : Bound
no_bound = record { low = 0; high = 65535 }

-- A rule before its first word.
abbrev pub bare : ℕ → Begun
bare clocks = record { part = opening; care = 0; value = 0; bounds = replicate clocks no_bound; target = 0; reset = 0 }

-- The same with another part to come.
abbrev pub turn : Part → Begun → Begun
turn part b =
    record { part = part; care = b.care; value = b.value; bounds = b.bounds; target = b.target; reset = b.reset }

-- The bit i of a mask is not yet set.
abbrev pub unset : ℕ → ℕ → Bool
unset mask i = eqb (mask / 2 ^ i % 2) 0

-- A condition on the signal i: 1 on, 0 off. 31: it has one already.
unfoldable pub on_signal : Begun → ℕ → ℕ → Answer Begun
on_signal b v i =
    must (unset b.care i) 31 (gives (record {
      part = more;
      care = b.care + 2 ^ i;
      value = b.value + v * 2 ^ i;
      bounds = b.bounds;
      target = b.target;
      reset = b.reset;
    }))

-- At least n, and what was said before.
abbrev pub at_least_of : ℕ → Bound → Bound
at_least_of n b = record { low = max n b.low; high = b.high }

-- At most n, and what was said before.
abbrev pub at_most_of : ℕ → Bound → Bound
at_most_of n b = record { low = b.low; high = min n b.high }

-- The bound of clock k, changed by f.
unfoldable pub change : (Bound → Bound) → ℕ → List Bound → List Bound
change f k [] = []
change f zero (b ∷ bs) = f b ∷ bs
change f (suc k) (b ∷ bs) = b ∷ change f k bs

-- A condition on clock k.
unfoldable pub on_bound : Begun → ℕ → (Bound → Bound) → Begun
on_bound b k f =
    record { part = more; care = b.care; value = b.value; bounds = change f k b.bounds; target = b.target; reset = b.reset }

-- The target t; 255 is a violation.
unfoldable pub on_target : Begun → ℕ → Begun
on_target b t = record { part = gone; care = b.care; value = b.value; bounds = b.bounds; target = t; reset = b.reset }

-- A clock to be reset. 31: it is one already.
unfoldable pub on_reset : Begun → ℕ → Answer Begun
on_reset b k =
    must (unset b.reset k) 31 (gives (record {
      part = clears;
      care = b.care;
      value = b.value;
      bounds = b.bounds;
      target = b.target;
      reset = b.reset + 2 ^ k;
    }))

-- What a rule may name: the letters and the names of the signals, the clocks, the locations.
pub record Scope : Type 0 where
  pub letters : List ℕ
  pub names : List Word
  pub clocks : List Word
  pub places : List Word

-- What the rules of a draft may name.
abbrev pub scope : Draft → Scope
scope d = record { letters = tags d; names = d.names; clocks = d.clocks; places = d.places }

-- The signal that a word names, by its letter or by its name.
abbrev pub signal_by : List ℕ → List Word → Word → Option ℕ
signal_by letters names [] = none
signal_by letters names (c ∷ cs) = cond (is_capital c) (find 0 (c ∷ cs) (letters_of letters)) (find 0 (c ∷ cs) names)

-- The signal that a word names in a scope.
unfoldable pub signal : Scope → Word → Option ℕ
signal d w = signal_by d.letters d.names w

module _ (d : Scope) (b : Begun) where
  -- A word that is a signal, or else a clock.
  abbrev pub signal_or : Word → Option ℕ → Answer Begun
  signal_or w none = known (find 0 w d.clocks) λ k. gives (turn (sign k) b)
  signal_or w (some i) = on_signal b 1 i

  -- `A`, `!A`, a signal's name with or without `!`, or a clock's name.
  unfoldable pub condition : Word → Answer Begun
  condition [] = refused 30
  condition (c ∷ cs) =
      cond (eqb c 33) (known (signal d cs) (on_signal b 0)) (signal_or (c ∷ cs) (signal d (c ∷ cs)))

  -- What the next word says, by the part that may come.
  unfoldable pub word_at : Part → Word → Answer Begun
  word_at opening w = cond (is "any" w) (gives (turn arrow b)) (condition w)
  word_at more w = cond (is "->" w) (gives (turn goes b)) (condition w)
  word_at arrow w = must (is "->" w) 30 (gives (turn goes b))
  word_at (sign k) w = cond (is ">=" w) (gives (turn (at_least k) b)) (must (is "<=" w) 30 (gives (turn (at_most k) b)))
  word_at (at_least k) w = numbered w λ n. gives (on_bound b k (at_least_of n))
  word_at (at_most k) w = numbered w λ n. gives (on_bound b k (at_most_of n))
  word_at goes w =
      cond (is "violation" w) (gives (on_target b 255)) (known (find 0 w d.places) λ t. gives (on_target b t))
  word_at gone w = must (is "reset" w) 30 (gives (turn clears b))
  word_at clears w = known (find 0 w d.clocks) (on_reset b)

-- What the next word of a rule says.
abbrev pub rule_word : Scope → Begun → Word → Answer Begun
rule_word d b w = word_at d b b.part w

-- A rule may end after its target, or after a clock that is reset.
abbrev pub ends : Begun → Part → Bool
ends b opening = false
ends b more = false
ends b arrow = false
ends b (sign k) = false
ends b (at_least k) = false
ends b (at_most k) = false
ends b goes = false
ends b gone = true
ends b clears = ltb 0 b.reset

-- The rule that the words have said: the bits of the inputs are the low ones.
unfoldable pub rule_of : Draft → ℕ → Begun → Rule
rule_of d source b =
    let inputs = 2 ^ length d.inputs in
    record {
      source = source;
      in_care = b.care % inputs;
      in_value = b.value % inputs;
      out_care = b.care / inputs;
      out_value = b.value / inputs;
      reset = b.reset;
      target = b.target;
      bounds = b.bounds;
    }

module _ (d : Draft) where
  -- One rule more.
  unfoldable pub add_rule : Rule → Draft
  add_rule r =
      record {
        inputs = d.inputs;
        outputs = d.outputs;
        names = d.names;
        clocks = d.clocks;
        ceilings = d.ceilings;
        places = d.places;
        left = d.left;
        rules = d.rules ++ (r ∷ []);
        stage = 5;
        source = d.source;
      }

  -- The line of a rule. 30: no `at` came before. 7: a bound that is not within its ceiling, or a low above its high. 33: there are 256 already.
  unfoldable pub rule_line : Line → Option ℕ → Answer Draft
  rule_line ws none = refused 30
  rule_line ws (some source) =
      through (rule_word (scope d)) (bare (length d.clocks)) ws and_then λ b.
      must (ends b b.part) 30 (must (bounds_good d.ceilings b.bounds) 7
      (must (ltb (length d.rules) 256) 33 (gives (add_rule (rule_of d source b)))))

  -- One line, by its first word. A line without words says nothing.
  unfoldable pub read_line : Line → Answer Draft
  read_line [] = gives d
  read_line (w ∷ ws) =
      cond (is "input" w) (input_line d ws)
      (cond (is "output" w) (output_line d ws)
      (cond (is "clock" w) (clock_line d ws)
      (cond (is "location" w) (location_line d ws)
      (cond (is "at" w) (at_line d ws)
      (rule_line (w ∷ ws) d.source)))))

-- What a text gives, or a refusal's number and the line that it stands in. In line 0 stands what the file's own check refuses.
pub data FromText (A : Type 0) : Type 0 where
  stops : (number line : ℕ) → FromText A
  reads : A → FromText A

-- On with what a line gives; a refusal stops, with the number of the line.
abbrev pub proceed : ℕ → Answer Draft → (Draft → FromText Draft) → FromText Draft
proceed line (refused n) go = stops n line
proceed line (gives d) go = go d

-- Lines one after another, the first with the number `line`: what they have said, or the first refusal with its line.
unfoldable pub read_lines : ℕ → Draft → List Line → FromText Draft
read_lines line d [] = reads d
read_lines line d (l ∷ ls) = proceed line (read_line d l) (λ e. read_lines (suc line) e ls)

-- The policy that a draft says. The reading is the caller's: no text says it.
unfoldable pub policy_from : ℕ → Draft → Policy
policy_from reading d =
    record {
      reading = reading;
      inputs = d.inputs;
      outputs = d.outputs;
      ceilings = d.ceilings;
      locations = length d.places;
      left = d.left;
      rules = d.rules;
    }

-- The policy that the lines say, or their refusal.
abbrev pub said_by : ℕ → FromText Draft → FromText Policy
said_by reading (stops n line) = stops n line
said_by reading (reads d) = reads (policy_from reading d)

-- The policy that a text says, or its refusal.
unfoldable pub policy_from_text : ℕ → List ℕ → FromText Policy
policy_from_text reading text = said_by reading (read_lines 1 empty (lines_of text))

-- The file, or the refusal of its own check, in line 0.
abbrev pub passed : ℕ → List ℕ → FromText (List ℕ)
passed zero f = reads f
passed (suc n) f = stops (suc n) 0

-- The bytes of a policy, if they pass the check.
abbrev pub filed : FromText Policy → FromText (List ℕ)
filed (stops n line) = stops n line
filed (reads p) = passed (refusal_of (bytes_of p)) (bytes_of p)

-- The file that a text gives, or its refusal. A file has no reading, so any will do here.
unfoldable pub file_from_text : List ℕ → FromText (List ℕ)
file_from_text text = filed (policy_from_text 1 text)
