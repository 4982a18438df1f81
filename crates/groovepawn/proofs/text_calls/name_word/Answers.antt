-- A name is short enough to be packed, and with a refusal its line is.
use Rattle.std.specs.Prelude.{Option, Result, Err}
use Rattle.std.proofs.Common.{◌≡◌, refl, sym, ap, ◌∙◌, arith, ne_eqb}
use Rattle.refusals.specs.Refused.{number_of}
use Rattle.refusals.specs.Laws.{number_above}
use Rattle.compiling.specs.declared.refused.LineRefusal.{LineRefusal}
use Rattle.pointing.specs.Said.{name_said}
use Rattle.pointing.specs.declared.nameat.Name.{Name}
use Rattle.groovepawn.specs.Text.{named_word, placed_word}
use Rattle.groovepawn.proofs.text_calls.name_word.Goals as goal

stopped_word : (s : LineRefusal) → named_word (name_said (Err s)) ≡ placed_word (number_of s.refusal) s.line 0
stopped_word s = let above = number_above s.refusal in rw (ne_eqb (number_of s.refusal) 0 (λ z. omega (arith, above))) refl

pub returns-in-Err : goal.returns-in-Err
returns-in-Err c =
    let word = λ (found : Result (Option Name) LineRefusal). named_word (name_said found) in
    (rw c.from.ensures at c.pack_place-in-Err.ensures) ∙ sym (stopped_word c.in-Err.stopped) ∙ ap word (sym c.in-Err.is)
