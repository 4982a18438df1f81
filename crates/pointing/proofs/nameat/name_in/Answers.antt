use Rattle.std.proofs.Common.{◌≡◌, ◌-◌, refl, ap, arith}
use Rattle.policy.specs.File.{part}
use Rattle.pointing.specs.NameAt.{name_word, name_none, word_lacks, second_none, second_there, third_none, third_there}
use Rattle.pointing.specs.Said.{kind_number}
use Rattle.pointing.specs.declared.nameat.Kind.{Kind}
use Rattle.pointing.proofs.nameat.name_in.Goals as goal

pub returns-then-first : goal.returns-then-first
returns-then-first c =
    let a = c.args in
    let kind = kind_number a.kind in
    record {
      said = name_none kind a.at (part a.text.now a.at (a.end - a.at)) (word_lacks c.requires.1 c.requires.0 c.word_in-first.ensures c.if-first.true (name_word kind));
      there = tt;
    }

pub returns-then-second : goal.returns-then-second
returns-then-second c =
    record {
      said = second_none c.requires.1 c.requires.0 c.word_in-first.ensures c.if-first.false c.word_in-second.ensures (kind_number c.args.kind) c.if-second.true;
      there = tt;
    }

-- A clock or a location.
other : (kind : Kind) → (kind ≡ Kind.Signal → ⊥) → kind_number kind ≡ 0 → ⊥
other Kind.Signal h e = h refl
other Kind.Clock h e = omega arith
other Kind.Location h e = omega arith

pub returns-in_default : goal.returns-in_default
returns-in_default c =
    record {
      said = second_there c.requires.1 c.requires.0 c.word_in-first.ensures c.if-first.false c.word_in-second.ensures c.if-second.false
          (kind_number c.args.kind) (other c.args.kind c.in_default.not-Signal);
      there = omega (arith, c.if-second.false);
    }

pub returns-then-third : goal.returns-then-third
returns-then-third c =
    record {
      said = third_none c.requires.1 c.requires.0 c.word_in-first.ensures c.if-first.false c.word_in-second.ensures c.if-second.false c.word_in-third.ensures
          (kind_number c.args.kind) (ap kind_number c.in-Signal.is) c.if-third.true;
      there = tt;
    }

pub returns-else-third : goal.returns-else-third
returns-else-third c =
    record {
      said = third_there c.requires.1 c.requires.0 c.word_in-first.ensures c.if-first.false c.word_in-second.ensures c.if-second.false c.word_in-third.ensures
          (kind_number c.args.kind) (ap kind_number c.in-Signal.is) c.if-third.false;
      there = omega (arith, c.if-third.false);
    }
