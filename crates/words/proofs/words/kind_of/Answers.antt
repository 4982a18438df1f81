-- Of the bytes that are tested for one by one each has its kind, and any other is plain.
use Rattle.std.proofs.Common.{◌≡◌, ◌⊎◌, inl, inr, ℕ, zero, suc, ◌≤◌, ◌<◌, ◌-◌, refl, arith, sym, ap}
use Rattle.wording.specs.Words.{kind, parts, is_sign}
use Rattle.words.specs.Lex.{kind_other, kind_sign, kind_above}
use Rattle.words.proofs.words.kind_of.Goals as goal

pub returns-then-c-gt62 : goal.returns-then-c-gt62
returns-then-c-gt62 c = kind_above c.args.c c.if-c-gt62.true

pub returns-in_default : goal.returns-in_default
returns-in_default c = kind_other c.args.c (λ e. omega arith) (λ e. omega arith) (λ e. omega arith) (λ e. omega arith) (λ e. omega arith) (λ e. omega arith) (λ e. omega arith) (λ e. omega arith) (λ e. omega arith)

pub returns-in_default-2 : goal.returns-in_default-2
returns-in_default-2 c = kind_other c.args.c (λ e. grind arith) (λ e. grind arith) (λ e. grind arith) (λ e. grind arith) (λ e. grind arith) (λ e. grind arith) (λ e. grind arith) (λ e. grind arith) (λ e. grind arith)

pub returns-in_default-3 : goal.returns-in_default-3
returns-in_default-3 c = kind_other c.args.c (λ e. omega arith) (λ e. omega arith) (λ e. omega arith) (λ e. omega arith) (λ e. omega arith) (λ e. omega arith) (λ e. omega arith) (λ e. omega arith) (λ e. omega arith)

pub returns-in-45 : goal.returns-in-45
unfolding kind parts is_sign
returns-in-45 c = sym (ap kind c.in-45.is)

pub returns-in-45-2 : goal.returns-in-45-2
returns-in-45-2 c = kind_sign c.args.c (omega arith) (omega arith)

is_zero : (c : ℕ) → c ≡ 13 ⊎ (c ≡ 32 ⊎ c ≡ 35) → 0 ≡ kind c
unfolding kind parts is_sign
is_zero c (inl e) = sym (ap kind e)
is_zero c (inr (inl e)) = sym (ap kind e)
is_zero c (inr (inr e)) = sym (ap kind e)

pub returns-in-32 : goal.returns-in-32
returns-in-32 c = is_zero c.args.c c.in-32.is

tab_or_feed : (c : ℕ) → 9 ≤ c → c < 11 → 0 ≡ kind c
unfolding kind parts is_sign
tab_or_feed c h l = go (c - 9) refl
  where
    go : (n : ℕ) → c - 9 ≡ n → 0 ≡ kind c
    go zero e = let s : c ≡ 9 = omega arith in sym (ap kind s)
    go (suc zero) e = let s : c ≡ 10 = omega arith in sym (ap kind s)
    go (suc (suc n)) e = absurd (omega arith)

pub returns-in-32-2 : goal.returns-in-32-2
returns-in-32-2 c = tab_or_feed c.args.c (omega arith) (omega arith)
