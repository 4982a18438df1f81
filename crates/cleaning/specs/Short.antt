-- How long what clean writes can be, whatever the file is.
use Rattle.std.specs.Prelude.{◌≡◌, List, ℕ, ◌≤◌}
use Rattle.std.proofs.Common.{subst, arith}
use Rattle.streams.specs.Answer.{gives}
use Rattle.streams.specs.AnswerLaws.{given_only, none_refused}
use Rattle.policy.specs.Check.{refusal_under}
use Rattle.policy.specs.CheckLaws.{under_none}
use Rattle.policy.specs.Frame.{frame, longest}
use Rattle.cleaning.specs.Entry.{clean_refusal, clean_of}
use Rattle.cleaning.specs.declared.Lengths.{Lengths}
use Rattle.cleaning.specs.Sizes.{room}

-- Where lengths are given, they are no more than these. The list has at most 957 bytes (`Room`); 960, for 320 entries, is what programs lend.
pub record Few (l : Lengths) : Type 0 where
  pub cleaned : l.cleaned ≤ 5974
  pub struck : l.struck ≤ 960

-- Where clean gives lengths, the policy has at most 5,974 bytes and the list at most 960.
pub lengths_few : (reading : ℕ) (file out list : List ℕ) (l : Lengths) → clean_of reading file out list ≡ gives l → Few l
unfolding clean_of clean_refusal
lengths_few reading file out list l e =
    let k = given_only (clean_refusal reading file out list) _ l e in
    let passed = ((under_none reading file).0 ((none_refused (refusal_under reading file) _).0 k.0).0).1 in
    let m = room reading file passed in
    subst Few k.1 (record { cleaned = omega (arith, m.policy, longest file (frame file passed)); struck = omega (arith, m.list) })
