-- `bays::bays::start_all` meets its contract: as many zeros as there are numbers.
use Rattle.std.proofs.Common.{◌≡◌, refl, sym, ap, ◌∙◌, ℕ, zero, suc, ◌+◌, ◌*◌, List, ◌++◌, length, replicate, arith, rules}
use Rattle.std.proofs.lemmas.List.{replicate-append-replicate}
use Rattle.stepping.specs.Code.{start_state}
use Rattle.stepping.specs.Five.{state_words}
use Rattle.bays.specs.Bays.{bay_count}
use Rattle.bays.specs.Entries.{started}
use Rattle.bays.specs.Parts.{five_each}
use Rattle.bays.proofs.bays.start_all.Goals as goal

-- A bay at the start is five zeros.
zeros : (n : ℕ) → replicate (n * 5) 0 ≡ started n
unfolding started
zeros zero = refl
zeros (suc n) =
    let e : suc n * 5 ≡ n * 5 + 5 = omega arith in
    ap (λ (k : ℕ). replicate k 0) e ∙ sym (replicate-append-replicate (n * 5) 5 0) ∙ ap (λ (l : List ℕ). l ++ state_words start_state) (zeros n)

pub returns : goal.returns
returns c =
    let states = c.args.states.now in
    let all : c.fill.new.self ≡ replicate (length states) 0 = search rules in
    all ∙ ap (λ (k : ℕ). replicate k 0) (sym (five_each (length states) c.requires)) ∙ zeros (bay_count states)
