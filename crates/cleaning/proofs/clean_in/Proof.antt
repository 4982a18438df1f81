-- `cleaning::clean_in` meets its contract: the flags found are those of the definitions.
use mathlib.Core.Path.{◌≡◌, refl, sym, ◌∙◌}
use mathlib.Core.List.{List, ◌++◌}
use Prim.Native.Nat.{ℕ, ◌/◌, ◌≤◌}
use native.Mathlib.Omega.{arith}
use lib.ListN.{length, take, drop, length-append}
use lib.Seq.{length-take-le, get_or-take}
use borrow.Author.Rules.{rules}
use Rattle.policy.specs.File.{policy_of}
use Rattle.policy.specs.Number.{states}
use Rattle.stepping.specs.Laid.{laid_well, laid_limits}
use Rattle.usage.proofs.FlagLaws.{from_own, laid_sized, sized_all, laid_entered, laid_used, first_long, first_at}
use Rattle.cleaning.proofs.PromiseLaws.{cleaned_is, struck_is}
use Rattle.cleaning.proofs.clean_in.Statement.{statement}
use Rattle.cleaning.proofs.clean_in.Tie as tie

-- Earlier places in the code.
abbrev start : tie.After-find → tie.Start
start c = c.before.before.before.before.before.before.before.before

abbrev searched : tie.After-slice_known-6-1 → tie.After-find
searched c = c.before.before.before.before

-- The states have bytes, and so have the locations and the rules.
sizes : (s : tie.Start) →
    let l = s.args.layout in
    (l.states ≡ states (policy_of l.reading s.args.file.now)) × (l.states ≤ length s.args.marks.now) × (l.locations ≤ l.states) × (l.rules ≤ 256)
sizes s =
    let l = s.args.layout in
    let k = s.requires.0 in
    let z = laid_sized k in (
      k.states,
      omega (arith, k.states, (laid_well k).states, s.requires.1),
      omega (arith, from_own l.locations (l.states / l.locations) z.some, sized_all k z, k.states),
      omega (arith, laid_limits k),
    )

slice-relend-prefix-find : tie.Need-slice_bounds-find-end
slice-relend-prefix-find c = (sizes c.before.before.before.before.before).1

slice-aggregate-find : tie.Need-slice_bounds-find-end-2
slice-aggregate-find c = sym (length-take-le c.args.layout.states c.args.marks.now (sizes c.before.before.before.before.before.before).1)

find-requires : tie.Need-find-requires
find-requires c κs =
    (c.requires.0, length-take-le c.args.layout.states c.args.marks.now (sizes c.before.before.before.before.before.before.before).1 ∙ (sizes c.before.before.before.before.before.before.before).0, c.requires.2)

-- What `find` leaves, by its lengths.
found : (c : tie.After-find) →
    let s = start c in
    (s.args.layout.locations ≤ length c.find.new.marks) × (s.args.layout.rules ≤ length c.find.new.rules)
found c =
    let s = start c in
    let n = sizes s in (
      omega (arith, n.2, c.find.ensures.0.0, length-take-le s.args.layout.states s.args.marks.now n.1),
      omega (arith, n.3, c.find.ensures.1.0, s.requires.2),
    )

slice-reshare-prefix-write : tie.Need-slice_bounds-write-end
slice-reshare-prefix-write c = omega (arith, (found (searched c)).0, length-append (searched c).find.new.marks (drop (start (searched c)).args.layout.states (start (searched c)).args.marks.now))

slice-aggregate-write : tie.Need-slice_bounds-write-end-2
slice-aggregate-write c = sym (first_long _ (searched c).find.new.marks _ (found (searched c)).0)

slice-reshare-prefix-write-2 : tie.Need-slice_bounds-write-end-3
slice-reshare-prefix-write-2 c = (found (searched c)).1

slice-aggregate-write-2 : tie.Need-slice_bounds-write-end-4
slice-aggregate-write-2 c = let w = searched c in sym (length-take-le _ w.find.new.rules (found w).1)

write-requires : tie.Need-write-requires
write-requires c κs =
    let d = searched c.before.before in
    record {
      laid = (start d).requires.0;
      locations = first_long _ d.find.new.marks _ (found d).0;
      rules = length-take-le _ d.find.new.rules (found d).1;
    }

returns : tie.Need-returns
returns c =
    let d = searched c.before.before.before.before.before.before.before in
    let s = start d in
    let f : List ℕ = s.args.file.now in
    let l = s.args.layout in
    let marks : List ℕ = d.find.new.marks in
    let rest : List ℕ = drop l.states s.args.marks.now in
    let rules : List ℕ = d.find.new.rules in
    let ent : List ℕ = take l.locations (marks ++ rest) in
    let uses : List ℕ = take l.rules rules in
    let n = found d in
    let e = laid_entered s.requires.0 ent (first_long l.locations marks rest n.0) (λ i u. first_at l.locations marks rest n.0 i u ∙ d.find.ensures.0.1 i u) in
    let w = laid_used s.requires.0 uses (length-take-le l.rules rules n.1) (λ i u. get_or-take l.rules rules i 0 u ∙ d.find.ensures.1.1 i u) in
    rw (cleaned_is f l ent uses refl e w, struck_is f l ent uses refl e w) at c.write.ensures

pub clean_in_spec : {M : Type 1} → statement M
clean_in_spec = tie.close (tie.spec slice-relend-prefix-find slice-aggregate-find find-requires slice-reshare-prefix-write slice-aggregate-write slice-reshare-prefix-write-2 slice-aggregate-write-2 write-requires (λ c. search rules) (λ c. search rules) (λ c. search rules) (λ c. search rules) returns)
