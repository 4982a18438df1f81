-- What a rule asks, as words.
use Rattle.std.specs.Prelude.{cond, List, [], ◌∷◌, ◌++◌, ℕ, ◌+◌, ◌-◌, ◌/◌, ◌%◌, eqb}
use Rattle.policy.specs.Rules.{Bound, Rule}
use Rattle.texts.specs.Text.{ascii, decimal}

-- The signals with these tags that a mask names, each after a space. Bit 0 is the first signal's.
abbrev pub name : (tag mask : ℕ) → List ℕ
name tag mask = cond (eqb (mask % 2) 1) (ascii " " ++ (tag ∷ [])) []

-- All signals that the mask names, in their order.
unfoldable pub names : (tags : List ℕ) (mask : ℕ) → List ℕ
names [] mask = []
names (tag ∷ tags) mask = name tag mask ++ names tags (mask / 2)

-- The inputs and the outputs that two masks name, and a word for all of them; nothing where they name none.
unfoldable pub signals : (inputs outputs : List ℕ) (x y : ℕ) (word : List ℕ) → List ℕ
signals inputs outputs x y word = cond (eqb (x + y) 0) [] (ascii "," ++ names inputs x ++ names outputs y ++ word)

-- "whose care bits agree with x and y": the signals that must be on, then those that must be off. "A value has no bit outside its care mask", so what is left
-- of the care without the value is off.
unfoldable pub cared : (inputs outputs : List ℕ) (in_care in_value out_care out_value : ℕ) → List ℕ
cared inputs outputs in_care in_value out_care out_value =
    signals inputs outputs in_value out_value (ascii " on") ++ signals inputs outputs (in_care - in_value) (out_care - out_value) (ascii " off")

-- "for each clock a two-byte low and high"; "65,535, meaning no upper bound". A clock without bounds is not spoken of.
abbrev pub clock : (number low : ℕ) → List ℕ
clock n low = ascii ", clock " ++ decimal n ++ ascii " from " ++ decimal low

-- The words of one clock with its bounds.
unfoldable pub bound : (number low high : ℕ) → List ℕ
bound n low high =
    cond (eqb high 65535) (cond (eqb low 0) [] (clock n low ++ ascii " on")) (clock n low ++ ascii " to " ++ decimal high)

-- The clocks from the one with this number on.
unfoldable pub bounds : (number : ℕ) → List Bound → List ℕ
bounds n [] = []
bounds n (b ∷ bs) = bound n b.low b.high ++ bounds (n + 1) bs

-- The words of the rule's location.
unfoldable pub location : ℕ → List ℕ
location n = ascii "at location " ++ decimal n

-- A rule "whose source is the location, whose care bits agree with x and y, and whose bounds hold": these, in this order.
unfoldable pub asks : (inputs outputs : List ℕ) → Rule → List ℕ
asks inputs outputs r =
    location r.source ++ cared inputs outputs r.in_care r.in_value r.out_care r.out_value ++ bounds 0 r.bounds
