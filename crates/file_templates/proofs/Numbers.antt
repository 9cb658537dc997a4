-- Lines whose numbers rise have different numbers.
use Rattle.std.proofs.Common.{◌≢◌, ℕ, ◌<◌, ◌≤◌, suc, List, [], ◌∷◌, ◌++◌, arith}
use Rattle.std.proofs.lemmas.List.Elements.{All-from_recursion, All-weaker}
use Rattle.std.proofs.lemmas.List.Kept.{AllPairs-cons}
use Rattle.std.specs.List.{AllByRecursion}
use Rattle.spec_step.specs.Files.{HasDistinctNumbers}
use Rattle.spec_step.specs.declared.tree.Instance.{Instance}
use Rattle.file_templates.proofs.Templates.{Call, Line, line_tokens, line_instance, in_order, behind, data_place, instances_of}

-- the numbers rise, from one on and below another
abbrev pub Rise : ℕ → List Line → ℕ → Type 0
Rise low [] high = low ≤ high
Rise low (l ∷ lines) high = (low ≤ l.number) × Rise (suc l.number) lines high

pub rise_both : (low middle high : ℕ) (xs ys : List Line) → Rise low xs middle → Rise middle ys high → Rise low (xs ++ ys) high
rise_both low middle high [] ys h k = lower ys h k
  where
    lower : (ys : List Line) → low ≤ middle → Rise middle ys high → Rise low ys high
    lower [] h k = omega arith
    lower (y ∷ ys) h k = (omega arith, k.1)
rise_both low middle high (x ∷ xs) ys h k = (h.0, rise_both (suc x.number) middle high xs ys h.1 k)

-- the instances of these lines from a place on
abbrev placed_lines : ℕ → List Line → List Instance
placed_lines at lines = in_order line_tokens line_instance at lines

abbrev AreFrom : ℕ → List Instance → Type 0
AreFrom low instances = AllByRecursion (λ (i : Instance). low ≤ i.number) instances

lower_from : (low high : ℕ) (instances : List Instance) → low ≤ high → AreFrom high instances → AreFrom low instances
lower_from low high [] le h = tt
lower_from low high (i ∷ instances) le h = (omega (arith, h.0), lower_from low high instances le h.1)

from_low : (at low high : ℕ) (lines : List Line) → Rise low lines high → AreFrom low (placed_lines at lines)
from_low at low high [] h = tt
from_low at low high (l ∷ lines) h =
    let place : ℕ = behind at (line_tokens l) in
    (h.0, lower_from low (suc l.number) (placed_lines place lines) (omega arith) (from_low place (suc l.number) high lines h.1))

other : (n : ℕ) (i : Instance) → n < i.number → n ≢ i.number
other n i lt e = omega arith

distinct_from : (at low high : ℕ) (lines : List Line) → Rise low lines high → HasDistinctNumbers (placed_lines at lines)
distinct_from at low high [] h = λ i j d lt k. absurd (omega arith)
distinct_from at low high (l ∷ lines) h =
    let place : ℕ = behind at (line_tokens l) in
    let above = All-from_recursion (λ (i : Instance). l.number < i.number) (placed_lines place lines) (from_low place (suc l.number) high lines h.1) in
    AllPairs-cons (λ (i j : Instance). i.number ≢ j.number) (line_instance at l) (placed_lines place lines)
    (All-weaker (λ (i : Instance). l.number < i.number) (λ (i : Instance). l.number ≢ i.number) (other l.number) (placed_lines place lines) above)
    (distinct_from place (suc l.number) high lines h.1)

pub rise_distinct : (head : List Call) (lines : List Line) (low high : ℕ) → Rise low lines high → HasDistinctNumbers (instances_of head lines)
rise_distinct head lines low high h = distinct_from (data_place head) low high lines h
