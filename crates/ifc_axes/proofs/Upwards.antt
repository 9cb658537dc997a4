-- Placements found from a product to the root.
use Rattle.std.proofs.Common.{◌≡◌, ℕ, zero, suc, ◌-◌, ◌≤◌, List, [], ◌∷◌, ◌++◌, reverse, length, length-append, All, Option, Some, None, Ok, Err, refl, sym, ◌∙◌, ap, subst, arith, inl, inr}
use Rattle.std.proofs.lemmas.Bool.{cases_lt}
use Rattle.std.proofs.lemmas.List.{append_assoc, reverse-append}
use Rattle.std.proofs.lemmas.List.Elements.{All-append, All-cons, All-nil}
use Rattle.std.proofs.lemmas.List.Sorted.{All-permutation, IsPermutation-reverse}
use Rattle.spec_table.specs.Sections.{DataSection, IsSimple}
use Rattle.spec_table.specs.Attributes.{attr_ref}
use Rattle.ifc_kinds.specs.declared.kind.Kind.TheVariants as kind
use Rattle.spec_refusal.specs.declared.Refusal.{Refusal}
use Rattle.spec_refusal.specs.declared.Refusal.TheVariants.{TooDeep}
use Rattle.spec_refusal.specs.Reads.{Read, next}
use Rattle.spec_place.specs.Chains.{Link}
use Rattle.spec_entity.specs.Reads.{as_read, instance_of_kinds, each}
use Rattle.spec_geometry.specs.Files.{File}
use Rattle.spec_geometry.specs.Placements.{placements_to, most_links, link, chain}
use Rattle.ifc_axes.specs.Turned.{placement_read}

-- the placements that stand before those found, which were found from the product on
abbrev pub before_found : Read (List ℕ) → List ℕ → Read (List ℕ)
before_found more found = next more (λ before. Ok (before ++ reverse found))

one_more : (more : Read (List ℕ)) (p : ℕ) (found : List ℕ) → before_found (next more (λ before. Ok (before ++ p ∷ []))) found ≡ before_found more (found ++ p ∷ [])
one_more (Ok before) p found = ap Ok (append_assoc before (p ∷ []) (reverse found) ∙ ap (λ r. before ++ r) (sym (reverse-append found (p ∷ []))))
one_more (Err refusal) p found = refl

abbrev further : DataSection → ℕ → ℕ → Option ℕ → Read (List ℕ)
further section more p parent = next (placements_to more section parent) (λ before. Ok (before ++ p ∷ []))

one_in : (more : ℕ) (section : DataSection) (n : ℕ)
    → placements_to (suc more) section (Some n) ≡ next (instance_of_kinds section (kind.LocalPlacement ∷ []) n) (λ p. next (as_read (attr_ref section p 1)) (further section more p))
unfolding placements_to
one_in more section n = refl

abbrev with_parent : ℕ → Option ℕ → Read (ℕ × Option ℕ)
with_parent p parent = Ok (p, parent)

second_read : (p : ℕ) (r : Read (Option ℕ)) (go_on : ℕ → Option ℕ → Read (List ℕ)) → next r (go_on p) ≡ next (next r (with_parent p)) (λ read. go_on read.0 read.1)
second_read p (Ok parent) go_on = refl
second_read p (Err refusal) go_on = refl

both_read : (r : Read ℕ) (parent_of : ℕ → Read (Option ℕ)) (go_on : ℕ → Option ℕ → Read (List ℕ))
    → next r (λ p. next (parent_of p) (go_on p)) ≡ next (next r (λ p. next (parent_of p) (with_parent p))) (λ read. go_on read.0 read.1)
both_read (Ok p) parent_of go_on = second_read p (parent_of p) go_on
both_read (Err refusal) parent_of go_on = refl

steps_in : (more : ℕ) (section : DataSection) (n : ℕ) → placements_to (suc more) section (Some n) ≡ next (placement_read section n) (λ read. further section more read.0 read.1)
steps_in more section n =
    one_in more section n ∙ both_read (instance_of_kinds section (kind.LocalPlacement ∷ []) n) (λ p. as_read (attr_ref section p 1)) (further section more)

-- fewer than 64 are found, as counted
some_left : (count found : ℕ) → count ≡ found → (count ≡ 64 → ⊥) → found ≤ 64 → 64 - found ≡ suc (63 - found)
some_left count found e differs few = elim (cases_lt found 64) [
  | inl lt ↦ omega arith
  | inr le ↦ absurd (differs (omega arith))
]

none_left : (count found : ℕ) → count ≡ found → count ≡ 64 → 64 - found ≡ 0
none_left count found e full = omega arith

pub refused : (section : DataSection) (all : Read (List ℕ)) (n count : ℕ) (parent : Option ℕ) (found : List ℕ) (refusal : Refusal)
    → count ≡ length found → (count ≡ 64 → ⊥) → length found ≤ 64 → parent ≡ Some n
    → all ≡ before_found (placements_to (64 - length found) section parent) found
    → Err refusal ≡ placement_read section n → all ≡ Err refusal
refused section all n count parent found refusal counted differs few named is fault =
    is
    ∙ (λ i. before_found (placements_to (some_left count (length found) counted differs few i) section (named i)) found)
    ∙ ap (λ r. before_found r found) (steps_in (63 - length found) section n)
    ∙ ap (λ r. before_found (next r (λ read. further section (63 - length found) read.0 read.1)) found) (sym fault)

one_left : (found now : List ℕ) (p : ℕ) → now ≡ found ++ p ∷ [] → 63 - length found ≡ 64 - length now
one_left found now p grown = let longer = ap length grown ∙ length-append found (p ∷ []) in omega (arith, longer)

pub goes_on : (section : DataSection) (all : Read (List ℕ)) (n count : ℕ) (parent : Option ℕ) (found now : List ℕ) (read : ℕ × Option ℕ)
    → count ≡ length found → (count ≡ 64 → ⊥) → length found ≤ 64 → parent ≡ Some n
    → all ≡ before_found (placements_to (64 - length found) section parent) found
    → Ok read ≡ placement_read section n → now ≡ found ++ read.0 ∷ []
    → all ≡ before_found (placements_to (64 - length now) section read.1) now
goes_on section all n count parent found now read counted differs few named is placed grown =
    is
    ∙ (λ i. before_found (placements_to (some_left count (length found) counted differs few i) section (named i)) found)
    ∙ ap (λ r. before_found r found) (steps_in (63 - length found) section n)
    ∙ ap (λ r. before_found (next r (λ read. further section (63 - length found) read.0 read.1)) found) (sym placed)
    ∙ one_more (placements_to (63 - length found) section read.1) read.0 found
    ∙ (λ i. before_found (placements_to (one_left found now read.0 grown i) section read.1) (sym grown i))

pub fewer : (count p : ℕ) (found now : List ℕ) → count ≡ length found → (count ≡ 64 → ⊥) → length found ≤ 64 → now ≡ found ++ p ∷ [] → length now ≤ 64
fewer count p found now counted differs few grown =
    let longer = ap length grown ∙ length-append found (p ∷ []) in
    let left = some_left count (length found) counted differs few in
    omega (arith, longer, left)

at_root : (left : ℕ) (section : DataSection) (found : List ℕ) → before_found (placements_to left section None) found ≡ Ok (reverse found)
unfolding placements_to
at_root zero section found = refl
at_root (suc left) section found = refl

pub all_found : (section : DataSection) (all : Read (List ℕ)) (left : ℕ) (parent : Option ℕ) (found : List ℕ) → parent ≡ None
    → all ≡ before_found (placements_to left section parent) found → all ≡ Ok (reverse found)
all_found section all left parent found none is = is ∙ ap (λ o. before_found (placements_to left section o) found) none ∙ at_root left section found

at_limit : (section : DataSection) (n : ℕ) (found : List ℕ) → before_found (placements_to 0 section (Some n)) found ≡ Err (TooDeep n)
unfolding placements_to
at_limit section n found = refl

pub too_deep : (section : DataSection) (all : Read (List ℕ)) (n count : ℕ) (parent : Option ℕ) (found : List ℕ) → count ≡ length found → count ≡ 64 → parent ≡ Some n
    → all ≡ before_found (placements_to (64 - length found) section parent) found → all ≡ Err (TooDeep n)
too_deep section all n count parent found counted full named is =
    is
    ∙ (λ i. before_found (placements_to (none_left count (length found) counted full i) section (named i)) found)
    ∙ at_limit section n found

-- placements in the other order are simple as well
pub turned_simple : (section : DataSection) (found turned now : List ℕ) → turned ≡ reverse found → now ≡ turned → All (IsSimple section) found → All (IsSimple section) now
turned_simple section found turned now is same simple =
    subst (All (IsSimple section)) (sym (same ∙ is)) (All-permutation (IsSimple section) found (reverse found) (IsPermutation-reverse found) simple)

pub one_more_simple : (section : DataSection) (p : ℕ) (found now : List ℕ) → now ≡ found ++ p ∷ [] → All (IsSimple section) found → IsSimple section p → All (IsSimple section) now
one_more_simple section p found now grown simple h =
    subst (All (IsSimple section)) (sym grown) (All-append (IsSimple section) found (p ∷ []) simple (All-cons (IsSimple section) p [] h (All-nil (IsSimple section))))

none_to : (section : DataSection) → placements_to most_links section None ≡ Ok []
unfolding placements_to
none_to section = refl

-- the chain of a product without a placement is empty
pub unplaced : (file : File) (product : ℕ) (parent : Option ℕ) (links : List Link) → Ok parent ≡ as_read (attr_ref file.section product 6) → parent ≡ None → links ≡ []
    → chain file product ≡ Ok links
unplaced file product parent links is none empty =
    ap (λ r. next (next r (placements_to most_links file.section)) (each (link file))) (sym is)
    ∙ ap (λ o. next (placements_to most_links file.section o) (each (link file))) none
    ∙ ap (λ r. next r (each (link file))) (none_to file.section)
    ∙ ap Ok (sym empty)
