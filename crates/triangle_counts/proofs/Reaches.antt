-- Counts that grow while an element is read.
use Rattle.std.proofs.Common.{◌≡◌, ℕ, ◌+◌, ◌≤◌, Bool, true, false, if◌then◌else◌, List, [], ◌∷◌, sum_by, Result, Ok, Err, IfOk, nat_le, refl, sym, ◌∙◌, arith}
use Rattle.std.proofs.lemmas.Bool.{leb-true}
use Rattle.std.proofs.lemmas.List.Sums.{sum_by-cons}
use Rattle.std.proofs.lemmas.Result.{IfOk-at_ok}
use Rattle.spec_step.specs.declared.tree.Param.{Param}
use Rattle.spec_refusal.specs.declared.Refusal.{Refusal}
use Rattle.spec_refusal.specs.declared.Refusal.TheVariants.{ElementTooLarge}
use Rattle.spec_refusal.specs.Reads.{Read, next, only_if}
use Rattle.spec_geometry.specs.Profiles.{count_with, Counted}
use Rattle.spec_geometry.specs.Breps.{each_counted}

-- what holds of all that can follow holds of what is read
pub keeps : {T U : Type 0} (P : U → Type 0) (r : Read T) (go_on : T → Read U) → ((x : T) → r ≡ Ok x → IfOk (go_on x) P) → IfOk (next r go_on) P
keeps P (Ok x) go_on holds = holds x refl
keeps P (Err refusal) go_on holds = tt

pub passes : {T : Type 0} (P : T → Type 0) (b : Bool) (refusal : Refusal) (r : Read T) → (b ≡ true → IfOk r P) → IfOk (only_if b refusal r) P
passes P true refusal r holds = holds refl
passes P false refusal r holds = tt

pub either : {T : Type 0} (P : T → Type 0) (b : Bool) (r s : Read T) → IfOk r P → IfOk s P → IfOk (if b then r else s) P
either P true r s h k = h
either P false r s h k = k

-- the count has grown by so many, and not past its limit
pub record Reaches (count more reached : ℕ) : Type 0 where
  pub sum : reached ≡ count + more
  pub few : count ≤ 4096 → reached ≤ 4096

-- what was read has a size, by which the count has grown
abbrev pub Adds : {T : Type 0} → (T → ℕ) → ℕ → T × ℕ → Type 0
Adds size count read = Reaches count (size read.0) read.1

pub no_more : (count : ℕ) → Reaches count 0 count
no_more count = record { sum = omega arith; few = λ few. few }

pub then_more : (count first between second last : ℕ) → Reaches count first between → Reaches between second last → Reaches count (first + second) last
then_more count first between second last h k = record { sum = omega (arith, h.sum, k.sum); few = λ few. k.few (h.few few) }

pub as_many : (count more other reached : ℕ) → more ≡ other → Reaches count more reached → Reaches count other reached
as_many count more other reached e h = record { sum = omega (arith, e, h.sum); few = h.few }

pub count_reaches : (count more : ℕ) → IfOk (count_with count more) (Reaches count more)
count_reaches count more =
    passes (Reaches count more) (nat_le (count + more) 4096) (ElementTooLarge (count + more)) (Ok (count + more))
    (λ e. record { sum = refl; few = λ _. leb-true (count + more) 4096 e })

-- a list of one more
pub one_and_more : {T : Type 0} (size : T → ℕ) (count : ℕ) (one : T × ℕ) (more : List T × ℕ) → Adds size count one → Adds (sum_by size) one.1 more → Adds (sum_by size) count (one.0 ∷ more.0, more.1)
one_and_more size count one more h k =
    as_many count (size one.0 + sum_by size more.0) (sum_by size (one.0 ∷ more.0)) more.1 (sym (sum_by-cons size one.0 more.0))
    (then_more count (size one.0) one.1 (sum_by size more.0) more.1 h k)

pub each_adds : {T : Type 0} (size : T → ℕ) (read : Param → ℕ → Counted T) → ((p : Param) (count : ℕ) → IfOk (read p count) (Adds size count))
    → (ps : List Param) (count : ℕ) → IfOk (each_counted read ps count) (Adds (sum_by size) count)
each_adds size read adds [] count = no_more count
each_adds {T} size read adds (p ∷ ps) count =
    let made : T × ℕ → List T × ℕ → Counted (List T) = λ one more. Ok (one.0 ∷ more.0, more.1) in
    let later : T × ℕ → Counted (List T) = λ one. next (each_counted read ps one.1) (made one) in
    keeps (Adds (sum_by size) count) (read p count) later (λ one e.
    keeps (Adds (sum_by size) count) (each_counted read ps one.1) (made one) (λ more d.
    one_and_more size count one more (IfOk-at_ok (Adds size count) e (adds p count)) (IfOk-at_ok (Adds (sum_by size) one.1) d (each_adds size read adds ps one.1))))
