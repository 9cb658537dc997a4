-- Reads whose refusals are within the limits of pages.
use Rattle.std.proofs.Common.{◌≡◌, ℕ, Bool, true, false, if◌then◌else◌, ◌<◌, ◌^◌, List, [], ◌∷◌, length, Ok, Err, IfOk, IfErr, refl, nat_le, IsTrue, arith}
use Rattle.std.proofs.lemmas.Bool.{leb-true}
use Rattle.spec_refusal.specs.declared.Refusal.{Refusal}
use Rattle.spec_refusal.specs.Reads.{Read, next, only_if}
use Rattle.spec_check.specs.Limits.{IsShort, IsRefusalWithin}
use Rattle.spec_entity.specs.Reads.{each}

-- what is read has a property, or the refusal is within the limits
pub record IsKept {T : Type 0} (P : T → Type 0) (r : Read T) : Type 0 where
  pub value : IfOk r P
  pub refusal : IfErr r IsRefusalWithin

-- a position that is written in a definition
abbrev pub IsFew : ℕ → Type 0
IsFew n = IsTrue (nat_le n 100)

few_below : (n : ℕ) → IsFew n → n < 10 ^ 18
few_below n h = let le = leb-true n 100 h in omega (arith, le)

pub few_short : {n : ℕ} → IsFew n → IsShort n
few_short {n} h = few_below n h

pub read : {T : Type 0} {P : T → Type 0} {x : T} → P x → IsKept P (Ok x)
read h = record { value = h; refusal = tt }

pub refused : {T : Type 0} {P : T → Type 0} {why : Refusal} → IsRefusalWithin why → IsKept P (Err why)
refused h = record { value = tt; refusal = h }

pub weaker : {T : Type 0} {P Q : T → Type 0} {r : Read T} → IsKept P r → ((x : T) → P x → Q x) → IsKept Q r
weaker {r = Ok x} h k = read (k x h.value)
weaker {r = Err why} h k = refused h.refusal

-- first this, and then what follows from it
pub onward : {T U : Type 0} {P : T → Type 0} {Q : U → Type 0} {r : Read T} {go_on : T → Read U} → IsKept P r → ((x : T) → P x → IsKept Q (go_on x)) → IsKept Q (next r go_on)
onward {r = Ok x} h k = k x h.value
onward {r = Err why} h k = refused h.refusal

pub tested_so : {T : Type 0} {P : T → Type 0} (b : Bool) (why : Refusal) {r : Read T} → IsRefusalWithin why → (b ≡ true → IsKept P r) → IsKept P (only_if b why r)
tested_so true why h k = k refl
tested_so false why h k = refused h

pub tested : {T : Type 0} {P : T → Type 0} (b : Bool) (why : Refusal) {r : Read T} → IsRefusalWithin why → IsKept P r → IsKept P (only_if b why r)
tested b why h k = tested_so b why h (λ _. k)

pub either : {T : Type 0} {P : T → Type 0} (b : Bool) {r s : Read T} → IsKept P r → IsKept P s → IsKept P (if b then r else s)
either true h k = h
either false h k = k

-- what holds of each element
abbrev pub Each : {X : Type 0} → (X → Type 0) → List X → Type 0
Each P [] = Unit {0}
Each P (x ∷ xs) = P x × Each P xs

-- what is read of each element, and so many
pub record AreRead {T : Type 0} (P : T → Type 0) (count : ℕ) (ys : List T) : Type 0 where
  pub each : Each P ys
  pub many : length ys ≡ count

pub each_read : {X T : Type 0} {G : X → Type 0} {P : T → Type 0} {go_on : X → Read T} → ((x : X) → G x → IsKept P (go_on x)) → (xs : List X) → Each G xs
    → IsKept (AreRead P (length xs)) (each go_on xs)
each_read h [] g = read (record { each = tt; many = refl })
each_read h (x ∷ xs) g =
    onward (h x g.0) (λ y p. onward (each_read h xs g.1) (λ ys q. read (record { each = (p, q.each); many = omega (arith, q.many) })))
