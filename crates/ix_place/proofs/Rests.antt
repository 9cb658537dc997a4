-- Where two chains stop to share placements.
use Rattle.std.proofs.Common.{◌≡◌, ℕ, suc, ◌-◌, ◌<◌, ◌≤◌, List, [], ◌∷◌, length, take, drop, get_or, Bool, true, false, eqb→eq, T, refl, sym, ap, ◌∙◌, subst, arith, length-drop}
use Rattle.std.specs.Prelude.{nat_eq, if◌then◌else◌}
use Rattle.std.proofs.Math.Seq.{drop-cons}
use Rattle.std.proofs.lemmas.List.{drop_all, take_all}
use Rattle.spec_place.specs.Chains.{Link, rests}

-- the front that is shared ends at a place
pub record IsEnd (e o : List Link) (s : ℕ) : Type 0 where
  pub stops : rests (drop s e) (drop s o) ≡ (drop s e, drop s o)

differs : (x y : Link) (ls ms : List Link) → (x.0 ≡ y.0 → ⊥) → rests (x ∷ ls) (y ∷ ms) ≡ (x ∷ ls, y ∷ ms)
differs x y ls ms h = by (nat_eq x.0 y.0) refl
  where
    by : (b : Bool) → nat_eq x.0 y.0 ≡ b → (if b then rests ls ms else (x ∷ ls, y ∷ ms)) ≡ (x ∷ ls, y ∷ ms)
    by true e = absurd (h (eqb→eq x.0 y.0 (subst T (sym e) tt)))
    by false e = refl

pub at_fork : (e o : List Link) (s : ℕ) (x y : Link) → s < length e → s < length o → ((get_or e s x).0 ≡ (get_or o s y).0 → ⊥) → IsEnd e o s
at_fork e o s x y p q h = record {
  stops = rw (drop-cons e s x p, drop-cons o s y q) (differs (get_or e s x) (get_or o s y) (drop (suc s) e) (drop (suc s) o) h);
}

none_second : (ls : List Link) → rests ls [] ≡ (ls, [])
none_second [] = refl
none_second (x ∷ ls) = refl

none_first : (ms : List Link) → rests [] ms ≡ ([], ms)
none_first ms = refl

pub at_first_end : (e o : List Link) (s : ℕ) → length e ≤ s → IsEnd e o s
at_first_end e o s h = record { stops = rw (drop_all s e h) (none_first (drop s o)) }

pub at_second_end : (e o : List Link) (s : ℕ) → length o ≤ s → IsEnd e o s
at_second_end e o s h = record { stops = rw (drop_all s o h) (none_second (drop s e)) }

whole : (ls : List Link) (s : ℕ) → take (length ls - s) (drop s ls) ≡ drop s ls
whole ls s = take_all (length ls - s) (drop s ls) (omega (arith, length-drop s ls))

-- what is left from there on are the rests
pub first_rest : (e o : List Link) (s : ℕ) → IsEnd e o s → rests (drop s e) (drop s o) ≡ rests e o → take (length e - s) (drop s e) ≡ (rests e o).0
first_rest e o s h same = whole e s ∙ ap (λ p. p.0) (sym h.stops ∙ same)

pub second_rest : (e o : List Link) (s : ℕ) → IsEnd e o s → rests (drop s e) (drop s o) ≡ rests e o → take (length o - s) (drop s o) ≡ (rests e o).1
second_rest e o s h same = whole o s ∙ ap (λ p. p.1) (sym h.stops ∙ same)
