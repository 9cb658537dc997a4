-- Facts that run along three lists.
use Rattle.std.proofs.Common.{◌≡◌, List, [], ◌∷◌, ◌++◌, reverse, refl, sym, subst}
use Rattle.spec_page.specs.Faces.{rotated}
use Rattle.edge_cut.proofs.Reversed.{reverse-cons, rotated-reverse-rotated}

abbrev pub Rows : {X Y : Type 0} → (X → Y → Y → Type 0) → List X → List Y → List Y → Type 0
Rows R [] [] [] = Unit {0}
Rows R (m ∷ ms) (u ∷ us) (v ∷ vs) = R m u v × Rows R ms us vs
Rows R _ _ _ = ⊥

pub rows_weaker : {X Y : Type 0} (R Q : X → Y → Y → Type 0) → ((m : X) (u v : Y) → R m u v → Q m u v) → (ms : List X) (us vs : List Y) → Rows R ms us vs → Rows Q ms us vs
rows_weaker R Q h [] [] [] r = tt
rows_weaker R Q h (m ∷ ms) (u ∷ us) (v ∷ vs) r = (h m u v r.0, rows_weaker R Q h ms us vs r.1)
rows_weaker R Q h _ _ _ r = absurd r

pub rows_swapped : {X Y : Type 0} (R Q : X → Y → Y → Type 0) → ((m : X) (u v : Y) → R m u v → Q m v u) → (ms : List X) (us vs : List Y) → Rows R ms us vs → Rows Q ms vs us
rows_swapped R Q h [] [] [] r = tt
rows_swapped R Q h (m ∷ ms) (u ∷ us) (v ∷ vs) r = (h m u v r.0, rows_swapped R Q h ms us vs r.1)
rows_swapped R Q h _ _ _ r = absurd r

pub rows_append : {X Y : Type 0} (R : X → Y → Y → Type 0) (ms ns : List X) (us ss vs ts : List Y) → Rows R ms us vs → Rows R ns ss ts → Rows R (ms ++ ns) (us ++ ss) (vs ++ ts)
rows_append R [] ns [] ss [] ts r q = q
rows_append R (m ∷ ms) ns (u ∷ us) ss (v ∷ vs) ts r q = (r.0, rows_append R ms ns us ss vs ts r.1 q)
rows_append R _ ns _ ss _ ts r q = absurd r

pub rows_same : {X Y : Type 0} (R : X → Y → Y → Type 0) (ms ns : List X) (us ss vs ts : List Y) → ms ≡ ns → us ≡ ss → vs ≡ ts → Rows R ms us vs → Rows R ns ss ts
rows_same R ms ns us ss vs ts em eu ev r = subst (λ xs. Rows R xs ss ts) em (subst (λ ys. Rows R ms ys ts) eu (subst (λ zs. Rows R ms us zs) ev r))

rows_rotated : {X Y : Type 0} (R : X → Y → Y → Type 0) (ms : List X) (us vs : List Y) → Rows R ms us vs → Rows R (rotated ms) (rotated us) (rotated vs)
rows_rotated R [] [] [] r = tt
rows_rotated R (m ∷ ms) (u ∷ us) (v ∷ vs) r = rows_append R ms (m ∷ []) us (u ∷ []) vs (v ∷ []) r.1 (r.0, tt)
rows_rotated R _ _ _ r = absurd r

rows_reverse : {X Y : Type 0} (R : X → Y → Y → Type 0) (ms : List X) (us vs : List Y) → Rows R ms us vs → Rows R (reverse ms) (reverse us) (reverse vs)
rows_reverse R [] [] [] r = tt
rows_reverse R (m ∷ ms) (u ∷ us) (v ∷ vs) r =
    rows_same R (reverse ms ++ m ∷ []) (reverse (m ∷ ms)) (reverse us ++ u ∷ []) (reverse (u ∷ us)) (reverse vs ++ v ∷ []) (reverse (v ∷ vs))
    (sym (reverse-cons m ms)) (sym (reverse-cons u us)) (sym (reverse-cons v vs))
    (rows_append R (reverse ms) (m ∷ []) (reverse us) (u ∷ []) (reverse vs) (v ∷ []) (rows_reverse R ms us vs r.1) (r.0, tt))
rows_reverse R _ _ _ r = absurd r

-- a round of edges from each point to the next, gone round the other way
pub rows_turned : {X Y : Type 0} (R Q : X → Y → Y → Type 0) → ((m : X) (u v : Y) → R m u v → Q m v u) → (ms : List X) (us : List Y)
    → Rows R ms us (rotated us) → Rows Q (rotated (reverse ms)) (reverse us) (rotated (reverse us))
rows_turned R Q h ms us r =
    rows_same Q (rotated (reverse ms)) (rotated (reverse ms)) (rotated (reverse (rotated us))) (reverse us) (rotated (reverse us)) (rotated (reverse us))
    refl (rotated-reverse-rotated us) refl
    (rows_rotated Q (reverse ms) (reverse (rotated us)) (reverse us) (rows_reverse Q ms (rotated us) us (rows_swapped R Q h ms us (rotated us) r)))
