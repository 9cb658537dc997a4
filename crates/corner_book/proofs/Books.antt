-- What an addition leaves of a book of corners.
use Rattle.std.proofs.Common.{◌≡◌, ℕ, zero, suc, ◌<◌, Bool, true, false, List, [], ◌∷◌, ◌++◌, Option, None, Some, is_some, Result, Ok, Err, IfOk, OnOk, OnErr, length, slice_get, get_or, Contains, refl, sym, ap, subst, ◌∙◌, arith, if◌then◌else◌}
use Rattle.std.specs.Map.{keys_of, values_of, lookup}
use Rattle.std.specs.List.{position}
use Rattle.std.proofs.lemmas.List.Quantifiers.{position-Some}
use Rattle.std.specs.Option.{option_map}
use Rattle.std.specs.declared.alloc.AllocError.{AllocError}
use Rattle.std.proofs.lemmas.Option.{slice_get-get_or, slice_get-map}
use Rattle.indexmap.specs.IndexMap.{insert_entry}
use Rattle.plane_core.specs.declared.numbers.Plane.{Plane}
use Rattle.plane_core.specs.declared.numbers.Corner.{Corner}
use Rattle.plane_core.specs.declared.book.PlaneId.{PlaneId}
use Rattle.corner_book.specs.Corners.{MeetIn, AreMeetings}
use Rattle.corner_book.proofs.Same.{corner_eq, same_from_eq, eq_itself}

-- ---- look-up
pub found_at : (cs : List Corner) (c : Corner) (i : ℕ) → Some i ≡ position (corner_eq c) cs → slice_get cs i ≡ Some c
found_at cs c i e =
    let s = position-Some (corner_eq c) cs i c (sym e) in
    slice_get-get_or cs i c s.0 ∙ ap Some (sym (same_from_eq c (get_or cs i c) s.1))

pub found_there : (cs : List Corner) (c : Corner) (i : ℕ) → Some i ≡ position (corner_eq c) cs → Contains cs c
found_there cs c i e =
    let s = position-Some (corner_eq c) cs i c (sym e) in
    (i, s.0, sym (same_from_eq c (get_or cs i c) s.1))

differs : (c d : Corner) → (c ≡ d → ⊥) → corner_eq c d ≡ false
differs c d other = told (corner_eq c d) refl
  where
    told : (b : Bool) → corner_eq c d ≡ b → b ≡ false
    told true e = absurd (other (same_from_eq c d e))
    told false e = refl

passed_over : (b : Bool) (v : List PlaneId) (r : Option (List PlaneId)) → is_some (if b then Some v else r) ≡ false → (b ≡ false) × (is_some r ≡ false)
passed_over true v r e = cc
passed_over false v r e = (refl, e)

-- a corner that is not found is not there
pub not_found : (es : List (Corner × List PlaneId)) (c : Corner) → is_some (lookup (corner_eq c) es) ≡ false → (k : ℕ) → k < length (keys_of es) → get_or (keys_of es) k c ≡ c → ⊥
not_found [] c e k below same = absurd (omega (arith, below))
not_found (x ∷ es) c e zero below same =
    let s = passed_over (corner_eq c x.0) x.1 (lookup (corner_eq c) es) e in
    let t : corner_eq c x.0 ≡ true = subst (λ d. corner_eq c d ≡ true) (sym same) (eq_itself c) in
    cc
not_found (x ∷ es) c e (suc k) below same =
    let s = passed_over (corner_eq c x.0) x.1 (lookup (corner_eq c) es) e in
    not_found es c s.1 k (omega (arith, below)) same

-- a corner that is not there goes to the end
pub goes_last : (es : List (Corner × List PlaneId)) (c : Corner) (ids : List PlaneId) → (Contains (keys_of es) c → ⊥) → insert_entry corner_eq es c ids ≡ es ++ (c, ids) ∷ []
goes_last [] c ids h = refl
goes_last (x ∷ es) c ids h =
    ap (λ b. if b then (x.0, ids) ∷ es else x ∷ insert_entry corner_eq es c ids) (differs c x.0 (λ same. h (0, omega arith, sym same)))
    ∙ ap (λ (l : List (Corner × List PlaneId)). x ∷ l) (goes_last es c ids (λ there. h (suc there.0, omega (arith, there.1), there.2)))

pub length-keys : (es : List (Corner × List PlaneId)) → length (keys_of es) ≡ length es
length-keys [] = refl
length-keys (x ∷ es) = ap suc (length-keys es)

pub no_keys : (es : List (Corner × List PlaneId)) → length es ≡ 0 → keys_of es ≡ []
no_keys [] e = refl
no_keys (x ∷ es) e = absurd (omega (arith, e))

pub last_place : (cs : List Corner) (c : Corner) → slice_get (cs ++ c ∷ []) (length cs) ≡ Some c
last_place [] c = refl
last_place (d ∷ cs) c = last_place cs c

pub at_key : (es : List (Corner × List PlaneId)) (k : ℕ) (c : Corner) (ids : List PlaneId) → Some (c, ids) ≡ slice_get es k → slice_get (keys_of es) k ≡ Some c
at_key es k c ids e = slice_get-map (λ x. x.0) es k ∙ ap (option_map (λ x. x.0)) (sym e)

pub at_none : (es : List (Corner × List PlaneId)) (k : ℕ) → None ≡ slice_get es k → slice_get (keys_of es) k ≡ None
at_none es k e = slice_get-map (λ x. x.0) es k ∙ ap (option_map (λ x. x.0)) (sym e)

pub keys-last : (es : List (Corner × List PlaneId)) (c : Corner) (ids : List PlaneId) → keys_of (es ++ (c, ids) ∷ []) ≡ keys_of es ++ c ∷ []
keys-last [] c ids = refl
keys-last (x ∷ es) c ids = ap (λ (cs : List Corner). x.0 ∷ cs) (keys-last es c ids)

pub values-last : (es : List (Corner × List PlaneId)) (c : Corner) (ids : List PlaneId) → values_of (es ++ (c, ids) ∷ []) ≡ values_of es ++ ids ∷ []
values-last [] c ids = refl
values-last (x ∷ es) c ids = ap (λ (l : List (List PlaneId)). x.1 ∷ l) (values-last es c ids)

-- ---- the corners and the planes that meet in them
pub meetings-append : (planes : List Plane) (cs : List Corner) (ids : List (List PlaneId)) (c : Corner) (new : List PlaneId) → AreMeetings planes cs ids → MeetIn planes new c → AreMeetings planes (cs ++ c ∷ []) (ids ++ new ∷ [])
meetings-append planes [] [] c new met m = (m, tt)
meetings-append planes (d ∷ cs) (i ∷ ids) c new met m = (met.0, meetings-append planes cs ids c new met.1 m)
meetings-append planes _ _ c new met m = absurd met

pub meetings_next : (r : Result ℕ AllocError) (planes : List Plane) (old new : List (Corner × List PlaneId)) (c : Corner) (ids : List PlaneId)
    → OnOk r (keys_of new ≡ keys_of old ++ c ∷ []) → OnOk r (values_of new ≡ values_of old ++ ids ∷ []) → OnErr r (new ≡ old)
    → AreMeetings planes (keys_of old) (values_of old) → MeetIn planes ids c → AreMeetings planes (keys_of new) (values_of new)
meetings_next (Ok place) planes old new c ids keys values same met m =
    let next = meetings-append planes (keys_of old) (values_of old) c ids met m in
    subst (λ cs. AreMeetings planes cs (values_of new)) (sym keys) (subst (AreMeetings planes (keys_of old ++ c ∷ [])) (sym values) next)
meetings_next (Err e) planes old new c ids keys values same met m = subst (λ es. AreMeetings planes (keys_of es) (values_of es)) (sym same) met

-- ---- answers
pub on_any : {T E P : Type 0} → (r : Result T E) → P → OnOk r P
on_any (Ok x) p = p
on_any (Err e) p = tt

pub if_ok : {T E : Type 0} {P Q : T → Type 0} → (r : Result T E) → IfOk r P → ((x : T) → P x → Q x) → IfOk r Q
if_ok (Ok x) p next = next x p
if_ok (Err e) p next = tt
