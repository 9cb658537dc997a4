-- Each line of a page has one line feed, its last.
use Rattle.std.proofs.Common.{◌≡◌, ◌≢◌, ℕ, zero, suc, ◌+◌, ◌/◌, ◌%◌, ◌&&◌, inl, inr, int_lt, Bool, true, false, cond, eqb, nat_lt, Option, Some, None, ℤ, pos, negsuc, List, [], ◌∷◌, ◌++◌, refl, sym, ap, ◌∙◌, append_assoc, arith, codes}
use Rattle.std.specs.List.{flat_map, list_all}
use Rattle.std.specs.Fmt.{decimal, signed_decimal, digits, digits_onto, digit_glyph}
use Rattle.std.specs.Int.RustNames.{unsigned_abs}
use Rattle.std.proofs.lemmas.Bool.Decides.{eqb_tells}
use Rattle.std.proofs.lemmas.List.Elements.{All-cons, All-nil, All-append, All-head, All-tail}
use Rattle.spec_check.specs.Grammar.{IsLine}
use Rattle.spec_space.specs.declared.Vector.{Vector}
use Rattle.spec_space.specs.declared.Point.{Point}
use Rattle.spec_space.specs.declared.Plane.{Plane}
use Rattle.spec_place.specs.declared.transform.Transform.{Transform}
use Rattle.spec_page.specs.Lines.{spaced, spaced_three, spaced_vector, six_digits, size_in_metres, metres, spaced_metres, number_line, plane_line, frame_line, exact_line, printed_line, volume_line}
use Rattle.spec_page.specs.Page.{refused_line}
use Rattle.spec_page.specs.Refusals.{refusal_text, named_at, spaced_number, further, spaced_corner}
use Rattle.spec_refusal.specs.declared.Refusal.{Refusal}
use Rattle.spec_refusal.specs.declared.Refusal.TheVariants.{Unsupported, Curved, BadAttribute, Dangling, NumberTooLarge, BadDirection, ScaleOutOfRange, TooDeep, ElementTooLarge, CornerTooFar, OpenShell, PlaneTooLarge, Unbounded}
use Rattle.obj_lines.specs.PageLines.{PageLine, line_text}
use Rattle.obj_lines.specs.PageLines as page

cell : (c : ℕ) (cs : List ℕ) → c ≢ 10 → IsLine cs → IsLine (c ∷ cs)
cell c cs ne all = All-cons (λ k. k ≢ 10) c cs ne all

both : (a b : List ℕ) → IsLine a → IsLine b → IsLine (a ++ b)
both a b p q = All-append (λ k. k ≢ 10) a b p q

digit_over : (n : ℕ) → 48 + n ≢ 10
digit_over n e = omega arith

either_over : (b : Bool) (m n : ℕ) → m ≢ 10 → n ≢ 10 → cond b m n ≢ 10
either_over true m n p q = p
either_over false m n p q = q

letter_over : (n : ℕ) → 87 + n ≢ 10
letter_over n e = omega arith

either_line : (b : Bool) (x y : List ℕ) → IsLine x → IsLine y → IsLine (cond b x y)
either_line true x y p q = p
either_line false x y p q = q

digits_line : (k n : ℕ) (acc : List ℕ) → IsLine acc → IsLine (digits_onto k 10 false n acc)
digits_line zero n acc all = all
digits_line (suc k) n acc all =
    let d = n % 10 in
    let next = cell (digit_glyph false d) acc (either_over (nat_lt d 10) (48 + d) (87 + d) (digit_over d) (letter_over d)) all in
    either_line (eqb (n / 10) 0) (digit_glyph false d ∷ acc) (digits_onto k 10 false (n / 10) (digit_glyph false d ∷ acc)) next (digits_line k (n / 10) (digit_glyph false d ∷ acc) next)

line_decimal : (n : ℕ) → IsLine (decimal n)
unfolding digits
line_decimal n = digits_line 64 n [] (All-nil (λ k. k ≢ 10))

no_feed : (c : ℕ) (rest : Bool) → (cond (eqb c 10) false true && rest) ≡ true → (c ≢ 10) × (rest ≡ true)
no_feed c rest e = elim (eqb_tells c 10) [ inl w ↦ cc (ap (λ v. cond v false true && rest) w.0) | inr w ↦ (w.1, sym (ap (λ v. cond v false true && rest) w.0) ∙ e) ]

literal : (text : List ℕ) → list_all (λ c. cond (eqb c 10) false true) text ≡ true → IsLine text
literal [] e = All-nil (λ k. k ≢ 10)
literal (c ∷ cs) e =
    let parts = no_feed c (list_all (λ k. cond (eqb k 10) false true) cs) e in
    cell c cs parts.0 (literal cs parts.1)

space : (cs : List ℕ) → IsLine cs → IsLine (32 ∷ cs)
space cs all = cell 32 cs (λ e. omega arith) all

line_signed : (z : ℤ) → IsLine (signed_decimal z)
line_signed (pos n) = line_decimal n
line_signed (negsuc n) = cell 45 (decimal (suc n)) (λ e. omega arith) (line_decimal (suc n))

line_spaced : (z : ℤ) → IsLine (spaced z)
line_spaced z = space (signed_decimal z) (line_signed z)

line_three : (x y z : ℤ) → IsLine (spaced_three x y z)
line_three x y z = both (spaced x ++ spaced y) (spaced z) (both (spaced x) (spaced y) (line_spaced x) (line_spaced y)) (line_spaced z)

line_six : (n : ℕ) → IsLine (six_digits n)
line_six n =
    let fifth : List ℕ = (48 + n % 10) ∷ [] in
    let fourth = (48 + n / 10 % 10) ∷ fifth in
    let third = (48 + n / 100 % 10) ∷ fourth in
    let second = (48 + n / 1000 % 10) ∷ third in
    let first = (48 + n / 10000 % 10) ∷ second in
    let last_two = cell (48 + n / 10 % 10) fifth (digit_over (n / 10 % 10)) (cell (48 + n % 10) [] (digit_over (n % 10)) (All-nil (λ k. k ≢ 10))) in
    let last_four = cell (48 + n / 1000 % 10) third (digit_over (n / 1000 % 10)) (cell (48 + n / 100 % 10) fourth (digit_over (n / 100 % 10)) last_two) in
    cell (48 + n / 100000) first (digit_over (n / 100000)) (cell (48 + n / 10000 % 10) second (digit_over (n / 10000 % 10)) last_four)

line_size : (n : ℕ) → IsLine (size_in_metres n)
line_size n = both (decimal (n / 1000000)) (46 ∷ six_digits (n % 1000000)) (line_decimal (n / 1000000)) (cell 46 (six_digits (n % 1000000)) (λ e. omega arith) (line_six (n % 1000000)))

line_metres : (z : ℤ) → IsLine (spaced_metres z)
line_metres z =
    let n = unsigned_abs z in
    space (metres z) (either_line (int_lt z (pos 0)) (45 ∷ size_in_metres n) (size_in_metres n) (cell 45 (size_in_metres n) (λ e. omega arith) (line_size n)) (line_size n))

line_indices : (ns : List ℕ) → IsLine (flat_map (λ n. 32 ∷ decimal n) ns)
line_indices [] = All-nil (λ k. k ≢ 10)
line_indices (n ∷ ns) = both (32 ∷ decimal n) (flat_map (λ k. 32 ∷ decimal k) ns) (space (decimal n) (line_decimal n)) (line_indices ns)

line_named : (name : List ℕ) (at : ℕ) → IsLine name → IsLine (named_at name at)
line_named name at all = both (name ++ codes " #") (decimal at) (both name (codes " #") all (literal (codes " #") refl)) (line_decimal at)

line_number : (n : ℕ) → IsLine (spaced_number n)
line_number n = space (decimal n) (line_decimal n)

line_corner : (v : Vector) → IsLine (spaced_corner v)
line_corner v =
    let next : (z : ℤ) → IsLine (further z) = λ z. cell 44 (signed_decimal z) (λ e. omega arith) (line_signed z) in
    both (spaced v.x ++ further v.y) (further v.z) (both (spaced v.x) (further v.y) (line_spaced v.x) (next v.y)) (next v.z)

line_refusal : (why : Refusal) → IsLine (refusal_text why)
line_refusal (Unsupported at) = line_named (codes "E1 Unsupported") at (literal (codes "E1 Unsupported") refl)
line_refusal (Curved at) = line_named (codes "E2 Curved") at (literal (codes "E2 Curved") refl)
line_refusal (BadAttribute at position) = both (named_at (codes "E3 BadAttribute") at) (spaced_number position) (line_named (codes "E3 BadAttribute") at (literal (codes "E3 BadAttribute") refl)) (line_number position)
line_refusal (Dangling at number) = both (named_at (codes "E4 Dangling") at) (spaced_number number) (line_named (codes "E4 Dangling") at (literal (codes "E4 Dangling") refl)) (line_number number)
line_refusal (NumberTooLarge at) = line_named (codes "E5 NumberTooLarge") at (literal (codes "E5 NumberTooLarge") refl)
line_refusal (BadDirection at) = line_named (codes "E6 BadDirection") at (literal (codes "E6 BadDirection") refl)
line_refusal (ScaleOutOfRange at) = line_named (codes "E7 ScaleOutOfRange") at (literal (codes "E7 ScaleOutOfRange") refl)
line_refusal (TooDeep at) = line_named (codes "E8 TooDeep") at (literal (codes "E8 TooDeep") refl)
line_refusal (ElementTooLarge triangles) = both (codes "E9 ElementTooLarge") (spaced_number triangles) (literal (codes "E9 ElementTooLarge") refl) (line_number triangles)
line_refusal (CornerTooFar at) = line_named (codes "E10 CornerTooFar") at (literal (codes "E10 CornerTooFar") refl)
line_refusal (OpenShell at from to) =
    both (named_at (codes "E11 OpenShell") at ++ spaced_corner from) (spaced_corner to)
    (both (named_at (codes "E11 OpenShell") at) (spaced_corner from) (line_named (codes "E11 OpenShell") at (literal (codes "E11 OpenShell") refl)) (line_corner from)) (line_corner to)
line_refusal (PlaneTooLarge at) = line_named (codes "E12 PlaneTooLarge") at (literal (codes "E12 PlaneTooLarge") refl)
line_refusal (Unbounded at) = line_named (codes "E13 Unbounded") at (literal (codes "E13 Unbounded") refl)

-- a text with one line feed, its last
pub record IsFed (text : List ℕ) : Type 0 where
  pub body : List ℕ
  pub line : IsLine body
  pub fed : text ≡ body ++ 10 ∷ []

fed : (body : List ℕ) → IsLine body → IsFed (body ++ 10 ∷ [])
fed body all = record { body = body; line = all; fed = refl }

fed_number : (sign : List ℕ) (n : ℕ) → IsLine sign → IsFed (number_line sign n)
fed_number sign n all = fed (sign ++ decimal n) (both sign (decimal n) all (line_decimal n))

fed_plane : (sign : List ℕ) (h : Plane) → IsLine sign → IsFed (plane_line sign h)
fed_plane sign h all =
    fed (sign ++ spaced_three h.a h.b h.c ++ spaced h.d)
    (both (sign ++ spaced_three h.a h.b h.c) (spaced h.d) (both sign (spaced_three h.a h.b h.c) all (line_three h.a h.b h.c)) (line_spaced h.d))

fed_frame : (f : Transform) → IsFed (frame_line f)
fed_frame f =
    let row : (v : Vector) → IsLine (spaced_vector v) = λ v. line_three v.x v.y v.z in
    let x = both (codes "#frame") (spaced_vector f.x) (literal (codes "#frame") refl) (row f.x) in
    let y = both (codes "#frame" ++ spaced_vector f.x) (spaced_vector f.y) x (row f.y) in
    let z = both (codes "#frame" ++ spaced_vector f.x ++ spaced_vector f.y) (spaced_vector f.z) y (row f.z) in
    fed (codes "#frame" ++ spaced_vector f.x ++ spaced_vector f.y ++ spaced_vector f.z ++ spaced_vector f.off)
    (both (codes "#frame" ++ spaced_vector f.x ++ spaced_vector f.y ++ spaced_vector f.z) (spaced_vector f.off) z (row f.off))

fed_exact : (p : Point) → IsFed (exact_line p)
fed_exact p =
    fed (codes "#c" ++ spaced_three p.x p.y p.z ++ spaced p.w)
    (both (codes "#c" ++ spaced_three p.x p.y p.z) (spaced p.w) (both (codes "#c") (spaced_three p.x p.y p.z) (literal (codes "#c") refl) (line_three p.x p.y p.z)) (line_spaced p.w))

fed_printed : (v : Vector) → IsFed (printed_line v)
fed_printed v =
    let x = both (codes "v") (spaced_metres v.x) (literal (codes "v") refl) (line_metres v.x) in
    let y = both (codes "v" ++ spaced_metres v.x) (spaced_metres v.y) x (line_metres v.y) in
    fed (codes "v" ++ spaced_metres v.x ++ spaced_metres v.y ++ spaced_metres v.z) (both (codes "v" ++ spaced_metres v.x ++ spaced_metres v.y) (spaced_metres v.z) y (line_metres v.z))

fed_volume : (six : Option ℤ) → IsFed (volume_line six)
fed_volume None = record { body = codes "#vol6 none"; line = literal (codes "#vol6 none") refl; fed = refl }
fed_volume (Some six) = fed (codes "#vol6" ++ spaced six) (both (codes "#vol6") (spaced six) (literal (codes "#vol6") refl) (line_spaced six))

fed_refused : (n : ℕ) (why : Refusal) → IsFed (refused_line n why)
fed_refused n why =
    let front = codes "#refused " ++ decimal n in
    record {
      body = front ++ 32 ∷ refusal_text why;
      line = both front (32 ∷ refusal_text why) (both (codes "#refused ") (decimal n) (literal (codes "#refused ") refl) (line_decimal n)) (space (refusal_text why) (line_refusal why));
      fed = sym (append_assoc front (32 ∷ refusal_text why) (10 ∷ []));
    }

pub line_fed : (l : PageLine) → IsFed (line_text l)
line_fed page.Version = record { body = codes "# ifcexact 1"; line = literal (codes "# ifcexact 1") refl; fed = refl }
line_fed (page.Grid n) = fed_number (codes "# grid ") n (literal (codes "# grid ") refl)
line_fed (page.Element n) = fed_number (codes "o ") n (literal (codes "o ") refl)
line_fed (page.Frame f) = fed_frame f
line_fed (page.Exact p) = fed_exact p
line_fed (page.Printed v) = fed_printed v
line_fed (page.Face h) = fed_plane (codes "#p") h (literal (codes "#p") refl)
line_fed (page.Edge h) = fed_plane (codes "#e") h (literal (codes "#e") refl)
line_fed (page.Indices ns) = fed (codes "f" ++ flat_map (λ n. 32 ∷ decimal n) ns) (both (codes "f") (flat_map (λ n. 32 ∷ decimal n) ns) (literal (codes "f") refl) (line_indices ns))
line_fed (page.Volume six) = fed_volume six
line_fed (page.Skipped n) = fed_number (codes "#skipped ") n (literal (codes "#skipped ") refl)
line_fed (page.Refused n why) = fed_refused n why
line_fed page.End = record { body = codes "# end"; line = literal (codes "# end") refl; fed = refl }

-- texts are cut at their first line feed in one way
pub cut_same : (u v a b : List ℕ) → IsLine u → IsLine v → u ++ 10 ∷ a ≡ v ++ 10 ∷ b → (u ≡ v) × (a ≡ b)
cut_same [] [] a b p q e = (refl, cc)
cut_same [] (y ∷ ys) a b p q e = let same : y ≡ 10 = cc in absurd (All-head (λ k. k ≢ 10) y ys q same)
cut_same (x ∷ xs) [] a b p q e = let same : x ≡ 10 = cc in absurd (All-head (λ k. k ≢ 10) x xs p same)
cut_same (x ∷ xs) (y ∷ ys) a b p q e =
    let head : x ≡ y = cc in
    let tail : xs ++ 10 ∷ a ≡ ys ++ 10 ∷ b = cc in
    let rest = cut_same xs ys a b (All-tail (λ k. k ≢ 10) x xs p) (All-tail (λ k. k ≢ 10) y ys q) tail in
    (ap (λ k. k ∷ xs) head ∙ ap (λ l. y ∷ l) rest.0, rest.1)

-- a text with a line feed is no line
pub feed_within : (u a : List ℕ) → IsLine (u ++ 10 ∷ a) → ⊥
feed_within [] a all = All-head (λ k. k ≢ 10) 10 a all refl
feed_within (x ∷ xs) a all = feed_within xs a (All-tail (λ k. k ≢ 10) x (xs ++ 10 ∷ a) all)
