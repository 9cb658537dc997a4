-- A text has one first line that is not allowed.
use Rattle.std.proofs.Common.{◌≡◌, ◌≢◌, ◌⊎◌, inl, inr, ℕ, ◌+◌, ◌<◌, ◌≤◌, List, [], ◌∷◌, ◌++◌, length, All, refl, sym, ◌∙◌, ap, subst, arith}
use Rattle.std.proofs.lemmas.List.{append_assoc}
use Rattle.std.proofs.lemmas.List.Elements.{All-head, All-tail}
use Rattle.spec_page.specs.Items.{Item}
use Rattle.spec_run.specs.declared.PageFault.{PageFault}
use Rattle.spec_run.specs.declared.PageFault.TheVariants.{TooLarge, Line}
use Rattle.spec_run.specs.Inputs.{most_bytes}
use Rattle.spec_run.specs.Tasks.Checking.{IsPageInput, IsPageFaultOf, checking}
use Rattle.ix_convert.proofs.Found.{HasOneAnswer}
use Rattle.spec_check.specs.Grammar.{IsPageText, IsCutPage, BeginsPage, IsLine, lines_text, IsBadLine}

head_of : {X : Type 0} (x y : X) (xs ys : List X) → x ∷ xs ≡ y ∷ ys → x ≡ y
head_of x y xs ys e = cc

tail_of : {X : Type 0} (x y : X) (xs ys : List X) → x ∷ xs ≡ y ∷ ys → xs ≡ ys
tail_of x y xs ys e = cc

is_feed : (c : ℕ) (cs : List ℕ) → IsLine (c ∷ cs) → c ≢ 10
is_feed c cs h = All-head (λ c. c ≢ 10) c cs h

-- the first line of a text, and what follows it
one_front : (l m r s : List ℕ) → IsLine l → IsLine m → l ++ 10 ∷ r ≡ m ++ 10 ∷ s → r ≡ s
one_front [] [] r s h k e = tail_of 10 10 r s e
one_front [] (c ∷ m) r s h k e = absurd (is_feed c m k (sym (head_of 10 c r (m ++ 10 ∷ s) e)))
one_front (c ∷ l) [] r s h k e = absurd (is_feed c l h (head_of c 10 (l ++ 10 ∷ r) s e))
one_front (c ∷ l) (d ∷ m) r s h k e =
    one_front l m r s (All-tail (λ c. c ≢ 10) c l h) (All-tail (λ c. c ≢ 10) d m k) (tail_of c d (l ++ 10 ∷ r) (m ++ 10 ∷ s) e)

-- the lines of a text that begins with a line
first_line : (l : List ℕ) (ls : List (List ℕ)) (rest : List ℕ) → lines_text (l ∷ ls) ++ rest ≡ l ++ 10 ∷ (lines_text ls ++ rest)
first_line l ls rest = append_assoc (l ++ 10 ∷ []) (lines_text ls) rest ∙ append_assoc l (10 ∷ []) (lines_text ls ++ rest)

-- of two cuts of a text behind lines the one with fewer lines is followed by a line, up to which the other begins
record Goes (before before' : List (List ℕ)) (rest : List ℕ) : Type 0 where
  line : List ℕ
  more : List ℕ
  further : List ℕ
  is_line : IsLine line
  next : rest ≡ line ++ 10 ∷ more
  begins : lines_text before' ≡ lines_text before ++ line ++ 10 ∷ [] ++ further

absurd_less : {X : Type 0} (x : X) (xs : List X) → length (x ∷ xs) < 0 → ⊥
absurd_less x xs h = omega arith

less : {X : Type 0} (x y : X) (xs ys : List X) → length (x ∷ xs) < length (y ∷ ys) → length xs < length ys
less x y xs ys h = omega arith

none_less : (n : ℕ) → n < 0 → ⊥
none_less n h = omega arith

grown : (b x f line ls : List ℕ) → ls ≡ b ++ line ++ 10 ∷ [] ++ f → x ++ ls ≡ (x ++ b) ++ line ++ 10 ∷ [] ++ f
grown b x f line ls e =
    ap (λ (t : List ℕ). x ++ t) e ∙ sym (append_assoc x (b ++ line ++ 10 ∷ []) f)
    ∙ ap (λ (t : List ℕ). t ++ f) (sym (append_assoc x (b ++ line) (10 ∷ [])))
    ∙ ap (λ (t : List ℕ). t ++ 10 ∷ [] ++ f) (sym (append_assoc x b line))

goes : (before before' : List (List ℕ)) (rest rest' : List ℕ) → All IsLine before → All IsLine before'
    → lines_text before ++ rest ≡ lines_text before' ++ rest' → length before < length before' → Goes before before' rest
goes before [] rest rest' h k e less_lines = absurd (none_less (length before) less_lines)
goes [] (l ∷ ls) rest rest' h k e less_lines = record {
  line = l;
  more = lines_text ls ++ rest';
  further = lines_text ls;
  is_line = All-head IsLine l ls k;
  next = e ∙ first_line l ls rest';
  begins = refl;
}
goes (m ∷ ms) (l ∷ ls) rest rest' h k e less_lines =
    let found = goes ms ls rest rest' (All-tail IsLine m ms h) (All-tail IsLine l ls k)
    (one_front m l (lines_text ms ++ rest) (lines_text ls ++ rest') (All-head IsLine m ms h) (All-head IsLine l ls k)
    (sym (first_line m ms rest) ∙ e ∙ first_line l ls rest')) (less m l ms ls less_lines) in
    let same : m ≡ l = same_line m l (lines_text ms ++ rest) (lines_text ls ++ rest') (All-head IsLine m ms h) (All-head IsLine l ls k)
    (sym (first_line m ms rest) ∙ e ∙ first_line l ls rest') in
    record {
      line = found.line;
      more = found.more;
      further = found.further;
      is_line = found.is_line;
      next = found.next;
      begins = ap (λ (k : List ℕ). (k ++ 10 ∷ []) ++ lines_text ls) (sym same) ∙ grown (lines_text ms) (m ++ 10 ∷ []) found.further found.line (lines_text ls) found.begins;
    }
  where
    same_line : (l m r s : List ℕ) → IsLine l → IsLine m → l ++ 10 ∷ r ≡ m ++ 10 ∷ s → l ≡ m
    same_line [] [] r s h k e = refl
    same_line [] (c ∷ m) r s h k e = absurd (is_feed c m k (sym (head_of 10 c r (m ++ 10 ∷ s) e)))
    same_line (c ∷ l) [] r s h k e = absurd (is_feed c l h (head_of c 10 (l ++ 10 ∷ r) s e))
    same_line (c ∷ l) (d ∷ m) r s h k e =
        let heads : c ≡ d = head_of c d (l ++ 10 ∷ r) (m ++ 10 ∷ s) e in
        let tails : l ≡ m = same_line l m r s (All-tail (λ c. c ≢ 10) c l h) (All-tail (λ c. c ≢ 10) d m k) (tail_of c d (l ++ 10 ∷ r) (m ++ 10 ∷ s) e) in cc

-- a front of what begins a page begins one
front_begins : (f g : List ℕ) → BeginsPage (f ++ g) → BeginsPage f
front_begins f g (rest, inl (grid, items, h)) = (g ++ rest, inl (grid, items, subst (λ t. IsPageText t grid items) (append_assoc f g rest) h))
front_begins f g (rest, inr h) = (g ++ rest, inr (subst IsCutPage (append_assoc f g rest) h))

-- a later cut refutes an earlier one
earlier : (text : List ℕ) (m n : ℕ) (h : IsBadLine text m) (k : IsBadLine text n) → length h.before < length k.before → ⊥
earlier text m n h k less_lines =
    let found = goes h.before k.before h.rest k.rest h.lines k.lines (sym h.cut ∙ k.cut) less_lines in
    h.stops found.line found.more found.next found.is_line
    (front_begins (lines_text h.before ++ found.line ++ 10 ∷ []) found.further (subst BeginsPage found.begins k.begins))

ordered : (a b : ℕ) → (a < b → ⊥) → (b < a → ⊥) → a ≡ b
ordered a b h k = omega arith

one_bad_line : (text : List ℕ) (m n : ℕ) → IsBadLine text m → IsBadLine text n → m ≡ n
one_bad_line text m n h k =
    let same : length h.before ≡ length k.before = ordered (length h.before) (length k.before) (earlier text m n h k) (earlier text n m k h) in
    h.place ∙ ap (λ (l : ℕ). l + 1) same ∙ sym k.place

-- A text is a page, or refused for one reason.

too_long : (n : ℕ) → n ≤ most_bytes → most_bytes < n → ⊥
too_long n p q = omega arith

no_page_fault : (given : List ℕ) (grid : ℕ) (items : List Item) (why : PageFault) → IsPageInput given grid items → IsPageFaultOf given why → ⊥
no_page_fault given grid items TooLarge input h = too_long (length given) input.small h
no_page_fault given grid items (Line n) input h = h.line.no_page grid items input.page

one_page_fault : (given : List ℕ) (why other : PageFault) → IsPageFaultOf given why → IsPageFaultOf given other → why ≡ other
one_page_fault given TooLarge TooLarge h k = refl
one_page_fault given TooLarge (Line n) h k = absurd (too_long (length given) k.small h)
one_page_fault given (Line m) TooLarge h k = absurd (too_long (length given) h.small k)
one_page_fault given (Line m) (Line n) h k = ap Line (one_bad_line given m n h.line k.line)

-- what checks a page has one answer
pub checking_one : HasOneAnswer checking
checking_one = record {
  answered = λ given page verdict why h fault. no_page_fault given h.grid h.items why h.input fault;
  taken = λ given why input fault. no_page_fault given input.0 input.1 why input.2 fault;
  one = one_page_fault;
}
