-- The tokens of templates close each parenthesis that they open, and at most three stand open.
use Rattle.std.proofs.Common.{◌≡◌, ℕ, ◌+◌, ◌-◌, ◌≤◌, List, [], ◌∷◌, ◌++◌, sym, ◌∙◌, ap, subst, arith, codes, cond, length, append_assoc, append-nil}
use Rattle.std.specs.List.{flat_map}
use Rattle.spec_step.specs.Lexemes.{Lexeme}
use Rattle.spec_step.specs.Files.{IsShallow, open_after, open_behind, is_mark_of}
use Rattle.step_print.proofs.Capitals.{printed_mark}
use Rattle.spec_step.specs.Canonical.{printed_bytes}
use Rattle.step_print.proofs.Placed.{placed, made}
use Rattle.file_templates.proofs.Templates as template
use Rattle.file_templates.proofs.Templates.{Atom, Argument, Call, Line, mark_token, atom_tokens, further_tokens, member_tokens, list_tokens, argument_tokens, call_tokens, head_tokens, line_tokens, start_tokens, data_tokens, end_tokens, file_tokens, behind}

-- from n open parentheses on, never more than 32 stand open
abbrev AreLow : ℕ → List Lexeme → Type 0
AreLow n [] = n ≤ 32
AreLow n (l ∷ ls) = (n ≤ 32) × AreLow (open_after n l) ls

-- these close what they open, and at most so many stand open among them beside those that stood open before
abbrev Closes : ℕ → List Lexeme → Type 0
Closes deep ls = (n : ℕ) (rest : List Lexeme) → n + deep ≤ 32 → AreLow n rest → AreLow n (ls ++ rest)

closes_both : (deep : ℕ) (xs ys : List Lexeme) → Closes deep xs → Closes deep ys → Closes deep (xs ++ ys)
closes_both deep xs ys h k n rest le low = rw (append_assoc xs ys rest) (h n (ys ++ rest) le (k n rest le low))

closed : (n : ℕ) (rest : List Lexeme) → n + 1 ≤ 32 → AreLow n rest → AreLow (n + 1) (mark_token 41 ∷ rest)
closed n rest le low = (le, subst (λ m. AreLow m rest) (same n) low)
  where
    same : (n : ℕ) → n ≡ (n + 1) - 1
    same n = omega arith

module _ {X : Type 0} (f : X → List Lexeme) (deep : ℕ) (are : (x : X) → Closes deep (f x)) where
  further_closes : (xs : List X) (n : ℕ) (rest : List Lexeme) → (n + 1) + deep ≤ 32 → AreLow n rest → AreLow (n + 1) (further_tokens f xs ++ rest)
  further_closes [] n rest le low = closed n rest (omega arith) low
  further_closes (x ∷ xs) n rest le low =
      (omega arith, rw (append_assoc (f x) (further_tokens f xs) rest) (are x (n + 1) (further_tokens f xs ++ rest) le (further_closes xs n rest le low)))

  list_closes : (xs : List X) (n : ℕ) (rest : List Lexeme) → (n + 1) + deep ≤ 32 → AreLow n rest → AreLow n (list_tokens f xs ++ rest)
  list_closes [] n rest le low = (omega arith, closed n rest (omega arith) low)
  list_closes (x ∷ xs) n rest le low =
      (omega arith, rw (append_assoc (f x) (further_tokens f xs) rest) (are x (n + 1) (further_tokens f xs ++ rest) le (further_closes xs n rest le low)))

  flat_closes : (xs : List X) → Closes deep (flat_map f xs)
  flat_closes [] n rest le low = low
  flat_closes (x ∷ xs) n rest le low = closes_both deep (f x) (flat_map f xs) (are x) (flat_closes xs) n rest le low

atom_closes : (a : Atom) → Closes 0 (atom_tokens a)
atom_closes template.unset n rest le low = (omega arith, low)
atom_closes template.derived n rest le low = (omega arith, low)
atom_closes (template.int bytes) n rest le low = (omega arith, low)
atom_closes (template.real bytes) n rest le low = (omega arith, low)
atom_closes (template.text bytes) n rest le low = (omega arith, low)
atom_closes (template.enumeration bytes) n rest le low = (omega arith, low)
atom_closes (template.reference m) n rest le low = (omega arith, low)

argument_closes : (x : Argument) → Closes 1 (argument_tokens x)
argument_closes (template.one a) n rest le low = atom_closes a n rest (omega arith) low
argument_closes (template.list atoms) n rest le low = list_closes atom_tokens 0 atom_closes atoms n rest (omega arith) low

call_closes : (c : Call) → Closes 2 (call_tokens c)
call_closes c n rest le low = (omega arith, list_closes argument_tokens 1 argument_closes c.arguments n rest (omega arith) low)

semicolon_closes : Closes 2 (mark_token 59 ∷ [])
semicolon_closes n rest le low = (omega arith, low)

head_closes : (c : Call) → Closes 2 (head_tokens c)
head_closes c = closes_both 2 (call_tokens c) (mark_token 59 ∷ []) (call_closes c) semicolon_closes

line_closes : (l : Line) → Closes 2 (line_tokens l)
line_closes l n rest le low =
    (omega arith, (omega arith, closes_both 2 (call_tokens l.call) (mark_token 59 ∷ []) (call_closes l.call) semicolon_closes n rest le low))

start_closes : Closes 2 start_tokens
start_closes n rest le low = (omega arith, (omega arith, (omega arith, (omega arith, low))))

data_closes : Closes 2 data_tokens
data_closes n rest le low = (omega arith, (omega arith, (omega arith, (omega arith, low))))

end_closes : Closes 2 end_tokens
end_closes n rest le low = (omega arith, (omega arith, (omega arith, (omega arith, low))))

file_closes : (head : List Call) (lines : List Line) → Closes 2 (file_tokens head lines)
file_closes head lines =
    let heads : List Lexeme = start_tokens ++ flat_map head_tokens head in
    let all : List Lexeme = flat_map line_tokens lines in
    closes_both 2 (heads ++ data_tokens ++ all) end_tokens
    (closes_both 2 (heads ++ data_tokens) all
    (closes_both 2 heads data_tokens (closes_both 2 start_tokens (flat_map head_tokens head) start_closes (flat_closes head_tokens 2 head_closes head)) data_closes)
    (flat_closes line_tokens 2 line_closes lines))
    end_closes

-- On the page.

same_after : (n at : ℕ) (l : Lexeme) → open_after n (made l.kind at (at + length (printed_bytes l)) (printed_bytes l)) ≡ open_after n l
same_after n at l =
    let m : Lexeme = made l.kind at (at + length (printed_bytes l)) (printed_bytes l) in
    ap (λ b. cond b (n + 1) (cond (is_mark_of (codes ")") m) (n - 1) n)) (printed_mark l.kind l.text (codes "("))
    ∙ ap (λ b. cond (is_mark_of (codes "(") l) (n + 1) (cond b (n - 1) n)) (printed_mark l.kind l.text (codes ")"))

low_placed : (n at : ℕ) (ls : List Lexeme) → AreLow n ls → AreLow n (placed at ls)
low_placed n at [] h = h
low_placed n at (l ∷ ls) h =
    (h.0, subst (λ m. AreLow m (placed (behind at (l ∷ [])) ls)) (sym (same_after n at l)) (low_placed (open_after n l) (behind at (l ∷ [])) ls h.1))

low_first : (n : ℕ) (ls : List Lexeme) → AreLow n ls → n ≤ 32
low_first n [] h = h
low_first n (l ∷ ls) h = h.0

low_front : (n : ℕ) (front rest : List Lexeme) → AreLow n (front ++ rest) → open_behind n front ≤ 32
low_front n [] rest h = low_first n rest h
low_front n (l ∷ front) rest h = low_front (open_after n l) front rest h.1

pub file_shallow : (head : List Call) (lines : List Line) → IsShallow (placed 0 (file_tokens head lines))
file_shallow head lines front rest e =
    let tokens : List Lexeme = file_tokens head lines in
    let low : AreLow 0 tokens = subst (AreLow 0) (append-nil tokens) (file_closes head lines 0 [] (omega arith) (omega arith)) in
    low_front 0 front rest (subst (AreLow 0) e (low_placed 0 0 tokens low))
