-- The printed tokens of a text, where they stand on the page, and that they are the tokens of the page.
use Rattle.std.proofs.Common.{◌≡◌, ℕ, ◌+◌, ◌-◌, suc, zero, Bool, true, false, ◌&&◌, ◌||◌, List, [], ◌∷◌, ◌++◌, length, take, drop, refl, sym, ◌∙◌, ap, arith, subst, inl, inr, cond, codes, slice_index, length-append, append_assoc, append-nil}
use Rattle.std.proofs.lemmas.Bool.{true≢false, cases_Bool, and_parts}
use Rattle.std.proofs.lemmas.List.{get_or_at}
use Rattle.std.proofs.Math.Seq.{take-append_seam, drop-append_seam}
use Rattle.std.specs.List.{AllByRecursion}
use Rattle.std.specs.Str.{bytes_eq}
use Rattle.spec_step.specs.Spelling.{is_mark, is_spelled}
use Rattle.spec_step.specs.Gaps.{is_blank, IsPiece, Between, IsNext}
use Rattle.spec_step.specs.Longest.{IsLongest}
use Rattle.spec_step.specs.Lexemes.{Lexeme, IsToken, Reads}
use Rattle.spec_step.specs.Kinds.{is_mark_kind}
use Rattle.spec_step.specs.Files.{is_mark_of}
use Rattle.spec_step.specs.Canonical.{printed_bytes, line_end, canonical}
use Rattle.spec_step.specs.declared.token.Token.{Token}
use Rattle.spec_step.specs.declared.token.TokenKind.{TokenKind}
use Rattle.spec_step.specs.declared.token.TokenKind.TheVariants as kind
use Rattle.spec_step.specs.declared.token.TokenStep.TheVariants.{Got, End}
use Rattle.step_print.proofs.Capitals.{printed_spelled, printed_twice, printed_mark}
use Rattle.step_print.proofs.Longer.{is_next, token_longest, some_byte, begins_gap, no_gap, mark_kind}
use Rattle.step_print.proofs.Apart.{starts_mark, is_apart}

abbrev pub made : TokenKind → ℕ → ℕ → List ℕ → Lexeme
made k from end text = record { kind = k; span = record { from = from; end = end }; text = text }

abbrev pub placed : ℕ → List Lexeme → List Lexeme
placed at [] = []
placed at (l ∷ ls) = made l.kind at (at + length (printed_bytes l)) (printed_bytes l) ∷ placed (at + length (printed_bytes l ++ line_end l)) ls

-- What stands behind a token.

or_left : (a b : Bool) → a ≡ true → (a || b) ≡ true
or_left true b e = refl
or_left false b e = absurd (true≢false (sym e))

or_right : (a b : Bool) → b ≡ true → (a || b) ≡ true
or_right true b e = refl
or_right false b e = e

next_by : (k : TokenKind) (rest : List ℕ) → is_mark_kind k ≡ true → is_next k rest ≡ true
next_by k [] e = refl
next_by k (b ∷ bs) e = or_left (is_mark_kind k) (is_mark b) e

one_mark : (text : List ℕ) → is_spelled kind.Mark text ≡ true → (c : ℕ) × (text ≡ c ∷ []) × (is_mark c ≡ true)
one_mark [] e = absurd (true≢false (sym e))
one_mark (c ∷ []) e = (c, refl, (and_parts (is_mark c) true e).0)
one_mark (c ∷ d ∷ ds) e = absurd (true≢false (sym (and_parts (is_mark c) false e).1))

next_mark : (k : TokenKind) (m : Lexeme) (rest : List ℕ) → is_mark_kind m.kind ≡ true → IsToken m → is_next k ((printed_bytes m ++ line_end m) ++ rest) ≡ true
next_mark k m rest e is =
    let spelled : is_spelled kind.Mark (printed_bytes m) ≡ true = subst (λ j. is_spelled j (printed_bytes m) ≡ true) (mark_kind m.kind e) (printed_spelled m.kind m.text is) in
    let p : (c : ℕ) × (printed_bytes m ≡ c ∷ []) × (is_mark c ≡ true) = one_mark (printed_bytes m) spelled in
    ap (λ t. is_next k ((t ++ line_end m) ++ rest)) p.1 ∙ or_right (is_mark_kind k) (is_mark p.0) p.2

starts_next : (k : TokenKind) (ls : List Lexeme) → starts_mark ls ≡ true → AllByRecursion IsToken ls → is_next k (canonical ls) ≡ true
starts_next k [] e are = absurd (true≢false (sym e))
starts_next k (m ∷ ls) e are = next_mark k m (canonical ls) e are.0

no_line : (l : Lexeme) → is_mark_kind l.kind ≡ false → line_end l ≡ []
no_line l e = ap (λ b. cond (b && bytes_eq l.text (codes ";")) (codes "\n") []) e

-- behind a token that is no mark a mark is printed
follows : (l : Lexeme) (ls : List Lexeme) → (is_mark_kind l.kind || starts_mark ls) ≡ true → AllByRecursion IsToken ls → is_next l.kind (line_end l ++ canonical ls) ≡ true
follows l ls e are = elim (cases_Bool (is_mark_kind l.kind)) [
  | inl is ↦ next_by l.kind (line_end l ++ canonical ls) is
  | inr is ↦
      let starts : starts_mark ls ≡ true = sym (ap (λ b. b || starts_mark ls) is) ∙ e in
      ap (λ x. is_next l.kind (x ++ canonical ls)) (no_line l is) ∙ starts_next l.kind ls starts are
]

-- A token on the page.

no_piece : (page : List ℕ) (at : ℕ) (k : TokenKind) (b : ℕ) (bs : List ℕ) → slice_index page at ≡ b → is_spelled k (b ∷ bs) ≡ true → (j : ℕ) → IsPiece page at j → ⊥
no_piece page at k b bs e is j (inl p) = no_gap k b bs is (or_left (is_blank b) _ (ap is_blank (sym e) ∙ p.1))
no_piece page at k b bs e is j (inr p) = no_gap k b bs is (ap begins_gap (sym e ∙ p.opens.1))

abbrev token : TokenKind → ℕ → ℕ → Token
token k from end = record { kind = k; from = from; end = end }

token_next : (page pre text more : List ℕ) (k : TokenKind) (from : ℕ) → page ≡ pre ++ (text ++ more) → Between page from (length pre)
    → is_spelled k text ≡ true → is_next k more ≡ true → IsNext page from (Got (token k (length pre) (length pre + length text)))
token_next page pre [] more k from e gap is next = absurd (some_byte k is)
token_next page pre (b ∷ bs) more k from e gap is next =
    let rest : drop (length pre) page ≡ (b ∷ bs) ++ more = ap (drop (length pre)) e ∙ drop-append_seam pre ((b ∷ bs) ++ more) in
    let size : length page ≡ length pre + length ((b ∷ bs) ++ more) = ap length e ∙ length-append pre ((b ∷ bs) ++ more) in
    let width : (length pre + length (b ∷ bs)) - length pre ≡ length (b ∷ bs) = omega arith in
    let first : slice_index page (length pre) ≡ b = ap (λ l. slice_index l (length pre)) e ∙ get_or_at pre b (bs ++ more) 0 (length pre) refl in (
      record { gap = gap; within = omega arith; no_more = no_piece page (length pre) k b bs first is },
      omega arith,
      subst (λ n. IsLongest is_spelled (drop (length pre) page) k n) (sym width)
          (subst (λ l. IsLongest is_spelled l k (length (b ∷ bs))) (sym rest) (token_longest k (b ∷ bs) more is next)),
    )

token_text : (page pre text more : List ℕ) → page ≡ pre ++ (text ++ more) → text ≡ take ((length pre + length text) - length pre) (drop (length pre) page)
token_text page pre text more e =
    let rest : drop (length pre) page ≡ text ++ more = ap (drop (length pre)) e ∙ drop-append_seam pre (text ++ more) in
    let width : (length pre + length text) - length pre ≡ length text = omega arith in
    sym (ap (λ n. take n (drop (length pre) page)) width ∙ ap (take (length text)) rest ∙ take-append_seam text more)

-- behind a token stands nothing, or the line feed
line_gap : (page pre text more : List ℕ) (b : Bool) → page ≡ pre ++ ((text ++ cond b (codes "\n") []) ++ more)
    → Between page (length pre + length text) (length pre + length (text ++ cond b (codes "\n") []))
line_gap page pre text more false e = (zero, ap (λ l. length pre + length l) (sym (append-nil text)))
line_gap page pre text more true e =
    let at : ℕ = length pre + length text in
    let split : page ≡ (pre ++ text) ++ (10 ∷ more) = e ∙ ap (λ l. pre ++ l) (append_assoc text (10 ∷ []) more) ∙ sym (append_assoc pre text (10 ∷ more)) in
    let feed : slice_index page at ≡ 10 = ap (λ l. slice_index l at) split ∙ get_or_at (pre ++ text) 10 more 0 at (length-append pre text) in
    let size : length page ≡ length (pre ++ text) + length (10 ∷ more) = ap length split ∙ length-append (pre ++ text) (10 ∷ more) in
    let both : length (pre ++ text) ≡ length pre + length text = length-append pre text in
    let last : length (text ++ 10 ∷ []) ≡ length text + 1 = length-append text (10 ∷ []) in
    (suc zero, (at + 1, inl (omega arith, ap is_blank feed, refl), omega arith))

-- The page.

pub reads_placed : (page pre : List ℕ) (ls : List Lexeme) (from : ℕ) → page ≡ pre ++ canonical ls → Between page from (length pre)
    → AllByRecursion IsToken ls → is_apart ls ≡ true → (to : ℕ) × Reads page from (placed (length pre) ls) to × IsNext page to End
reads_placed page pre [] from e gap are apart =
    let end : length pre ≡ length page = sym (ap length (e ∙ append-nil pre)) in
    (from, refl, subst (Between page from) end gap)
reads_placed page pre (l ∷ ls) from e gap are apart =
    let behind : List ℕ = pre ++ (printed_bytes l ++ line_end l) in
    let end : ℕ = length pre + length (printed_bytes l) in
    let parts = and_parts (is_mark_kind l.kind || starts_mark ls) (is_apart ls) apart in
    let split : page ≡ pre ++ (printed_bytes l ++ (line_end l ++ canonical ls)) = e ∙ ap (λ x. pre ++ x) (append_assoc (printed_bytes l) (line_end l) (canonical ls)) in
    let onward : page ≡ behind ++ canonical ls = e ∙ sym (append_assoc pre (printed_bytes l ++ line_end l) (canonical ls)) in
    let size : length behind ≡ length pre + length (printed_bytes l ++ line_end l) = length-append pre (printed_bytes l ++ line_end l) in
    let next : IsNext page from (Got (token l.kind (length pre) end)) =
    token_next page pre (printed_bytes l) (line_end l ++ canonical ls) l.kind from split gap (printed_spelled l.kind l.text are.0) (follows l ls parts.0 are.1) in
    let line : Between page end (length behind) =
    subst (Between page end) (sym size) (line_gap page pre (printed_bytes l) (canonical ls) (is_mark_of (codes ";") l) e) in
    let more : (to : ℕ) × Reads page end (placed (length behind) ls) to × IsNext page to End = reads_placed page behind ls end onward line are.1 parts.1 in (
      more.0,
      (
        token l.kind (length pre) end,
        next,
        ap (made l.kind (length pre) end) (token_text page pre (printed_bytes l) (line_end l ++ canonical ls) split),
        subst (λ n. Reads page end (placed n ls) more.0) size more.1,
      ),
      more.2,
    )

-- the printed tokens are printed as they are
pub canonical_placed : (at : ℕ) (ls : List Lexeme) → canonical (placed at ls) ≡ canonical ls
canonical_placed at [] = refl
canonical_placed at (l ∷ ls) =
    let p : Lexeme = made l.kind at (at + length (printed_bytes l)) (printed_bytes l) in
    let lines : line_end p ≡ line_end l = ap (λ b. cond b (codes "\n") []) (printed_mark l.kind l.text (codes ";")) in
    ap (λ x. (x ++ line_end p) ++ canonical (placed (at + length (printed_bytes l ++ line_end l)) ls)) (printed_twice l.kind l.text)
    ∙ ap (λ x. (printed_bytes l ++ x) ++ canonical (placed (at + length (printed_bytes l ++ line_end l)) ls)) lines
    ∙ ap (λ x. (printed_bytes l ++ line_end l) ++ x) (canonical_placed (at + length (printed_bytes l ++ line_end l)) ls)

-- the page is its own canonical spelling
pub page_tokens : (ls : List Lexeme) → AllByRecursion IsToken ls → is_apart ls ≡ true
    → (to : ℕ) × Reads (canonical ls) 0 (placed 0 ls) to × IsNext (canonical ls) to End
page_tokens ls are apart = reads_placed (canonical ls) [] ls 0 refl (zero, refl) are apart
