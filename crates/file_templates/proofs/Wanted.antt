-- The tokens of templates are what the grammar wants of their trees, at the places at which they are printed.
use Rattle.std.proofs.Common.{ℕ, List, [], ◌∷◌, ◌++◌, map, refl, arith}
use Rattle.std.specs.List.{AllZip, AllByRecursion, flat_map}
use Rattle.spec_step.specs.Lexemes.{Lexeme}
use Rattle.spec_step.specs.Grammar.{Want, opening, semicolon, ending, IsAs, further, members, layer_spelling, spelling, arguments, entry_spelling, head_spelling, instance_spelling, file_start, data_start, file_end, file_spelling}
use Rattle.spec_step.specs.declared.token.TokenKind.TheVariants as kind
use Rattle.spec_step.specs.declared.tree.Param.{Param}
use Rattle.spec_step.specs.declared.tree.Param as rolled
use Rattle.spec_step.specs.declared.tree.Param.TheOpen as layer
use Rattle.spec_step.specs.declared.tree.Param.TheFolds.{fold-roll-Param}
use Rattle.step_grammar.proofs.SpelledEntries.{spelling_list}
use Rattle.step_print.proofs.Placed.{placed}
use Rattle.file_templates.proofs.Templates as template
use Rattle.file_templates.proofs.Templates.{Atom, Argument, Call, Line, token, mark_token, atom_tokens, further_tokens, member_tokens, list_tokens, argument_tokens, call_tokens, head_tokens, line_tokens, start_tokens, data_tokens, end_tokens, file_tokens, behind, span_at, atom_param, further_params, member_params, argument_param, call_entry, call_place, ending_place, line_instance, in_order, head_place, data_place, head_of, instances_of}
use Rattle.file_templates.proofs.Decimals.{decimal_value}
use Rattle.file_templates.proofs.Spelled.{IsSpelledAtom, IsSpelledArgument, IsSpelledCall, IsSpelledHead, IsSpelledLine}

-- printed from a place on, the tokens are as wanted
abbrev AreWanted : ℕ → List Want → List Lexeme → Type 0
AreWanted at ws ls = AllZip IsAs ws (placed at ls)

both : (at : ℕ) (ws vs : List Want) (xs ys : List Lexeme) → AreWanted at ws xs → AreWanted (behind at xs) vs ys → AreWanted at (ws ++ vs) (xs ++ ys)
both at [] vs [] ys h k = k
both at [] vs (x ∷ xs) ys h k = absurd h
both at (w ∷ ws) vs [] ys h k = absurd h
both at (w ∷ ws) vs (x ∷ xs) ys h k = (h.0, both (behind at (x ∷ [])) ws vs xs ys h.1 k)

-- Lists.

module _ {X : Type 0} (f : X → List Lexeme) (p : ℕ → X → Param) (P : X → Type 0) (are : (at : ℕ) (x : X) → P x → AreWanted at (spelling (p at x)) (f x)) where
  further_wanted : (at : ℕ) (xs : List X) → AllByRecursion P xs → AreWanted at (further (map spelling (further_params f p at xs))) (further_tokens f xs)
  further_wanted at [] h = ((refl, refl), tt)
  further_wanted at (x ∷ xs) h =
      let next : ℕ = behind at (mark_token 44 ∷ []) in
      let rest : List Param = further_params f p (behind next (f x)) xs in
      ((refl, refl), both next (spelling (p next x)) (further (map spelling rest)) (f x) (further_tokens f xs) (are next x h.0) (further_wanted (behind next (f x)) xs h.1))

  list_wanted : (at : ℕ) (xs : List X) → AllByRecursion P xs → AreWanted at (opening ∷ members (map spelling (member_params f p at xs))) (list_tokens f xs)
  list_wanted at [] h = ((refl, refl), ((refl, refl), tt))
  list_wanted at (x ∷ xs) h =
      let next : ℕ = behind at (mark_token 40 ∷ []) in
      let rest : List Param = further_params f p (behind next (f x)) xs in
      ((refl, refl), both next (spelling (p next x)) (further (map spelling rest)) (f x) (further_tokens f xs) (are next x h.0) (further_wanted (behind next (f x)) xs h.1))

module _ {X T : Type 0} (f : X → List Lexeme) (tree : ℕ → X → T) (g : T → List Want) (P : X → Type 0) (are : (at : ℕ) (x : X) → P x → AreWanted at (g (tree at x)) (f x)) where
  order_wanted : (at : ℕ) (xs : List X) → AllByRecursion P xs → AreWanted at (flat_map g (in_order f tree at xs)) (flat_map f xs)
  order_wanted at [] h = tt
  order_wanted at (x ∷ xs) h =
      both at (g (tree at x)) (flat_map g (in_order f tree (behind at (f x)) xs)) (f x) (flat_map f xs) (are at x h.0) (order_wanted (behind at (f x)) xs h.1)

-- Parameters.

atom_wanted : (at : ℕ) (a : Atom) → IsSpelledAtom a → AreWanted at (spelling (atom_param at a)) (atom_tokens a)
unfolding rolled.roll-Param denote.Hole.Carrier.roll
atom_wanted at template.unset h = rw (fold-roll-Param (List Want) layer_spelling layer.Unset) ((refl, refl), tt)
atom_wanted at template.derived h = rw (fold-roll-Param (List Want) layer_spelling layer.Derived) ((refl, refl), tt)
atom_wanted at (template.int bytes) h =
    rw (fold-roll-Param (List Want) layer_spelling (layer.Int (span_at at (token kind.Int bytes)))) ((refl, refl), tt)
atom_wanted at (template.real bytes) h =
    rw (fold-roll-Param (List Want) layer_spelling (layer.Real (span_at at (token kind.Real bytes)))) ((refl, refl), tt)
atom_wanted at (template.text bytes) h =
    rw (fold-roll-Param (List Want) layer_spelling (layer.Text (span_at at (token kind.Text bytes)))) ((refl, refl), tt)
atom_wanted at (template.enumeration bytes) h =
    rw (fold-roll-Param (List Want) layer_spelling (layer.Enumeration (span_at at (token kind.Enumeration bytes)))) ((refl, refl), tt)
atom_wanted at (template.reference n) h = rw (fold-roll-Param (List Want) layer_spelling (layer.Reference n)) ((refl, decimal_value n (omega arith)), tt)

argument_wanted : (at : ℕ) (x : Argument) → IsSpelledArgument x → AreWanted at (spelling (argument_param at x)) (argument_tokens x)
argument_wanted at (template.one a) h = atom_wanted at a h
argument_wanted at (template.list atoms) h =
    rw (spelling_list (member_params atom_tokens atom_param at atoms)) (list_wanted atom_tokens atom_param IsSpelledAtom atom_wanted at atoms h)

-- Entries and instances.

call_behind : (at : ℕ) (c : Call) → IsSpelledCall c → AreWanted (behind at (token kind.Keyword c.keyword ∷ [])) (arguments (call_entry at c).params) (list_tokens argument_tokens c.arguments)
call_behind at c h = list_wanted argument_tokens argument_param IsSpelledArgument argument_wanted (behind at (token kind.Keyword c.keyword ∷ [])) c.arguments h.arguments

call_wanted : (at : ℕ) (c : Call) → IsSpelledCall c → AreWanted at (entry_spelling (call_entry at c)) (call_tokens c)
call_wanted at c h = ((refl, refl), call_behind at c h)

head_wanted : (at : ℕ) (c : Call) → IsSpelledHead c → AreWanted at (head_spelling (call_entry at c)) (head_tokens c)
head_wanted at c h = (
  (refl, refl, h.no_end),
  both (behind at (token kind.Keyword c.keyword ∷ [])) (arguments (call_entry at c).params) (semicolon ∷ []) (list_tokens argument_tokens c.arguments) (mark_token 59 ∷ [])
      (call_behind at c h.call) ((refl, refl), tt),
)

line_wanted : (at : ℕ) (l : Line) → IsSpelledLine l → AreWanted at (instance_spelling (line_instance at l)) (line_tokens l)
line_wanted at l h = (
  (refl, decimal_value l.number (omega (arith, h.number)), refl),
  (
    (refl, refl),
    both (call_place at l) (entry_spelling (call_entry (call_place at l) l.call)) (ending (line_instance at l).end ∷ []) (call_tokens l.call) (mark_token 59 ∷ [])
        (call_wanted (call_place at l) l.call h.call) ((refl, refl, refl), tt),
  ),
)

-- Files.

pub file_wanted : (head : List Call) (lines : List Line) → AllByRecursion IsSpelledHead head → AllByRecursion IsSpelledLine lines
    → AllZip IsAs (file_spelling (head_of head) (instances_of head lines)) (placed 0 (file_tokens head lines))
file_wanted head lines h k =
    let heads : List Lexeme = start_tokens ++ flat_map head_tokens head in
    let entries : List Want = file_start ++ flat_map head_spelling (head_of head) in
    let front : AreWanted 0 entries heads =
    both 0 file_start (flat_map head_spelling (head_of head)) start_tokens (flat_map head_tokens head) (refl, ((refl, refl), ((refl, refl), ((refl, refl), tt))))
    (order_wanted head_tokens call_entry head_spelling IsSpelledHead head_wanted head_place head h) in
    let middle : AreWanted 0 (entries ++ data_start) (heads ++ data_tokens) =
    both 0 entries data_start heads data_tokens front ((refl, refl), ((refl, refl), ((refl, refl), ((refl, refl), tt)))) in
    let all : List Lexeme = flat_map line_tokens lines in
    let body : List Want = flat_map instance_spelling (instances_of head lines) in
    both 0 (entries ++ data_start ++ body) file_end (heads ++ data_tokens ++ all) end_tokens
    (both 0 (entries ++ data_start) body (heads ++ data_tokens) all middle (order_wanted line_tokens line_instance instance_spelling IsSpelledLine line_wanted (data_place head) lines k))
    ((refl, refl), ((refl, refl), (refl, ((refl, refl), tt))))
