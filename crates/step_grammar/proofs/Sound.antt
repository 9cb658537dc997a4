-- What the machine has read are the trees of the tokens.
use Rattle.std.proofs.Common.{◌≡◌, List, [], ◌∷◌, ◌++◌, Option, Some, None, All, map, sym, subst, append_assoc, append-nil}
use Rattle.std.proofs.lemmas.List.Elements.{All-head, All-tail}
use Rattle.std.specs.List.{AllZip}
use Rattle.spec_step.specs.Lexemes.{Lexeme, IsToken}
use Rattle.spec_step.specs.Grammar.{Want, IsAs, IsDerived}
use Rattle.spec_step.specs.declared.tree.Entry.{Entry}
use Rattle.spec_step.specs.declared.tree.Instance.{Instance}
use Rattle.step_grammar.specs.Symbols.{symbol_of}
use Rattle.step_grammar.specs.Places.{State, start, step, run_on}
use Rattle.step_grammar.specs.Runs.{runs, whole}
use Rattle.step_grammar.proofs.Frames.{Fits, FitsState, fit_step, fits_start, fits}
use Rattle.step_grammar.proofs.Spelled.{read, AddsState, add_step, file_is}
use Rattle.step_grammar.proofs.Spoken.{spoken}

-- one want and its token more
zip_last : (ws : List Want) (ls : List Lexeme) (w : Want) (l : Lexeme) → AllZip IsAs ws ls → IsAs w l → AllZip IsAs (ws ++ w ∷ []) (ls ++ l ∷ [])
zip_last [] [] w l h k = (k, tt)
zip_last [] (x ∷ ls) w l h k = absurd h
zip_last (v ∷ ws) [] w l h k = absurd h
zip_last (v ∷ ws) (x ∷ ls) w l h k = (h.0, zip_last ws ls w l h.1 k)

-- the tokens are what was read
abbrev HasSaid : Option State → List Lexeme → Type 0
HasSaid None ls = Unit {0}
HasSaid (Some q) ls = Fits q × AllZip IsAs (read q) ls

-- a step keeps that
say_more : (o : Option State) (l : Lexeme) (ws : List Want) (ls : List Lexeme) → FitsState o → AddsState l ws o → AllZip IsAs ws ls → HasSaid o (ls ++ l ∷ [])
say_more None l ws ls h k z = tt
say_more (Some q) l ws ls h k z = (h, subst (λ v. AllZip IsAs v (ls ++ l ∷ [])) (sym k.2) (zip_last ws ls k.0 l z k.1))

-- and so do tokens
said_from : (o : Option State) (front ls : List Lexeme) (q : State) → HasSaid o front → All IsToken ls → run_on o (map symbol_of ls) ≡ Some q → AllZip IsAs (read q) (front ++ ls)
said_from None front ls q h are e = absurd (cc)
said_from (Some p) front [] q h are e =
    let same : p ≡ q = cc in
    subst (λ (x : State). AllZip IsAs (read x) (front ++ [])) same (subst (AllZip IsAs (read p)) (sym (append-nil front)) h.1)
said_from (Some p) front (l ∷ ls) q h are e =
    let next : HasSaid (step p (symbol_of l)) (front ++ l ∷ []) =
    say_more (step p (symbol_of l)) l (read p) front (fit_step p p.place (symbol_of l) h.0)
    (add_step p p.place (symbol_of l) l h.0 (spoken l (All-head IsToken l ls are))) h.1 in
    subst (AllZip IsAs (read q)) (append_assoc front (l ∷ []) ls) (said_from (step p (symbol_of l)) (front ++ l ∷ []) ls q next (All-tail IsToken l ls are) e)

-- what was read behind the last semicolon are the trees of the tokens
pub sound_is : (ls : List Lexeme) (head : List Entry) (instances : List Instance) → All IsToken ls → runs ls ≡ Some (whole head instances) → IsDerived ls head instances
sound_is ls head instances are h = record {
  tokens = subst (λ ws. AllZip IsAs ws ls) (file_is head instances) (said_from (Some start) [] ls (whole head instances) (fits_start, tt) are h);
  entries = (fits ls (whole head instances) h).1;
}
