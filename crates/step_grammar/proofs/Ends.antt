-- From each place some tokens lead behind the last semicolon of a file.
use Rattle.std.proofs.Common.{◌≡◌, ℕ, List, [], ◌∷◌, ◌++◌, Some, All, map, codes, refl, sym, ◌∙◌, ap, subst}
use Rattle.std.proofs.lemmas.List.Elements.{All-nil, All-cons, All-append}
use Rattle.spec_step.specs.Lexemes.{Lexeme, IsToken}
use Rattle.spec_step.specs.Files.{BeginsFile}
use Rattle.spec_step.specs.declared.token.TokenKind.{TokenKind}
use Rattle.spec_step.specs.declared.token.TokenKind.TheVariants as kind
use Rattle.spec_step.specs.declared.tree.Param.{Param}
use Rattle.spec_step.specs.declared.tree.Param.TheVariants as param
use Rattle.spec_step.specs.declared.tree.Entry.{Entry}
use Rattle.spec_step.specs.declared.tree.Body.TheVariants as body
use Rattle.spec_step.specs.declared.tree.Instance.{Instance}
use Rattle.step_grammar.specs.Symbols.{symbol_of}
use Rattle.step_grammar.specs.Entries.{Stand, entry_step, with_last}
use Rattle.step_grammar.specs.Places.{State, start, step, run_on, with_instance}
use Rattle.step_grammar.specs.Runs.{runs, whole}
use Rattle.step_grammar.specs.declared.symbol.Symbol.{Symbol}
use Rattle.step_grammar.specs.declared.entry.Frame.{Frame}
use Rattle.step_grammar.specs.declared.entry.Frame.TheVariants as frame
use Rattle.step_grammar.specs.declared.entry.Spot.{Spot}
use Rattle.step_grammar.specs.declared.entry.Spot.TheVariants as spot
use Rattle.step_grammar.specs.declared.place.Fixed.{Fixed}
use Rattle.step_grammar.specs.declared.place.Fixed.TheVariants as fixed
use Rattle.step_grammar.specs.declared.place.Key.{Key}
use Rattle.step_grammar.specs.declared.place.Place.{Place}
use Rattle.step_grammar.specs.declared.place.Place.TheVariants as place
use Rattle.step_grammar.proofs.Complete.{plain, in_head, in_simple, in_complex, head_carries, simple_carries, complex_carries}
use Rattle.step_grammar.proofs.Frames.{InEntry, FitsSpot, FitsFixed, FitsAt, fits}
use Rattle.step_grammar.proofs.Runs.{run_on-append, map_both}
use Rattle.step_grammar.proofs.Sound.{sound_is}

-- some tokens end a file from here
record Ends (q : State) : Type 0 where
  more : List Lexeme
  head : List Entry
  instances : List Instance
  tokens : All IsToken more
  run : run_on (Some q) (map symbol_of more) ≡ Some (whole head instances)

-- one token before others
end_step : (q next : State) (l : Lexeme) → IsToken l → step q (symbol_of l) ≡ Some next → Ends next → Ends q
end_step q next l is e h = record {
  more = l ∷ h.more;
  head = h.head;
  instances = h.instances;
  tokens = All-cons IsToken l h.more is h.tokens;
  run = ap (λ o. run_on o (map symbol_of h.more)) e ∙ h.run;
}

-- Some tokens.

abbrev token : TokenKind → List ℕ → Lexeme
token k text = record { kind = k; span = record { from = 0; end = 0 }; text = text }

abbrev a_semicolon : Lexeme
a_semicolon = token kind.Mark (codes ";")

abbrev an_opening : Lexeme
an_opening = token kind.Mark (codes "(")

abbrev a_closing : Lexeme
a_closing = token kind.Mark (codes ")")

abbrev a_dollar : Lexeme
a_dollar = token kind.Mark (codes "$")

-- Between the parts of a file.

-- each place from the next
end_nothing : (head : List Entry) (instances : List Instance) → Ends (plain (place.Fixed fixed.Nothing) head instances)
end_nothing head instances = record { more = []; head = head; instances = instances; tokens = All-nil IsToken; run = refl }

end_file_end : (head : List Entry) (instances : List Instance) → Ends (plain (place.Fixed fixed.FileEnd) head instances)
end_file_end head instances = end_step _ (plain (place.Fixed fixed.Nothing) head instances) a_semicolon refl refl (end_nothing head instances)

end_end_word : (head : List Entry) (instances : List Instance) → Ends (plain (place.Fixed fixed.EndWord) head instances)
end_end_word head instances = end_step _ (plain (place.Fixed fixed.FileEnd) head instances) (token kind.EndWord (codes "END-ISO-10303-21")) refl refl (end_file_end head instances)

end_data_end : (head : List Entry) (instances : List Instance) → Ends (plain (place.Fixed fixed.DataEnd) head instances)
end_data_end head instances = end_step _ (plain (place.Fixed fixed.EndWord) head instances) a_semicolon refl refl (end_end_word head instances)

end_instances : (head : List Entry) (instances : List Instance) → Ends (plain place.Instances head instances)
end_instances head instances = end_step _ (plain (place.Fixed fixed.DataEnd) head instances) (token kind.Keyword (codes "ENDSEC")) refl refl (end_data_end head instances)

end_data_start : (head : List Entry) (instances : List Instance) → Ends (plain (place.Fixed fixed.DataStart) head instances)
end_data_start head instances = end_step _ (plain place.Instances head instances) a_semicolon refl refl (end_instances head instances)

end_data : (head : List Entry) (instances : List Instance) → Ends (plain (place.Fixed fixed.Data) head instances)
end_data head instances = end_step _ (plain (place.Fixed fixed.DataStart) head instances) (token kind.Keyword (codes "DATA")) refl refl (end_data_start head instances)

end_header_end : (head : List Entry) (instances : List Instance) → Ends (plain (place.Fixed fixed.HeaderEnd) head instances)
end_header_end head instances = end_step _ (plain (place.Fixed fixed.Data) head instances) a_semicolon refl refl (end_data head instances)

end_head : (head : List Entry) (instances : List Instance) → Ends (plain place.Head head instances)
end_head head instances = end_step _ (plain (place.Fixed fixed.HeaderEnd) head instances) (token kind.Keyword (codes "ENDSEC")) refl refl (end_header_end head instances)

end_header_start : (head : List Entry) (instances : List Instance) → Ends (plain (place.Fixed fixed.HeaderStart) head instances)
end_header_start head instances = end_step _ (plain place.Head head instances) a_semicolon refl refl (end_head head instances)

end_header : (head : List Entry) (instances : List Instance) → Ends (plain (place.Fixed fixed.Header) head instances)
end_header head instances = end_step _ (plain (place.Fixed fixed.HeaderStart) head instances) (token kind.Keyword (codes "HEADER")) refl refl (end_header_start head instances)

end_start_end : (head : List Entry) (instances : List Instance) → Ends (plain (place.Fixed fixed.StartEnd) head instances)
end_start_end head instances = end_step _ (plain (place.Fixed fixed.Header) head instances) a_semicolon refl refl (end_header head instances)

end_start_word : (head : List Entry) (instances : List Instance) → Ends (plain (place.Fixed fixed.StartWord) head instances)
end_start_word head instances = end_step _ (plain (place.Fixed fixed.StartEnd) head instances) (token kind.StartWord (codes "ISO-10303-21")) refl refl (end_start_end head instances)

end_numbered : (key : Key) (head : List Entry) (instances : List Instance) → Ends (plain (place.Equated key) head instances) → Ends (plain (place.Numbered key) head instances)
end_numbered key head instances h = end_step _ (plain (place.Equated key) head instances) (token kind.Mark (codes "=")) refl refl h

end_closed : (key : Key) (es : List Entry) (head : List Entry) (instances : List Instance) → Ends (plain (place.Closed key es) head instances)
end_closed key es head instances =
    let q : State = plain (place.Closed key es) head instances in
    end_step q (with_instance key (body.Complex es) 0 q) a_semicolon refl refl (end_instances head (with_instance key (body.Complex es) 0 q).instances)

-- Entries, wherever they stand.
module _ (f : Stand → State) (carries : (p : Spot) (frames : List Frame) (s : Symbol) (next : Stand) → entry_step p frames s ≡ Some next → step (f (p, frames)) s ≡ Some (f next))
    (ends : (e : Entry) → Ends (f (spot.Read e, []))) where
  end_by : (p : Spot) (frames : List Frame) (next : Stand) (l : Lexeme) → IsToken l → entry_step p frames (symbol_of l) ≡ Some next → Ends (f next) → Ends (f (p, frames))
  end_by p frames next l is e h = end_step (f (p, frames)) (f next) l is (carries p frames (symbol_of l) next e) h

  end_read : (e : Entry) (frames : List Frame) → frames ≡ [] → Ends (f (spot.Read e, frames))
  end_read e frames h = subst (λ (x : List Frame). Ends (f (spot.Read e, x))) (sym h) (ends e)

  -- behind a parameter all that is open is closed
  end_behind : (frames : List Frame) (p : Param) → InEntry frames → Ends (f (spot.Behind p, frames))
  end_behind [] p h = absurd h
  end_behind (frame.List ps ∷ frames) p h =
      end_by (spot.Behind p) (frame.List ps ∷ frames) (spot.Behind (param.List (with_last ps p)), frames) a_closing refl refl (end_behind frames (param.List (with_last ps p)) h)
  end_behind (frame.Typed k ∷ frames) p h =
      end_by (spot.Behind p) (frame.Typed k ∷ frames) (spot.Behind (param.Typed k p), frames) a_closing refl refl (end_behind frames (param.Typed k p) h)
  end_behind (frame.Entry k ps ∷ frames) p h =
      let e : Entry = record { keyword = k; params = with_last ps p } in
      end_by (spot.Behind p) (frame.Entry k ps ∷ frames) (spot.Read e, frames) a_closing refl refl (end_read e frames h)

  end_before : (frames : List Frame) → InEntry frames → Ends (f (spot.Before, frames))
  end_before frames h = end_by spot.Before frames (spot.Behind param.Unset, frames) a_dollar refl refl (end_behind frames param.Unset h)

  end_opened : (frames : List Frame) → InEntry frames → Ends (f (spot.Opened, frames))
  end_opened frames h = end_by spot.Opened frames (spot.Behind param.Unset, frames) a_dollar refl refl (end_behind frames param.Unset h)

  end_entry : (p : Spot) (frames : List Frame) → FitsSpot p frames → Ends (f (p, frames))
  end_entry (spot.Named k) frames h = end_by (spot.Named k) frames (spot.Opened, frame.Entry k [] ∷ frames) an_opening refl refl (end_opened (frame.Entry k [] ∷ frames) h)
  end_entry spot.Opened frames h = end_opened frames h
  end_entry spot.Before frames h = end_before frames h
  end_entry (spot.Typed k) frames h = end_by (spot.Typed k) frames (spot.Before, frame.Typed k ∷ frames) an_opening refl refl (end_before (frame.Typed k ∷ frames) h)
  end_entry (spot.Behind p) frames h = end_behind frames p h
  end_entry (spot.Read e) frames h = end_read e frames h

end_head_entry : (head : List Entry) (instances : List Instance) (p : Spot) (frames : List Frame) → FitsSpot p frames → Ends (in_head head instances (p, frames))
end_head_entry head instances =
    end_entry (in_head head instances) (head_carries head instances)
    (λ e. end_step (in_head head instances (spot.Read e, [])) (plain place.Head (head ++ e ∷ []) instances) a_semicolon refl refl (end_head (head ++ e ∷ []) instances))

end_simple : (key : Key) (head : List Entry) (instances : List Instance) (p : Spot) (frames : List Frame) → FitsSpot p frames → Ends (in_simple key head instances (p, frames))
end_simple key head instances =
    end_entry (in_simple key head instances) (simple_carries key head instances)
    (λ e.
    let q : State = in_simple key head instances (spot.Read e, []) in
    end_step q (with_instance key (body.Simple e) 0 q) a_semicolon refl refl (end_instances head (with_instance key (body.Simple e) 0 q).instances))

end_complex : (key : Key) (es : List Entry) (head : List Entry) (instances : List Instance) (p : Spot) (frames : List Frame)
    → FitsSpot p frames → Ends (in_complex key es head instances (p, frames))
end_complex key es head instances =
    end_entry (in_complex key es head instances) (complex_carries key es head instances)
    (λ e. end_step (in_complex key es head instances (spot.Read e, [])) (plain (place.Closed key (es ++ e ∷ [])) head instances) a_closing refl refl
    (end_closed key (es ++ e ∷ []) head instances))

abbrev a_keyword : Lexeme
a_keyword = token kind.Keyword (codes "A")

end_equated : (key : Key) (head : List Entry) (instances : List Instance) → Ends (plain (place.Equated key) head instances)
end_equated key head instances =
    end_step _ (in_simple key head instances (spot.Named a_keyword.span, [])) a_keyword refl refl (end_simple key head instances (spot.Named a_keyword.span) [] refl)

end_opened_instance : (key : Key) (head : List Entry) (instances : List Instance) → Ends (plain (place.Opened key) head instances)
end_opened_instance key head instances =
    end_step _ (in_complex key [] head instances (spot.Named a_keyword.span, [])) a_keyword refl refl (end_complex key [] head instances (spot.Named a_keyword.span) [] refl)

-- what holds with no parenthesis open holds where none is
plainly : (p : Place) (q : State) → q.frames ≡ [] → Ends (plain p q.head q.instances) → Ends (record q { place = p })
plainly p q h k = subst (λ (x : List Frame). Ends (record { place = p; frames = x; head = q.head; instances = q.instances })) (sym h) k

end_fixed : (f : Fixed) (q : State) → FitsFixed f q → Ends (record q { place = place.Fixed f })
end_fixed fixed.StartWord q h = plainly (place.Fixed fixed.StartWord) q h.0 (end_start_word q.head q.instances)
end_fixed fixed.StartEnd q h = plainly (place.Fixed fixed.StartEnd) q h.0 (end_start_end q.head q.instances)
end_fixed fixed.Header q h = plainly (place.Fixed fixed.Header) q h.0 (end_header q.head q.instances)
end_fixed fixed.HeaderStart q h = plainly (place.Fixed fixed.HeaderStart) q h.0 (end_header_start q.head q.instances)
end_fixed fixed.HeaderEnd q h = plainly (place.Fixed fixed.HeaderEnd) q h.0 (end_header_end q.head q.instances)
end_fixed fixed.Data q h = plainly (place.Fixed fixed.Data) q h.0 (end_data q.head q.instances)
end_fixed fixed.DataStart q h = plainly (place.Fixed fixed.DataStart) q h.0 (end_data_start q.head q.instances)
end_fixed fixed.DataEnd q h = plainly (place.Fixed fixed.DataEnd) q h.0 (end_data_end q.head q.instances)
end_fixed fixed.EndWord q h = plainly (place.Fixed fixed.EndWord) q h.0 (end_end_word q.head q.instances)
end_fixed fixed.FileEnd q h = plainly (place.Fixed fixed.FileEnd) q h.0 (end_file_end q.head q.instances)
end_fixed fixed.Nothing q h = plainly (place.Fixed fixed.Nothing) q h.0 (end_nothing q.head q.instances)

-- from each place a file can be ended
end_at : (p : Place) (q : State) → FitsAt p q → Ends (record q { place = p })
end_at (place.Fixed f) q h = end_fixed f q h
end_at place.Head q h = plainly place.Head q h.0 (end_head q.head q.instances)
end_at (place.HeadEntry p) q h = end_head_entry q.head q.instances p q.frames h.0
end_at place.Instances q h = plainly place.Instances q h.0 (end_instances q.head q.instances)
end_at (place.Numbered key) q h = plainly (place.Numbered key) q h.0 (end_numbered key q.head q.instances (end_equated key q.head q.instances))
end_at (place.Equated key) q h = plainly (place.Equated key) q h.0 (end_equated key q.head q.instances)
end_at (place.Simple key p) q h = end_simple key q.head q.instances p q.frames h.0
end_at (place.Opened key) q h = plainly (place.Opened key) q h.0 (end_opened_instance key q.head q.instances)
end_at (place.Complex key es p) q h = end_complex key es q.head q.instances p q.frames h.0
end_at (place.Closed key es) q h = plainly (place.Closed key es) q h.0 (end_closed key es q.head q.instances)

-- tokens that may stand where they stand begin a file
pub begins_is : (ls : List Lexeme) (q : State) → All IsToken ls → runs ls ≡ Some q → BeginsFile ls
begins_is ls q are h =
    let e : Ends q = end_at q.place q (fits ls q h) in
    record {
      more = e.more;
      head = e.head;
      instances = e.instances;
      tokens = e.tokens;
      derived = sound_is (ls ++ e.more) e.head e.instances (All-append IsToken ls e.more are e.tokens)
          (ap (run_on (Some start)) (map_both ls e.more) ∙ run_on-append (Some start) (map symbol_of ls) (map symbol_of e.more)
          ∙ ap (λ o. run_on o (map symbol_of e.more)) h ∙ e.run);
    }
