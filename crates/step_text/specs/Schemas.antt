-- The test of the header's schema.
use Rattle.std.specs.Prelude.{ℕ, Bool, false, ◌&&◌, List, [], ◌∷◌, codes}
use Rattle.std.specs.List.{list_any}
use Rattle.std.specs.Str.{str_eq_ignore_ascii_case}
use Rattle.spec_step.specs.Spans.{bytes_at}
use Rattle.spec_step.specs.declared.tree.Param.{Param, out-Param}
use Rattle.spec_step.specs.declared.tree.Param.TheOpen.{Param-F}
use Rattle.spec_step.specs.declared.tree.Param.TheOpen as layer
use Rattle.spec_step.specs.declared.tree.Entry.{Entry}

abbrev pub is_schema_layer : List ℕ → Param-F Param → Bool
is_schema_layer s (layer.Text p) = str_eq_ignore_ascii_case (bytes_at s p) (codes "'IFC4'")
is_schema_layer s layer.Unset = false
is_schema_layer s layer.Derived = false
is_schema_layer s (layer.Int p) = false
is_schema_layer s (layer.Real p) = false
is_schema_layer s (layer.Enumeration p) = false
is_schema_layer s (layer.Binary p) = false
is_schema_layer s (layer.Reference n) = false
is_schema_layer s (layer.List ps) = false
is_schema_layer s (layer.Typed k p) = false

-- a text that names a schema that is read
abbrev pub is_schema : List ℕ → Param → Bool
is_schema s p = is_schema_layer s (out-Param p)

abbrev pub list_layer : List ℕ → Param-F Param → Bool
list_layer s (layer.List ps) = list_any (is_schema s) ps
list_layer s layer.Unset = false
list_layer s layer.Derived = false
list_layer s (layer.Int p) = false
list_layer s (layer.Real p) = false
list_layer s (layer.Text p) = false
list_layer s (layer.Enumeration p) = false
list_layer s (layer.Binary p) = false
list_layer s (layer.Reference n) = false
list_layer s (layer.Typed k p) = false

-- a list with such a text
abbrev pub is_schema_list : List ℕ → Param → Bool
is_schema_list s p = list_layer s (out-Param p)

abbrev pub is_schema_first : List ℕ → List Param → Bool
is_schema_first s [] = false
is_schema_first s (p ∷ ps) = is_schema_list s p

-- an entry FILE_SCHEMA whose first parameter is such a list
abbrev pub is_schema_entry : List ℕ → Entry → Bool
is_schema_entry s e = str_eq_ignore_ascii_case (bytes_at s e.keyword) (codes "FILE_SCHEMA") && is_schema_first s e.params
