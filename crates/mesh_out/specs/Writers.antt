-- What is known of a writer, and which of several is chosen by a name.
use Rattle.std.specs.Prelude.{ℕ, List, Option}
use Rattle.std.specs.List.{find}
use Rattle.std.specs.Str.{bytes_eq}
use Rattle.world_print.specs.Elements.{Mesh}

-- its name, the meshes that it took, and its text for each list of meshes
pub record Writer : Type 0 where
  pub name : List ℕ
  pub taken : List Mesh
  pub text_for : List Mesh → List ℕ

abbrev pub known_writer : List ℕ → List Mesh → (List Mesh → List ℕ) → Writer
known_writer name taken text_for = record { name = name; taken = taken; text_for = text_for }

-- the first of a name
abbrev pub first_named : List ℕ → List Writer → Option Writer
first_named name writers = find (λ w. bytes_eq w.name name) writers
