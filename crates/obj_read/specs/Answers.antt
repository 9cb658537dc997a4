-- What the reading of a page answers.
use Rattle.std.specs.Prelude.{◌≡◌, ℕ, List, Result, Ok, Err, ⊤}
use Rattle.spec_page.specs.Items.{Item}
use Rattle.spec_check.specs.Grammar.{IsBadLine}
use Rattle.obj_file.specs.Files.{items_of}
use Rattle.obj_file.specs.declared.file.ObjFile.{ObjFile}
use Rattle.obj_file.specs.declared.fault.ObjFault.{ObjFault}
use Rattle.obj_file.specs.declared.fault.ObjFault.TheVariants.{Line, NoMemory}

-- the text has its first line that is not allowed there; want of memory is free
abbrev pub HasLine : List ℕ → ObjFault → Type 0
HasLine text (Line n) = IsBadLine text n
HasLine text NoMemory = ⊤

-- a page stands for one grid and one list of items: these are read, or memory is wanting
abbrev pub IsReadOrWants : ℕ → List Item → Result ObjFile ObjFault → Type 0
IsReadOrWants grid items (Ok f) = (f.grid ≡ grid) × (items_of f ≡ items)
IsReadOrWants grid items (Err (Line n)) = ⊥
IsReadOrWants grid items (Err NoMemory) = ⊤
