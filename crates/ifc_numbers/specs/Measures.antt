-- How the geometry of a file is read.
use Rattle.std.specs.Prelude.{ℕ, ℤ, pos, ◌^◌, ◌≤◌, ◌≤ℤ◌}
use Rattle.spec_table.specs.Sections.{DataSection}
use Rattle.spec_geometry.specs.Files.{File}

-- a unit of length in nanometres, and a grid in micrometres
pub record Measures : Type 0 where
  pub unit : ℤ
  pub grid : ℕ

-- a grid has from 1 to 10,000 micrometres
pub record IsGrid (grid : ℕ) : Type 0 where
  pub low : 1 ≤ grid
  pub high : grid ≤ 10000

-- the file that is read by these measures
abbrev pub file_of : DataSection → Measures → File
file_of section g = record { section = section; unit = g.unit; grid = g.grid }

-- a length from 0 to 10^16 nanometres
pub record IsExtent (length : ℤ) : Type 0 where
  pub above : pos 0 ≤ℤ length
  pub most : length ≤ℤ pos (10 ^ 16)
