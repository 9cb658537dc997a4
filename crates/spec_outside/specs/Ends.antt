-- What clauses see of the project's own sources and sinks.
use Rattle.std.specs.Prelude.{ℕ, ◌+◌, ◌-◌, ◌^◌, min, List, Option}

-- a counter that stays at the end of its type, 2^64 - 1
abbrev pub next_count : ℕ → ℕ
next_count n = min (n + 1) (2 ^ 64 - 1)

-- the bytes held, the number of bytes that find room, and the count of faults
pub record MemorySink : Type 0 where
  pub held : List ℕ
  pub room : ℕ
  pub faults : ℕ

-- the bytes left, the most bytes of one call, the numbers of the calls that fail, from 1, and the counts of calls and
-- faults
pub record FailingSource : Type 0 where
  pub left : List ℕ
  pub most : ℕ
  pub fail_at : List ℕ
  pub calls : ℕ
  pub faults : ℕ

-- the bytes held, the number of bytes that find room, the most bytes of one call, the numbers of the calls that fail,
-- from 1, and the counts of calls and faults
pub record FailingSink : Type 0 where
  pub held : List ℕ
  pub room : ℕ
  pub most : ℕ
  pub fail_at : List ℕ
  pub calls : ℕ
  pub faults : ℕ

-- a reader or a writer of std, and the count of its faults
pub record Counted (X : Type 0) : Type 0 where
  pub inner : X
  pub faults : ℕ

-- what is known of a source or of a sink: the bytes that it still has to give, or that it holds, where it tells them, and
-- its count of faults
pub record Known : Type 0 where
  pub bytes : Option (List ℕ)
  pub faults : ℕ

abbrev pub known : Option (List ℕ) → ℕ → Known
known bytes faults = record { bytes = bytes; faults = faults }
