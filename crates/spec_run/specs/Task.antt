-- What a task is: what a job promises, with its options.
use Rattle.std.specs.Prelude.{ℕ, Bool, List}
use Rattle.ix_words.specs.declared.status.Status.{Status}

pub record Task : Type 1 where
  -- the source is read to its end, or else left as it was
  pub reads : Bool
  -- a page is made, or else it stays empty; and the page is put to the output
  pub makes : Bool
  pub puts : Bool
  -- what is answered, and why an input may be refused
  pub Answer : Type 0
  pub Fault : Type 0
  -- these bytes are an input that is answered; they are refused for this reason
  pub IsTaken : List ℕ → Type 0
  pub IsRefused : List ℕ → Fault → Type 0
  -- of these bytes this page is made, and this is the answer
  pub IsAnswer : List ℕ → List ℕ → Answer → Type 0
  -- what holds besides of such a page
  pub IsSound : List ℕ → Type 0
  -- the status and the report of an answer, and what the report says of a reason
  pub status : Answer → Status
  pub report : Answer → List ℕ
  pub reason : Fault → List ℕ
