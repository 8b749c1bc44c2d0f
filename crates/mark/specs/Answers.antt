-- Document 01, "Line examples": what the program prints for a record.
use Rattle.std.specs.Prelude.{ℕ, ◌≡◌, List, take, replicate}
use Rattle.marker.specs.declared.Marked.{Marked}
use Rattle.marker.specs.Marks.{Marks}
use Rattle.report.specs.Verdict.{text_of}

-- the text of what the marker hands out for these bytes, with a table that has a place for every entry of the longest record
pub record Answers (bytes text : List ℕ) : Type 0 where
  pub marked : Marked
  pub table : List ℕ
  pub marks : Marks bytes (replicate 5461 0) marked table
  pub told : text ≡ text_of marked (take marked.count table)
