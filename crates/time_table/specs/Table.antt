-- A table of times as contracts see it: how many sites it is of, and its rows one after the other.
use Rattle.std.specs.Prelude.{ℕ, ◌*◌, List, max, replicate}
use Rattle.helios_model.specs.Grid.{at, put}
use Rattle.helios_model.specs.Exchange.{merged}

-- a time for each pair of sites, row after row: up to when the site of the row knows that of the column
pub record TableData : Type 0 where
  pub count : ℕ
  pub times : List ℕ

abbrev pub first_table : ℕ → TableData
first_table count = record { count = count; times = replicate (count * count) 0 }

-- the time in a row and a column
abbrev pub time_at : TableData → ℕ → ℕ → ℕ
time_at t row column = at t.count t.times row column

-- the table with the greater of the time that it has there and this one
abbrev pub raised : TableData → ℕ → ℕ → ℕ → TableData
raised t row column to = record { count = t.count; times = put t.count t.times row column (max (time_at t row column) to) }

-- the table of a site that takes in a message's table and cover
abbrev pub merged_with : TableData → ℕ → List ℕ → List ℕ → TableData
merged_with t own theirs cover = record { count = t.count; times = merged t.count own t.times theirs cover }
