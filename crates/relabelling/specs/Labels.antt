-- What making a labelling answers. Assumes nothing.
use Rattle.std.specs.Prelude.{◌≡◌, ℕ, ◌<◌, ◌≤◌, List, length, Ok, Err, Result, ◌≢◌, slice_index}
use Rattle.relabelling.specs.declared.labelling.Labelling.{Labelling}
use Rattle.relabelling.specs.declared.refusal.LabellingRefusal.{LabellingRefusal}
use Rattle.relabelling.specs.declared.refusal.LabellingRefusal.TheVariants.{Count, Outside, Repeated}

-- There are 2 to 64.
abbrev pub Counted : List ℕ → Type 0
Counted xs = (2 ≤ length xs) × (length xs ≤ 64)

-- Each of the first k is less than the number of all,
abbrev pub WithinBelow : ℕ → List ℕ → Type 0
WithinBelow k xs = (i : ℕ) → i < k → slice_index xs i < length xs

abbrev pub Within : List ℕ → Type 0
Within xs = WithinBelow (length xs) xs

-- and none of the first k is repeated.
abbrev pub OnceBelow : ℕ → List ℕ → Type 0
OnceBelow k xs = (i j : ℕ) → i < j → j < k → slice_index xs i ≢ slice_index xs j

abbrev pub Once : List ℕ → Type 0
Once xs = OnceBelow (length xs) xs

-- i is the first that is not less than their number
pub record Outsider (xs : List ℕ) (i : ℕ) : Type 0 where
  pub label_in : i < length xs
  pub position_out : length xs ≤ slice_index xs i
  pub earliest : WithinBelow i xs

-- j is the first that an earlier one equals, and i is that one
pub record Repeat (xs : List ℕ) (i j : ℕ) : Type 0 where
  pub before : i < j
  pub label_in : j < length xs
  pub same : slice_index xs i ≡ slice_index xs j
  pub earliest : OnceBelow j xs

-- The labelling has as many labels, and each its position.
pub record Listed (xs : List ℕ) (l : Labelling) : Type 0 where
  pub count_is : l.count ≡ length xs
  pub positions_are : (i : ℕ) → i < length xs → slice_index l.positions i ≡ slice_index xs i

-- The first question that the bytes fail, with the place where they do.
abbrev pub Refused : List ℕ → LabellingRefusal → Type 0
Refused xs (Count count) = (Counted xs → ⊥) × (count ≡ length xs)
Refused xs (Outside label position) = Counted xs × Outsider xs label × (position ≡ slice_index xs label)
Refused xs (Repeated first second) = Counted xs × Within xs × Repeat xs first second

-- Refused by the first question that fails; else a labelling that lists the bytes.
abbrev pub Labelled : List ℕ → Result Labelling LabellingRefusal → Type 0
Labelled xs (Err refusal) = Refused xs refusal
Labelled xs (Ok l) = Counted xs × Within xs × Once xs × Listed xs l
