-- What the words of a command say. Assumes nothing.
use Rattle.std.specs.Prelude.{◌≡◌, ℕ, ◌+◌, ◌^◌, ◌<◌, cond, List, [], map, length, Some, None, Ok, Err, vec_items, string_bytes, Option, Result, Vec, String, ◌==◌, slice_index, slice_index_or}
use Rattle.std.specs.Str.Parse.{IsNumeral, digits_value, without_leading_plus}
use Rattle.std.specs.declared.alloc.Global.{Global}
use Rattle.traceroute.specs.declared.command.Command.{Command}
use Rattle.traceroute.specs.declared.shape_name.ShapeName.{ShapeName}
use Rattle.traceroute.specs.declared.word_error.WordError.{WordError}
use Rattle.traceroute.specs.declared.word_error.WordError.TheVariants.{NoShape, NoNumber, WrongCount, OutOfMemory}
use Rattle.traceroute.specs.Names.{Named, size_count, shape_of}

-- the word is a decimal numeral, with or without a plus, of a number under 2 ^ 64
abbrev pub Decimal : List ℕ → Type 0
Decimal word = IsNumeral 10 (without_leading_plus word) × (digits_value 10 (without_leading_plus word) < 2 ^ 64)

abbrev pub Reads : List ℕ → Option ℕ → Type 0
Reads word (Some n) = Decimal word × (n ≡ digits_value 10 (without_leading_plus word))
Reads word None = Decimal word → ⊥

-- the sizes, then the two nodes, and nothing more
abbrev pub as_command : ShapeName → List ℕ → Option Command
as_command name xs = cond (length xs == size_count name + 2)
    (Some (record { name = name; shape = shape_of name (slice_index xs 0) (slice_index xs 1); start = slice_index xs (size_count name); end = slice_index xs (size_count name + 1) }))
    None

-- the bytes of each word
abbrev pub texts : List (String Global) → List (List ℕ)
texts words = map string_bytes words

-- the k words after the first write the numbers, in order
abbrev pub Written : List (List ℕ) → ℕ → List ℕ → Type 0
Written words k xs = (i : ℕ) → i < k → Reads (slice_index_or words (i + 1) []) (Some (slice_index xs i))

-- all the words after the first write the numbers
pub record Numbers (words : List (List ℕ)) (xs : List ℕ) : Type 0 where
  pub count : length words ≡ length xs + 1
  pub written : Written words (length xs) xs

-- of the words after the first, the one at the place is the earliest that writes no number
pub record NoneAt (words : List (List ℕ)) (place : ℕ) : Type 0 where
  pub after_first : 0 < place
  pub inside : place < length words
  pub unread : Reads (slice_index_or words place []) None
  pub earliest : (i : ℕ) → 0 < i → i < place → Decimal (slice_index_or words i [])

-- what reading the numbers answers
abbrev pub Numbered : List (List ℕ) → Result (Vec ℕ Global) WordError → Type 0
Numbered words (Ok xs) = Numbers words (vec_items xs)
Numbered words (Err NoShape) = ⊥
Numbered words (Err (NoNumber place)) = NoneAt words place
Numbered words (Err (WrongCount sizes)) = ⊥
Numbered words (Err OutOfMemory) = Unit {0}

-- the first word names a shape, or there is none that does
abbrev pub FirstNamed : List (List ℕ) → Option ShapeName → Type 0
FirstNamed words (Some name) = (0 < length words) × Named (slice_index_or words 0 []) (Some name)
FirstNamed words None = 0 < length words → Named (slice_index_or words 0 []) None

-- the words after the first write numbers, and they are, or are not, those of a command
pub record Commands (words : List (List ℕ)) (name : ShapeName) (command : Option Command) : Type 0 where
  pub named : FirstNamed words (Some name)
  pub numbers : List ℕ
  pub written : Numbers words numbers
  pub command_is : command ≡ as_command name numbers

-- What reading a command answers. The first word names the shape, which is asked first; the others write its numbers;
-- and there are as many as it takes.
abbrev pub Parsed : List (List ℕ) → Result Command WordError → Type 0
Parsed words (Ok c) = Commands words c.name (Some c)
Parsed words (Err NoShape) = FirstNamed words None
Parsed words (Err (NoNumber place)) = ((name : ShapeName) × FirstNamed words (Some name)) × NoneAt words place
Parsed words (Err (WrongCount sizes)) = (name : ShapeName) × (sizes ≡ size_count name) × Commands words name None
Parsed words (Err OutOfMemory) = (name : ShapeName) × FirstNamed words (Some name)
