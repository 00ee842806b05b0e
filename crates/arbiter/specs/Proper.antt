-- The lists that an arbiter answers. Assumes nothing.
use Rattle.std.specs.Prelude.{ℕ, ◌<◌, ◌≤◌, List, [], ◌∷◌, length, slice_index_or}
use Rattle.std.specs.List.{AllByRecursion}
use Rattle.arbiter.specs.declared.entry.Entry.{Entry}

-- Link numbers are under the one, and buffer numbers under the other.
abbrev pub link_limit : ℕ
link_limit = 448

abbrev pub buffer_limit : ℕ
buffer_limit = 2048

-- What is read past a list's end.
abbrev pub no_entry : Entry
no_entry = record { buffer = 0; packet = 0 }

-- The buffer number at a place of the list.
abbrev pub buffer_at : List Entry → ℕ → ℕ
buffer_at es i = (slice_index_or es i no_entry).buffer

-- The packet number at a place of the list.
abbrev pub packet_at : List Entry → ℕ → ℕ
packet_at es i = (slice_index_or es i no_entry).packet

-- The buffer numbers rise strictly.
abbrev pub Rising : List Entry → Type 0
Rising [] = Unit {0}
Rising (e ∷ es) = AllByRecursion (λ f. e.buffer < f.buffer) es × Rising es

-- They rise strictly and are under 2,048.
pub record Ordered (es : List Entry) : Type 0 where
  pub rising : Rising es
  pub under : AllByRecursion (λ e. e.buffer < buffer_limit) es

-- Asked for a link: a link number under 448, and 1 to 2,048 entries in order.
pub record Proper (link : ℕ) (es : List Entry) : Type 0 where
  pub link_under : link < link_limit
  pub some : 1 ≤ length es
  pub few : length es ≤ buffer_limit
  pub ordered : Ordered es
