-- A text that is put together in a buffer, which may be longer than the buffer.
use Rattle.std.specs.Prelude.{◌≡◌, ℕ, List, length, take}

-- the first `used` bytes of a buffer are the text, cut where the buffer ends
abbrev pub Gathers : List ℕ → ℕ → List ℕ → Type 0
Gathers buffer used text = take used buffer ≡ take (length buffer) text
