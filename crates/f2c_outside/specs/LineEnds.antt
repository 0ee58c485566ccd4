-- Where the lines of a real file stand: each ends with an LF, which the last may lack.
use Rattle.std.specs.Prelude.{ℕ, ◌+◌, ◌-◌, ◌^◌, min, Bool, if◌then◌else◌}

-- the byte behind a line of so many bytes, which has an LF or lacks it; it stays at the end of its type
abbrev pub behind_line : ℕ → ℕ → Bool → ℕ
behind_line offset length ended = min (min (offset + length) (2 ^ 64 - 1) + (if ended then 1 else 0)) (2 ^ 64 - 1)
