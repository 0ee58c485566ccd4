-- The bit functions over the 32 bits of a number, in two's complement. MIL-STD-1753: IOR, IAND, IEOR, NOT, ISHFT, BTEST, IBSET, IBCLR.
use Rattle.std.specs.Prelude.{ℕ, suc, ◌/◌, ◌%◌, ◌^◌, nat_le, nat_lt, nat_eq, ℤ, pos, negsuc, Bool, Option, Some, None, if◌then◌else◌}
use Rattle.std.specs.Int.{w32, cast_unsigned, cast_signed, int_bit_and, int_bit_or, int_bit_xor, int_bit_not, int_shl}

-- each bit by those of two numbers, and each bit turned over
unfoldable pub inclusive_or : ℤ → ℤ → ℤ
inclusive_or a b = int_bit_or w32 a b

unfoldable pub logical_product : ℤ → ℤ → ℤ
logical_product a b = int_bit_and w32 a b

unfoldable pub exclusive_or : ℤ → ℤ → ℤ
exclusive_or a b = int_bit_xor w32 a b

unfoldable pub complement : ℤ → ℤ
complement a = int_bit_not w32 a

-- a shift to the left by a positive count and to the right by a negative one, from -32 to 32; zeros come in
unfoldable pub shifted : ℤ → ℤ → Option ℤ
shifted a (pos n) = if nat_le n 32 then Some (int_shl w32 a n) else None
shifted a (negsuc n) = if nat_lt n 32 then Some (cast_signed w32 (cast_unsigned w32 a / 2 ^ suc n)) else None

-- the number with one bit set, by its position from 0, the lowest, to 31
unfoldable pub bit_at : ℤ → Option ℤ
bit_at (pos n) = if nat_lt n 32 then Some (int_shl w32 (pos 1) n) else None
bit_at (negsuc n) = None

-- is the bit set; the number with the bit set, and with it cleared
unfoldable pub has_bit : ℤ → ℤ → Option Bool
has_bit a (pos n) = if nat_lt n 32 then Some (nat_eq (cast_unsigned w32 a / 2 ^ n % 2) 1) else None
has_bit a (negsuc n) = None

unfoldable pub with_bit : ℤ → Option ℤ → Option ℤ
with_bit a None = None
with_bit a (Some bit) = Some (inclusive_or a bit)

unfoldable pub without_bit : ℤ → Option ℤ → Option ℤ
without_bit a None = None
without_bit a (Some bit) = Some (logical_product a (complement bit))

unfoldable pub bits_opened : Unit {0}
unfolding inclusive_or logical_product exclusive_or complement shifted bit_at has_bit with_bit without_bit
bits_opened = tt
