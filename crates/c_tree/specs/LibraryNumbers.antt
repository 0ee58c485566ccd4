-- Powers, SIGN and DIM (ANSI X3.9-1978, 6.1.2.1, 6.6 and 15.10), in exact numbers; a result outside 32 bits is a
-- fault. And the bit functions of MIL-STD-1753.
use Rattle.std.specs.Prelude.{suc, ℤ, pos, negsuc, ◌-ℤ◌, neg_ℤ, unsigned_abs, int_lt, int_div, Bool, Option, Some, None, Ok, if◌then◌else◌}
use Rattle.std.specs.Int.{int_pow}
use Rattle.std.specs.Ordering.{int_eq}
use Rattle.run_state.specs.Bits.{inclusive_or, logical_product, exclusive_or, shifted, bit_at, has_bit, with_bit, without_bit}
use Rattle.c_tree.specs.declared.outcome.CValue.{CValue}
use Rattle.c_tree.specs.declared.outcome.CFault.TheVariants.{ZeroDivide, Library}
use Rattle.c_tree.specs.Faults.{Or, after, failing}
use Rattle.c_tree.specs.Objects.{as_number}
use Rattle.c_tree.specs.Values.{checked}
use Rattle.c_tree.specs.World.{World, Reply, Gives}
use Rattle.c_tree.specs.LibraryArguments.{number_through}

abbrev pub in_32_bits : ℤ → Or ℤ
in_32_bits number = after (checked number) λ typed. as_number typed.value

-- a power; that to a negative exponent is 1 divided by the power, cut towards zero
abbrev pub power : ℤ → ℤ → Or ℤ
power base (pos exponent) = in_32_bits (int_pow base exponent)
power base (negsuc exponent) =
    if int_eq base (pos 0) then failing ZeroDivide else Ok (int_div (pos 1) (int_pow base (suc exponent)))

-- the magnitude of the first number with the sign of the second
abbrev pub signed : ℤ → ℤ → Or ℤ
signed number sign =
    in_32_bits (if int_lt sign (pos 0) then neg_ℤ (pos (unsigned_abs number)) else pos (unsigned_abs number))

-- the difference where it is positive, else 0
abbrev pub positive_difference : ℤ → ℤ → Or ℤ
positive_difference left right = if int_lt right left then in_32_bits (left -ℤ right) else Ok (pos 0)

-- a function of two numbers that its arguments point to
unfoldable pub on_integers : (ℤ → ℤ → Or ℤ) → World → CValue → CValue → Or Reply
on_integers result world first second =
    after (number_through world.objects first) λ left.
    after (number_through world.objects second) λ right.
    after (result left right) λ number.
    Ok (Gives number world)

-- a function of one number that its argument points to
unfoldable pub on_integer : (ℤ → ℤ) → World → CValue → Or Reply
on_integer result world pointer = after (number_through world.objects pointer) λ number. Ok (Gives (result number) world)

-- IOR, IAND and IEOR
abbrev pub either_bit : ℤ → ℤ → Or ℤ
either_bit left right = Ok (inclusive_or left right)

abbrev pub both_bits : ℤ → ℤ → Or ℤ
both_bits left right = Ok (logical_product left right)

abbrev pub one_bit : ℤ → ℤ → Or ℤ
one_bit left right = Ok (exclusive_or left right)

-- a shift or a position outside its bounds is a fault
abbrev pub or_fault : Option ℤ → Or ℤ
or_fault None = failing Library
or_fault (Some number) = Ok number

abbrev pub truth_or_fault : Option Bool → Or ℤ
truth_or_fault None = failing Library
truth_or_fault (Some truth) = Ok (if truth then pos 1 else pos 0)

-- ISHFT, BTEST, IBSET and IBCLR
abbrev pub shifted_bits : ℤ → ℤ → Or ℤ
shifted_bits number count = or_fault (shifted number count)

abbrev pub bit_tested : ℤ → ℤ → Or ℤ
bit_tested number place = truth_or_fault (has_bit number place)

abbrev pub bit_set : ℤ → ℤ → Or ℤ
bit_set number place = or_fault (with_bit number (bit_at place))

abbrev pub bit_cleared : ℤ → ℤ → Or ℤ
bit_cleared number place = or_fault (without_bit number (bit_at place))
