-- Numbers before H, which count up to the greatest number that the code has.
use Rattle.std.specs.Prelude.{min, Some, None}
use Rattle.fortran_text.specs.declared.characters.Standing.{Standing}
use Rattle.fortran_text.specs.declared.characters.Standing.TheVariants.{Outside, Inside, Closed, Parted, Counted}

abbrev pub capped : Standing → Standing
capped (Outside None) = Outside None
capped (Outside (Some n)) = Outside (Some (min n 18446744073709551615))
capped Inside = Inside
capped Closed = Closed
capped Parted = Parted
capped (Counted n) = Counted n
