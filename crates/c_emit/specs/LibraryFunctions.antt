-- The functions of FORTRAN over numbers that C has in its library: what each is called there, how many numbers it takes, and the type of what it gives.
-- None of a function that C writes with operators, nor of one over texts. ANSI X3.9-1978, sections 6.1.2.1 and 15.10; MIL-STD-1753 for the bit
-- functions; CSTR 149, on the run time library.
use Rattle.std.specs.Prelude.{ℕ, List, [], ◌∷◌, Option, Some, None, option_map, codes}
use Rattle.l_core.specs.f_tree.declared.names.Basic.{Basic}
use Rattle.l_core.specs.f_tree.declared.names.Basic.TheVariants.{Integer, Logical}
use Rattle.l_core.specs.f_tree.Terms as fortran

pub record LibraryFunction : Type 0 where
  pub name : List ℕ
  pub takes : ℕ
  pub gives : Basic

abbrev pub pow_ii : LibraryFunction
pow_ii = record { name = codes "pow_ii"; takes = 2; gives = Integer }

abbrev pub i_sign : LibraryFunction
i_sign = record { name = codes "i_sign"; takes = 2; gives = Integer }

abbrev pub i_dim : LibraryFunction
i_dim = record { name = codes "i_dim"; takes = 2; gives = Integer }

abbrev pub i_or : LibraryFunction
i_or = record { name = codes "i_or"; takes = 2; gives = Integer }

abbrev pub i_and : LibraryFunction
i_and = record { name = codes "i_and"; takes = 2; gives = Integer }

abbrev pub i_eor : LibraryFunction
i_eor = record { name = codes "i_eor"; takes = 2; gives = Integer }

abbrev pub i_not : LibraryFunction
i_not = record { name = codes "i_not"; takes = 1; gives = Integer }

abbrev pub i_shft : LibraryFunction
i_shft = record { name = codes "i_shft"; takes = 2; gives = Integer }

abbrev pub b_test : LibraryFunction
b_test = record { name = codes "b_test"; takes = 2; gives = Logical }

abbrev pub b_set : LibraryFunction
b_set = record { name = codes "b_set"; takes = 2; gives = Integer }

abbrev pub b_clr : LibraryFunction
b_clr = record { name = codes "b_clr"; takes = 2; gives = Integer }

-- all of them, in the order of the library
abbrev pub library_functions : List LibraryFunction
library_functions = pow_ii ∷ i_sign ∷ i_dim ∷ i_or ∷ i_and ∷ i_eor ∷ i_not ∷ i_shft ∷ b_test ∷ b_set ∷ b_clr ∷ []

-- the one for a function of FORTRAN
unfoldable pub library_function : fortran.Function → Option LibraryFunction
library_function fortran.Power = Some pow_ii
library_function fortran.SignTransfer = Some i_sign
library_function fortran.PositiveDifference = Some i_dim
library_function fortran.InclusiveOr = Some i_or
library_function fortran.LogicalProduct = Some i_and
library_function fortran.ExclusiveOr = Some i_eor
library_function fortran.BitComplement = Some i_not
library_function fortran.BitShift = Some i_shft
library_function fortran.BitTest = Some b_test
library_function fortran.BitSet = Some b_set
library_function fortran.BitClear = Some b_clr
library_function f = None

-- the type of what it gives
unfoldable pub library_type : fortran.Function → Option Basic
library_type f = option_map (λ (one : LibraryFunction). one.gives) (library_function f)

unfoldable pub library_functions_opened : Unit {0}
unfolding library_function library_type
library_functions_opened = tt
