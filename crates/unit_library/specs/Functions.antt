-- The functions of the library by their numbers, in the table of the code (CSTR 149, appendix on the run time library).
use Rattle.std.specs.Prelude.{ℕ, length}
use Rattle.c_tree.specs.World.{Output, Input}
use Rattle.c_tree.specs.Builtins as builtins
use Rattle.c_tree.specs.Builtins.{Builtin, Begin, Signature, signatures, Style, ByFormat, ByList, Site, OnUnit, InMemory, TransferKind, transfer_kind}
use Rattle.unit_library.specs.declared.functions.NumberFunction.{NumberFunction}
use Rattle.unit_library.specs.declared.functions.NumberFunction.TheVariants as numeric
use Rattle.unit_library.specs.declared.functions.TextFunction.{TextFunction}
use Rattle.unit_library.specs.declared.functions.TextFunction.TheVariants as textual
use Rattle.unit_library.specs.declared.functions.UnitStatement.{UnitStatement}
use Rattle.unit_library.specs.declared.functions.UnitStatement.TheVariants as stating
use Rattle.unit_library.specs.declared.functions.TransferType.{TransferType}
use Rattle.unit_library.specs.declared.functions.TransferType.TheVariants as moved
use Rattle.unit_library.specs.declared.functions.LibraryFunction.{LibraryFunction}
use Rattle.unit_library.specs.declared.functions.LibraryFunction.TheVariants as named

abbrev pub number_builtin : NumberFunction → Builtin
number_builtin numeric.Power = builtins.pow_ii
number_builtin numeric.Sign = builtins.i_sign
number_builtin numeric.Difference = builtins.i_dim
number_builtin numeric.EitherBit = builtins.i_or
number_builtin numeric.BothBits = builtins.i_and
number_builtin numeric.OneBit = builtins.i_eor
number_builtin numeric.Shift = builtins.i_shft
number_builtin numeric.BitTest = builtins.b_test
number_builtin numeric.BitSet = builtins.b_set
number_builtin numeric.BitClear = builtins.b_clr

abbrev pub text_builtin : TextFunction → Builtin
text_builtin textual.Compare = builtins.s_cmp
text_builtin textual.Index = builtins.i_indx
text_builtin textual.NotBelow = builtins.l_ge
text_builtin textual.Above = builtins.l_gt
text_builtin textual.NotAbove = builtins.l_le
text_builtin textual.Below = builtins.l_lt

abbrev pub statement_builtin : UnitStatement → Builtin
statement_builtin stating.Open = builtins.f_open
statement_builtin stating.Close = builtins.f_clos
statement_builtin stating.Back = builtins.f_back
statement_builtin stating.Rewind = builtins.f_rew
statement_builtin stating.End = builtins.f_end

abbrev pub kind_of : TransferType → TransferKind
kind_of moved.FormattedOutput = transfer_kind Output ByFormat OnUnit
kind_of moved.FormattedInput = transfer_kind Input ByFormat OnUnit
kind_of moved.ListedOutput = transfer_kind Output ByList OnUnit
kind_of moved.ListedInput = transfer_kind Input ByList OnUnit
kind_of moved.InternalFormattedOutput = transfer_kind Output ByFormat InMemory
kind_of moved.InternalFormattedInput = transfer_kind Input ByFormat InMemory
kind_of moved.InternalListedOutput = transfer_kind Output ByList InMemory
kind_of moved.InternalListedInput = transfer_kind Input ByList InMemory

abbrev pub builtin_of : LibraryFunction → Builtin
builtin_of named.Assign = builtins.s_copy
builtin_of named.Join = builtins.s_cat
builtin_of (named.Texts which) = text_builtin which
builtin_of (named.Numbers which) = number_builtin which
builtin_of named.Complement = builtins.i_not
builtin_of named.Stop = builtins.s_stop
builtin_of named.Range = builtins.s_rnge
builtin_of (named.Begin which) = builtins.Begin (kind_of which)
builtin_of (named.Finish which) = builtins.Finish (kind_of which)
builtin_of named.FormattedItems = builtins.do_fio
builtin_of named.ListedItems = builtins.do_lio
builtin_of (named.Statement which) = statement_builtin which

-- how many values a function takes
abbrev pub argument_count : LibraryFunction → ℕ
argument_count named.Assign = 4
argument_count named.Join = 5
argument_count (named.Texts which) = 4
argument_count (named.Numbers which) = 2
argument_count named.Complement = 1
argument_count named.Stop = 2
argument_count named.Range = 4
argument_count (named.Begin which) = 1
argument_count (named.Finish which) = 0
argument_count named.FormattedItems = 3
argument_count named.ListedItems = 4
argument_count (named.Statement which) = 1

-- a function with the number of its values
pub record Form : Type 0 where
  pub builtin : Builtin
  pub count : ℕ

abbrev pub form_of : LibraryFunction → Form
form_of function = record { builtin = builtin_of function; count = argument_count function }

abbrev pub listed_form : Signature → Form
listed_form signature = record { builtin = signature.builtin; count = length signature.takes }
