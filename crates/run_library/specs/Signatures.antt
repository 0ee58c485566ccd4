-- What functions of the library take (CSTR 149, appendix on the run time library).
use Rattle.std.specs.Prelude.{◌≡◌, ℕ, true, List, Some, slice_get}
use Rattle.c_tree.specs.declared.outcome.CValue.{CValue}
use Rattle.c_tree.specs.Builtins.{Signature, signatures}
use Rattle.c_tree.specs.Steps.{takes_all}

-- a function of the library that is called with values that it takes
pub record IsCall (number : ℕ) (values : List CValue) : Type 0 where
  pub signature : Signature
  pub known : slice_get signatures number ≡ Some signature
  pub agrees : takes_all signature.takes values ≡ true
