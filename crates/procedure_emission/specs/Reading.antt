-- What temporaries keep, and of what type that is which they keep behind each step: numbers and truth values, and nothing behind a call of a
-- subroutine to which no label is passed. ANSI X3.9-1978, sections 6.1 and 15.6.
use Rattle.std.specs.Prelude.{ℕ, nat_eq, ℤ, Bool, Option, Some, None, if◌then◌else◌}
use Rattle.emitted_texts.specs.f_tree.declared.names.Basic.{Basic}
use Rattle.emitted_texts.specs.f_tree.Values.{Datum, IsInt, IsLog, Nothing}
use Rattle.emitted_texts.specs.l_core.Pures.{Temporaries}
use Rattle.emitted_texts.specs.l_core.Steps.{Step, Keep, Compute, CallFor, CallSub}
use Rattle.emitted_texts.specs.c_emit.Numbers.{Writing}
use Rattle.emitted_texts.specs.c_emit.LibraryFunctions.{library_type}
use Rattle.emitted_texts.specs.c_emit.Types.{type_of}
use Rattle.procedure_emission.specs.ProcedureItems.{basic_wanted}

-- what a temporary may keep
pub data IsPlain : Datum → Type 0 where
  plain_number : (z : ℤ) → IsPlain (IsInt z)
  plain_truth : (b : Bool) → IsPlain (IsLog b)
  plain_nothing : IsPlain Nothing

-- the numbers and truth values among what temporaries keep
unfoldable pub number_kept : Option Datum → Option Datum
number_kept (Some (IsInt z)) = Some (IsInt z)
number_kept (Some (IsLog b)) = Some (IsLog b)
number_kept kept = None

abbrev pub numbers_kept : Temporaries → Temporaries
numbers_kept kept k = number_kept (kept k)

-- the type of what a temporary keeps behind a step
unfoldable pub kind_after : Writing → ℕ → Step → ℕ → Option Basic
kind_after w n (Keep j p) k = if nat_eq k j then type_of w n p else w.kind n k
kind_after w n (Compute j f ps) k = if nat_eq k j then library_type f else w.kind n k
kind_after w n (CallFor j callee ps) k = if nat_eq k j then basic_wanted callee.want else w.kind n k
kind_after w n (CallSub j name ps) k = if nat_eq k j then None else w.kind n k
kind_after w n st k = w.kind n k

unfoldable pub reading_opened : Unit {0}
unfolding number_kept kind_after
reading_opened = tt
