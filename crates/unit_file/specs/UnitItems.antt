-- The flat items of the lowered text of a unit that calls others, one for each bound that it keeps and for each of its steps, and the procedures that its
-- steps call or pass.
-- ANSI X3.9-1978, sections 5.5.1, 8.7, 15.5 and 15.6; C89, 3.3.2.2 and 3.6.
use Rattle.std.specs.Prelude.{ℕ, suc, List, [], ◌∷◌, ◌++◌, length, drop, Option, Some}
use Rattle.main_file.specs.f_tree.declared.names.Class.{Class}
use Rattle.main_file.specs.f_tree.declared.names.Class.TheVariants as class
use Rattle.main_file.specs.f_tree.Values.{Bytes}
use Rattle.main_file.specs.f_tree.Facts.{Facts}
use Rattle.main_file.specs.l_core.Pures.{Name, Pures, NoPure, AndPure}
use Rattle.main_file.specs.l_core.Steps.{Step}
use Rattle.main_file.specs.c_tree.Flat.{Flat}
use Rattle.main_file.specs.c_emit.Numbers.{Writing}
use Rattle.main_file.specs.MainItems.{item_before}
use Rattle.bound_items.specs.BoundItems.{Saving, saving_item}
use Rattle.procedure_emission.specs.ProcedureItems.{Numbers, procedure_item}

-- ## Items

-- the items of steps from a position on, given the numbers of the functions
unfoldable pub unit_items : Numbers → Writing → (ℕ → Option ℕ) → ℕ → List Step → Option (List Flat)
unit_items numbers w label n [] = Some []
unit_items numbers w label n (st ∷ later) = item_before (procedure_item numbers w (λ m. m) label n st) (unit_items numbers w label (suc n) later)

-- the items by which bounds are kept, before others
unfoldable pub saving_items : Writing → List Saving → Option (List Flat) → Option (List Flat)
saving_items w [] items = items
saving_items w (one ∷ later) items = item_before (saving_item w one) (saving_items w later items)

-- those of a text whose first steps stand for what is kept, one for each, and do nothing themselves
unfoldable pub whole_items : Numbers → Writing → (ℕ → Option ℕ) → List Saving → List Step → Option (List Flat)
whole_items numbers w label savings steps = saving_items w savings (unit_items numbers w label (length savings) (drop (length savings) steps))

-- ## What steps call

-- a procedure that is called by its name, and one that is passed by its name
unfoldable pub procedure_called : Class → Bytes → List Bytes
procedure_called class.Procedure x = x ∷ []
procedure_called class.Result x = x ∷ []
procedure_called class.Unit x = x ∷ []
procedure_called other x = []

unfoldable pub procedure_passed : Class → Bytes → List Bytes
procedure_passed class.Procedure x = x ∷ []
procedure_passed other x = []

unfoldable pub procedures_passed : Facts → Pures → List Bytes
procedures_passed c NoPure = []
procedures_passed c (AndPure (Name x) ps) = procedure_passed (c.program.attribute x).class x ++ procedures_passed c ps
procedures_passed c (AndPure p ps) = procedures_passed c ps

unfoldable pub procedures_named : Facts → Bytes → Pures → List Bytes
procedures_named c x ps = procedure_called (c.program.attribute x).class x ++ procedures_passed c ps

unfoldable pub unit_items_opened : Unit {0}
unfolding unit_items saving_items whole_items procedure_called procedure_passed procedures_passed procedures_named
unit_items_opened = tt
