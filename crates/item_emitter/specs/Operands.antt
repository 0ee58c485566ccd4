-- Acts of a transfer by their operands: the unit of one that begins, and what ends; the operands of functions of the library; and which arguments of a
-- subroutine are labels. ANSI X3.9-1978, sections 12.8, 13.6, 15.6.2.3 and 15.10.
use Rattle.std.specs.Prelude.{ℕ, zero, suc, ℤ, Bool, true, false, ◌&&◌, List, map, Option, Some, None, option_map}
use Rattle.f_tree.specs.Values.{Datum, IsInt, IsLabel, in_range}
use Rattle.f_tree.specs.Facts.{Direction, Output, Layout, Listed, Controls}
use Rattle.lowered_tree.specs.l_core.Pures.{Pure, Constant, Pures}
use Rattle.c_tree.specs.declared.expression.CExpr.{CExpr}
use Rattle.c_emit.specs.LibraryFunctions.{LibraryFunction}
use Rattle.c_emit.specs.Calls.{is_plain}
use Rattle.named_items.specs.declared.item.Item.{Item}
use Rattle.named_items.specs.declared.item.Item.TheVariants as item
use Rattle.named_items.specs.Items.{by_name}
use Rattle.item_emission.specs.NamedEmission.{Knowledge, address_expr, held_expr, held_exprs, start_if, start_step, finish_step}

-- is what is passed a label
unfoldable pub is_label_written : Datum → Bool
is_label_written (IsLabel label) = true
is_label_written d = false

unfoldable pub is_label : Pure → Bool
is_label (Constant d) = is_label_written d
is_label p = false

-- the integer that a value is
unfoldable pub integer_in : Pure → Option ℤ
integer_in (Constant (IsInt z)) = Some z
integer_in p = None

-- the start of an output on a unit
unfoldable pub start_unit : Knowledge → ℕ → Controls → Option ℤ → Option Item
start_unit known n controls None = None
start_unit known n controls (Some unit) = start_if (is_plain controls && in_range unit) (known.list n)

-- the start of a transfer
unfoldable pub begin_step : Knowledge → ℕ → Direction → Layout → Controls → Pures → Option Item
begin_step known n Output Listed controls ps = start_step known n controls ps
begin_step known n way layout controls ps = None

-- the end of a transfer that passes so many steps
unfoldable pub finish_at : ℕ → Pures → Option Item
finish_at zero ps = finish_step ps
finish_at (suc m) ps = None

-- the address of what holds an operand of a function of the library, and those of the operands one after the other
unfoldable pub passed_expr : Knowledge → Pure → Option CExpr
passed_expr known p = option_map address_expr (held_expr known p)

unfoldable pub passed_exprs : Knowledge → Pures → Option (List CExpr)
passed_exprs known ps = option_map (map address_expr) (held_exprs known ps)

-- a call of a function of the library whose value is stored, where there are a place for it, a function and arguments
unfoldable pub called : Option CExpr → Option LibraryFunction → Option (List CExpr) → Option Item
called (Some target) (Some function) (Some arguments) = Some (item.SetCall target (by_name function.name) arguments)
called target function arguments = None

unfoldable pub operands_opened : Unit {0}
unfolding is_label_written is_label integer_in start_unit begin_step finish_at passed_expr passed_exprs called
operands_opened = tt
