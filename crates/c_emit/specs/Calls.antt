-- The flat C items that are calls of the library: those for the steps of a list-directed output of numbers on a unit that is written as a constant, for STOP,
-- and for a function of numbers that C has in its library. ANSI X3.9-1978, sections 6.1.2.1, 11.12, 12.8, 13.6 and 15.10; MIL-STD-1753; CSTR 149, on the run
-- time library.
use Rattle.std.specs.Prelude.{ℕ, ◌+◌, ℤ, pos, Bool, true, false, ◌&&◌, List, [], ◌∷◌, map, length, position, Option, Some, None, is_none, option_and_then, unwrap_or, bytes_eq, codes, if◌then◌else◌}
use Rattle.l_core.specs.f_tree.declared.names.Basic.{Basic}
use Rattle.l_core.specs.f_tree.declared.names.Basic.TheVariants.{Integer, Logical}
use Rattle.l_core.specs.f_tree.Values.{Bytes, Datum, IsInt, IsLog, in_range}
use Rattle.l_core.specs.f_tree.Facts.{Word, UnitWord, Controls}
use Rattle.l_core.specs.Pures.{Pure, Constant, Temporary, Load, Pures, NoPure, AndPure}
use Rattle.c_image.specs.c_tree.declared.types.CastType.TheVariants as to
use Rattle.c_image.specs.c_tree.declared.types.ListType.TheVariants as list_type
use Rattle.c_image.specs.c_tree.declared.expression.UnaryOp.TheVariants as prefix
use Rattle.c_image.specs.c_tree.Access.{ToNumber, ToChar, ToList}
use Rattle.c_image.specs.c_tree.Terms as c
use Rattle.c_image.specs.c_tree.Terms.{Term}
use Rattle.c_image.specs.c_tree.Flat.{Flat, Invoke, Ignored, Kept, Direct}
use Rattle.c_image.specs.c_tree.Builtins.{builtin_names}
use Rattle.c_emit.specs.Numbers.{Writing, one_more, place_term, if_number}
use Rattle.c_emit.specs.LibraryFunctions.{LibraryFunction}
use Rattle.c_emit.specs.Types.{type_of}

-- the number of a function of the library
abbrev pub routine_of : Writing → List ℕ → ℕ
routine_of w name = w.library.own + unwrap_or (position (bytes_eq name) builtin_names) 0

-- a call of a function of the library, whose value is not used
unfoldable pub call_of : Writing → List ℕ → List Term → Flat
call_of w name arguments = Invoke Ignored (Direct (routine_of w name)) arguments

abbrev pub address_of : Term → Term
address_of term = c.Prefixed prefix.Address term

-- a unit alone is written, and where control goes at an error or at an end is not
unfoldable pub is_unit_alone : List Word → Bool
is_unit_alone (UnitWord ∷ []) = true
is_unit_alone words = false

unfoldable pub is_plain : Controls → Bool
is_plain controls = is_unit_alone controls.words && (is_none controls.on_error && is_none controls.on_end)

-- the start, by the list of the step
unfoldable pub start_on : Writing → ℕ → Bool → Option Flat
start_on w n true = Some (call_of w (codes "s_wsle") (address_of (c.Variable (w.library.list n) (ToList list_type.Transfer)) ∷ []))
start_on w n false = None

unfoldable pub start_item : Writing → ℕ → Controls → Pures → Option Flat
start_item w n controls (AndPure (Constant (IsInt unit)) NoPure) = start_on w n (is_plain controls && in_range unit)
start_item w n controls ps = None

-- the unit of such a transfer
unfoldable pub unit_of : Pures → Option ℤ
unit_of (AndPure (Constant (IsInt unit)) NoPure) = Some unit
unit_of ps = None

-- what holds a value: an object of a constant or of a temporary, or its place
unfoldable pub if_held : Writing → ℤ → Option Term
if_held w z = if_number (w.library.has z) (Some (c.Variable (w.library.constant z) ToNumber))

unfoldable pub constant_held : Writing → Datum → Option Term
constant_held w (IsInt z) = if_held w z
constant_held w (IsLog true) = if_held w (pos 1)
constant_held w (IsLog false) = if_held w (pos 0)
constant_held w d = None

unfoldable pub held_term : Writing → Pure → Option Term
held_term w (Constant d) = constant_held w d
held_term w (Temporary k) = if_number (w.is_number k) (Some (c.Variable (w.naming.temporary k) ToNumber))
held_term w (Load p) = place_term w p
held_term w p = None

-- what holds each of some values
unfoldable pub held_terms : Writing → Pures → Option (List Term)
held_terms w NoPure = Some []
held_terms w (AndPure p ps) = one_more (held_term w p) (held_terms w ps)

-- a function of numbers, of operands that are held: what it gives is kept
unfoldable pub computed_item : Writing → Option Term → Option LibraryFunction → Option (List Term) → Option Flat
computed_item w (Some target) (Some function) (Some terms) = Some (Invoke (Kept target) (Direct (routine_of w function.name)) (map address_of terms))
computed_item w target function terms = None

-- the number that the library has for a type
unfoldable pub kind_number : Basic → Option ℤ
kind_number Integer = Some (pos 3)
kind_number Logical = Some (pos 8)
kind_number basic = None

unfoldable pub item_by : Writing → Option ℤ → Option Term → Option Flat
item_by w (Some kind) (Some term) =
    if w.library.has kind && w.library.has (pos 1) then
    Some (call_of w (codes "do_lio")
    (address_of (c.Variable (w.library.constant kind) ToNumber) ∷ address_of (c.Variable (w.library.constant (pos 1)) ToNumber)
    ∷ c.Cast to.Chars (address_of term) ∷ c.Cast to.Length c.Size ∷ []))
    else None
item_by w kind term = None

unfoldable pub takes_item : Writing → ℕ → Pures → Option Flat
takes_item w n (AndPure p NoPure) = item_by w (option_and_then kind_number (type_of w n p)) (held_term w p)
takes_item w n ps = None

unfoldable pub finish_item : Writing → Pures → Option Flat
finish_item w NoPure = Some (call_of w (codes "e_wsle") [])
finish_item w ps = None

-- the end of the run, with the text of STOP
unfoldable pub stop_item : Writing → ℕ → Bytes → Flat
stop_item w n text = call_of w (codes "s_stop") (c.Array (w.library.text n) ToChar ∷ c.Cast to.Length (c.Constant (pos (length text))) ∷ [])

unfoldable pub calls_opened : Unit {0}
unfolding call_of is_unit_alone is_plain start_on start_item unit_of if_held constant_held held_term held_terms computed_item kind_number item_by takes_item finish_item stop_item
calls_opened = tt
