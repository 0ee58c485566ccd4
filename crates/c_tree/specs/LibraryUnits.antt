-- OPEN, CLOSE, BACKSPACE, REWIND and ENDFILE (ANSI X3.9-1978, 12.10): each stands outside every transfer.
use Rattle.std.specs.Prelude.{ℕ, nat_eq, ℤ, pos, Bool, true, false, ◌||◌, List, [], ◌∷◌, ◌++◌, Result, Ok, Err, codes, if◌then◌else◌}
use Rattle.std.specs.Fmt.{signed_decimal}
use Rattle.std.specs.Ordering.{int_eq}
use Rattle.run_state.specs.Units.{Units, Closing, open_unit, close_unit}
use Rattle.run_state.specs.declared.refusals.UnitRefusal.{UnitRefusal}
use Rattle.run_state.specs.declared.refusals.UnitRefusal.TheVariants.{NotConnected}
use Rattle.c_tree.specs.declared.outcome.CValue.{CValue}
use Rattle.c_tree.specs.declared.outcome.CValue.TheVariants.{Null}
use Rattle.c_tree.specs.declared.types.ListType.TheVariants as list_type
use Rattle.c_tree.specs.Faults.{Or, after}
use Rattle.c_tree.specs.Access.{ToByte}
use Rattle.c_tree.specs.Objects.{Object, as_number, fetched}
use Rattle.c_tree.specs.World.{World, Reply, Gives}
use Rattle.c_tree.specs.LibraryArguments.{length_from, text_at, list_at, field_value, field_number}
use Rattle.c_tree.specs.Transfers.{refusal_number, numbered, outside_transfers}

-- the units after a statement, or the number by which it is refused; its list asks for the number where its
-- field is not 0
abbrev pub changed_units : ℤ → World → Result Units UnitRefusal → Or Reply
changed_units on_error world (Ok units) = Ok (Gives (pos 0) (record world { units = units }))
changed_units on_error world (Err refusal) =
    after (refusal_number refusal) λ number. Ok (numbered number on_error (pos 0) world)

abbrev pub all_blank : List ℕ → Bool
all_blank [] = true
all_blank (byte ∷ later) = if nat_eq byte 32 then all_blank later else false

-- a name without the blanks at its end
abbrev pub trimmed : List ℕ → List ℕ
trimmed [] = []
trimmed (byte ∷ later) = if all_blank (byte ∷ later) then [] else byte ∷ trimmed later

-- the name of the file of a unit for which none is given
abbrev pub file_of_unit : ℤ → List ℕ
file_of_unit unit = codes "fort." ++ signed_decimal unit

abbrev pub name_given : List Object → ℤ → CValue → CValue → Or (List ℕ)
name_given objects unit Null size = Ok (file_of_unit unit)
name_given objects unit pointer size =
    after (length_from size) λ count. after (text_at objects pointer count) λ text. Ok (trimmed text)

-- whether blanks in a number are zeros: the text begins with Z or z
abbrev pub zero_blanks_given : List Object → CValue → Or Bool
zero_blanks_given objects Null = Ok false
zero_blanks_given objects pointer =
    after (fetched objects (record { at = pointer; access = ToByte })) λ typed.
    after (as_number typed.value) λ byte.
    Ok (int_eq byte (pos 90) || int_eq byte (pos 122))

-- `f_open`
unfoldable pub opens : World → CValue → Or Reply
opens world pointer =
    after (outside_transfers world) λ outside.
    after (list_at world.objects list_type.Open pointer) λ list.
    after (field_number world.objects list (codes "oerr")) λ on_error.
    after (field_number world.objects list (codes "ounit")) λ unit.
    after (field_value world.objects list (codes "ofnm")) λ name.
    after (field_value world.objects list (codes "ofnmlen")) λ size.
    after (name_given world.objects unit name size) λ file.
    after (field_value world.objects list (codes "oblnk")) λ blanks.
    after (zero_blanks_given world.objects blanks) λ zero_blanks.
    changed_units on_error world (open_unit unit file zero_blanks world.units)

-- a unit that is not connected is closed already
abbrev pub closed : World → Result Closing UnitRefusal → Result Units UnitRefusal
closed world (Ok closing) = Ok closing.after
closed world (Err NotConnected) = Ok world.units
closed world (Err refusal) = Err refusal

-- `f_clos`
unfoldable pub closes : World → CValue → Or Reply
closes world pointer =
    after (outside_transfers world) λ outside.
    after (list_at world.objects list_type.Close pointer) λ list.
    after (field_number world.objects list (codes "cerr")) λ on_error.
    after (field_number world.objects list (codes "cunit")) λ unit.
    changed_units on_error world (closed world (close_unit unit world.units))

-- a statement that names its unit alone
unfoldable pub positions : (ℤ → Units → Result Units UnitRefusal) → World → CValue → Or Reply
positions statement world pointer =
    after (outside_transfers world) λ outside.
    after (list_at world.objects list_type.Position pointer) λ list.
    after (field_number world.objects list (codes "aerr")) λ on_error.
    after (field_number world.objects list (codes "aunit")) λ unit.
    changed_units on_error world (statement unit world.units)
