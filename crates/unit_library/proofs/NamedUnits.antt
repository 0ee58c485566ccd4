-- The unit that the control list of a call names (ANSI X3.9-1978, 12.8 and 12.10).
use Rattle.std.proofs.Common.{◌≡◌, ℤ, List, [], ◌∷◌, Some, None, ap, sym, subst}
use Rattle.std.specs.Prelude.{Result, Ok, Err, codes}
use Rattle.c_tree.specs.declared.outcome.CValue.{CValue}
use Rattle.c_tree.specs.declared.types.ListType.TheVariants as list_type
use Rattle.c_tree.specs.Faults.{Or, after}
use Rattle.c_tree.specs.Objects.{Object, Place}
use Rattle.c_tree.specs.World as media
use Rattle.c_tree.specs.Transfers.{Control, unit_control}
use Rattle.c_tree.specs.LibraryArguments.{list_at, field_number}
use Rattle.control_lists.specs.Files.{Naming, closing, positioning}
use Rattle.unit_answers.specs.declared.ends.CallEnd.{CallEnd}
use Rattle.unit_answers.specs.declared.ends.CallEnd.TheVariants.{Fault, Ended, Device}
use Rattle.unit_answers.specs.Answers.{IfDevice}
use Rattle.unit_statements.specs.Statements as statements
use Rattle.listed_input.specs.Transferring.{NamesUnit}
use Rattle.run_library.specs.UnitsCalled.{unit_of_medium, number_found, unit_listed, unit_of_call}
use Rattle.unit_library.specs.declared.functions.UnitStatement.{UnitStatement}
use Rattle.unit_library.specs.Functions.{statement_builtin}

-- STARTS
abbrev control_by : Or ℤ → Or ℤ → Or ℤ → Or Control
control_by error unit end =
    after error λ on_error. after unit λ number. after end λ on_end. Ok (record { medium = media.Unit number; on_error = on_error; on_end = on_end })

control-found : (error number end : Or ℤ) (unit : ℤ) → NamesUnit (control_by error number end) unit → number_found number ≡ Some unit
control-found (Err reason) number end unit names = absurd names
control-found (Ok on_error) (Err reason) end unit names = absurd names
control-found (Ok on_error) (Ok number) (Err reason) unit names = absurd names
control-found (Ok on_error) (Ok number) (Ok on_end) unit names = ap unit_of_medium names

control-listed : (list : Or Place) (error number end : Place → Or ℤ) (unit : ℤ) → NamesUnit (after list λ place. control_by (error place) (number place) (end place)) unit →
    number_found (after list number) ≡ Some unit
control-listed (Err reason) error number end unit names = absurd names
control-listed (Ok place) error number end unit names = control-found (error place) (number place) (end place) unit names

pub start-names : (objects : List Object) (pointer : CValue) (unit : ℤ) → NamesUnit (unit_control objects pointer) unit → unit_listed list_type.Transfer (codes "ciunit") objects pointer ≡ Some unit
start-names objects pointer unit names =
    control-listed (list_at objects list_type.Transfer pointer) (λ place. field_number objects place (codes "cierr")) (λ place. field_number objects place (codes "ciunit"))
    (λ place. field_number objects place (codes "ciend")) unit names

-- STATEMENTS
abbrev naming_by : Or ℤ → Or ℤ → Or Naming
naming_by error unit = after error λ on_error. after unit λ number. Ok (record { on_error = on_error; unit = number })

naming-found : (error number : Or ℤ) (unit : ℤ) → statements.NamesUnit (naming_by error number) unit → number_found number ≡ Some unit
naming-found (Err reason) number unit names = absurd names
naming-found (Ok on_error) (Err reason) unit names = absurd names
naming-found (Ok on_error) (Ok number) unit names = ap Some names

naming-listed : (list : Or Place) (error number : Place → Or ℤ) (unit : ℤ) → statements.NamesUnit (after list λ place. naming_by (error place) (number place)) unit → number_found (after list number) ≡ Some unit
naming-listed (Err reason) error number unit names = absurd names
naming-listed (Ok place) error number unit names = naming-found (error place) (number place) unit names

close-names : (objects : List Object) (pointer : CValue) (unit : ℤ) → statements.NamesUnit (closing objects pointer) unit → unit_listed list_type.Close (codes "cunit") objects pointer ≡ Some unit
close-names objects pointer unit names =
    naming-listed (list_at objects list_type.Close pointer) (λ place. field_number objects place (codes "cerr")) (λ place. field_number objects place (codes "cunit")) unit names

position-names : (objects : List Object) (pointer : CValue) (unit : ℤ) → statements.NamesUnit (positioning objects pointer) unit →
    unit_listed list_type.Position (codes "aunit") objects pointer ≡ Some unit
position-names objects pointer unit names =
    naming-listed (list_at objects list_type.Position pointer) (λ place. field_number objects place (codes "aerr")) (λ place. field_number objects place (codes "aunit")) unit names

-- what an answer says of the unit whose device failed
if-device : (answer : Result ℤ CallEnd) (P Q : ℤ → Type 0) → ((unit : ℤ) → P unit → Q unit) → IfDevice answer P (Unit {0}) → IfDevice answer Q (Unit {0})
if-device (Ok number) P Q then_so told = tt
if-device (Err (Fault fault)) P Q then_so told = tt
if-device (Err (Ended number)) P Q then_so told = tt
if-device (Err (Device unit)) P Q then_so told = then_so unit told

pub as-closed : (objects : List Object) (pointer : CValue) (answer : Result ℤ CallEnd) → IfDevice answer (λ unit. statements.NamesUnit (closing objects pointer) unit) (Unit {0}) →
    IfDevice answer (λ unit. unit_listed list_type.Close (codes "cunit") objects pointer ≡ Some unit) (Unit {0})
as-closed objects pointer answer told = if-device answer _ _ (close-names objects pointer) told

pub as-positioned : (objects : List Object) (pointer : CValue) (answer : Result ℤ CallEnd) → IfDevice answer (λ unit. statements.NamesUnit (positioning objects pointer) unit) (Unit {0}) →
    IfDevice answer (λ unit. unit_listed list_type.Position (codes "aunit") objects pointer ≡ Some unit) (Unit {0})
as-positioned objects pointer answer told = if-device answer _ _ (position-names objects pointer) told

pub as-opened : (objects : List Object) (pointer : CValue) (answer : Result ℤ CallEnd) → IfDevice answer (λ unit. ⊥) (Unit {0}) →
    IfDevice answer (λ unit. unit_listed list_type.Open (codes "ounit") objects pointer ≡ Some unit) (Unit {0})
as-opened objects pointer answer told = if-device answer _ _ (λ unit wrong. absurd wrong) told

-- what is known of the statement
pub statement-as : (function known : UnitStatement) (objects : List Object) (pointer : CValue) (answer : Result ℤ CallEnd) → function ≡ known →
    IfDevice answer (λ unit. unit_of_call (statement_builtin known) objects None (pointer ∷ []) ≡ Some unit) (Unit {0}) →
    IfDevice answer (λ unit. unit_of_call (statement_builtin function) objects None (pointer ∷ []) ≡ Some unit) (Unit {0})
statement-as function known objects pointer answer is told =
    subst (λ (one : UnitStatement). IfDevice answer (λ unit. unit_of_call (statement_builtin one) objects None (pointer ∷ []) ≡ Some unit) (Unit {0})) (sym is) told
