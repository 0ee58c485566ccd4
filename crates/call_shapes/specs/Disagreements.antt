-- Which calls of a set disagree with the procedures that they call, and why: by file, then card, then place in the statement from the left.
-- ANSI X3.9-1978, sections 15.5.2.2 (references to functions), 15.6.2.2 (CALL) and 15.9.3 (association of arguments).
use Rattle.std.specs.Prelude.{ℕ, suc, nat_eq, nat_lt, Bool, true, false, ◌&&◌, ◌||◌, List, [], ◌∷◌, ◌++◌, length, reverse, bytes_eq, Option, Some, None, if◌then◌else◌}
use Rattle.std.specs.List.{list_any}
use Rattle.f_tree.specs.declared.statements.Stmt.{Stmt}
use Rattle.f_tree.specs.declared.units.Unit.{Unit as WrittenUnit}
use Rattle.f_tree.specs.declared.units.File.{File}
use Rattle.f_tree.specs.Values.{Bytes}
use Rattle.f_tree.specs.Association.{same_basic}
use Rattle.f_tree.specs.Attributes.{first_of_two}
use Rattle.declaration_rows.specs.GlobalRows.{all_units}
use Rattle.call_shapes.specs.declared.findings.Finding.{Finding}
use Rattle.call_shapes.specs.declared.findings.Reason.{Reason}
use Rattle.call_shapes.specs.declared.findings.Reason.TheVariants as reason
use Rattle.call_shapes.specs.declared.shapes.Argument.{Argument}
use Rattle.call_shapes.specs.declared.shapes.Argument.TheVariants.{Integer, Logical, Text, Procedure, Label}
use Rattle.call_shapes.specs.declared.shapes.NamedShape.{NamedShape}
use Rattle.call_shapes.specs.declared.shapes.Shape.{Shape}
use Rattle.call_shapes.specs.declared.shapes.ShapeResult.{ShapeResult}
use Rattle.call_shapes.specs.declared.shapes.ShapeResult.TheVariants.{Subroutine, Function}
use Rattle.call_shapes.specs.ProcedureShapes.{procedures_of}
use Rattle.call_shapes.specs.CallsMade.{calls_of_statement, calls_made_opened}

-- THE REASON: the first way in which the shape of a call differs from that of a procedure
unfoldable pub same_argument : Argument → Argument → Bool
same_argument Integer Integer = true
same_argument Logical Logical = true
same_argument Text Text = true
same_argument Procedure Procedure = true
same_argument Label Label = true
same_argument _ _ = false

unfoldable pub result_differs : ShapeResult → ShapeResult → Option Reason
result_differs Subroutine Subroutine = None
result_differs Subroutine (Function basic) = Some reason.AsSubroutine
result_differs (Function basic) Subroutine = Some reason.AsFunction
result_differs (Function basic) (Function other) = if same_basic basic other then None else Some reason.ResultType

unfoldable pub count_differs : ℕ → ℕ → Option Reason
count_differs actual dummy = if nat_eq actual dummy then None else Some (reason.Count actual dummy)

-- the first argument from the k-th on that differs
unfoldable pub argument_differs : ℕ → List Argument → List Argument → Option Reason
argument_differs k (a ∷ as') (d ∷ ds) = if same_argument a d then argument_differs (suc k) as' ds else Some (reason.Argument k)
argument_differs k _ _ = None

unfoldable pub shapes_differ : ShapeResult → List Argument → Shape → Option Reason
shapes_differ result arguments procedure =
    first_of_two (result_differs result procedure.result)
    (first_of_two (count_differs (length arguments) (length procedure.arguments)) (argument_differs 1 arguments procedure.arguments))

-- THE COUNTERPART of a call: the procedure of the set with its name, else the first line of prototypes with it. A line has no labels, so those of the
-- call are left out
unfoldable pub shape_among : Bytes → List NamedShape → Option Shape
shape_among x [] = None
shape_among x (p ∷ ps) = if bytes_eq p.name x then Some p.shape else shape_among x ps

unfoldable pub without_labels : List Argument → List Argument
without_labels [] = []
without_labels (Label ∷ as') = without_labels as'
without_labels (a ∷ as') = a ∷ without_labels as'

unfoldable pub differs_from : Shape → Option Shape → Option Shape → Option Reason
differs_from call (Some procedure) line = shapes_differ call.result call.arguments procedure
differs_from call None (Some line) = shapes_differ call.result (without_labels call.arguments) line
differs_from call None None = None

unfoldable pub reason_of : List NamedShape → List NamedShape → NamedShape → Option Reason
reason_of procedures lines call = differs_from call.shape (shape_among call.name procedures) (shape_among call.name lines)

-- FINDINGS of the calls of a statement, of a unit and of a set
unfoldable pub found_at : Stmt → Bytes → Option Reason → List Finding
found_at s x None = []
found_at s x (Some why) = record { file = s.file; card = s.card; name = x; reason = why } ∷ []

unfoldable pub call_findings : List NamedShape → List NamedShape → Stmt → List NamedShape → List Finding
call_findings procedures lines s [] = []
call_findings procedures lines s (call ∷ calls) =
    found_at s call.name (reason_of procedures lines call) ++ call_findings procedures lines s calls

-- an included statement that stands in a unit once more is the same statement
unfoldable pub is_at : Stmt → Stmt → Bool
is_at s t = nat_eq t.file s.file && nat_eq t.card s.card

unfoldable pub statement_findings : List NamedShape → List NamedShape → WrittenUnit → List Stmt → Stmt → List Finding
statement_findings procedures lines u before s =
    if list_any (is_at s) before then [] else call_findings procedures lines s (calls_of_statement u s.body)

unfoldable pub unit_findings : List NamedShape → List NamedShape → WrittenUnit → List Stmt → List Stmt → List Finding
unit_findings procedures lines u before [] = []
unit_findings procedures lines u before (s ∷ ss) =
    statement_findings procedures lines u before s ++ unit_findings procedures lines u (before ++ s ∷ []) ss

unfoldable pub units_findings : List NamedShape → List NamedShape → List WrittenUnit → List Finding
units_findings procedures lines [] = []
units_findings procedures lines (u ∷ us) = unit_findings procedures lines u [] u.statements ++ units_findings procedures lines us

-- THE ORDER: by file, then card; those of one card stay as they are, by unit and then by place. Each goes behind the last one that it does not stand
-- before; the last one is first in the list of those that are placed
unfoldable pub is_before : Finding → Finding → Bool
is_before f g = nat_lt f.file g.file || (nat_eq f.file g.file && nat_lt f.card g.card)

unfoldable pub placed : Finding → List Finding → List Finding
placed f [] = f ∷ []
placed f (g ∷ gs) = if is_before f g then g ∷ placed f gs else f ∷ g ∷ gs

unfoldable pub all_placed : List Finding → List Finding → List Finding
all_placed done [] = done
all_placed done (f ∷ fs) = all_placed (placed f done) fs

unfoldable pub in_order : List Finding → List Finding
in_order fs = reverse (all_placed [] fs)

-- all calls of a set that disagree with its procedures or with lines of prototypes
unfoldable pub disagreeing : List File → List NamedShape → List Finding
disagreeing files lines = in_order (units_findings (procedures_of (all_units files)) lines (all_units files))

unfoldable pub disagreements_opened : Unit {0}
unfolding calls_made_opened same_argument result_differs count_differs argument_differs shapes_differ shape_among without_labels differs_from reason_of found_at call_findings is_at statement_findings unit_findings units_findings is_before placed all_placed in_order disagreeing
disagreements_opened = tt
