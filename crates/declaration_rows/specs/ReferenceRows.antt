-- Which references of a unit differ in their arguments (F43), and where a function of type CHARACTER is a dummy procedure or is passed
-- (F42). ANSI X3.9-1978, sections 15.5.2 and 15.6.2 (references), 15.9.3 (actual arguments).
use Rattle.std.specs.Prelude.{Bool, true, false, not, ◌&&◌, List, [], ◌∷◌, ◌++◌, map, bytes_eq, Option, Some, None, if◌then◌else◌}
use Rattle.std.specs.List.{list_any}
use Rattle.fortran_text.specs.f_tree.declared.names.Class.TheVariants as class
use Rattle.fortran_text.specs.f_tree.declared.expressions.Expr.{Expr}
use Rattle.fortran_text.specs.f_tree.declared.expressions.Expr.TheOpen as expr
use Rattle.fortran_text.specs.f_tree.declared.refusals.Kind.{Kind}
use Rattle.fortran_text.specs.f_tree.declared.refusals.Kind.TheVariants.{CharacterFunctionAsArgument, TwoShapesOfCall}
use Rattle.fortran_text.specs.f_tree.declared.refusals.Refusal.{Refusal}
use Rattle.fortran_text.specs.f_tree.declared.statements.Body.{Body}
use Rattle.fortran_text.specs.f_tree.declared.statements.Body.TheOpen as body
use Rattle.fortran_text.specs.f_tree.declared.statements.Control.{Control}
use Rattle.fortran_text.specs.f_tree.declared.statements.ControlValue.{ControlValue}
use Rattle.fortran_text.specs.f_tree.declared.statements.ControlValue.TheVariants as value
use Rattle.fortran_text.specs.f_tree.declared.statements.ListItem.{ListItem}
use Rattle.fortran_text.specs.f_tree.declared.statements.ListItem.TheOpen as item
use Rattle.fortran_text.specs.f_tree.declared.statements.LoopControl.{LoopControl}
use Rattle.fortran_text.specs.f_tree.declared.statements.Stmt.{Stmt}
use Rattle.fortran_text.specs.f_tree.declared.units.Unit.{Unit as WrittenUnit}
use Rattle.fortran_text.specs.f_tree.Values.{Bytes}
use Rattle.fortran_text.specs.f_tree.Folds.{fold_expr, fold_item, fold_body}
use Rattle.fortran_text.specs.f_tree.Facts.{Attribute}
use Rattle.fortran_text.specs.f_tree.Uses.{Use, Manner, Alone, uses_of_body, uses_of_statements}
use Rattle.fortran_text.specs.f_tree.Attributes.{Definition, option_list, is_used_as, called, definitions_in, arrays_of}
use Rattle.fortran_text.specs.f_tree.Lines.{is_character}
use Rattle.declaration_rows.specs.Judgement.{What, AProcedureName, AFunctionName, AnExit, Judged, Known, unless, layer_judged}
use Rattle.declaration_rows.specs.NameRows.{given_names, own_attributes, all_names, signatures_of, known_in, known_within, stood, at_first, mentions, first_statements}

-- REFERENCES. What an actual argument is
pub data ArgumentKind : Type 0 where
  -- INTEGER or LOGICAL
  Numeric : ArgumentKind
  Textual : ArgumentKind
  Procedural : ArgumentKind
  Exit : ArgumentKind

unfoldable pub same_kind : ArgumentKind → ArgumentKind → Bool
same_kind Numeric Numeric = true
same_kind Textual Textual = true
same_kind Procedural Procedural = true
same_kind Exit Exit = true
same_kind _ _ = false

unfoldable pub argument_kind_by : What → Bool → ArgumentKind
argument_kind_by AProcedureName textual = Procedural
argument_kind_by AFunctionName textual = Procedural
argument_kind_by (AnExit label) textual = Exit
argument_kind_by _ true = Textual
argument_kind_by _ false = Numeric

unfoldable pub argument_kind : Judged → ArgumentKind
argument_kind j = argument_kind_by j.what (is_character j.basic)

-- a reference of an external procedure or a dummy procedure, with what its arguments are
pub record Reference : Type 0 where
  pub name : Bytes
  pub arguments : List ArgumentKind

unfoldable pub same_kinds : List ArgumentKind → List ArgumentKind → Bool
same_kinds [] [] = true
same_kinds (a ∷ as') (b ∷ bs) = same_kind a b && same_kinds as' bs
same_kinds _ _ = false

-- an expression with what it is, and the references in it
pub record Sighted : Type 0 where
  pub judged : Judged
  pub references : List Reference

unfoldable pub judged_all : List Sighted → List Judged
judged_all ss = map (λ s. s.judged) ss

unfoldable pub judged_option : Option Sighted → Option Judged
judged_option None = None
judged_option (Some s) = Some s.judged

unfoldable pub references_all : List Sighted → List Reference
references_all [] = []
references_all (s ∷ ss) = s.references ++ references_all ss

unfoldable pub judged_layer : expr.Expr-F Sighted → expr.Expr-F Judged
judged_layer (expr.Int z) = expr.Int z
judged_layer (expr.Logical b) = expr.Logical b
judged_layer (expr.Text cs) = expr.Text cs
judged_layer (expr.Name x) = expr.Name x
judged_layer (expr.Apply x ss) = expr.Apply x (judged_all ss)
judged_layer (expr.Part s from to) = expr.Part s.judged (judged_option from) (judged_option to)
judged_layer (expr.Minus s) = expr.Minus s.judged
judged_layer (expr.Plus s) = expr.Plus s.judged
judged_layer (expr.Not s) = expr.Not s.judged
judged_layer (expr.Paren s) = expr.Paren s.judged
judged_layer (expr.Binary op a b) = expr.Binary op a.judged b.judged
judged_layer (expr.AltReturn label) = expr.AltReturn label
judged_layer (expr.Bind ss s) = expr.Bind (judged_all ss) s.judged
judged_layer (expr.Bound k) = expr.Bound k

-- a name with a list refers to a procedure where it is one, or the function itself
unfoldable pub is_called_by_list : Attribute → Bool
is_called_by_list a = elim a.class [ class.Procedure ↦ true | class.DummyProcedure ↦ true | class.Result ↦ true | _ ↦ false ]

unfoldable pub reference_of : Bytes → List Sighted → Reference
reference_of x ss = record { name = x; arguments = map argument_kind (judged_all ss) }

unfoldable pub references_of_layer : Known → expr.Expr-F Sighted → List Reference
references_of_layer known (expr.Apply x ss) =
    references_all ss ++ (if is_called_by_list (known.attribute x) then reference_of x ss ∷ [] else [])
references_of_layer known (expr.Part s from to) = s.references ++ (references_all (option_list from) ++ references_all (option_list to))
references_of_layer known (expr.Minus s) = s.references
references_of_layer known (expr.Plus s) = s.references
references_of_layer known (expr.Not s) = s.references
references_of_layer known (expr.Paren s) = s.references
references_of_layer known (expr.Binary op a b) = a.references ++ b.references
references_of_layer known _ = []

unfoldable pub layer_sighted : Known → expr.Expr-F Sighted → Sighted
layer_sighted known layer = record { judged = layer_judged known (judged_layer layer); references = references_of_layer known layer }

unfoldable pub sighted : Known → Expr → Sighted
sighted known e = fold_expr (layer_sighted known) e

unfoldable pub references_in : Known → List Expr → List Reference
references_in known es = references_all (map (sighted known) es)

-- THE EXPRESSIONS OF A STATEMENT, in the order in which they are written
unfoldable pub expressions_of_control : LoopControl → List Expr
expressions_of_control c = c.first ∷ c.limit ∷ option_list c.step

unfoldable pub joined_expressions : List (List Expr) → List Expr
joined_expressions [] = []
joined_expressions (es ∷ more) = es ++ joined_expressions more

unfoldable pub layer_item_expressions : item.ListItem-F (List Expr) → List Expr
layer_item_expressions (item.Item e) = e ∷ []
layer_item_expressions (item.Loop ess control) = joined_expressions ess ++ expressions_of_control control

unfoldable pub expressions_of_items : List ListItem → List Expr
expressions_of_items [] = []
expressions_of_items (i ∷ is) = fold_item layer_item_expressions i ++ expressions_of_items is

unfoldable pub expressions_of_value : ControlValue → List Expr
expressions_of_value (value.Value e) = e ∷ []
expressions_of_value _ = []

unfoldable pub expressions_of_controls : List Control → List Expr
expressions_of_controls [] = []
expressions_of_controls (c ∷ cs) = expressions_of_value c.value ++ expressions_of_controls cs

-- those of a statement, and the reference that CALL makes
pub record Parts : Type 0 where
  pub expressions : List Expr
  pub call : Option (Bytes × List Expr)

unfoldable pub only : List Expr → Parts
only es = record { expressions = es; call = None }

unfoldable pub layer_parts : body.Body-F Parts → Parts
layer_parts (body.Assign target e) = only (target ∷ e ∷ [])
layer_parts (body.GotoList labels e) = only (e ∷ [])
layer_parts (body.IfSign e below at above) = only (e ∷ [])
layer_parts (body.IfOne e parts) = record parts { expressions = e ∷ parts.expressions }
layer_parts (body.IfThen e) = only (e ∷ [])
layer_parts (body.ElseIf e) = only (e ∷ [])
layer_parts (body.Do label control) = only (expressions_of_control control)
layer_parts (body.DoWhile label e) = only (e ∷ [])
layer_parts (body.Call x es) = record { expressions = es; call = Some (x, es) }
layer_parts (body.Return e) = only (option_list e)
layer_parts (body.Transfer way controls items) = only (expressions_of_controls controls ++ expressions_of_items items)
layer_parts (body.Auxiliary which controls) = only (expressions_of_controls controls)
layer_parts _ = only []

unfoldable pub parts_of : Body → Parts
parts_of b = fold_body layer_parts b

unfoldable pub call_of : Known → Option (Bytes × List Expr) → List Reference
call_of known None = []
call_of known (Some c) = reference_of c.0 (map (sighted known) c.1) ∷ []

-- in the definition of a statement function its dummy arguments are known
unfoldable pub known_for : WrittenUnit → List Definition → Known
known_for u [] = known_in u
known_for u (d ∷ ds) = known_within (given_names u) (own_attributes u) (signatures_of u) d

unfoldable pub references_of_statement : WrittenUnit → Body → List Reference
references_of_statement u b =
    let known = known_for u (definitions_in (arrays_of u) b) in
    references_in known (parts_of b).expressions ++ call_of known (parts_of b).call

-- TWO SHAPES OF CALL: a reference that differs from the first one of its name
unfoldable pub first_arguments : Bytes → List Reference → Option (List ArgumentKind)
first_arguments x [] = None
first_arguments x (r ∷ rs) = if bytes_eq r.name x then Some r.arguments else first_arguments x rs

unfoldable pub agrees_with : Option (List ArgumentKind) → List ArgumentKind → Bool
agrees_with None kinds = true
agrees_with (Some before) kinds = same_kinds before kinds

-- references, behind those before them
unfoldable pub shape_rows : List Reference → List Reference → List Kind
shape_rows before [] = []
shape_rows before (r ∷ rs) = unless (agrees_with (first_arguments r.name before) r.arguments) TwoShapesOfCall ++ shape_rows (before ++ r ∷ []) rs

unfoldable pub shapes_rows : WrittenUnit → List Reference → List Stmt → List Refusal
shapes_rows u before [] = []
shapes_rows u before (s ∷ ss) =
    stood s (shape_rows before (references_of_statement u s.body)) ++ shapes_rows u (before ++ references_of_statement u s.body) ss

-- CHARACTER FUNCTIONS. A name that CALL calls is that of a subroutine, and has no type
unfoldable pub is_character_function : WrittenUnit → Bytes → Attribute → Bool
is_character_function u x a =
    is_character a.basic && not (is_used_as called x (uses_of_statements (arrays_of u) u.statements))

unfoldable pub is_procedure_name_of : Attribute → Bool
is_procedure_name_of a = elim a.class [ class.Procedure ↦ true | class.DummyProcedure ↦ true | _ ↦ false ]

unfoldable pub is_dummy_procedure : Attribute → Bool
is_dummy_procedure a = elim a.class [ class.DummyProcedure ↦ true | _ ↦ false ]

unfoldable pub stands_alone : Manner → Bool
stands_alone Alone = true
stands_alone _ = false

-- passed by its name alone
unfoldable pub passes_function : WrittenUnit → Use → Bool
passes_function u v =
    stands_alone v.manner && (is_procedure_name_of (given_names u v.name) && is_character_function u v.name (given_names u v.name))

unfoldable pub passed_rows : WrittenUnit → List Stmt → List Refusal
passed_rows u [] = []
passed_rows u (s ∷ ss) =
    stood s (unless (not (list_any (passes_function u) (uses_of_body (arrays_of u) s.body))) CharacterFunctionAsArgument) ++ passed_rows u ss

unfoldable pub dummy_procedure_rows : WrittenUnit → List Bytes → List Refusal
dummy_procedure_rows u [] = []
dummy_procedure_rows u (x ∷ xs) =
    at_first u (mentions u x) (first_statements u x)
    (unless (not (is_dummy_procedure (given_names u x) && is_character_function u x (given_names u x))) CharacterFunctionAsArgument)
    ++ dummy_procedure_rows u xs

unfoldable pub unit_reference_rows : WrittenUnit → List Refusal
unit_reference_rows u = shapes_rows u [] u.statements ++ (passed_rows u u.statements ++ dummy_procedure_rows u (all_names u))

unfoldable pub reference_rows_opened : Unit {0}
unfolding same_kind argument_kind_by argument_kind same_kinds judged_all judged_option references_all judged_layer is_called_by_list reference_of references_of_layer layer_sighted sighted references_in expressions_of_control joined_expressions layer_item_expressions expressions_of_items expressions_of_value expressions_of_controls only layer_parts parts_of call_of known_for references_of_statement first_arguments agrees_with shape_rows shapes_rows is_character_function is_procedure_name_of is_dummy_procedure stands_alone passes_function passed_rows dummy_procedure_rows unit_reference_rows
reference_rows_opened = tt
