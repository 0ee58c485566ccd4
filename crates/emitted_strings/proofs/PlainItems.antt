-- The items of lowered steps have no strings but the texts of STOP statements.
use Rattle.std.specs.Prelude.{◌≡◌, ℕ, zero, suc, ◌+◌, ◌-◌, ◌≤◌, ℤ, pos, Bool, true, false, ◌&&◌, List, [], ◌∷◌, ◌++◌, map, length, Option, Some, None, option_map, option_and_then, codes, if◌then◌else◌}
use Rattle.std.proofs.Common.{refl, ap, ◌∙◌, arith}
use Rattle.item_emission.specs.f_tree.Values.{Bytes, Datum, IsInt, IsLog, IsLabel, in_range}
use Rattle.item_emission.specs.f_tree.Facts.{Output, Listed, Controls}
use Rattle.item_emission.specs.f_tree.CNames.{made_name, ControlList, ConstantOf}
use Rattle.item_emission.specs.l_core.Pures.{Pure, Constant, Temporary, Load, Name, ElementOf, Pures, NoPure, AndPure}
use Rattle.item_emission.specs.l_core.Steps as step
use Rattle.item_emission.specs.l_core.Steps.{Step}
use Rattle.item_emission.specs.c_tree.Opened.{trees_opened}
use Rattle.item_emission.specs.c_tree.declared.types.CastType.TheVariants as to
use Rattle.item_emission.specs.c_tree.declared.expression.CExpr.{CExpr}
use Rattle.item_emission.specs.c_tree.declared.expression.CExpr.TheVariants as expr
use Rattle.item_emission.specs.c_tree.declared.expression.UnaryOp.TheVariants as prefix
use Rattle.item_emission.specs.main_file.c_emit.LibraryFunctions.{LibraryFunction, library_function}
use Rattle.item_emission.specs.main_file.c_emit.Calls.{is_plain, kind_number}
use Rattle.item_emission.specs.named_items.declared.item.Callee.{Callee}
use Rattle.item_emission.specs.named_items.declared.item.Case.{Case}
use Rattle.item_emission.specs.named_items.declared.item.Item.{Item}
use Rattle.item_emission.specs.named_items.declared.item.Item.TheVariants as item
use Rattle.item_emission.specs.named_items.Items.{by_name, assign_by, call_by, set_call_by}
use Rattle.item_emission.specs.named_items.c_structure.Expressions.{number_expr, one_more}
use Rattle.item_emission.specs.declared.known.Standing.{Standing}
use Rattle.item_emission.specs.declared.known.Standing.TheVariants.{Own, Parameter, Result}
use Rattle.item_emission.specs.declared.known.Giving.{Giving}
use Rattle.item_emission.specs.declared.known.Giving.TheVariants as giving
use Rattle.item_emission.specs.NamedEmission.{Knowledge, Kinds, constant_expr, variable_expr, scalar_expr, temporary_expr, value_expr, place_expr, type_in, address_expr, constant_object, list_object, constant_held, datum_held, held_expr, held_exprs, computed_step, start_call, start_if, start_step, output_call, output_if, output_by, output_step, finish_step, stop_call, stop_step, scalar_passed, procedure_expr, procedure_passed, name_passed, argument_expr, argument_exprs, call_step, wants_number, call_for_step, branch_step, cases_from, select_step, label_cases, switch_step, return_step, given_expr, alternate_step, acting_step, item_step}
use Rattle.built_strings.specs.BuiltStrings.{texts_bytes, expression_bytes, expressions_bytes, returned_bytes, item_bytes}
use Rattle.lowered_objects.specs.FewObjects.{string_bytes}
use Rattle.emitted_strings.specs.EmittedStrings.{EachItemHasTheStringOfItsStep}
use Rattle.emitted_strings.proofs.PlainExpressions.{Plain, Bare, AllPlain, AllBare, all_plain, unary_plain, cast_plain, name_plain, map_bare, more_bare, if_bare, number_bare, constant_bare, variable_plain, scalar_plain, temporary_bare, value_bare, place_bare}

-- ## Items

-- an item, if it is there, has strings of so many bytes at most
abbrev Few : ℕ → Option Item → Type 0
Few n None = Unit {0}
Few n (Some i) = item_bytes i ≤ n

no_bytes : (e : CExpr) → Plain e → expression_bytes e ≡ 0
unfolding expression_bytes texts_bytes
no_bytes e h = ap texts_bytes h

none_bytes : (es : List CExpr) → AllPlain es → expressions_bytes es ≡ 0
unfolding expressions_bytes texts_bytes
none_bytes es h = ap texts_bytes (all_plain es h)

assign_few : (x y : Option CExpr) → Bare x → Bare y → Few 0 (assign_by x y)
unfolding assign_by item_bytes
assign_few None y h g = tt
assign_few (Some a) None h g = tt
assign_few (Some a) (Some b) h g = let one = no_bytes a h in let two = no_bytes b g in omega (arith, one, two)

call_few : (callee : Callee) (es : List CExpr) → AllPlain es → Few 0 (Some (item.Call callee es))
unfolding item_bytes
call_few callee es h = let all = none_bytes es h in omega (arith, all)

called_few : (callee : Callee) (es : Option (List CExpr)) → AllBare es → Few 0 (call_by callee es)
unfolding call_by
called_few callee None h = tt
called_few callee (Some es) h = call_few callee es h

set_call_few : (target : CExpr) (callee : Callee) (es : List CExpr) → Plain target → AllPlain es → Few 0 (Some (item.SetCall target callee es))
unfolding item_bytes
set_call_few target callee es h g = let one = no_bytes target h in let all = none_bytes es g in omega (arith, one, all)

set_called_few : (x : Option CExpr) (callee : Callee) (es : Option (List CExpr)) → Bare x → AllBare es → Few 0 (set_call_by x callee es)
unfolding set_call_by
set_called_few None callee es h g = tt
set_called_few (Some target) callee None h g = tt
set_called_few (Some target) callee (Some es) h g = set_call_few target callee es h g

-- ## What holds values

constant_held_bare : (known : Knowledge) (z : ℤ) → Bare (constant_held known z)
unfolding constant_held constant_object
constant_held_bare known z = if_bare (known.has z) _ (name_plain (made_name (ConstantOf z)))

datum_held_bare : (known : Knowledge) (d : Datum) → Bare (datum_held known d)
unfolding datum_held
datum_held_bare known (IsInt z) = constant_held_bare known z
datum_held_bare known (IsLog true) = constant_held_bare known (pos 1)
datum_held_bare known (IsLog false) = constant_held_bare known (pos 0)
datum_held_bare known d = tt

held_bare : (known : Knowledge) (p : Pure) → Bare (held_expr known p)
unfolding held_expr
held_bare known (Constant d) = datum_held_bare known d
held_bare known (Temporary k) = temporary_bare known k
held_bare known (Load p) = place_bare known p
held_bare known p = tt

all_held_bare : (known : Knowledge) (ps : Pures) → AllBare (held_exprs known ps)
unfolding held_exprs
all_held_bare known NoPure = tt
all_held_bare known (AndPure p ps) = more_bare (held_expr known p) (held_exprs known ps) (held_bare known p) (all_held_bare known ps)

address_plain : (e : CExpr) → Plain e → Plain (address_expr e)
address_plain e h = unary_plain prefix.Address e h

addresses_plain : (es : List CExpr) → AllPlain es → AllPlain (map address_expr es)
addresses_plain [] h = tt
addresses_plain (e ∷ es) h = (address_plain e h.0, addresses_plain es h.1)

computed_few : (x : Option CExpr) (f : Option LibraryFunction) (es : Option (List CExpr)) → Bare x → AllBare es → Few 0 (computed_step x f es)
unfolding computed_step
computed_few None f es h g = tt
computed_few (Some target) None es h g = tt
computed_few (Some target) (Some function) None h g = tt
computed_few (Some target) (Some function) (Some es) h g = set_call_few target (by_name function.name) _ h (addresses_plain es g)

-- ## Outputs

start_by : (x : Option ℕ) → Few 0 (option_map start_call x)
unfolding start_call list_object
start_by None = tt
start_by (Some k) = call_few (by_name (codes "s_wsle")) (address_expr (list_object k) ∷ []) (address_plain (list_object k) (name_plain (made_name (ControlList (suc k)))), tt)

start_if_few : (b : Bool) (x : Option ℕ) → Few 0 (start_if b x)
unfolding start_if
start_if_few true x = start_by x
start_if_few false x = tt

start_few : (known : Knowledge) (n : ℕ) (controls : Controls) (ps : Pures) → Few 0 (start_step known n controls ps)
unfolding start_step
start_few known n controls (AndPure (Constant (IsInt unit)) NoPure) = start_if_few (is_plain controls && in_range unit) (known.list n)
start_few known n controls ps = tt

size_plain : Plain (expr.Cast to.Length expr.SizeInt)
unfolding trees_opened
size_plain = refl

output_call_few : (number : ℤ) (e : CExpr) → Plain e → Few 0 (Some (output_call number e))
unfolding output_call constant_object
output_call_few number e h =
    call_few (by_name (codes "do_lio")) (address_expr (constant_object number) ∷ address_expr (constant_object (pos 1)) ∷ expr.Cast to.Chars (address_expr e) ∷ expr.Cast to.Length expr.SizeInt ∷ [])
    (address_plain (constant_object number) (name_plain (made_name (ConstantOf number))), (address_plain (constant_object (pos 1)) (name_plain (made_name (ConstantOf (pos 1)))), (cast_plain to.Chars (address_expr e) (address_plain e h), (size_plain, tt))))

output_if_few : (b : Bool) (number : ℤ) (e : CExpr) → Plain e → Few 0 (output_if b (output_call number e))
unfolding output_if
output_if_few true number e h = output_call_few number e h
output_if_few false number e h = tt

output_by_few : (known : Knowledge) (number : Option ℤ) (e : Option CExpr) → Bare e → Few 0 (output_by known number e)
unfolding output_by
output_by_few known None e h = tt
output_by_few known (Some number) None h = tt
output_by_few known (Some number) (Some e) h = output_if_few (known.has number && known.has (pos 1)) number e h

output_few : (known : Knowledge) (kinds : Kinds) (ps : Pures) → Few 0 (output_step known kinds ps)
unfolding output_step
output_few known kinds (AndPure p NoPure) = output_by_few known (option_and_then kind_number (type_in known kinds p)) (held_expr known p) (held_bare known p)
output_few known kinds ps = tt

finish_few : (ps : Pures) → Few 0 (finish_step ps)
unfolding finish_step
finish_few NoPure = call_few (by_name (codes "e_wsle")) [] tt
finish_few ps = tt

acting_few : (known : Knowledge) (kinds : Kinds) (n : ℕ) (what : step.Acting) (ps : Pures) (m : ℕ) → Few 0 (acting_step known kinds n what ps m)
unfolding acting_step
acting_few known kinds n (step.Starts Output Listed controls) ps m = start_few known n controls ps
acting_few known kinds n step.Takes ps m = output_few known kinds ps
acting_few known kinds n step.Finishes ps zero = finish_few ps
acting_few known kinds n what ps m = tt

-- the text of STOP
stop_bytes : (text : Bytes) (size : CExpr) → Plain size → expressions_bytes (expr.Str text ∷ expr.Cast to.Length size ∷ []) ≡ suc (length text)
unfolding trees_opened expressions_bytes texts_bytes
stop_bytes text size h = ap (λ (texts : List (List ℕ)). texts_bytes ((text ∷ []) ++ (texts ++ []))) h ∙ (let e : suc (length text) + 0 ≡ suc (length text) = omega arith in e)

stop_by : (text : Bytes) (size : Option CExpr) → Bare size → Few (suc (length text)) (option_map (stop_call text) size)
unfolding stop_call item_bytes
stop_by text None h = tt
stop_by text (Some size) h = let all = stop_bytes text size h in omega (arith, all)

stop_few : (text : Bytes) → Few (suc (length text)) (stop_step text)
unfolding stop_step
stop_few text = stop_by text (number_expr (pos (length text))) (number_bare (pos (length text)))

-- ## Arguments of procedures

scalar_passed_plain : (standing : Standing) (x : Bytes) → Plain (scalar_passed standing x)
unfolding scalar_passed
scalar_passed_plain Parameter x = variable_plain x
scalar_passed_plain Own x = address_plain (scalar_expr Own x) (scalar_plain Own x)
scalar_passed_plain Result x = address_plain (scalar_expr Result x) (scalar_plain Result x)

procedure_plain : (callee : Callee) → Plain (procedure_expr callee)
unfolding procedure_expr
procedure_plain callee = cast_plain _ (expr.Name callee.name) (name_plain callee.name)

procedure_bare : (b : Bool) (callee : Option Callee) → Bare (procedure_passed b callee)
unfolding procedure_passed
procedure_bare true None = tt
procedure_bare true (Some callee) = procedure_plain callee
procedure_bare false callee = tt

name_bare : (known : Knowledge) (x : Bytes) → Bare (name_passed known x)
unfolding name_passed
name_bare known x = by (known.is_scalar x) (known.is_array x)
  where
    by : (b c : Bool) → Bare (if b then Some (scalar_passed (known.standing x) x) else (if c then Some (variable_expr x) else procedure_passed (known.is_procedure x) (known.routine x)))
    by true c = scalar_passed_plain (known.standing x) x
    by false true = variable_plain x
    by false false = procedure_bare (known.is_procedure x) (known.routine x)

argument_bare : (known : Knowledge) (p : Pure) → Bare (argument_expr known p)
unfolding argument_expr
argument_bare known (Constant d) = map_bare address_expr (datum_held known d) address_plain (datum_held_bare known d)
argument_bare known (Temporary k) = map_bare address_expr (temporary_expr known k) address_plain (temporary_bare known k)
argument_bare known (Name x) = name_bare known x
argument_bare known (ElementOf x ps) = map_bare address_expr (place_expr known (ElementOf x ps)) address_plain (place_bare known (ElementOf x ps))
argument_bare known p = tt

argument_more_bare : (known : Knowledge) (p : Pure) (es : Option (List CExpr)) → AllBare es → AllBare (one_more (argument_expr known p) es)
argument_more_bare known p es others = more_bare (argument_expr known p) es (argument_bare known p) others

arguments_bare : (known : Knowledge) (ps : Pures) → AllBare (argument_exprs known ps)
unfolding argument_exprs
arguments_bare known NoPure = tt
arguments_bare known (AndPure (Constant (IsLabel label)) ps) = arguments_bare known ps
arguments_bare known (AndPure p ps) = argument_more_bare known p (argument_exprs known ps) (arguments_bare known ps)

-- ## Steps

call_step_few : (callee : Option Callee) (es : Option (List CExpr)) → AllBare es → Few 0 (call_step callee es)
unfolding call_step
call_step_few None es h = tt
call_step_few (Some callee) es h = called_few callee es h

call_for_few : (b : Bool) (x : Option CExpr) (callee : Option Callee) (es : Option (List CExpr)) → Bare x → AllBare es → Few 0 (call_for_step b x callee es)
unfolding call_for_step
call_for_few false x callee es h g = tt
call_for_few true x None es h g = tt
call_for_few true x (Some callee) es h g = set_called_few x callee es h g

branch_few : (x : Option CExpr) (on off : ℕ) → Bare x → Few 0 (branch_step x on off)
unfolding branch_step item_bytes
branch_few None on off h = tt
branch_few (Some test) on off h = let one = no_bytes test h in omega (arith, one)

select_few : (x : Option CExpr) (cases : List Case) (otherwise : ℕ) → Bare x → Few 0 (select_step x cases otherwise)
unfolding select_step item_bytes
select_few None cases otherwise h = tt
select_few (Some value) cases otherwise h = let one = no_bytes value h in omega (arith, one)

switch_few : (n : ℕ) (labels : List ℕ) (x : Option CExpr) → Bare x → Few 0 (switch_step n labels x)
unfolding switch_step
switch_few n labels x h = select_few x (label_cases (suc n) labels) (suc n + length labels) h

return_few : (x : Option CExpr) → Bare x → Few 0 (return_step x)
unfolding return_step item_bytes returned_bytes
return_few None h = tt
return_few (Some e) h = let one = no_bytes e h in omega (arith, one)

zero_plain : Bare (Some (expr.Number (pos 0)))
unfolding trees_opened
zero_plain = refl

given_bare : (known : Knowledge) (g : Giving) → Bare (given_expr known g)
unfolding given_expr
given_bare known giving.Zero = zero_plain
given_bare known giving.Alternate = zero_plain
given_bare known (giving.Value x) = place_bare known (Name x)
given_bare known giving.Nothing = tt

alternate_few : (g : Giving) (x : Option CExpr) → Bare x → Few 0 (alternate_step g x)
unfolding alternate_step
alternate_few giving.Alternate x h = return_few x h
alternate_few giving.Zero x h = tt
alternate_few (giving.Value y) x h = tt
alternate_few giving.Nothing x h = tt

jump_few : (position : ℕ) → Few 0 (Some (item.Jump position))
unfolding item_bytes
jump_few position = omega arith

label_few : (position : Option ℕ) → Few 0 (option_map item.Jump position)
label_few None = tt
label_few (Some position) = jump_few position

nothing_few : Few 0 (Some item.Nothing)
unfolding item_bytes
nothing_few = omega arith

step_few : (known : Knowledge) (kinds : Kinds) (n : ℕ) (st : Step) → Few (string_bytes st) (item_step known kinds n st)
unfolding item_step string_bytes
step_few known kinds n (step.Put target p) = assign_few (place_expr known target) (value_expr known p) (place_bare known target) (value_bare known p)
step_few known kinds n (step.PutLabel target label) = assign_few (place_expr known target) (constant_expr (pos label)) (place_bare known target) (constant_bare (pos label))
step_few known kinds n (step.Keep k p) = assign_few (temporary_expr known k) (value_expr known p) (temporary_bare known k) (value_bare known p)
step_few known kinds n (step.Compute k f ps) = computed_few (temporary_expr known k) (library_function f) (held_exprs known ps) (temporary_bare known k) (all_held_bare known ps)
step_few known kinds n (step.Unless p m) = branch_few (value_expr known p) (suc n) (suc n + m) (value_bare known p)
step_few known kinds n (step.AgainIf p m) = branch_few (value_expr known p) (n - m) (suc n) (value_bare known p)
step_few known kinds n (step.Skip m) = jump_few (suc n + m)
step_few known kinds n (step.Again m) = jump_few (n - m)
step_few known kinds n (step.Jump l) = label_few (known.label l)
step_few known kinds n (step.Select p count) = select_few (value_expr known p) (cases_from 1 (suc n) count) (suc n + count) (value_bare known p)
step_few known kinds n (step.JumpBy p labels) = switch_few n labels (place_expr known p) (place_bare known p)
step_few known kinds n (step.Branch k count) = select_few (value_expr known (Temporary k)) (cases_from 1 (suc n) count) (suc n + count) (value_bare known (Temporary k))
step_few known kinds n (step.Way l) = label_few (known.label l)
step_few known kinds n step.Pass = nothing_few
step_few known kinds n (step.CallFor k callee ps) = call_for_few (wants_number callee.want) (temporary_expr known k) (known.routine callee.name) (argument_exprs known ps) (temporary_bare known k) (arguments_bare known ps)
step_few known kinds n (step.CallSub k x ps) = call_step_few (known.routine x) (argument_exprs known ps) (arguments_bare known ps)
step_few known kinds n step.Back = return_few (given_expr known known.gives) (given_bare known known.gives)
step_few known kinds n (step.BackBy p) = alternate_few known.gives (value_expr known p) (value_bare known p)
step_few known kinds n (step.Acts what ps m) = acting_few known kinds n what ps m
step_few known kinds n (step.Halt text) = stop_few text
step_few known kinds n (step.PutText place ps) = tt

few_of : (n : ℕ) (x : Option Item) (i : Item) → Few n x → x ≡ Some i → item_bytes i ≤ n
few_of n None i h is = absurd (cc)
few_of n (Some j) i h is = let same : item_bytes j ≡ item_bytes i = ap item_bytes (let e : j ≡ i = cc in e) in omega (arith, same, h)

pub each_item_has_the_string : EachItemHasTheStringOfItsStep
each_item_has_the_string known kinds n st i h = few_of (string_bytes st) (item_step known kinds n st) i (step_few known kinds n st) h
