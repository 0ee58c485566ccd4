-- A function that begins (C89, 3.3.2.2 and 3.7.1).
use Rattle.std.proofs.Common.{◌≡◌, ℕ, ◌+◌, ◌<◌, ◌^◌, Bool, true, false, if◌then◌else◌, List, length, map, take, drop, Option, ap, sym, ◌∙◌, arith}
use Rattle.c_tree.specs.simulation.Machine.{Entry, Enters, Refused}
use Rattle.c_tree.specs.run_state.Units.{Units}
use Rattle.c_tree.specs.declared.outcome.CValue.{CValue}
use Rattle.c_tree.specs.declared.outcome.CFault.TheVariants.{Disagree}
use Rattle.c_tree.specs.declared.types.ParameterType.{ParameterType}
use Rattle.c_tree.specs.Faults.{Faults}
use Rattle.c_tree.specs.Objects.{Object}
use Rattle.c_tree.specs.Declarations.{parameter_object}
use Rattle.c_tree.specs.World.{World, Transfer}
use Rattle.c_tree.specs.Steps as steps
use Rattle.c_tree.specs.Steps.{sorts, View}
use Rattle.linked_programs.specs.declared.functions.LinkedFunction.{LinkedFunction}
use Rattle.linked_programs.specs.LinkedPrograms.{function_of}
use Rattle.item_deeds.specs.declared.views.CallView.{CallView}
use Rattle.item_deeds.specs.Deeds.{view_of, world_of}
use Rattle.call_frames.specs.Frames.{HasFrame}
use Rattle.call_frames.proofs.FrameLists.{cleared_from, bound_from, frame-made, few-parameters, parameters-cleared}
use Rattle.call_frames.proofs.BindingLaws.{as-many}

-- a function begins where its arguments fit
abbrev begun_if : LinkedFunction → ℕ → List CValue → World → Bool → Entry sorts
begun_if function own values world fit =
    if fit then Enters steps.first_view (record world { objects = steps.with_frame (function_of own function) values world.objects }) else Refused (Faults Disagree)

started-if : (function : LinkedFunction) (own : ℕ) (values : List CValue) (fit : Bool) (world : World) → steps.all_fit function.parameters values ≡ fit → (number : ℕ) →
    steps.start (function_of own function) number values world ≡ begun_if function own values world fit
unfolding steps.start
started-if function own values fit world is number = ap (begun_if function own values world) is

abbrev enters : View → World → Entry sorts
enters view world = Enters view world

pub not-started : (function : LinkedFunction) (values : List CValue) (types : List ParameterType) (objects : List Object) → types ≡ function.parameters → steps.all_fit types values ≡ false →
    (own number : ℕ) (units : Units) (transfer : Option Transfer) → steps.start (function_of own function) number values (world_of objects units transfer) ≡ Refused (Faults Disagree)
not-started function values types objects are fit own number units transfer =
    started-if function own values false (world_of objects units transfer) (ap (λ types. steps.all_fit types values) (sym are) ∙ fit) number

pub started : (function : LinkedFunction) (values : List CValue) (types : List ParameterType) (count : ℕ) (old cleared new : List Object) (view : CallView) → HasFrame function old →
    types ≡ function.parameters → count ≡ length function.fresh → steps.all_fit types values ≡ true → cleared ≡ cleared_from function.frame count old →
    new ≡ bound_from function.frame values cleared → view_of view ≡ steps.first_view →
    (own number : ℕ) (units : Units) (transfer : Option Transfer) →
    steps.start (function_of own function) number values (world_of old units transfer) ≡ Enters (view_of view) (world_of new units transfer)
started function values types count old cleared new view frame are many fit clears binds views own number units transfer =
    let fits : steps.all_fit function.parameters values ≡ true = ap (λ types. steps.all_fit types values) (sym are) ∙ fit in
    let made : new ≡ steps.with_frame (function_of own function) values old =
    binds ∙ ap (bound_from function.frame values) clears ∙ ap (λ count. bound_from function.frame values (cleared_from function.frame count old)) many
    ∙ frame-made function own values old frame (as-many function.parameters values fits) in
    started-if function own values true (world_of old units transfer) fits number
    ∙ ap (λ objects. enters steps.first_view (world_of objects units transfer)) (sym made)
    ∙ ap (λ view. enters view (world_of new units transfer)) (sym views)

-- what the parameters are given, once the frame is made anew
pub parameters-anew : (function : LinkedFunction) (types : List ParameterType) (count : ℕ) (old cleared : List Object) → HasFrame function old → types ≡ function.parameters →
    count ≡ length function.fresh → cleared ≡ cleared_from function.frame count old → take (length types) (drop function.frame cleared) ≡ map parameter_object types
parameters-anew function types count old cleared frame are many clears =
    ap (λ all. take (length types) (drop function.frame all)) clears
    ∙ ap (λ count. take (length types) (drop function.frame (cleared_from function.frame count old))) many
    ∙ ap (λ types. take (length types) (drop function.frame (cleared_from function.frame (length function.fresh) old))) are
    ∙ parameters-cleared function old frame
    ∙ ap (map parameter_object) (sym are)

pub parameters-few : (function : LinkedFunction) (types : List ParameterType) (old : List Object) → HasFrame function old → types ≡ function.parameters →
    function.frame + length types < 2 ^ 64
parameters-few function types old frame are =
    let some : length types ≡ length function.parameters = ap length are in omega (arith, few-parameters function old frame, frame.few)
