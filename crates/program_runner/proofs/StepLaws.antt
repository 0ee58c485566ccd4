-- The item that comes next in a function (C89, 3.6).
use Rattle.std.proofs.Common.{◌≡◌, ℕ, List, Option, Some, None, ap, sym, ◌∙◌}
use Rattle.std.specs.Prelude.{slice_get, option_map}
use Rattle.std.proofs.lemmas.Option.{slice_get-map}
use Rattle.c_tree.specs.simulation.Machine.{Breaks, Goes}
use Rattle.c_tree.specs.Faults.{NoMeaning}
use Rattle.c_tree.specs.World.{World, Transfer}
use Rattle.c_tree.specs.run_state.Units.{Units}
use Rattle.c_tree.specs.Objects.{Object}
use Rattle.c_tree.specs.Linking as linking
use Rattle.item_deeds.specs.Deeds.{IfFound, world_of}
use Rattle.item_deeds.specs.Calls.{item_call, call_at, next_call}
use Rattle.c_tree.specs.Steps.{View, deed, deed_at, step}
use Rattle.linked_terms.specs.declared.items.LinkedItem.{LinkedItem}
use Rattle.linked_terms.specs.LinkedItems.{flat_of}
use Rattle.linked_programs.specs.declared.functions.LinkedFunction.{LinkedFunction}
use Rattle.linked_programs.specs.LinkedPrograms.{function_of}

pub step-known : (own : ℕ) (function : LinkedFunction) (view : View) (world : World) (item : LinkedItem) → Some item ≡ slice_get function.code view.position →
    step (function_of own function) view world ≡ deed (function_of own function) view world (flat_of item)
unfolding step
step-known own function view world item is =
    ap (deed_at (function_of own function) view world) (slice_get-map flat_of function.code view.position ∙ ap (option_map flat_of) (sym is))

pub step-none : (own : ℕ) (function : LinkedFunction) (view : View) (world : World) → None ≡ slice_get function.code view.position →
    step (function_of own function) view world ≡ Breaks NoMeaning
unfolding step
step-none own function view world is =
    ap (deed_at (function_of own function) view world) (slice_get-map flat_of function.code view.position ∙ ap (option_map flat_of) (sym is))

-- the call of the library that the step makes is that of the item
pub call-known : (own : ℕ) (function : LinkedFunction) (view : View) (world : World) (item : LinkedItem) → Some item ≡ slice_get function.code view.position →
    next_call (function_of own function) view world ≡ item_call own world.objects (flat_of item)
call-known own function view world item is =
    ap (call_at own world.objects) (slice_get-map flat_of function.code view.position ∙ ap (option_map flat_of) (sym is))

pub call-none : (own : ℕ) (function : LinkedFunction) (view : View) (world : World) → None ≡ slice_get function.code view.position →
    next_call (function_of own function) view world ≡ None
call-none own function view world is =
    ap (call_at own world.objects) (slice_get-map flat_of function.code view.position ∙ ap (option_map flat_of) (sym is))

-- a step by the short way
pub step-short : (function : LinkedFunction) (item : LinkedItem) (position : ℕ) (old new : List Object) (found : Option ℕ) → Some item ≡ slice_get function.code position →
    IfFound found (λ next. (own : linking.Function) → (view : View) → view.position ≡ position → (units : Units) → (transfer : Option Transfer) →
    deed own view (world_of old units transfer) (flat_of item) ≡ Goes (record view { position = next }) (world_of new units transfer)) (new ≡ old) →
    IfFound found (λ next. (own : ℕ) → (view : View) → view.position ≡ position → (units : Units) → (transfer : Option Transfer) →
    step (function_of own function) view (world_of old units transfer) ≡ Goes (record view { position = next }) (world_of new units transfer)) (new ≡ old)
step-short function item position old new None is h = h
step-short function item position old new (Some next) is h = λ own view at units transfer.
    step-known own function view (world_of old units transfer) item (is ∙ ap (slice_get function.code) (sym at)) ∙ h (function_of own function) view at units transfer
