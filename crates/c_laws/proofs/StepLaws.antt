-- One step of a function, by the values of its parts; and the step of a whole run as that of the last called function.
use Rattle.std.specs.Prelude.{◌≡◌, refl, ℕ, suc, ◌+◌, ◌-◌, nat_lt, ℤ, Bool, true, false, ◌&&◌, List, Option, Some, Ok, slice_get, if◌then◌else◌}
use Rattle.std.proofs.Common.{ap, ◌∙◌}
use Rattle.c_tree.specs.simulation.Machine.{Runs, Frame, Goes, Calls, Answers, Breaks, act, next, run}
use Rattle.c_tree.specs.run_state.Units.{Units}
use Rattle.c_tree.specs.declared.outcome.CValue.{CValue}
use Rattle.c_tree.specs.declared.outcome.CValue.TheVariants.{Function}
use Rattle.c_tree.specs.Faults.{Faults}
use Rattle.c_tree.specs.declared.outcome.CFault.TheVariants.{Disagree}
use Rattle.c_tree.specs.Objects.{Object, Place, stored}
use Rattle.c_tree.specs.Terms.{Term}
use Rattle.c_tree.specs.Values.{value_of, place_named, values_of, test_of}
use Rattle.c_tree.specs.Flat.{Flat, Assign, Branch, Invoke, Return, Direct, Ignored}
use Rattle.c_tree.specs.Linking as linking
use Rattle.c_tree.specs.World.{World, Reply}
use Rattle.c_tree.specs.Builtins.{Signature, signatures}
use Rattle.c_tree.specs.Library.{library}
use Rattle.c_tree.specs.Steps.{View, WantsNothing, going_to, sorts, language, deed, step, given_that, given_by, called, library_called, replied, takes_all, may_give, deed_at}
use Rattle.c_tree.specs.Meaning.{machine, text_of, run_of}

-- the step is the deed of the item at the position
pub step_at : (function : linking.Function) (view : View) (world : World) (item : Flat) → slice_get function.code view.position ≡ Some item → step function view world ≡ deed function view world item
unfolding step
step_at function view world item found = ap (deed_at function view world) found

-- an assignment whose parts have values
pub assignment_goes : (function : linking.Function) (view : View) (world : World) (target value : Term) (place : Place) (new : CValue) (objects : List Object) → place_named world.objects target ≡ Ok place → value_of world.objects value ≡ Ok new → stored world.objects place new ≡ Ok objects → deed function view world (Assign target value) ≡ Goes (record view { position = view.position + 1 }) (record world { objects = objects })
unfolding deed
assignment_goes function view world target value place new objects settled valued changed =
    ap
    (λ found. given_that found λ place. given_that (value_of world.objects value) λ new. given_that (stored world.objects place new) λ objects. going_to (view.position + 1) view (record world { objects = objects }))
    settled
    ∙ ap
    (λ found. given_that found λ new. given_that (stored world.objects place new) λ objects. going_to (view.position + 1) view (record world { objects = objects }))
    valued
    ∙ ap (λ found. given_that found λ objects. going_to (view.position + 1) view (record world { objects = objects })) changed

-- a test whose condition has a value
pub test_goes : (function : linking.Function) (view : View) (world : World) (test : Term) (on off : ℕ) (holds : Bool) → test_of world.objects test ≡ Ok holds → deed function view world (Branch test on off) ≡ Goes (record view { position = if holds then on else off }) world
unfolding deed
test_goes function view world test on off holds tested =
    ap (λ found. given_that found λ holds. going_to (if holds then on else off) view world) tested

-- a return with a value
pub return_answers : (function : linking.Function) (view : View) (world : World) (value : Term) (found : CValue) (answer : Option ℤ) → value_of world.objects value ≡ Ok found → given_by function.result found ≡ Ok answer → deed function view world (Return (Some value)) ≡ Answers world answer
unfolding deed
return_answers function view world value found answer valued given =
    ap (λ read. given_that read λ value. given_that (given_by function.result value) λ answer. Answers world answer) valued
    ∙ ap (λ read. given_that read λ answer. Answers world answer) given

-- a call of a function of the program, whose value is not used
pub call_calls : (function : linking.Function) (view : View) (world : World) (number : ℕ) (arguments : List Term) (values : List CValue) → values_of world.objects arguments ≡ Ok values → nat_lt number function.own ≡ true → deed function view world (Invoke Ignored (Direct number) arguments) ≡ Calls (record view { wants = WantsNothing }) world number values
unfolding deed
call_calls function view world number arguments values valued own =
    ap (λ read. given_that read λ values. called function.own view world WantsNothing (Function number) values) valued
    ∙ ap
    (λ mine. if mine then Calls (record view { wants = WantsNothing }) world number values else library_called view world WantsNothing values (slice_get signatures (number - function.own)))
    own

-- a value that is not used may be missing
pub may_give_unused : (gives : Bool) → may_give gives WantsNothing ≡ true
may_give_unused true = refl
may_give_unused false = refl

-- a call of a function of the library, whose value is not used
pub library_call_replies : (function : linking.Function) (view : View) (world : World) (number : ℕ) (arguments : List Term) (values : List CValue) (signature : Signature) (reply : Reply) → values_of world.objects arguments ≡ Ok values → nat_lt number function.own ≡ false → slice_get signatures (number - function.own) ≡ Some signature → takes_all signature.takes values ≡ true → library signature.builtin world values ≡ Ok reply → deed function view world (Invoke Ignored (Direct number) arguments) ≡ replied view WantsNothing reply
unfolding deed
library_call_replies function view world number arguments values signature reply valued other found taken given =
    ap (λ read. given_that read λ values. called function.own view world WantsNothing (Function number) values) valued
    ∙ ap
    (λ mine. if mine then Calls (record view { wants = WantsNothing }) world number values else library_called view world WantsNothing values (slice_get signatures (number - function.own)))
    other
    ∙ ap (library_called view world WantsNothing values) found
    ∙ ap
    (λ fits. if fits && may_give signature.gives WantsNothing then given_that (library signature.builtin world values) (replied view WantsNothing) else Breaks (Faults Disagree))
    taken
    ∙ ap
    (λ may. if may then given_that (library signature.builtin world values) (replied view WantsNothing) else Breaks (Faults Disagree))
    (may_give_unused signature.gives)
    ∙ ap (λ read. given_that read (replied view WantsNothing)) given

-- the state after one step more
pub run_of-suc : (program : linking.Program) (units : Units) (count : ℕ) → run_of program units (suc count) ≡ next language (machine program) (run_of program units count)
unfolding run_of run
run_of-suc program units count = refl

-- the step of a whole run is that of the view of its last called function
pub next-Runs : (program : linking.Program) (number : ℕ) (view : View) (waiting : List (Frame sorts)) (world : World) → next language (machine program) (Runs number view waiting world) ≡ act language (machine program) (step (text_of program.functions number) view world) number waiting
unfolding next
next-Runs program number view waiting world = refl
