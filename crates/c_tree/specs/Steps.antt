-- One step of a function, seen from that function alone: its flat item on its own view and on what all functions
-- share (C89, 3.3.2.2 and 3.6).
use Rattle.std.specs.Prelude.{ℕ, ◌+◌, ◌-◌, nat_lt, ℤ, Bool, true, false, ◌&&◌, List, [], ◌∷◌, ◌++◌, map, length, take, drop, Option, Some, None, Ok, Err, slice_get, if◌then◌else◌}
use Rattle.std.specs.Ordering.{int_eq}
use Rattle.simulation.specs.Machine.{Sorts, Event, Goes, Ends, Calls, Answers, Breaks, Entry, Enters, Refused, Lang}
use Rattle.c_tree.specs.declared.outcome.CValue.{CValue}
use Rattle.c_tree.specs.declared.outcome.CValue.TheVariants.{Number, Pointer, Null, Function}
use Rattle.c_tree.specs.declared.outcome.CFault.TheVariants.{Kind, Disagree, Active}
use Rattle.c_tree.specs.declared.types.ResultType.{ResultType}
use Rattle.c_tree.specs.declared.types.ResultType.TheVariants as result
use Rattle.c_tree.specs.declared.types.ParameterType.{ParameterType}
use Rattle.c_tree.specs.declared.types.ParameterType.TheVariants as parameter
use Rattle.c_tree.specs.Faults.{Break, Faults, NoMeaning, Or, after, failing}
use Rattle.c_tree.specs.Objects.{Object, Bytes, Values, Place, as_number, bytes_of_number, stored}
use Rattle.c_tree.specs.Terms.{Term}
use Rattle.c_tree.specs.Values.{value_of, place_named, values_of, test_of, number_of}
use Rattle.c_tree.specs.Flat.{Flat, Assign, Branch, Select, Jump, Invoke, Return, ReturnAnswer, Nothing, Lost, Callee, Direct, Through, Nowhere, Use, Ignored, Kept, Returned, CaseAt}
use Rattle.c_tree.specs.Linking as linking
use Rattle.c_tree.specs.World.{World, Ending, Plain, Reply, Gives, Void, Stops}
use Rattle.c_tree.specs.Builtins.{Taken, ANumber, APointer, Signature, signatures}
use Rattle.c_tree.specs.Library.{library}

-- what a function does with the answer to its call: nothing, a store at a place that is settled, or its own return
pub data Wants : Type 0 where
  WantsNothing : Wants
  WantsValue : Place → Wants
  WantsAnswer : Wants

-- the view of an active function; one that waits stands at its call
pub record View : Type 0 where
  pub position : ℕ
  pub wants : Wants
  pub answer : Option ℤ

-- the functions of a program as texts of a framed machine: a function is called by its number with values, and
-- answers a number or nothing
abbrev pub sorts : Sorts
sorts = record {
  Code = linking.Function;
  View = View;
  Shared = World;
  Name = ℕ;
  Arg = List CValue;
  Ans = Option ℤ;
  Fault = Break;
}

abbrev pub Happening : Type 0
Happening = Event Ending sorts

-- the rest of a step, once a part of it has a value
abbrev pub given_that : {A : Type 0} → Or A → (A → Happening) → Happening
given_that (Ok value) rest = rest value
given_that (Err reason) rest = Breaks reason

abbrev pub going_to : ℕ → View → World → Happening
going_to position view world = Goes (record view { position = position }) world

-- a view with what it shares, once a call has answered
pub record Onward : Type 0 where
  pub view : View
  pub world : World

abbrev pub past : View → View
past view = record view { position = view.position + 1; wants = WantsNothing }

-- the function goes on behind its call
abbrev pub taken : Wants → Option ℤ → View → World → Or Onward
taken WantsNothing answer view world = Ok (record { view = past view; world = world })
taken (WantsValue place) None view world = failing Disagree
taken (WantsValue place) (Some number) view world =
    after (stored world.objects place (Number number)) λ objects.
    Ok (record { view = past view; world = record world { objects = objects } })
taken WantsAnswer None view world = failing Disagree
taken WantsAnswer (Some number) view world =
    Ok (record { view = record (past view) { answer = Some number }; world = world })

-- the target of a call's value is settled before the call
abbrev pub wanted : List Object → Use → Or Wants
wanted objects Ignored = Ok WantsNothing
wanted objects (Kept target) = after (place_named objects target) λ place. Ok (WantsValue place)
wanted objects Returned = Ok WantsAnswer

-- the function that a call names
abbrev pub callee_of : List Object → Callee → Or CValue
callee_of objects (Direct number) = Ok (Function number)
callee_of objects (Through term) = value_of objects term
callee_of objects Nowhere = Err NoMeaning

-- whether a value is of the kind that a function of the library takes
abbrev pub takes : Taken → CValue → Bool
takes ANumber (Number number) = true
takes APointer (Pointer object offset) = true
takes APointer Null = true
takes taken value = false

abbrev pub takes_all : List Taken → List CValue → Bool
takes_all [] [] = true
takes_all (taken ∷ later) (value ∷ values) = takes taken value && takes_all later values
takes_all taken values = false

-- the value of a `VOID` function is not used
abbrev pub may_give : Bool → Wants → Bool
may_give true wants = true
may_give false WantsNothing = true
may_give false wants = false

abbrev pub moving : Or Onward → Happening
moving (Ok onward) = Goes onward.view onward.world
moving (Err reason) = Breaks reason

abbrev pub replied : View → Wants → Reply → Happening
replied view wants (Gives number world) = moving (taken wants (Some number) view world)
replied view wants (Void world) = moving (taken wants None view world)
replied view wants (Stops ending world) = Ends ending view world

-- a call of the library is one step of the caller
abbrev pub library_called : View → World → Wants → List CValue → Option Signature → Happening
library_called view world wants values None = Breaks (Faults Kind)
library_called view world wants values (Some signature) =
    if takes_all signature.takes values && may_give signature.gives wants then
    given_that (library signature.builtin world values) (replied view wants)
    else Breaks (Faults Disagree)

-- a call, once its target, its function and its arguments have values
abbrev pub called : ℕ → View → World → Wants → CValue → List CValue → Happening
called own view world wants (Function number) values =
    if nat_lt number own then Calls (record view { wants = wants }) world number values
    else library_called view world wants values (slice_get signatures (number - own))
called own view world wants other values = Breaks (Faults Kind)

-- the value that a function gives its caller
abbrev pub given_by : ResultType → CValue → Or (Option ℤ)
given_by result.Void value = Ok None
given_by type value = after (as_number value) λ number. Ok (Some number)

abbrev pub passed_on : ResultType → Option ℤ → Option ℤ
passed_on result.Void answer = None
passed_on type answer = answer

-- where a `switch` goes on
abbrev pub case_position : ℤ → List CaseAt → ℕ → ℕ
case_position number [] otherwise = otherwise
case_position number (case ∷ later) otherwise =
    if int_eq number case.number then case.position else case_position number later otherwise

-- an assignment settles its target, values its right side and stores
abbrev pub assigned : View → World → Term → Term → Happening
assigned view world target value =
    given_that (place_named world.objects target) λ place.
    given_that (value_of world.objects value) λ new.
    given_that (stored world.objects place new) λ objects.
    going_to (view.position + 1) view (record world { objects = objects })

abbrev pub invoked : ℕ → View → World → Use → Callee → List Term → Happening
invoked own view world how callee arguments =
    given_that (wanted world.objects how) λ wants.
    given_that (callee_of world.objects callee) λ function.
    given_that (values_of world.objects arguments) λ values.
    called own view world wants function values

-- what a flat item does in a function
unfoldable pub deed : linking.Function → View → World → Flat → Happening
deed function view world (Assign target value) = assigned view world target value
deed function view world (Branch test on off) =
    given_that (test_of world.objects test) λ holds. going_to (if holds then on else off) view world
deed function view world (Select value cases otherwise) =
    given_that (number_of world.objects value) λ number. going_to (case_position number cases otherwise) view world
deed function view world (Jump position) = going_to position view world
deed function view world (Invoke how callee arguments) = invoked function.own view world how callee arguments
deed function view world (Return None) = Answers world None
deed function view world (Return (Some term)) =
    given_that (value_of world.objects term) λ value.
    given_that (given_by function.result value) λ answer.
    Answers world answer
deed function view world ReturnAnswer = Answers world (passed_on function.result view.answer)
deed function view world Nothing = going_to (view.position + 1) view world
deed function view world Lost = Breaks NoMeaning

abbrev pub deed_at : linking.Function → View → World → Option Flat → Happening
deed_at function view world None = Breaks NoMeaning
deed_at function view world (Some item) = deed function view world item

-- the next step of a function
unfoldable pub step : linking.Function → View → World → Happening
step function view world = deed_at function view world (slice_get function.code view.position)

-- whether a value is of a parameter's kind; null is a pointer and a function
abbrev pub fits : ParameterType → CValue → Bool
fits parameter.Length (Number number) = true
fits parameter.Int (Number number) = true
fits (parameter.Function type) (Function number) = true
fits (parameter.Function type) Null = true
fits parameter.Integers (Pointer object offset) = true
fits parameter.Integers Null = true
fits parameter.Logicals (Pointer object offset) = true
fits parameter.Logicals Null = true
fits parameter.Chars (Pointer object offset) = true
fits parameter.Chars Null = true
fits type value = false

abbrev pub all_fit : List ParameterType → List CValue → Bool
all_fit [] [] = true
all_fit (type ∷ types) (value ∷ values) = fits type value && all_fit types values
all_fit types values = false

-- a parameter's object with the value of its argument
abbrev pub bound : CValue → Object → Object
bound (Number number) object = Bytes (map Some (bytes_of_number number))
bound value (Values held) = Values (record held { values = Some value ∷ [] })
bound value (Bytes bytes) = Bytes bytes

-- the objects of a frame, whose parameters come first, with the values of the arguments
abbrev pub all_bound : List CValue → List Object → List Object
all_bound (value ∷ values) (object ∷ later) = bound value object ∷ all_bound values later
all_bound values objects = objects

-- the objects with a function's frame made anew (C89, 3.1.2.4 and 3.7.1)
abbrev pub with_frame : linking.Function → List CValue → List Object → List Object
with_frame function values objects =
    take function.frame objects ++ all_bound values function.fresh ++ drop (function.frame + length function.fresh) objects

abbrev pub first_view : View
first_view = record { position = 0; wants = WantsNothing; answer = None }

-- a call begins where the arguments agree with the parameters in number and kind
unfoldable pub start : linking.Function → ℕ → List CValue → World → Entry sorts
start function number values world =
    if all_fit function.parameters values then
    Enters first_view (record world { objects = with_frame function values world.objects })
    else Refused (Faults Disagree)

abbrev pub entering : Or Onward → Entry sorts
entering (Ok onward) = Enters onward.view onward.world
entering (Err reason) = Refused reason

-- a function goes on with the answer to its call
unfoldable pub resume : linking.Function → View → Option ℤ → World → Entry sorts
resume function view answer world = entering (taken view.wants answer view world)

-- the language of linked functions
abbrev pub language : Lang Ending
language = record {
  sorts = sorts;
  step = step;
  start = start;
  resume = resume;
  missing = Faults Kind;
  busy = Faults Active;
  plain = Plain;
}
