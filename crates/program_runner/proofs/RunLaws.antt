-- Steps of a run, as the machine of C texts makes them (C89, 3.3.2.2 and 3.6.6.4).
use Rattle.std.proofs.Common.{◌≡◌, ℕ, zero, suc, ◌+◌, ◌-◌, ◌<◌, ◌≤◌, ℤ, Bool, true, false, not, ◌||◌, cond, if◌then◌else◌, List, [], ◌∷◌, length, map, take, drop, Option, Some, None, refl, ap, sym, ◌∙◌, subst, arith}
use Rattle.std.specs.Prelude.{nat_eq, nat_lt, slice_get, option_map, unwrap_or, position, bytes_eq, Result}
use Rattle.std.specs.List.{prefix_len}
use Rattle.std.proofs.lemmas.Bool.Decides.{nat_tests}
use Rattle.std.proofs.lemmas.List.{length-map}
use Rattle.std.proofs.lemmas.Option.{slice_get-map, slice_get_within}
use Rattle.c_tree.specs.simulation.Machine.{Goes, Ends, Calls, Answers, Breaks, Entry, Enters, Refused, Program, Has, State, Runs, Over, Broken, numbers, active, unless_active, opening, calling, answering, act, next, run, begun, entering, machine_opened}
use Rattle.c_tree.specs.run_state.Endings.{Ending, Plain}
use Rattle.c_tree.specs.run_state.Units.{Units}
use Rattle.c_tree.specs.declared.outcome.CValue.{CValue}
use Rattle.c_tree.specs.declared.outcome.CFault.{CFault}
use Rattle.c_tree.specs.declared.outcome.CFault.TheVariants as fault
use Rattle.c_tree.specs.Faults.{Faults, Break}
use Rattle.c_tree.specs.Linking as linking
use Rattle.c_tree.specs.Linking.{main_name}
use Rattle.c_tree.specs.Objects.{Object}
use Rattle.c_tree.specs.World.{World, Transfer}
use Rattle.c_tree.specs.Steps.{sorts, language, View, Happening, step, start, resume}
use Rattle.c_tree.specs.Meaning.{numbered, text_of, machine, no_function, main_number, run_of}
use Rattle.linked_programs.specs.declared.functions.LinkedFunction.{LinkedFunction}
use Rattle.linked_programs.specs.declared.programs.LinkedProgram.{LinkedProgram}
use Rattle.linked_programs.specs.LinkedPrograms.{function_of, program_of}
use Rattle.item_deeds.specs.declared.views.CallView.{CallView}
use Rattle.run_bytes.specs.Layout.{unset_object}
use Rattle.item_deeds.specs.Deeds.{view_of, world_of}
use Rattle.item_deeds.specs.Forms.{forms, SameForms}
use Rattle.call_frames.specs.Frames.{HasFrame}
use Rattle.run_library.specs.declared.library.RunBreak.{RunBreak}
use Rattle.run_library.specs.Replies.{break_of, StandsIn}
use Rattle.program_runner.specs.declared.stack.ActiveFunction.{ActiveFunction}
use Rattle.program_runner.specs.declared.stack.CallStack.{CallStack}
use Rattle.program_runner.specs.declared.runs.RunOutcome.{RunOutcome}
use Rattle.program_runner.specs.declared.runs.RunOutcome.TheVariants as outcome
use Rattle.program_runner.specs.declared.events.StepEvent.{StepEvent}
use Rattle.program_runner.specs.Events.{event_of}
use Rattle.program_runner.specs.Outcomes.{FramesStand, Reaches, Stands, Begins, UnlessFailed}
use Rattle.program_runner.specs.Numbers.{has}
use Rattle.program_runner.specs.Stacks.{Frames, frames_of, numbers_of, waiting, state_of, IsPushed}
use Rattle.program_runner.proofs.StackLaws.{active-has}

-- FUNCTIONS BY THEIR NUMBERS
pub function-known : (program : LinkedProgram) (number : ℕ) (function : LinkedFunction) → slice_get program.functions number ≡ Some function →
    text_of (program_of program).functions number ≡ function_of (length program.functions) function
function-known program number function is =
    ap (λ found. unwrap_or found no_function)
    (slice_get-map (function_of (length program.functions)) program.functions number ∙ ap (option_map (function_of (length program.functions))) is)

numbered-by : (functions : List linking.Function) (number : ℕ) (test : Bool) → nat_lt number (length functions) ≡ test → numbered functions number ≡ (if test then Some number else None)
numbered-by functions number test is = ap (λ test. if test then Some number else None) is

pub number-known : (program : LinkedProgram) (number : ℕ) (function : LinkedFunction) → slice_get program.functions number ≡ Some function →
    numbered (program_of program).functions number ≡ Some number
number-known program number function is =
    let within : number < length program.functions = slice_get_within program.functions number function is in
    let all : length (program_of program).functions ≡ length program.functions = length-map program.functions (function_of (length program.functions)) in
    numbered-by (program_of program).functions number true (grind (arith, nat_tests))

past-all : (functions : List LinkedFunction) (number : ℕ) → slice_get functions number ≡ None → length functions ≤ number
past-all [] number is = omega arith
past-all (first ∷ later) zero is = absurd (cc)
past-all (first ∷ later) (suc number) is = let rest = past-all later number is in omega arith

pub number-missing : (program : LinkedProgram) (number : ℕ) → slice_get program.functions number ≡ None → numbered (program_of program).functions number ≡ None
number-missing program number is =
    let past : length program.functions ≤ number = past-all program.functions number is in
    let all : length (program_of program).functions ≡ length program.functions = length-map program.functions (function_of (length program.functions)) in
    numbered-by (program_of program).functions number false (grind (arith, nat_tests))

-- ONE STEP
pub next-known : (program : LinkedProgram) (number : ℕ) (function : LinkedFunction) (view : View) (frames : Frames) (world : World) (event : Happening) →
    slice_get program.functions number ≡ Some function → step (function_of (length program.functions) function) view world ≡ event →
    next language (machine (program_of program)) (Runs number view frames world) ≡ act language (machine (program_of program)) event number frames
unfolding machine_opened
next-known program number function view frames world event is does =
    ap (λ text. act language (machine (program_of program)) (step text view world) number frames) (function-known program number function is)
    ∙ ap (λ event. act language (machine (program_of program)) event number frames) does

-- CALLS
pub call-missing : (program : LinkedProgram) (number : ℕ) (values : List CValue) (world : World) (frames : Frames) → slice_get program.functions number ≡ None →
    calling language (machine (program_of program)) (numbered (program_of program).functions number) number values world frames ≡ Broken (Faults fault.Kind) (numbers frames)
unfolding machine_opened
call-missing program number values world frames is =
    ap (λ found. calling language (machine (program_of program)) found number values world frames) (number-missing program number is)

pub call-known : (program : LinkedProgram) (number : ℕ) (function : LinkedFunction) (values : List CValue) (world : World) (frames : Frames) (entry : Entry sorts) →
    slice_get program.functions number ≡ Some function → start (function_of (length program.functions) function) number values world ≡ entry →
    calling language (machine (program_of program)) (numbered (program_of program).functions number) number values world frames ≡ opening language entry number frames
unfolding machine_opened
call-known program number function values world frames entry is starts =
    ap (λ found. calling language (machine (program_of program)) found number values world frames) (number-known program number function is)
    ∙ ap (λ text. opening language (start text number values world) number frames) (function-known program number function is)
    ∙ ap (λ entry. opening language entry number frames) starts

pub opened-refused : (why : CFault) (number : ℕ) (frames : Frames) → opening language (Refused (Faults why)) number frames ≡ Broken (Faults why) (numbers frames)
unfolding machine_opened
opened-refused why number frames = refl

pub opened-busy : (view : View) (world : World) (number : ℕ) (frames : Frames) → active number frames ≡ true →
    opening language (Enters view world) number frames ≡ Broken (Faults fault.Active) (numbers frames)
unfolding machine_opened
opened-busy view world number frames is = ap (λ test. unless_active test (Faults fault.Active) view world number frames) is

pub opened-idle : (view : View) (world : World) (number : ℕ) (frames : Frames) → active number frames ≡ false →
    opening language (Enters view world) number frames ≡ Runs number view frames world
unfolding machine_opened
opened-idle view world number frames is = ap (λ test. unless_active test (Faults fault.Active) view world number frames) is

-- MANY STEPS
pub none-run : (program : Program sorts) (state : State Ending sorts) → run language program 0 state ≡ state
unfolding machine_opened
none-run program state = refl

pub one-run : (program : Program sorts) (count : ℕ) (state : State Ending sorts) → run language program (count + 1) state ≡ next language program (run language program count state)
unfolding machine_opened
one-run program count state = let more : count + 1 ≡ suc count = omega arith in ap (λ n. run language program n state) more

over-stays : (program : Program sorts) (how : Ending) (frames : Frames) (world : World) → next language program (Over how frames world) ≡ Over how frames world
unfolding machine_opened
over-stays program how frames world = refl

broken-stays : (program : Program sorts) (why : Break) (callers : List ℕ) → next language program (Broken why callers) ≡ Broken why callers
unfolding machine_opened
broken-stays program why callers = refl

stays-for : (program : Program sorts) (state last : State Ending sorts) (count more : ℕ) → next language program last ≡ last → run language program count state ≡ last →
    run language program (count + more) state ≡ last
stays-for program state last count zero stays is = let all : count + 0 ≡ count = omega arith in ap (λ n. run language program n state) all ∙ is
stays-for program state last count (suc more) stays is =
    let further : count + suc more ≡ (count + more) + 1 = omega arith in
    ap (λ n. run language program n state) further ∙ one-run program (count + more) state ∙ ap (next language program) (stays-for program state last count more stays is) ∙ stays

stays-up-to : (program : Program sorts) (state last : State Ending sorts) (count steps : ℕ) → next language program last ≡ last → run language program count state ≡ last →
    count ≤ steps → run language program steps state ≡ last
stays-up-to program state last count steps stays is few =
    let all : count + (steps - count) ≡ steps = omega arith in
    ap (λ n. run language program n state) (sym all) ∙ stays-for program state last count (steps - count) stays is

-- a run that is over stays so
pub over-for-good : {E : Type 0} (ending : List Object → E → Ending) (program : Program sorts) (state : State Ending sorts) (count steps : ℕ) (stack : CallStack) (world : World) (how : RunOutcome E) →
    Reaches ending (run language program count state) stack world how → ((how ≡ outcome.Running) → ⊥) → count ≤ steps → Reaches ending (run language program steps state) stack world how
over-for-good ending program state count steps stack world outcome.Running reaches not few = absurd (not refl)
over-for-good ending program state count steps stack world outcome.Returned reaches not few =
    stays-up-to program state (Over Plain [] world) count steps (over-stays program Plain [] world) reaches few
over-for-good ending program state count steps stack world (outcome.Stopped stop) reaches not few =
    (reaches.0, stays-up-to program state (Over (ending world.objects stop) reaches.0 world) count steps (over-stays program (ending world.objects stop) reaches.0 world) reaches.1 few)
over-for-good ending program state count steps stack world (outcome.Broken why number) reaches not few =
    (reaches.0, stays-up-to program state (Broken (break_of why) (number ∷ reaches.0)) count steps (broken-stays program (break_of why) (number ∷ reaches.0)) reaches.1 few)
over-for-good ending program state count steps stack world (outcome.Failed unit) reaches not few = reaches
over-for-good ending program state count steps stack world outcome.Uncounted reaches not few = reaches

-- EVENTS OF THE ACTIVE FUNCTION
abbrev state_with : LinkedProgram → ℕ → View → Frames → World → State Ending sorts
state_with program number view frames world = next language (machine (program_of program)) (Runs number view frames world)

-- what an event makes of the run
happens : (program : LinkedProgram) (own number : ℕ) (function : LinkedFunction) (view : View) (frames : Frames) (world : World) (event : Happening) →
    Some function ≡ slice_get program.functions number → own ≡ length program.functions → step (function_of own function) view world ≡ event →
    state_with program number view frames world ≡ act language (machine (program_of program)) event number frames
happens program own number function view frames world event is all does =
    next-known program number function view frames world event (sym is) (ap (λ own. step (function_of own function) view world) (sym all) ∙ does)

pub goes-on : (program : Program sorts) (number : ℕ) (frames : Frames) (onward : View) (after : World) → act language program (Goes onward after) number frames ≡ Runs number onward frames after
unfolding machine_opened
goes-on program number frames onward after = refl

-- the active function goes on at a place
pub goes-so : (program : LinkedProgram) (function : LinkedFunction) (number place : ℕ) (view : View) (frames : Frames) (old new : World) →
    Some function ≡ slice_get program.functions number →
    ((own : ℕ) → (other : View) → other.position ≡ view.position → step (function_of own function) other old ≡ Goes (record other { position = place }) new) →
    next language (machine (program_of program)) (Runs number view frames old) ≡ Runs number (record view { position = place }) frames new
goes-so program function number place view frames old new is does =
    happens program (length program.functions) number function view frames old (Goes (record view { position = place }) new) is refl (does (length program.functions) view refl)
    ∙ goes-on (machine (program_of program)) number frames (record view { position = place }) new

pub ends-by : (program : Program sorts) (number : ℕ) (frames : Frames) (how : Ending) (last : View) (after : World) → act language program (Ends how last after) number frames ≡ Over how (Has number last ∷ frames) after
unfolding machine_opened
ends-by program number frames how last after = refl

pub calls-one : (program : LinkedProgram) (number : ℕ) (frames : Frames) (held : View) (after : World) (called : ℕ) (values : List CValue) →
    act language (machine (program_of program)) (Calls held after called values) number frames
    ≡ calling language (machine (program_of program)) (numbered (program_of program).functions called) called values after (Has number held ∷ frames)
unfolding machine_opened
calls-one program number frames held after called values = refl

pub answers-one : (program : Program sorts) (number : ℕ) (frames : Frames) (given : Option ℤ) (after : World) → act language program (Answers after given) number frames ≡ answering language program number frames after given
unfolding machine_opened
answers-one program number frames given after = refl

pub breaks-by : (program : Program sorts) (number : ℕ) (frames : Frames) (why : Break) → act language program (Breaks why) number frames ≡ Broken why (number ∷ numbers frames)
unfolding machine_opened
breaks-by program number frames why = refl

-- RUNS IN WHICH NO DEVICE FAILED AND NO FUNCTION LACKED
pub unless : {E : Type 0} (how : RunOutcome E) (Holds : Type 0) → Holds → UnlessFailed how Holds
unless outcome.Running Holds is = is
unless outcome.Returned Holds is = is
unless (outcome.Stopped ending) Holds is = is
unless (outcome.Broken why number) Holds is = is
unless (outcome.Failed unit) Holds is = tt
unless outcome.Uncounted Holds is = tt

pub unless-so : {E : Type 0} (how : RunOutcome E) (First Second : Type 0) → (First → Second) → UnlessFailed how First → UnlessFailed how Second
unless-so outcome.Running First Second makes is = makes is
unless-so outcome.Returned First Second makes is = makes is
unless-so (outcome.Stopped ending) First Second makes is = makes is
unless-so (outcome.Broken why number) First Second makes is = makes is
unless-so (outcome.Failed unit) First Second makes is = tt
unless-so outcome.Uncounted First Second makes is = tt

-- the next step of a run, by what the active function does
pub next-so : {E : Type 0} (ending : List Object → E → Ending) (program : LinkedProgram) (own : ℕ) (function : LinkedFunction) (old new : CallStack) (before : World) (stands : Units → Option Transfer → Type 0)
    (middle objects : List Object) (values : List CValue) (event : StepEvent E) (how : RunOutcome E) → Some function ≡ slice_get program.functions old.top.number → own ≡ length program.functions →
    StandsIn stands middle (λ after. step (function_of own function) (view_of old.top.view) before ≡ event_of ending after values event) →
    ((units : Units) → (transfer : Option Transfer) → Reaches ending (act language (machine (program_of program)) (event_of ending (world_of middle units transfer) values event) old.top.number (frames_of (waiting old))) new (world_of objects units transfer) how) →
    UnlessFailed how (StandsIn stands objects (λ after. Reaches ending (next language (machine (program_of program)) (state_of old before)) new after how))
next-so ending program own function old new before stands middle objects values event how is all does makes =
    unless how (StandsIn stands objects (λ after. Reaches ending (next language (machine (program_of program)) (state_of old before)) new after how))
    (record {
      units = does.units;
      transfer = does.transfer;
      stood = does.stood;
      holds = subst (λ (state : State Ending sorts). Reaches ending state new (world_of objects does.units does.transfer) how)
          (sym (happens program own old.top.number function (view_of old.top.view) (frames_of (waiting old)) before (event_of ending (world_of middle does.units does.transfer) values event) is all does.holds))
          (makes does.units does.transfer);
    })

-- ANSWERS
pub answers-nobody : (program : Program sorts) (number : ℕ) (waits : List ActiveFunction) (world : World) (given : Option ℤ) → waits ≡ [] →
    answering language program number (frames_of waits) world given ≡ Over Plain [] world
unfolding machine_opened
answers-nobody program number waits world given none = ap (λ waits. answering language program number (frames_of waits) world given) none

abbrev resumed : Program sorts → ℕ → ActiveFunction → List ActiveFunction → Entry sorts → State Ending sorts
resumed program number top later entry = entering entry (number ∷ top.number ∷ numbers (frames_of later)) top.number (frames_of later)

answers-by : (program : Program sorts) (number : ℕ) (waits : List ActiveFunction) (top : ActiveFunction) (later : List ActiveFunction) (world : World) (given : Option ℤ) (entry : Entry sorts) → waits ≡ top ∷ later →
    resume (program.text top.number) (view_of top.view) given world ≡ entry → answering language program number (frames_of waits) world given ≡ resumed program number top later entry
unfolding machine_opened
answers-by program number waits top later world given entry is goes =
    ap (λ waits. answering language program number (frames_of waits) world given) is ∙ ap (resumed program number top later) goes

pub answers-caller : (program : Program sorts) (number : ℕ) (waits : List ActiveFunction) (top : ActiveFunction) (later : List ActiveFunction) (world : World) (given : Option ℤ) (view : View) (after : World) → waits ≡ top ∷ later →
    resume (program.text top.number) (view_of top.view) given world ≡ Enters view after → answering language program number (frames_of waits) world given ≡ Runs top.number view (frames_of later) after
unfolding machine_opened
answers-caller program number waits top later world given view after is goes = answers-by program number waits top later world given (Enters view after) is goes

pub answers-refused : (program : Program sorts) (number : ℕ) (waits : List ActiveFunction) (top : ActiveFunction) (later : List ActiveFunction) (world : World) (given : Option ℤ) (why : Break) → waits ≡ top ∷ later →
    resume (program.text top.number) (view_of top.view) given world ≡ Refused why →
    answering language program number (frames_of waits) world given ≡ Broken why (number ∷ top.number ∷ numbers (frames_of later))
unfolding machine_opened
answers-refused program number waits top later world given why is goes = answers-by program number waits top later world given (Refused why) is goes

-- CALLS OF THE ACTIVE FUNCTION
pub broken-so : {E : Type 0} (ending : List Object → E → Ending) (state : State Ending sorts) (stack : CallStack) (world : World) (why : RunBreak) (number : ℕ) (callers : List ℕ) (result : RunOutcome E) →
    result ≡ outcome.Broken why number → state ≡ Broken (break_of why) (number ∷ callers) → Reaches ending state stack world result
broken-so ending state stack world why number callers result is broken = subst (Reaches ending state stack world) (sym is) (callers, broken)

pub first-number : (number : ℕ) (view : View) (frames : Frames) → numbers (Has number view ∷ frames) ≡ number ∷ numbers frames
unfolding machine_opened
first-number number view frames = refl

active-too : (called : ℕ) (stack : CallStack) (view : View) → active called (Has stack.top.number view ∷ frames_of (waiting stack)) ≡ has called (stack.top.number ∷ numbers_of (waiting stack))
unfolding machine_opened
active-too called stack view = ap (λ rest. nat_eq called stack.top.number || rest) (active-has called (waiting stack))

pub enters-busy : (stack : CallStack) (view first : View) (called : ℕ) (world : World) → true ≡ has called (stack.top.number ∷ numbers_of (waiting stack)) →
    opening language (Enters first world) called (Has stack.top.number view ∷ frames_of (waiting stack)) ≡ Broken (Faults fault.Active) (stack.top.number ∷ numbers (frames_of (waiting stack)))
enters-busy stack view first called world busy =
    opened-busy first world called (Has stack.top.number view ∷ frames_of (waiting stack)) (active-too called stack view ∙ sym busy)
    ∙ ap (Broken (Faults fault.Active)) (first-number stack.top.number view (frames_of (waiting stack)))

pub enters-idle : (old new : CallStack) (view : CallView) (called : ActiveFunction) (world : World) → false ≡ has called.number (old.top.number ∷ numbers_of (waiting old)) → IsPushed old new view called →
    opening language (Enters (view_of called.view) world) called.number (Has old.top.number (view_of view) ∷ frames_of (waiting old)) ≡ state_of new world
enters-idle old new view called world idle pushed =
    opened-idle (view_of called.view) world called.number (Has old.top.number (view_of view) ∷ frames_of (waiting old)) (active-too called.number old (view_of view) ∙ sym idle)
    ∙ ap (λ top. Runs top.number (view_of top.view) (Has old.top.number (view_of view) ∷ frames_of (waiting old)) world) (sym pushed.top)
    ∙ ap (λ waits. Runs new.top.number (view_of new.top.view) (frames_of waits) world) (sym pushed.waits)

pub refused-first : (why : CFault) (called number : ℕ) (view : View) (frames : Frames) → opening language (Refused (Faults why)) called (Has number view ∷ frames) ≡ Broken (Faults why) (number ∷ numbers frames)
refused-first why called number view frames = opened-refused why called (Has number view ∷ frames) ∙ ap (Broken (Faults why)) (first-number number view frames)

-- THE BEGINNING
abbrev begun_state : LinkedProgram → ℕ → World → State Ending sorts
begun_state program main world = begun language (machine (program_of program)) main [] world

pub begun-known : (program : LinkedProgram) (number main : ℕ) (function : LinkedFunction) (own : ℕ) (world : World) → number ≡ main → own ≡ length program.functions → Some function ≡ slice_get program.functions number →
    begun language (machine (program_of program)) main [] world ≡ opening language (start (function_of own function) number [] world) number []
unfolding machine_opened
begun-known program number main function own world same all is =
    ap (λ main. begun language (machine (program_of program)) main [] world) (sym same)
    ∙ call-known program number function [] world [] (start (function_of (length program.functions) function) number [] world) (sym is) refl
    ∙ ap (λ own. opening language (start (function_of own function) number [] world) number []) (sym all)

pub begun-missing : (program : LinkedProgram) (number main : ℕ) (world : World) → number ≡ main → None ≡ slice_get program.functions number →
    begun language (machine (program_of program)) main [] world ≡ Broken (Faults fault.Kind) []
unfolding machine_opened
begun-missing program number main world same is = ap (λ main. begun language (machine (program_of program)) main [] world) (sym same) ∙ call-missing program number [] world [] (sym is)

pub alone-running : (stack : CallStack) (number : ℕ) (view : CallView) (world : World) → stack.top ≡ record { number = number; view = view } → waiting stack ≡ [] →
    opening language (Enters (view_of view) world) number [] ≡ state_of stack world
unfolding machine_opened
alone-running stack number view world top none =
    ap (λ top. Runs top.number (view_of top.view) [] world) (sym top) ∙ ap (λ waits. Runs stack.top.number (view_of stack.top.view) (frames_of waits) world) (sym none)

pub none-refused : (why : CFault) (number : ℕ) → opening language (Refused (Faults why)) number [] ≡ Broken (Faults why) []
unfolding machine_opened
none-refused why number = refl

prefix-of-map : {A B : Type 0} (test : B → Bool) (made : A → B) (xs : List A) → prefix_len test (map made xs) ≡ prefix_len (λ x. test (made x)) xs
prefix-of-map test made [] = refl
prefix-of-map test made (x ∷ later) = ap (λ n. cond (test (made x)) (1 + n) 0) (prefix-of-map test made later)

pub main-same : (program : LinkedProgram) → unwrap_or (position (λ function. bytes_eq main_name function.name) program.functions) 0 ≡ main_number (program_of program)
main-same program =
    sym (ap (λ n. unwrap_or (cond (nat_lt n (length (program_of program).functions)) (Some n) None) 0)
    (prefix-of-map (λ function. not (bytes_eq main_name function.name)) (function_of (length program.functions)) program.functions)
    ∙ ap (λ n. unwrap_or (cond (nat_lt (prefix_len (λ function. not (bytes_eq main_name function.name)) program.functions) n) (Some (prefix_len (λ function. not (bytes_eq main_name function.name)) program.functions)) None) 0)
    (length-map program.functions (function_of (length program.functions))))

-- FRAMES
part-forms : (start count : ℕ) (objects : List Object) → forms (take count (drop start objects)) ≡ take count (drop start (forms objects))
part-forms zero zero objects = refl
part-forms zero (suc count) [] = refl
part-forms zero (suc count) (object ∷ later) = ap (λ rest. unset_object object ∷ rest) (part-forms zero count later)
part-forms (suc start) zero [] = refl
part-forms (suc start) (suc count) [] = refl
part-forms (suc start) count (object ∷ later) = part-forms start count later

frame-kept : (function : LinkedFunction) (old new : List Object) → HasFrame function old → SameForms old new → HasFrame function new
frame-kept function old new frame same = record {
  within = omega (arith, frame.within, ap length same.same, length-map old unset_object, length-map new unset_object);
  few = frame.few;
  formed = part-forms function.frame (length function.fresh) new
      ∙ ap (λ all. take (length function.fresh) (drop function.frame all)) same.same
      ∙ sym (part-forms function.frame (length function.fresh) old)
      ∙ frame.formed;
  parameters = frame.parameters;
}

pub frames-kept : (program : LinkedProgram) (old new : List Object) → FramesStand program old → SameForms old new → FramesStand program new
frames-kept program old new stand same = λ number function is. frame-kept function old new (stand number function is) same

-- a run that begins by a function that there is
pub begun-one : (program : LinkedProgram) (number main : ℕ) (function : LinkedFunction) (old new : List Object) (begun : Result CallStack CFault) → number ≡ main → Some function ≡ slice_get program.functions number →
    ((own : ℕ) → (units : Units) → (transfer : Option Transfer) → Begins (opening language (start (function_of own function) number [] (world_of old units transfer)) number []) (world_of new units transfer) begun) →
    (units : Units) → (transfer : Option Transfer) → Begins (begun_state program main (world_of old units transfer)) (world_of new units transfer) begun
begun-one program number main function old new begun same is begins units transfer =
    subst (λ (state : State Ending sorts). Begins state (world_of new units transfer) begun)
    (sym (begun-known program number main function (length program.functions) (world_of old units transfer) same refl is))
    (begins (length program.functions) units transfer)

-- MANY STEPS OF A RUN
goes-further : (program : Program sorts) (count : ℕ) (first state after : State Ending sorts) → run language program count first ≡ state → next language program state ≡ after →
    run language program (count + 1) first ≡ after
goes-further program count first state after reached goes = one-run program count first ∙ ap (next language program) reached ∙ goes

over-after : {E : Type 0} (ending : List Object → E → Ending) (program : Program sorts) (first state : State Ending sorts) (count steps : ℕ) (stack : CallStack) (world : World) (how : RunOutcome E) →
    run language program count first ≡ state → Reaches ending (next language program state) stack world how → ((how ≡ outcome.Running) → ⊥) → count < steps →
    Reaches ending (run language program steps first) stack world how
over-after ending program first state count steps stack world how reached reaches not few =
    over-for-good ending program first (count + 1) steps stack world how
    (subst (λ (state : State Ending sorts). Reaches ending state stack world how) (sym (goes-further program count first state (next language program state) reached refl)) reaches)
    not (omega arith)

-- a run that is over by so many steps stands behind more of them as it stood
over-same : {E : Type 0} (ending : List Object → E → Ending) (program : Program sorts) (state : State Ending sorts) (count steps : ℕ) (stack : CallStack) (world : World) (how : RunOutcome E) →
    Reaches ending (run language program count state) stack world how → ((how ≡ outcome.Running) → ⊥) → count ≤ steps → run language program count state ≡ run language program steps state
over-same ending program state count steps stack world outcome.Running reaches not few = absurd (not refl)
over-same ending program state count steps stack world outcome.Returned reaches not few =
    reaches ∙ sym (stays-up-to program state (Over Plain [] world) count steps (over-stays program Plain [] world) reaches few)
over-same ending program state count steps stack world (outcome.Stopped stop) reaches not few =
    reaches.1 ∙ sym (stays-up-to program state (Over (ending world.objects stop) reaches.0 world) count steps (over-stays program (ending world.objects stop) reaches.0 world) reaches.1 few)
over-same ending program state count steps stack world (outcome.Broken why number) reaches not few =
    reaches.1 ∙ sym (stays-up-to program state (Broken (break_of why) (number ∷ reaches.0)) count steps (broken-stays program (break_of why) (number ∷ reaches.0)) reaches.1 few)
over-same ending program state count steps stack world (outcome.Failed unit) reaches not few = absurd reaches
over-same ending program state count steps stack world outcome.Uncounted reaches not few = absurd reaches

pub next-same : {E : Type 0} (ending : List Object → E → Ending) (program : Program sorts) (first state : State Ending sorts) (count steps : ℕ) (stack : CallStack) (world : World) (how : RunOutcome E) →
    run language program count first ≡ state → Reaches ending (next language program state) stack world how → ((how ≡ outcome.Running) → ⊥) → count < steps →
    run language program (count + 1) first ≡ run language program steps first
next-same ending program first state count steps stack world how reached reaches not few =
    over-same ending program first (count + 1) steps stack world how
    (subst (λ (state : State Ending sorts). Reaches ending state stack world how) (sym (goes-further program count first state (next language program state) reached refl)) reaches)
    not (omega arith)

-- one step more, of a library that stands for the units and the transfer of a world
pub goes-further-by : (program : Program sorts) (count : ℕ) (first : State Ending sorts) (stack new : CallStack) (stands stood : Units → Option Transfer → Type 0) (old objects : List Object) →
    StandsIn stands old (λ after. run language program count first ≡ state_of stack after) →
    ((units : Units) → (transfer : Option Transfer) → stands units transfer → StandsIn stood objects (λ after. next language program (state_of stack (world_of old units transfer)) ≡ state_of new after)) →
    StandsIn stood objects (λ after. run language program (count + 1) first ≡ state_of new after)
goes-further-by program count first stack new stands stood old objects reached goes =
    let onward = goes reached.units reached.transfer reached.stood in
    record {
      units = onward.units;
      transfer = onward.transfer;
      stood = onward.stood;
      holds = goes-further program count first (state_of stack (world_of old reached.units reached.transfer)) (state_of new (world_of objects onward.units onward.transfer)) reached.holds onward.holds;
    }

pub over-by : {E : Type 0} (ending : List Object → E → Ending) (program : Program sorts) (count steps : ℕ) (first : State Ending sorts) (stack new : CallStack) (stands stood : Units → Option Transfer → Type 0)
    (old objects : List Object) (how : RunOutcome E) → StandsIn stands old (λ after. run language program count first ≡ state_of stack after) →
    ((units : Units) → (transfer : Option Transfer) → stands units transfer →
    UnlessFailed how (StandsIn stood objects (λ after. Reaches ending (next language program (state_of stack (world_of old units transfer))) new after how))) →
    ((how ≡ outcome.Running) → ⊥) → count < steps → UnlessFailed how (StandsIn stood objects (λ after. Reaches ending (run language program steps first) new after how))
over-by ending program count steps first stack new stands stood old objects how reached goes not few =
    unless-so how (StandsIn stood objects (λ after. Reaches ending (next language program (state_of stack (world_of old reached.units reached.transfer))) new after how))
    (StandsIn stood objects (λ after. Reaches ending (run language program steps first) new after how))
    (λ last. record {
      units = last.units;
      transfer = last.transfer;
      stood = last.stood;
      holds = over-after ending program first (state_of stack (world_of old reached.units reached.transfer)) count steps new (world_of objects last.units last.transfer) how reached.holds last.holds not few;
    })
    (goes reached.units reached.transfer reached.stood)

pub stands-so : {E : Type 0} (ending : List Object → E → Ending) (state : State Ending sorts) (stack : CallStack) (world : World) (how : RunOutcome E) → Reaches ending state stack world how → Stands ending state world how
stands-so ending state stack world outcome.Running reaches = (stack.top.number, view_of stack.top.view, frames_of (waiting stack), reaches)
stands-so ending state stack world outcome.Returned reaches = reaches
stands-so ending state stack world (outcome.Stopped how) reaches = reaches
stands-so ending state stack world (outcome.Broken why number) reaches = reaches
stands-so ending state stack world (outcome.Failed unit) reaches = reaches
stands-so ending state stack world outcome.Uncounted reaches = reaches

broken-for-good : (program : Program sorts) (first : State Ending sorts) (steps : ℕ) (why : Break) → first ≡ Broken why [] → run language program steps first ≡ Broken why []
broken-for-good program first steps why is =
    stays-up-to program first (Broken why []) 0 steps (broken-stays program why []) (none-run program first ∙ is) (omega arith)

-- the state of a whole run, by the one in which it begins
pub run-from : (program : linking.Program) (units : Units) (steps : ℕ) (objects : List Object) (transfer : Option Transfer) → objects ≡ program.objects → transfer ≡ None →
    run_of program units steps ≡ run language (machine program) steps (begun language (machine program) (main_number program) [] (world_of objects units transfer))
unfolding run_of
run-from program units steps objects transfer are none =
    ap (λ objects. run language (machine program) steps (begun language (machine program) (main_number program) [] (world_of objects units None))) (sym are)
    ∙ ap (λ transfer. run language (machine program) steps (begun language (machine program) (main_number program) [] (world_of objects units transfer))) (sym none)

whole-run : {E : Type 0} (ending : List Object → E → Ending) (program : linking.Program) (units : Units) (steps : ℕ) (old new : List Object) (transfer : Option Transfer) (stack after : CallStack) (last : World) (how : RunOutcome E) →
    old ≡ program.objects → transfer ≡ None →
    begun language (machine program) (main_number program) [] (world_of old units transfer) ≡ state_of stack (world_of new units transfer) →
    Reaches ending (run language (machine program) steps (state_of stack (world_of new units transfer))) after last how → Stands ending (run_of program units steps) last how
whole-run ending program units steps old new transfer stack after last how are none begins reaches =
    subst (λ (state : State Ending sorts). Stands ending state last how)
    (sym (run-from program units steps old transfer are none ∙ ap (run language (machine program) steps) begins))
    (stands-so ending (run language (machine program) steps (state_of stack (world_of new units transfer))) after last how reaches)

pub whole-run-by : {E : Type 0} (ending : List Object → E → Ending) (program : linking.Program) (units : Units) (steps : ℕ) (old middle objects : List Object) (stack new : CallStack) (stood : Units → Option Transfer → Type 0)
    (how : RunOutcome E) → old ≡ program.objects →
    begun language (machine program) (main_number program) [] (world_of old units None) ≡ state_of stack (world_of middle units None) →
    UnlessFailed how (StandsIn stood objects (λ after. Reaches ending (run language (machine program) steps (state_of stack (world_of middle units None))) new after how)) →
    UnlessFailed how (StandsIn stood objects (λ after. Stands ending (run_of program units steps) after how))
whole-run-by ending program units steps old middle objects stack new stood how are begins reaches =
    unless-so how (StandsIn stood objects (λ after. Reaches ending (run language (machine program) steps (state_of stack (world_of middle units None))) new after how))
    (StandsIn stood objects (λ after. Stands ending (run_of program units steps) after how))
    (λ last. record {
      units = last.units;
      transfer = last.transfer;
      stood = last.stood;
      holds = whole-run ending program units steps old middle None stack new (world_of objects last.units last.transfer) how are refl begins last.holds;
    })
    reaches

pub whole-refused : (program : linking.Program) (units : Units) (steps : ℕ) (old : List Object) (transfer : Option Transfer) (why : CFault) → old ≡ program.objects → transfer ≡ None →
    begun language (machine program) (main_number program) [] (world_of old units transfer) ≡ Broken (Faults why) [] → run_of program units steps ≡ Broken (Faults why) []
whole-refused program units steps old transfer why are none begins =
    run-from program units steps old transfer are none
    ∙ broken-for-good (machine program) (begun language (machine program) (main_number program) [] (world_of old units transfer)) steps (Faults why) begins
