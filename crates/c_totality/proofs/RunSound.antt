-- A run of functions that stand whole stays sound at each step.
use Rattle.std.specs.Prelude.{◌≡◌, ℕ, zero, suc, ◌<◌, nat_lt, ℤ, Bool, true, false, List, [], ◌∷◌, length, Option, Some, None, if◌then◌else◌}
use Rattle.std.proofs.Common.{refl, sym, subst, ap, ltb-true, lt-ltb}
use native.Mathlib.Omega.{arith}
use Rattle.c_laws.specs.simulation.Machine.{State, Runs, Over, Broken, Frame, Has, Enters, Refused, numbers, active, entering, unless_active, opening, calling, answering, act, next, run, begun, machine_opened}
use Rattle.c_laws.specs.run_state.Units.{Units}
use Rattle.c_laws.specs.c_tree.declared.outcome.CValue.{CValue}
use Rattle.c_laws.specs.c_tree.declared.outcome.CFault.{CFault}
use Rattle.c_laws.specs.c_tree.Faults.{Or, Faults, NoMeaning}
use Rattle.c_laws.specs.c_tree.Linking as linking
use Rattle.c_laws.specs.c_tree.World.{World, Ending}
use Rattle.c_laws.specs.c_tree.Steps as steps
use Rattle.c_laws.specs.c_tree.Steps.{View, sorts, language, Happening, taken, all_fit, start, resume, step}
use Rattle.c_laws.specs.c_tree.Meaning.{numbered, text_of, machine, main_number, first_world, run_of, Meaningless, outcome}
use Rattle.c_totality.specs.Sound.{Each}
use Rattle.c_totality.specs.Standing.{AllStand, StandsWhole, MainBegins, Waits, IsSound}
use Rattle.c_totality.proofs.StepSound.{IsWell, it_goes, it_ends, it_calls, it_answers, it_breaks, GoesPast, goes_past, is_stopped, taken-past, step-well}

-- ## The texts of a program

text-items : (functions : List linking.Function) (number : ℕ) → Each StandsWhole functions → AllStand (length (text_of functions number).code) 0 (text_of functions number).code
text-items [] number each = tt
text-items (first ∷ later) zero each = each.0.items
text-items (first ∷ later) (suc number) each = text-items later number each.1

text-some : (functions : List linking.Function) (number : ℕ) → Each StandsWhole functions → number < length functions → 0 < length (text_of functions number).code
text-some [] number each within = absurd (omega (arith, within))
text-some (first ∷ later) zero each within = each.0.some
text-some (first ∷ later) (suc number) each within = text-some later number each.1 (omega (arith, within))

numbered-in : (functions : List linking.Function) (number found : ℕ) (b : Bool) → nat_lt number (length functions) ≡ b → (if b then Some number else None) ≡ Some found → found < length functions
numbered-in functions number found true within is =
    let same : number ≡ found = cc in subst (λ n. n < length functions) same (ltb-true number (length functions) within)
numbered-in functions number found false within is = absurd (cc)

-- ## Calls and answers

-- a function that waits goes on
resumed-sound : (functions : List linking.Function) (number j : ℕ) (view : View) (waiting : List (Frame sorts)) (from : List ℕ) (onward : Or steps.Onward) → GoesPast view onward →
    Waits functions (Has j view) → Each (Waits functions) waiting → IsSound functions (entering (steps.entering onward) (number ∷ from) j waiting)
unfolding machine_opened
resumed-sound functions number j view waiting from onward (goes_past on past) waits each =
    (subst (λ n. n < length (text_of functions j).code) (sym past) waits, each)
resumed-sound functions number j view waiting from onward (is_stopped fault) waits each = tt

answered-sound : (program : linking.Program) (number : ℕ) (waiting : List (Frame sorts)) (world : World) (answer : Option ℤ) → Each (Waits program.functions) waiting →
    IsSound program.functions (answering language (machine program) number waiting world answer)
unfolding machine_opened resume
answered-sound program number [] world answer each = tt
answered-sound program number (Has j view ∷ waiting) world answer each =
    resumed-sound program.functions number j view waiting (j ∷ numbers waiting) (taken view.wants answer view world) (taken-past view.wants answer view world) each.0 each.1

-- a function begins at its first item, above the functions that wait
begun-sound : (program : linking.Program) (among : Bool) (j k : ℕ) (view : View) (waiting : List (Frame sorts)) (world : World) → 0 < length (text_of program.functions j).code →
    Each (Waits program.functions) (Has k view ∷ waiting) → IsSound program.functions (unless_active among language.busy steps.first_view world j (Has k view ∷ waiting))
unfolding machine_opened
begun-sound program true j k view waiting world some each = tt
begun-sound program false j k view waiting world some each = (some, each)

opened-sound : (program : linking.Program) (fit : Bool) (j k : ℕ) (view : View) (waiting : List (Frame sorts)) (world : World) (refused : CFault) → 0 < length (text_of program.functions j).code →
    Each (Waits program.functions) (Has k view ∷ waiting) → IsSound program.functions (opening language (if fit then Enters steps.first_view world else Refused (Faults refused)) j (Has k view ∷ waiting))
unfolding machine_opened
opened-sound program true j k view waiting world refused some each = begun-sound program (active j (Has k view ∷ waiting)) j k view waiting world some each
opened-sound program false j k view waiting world refused some each = tt

called-sound : (program : linking.Program) (number k : ℕ) (view : View) (waiting : List (Frame sorts)) (world : World) (values : List CValue) (found : Option ℕ) → numbered program.functions number ≡ found →
    Each StandsWhole program.functions → Each (Waits program.functions) (Has k view ∷ waiting) →
    IsSound program.functions (calling language (machine program) found number values world (Has k view ∷ waiting))
unfolding machine_opened start
called-sound program number k view waiting world values None at whole each = tt
called-sound program number k view waiting world values (Some j) at whole each =
    opened-sound program (all_fit (text_of program.functions j).parameters values) j k view waiting _ _
    (text-some program.functions j whole (numbered-in program.functions number j (nat_lt number (length program.functions)) refl at)) each

-- ## Steps

acted-sound : (program : linking.Program) → Each StandsWhole program.functions → (number : ℕ) (waiting : List (Frame sorts)) (happening : Happening) →
    IsWell (length (text_of program.functions number).code) happening → Each (Waits program.functions) waiting → IsSound program.functions (act language (machine program) happening number waiting)
unfolding machine_opened
acted-sound program whole number waiting happening (it_goes view world within) each = (within, each)
acted-sound program whole number waiting happening (it_ends ending view world) each = tt
acted-sound program whole number waiting happening (it_calls view world called values within) each =
    called-sound program called number view waiting world values (numbered program.functions called) refl whole (within, each)
acted-sound program whole number waiting happening (it_answers world answer) each = answered-sound program number waiting world answer each
acted-sound program whole number waiting happening (it_breaks fault) each = tt

-- A STEP OF A RUN
pub next-sound : (program : linking.Program) → Each StandsWhole program.functions → (state : State Ending sorts) → IsSound program.functions state → IsSound program.functions (next language (machine program) state)
unfolding next
next-sound program whole (Runs number view waiting world) sound =
    acted-sound program whole number waiting (step (text_of program.functions number) view world)
    (step-well (text_of program.functions number) view world (text-items program.functions number whole) sound.0) sound.1
next-sound program whole (Over ending waiting world) sound = tt
next-sound program whole (Broken reason numbers) sound = sound

-- ## Runs

first-fits : (program : linking.Program) (j : ℕ) (fit : Bool) (world : World) (refused : CFault) → fit ≡ true → 0 < length (text_of program.functions j).code →
    IsSound program.functions (opening language (if fit then Enters steps.first_view world else Refused (Faults refused)) j [])
unfolding machine_opened
first-fits program j true world refused is some = (some, tt)
first-fits program j false world refused is some = absurd (cc)

first-sound : (program : linking.Program) (number : ℕ) (units : Units) (found : Option ℕ) → found ≡ Some number → Each StandsWhole program.functions → number < length program.functions →
    all_fit (text_of program.functions number).parameters [] ≡ true → IsSound program.functions (calling language (machine program) found number [] (first_world program units) [])
unfolding machine_opened start
first-sound program number units None at whole within fits = absurd (cc)
first-sound program number units (Some j) at whole within fits =
    let same : j ≡ number = cc in
    first-fits program j (all_fit (text_of program.functions j).parameters []) _ _
    (subst (λ n. all_fit (text_of program.functions n).parameters [] ≡ true) (sym same) fits)
    (subst (λ n. 0 < length (text_of program.functions n).code) (sym same) (text-some program.functions number whole within))

numbered-there : (functions : List linking.Function) (number : ℕ) → number < length functions → numbered functions number ≡ Some number
numbered-there functions number within = ap (λ b. if b then Some number else None) (lt-ltb number (length functions) within)

begins-sound : (program : linking.Program) (units : Units) → Each StandsWhole program.functions → MainBegins program →
    IsSound program.functions (begun language (machine program) (main_number program) [] (first_world program units))
unfolding begun
begins-sound program units whole main =
    first-sound program (main_number program) units (numbered program.functions (main_number program)) (numbered-there program.functions (main_number program) main.found) whole main.found main.takes_nothing

run-sound : (program : linking.Program) (units : Units) → Each StandsWhole program.functions → MainBegins program → (count : ℕ) →
    IsSound program.functions (run language (machine program) count (begun language (machine program) (main_number program) [] (first_world program units)))
unfolding run
run-sound program units whole main zero = begins-sound program units whole main
run-sound program units whole main (suc count) = next-sound program whole _ (run-sound program units whole main count)

-- EVERY RUN OF A PROGRAM
pub runs-sound : (program : linking.Program) (units : Units) (count : ℕ) → Each StandsWhole program.functions → MainBegins program → IsSound program.functions (run_of program units count)
unfolding run_of
runs-sound program units count whole main = run-sound program units whole main count

-- a sound state is not without meaning
pub sound-meant : (functions : List linking.Function) (state : State Ending sorts) → IsSound functions state → outcome state ≡ Meaningless → ⊥
unfolding outcome
sound-meant functions (Runs number view waiting world) sound is = absurd (cc)
sound-meant functions (Over ending waiting world) sound is = absurd (cc)
sound-meant functions (Broken (Faults fault) []) sound is = sound
sound-meant functions (Broken (Faults fault) (number ∷ numbers)) sound is = absurd (cc)
sound-meant functions (Broken NoMeaning numbers) sound is = sound
