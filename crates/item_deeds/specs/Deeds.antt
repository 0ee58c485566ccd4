-- What a view and a deed of the code stand for in the meaning of C texts (C89, 3.3.2.2 and 3.6).
use Rattle.std.specs.Prelude.{◌≡◌, ℕ, ◌≤◌, ℤ, Bool, true, false, List, length, take, Option, Some, None, Result, Ok, Err, slice_get, if◌then◌else◌}
use Rattle.c_tree.specs.simulation.Machine.{Goes, Calls, Answers, Breaks}
use Rattle.c_tree.specs.run_state.Units.{Units}
use Rattle.c_tree.specs.declared.outcome.CValue.{CValue}
use Rattle.c_tree.specs.declared.outcome.CFault.{CFault}
use Rattle.c_tree.specs.Faults.{Faults}
use Rattle.c_tree.specs.Objects.{Object}
use Rattle.c_tree.specs.World.{World, Transfer}
use Rattle.c_tree.specs.Builtins.{signatures}
use Rattle.c_tree.specs.declared.types.ResultType.{ResultType}
use Rattle.c_tree.specs.Terms.{Term}
use Rattle.c_tree.specs.Flat.{CaseAt}
use Rattle.c_tree.specs.Values.{value_of, test_of, number_of}
use Rattle.c_tree.specs.Steps.{Wants, WantsNothing, WantsValue, WantsAnswer, View, Happening, given_that, going_to, case_position, given_by, library_called}
use Rattle.linked_terms.specs.declared.items.LinkedItem.{LinkedItem}
use Rattle.linked_terms.specs.declared.items.LinkedItem.TheVariants as items
use Rattle.linked_terms.specs.LinkedTerms.{place_of}
use Rattle.item_deeds.specs.declared.views.CallWants.{CallWants}
use Rattle.item_deeds.specs.declared.views.CallWants.TheVariants as wanted
use Rattle.item_deeds.specs.declared.views.CallView.{CallView}
use Rattle.item_deeds.specs.declared.deeds.Deed.{Deed}
use Rattle.item_deeds.specs.declared.deeds.Deed.TheVariants as done

abbrev pub world_of : List Object → Units → Option Transfer → World
world_of objects units transfer = record { objects = objects; units = units; transfer = transfer }

abbrev pub wants_of : CallWants → Wants
wants_of wanted.Nothing = WantsNothing
wants_of (wanted.Value place) = WantsValue (place_of place)
wants_of wanted.Answer = WantsAnswer

abbrev pub view_of : CallView → View
view_of view = record { position = view.position; wants = wants_of view.wants; answer = view.answer }

abbrev pub going : World → Result CallView CFault → Happening
going world (Ok view) = Goes (view_of view) world
going world (Err fault) = Breaks (Faults fault)

abbrev pub answering : World → Result (Option ℤ) CFault → Happening
answering world (Ok answer) = Answers world answer
answering world (Err fault) = Breaks (Faults fault)

-- what a deed does, where the first of some values are those of the arguments
abbrev pub happening : World → List CValue → Deed → Happening
happening world values (done.Goes view) = Goes (view_of view) world
happening world values (done.Calls view number count) = Calls (view_of view) world number (take count values)
happening world values (done.Library view wants number count) =
    library_called (view_of view) world (wants_of wants) (take count values) (slice_get signatures number)
happening world values (done.Answers answer) = Answers world answer
happening world values (done.Breaks fault) = Breaks (Faults fault)

-- a call of a function at a position, whose arguments have room
abbrev pub IsTold : ℕ → ℕ → Deed → Type 0
IsTold position room (done.Calls view number count) = (view.position ≡ position) × (count ≤ room)
IsTold position room (done.Library view wants number count) = (view.position ≡ position) × (count ≤ room)
IsTold position room other = Unit {0}

abbrev pub happening_or : World → List CValue → Result Deed CFault → Happening
happening_or world values (Ok deed) = happening world values deed
happening_or world values (Err fault) = Breaks (Faults fault)

-- how many arguments an item gives
abbrev pub argument_count : LinkedItem → ℕ
argument_count (items.Invoke how callee arguments) = length arguments
argument_count other = 0

-- the single items, as the steps have them
abbrev pub branched : View → World → Term → ℕ → ℕ → Happening
branched view world test on off =
    given_that (test_of world.objects test) λ holds. going_to (if holds then on else off) view world

unfoldable pub selected : View → World → Term → List CaseAt → ℕ → Happening
selected view world value cases otherwise =
    given_that (number_of world.objects value) λ number. going_to (case_position number cases otherwise) view world

unfoldable pub returned : ResultType → World → Term → Happening
returned type world term =
    given_that (value_of world.objects term) λ value. given_that (given_by type value) λ answer. Answers world answer

-- what holds where a thing is done, and where it is not
abbrev pub IfDone : Bool → Type 0 → Type 0 → Type 0
IfDone true done undone = done
IfDone false done undone = undone

-- what holds of what is found, and where nothing is
abbrev pub IfFound : Option ℕ → (ℕ → Type 0) → Type 0 → Type 0
IfFound None found none = none
IfFound (Some number) found none = found number
