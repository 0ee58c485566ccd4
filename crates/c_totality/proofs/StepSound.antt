-- The step of a function at an item that stands in its code goes on to an item, calls, answers, ends the run or comes to a
-- fault.
use Rattle.std.specs.Prelude.{◌≡◌, ℕ, zero, suc, ◌+◌, ◌-◌, ◌<◌, nat_lt, ℤ, Bool, true, false, ◌&&◌, List, [], ◌∷◌, length, Option, Some, None, Ok, Err, slice_get, if◌then◌else◌}
use Rattle.std.specs.Ordering.{int_eq}
use Rattle.std.proofs.Common.{refl, sym, subst}
use native.Mathlib.Omega.{arith}
use Rattle.c_laws.specs.simulation.Machine.{Goes, Ends, Calls, Answers, Breaks}
use Rattle.c_laws.specs.c_tree.declared.outcome.CValue.{CValue}
use Rattle.c_laws.specs.c_tree.declared.outcome.CValue.TheVariants.{Number, Pointer, Null, Function}
use Rattle.c_laws.specs.c_tree.declared.outcome.CFault.{CFault}
use Rattle.c_laws.specs.c_tree.declared.types.ResultType.{ResultType}
use Rattle.c_laws.specs.c_tree.declared.types.ResultType.TheVariants as result
use Rattle.c_laws.specs.c_tree.Faults.{Or, Faults, after}
use Rattle.c_laws.specs.c_tree.Objects.{Object}
use Rattle.c_laws.specs.c_tree.Terms.{Term}
use Rattle.c_laws.specs.c_tree.Flat.{Flat, Assign, Branch, Select, Jump, Invoke, Return, ReturnAnswer, Nothing, Lost, Callee, Direct, Through, Nowhere, Use, Ignored, Kept, Returned, CaseAt}
use Rattle.c_laws.specs.c_tree.Linking as linking
use Rattle.c_laws.specs.c_tree.World.{World, Ending, Reply, Gives, Void, Stops}
use Rattle.c_laws.specs.c_tree.Builtins.{Signature, signatures}
use Rattle.c_laws.specs.c_tree.Steps.{Wants, WantsNothing, WantsValue, WantsAnswer, View, Happening, given_that, Onward, taken, wanted, callee_of, takes_all, may_give, moving, replied, library_called, called, given_by, case_position, assigned, invoked, deed, deed_at, step}
use Rattle.c_totality.specs.Sound.{IsMeant, gives, faults, Each}
use Rattle.c_totality.specs.Standing.{IsKnownCallee, IsKnownUse, IsCaseIn, Stands, AllStand}
use Rattle.c_totality.proofs.ListLaws.{and-left}
use Rattle.c_totality.proofs.SoundLaws.{after-meant}
use Rattle.c_totality.proofs.ValueSound.{as_number-meant, stored-meant, value_of-meant, place_named-meant, values_of-meant, test_of-meant, number_of-meant}
use Rattle.c_totality.proofs.LibraryMeant.{library-meant}

-- what a step may come to in code of so many items
pub data IsWell (count : ℕ) : Happening → Type 0 where
  it_goes : (view : View) (world : World) → view.position < count → IsWell count (Goes view world)
  it_ends : (ending : Ending) (view : View) (world : World) → IsWell count (Ends ending view world)
  it_calls : (view : View) (world : World) (number : ℕ) (values : List CValue) → view.position + 1 < count → IsWell count (Calls view world number values)
  it_answers : (world : World) (answer : Option ℤ) → IsWell count (Answers world answer)
  it_breaks : (fault : CFault) → IsWell count (Breaks (Faults fault))

pub given-well : {A : Type 0} {count : ℕ} {r : Or A} {rest : A → Happening} → IsMeant r → ((a : A) → IsWell count (rest a)) → IsWell count (given_that r rest)
given-well (gives value) each = each value
given-well (faults fault) each = it_breaks fault

pub if-well : {count : ℕ} (b : Bool) {x y : Happening} → (b ≡ true → IsWell count x) → IsWell count y → IsWell count (if b then x else y)
if-well true one two = one refl
if-well false one two = two

-- ## Answers to calls

-- a function that waits goes on at the next position
pub data GoesPast (view : View) : Or Onward → Type 0 where
  goes_past : (onward : Onward) → onward.view.position ≡ view.position + 1 → GoesPast view (Ok onward)
  is_stopped : (fault : CFault) → GoesPast view (Err (Faults fault))

past-after : {A : Type 0} {view : View} {r : Or A} {rest : A → Or Onward} → IsMeant r → ((a : A) → GoesPast view (rest a)) → GoesPast view (after r rest)
past-after (gives value) each = each value
past-after (faults fault) each = is_stopped fault

pub taken-past : (wants : Wants) (answer : Option ℤ) (view : View) (world : World) → GoesPast view (taken wants answer view world)
taken-past WantsNothing answer view world = goes_past _ refl
taken-past (WantsValue place) None view world = is_stopped _
taken-past (WantsValue place) (Some number) view world = past-after (stored-meant world.objects place _) (λ objects. goes_past _ refl)
taken-past WantsAnswer None view world = is_stopped _
taken-past WantsAnswer (Some number) view world = goes_past _ refl

moving-well : (count : ℕ) (view : View) (onward : Or Onward) → view.position + 1 < count → GoesPast view onward → IsWell count (moving onward)
moving-well count view onward within (goes_past on past) = it_goes on.view on.world (subst (λ n. n < count) (sym past) within)
moving-well count view onward within (is_stopped fault) = it_breaks fault

-- ## Calls

replied-well : (count : ℕ) (view : View) (wants : Wants) (reply : Reply) → view.position + 1 < count → IsWell count (replied view wants reply)
replied-well count view wants (Gives number world) within = moving-well count view (taken wants (Some number) view world) within (taken-past wants (Some number) view world)
replied-well count view wants (Void world) within = moving-well count view (taken wants None view world) within (taken-past wants None view world)
replied-well count view wants (Stops ending world) within = it_ends ending view world

library_called-well : (count : ℕ) (view : View) (world : World) (wants : Wants) (values : List CValue) (number : ℕ) (found : Option Signature) → slice_get signatures number ≡ found → view.position + 1 < count →
    IsWell count (library_called view world wants values found)
library_called-well count view world wants values number None at within = it_breaks _
library_called-well count view world wants values number (Some signature) at within =
    if-well (takes_all signature.takes values && may_give signature.gives wants)
    (λ fits. given-well (library-meant number signature at world values (and-left (takes_all signature.takes values) (may_give signature.gives wants) fits)) (λ reply. replied-well count view wants reply within))
    (it_breaks _)

called-well : (count own : ℕ) (view : View) (world : World) (wants : Wants) (function : CValue) (values : List CValue) → view.position + 1 < count → IsWell count (called own view world wants function values)
called-well count own view world wants (Function number) values within =
    if-well (nat_lt number own) (λ mine. it_calls _ world number values within)
    (library_called-well count view world wants values (number - own) (slice_get signatures (number - own)) refl within)
called-well count own view world wants (Number number) values within = it_breaks _
called-well count own view world wants (Pointer object offset) values within = it_breaks _
called-well count own view world wants Null values within = it_breaks _

wanted-meant : (objects : List Object) (how : Use) → IsKnownUse how → IsMeant (wanted objects how)
wanted-meant objects Ignored known = gives _
wanted-meant objects (Kept target) known = after-meant (place_named-meant objects target known) (λ place. gives _)
wanted-meant objects Returned known = gives _

callee_of-meant : (objects : List Object) (callee : Callee) → IsKnownCallee callee → IsMeant (callee_of objects callee)
callee_of-meant objects (Direct number) known = gives _
callee_of-meant objects (Through term) known = value_of-meant objects term known
callee_of-meant objects Nowhere known = absurd known

given_by-meant : (type : ResultType) (value : CValue) → IsMeant (given_by type value)
given_by-meant result.Void value = gives _
given_by-meant result.Int value = after-meant (as_number-meant value) (λ number. gives _)
given_by-meant result.Integer value = after-meant (as_number-meant value) (λ number. gives _)
given_by-meant result.Logical value = after-meant (as_number-meant value) (λ number. gives _)

-- ## Items

lt-if : (count : ℕ) (b : Bool) (x y : ℕ) → x < count → y < count → (if b then x else y) < count
lt-if count true x y one two = one
lt-if count false x y one two = two

case_position-in : (count : ℕ) (number : ℤ) (cases : List CaseAt) (otherwise : ℕ) → Each (IsCaseIn count) cases → otherwise < count → case_position number cases otherwise < count
case_position-in count number [] otherwise each last = last
case_position-in count number (case ∷ later) otherwise each last =
    lt-if count (int_eq number case.number) case.position (case_position number later otherwise) each.0 (case_position-in count number later otherwise each.1 last)

assigned-well : (count : ℕ) (view : View) (world : World) (target value : Term) → Stands count view.position (Assign target value) → IsWell count (assigned view world target value)
assigned-well count view world target value stands =
    given-well (place_named-meant world.objects target stands.0) (λ place. given-well (value_of-meant world.objects value stands.1.0) (λ new.
    given-well (stored-meant world.objects place new) (λ objects. it_goes _ _ stands.1.1)))

invoked-well : (count own : ℕ) (view : View) (world : World) (how : Use) (callee : Callee) (arguments : List Term) → Stands count view.position (Invoke how callee arguments) →
    IsWell count (invoked own view world how callee arguments)
invoked-well count own view world how callee arguments stands =
    given-well (wanted-meant world.objects how stands.0) (λ wants. given-well (callee_of-meant world.objects callee stands.1.0) (λ function.
    given-well (values_of-meant world.objects arguments stands.1.1.0) (λ values. called-well count own view world wants function values stands.1.1.1)))

pub deed-well : (count : ℕ) (function : linking.Function) (view : View) (world : World) (item : Flat) → Stands count view.position item → IsWell count (deed function view world item)
unfolding deed
deed-well count function view world (Assign target value) stands = assigned-well count view world target value stands
deed-well count function view world (Branch test on off) stands =
    given-well (test_of-meant world.objects test stands.0) (λ holds. it_goes _ world (lt-if count holds on off stands.1.0 stands.1.1))
deed-well count function view world (Select value cases otherwise) stands =
    given-well (number_of-meant world.objects value stands.0) (λ number. it_goes _ world (case_position-in count number cases otherwise stands.1.0 stands.1.1))
deed-well count function view world (Jump position) stands = it_goes _ world stands
deed-well count function view world (Invoke how callee arguments) stands = invoked-well count function.own view world how callee arguments stands
deed-well count function view world (Return None) stands = it_answers world None
deed-well count function view world (Return (Some term)) stands =
    given-well (value_of-meant world.objects term stands) (λ value. given-well (given_by-meant function.result value) (λ answer. it_answers world answer))
deed-well count function view world ReturnAnswer stands = it_answers world _
deed-well count function view world Nothing stands = it_goes _ world stands
deed-well count function view world Lost stands = absurd stands

-- an item at a position of the code
pub record ItemAt (count start position : ℕ) (code : List Flat) : Type 0 where
  pub item : Flat
  pub there : slice_get code position ≡ Some item
  pub stands : Stands count (start + position) item

pub item_at : (count start position : ℕ) (code : List Flat) → AllStand count start code → position < length code → ItemAt count start position code
item_at count start position [] all within = absurd (omega (arith, within))
item_at count start zero (item ∷ later) all within =
    record { item = item; there = refl; stands = subst (λ n. Stands count n item) (let e : start ≡ start + 0 = omega arith in e) all.0 }
item_at count start (suc position) (item ∷ later) all within =
    let behind : ItemAt count (start + 1) position later = item_at count (start + 1) position later all.1 (omega (arith, within)) in
    record { item = behind.item; there = behind.there; stands = subst (λ n. Stands count n behind.item) (let e : start + 1 + position ≡ start + suc position = omega arith in e) behind.stands }

-- A STEP OF A FUNCTION
pub step-well : (function : linking.Function) (view : View) (world : World) → AllStand (length function.code) 0 function.code → view.position < length function.code →
    IsWell (length function.code) (step function view world)
unfolding step
step-well function view world all within =
    let found : ItemAt (length function.code) 0 view.position function.code = item_at (length function.code) 0 view.position function.code all within in
    let stands : Stands (length function.code) view.position found.item = subst (λ n. Stands (length function.code) n found.item) (let e : 0 + view.position ≡ view.position = omega arith in e) found.stands in
    subst (λ at. IsWell (length function.code) (deed_at function view world at)) (sym found.there) (deed-well (length function.code) function view world found.item stands)
