-- The flat C items for lowered steps go on where the steps do.
use Rattle.std.specs.Prelude.{◌≡◌, ℕ, suc, ◌+◌, ◌-◌, ℤ, pos, Bool, true, false, List, length, Option, Some, None, Ok, option_map, if◌then◌else◌}
use Rattle.std.proofs.Common.{refl, sym, ap, ◌∙◌, subst}
use Rattle.c_emit.specs.simulation.Machine.{Goes}
use Rattle.c_emit.specs.f_tree.Values.{Datum, IsInt, IsLog, IsText, IsSpot, Checked, Gives, Fails, given_that}
use Rattle.c_emit.specs.f_tree.Values as fortran_values
use Rattle.c_emit.specs.f_tree.Store.{Store, Label}
use Rattle.c_emit.specs.f_tree.World as fortran
use Rattle.c_emit.specs.f_tree.Step.{contains}
use Rattle.c_emit.specs.l_core.Pures.{Pure, Temporary, meant}
use Rattle.c_emit.specs.l_core.Steps.{Step, Keep, Put, PutText, PutLabel, Compute, Unless, AgainIf, Skip, Again, Jump, Select, JumpBy, Pass, CallFor, CallSub, Branch, Way, Back, BackBy, Halt, Acts, Text}
use Rattle.c_emit.specs.l_core.Machine.{View, Doing, to, onward, past, storing, put_at, put_label_at, testing, to_place, jump, passed_by, selecting, label_held, passed_before, jumping, done, step}
use Rattle.c_emit.specs.c_tree.Flat as flat
use Rattle.c_emit.specs.c_tree.Flat.{Flat}
use Rattle.c_emit.specs.c_tree.Terms.{Term}
use Rattle.c_emit.specs.c_tree.Values.{test_of, number_of}
use Rattle.c_emit.specs.c_tree.World as c
use Rattle.c_emit.specs.c_tree.Linking as linking
use Rattle.c_emit.specs.c_tree.Steps as c_steps
use Rattle.c_emit.specs.c_tree.Steps.{deed}
use Rattle.c_image_laws.proofs.c_laws.StepLaws.{test_goes}
use Rattle.c_emit.specs.c_image.World.{World}
use Rattle.c_emit.specs.c_image.Standing.{Stands}
use Rattle.c_image_laws.proofs.TestedValues.{switches_are_meant}
use Rattle.c_emit.specs.Numbers.{Writing, constant_value, value_term, place_term}
use Rattle.c_emit.specs.Flats.{assigned, jump_to, cases_to, cases_for, switch_to, flat_of}
use Rattle.c_emit_laws.specs.EmittedNumbers.{IsKnown}
use Rattle.c_emit_laws.specs.EmittedFlats.{Steers, by_put, by_label, by_test, by_test_back, by_skip, by_return, by_jump, by_select, by_held, by_branch, by_way, by_pass, GoesAlike, FlatsGoOn}
use Rattle.c_emit_laws.proofs.CaseLaws.{switch_goes, label_goes}
use Rattle.c_emit_laws.proofs.Choices.{got, mapped_by, some_same}
use Rattle.c_emit_laws.proofs.LabelLaws.{labels_are_put, labels_are_held, held_by}
use Rattle.c_emit_laws.proofs.NumberLaws.{numbers_are_emitted}
use Rattle.c_emit_laws.proofs.StepLaws.{puts_are_emitted, conditions_are_emitted}

-- to another step of the text
pub record IsTo (n : ℕ) (v : View) (x : fortran.World) (v' : View) (x' : fortran.World) : Type 0 where
  pub view : v' ≡ record v { at = n }
  pub world : x' ≡ x

same_view : (a b : View) (x y : fortran.World) (e : Doing) → e ≡ Goes a x → e ≡ Goes b y → b ≡ a
same_view a b x y e one other = let both : Goes a x ≡ Goes b y = sym one ∙ other in cc

same_world : (a b : View) (x y : fortran.World) (e : Doing) → e ≡ Goes a x → e ≡ Goes b y → y ≡ x
same_world a b x y e one other = let both : Goes a x ≡ Goes b y = sym one ∙ other in cc

to_is : (n : ℕ) (v : View) (x : fortran.World) → to n v x ≡ Goes (record v { at = n }) x
unfolding to
to_is n v x = refl

pub to_by : (n : ℕ) (v : View) (x : fortran.World) (v' : View) (x' : fortran.World) → to n v x ≡ Goes v' x' → IsTo n v x v' x'
to_by n v x v' x' h = record { view = same_view (record v { at = n }) v' x x' (to n v x) (to_is n v x) h; world = same_world (record v { at = n }) v' x x' (to n v x) (to_is n v x) h }

-- a test that goes on has a truth value
record IsTested (on off : ℕ) (v : View) (x : fortran.World) (v' : View) (x' : fortran.World) (r : Checked Datum) : Type 0 where
  holds : Bool
  gives : r ≡ Gives (IsLog holds)
  goes : IsTo (if holds then on else off) v x v' x'

tested_by : (on off : ℕ) (v : View) (x : fortran.World) (v' : View) (x' : fortran.World) (r : Checked Datum) → testing on off v x r ≡ Goes v' x' → IsTested on off v x v' x' r
unfolding testing
tested_by on off v x v' x' (Gives (IsLog true)) h = record { holds = true; gives = refl; goes = to_by on v x v' x' h }
tested_by on off v x v' x' (Gives (IsLog false)) h = record { holds = false; gives = refl; goes = to_by off v x v' x' h }
tested_by on off v x v' x' (Gives (IsInt z)) h = absurd (cc)
tested_by on off v x v' x' (Gives (IsText cs)) h = absurd (cc)
tested_by on off v x v' x' (Gives (IsSpot p)) h = absurd (cc)
tested_by on off v x v' x' (Gives (fortran_values.IsProc y)) h = absurd (cc)
tested_by on off v x v' x' (Gives (fortran_values.IsLabel l)) h = absurd (cc)
tested_by on off v x v' x' (Gives fortran_values.Nothing) h = absurd (cc)
tested_by on off v x v' x' (Fails act) h = absurd (cc)

-- a jump that goes on has a label
record IsJump (found : Option ℕ) (v : View) (x : fortran.World) (v' : View) (x' : fortran.World) : Type 0 where
  target : ℕ
  is : found ≡ Some target
  goes : IsTo target v x v' x'

jumped_by : (found : Option ℕ) (v : View) (x : fortran.World) (v' : View) (x' : fortran.World) → to_place found v x ≡ Goes v' x' → IsJump found v x v' x'
unfolding to_place
jumped_by (Some n) v x v' x' h = record { target = n; is = refl; goes = to_by n v x v' x' h }
jumped_by None v x v' x' h = absurd (cc)

-- a choice that goes on has a number
pub record IsSelected (count : ℕ) (v : View) (x : fortran.World) (v' : View) (x' : fortran.World) (r : Checked Datum) : Type 0 where
  pub number : ℤ
  pub gives : r ≡ Gives (IsInt number)
  pub goes : IsTo (suc v.at + passed_by count number) v x v' x'

pub selected_by : (count : ℕ) (v : View) (x : fortran.World) (v' : View) (x' : fortran.World) (r : Checked Datum) → selecting count v x r ≡ Goes v' x' → IsSelected count v x v' x' r
unfolding selecting past
selected_by count v x v' x' (Gives (IsInt z)) h = record { number = z; gives = refl; goes = to_by (suc v.at + passed_by count z) v x v' x' h }
selected_by count v x v' x' (Gives (IsLog b)) h = absurd (cc)
selected_by count v x v' x' (Gives (IsText cs)) h = absurd (cc)
selected_by count v x v' x' (Gives (IsSpot p)) h = absurd (cc)
selected_by count v x v' x' (Gives (fortran_values.IsProc y)) h = absurd (cc)
selected_by count v x v' x' (Gives (fortran_values.IsLabel l)) h = absurd (cc)
selected_by count v x v' x' (Gives fortran_values.Nothing) h = absurd (cc)
selected_by count v x v' x' (Fails act) h = absurd (cc)

-- a definition that goes on has a store
record IsStored (v : View) (x : fortran.World) (v' : View) (x' : fortran.World) (r : Checked Store) : Type 0 where
  later : Store
  gives : r ≡ Gives later
  goes : IsTo (suc v.at) v (record x { store = later }) v' x'

stored_by : (v : View) (x : fortran.World) (v' : View) (x' : fortran.World) (r : Checked Store) → storing v x r ≡ Goes v' x' → IsStored v x v' x' r
unfolding storing onward
stored_by v x v' x' (Gives s) h = record { later = s; gives = refl; goes = to_by (suc v.at) v (record x { store = s }) v' x' h }
stored_by v x v' x' (Fails act) h = absurd (cc)

chosen_place : (place : ℕ → ℕ) (on off : ℕ) (b : Bool) → (if b then place on else place off) ≡ place (if b then on else off)
chosen_place place on off true = refl
chosen_place place on off false = refl

-- what is emitted
pub record AreAssigned (x y : Option Term) (item : Flat) : Type 0 where
  pub target : Term
  pub value : Term
  pub target_is : x ≡ Some target
  pub value_is : y ≡ Some value
  pub is : flat.Assign target value ≡ item

pub assigned_by : (x y : Option Term) (item : Flat) → assigned x y ≡ Some item → AreAssigned x y item
unfolding assigned
assigned_by (Some a) (Some b) item h = record { target = a; value = b; target_is = refl; value_is = refl; is = cc }
assigned_by (Some a) None item h = absurd (cc)
assigned_by None y item h = absurd (cc)

record IsJumpTo (place : ℕ → ℕ) (found : Option ℕ) (item : Flat) : Type 0 where
  target : ℕ
  target_is : found ≡ Some target
  is : flat.Jump (place target) ≡ item

jump_by : (place : ℕ → ℕ) (found : Option ℕ) (item : Flat) → jump_to place found ≡ Some item → IsJumpTo place found item
unfolding jump_to
jump_by place (Some n) item h = record { target = n; target_is = refl; is = cc }
jump_by place None item h = absurd (cc)

module _ (μ : World) (v v' : View) (x x' : fortran.World) (place : ℕ → ℕ) (function : linking.Function) (view : c_steps.View) (world : c.World) (stands : Stands μ x.store world.objects) where
  -- a C item that goes to the item of a step, where the text goes to the step
  goes_to : (n : ℕ) (item : Flat) → IsTo n v x v' x' → deed function view world item ≡ Goes (record view { position = place n }) world → GoesAlike μ v v' x' place function view world item
  goes_to n item is goes = record {
    frame = ap (λ (y : View). y.frame) is.view;
    kept = ap (λ (y : View). y.kept) is.view;
    height = ap (λ (y : View). y.height) is.view;
    after = record {
      objects = world.objects;
      stored = subst (λ (y : View). deed function view world item ≡ Goes (record view { position = place y.at }) world) (sym is.view) goes;
      stands = subst (λ (y : fortran.World). Stands μ y.store world.objects) (sym is.world) stands;
    };
  }

  jumps : (n position : ℕ) → position ≡ place n → IsTo n v x v' x' → GoesAlike μ v v' x' place function view world (flat.Jump position)
  unfolding deed
  jumps n position is to_there = goes_to n (flat.Jump position) to_there (ap (λ p. Goes (record view { position = p }) world) is)

  passes : (n : ℕ) → view.position + 1 ≡ place n → IsTo n v x v' x' → GoesAlike μ v v' x' place function view world flat.Nothing
  unfolding deed
  passes n is to_there = goes_to n flat.Nothing to_there (ap (λ p. Goes (record view { position = p }) world) is)

  branches : (test : Term) (on off : ℕ) (b : Bool) → test_of world.objects test ≡ Ok b → IsTo (if b then on else off) v x v' x' → GoesAlike μ v v' x' place function view world (flat.Branch test (place on) (place off))
  branches test on off b holds to_there =
      goes_to (if b then on else off) (flat.Branch test (place on) (place off)) to_there
      (test_goes function view world test (place on) (place off) b holds ∙ ap (λ p. Goes (record view { position = p }) world) (chosen_place place on off b))

  chooses : (value : Term) (n count : ℕ) (z : ℤ) → number_of world.objects value ≡ Ok z → IsTo (n + passed_by count z) v x v' x'
      → GoesAlike μ v v' x' place function view world (flat.Select value (cases_to place 1 n count) (place (n + count)))
  chooses value n count z holds to_there =
      goes_to (n + passed_by count z) (flat.Select value (cases_to place 1 n count) (place (n + count))) to_there (switch_goes function view world value place n count z holds)

  goes_by_label : (value : Term) (n l : ℕ) (labels : List ℕ) → number_of world.objects value ≡ Ok (pos l) → contains labels l ≡ true → IsTo (n + passed_before labels l) v x v' x'
      → GoesAlike μ v v' x' place function view world (flat.Select value (cases_for place n labels) (place (n + length labels)))
  goes_by_label value n l labels holds among to_there =
      goes_to (n + passed_before labels l) (flat.Select value (cases_for place n labels) (place (n + length labels))) to_there (label_goes function view world value place n l labels holds among)

-- each step
module _ (u : Text) (v v' : View) (x x' : fortran.World) (μ : World) (w : Writing) (place : ℕ → ℕ) (function : linking.Function) (view : c_steps.View) (world : c.World)
    (facts : w.facts ≡ u.facts) (here : view.position ≡ place v.at) (next : place (suc v.at) ≡ place v.at + 1) (stands : Stands μ x.store world.objects) (known : IsKnown μ w v.frame v.kept) where
  follows : view.position + 1 ≡ place (suc v.at)
  follows = ap (λ n. n + 1) here ∙ sym next

  meant_same : (p : Pure) (d : Datum) → meant u.facts v.frame v.kept x.store p ≡ Gives d → meant w.facts v.frame v.kept x.store p ≡ Gives d
  meant_same p d gives = ap (λ c. meant c v.frame v.kept x.store p) facts ∙ gives

  puts : (target p : Pure) (item : Flat) → assigned (place_term w target) (value_term w p) ≡ Some item
      → storing v x (given_that (meant u.facts v.frame v.kept x.store p) (λ d. given_that (meant u.facts v.frame v.kept x.store target) (λ r. put_at x.store r d))) ≡ Goes v' x' → GoesAlike μ v v' x' place function view world item
  puts target p item emitted goes =
      let m = assigned_by (place_term w target) (value_term w p) item emitted in
      let stored = stored_by v x v' x' _ goes in
      let value = got (meant u.facts v.frame v.kept x.store p) (λ d. given_that (meant u.facts v.frame v.kept x.store target) (λ r. put_at x.store r d)) stored.later stored.gives in
      let spot = got (meant u.facts v.frame v.kept x.store target) (λ r. put_at x.store r value.value) stored.later value.gives in
      let after = puts_are_emitted μ x.store stored.later function view world w v.frame v.kept target p m.target m.value spot.value value.value stands known m.target_is m.value_is
      (meant_same p value.value value.is) (meant_same target spot.value spot.is) spot.gives in
      subst (λ i. GoesAlike μ v v' x' place function view world i) m.is (record {
        frame = ap (λ (y : View). y.frame) stored.goes.view;
        kept = ap (λ (y : View). y.kept) stored.goes.view;
        height = ap (λ (y : View). y.height) stored.goes.view;
        after = record {
          objects = after.objects;
          stored = after.stored ∙ ap (λ n. Goes (record view { position = n }) (record world { objects = after.objects })) (follows ∙ ap (λ (y : View). place y.at) (sym stored.goes.view));
          stands = subst (λ (y : fortran.World). Stands μ y.store after.objects) (sym stored.goes.world) after.stands;
        };
      })

  puts_label : (target : Pure) (label : ℕ) (item : Flat) → assigned (place_term w target) (constant_value (IsInt (pos label))) ≡ Some item
      → storing v x (given_that (meant u.facts v.frame v.kept x.store target) (put_label_at u x.store label)) ≡ Goes v' x' → GoesAlike μ v v' x' place function view world item
  puts_label target label item emitted goes =
      let m = assigned_by (place_term w target) (constant_value (IsInt (pos label))) item emitted in
      let stored = stored_by v x v' x' _ goes in
      let spot = got (meant u.facts v.frame v.kept x.store target) (put_label_at u x.store label) stored.later stored.gives in
      let after = labels_are_put u μ x.store stored.later function view world w v.frame v.kept target label m.target m.value spot.value stands known m.target_is m.value_is (meant_same target spot.value spot.is) spot.gives in
      subst (λ i. GoesAlike μ v v' x' place function view world i) m.is (record {
        frame = ap (λ (y : View). y.frame) stored.goes.view;
        kept = ap (λ (y : View). y.kept) stored.goes.view;
        height = ap (λ (y : View). y.height) stored.goes.view;
        after = record {
          objects = after.objects;
          stored = after.stored ∙ ap (λ n. Goes (record view { position = n }) (record world { objects = after.objects })) (follows ∙ ap (λ (y : View). place y.at) (sym stored.goes.view));
          stands = subst (λ (y : fortran.World). Stands μ y.store after.objects) (sym stored.goes.world) after.stands;
        };
      })

  tests : (p : Pure) (on off : ℕ) (item : Flat) → option_map (λ test. flat.Branch test (place on) (place off)) (value_term w p) ≡ Some item → testing on off v x (meant u.facts v.frame v.kept x.store p) ≡ Goes v' x'
      → GoesAlike μ v v' x' place function view world item
  tests p on off item emitted goes =
      let m = mapped_by (λ test. flat.Branch test (place on) (place off)) (value_term w p) item emitted in
      let t = tested_by on off v x v' x' (meant u.facts v.frame v.kept x.store p) goes in
      let holds = conditions_are_emitted μ x.store world.objects w v.frame v.kept p m.one t.holds stands known m.one_is (meant_same p (IsLog t.holds) t.gives) in
      subst (λ i. GoesAlike μ v v' x' place function view world i) m.is (branches μ v v' x x' place function view world stands m.one on off t.holds holds t.goes)

  selects : (p : Pure) (count : ℕ) (item : Flat) → option_map (λ value. flat.Select value (cases_to place 1 (suc v.at) count) (place (suc v.at + count))) (value_term w p) ≡ Some item
      → selecting count v x (meant u.facts v.frame v.kept x.store p) ≡ Goes v' x' → GoesAlike μ v v' x' place function view world item
  selects p count item emitted goes =
      let m = mapped_by (λ value. flat.Select value (cases_to place 1 (suc v.at) count) (place (suc v.at + count))) (value_term w p) item emitted in
      let t = selected_by count v x v' x' (meant u.facts v.frame v.kept x.store p) goes in
      let means = numbers_are_emitted μ x.store world.objects w v.frame v.kept p m.one (IsInt t.number) stands known m.one_is (meant_same p (IsInt t.number) t.gives) in
      subst (λ i. GoesAlike μ v v' x' place function view world i) m.is
      (chooses μ v v' x x' place function view world stands m.one (suc v.at) count t.number (switches_are_meant world.objects m.one t.number means) t.goes)

  -- to the label that a place holds, of those that are allowed
  held : (p : Pure) (ls : List ℕ) (item : Flat) → option_map (λ value. flat.Select value (cases_for place (suc v.at) ls) (place (suc v.at + length ls))) (place_term w p) ≡ Some item
      → jumping u ls v x (given_that (meant u.facts v.frame v.kept x.store p) (label_held x.store)) ≡ Goes v' x' → GoesAlike μ v v' x' place function view world item
  held p ls item emitted goes =
      let m = mapped_by (λ value. flat.Select value (cases_for place (suc v.at) ls) (place (suc v.at + length ls))) (place_term w p) item emitted in
      let t = held_by u ls v x v' x' (given_that (meant u.facts v.frame v.kept x.store p) (label_held x.store)) goes in
      let spot = got (meant u.facts v.frame v.kept x.store p) (label_held x.store) (Label t.owner t.label) t.gives in
      let number = labels_are_held μ x.store world.objects w v.frame v.kept p m.one spot.value t.owner t.label stands known m.one_is (meant_same p spot.value spot.is) spot.gives in
      let there = to_by (suc v.at + passed_before ls t.label) v x v' x' t.goes in
      subst (λ i. GoesAlike μ v v' x' place function view world i) m.is (goes_by_label μ v v' x x' place function view world stands m.one (suc v.at) t.label ls number t.among there)

  skips : (n : ℕ) (item : Flat) → Some (flat.Jump (place n)) ≡ Some item → to n v x ≡ Goes v' x' → GoesAlike μ v v' x' place function view world item
  skips n item emitted goes =
      subst (λ i. GoesAlike μ v v' x' place function view world i) (some_same (flat.Jump (place n)) item emitted) (jumps μ v v' x x' place function view world stands n (place n) refl (to_by n v x v' x' goes))

  labels : (found : Option ℕ) (item : Flat) → jump_to place found ≡ Some item → to_place found v x ≡ Goes v' x' → GoesAlike μ v v' x' place function view world item
  labels found item emitted goes =
      let m = jump_by place found item emitted in
      let j = jumped_by found v x v' x' goes in
      let same : m.target ≡ j.target = some_same m.target j.target (sym m.target_is ∙ j.is) in
      subst (λ i. GoesAlike μ v v' x' place function view world i) m.is (jumps μ v v' x x' place function view world stands j.target (place m.target) (ap place same) j.goes)

  does_nothing : (item : Flat) → Some flat.Nothing ≡ Some item → to (suc v.at) v x ≡ Goes v' x' → GoesAlike μ v v' x' place function view world item
  does_nothing item emitted goes =
      subst (λ i. GoesAlike μ v v' x' place function view world i) (some_same flat.Nothing item emitted) (passes μ v v' x x' place function view world stands (suc v.at) follows (to_by (suc v.at) v x v' x' goes))

  each : (st : Step) (item : Flat) → Steers st → flat_of w place u.position v.at st ≡ Some item → done u v x (Some st) ≡ Goes v' x' → GoesAlike μ v v' x' place function view world item
  unfolding flat_of switch_to done past onward jump
  each (Keep _ _) item none emitted goes = elim none [ ]
  each (PutText _ _) item none emitted goes = elim none [ ]
  each (Compute _ _ _) item none emitted goes = elim none [ ]
  each (CallFor _ _ _) item none emitted goes = elim none [ ]
  each (CallSub _ _ _) item none emitted goes = elim none [ ]
  each Back item none emitted goes = elim none [ ]
  each (BackBy _) item none emitted goes = elim none [ ]
  each (Halt _) item none emitted goes = elim none [ ]
  each (Acts _ _ _) item none emitted goes = elim none [ ]
  each (Put target p) item (by_put _ _) emitted goes = puts target p item emitted goes
  each (PutLabel target label) item (by_label _ _) emitted goes = puts_label target label item emitted goes
  each (Unless p n) item (by_test _ _) emitted goes = tests p (suc v.at) (suc v.at + n) item emitted goes
  each (AgainIf p n) item (by_test_back _ _) emitted goes = tests p (v.at - n) (suc v.at) item emitted goes
  each (Skip n) item (by_skip _) emitted goes = skips (suc v.at + n) item emitted goes
  each (Again n) item (by_return _) emitted goes = skips (v.at - n) item emitted goes
  each (Jump l) item (by_jump _) emitted goes = labels (u.position l) item emitted goes
  each (Select p count) item (by_select _ _) emitted goes = selects p count item emitted goes
  each (JumpBy p ls) item (by_held _ _) emitted goes = held p ls item emitted goes
  each (Branch k count) item (by_branch _ _) emitted goes = selects (Temporary k) count item emitted goes
  each (Way l) item (by_way _) emitted goes = labels (u.position l) item emitted goes
  each Pass item by_pass emitted goes = does_nothing item emitted goes

pub flats_go_on : FlatsGoOn
unfolding step
flats_go_on u v v' x x' μ w place function view world st item facts at steers emitted here next stands known goes =
    each u v v' x x' μ w place function view world facts here next stands known st item steers emitted (sym (ap (done u v x) at) ∙ goes)
