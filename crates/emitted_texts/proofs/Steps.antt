-- What the function does for each step of the text.
use Rattle.std.specs.Prelude.{◌≡◌, ℕ, zero, suc, ◌+◌, ◌-◌, ◌<◌, ◌≤◌, nat_eq, nat_lt, ℤ, pos, negsuc, Bool, true, false, List, [], ◌∷◌, length, bytes_eq, ◌&&◌, Option, Some, None, option_map, if◌then◌else◌}
use Rattle.std.proofs.Common.{refl, sym, ap, ◌∙◌, subst, arith}
use Rattle.std.proofs.lemmas.Bool.{ltb-true}
use Rattle.output_laws.specs.simulation.Machine.{Goes, Breaks}
use Rattle.output_laws.specs.f_tree.Values.{Datum, IsInt, IsLog, IsText, IsSpot, Nothing, BadAssignedLabel, Act, Checked, Gives, Fails, NoMeaning}
use Rattle.output_laws.specs.f_tree.Values as fortran_values
use Rattle.output_laws.specs.f_tree.Store.{Store, Whole, Label, Number, Truth}
use Rattle.output_laws.specs.f_tree.World as fortran
use Rattle.output_laws.specs.f_tree.Setting.{IsIn, first_in, later_in}
use Rattle.output_laws.specs.f_tree.Step.{contains, name_of}
use Rattle.c_emit_laws.specs.l_core.Pures.{Temporary, with_kept}
use Rattle.c_emit_laws.specs.l_core.Steps.{Step, Text}
use Rattle.c_emit_laws.specs.l_core.Machine.{View, Doing, to, onward, past, keeping, storing, testing, to_place, jump, passed_by, selecting, label_held, passed_before, jumping, done}
use Rattle.output_laws.specs.c_tree.Terms.{Term}
use Rattle.output_laws.specs.c_tree.Flat as flat
use Rattle.output_laws.specs.c_tree.Flat.{Flat, CaseAt}
use Rattle.output_laws.specs.c_tree.World as c
use Rattle.c_emit_laws.specs.c_emit.Numbers.{Writing, constant_value, value_term, place_term}
use Rattle.c_emit_laws.specs.c_emit.Flats.{assigned, jump_to, cases_to, cases_for, switch_to, flat_of}
use Rattle.c_emit_laws.specs.EmittedFlats.{Steers, by_put, by_label, by_test, by_test_back, by_skip, by_return, by_jump, by_select, by_held, by_branch, by_way, by_pass}
use Rattle.c_emit_laws.proofs.Choices.{mapped_by, some_same}
use Rattle.c_emit_laws.proofs.LabelLaws.{jumping_is, held_by}
use Rattle.c_emit_laws.proofs.FlatLaws.{to_by, selected_by, assigned_by}
use Rattle.emitted_texts.specs.SecondLayer.{OutputIsOn}
use Rattle.emitted_texts.specs.Emitted.{labelled, places_from, leads, kind_behind, stage_behind}
use Rattle.emitted_texts.proofs.Worlds.{IsPlain, assigns, tests, chooses, jumps, nothing}

-- ## Steps that go on or break

unfoldable pub GoesOrBreaks : Doing → Type 0
GoesOrBreaks (Goes v x) = Unit {0}
GoesOrBreaks (Breaks act) = Unit {0}
GoesOrBreaks e = ⊥

storing_goes : (v : View) (x : fortran.World) (r : Checked Store) → GoesOrBreaks (storing v x r)
unfolding GoesOrBreaks storing onward to
storing_goes v x (Gives s) = tt
storing_goes v x (Fails act) = tt

pub keeping_goes : (k : ℕ) (v : View) (x : fortran.World) (r : Checked Datum) → GoesOrBreaks (keeping k v x r)
unfolding GoesOrBreaks keeping onward to
keeping_goes k v x (Gives d) = tt
keeping_goes k v x (Fails act) = tt

testing_goes : (on off : ℕ) (v : View) (x : fortran.World) (r : Checked Datum) → GoesOrBreaks (testing on off v x r)
unfolding GoesOrBreaks testing to
testing_goes on off v x (Gives (IsLog true)) = tt
testing_goes on off v x (Gives (IsLog false)) = tt
testing_goes on off v x (Gives (IsInt z)) = tt
testing_goes on off v x (Gives (IsText cs)) = tt
testing_goes on off v x (Gives (IsSpot p)) = tt
testing_goes on off v x (Gives (fortran_values.IsProc y)) = tt
testing_goes on off v x (Gives (fortran_values.IsLabel l)) = tt
testing_goes on off v x (Gives fortran_values.Nothing) = tt
testing_goes on off v x (Fails act) = tt

placing_goes : (v : View) (x : fortran.World) (r : Option ℕ) → GoesOrBreaks (to_place r v x)
unfolding GoesOrBreaks to_place to
placing_goes v x None = tt
placing_goes v x (Some n) = tt

selecting_goes : (count : ℕ) (v : View) (x : fortran.World) (r : Checked Datum) → GoesOrBreaks (selecting count v x r)
unfolding GoesOrBreaks selecting past to
selecting_goes count v x (Gives (IsInt z)) = tt
selecting_goes count v x (Gives (IsLog b)) = tt
selecting_goes count v x (Gives (IsText cs)) = tt
selecting_goes count v x (Gives (IsSpot p)) = tt
selecting_goes count v x (Gives (fortran_values.IsProc y)) = tt
selecting_goes count v x (Gives (fortran_values.IsLabel l)) = tt
selecting_goes count v x (Gives fortran_values.Nothing) = tt
selecting_goes count v x (Fails act) = tt

chosen_goes : (test : Bool) (n : ℕ) (v : View) (x : fortran.World) (act : Act) → GoesOrBreaks (if test then to n v x else Breaks act)
unfolding GoesOrBreaks to
chosen_goes true n v x act = tt
chosen_goes false n v x act = tt

jumping_goes : (u : Text) (labels : List ℕ) (v : View) (x : fortran.World) (r : Checked Whole) → GoesOrBreaks (jumping u labels v x r)
unfolding GoesOrBreaks jumping
jumping_goes u labels v x (Gives (Label owner l)) =
    subst GoesOrBreaks (sym (jumping_is u labels v x owner l)) (chosen_goes (bytes_eq owner (name_of u.facts.program) && contains labels l) (suc v.at + passed_before labels l) v x BadAssignedLabel)
jumping_goes u labels v x (Gives (Number z)) = tt
jumping_goes u labels v x (Gives (Truth b)) = tt
jumping_goes u labels v x (Fails act) = tt

pub steering_goes : (u : Text) (v : View) (x : fortran.World) (st : Step) → Steers st → GoesOrBreaks (done u v x (Some st))
unfolding GoesOrBreaks done past onward to jump
steering_goes u v x _ (by_put place p) = storing_goes v x _
steering_goes u v x _ (by_label place label) = storing_goes v x _
steering_goes u v x _ (by_test p n) = testing_goes (suc v.at) (suc v.at + n) v x _
steering_goes u v x _ (by_test_back p n) = testing_goes (v.at - n) (suc v.at) v x _
steering_goes u v x _ (by_skip n) = tt
steering_goes u v x _ (by_return n) = tt
steering_goes u v x _ (by_jump label) = placing_goes v x (u.position label)
steering_goes u v x _ (by_select p count) = selecting_goes count v x _
steering_goes u v x _ (by_held place labels) = jumping_goes u labels v x _
steering_goes u v x _ (by_branch k count) = selecting_goes count v x _
steering_goes u v x _ (by_way label) = placing_goes v x (u.position label)
steering_goes u v x _ by_pass = tt

-- ## Units and the transfer stay as they are

pub record IsShared (x x' : fortran.World) : Type 0 where
  pub units : x'.units ≡ x.units
  pub transfer : x'.transfer ≡ x.transfer

same_shared : (x x' : fortran.World) → x' ≡ x → IsShared x x'
same_shared x x' e = record { units = ap (λ (w : fortran.World). w.units) e; transfer = ap (λ (w : fortran.World). w.transfer) e }

storing_shared : (v v' : View) (x x' : fortran.World) (r : Checked Store) → storing v x r ≡ Goes v' x' → IsShared x x'
unfolding storing onward
storing_shared v v' x x' (Gives s) e =
    let is = to_by (suc v.at) v (record x { store = s }) v' x' e in
    record { units = ap (λ (w : fortran.World). w.units) is.world; transfer = ap (λ (w : fortran.World). w.transfer) is.world }
storing_shared v v' x x' (Fails act) e = absurd (cc)

testing_shared : (on off : ℕ) (v v' : View) (x x' : fortran.World) (r : Checked Datum) → testing on off v x r ≡ Goes v' x' → IsShared x x'
unfolding testing
testing_shared on off v v' x x' (Gives (IsLog true)) e = same_shared x x' (to_by on v x v' x' e).world
testing_shared on off v v' x x' (Gives (IsLog false)) e = same_shared x x' (to_by off v x v' x' e).world
testing_shared on off v v' x x' (Gives (IsInt z)) e = absurd (cc)
testing_shared on off v v' x x' (Gives (IsText cs)) e = absurd (cc)
testing_shared on off v v' x x' (Gives (IsSpot p)) e = absurd (cc)
testing_shared on off v v' x x' (Gives (fortran_values.IsProc y)) e = absurd (cc)
testing_shared on off v v' x x' (Gives (fortran_values.IsLabel l)) e = absurd (cc)
testing_shared on off v v' x x' (Gives fortran_values.Nothing) e = absurd (cc)
testing_shared on off v v' x x' (Fails act) e = absurd (cc)

placing_shared : (v v' : View) (x x' : fortran.World) (r : Option ℕ) → to_place r v x ≡ Goes v' x' → IsShared x x'
unfolding to_place
placing_shared v v' x x' (Some n) e = same_shared x x' (to_by n v x v' x' e).world
placing_shared v v' x x' None e = absurd (cc)

pub steering_shared : (u : Text) (v v' : View) (x x' : fortran.World) (st : Step) → Steers st → done u v x (Some st) ≡ Goes v' x' → IsShared x x'
unfolding done past onward jump
steering_shared u v v' x x' _ (by_put place p) e = storing_shared v v' x x' _ e
steering_shared u v v' x x' _ (by_label place label) e = storing_shared v v' x x' _ e
steering_shared u v v' x x' _ (by_test p n) e = testing_shared (suc v.at) (suc v.at + n) v v' x x' _ e
steering_shared u v v' x x' _ (by_test_back p n) e = testing_shared (v.at - n) (suc v.at) v v' x x' _ e
steering_shared u v v' x x' _ (by_skip n) e = same_shared x x' (to_by (suc v.at + n) v x v' x' e).world
steering_shared u v v' x x' _ (by_return n) e = same_shared x x' (to_by (v.at - n) v x v' x' e).world
steering_shared u v v' x x' _ (by_jump label) e = placing_shared v v' x x' (u.position label) e
steering_shared u v v' x x' _ (by_select p count) e = let is = selected_by count v x v' x' _ e in same_shared x x' is.goes.world
steering_shared u v v' x x' _ (by_held place labels) e =
    let is = held_by u labels v x v' x' _ e in same_shared x x' (to_by (suc v.at + passed_before labels is.label) v x v' x' is.goes).world
steering_shared u v v' x x' _ (by_branch k count) e = let is = selected_by count v x v' x' _ e in same_shared x x' is.goes.world
steering_shared u v v' x x' _ (by_way label) e = placing_shared v v' x x' (u.position label) e
steering_shared u v v' x x' _ by_pass e = same_shared x x' (to_by (suc v.at) v x v' x' e).world

-- ## The items are plain

assigned_plain : (x y : Option Term) (item : Flat) → assigned x y ≡ Some item → IsPlain item
assigned_plain x y item e = let is = assigned_by x y item e in subst IsPlain is.is (assigns is.target is.value)

tested_plain : (on off : ℕ) (x : Option Term) (item : Flat) → option_map (λ test. flat.Branch test on off) x ≡ Some item → IsPlain item
tested_plain on off x item e = let is = mapped_by (λ test. flat.Branch test on off) x item e in subst IsPlain is.is (tests is.one on off)

chosen_plain : (cases : List CaseAt) (otherwise : ℕ) (x : Option Term) (item : Flat) → option_map (λ value. flat.Select value cases otherwise) x ≡ Some item → IsPlain item
chosen_plain cases otherwise x item e = let is = mapped_by (λ value. flat.Select value cases otherwise) x item e in subst IsPlain is.is (chooses is.one cases otherwise)

jump_plain : (place : ℕ → ℕ) (r : Option ℕ) (item : Flat) → jump_to place r ≡ Some item → IsPlain item
unfolding jump_to
jump_plain place (Some n) item e = subst IsPlain (some_same (flat.Jump (place n)) item e) (jumps (place n))
jump_plain place None item e = absurd (cc)

pub steering_plain : (w : Writing) (place : ℕ → ℕ) (label : ℕ → Option ℕ) (n : ℕ) (st : Step) (item : Flat) → Steers st → flat_of w place label n st ≡ Some item → IsPlain item
unfolding flat_of switch_to
steering_plain w place label n _ item (by_put target p) e = assigned_plain (place_term w target) (value_term w p) item e
steering_plain w place label n _ item (by_label target l) e = assigned_plain (place_term w target) (constant_value (IsInt (pos l))) item e
steering_plain w place label n _ item (by_test p m) e = tested_plain (place (suc n)) (place (suc n + m)) (value_term w p) item e
steering_plain w place label n _ item (by_test_back p m) e = tested_plain (place (n - m)) (place (suc n)) (value_term w p) item e
steering_plain w place label n _ item (by_skip m) e = subst IsPlain (some_same (flat.Jump (place (suc n + m))) item e) (jumps (place (suc n + m)))
steering_plain w place label n _ item (by_return m) e = subst IsPlain (some_same (flat.Jump (place (n - m))) item e) (jumps (place (n - m)))
steering_plain w place label n _ item (by_jump l) e = jump_plain place (label l) item e
steering_plain w place label n _ item (by_select p count) e = chosen_plain (cases_to place 1 (suc n) count) (place (suc n + count)) (value_term w p) item e
steering_plain w place label n _ item (by_held p ls) e = chosen_plain (cases_for place (suc n) ls) (place (suc n + length ls)) (place_term w p) item e
steering_plain w place label n _ item (by_branch k count) e = chosen_plain (cases_to place 1 (suc n) count) (place (suc n + count)) (value_term w (Temporary k)) item e
steering_plain w place label n _ item (by_way l) e = jump_plain place (label l) item e
steering_plain w place label n _ item by_pass e = subst IsPlain (some_same flat.Nothing item e) nothing

-- ## Where the steps lead

test_leads : (on off : ℕ) (ns : List ℕ) (v v' : View) (x x' : fortran.World) (r : Checked Datum) → IsIn on ns → IsIn off ns → testing on off v x r ≡ Goes v' x' → IsIn v'.at ns
unfolding testing
test_leads on off ns v v' x x' (Gives (IsLog true)) one other e = subst (λ (y : View). IsIn y.at ns) (sym (to_by on v x v' x' e).view) one
test_leads on off ns v v' x x' (Gives (IsLog false)) one other e = subst (λ (y : View). IsIn y.at ns) (sym (to_by off v x v' x' e).view) other
test_leads on off ns v v' x x' (Gives (IsInt z)) one other e = absurd (cc)
test_leads on off ns v v' x x' (Gives (IsText cs)) one other e = absurd (cc)
test_leads on off ns v v' x x' (Gives (IsSpot p)) one other e = absurd (cc)
test_leads on off ns v v' x x' (Gives (fortran_values.IsProc y)) one other e = absurd (cc)
test_leads on off ns v v' x x' (Gives (fortran_values.IsLabel l)) one other e = absurd (cc)
test_leads on off ns v v' x x' (Gives fortran_values.Nothing) one other e = absurd (cc)
test_leads on off ns v v' x x' (Fails act) one other e = absurd (cc)

store_leads : (v v' : View) (x x' : fortran.World) (r : Checked Store) → storing v x r ≡ Goes v' x' → IsIn v'.at (suc v.at ∷ [])
unfolding storing onward
store_leads v v' x x' (Gives s) e = subst (λ (y : View). IsIn y.at (suc v.at ∷ [])) (sym (to_by (suc v.at) v (record x { store = s }) v' x' e).view) first_in
store_leads v v' x x' (Fails act) e = absurd (cc)

place_leads : (v v' : View) (x x' : fortran.World) (r : Option ℕ) → to_place r v x ≡ Goes v' x' → IsIn v'.at (labelled r)
unfolding to_place labelled
place_leads v v' x x' (Some n) e = subst (λ (y : View). IsIn y.at (n ∷ [])) (sym (to_by n v x v' x' e).view) first_in
place_leads v v' x x' None e = absurd (cc)

-- a position among so many
in_places : (n k count : ℕ) → k < count → IsIn (n + k) (places_from n count)
unfolding places_from
in_places n k zero less = absurd (omega (arith, less))
in_places n zero (suc count) less =
    let same : n ≡ n + zero = omega arith in
    subst (λ m. IsIn m (n ∷ places_from (suc n) count)) same first_in
in_places n (suc k) (suc count) less =
    let same : suc n + k ≡ n + suc k = omega arith in
    later_in (subst (λ m. IsIn m (places_from (suc n) count)) same (in_places (suc n) k count (omega (arith, less))))

or_first : (n k count : ℕ) → k ≤ count → IsIn (n + k) (n ∷ places_from (suc n) count)
or_first n zero count less =
    let same : n ≡ n + zero = omega arith in
    subst (λ m. IsIn m (n ∷ places_from (suc n) count)) same first_in
or_first n (suc k) count less =
    let same : suc n + k ≡ n + suc k = omega arith in
    later_in (subst (λ m. IsIn m (places_from (suc n) count)) same (in_places (suc n) k count (omega (arith, less))))

passed_small : (count : ℕ) (z : ℤ) → passed_by count z ≤ count
unfolding passed_by
passed_small count (pos zero) = omega arith
passed_small count (negsuc n) = omega arith
passed_small count (pos (suc n)) = by (nat_lt n count) refl
  where
    by : (test : Bool) → nat_lt n count ≡ test → (if test then n else count) ≤ count
    by true less = let below = ltb-true n count less in omega (arith, below)
    by false past = omega arith

held_small : (labels : List ℕ) (l : ℕ) → passed_before labels l ≤ length labels
unfolding passed_before
held_small [] l = omega arith
held_small (k ∷ ks) l = by (nat_eq k l) (passed_before ks l) (length ks) (held_small ks l)
  where
    by : (test : Bool) (n m : ℕ) → n ≤ m → (if test then 0 else suc n) ≤ suc m
    by true n m less = omega arith
    by false n m less = omega (arith, less)

pub steering_leads : (u : Text) (v v' : View) (x x' : fortran.World) (st : Step) → Steers st → done u v x (Some st) ≡ Goes v' x' → IsIn v'.at (leads u v.at st)
unfolding done past onward jump leads
steering_leads u v v' x x' _ (by_put place p) e = store_leads v v' x x' _ e
steering_leads u v v' x x' _ (by_label place label) e = store_leads v v' x x' _ e
steering_leads u v v' x x' _ (by_test p n) e = test_leads (suc v.at) (suc v.at + n) _ v v' x x' _ first_in (later_in first_in) e
steering_leads u v v' x x' _ (by_test_back p n) e = test_leads (v.at - n) (suc v.at) _ v v' x x' _ first_in (later_in first_in) e
steering_leads u v v' x x' _ (by_skip n) e = subst (λ (y : View). IsIn y.at ((suc v.at + n) ∷ [])) (sym (to_by (suc v.at + n) v x v' x' e).view) first_in
steering_leads u v v' x x' _ (by_return n) e = subst (λ (y : View). IsIn y.at ((v.at - n) ∷ [])) (sym (to_by (v.at - n) v x v' x' e).view) first_in
steering_leads u v v' x x' _ (by_jump label) e = place_leads v v' x x' (u.position label) e
steering_leads u v v' x x' _ (by_select p count) e =
    let is = selected_by count v x v' x' _ e in
    subst (λ (y : View). IsIn y.at (suc v.at ∷ places_from (suc (suc v.at)) count)) (sym is.goes.view) (or_first (suc v.at) (passed_by count is.number) count (passed_small count is.number))
steering_leads u v v' x x' _ (by_held place labels) e =
    let is = held_by u labels v x v' x' _ e in
    let there = to_by (suc v.at + passed_before labels is.label) v x v' x' is.goes in
    subst (λ (y : View). IsIn y.at (suc v.at ∷ places_from (suc (suc v.at)) (length labels))) (sym there.view)
    (or_first (suc v.at) (passed_before labels is.label) (length labels) (held_small labels is.label))
steering_leads u v v' x x' _ (by_branch k count) e =
    let is = selected_by count v x v' x' _ e in
    subst (λ (y : View). IsIn y.at (suc v.at ∷ places_from (suc (suc v.at)) count)) (sym is.goes.view) (or_first (suc v.at) (passed_by count is.number) count (passed_small count is.number))
steering_leads u v v' x x' _ (by_way label) e = place_leads v v' x x' (u.position label) e
steering_leads u v v' x x' _ by_pass e = subst (λ (y : View). IsIn y.at (suc v.at ∷ [])) (sym (to_by (suc v.at) v x v' x' e).view) first_in

-- none of them keeps a value or goes on with a transfer
pub steering_kinds : (w : Writing) (n : ℕ) (st : Step) (k : ℕ) → Steers st → kind_behind w n st k ≡ w.kind n k
unfolding kind_behind
steering_kinds w n _ k (by_put place p) = refl
steering_kinds w n _ k (by_label place label) = refl
steering_kinds w n _ k (by_test p m) = refl
steering_kinds w n _ k (by_test_back p m) = refl
steering_kinds w n _ k (by_skip m) = refl
steering_kinds w n _ k (by_return m) = refl
steering_kinds w n _ k (by_jump label) = refl
steering_kinds w n _ k (by_select p count) = refl
steering_kinds w n _ k (by_held place labels) = refl
steering_kinds w n _ k (by_branch j count) = refl
steering_kinds w n _ k (by_way label) = refl
steering_kinds w n _ k by_pass = refl

pub steering_stages : (now : Option ℤ) (st : Step) → Steers st → stage_behind now st ≡ now
unfolding stage_behind
steering_stages now _ (by_put place p) = refl
steering_stages now _ (by_label place label) = refl
steering_stages now _ (by_test p m) = refl
steering_stages now _ (by_test_back p m) = refl
steering_stages now _ (by_skip m) = refl
steering_stages now _ (by_return m) = refl
steering_stages now _ (by_jump label) = refl
steering_stages now _ (by_select p count) = refl
steering_stages now _ (by_held place labels) = refl
steering_stages now _ (by_branch k count) = refl
steering_stages now _ (by_way label) = refl
steering_stages now _ by_pass = refl

-- what is kept, and where that leads
pub record IsKept (k : ℕ) (v v' : View) (r : Checked Datum) : Type 0 where
  pub value : Datum
  pub gives : r ≡ Gives value
  pub at : v'.at ≡ suc v.at
  pub kept : v'.kept ≡ with_kept k value v.kept

pub kept_by : (k : ℕ) (v v' : View) (x x' : fortran.World) (r : Checked Datum) → keeping k v x r ≡ Goes v' x' → IsKept k v v' r
unfolding keeping onward
kept_by k v v' x x' (Gives d) e =
    let is = to_by (suc v.at) (record v { kept = with_kept k d v.kept }) x v' x' e in
    record { value = d; gives = refl; at = ap (λ (y : View). y.at) is.view; kept = ap (λ (y : View). y.kept) is.view }
kept_by k v v' x x' (Fails act) e = absurd (cc)

-- an output that is in progress stays so
pub output_on : (x x' : fortran.World) (y y' : c.World) (unit : ℤ) → x'.transfer ≡ x.transfer → x'.units ≡ x.units → y'.transfer ≡ y.transfer → y'.units ≡ y.units → OutputIsOn x y unit → OutputIsOn x' y' unit
output_on x x' y y' unit one units other units' on =
    record { zeros = on.zeros; values = on.values; written = on.written; on = record { one = one ∙ on.on.one; other = other ∙ on.on.other; units = units ∙ on.on.units ∙ sym units' } }
