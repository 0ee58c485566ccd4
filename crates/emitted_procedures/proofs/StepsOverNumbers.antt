-- A step that changes no temporary does the same over the numbers that temporaries keep.
use Rattle.std.specs.Prelude.{◌≡◌, ℕ, suc, ◌+◌, ◌-◌, ℤ, pos, Bool, true, false, ◌&&◌, List, length, bytes_eq, Option, Some, None, if◌then◌else◌}
use Rattle.std.proofs.Common.{refl, sym, ap, ◌∙◌}
use Rattle.procedure_emission.specs.simulation.Machine.{Goes, Breaks}
use Rattle.procedure_emission.specs.f_tree.Values.{Bytes, Datum, IsInt, IsLog, IsText, IsSpot, IsProc, IsLabel, Nothing, BadAssignedLabel, Act, Checked, Gives, Fails, given_that}
use Rattle.procedure_emission.specs.f_tree.Store.{Store, Label}
use Rattle.procedure_emission.specs.f_tree.World as fortran
use Rattle.procedure_emission.specs.f_tree.Step.{contains, name_of}
use Rattle.procedure_emission.specs.l_core.Pures.{Pure, Temporary, Temporaries, meant}
use Rattle.procedure_emission.specs.l_core.Steps.{Step, Text}
use Rattle.procedure_emission.specs.l_core.Machine.{View, Doing, to, onward, past, storing, put_at, put_label_at, testing, to_place, jump, selecting, label_held, passed_before, jumping, done}
use Rattle.procedure_emission.specs.c_tree.Terms.{Term}
use Rattle.procedure_emission.specs.c_tree.Flat as flat
use Rattle.procedure_emission.specs.c_tree.Flat.{Flat}
use Rattle.procedure_emission.specs.c_emit.Numbers.{Writing, constant_value, value_term, place_term}
use Rattle.procedure_emission.specs.c_emit.Flats.{assigned, cases_to, cases_for, switch_to, flat_of}
use Rattle.procedure_emission.specs.c_emit_laws.EmittedFlats.{Steers, by_put, by_label, by_test, by_test_back, by_skip, by_return, by_jump, by_select, by_held, by_branch, by_way, by_pass}
use Rattle.procedure_emission.proofs.c_emit_laws.Choices.{got, mapped_by}
use Rattle.procedure_emission.proofs.c_emit_laws.LabelLaws.{jumping_is, held_by}
use Rattle.procedure_emission.proofs.c_emit_laws.FlatLaws.{assigned_by, selected_by}
use Rattle.procedure_emission.specs.Reading.{IsPlain, numbers_kept}
use Rattle.emitted_procedures.proofs.ReadNumbers.{IsRead, the_same, no_value, put_nothing, truth_read, integer_read, place_read, value_read}

-- the same event with other temporaries
unfoldable pub with_temporaries : Temporaries → Doing → Doing
with_temporaries m (Goes v x) = Goes (record v { kept = m }) x
with_temporaries m event = event

storing_same : (m : Temporaries) (v : View) (x : fortran.World) (r : Checked Store) → storing (record v { kept = m }) x r ≡ with_temporaries m (storing v x r)
unfolding with_temporaries storing onward to
storing_same m v x (Gives s) = refl
storing_same m v x (Fails act) = refl

testing_same : (m : Temporaries) (on off : ℕ) (v : View) (x : fortran.World) (r : Checked Datum) → testing on off (record v { kept = m }) x r ≡ with_temporaries m (testing on off v x r)
unfolding with_temporaries testing to
testing_same m on off v x (Gives (IsLog true)) = refl
testing_same m on off v x (Gives (IsLog false)) = refl
testing_same m on off v x (Gives (IsInt z)) = refl
testing_same m on off v x (Gives (IsText cs)) = refl
testing_same m on off v x (Gives (IsSpot p)) = refl
testing_same m on off v x (Gives (IsProc y)) = refl
testing_same m on off v x (Gives (IsLabel l)) = refl
testing_same m on off v x (Gives Nothing) = refl
testing_same m on off v x (Fails act) = refl

placing_same : (m : Temporaries) (v : View) (x : fortran.World) (r : Option ℕ) → to_place r (record v { kept = m }) x ≡ with_temporaries m (to_place r v x)
unfolding with_temporaries to_place to
placing_same m v x None = refl
placing_same m v x (Some n) = refl

selecting_same : (m : Temporaries) (count : ℕ) (v : View) (x : fortran.World) (z : ℤ) → selecting count (record v { kept = m }) x (Gives (IsInt z)) ≡ with_temporaries m (selecting count v x (Gives (IsInt z)))
unfolding with_temporaries selecting past to
selecting_same m count v x z = refl

chosen_same : (m : Temporaries) (test : Bool) (n : ℕ) (v : View) (x : fortran.World) (act : Act) → (if test then to n (record v { kept = m }) x else Breaks act) ≡ with_temporaries m (if test then to n v x else Breaks act)
unfolding with_temporaries to
chosen_same m true n v x act = refl
chosen_same m false n v x act = refl

jumping_same : (m : Temporaries) (u : Text) (labels : List ℕ) (v : View) (x : fortran.World) (owner : Bytes) (l : ℕ)
    → jumping u labels (record v { kept = m }) x (Gives (Label owner l)) ≡ with_temporaries m (jumping u labels v x (Gives (Label owner l)))
jumping_same m u labels v x owner l =
    jumping_is u labels (record v { kept = m }) x owner l ∙ chosen_same m (bytes_eq owner (name_of u.facts.program) && contains labels l) (suc v.at + passed_before labels l) v x BadAssignedLabel
    ∙ ap (with_temporaries m) (sym (jumping_is u labels v x owner l))

-- what a step that goes on has
stored_by : (v v' : View) (x x' : fortran.World) (r : Checked Store) → storing v x r ≡ Goes v' x' → (later : Store) × (r ≡ Gives later)
unfolding storing
stored_by v v' x x' (Gives later) h = (later, refl)
stored_by v v' x x' (Fails act) h = absurd (cc)

tested_by : (on off : ℕ) (v v' : View) (x x' : fortran.World) (r : Checked Datum) → testing on off v x r ≡ Goes v' x' → (b : Bool) × (r ≡ Gives (IsLog b))
unfolding testing
tested_by on off v v' x x' (Gives (IsLog b)) h = (b, refl)
tested_by on off v v' x x' (Gives (IsInt z)) h = absurd (cc)
tested_by on off v v' x x' (Gives (IsText cs)) h = absurd (cc)
tested_by on off v v' x x' (Gives (IsSpot p)) h = absurd (cc)
tested_by on off v v' x x' (Gives (IsProc y)) h = absurd (cc)
tested_by on off v v' x x' (Gives (IsLabel l)) h = absurd (cc)
tested_by on off v v' x x' (Gives Nothing) h = absurd (cc)
tested_by on off v v' x x' (Fails act) h = absurd (cc)

module _ (u : Text) (w : Writing) (facts : w.facts ≡ u.facts) (v v' : View) (x x' : fortran.World) (plain : (k : ℕ) (d : Datum) → v.kept k ≡ Some d → IsPlain d) where
  -- what is meant in the facts of the text and in those of the function
  in_writing : (m : Temporaries) (p : Pure) (d : Datum) → meant u.facts v.frame m x.store p ≡ Gives d → meant w.facts v.frame m x.store p ≡ Gives d
  in_writing m p d h = ap (λ f. meant f v.frame m x.store p) facts ∙ h

  in_text : (m : Temporaries) (p : Pure) (d : Datum) → meant w.facts v.frame m x.store p ≡ Gives d → meant u.facts v.frame m x.store p ≡ Gives d
  in_text m p d h = ap (λ f. meant f v.frame m x.store p) (sym facts) ∙ h

  put_over : (place p : Pure) (item : Flat) → assigned (place_term w place) (value_term w p) ≡ Some item
      → storing v x (given_that (meant u.facts v.frame v.kept x.store p) (λ d. given_that (meant u.facts v.frame v.kept x.store place) (λ r. put_at x.store r d))) ≡ Goes v' x'
      → storing (record v { kept = numbers_kept v.kept }) x (given_that (meant u.facts v.frame (numbers_kept v.kept) x.store p) (λ d. given_that (meant u.facts v.frame (numbers_kept v.kept) x.store place) (λ r. put_at x.store r d)))
      ≡ Goes (record v' { kept = numbers_kept v.kept }) x'
  unfolding given_that with_temporaries
  put_over place p item emitted h =
      let is = assigned_by (place_term w place) (value_term w p) item emitted in
      let stored = stored_by v v' x x' (given_that (meant u.facts v.frame v.kept x.store p) (λ d. given_that (meant u.facts v.frame v.kept x.store place) (λ r. put_at x.store r d))) h in
      let value = got (meant u.facts v.frame v.kept x.store p) (λ d. given_that (meant u.facts v.frame v.kept x.store place) (λ r. put_at x.store r d)) stored.0 stored.1 in
      let spot = got (meant u.facts v.frame v.kept x.store place) (λ r. put_at x.store r value.value) stored.0 value.gives in
      let place' = in_text (numbers_kept v.kept) place spot.value (place_read w v.frame v.kept x.store plain place is.target spot.value is.target_is (in_writing v.kept place spot.value spot.is)) in
      let value' = in_text (numbers_kept v.kept) p value.value
      (value_is value.value spot.value stored.0 (meant w.facts v.frame (numbers_kept v.kept) x.store p) spot.gives (value_read w v.frame v.kept x.store plain p is.value value.value is.value_is (in_writing v.kept p value.value value.is))) in
      ap (λ r. storing (record v { kept = numbers_kept v.kept }) x (given_that r (λ d. given_that (meant u.facts v.frame (numbers_kept v.kept) x.store place) (λ r. put_at x.store r d)))) value'
      ∙ ap (λ r. storing (record v { kept = numbers_kept v.kept }) x (given_that r (λ r. put_at x.store r value.value))) place'
      ∙ ap (storing (record v { kept = numbers_kept v.kept }) x) spot.gives
      ∙ storing_same (numbers_kept v.kept) v x (Gives stored.0)
      ∙ ap (with_temporaries (numbers_kept v.kept)) (sym (ap (storing v x) stored.1) ∙ h)
    where
      value_is : (d r : Datum) (later : Store) (found : Checked Datum) → put_at x.store r d ≡ Gives later → IsRead found d → found ≡ Gives d
      value_is d r later found gives (the_same is) = is
      value_is d r later found gives (no_value is) = put_nothing x.store later r (ap (put_at x.store r) is ∙ gives)

  put_label_over : (place : Pure) (label : ℕ) (item : Flat) → assigned (place_term w place) (constant_value (IsInt (pos label))) ≡ Some item
      → storing v x (given_that (meant u.facts v.frame v.kept x.store place) (put_label_at u x.store label)) ≡ Goes v' x'
      → storing (record v { kept = numbers_kept v.kept }) x (given_that (meant u.facts v.frame (numbers_kept v.kept) x.store place) (put_label_at u x.store label)) ≡ Goes (record v' { kept = numbers_kept v.kept }) x'
  unfolding given_that with_temporaries
  put_label_over place label item emitted h =
      let is = assigned_by (place_term w place) (constant_value (IsInt (pos label))) item emitted in
      let stored = stored_by v v' x x' (given_that (meant u.facts v.frame v.kept x.store place) (put_label_at u x.store label)) h in
      let spot = got (meant u.facts v.frame v.kept x.store place) (put_label_at u x.store label) stored.0 stored.1 in
      let place' = in_text (numbers_kept v.kept) place spot.value (place_read w v.frame v.kept x.store plain place is.target spot.value is.target_is (in_writing v.kept place spot.value spot.is)) in
      ap (λ r. storing (record v { kept = numbers_kept v.kept }) x (given_that r (put_label_at u x.store label))) place'
      ∙ ap (storing (record v { kept = numbers_kept v.kept }) x) spot.gives
      ∙ storing_same (numbers_kept v.kept) v x (Gives stored.0)
      ∙ ap (with_temporaries (numbers_kept v.kept)) (sym (ap (storing v x) stored.1) ∙ h)

  held_over : (p : Pure) (labels : List ℕ) (term : Term) → place_term w p ≡ Some term → jumping u labels v x (given_that (meant u.facts v.frame v.kept x.store p) (label_held x.store)) ≡ Goes v' x'
      → jumping u labels (record v { kept = numbers_kept v.kept }) x (given_that (meant u.facts v.frame (numbers_kept v.kept) x.store p) (label_held x.store)) ≡ Goes (record v' { kept = numbers_kept v.kept }) x'
  unfolding given_that with_temporaries
  held_over p labels term emitted h =
      let held = held_by u labels v x v' x' (given_that (meant u.facts v.frame v.kept x.store p) (label_held x.store)) h in
      let spot = got (meant u.facts v.frame v.kept x.store p) (label_held x.store) (Label held.owner held.label) held.gives in
      let place' = in_text (numbers_kept v.kept) p spot.value (place_read w v.frame v.kept x.store plain p term spot.value emitted (in_writing v.kept p spot.value spot.is)) in
      ap (λ r. jumping u labels (record v { kept = numbers_kept v.kept }) x (given_that r (label_held x.store))) place'
      ∙ ap (jumping u labels (record v { kept = numbers_kept v.kept }) x) spot.gives
      ∙ jumping_same (numbers_kept v.kept) u labels v x held.owner held.label
      ∙ ap (with_temporaries (numbers_kept v.kept)) (sym (ap (jumping u labels v x) held.gives) ∙ h)

  test_over : (on off : ℕ) (p : Pure) (term : Term) → value_term w p ≡ Some term → testing on off v x (meant u.facts v.frame v.kept x.store p) ≡ Goes v' x'
      → testing on off (record v { kept = numbers_kept v.kept }) x (meant u.facts v.frame (numbers_kept v.kept) x.store p) ≡ Goes (record v' { kept = numbers_kept v.kept }) x'
  unfolding with_temporaries
  test_over on off p term emitted h =
      let tested = tested_by on off v v' x x' (meant u.facts v.frame v.kept x.store p) h in
      let same = in_text (numbers_kept v.kept) p (IsLog tested.0)
      (truth_read (meant w.facts v.frame (numbers_kept v.kept) x.store p) tested.0 (value_read w v.frame v.kept x.store plain p term (IsLog tested.0) emitted (in_writing v.kept p (IsLog tested.0) tested.1))) in
      ap (testing on off (record v { kept = numbers_kept v.kept }) x) same ∙ testing_same (numbers_kept v.kept) on off v x (Gives (IsLog tested.0))
      ∙ ap (with_temporaries (numbers_kept v.kept)) (sym (ap (testing on off v x) tested.1) ∙ h)

  select_over : (count : ℕ) (p : Pure) (term : Term) → value_term w p ≡ Some term → selecting count v x (meant u.facts v.frame v.kept x.store p) ≡ Goes v' x'
      → selecting count (record v { kept = numbers_kept v.kept }) x (meant u.facts v.frame (numbers_kept v.kept) x.store p) ≡ Goes (record v' { kept = numbers_kept v.kept }) x'
  unfolding with_temporaries
  select_over count p term emitted h =
      let selected = selected_by count v x v' x' (meant u.facts v.frame v.kept x.store p) h in
      let same = in_text (numbers_kept v.kept) p (IsInt selected.number)
      (integer_read (meant w.facts v.frame (numbers_kept v.kept) x.store p) selected.number (value_read w v.frame v.kept x.store plain p term (IsInt selected.number) emitted (in_writing v.kept p (IsInt selected.number) selected.gives))) in
      ap (selecting count (record v { kept = numbers_kept v.kept }) x) same ∙ selecting_same (numbers_kept v.kept) count v x selected.number
      ∙ ap (with_temporaries (numbers_kept v.kept)) (sym (ap (selecting count v x) selected.gives) ∙ h)

  pub same_done : (place : ℕ → ℕ) (label : ℕ → Option ℕ) (n : ℕ) (st : Step) (item : Flat) → Steers st → flat_of w place label n st ≡ Some item → done u v x (Some st) ≡ Goes v' x'
      → done u (record v { kept = numbers_kept v.kept }) x (Some st) ≡ Goes (record v' { kept = numbers_kept v.kept }) x'
  unfolding flat_of switch_to done past onward to jump with_temporaries
  same_done place label n _ item (by_put target p) emitted h = put_over target p item emitted h
  same_done place label n _ item (by_label target l) emitted h = put_label_over target l item emitted h
  same_done place label n _ item (by_test p m) emitted h =
      let is = mapped_by (λ test. flat.Branch test (place (suc n)) (place (suc n + m))) (value_term w p) item emitted in test_over (suc v.at) (suc v.at + m) p is.one is.one_is h
  same_done place label n _ item (by_test_back p m) emitted h =
      let is = mapped_by (λ test. flat.Branch test (place (n - m)) (place (suc n))) (value_term w p) item emitted in test_over (v.at - m) (suc v.at) p is.one is.one_is h
  same_done place label n _ item (by_skip m) emitted h = ap (with_temporaries (numbers_kept v.kept)) h
  same_done place label n _ item (by_return m) emitted h = ap (with_temporaries (numbers_kept v.kept)) h
  same_done place label n _ item (by_jump l) emitted h = placing_same (numbers_kept v.kept) v x (u.position l) ∙ ap (with_temporaries (numbers_kept v.kept)) h
  same_done place label n _ item (by_select p count) emitted h =
      let is = mapped_by (λ value. flat.Select value (cases_to place 1 (suc n) count) (place (suc n + count))) (value_term w p) item emitted in select_over count p is.one is.one_is h
  same_done place label n _ item (by_held p labels) emitted h =
      let is = mapped_by (λ value. flat.Select value (cases_for place (suc n) labels) (place (suc n + length labels))) (place_term w p) item emitted in held_over p labels is.one is.one_is h
  same_done place label n _ item (by_branch k count) emitted h =
      let is = mapped_by (λ value. flat.Select value (cases_to place 1 (suc n) count) (place (suc n + count))) (value_term w (Temporary k)) item emitted in select_over count (Temporary k) is.one is.one_is h
  same_done place label n _ item (by_way l) emitted h = placing_same (numbers_kept v.kept) v x (u.position l) ∙ ap (with_temporaries (numbers_kept v.kept)) h
  same_done place label n _ item by_pass emitted h = ap (with_temporaries (numbers_kept v.kept)) h
