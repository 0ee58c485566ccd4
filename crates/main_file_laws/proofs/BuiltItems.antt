-- The function of a main program has its items.
use Rattle.std.specs.Prelude.{◌≡◌, ℕ, suc, ◌+◌, ◌-◌, ◌<◌, nat_eq, nat_le, nat_lt, Bool, true, false, ◌&&◌, List, [], ◌∷◌, ◌++◌, length, position, Option, Some, None, option_map, unwrap_or, slice_get, codes}
use Rattle.std.proofs.Common.{refl, sym, ap, ◌∙◌, subst, arith}
use Rattle.std.proofs.lemmas.Bool.{eq-eqb, ne_eqb, lt-ltb, le-leb}
use Rattle.std.proofs.lemmas.List.{append_assoc, length-append}
use Rattle.main_file.specs.f_tree.declared.names.Basic.{Basic}
use Rattle.main_file.specs.f_tree.Terms as fortran
use Rattle.main_file.specs.l_core.Steps.{Starts, Takes, Finishes, Step, Compute, Halt, Acts, Text}
use Rattle.linking_laws.specs.c_tree.declared.statement.CStmt.{CStmt}
use Rattle.linking_laws.specs.c_tree.Access.{ToChar}
use Rattle.linking_laws.specs.c_tree.Flat.{Flat}
use Rattle.linking_laws.specs.c_tree.Drafts.{Scope}
use Rattle.linking_laws.specs.c_tree.FlatForm.{whole_body}
use Rattle.linking_laws.specs.c_tree.Linking.{Routines, file_scope, strings_of}
use Rattle.linking_laws.specs.c_structure.Expressions.{Names, strings_in}
use Rattle.linking_laws.specs.c_structure.Expressions as written
use Rattle.linking_laws.specs.c_structure.Statements.{strings_of_item, strings_of_items}
use Rattle.linking_laws.specs.c_structure_laws.Fitting.{KnowsItems, KnowsArray, AreNumbered}
use Rattle.main_file.specs.c_emit.Numbers.{Writing}
use Rattle.main_file.specs.c_emit.LibraryFunctions.{library_function}
use Rattle.main_file.specs.c_emit.Flats.{flat_of}
use Rattle.linking_laws.specs.Linked as linked
use Rattle.linking_laws.proofs.Places.{some_same, position_step, taken, skipped}
use Rattle.linking_laws.proofs.BuiltCode.{code_is_theirs}
use Rattle.emitted_names.specs.KnownNames.{CallsFunction, KnowsStep}
use Rattle.emitted_names.proofs.ItemNames.{emitted_names_are_known}
use Rattle.main_file.specs.MainFile.{Inventory, Bases, main_function, main_file, first_string, first_temporary, place_or_none, place_of_string, names_of, string_at, writing_of}
use Rattle.main_file_laws.specs.KnownFile.{NamesDiffer, VariablesAreListed, scope_in, FileIsKnown}
use Rattle.main_file.specs.MainItems.{item_before, flats_from, stops_from}
use Rattle.main_file_laws.specs.BuiltMain.{FunctionIsCalled, IsListed, AreListed, AreNumberedBuiltins, MainsHaveTheirItems}
use Rattle.main_file_laws.proofs.Listed.{no_strings, statics_count}
use Rattle.main_file_laws.proofs.Known.{main_files_are_known}

-- ## Where a number stands in a list of greater ones behind lesser ones

pub data AreBelow (n : ℕ) : List ℕ → Type 0 where
  none_below : AreBelow n []
  and_below : {m : ℕ} {ms : List ℕ} → m < n → AreBelow n ms → AreBelow n (m ∷ ms)

pub below_next : (n : ℕ) (ms : List ℕ) → AreBelow n ms → AreBelow (suc n) ms
below_next n [] none_below = none_below
below_next n (m ∷ ms) (and_below less rest) = and_below (omega (arith, less)) (below_next n ms rest)

pub below_both : (n : ℕ) (ms : List ℕ) → AreBelow n ms → AreBelow (suc n) (ms ++ n ∷ [])
below_both n [] none_below = and_below (omega arith) none_below
below_both n (m ∷ ms) (and_below less rest) = and_below (omega (arith, less)) (below_both n ms rest)

pub place_behind : (n : ℕ) (before later : List ℕ) → AreBelow n before → position (nat_eq n) (before ++ n ∷ later) ≡ Some (length before)
place_behind n [] later none_below = position_step (nat_eq n) n later ∙ taken (nat_eq n n) (Some 0) (option_map suc (position (nat_eq n) later)) (eq-eqb n n refl)
place_behind n (m ∷ before) later (and_below less rest) =
    position_step (nat_eq n) m (before ++ n ∷ later)
    ∙ skipped (nat_eq n m) (Some 0) (option_map suc (position (nat_eq n) (before ++ n ∷ later))) (ne_eqb n m (λ same. let no : ⊥ = omega (arith, same, less) in no))
    ∙ ap (option_map suc) (place_behind n before later rest)

pub record AreBefore (x : Option Flat) (xs : Option (List Flat)) (items : List Flat) : Type 0 where
  pub item : Flat
  pub later : List Flat
  pub item_is : x ≡ Some item
  pub later_is : xs ≡ Some later
  pub is : item ∷ later ≡ items

pub before_by : (x : Option Flat) (xs : Option (List Flat)) (items : List Flat) → item_before x xs ≡ Some items → AreBefore x xs items
unfolding item_before
before_by (Some item) (Some later) items h = record { item = item; later = later; item_is = refl; later_is = refl; is = cc }
before_by (Some item) None items h = absurd (cc)
before_by None xs items h = absurd (cc)

-- what is said of the steps of a text and of what its file has, whatever statements its function has, if they have as many strings
pub record AreEmitted (v : Inventory) (b : Bases) (u : Text) (kind : ℕ → ℕ → Option Basic) (all : List Flat) (body : List CStmt) : Type 0 where
  pub differ : NamesDiffer v b
  pub variables : VariablesAreListed v u.facts b kind
  pub listed : AreListed v 0 u.steps
  pub stops : v.strings ≡ stops_from 0 u.steps
  pub emitted : flats_from (writing_of v b u.facts kind) u.position 0 u.steps ≡ Some all
  pub as_many : length (whole_body body).items.strings ≡ length v.strings

module _ (numbers : Routines) (objects : List ℕ → Option ℕ) (v : Inventory) (b : Bases) (u : Text) (kind : ℕ → ℕ → Option Basic) (all : List Flat) (body : List CStmt)
    (builtins : AreNumberedBuiltins numbers v b) (is : AreEmitted v b u kind all body) where
  scope : Scope
  scope = scope_in numbers objects v b body

  known : FileIsKnown numbers objects v b u.facts kind body
  known = main_files_are_known numbers objects v b u.facts kind body is.differ is.variables is.as_many

  -- the string of a step
  text_string : (i : ℕ) → i < length v.strings → (bytes : List ℕ) × (string_at v b (first_string v b + i) ≡ Some bytes)
  unfolding string_at
  text_string i less = (
    v.texts (unwrap_or (slice_get v.strings ((first_string v b + i) - first_string v b)) 0),
    taken (nat_le (first_string v b) (first_string v b + i) && nat_lt (first_string v b + i) (first_temporary v b)) (Some (v.texts (unwrap_or (slice_get v.strings ((first_string v b + i) - first_string v b)) 0))) None
        (both_true (nat_le (first_string v b) (first_string v b + i)) (nat_lt (first_string v b + i) (first_temporary v b)) (le-leb (first_string v b) (first_string v b + i) (omega arith))
        (lt-ltb (first_string v b + i) (first_temporary v b) (omega (arith, less)))),
  )
    where
      both_true : (s t : Bool) → s ≡ true → t ≡ true → s && t ≡ true
      both_true true t h k = k
      both_true false t h k = absurd (cc)

  -- a function of numbers
  function_known : (f : fortran.Function) → FunctionIsCalled v (library_function f) → CallsFunction scope (names_of v b) (writing_of v b u.facts kind) (library_function f)
  unfolding scope library_function
  function_known fortran.Power calls = known.calls calls.0 4 (codes "pow_ii") calls.1 refl (builtins (codes "pow_ii") 4 calls refl)
  function_known fortran.SignTransfer calls = known.calls calls.0 5 (codes "i_sign") calls.1 refl (builtins (codes "i_sign") 5 calls refl)
  function_known fortran.PositiveDifference calls = known.calls calls.0 6 (codes "i_dim") calls.1 refl (builtins (codes "i_dim") 6 calls refl)
  function_known fortran.InclusiveOr calls = known.calls calls.0 35 (codes "i_or") calls.1 refl (builtins (codes "i_or") 35 calls refl)
  function_known fortran.LogicalProduct calls = known.calls calls.0 36 (codes "i_and") calls.1 refl (builtins (codes "i_and") 36 calls refl)
  function_known fortran.ExclusiveOr calls = known.calls calls.0 37 (codes "i_eor") calls.1 refl (builtins (codes "i_eor") 37 calls refl)
  function_known fortran.BitComplement calls = known.calls calls.0 38 (codes "i_not") calls.1 refl (builtins (codes "i_not") 38 calls refl)
  function_known fortran.BitShift calls = known.calls calls.0 39 (codes "i_shft") calls.1 refl (builtins (codes "i_shft") 39 calls refl)
  function_known fortran.BitTest calls = known.calls calls.0 40 (codes "b_test") calls.1 refl (builtins (codes "b_test") 40 calls refl)
  function_known fortran.BitSet calls = known.calls calls.0 41 (codes "b_set") calls.1 refl (builtins (codes "b_set") 41 calls refl)
  function_known fortran.BitClear calls = known.calls calls.0 42 (codes "b_clr") calls.1 refl (builtins (codes "b_clr") 42 calls refl)
  function_known f calls = tt

  -- what each step asks for
  knows_step : (n : ℕ) (st : Step) → IsListed v n st → ((text : List ℕ) → st ≡ Halt text → (i : ℕ) × (i < length v.strings) × (place_of_string v n ≡ Some i)) → KnowsStep scope (names_of v b) (writing_of v b u.facts kind) n st
  unfolding scope
  knows_step n (Acts (Starts way layout controls) ps m) calls stop =
      (known.calls calls.0.0 14 (codes "s_wsle") calls.0.1 refl (builtins (codes "s_wsle") 14 calls.0 refl), known.lists n calls.1.0 calls.1.1)
  knows_step n (Acts Takes ps m) calls stop = known.calls calls.0 21 (codes "do_lio") calls.1 refl (builtins (codes "do_lio") 21 calls refl)
  knows_step n (Acts Finishes ps m) calls stop = known.calls calls.0 24 (codes "e_wsle") calls.1 refl (builtins (codes "e_wsle") 24 calls refl)
  knows_step n (Halt text) calls stop =
      let place = stop text refl in
      let string = text_string place.0 place.1 in (
        known.calls calls.0 11 (codes "s_stop") calls.1 refl (builtins (codes "s_stop") 11 calls refl),
        subst (λ p. KnowsArray scope ((names_of v b).object (first_string v b + place_or_none p)) (string_at v b (first_string v b + place_or_none p)) (first_string v b + place_or_none p) ToChar) (sym place.2)
            (subst (λ found. KnowsArray scope ((names_of v b).object (first_string v b + place.0)) found (first_string v b + place.0) ToChar) (sym string.1) refl),
      )
  knows_step n (Compute k f ps) calls stop = function_known f calls
  knows_step n st calls stop = tt

  writing : Writing
  writing = writing_of v b u.facts kind

  -- items of steps from a position on: known, and their strings numbered from one on, one for each STOP
  record AreNumberedItems (before : List ℕ) (n : ℕ) (steps : List Step) (items : List Flat) : Type 0 where
    knows : KnowsItems scope (names_of v b) items
    numbered : AreNumbered (first_string v b + length before) (strings_of_items (names_of v b) items)
    counted : length (strings_of_items (names_of v b) items) ≡ length (stops_from n steps)

  step_known : (n : ℕ) (before : List ℕ) (st : Step) (later : List Step) (item : Flat) (laters : List Flat) → v.strings ≡ before ++ stops_from n (st ∷ later) → AreBelow n before → IsListed v n st
      → flat_of (writing_of v b u.facts kind) (λ m. m) u.position n st ≡ Some item
      → ((more : List ℕ) → v.strings ≡ more ++ stops_from (suc n) later → AreBelow (suc n) more → AreNumberedItems more (suc n) later laters) → AreNumberedItems before n (st ∷ later) (item ∷ laters)
  unfolding scope stops_from strings_of_items strings_in written.string_at
  step_known n before (Halt text) later item laters strings below calls h rest =
      let place : place_of_string v n ≡ Some (length before) = ap (position (nat_eq n)) strings ∙ place_behind n before (stops_from (suc n) later) below in
      let counted = ap length strings ∙ length-append before (n ∷ stops_from (suc n) later) in
      let less : length before < length v.strings = omega (arith, counted) in
      let string = text_string (length before) less in
      let known_item = emitted_names_are_known scope (names_of v b) (writing_of v b u.facts kind) (λ m. m) u.position n (Halt text) item known.names (knows_step n (Halt text) calls (λ t same. (length before, less, place))) h in
      let r = rest (before ++ n ∷ []) (strings ∙ sym (append_assoc before (n ∷ []) (stops_from (suc n) later))) (below_both n before below) in
      let longer = length-append before (n ∷ []) in
      let next : first_string v b + length (before ++ n ∷ []) ≡ first_string v b + length before + 1 = omega (arith, longer) in
      let one : strings_of_item (names_of v b) item ≡ (first_string v b + length before) ∷ [] =
      known_item.strings ∙ ap (λ p. written.string_at (string_at v b (first_string v b + place_or_none p)) (first_string v b + place_or_none p)) place
      ∙ ap (λ found. written.string_at found (first_string v b + length before)) string.1 in
      record {
        knows = (known_item.knows, r.knows);
        numbered = subst (λ ks. AreNumbered (first_string v b + length before) (ks ++ strings_of_items (names_of v b) laters)) (sym one) (refl, subst (λ k. AreNumbered k (strings_of_items (names_of v b) laters)) next r.numbered);
        counted = (λ i. length (one i ++ strings_of_items (names_of v b) laters)) ∙ ap suc r.counted;
      }
  step_known n before st later item laters strings below calls h rest =
      let known_item = emitted_names_are_known scope (names_of v b) (writing_of v b u.facts kind) (λ m. m) u.position n st item known.names (knows_step n st calls (λ t same. absurd (cc))) h in
      let r = rest before strings (below_next n before below) in
      record {
        knows = (known_item.knows, r.knows);
        numbered = subst (λ ks. AreNumbered (first_string v b + length before) (ks ++ strings_of_items (names_of v b) laters)) (sym known_item.strings) r.numbered;
        counted = (λ i. length (known_item.strings i ++ strings_of_items (names_of v b) laters)) ∙ r.counted;
      }

  items_known : (n : ℕ) (before : List ℕ) (steps : List Step) (items : List Flat) → v.strings ≡ before ++ stops_from n steps → AreBelow n before → AreListed v n steps
      → flats_from (writing_of v b u.facts kind) u.position n steps ≡ Some items → AreNumberedItems before n steps items
  unfolding flats_from strings_of_items stops_from
  items_known n before [] items strings below listed h = subst (AreNumberedItems before n []) (some_same [] items h) (record { knows = tt; numbered = tt; counted = refl })
  items_known n before (st ∷ later) items strings below listed h =
      let m = before_by (flat_of (writing_of v b u.facts kind) (λ k. k) u.position n st) (flats_from (writing_of v b u.facts kind) u.position (suc n) later) items h in
      subst (AreNumberedItems before n (st ∷ later)) m.is
      (step_known n before st later m.item m.later strings below listed.0 m.item_is (λ more again further. items_known (suc n) more later m.later again further listed.1 m.later_is))

  -- all items are known, and their strings are those of the file
  pub record AreAllKnown : Type 0 where
    pub knows : KnowsItems (scope_in numbers objects v b body) (names_of v b) all
    pub numbered : AreNumbered (first_string v b) (strings_of_items (names_of v b) all)
    pub counted : length (strings_of_items (names_of v b) all) ≡ length v.strings

  pub all_known : AreAllKnown
  unfolding scope
  all_known =
      let every = items_known 0 [] u.steps all is.stops none_below is.listed is.emitted in
      let none : first_string v b + 0 ≡ first_string v b = omega arith in
      record {
        knows = every.knows;
        numbered = subst (λ k. AreNumbered k (strings_of_items (names_of v b) all)) none every.numbered;
        counted = every.counted ∙ ap length (sym is.stops);
      }

pub mains_have_their_items : MainsHaveTheirItems
mains_have_their_items numbers objects own v b u kind o items body builtins is =
    let all = all_known numbers objects v b u kind items body builtins (record { differ = is.differ; variables = is.variables; listed = is.listed; stops = is.stops; emitted = is.emitted; as_many = is.as_many }) in
    let kept = statics_count v in
    let passed = ap length (no_strings v) in
    let there : first_string v b ≡ linked.first_string b.function (main_function v body) + length (strings_of (linked.statics (main_function v body))) = omega (arith, kept, passed) in
    code_is_theirs numbers own (file_scope numbers objects b.file (main_file v body)) b.function (main_function v body) o items is.built (subst (λ ns. KnowsItems (scope_in numbers objects v b body) ns items) (sym is.names) all.knows)
    (subst (λ ns. AreNumbered (linked.first_string b.function (main_function v body) + length (strings_of (linked.statics (main_function v body)))) (strings_of_items ns items)) (sym is.names)
    (subst (λ k. AreNumbered k (strings_of_items (names_of v b) items)) there all.numbered))
