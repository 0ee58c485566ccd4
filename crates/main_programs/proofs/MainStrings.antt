-- The strings of a main program, and the texts of its stops.
use Rattle.std.specs.Prelude.{◌≡◌, ℕ, zero, suc, ◌+◌, ◌-◌, ◌<◌, nat_eq, nat_le, nat_lt, Bool, true, false, ◌&&◌, List, [], ◌∷◌, ◌++◌, map, length, take, position, Option, Some, None, option_map, unwrap_or, slice_get}
use Rattle.std.proofs.Common.{refl, sym, ap, ◌∙◌, subst, arith}
use Rattle.std.proofs.lemmas.Bool.{and_from, eq-eqb, eqb-true, lt-ltb, le-leb}
use Rattle.main_file_laws.specs.f_tree.declared.names.Basic.{Basic}
use Rattle.main_file_laws.specs.f_tree.Values.{Bytes}
use Rattle.main_file_laws.specs.l_core.Steps.{Step, Halt, Text}
use Rattle.main_file_laws.specs.c_tree.declared.statement.CStmt.{CStmt}
use Rattle.main_file_laws.specs.c_tree.Flat.{Flat}
use Rattle.main_file_laws.specs.c_tree.FlatForm.{whole_body}
use Rattle.main_file_laws.specs.c_tree.Linking.{Routines, file_scope}
use Rattle.main_file_laws.specs.c_structure.Expressions.{Names}
use Rattle.main_file_laws.specs.c_structure.Statements.{Outline, strings_of_items}
use Rattle.main_file_laws.specs.c_structure_laws.Fitting.{KnowsItems, AreNumbered, AreBytesOf}
use Rattle.main_file_laws.proofs.linking_laws.Places.{some_same, map_at, within, some_at, position_step, taken, skipped}
use Rattle.main_file_laws.proofs.linking_laws.BuiltCode.{strings_are_theirs}
use Rattle.main_file_laws.specs.main_file.MainFile.{Inventory, Bases, main_function, main_file, first_string, first_temporary, place_of_string, names_of, string_at}
use Rattle.main_file_laws.specs.main_file.MainItems.{stops_from}
use Rattle.main_file_laws.specs.BuiltMain.{IsMainBuilt, AreNumberedBuiltins}
use Rattle.main_file_laws.specs.KnownFile.{scope_in}
use Rattle.main_file_laws.proofs.BuiltItems.{all_known}
use Rattle.main_file_laws.proofs.Known.{position_finds}
use Rattle.main_programs.proofs.MainStorage.{map_back}

-- ## Lists

pub front_is : (xs ys : List ℕ) → take (length xs) (map Some (xs ++ ys)) ≡ map Some xs
front_is [] ys = refl
front_is (x ∷ xs) ys = ap (λ zs. Some x ∷ zs) (front_is xs ys)

-- what passes has a place
has_place : {A : Type 0} (test : A → Bool) (xs : List A) (j : ℕ) (x : A) → slice_get xs j ≡ Some x → test x ≡ true → (i : ℕ) × (position test xs ≡ Some i)
has_place test [] j x at passes = absurd (cc)
has_place test (y ∷ xs) zero x at passes =
    (0, position_step test y xs ∙ taken (test y) (Some 0) (option_map suc (position test xs)) (ap test (some_same y x at) ∙ passes))
has_place test (y ∷ xs) (suc j) x at passes = by (test y) refl (has_place test xs j x at passes)
  where
    by : (t : Bool) → test y ≡ t → (i : ℕ) × (position test xs ≡ Some i) → (i : ℕ) × (position test (y ∷ xs) ≡ Some i)
    by true is later = (0, position_step test y xs ∙ taken (test y) (Some 0) (option_map suc (position test xs)) is)
    by false is later = (suc later.0, position_step test y xs ∙ skipped (test y) (Some 0) (option_map suc (position test xs)) is ∙ ap (option_map suc) later.1)

-- ## Stops

-- a stop is listed among those that pass a string
stop_listed : (n i k : ℕ) (steps : List Step) (text : Bytes) → k ≡ n + i → slice_get steps i ≡ Some (Halt text) → (j : ℕ) × (slice_get (stops_from n steps) j ≡ Some k)
unfolding stops_from
stop_listed n i k [] text there at = absurd (cc)
stop_listed n zero k (st ∷ later) text there at = subst (λ s. (j : ℕ) × (slice_get (stops_from n (s ∷ later)) j ≡ Some k)) (sym (some_same st (Halt text) at)) (0, ap Some {x = n} {y = k} (omega (arith, there)))
stop_listed n (suc i) k (st ∷ later) text there at = passed st (stop_listed (suc n) i k later text (omega (arith, there)) at)
  where
    passed : (st : Step) → (j : ℕ) × (slice_get (stops_from (suc n) later) j ≡ Some k) → (j : ℕ) × (slice_get (stops_from n (st ∷ later)) j ≡ Some k)
    passed (Halt other) found = (suc found.0, found.1)
    passed st found = found

-- where the string of a stop stands
pub record IsStringOf (v : Inventory) (n : ℕ) : Type 0 where
  pub place : ℕ
  pub placed : place_of_string v n ≡ Some place
  pub at : slice_get v.strings place ≡ Some n

pub string_of : (v : Inventory) (steps : List Step) (n : ℕ) (text : Bytes) → v.strings ≡ stops_from 0 steps → slice_get steps n ≡ Some (Halt text) → IsStringOf v n
string_of v steps n text stops at =
    let listed = stop_listed 0 n n steps text (omega arith) at in
    let found = has_place (nat_eq n) v.strings listed.0 n (ap (λ ns. slice_get ns listed.0) stops ∙ listed.1) (eq-eqb n n refl) in
    let passes = position_finds (nat_eq n) v.strings found.0 found.1 in
    record { place = found.0; placed = found.1; at = passes.at ∙ ap Some (sym (eqb-true n passes.one passes.passes)) }

-- ## The strings of the statements

numbered_at : (first : ℕ) (ks : List ℕ) (i k : ℕ) → AreNumbered first ks → slice_get ks i ≡ Some k → k ≡ first + i
numbered_at first [] i k numbered at = absurd (cc)
numbered_at first (m ∷ ks) zero k numbered at = let same : m ≡ k = some_same m k at in let is = numbered.0 in omega (arith, same, is)
numbered_at first (m ∷ ks) (suc i) k numbered at = let later = numbered_at (first + 1) ks i k numbered.1 at in omega (arith, later)

-- the bytes of the string with a number
bytes_of_string : (v : Inventory) (b : Bases) (i n : ℕ) → slice_get v.strings i ≡ Some n → string_at v b (first_string v b + i) ≡ Some (v.texts n)
unfolding string_at
bytes_of_string v b i n at =
    let less = within v.strings i n at in
    taken (nat_le (first_string v b) (first_string v b + i) && nat_lt (first_string v b + i) (first_temporary v b)) (Some (v.texts (unwrap_or (slice_get v.strings ((first_string v b + i) - first_string v b)) 0))) None
    (and_from (nat_le (first_string v b) (first_string v b + i)) (nat_lt (first_string v b + i) (first_temporary v b)) (le-leb (first_string v b) (first_string v b + i) (omega arith))
    (lt-ltb (first_string v b + i) (first_temporary v b) (omega (arith, less))))
    ∙ ap (λ k. Some (v.texts (unwrap_or (slice_get v.strings k) 0))) {x = (first_string v b + i) - first_string v b} {y = i} (omega arith) ∙ ap (λ found. Some (v.texts (unwrap_or found 0))) at

-- strings are the bytes of their numbers
string_by : (names : Names) (strings : List (List ℕ)) (ks : List ℕ) (first i : ℕ) (bytes : List ℕ) → AreBytesOf names strings ks → AreNumbered first ks → i < length strings → names.string (first + i) ≡ Some bytes
    → slice_get strings i ≡ Some bytes
string_by names strings ks first i bytes same numbered below is =
    let one = some_at strings i below in
    let drawn : slice_get (map names.string ks) i ≡ Some (Some one.0) = ap (λ found. slice_get found i) (sym same) ∙ map_at Some strings i one.0 one.1 in
    let back = map_back names.string ks i (Some one.0) drawn in
    let there = numbered_at first ks i back.0 numbered back.1 in
    one.1 ∙ sym back.2 ∙ ap names.string there ∙ is

pub strings_stand : (numbers : Routines) (objects : List ℕ → Option ℕ) (v : Inventory) (b : Bases) (u : Text) (kind : ℕ → ℕ → Option Basic) (o : Outline) (items : List Flat) (body : List CStmt) → AreNumberedBuiltins numbers v b
    → IsMainBuilt v b u kind o items body → (i n : ℕ) → slice_get v.strings i ≡ Some n → slice_get (whole_body body).items.strings i ≡ Some (v.texts n)
strings_stand numbers objects v b u kind o items body builtins is i n at =
    let known = all_known numbers objects v b u kind items body builtins (record { differ = is.differ; variables = is.variables; listed = is.listed; stops = is.stops; emitted = is.emitted; as_many = is.as_many }) in
    let theirs = strings_are_theirs numbers (file_scope numbers objects b.file (main_file v body)) b.function (main_function v body) o items is.built (subst (λ ns. KnowsItems (scope_in numbers objects v b body) ns items) (sym is.names) known.knows) in
    let less = within v.strings i n at in
    let many = is.as_many in
    string_by (names_of v b) (whole_body body).items.strings (strings_of_items (names_of v b) items) (first_string v b) i (v.texts n)
    (subst (λ ns. AreBytesOf ns (whole_body body).items.strings (strings_of_items ns items)) is.names theirs) known.numbered (omega (arith, less, many)) (bytes_of_string v b i n at)
