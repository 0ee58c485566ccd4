-- The dummy arguments of a definition, one after the other.
use Rattle.std.specs.Prelude.{◌≡◌, ℕ, suc, Bool, true, false, not, ◌||◌, List, [], ◌∷◌, ◌++◌, bytes_eq, Option, Some, None, if◌then◌else◌}
use Rattle.std.specs.Borrow.{Bor}
use Rattle.std.proofs.Common.{◌+◌, ◌-◌, ◌<◌, ◌≤◌, drop, drop-cons, get_or, length, refl, sym, ap, ◌∙◌, arith}
use Rattle.std.proofs.lemmas.List.{drop_all}
use Rattle.f_tree.specs.declared.names.Basic.{Basic}
use Rattle.f_tree.specs.declared.refusals.Kind.{Kind}
use Rattle.f_tree.specs.declared.refusals.Kind.TheVariants.{NameHasTypeReal, BadStatementFunction}
use Rattle.f_tree.specs.declared.units.Unit.{Unit as WrittenUnit}
use Rattle.f_tree.specs.Values.{Bytes}
use Rattle.f_tree.specs.Lines.{Naming}
use Rattle.f_tree.specs.Uses.{is_among}
use Rattle.f_tree.specs.Attributes.{typed_name, without_expansion, with_dimensions, with_class, Typed}
use Rattle.declaration_rows.specs.Judgement.{unless}
use Rattle.declaration_rows.specs.NameRows.{own_attributes, dummies_rows}
use Rattle.declaration_rows.specs.StatementRows.{is_typed}
use Rattle.kind_order.specs.Unless.{unless_least}
use Rattle.kind_order.proofs.LeastLemmas.{three-least, least-unless}
use Rattle.refusal_order.specs.Earliest.{least as lesser, least_of}
use Rattle.refusal_order.proofs.FirstOfBoth.{least_along}
use Rattle.name_table.specs.Named.{texts}
use Rattle.name_table.specs.declared.name_set.NameSet.{NameSet}
use Rattle.name_table.specs.Named.{names_in}
use Rattle.name_table.proofs.SetLemmas.{among_both}
use Rattle.declared_types.specs.declared.types.DeclaredType.{DeclaredType}
use Rattle.declared_types.specs.TypeTables.{typed_of}
use Rattle.definition_judge.specs.KnownFunctions.{bound_basic, dummy_found}
use Rattle.definition_judge.proofs.TableLemmas.{no_name, among_step, among_none}

-- the type of a name of its own
own_is : (u : WrittenUnit) (x : Bytes) → (typed_name u x).basic ≡ (own_attributes u x).basic
unfolding own_attributes without_expansion with_dimensions with_class
own_is u x = refl

typed_basic : (d : DeclaredType) → d.basic ≡ (typed_of d).basic
unfolding typed_of
typed_basic d = refl

pub basic_is : (u : WrittenUnit) (x : Bytes) (d : DeclaredType) → typed_of d ≡ typed_name u x → d.basic ≡ (own_attributes u x).basic
basic_is u x d is = typed_basic d ∙ ap (λ (t : Typed). t.basic) is ∙ own_is u x

-- THE TABLE of dummy arguments
pub bound_start : (own : Naming) (ds : List Bytes) (x : Bytes) (old : Option Basic) → old ≡ None → bound_basic own ds x ≡ (if is_among x ds then Some (own x).basic else old)
unfolding bound_basic
bound_start own ds x old none = ap (λ o. if is_among x ds then Some (own x).basic else o) (sym none)

-- THE ROWS of dummy arguments, from the last one on
pub rows_none : (own : Naming) → None ≡ least_of (dummies_rows own [])
unfolding dummies_rows least_of
rows_none own = refl

rows_step : (own : Naming) (x : Bytes) (xs : List Bytes) → dummies_rows own (x ∷ xs) ≡ unless (is_typed (own x).basic) NameHasTypeReal ++ (unless (not (is_among x xs)) BadStatementFunction ++ dummies_rows own xs)
unfolding dummies_rows
rows_step own x xs = refl

rows_more : (own : Naming) (x : Bytes) (xs : List Bytes) (fault : Option Kind) → fault ≡ least_of (dummies_rows own xs)
    → lesser (dummy_found (own x).basic (is_among x xs)) fault ≡ least_of (dummies_rows own (x ∷ xs))
unfolding dummy_found
rows_more own x xs fault is =
    least_along (unless_least (is_typed (own x).basic) NameHasTypeReal) (unless_least (not (is_among x xs)) BadStatementFunction) fault
    ∙ sym (ap least_of (rows_step own x xs)
    ∙ three-least (unless (is_typed (own x).basic) NameHasTypeReal) (unless (not (is_among x xs)) BadStatementFunction) (dummies_rows own xs)
    (unless_least (is_typed (own x).basic) NameHasTypeReal) (unless_least (not (is_among x xs)) BadStatementFunction) fault
    (least-unless (is_typed (own x).basic) NameHasTypeReal) (least-unless (not (is_among x xs)) BadStatementFunction) (sym is))

back_by : {X : Type 0} (xs : List X) (i j k : ℕ) (d : X) → k < length xs → i ≡ k → j ≡ suc k → drop i xs ≡ get_or xs k d ∷ drop j xs
back_by xs i j k d h is next = ap (λ n. drop n xs) is ∙ drop-cons xs k d h ∙ ap (λ n. get_or xs k d ∷ drop n xs) (sym next)

back : {X : Type 0} (xs : List X) (behind : ℕ) (d : X) → behind < length xs → drop (length xs - (behind + 1)) xs ≡ get_or xs (length xs - 1 - behind) d ∷ drop (length xs - behind) xs
back xs behind d h =
    back_by xs (length xs - (behind + 1)) (length xs - behind) (length xs - 1 - behind) d (let e : length xs - 1 - behind < length xs = omega arith in e)
    (let e : length xs - (behind + 1) ≡ length xs - 1 - behind = omega arith in e) (let e : length xs - behind ≡ suc (length xs - 1 - behind) = omega arith in e)

pub back_rows : (own : Naming) (ds : List (Bor (List ℕ))) (behind : ℕ) (basic : Basic) (again : Bool) (fault here : Option Kind) → behind < length ds
    → fault ≡ least_of (dummies_rows own (texts (drop (length ds - behind) ds))) → basic ≡ (own (get_or ds (length ds - 1 - behind) no_name).now).basic
    → again ≡ is_among (get_or ds (length ds - 1 - behind) no_name).now (texts (drop (length ds - behind) ds)) → here ≡ dummy_found basic again
    → lesser here fault ≡ least_of (dummies_rows own (texts (drop (length ds - (behind + 1)) ds)))
back_rows own ds behind basic again fault here h so_far typed among found =
    let x = (get_or ds (length ds - 1 - behind) no_name).now in
    let rest = texts (drop (length ds - behind) ds) in
    ap (λ o. lesser o fault) (found ∙ ap (λ b. dummy_found b again) typed ∙ ap (dummy_found (own x).basic) among) ∙ rows_more own x rest fault so_far
    ∙ ap (λ (rs : List (Bor (List ℕ))). least_of (dummies_rows own (texts rs))) (sym (back ds behind no_name h))

or_none : (b : Bool) → (b || false) ≡ b
or_none true = refl
or_none false = refl

or_swapped : (a b : Bool) → (a || b) ≡ (b || a)
or_swapped true true = refl
or_swapped true false = refl
or_swapped false true = refl
or_swapped false false = refl

pub back_names : (ds : List (Bor (List ℕ))) (behind : ℕ) (old new : NameSet) (q : Bytes) → behind < length ds → is_among q (names_in old) ≡ is_among q (texts (drop (length ds - behind) ds))
    → names_in new ≡ names_in old ++ (get_or ds (length ds - 1 - behind) no_name).now ∷ [] → is_among q (names_in new) ≡ is_among q (texts (drop (length ds - (behind + 1)) ds))
back_names ds behind old new q h so_far put =
    let x = (get_or ds (length ds - 1 - behind) no_name).now in
    let rest = texts (drop (length ds - behind) ds) in
    ap (is_among q) put ∙ among_both q (names_in old) (x ∷ []) ∙ or_swapped (is_among q (names_in old)) (is_among q (x ∷ []))
    ∙ ap (λ b. b || is_among q (names_in old)) (among_step q x [] ∙ ap (λ b. bytes_eq q x || b) (among_none q) ∙ or_none (bytes_eq q x)) ∙ ap (λ b. bytes_eq q x || b) so_far
    ∙ sym (among_step q x rest) ∙ ap (λ (rs : List (Bor (List ℕ))). is_among q (texts rs)) (sym (back ds behind no_name h))

pub start_drop : {X : Type 0} (xs : List X) → drop (length xs - 0) xs ≡ []
start_drop xs = drop_all (length xs - 0) xs (omega arith)

pub all_drop : {X : Type 0} (xs : List X) (behind : ℕ) → length xs ≤ behind → drop (length xs - behind) xs ≡ xs
all_drop xs behind h = ap (λ n. drop n xs) (let e : length xs - behind ≡ 0 = omega arith in e)
