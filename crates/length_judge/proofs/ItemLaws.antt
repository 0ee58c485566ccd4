-- The sizes of items past the greatest are told all the same where larger numbers are counted as one more than that, and the rows of one name.
use Rattle.std.specs.Prelude.{◌≡◌, ℕ, suc, ◌+◌, ◌-◌, ◌*◌, ◌^◌, min, nat_lt, Bool, true, false, not, ◌&&◌, ◌||◌, List, [], ◌∷◌, ◌++◌, map, Option, Some, None, if◌then◌else◌}
use Rattle.std.proofs.Common.{◌<◌, ◌≤◌, inl, inr, zero, lit<, refl, sym, ap, subst, ◌∙◌, arith}
use Rattle.std.proofs.lemmas.Bool.{ltb-true, lt-ltb, cases_lt}
use Rattle.std.proofs.lemmas.List.{append-nil, map-append}
use Rattle.f_tree.specs.declared.names.Class.{Class}
use Rattle.f_tree.specs.declared.names.Class.TheVariants as class
use Rattle.f_tree.specs.declared.refusals.Kind.{Kind}
use Rattle.f_tree.specs.declared.refusals.Kind.TheVariants.{UseOfAssumedLength, StorageTooLarge}
use Rattle.f_tree.specs.declared.refusals.Refusal.{Refusal}
use Rattle.f_tree.specs.declared.statements.Body.{Body}
use Rattle.f_tree.specs.declared.statements.Stmt.{Stmt}
use Rattle.f_tree.specs.declared.units.Unit.{Unit as WrittenUnit}
use Rattle.f_tree.specs.Values.{Bytes}
use Rattle.f_tree.specs.Facts.{Bounds, Attribute}
use Rattle.f_tree.specs.Lines.{is_character, size_by, size_of}
use Rattle.f_tree.specs.Uses.{is_among}
use Rattle.f_tree.specs.Valuing.{elements_of, extent_of, size_of_dimension}
use Rattle.f_tree.specs.Attributes.{typed_name, own_names, all_dummies}
use Rattle.declaration_rows.specs.Judgement.{unless}
use Rattle.declaration_rows.specs.LengthRows as rows
use Rattle.declaration_rows.specs.LengthRows.{declared_width, item_rows}
use Rattle.declaration_rows.specs.NameRows.{given_names, at_first, mentions, first_statements, is_star, stood}
use Rattle.declaration_rows.specs.SharedStorageRows.{most_storage}
use Rattle.name_classes.specs.declared.signs.Signs.{Signs}
use Rattle.name_classes.specs.KnownSigns.{AreSigns}
use Rattle.name_classes.proofs.SignLemmas.{own_listed, dummy_listed}
use Rattle.name_facts.specs.declared.fact.Bound.{Bound}
use Rattle.name_facts.specs.declared.fact.NameFact.{NameFact}
use Rattle.name_facts.specs.declared.table.NameFacts.{NameFacts}
use Rattle.name_facts.specs.Dimensions.{elements_in}
use Rattle.name_facts.proofs.ElementLaws.{extent_elements}
use Rattle.name_facts.specs.GivenFacts.{bounds_of, IsNameFact, AreNameFacts, fact_in, fact_or, no_fact}
use Rattle.name_places.specs.declared.place.Place.{Place}
use Rattle.name_places.specs.FirstPlaces.{rows_at}
use Rattle.name_table.specs.Named.{names_in}
use Rattle.name_table.proofs.SetLemmas.{among_both}
use Rattle.name_table.proofs.Texts.{same_tests}
use Rattle.length_judge.specs.ItemsSeen.{capped, capped_elements, is_large, is_large_array, is_large_width, is_large_fact, is_external_star, rows_of, item_row}

-- NUMBERS
at_most : (n c : ℕ) → n ≤ c → min n c ≡ n
at_most n c h = omega arith

past : (n c : ℕ) → c < n → min n c ≡ c
past n c h = omega arith

more_times : (c n a : ℕ) → c < n → min (a * c) c ≡ min (a * n) c
more_times c n zero h = let one : zero * c ≡ 0 = omega arith in let other : zero * n ≡ 0 = omega arith in omega arith
more_times c n (suc k) h = let one : suc k * c ≡ c + k * c = omega arith in let other : suc k * n ≡ n + k * n = omega arith in omega arith

times_by : (c a n : ℕ) → min (a * min n c) c ≡ min (a * n) c
times_by c a n = elim (cases_lt c n) [
  | inl h ↦ ap (λ m. min (a * m) c) (past n c h) ∙ more_times c n a h
  | inr h ↦ ap (λ m. min (a * m) c) (at_most n c h)
]

times_capped : (a n : ℕ) → capped (a * capped n) ≡ capped (a * n)
unfolding capped
times_capped a n = times_by 67108865 a n

large_times : (m n w : ℕ) → m < n → nat_lt m (suc m * w) ≡ nat_lt m (n * w)
large_times m n zero h = let one : suc m * zero ≡ 0 = omega arith in let other : n * zero ≡ 0 = omega arith in ap (nat_lt m) (one ∙ sym other)
large_times m n (suc k) h =
    let one : m < suc m * suc k = omega arith in
    let other : m < n * suc k = omega arith in
    lt-ltb m (suc m * suc k) one ∙ sym (lt-ltb m (n * suc k) other)

large_by : (m n w : ℕ) → nat_lt m (min n (suc m) * w) ≡ nat_lt m (n * w)
large_by m n w = elim (cases_lt (suc m) n) [
  | inl h ↦ ap (λ x. nat_lt m (x * w)) (past n (suc m) h) ∙ large_times m n w (omega arith)
  | inr h ↦ ap (λ x. nat_lt m (x * w)) (at_most n (suc m) h)
]

pub large_capped : (n w : ℕ) → is_large (capped n * w) ≡ is_large (n * w)
unfolding is_large most_storage capped
large_capped n w = large_by 67108864 n w

pub saturated_by : (m x b : ℕ) → m < b → nat_lt m (min x b) ≡ nat_lt m x
saturated_by m x b h = same_tests (nat_lt m (min x b)) (nat_lt m x)
    (λ is. let less : m < min x b = ltb-true m (min x b) is in lt-ltb m x (omega arith))
    (λ is. let less : m < x = ltb-true m x is in lt-ltb m (min x b) (omega arith))

-- ELEMENTS
one_capped : 1 ≡ capped 1
unfolding capped
one_capped = refl

capped_are : (bs : List Bound) → capped_elements bs ≡ capped (elements_in bs)
unfolding capped_elements elements_in
capped_are [] = one_capped
capped_are (b ∷ bs) = let size = size_of_dimension (bounds_of b) in ap (λ n. capped (size * n)) (capped_are bs) ∙ times_capped size (elements_in bs)

nothing_large : false ≡ nat_lt most_storage 0
unfolding most_storage
nothing_large = refl

array_large : (bs : List Bound) (width : Option ℕ) (a : Attribute) → map bounds_of bs ≡ a.bounds → is_large_array bs width ≡ nat_lt most_storage (size_by a width)
unfolding is_large_array size_by is_large
array_large bs None a is = nothing_large
array_large bs (Some w) a is =
    ap (λ n. nat_lt most_storage (n * w)) (capped_are bs) ∙ large_capped (elements_in bs) w
    ∙ ap (nat_lt most_storage) (sym (extent_elements bs w) ∙ ap (λ (cs : List Bounds). extent_of (elements_of cs) w) is)

-- ONE NAME by its class
large_class : (bs : List Bound) (a : Attribute) (k : Class) → map bounds_of bs ≡ a.bounds →
    (elim k [ class.Stored ↦ is_large_array bs a.width | _ ↦ is_character a.basic && is_large_width a.width ]) ≡ rows.is_large_item (record a { class = k })
unfolding rows.is_large_item is_large_width is_large size_of size_by
large_class bs a class.Stored is = array_large bs a.width a is
large_class bs a _ is = refl

pub large_known : (a : Attribute) (f : NameFact) → IsNameFact a f → is_large_fact f ≡ rows.is_large_item a
unfolding is_large_fact
large_known a f is =
    (λ i. elim (is.class i) [ class.Stored ↦ is_large_array f.bounds (is.width i) | _ ↦ is_character (is.basic i) && is_large_width (is.width i) ])
    ∙ large_class f.bounds a a.class is.bounds

pub star_known : (u : WrittenUnit) (x : Bytes) (a : Attribute) (f : NameFact) → IsNameFact a f → is_external_star u x f ≡ rows.is_external_star u x a
unfolding is_external_star rows.is_external_star
star_known u x a f is = λ i. elim (is.class i) [
  | class.Procedure ↦ is_character (is.basic i) && is_star (typed_name u x).length
  | class.StatementFunction ↦ is_character (is.basic i) && is_star (typed_name u x).length
  | _ ↦ false
]

-- ROWS
rows_both : (place : Place) (ks ls : List Kind) → rows_at place (ks ++ ls) ≡ rows_at place ks ++ rows_at place ls
unfolding rows_at
rows_both place ks ls = map-append (λ (k : Kind). record { file = place.file; card = place.card; kind = k }) ks ls

pub rows_placed : (u : WrittenUnit) (x : Bytes) (place : Place) (star large : Bool) →
    ((kinds : List Kind) → at_first u (mentions u x) (first_statements u x) kinds ≡ rows_at place kinds) →
    rows_at place (unless (not star) UseOfAssumedLength) ++ rows_at place (unless (not large) StorageTooLarge) ≡ rows_of u x star large
unfolding rows_of
rows_placed u x place star large at =
    sym (at (unless (not star) UseOfAssumedLength ++ unless (not large) StorageTooLarge) ∙ rows_both place (unless (not star) UseOfAssumedLength) (unless (not large) StorageTooLarge))

pub row_known : (u : WrittenUnit) (x : Bytes) (f : NameFact) (star large : Bool) → IsNameFact (given_names u x) f → star ≡ is_external_star u x f → large ≡ is_large_fact f
    → rows_of u x star large ≡ item_row u x
unfolding item_row
row_known u x f star large is one other =
    λ i. rows_of u x ((one ∙ star_known u x (given_names u x) f is) i) ((other ∙ large_known (given_names u x) f is) i)

-- a name that the table has, and one that it does not have
pub fact_there : (u : WrittenUnit) (table : NameFacts) (x : Bytes) (f : NameFact) → AreNameFacts u table → fact_or (Some f) ≡ fact_in table x → IsNameFact (given_names u x) f
unfolding fact_or
fact_there u table x f are is = subst (IsNameFact (given_names u x)) (sym is) (are.facts x)

no_kinds_by : (u : WrittenUnit) (test : Body → Bool) (s : Stmt) (ss : List Stmt) (b : Bool) → at_first u test ss [] ≡ [] → (if b then stood s [] else at_first u test ss []) ≡ []
unfolding stood
no_kinds_by u test s ss true later = refl
no_kinds_by u test s ss false later = later

no_kinds : (u : WrittenUnit) (test : Body → Bool) (ss : List Stmt) → at_first u test ss [] ≡ []
unfolding at_first
no_kinds u test [] = refl
no_kinds u test (s ∷ ss) = no_kinds_by u test s ss (test s.body) (no_kinds u test ss)

no_row : (u : WrittenUnit) (x : Bytes) → rows_of u x false false ≡ []
unfolding rows_of unless
no_row u x = no_kinds u (mentions u x) (first_statements u x)

no_star : (u : WrittenUnit) (x : Bytes) → false ≡ is_external_star u x no_fact
unfolding is_external_star no_fact
no_star u x = refl

not_large : false ≡ is_large_fact no_fact
unfolding is_large_fact no_fact is_character
not_large = refl

pub row_missing : (u : WrittenUnit) (table : NameFacts) (x : Bytes) (found : List Refusal) → AreNameFacts u table → fact_or None ≡ fact_in table x → found ≡ found ++ item_row u x
unfolding fact_or
row_missing u table x found are is =
    sym (ap (λ rs. found ++ rs) (sym (row_known u x no_fact false false (subst (IsNameFact (given_names u x)) (sym is) (are.facts x)) (no_star u x) not_large) ∙ no_row u x) ∙ append-nil found)

pub items_step : (u : WrittenUnit) (x : Bytes) (xs : List Bytes) → item_rows u (x ∷ xs) ≡ item_row u x ++ item_rows u xs
unfolding item_rows item_row rows_of
items_step u x xs = refl

pub items_end : (u : WrittenUnit) → item_rows u [] ≡ []
unfolding item_rows
items_end u = refl

-- THE NAMES that stand in the first statement of a unit or of an entry
there : (a b : Bool) → a ≡ true → true ≡ (a || b)
there true b is = refl
there false b is = absurd (cc)

other : (a b c : Bool) → a ≡ false → c ≡ b → c ≡ (a || b)
other false b c is same = same
other true b c is same = absurd (cc)

pub own_there : (u : WrittenUnit) (signs : Signs) (x : Bytes) (b : Bool) → AreSigns u signs → b ≡ is_among x (names_in signs.entries.own_names) → b ≡ true
    → true ≡ is_among x (own_names u ++ all_dummies u)
own_there u signs x b known is so =
    there (is_among x (own_names u)) (is_among x (all_dummies u)) (sym (own_listed u signs x known) ∙ sym is ∙ so) ∙ sym (among_both x (own_names u) (all_dummies u))

pub dummy_there : (u : WrittenUnit) (signs : Signs) (x : Bytes) (b c : Bool) → AreSigns u signs → b ≡ is_among x (names_in signs.entries.own_names) → b ≡ false
    → c ≡ is_among x (names_in signs.entries.dummies) → c ≡ is_among x (own_names u ++ all_dummies u)
dummy_there u signs x b c known is so same =
    other (is_among x (own_names u)) (is_among x (all_dummies u)) c (sym (own_listed u signs x known) ∙ sym is ∙ so) (same ∙ dummy_listed u signs x known)
    ∙ sym (among_both x (own_names u) (all_dummies u))

-- a product that does not fit 64 bits is past the greatest size too
pub saturated_large : {r : Bool} (product whole : ℕ) → r ≡ nat_lt most_storage product → product ≡ min whole (2 ^ 64 - 1) → r ≡ is_large whole
unfolding is_large most_storage
saturated_large product whole is saturated = is ∙ ap (nat_lt 67108864) saturated ∙ saturated_by 67108864 whole (2 ^ 64 - 1) (lit< tt)
