-- A unit keeps at most two bounds for each dimension that its statements write.
use Rattle.std.specs.List.{list_any, flat_map}
use Rattle.std.specs.Prelude.{◌≡◌, ℕ, suc, ◌+◌, ◌*◌, ◌≤◌, Bool, true, false, not, ◌&&◌, ◌||◌, List, [], ◌∷◌, ◌++◌, map, length, Option, Some, None, option_and_then, bytes_eq, if◌then◌else◌}
use Rattle.std.proofs.Common.{refl, sym, ap, subst, arith}
use Rattle.std.proofs.lemmas.Bool.{and_parts}
use Rattle.std.proofs.lemmas.List.{length-append, length-map}
use Rattle.std.proofs.lemmas.List.Concat.{flat_map-cons}
use Rattle.std.proofs.lemmas.Slice.Eq.{bytes_eq-Decides}
use Rattle.translated_files.specs.f_tree.declared.names.Options.{Options}
use Rattle.translated_files.specs.f_tree.declared.statements.ArrayDeclarator.{ArrayDeclarator}
use Rattle.translated_files.specs.f_tree.declared.statements.Body as whole
use Rattle.translated_files.specs.f_tree.declared.statements.Body.{Body, IfOne', more_of-Body}
use Rattle.translated_files.specs.f_tree.declared.statements.CommonGroup.{CommonGroup}
use Rattle.translated_files.specs.f_tree.declared.statements.Declarator.{Declarator}
use Rattle.translated_files.specs.f_tree.declared.statements.Dimension.{Dimension as WrittenDimension}
use Rattle.translated_files.specs.f_tree.declared.statements.DummyArgument.{DummyArgument}
use Rattle.translated_files.specs.f_tree.declared.statements.DummyArgument.TheVariants as dummy
use Rattle.translated_files.specs.f_tree.declared.statements.Stmt.{Stmt}
use Rattle.translated_files.specs.f_tree.declared.units.Unit.{Unit as GivenUnit}
use Rattle.translated_files.specs.f_tree.Attributes.{Constant, Shaped, Expansion, from_all, shape_of_array, members_of, shaped_in, named_dummies, dimensions_among, bare, dimension_read, with_class, with_dimensions, without_expansion, with_expansions, attribute_of, described, attribute_in, all_described}
use Rattle.translated_files.specs.f_tree.Facts.{Dimension, Attribute, EntryPoint}
use Rattle.translated_files.specs.f_tree.Folds.{fold_body, layer_of}
use Rattle.translated_files.specs.f_tree.Lines.{formals_of, entries_from, unit_kind, program_of, with_ties, unit_read}
use Rattle.translated_files.specs.f_tree.Uses.{Use}
use Rattle.translated_files.specs.f_tree.Values.{Bytes}
use Rattle.translated_files.specs.faithful.Signatures.{named_formals}
use Rattle.translated_files.specs.declaration_rows.ExpansionRows.{Sized, functions_of}
use Rattle.translated_files.specs.l_core.Pures.{Pure}
use Rattle.translated_files.specs.unit_forms.kept_bounds.KeptBounds.{bound_pure, is_adjustable}
use Rattle.translated_files.specs.unit_forms.plain_forms.PlainUnits.{has_own_storage, has_plain_lines}
use Rattle.translated_files.specs.unit_forms.PlainProcedures.{may_run, heading_fits, has_no_entries, each_name_is_plain, each_stands_once, names_dummies, names_its_result, has_plain_heading, is_plain_unit}
use Rattle.translated_files.specs.unit_translation.UnitBounds.{lower_kept, size_kept, dimension_kept, dimensions_kept, array_kept, formals_in, bounds_kept}
use Rattle.read_sizes.specs.tree_nodes.TreeNodes.{total_by, dimension_nodes, array_nodes, declarator_nodes, common_nodes, layer_body_nodes, body_nodes, statements_nodes}

-- ## One array

lower_once : (x : Bytes) (k : ℕ) (p : Option Pure) → length (lower_kept x k p) ≤ 1
unfolding lower_kept
lower_once x k None = omega arith
lower_once x k (Some p) = omega arith

size_once : (x : Bytes) (k : ℕ) (p q : Option Pure) → length (size_kept x k p q) ≤ 1
unfolding size_kept
size_once x k None q = omega arith
size_once x k (Some p) None = omega arith
size_once x k (Some p) (Some q) = omega arith

dimension_twice : (x : Bytes) (k : ℕ) (d : Dimension) → length (dimension_kept x k d) ≤ 2
unfolding dimension_kept
dimension_twice x k d =
    let lower = lower_kept x k (bound_pure d.lower) in
    let size = size_kept x k (bound_pure d.lower) (option_and_then bound_pure d.upper) in
    let whole = length-append lower size in
    let one = lower_once x k (bound_pure d.lower) in
    let other = size_once x k (bound_pure d.lower) (option_and_then bound_pure d.upper) in
    omega (arith, whole, one, other)

dimensions_twice : (x : Bytes) (k : ℕ) (ds : List Dimension) → length (dimensions_kept x k ds) ≤ 2 * length ds
unfolding dimensions_kept
dimensions_twice x k [] = omega arith
dimensions_twice x k (d ∷ ds) =
    let whole = length-append (dimension_kept x k d) (dimensions_kept x (suc k) ds) in
    let one = dimension_twice x k d in
    let more = dimensions_twice x (suc k) ds in
    omega (arith, whole, one, more)

array_twice : (x : Bytes) (a : Attribute) → length (array_kept x a) ≤ 2 * length a.dimensions
unfolding array_kept
array_twice x a = by (is_adjustable a)
  where
    by : (b : Bool) → length (if b then dimensions_kept x 0 a.dimensions else []) ≤ 2 * length a.dimensions
    by true = dimensions_twice x 0 a.dimensions
    by false = omega arith

-- ## The dimensions of a name are written for it

named_dimensions : (u : GivenUnit) (uses : List Use) (cs : List Constant) (es : List Expansion) (x : Bytes) (xs : List Bytes) →
    length (attribute_in (described u uses cs es xs) x).dimensions ≤ length (dimensions_among x (from_all shaped_in u.statements))
unfolding described attribute_in attribute_of with_expansions without_expansion with_dimensions bare
named_dimensions u uses cs es x [] = omega arith
named_dimensions u uses cs es x (y ∷ xs) = by (bytes_eq y x) refl (named_dimensions u uses cs es x xs)
  where
    by : (b : Bool) → bytes_eq y x ≡ b → length (attribute_in (described u uses cs es xs) x).dimensions ≤ length (dimensions_among x (from_all shaped_in u.statements)) →
        length (if b then attribute_of u uses cs es y else attribute_in (described u uses cs es xs) x).dimensions ≤ length (dimensions_among x (from_all shaped_in u.statements))
    by true is more =
        let same : y ≡ x = (bytes_eq-Decides y x).0 is in
        let many = length-map (dimensions_among y (from_all shaped_in u.statements)) (dimension_read (with_class u uses cs)) in
        subst (λ z. length (attribute_of u uses cs es y).dimensions ≤ length (dimensions_among z (from_all shaped_in u.statements))) same (omega (arith, many))
    by false is more = more

unit_dimensions : (options : Options) (u : GivenUnit) (x : Bytes) → length ((unit_read options u).attribute x).dimensions ≤ length (dimensions_among x (from_all shaped_in u.statements))
unfolding unit_read with_ties program_of all_described
unit_dimensions options u x = named_dimensions u _ _ _ x _

-- ## Names that stand once

-- the dimensions of names, and all that are written
abbrev named_by : List Bytes → List Shaped → ℕ
named_by [] ds = 0
named_by (x ∷ xs) ds = length (dimensions_among x ds) + named_by xs ds

abbrev all_dimensions : List Shaped → ℕ
all_dimensions [] = 0
all_dimensions (d ∷ ds) = length d.dimensions + all_dimensions ds

abbrev shape : Bytes → List WrittenDimension → Shaped
shape name dims = record { name = name; dimensions = dims }

if_false : {A : Type 0} (b : Bool) (x y : A) → b ≡ false → (if b then x else y) ≡ y
if_false true x y is = absurd (cc)
if_false false x y is = refl

other_name : (name x : Bytes) (dims : List WrittenDimension) (ds : List Shaped) → bytes_eq name x ≡ false → dimensions_among x (shape name dims ∷ ds) ≡ dimensions_among x ds
unfolding dimensions_among
other_name name x [] ds other = refl
other_name name x (first ∷ rest) ds other = if_false (bytes_eq name x) (first ∷ rest) (dimensions_among x ds) other

either_way : (b : Bool) (xs ys : List WrittenDimension) → length (if b then xs else ys) ≤ length xs + length ys
either_way true xs ys = omega arith
either_way false xs ys = omega arith

one_name : (name x : Bytes) (dims : List WrittenDimension) (ds : List Shaped) → length (dimensions_among x (shape name dims ∷ ds)) ≤ length dims + length (dimensions_among x ds)
unfolding dimensions_among
one_name name x [] ds = omega arith
one_name name x (first ∷ rest) ds = either_way (bytes_eq name x) (first ∷ rest) (dimensions_among x ds)

or_parts : (a b : Bool) → a || b ≡ false → (a ≡ false) × (b ≡ false)
or_parts true b h = absurd (cc)
or_parts false b h = (refl, h)

not_false : (b : Bool) → not b ≡ true → b ≡ false
not_false true h = absurd (cc)
not_false false h = refl

-- a declaration of another name counts for none
not_named : (name : Bytes) (dims : List WrittenDimension) (ds : List Shaped) (xs : List Bytes) → list_any (bytes_eq name) xs ≡ false → named_by xs (shape name dims ∷ ds) ≡ named_by xs ds
not_named name dims ds [] none = refl
not_named name dims ds (x ∷ xs) none =
    let parts = or_parts (bytes_eq name x) (list_any (bytes_eq name) xs) none in
    (λ i. length (other_name name x dims ds parts.0 i) + not_named name dims ds xs parts.1 i)

-- one counts once
once_named : (name : Bytes) (dims : List WrittenDimension) (ds : List Shaped) (xs : List Bytes) → each_stands_once xs ≡ true → named_by xs (shape name dims ∷ ds) ≤ length dims + named_by xs ds
unfolding each_stands_once
once_named name dims ds [] once = omega arith
once_named name dims ds (x ∷ xs) once = by (bytes_eq name x) refl (and_parts (not (list_any (bytes_eq x) xs)) (each_stands_once xs) once) (once_named name dims ds xs)
  where
    by : (b : Bool) → bytes_eq name x ≡ b → (not (list_any (bytes_eq x) xs) ≡ true) × (each_stands_once xs ≡ true) → (each_stands_once xs ≡ true → named_by xs (shape name dims ∷ ds) ≤ length dims + named_by xs ds) → named_by (x ∷ xs) (shape name dims ∷ ds) ≤ length dims + named_by (x ∷ xs) ds
    by true is parts more =
        let same : name ≡ x = (bytes_eq-Decides name x).0 is in
        let none : list_any (bytes_eq name) xs ≡ false = subst (λ y. list_any (bytes_eq y) xs ≡ false) (sym same) (not_false (list_any (bytes_eq x) xs) parts.0) in
        let here = one_name name x dims ds in
        let others = not_named name dims ds xs none in
        omega (arith, here, others)
    by false is parts more =
        let here : length (dimensions_among x (shape name dims ∷ ds)) ≡ length (dimensions_among x ds) = ap length (other_name name x dims ds is) in
        let others = more parts.1 in
        omega (arith, here, others)

none_written : (xs : List Bytes) → named_by xs [] ≡ 0
unfolding dimensions_among
none_written [] = refl
none_written (x ∷ xs) = let more = none_written xs in (let e : named_by (x ∷ xs) [] ≡ 0 = omega (arith, more) in e)

all_once : (ds : List Shaped) (xs : List Bytes) → each_stands_once xs ≡ true → named_by xs ds ≤ all_dimensions ds
all_once [] xs once = let none = none_written xs in omega (arith, none)
all_once (d ∷ ds) xs once =
    let one = once_named d.name d.dimensions ds xs once in
    let more = all_once ds xs once in
    omega (arith, one, more)

-- ## Declarations

all_both : (xs ys : List Shaped) → all_dimensions (xs ++ ys) ≡ all_dimensions xs + all_dimensions ys
all_both [] ys = (let e : all_dimensions ys ≡ 0 + all_dimensions ys = omega arith in e)
all_both (x ∷ xs) ys = let more = all_both xs ys in (let e : length x.dimensions + all_dimensions (xs ++ ys) ≡ length x.dimensions + all_dimensions xs + all_dimensions ys = omega (arith, more) in e)

map_both : {A B : Type 0} (f : A → B) (xs ys : List A) → map f (xs ++ ys) ≡ map f xs ++ map f ys
map_both f [] ys = refl
map_both f (x ∷ xs) ys = ap (λ later. f x ∷ later) (map_both f xs ys)

module _ (functions : List Sized) where
  dimensions_within : (ds : List WrittenDimension) → length ds ≤ total_by (dimension_nodes functions) ds
  unfolding total_by dimension_nodes
  dimensions_within [] = omega arith
  dimensions_within (d ∷ ds) = let more = dimensions_within ds in omega (arith, more)

  declarators_within : (items : List Declarator) → all_dimensions (map (λ d. record { name = d.name; dimensions = d.dimensions }) items) ≤ total_by (declarator_nodes functions) items
  unfolding total_by declarator_nodes
  declarators_within [] = omega arith
  declarators_within (d ∷ items) =
      let one = dimensions_within d.dimensions in
      let more = declarators_within items in
      omega (arith, one, more)

  arrays_within : (items : List ArrayDeclarator) → all_dimensions (map shape_of_array items) ≤ total_by (array_nodes functions) items
  unfolding total_by array_nodes shape_of_array
  arrays_within [] = omega arith
  arrays_within (d ∷ items) =
      let one = dimensions_within d.dimensions in
      let more = arrays_within items in
      omega (arith, one, more)

  groups_within : (groups : List CommonGroup) → all_dimensions (map shape_of_array (members_of groups)) ≤ total_by (common_nodes functions) groups
  unfolding total_by common_nodes members_of
  groups_within [] = omega arith
  groups_within (g ∷ groups) =
      let split = ap all_dimensions (map_both shape_of_array g.items (members_of groups)) in
      let both = all_both (map shape_of_array g.items) (map shape_of_array (members_of groups)) in
      let one = arrays_within g.items in
      let more = groups_within groups in
      omega (arith, split, both, one, more)

  body_within : (b : Body) → all_dimensions (shaped_in b) ≤ body_nodes functions b
  unfolding shaped_in layer_of body_nodes fold_body layer_body_nodes
  body_within (whole.Declare spec items) = let all = declarators_within items in omega (arith, all)
  body_within (whole.Dimension items) = let all = arrays_within items in omega (arith, all)
  body_within (whole.Common groups) = let all = groups_within groups in omega (arith, all)
  body_within (IfOne' e s (more_of-Body b r)) = omega arith
  body_within b = omega arith

  statements_within : (ss : List Stmt) → all_dimensions (from_all shaped_in ss) ≤ statements_nodes functions ss
  unfolding from_all statements_nodes total_by
  statements_within [] = omega arith
  statements_within (s ∷ ss) =
      let both = all_both (shaped_in s.body) (from_all shaped_in ss) in
      let one = body_within s.body in
      let more = statements_within ss in
      omega (arith, both, one, more)

-- ## The unit

formals_named : (ds : List DummyArgument) → named_formals (formals_of ds) ≡ named_dummies ds
unfolding named_formals formals_of named_dummies
formals_named [] = refl
formals_named (dummy.Named x ∷ ds) = ap (λ later. x ∷ later) (formals_named ds)
formals_named (dummy.AlternateReturn ∷ ds) = formals_named ds

module _ (names : Bytes → Attribute) (written : List Shaped) (within : (x : Bytes) → length (names x).dimensions ≤ length (dimensions_among x written)) where
  arrays_twice : (xs : List Bytes) → length (flat_map (λ x. array_kept x (names x)) xs) ≤ 2 * named_by xs written
  arrays_twice [] = omega arith
  arrays_twice (x ∷ xs) =
      let split = ap length (flat_map-cons (λ y. array_kept y (names y)) x xs) in
      let both = length-append (array_kept x (names x)) (flat_map (λ y. array_kept y (names y)) xs) in
      let one = array_twice x (names x) in
      let here = within x in
      let more = arrays_twice xs in
      omega (arith, split, both, one, here, more)

  entries_twice : (ds : List DummyArgument) (name : Bytes) (others : List EntryPoint) → each_stands_once (named_dummies ds) ≡ true
      → length (flat_map (λ x. array_kept x (names x)) (named_formals (formals_in (record { name = name; formals = formals_of ds; start = 0 } ∷ others)))) ≤ 2 * all_dimensions written
  unfolding formals_in named_formals
  entries_twice ds name [] once =
      let same = ap (λ xs. length (flat_map (λ x. array_kept x (names x)) xs)) (formals_named ds) in
      let all = arrays_twice (named_dummies ds) in
      let each = all_once written (named_dummies ds) once in
      omega (arith, same, all, each)
  entries_twice ds name (other ∷ later) once = omega arith

heading_once : (u : GivenUnit) → has_plain_heading u ≡ true → each_stands_once (named_dummies u.dummies) ≡ true
unfolding has_plain_heading
heading_once u h = (and_parts (each_stands_once (named_dummies u.dummies)) (names_dummies u && names_its_result u) h).0

dummies_once : (options : Options) (u : GivenUnit) → is_plain_unit options u ≡ true → each_stands_once (named_dummies u.dummies) ≡ true
unfolding is_plain_unit
dummies_once options u h =
    let rest = has_plain_lines (unit_read options u) && each_name_is_plain u in
    let one = (and_parts (may_run (unit_kind u)) (heading_fits (unit_kind u) u.dummies && (has_no_entries u && (has_own_storage u && (has_plain_heading u && rest)))) h).1 in
    let two = (and_parts (heading_fits (unit_kind u) u.dummies) (has_no_entries u && (has_own_storage u && (has_plain_heading u && rest))) one).1 in
    let three = (and_parts (has_no_entries u) (has_own_storage u && (has_plain_heading u && rest)) two).1 in
    let four = (and_parts (has_own_storage u) (has_plain_heading u && rest) three).1 in
    heading_once u (and_parts (has_plain_heading u) rest four).0

pub few_kept : (options : Options) (u : GivenUnit) → is_plain_unit options u ≡ true → length (bounds_kept (unit_read options u)) ≤ 2 * statements_nodes (functions_of u) u.statements
unfolding bounds_kept unit_read with_ties program_of
few_kept options u plain =
    let own : length (bounds_kept (unit_read options u)) ≤ 2 * all_dimensions (from_all shaped_in u.statements) =
    entries_twice (unit_read options u).attribute (from_all shaped_in u.statements) (unit_dimensions options u) u.dummies _ (entries_from 0 u.statements) (dummies_once options u plain) in
    let all = statements_within (functions_of u) u.statements in
    omega (arith, own, all)
