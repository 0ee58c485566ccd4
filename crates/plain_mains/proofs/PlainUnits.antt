-- A written unit for which the test computes to true is a plain main program.
use Rattle.std.specs.List.{list_all}
use Rattle.std.specs.Prelude.{◌≡◌, ℕ, nat_eq, pos, Bool, true, false, not, ◌&&◌, ◌||◌, List, [], ◌∷◌, map, length, Some, None, is_some}
use Rattle.std.proofs.Common.{refl, ap, ◌∙◌, subst}
use Rattle.std.proofs.lemmas.Bool.{and_parts, eqb-true}
use Rattle.main_translation_laws.specs.f_tree.declared.names.Class.{Class}
use Rattle.main_translation_laws.specs.f_tree.declared.names.Class.TheVariants as class
use Rattle.main_translation_laws.specs.f_tree.declared.names.Options.{Options}
use Rattle.main_translation_laws.specs.f_tree.declared.units.Unit.{Unit as WrittenUnit}
use Rattle.main_translation_laws.specs.f_tree.Values.{Bytes, in_range}
use Rattle.main_translation_laws.specs.f_tree.Facts.{Bounds, Attribute, UnitKind, MainProgram, SubroutineUnit, FunctionUnit, BlockDataUnit, ProgramUnit}
use Rattle.main_translation_laws.specs.f_tree.Valuing.{elements_of, size_of_dimension}
use Rattle.main_translation_laws.specs.f_tree.Nests.{ranges_of, each_ends, each_contained}
use Rattle.main_translation_laws.specs.f_tree.Reading.{name_or_none}
use Rattle.main_translation_laws.specs.f_tree.Attributes.{from_all, bare, all_described, attribute_in, Described}
use Rattle.main_translation_laws.specs.f_tree.Lines.{Naming, is_stored, formals_of, entries_from, blocks_from, common_in, ties_of, equivalence_in, data_in, image_of, unit_kind, apart, program_of, with_ties, unit_read}
use Rattle.main_translation_laws.specs.lowering_laws.Layout.{are_direct, has_end, has_loops, blocks_are_whole, each_branches_well, enters_outside, LoopsFit, without_loops, with_loops}
use Rattle.main_translation_laws.specs.c_emit.Numbers.{is_variable}
use Rattle.main_translation_laws.specs.c_emit_laws.EmittedNumbers.{BoundFits}
use Rattle.main_translation_laws.proofs.fortran_laws.HomeLemmas.{stored_in_unit}
use Rattle.main_translation_laws.specs.PlainMains.{IsPlainMain}
use Rattle.plain_mains.specs.PlainUnits.{has_none, is_main, has_one_entry, has_own_storage, loops_are_nested, loops_are_entered_well, loops_fit, has_plain_lines, bound_fits, only_last_is_assumed, has_plain_bounds, has_constant_bounds, is_of_call, is_plain_variable, is_plain_name, names_are_plain, is_plain_main, PlainMainsAreTold}
use Rattle.plain_mains.proofs.Described.{all_in, all_at, each_attribute, last_of, counted_elements}
use Rattle.plain_mains.proofs.StoredNames.{plain_member, distinct_stored}

-- ## The unit and its storage

pub none_is : {A : Type 0} (xs : List A) → has_none xs ≡ true → xs ≡ []
unfolding has_none
none_is [] is = refl
none_is (x ∷ xs) is = absurd (cc)

main_is : (k : UnitKind) → is_main k ≡ true → k ≡ MainProgram
unfolding is_main
main_is MainProgram is = refl
main_is SubroutineUnit is = absurd (cc)
main_is FunctionUnit is = absurd (cc)
main_is BlockDataUnit is = absurd (cc)

one_entry : (u : WrittenUnit) → has_one_entry u ≡ true →
    record { name = name_or_none u.name; formals = formals_of u.dummies; start = 0 } ∷ entries_from 0 u.statements ≡ record { name = name_or_none u.name; formals = []; start = 0 } ∷ []
unfolding has_one_entry formals_of
one_entry u is =
    let parts = and_parts (has_none u.dummies) (has_none (entries_from 0 u.statements)) is in
    ap (λ ds. record { name = name_or_none u.name; formals = formals_of ds; start = 0 } ∷ entries_from 0 u.statements) (none_is u.dummies parts.0)
    ∙ ap (λ later. record { name = name_or_none u.name; formals = []; start = 0 } ∷ later) (none_is (entries_from 0 u.statements) parts.1)

-- no blocks, no ties and no images
pub record HasOwnStorage (options : Options) (u : WrittenUnit) : Type 0 where
  pub blocks : (unit_read options u).blocks ≡ []
  pub ties : (unit_read options u).ties ≡ []
  pub images : (unit_read options u).images ≡ []

pub own_storage : (options : Options) (u : WrittenUnit) → has_own_storage u ≡ true → HasOwnStorage options u
unfolding has_own_storage unit_read with_ties program_of blocks_from ties_of
own_storage options u is =
    let names : Naming = attribute_in (all_described u) in
    let parts = and_parts (has_none (from_all common_in u.statements)) (has_none (from_all equivalence_in u.statements) && has_none (from_all data_in u.statements)) is in
    let rest = and_parts (has_none (from_all equivalence_in u.statements)) (has_none (from_all data_in u.statements)) parts.1 in
    record {
      blocks = ap (blocks_from names []) (none_is (from_all common_in u.statements) parts.0);
      ties = ap (ties_of (apart (program_of options u (all_described u))) names) (none_is (from_all equivalence_in u.statements) rest.0);
      images = ap (map (image_of names)) (none_is (from_all data_in u.statements) rest.1);
    }

-- ## The statements

fit_by : (p : ProgramUnit) (loops : Bool) → has_loops p.lines ≡ loops → (not loops || (loops_are_nested p && loops_are_entered_well p)) ≡ true → LoopsFit p
unfolding loops_are_nested loops_are_entered_well
fit_by p false none is = without_loops none
fit_by p true some is =
    let parts = and_parts (loops_are_nested p) (loops_are_entered_well p) is in
    let nested = and_parts (each_ends p 0 p.lines) (each_contained (ranges_of p)) parts.0 in
    let entered = and_parts (blocks_are_whole p 0 p.lines) (each_branches_well p 0 p.lines && list_all (enters_outside p) p.entries) parts.1 in
    let rest = and_parts (each_branches_well p 0 p.lines) (list_all (enters_outside p) p.entries) entered.1 in
    with_loops (record { nested = record { ended = nested.0; contained = nested.1 }; blocks = entered.0; branches = rest.0; entries = rest.1 })

-- what is asked of the statements
pub record HasPlainLines (p : ProgramUnit) : Type 0 where
  pub direct : are_direct p.lines ≡ true
  pub ended : has_end p.lines ≡ true
  pub loops : LoopsFit p

pub plain_lines : (p : ProgramUnit) → has_plain_lines p ≡ true → HasPlainLines p
unfolding has_plain_lines loops_fit
plain_lines p is =
    let parts = and_parts (are_direct p.lines) (has_end p.lines && loops_fit p) is in
    let rest = and_parts (has_end p.lines) (loops_fit p) parts.1 in
    record { direct = parts.0; ended = rest.0; loops = fit_by p (has_loops p.lines) refl rest.1 }

-- ## The names

-- as many bounds as dimensions, which have 32 bits, and none is assumed but the last
pub record AreWhole (a : Attribute) : Type 0 where
  pub many : length a.bounds ≡ length a.dimensions
  pub fit : list_all bound_fits a.bounds ≡ true
  pub closed : only_last_is_assumed a.bounds ≡ true

pub whole_by : (a : Attribute) → has_plain_bounds a ≡ true → AreWhole a
unfolding has_plain_bounds
whole_by a plain =
    let parts = and_parts (nat_eq (length a.bounds) (length a.dimensions)) (list_all bound_fits a.bounds && only_last_is_assumed a.bounds) plain in
    let bounds = and_parts (list_all bound_fits a.bounds) (only_last_is_assumed a.bounds) parts.1 in
    record { many = eqb-true (length a.bounds) (length a.dimensions) parts.0; fit = bounds.0; closed = bounds.1 }

-- what the test says of each name, stored or not
record IsFitting (a : Attribute) : Type 0 where
  no_call : is_of_call a.class ≡ false
  whole : AreWhole a
  counted : is_some (elements_of a.bounds) ≡ true

fitting_bare : IsFitting (bare class.Unit None)
unfolding bare is_of_call only_last_is_assumed elements_of
fitting_bare = record { no_call = refl; whole = record { many = refl; fit = refl; closed = refl }; counted = refl }

fitting_by : (d : Described) → is_plain_name d ≡ true → IsFitting d.attribute
unfolding is_plain_name has_constant_bounds
fitting_by d plain =
    let parts = and_parts (not (is_of_call d.attribute.class)) (has_constant_bounds d.attribute && (not (is_stored d.attribute) || is_plain_variable d)) plain in
    let rest = and_parts (has_constant_bounds d.attribute) (not (is_stored d.attribute) || is_plain_variable d) parts.1 in
    let bounds = and_parts (has_plain_bounds d.attribute) (is_some (elements_of d.attribute.bounds)) rest.0 in
    record { no_call = denied (is_of_call d.attribute.class) parts.0; whole = whole_by d.attribute bounds.0; counted = bounds.1 }
  where
    denied : (b : Bool) → not b ≡ true → b ≡ false
    denied true is = absurd (cc)
    denied false is = refl

each_fits : (u : WrittenUnit) → list_all is_plain_name (all_described u) ≡ true → (x : Bytes) → IsFitting (attribute_in (all_described u) x)
each_fits u plain x = each_attribute IsFitting (all_described u) x fitting_bare (λ d o. fitting_by d (all_in is_plain_name (all_described u) d plain o))

pub bound_is : (b : Bounds) → bound_fits b ≡ true → BoundFits b
unfolding bound_fits
bound_is b fits = let parts = and_parts (in_range b.lower) (in_range (pos (size_of_dimension b))) fits in record { lower = parts.0; size = λ last is. parts.1 }

-- a variable that is no dummy and no result is stored
class_is : (k : Class) (t : Bool) → is_of_call k ≡ false → is_variable k && t ≡ true → k ≡ class.Stored
unfolding is_of_call is_variable
class_is class.Stored t own variable = refl
class_is class.Dummy t own variable = absurd (cc)
class_is class.Result t own variable = absurd (cc)
class_is class.Constant t own variable = absurd (cc)
class_is class.Procedure t own variable = absurd (cc)
class_is class.DummyProcedure t own variable = absurd (cc)
class_is class.StatementFunction t own variable = absurd (cc)
class_is class.Intrinsic t own variable = absurd (cc)
class_is class.Unit t own variable = absurd (cc)

-- ## The whole

plain_by : (options : Options) (u : WrittenUnit) → is_main (unit_kind u) ≡ true → has_one_entry u ≡ true → has_own_storage u ≡ true → has_plain_lines (unit_read options u) ≡ true →
    list_all is_plain_name (all_described u) ≡ true → IsPlainMain (unit_read options u)
unfolding unit_read with_ties program_of
plain_by options u main entry storage lines plain =
    let own = own_storage options u storage in
    let statements = plain_lines (unit_read options u) lines in
    record {
      kind = main_is (unit_kind u) main;
      name = name_or_none u.name;
      entry = one_entry u entry;
      blocks = own.blocks;
      ties = own.ties;
      images = own.images;
      direct = statements.direct;
      ended = statements.ended;
      loops = statements.loops;
      stored = λ x is. stored_in_unit options u x (class_is (attribute_in (all_described u) x).class _ (each_fits u plain x).no_call is);
      distinct = distinct_stored u;
      named = λ m o. (plain_member u plain m o).named;
      numbers = λ m o. (plain_member u plain m o).numeric;
      wide = λ m o. (plain_member u plain m o).wide;
      sized = λ m o. (plain_member u plain m o).sized;
      within = λ m o. (plain_member u plain m o).within;
      small = λ m o. (plain_member u plain m o).small;
      ranked = λ x. (each_fits u plain x).whole.many;
      counted = λ x b bs is. subst (λ c. (n : ℕ) × (elements_of c ≡ Some n)) is (counted_elements _ (each_fits u plain x).counted);
      fits = λ x k b at. bound_is b (all_at bound_fits _ k b (each_fits u plain x).whole.fit at);
      closed = λ x k b at behind. last_of _ (each_fits u plain x).whole.closed k b at behind;
    }

pub plain_mains_are_told : PlainMainsAreTold
unfolding is_plain_main names_are_plain
plain_mains_are_told options u is =
    let main = and_parts (is_main (unit_kind u)) (has_one_entry u && (has_own_storage u && (has_plain_lines (unit_read options u) && names_are_plain u))) is in
    let entry = and_parts (has_one_entry u) (has_own_storage u && (has_plain_lines (unit_read options u) && names_are_plain u)) main.1 in
    let storage = and_parts (has_own_storage u) (has_plain_lines (unit_read options u) && names_are_plain u) entry.1 in
    let lines = and_parts (has_plain_lines (unit_read options u)) (names_are_plain u) storage.1 in
    plain_by options u main.0 entry.0 storage.0 lines.0 lines.1
