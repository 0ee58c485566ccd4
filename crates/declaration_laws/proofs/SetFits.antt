-- A set that breaks no row is well formed in each of its settings.
use Rattle.std.specs.Prelude.{◌≡◌, ℕ, zero, suc, ◌+◌, ◌<◌, Bool, true, false, List, [], ◌∷◌, ◌++◌, map, length, Some, slice_get, is_some, IsTrue, if◌then◌else◌}
use Rattle.std.proofs.Common.{refl, sym, ap, ◌∙◌, subst, arith}
use Rattle.fortran_laws.specs.f_tree.declared.names.Class.{Class}
use Rattle.fortran_laws.specs.f_tree.declared.names.Class.TheVariants as class
use Rattle.fortran_laws.specs.f_tree.declared.names.Options.{Options}
use Rattle.fortran_laws.specs.f_tree.declared.refusals.Refusal.{Refusal}
use Rattle.fortran_laws.specs.f_tree.declared.statements.Stmt.{Stmt}
use Rattle.fortran_laws.specs.f_tree.declared.units.Unit.{Unit as WrittenUnit}
use Rattle.fortran_laws.specs.f_tree.declared.units.File.{File}
use Rattle.fortran_laws.specs.f_tree.Values.{Bytes}
use Rattle.fortran_laws.specs.f_tree.Facts.{Attribute, EntryPoint, Home, Member, ProgramUnit, Facts}
use Rattle.fortran_laws.specs.f_tree.Reading.{name_or_none}
use Rattle.fortran_laws.specs.f_tree.Uses.{Use, uses_of_statements}
use Rattle.fortran_laws.specs.f_tree.Attributes.{from_all, is_not_empty, Constant, constants_of, Expansion, arrays_of, attribute_of, described, all_described}
use Rattle.fortran_laws.specs.f_tree.Lines.{loop_label_in, line_of, formals_of, entries_from, formats_of, is_stored, size_of, stored_among, unit_kind, program_of, with_ties, unit_read}
use Rattle.fortran_laws.specs.f_tree.Setting.{Setting, unit_home, IsMember, here, there, IsIn, first_in, later_in, IsSetting}
use Rattle.fortran_laws.specs.f_tree.Meaning.{units_in, units_of, facts_at}
use Rattle.fortran_laws.specs.f_tree.Valuing.{elements_of}
use Rattle.fortran_laws.specs.f_tree.WellFormed.{IsNest, IsStored, IsResult, IsWellFormed, is_dummy, AreDimensions}
use Rattle.fortran_laws.proofs.HomeLemmas.{each_stored_name}
use Rattle.refusal_order.specs.declaration_rows.Fits.{Agrees}
use Rattle.refusal_order.specs.declaration_rows.NameRows.{given_names, own_attributes, all_names, definitions_of, known_in, defined_rows, names_rows, shape_in, unmeasured}
use Rattle.refusal_order.specs.declaration_rows.UnitRows.{statements_rows, labels_rows, ranges_from, crossing_rows, nest_rows, ends_by_end, end_rows, unit_rows_as, unit_rows}
use Rattle.refusal_order.specs.declaration_rows.SetRows.{all_unit_rows, units_rows, files_rows, set_faults, EachFaultlessSetIsWellFormed}
use Rattle.declaration_laws.proofs.ExpressionFits.{none_of_both}
use Rattle.declaration_laws.proofs.UnitFits.{each_line_formed, nest_formed, entries_within, mapped_length, in_either}
use Rattle.declaration_laws.proofs.NameFits.{all_expansions, IsNamed, a_name, no_name, each_named, IsFaultless, each_faultless, HasStorage, stored_by, dummy_fits, HasResult, result_by}
use Rattle.declaration_laws.proofs.DefinitionFits.{agrees_in, unit_of}

-- WHAT A UNIT IS READ AS
pub record IsReadFrom (u : WrittenUnit) (p : ProgramUnit) : Type 0 where
  pub names_are : (x : Bytes) → p.attribute x ≡ given_names u x
  pub lines_are : p.lines ≡ map (line_of (given_names u) (from_all loop_label_in u.statements)) u.statements
  pub formats_are : p.formats ≡ formats_of u.statements
  pub kind_is : p.kind ≡ unit_kind u
  pub entries_are : p.entries ≡ (record { name = name_or_none u.name; formals = formals_of u.dummies; start = 0 } ∷ entries_from 0 u.statements)
  pub stored_are : p.stored ≡ stored_among (all_described u)

pub read_from : (options : Options) (u : WrittenUnit) → IsReadFrom u (unit_read options u)
unfolding unit_read with_ties program_of given_names
read_from options u = record { names_are = λ x. refl; lines_are = refl; formats_are = refl; kind_is = refl; entries_are = refl; stored_are = refl }

-- STORED NAMES
pub stored_class : (a : Attribute) → a.class ≡ class.Stored → is_stored a ≡ true
unfolding is_stored
stored_class a is = subst (λ k. is_stored (record a { class = k }) ≡ true) (sym is) refl

pub member_first : (x : Bytes) (a : Attribute) (ms : List Member) (b : Bool) → b ≡ true → IsMember x (if b then record { name = x; size = size_of a } ∷ ms else ms)
member_first x a ms true is = here
member_first x a ms false is = absurd (cc)

pub member_later : (x y : Bytes) (a : Attribute) (ms : List Member) (b : Bool) → IsMember x ms → IsMember x (if b then record { name = y; size = size_of a } ∷ ms else ms)
member_later x y a ms true is = there is
member_later x y a ms false is = is

pub stored_member : (u : WrittenUnit) (uses : List Use) (cs : List Constant) (es : List Expansion) (xs : List Bytes) (x : Bytes) → IsIn x xs →
    (attribute_of u uses cs es x).class ≡ class.Stored → IsMember x (stored_among (described u uses cs es xs))
unfolding described stored_among
stored_member u uses cs es [] x is of = elim is [ ]
stored_member u uses cs es (y ∷ xs) x first_in of =
    member_first x (attribute_of u uses cs es x) (stored_among (described u uses cs es xs)) (is_stored (attribute_of u uses cs es x))
    (stored_class (attribute_of u uses cs es x) of)
stored_member u uses cs es (y ∷ xs) x (later_in is) of =
    member_later x y (attribute_of u uses cs es y) (stored_among (described u uses cs es xs)) (is_stored (attribute_of u uses cs es y)) (stored_member u uses cs es xs x is of)

pub stored_by_name : (u : WrittenUnit) (x : Bytes) → IsNamed u x → (given_names u x).class ≡ class.Stored → IsMember x (stored_among (all_described u))
unfolding all_described all_names own_attributes attribute_of definitions_of
stored_by_name u x (a_name among is) of =
    stored_member u (uses_of_statements (arrays_of u) u.statements) (constants_of u) (all_expansions u) (all_names u) x among (sym (ap (λ a. a.class) is) ∙ of)
stored_by_name u x (no_name is) of = absurd (let bad : class.Unit ≡ class.Stored = sym (unit_of (given_names u x) is) ∙ of in cc)

pub record HasHome (c : Facts) (count : ℕ) (x : Bytes) : Type 0 where
  pub home : Home
  pub home_is : c.home x ≡ Some home
  pub within : home.sequence < count

-- THE WHOLE UNIT
pub ended : (u : WrittenUnit) (b : Bool) → end_rows u b ≡ [] → IsTrue b
unfolding end_rows
ended u true none = refl
ended u false none = absurd (cc)

pub some_statement : (ss : List Stmt) → IsTrue (ends_by_end ss) → 0 < length ss
unfolding ends_by_end
some_statement [] end = absurd (cc)
some_statement (s ∷ ss) end = omega arith

pub entry_within : (u : WrittenUnit) (n : ℕ) (e first : EntryPoint) → first.start ≡ 0 → length u.statements ≡ n → IsTrue (ends_by_end u.statements) →
    IsIn e (first ∷ entries_from 0 u.statements) → e.start < n
entry_within u n e first start is end first_in =
    subst (λ m. m < n) (sym start) (subst (λ m. 0 < m) is (some_statement u.statements end))
entry_within u n e first start is end (later_in among) =
    let less : e.start < 0 + length u.statements = entries_within 0 u.statements e end among in
    subst (λ m. e.start < m) (let q : 0 + length u.statements ≡ length u.statements = omega arith in q ∙ is) less

module _ (c : Facts) (count : ℕ) (u : WrittenUnit) (reads : IsReadFrom u c.program) where
  pub class_in : (x : Bytes) (k : Class) → (c.program.attribute x).class ≡ k → (given_names u x).class ≡ k
  class_in x k is = sym (ap (λ a. a.class) (reads.names_are x)) ∙ is

  pub stored_well : (x : Bytes) → IsFaultless u x (given_names u x) → ((given_names u x).class ≡ class.Stored → HasHome c count x) →
      (c.program.attribute x).class ≡ class.Stored → IsStored c count x
  stored_well x faultless homes of =
      let stored : (given_names u x).class ≡ class.Stored = class_in x class.Stored of in
      let s : HasStorage (given_names u x) = stored_by (given_names u) (shape_in u x) (unmeasured u x) (given_names u x) stored faultless.no_bound in
      let at : HasHome c count x = homes stored in
      record {
        width = s.has_width.width;
        width_is = ap (λ a. a.width) (reads.names_are x) ∙ s.has_width.is;
        home = at.home;
        home_is = at.home_is;
        within = at.within;
        ranked = subst (λ a. length a.bounds ≡ length a.dimensions) (sym (reads.names_are x)) s.ranked;
        sized = subst (λ a. IsTrue (is_some (elements_of a.bounds))) (sym (reads.names_are x)) s.sized;
      }

  pub dummy_well : (x : Bytes) → IsFaultless u x (given_names u x) → IsTrue (is_dummy (c.program.attribute x).class) → AreDimensions c (c.program.attribute x).dimensions
  dummy_well x faultless of =
      subst (λ a. AreDimensions c a.dimensions) (sym (reads.names_are x))
      (dummy_fits c u reads.names_are x faultless (subst (λ a. IsTrue (is_dummy a.class)) (reads.names_are x) of))

  pub result_well : (x : Bytes) → IsFaultless u x (given_names u x) → (c.program.attribute x).class ≡ class.Result → IsResult c x
  result_well x faultless of =
      let r : HasResult u (given_names u x) = result_by u (given_names u x) (class_in x class.Result of) faultless.no_conflict in
      record {
        kind_is = reads.kind_is ∙ r.of_function;
        no_dimensions = ap (λ a. a.dimensions) (reads.names_are x) ∙ r.no_dimensions;
        no_bounds = ap (λ a. a.bounds) (reads.names_are x) ∙ r.no_bounds;
      }

  pub unit_well : unit_rows_as u c.program ≡ [] → ((x : Bytes) → (given_names u x).class ≡ class.Stored → HasHome c count x) → IsWellFormed c count
  unfolding unit_rows_as is_not_empty
  unit_well none homes =
      let ns : List Refusal = names_rows u (all_names u) in
      let ds : List Refusal = defined_rows (given_names u) (own_attributes u) (arrays_of u) [] [] u.statements in
      let ss : List Refusal = statements_rows u c.program 0 u.statements in
      let ls : List Refusal = labels_rows [] u.statements in
      let bs : List Refusal = nest_rows [] u.statements in
      let es : List Refusal = end_rows u (ends_by_end u.statements) in
      let cs : List Refusal = crossing_rows (ranges_from c.program 0 u.statements) 0 u.statements in
      let h : (ns ≡ []) × ((ds ++ (ss ++ (ls ++ (bs ++ (es ++ cs))))) ≡ []) = none_of_both ns (ds ++ (ss ++ (ls ++ (bs ++ (es ++ cs))))) none in
      let i : (ds ≡ []) × ((ss ++ (ls ++ (bs ++ (es ++ cs)))) ≡ []) = none_of_both ds (ss ++ (ls ++ (bs ++ (es ++ cs)))) h.1 in
      let j : (ss ≡ []) × ((ls ++ (bs ++ (es ++ cs))) ≡ []) = none_of_both ss (ls ++ (bs ++ (es ++ cs))) i.1 in
      let k : (ls ≡ []) × ((bs ++ (es ++ cs)) ≡ []) = none_of_both ls (bs ++ (es ++ cs)) j.1 in
      let l : (bs ≡ []) × ((es ++ cs) ≡ []) = none_of_both bs (es ++ cs) k.1 in
      let m : (es ≡ []) × (cs ≡ []) = none_of_both es cs l.1 in
      let labels : List ℕ = from_all loop_label_in u.statements in
      let faultless : (x : Bytes) → IsFaultless u x (given_names u x) = λ x. each_faultless u h.0 x in
      let agrees : Agrees c count [] (known_in u) = agrees_in c count u reads.names_are faultless i.0 in
      let end : IsTrue (ends_by_end u.statements) = ended u (ends_by_end u.statements) m.0 in
      let lines : length u.statements ≡ length c.program.lines =
      sym (mapped_length (line_of (given_names u) labels) u.statements) ∙ ap length (sym reads.lines_are) in
      record {
        statements = λ n line is. each_line_formed c count u labels agrees reads.formats_are reads.lines_are j.0 n line is;
        nest = subst (λ z. IsNest 0 z) (sym reads.lines_are) (nest_formed (given_names u) labels [] u.statements l.0 end);
        named = subst (λ z. IsTrue (is_not_empty z)) (sym reads.entries_are) refl;
        entries = λ e among. entry_within u (length c.program.lines) e (record { name = name_or_none u.name; formals = formals_of u.dummies; start = 0 }) refl lines end
            (subst (λ z. IsIn e z) reads.entries_are among);
        stored = λ x of. stored_well x (faultless x) (homes x) of;
        dummies = λ x of. dummy_well x (faultless x) of;
        results = λ x of. result_well x (faultless x) of;
      }

-- A UNIT OF A SET
pub record IsFaultlessUnit (options : Options) (p : ProgramUnit) : Type 0 where
  pub unit : WrittenUnit
  pub is : p ≡ unit_read options unit
  pub none : unit_rows options unit ≡ []

pub front_none : (xs ys : List Refusal) → (xs ++ ys) ≡ [] → xs ≡ []
front_none xs ys none = (none_of_both xs ys none).0

pub unit_none : (options : Options) (u : WrittenUnit) → all_unit_rows options u ≡ [] → unit_rows options u ≡ []
unfolding all_unit_rows
unit_none options u none = front_none (unit_rows options u) _ none

pub among_units : (options : Options) (us : List WrittenUnit) (p : ProgramUnit) → units_rows options us ≡ [] → IsIn p (map (unit_read options) us) →
    IsFaultlessUnit options p
unfolding units_rows
among_units options [] p none is = elim is [ ]
among_units options (u ∷ us) p none first_in = record { unit = u; is = refl; none = unit_none options u (none_of_both (all_unit_rows options u) (units_rows options us) none).0 }
among_units options (u ∷ us) p none (later_in is) = among_units options us p (none_of_both (all_unit_rows options u) (units_rows options us) none).1 is

pub among_files : (options : Options) (fs : List File) (p : ProgramUnit) → files_rows options fs ≡ [] → IsIn p (units_in options fs) → IsFaultlessUnit options p
unfolding files_rows units_in
among_files options [] p none is = elim is [ ]
among_files options (f ∷ fs) p none is =
    let h : (units_rows options f.units ≡ []) × (files_rows options fs ≡ []) = none_of_both (units_rows options f.units) (files_rows options fs) none in
    in_either p (map (unit_read options) f.units) (units_in options fs) (IsFaultlessUnit options p) is
    (λ among. among_units options f.units p h.0 among) (λ among. among_files options fs p h.1 among)

pub at_is_in : {A : Type 0} (xs : List A) (k : ℕ) (x : A) → slice_get xs k ≡ Some x → IsIn x xs
at_is_in [] k x is = absurd (cc)
at_is_in (y ∷ xs) zero x is = let same : y ≡ x = cc in subst (λ z. IsIn z (y ∷ xs)) same first_in
at_is_in (y ∷ xs) (suc k) x is = later_in (at_is_in xs k x is)

pub nothing_in : {A : Type 0} (xs : List A) → ((x : A) → IsIn x xs → ⊥) → xs ≡ []
nothing_in [] none = refl
nothing_in (x ∷ xs) none = absurd (none x first_in)

pub homes_stand : (S : List ProgramUnit) (g : Setting) → IsSetting S g → (k : ℕ) (u : WrittenUnit) (p : ProgramUnit) → slice_get S k ≡ Some p → IsReadFrom u p →
    (x : Bytes) →
    (given_names u x).class ≡ class.Stored → HasHome (record { program = p; home = unit_home g k p }) (length g.sizes) x
homes_stand S g setting k u p spot reads x of =
    let h = each_stored_name S g setting k p spot x (subst (λ ms. IsMember x ms) (sym reads.stored_are) (stored_by_name u x (each_named u x) of)) in
    record { home = h.0; home_is = h.1; within = h.2 }

pub unit_in_set : (options : Options) (S : List ProgramUnit) (g : Setting) → IsSetting S g → (k : ℕ) (p : ProgramUnit) → slice_get S k ≡ Some p →
    (u : WrittenUnit) → p ≡ unit_read options u → unit_rows options u ≡ [] → IsWellFormed (record { program = p; home = unit_home g k p }) (length g.sizes)
unfolding unit_rows
unit_in_set options S g setting k p spot u is none =
    let reads : IsReadFrom u p = subst (λ q. IsReadFrom u q) (sym is) (read_from options u) in
    unit_well (record { program = p; home = unit_home g k p }) (length g.sizes) u reads (subst (λ q. unit_rows_as u q ≡ []) (sym is) none)
    (λ x of. homes_stand S g setting k u p spot reads x of)

pub sets_formed : EachFaultlessSetIsWellFormed
unfolding set_faults units_of facts_at
sets_formed options set g setting none =
    let rows : files_rows options set.files ≡ [] = nothing_in (files_rows options set.files) none in
    record {
      each = λ k p spot.
          let f : IsFaultlessUnit options p = among_files options set.files p rows (at_is_in (units_in options set.files) k p spot) in
          unit_in_set options (units_in options set.files) g setting k p spot f.unit f.is f.none;
    }
