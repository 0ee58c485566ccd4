-- A call that its procedure refuses because it disagrees differs from it in a length alone, where no call is found to disagree.
use Rattle.std.specs.Prelude.{◌≡◌, Bool, true, false, ◌||◌, find, List, [], ◌∷◌, ◌++◌, map, length, bytes_eq, Some, slice_get, IsTrue, if◌then◌else◌}
use Rattle.std.proofs.Common.{refl, sym, subst}
use Rattle.call_shapes.specs.f_tree.declared.names.Options.{Options}
use Rattle.call_shapes.specs.f_tree.declared.refusals.Refusal.{Refusal}
use Rattle.call_shapes.specs.f_tree.declared.units.File.{File}
use Rattle.call_shapes.specs.f_tree.declared.units.Unit.{Unit as WrittenUnit}
use Rattle.call_shapes.specs.f_tree.Values.{Bytes}
use Rattle.call_shapes.specs.f_tree.Facts.{Named, UnitKind, MainProgram, SubroutineUnit, FunctionUnit, BlockDataUnit, EntryPoint, ProgramUnit}
use Rattle.call_shapes.specs.f_tree.Reading.{name_or_none}
use Rattle.call_shapes.specs.f_tree.Lines.{formals_of, program_of, with_ties, unit_read}
use Rattle.call_shapes.specs.f_tree.Setting.{IsIn, first_in, later_in}
use Rattle.call_shapes.specs.f_tree.World.{Procedure}
use Rattle.call_shapes.specs.f_tree.Association.{entry_of}
use Rattle.call_shapes.specs.f_tree.Meaning.{units_of, found_from, facts_at}
use Rattle.call_shapes.specs.f_tree.WellFormed.{is_dummy, AreWellFormed}
use Rattle.call_shapes.specs.declaration_rows.GlobalRows.{all_units}
use Rattle.call_shapes.specs.declaration_rows.NameRows.{given_names}
use Rattle.call_shapes.specs.declaration_rows.UndeclaredRows.{unit_undeclared_rows}
use Rattle.call_shapes.specs.declaration_rows.OrderRows.{unit_order_rows}
use Rattle.call_shapes.specs.declaration_rows.BlockRows.{unit_block_rows}
use Rattle.call_shapes.specs.declaration_rows.FormatRows.{unit_format_rows}
use Rattle.call_shapes.specs.declaration_rows.ReferenceRows.{unit_reference_rows}
use Rattle.call_shapes.specs.declaration_rows.LengthRows.{unit_length_rows}
use Rattle.call_shapes.specs.declaration_rows.ExpansionRows.{unit_expansion_rows}
use Rattle.call_shapes.specs.declaration_rows.GivenRows.{unit_given_rows}
use Rattle.call_shapes.specs.declaration_rows.UnitRows.{unit_rows}
use Rattle.call_shapes.specs.declaration_rows.SetRows.{all_unit_rows, units_rows, files_rows, set_faults}
use Rattle.agreeing_runs.specs.Mismatches.{differs, length_differs, IsProcedure, IsMismatched, at_call, EachRefusedCallDiffers}
use Rattle.declaration_laws.proofs.ExpressionFits.{none_of_both}
use Rattle.declaration_laws.proofs.UnitFits.{in_either}
use Rattle.declaration_laws.proofs.SetFits.{sets_formed}
use Rattle.agreeing_calls.specs.CheckedCalls.{EachCheckedRunAgrees, EachRefusalIsOfLength}
use Rattle.agreeing_calls.proofs.ShapeLemmas.{units_alike}
use Rattle.agreeing_calls.proofs.SetLemmas.{IsUnitOf, unit_at, no_refusal}
use Rattle.agreeing_calls.proofs.DummyLemmas.{dummies_are}

-- ROWS of what statements give, the last of each unit
last_none : (xs ys : List Refusal) → (xs ++ ys) ≡ [] → ys ≡ []
last_none xs ys none = (none_of_both xs ys none).1

given_none : (options : Options) (u : WrittenUnit) → all_unit_rows options u ≡ [] → unit_given_rows u ≡ []
unfolding all_unit_rows
given_none options u none =
    last_none (unit_expansion_rows u) (unit_given_rows u)
    (last_none (unit_length_rows u) _ (last_none (unit_reference_rows u) _ (last_none (unit_format_rows u) _ (last_none (unit_block_rows u (unit_read options u)) _
    (last_none (unit_order_rows u) _ (last_none (unit_undeclared_rows options u) _ (last_none (unit_rows options u) _ none)))))))

given_among : (options : Options) (us : List WrittenUnit) (u : WrittenUnit) → units_rows options us ≡ [] → IsIn u us → unit_given_rows u ≡ []
unfolding units_rows
given_among options [] u none is = elim is [ ]
given_among options (v ∷ us) _ none first_in = given_none options v (none_of_both (all_unit_rows options v) (units_rows options us) none).0
given_among options (v ∷ us) u none (later_in is) = given_among options us u (none_of_both (all_unit_rows options v) (units_rows options us) none).1 is

given_in_files : (options : Options) (fs : List File) (u : WrittenUnit) → files_rows options fs ≡ [] → IsIn u (all_units fs) → unit_given_rows u ≡ []
unfolding files_rows all_units
given_in_files options [] u none is = elim is [ ]
given_in_files options (f ∷ fs) u none is =
    let h = none_of_both (units_rows options f.units) (files_rows options fs) none in
    in_either u f.units (all_units fs) (unit_given_rows u ≡ []) is (λ among. given_among options f.units u h.0 among) (λ among. given_in_files options fs u h.1 among)

-- AN ENTRY that is found is one of the unit
entry_if : (x : Bytes) (first e : EntryPoint) (es : List EntryPoint) (b : Bool) → (if b then Some first else find (λ z. bytes_eq z.name x) es) ≡ Some e →
    (find (λ z. bytes_eq z.name x) es ≡ Some e → IsIn e es) → IsIn e (first ∷ es)
entry_if x first e es true is later = let same : first ≡ e = cc in subst (λ z. IsIn z (first ∷ es)) same first_in
entry_if x first e es false is later = later_in (later is)

found_in : (x : Bytes) (e : EntryPoint) (es : List EntryPoint) → find (λ z. bytes_eq z.name x) es ≡ Some e → IsIn e es
found_in x e [] is = absurd (cc)
found_in x e (first ∷ es) is = entry_if x first e es (bytes_eq first.name x) is (λ later. found_in x e es later)

entry_in_unit : (kind : UnitKind) (es : List EntryPoint) (x : Bytes) (e : EntryPoint) → entry_of kind es (Procedure x) ≡ Some e → IsIn e es
unfolding entry_of
entry_in_unit MainProgram [] x e is = absurd (cc)
entry_in_unit MainProgram (first ∷ es) x e is = found_in x e (first ∷ es) is
entry_in_unit SubroutineUnit es x e is = found_in x e es is
entry_in_unit FunctionUnit es x e is = found_in x e es is
entry_in_unit BlockDataUnit es x e is = found_in x e es is

-- THE DUMMY ARGUMENTS of a procedure of the set
read_dummies : (options : Options) (u : WrittenUnit) (e : EntryPoint) (x : Bytes) → unit_given_rows u ≡ [] → IsIn e (unit_read options u).entries →
    IsIn (Named x) e.formals → IsTrue (is_dummy ((unit_read options u).attribute x).class)
unfolding unit_read with_ties program_of given_names
read_dummies options u e x none among is =
    dummies_are u (record { name = name_or_none u.name; formals = formals_of u.dummies; start = 0 }) e x none refl among is

procedure_dummies : (options : Options) (fs : List File) (x : Bytes) (p : IsProcedure (map (unit_read options) (all_units fs)) x) → files_rows options fs ≡ [] →
    (y : Bytes) → IsIn (Named y) p.entry.formals → IsTrue (is_dummy (p.unit.attribute y).class)
procedure_dummies options fs x p none y is =
    let u : IsUnitOf options (all_units fs) p.unit = unit_at options (all_units fs) p.place p.unit p.unit_is in
    subst (λ q. IsTrue (is_dummy (q.attribute y).class)) (sym u.is)
    (read_dummies options u.written p.entry y (given_in_files options fs u.written none u.among)
    (subst (λ q. IsIn p.entry q.entries) u.is (entry_in_unit p.unit.kind p.unit.entries x p.entry p.entry_is)) is)

dummies_in : (options : Options) (fs : List File) (S : List ProgramUnit) (x : Bytes) (p : IsProcedure S x) → S ≡ map (unit_read options) (all_units fs) →
    files_rows options fs ≡ [] → (y : Bytes) → IsIn (Named y) p.entry.formals → IsTrue (is_dummy (p.unit.attribute y).class)
dummies_in options fs S x p same none =
    procedure_dummies options fs x
    (record {
      is_name = p.is_name;
      place = p.place;
      found = subst (λ T. found_from 0 T (Procedure x) ≡ Some p.place) same p.found;
      unit = p.unit;
      unit_is = subst (λ T. slice_get T p.place ≡ Some p.unit) same p.unit_is;
      entry = p.entry;
      entry_is = p.entry_is;
    }) none

-- A call that differs is none of such a run
only_length : (a b : Bool) → (a ≡ true → ⊥) → (a || b) ≡ true → b ≡ true
only_length true b never is = absurd (never refl)
only_length false b never is = is

pub refusals_of_length : EachCheckedRunAgrees → EachRefusedCallDiffers → EachRefusalIsOfLength
unfolding set_faults units_of facts_at
refusals_of_length checked refused options set lines g units n k v below w faults one_card found setting runs r =
    let S : List ProgramUnit = units_of options set in
    let formed : AreWellFormed g S = sets_formed options set g setting (λ q is. no_refusal q (files_rows options set.files) faults is) in
    only_length (differs r.procedure.unit r.procedure.entry r.passed.want r.passed.actuals) (length_differs r.procedure.unit r.procedure.entry r.passed.want r.passed.actuals)
    (λ amiss. checked options set lines g units n faults one_card found setting
    (subst (λ x. IsMismatched g S x) (sym runs)
    (at_call k v below w (record {
      name = r.name;
      named = r.named;
      direct = r.direct;
      procedure = r.procedure;
      waiting = r.waiting;
      ready = r.ready;
      passed = r.passed;
      calls = r.calls;
      amiss = amiss;
    }))))
    (refused (facts_at g r.procedure.place (Some r.procedure.unit)) (length g.sizes) r.name r.passed r.ready r.procedure.entry
    (formed.each r.procedure.place r.procedure.unit r.procedure.unit_is) r.procedure.entry_is
    (dummies_in options set.files S r.name r.procedure (units_alike options set.files) faults) r.refuses)
