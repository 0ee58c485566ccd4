-- What the table of a unit's names tells of the unit as the meaning takes it.
use Rattle.std.specs.List.{list_any, flat_map}
use Rattle.std.specs.Prelude.{◌≡◌, Bool, true, false, ◌&&◌, List, [], ◌∷◌, map, bytes_eq, None, if◌then◌else◌}
use Rattle.std.proofs.Common.{refl, sym, ap, ◌∙◌}
use Rattle.std.proofs.lemmas.Bool.{and_parts, or_left, or_right}
use Rattle.std.proofs.lemmas.Slice.Eq.{bytes_eq-Decides}
use Rattle.f_tree.specs.declared.names.Class.{Class}
use Rattle.f_tree.specs.declared.names.Class.TheVariants as class
use Rattle.f_tree.specs.declared.names.Options.{Options}
use Rattle.f_tree.specs.declared.units.Unit.{Unit as GivenUnit}
use Rattle.f_tree.specs.Values.{Bytes}
use Rattle.f_tree.specs.Facts.{Attribute, Member, EntryPoint}
use Rattle.f_tree.specs.Uses.{Use, is_among}
use Rattle.f_tree.specs.Attributes.{Constant, Expansion, bare, attribute_in, attribute_of, described, all_described}
use Rattle.f_tree.specs.Reading.{name_or_none}
use Rattle.f_tree.specs.Lines.{is_stored, stored_among, formals_of, entries_from, program_of, with_ties, unit_kind, unit_read}
use Rattle.declaration_rows.specs.NameRows.{given_names, all_names}
use Rattle.name_facts.specs.declared.table.NameFacts.{NameFacts}
use Rattle.name_facts.specs.GivenFacts.{AreNameFacts, IsNameFact, fact_in}
use Rattle.expression_lowering.specs.TableNames.{AreFactsOf}
use Rattle.unit_lowering.specs.open_loops.ReadLines.{IsReadAs}
use Rattle.decl_table.proofs.FactLemmas.{attribute-among}
use Rattle.faithful.specs.Signatures.{named_formals}
use Rattle.lowered_tree.specs.l_core.Steps.{Text}
use Rattle.unit_forms.specs.plain_forms.PlainUnits.{has_none, has_own_storage, has_plain_lines}
use Rattle.unit_forms.specs.PlainProcedures.{may_run, heading_fits, has_no_entries, has_plain_heading, each_name_is_plain, is_plain_unit}
use Rattle.unit_translation.specs.UnitBounds.{formals_in, array_kept, bounds_kept}
use Rattle.unit_translation.specs.UnitContents.{parameters_in}
use Rattle.unit_writer.specs.declared.heading.Heading.{Heading}
use Rattle.unit_writer.specs.ToldUnits.{is_stored_class, stored_names, IsNoName, IsToldUnit}
use Rattle.translator.specs.UnitFiles.{use_in, dummy_in, kept_among, IsHeading}
use Rattle.translator.proofs.NameLemmas.{among_any, formals_named}
use Rattle.translator.proofs.TestLemmas.{no_entries}
use Rattle.translator.proofs.FewBounds.{few-bounds}

-- the table tells what the names of the unit are
pub facts_given : (u : GivenUnit) (table : NameFacts) → AreNameFacts u table → AreFactsOf (given_names u) table
facts_given u table are = record { facts = are.facts }

-- the unit's lines are what is read of its statements
pub lines_read : (options : Options) (u : GivenUnit) → IsReadAs (unit_read options u) options.onetrip (given_names u) u.statements
unfolding unit_read with_ties program_of given_names
lines_read options u = record { onetrip = refl; lines = refl }

-- ## Names that the unit does not have

bare_is_none : (a : Attribute) → a ≡ bare class.Unit None → IsNoName a
unfolding bare
bare_is_none a is = record { class = ap (λ (b : Attribute). b.class) is; basic = ap (λ (b : Attribute). b.basic) is; dimensions = ap (λ (b : Attribute). b.dimensions) is; bounds = ap (λ (b : Attribute). b.bounds) is }

-- ## Stored names

stored_class : (k : Class) → (elim k [ class.Stored ↦ true | _ ↦ false ]) ≡ is_stored_class k
unfolding is_stored_class
stored_class class.Stored = refl
stored_class _ = refl

stored_by_class : (a : Attribute) (k : Class) → k ≡ a.class → is_stored a ≡ is_stored_class k
unfolding is_stored
stored_by_class a k is = stored_class a.class ∙ ap is_stored_class (sym is)

abbrev names_in : List Member → List Bytes
names_in ms = map (λ (m : Member). m.name) ms

kept_by : (b c : Bool) (m : Member) (ms : List Member) (xs : List Bytes) → b ≡ c → names_in ms ≡ xs → names_in (if b then m ∷ ms else ms) ≡ (if c then m.name ∷ xs else xs)
kept_by true c m ms xs is same = ap (λ ys. m.name ∷ ys) same ∙ ap (λ (d : Bool). if d then m.name ∷ xs else xs) is
kept_by false c m ms xs is same = same ∙ ap (λ (d : Bool). if d then m.name ∷ xs else xs) is

same_bytes : (x : Bytes) → bytes_eq x x ≡ true
same_bytes x = (bytes_eq-Decides x x).1 refl

module _ (table : NameFacts) (u : GivenUnit) (uses : List Use) (cs : List Constant) (es : List Expansion) where
  abbrev HaveClasses : List Bytes → Type 0
  HaveClasses xs = (x : Bytes) → is_among x xs ≡ true → (fact_in table x).class ≡ (attribute_of u uses cs es x).class

  stored_described : (xs : List Bytes) → HaveClasses xs → names_in (stored_among (described u uses cs es xs)) ≡ stored_names table xs
  unfolding described stored_among stored_names is_among
  stored_described [] have = refl
  stored_described (x ∷ xs) have =
      kept_by (is_stored (attribute_of u uses cs es x)) (is_stored_class (fact_in table x).class) _ (stored_among (described u uses cs es xs)) (stored_names table xs)
      (stored_by_class (attribute_of u uses cs es x) (fact_in table x).class (have x (or_left (bytes_eq x x) (is_among x xs) (same_bytes x))))
      (stored_described xs (λ y among. have y (or_right (bytes_eq y x) (is_among y xs) among)))

  class_among : (xs : List Bytes) → ((x : Bytes) → IsNameFact (attribute_in (described u uses cs es xs) x) (fact_in table x)) → HaveClasses xs
  class_among xs facts x among =
      (facts x).class ∙ ap (λ (a : Attribute). a.class) (attribute-among u uses cs es xs x ∙ ap (λ (b : Bool). if b then attribute_of u uses cs es x else bare class.Unit None) among)

  none_among : (xs : List Bytes) (x : Bytes) → list_any (bytes_eq x) xs ≡ false → IsNoName (attribute_in (described u uses cs es xs) x)
  none_among xs x other =
      bare_is_none (attribute_in (described u uses cs es xs) x)
      (attribute-among u uses cs es xs x ∙ ap (λ (b : Bool). if b then attribute_of u uses cs es x else bare class.Unit None) (among_any x xs ∙ other))

-- ## The whole

module _ (options : Options) (u : GivenUnit) (plain : is_plain_unit options u ≡ true) where
  abbrev after_entries : Bool
  after_entries = has_own_storage u && (has_plain_heading u && (has_plain_lines (unit_read options u) && each_name_is_plain u))

  may : may_run (unit_kind u) ≡ true
  unfolding is_plain_unit
  may = (and_parts (may_run (unit_kind u)) (heading_fits (unit_kind u) u.dummies && (has_no_entries u && after_entries)) plain).0

  one_entry : entries_from 0 u.statements ≡ []
  unfolding is_plain_unit has_no_entries
  one_entry =
      no_entries (entries_from 0 u.statements)
      (and_parts (has_none (entries_from 0 u.statements)) after_entries
      (and_parts (heading_fits (unit_kind u) u.dummies) (has_no_entries u && after_entries)
      (and_parts (may_run (unit_kind u)) (heading_fits (unit_kind u) u.dummies && (has_no_entries u && after_entries)) plain).1).1).0

  abbrev own_entry : EntryPoint
  own_entry = record { name = name_or_none u.name; formals = formals_of u.dummies; start = 0 }

  -- what it keeps of its dummies
  pub bounds_read : bounds_kept (unit_read options u) ≡ kept_among u u.dummies
  unfolding unit_read with_ties program_of given_names bounds_kept formals_in kept_among
  bounds_read =
      ap (λ es. flat_map (λ x. array_kept x (given_names u x)) (named_formals (formals_in (own_entry ∷ es)))) one_entry
      ∙ ap (flat_map (λ x. array_kept x (given_names u x))) (formals_named u.dummies)

  -- the table and the heading tell of the unit what its function is written from
  pub unit_told : (table : NameFacts) (heading : Heading) (text : Text) → AreNameFacts u table → IsHeading u heading
      → IsToldUnit table (all_names u) heading (record { unit = unit_read options u; text = text; use_of = use_in u })
  unfolding unit_read with_ties program_of given_names all_names all_described parameters_in formals_in
  unit_told table heading text are is = record {
    kind = is.role may;
    entries = ap (λ es. map (λ (entry : EntryPoint). entry.name) (own_entry ∷ es)) one_entry ∙ ap (λ x. x ∷ []) (sym is.name);
    dummies =
        is.dummies ∙ ap (map (dummy_in u)) (sym (formals_named u.dummies))
        ∙ ap (λ es. map (dummy_in u) (named_formals (formals_in (own_entry ∷ es)))) (sym one_entry);
    facts = are.facts;
    others = λ x other. none_among table u _ _ _ (all_names u) x other;
    few = few-bounds options u;
    bounds = is.bounds ∙ sym bounds_read;
    stored = stored_described table u _ _ _ (all_names u) (class_among table u _ _ _ (all_names u) are.facts);
  }
