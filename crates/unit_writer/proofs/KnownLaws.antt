-- What is known of a unit is what it says, with its text and its contents.
use Rattle.std.specs.HashMap.{get_by}
use Rattle.std.specs.List.{list_any}
use Rattle.std.specs.Ordering.{int_eq}
use Rattle.std.specs.Prelude.{◌≡◌, ℕ, ◌≤◌, nat_eq, ℤ, Bool, true, false, not, ◌&&◌, List, [], ◌∷◌, map, length, position, bytes_eq, Option, Some, None, option_map, is_some, if◌then◌else◌}
use Rattle.std.proofs.Common.{refl, sym, ap, subst, ◌∙◌, arith}
use Rattle.f_tree.specs.Values.{Bytes}
use Rattle.f_tree.specs.Facts as fact
use Rattle.f_tree.specs.Facts.{Attribute, EntryPoint, ProgramUnit}
use Rattle.c_emit.specs.Numbers.{is_variable, is_numeric, has_shape}
use Rattle.main_translation.specs.main_file.MainFile as main
use Rattle.unit_translation.specs.unit_file.UnitFile.{Inventory, place_of_constant, place_of_list}
use Rattle.unit_translation.specs.UnitContents.{LoweredUnit, inventory_of, whole_text}
use Rattle.lowered_text.specs.declared.text.LoweredText.{LoweredText}
use Rattle.lowered_text.specs.Texts.{IsText}
use Rattle.name_facts.specs.declared.fact.NameFact.{NameFact}
use Rattle.name_facts.specs.declared.table.NameFacts.{NameFacts}
use Rattle.name_facts.specs.GivenFacts.{IsNameFact, fact_in}
use Rattle.item_emission.specs.declared.known.Dimension.{Dimension}
use Rattle.item_emission.specs.declared.known.Giving.TheVariants as giving
use Rattle.item_emission.specs.Agreeing.{dimension_of}
use Rattle.unit_item_laws.specs.AgreeingUnits.{dimension_in, giving_of_unit, result_in, standing_in}
use Rattle.named_units.specs.NamedUnits.{known_for}
use Rattle.item_emission.specs.NamedEmission.{dimension_at, procedure_passed}
use Rattle.item_emitter.specs.declared.known.Variable.{Variable}
use Rattle.item_emitter.specs.declared.known.Known.{Known}
use Rattle.item_emitter.specs.Knowing.{variable_in, routine_in, has_dimensions, is_number, is_numbers, basic_of, dimensions_of, standing_of, is_passed, known_of}
use Rattle.unit_contents.specs.declared.contents.Contents.{Contents}
use Rattle.unit_contents.specs.ContentsOf.{AreContents}
use Rattle.unit_writer.specs.declared.heading.UnitRole.{UnitRole}
use Rattle.unit_writer.specs.declared.heading.UnitRole.TheVariants as role
use Rattle.unit_writer.specs.declared.heading.KeptBound.{KeptBound}
use Rattle.unit_writer.specs.declared.heading.Heading.{Heading}
use Rattle.unit_writer.specs.declared.heading.Procedure.{Procedure}
use Rattle.unit_writer.specs.Told.{Seen, Tells, dimension_told, dimensions_told, giving_told, seen_of, seen_by, seen_among}
use Rattle.unit_writer.specs.ToldUnits.{IsNoName, IsToldUnit, TellsProcedures, bound_told, kind_told}
use Rattle.unit_writer.proofs.DimensionLaws.{NoneBehind, behind_all, dimension_seen, past_all}
use Rattle.unit_writer.proofs.KeptPlaces.{none_kept}
use Rattle.unit_writer.proofs.KnownItems.{with_passed}
use Rattle.unit_writer.proofs.OptionForms.{none_some, nothing_one, one_same, some_none, some_same}
use Rattle.unit_writer.proofs.PlaceLemmas.{any_position, listed_position}
use Rattle.unit_writer.proofs.RoutineLaws.{IsRoutine, function_found, routine_case}

-- ## Names

-- what is found of a name is what it is
record IsSeen (v : Inventory) (x : Bytes) (a : Attribute) (found : Option Variable) : Type 0 where
  number : is_number found ≡ (is_variable a.class && is_numeric a.basic && not (has_shape a.dimensions))
  numbers : is_numbers found ≡ (is_variable a.class && is_numeric a.basic && has_shape a.dimensions)
  basic : basic_of found ≡ a.basic
  dimension : (k : ℕ) → dimension_at (dimensions_of found) k ≡ dimension_in v x k (dimension_at (map dimension_of a.bounds) k)
  standing : standing_of found ≡ standing_in a.class

all_three : (a b c : Bool) → (a && (b && c)) ≡ (a && b && c)
all_three true b c = refl
all_three false b c = refl

has_told : (at : ℕ → Dimension) (ds : List fact.Dimension) → has_dimensions (dimensions_told at 0 (length ds)) ≡ has_shape ds
unfolding has_dimensions has_shape dimensions_told
has_told at [] = refl
has_told at (d ∷ ds) = refl

seen_some : (v : Inventory) (x : Bytes) (kept : List KeptBound) (one : Variable) (f : NameFact) (a : Attribute) → map bound_told kept ≡ v.bounds → seen_of one ≡ seen_by kept x f → IsNameFact a f
    → NoneBehind v x a → length a.bounds ≤ length a.dimensions → IsSeen v x a (Some one)
unfolding seen_of seen_by is_number is_numbers basic_of dimensions_of standing_of
seen_some v x kept one f a bounds same is none few =
    let kind : one.is_variable ≡ is_variable a.class = ap (λ (s : Seen). s.is_variable) same ∙ ap is_variable is.class in
    let basic : one.basic ≡ a.basic = ap (λ (s : Seen). s.basic) same ∙ is.basic in
    let dimensions : one.dimensions.items ≡ dimensions_told (dimension_told kept x f.bounds) 0 f.rank = ap (λ (s : Seen). s.dimensions) same in
    let some : has_dimensions one.dimensions.items ≡ has_shape a.dimensions =
    ap has_dimensions dimensions ∙ ap (λ n. has_dimensions (dimensions_told (dimension_told kept x f.bounds) 0 n)) is.rank ∙ has_told (dimension_told kept x f.bounds) a.dimensions in
    let number : (one.is_variable && (is_numeric one.basic && not (has_dimensions one.dimensions.items))) ≡ (is_variable a.class && (is_numeric a.basic && not (has_shape a.dimensions))) =
    λ i. kind i && (is_numeric (basic i) && not (some i)) in
    let numbers : (one.is_variable && (is_numeric one.basic && has_dimensions one.dimensions.items)) ≡ (is_variable a.class && (is_numeric a.basic && has_shape a.dimensions)) =
    λ i. kind i && (is_numeric (basic i) && some i) in
    record {
      number = number ∙ all_three (is_variable a.class) (is_numeric a.basic) (not (has_shape a.dimensions));
      numbers = numbers ∙ all_three (is_variable a.class) (is_numeric a.basic) (has_shape a.dimensions);
      basic = basic;
      dimension = dimension_seen v x a kept f one.dimensions.items bounds is none few dimensions;
      standing = ap (λ (s : Seen). s.standing) same ∙ ap standing_in is.class;
    }

seen_none : (v : Inventory) (x : Bytes) (a : Attribute) → NoneBehind v x a → length a.bounds ≤ length a.dimensions → IsNoName a → IsSeen v x a None
unfolding is_variable is_number is_numbers basic_of dimensions_of standing_of standing_in
seen_none v x a behind few none = record {
  number = sym (ap (λ c. is_variable c && is_numeric a.basic && not (has_shape a.dimensions)) none.class);
  numbers = sym (ap (λ c. is_variable c && is_numeric a.basic && has_shape a.dimensions) none.class);
  basic = sym none.basic;
  dimension = λ k. past_all [] k (omega arith) ∙ behind_all v x a k behind few (let size : length a.dimensions ≡ 0 = ap length none.dimensions in omega arith);
  standing = sym (ap standing_in none.class);
}

seen_case : (v : Inventory) (x : Bytes) (kept : List KeptBound) (a : Attribute) (f : NameFact) (among : Bool) (found : Option Variable) → map bound_told kept ≡ v.bounds
    → option_map seen_of found ≡ (if among then Some (seen_by kept x f) else None) → IsNameFact a f → NoneBehind v x a → length a.bounds ≤ length a.dimensions → (among ≡ false → IsNoName a)
    → IsSeen v x a found
seen_case v x kept a f true None bounds is fact none few other = absurd (none_some (seen_by kept x f) is)
seen_case v x kept a f true (Some one) bounds is fact none few other = seen_some v x kept one f a bounds (some_same is) fact none few
seen_case v x kept a f false None bounds is fact none few other = seen_none v x a none few (other refl)
seen_case v x kept a f false (Some one) bounds is fact none few other = absurd (some_none (seen_of one) is)

-- ## The heading

other_entries : {A : Type 0} (x y : A) (xs : List A) (z : A) → x ∷ y ∷ xs ≡ z ∷ [] → ⊥
other_entries x y xs z h = cc

-- an entry that stands alone, with its name
pub alone : (entries : List EntryPoint) (x : Bytes) → map (λ (entry : EntryPoint). entry.name) entries ≡ x ∷ [] → (entry : EntryPoint) × (entries ≡ entry ∷ []) × (entry.name ≡ x)
alone [] x h = absurd (nothing_one x h)
alone (entry ∷ []) x h = (entry, refl, one_same entry.name x h)
alone (entry ∷ other ∷ later) x h = absurd (other_entries entry.name other.name (map (λ (e : EntryPoint). e.name) later) x h)

given_by : (r : UnitRole) (entries : List EntryPoint) (x : Bytes) → map (λ (entry : EntryPoint). entry.name) entries ≡ x ∷ [] → giving_told r x ≡ giving_of_unit (kind_told r) entries
unfolding giving_told giving_of_unit kind_told result_in
given_by role.Main entries x h = refl
given_by role.Subroutine entries x h = refl
given_by role.Function entries x h =
    let one = alone entries x h in
    ap giving.Value (sym one.2) ∙ sym (ap result_in one.1)

-- ## The whole

module _ (table : NameFacts) (names : List Bytes) (heading : Heading) (procedures : Bytes → Option Procedure) (constants : List ℤ) (t : LoweredText) (c : Contents) (k : Known) (us : List LoweredUnit)
    (u : LoweredUnit) (tells : Tells table names heading procedures constants t c k) (program : u.text.facts.program ≡ u.unit) (told : IsToldUnit table names heading u) (given : TellsProcedures us procedures)
    (text : IsText t (whole_text u)) (contents : AreContents (whole_text u) c) where
  fact_there : (x : Bytes) → IsNameFact (u.text.facts.program.attribute x) (fact_in table x)
  fact_there x = subst (λ (p : ProgramUnit). IsNameFact (p.attribute x) (fact_in table x)) (sym program) (told.facts x)

  other_there : (x : Bytes) → list_any (bytes_eq x) names ≡ false → IsNoName (u.text.facts.program.attribute x)
  other_there x none = subst (λ (p : ProgramUnit). IsNoName (p.attribute x)) (sym program) (told.others x none)

  seen_own : (x : Bytes) → IsSeen (inventory_of us u) x (u.unit.attribute x) (variable_in k x)
  unfolding seen_among
  seen_own x =
      seen_case (inventory_of us u) x heading.bounds.items (u.unit.attribute x) (fact_in table x) (list_any (bytes_eq x) names) (variable_in k x) told.bounds (tells.variables x) (told.facts x)
      (λ place past kind. none_kept x place kind u.unit past) (told.few x) (told.others x)

  seen : (x : Bytes) → IsSeen (inventory_of us u) x (u.text.facts.program.attribute x) (variable_in k x)
  seen x = subst (λ (p : ProgramUnit). IsSeen (inventory_of us u) x (p.attribute x) (variable_in k x)) (sym program) (seen_own x)

  routine_there : (x : Bytes) → IsRoutine us x (u.text.facts.program.attribute x).class (routine_in k x)
  routine_there x =
      let class_is : (fact_in table x).class ≡ (u.text.facts.program.attribute x).class = (fact_there x).class in
      let among : IsRoutine us x (fact_in table x).class (routine_in k x) =
      subst (IsRoutine us x (fact_in table x).class) (sym (tells.routines x))
      (routine_case us x (fact_in table x).class (is_some (procedures x)) (list_any (bytes_eq x) names) (λ none. class_is ∙ (other_there x none).class) (function_found us x procedures given)) in
      subst (λ cl. IsRoutine us x cl (routine_in k x)) class_is among

  has_constant : (z : ℤ) → list_any (int_eq z) k.constants.items ≡ is_some (place_of_constant constants z)
  has_constant z = ap (list_any (int_eq z)) tells.constants ∙ any_position (int_eq z) constants

  list_place : (n : ℕ) → position (nat_eq n) k.lists.items ≡ place_of_list (inventory_of us u) n
  list_place n = ap (position (nat_eq n)) tells.lists ∙ listed_position n c.lists.items ∙ ap (position (λ (l : main.Listing). nat_eq n l.step)) contents.lists

  gives_same : k.gives ≡ giving_of_unit u.text.facts.program.kind u.text.facts.program.entries
  gives_same =
      tells.gives ∙ given_by heading.role u.unit.entries heading.name.now told.entries ∙ ap (λ kind. giving_of_unit kind u.unit.entries) (sym told.kind)
      ∙ ap (λ (p : ProgramUnit). giving_of_unit p.kind p.entries) (sym program)

  label_place : (l : ℕ) → get_by (nat_eq l) k.labels ≡ (whole_text u).position l
  label_place l = tells.labels l ∙ text.labels l

  temporaries_same : k.temporaries ≡ (inventory_of us u).temporaries
  temporaries_same = tells.temporaries ∙ contents.temporaries

  abbrev pub passes : Bytes → Bool
  passes x = is_passed (routine_in k x)

  pub passes_same : (x : Bytes) → procedure_passed (passes x) ((known_for constants us u).routine x) ≡ procedure_passed ((known_for constants us u).is_procedure x) ((known_for constants us u).routine x)
  passes_same x = (routine_there x).passed

  pub known_agrees : known_of k ≡ with_passed (known_for constants us u) passes
  known_agrees = λ i. record {
    is_scalar = λ x. (seen x).number i;
    is_array = λ x. (seen x).numbers i;
    basic = λ x. (seen x).basic i;
    dimension = λ x place. (seen x).dimension place i;
    standing = λ x. (seen x).standing i;
    is_procedure = passes;
    routine = λ x. (routine_there x).callee i;
    temporaries = temporaries_same i;
    has = λ z. has_constant z i;
    list = λ n. list_place n i;
    label = λ l. label_place l i;
    gives = gives_same i;
  }
