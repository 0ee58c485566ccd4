-- What a table of names, a heading, the procedures of a set and a text tell those who write the steps of a unit. ANSI X3.9-1978, sections 4.1, 5.1, 5.3,
-- 5.5.1, 15 and 18.
use Rattle.std.specs.HashMap.{get_by}
use Rattle.std.specs.List.{list_any}
use Rattle.std.specs.Prelude.{◌≡◌, ℕ, zero, suc, nat_eq, ℤ, pos, Bool, true, false, ◌&&◌, List, [], ◌∷◌, map, Option, Some, None, option_map, is_some, slice_get, bytes_eq, if◌then◌else◌}
use Rattle.f_tree.specs.declared.names.Basic.{Basic}
use Rattle.f_tree.specs.declared.names.Class.{Class}
use Rattle.f_tree.specs.declared.names.Class.TheVariants as class
use Rattle.f_tree.specs.Values.{Bytes}
use Rattle.f_tree.specs.CNames.{variable_name, external_name}
use Rattle.c_emit.specs.Numbers.{is_variable}
use Rattle.lowered_text.specs.declared.text.LoweredText.{LoweredText}
use Rattle.name_facts.specs.declared.fact.Bound.{Bound}
use Rattle.name_facts.specs.declared.fact.NameFact.{NameFact}
use Rattle.name_facts.specs.declared.table.NameFacts.{NameFacts}
use Rattle.name_facts.specs.GivenFacts.{bounds_of, fact_in}
use Rattle.named_items.specs.Items.{by_name, through}
use Rattle.item_emission.specs.declared.known.Dimension.{Dimension}
use Rattle.item_emission.specs.declared.known.LowerBound.{LowerBound}
use Rattle.item_emission.specs.declared.known.LowerBound.TheVariants as low
use Rattle.item_emission.specs.declared.known.Size.{Size}
use Rattle.item_emission.specs.declared.known.Size.TheVariants as many
use Rattle.item_emission.specs.declared.known.Standing.{Standing}
use Rattle.item_emission.specs.declared.known.Giving.{Giving}
use Rattle.item_emission.specs.declared.known.Giving.TheVariants as giving
use Rattle.item_emission.specs.Agreeing.{dimension_of}
use Rattle.unit_item_laws.specs.AgreeingUnits.{standing_in}
use Rattle.item_emitter.specs.declared.known.Variable.{Variable}
use Rattle.item_emitter.specs.declared.known.Routine.{Routine}
use Rattle.item_emitter.specs.declared.known.Known.{Known}
use Rattle.item_emitter.specs.Knowing.{variable_in, routine_in}
use Rattle.unit_contents.specs.declared.contents.Listing.{Listing}
use Rattle.unit_contents.specs.declared.contents.Contents.{Contents}
use Rattle.unit_writer.specs.declared.heading.UnitRole.{UnitRole}
use Rattle.unit_writer.specs.declared.heading.UnitRole.TheVariants as role
use Rattle.unit_writer.specs.declared.heading.BoundKind.{BoundKind}
use Rattle.unit_writer.specs.declared.heading.BoundKind.TheVariants as bound
use Rattle.unit_writer.specs.declared.heading.KeptBound.{KeptBound}
use Rattle.unit_writer.specs.declared.heading.Heading.{Heading}
use Rattle.unit_writer.specs.declared.heading.Procedure.{Procedure}

-- ## Dimensions

unfoldable pub dimension_by : Bound → Dimension
dimension_by b = dimension_of (bounds_of b)

-- as it is written; what is not there counts as 0
unfoldable pub dimension_or : Option Bound → Dimension
dimension_or (Some b) = dimension_by b
dimension_or None = record { lower = low.Written (pos 0); size = many.Written 0 }

unfoldable pub is_same_kind : BoundKind → BoundKind → Bool
is_same_kind bound.Lower bound.Lower = true
is_same_kind bound.Size bound.Size = true
is_same_kind one other = false

-- is what is kept this bound of a dimension of an array
unfoldable pub is_bound : Bytes → ℕ → BoundKind → KeptBound → Bool
is_bound x place kind one = bytes_eq x one.dummy.now && (nat_eq place one.place && is_same_kind kind one.kind)

-- is a bound among those that are kept
unfoldable pub is_kept : List KeptBound → Bytes → ℕ → BoundKind → Bool
is_kept kept x place kind = list_any (is_bound x place kind) kept

unfoldable pub lower_told : Bool → LowerBound → LowerBound
lower_told true written = low.Kept
lower_told false written = written

unfoldable pub size_told : Bool → Size → Size
size_told true written = many.Kept
size_told false written = written

-- a dimension of an array, given what is kept and its constant bounds
abbrev pub dimension_told : List KeptBound → Bytes → List Bound → ℕ → Dimension
dimension_told kept x bounds place = record {
  lower = lower_told (is_kept kept x place bound.Lower) (dimension_or (slice_get bounds place)).lower;
  size = size_told (is_kept kept x place bound.Size) (dimension_or (slice_get bounds place)).size;
}

-- so many, from a place on
unfoldable pub dimensions_told : (ℕ → Dimension) → ℕ → ℕ → List Dimension
dimensions_told at place zero = []
dimensions_told at place (suc count) = at place ∷ dimensions_told at (suc place) count

-- ## Variables

-- what is seen of a name: whether it is a variable or an array, its type, its dimensions, and how it stands
pub record Seen : Type 0 where
  pub is_variable : Bool
  pub basic : Basic
  pub dimensions : List Dimension
  pub standing : Standing

unfoldable pub seen_of : Variable → Seen
seen_of v = record { is_variable = v.is_variable; basic = v.basic; dimensions = v.dimensions.items; standing = v.standing }

unfoldable pub seen_by : List KeptBound → Bytes → NameFact → Seen
seen_by kept x f = record { is_variable = is_variable f.class; basic = f.basic; dimensions = dimensions_told (dimension_told kept x f.bounds) 0 f.rank; standing = standing_in f.class }

-- what is seen of a name among some
unfoldable pub seen_among : NameFacts → List KeptBound → List Bytes → Bytes → Option Seen
seen_among table kept names x = if list_any (bytes_eq x) names then Some (seen_by kept x (fact_in table x)) else None

-- ## Procedures

-- a procedure that is called by its own name, where the set defines it, and whether it may be passed; and a dummy procedure
unfoldable pub routine_if : Bool → Bool → Bytes → Option Routine
routine_if true passed x = Some (record { callee = by_name (external_name x); is_passed = passed })
routine_if false passed x = None

abbrev pub dummy_routine : Bytes → Routine
dummy_routine x = record { callee = through (variable_name x); is_passed = true }

-- a name of a class, and whether the set defines the procedure of this name
unfoldable pub routine_by : Class → Bool → Bytes → Option Routine
routine_by class.DummyProcedure defined x = Some (dummy_routine x)
routine_by class.Procedure defined x = routine_if defined true x
routine_by class.Result defined x = routine_if defined false x
routine_by class.Unit defined x = routine_if defined false x
routine_by other defined x = None

abbrev pub routine_told : NameFacts → (Bytes → Option Procedure) → Bytes → Option Routine
routine_told table procedures x = routine_by (fact_in table x).class (is_some (procedures x)) x

-- what there is once a name is put, if it is this one and there is anything to put
unfoldable pub put_over : Bool → Option Routine → Option Routine → Option Routine
put_over true (Some routine) old = Some routine
put_over _ found old = old

-- what is known of the names of the unit and of the procedures of the set
abbrev pub routine_among : NameFacts → List Bytes → (Bytes → Option Procedure) → Bytes → Option Routine
routine_among table names procedures x =
    put_over (is_some (procedures x)) (routine_told table procedures x) (put_over (list_any (bytes_eq x) names) (routine_told table procedures x) None)

-- ## The whole

-- what END and RETURN give in a unit of this name
unfoldable pub giving_told : UnitRole → Bytes → Giving
giving_told role.Main x = giving.Zero
giving_told role.Subroutine x = giving.Alternate
giving_told role.Function x = giving.Value x

abbrev pub step_of_list : Listing → ℕ
step_of_list l = l.step

pub record Tells (table : NameFacts) (names : List Bytes) (heading : Heading) (procedures : Bytes → Option Procedure) (values : List ℤ) (t : LoweredText) (c : Contents) (k : Known) : Type 0 where
  pub variables : (x : Bytes) → option_map seen_of (variable_in k x) ≡ seen_among table heading.bounds.items names x
  pub routines : (x : Bytes) → routine_in k x ≡ routine_among table names procedures x
  pub gives : k.gives ≡ giving_told heading.role heading.name.now
  pub temporaries : k.temporaries ≡ c.temporaries
  pub constants : k.constants.items ≡ values
  pub lists : k.lists.items ≡ map step_of_list c.lists.items
  pub labels : (label : ℕ) → get_by (nat_eq label) k.labels ≡ get_by (nat_eq label) t.labels

unfoldable pub told_opened : Unit {0}
unfolding dimension_by dimension_or is_same_kind is_bound is_kept lower_told size_told dimensions_told seen_of seen_by seen_among routine_if routine_by put_over giving_told
told_opened = tt
