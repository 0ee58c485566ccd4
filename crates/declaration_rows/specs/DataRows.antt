-- The rows that DATA statements break: F34 and F38. ANSI X3.9-1978, sections 9.1 to 9.3 (DATA), 8.3 and 16 (common blocks).
use Rattle.std.specs.Prelude.{ℕ, suc, ◌+◌, nat_eq, nat_lt, nat_le, pos, int_lt, Bool, true, false, not, ◌&&◌, List, [], ◌∷◌, ◌++◌, map, bytes_eq, Option, Some, None, if◌then◌else◌}
use Rattle.std.specs.List.{list_any}
use Rattle.fortran_text.specs.f_tree.declared.names.Basic.{Basic}
use Rattle.fortran_text.specs.f_tree.declared.names.Basic.TheVariants.{Integer, Logical, Character}
use Rattle.fortran_text.specs.f_tree.declared.refusals.Kind.TheVariants.{BadData, CommonInitialised}
use Rattle.fortran_text.specs.f_tree.declared.refusals.Refusal.{Refusal}
use Rattle.fortran_text.specs.f_tree.declared.expressions.Expr.{Expr}
use Rattle.fortran_text.specs.f_tree.declared.statements.DataGroup.{DataGroup}
use Rattle.fortran_text.specs.f_tree.declared.statements.DataValue.{DataValue}
use Rattle.fortran_text.specs.f_tree.declared.statements.ListItem.{ListItem}
use Rattle.fortran_text.specs.f_tree.declared.statements.UnitKind.{UnitKind}
use Rattle.fortran_text.specs.f_tree.declared.statements.UnitKind.TheVariants as kind
use Rattle.fortran_text.specs.f_tree.declared.statements.Stmt.{Stmt}
use Rattle.fortran_text.specs.f_tree.declared.units.Unit.{Unit as WrittenUnit}
use Rattle.fortran_text.specs.f_tree.Values.{Bytes, Spot, Datum, IsInt, IsLog, IsText, Checked, Gives, Fails}
use Rattle.fortran_text.specs.f_tree.Facts.{Block, Member, Home, ProgramUnit, Facts}
use Rattle.fortran_text.specs.f_tree.Valuing.{reduce}
use Rattle.fortran_text.specs.f_tree.Images.{all_places_in}
use Rattle.fortran_text.specs.f_tree.Attributes.{no_facts, no_frame, value_if_valued}
use Rattle.fortran_text.specs.f_tree.Lines.{Naming, is_character, is_stored, value_of, data_in, image_of}
use Rattle.fortran_text.specs.f_tree.Uses.{is_among, Use, uses_of_place}
use Rattle.declaration_rows.specs.Judgement.{unless}
use Rattle.declaration_rows.specs.NameRows.{stood}
use Rattle.declaration_rows.specs.PlacingRows.{Placing, Reached, reached_from, first_item, place_in}

-- THE HOMES OF A UNIT BY ITSELF: the sequence of a name goes by the first stored name that shares its storage.
unfoldable pub shares_with : Placing → Bytes → Bytes → Bool
shares_with p x y = list_any (λ (r : Reached). bytes_eq r.name y) (reached_from p.equations x)

unfoldable pub sequence_from : ℕ → Placing → Bytes → List Member → Option ℕ
sequence_from n p x [] = None
sequence_from n p x (m ∷ ms) = if shares_with p x m.name then Some n else sequence_from (suc n) p x ms

unfoldable pub home_by : Option ℕ → ℕ → Option Home
home_by None first = None
home_by (Some n) first = Some (record { sequence = n; first = first })

unfoldable pub home_in : Placing → ProgramUnit → Bytes → Option Home
home_in placing p x = if is_stored (p.attribute x) then home_by (sequence_from 0 placing x p.stored) (place_in placing x) else None

unfoldable pub placed : Placing → ProgramUnit → Facts
placed placing p = record { program = p; home = home_in placing p }

-- A VALUE FITS A PLACE of its type (9.1).
unfoldable pub fits_type : Basic → Datum → Bool
fits_type Integer (IsInt z) = true
fits_type Logical (IsLog b) = true
fits_type Character (IsText cs) = true
fits_type _ _ = false

unfoldable pub each_fits : List Spot → List Datum → Bool
each_fits [] [] = true
each_fits (p ∷ ps) (d ∷ ds) = fits_type p.basic d && each_fits ps ds
each_fits _ _ = false

-- How often a value stands is a constant above zero.
unfoldable pub is_positive : Option Datum → Bool
is_positive (Some (IsInt z)) = int_lt (pos 0) z
is_positive _ = false

unfoldable pub is_count : Naming → Option Expr → Bool
is_count names None = true
is_count names (Some e) = is_positive (value_if_valued (reduce no_facts no_frame [] [] (value_of names e)))

unfoldable pub are_counts : Naming → List DataValue → Bool
are_counts names [] = true
are_counts names (d ∷ ds) = is_count names d.count && are_counts names ds

-- TWO PLACES overlap where they have a unit in common.
unfoldable pub overlap : Spot → Spot → Bool
overlap p q = nat_eq p.sequence q.sequence && (nat_lt p.first (q.first + q.width) && nat_lt q.first (p.first + p.width))

unfoldable pub is_taken : List Spot → Spot → Bool
is_taken before p = list_any (overlap p) before

unfoldable pub none_taken : List Spot → List Spot → Bool
none_taken before [] = true
none_taken before (p ∷ ps) = not (is_taken before p) && none_taken (p ∷ before) ps

-- THE SIZE OF AN IMAGE: one unit for a numeric item, one for each character.
unfoldable pub most_units : ℕ
most_units = 1048576

unfoldable pub units_at : Spot → ℕ
units_at p = if is_character p.basic then p.width else 1

unfoldable pub units_of_spots : List Spot → ℕ
units_of_spots [] = 0
units_of_spots (p ∷ ps) = units_at p + units_of_spots ps

-- The places of a group, those of the groups before it being given, and whether the group is as it must be.
pub record Filled : Type 0 where
  pub spots : List Spot
  pub well : Bool

unfoldable pub filled_by : Naming → DataGroup → List Spot → List Datum → Checked (List Spot) → Filled
filled_by names g before values (Fails act) = record { spots = before; well = false }
filled_by names g before values (Gives spots) = record {
  spots = spots ++ before;
  well = each_fits spots values && (are_counts names g.values && (none_taken before spots && nat_le (units_of_spots (spots ++ before)) most_units));
}

unfoldable pub filled : Facts → Naming → List Spot → DataGroup → Filled
filled c names before g = filled_by names g before (image_of names g).values (all_places_in c [] (image_of names g).places)

unfoldable pub all_filled : Facts → Naming → List Spot → List DataGroup → Filled
all_filled c names before [] = record { spots = before; well = true }
all_filled c names before (g ∷ gs) =
    let f = filled c names before g in
    let rest = all_filled c names f.spots gs in
    record rest { well = f.well && rest.well }

unfoldable pub data_rows_from : Facts → Naming → List Spot → List Stmt → List Refusal
data_rows_from c names before [] = []
data_rows_from c names before (s ∷ ss) =
    let f = all_filled c names before (data_in s.body) in stood s (unless f.well BadData) ++ data_rows_from c names f.spots ss

-- COMMON: DATA speaks of no blank common, and of a named block in BLOCK DATA alone (9.1, 16.2).
unfoldable pub may_fill : UnitKind → Option Bytes → Bool
may_fill kind.BlockData (Some block) = true
may_fill _ block = false

unfoldable pub shares_block : Placing → Bytes → Block → Bool
shares_block p x b = list_any (λ (r : Reached). is_among r.name (first_item b)) (reached_from p.equations x)

-- the blocks that a name shares storage with
unfoldable pub blocks_with : Placing → Bytes → List Block → List Block
blocks_with p x [] = []
blocks_with p x (b ∷ bs) = (if shares_block p x b then b ∷ [] else []) ++ blocks_with p x bs

unfoldable pub may_fill_all : UnitKind → List Block → Bool
may_fill_all k [] = true
may_fill_all k (b ∷ bs) = may_fill k b.name && may_fill_all k bs

-- the names that DATA groups give values to, and those in their subscripts
unfoldable pub names_of_places : List ListItem → List Bytes
names_of_places [] = []
names_of_places (i ∷ is) = map (λ (v : Use). v.name) (uses_of_place i) ++ names_of_places is

unfoldable pub names_filled : List DataGroup → List Bytes
names_filled [] = []
names_filled (g ∷ gs) = names_of_places g.places ++ names_filled gs

unfoldable pub common_rows_from : WrittenUnit → Naming → Placing → List Stmt → List Refusal
common_rows_from u names p [] = []
common_rows_from u names p (s ∷ ss) =
    stood s (unless (not (list_any (λ x. is_stored (names x) && not (may_fill_all u.kind (blocks_with p x p.blocks))) (names_filled (data_in s.body)))) CommonInitialised)
    ++ common_rows_from u names p ss

unfoldable pub unit_data_rows : WrittenUnit → ProgramUnit → Placing → List Refusal
unit_data_rows u p placing =
    data_rows_from (placed placing p) p.attribute [] u.statements ++ common_rows_from u p.attribute placing u.statements

unfoldable pub data_rows_opened : Unit {0}
unfolding shares_with sequence_from home_by home_in placed fits_type each_fits is_positive is_count are_counts overlap is_taken none_taken most_units units_at units_of_spots filled_by filled all_filled data_rows_from may_fill shares_block blocks_with may_fill_all names_of_places names_filled common_rows_from unit_data_rows
data_rows_opened = tt
