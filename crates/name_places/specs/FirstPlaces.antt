-- Where a name stands first in the statements of a unit, in some sort of statement, by the number of the statement.
use Rattle.std.specs.Prelude.{◌≡◌, ℕ, suc, max, Bool, true, false, List, [], ◌∷◌, ◌++◌, map, Option, Some, None, option_map, slice_get, if◌then◌else◌}
use Rattle.f_tree.specs.declared.names.Class.{Class}
use Rattle.f_tree.specs.declared.names.Class.TheVariants as class
use Rattle.f_tree.specs.declared.refusals.Kind.{Kind}
use Rattle.f_tree.specs.declared.refusals.Refusal.{Refusal}
use Rattle.f_tree.specs.declared.statements.Body.{Body}
use Rattle.f_tree.specs.declared.statements.ConstantDefinition.{ConstantDefinition}
use Rattle.f_tree.specs.declared.statements.Stmt.{Stmt}
use Rattle.f_tree.specs.declared.units.Unit.{Unit as WrittenUnit}
use Rattle.f_tree.specs.Values.{Bytes}
use Rattle.f_tree.specs.Uses.{Use, is_among, uses_of_body}
use Rattle.f_tree.specs.Attributes.{Shaped, shaped_in, constants_in, external_in, called, arrays_of}
use Rattle.declaration_rows.specs.NameRows.{mentions, declares, fixes}
use Rattle.name_table.specs.declared.NameTable.{NameTable}
use Rattle.name_table.specs.Named.{value_of}
use Rattle.name_places.specs.declared.place.Place.{Place}
use Rattle.name_places.specs.declared.places.NamePlaces.{NamePlaces}

-- the first of the statements of some sort
unfoldable pub first_at : (Body → Bool) → List Stmt → Option ℕ
first_at test [] = None
first_at test (s ∷ ss) = if test s.body then Some 0 else option_map (λ k. suc k) (first_at test ss)

-- A TABLE OF PLACES: the place of a name that has one stays
unfoldable pub first_or : Option ℕ → Bool → ℕ → Option ℕ
first_or (Some k) there at = Some k
first_or None true at = Some at
first_or None false at = None

unfoldable pub noted : ℕ → NameTable ℕ → List Bytes → Bytes → Option ℕ
noted at table names q = first_or (value_of table q) (is_among q names) at

pub record Notes (at : ℕ) (old new : NameTable ℕ) (names : List Bytes) : Type 0 where
  pub has : (q : Bytes) → value_of new q ≡ noted at old names q

-- NAMES OF A STATEMENT
unfoldable pub use_names : List Use → List Bytes
use_names us = map (λ (u : Use). u.name) us

unfoldable pub called_names : List Use → List Bytes
called_names [] = []
called_names (u ∷ us) = if called u.manner then u.name ∷ called_names us else called_names us

unfoldable pub mentioned_in : List Bytes → Body → List Bytes
mentioned_in arrays b = use_names (uses_of_body arrays b)

unfoldable pub declared_in : Body → List Bytes
declared_in b = map (λ (s : Shaped). s.name) (shaped_in b)

unfoldable pub fixed_in : Body → List Bytes
fixed_in b = map (λ (d : ConstantDefinition). d.name) (constants_in b)

unfoldable pub procedures_in : List Bytes → Body → List Bytes
procedures_in arrays b = external_in b ++ called_names (uses_of_body arrays b)

pub record NotesStatement (arrays : List Bytes) (at : ℕ) (old new : NamePlaces) (b : Body) : Type 0 where
  pub mentioned : Notes at old.mentioned new.mentioned (mentioned_in arrays b)
  pub declared : Notes at old.declared new.declared (declared_in b)
  pub fixed : Notes at old.fixed new.fixed (fixed_in b)
  pub procedures : Notes at old.procedures new.procedures (procedures_in arrays b)

pub record AreFirst (arrays : List Bytes) (ss : List Stmt) (places : NamePlaces) : Type 0 where
  pub mentioned : (q : Bytes) → value_of places.mentioned q ≡ first_at (λ b. is_among q (mentioned_in arrays b)) ss
  pub declared : (q : Bytes) → value_of places.declared q ≡ first_at (λ b. is_among q (declared_in b)) ss
  pub fixed : (q : Bytes) → value_of places.fixed q ≡ first_at (λ b. is_among q (fixed_in b)) ss
  pub procedures : (q : Bytes) → value_of places.procedures q ≡ first_at (λ b. is_among q (procedures_in arrays b)) ss

-- what makes a name of a class something that has no dimensions
unfoldable pub makes_by : WrittenUnit → Bytes → Class → Body → Bool
makes_by u x class.Constant b = fixes x b
makes_by u x class.DummyProcedure b = is_among x (procedures_in (arrays_of u) b)
makes_by u x _ b = true

-- the places are those of the names of a unit
pub record ArePlaces (u : WrittenUnit) (places : NamePlaces) : Type 0 where
  pub mentioned : (q : Bytes) → value_of places.mentioned q ≡ first_at (mentions u q) u.statements
  pub declared : (q : Bytes) → value_of places.declared q ≡ first_at (declares q) u.statements
  pub fixed : (q : Bytes) → value_of places.fixed q ≡ first_at (fixes q) u.statements
  pub procedures : (q : Bytes) → value_of places.procedures q ≡ first_at (makes_by u q class.DummyProcedure) u.statements

-- WHERE A ROW STANDS
unfoldable pub unit_place : WrittenUnit → Place
unit_place u = record { file = u.file; card = u.card }

unfoldable pub statement_place : WrittenUnit → Option Stmt → Place
statement_place u None = unit_place u
statement_place u (Some s) = record { file = s.file; card = s.card }

unfoldable pub placed : WrittenUnit → List Stmt → Option ℕ → Place
placed u ss None = unit_place u
placed u ss (Some k) = statement_place u (slice_get ss k)

unfoldable pub rows_at : Place → List Kind → List Refusal
rows_at place kinds = map (λ (k : Kind). record { file = place.file; card = place.card; kind = k }) kinds

-- the later of two places
unfoldable pub later : Option ℕ → Option ℕ → Option ℕ
later (Some one) (Some other) = Some (max one other)
later _ _ = None
