-- That a written unit for which the test computes to true is what the law of units that call each other asks for, its lowered text aside.
-- ANSI X3.9-1978, sections 2.4, 4.1, 5.1, 5.5, 8, 9, 11.10 and 15.
use Rattle.std.specs.Prelude.{◌≡◌, ◌≢◌, ℕ, true, List, [], ◌∷◌}
use Rattle.plain_mains.specs.f_tree.declared.names.Options.{Options}
use Rattle.plain_mains.specs.f_tree.declared.units.Unit.{Unit as GivenUnit}
use Rattle.plain_mains.specs.f_tree.Values.{Bytes}
use Rattle.plain_mains.specs.f_tree.Facts.{Formal, MainProgram, BlockDataUnit}
use Rattle.plain_mains.specs.f_tree.Uses.{uses_of_statements}
use Rattle.plain_mains.specs.f_tree.Attributes.{arrays_of}
use Rattle.plain_mains.specs.f_tree.Lines.{unit_read}
use Rattle.plain_mains.specs.lowering_laws.Layout.{are_direct, has_end, LoopsFit}
use Rattle.plain_mains.specs.faithful.Signatures.{dummy_of}
use Rattle.unit_translation_laws.specs.unit_forms.PlainProcedures.{is_plain_unit}
use Rattle.unit_translation_laws.specs.unit_translation.UnitContents.{LoweredUnit}
use Rattle.unit_translation_laws.specs.PlainUnits.{HasPlainDummies, HasPlainResult, HasPlainStorage, HasPlainBounds}

-- what is asked of a unit among several, besides its lowered text
pub record HasPlainParts (us : List LoweredUnit) (j : ℕ) (u : LoweredUnit) : Type 0 where
  pub direct : are_direct u.unit.lines ≡ true
  pub ended : has_end u.unit.lines ≡ true
  pub loops : LoopsFit u.unit
  pub runs : u.unit.kind ≢ BlockDataUnit
  pub name : Bytes
  pub formals : List Formal
  pub entry : u.unit.entries ≡ record { name = name; formals = formals; start = 0 } ∷ []
  pub main : u.unit.kind ≡ MainProgram → formals ≡ []
  pub dummies : HasPlainDummies us j u formals
  pub result : HasPlainResult u.unit name
  pub storage : HasPlainStorage u.unit
  pub bounds : HasPlainBounds u.unit

-- LAW
-- where the unit is the one that is read, and its dummies stand for what its statements say
abbrev pub PlainUnitsAreTold : Type 0
PlainUnitsAreTold = (options : Options) (given : GivenUnit) (us : List LoweredUnit) (j : ℕ) (u : LoweredUnit) → is_plain_unit options given ≡ true → u.unit ≡ unit_read options given →
    ((x : Bytes) → u.use_of x ≡ (dummy_of (uses_of_statements (arrays_of given) given.statements) u.unit.attribute x).use_of) → HasPlainParts us j u
