-- What is known of the names of a unit, as sets of names have it.
use Rattle.std.specs.Prelude.{◌≡◌, Bool, true, false, ◌||◌, ◌&&◌, not, List, [], ◌∷◌, ◌++◌, is_some, if◌then◌else◌}
use Rattle.f_tree.specs.declared.names.Class.{Class}
use Rattle.f_tree.specs.declared.names.Class.TheVariants as class
use Rattle.f_tree.specs.declared.statements.Body.{Body}
use Rattle.f_tree.specs.declared.statements.Stmt.{Stmt}
use Rattle.f_tree.specs.declared.units.Unit.{Unit as WrittenUnit}
use Rattle.f_tree.specs.Values.{Bytes}
use Rattle.f_tree.specs.Uses.{Use, is_among, uses_of_statements}
use Rattle.f_tree.specs.Attributes as written
use Rattle.f_tree.specs.Attributes.{from_all, external_in, intrinsic_in, entry_names_in, entry_dummies_in, assigned_with_list_in, named_dummies, option_list, arrays_of, with_list, called}
use Rattle.expression_judge.specs.Intrinsics.{intrinsic_named}
use Rattle.name_table.specs.declared.name_set.NameSet.{NameSet}
use Rattle.name_table.specs.Named.{names_in, IsNameSet}
use Rattle.name_uses.specs.UsesSeen.{Adds}
use Rattle.name_classes.specs.StatedNames.{constant_names, typed_names, used_as_in}
use Rattle.name_classes.specs.declared.declarations.DeclaredNames.{DeclaredNames}
use Rattle.name_classes.specs.declared.entries.EntryNames.{EntryNames}
use Rattle.name_classes.specs.declared.used.UsedNames.{UsedNames}
use Rattle.name_classes.specs.declared.signs.Signs.{Signs}

-- a set has the names of a list
pub record Lists (set : NameSet) (listed : List Bytes) : Type 0 where
  pub names : names_in set ≡ listed
  pub is_set : IsNameSet set

-- WHAT IS DECLARED
pub record AreSets (names : DeclaredNames) : Type 0 where
  pub constants : IsNameSet names.constants
  pub typed : IsNameSet names.typed
  pub externals : IsNameSet names.externals
  pub intrinsics : IsNameSet names.intrinsics

pub record Declares (old new : DeclaredNames) (b : Body) : Type 0 where
  pub constants : Adds old.constants new.constants (constant_names b)
  pub typed : Adds old.typed new.typed (typed_names b)
  pub externals : Adds old.externals new.externals (external_in b)
  pub intrinsics : Adds old.intrinsics new.intrinsics (intrinsic_in b)

pub record AreDeclared (ss : List Stmt) (names : DeclaredNames) : Type 0 where
  pub constants : Lists names.constants (from_all constant_names ss)
  pub typed : Lists names.typed (from_all typed_names ss)
  pub externals : Lists names.externals (from_all external_in ss)
  pub intrinsics : Lists names.intrinsics (from_all intrinsic_in ss)

-- NAMES OF UNITS AND ENTRIES
pub record AreEntrySets (names : EntryNames) : Type 0 where
  pub own_names : IsNameSet names.own_names
  pub dummies : IsNameSet names.dummies

pub record Enters (old new : EntryNames) (b : Body) : Type 0 where
  pub own_names : Adds old.own_names new.own_names (entry_names_in b)
  pub dummies : Adds old.dummies new.dummies (entry_dummies_in b)

pub record AreEntries (u : WrittenUnit) (ss : List Stmt) (names : EntryNames) : Type 0 where
  pub own_names : Lists names.own_names (option_list u.name ++ from_all entry_names_in ss)
  pub dummies : Lists names.dummies (named_dummies u.dummies ++ from_all entry_dummies_in ss)

-- WHAT IS USED
pub record AreUsedSets (names : UsedNames) : Type 0 where
  pub assigned : IsNameSet names.assigned
  pub with_list : IsNameSet names.with_list
  pub called : IsNameSet names.called

pub record UsesNames (arrays : List Bytes) (old new : UsedNames) (b : Body) : Type 0 where
  pub assigned : Adds old.assigned new.assigned (assigned_with_list_in b)
  pub with_list : Adds old.with_list new.with_list (used_as_in with_list arrays b)
  pub called : Adds old.called new.called (used_as_in called arrays b)

pub record AreUsed (arrays : List Bytes) (ss : List Stmt) (names : UsedNames) : Type 0 where
  pub assigned : Lists names.assigned (from_all assigned_with_list_in ss)
  pub with_list : Lists names.with_list (from_all (used_as_in with_list arrays) ss)
  pub called : Lists names.called (from_all (used_as_in called arrays) ss)

-- ALL OF A UNIT
pub record AreSigns (u : WrittenUnit) (signs : Signs) : Type 0 where
  pub arrays : Lists signs.arrays (arrays_of u)
  pub declared : AreDeclared u.statements signs.declared
  pub entries : AreEntries u u.statements signs.entries
  pub used : AreUsed (arrays_of u) u.statements signs.used

pub record AreSignSets (signs : Signs) : Type 0 where
  pub arrays : IsNameSet signs.arrays
  pub declared : AreSets signs.declared
  pub entries : AreEntrySets signs.entries
  pub used : AreUsedSets signs.used

-- what decides the class of a name, as the sets have it
unfoldable pub signs_in : Signs → Bytes → written.Signs
signs_in signs x = record {
  is_constant = is_among x (names_in signs.declared.constants);
  is_dummy = is_among x (names_in signs.entries.dummies);
  is_own_name = is_among x (names_in signs.entries.own_names);
  is_array = is_among x (names_in signs.arrays);
  is_external = is_among x (names_in signs.declared.externals);
  is_intrinsic = is_among x (names_in signs.declared.intrinsics);
  has_list = is_among x (names_in signs.used.with_list);
  is_called = is_among x (names_in signs.used.called);
  is_assigned_with_list = is_among x (names_in signs.used.assigned);
  is_known_function = is_some (intrinsic_named x);
}

abbrev pub unit_uses : WrittenUnit → List Use
unit_uses u = uses_of_statements (arrays_of u) u.statements

unfoldable pub dummy_class : written.Signs → Class
dummy_class g = if g.is_external || (g.is_called || (g.has_list && not g.is_array)) then class.DummyProcedure else class.Dummy

unfoldable pub listed_class : Bool → Bool → Class
listed_class true true = class.Intrinsic
listed_class true false = class.Procedure
listed_class false is_function = class.Stored

unfoldable pub used_class : written.Signs → Class
used_class g =
    if g.is_assigned_with_list then class.StatementFunction
    else if g.is_intrinsic then class.Intrinsic
    else listed_class g.has_list g.is_known_function

unfoldable pub other_class : written.Signs → Class
other_class g = if g.is_array then class.Stored else if g.is_external || g.is_called then class.Procedure else used_class g
