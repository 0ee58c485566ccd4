-- The functions of the files: their names are told apart, each ends in an underscore, and no name of the library does.
use Rattle.std.specs.List.{list_all}
use Rattle.std.specs.Prelude.{◌≡◌, ℕ, zero, suc, ◌+◌, true, not, List, [], ◌∷◌, map, length, position, reverse, Some, unwrap_or, slice_get, bytes_eq}
use Rattle.std.proofs.Common.{refl, sym, ap, ◌∙◌, subst, arith}
use Rattle.std.proofs.lemmas.List.{length-map, reverse-append}
use Rattle.std.proofs.lemmas.Slice.Eq.{bytes_eq-Decides}
use Rattle.unit_translation.specs.f_tree.CNames.{main_name}
use Rattle.unit_translation.specs.f_tree.Facts.{UnitKind, MainProgram, SubroutineUnit, FunctionUnit, BlockDataUnit, EntryPoint, ProgramUnit}
use Rattle.unit_translation.specs.f_tree.World.{Called}
use Rattle.unit_translation.specs.c_tree.Builtins.{builtin_names}
use Rattle.unit_translation.specs.c_tree.Linking.{routines}
use Rattle.unit_translation.specs.faithful.StorageImage.{function_name, name_of_entries}
use Rattle.main_translation_laws.specs.linking_laws.Linked.{AreDistinct, IsNone}
use Rattle.main_translation_laws.proofs.linking_laws.Places.{some_same, get_front, map_at}
use Rattle.main_translation_laws.proofs.linking_laws.Scopes.{own_are_numbered, builtins_are_numbered}
use Rattle.main_translation_laws.proofs.main_file_laws.Known.{position_finds}
use Rattle.main_translation_laws.proofs.Lists.{in_at}
use Rattle.main_translation_laws.proofs.Names.{begins, not_begun}
use Rattle.main_translation_laws.proofs.Contents.{each_of}
use Rattle.unit_translation.specs.unit_file.UnitFile.{Inventory, WrittenUnit}
use Rattle.unit_translation.specs.unit_file.UnitNames.{own_names, routine_name}
use Rattle.unit_translation.specs.unit_sites.UnitSites.{inventories}
use Rattle.unit_programs.specs.unit_file_laws.BuiltUnits.{AreNumbered}
use Rattle.unit_translation.specs.UnitContents.{LoweredUnit, program_units, unit_numbers, inventory_of, inventories_of}
use Rattle.unit_programs.proofs.Objects.{found_back}
use Rattle.unit_translation_laws.proofs.Names.{HasLast, external_last}

-- ## Last bytes

last_of : (unit : ProgramUnit) (entry : EntryPoint) → unit.entries ≡ entry ∷ [] → HasLast (function_name unit) 95
unfolding function_name main_name
last_of unit entry only = by unit.kind
  where
    own : HasLast (name_of_entries unit.entries) 95
    own = subst (λ es. HasLast (name_of_entries es) 95) (sym only) (external_last entry.name)

    by : (k : UnitKind) → HasLast (elim k [ MainProgram ↦ main_name | _ ↦ name_of_entries unit.entries ]) 95
    by MainProgram = record { front = 77 ∷ 65 ∷ 73 ∷ 78 ∷ 95 ∷ []; is = refl }
    by SubroutineUnit = own
    by FunctionUnit = own
    by BlockDataUnit = own

library_closed : list_all (λ name. not (begins (95 ∷ []) (reverse name))) builtin_names ≡ true
unfolding begins
library_closed = refl

no_library : (k : ℕ) (name other : List ℕ) → slice_get builtin_names k ≡ Some name → HasLast other 95 → name ≡ other → ⊥
no_library k name other at last same =
    not_begun (95 ∷ []) (reverse last.front) (reverse name) (each_of (λ n. not (begins (95 ∷ []) (reverse n))) builtin_names name library_closed (in_at builtin_names k name at))
    (ap reverse (same ∙ last.is) ∙ reverse-append last.front (95 ∷ []))

-- ## The names of the functions

names_are : (us vs : List LoweredUnit) → own_names (map (inventory_of us) vs) ≡ map function_name (program_units vs)
names_are us [] = refl
names_are us (u ∷ vs) = ap (λ ns. function_name u.unit ∷ ns) (names_are us vs)

named_by : (vs : List LoweredUnit) (i : ℕ) (name : List ℕ) → slice_get (map function_name (program_units vs)) i ≡ Some name → (u : LoweredUnit) × (slice_get vs i ≡ Some u) × (function_name u.unit ≡ name)
named_by [] i name at = absurd (cc)
named_by (u ∷ vs) zero name at = (u, refl, some_same (function_name u.unit) name at)
named_by (u ∷ vs) (suc i) name at = named_by vs i name at

module _ (us : List LoweredUnit) (ws : List WrittenUnit) (same : inventories ws ≡ inventories_of us) (single : (k : ℕ) (w : LoweredUnit) → slice_get us k ≡ Some w → (entry : EntryPoint) × (w.unit.entries ≡ entry ∷ []))
    (differ : AreDistinct (map function_name (program_units us))) where
  own_are : own_names (inventories ws) ≡ map function_name (program_units us)
  own_are = ap own_names same ∙ names_are us us

  pub own_distinct : AreDistinct (own_names (inventories ws))
  own_distinct = subst AreDistinct (sym own_are) differ

  pub own_apart : (k : ℕ) (name : List ℕ) → slice_get builtin_names k ≡ Some name → IsNone name (own_names (inventories ws))
  own_apart k name at i there =
      let u = named_by us i name (ap (λ ns. slice_get ns i) (sym own_are) ∙ there) in
      let entry = single i u.0 u.1 in
      no_library k name (function_name u.0.unit) at (last_of u.0.unit entry.0 entry.1) (sym u.2)

  library_number : (name : List ℕ) (k : ℕ) → position (bytes_eq name) builtin_names ≡ Some k → routines (own_names (inventories ws)) name ≡ Some (length ws + k)
  library_number name k at =
      let f = position_finds (bytes_eq name) builtin_names k at in
      let found : name ≡ f.one = (bytes_eq-Decides name f.one).0 f.passes in
      let none = own_apart k name (f.at ∙ ap Some (sym found)) in
      let many = length-map ws (λ (w : WrittenUnit). w.inventory) in
      let named = length-map (inventories ws) (λ (v : Inventory). v.name) in
      builtins_are_numbered (own_names (inventories ws)) k name none at ∙ ap Some {x = length (own_names (inventories ws)) + k} {y = length ws + k} (omega (arith, many, named))

  own_number : (called : Called) (k : ℕ) → unit_numbers us called ≡ Some k → routines (own_names (inventories ws)) (routine_name (inventories ws) k) ≡ Some k
  own_number called k found =
      let f = found_back 0 (program_units us) called k found in
      let there = f.is in
      let place : k ≡ f.place = omega (arith, there) in
      let at : slice_get (own_names (inventories ws)) k ≡ Some (function_name f.unit) =
      ap (λ ns. slice_get ns k) own_are ∙ ap (slice_get (map function_name (program_units us))) place ∙ map_at function_name (program_units us) f.place f.unit f.at in
      ap (λ o. routines (own_names (inventories ws)) (unwrap_or o [])) (get_front (own_names (inventories ws)) builtin_names k (function_name f.unit) at)
      ∙ own_are_numbered (own_names (inventories ws)) k (function_name f.unit) own_distinct at

  pub numbered : (v : Inventory) → AreNumbered (routines (own_names (inventories ws))) (unit_numbers us) ws v
  numbered v = record { library = λ name k called at. library_number name k at; own = own_number }
