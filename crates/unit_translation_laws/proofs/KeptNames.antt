-- The names of kept bounds are told by dummy, place and kind.
use Rattle.std.specs.Prelude.{◌≡◌, ℕ, suc, ◌<◌, ◌^◌, map}
use Rattle.std.proofs.Common.{refl, sym, arith}
use Rattle.unit_translation.specs.f_tree.Values.{Bytes}
use Rattle.unit_translation.specs.f_tree.Facts.{ProgramUnit}
use Rattle.unit_translation.specs.f_tree.Setting.{IsIn}
use Rattle.unit_translation.specs.faithful.Signatures.{named_formals}
use Rattle.unit_translation.specs.unit_file.UnitFile.{BoundKind, LowerOf, SizeOf, KeptBound, name_of_bound, bound_name}
use Rattle.unit_translation.specs.UnitBounds.{formals_in, bounds_kept}
use Rattle.main_translation_laws.proofs.Lists.{AreApart, apart_map}
use Rattle.bound_names.specs.BoundNames.{IsBoundName, of_lower, of_size}
use Rattle.bound_names.proofs.ToldNames.{lowers_are_told, sizes_are_told, lowers_are_no_sizes}
use Rattle.unit_translation_laws.proofs.KeptBounds.{same_kept, bounds_apart}

bound_named_by : (x : Bytes) (k : ℕ) (kind : BoundKind) → suc k < 2 ^ 64 → IsBoundName (name_of_bound x k kind)
unfolding name_of_bound
bound_named_by x k LowerOf small = of_lower x (suc k) small refl
bound_named_by x k SizeOf small = of_size x (suc k) small refl

pub bound_named : (one : KeptBound) → suc one.place < 2 ^ 64 → IsBoundName (bound_name one)
bound_named one small = bound_named_by one.dummy one.place one.kind small

record IsOfBound (x y : Bytes) (k m : ℕ) (one other : BoundKind) : Type 0 where
  dummy : x ≡ y
  place : k ≡ m
  kind : one ≡ other

told_by : (x y : Bytes) (k m : ℕ) (one other : BoundKind) → suc k < 2 ^ 64 → suc m < 2 ^ 64 → name_of_bound x k one ≡ name_of_bound y m other → IsOfBound x y k m one other
unfolding name_of_bound
told_by x y k m LowerOf LowerOf few also same = let parts = lowers_are_told x y (suc k) (suc m) few also same in let place = parts.1 in record { dummy = parts.0; place = omega (arith, place); kind = refl }
told_by x y k m SizeOf SizeOf few also same = let parts = sizes_are_told x y (suc k) (suc m) few also same in let place = parts.1 in record { dummy = parts.0; place = omega (arith, place); kind = refl }
told_by x y k m LowerOf SizeOf few also same = absurd (lowers_are_no_sizes x y (suc k) (suc m) few also same)
told_by x y k m SizeOf LowerOf few also same = absurd (lowers_are_no_sizes y x (suc m) (suc k) also few (sym same))

-- no two kept bounds of a unit have one name
pub names_apart : (unit : ProgramUnit) → AreApart (named_formals (formals_in unit.entries)) → ((one : KeptBound) → IsIn one (bounds_kept unit) → suc one.place < 2 ^ 64) → AreApart (map bound_name (bounds_kept unit))
names_apart unit distinct small =
    apart_map bound_name (bounds_kept unit)
    (λ one other o p same.
    let told = told_by one.dummy other.dummy one.place other.place one.kind other.kind (small one o) (small other p) same in
    same_kept unit one other o p told.dummy told.place told.kind)
    (bounds_apart unit distinct)
