-- Names of variables and of temporaries stand for one object each. ANSI X3.9-1978, section 2.2; C89, 3.1.2.
use Rattle.std.specs.Prelude.{◌≡◌, ℕ, suc, ◌+◌, ◌<◌, ◌≤◌, ◌^◌, nat_lt, true, not, ◌&&◌, List, length, Option, Some, codes, decimal}
use Rattle.std.proofs.Common.{refl, sym, ap, ◌∙◌, subst, arith}
use Rattle.std.proofs.lemmas.Bool.{ltb-true}
use Rattle.std.proofs.lemmas.Fmt.{decimal_injective}
use Rattle.std.proofs.lemmas.List.{append_cancel_left}
use Rattle.named_mains.specs.f_tree.declared.names.Basic.{Basic}
use Rattle.named_mains.specs.f_tree.CNames.{is_name, variable_name, made_name, NumberTemporary}
use Rattle.named_mains.specs.f_tree.Facts.{Facts, Member, ProgramUnit}
use Rattle.named_mains.specs.f_tree.Setting.{IsIn, first_in, later_in, IsMember, here, there}
use Rattle.named_mains.specs.f_tree.Values.{Bytes}
use Rattle.main_translation_laws.proofs.fortran_laws.CNameLaws.{variable_name-injective, variable_name-not_made}
use Rattle.named_mains.specs.l_core.Steps.{Text}
use Rattle.named_mains.specs.c_emit.Numbers.{is_numeric, is_variable, has_shape, has_number, is_scalar, is_array}
use Rattle.named_mains.specs.main_file.MainFile.{Inventory, Bases, first_temporary, place_of_variable, place_or_none, object_name, names_of, writing_of}
use Rattle.named_mains.specs.main_translation.Contents.{inventory_of}
use Rattle.main_translation_laws.specs.PlainMains.{IsPlainMain}
use Rattle.main_translation_laws.proofs.Storage.{variables_listed}
use Rattle.named_mains.proofs.named_items.WrittenAlike.{left_true}
use Rattle.named_mains.specs.item_emission.Agreeing.{known_in, NumbersAreListed}
use Rattle.named_mains.proofs.item_emission.ObjectNames.{variable_object, temporary_is}
use Rattle.named_main_laws.proofs.NamedPlaces.{Own, Pointed, OwnAlone, AreTold}
use Rattle.named_main_laws.proofs.NamedValues.{WritesObjects}

-- the object of a variable, of an array or of a temporary
pub data IsNumberObject (v : Inventory) (b : Bases) (k : ℕ) : Type 0 where
  of_variable : (x : Bytes) (i : ℕ) → place_of_variable v x ≡ Some i → is_name x ≡ true → k ≡ b.function + place_or_none (place_of_variable v x) → IsNumberObject v b k
  of_temporary : (i : ℕ) → nat_lt i v.temporaries ≡ true → k ≡ first_temporary v b + i → IsNumberObject v b k

-- ## Names

pub temporaries_told : (i j : ℕ) → i < 2 ^ 64 → j < 2 ^ 64 → made_name (NumberTemporary i) ≡ made_name (NumberTemporary j) → i ≡ j
unfolding made_name
temporaries_told i j p q e = decimal_injective i j p q (append_cancel_left (codes "i__") (decimal i) (decimal j) e)

module _ (v : Inventory) (b : Bases) (few : 1 + v.temporaries ≤ 2 ^ 64) where
  number_fits : (i : ℕ) → nat_lt i v.temporaries ≡ true → suc i < 2 ^ 64
  number_fits i h = let below = ltb-true i v.temporaries h in omega (arith, few, below)

  variable_called : (k : ℕ) (x : Bytes) (i : ℕ) → place_of_variable v x ≡ Some i → k ≡ b.function + place_or_none (place_of_variable v x) → object_name v b k ≡ variable_name x
  variable_called k x i is at = ap (object_name v b) at ∙ variable_object v b x i is

  temporary_called : (k i : ℕ) → nat_lt i v.temporaries ≡ true → k ≡ first_temporary v b + i → object_name v b k ≡ made_name (NumberTemporary (suc i))
  temporary_called k i below at = ap (object_name v b) at ∙ temporary_is v b i below

  variable_no_temporary : {A : Type 0} (x : Bytes) (i : ℕ) → is_name x ≡ true → nat_lt i v.temporaries ≡ true → variable_name x ≡ made_name (NumberTemporary (suc i)) → A
  variable_no_temporary x i named below same = absurd (variable_name-not_made x named (NumberTemporary (suc i)) (number_fits i below) same)

  objects_told : (j k : ℕ) → IsNumberObject v b j → IsNumberObject v b k → object_name v b j ≡ object_name v b k → j ≡ k
  objects_told j k (of_variable x i is named at) (of_variable y m also _ beside) same =
      let one : x ≡ y = variable_name-injective x y (sym (variable_called j x i is at) ∙ same ∙ variable_called k y m also beside) in
      at ∙ ap (λ z. b.function + place_or_none (place_of_variable v z)) one ∙ sym beside
  objects_told j k (of_variable x i is named at) (of_temporary m below beside) same = variable_no_temporary x m named below (sym (variable_called j x i is at) ∙ same ∙ temporary_called k m below beside)
  objects_told j k (of_temporary i below at) (of_variable y m also named beside) same = variable_no_temporary y i named below (sym (variable_called k y m also beside) ∙ sym same ∙ temporary_called j i below at)
  objects_told j k (of_temporary i below at) (of_temporary m also beside) same =
      let numbers : suc i ≡ suc m = temporaries_told (suc i) (suc m) (number_fits i below) (number_fits m also) (sym (temporary_called j i below at) ∙ same ∙ temporary_called k m also beside) in
      omega (arith, at, beside, numbers)

  pub reaches_told : AreTold (OwnAlone (IsNumberObject v b)) (names_of v b)
  reaches_told Own Own j k one other same = (refl, objects_told j k one other same)
  reaches_told Own Pointed j k one other same = absurd other
  reaches_told Pointed s j k one other same = absurd one

-- ## The objects of a unit

pub stored_named : (x : Bytes) (ms : List Member) → IsMember x ms → ((m : Member) → IsIn m ms → is_name m.name ≡ true) → is_name x ≡ true
stored_named x _ (here {n = n} {ms = ms}) named = named (record { name = x; size = n }) first_in
stored_named x _ (there {m = m} {ms = ms} o) named = stored_named x ms o (λ one p. named one (later_in p))

module _ (unit : ProgramUnit) (u : Text) (main : IsPlainMain unit) (b : Bases) (facts : Facts) (same : facts.program ≡ unit) (kind : ℕ → ℕ → Option Basic) where
  number_named : (x : Bytes) → has_number (writing_of (inventory_of unit u) b facts kind) x ≡ true → is_name x ≡ true
  unfolding has_number
  number_named x is = stored_named x unit.stored (main.stored x (subst (λ (p : ProgramUnit). is_variable (p.attribute x).class && is_numeric (p.attribute x).basic ≡ true) same is)) main.named

  scalar_object : (x : Bytes) → is_scalar (writing_of (inventory_of unit u) b facts kind) x ≡ true → IsNumberObject (inventory_of unit u) b (b.function + place_or_none (place_of_variable (inventory_of unit u) x))
  unfolding is_scalar
  scalar_object x is =
      let listed = variables_listed unit u main b facts same kind in
      let found = listed.scalars x is in
      of_variable x found.0 found.2 (number_named x (left_true (has_number (writing_of (inventory_of unit u) b facts kind) x) (not (has_shape (facts.program.attribute x).dimensions)) is)) refl

  array_object : (x : Bytes) → is_array (writing_of (inventory_of unit u) b facts kind) x ≡ true → IsNumberObject (inventory_of unit u) b (b.function + place_or_none (place_of_variable (inventory_of unit u) x))
  unfolding is_array
  array_object x is =
      let listed = variables_listed unit u main b facts same kind in
      let found = listed.arrays x is in
      of_variable x found.0 found.3 (number_named x (left_true (has_number (writing_of (inventory_of unit u) b facts kind) x) (has_shape (facts.program.attribute x).dimensions) is)) refl

  pub writes_objects : WritesObjects (OwnAlone (IsNumberObject (inventory_of unit u) b)) (writing_of (inventory_of unit u) b facts kind)
  writes_objects = record {
    scalars = λ x is. scalar_object x is;
    arrays = λ x is index. array_object x is;
    temporaries = λ k below. of_temporary k below refl;
  }

  pub numbers_listed : (label : ℕ → Option ℕ) → b.file + length (inventory_of unit u).constants ≤ b.function → NumbersAreListed (inventory_of unit u) b (known_in (inventory_of unit u) facts label)
  unfolding is_scalar is_array has_number
  numbers_listed label behind = record {
    scalars = λ x is. let listed = variables_listed unit u main b facts same kind in let found = listed.scalars x is in (found.0, found.2);
    arrays = λ x is. let listed = variables_listed unit u main b facts same kind in let found = listed.arrays x is in (found.0, found.3);
    behind = behind;
  }
