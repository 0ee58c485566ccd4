-- The store of the example stands in its objects.
use Rattle.std.specs.Prelude.{◌≡◌, ℕ, zero, suc, ◌<◌, ◌≤◌, pos, true, false, List, [], ◌∷◌, map, length, Option, Some, None, slice_get}
use Rattle.std.proofs.Common.{refl, sym, ap, ◌∙◌, subst, arith}
use Rattle.c_image.specs.f_tree.Values.{in_range}
use Rattle.c_image.specs.f_tree.Store.{Sequence, Cell, Undefined, Chr, Part, Number}
use Rattle.c_laws.specs.c_tree.Objects.{Object, Bytes, bytes_of_number}
use Rattle.c_image.specs.faithful.StorageImage.{byte_for, byte_of_object, UnitsStand}
use Rattle.c_image.specs.World.{Sane}
use Rattle.c_image.specs.Standing.{IsInRange, AreInRange, HasRoom, IsHoused, Stands}
use Rattle.c_image_laws.specs.Example.{two_sequences, three_objects, sizes, constants, two_homes}
use Rattle.c_image_laws.proofs.ListLaws.{one_there}

sane : Sane two_homes
sane = record { small = small; alone = alone; free = free }
  where
    small : (n : ℕ) → n < 2 → sizes n < 2147483648
    small zero low = omega arith
    small (suc zero) low = omega arith
    small (suc (suc n)) low = absurd (omega (arith, low))

    alone : (n m k : ℕ) → n < 2 → m < 2 → false ≡ false → slice_get (0 ∷ 1 ∷ []) n ≡ Some k → slice_get (0 ∷ 1 ∷ []) m ≡ Some k → m ≡ n
    alone zero zero k low low' free one other = refl
    alone zero (suc zero) k low low' free one other = let wrong : Some 0 ≡ Some 1 = one ∙ sym other in absurd (cc)
    alone (suc zero) zero k low low' free one other = let wrong : Some 1 ≡ Some 0 = one ∙ sym other in absurd (cc)
    alone (suc zero) (suc zero) k low low' free one other = refl
    alone (suc (suc n)) m k low low' free one other = absurd (omega (arith, low))
    alone zero (suc (suc m)) k low low' free one other = absurd (omega (arith, low'))
    alone (suc zero) (suc (suc m)) k low low' free one other = absurd (omega (arith, low'))

    free : (n k : ℕ) → n < 2 → false ≡ false → slice_get (0 ∷ 1 ∷ []) n ≡ Some k → constants k ≡ None
    free zero k low is home = ap constants (one_there (Some 0) k 0 home refl)
    free (suc zero) k low is home = ap constants (one_there (Some 1) k 1 home refl)
    free (suc (suc n)) k low is home = absurd (omega (arith, low))

two_fits : in_range (pos 2) ≡ true
unfolding in_range
two_fits = refl

part_fits : (i : ℕ) (cell : Cell) → Part (Number (pos 2)) i ≡ cell → IsInRange cell
part_fits i cell is = subst IsInRange is two_fits

number_in_range : AreInRange (Part (Number (pos 2)) 0 ∷ Part (Number (pos 2)) 1 ∷ Part (Number (pos 2)) 2 ∷ Part (Number (pos 2)) 3 ∷ [])
number_in_range zero cell there = part_fits 0 cell (one_there (Some (Part (Number (pos 2)) 0)) (Part (Number (pos 2)) 0) cell refl there)
number_in_range (suc zero) cell there = part_fits 1 cell (one_there (Some (Part (Number (pos 2)) 1)) (Part (Number (pos 2)) 1) cell refl there)
number_in_range (suc (suc zero)) cell there = part_fits 2 cell (one_there (Some (Part (Number (pos 2)) 2)) (Part (Number (pos 2)) 2) cell refl there)
number_in_range (suc (suc (suc zero))) cell there = part_fits 3 cell (one_there (Some (Part (Number (pos 2)) 3)) (Part (Number (pos 2)) 3) cell refl there)
number_in_range (suc (suc (suc (suc place)))) cell there = absurd (cc)

text_in_range : AreInRange (Chr 65 ∷ Chr 66 ∷ Undefined ∷ [])
text_in_range zero cell there = subst IsInRange (one_there (Some (Chr 65)) (Chr 65) cell refl there) (omega arith)
text_in_range (suc zero) cell there = subst IsInRange (one_there (Some (Chr 66)) (Chr 66) cell refl there) (omega arith)
text_in_range (suc (suc zero)) cell there = subst IsInRange (one_there (Some Undefined) Undefined cell refl there) tt
text_in_range (suc (suc (suc place))) cell there = absurd (cc)

room_at : (n k count : ℕ) (bytes : List (Option ℕ)) → slice_get three_objects n ≡ Some (Bytes bytes) → count ≤ length bytes → n ≡ k → HasRoom count (slice_get three_objects k)
room_at n k count bytes is room same = subst (λ i. HasRoom count (slice_get three_objects i)) same (record { bytes = bytes; is = is; room = room })

housed : (n : ℕ) (q : Sequence) → slice_get two_sequences n ≡ Some q → IsHoused two_homes three_objects n q
housed zero q is =
    let first : Sequence = record { cells = Part (Number (pos 2)) 0 ∷ Part (Number (pos 2)) 1 ∷ Part (Number (pos 2)) 2 ∷ Part (Number (pos 2)) 3 ∷ []; read_only = false } in
    subst (IsHoused two_homes three_objects 0) (one_there (Some first) first q refl is)
    (record { sized = refl; locked = refl; in_range = number_in_range; room = λ k home. room_at 0 k 4 (map Some (bytes_of_number (pos 2))) refl (omega arith) (one_there (Some 0) 0 k refl home) })
housed (suc zero) q is =
    let second : Sequence = record { cells = Chr 65 ∷ Chr 66 ∷ Undefined ∷ []; read_only = false } in
    subst (IsHoused two_homes three_objects 1) (one_there (Some second) second q refl is)
    (record { sized = refl; locked = refl; in_range = text_in_range; room = λ k home. room_at 1 k 3 (Some 65 ∷ Some 66 ∷ None ∷ []) refl (omega arith) (one_there (Some 1) 1 k refl home) })
housed (suc (suc n)) q is = absurd (cc)

cell_by : (n k place byte : ℕ) (there cell : Cell) → n ≡ k → Some there ≡ Some cell → byte_for cell ≡ Some byte → byte_of_object (slice_get three_objects n) place ≡ byte_for there →
    byte_of_object (slice_get three_objects k) place ≡ Some byte
cell_by n k place byte there cell same is has at =
    subst (λ i. byte_of_object (slice_get three_objects i) place ≡ Some byte) same (at ∙ ap byte_for (one_there (Some there) there cell refl is) ∙ has)

units : UnitsStand two_sequences three_objects two_homes.homes
unfolding byte_for byte_of_object
units zero k zero byte cell home there has = cell_by 0 k 0 byte (Part (Number (pos 2)) 0) cell (one_there (Some 0) 0 k refl home) there has refl
units zero k (suc zero) byte cell home there has = cell_by 0 k 1 byte (Part (Number (pos 2)) 1) cell (one_there (Some 0) 0 k refl home) there has refl
units zero k (suc (suc zero)) byte cell home there has = cell_by 0 k 2 byte (Part (Number (pos 2)) 2) cell (one_there (Some 0) 0 k refl home) there has refl
units zero k (suc (suc (suc zero))) byte cell home there has = cell_by 0 k 3 byte (Part (Number (pos 2)) 3) cell (one_there (Some 0) 0 k refl home) there has refl
units zero k (suc (suc (suc (suc place)))) byte cell home there has = absurd (cc)
units (suc zero) k zero byte cell home there has = cell_by 1 k 0 byte (Chr 65) cell (one_there (Some 1) 1 k refl home) there has refl
units (suc zero) k (suc zero) byte cell home there has = cell_by 1 k 1 byte (Chr 66) cell (one_there (Some 1) 1 k refl home) there has refl
units (suc zero) k (suc (suc zero)) byte cell home there has = cell_by 1 k 2 byte Undefined cell (one_there (Some 1) 1 k refl home) there has refl
units (suc zero) k (suc (suc (suc place))) byte cell home there has = absurd (cc)
units (suc (suc n)) k place byte cell home there has = absurd (cc)

held : (k : ℕ) (object : Object) → constants k ≡ Some object → slice_get three_objects k ≡ Some object
held zero object is = absurd (cc)
held (suc zero) object is = absurd (cc)
held (suc (suc zero)) object is = is
held (suc (suc (suc k))) object is = absurd (cc)

pub example_stands : Stands two_homes two_sequences three_objects
example_stands = record { sane = sane; as_high = refl; housed = housed; units = units; held = held }
