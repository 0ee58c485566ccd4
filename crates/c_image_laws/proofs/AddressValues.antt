-- What the C expressions for addresses come to: the place where the FORTRAN place stands.
use Rattle.std.specs.Prelude.{◌≡◌, ℕ, ◌+◌, ◌*◌, ◌≤◌, pos, int_le, ◌&&◌, List, Some, Ok, slice_get, if◌then◌else◌}
use Rattle.std.proofs.Common.{refl, ap, ◌∙◌, arith}
use Rattle.std.proofs.lemmas.Bool.{le-leb}
use Rattle.c_image.specs.f_tree.declared.names.Basic.{Basic}
use Rattle.c_image.specs.f_tree.declared.names.Basic.TheVariants.{Integer, Logical, Character, Untyped}
use Rattle.c_laws.specs.c_tree.declared.outcome.CValue.TheVariants.{Pointer}
use Rattle.c_laws.specs.c_tree.declared.outcome.CFault.TheVariants.{Outside}
use Rattle.c_laws.specs.c_tree.declared.types.CastType.TheVariants as to
use Rattle.c_laws.specs.c_tree.declared.expression.UnaryOp.TheVariants as prefix
use Rattle.c_laws.specs.c_tree.declared.expression.BinaryOp.TheVariants as op
use Rattle.c_laws.specs.c_tree.Faults.{after, failing}
use Rattle.c_laws.specs.c_tree.Access.{Access, ToNumber, ToChar, ToPointer, stride}
use Rattle.c_laws.specs.c_tree.Objects.{Object, extent, read_object, fetched}
use Rattle.c_laws.specs.c_tree.Terms.{Term, Variable, Array, Prefixed, Between, Cast, Element}
use Rattle.c_laws.specs.c_tree.Values.{seen, pointer_at, moved_by, moved, place_of, address_of, element, cast, operation}
use Rattle.c_laws.proofs.ValueLaws.{Counts}
use Rattle.c_image.specs.Addresses.{access_to, pointer_object}
use Rattle.c_image_laws.specs.Meanings.{Points, IsPlace}

-- ## Forms of expressions

pub Variable-place : (objects : List Object) (object : ℕ) (access : Access) → IsPlace objects (Variable object access) object 0 access
unfolding seen
Variable-place objects object access = record { names = refl; holds = refl }

pub Array-points : (objects : List Object) (object : ℕ) (access : Access) → Points objects (Array object access) object 0 access
unfolding seen
Array-points objects object access = refl

-- a parameter that holds a pointer
pub Parameter-points : (objects : List Object) (parameter object offset : ℕ) (basic : Basic) → slice_get objects parameter ≡ Some (pointer_object (access_to basic) (Pointer object offset)) →
    Points objects (Variable parameter (ToPointer (access_to basic))) object offset (access_to basic)
unfolding seen fetched
Parameter-points objects parameter object offset Integer there = ap (read_object (ToPointer ToNumber) 0) there
Parameter-points objects parameter object offset Logical there = ap (read_object (ToPointer ToNumber) 0) there
Parameter-points objects parameter object offset Character there = ap (read_object (ToPointer ToChar) 0) there
Parameter-points objects parameter object offset Untyped there = ap (read_object (ToPointer ToChar) 0) there

pub Deref-place : (objects : List Object) (term : Term) (object offset : ℕ) (access : Access) → Points objects term object offset access →
    IsPlace objects (Prefixed prefix.Deref term) object offset access
unfolding seen
Deref-place objects term object offset access points = record {
  names = ap (λ found. after found place_of) points;
  holds = ap (λ found. after (after found place_of) (fetched objects)) points;
}

pub Address-points : (objects : List Object) (term : Term) (object offset : ℕ) (access : Access) → IsPlace objects term object offset access →
    Points objects (Prefixed prefix.Address term) object offset access
unfolding seen
Address-points objects term object offset access is = ap (λ found. after found address_of) is.names

pub Chars-points : (objects : List Object) (term : Term) (object offset : ℕ) (access : Access) → Points objects term object offset access →
    Points objects (Cast to.Chars term) object offset ToChar
unfolding seen
Chars-points objects term object offset access points = ap (λ found. after found (cast to.Chars)) points

-- a pointer that moves within its object
pub pointer_moved : (objects : List Object) (object offset count width : ℕ) (access : Access) (found : Object) → stride access ≡ Some width → slice_get objects object ≡ Some found →
    offset + count * width ≤ extent found → moved objects access (Pointer object offset) (pos count) ≡ Ok (record { value = Pointer object (offset + count * width); through = access })
pointer_moved objects object offset count width access found strides there fits =
    ap (λ step. after (moved_by step objects object offset (pos count)) λ value. Ok (record { value = value; through = access })) strides ∙
    ap (λ held. after (pointer_at object (pos (offset + count * width)) held) λ value. Ok (record { value = value; through = access })) there ∙
    ap (λ test. after (if test && int_le (pos (offset + count * width)) (pos (extent found)) then Ok (Pointer object (offset + count * width)) else failing Outside) λ value. Ok (record { value = value; through = access }))
    (le-leb 0 (offset + count * width) (omega arith)) ∙
    ap (λ test. after (if test then Ok (Pointer object (offset + count * width)) else failing Outside) λ value. Ok (record { value = value; through = access }))
    (le-leb (offset + count * width) (extent found) fits)

pub Element-place : (objects : List Object) (array index : Term) (object offset count width : ℕ) (access : Access) (found : Object) → Points objects array object offset access →
    Counts objects index (pos count) → stride access ≡ Some width → slice_get objects object ≡ Some found → offset + count * width ≤ extent found →
    IsPlace objects (Element array index) object (offset + count * width) access
unfolding seen
Element-place objects array index object offset count width access found points counts strides there fits = record {
  names = names;
  holds = ap (λ place. after place (fetched objects)) names;
}
  where
    names : after (seen objects array).value (λ start. after (seen objects index).value λ count. element objects start count) ≡ Ok (record { at = Pointer object (offset + count * width); access = access })
    names =
        ap (λ got. after got λ start. after (seen objects index).value λ count. element objects start count) points ∙
        ap (λ got. after got λ number. element objects (record { value = Pointer object offset; through = access }) number) counts ∙
        ap (λ got. after got place_of) (pointer_moved objects object offset count width access found strides there fits)

pub Add-points : (objects : List Object) (start distance : Term) (object offset count width : ℕ) (access : Access) (found : Object) → Points objects start object offset access →
    Counts objects distance (pos count) → stride access ≡ Some width → slice_get objects object ≡ Some found → offset + count * width ≤ extent found →
    Points objects (Between op.Add start distance) object (offset + count * width) access
unfolding seen
Add-points objects start distance object offset count width access found points counts strides there fits =
    ap (λ got. after got λ a. after (seen objects distance).value λ b. operation objects op.Add a b) points ∙
    ap (λ got. after got λ b. operation objects op.Add (record { value = Pointer object offset; through = access }) b) counts ∙
    pointer_moved objects object offset count width access found strides there fits
