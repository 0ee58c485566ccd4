-- What each form of a linked expression is as a value and as a place.
use Rattle.std.specs.Prelude.{◌≡◌, ℕ, ℤ, pos, List, Ok}
use Rattle.std.proofs.Common.{refl}
use Rattle.c_tree.specs.declared.outcome.CValue.TheVariants.{Number, Pointer, Function}
use Rattle.c_tree.specs.declared.outcome.CFault.TheVariants.{Kind}
use Rattle.c_tree.specs.declared.types.CastType.{CastType}
use Rattle.c_tree.specs.declared.expression.UnaryOp.{UnaryOp}
use Rattle.c_tree.specs.declared.expression.BinaryOp.{BinaryOp}
use Rattle.c_tree.specs.declared.expression.Extreme.{Extreme}
use Rattle.c_tree.specs.Faults.{after, failing}
use Rattle.c_tree.specs.Objects.{Object, plain, as_number, fetched}
use Rattle.c_tree.specs.Values.{seen, prefixed, cast, between, choice, element, field, on_numbers, most, magnitude}
use Rattle.run_bytes.specs.declared.access.AccessType.{AccessType}
use Rattle.run_bytes.specs.Accesses.{access_of}
use Rattle.linked_terms.specs.declared.terms.LinkedTerm.{LinkedTerm}
use Rattle.linked_terms.specs.declared.terms.LinkedTerm.TheVariants as tree
use Rattle.linked_terms.specs.declared.field_names.FieldName.{FieldName}
use Rattle.linked_terms.specs.FieldNames.{name_in}
use Rattle.linked_terms.specs.LinkedTerms.{term_of, linked_opened}

pub value-Constant : (objects : List Object) (n : ℤ) → (seen objects (term_of (tree.Constant n))).value ≡ Ok (plain (Number n))
unfolding seen linked_opened
value-Constant objects n = refl

pub value-Variable : (objects : List Object) (o : ℕ) (a : AccessType) →
    (seen objects (term_of (tree.Variable o a))).value ≡ after (seen objects (term_of (tree.Variable o a))).place (fetched objects)
unfolding seen linked_opened
value-Variable objects o a = refl

pub place-Variable : (objects : List Object) (o : ℕ) (a : AccessType) →
    (seen objects (term_of (tree.Variable o a))).place ≡ Ok (record { at = Pointer o 0; access = access_of a })
unfolding seen linked_opened
place-Variable objects o a = refl

pub value-Array : (objects : List Object) (o : ℕ) (a : AccessType) →
    (seen objects (term_of (tree.Array o a))).value ≡ Ok (record { value = Pointer o 0; through = access_of a })
unfolding seen linked_opened
value-Array objects o a = refl

pub value-Routine : (objects : List Object) (n : ℕ) → (seen objects (term_of (tree.Routine n))).value ≡ Ok (plain (Function n))
unfolding seen linked_opened
value-Routine objects n = refl

pub value-Prefixed : (objects : List Object) (op : UnaryOp) (t : LinkedTerm) →
    (seen objects (term_of (tree.Prefixed op t))).value ≡ (prefixed objects op (seen objects (term_of t))).value
unfolding seen linked_opened
value-Prefixed objects op t = refl

pub place-Prefixed : (objects : List Object) (op : UnaryOp) (t : LinkedTerm) →
    (seen objects (term_of (tree.Prefixed op t))).place ≡ (prefixed objects op (seen objects (term_of t))).place
unfolding seen linked_opened
place-Prefixed objects op t = refl

pub value-Cast : (objects : List Object) (type : CastType) (t : LinkedTerm) →
    (seen objects (term_of (tree.Cast type t))).value ≡ after (seen objects (term_of t)).value (cast type)
unfolding seen linked_opened
value-Cast objects type t = refl

pub value-Between : (objects : List Object) (op : BinaryOp) (a b : LinkedTerm) →
    (seen objects (term_of (tree.Between op a b))).value ≡ between objects op (seen objects (term_of a)).value (seen objects (term_of b)).value
unfolding seen linked_opened
value-Between objects op a b = refl

pub value-Choice : (objects : List Object) (test a b : LinkedTerm) →
    (seen objects (term_of (tree.Choice test a b))).value ≡ choice (seen objects (term_of test)).value (seen objects (term_of a)).value (seen objects (term_of b)).value
unfolding seen linked_opened
value-Choice objects test a b = refl

pub value-Element : (objects : List Object) (array index : LinkedTerm) →
    (seen objects (term_of (tree.Element array index))).value ≡ after (seen objects (term_of (tree.Element array index))).place (fetched objects)
unfolding seen linked_opened
value-Element objects array index = refl

pub place-Element : (objects : List Object) (array index : LinkedTerm) →
    (seen objects (term_of (tree.Element array index))).place ≡ after (seen objects (term_of array)).value (λ start. after (seen objects (term_of index)).value (λ count. element objects start count))
unfolding seen linked_opened
place-Element objects array index = refl

pub value-Field : (objects : List Object) (t : LinkedTerm) (name : FieldName) →
    (seen objects (term_of (tree.Field t name))).value ≡ after (seen objects (term_of (tree.Field t name))).place (fetched objects)
unfolding seen linked_opened
value-Field objects t name = refl

pub place-Field : (objects : List Object) (t : LinkedTerm) (name : FieldName) →
    (seen objects (term_of (tree.Field t name))).place ≡ after (seen objects (term_of t)).place (field (name_in name))
unfolding seen linked_opened
place-Field objects t name = refl

pub value-Size : (objects : List Object) → (seen objects (term_of tree.Size)).value ≡ Ok (plain (Number (pos 4)))
unfolding seen linked_opened
value-Size objects = refl

pub value-Most : (objects : List Object) (which : Extreme) (a b : LinkedTerm) →
    (seen objects (term_of (tree.Most which a b))).value ≡ after (seen objects (term_of a)).value (λ left. after (seen objects (term_of b)).value (λ right. on_numbers (most which) left right))
unfolding seen linked_opened
value-Most objects which a b = refl

pub value-Magnitude : (objects : List Object) (t : LinkedTerm) →
    (seen objects (term_of (tree.Magnitude t))).value ≡ after (seen objects (term_of t)).value (λ typed. after (as_number typed.value) magnitude)
unfolding seen linked_opened
value-Magnitude objects t = refl

pub place-Constant : (objects : List Object) (n : ℤ) → (seen objects (term_of (tree.Constant n))).place ≡ failing Kind
unfolding seen linked_opened
place-Constant objects n = refl

pub place-Array : (objects : List Object) (o : ℕ) (a : AccessType) → (seen objects (term_of (tree.Array o a))).place ≡ failing Kind
unfolding seen linked_opened
place-Array objects o a = refl

pub place-Routine : (objects : List Object) (n : ℕ) → (seen objects (term_of (tree.Routine n))).place ≡ failing Kind
unfolding seen linked_opened
place-Routine objects n = refl

pub place-Cast : (objects : List Object) (type : CastType) (t : LinkedTerm) → (seen objects (term_of (tree.Cast type t))).place ≡ failing Kind
unfolding seen linked_opened
place-Cast objects type t = refl

pub place-Between : (objects : List Object) (op : BinaryOp) (a b : LinkedTerm) → (seen objects (term_of (tree.Between op a b))).place ≡ failing Kind
unfolding seen linked_opened
place-Between objects op a b = refl

pub place-Choice : (objects : List Object) (test a b : LinkedTerm) → (seen objects (term_of (tree.Choice test a b))).place ≡ failing Kind
unfolding seen linked_opened
place-Choice objects test a b = refl

pub place-Size : (objects : List Object) → (seen objects (term_of tree.Size)).place ≡ failing Kind
unfolding seen linked_opened
place-Size objects = refl

pub place-Most : (objects : List Object) (which : Extreme) (a b : LinkedTerm) → (seen objects (term_of (tree.Most which a b))).place ≡ failing Kind
unfolding seen linked_opened
place-Most objects which a b = refl

pub place-Magnitude : (objects : List Object) (t : LinkedTerm) → (seen objects (term_of (tree.Magnitude t))).place ≡ failing Kind
unfolding seen linked_opened
place-Magnitude objects t = refl

pub ruleset term_forms = (value-Constant, value-Variable, place-Variable, value-Array, value-Routine, value-Prefixed, place-Prefixed, value-Cast, value-Between, value-Choice, value-Element, place-Element, value-Field, place-Field, value-Size, value-Most, value-Magnitude, place-Constant, place-Array, place-Routine, place-Cast, place-Between, place-Choice, place-Size, place-Most, place-Magnitude)
