-- The term that each form of the data of a linked expression stands for.
use Rattle.std.proofs.Common.{◌≡◌, refl, ℕ, ℤ}
use Rattle.c_tree.specs.declared.types.CastType.{CastType}
use Rattle.c_tree.specs.declared.expression.UnaryOp.{UnaryOp}
use Rattle.c_tree.specs.declared.expression.BinaryOp.{BinaryOp}
use Rattle.c_tree.specs.declared.expression.Extreme.{Extreme}
use Rattle.c_tree.specs.Terms as term
use Rattle.run_bytes.specs.declared.access.AccessType.{AccessType}
use Rattle.run_bytes.specs.Accesses.{access_of}
use Rattle.linked_terms.specs.declared.terms.LinkedTerm.{LinkedTerm}
use Rattle.linked_terms.specs.declared.terms.LinkedTerm.TheVariants as made
use Rattle.linked_terms.specs.declared.field_names.FieldName.{FieldName}
use Rattle.linked_terms.specs.FieldNames.{name_in}
use Rattle.linked_terms.specs.LinkedTerms.{term_of, linked_opened}

pub term-Constant : (n : ℤ) → term_of (made.Constant n) ≡ term.Constant n
unfolding term_of linked_opened
term-Constant n = refl

pub term-Variable : (o : ℕ) (a : AccessType) → term_of (made.Variable o a) ≡ term.Variable o (access_of a)
unfolding term_of linked_opened
term-Variable o a = refl

pub term-Array : (o : ℕ) (a : AccessType) → term_of (made.Array o a) ≡ term.Array o (access_of a)
unfolding term_of linked_opened
term-Array o a = refl

pub term-Routine : (n : ℕ) → term_of (made.Routine n) ≡ term.Routine n
unfolding term_of linked_opened
term-Routine n = refl

pub term-Prefixed : (op : UnaryOp) (t : LinkedTerm) → term_of (made.Prefixed op t) ≡ term.Prefixed op (term_of t)
unfolding term_of linked_opened
term-Prefixed op t = refl

pub term-Cast : (of : CastType) (t : LinkedTerm) → term_of (made.Cast of t) ≡ term.Cast of (term_of t)
unfolding term_of linked_opened
term-Cast of t = refl

pub term-Between : (op : BinaryOp) (a b : LinkedTerm) → term_of (made.Between op a b) ≡ term.Between op (term_of a) (term_of b)
unfolding term_of linked_opened
term-Between op a b = refl

pub term-Choice : (t a b : LinkedTerm) → term_of (made.Choice t a b) ≡ term.Choice (term_of t) (term_of a) (term_of b)
unfolding term_of linked_opened
term-Choice t a b = refl

pub term-Element : (a b : LinkedTerm) → term_of (made.Element a b) ≡ term.Element (term_of a) (term_of b)
unfolding term_of linked_opened
term-Element a b = refl

pub term-Field : (t : LinkedTerm) (name : FieldName) → term_of (made.Field t name) ≡ term.Field (term_of t) (name_in name)
unfolding term_of linked_opened
term-Field t name = refl

pub term-Size : term_of made.Size ≡ term.Size
unfolding term_of linked_opened
term-Size = refl

pub term-Most : (which : Extreme) (a b : LinkedTerm) → term_of (made.Most which a b) ≡ term.Most which (term_of a) (term_of b)
unfolding term_of linked_opened
term-Most which a b = refl

pub term-Magnitude : (t : LinkedTerm) → term_of (made.Magnitude t) ≡ term.Magnitude (term_of t)
unfolding term_of linked_opened
term-Magnitude t = refl

pub ruleset term_forms = (term-Constant, term-Variable, term-Array, term-Routine, term-Prefixed, term-Cast, term-Between, term-Choice, term-Element, term-Field, term-Size, term-Most, term-Magnitude)
