-- Facts of the levels of operators and of what stands first in pieces, for the laws of expressions.
use Rattle.std.proofs.Common.{◌≡◌, refl, sym, ap, subst, ℕ, zero, suc, ◌≤◌, ◌<◌, nat_le, leb-true, leb-false, le-leb, Bool, true, false, true≢false, ◌∷◌, Option, Some, None, if◌then◌else◌, le_trans, le_refl, arith}
use Rattle.std.proofs.lemmas.Bool.{lt-leb}
use Rattle.fortran_grammar.specs.f_tree.declared.expressions.BinaryOp.{BinaryOp}
use Rattle.fortran_grammar.specs.f_tree.declared.expressions.BinaryOp.TheVariants as operator
use Rattle.fortran_grammar.specs.fortran_lexemes.Lexemes.{Lexemes, Infix, Mark}
use Rattle.fortran_grammar.specs.fortran_lexemes.declared.signs.Sign.TheVariants as sign
use Rattle.fortran_grammar.specs.ExpressionSpelling.{level, left, right}
use Rattle.grammar_laws.specs.Exactness.{stops}
use Rattle.grammar_laws.specs.ExpressionReading.{◌>>=◌, behind_open, behind_close, behind_comma, behind_colon, operator_at}

abbrev IsNothing : {A : Type 0} → Option A → Type 0
IsNothing None = Unit {0}
IsNothing (Some x) = ⊥

pub none≢some : {A : Type 0} {x : A} → None ≡ Some x → ⊥
none≢some {A} h = subst (λ (o : Option A). IsNothing o) h tt

pub some_injective : {A : Type 0} {a b : A} → Some a ≡ Some b → a ≡ b
some_injective e = cc

-- what stands between two steps
pub record Between {A B : Type 0} (first : Option A) (next : A → Option B) (y : B) : Type 0 where
  pub found : A
  pub is : first ≡ Some found
  pub goes : next found ≡ Some y

pub between_steps : {A B : Type 0} (first : Option A) (next : A → Option B) (y : B) → (first >>= next) ≡ Some y → Between first next y
between_steps None next y h = absurd (none≢some h)
between_steps (Some a) next y h = record { found = a; is = refl; goes = h }

pub step_to : {A B : Type 0} (first : Option A) (next : A → Option B) (a : A) → first ≡ Some a → (first >>= next) ≡ next a
step_to first next a h = ap (λ o. o >>= next) h

-- a fuel that is greater than something is a successor
pub from_suc : (P : ℕ → Type 0) (k : ℕ) → ((m : ℕ) → k ≤ m → P (suc m)) → (n : ℕ) → suc k ≤ n → P n
from_suc P k f zero h = absurd (omega arith)
from_suc P k f (suc m) h = f m (omega arith)

-- an operator groups to the left, or to the right as `**` does
pub data Grouping (o : BinaryOp) : Type 0 where
  to_left : left o ≡ level o → right o ≡ suc (level o) → level o ≤ 8 → Grouping o
  to_right : left o ≡ 10 → right o ≡ 9 → level o ≡ 9 → Grouping o

pub grouping : (o : BinaryOp) → Grouping o
unfolding left right level
grouping operator.Power = to_right refl refl refl
grouping other = to_left refl refl (omega arith)

pub level-left : (o : BinaryOp) → level o ≤ left o
level-left o = by (grouping o)
  where
    by : Grouping o → level o ≤ left o
    by (to_left l r s) = omega arith
    by (to_right l r s) = omega arith

pub left-small : (o : BinaryOp) → left o ≤ 10
left-small o = by (grouping o)
  where
    by : Grouping o → left o ≤ 10
    by (to_left l r s) = omega arith
    by (to_right l r s) = omega arith

pub right-small : (o : BinaryOp) → right o ≤ 10
right-small o = by (grouping o)
  where
    by : Grouping o → right o ≤ 10
    by (to_left l r s) = omega arith
    by (to_right l r s) = omega arith

pub right-positive : (o : BinaryOp) → 1 ≤ right o
right-positive o = by (grouping o)
  where
    by : Grouping o → 1 ≤ right o
    by (to_left l r s) = omega arith
    by (to_right l r s) = omega arith

pub level-right : (o : BinaryOp) → level o ≤ right o
level-right o = by (grouping o)
  where
    by : Grouping o → level o ≤ right o
    by (to_left l r s) = omega arith
    by (to_right l r s) = omega arith

-- an operator that goes on behind no right operand of another may go on behind what the other made
pub behind_made : (o other : BinaryOp) → level other < right o → left other ≤ level o
behind_made o other h = by (grouping o) (grouping other)
  where
    by : Grouping o → Grouping other → left other ≤ level o
    by (to_left l r s) (to_left l' r' s') = omega arith
    by (to_left l r s) (to_right l' r' s') = omega arith
    by (to_right l r s) (to_left l' r' s') = omega arith
    by (to_right l r s) (to_right l' r' s') = omega arith

-- and the other way round
pub behind_right : (o other : BinaryOp) → left other ≤ level o → level other < right o
behind_right o other h = by (grouping o) (grouping other)
  where
    by : Grouping o → Grouping other → level other < right o
    by (to_left l r s) (to_left l' r' s') = omega arith
    by (to_left l r s) (to_right l' r' s') = omega arith
    by (to_right l r s) (to_left l' r' s') = omega arith
    by (to_right l r s) (to_right l' r' s') = omega arith

-- behind an operand of a level below 9, no operator of the level goes on, and so none takes what has a level less than it
pub behind_operand : (k : ℕ) (other : BinaryOp) → k ≤ 8 → level other < suc k → left other ≤ k
behind_operand k other small h = by (grouping other)
  where
    by : Grouping other → left other ≤ k
    by (to_left l' r' s') = omega arith
    by (to_right l' r' s') = omega arith

-- the level that what stands first in pieces asks of what stands before it
unfoldable pub tight : Lexemes → ℕ
tight (Infix o ∷ more) = left o
tight (Mark sign.Open ∷ more) = 11
tight other = 0

pub tight-stops : (pieces : Lexemes) → stops pieces ≡ true → tight pieces ≤ 0
unfolding tight stops
tight-stops (Infix o ∷ more) h = absurd (true≢false (sym h))
tight-stops (Mark sign.Open ∷ more) h = absurd (true≢false (sym h))
tight-stops other h = le_refl 0

-- which operator stands first
pub record OperatorAt (l : ℕ) (pieces : Lexemes) (found : BinaryOp × Lexemes) : Type 0 where
  pub is : pieces ≡ Infix found.0 ∷ found.1
  pub high : l ≤ level found.0

abbrev picked : BinaryOp → Lexemes → Bool → Option (BinaryOp × Lexemes)
picked o more test = if test then Some (o, more) else None

operator_by : (l : ℕ) (o : BinaryOp) (more : Lexemes) (found : BinaryOp × Lexemes) (test : Bool) → nat_le l (level o) ≡ test
    → picked o more test ≡ Some found → OperatorAt l (Infix o ∷ more) found
operator_by l o more found true t h = subst (OperatorAt l (Infix o ∷ more)) (some_injective h) (record { is = refl; high = leb-true l (level o) t })
operator_by l o more found false t h = absurd (none≢some h)

pub operator-is : (l : ℕ) (pieces : Lexemes) (found : BinaryOp × Lexemes) → operator_at l pieces ≡ Some found → OperatorAt l pieces found
unfolding operator_at
operator-is l (Infix o ∷ more) found h = operator_by l o more found (nat_le l (level o)) refl h
operator-is l other found h = absurd (none≢some h)

low_by : (l : ℕ) (o : BinaryOp) (more : Lexemes) (test : Bool) → nat_le l (level o) ≡ test
    → picked o more test ≡ None → level o < l
low_by l o more true t h = absurd (none≢some (sym h))
low_by l o more false t h = leb-false l (level o) t

pub operator-low : (l : ℕ) (o : BinaryOp) (more : Lexemes) → operator_at l (Infix o ∷ more) ≡ None → level o < l
unfolding operator_at
operator-low l o more h = low_by l o more (nat_le l (level o)) refl h

pub operator-high : (l : ℕ) (o : BinaryOp) (more : Lexemes) → l ≤ level o → operator_at l (Infix o ∷ more) ≡ Some (o, more)
unfolding operator_at
operator-high l o more h = ap (picked o more) (le-leb l (level o) h)

pub operator-none : (l : ℕ) (o : BinaryOp) (more : Lexemes) → level o < l → operator_at l (Infix o ∷ more) ≡ None
unfolding operator_at
operator-none l o more h = ap (picked o more) (lt-leb l (level o) h)

pub no_operator : (l : ℕ) (pieces : Lexemes) → tight pieces < l → operator_at l pieces ≡ None
unfolding operator_at tight
no_operator l (Infix o ∷ more) h = operator-none l o more (le_trans (omega (arith, level-left o)) h)
no_operator l other h = refl

-- what a mark that stands first is
pub open-is : (pieces rest : Lexemes) → behind_open pieces ≡ Some rest → pieces ≡ Mark sign.Open ∷ rest
unfolding behind_open
open-is (Mark sign.Open ∷ more) rest h = ap (λ r. Mark sign.Open ∷ r) (some_injective h)
open-is other rest h = absurd (none≢some h)

pub close-is : (pieces rest : Lexemes) → behind_close pieces ≡ Some rest → pieces ≡ Mark sign.Close ∷ rest
unfolding behind_close
close-is (Mark sign.Close ∷ more) rest h = ap (λ r. Mark sign.Close ∷ r) (some_injective h)
close-is other rest h = absurd (none≢some h)

pub comma-is : (pieces rest : Lexemes) → behind_comma pieces ≡ Some rest → pieces ≡ Mark sign.Comma ∷ rest
unfolding behind_comma
comma-is (Mark sign.Comma ∷ more) rest h = ap (λ r. Mark sign.Comma ∷ r) (some_injective h)
comma-is other rest h = absurd (none≢some h)

pub colon-is : (pieces rest : Lexemes) → behind_colon pieces ≡ Some rest → pieces ≡ Mark sign.Colon ∷ rest
unfolding behind_colon
colon-is (Mark sign.Colon ∷ more) rest h = ap (λ r. Mark sign.Colon ∷ r) (some_injective h)
colon-is other rest h = absurd (none≢some h)

pub not_open : (pieces : Lexemes) → tight pieces ≤ 10 → behind_open pieces ≡ None
unfolding behind_open tight
not_open (Mark sign.Open ∷ more) h = absurd (omega arith)
not_open other h = refl
