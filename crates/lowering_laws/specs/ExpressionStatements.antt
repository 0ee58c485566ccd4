-- What is said of the steps of an expression. ANSI X3.9-1978, section 6.
use Rattle.std.specs.Prelude.{ℕ, List}
use Rattle.fortran_laws.specs.f_tree.Values.{Datum}
use Rattle.fortran_laws.specs.f_tree.Terms.{Term, Terms}
use Rattle.fortran_laws.specs.f_tree.Facts.{Frame}
use Rattle.fortran_laws.specs.f_tree.Valuing.{reduce, reduce_all}
use Rattle.fortran_laws.specs.f_tree.World.{World}
use Rattle.lowering.specs.l_core.Pures.{Pures, Temporaries}
use Rattle.lowering.specs.l_core.Steps.{Text}
use Rattle.lowering.specs.Expressions.{Purpose, lower, lower_all}
use Rattle.lowering_laws.specs.Walks.{AllLast, Comes, AllCome, Met}
use Rattle.lowering_laws.specs.Midway.{IsMidway, AreMidway}

-- From the start of its code and from each place in its midst: where valuing what is left of an expression comes to a value, the steps come
-- to the end of the code, no temporary below the first free one is changed, and the pure value is that value; where it comes to a call, they
-- come to the same call, and behind each answer again to a place in the midst; where it comes to an act, nothing is said.
abbrev pub EachExpressionFollows : Type 0
EachExpressionFollows =
    (u : Text) (f : Frame) (h : ℕ) (w : World) (env : Pures) (es : List Datum) (purpose : Purpose) (k : ℕ) (t r : Term) (p q : ℕ) (m : Temporaries) →
    AllLast u.facts f k m env es → IsMidway u f env es purpose k t r p m q →
    Met u f h w k p m q (λ d m'. Comes u.facts f w.store purpose (lower env purpose k t).free m' (lower env purpose k t).value d) (λ r' p' m'. IsMidway u f env es purpose k t r' p' m' q) (reduce u.facts f w.store es r)

-- the same of operands from left to right
abbrev pub OperandsFollow : Type 0
OperandsFollow =
    (u : Text) (f : Frame) (h : ℕ) (w : World) (env : Pures) (es : List Datum) (purpose : Purpose) (k : ℕ) (ts rs : Terms) (p q : ℕ) (m : Temporaries) →
    AllLast u.facts f k m env es → AreMidway u f env es purpose k ts rs p m q →
    Met u f h w k p m q (λ ds m'. AllCome u.facts f w.store purpose (lower_all env purpose k ts).free m' (lower_all env purpose k ts).value ds) (λ rs' p' m'. AreMidway u f env es purpose k ts rs' p' m' q) (reduce_all u.facts f w.store es rs)
