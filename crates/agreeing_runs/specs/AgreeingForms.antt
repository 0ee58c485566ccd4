-- Statements whose calls agree with the procedures of a set, also those in progress: each CALL and each reference to a function by a name that is no
-- dummy procedure has operands of sorts that agree with the procedure of that name. ANSI X3.9-1978, sections 12.8.2 (lists), 15.5.2, 15.6.2 and 15.9.3.
use Rattle.std.specs.Prelude.{◌≡◌, ℕ, false, List, [], Some, slice_get}
use Rattle.fortran_totality.specs.f_tree.declared.names.Class.TheVariants as class
use Rattle.fortran_totality.specs.f_tree.run_state.Units.{Units}
use Rattle.fortran_totality.specs.f_tree.Values.{Datum}
use Rattle.fortran_totality.specs.f_tree.Terms.{AsSubroutine, Callee, Term, Val, Fetch, At, All, Element, Alone, Part, Joined, Before as Prefixed, Between, Intrinsically, Refer, Bind, Bound, Terms, NoMore, More}
use Rattle.fortran_totality.specs.f_tree.Store.{Store}
use Rattle.fortran_totality.specs.f_tree.Facts.{Job, Item, Repeated, Turn, Work, Done, Before, Head, ToGuard, ToCall, ToBegin, ToTransfer, ToRepeat, ToTurn, Form, Passes, On, Line, ProgramUnit, Facts}
use Rattle.fortran_totality.specs.f_tree.Association.{passing}
use Rattle.fortran_totality.specs.f_tree.Setting.{Setting}
use Rattle.fortran_totality.specs.f_tree.Meaning.{facts_at, ftn}
use Rattle.fortran_totality.specs.f_tree.WellTyped.{Sort, AreOf, AreTyped}
use Rattle.fortran_totality.specs.f_tree.WellFormed.{AreWellFormed}
use Rattle.agreeing_runs.specs.Mismatches.{differs, IsProcedure, IsMismatched}

-- whatever the operands of these sorts are, what is passed agrees with the procedure
abbrev pub Agrees : List ProgramUnit → Facts → Callee → List Sort → Type 0
Agrees S c callee sorts = ((c.program.attribute callee.name).class ≡ class.DummyProcedure → ⊥) → (p : IsProcedure S callee.name) → (n : ℕ) (s : Store) (ds : List Datum) →
    AreOf n sorts ds → differs p.unit p.entry callee.want (passing s ds).actuals ≡ false

-- operands of such sorts
pub record Suits (S : List ProgramUnit) (c : Facts) (count : ℕ) (env : List Sort) (callee : Callee) (ts : Terms) : Type 0 where
  pub sorts : List Sort
  pub typed : AreTyped c count env ts sorts
  pub agrees : Agrees S c callee sorts

module _ (S : List ProgramUnit) (c : Facts) (count : ℕ) where
  -- EXPRESSIONS, over the sorts of the arguments of the statement function around them
  unfoldable mutual
    pub TermAgrees : List Sort → Term → Type 0
    TermAgrees env (Val d) = Unit {0}
    TermAgrees env (Fetch t) = TermAgrees env t
    TermAgrees env (At x) = Unit {0}
    TermAgrees env (All x) = Unit {0}
    TermAgrees env (Element x ts) = TermsAgree env ts
    TermAgrees env (Alone t) = TermAgrees env t
    TermAgrees env (Part x t from to) = TermAgrees env t × (TermAgrees env from × TermAgrees env to)
    TermAgrees env (Joined ts) = TermsAgree env ts
    TermAgrees env (Prefixed op t) = TermAgrees env t
    TermAgrees env (Between op t u) = TermAgrees env t × TermAgrees env u
    TermAgrees env (Intrinsically function ts) = TermsAgree env ts
    TermAgrees env (Refer callee ts) = TermsAgree env ts × Suits S c count env callee ts
    TermAgrees env (Bind ts t) = TermsAgree env ts × ((sorts : List Sort) × (AreTyped c count env ts sorts × TermAgrees sorts t))
    TermAgrees env (Bound k) = Unit {0}

    pub TermsAgree : List Sort → Terms → Type 0
    TermsAgree env NoMore = Unit {0}
    TermsAgree env (More t ts) = TermAgrees env t × TermsAgree env ts

  -- LISTS
  unfoldable mutual
    pub JobAgrees : Job → Type 0
    JobAgrees (Item t) = TermAgrees [] t
    JobAgrees (Repeated items control) = WorkAgrees items × TermsAgree [] control
    JobAgrees (Turn items p left by given) = WorkAgrees items

    pub WorkAgrees : Work → Type 0
    WorkAgrees Done = Unit {0}
    WorkAgrees (Before job work) = JobAgrees job × WorkAgrees work

  -- STATEMENTS
  unfoldable mutual
    pub HeadAgrees : Head → Terms → Type 0
    HeadAgrees (ToGuard form) operands = FormAgrees form
    HeadAgrees (ToCall x) operands = Suits S c count [] (record { name = x; want = AsSubroutine }) operands
    HeadAgrees (ToBegin way layout controls work) operands = WorkAgrees work
    HeadAgrees (ToTransfer rest) operands = WorkAgrees rest
    HeadAgrees (ToRepeat items rest) operands = WorkAgrees items × WorkAgrees rest
    HeadAgrees (ToTurn items p left by given rest) operands = WorkAgrees items × WorkAgrees rest
    HeadAgrees _ operands = Unit {0}

    pub FormAgrees : Form → Type 0
    FormAgrees Passes = Unit {0}
    FormAgrees (On head operands) = HeadAgrees head operands × TermsAgree [] operands

-- each statement of a unit, over so many sequences and more
abbrev pub LinesAgree : List ProgramUnit → Facts → Type 0
LinesAgree S c = (count i : ℕ) (line : Line) → slice_get c.program.lines i ≡ Some line → FormAgrees S c count line.form

-- In well-formed units whose statements agree with the procedures of the set, no call of a run disagrees in kind, number or type.
abbrev pub EachAgreeingRunAgrees : Type 0
EachAgreeingRunAgrees = (g : Setting) (S : List ProgramUnit) (units : Units) (n : ℕ) → AreWellFormed g S →
    ((k : ℕ) → LinesAgree S (facts_at g k (slice_get S k))) → IsMismatched g S (ftn g S units n) → ⊥

unfoldable pub agreeing_forms_opened : Unit {0}
unfolding TermAgrees TermsAgree JobAgrees WorkAgrees HeadAgrees FormAgrees
agreeing_forms_opened = tt
