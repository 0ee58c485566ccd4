-- What holds over some sequences of storage holds over more.
use Rattle.std.specs.Prelude.{ℕ, ◌≤◌, List, [], Option, None}
use Rattle.std.proofs.Common.{arith}
use Rattle.f_tree.specs.Values.{Datum, IsSpot}
use Rattle.f_tree.specs.Terms.{Term, Terms}
use Rattle.f_tree.specs.Facts.{Direction, Head, Job, Work, Form, Facts}
use Rattle.f_tree.specs.WellTyped as typed
use Rattle.f_tree.specs.WellTyped.{Sort, PlaceOf, ValueOf, IsOf, AreOf, none_of, more_of, integers_of, rank_of, Typed, AreTyped}
use Rattle.f_tree.specs.WellFormed as formed
use Rattle.f_tree.specs.WellFormed.{loop_sorts, JobIsFormed, WorkIsFormed, Takes, IsFormed}
use Rattle.f_tree.specs.declared.names.Basic.TheVariants.{Integer, Character}

-- operands
pub of_more : (n m : ℕ) → n ≤ m → (sort : Sort) (d : Datum) → IsOf n sort d → IsOf m sort d
of_more n m upto sort d (typed.integer z) = typed.integer z
of_more n m upto sort d (typed.logical b) = typed.logical b
of_more n m upto sort d (typed.text cs) = typed.text cs
of_more n m upto sort d (typed.place p basic is within) = typed.place p basic is (omega arith)
of_more n m upto sort d (typed.procedure x) = typed.procedure x
of_more n m upto sort d (typed.label l) = typed.label l
of_more n m upto sort d typed.nothing = typed.nothing

pub are_more : (n m : ℕ) → n ≤ m → (sorts : List Sort) (ds : List Datum) → AreOf n sorts ds → AreOf m sorts ds
are_more n m upto sorts ds none_of = none_of
are_more n m upto sorts ds (more_of sort others d more of are) = more_of sort others d more (of_more n m upto sort d of) (are_more n m upto others more are)

-- terms
mutual
  pub typed_more : (c : Facts) (n m : ℕ) → n ≤ m → (env : List Sort) (t : Term) (sort : Sort) → Typed c n env t sort → Typed c m env t sort
  typed_more c n m upto env t sort (typed.is_val _ d _ of) = typed.is_val env d sort (of_more n m upto sort d of)
  typed_more c n m upto env t sort (typed.is_fetch _ u basic valued is) = typed.is_fetch env u basic valued (typed_more c n m upto env u (PlaceOf basic) is)
  typed_more c n m upto env t sort (typed.is_at _ x basic variable) = typed.is_at env x basic variable
  typed_more c n m upto env t sort (typed.is_named_procedure _ x procedure) = typed.is_named_procedure env x procedure
  typed_more c n m upto env t sort (typed.is_all _ x basic variable sized) = typed.is_all env x basic variable sized
  typed_more c n m upto env t sort (typed.is_element _ x ts basic variable are) =
      typed.is_element env x ts basic variable (terms_more c n m upto env ts (integers_of (rank_of c x)) are)
  typed_more c n m upto env t sort (typed.is_alone _ u basic is) = typed.is_alone env u basic (typed_more c n m upto env u (PlaceOf basic) is)
  typed_more c n m upto env t sort (typed.is_part _ x u from to last is_last is first end) =
      typed.is_part env x u from to last is_last (typed_more c n m upto env u (PlaceOf Character) is) (typed_more c n m upto env from (ValueOf Integer) first)
      (typed_more c n m upto env to last end)
  typed_more c n m upto env t sort (typed.is_joined _ ts sorts pieces are) = typed.is_joined env ts sorts pieces (terms_more c n m upto env ts sorts are)
  typed_more c n m upto env t sort (typed.is_before _ op u basic precedes is) =
      typed.is_before env op u basic precedes (typed_more c n m upto env u (ValueOf basic) is)
  typed_more c n m upto env t sort (typed.is_between _ op u w basic result operates left right) =
      typed.is_between env op u w basic result operates (typed_more c n m upto env u (ValueOf basic) left) (typed_more c n m upto env w (ValueOf basic) right)
  typed_more c n m upto env t sort (typed.is_intrinsic _ function ts sorts basic applies are) =
      typed.is_intrinsic env function ts sorts basic applies (terms_more c n m upto env ts sorts are)
  typed_more c n m upto env t sort (typed.is_refer _ x basic width ts sorts callee are) =
      typed.is_refer env x basic width ts sorts callee (terms_more c n m upto env ts sorts are)
  typed_more c n m upto env t sort (typed.is_bind _ ts sorts u _ are is) =
      typed.is_bind env ts sorts u sort (terms_more c n m upto env ts sorts are) (typed_more c n m upto sorts u sort is)
  typed_more c n m upto env t sort (typed.is_bound _ k _ nth) = typed.is_bound env k sort nth

  pub terms_more : (c : Facts) (n m : ℕ) → n ≤ m → (env : List Sort) (ts : Terms) (sorts : List Sort) → AreTyped c n env ts sorts → AreTyped c m env ts sorts
  terms_more c n m upto env ts sorts (typed.no_terms _) = typed.no_terms env
  terms_more c n m upto env ts sorts (typed.more_terms _ t more sort others is are) =
      typed.more_terms env t more sort others (typed_more c n m upto env t sort is) (terms_more c n m upto env more others are)

-- lists of a transfer
mutual
  pub job_more : (c : Facts) (n m : ℕ) → n ≤ m → (way : Direction) (job : Job) → JobIsFormed c n way job → JobIsFormed c m way job
  job_more c n m upto way job (formed.item t sort listed is) = formed.item t sort listed (typed_more c n m upto [] t sort is)
  job_more c n m upto way job (formed.repeated items control are is) =
      formed.repeated items control (work_more c n m upto way items are) (terms_more c n m upto [] control loop_sorts is)
  job_more c n m upto way job (formed.turn items p left by given are of) =
      formed.turn items p left by given (work_more c n m upto way items are) (of_more n m upto (PlaceOf Integer) (IsSpot p) of)

  pub work_more : (c : Facts) (n m : ℕ) → n ≤ m → (way : Direction) (work : Work) → WorkIsFormed c n way work → WorkIsFormed c m way work
  work_more c n m upto way work formed.done = formed.done
  work_more c n m upto way work (formed.before job later is are) = formed.before job later (job_more c n m upto way job is) (work_more c n m upto way later are)

-- statements
mutual
  pub takes_more : (c : Facts) (n m : ℕ) → n ≤ m → (at : ℕ) (stage : Option Direction) (head : Head) (sorts : List Sort) → Takes c n at stage head sorts →
      Takes c m at stage head sorts
  takes_more c n m upto at stage head sorts (formed.sets basic valued) = formed.sets basic valued
  takes_more c n m upto at stage head sorts (formed.sets_text _ pieces) = formed.sets_text sorts pieces
  takes_more c n m upto at stage head sorts (formed.sets_label label) = formed.sets_label label
  takes_more c n m upto at stage head sorts (formed.goes label stands) = formed.goes label stands
  takes_more c n m upto at stage head sorts (formed.picks labels stand) = formed.picks labels stand
  takes_more c n m upto at stage head sorts (formed.goes_assigned labels) = formed.goes_assigned labels
  takes_more c n m upto at stage head sorts (formed.goes_by_sign below even above one two three) = formed.goes_by_sign below even above one two three
  takes_more c n m upto at stage head sorts (formed.guards form is) = formed.guards form (formed_more c n m upto at None form is)
  takes_more c n m upto at stage head sorts (formed.enters_arm line there arm) = formed.enters_arm line there arm
  takes_more c n m upto at stage head sorts (formed.loops label terminal) = formed.loops label terminal
  takes_more c n m upto at stage head sorts (formed.tests_loop label line there takes terminal) = formed.tests_loop label line there takes terminal
  takes_more c n m upto at stage head sorts (formed.calls x _ callee passed) = formed.calls x sorts callee passed
  takes_more c n m upto at stage head sorts formed.returns = formed.returns
  takes_more c n m upto at stage head sorts formed.returns_by = formed.returns_by
  takes_more c n m upto at stage head sorts (formed.stops text) = formed.stops text
  takes_more c n m upto at stage head sorts formed.ends = formed.ends
  takes_more c n m upto at stage head sorts (formed.begins way layout controls work _ sort words unit given on_error on_end are) =
      formed.begins way layout controls work sorts sort words unit given on_error on_end (work_more c n m upto way work are)
  takes_more c n m upto at stage head sorts (formed.uses_unit which controls _ words unit on_error on_end) = formed.uses_unit which controls sorts words unit on_error on_end
  takes_more c n m upto at stage head sorts (formed.transfers way rest sort listed are) = formed.transfers way rest sort listed (work_more c n m upto way rest are)
  takes_more c n m upto at stage head sorts (formed.repeats way items rest are others) =
      formed.repeats way items rest (work_more c n m upto way items are) (work_more c n m upto way rest others)
  takes_more c n m upto at stage head sorts (formed.turns way items p left by given rest are of others) =
      formed.turns way items p left by given rest (work_more c n m upto way items are) (of_more n m upto (PlaceOf Integer) (IsSpot p) of)
      (work_more c n m upto way rest others)
  takes_more c n m upto at stage head sorts (formed.finishes way) = formed.finishes way

  pub formed_more : (c : Facts) (n m : ℕ) → n ≤ m → (at : ℕ) (stage : Option Direction) (form : Form) → IsFormed c n at stage form → IsFormed c m at stage form
  formed_more c n m upto at stage form formed.passes = formed.passes
  formed_more c n m upto at stage form (formed.on _ head operands sorts takes are) =
      formed.on stage head operands sorts (takes_more c n m upto at stage head sorts takes) (terms_more c n m upto [] operands sorts are)
