-- A procedure begins: the entry called is one of the unit's, its dummy arguments are what is passed, its dimensions come to
-- integers, its result has a place, and control comes to its first statement.
use Rattle.std.specs.Prelude.{◌≡◌, ℕ, suc, ◌*◌, ◌<◌, ◌≤◌, nat_le, nat_abs, ℤ, pos, ◌+ℤ◌, ◌-ℤ◌, int_lt, int_le, Bool, true, false, ◌&&◌, ◌||◌, List, [], ◌∷◌, ◌++◌, length, find, bytes_eq, Option, Some, None, is_some, IsTrue, if◌then◌else◌}
use Rattle.std.proofs.Common.{refl, sym, subst, ap, ◌∙◌, arith}
use Rattle.std.proofs.lemmas.Slice.Eq.{bytes_eq-Decides}
use Rattle.f_tree.specs.simulation.Machine.{Entry, Refused}
use Rattle.f_tree.specs.declared.names.Basic.{Basic}
use Rattle.f_tree.specs.declared.names.Basic.TheVariants.{Integer, Logical, Character, Untyped}
use Rattle.f_tree.specs.declared.names.Class.{Class}
use Rattle.f_tree.specs.declared.names.Class.TheVariants as class
use Rattle.f_tree.specs.Values.{Bytes, Spot, Datum, IsSpot, IsProc, IsLabel, BadDimension, Disagreement, Checked, Gives, Fails, given_that}
use Rattle.f_tree.specs.Terms.{Wanted, AsSubroutine, AsFunction, Negate, Operator, Power, Term, Val, Fetch, Before, Between, Intrinsically, NoMore, More}
use Rattle.f_tree.specs.Store.{Store, undefined_units}
use Rattle.f_tree.specs.Facts.{Dimension, Bounds, Attribute, Formal, Named, Alternate, UnitKind, MainProgram, SubroutineUnit, FunctionUnit, BlockDataUnit, EntryPoint, ProgramUnit, Facts, Frame, Home}
use Rattle.f_tree.specs.Attributes.{is_not_empty}
use Rattle.f_tree.specs.Valuing.{elements_of, extent_of, stored_at, if_bound, if_there, named_as, whole, either_bounds, bounds_of, Red, Valued, Bad, Asks, then_by, at_once, left_of, right_after, prefixed, operated, applied, fetched, reduce, reduce_all}
use Rattle.f_tree.specs.World.{World, View, Called, TheMain, Procedure, Passed, fortran_sorts, entered}
use Rattle.f_tree.specs.Places.{arrived}
use Rattle.f_tree.specs.Association.{entry_of, same_basic, same_width, serves, Bindings, value_for, length_of, is_array_dummy, bound_as, agreed, bind_all, integer_of, sized, dimension_by, dimensions_by, all_dimensions_by, bounds_for, result_of, with_result, frame_of, begun_with, begun_bound, begun_at, start}
use Rattle.f_tree.specs.Setting.{IsIn, first_in, later_in}
use Rattle.f_tree.specs.Meaning.{is_main, has_entry, answers_to}
use Rattle.f_tree.specs.WellTyped as typed
use Rattle.f_tree.specs.WellTyped.{Sort, ValueOf, PlaceOf, AProcedure, IsOf, AreOf, is_named, Answers, IsValued, Operates, is_variable, is_procedure_name, IsVariable, has_size, rank_of, IsHeld, Sound}
use Rattle.f_tree.specs.WellFormed as formed
use Rattle.f_tree.specs.WellFormed.{IsStored, IsOfVariables, IsUpper, AreDimensions, IsResult, is_dummy, IsWellFormed}
use Rattle.f_tree.specs.Holding as holding
use Rattle.f_tree.specs.Holding.{Serves, IsActive, HasPlace, IsPassed, Begins, EachStartIsMeant}
use Rattle.fortran_totality.proofs.MeantLemmas.{Any, answers_if, given_meant, prefixed_meant, operated_meant, applied_meant, fetched_meant}
use Rattle.fortran_totality.proofs.ReachLemmas.{IsActiveIn, arrived_active}
use Rattle.fortran_totality.proofs.ScaleLemmas.{are_more}
use Rattle.fortran_totality.proofs.CallLemmas.{one_added, in_or_behind}

-- a test that is known where it holds, and a property that follows from another
pub answers_when : {A : Type 0} (P : A → Type 0) (b : Bool) (x y : Checked A) → (IsTrue b → Answers P x) → Answers P y → Answers P (if b then x else y)
answers_when P true x y one other = one refl
answers_when P false x y one other = other

pub answers_so : {A : Type 0} (P Q : A → Type 0) (r : Checked A) → ((a : A) → P a → Q a) → Answers P r → Answers Q r
unfolding Answers
answers_so P Q (Gives a) so answers = so a answers
answers_so P Q (Fails act) so answers = answers

-- THE ENTRY THAT IS CALLED is one of the unit's
pub found_if : (P : Option EntryPoint → Type 0) (b : Bool) (e : EntryPoint) (es : List EntryPoint) (more : Bool) (later : Option EntryPoint) → IsTrue (b || more) →
    ((e' : EntryPoint) → IsIn e' (e ∷ es) → P (Some e')) → (IsTrue more → P later) → P (if b then Some e else later)
found_if P true e es more later is here behind = here e first_in
found_if P false e es more later is here behind = behind is

pub entry_found : (P : Option EntryPoint → Type 0) (es : List EntryPoint) (x : Bytes) → IsTrue (has_entry es x) → ((e : EntryPoint) → IsIn e es → P (Some e)) →
    P (find (λ e. bytes_eq e.name x) es)
unfolding has_entry
entry_found P [] x is here = absurd (cc)
entry_found P (e ∷ es) x is here =
    found_if P (bytes_eq e.name x) e es (has_entry es x) (find (λ o. bytes_eq o.name x) es) is here (λ more. entry_found P es x more (λ e' among. here e' (later_in among)))

pub first_entry : (P : Option EntryPoint → Type 0) (es : List EntryPoint) → IsTrue (is_not_empty es) → ((e : EntryPoint) → IsIn e es → P (Some e)) → P (entry_of MainProgram es TheMain)
unfolding is_not_empty entry_of
first_entry P [] is here = absurd (cc)
first_entry P (e ∷ es) is here = here e first_in

pub entry_called : (P : Option EntryPoint → Type 0) (u : ProgramUnit) (kind : UnitKind) (name : Called) → IsTrue (answers_to name (record u { kind = kind })) →
    IsTrue (is_not_empty u.entries) → ((e : EntryPoint) → IsIn e u.entries → P (Some e)) → P (entry_of kind u.entries name)
unfolding answers_to is_main entry_of
entry_called P u MainProgram TheMain is named here = first_entry P u.entries named here
entry_called P u SubroutineUnit TheMain is named here = absurd (cc)
entry_called P u FunctionUnit TheMain is named here = absurd (cc)
entry_called P u BlockDataUnit TheMain is named here = absurd (cc)
entry_called P u MainProgram (Procedure x) is named here = absurd (cc)
entry_called P u SubroutineUnit (Procedure x) is named here = entry_found P u.entries x is here
entry_called P u FunctionUnit (Procedure x) is named here = entry_found P u.entries x is here
entry_called P u BlockDataUnit (Procedure x) is named here = absurd (cc)

-- THE RESULT. What a unit can be called as
pub data Suits (kind : UnitKind) (a : Attribute) : Wanted → Type 0 where
  suits_main : kind ≡ MainProgram → Suits kind a AsSubroutine
  suits_subroutine : kind ≡ SubroutineUnit → Suits kind a AsSubroutine
  suits_function : (basic : Basic) (width : ℕ) → kind ≡ FunctionUnit → IsValued basic → a.basic ≡ basic → Suits kind a (AsFunction basic width)

pub same_valued : (one other : Basic) → IsTrue (same_basic one other) → (one ≡ other) × IsValued other
unfolding same_basic
same_valued Integer Integer is = (refl, typed.integers)
same_valued Logical Logical is = (refl, typed.logicals)
same_valued Character Character is = (refl, typed.texts)
same_valued Integer Logical is = absurd (cc)
same_valued Integer Character is = absurd (cc)
same_valued Integer Untyped is = absurd (cc)
same_valued Logical Integer is = absurd (cc)
same_valued Logical Character is = absurd (cc)
same_valued Logical Untyped is = absurd (cc)
same_valued Character Integer is = absurd (cc)
same_valued Character Logical is = absurd (cc)
same_valued Character Untyped is = absurd (cc)
same_valued Untyped other is = absurd (cc)

pub both_hold : (a b : Bool) → IsTrue (a && b) → IsTrue a
both_hold true b is = refl
both_hold false b is = absurd (cc)

pub serves_suits : (kind : UnitKind) (a : Attribute) (want : Wanted) → IsTrue (serves kind a want) → Suits kind a want
unfolding serves
serves_suits MainProgram a AsSubroutine is = suits_main refl
serves_suits SubroutineUnit a AsSubroutine is = suits_subroutine refl
serves_suits FunctionUnit a (AsFunction basic width) is =
    let same : (a.basic ≡ basic) × IsValued basic = same_valued a.basic basic (both_hold (same_basic a.basic basic) (same_width basic a.width width) is) in
    suits_function basic width refl same.1 same.0
serves_suits FunctionUnit a AsSubroutine is = absurd (cc)
serves_suits BlockDataUnit a AsSubroutine is = absurd (cc)
serves_suits MainProgram a (AsFunction basic width) is = absurd (cc)
serves_suits SubroutineUnit a (AsFunction basic width) is = absurd (cc)
serves_suits BlockDataUnit a (AsFunction basic width) is = absurd (cc)

-- what is called as it can be has a place for its result, where it wants one
pub own_serves : (a : Attribute) (basic : Basic) (width : ℕ) (s : Store) (f : Frame) → IsValued basic → a.basic ≡ basic →
    f.result ≡ result_of FunctionUnit a None s → Serves FunctionUnit f (length (with_result FunctionUnit None s)) (AsFunction basic width)
unfolding result_of with_result
own_serves a basic width s f valued same is =
    let longer : length (s ++ undefined_units 4 ∷ []) ≡ suc (length s) = one_added s (undefined_units 4) in
    holding.as_function basic width _ refl valued is (typed.place _ basic same (omega (arith, longer)))

pub function_serves : (a : Attribute) (basic : Basic) (width : ℕ) (result : Option Spot) (s : Store) (f : Frame) → IsValued basic → a.basic ≡ basic →
    HasPlace (length s) (AsFunction basic width) result → f.result ≡ result_of FunctionUnit a result s →
    Serves FunctionUnit f (length (with_result FunctionUnit result s)) (AsFunction basic width)
unfolding result_of with_result
function_serves a basic width result s f valued same (holding.for_integer _) is = own_serves a Integer width s f valued same is
function_serves a basic width result s f valued same (holding.for_logical _) is = own_serves a Logical width s f valued same is
function_serves a basic width result s f valued same (holding.for_text _ p placed) is = holding.as_function Character width p refl valued is placed
function_serves a basic width result s f valued same (holding.for_none _ _ _ none) is = absurd (none valued)

pub result_serves : (kind : UnitKind) (a : Attribute) (want : Wanted) (result : Option Spot) (s : Store) (f : Frame) → Suits kind a want → HasPlace (length s) want result →
    f.result ≡ result_of kind a result s → Serves kind f (length (with_result kind result s)) want
result_serves kind a want result s f (suits_main main) place is = holding.as_main main
result_serves kind a want result s f (suits_subroutine main) place is = holding.as_subroutine main
result_serves kind a want result s f (suits_function basic width function valued same) place is =
    subst (λ k. f.result ≡ result_of k a result s → Serves k f (length (with_result k result s)) (AsFunction basic width)) (sym function)
    (λ is'. function_serves a basic width result s f valued same place is') is

pub with_upto : (kind : UnitKind) (result : Option Spot) (s : Store) → length s ≤ length (with_result kind result s)
unfolding with_result
with_upto MainProgram result s = omega arith
with_upto SubroutineUnit result s = omega arith
with_upto BlockDataUnit result s = omega arith
with_upto FunctionUnit (Some p) s = omega arith
with_upto FunctionUnit None s = let longer : length (s ++ undefined_units 4 ∷ []) ≡ suc (length s) = one_added s (undefined_units 4) in omega (arith, longer)

-- DUMMY ARGUMENTS. What a name of an entry's list is bound to, by its class
pub data BoundAs (n : ℕ) (a : Attribute) (d : Datum) : Type 0 where
  bound_variable : a.class ≡ class.Dummy → IsOf n (PlaceOf a.basic) d → BoundAs n a d
  bound_procedure : a.class ≡ class.DummyProcedure → IsOf n AProcedure d → BoundAs n a d

pub place_bound : (n : ℕ) (a : Attribute) (width : Option ℕ) (p : Spot) → a.basic ≡ p.basic → p.sequence < n → Answers (IsOf n (PlaceOf a.basic)) (bound_as a width p)
unfolding bound_as Answers is_named
place_bound n a None p same within = typed.place p a.basic (sym same) within
place_bound n a (Some width) p same within =
    answers_if (IsOf n (PlaceOf a.basic)) (is_array_dummy a || nat_le width p.width) (Gives (IsSpot (record p { width = width }))) (Fails Disagreement)
    (typed.place (record p { width = width }) a.basic (sym same) within) refl

pub place_agreed : (n : ℕ) (a : Attribute) (k : Class) (p : Spot) → p.sequence < n → Answers (BoundAs n (record a { class = k })) (agreed (record a { class = k }) (IsSpot p))
unfolding agreed Answers is_named
place_agreed n a class.Dummy p within =
    let b : Attribute = record a { class = class.Dummy } in
    answers_when (BoundAs n b) (same_basic a.basic p.basic) (bound_as b a.width p) (Fails Disagreement)
    (λ is. answers_so (IsOf n (PlaceOf a.basic)) (BoundAs n b) (bound_as b a.width p) (λ d of. bound_variable refl of)
    (place_bound n b a.width p (same_valued a.basic p.basic is).0 within)) refl
place_agreed n a class.Constant p within = refl
place_agreed n a class.Stored p within = refl
place_agreed n a class.Result p within = refl
place_agreed n a class.Procedure p within = refl
place_agreed n a class.DummyProcedure p within = refl
place_agreed n a class.StatementFunction p within = refl
place_agreed n a class.Intrinsic p within = refl
place_agreed n a class.Unit p within = refl

pub procedure_agreed : (n : ℕ) (a : Attribute) (k : Class) (x : Bytes) → Answers (BoundAs n (record a { class = k })) (agreed (record a { class = k }) (IsProc x))
unfolding agreed Answers is_named
procedure_agreed n a class.DummyProcedure x = bound_procedure refl (typed.procedure x)
procedure_agreed n a class.Constant x = refl
procedure_agreed n a class.Stored x = refl
procedure_agreed n a class.Dummy x = refl
procedure_agreed n a class.Result x = refl
procedure_agreed n a class.Procedure x = refl
procedure_agreed n a class.StatementFunction x = refl
procedure_agreed n a class.Intrinsic x = refl
procedure_agreed n a class.Unit x = refl

pub operand_agreed : (n : ℕ) (a : Attribute) (sort : Sort) (d : Datum) → IsOf n sort d → Answers (BoundAs n a) (agreed a d)
unfolding agreed Answers is_named
operand_agreed n a sort d (typed.place p basic same within) = place_agreed n a a.class p within
operand_agreed n a sort d (typed.procedure x) = procedure_agreed n a a.class x
operand_agreed n a sort d (typed.integer z) = refl
operand_agreed n a sort d (typed.logical b) = refl
operand_agreed n a sort d (typed.text cs) = refl
operand_agreed n a sort d (typed.label l) = refl
operand_agreed n a sort d typed.nothing = refl

-- each name of the list, and the labels, which are among those that are passed
pub data AreBound (u : ProgramUnit) (n : ℕ) : List Bytes → List Datum → Type 0 where
  none_bound : AreBound u n [] []
  more_bound : (x : Bytes) (xs : List Bytes) (d : Datum) (ds : List Datum) → BoundAs n (u.attribute x) d → AreBound u n xs ds → AreBound u n (x ∷ xs) (d ∷ ds)

pub record BindsWell (u : ProgramUnit) (n : ℕ) (actuals : List Datum) (bs : Bindings) : Type 0 where
  pub bound : AreBound u n bs.names bs.values
  pub labels : (l : ℕ) → IsIn l bs.labels → IsIn (IsLabel l) actuals

pub binds_well : (u : ProgramUnit) (n : ℕ) (formals : List Formal) (sorts : List Sort) (ds : List Datum) → AreOf n sorts ds → Answers (BindsWell u n ds) (bind_all u formals ds)
unfolding bind_all Answers is_named
binds_well u n [] sorts ds typed.none_of = record { bound = none_bound; labels = λ l among. elim among [ ] }
binds_well u n [] sorts ds (typed.more_of _ _ d more is are) = refl
binds_well u n (Named x ∷ formals) sorts ds typed.none_of = refl
binds_well u n (Named x ∷ formals) sorts ds (typed.more_of sort others d more is are) =
    given_meant (BoundAs n (u.attribute x)) (BindsWell u n (d ∷ more)) (agreed (u.attribute x) d)
    (λ b. given_that (bind_all u formals more) (λ bs. Gives (record bs { names = x ∷ bs.names; values = b ∷ bs.values; lengths = length_of d ∷ bs.lengths })))
    (operand_agreed n (u.attribute x) sort d is)
    (λ b bound. given_meant (BindsWell u n more) (BindsWell u n (d ∷ more)) (bind_all u formals more)
    (λ bs. Gives (record bs { names = x ∷ bs.names; values = b ∷ bs.values; lengths = length_of d ∷ bs.lengths })) (binds_well u n formals others more are)
    (λ bs well. record { bound = more_bound x bs.names b bs.values bound well.bound; labels = λ l among. later_in (well.labels l among) }))
binds_well u n (Alternate ∷ formals) sorts ds typed.none_of = refl
binds_well u n (Alternate ∷ formals) sorts ds (typed.more_of _ others _ more (typed.label l) are) =
    given_meant (BindsWell u n more) (BindsWell u n (IsLabel l ∷ more)) (bind_all u formals more) (λ bs. Gives (record bs { labels = l ∷ bs.labels }))
    (binds_well u n formals others more are)
    (λ bs well. record {
      bound = well.bound;
      labels = λ k among. in_or_behind (IsIn (IsLabel k) (IsLabel l ∷ more)) k l bs.labels among
          (λ same. subst (λ j. IsIn (IsLabel k) (IsLabel j ∷ more)) same first_in) (λ behind. later_in (well.labels k behind));
    })
binds_well u n (Alternate ∷ formals) sorts ds (typed.more_of _ others _ more (typed.integer z) are) = refl
binds_well u n (Alternate ∷ formals) sorts ds (typed.more_of _ others _ more (typed.logical b) are) = refl
binds_well u n (Alternate ∷ formals) sorts ds (typed.more_of _ others _ more (typed.text cs) are) = refl
binds_well u n (Alternate ∷ formals) sorts ds (typed.more_of _ others _ more (typed.place p basic same within) are) = refl
binds_well u n (Alternate ∷ formals) sorts ds (typed.more_of _ others _ more (typed.procedure x) are) = refl
binds_well u n (Alternate ∷ formals) sorts ds (typed.more_of _ others _ more typed.nothing are) = refl

-- DIMENSIONS. Valuing comes to what has a property or to an act that is named, and asks for no call
unfoldable pub Settles : {A T : Type 0} → (A → Type 0) → Red A T → Type 0
Settles P (Valued a) = P a
Settles P (Bad act) = IsTrue (is_named act)
Settles P (Asks callee ds rest) = ⊥

pub then_settles : {A B S T : Type 0} (P : A → Type 0) (R : B → Type 0) (r : Red A S) (back : S → T) (go : A → Red B T) → Settles P r → ((a : A) → P a → Settles R (go a)) →
    Settles R (then_by r back go)
unfolding Settles then_by
then_settles P R (Valued a) back go settles next = next a settles
then_settles P R (Bad act) back go settles next = settles
then_settles P R (Asks callee ds rest) back go settles next = settles

pub once_settles : {A : Type 0} (P : A → Type 0) (r : Checked A) → Answers P r → Settles {A = A} {T = Term} P (at_once r)
unfolding Settles Answers at_once
once_settles P (Gives a) answers = answers
once_settles P (Fails act) answers = answers

pub right_settles : {T : Type 0} (P : Datum → Type 0) (n : ℕ) (op : Operator) (a : Datum) (right : Red Datum T) → Operates op Integer Integer → IsOf n (ValueOf Integer) a → Settles P right →
    Settles P (right_after (left_of op a) right)
unfolding left_of right_after
right_settles P n op a right typed.adds is settles = settles
right_settles P n op a right typed.subtracts is settles = settles
right_settles P n op a right typed.multiplies is settles = settles
right_settles P n op a right typed.divides is settles = settles

-- an expression over constants and integer variables comes to an integer
abbrev pub IsInteger : ℕ → Datum → Type 0
IsInteger n d = IsOf n (ValueOf Integer) d

pub variables_settle : (c : Facts) (f : Frame) (s : Store) (n : ℕ) → n ≡ length s → ((x : Bytes) → IsVariable c x Integer → Answers (IsOf n (PlaceOf Integer)) (whole c f x)) →
    (t : Term) → IsOfVariables c t → Settles (IsInteger n) (reduce c f s [] t)
unfolding reduce reduce_all Settles then_by
variables_settle c f s n same places t (formed.a_constant z) = typed.integer z
variables_settle c f s n same places t (formed.a_variable x is) =
    then_settles (IsOf n (PlaceOf Integer)) (IsInteger n) (at_once (whole c f x)) Fetch (λ d. at_once (fetched s d))
    (once_settles (IsOf n (PlaceOf Integer)) (whole c f x) (places x is))
    (λ d of. once_settles (IsInteger n) (fetched s d) (fetched_meant s n same d Integer typed.integers of))
variables_settle c f s n same places t (formed.negated u is) =
    then_settles (IsInteger n) (IsInteger n) (reduce c f s [] u) (Before Negate) (λ d. at_once (prefixed Negate d)) (variables_settle c f s n same places u is)
    (λ d of. once_settles (IsInteger n) (prefixed Negate d) (prefixed_meant n Negate Integer d typed.negates of))
variables_settle c f s n same places t (formed.combined op u v operates is are) =
    then_settles (IsInteger n) (IsInteger n) (reduce c f s [] u) (λ r. Between op r v)
    (λ a. right_after (left_of op a) (then_by (reduce c f s [] v) (Between op (Val a)) (λ b. at_once (operated op a b)))) (variables_settle c f s n same places u is)
    (λ a of. right_settles (IsInteger n) n op a (then_by (reduce c f s [] v) (Between op (Val a)) (λ b. at_once (operated op a b))) operates of
    (then_settles (IsInteger n) (IsInteger n) (reduce c f s [] v) (Between op (Val a)) (λ b. at_once (operated op a b)) (variables_settle c f s n same places v are)
    (λ b ofb. once_settles (IsInteger n) (operated op a b) (operated_meant n op Integer Integer a b operates of ofb))))
variables_settle c f s n same places t (formed.raised u v is are) =
    let two : List Sort = ValueOf Integer ∷ ValueOf Integer ∷ [] in
    then_settles (AreOf n two) (IsInteger n) (reduce_all c f s [] (More u (More v NoMore))) (Intrinsically Power) (λ ds. at_once (applied Power ds))
    (then_settles (IsInteger n) (AreOf n two) (reduce c f s [] u) (λ r. More r (More v NoMore))
    (λ a. then_by (reduce_all c f s [] (More v NoMore)) (More (Val a)) (λ ds. Valued (a ∷ ds))) (variables_settle c f s n same places u is)
    (λ a of. then_settles (AreOf n (ValueOf Integer ∷ [])) (AreOf n two) (reduce_all c f s [] (More v NoMore)) (More (Val a)) (λ ds. Valued (a ∷ ds))
    (then_settles (IsInteger n) (AreOf n (ValueOf Integer ∷ [])) (reduce c f s [] v) (λ r. More r NoMore)
    (λ b. then_by (reduce_all c f s [] NoMore) (More (Val b)) (λ ds. Valued (b ∷ ds))) (variables_settle c f s n same places v are)
    (λ b ofb. typed.more_of (ValueOf Integer) [] b [] ofb typed.none_of))
    (λ ds ofs. typed.more_of (ValueOf Integer) (ValueOf Integer ∷ []) a ds of ofs)))
    (λ ds ofs. once_settles (IsInteger n) (applied Power ds) (applied_meant n Power two Integer ds typed.power ofs))

pub valued_given : (n : ℕ) (d : Datum) → IsInteger n d → Answers Any (integer_of (Valued d))
unfolding Answers integer_of
valued_given n d (typed.integer z) = tt

pub integer_given : (n : ℕ) (r : Red Datum Term) → Settles (IsInteger n) r → Answers Any (integer_of r)
unfolding Settles Answers integer_of
integer_given n (Valued d) settles = valued_given n d settles
integer_given n (Bad act) settles = settles
integer_given n (Asks callee ds rest) settles = absurd settles

-- a dimension by value has an upper bound where it is written with one
abbrev pub HasUpper : Option Term → Bounds → Type 0
HasUpper upper b = IsTrue (is_some upper) → IsTrue (is_some b.upper)

pub sized_meant : (t : Term) (lower upper : ℤ) → Answers (HasUpper (Some t)) (sized lower upper)
unfolding sized Answers is_named
sized_meant t lower upper =
    let sum : ℤ = (upper -ℤ lower) +ℤ pos 1 in
    let b : Bounds = record { lower = lower; upper = Some upper } in
    answers_if (HasUpper (Some t)) (int_lt upper lower) (Fails BadDimension) (if int_le sum (pos 2147483647) then Gives b else Fails BadDimension) refl
    (answers_if (HasUpper (Some t)) (int_le sum (pos 2147483647)) (Gives b) (Fails BadDimension) (λ is. refl) refl)

-- the variables of a frame stand for places over this storage
abbrev pub ArePlaced : Facts → Frame → ℕ → Type 0
ArePlaced c f n = (x : Bytes) → IsVariable c x Integer → Answers (IsOf n (PlaceOf Integer)) (whole c f x)

pub upper_meant : (c : Facts) (f : Frame) (s : Store) (n : ℕ) → n ≡ length s → ArePlaced c f n → (lower : ℤ) (upper : Option Term) → IsUpper c upper →
    Answers (HasUpper upper) (elim upper [
      | None ↦ Gives (record { lower = lower; upper = None })
      | Some t ↦ given_that (integer_of (reduce c f s [] t)) (sized lower)
    ])
unfolding Answers
upper_meant c f s n same placed lower upper formed.assumed = λ is. is
upper_meant c f s n same placed lower upper (formed.written t of) =
    given_meant Any (HasUpper (Some t)) (integer_of (reduce c f s [] t)) (sized lower)
    (integer_given n (reduce c f s [] t) (variables_settle c f s n same placed t of)) (λ z any. sized_meant t lower z)

pub dimension_meant : (c : Facts) (f : Frame) (s : Store) (n : ℕ) → n ≡ length s → ArePlaced c f n → (d : Dimension) → IsOfVariables c d.lower → IsUpper c d.upper →
    Answers (HasUpper d.upper) (dimension_by c f s d)
unfolding dimension_by
dimension_meant c f s n same placed d lower upper =
    given_meant Any (HasUpper d.upper) (integer_of (reduce c f s [] d.lower)) _
    (integer_given n (reduce c f s [] d.lower) (variables_settle c f s n same placed d.lower lower)) (λ z any. upper_meant c f s n same placed z d.upper upper)

-- bounds for each dimension, and a size where none is assumed
pub record Fits (ds : List Dimension) (bs : List Bounds) : Type 0 where
  pub ranked : length bs ≡ length ds
  pub has_elements : IsTrue (has_size ds) → IsTrue (is_some (elements_of bs))

pub size_known : (written : Option Term) (upper : Option ℤ) (lower : ℤ) (rest : Bool) (count : Option ℕ) → (IsTrue (is_some written) → IsTrue (is_some upper)) →
    (IsTrue rest → IsTrue (is_some count)) → IsTrue (elim written [ None ↦ false | Some t ↦ rest ]) →
    IsTrue (is_some (elim upper [ None ↦ None | Some u ↦ elim count [ None ↦ None | Some n ↦ Some (nat_abs ((u -ℤ lower) +ℤ pos 1) * n) ] ]))
size_known None upper lower rest count has more is = absurd (cc)
size_known (Some t) None lower rest count has more is = let wrong : false ≡ true = has refl in absurd (cc)
size_known (Some t) (Some u) lower rest None has more is = let wrong : false ≡ true = more is in absurd (cc)
size_known (Some t) (Some u) lower rest (Some n) has more is = refl

pub more_fits : (d : Dimension) (ds : List Dimension) (b : Bounds) (bs : List Bounds) → HasUpper d.upper b → Fits ds bs → Fits (d ∷ ds) (b ∷ bs)
unfolding has_size elements_of
more_fits d ds b bs has fits = record {
  ranked = ap suc fits.ranked;
  has_elements = size_known d.upper b.upper b.lower (has_size ds) (elements_of bs) has fits.has_elements;
}

pub no_fits : Fits [] []
unfolding elements_of
no_fits = record { ranked = refl; has_elements = λ is. refl }

pub dimensions_meant : (c : Facts) (f : Frame) (s : Store) (n : ℕ) → n ≡ length s → ArePlaced c f n → (ds : List Dimension) → AreDimensions c ds → Answers (Fits ds) (dimensions_by c f s ds)
unfolding dimensions_by Answers
dimensions_meant c f s n same placed ds formed.no_dimensions = no_fits
dimensions_meant c f s n same placed ds (formed.more_dimensions d more lower upper are) =
    given_meant (HasUpper d.upper) (Fits (d ∷ more)) (dimension_by c f s d) (λ b. given_that (dimensions_by c f s more) (λ bs. Gives (b ∷ bs)))
    (dimension_meant c f s n same placed d lower upper)
    (λ b has. given_meant (Fits more) (Fits (d ∷ more)) (dimensions_by c f s more) (λ bs. Gives (b ∷ bs)) (dimensions_meant c f s n same placed more are)
    (λ bs fits. more_fits d more b bs has fits))

-- the dimensions of each dummy argument
pub data AllFit (c : Facts) : List Bytes → List (List Bounds) → Type 0 where
  none_fit : AllFit c [] []
  more_fit : (x : Bytes) (xs : List Bytes) (b : List Bounds) (bs : List (List Bounds)) → Fits (c.program.attribute x).dimensions b → AllFit c xs bs → AllFit c (x ∷ xs) (b ∷ bs)

pub class_is_dummy : (n : ℕ) (a : Attribute) (d : Datum) → BoundAs n a d → IsTrue (is_dummy a.class)
unfolding is_dummy
class_is_dummy n a d (bound_variable same of) = subst (λ k. IsTrue (is_dummy k)) (sym same) refl
class_is_dummy n a d (bound_procedure same of) = subst (λ k. IsTrue (is_dummy k)) (sym same) refl

pub all_fit : (c : Facts) (f : Frame) (s : Store) (n : ℕ) → n ≡ length s → ArePlaced c f n →
    ((x : Bytes) → IsTrue (is_dummy (c.program.attribute x).class) → AreDimensions c (c.program.attribute x).dimensions) →
    (xs : List Bytes) (ds : List Datum) → AreBound c.program n xs ds → Answers (AllFit c xs) (all_dimensions_by c f s xs)
unfolding all_dimensions_by Answers
all_fit c f s n same placed are xs ds none_bound = none_fit
all_fit c f s n same placed are xs ds (more_bound x others d more bound behind) =
    given_meant (Fits (c.program.attribute x).dimensions) (AllFit c (x ∷ others)) (dimensions_by c f s (c.program.attribute x).dimensions)
    (λ b. given_that (all_dimensions_by c f s others) (λ bs. Gives (b ∷ bs)))
    (dimensions_meant c f s n same placed (c.program.attribute x).dimensions (are x (class_is_dummy n (c.program.attribute x) d bound)))
    (λ b fits. given_meant (AllFit c others) (AllFit c (x ∷ others)) (all_dimensions_by c f s others) (λ bs. Gives (b ∷ bs))
    (all_fit c f s n same placed are others more behind) (λ bs fit. more_fit x others b bs fits fit))

-- WHAT THE FRAME THAT BEGINS KNOWS. A name of the entry's list finds what it is bound to and its dimensions together
pub found_or_behind : (c : Facts) (n : ℕ) (P : Option Datum → Option (List Bounds) → Type 0) (x y : Bytes) (d : Datum) (b : List Bounds) (o : Option Datum)
    (q : Option (List Bounds)) (test : Bool) → (IsTrue test → x ≡ y) → BoundAs n (c.program.attribute y) d → Fits (c.program.attribute y).dimensions b →
    ((d' : Datum) (b' : List Bounds) → BoundAs n (c.program.attribute x) d' → Fits (c.program.attribute x).dimensions b' → P (Some d') (Some b')) → P o q →
    P (if test then Some d else o) (if test then Some b else q)
found_or_behind c n P x y d b o q true same bound fits found behind =
    found d b (subst (λ z. BoundAs n (c.program.attribute z) d) (sym (same refl)) bound) (subst (λ z. Fits (c.program.attribute z).dimensions b) (sym (same refl)) fits)
found_or_behind c n P x y d b o q false same bound fits found behind = behind

pub value_or_behind : (c : Facts) (n : ℕ) (P : Option Datum → Type 0) (x y : Bytes) (d : Datum) (o : Option Datum) (test : Bool) → (IsTrue test → x ≡ y) →
    BoundAs n (c.program.attribute y) d → ((d' : Datum) → BoundAs n (c.program.attribute x) d' → P (Some d')) → P o → P (if test then Some d else o)
value_or_behind c n P x y d o true same bound found behind = found d (subst (λ z. BoundAs n (c.program.attribute z) d) (sym (same refl)) bound)
value_or_behind c n P x y d o false same bound found behind = behind

pub none_or_behind : (c : Facts) (x y : Bytes) (b : List Bounds) (q : Option (List Bounds)) (test : Bool) → (IsTrue test → x ≡ y) →
    IsTrue (is_dummy (c.program.attribute y).class) → (IsTrue (is_dummy (c.program.attribute x).class) → ⊥) → q ≡ None → (if test then Some b else q) ≡ None
none_or_behind c x y b q true same is apart behind = absurd (apart (subst (λ z. IsTrue (is_dummy (c.program.attribute z).class)) (sym (same refl)) is))
none_or_behind c x y b q false same is apart behind = behind

pub dummy_found : (c : Facts) (n : ℕ) (P : Option Datum → Option (List Bounds) → Type 0) (x : Bytes) (xs : List Bytes) (ds : List Datum) (bs : List (List Bounds)) →
    AreBound c.program n xs ds → AllFit c xs bs → P None None →
    ((d : Datum) (b : List Bounds) → BoundAs n (c.program.attribute x) d → Fits (c.program.attribute x).dimensions b → P (Some d) (Some b)) →
    P (value_for x xs ds) (bounds_for x xs bs)
unfolding value_for bounds_for
dummy_found c n P x xs ds bs none_bound none_fit missing found = missing
dummy_found c n P x xs ds bs (more_bound y others d more bound behind) (more_fit _ _ b rest fits fit) missing found =
    found_or_behind c n P x y d b (value_for x others more) (bounds_for x others rest) (bytes_eq x y) (bytes_eq-Decides x y).0 bound fits found
    (dummy_found c n P x others more rest behind fit missing found)

pub value_found : (c : Facts) (n : ℕ) (P : Option Datum → Type 0) (x : Bytes) (xs : List Bytes) (ds : List Datum) → AreBound c.program n xs ds → P None →
    ((d : Datum) → BoundAs n (c.program.attribute x) d → P (Some d)) → P (value_for x xs ds)
unfolding value_for
value_found c n P x xs ds none_bound missing found = missing
value_found c n P x xs ds (more_bound y others d more bound behind) missing found =
    value_or_behind c n P x y d (value_for x others more) (bytes_eq x y) (bytes_eq-Decides x y).0 bound found (value_found c n P x others more behind missing found)

-- a name that is no dummy argument has none of their dimensions
pub no_bounds : (c : Facts) (n : ℕ) (x : Bytes) (xs : List Bytes) (ds : List Datum) (bs : List (List Bounds)) → AreBound c.program n xs ds →
    (IsTrue (is_dummy (c.program.attribute x).class) → ⊥) → bounds_for x xs bs ≡ None
unfolding bounds_for
no_bounds c n x xs ds bs none_bound apart = refl
no_bounds c n x xs ds [] (more_bound y others d more bound behind) apart = refl
no_bounds c n x xs ds (b ∷ bs) (more_bound y others d more bound behind) apart =
    none_or_behind c x y b (bounds_for x others bs) (bytes_eq x y) (bytes_eq-Decides x y).0 (class_is_dummy n (c.program.attribute y) d bound) apart
    (no_bounds c n x others more bs behind apart)

-- a variable stands for a place of its type: in storage, among what is passed, or the result
pub stored_well : (a : Attribute) (width : Option ℕ) (home : Option Home) (n : ℕ) (h : Home) (Q : Datum → Type 0) → width ≡ Some n → home ≡ Some h →
    Q (IsSpot (record { basic = a.basic; sequence = h.sequence; first = h.first; extent = extent_of (elements_of a.bounds) n; width = n })) →
    Answers Q (stored_at a width home)
unfolding stored_at Answers
stored_well a width home n h Q one other is =
    subst (λ o. Answers Q (stored_at a o home)) (sym one) (subst (λ o. Answers Q (stored_at a (Some n) o)) (sym other) is)

pub result_well : (kind : UnitKind) (f : Frame) (n : ℕ) (want : Wanted) (basic : Basic) (Q : Datum → Type 0) → Serves kind f n want → kind ≡ FunctionUnit →
    ((p : Spot) → p.basic ≡ basic → p.sequence < n → Q (IsSpot p)) → Answers Q (if_there basic f.result)
unfolding if_there Answers
result_well kind f n want basic Q (holding.as_main is) function there = absurd (cc)
result_well kind f n want basic Q (holding.as_subroutine is) function there = absurd (cc)
result_well kind f n want basic Q (holding.as_function own width p is valued result (typed.place _ _ same within)) function there =
    subst (λ o. Answers Q (if_there basic o)) (sym result) (there (record p { basic = basic }) refl within)

pub variable_by_class : (c : Facts) (f : Frame) (x : Bytes) (Q : Datum → Type 0) (a : Attribute) (k : Class) → IsTrue (is_variable k) →
    (k ≡ class.Stored → Answers Q (stored_at (record a { class = k }) a.width (c.home x))) → (k ≡ class.Dummy → Answers Q (if_bound (f.bound x))) →
    (k ≡ class.Result → Answers Q (if_there a.basic f.result)) → Answers Q (named_as c f x (record a { class = k }))
unfolding is_variable named_as
variable_by_class c f x Q a class.Stored is stored bound result = stored refl
variable_by_class c f x Q a class.Dummy is stored bound result = bound refl
variable_by_class c f x Q a class.Result is stored bound result = result refl
variable_by_class c f x Q a class.Constant is stored bound result = absurd (cc)
variable_by_class c f x Q a class.Procedure is stored bound result = absurd (cc)
variable_by_class c f x Q a class.DummyProcedure is stored bound result = absurd (cc)
variable_by_class c f x Q a class.StatementFunction is stored bound result = absurd (cc)
variable_by_class c f x Q a class.Intrinsic is stored bound result = absurd (cc)
variable_by_class c f x Q a class.Unit is stored bound result = absurd (cc)

pub variable_stands : (c : Facts) (least n : ℕ) (want : Wanted) (f : Frame) (x : Bytes) (Q : Datum → Type 0) → IsWellFormed c least → least ≤ n →
    Serves c.program.kind f n want → IsTrue (is_variable (c.program.attribute x).class) →
    ((c.program.attribute x).class ≡ class.Stored → (p : Spot) → p.basic ≡ (c.program.attribute x).basic → p.sequence < n → Q (IsSpot p)) →
    ((c.program.attribute x).class ≡ class.Dummy → Answers Q (if_bound (f.bound x))) →
    ((c.program.attribute x).class ≡ class.Result → (p : Spot) → p.basic ≡ (c.program.attribute x).basic → p.sequence < n → Q (IsSpot p)) → Answers Q (whole c f x)
unfolding whole
variable_stands c least n want f x Q formed upto serves is stored bound result =
    let a : Attribute = c.program.attribute x in
    variable_by_class c f x Q a a.class is
    (λ same. let held : IsStored c least x = formed.stored x same in
    stored_well a a.width (c.home x) held.width held.home Q held.width_is held.home_is (stored same _ refl (omega (arith, held.within, upto))))
    bound
    (λ same. result_well c.program.kind f n want a.basic Q serves (formed.results x same).kind_is (result same))

-- a procedure name stands for a procedure
pub procedure_by_class : (c : Facts) (f : Frame) (x : Bytes) (n : ℕ) (a : Attribute) (k : Class) → IsTrue (is_procedure_name k) →
    (k ≡ class.DummyProcedure → Answers (IsOf n AProcedure) (if_bound (f.bound x))) → Answers (IsOf n AProcedure) (named_as c f x (record a { class = k }))
unfolding is_procedure_name named_as Answers
procedure_by_class c f x n a class.Procedure is bound = typed.procedure x
procedure_by_class c f x n a class.Intrinsic is bound = typed.procedure x
procedure_by_class c f x n a class.DummyProcedure is bound = bound refl
procedure_by_class c f x n a class.Constant is bound = absurd (cc)
procedure_by_class c f x n a class.Stored is bound = absurd (cc)
procedure_by_class c f x n a class.Dummy is bound = absurd (cc)
procedure_by_class c f x n a class.Result is bound = absurd (cc)
procedure_by_class c f x n a class.StatementFunction is bound = absurd (cc)
procedure_by_class c f x n a class.Unit is bound = absurd (cc)

pub bound_place : (n : ℕ) (a : Attribute) (d : Datum) → BoundAs n a d → a.class ≡ class.Dummy → IsOf n (PlaceOf a.basic) d
bound_place n a d (bound_variable same of) is = of
bound_place n a d (bound_procedure same of) is = absurd (cc)

pub bound_name : (n : ℕ) (a : Attribute) (d : Datum) → BoundAs n a d → a.class ≡ class.DummyProcedure → IsOf n AProcedure d
bound_name n a d (bound_variable same of) is = absurd (cc)
bound_name n a d (bound_procedure same of) is = of

pub not_passed : (Q : Datum → Type 0) → Answers Q (if_bound None)
unfolding if_bound Answers is_named
not_passed Q = refl

pub is_passed : (Q : Datum → Type 0) (d : Datum) → Q d → Answers Q (if_bound (Some d))
unfolding if_bound Answers
is_passed Q d is = is

-- what is bound to the names of an entry's list, and nothing else
abbrev pub Binds : Frame → List Bytes → List Datum → Type 0
Binds f xs ds = (x : Bytes) → f.bound x ≡ value_for x xs ds

pub places_found : (c : Facts) (least n : ℕ) (want : Wanted) (f : Frame) (xs : List Bytes) (ds : List Datum) → IsWellFormed c least → least ≤ n →
    Serves c.program.kind f n want → AreBound c.program n xs ds → Binds f xs ds → ArePlaced c f n
places_found c least n want f xs ds formed upto serves bound binds x v =
    let a : Attribute = c.program.attribute x in
    let placed : Answers (IsOf n (PlaceOf a.basic)) (whole c f x) =
    variable_stands c least n want f x (IsOf n (PlaceOf a.basic)) formed upto serves v.class_is (λ is p same within. typed.place p a.basic same within)
    (λ is. subst (λ o. Answers (IsOf n (PlaceOf a.basic)) (if_bound o)) (sym (binds x))
    (value_found c n (λ o. Answers (IsOf n (PlaceOf a.basic)) (if_bound o)) x xs ds bound (not_passed (IsOf n (PlaceOf a.basic)))
    (λ d as'. is_passed (IsOf n (PlaceOf a.basic)) d (bound_place n a d as' is))))
    (λ is p same within. typed.place p a.basic same within) in
    subst (λ b. Answers (IsOf n (PlaceOf b)) (whole c f x)) v.basic_is placed

-- a place with its dimensions
pub record Stands (n : ℕ) (a : Attribute) (bounds : Option (List Bounds)) (d : Datum) : Type 0 where
  pub placed : IsOf n (PlaceOf a.basic) d
  pub fits : Fits a.dimensions (either_bounds bounds a.bounds)

pub stands_held : (c : Facts) (f : Frame) (n : ℕ) (x : Bytes) (bounds : Option (List Bounds)) (d : Datum) → f.dimensions x ≡ bounds → Stands n (c.program.attribute x) bounds d →
    IsHeld c f n x d
unfolding bounds_of
stands_held c f n x bounds d same stands =
    let fits : Fits (c.program.attribute x).dimensions (either_bounds (f.dimensions x) (c.program.attribute x).bounds) =
    subst (λ o. Fits (c.program.attribute x).dimensions (either_bounds o (c.program.attribute x).bounds)) (sym same) stands.fits in
    record { placed = stands.placed; ranked = fits.ranked; sized = fits.has_elements }

pub stored_stands : (c : Facts) (least n : ℕ) (x : Bytes) (p : Spot) → IsStored c least x → p.basic ≡ (c.program.attribute x).basic → p.sequence < n →
    Stands n (c.program.attribute x) None (IsSpot p)
unfolding either_bounds
stored_stands c least n x p stored same within = record {
  placed = typed.place p (c.program.attribute x).basic same within;
  fits = record { ranked = stored.ranked; has_elements = λ is. stored.sized };
}

pub result_fits : (ds : List Dimension) (bs : List Bounds) → ds ≡ [] → bs ≡ [] → Fits ds bs
result_fits ds bs one other = subst (λ e. Fits e bs) (sym one) (subst (λ e. Fits [] e) (sym other) no_fits)

pub result_stands : (c : Facts) (n : ℕ) (x : Bytes) (p : Spot) → IsResult c x → p.basic ≡ (c.program.attribute x).basic → p.sequence < n →
    Stands n (c.program.attribute x) None (IsSpot p)
unfolding either_bounds
result_stands c n x p result same within = record {
  placed = typed.place p (c.program.attribute x).basic same within;
  fits = result_fits (c.program.attribute x).dimensions (c.program.attribute x).bounds result.no_dimensions result.no_bounds;
}

pub dummy_stands : (n : ℕ) (a : Attribute) (d : Datum) (bounds : List Bounds) → IsOf n (PlaceOf a.basic) d → Fits a.dimensions bounds → Stands n a (Some bounds) d
unfolding either_bounds
dummy_stands n a d bounds placed fits = record { placed = placed; fits = fits }

pub apart_from_dummies : (k other : Class) → k ≡ other → is_dummy other ≡ false → IsTrue (is_dummy k) → ⊥
apart_from_dummies k other same not_one is = let wrong : false ≡ true = sym not_one ∙ subst (λ j. is_dummy j ≡ true) same is in absurd (cc)

pub stored_is_none : is_dummy class.Stored ≡ false
unfolding is_dummy
stored_is_none = refl

pub result_is_none : is_dummy class.Result ≡ false
unfolding is_dummy
result_is_none = refl

pub frame_sound : (c : Facts) (least n : ℕ) (want : Wanted) (f : Frame) (xs : List Bytes) (ds : List Datum) (bs : List (List Bounds)) → IsWellFormed c least → least ≤ n →
    Serves c.program.kind f n want → AreBound c.program n xs ds → AllFit c xs bs → Binds f xs ds → ((x : Bytes) → f.dimensions x ≡ bounds_for x xs bs) → Sound c f n
unfolding whole
frame_sound c least n want f xs ds bs formed upto serves bound fit binds measured = record {
  variables = λ x is.
      let a : Attribute = c.program.attribute x in
      variable_stands c least n want f x (IsHeld c f n x) formed upto serves is
      (λ same p basic within. stands_held c f n x None (IsSpot p)
      (measured x ∙ no_bounds c n x xs ds bs bound (apart_from_dummies a.class class.Stored same stored_is_none))
      (stored_stands c least n x p (formed.stored x same) basic within))
      (λ same. answers_so (Stands n a (f.dimensions x)) (IsHeld c f n x) (if_bound (f.bound x)) (λ d stands. stands_held c f n x (f.dimensions x) d refl stands)
      (subst (λ o. Answers (Stands n a (f.dimensions x)) (if_bound o)) (sym (binds x))
      (subst (λ q. Answers (Stands n a q) (if_bound (value_for x xs ds))) (sym (measured x))
      (dummy_found c n (λ o q. Answers (Stands n a q) (if_bound o)) x xs ds bs bound fit (not_passed (Stands n a None))
      (λ d b as' fits. is_passed (Stands n a (Some b)) d (dummy_stands n a d b (bound_place n a d as' same) fits))))))
      (λ same p basic within. stands_held c f n x None (IsSpot p)
      (measured x ∙ no_bounds c n x xs ds bs bound (apart_from_dummies a.class class.Result same result_is_none))
      (result_stands c n x p (formed.results x same) basic within));
  procedures = λ x is.
      let a : Attribute = c.program.attribute x in
      procedure_by_class c f x n a a.class is
      (λ same. subst (λ o. Answers (IsOf n AProcedure) (if_bound o)) (sym (binds x))
      (value_found c n (λ o. Answers (IsOf n AProcedure) (if_bound o)) x xs ds bound (not_passed (IsOf n AProcedure))
      (λ d as'. is_passed (IsOf n AProcedure) d (bound_name n a d as' same))));
}

-- HOW A PROCEDURE BEGINS: control comes to the first statement of the entry
pub entered_begins : (c : Facts) (least : ℕ) (passed : Passed) (w after : World) (f : Frame) (r : Checked View) → Answers (IsActiveIn c least passed.want (length after.store) f) r →
    length w.store ≤ length after.store → after.transfer ≡ w.transfer → f.base ≡ length w.store → ((l : ℕ) → IsIn l f.alternates → IsIn (IsLabel l) passed.actuals) →
    Begins c least passed w (entered r after)
unfolding entered Answers
entered_begins c least passed w after f (Gives v) reached upto same base labels =
    holding.it_enters v after upto same (ap (λ g. g.base) reached.0 ∙ base) reached.1
    (λ l among. labels l (subst (λ g. IsIn l g.alternates) reached.0 among))
entered_begins c least passed w after f (Fails act) reached upto same base labels = holding.it_refuses act reached

pub frame_begins : (c : Facts) (least : ℕ) (passed : Passed) (w : World) (e : EntryPoint) (s : Store) (binds : Bindings) (result : Option Spot) (bs : List (List Bounds)) →
    IsWellFormed c least → least ≤ length w.store → length w.store ≤ length s → e.start < length c.program.lines →
    Serves c.program.kind (record (frame_of e binds result (length w.store)) { dimensions = λ x. bounds_for x binds.names bs }) (length s) passed.want →
    BindsWell c.program (length s) passed.actuals binds → AllFit c binds.names bs →
    Begins c least passed w (begun_with c (record w { store = s }) (frame_of e binds result (length w.store)) binds.names (Gives bs))
unfolding begun_with frame_of
frame_begins c least passed w e s binds result bs formed low upto within serves well fit =
    let f : Frame = record (frame_of e binds result (length w.store)) { dimensions = λ x. bounds_for x binds.names bs } in
    let sound : Sound c f (length s) =
    frame_sound c least (length s) passed.want f binds.names binds.values bs formed (omega (arith, low, upto)) serves well.bound fit (λ x. refl) (λ x. refl) in
    entered_begins c least passed w (record w { store = s }) f (arrived c.program f [] e.start)
    (arrived_active c least passed.want (length s) f [] e.start formed sound holding.no_rounds serves low upto within) upto refl refl well.labels

pub dimensions_begin : (c : Facts) (least : ℕ) (passed : Passed) (w : World) (e : EntryPoint) (s : Store) (binds : Bindings) (result : Option Spot)
    (r : Checked (List (List Bounds))) → IsWellFormed c least → least ≤ length w.store → length w.store ≤ length s → e.start < length c.program.lines →
    ((bs : List (List Bounds)) → Serves c.program.kind (record (frame_of e binds result (length w.store)) { dimensions = λ x. bounds_for x binds.names bs }) (length s) passed.want) →
    BindsWell c.program (length s) passed.actuals binds → Answers (AllFit c binds.names) r →
    Begins c least passed w (begun_with c (record w { store = s }) (frame_of e binds result (length w.store)) binds.names r)
unfolding Answers begun_with
dimensions_begin c least passed w e s binds result (Gives bs) formed low upto within serves well fit =
    frame_begins c least passed w e s binds result bs formed low upto within (serves bs) well fit
dimensions_begin c least passed w e s binds result (Fails act) formed low upto within serves well fit = holding.it_refuses act fit

pub bindings_begin : (c : Facts) (least : ℕ) (passed : Passed) (w : World) (e : EntryPoint) (r : Checked Bindings) → IsWellFormed c least → least ≤ length w.store →
    IsIn e c.program.entries → Suits c.program.kind (c.program.attribute e.name) passed.want → HasPlace (length w.store) passed.want passed.result →
    Answers (BindsWell c.program (length (with_result c.program.kind passed.result w.store)) passed.actuals) r → Begins c least passed w (begun_bound c w e passed.result r)
unfolding Answers begun_bound frame_of
bindings_begin c least passed w e (Fails act) formed low among suits place well = holding.it_refuses act well
bindings_begin c least passed w e (Gives binds) formed low among suits place well =
    let kind : UnitKind = c.program.kind in
    let a : Attribute = c.program.attribute e.name in
    let s : Store = with_result kind passed.result w.store in
    let result : Option Spot = result_of kind a passed.result w.store in
    let f : Frame = frame_of e binds result (length w.store) in
    let upto : length w.store ≤ length s = with_upto kind passed.result w.store in
    let placed : ArePlaced c f (length s) =
    places_found c least (length s) passed.want f binds.names binds.values formed (omega (arith, low, upto))
    (result_serves kind a passed.want passed.result w.store f suits place refl) well.bound (λ x. refl) in
    dimensions_begin c least passed w e s binds result (all_dimensions_by c f s binds.names) formed low upto (formed.entries e among)
    (λ bs. result_serves kind a passed.want passed.result w.store _ suits place refl) well
    (all_fit c f s (length s) refl placed formed.dummies binds.names binds.values well.bound)

pub begins_if : (c : Facts) (least : ℕ) (passed : Passed) (w : World) (b : Bool) (x y : Entry fortran_sorts) → (IsTrue b → Begins c least passed w x) →
    Begins c least passed w y → Begins c least passed w (if b then x else y)
begins_if c least passed w true x y one other = one refl
begins_if c least passed w false x y one other = other

pub entry_begins : (c : Facts) (least : ℕ) (passed : Passed) (w : World) (e : EntryPoint) → IsWellFormed c least → least ≤ length w.store →
    IsIn e c.program.entries → IsPassed (length w.store) passed → Begins c least passed w (begun_at c passed w (Some e))
unfolding begun_at is_named
entry_begins c least passed w e formed low among is =
    begins_if c least passed w (serves c.program.kind (c.program.attribute e.name) passed.want) (begun_bound c w e passed.result (bind_all c.program e.formals passed.actuals))
    (Refused Disagreement)
    (λ served.
    let s : Store = with_result c.program.kind passed.result w.store in
    bindings_begin c least passed w e (bind_all c.program e.formals passed.actuals) formed low among
    (serves_suits c.program.kind (c.program.attribute e.name) passed.want served) is.place
    (binds_well c.program (length s) e.formals is.sorts passed.actuals
    (are_more (length w.store) (length s) (with_upto c.program.kind passed.result w.store) is.sorts passed.actuals is.operands)))
    (holding.it_refuses Disagreement refl)

pub each_start : EachStartIsMeant
unfolding start
each_start c least name passed w formed answered low is =
    entry_called (λ o. Begins c least passed w (begun_at c passed w o)) c.program c.program.kind name answered formed.named
    (λ e among. entry_begins c least passed w e formed low among is)
