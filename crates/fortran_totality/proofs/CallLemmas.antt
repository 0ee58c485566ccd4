-- A call names a procedure, passes operands of some sorts over the storage that it finds and the sequences that it adds, and its caller waits.
use Rattle.std.specs.Prelude.{◌≡◌, ℕ, suc, ◌+◌, ◌≤◌, List, [], ◌∷◌, ◌++◌, length, Option, Some, None, IsTrue}
use Rattle.std.proofs.Common.{refl, subst, arith, length-append}
use Rattle.f_tree.specs.declared.names.Basic.{Basic}
use Rattle.f_tree.specs.declared.names.Basic.TheVariants.{Integer, Logical, Character, Untyped}
use Rattle.f_tree.specs.declared.names.Class.{Class}
use Rattle.f_tree.specs.declared.names.Class.TheVariants as class
use Rattle.f_tree.specs.Values.{Bytes, Datum, IsInt, IsLog, IsText, IsSpot, IsProc, IsLabel, Nothing, Checked, Gives, Fails}
use Rattle.f_tree.specs.Terms.{Wanted, AsSubroutine, AsFunction, Callee, Terms}
use Rattle.f_tree.specs.Store.{Store, Sequence, undefined_units}
use Rattle.f_tree.specs.Facts.{Attribute, Direction, Head, ToCall, On, ProgramUnit, Facts, Frame}
use Rattle.f_tree.specs.Valuing.{if_bound, named_as, whole}
use Rattle.f_tree.specs.World.{World, View, Now, Doing, Waits, Returning, Called, Procedure}
use Rattle.f_tree.specs.Association.{Passing, sequence_of, basic_of, made, passing_one, passing_more, passing, result_place, ready_for, passed_procedure, procedure_named, called_as, call}
use Rattle.f_tree.specs.Step.{deed}
use Rattle.f_tree.specs.Setting.{IsIn, first_in, later_in}
use Rattle.f_tree.specs.WellTyped as typed
use Rattle.f_tree.specs.WellTyped.{Sort, ValueOf, PlaceOf, AProcedure, ALabel, Absent, IsOf, AreOf, Answers, is_named, IsAnswer, is_procedure_name, is_callee, IsReference, Sound}
use Rattle.f_tree.specs.WellFormed as formed
use Rattle.f_tree.specs.WellFormed.{HasStatement, ArePassed, Takes}
use Rattle.f_tree.specs.Holding as holding
use Rattle.f_tree.specs.Holding.{IsHolding, IsNext, IsWaiting, IsPassed, Happens, IsReady, DeedHappens}
use Rattle.fortran_totality.proofs.AnswerLemmas.{next_kept, held_with}
use Rattle.fortran_totality.proofs.MeantLemmas.{Any}
use Rattle.fortran_totality.proofs.ScaleLemmas.{of_more, are_more}

-- a name that may be called names a procedure, or a dummy procedure that the entry called does not have
pub procedure_is : (n : ℕ) (d : Datum) → IsOf n AProcedure d → Answers Any (passed_procedure (Some d))
unfolding passed_procedure Answers
procedure_is n d (typed.procedure x) = tt

pub bound_procedure : (n : ℕ) (o : Option Datum) → Answers (IsOf n AProcedure) (if_bound o) → Answers Any (passed_procedure o)
unfolding if_bound passed_procedure Answers is_named
bound_procedure n None is = refl
bound_procedure n (Some d) is = procedure_is n d is

pub class_named : (n : ℕ) (c : Facts) (f : Frame) (x : Bytes) (a : Attribute) (k : Class) → IsTrue (is_callee k) →
    (IsTrue (is_procedure_name k) → Answers (IsOf n AProcedure) (named_as c f x (record a { class = k }))) → Answers Any (procedure_named f x (record a { class = k }))
unfolding is_callee is_procedure_name named_as procedure_named Answers
class_named n c f x a class.Procedure callee is = tt
class_named n c f x a class.Result callee is = tt
class_named n c f x a class.Unit callee is = tt
class_named n c f x a class.DummyProcedure callee is = bound_procedure n (f.bound x) (is refl)
class_named n c f x a class.Constant callee is = absurd (cc)
class_named n c f x a class.Stored callee is = absurd (cc)
class_named n c f x a class.Dummy callee is = absurd (cc)
class_named n c f x a class.StatementFunction callee is = absurd (cc)
class_named n c f x a class.Intrinsic callee is = absurd (cc)

pub callee_named : (n : ℕ) (c : Facts) (f : Frame) (x : Bytes) → Sound c f n → IsTrue (is_callee (c.program.attribute x).class) →
    Answers Any (procedure_named f x (c.program.attribute x))
unfolding whole
callee_named n c f x sound callee = class_named n c f x (c.program.attribute x) (c.program.attribute x).class callee (sound.procedures x)

-- what is passed is of some sorts, and storage is as it was before the sequences that are added
pub record PassesWell (s : Store) (p : Passing) : Type 0 where
  pub upto : length s ≤ length p.store
  pub sorts : List Sort
  pub operands : AreOf (length p.store) sorts p.actuals

pub one_before : (s between : Store) (sort : Sort) (d : Datum) (p : Passing) → length s ≤ length between → IsOf (length between) sort d → PassesWell between p →
    PassesWell s (passing_more (record { store = between; actuals = d ∷ [] }) p)
unfolding passing_more
one_before s between sort d p upto is well = record {
  upto = omega (arith, upto, well.upto);
  sorts = sort ∷ well.sorts;
  operands = typed.more_of sort well.sorts d p.actuals (of_more (length between) (length p.store) well.upto sort d is) well.operands;
}

pub one_added : (s : Store) (q : Sequence) → length (s ++ q ∷ []) ≡ suc (length s)
one_added s q = let sum : length (s ++ q ∷ []) ≡ length s + 1 = length-append s (q ∷ []) in omega (arith, sum)

pub longer_still : (n : ℕ) (s : Store) (q : Sequence) → n ≤ length s → n ≤ length (s ++ q ∷ [])
longer_still n s q upto = let longer : length (s ++ q ∷ []) ≡ suc (length s) = one_added s q in omega (arith, longer)

pub made_before : (s : Store) (d : Datum) (q : Sequence) (p : Passing) → PassesWell (s ++ q ∷ []) p → PassesWell s (passing_more (made s d q) p)
unfolding made
made_before s d q p well =
    let longer : length (s ++ q ∷ []) ≡ suc (length s) = one_added s q in
    one_before s (s ++ q ∷ []) (PlaceOf (basic_of d)) _ p (omega (arith, longer)) (typed.place _ (basic_of d) refl (omega (arith, longer))) well

pub passes_well : (n : ℕ) (sorts : List Sort) (ds : List Datum) → AreOf n sorts ds → (s : Store) → n ≤ length s → PassesWell s (passing s ds)
unfolding passing passing_one sequence_of made
passes_well n sorts ds typed.none_of s upto = record { upto = omega arith; sorts = []; operands = typed.none_of }
passes_well n sorts ds (typed.more_of _ others d more (typed.integer z) are) s upto =
    made_before s (IsInt z) _ _ (passes_well n others more are _ (longer_still n s _ upto))
passes_well n sorts ds (typed.more_of _ others d more (typed.logical b) are) s upto =
    made_before s (IsLog b) _ _ (passes_well n others more are _ (longer_still n s _ upto))
passes_well n sorts ds (typed.more_of _ others d more (typed.text cs) are) s upto =
    made_before s (IsText cs) _ _ (passes_well n others more are _ (longer_still n s _ upto))
passes_well n sorts ds (typed.more_of sort others d more (typed.place p basic is within) are) s upto =
    one_before s s sort d _ (omega arith) (of_more n (length s) upto sort d (typed.place p basic is within)) (passes_well n others more are s upto)
passes_well n sorts ds (typed.more_of sort others d more (typed.procedure x) are) s upto =
    one_before s s sort d _ (omega arith) (typed.procedure x) (passes_well n others more are s upto)
passes_well n sorts ds (typed.more_of sort others d more (typed.label l) are) s upto =
    one_before s s sort d _ (omega arith) (typed.label l) (passes_well n others more are s upto)
passes_well n sorts ds (typed.more_of sort others d more typed.nothing are) s upto =
    one_before s s sort d _ (omega arith) typed.nothing (passes_well n others more are s upto)

-- the labels that are passed are those that the statement writes
pub in_or_behind : {A : Type 0} (P : Type 0) (a b : A) (bs : List A) → IsIn a (b ∷ bs) → (a ≡ b → P) → (IsIn a bs → P) → P
in_or_behind P a b bs first_in here behind = here refl
in_or_behind P a b bs (later_in among) here behind = behind among

pub labels_behind : (l : ℕ) (d e : Datum) (ds es : List Datum) → (IsLabel l ≡ e → IsIn (IsLabel l) (d ∷ ds)) → (IsIn (IsLabel l) es → IsIn (IsLabel l) ds) →
    IsIn (IsLabel l) (e ∷ es) → IsIn (IsLabel l) (d ∷ ds)
labels_behind l d e ds es here behind among = in_or_behind (IsIn (IsLabel l) (d ∷ ds)) (IsLabel l) e es among here (λ among'. later_in (behind among'))

pub labels_kept : (ds : List Datum) (s : Store) (l : ℕ) → IsIn (IsLabel l) (passing s ds).actuals → IsIn (IsLabel l) ds
unfolding passing passing_one passing_more sequence_of made
labels_kept [] s l among = among
labels_kept (IsInt z ∷ ds) s l among = labels_behind l (IsInt z) _ ds _ (λ same. absurd (cc)) (labels_kept ds _ l) among
labels_kept (IsLog b ∷ ds) s l among = labels_behind l (IsLog b) _ ds _ (λ same. absurd (cc)) (labels_kept ds _ l) among
labels_kept (IsText cs ∷ ds) s l among = labels_behind l (IsText cs) _ ds _ (λ same. absurd (cc)) (labels_kept ds _ l) among
labels_kept (IsSpot p ∷ ds) s l among = labels_behind l (IsSpot p) _ ds _ (λ same. absurd (cc)) (labels_kept ds _ l) among
labels_kept (IsProc x ∷ ds) s l among = labels_behind l (IsProc x) _ ds _ (λ same. absurd (cc)) (labels_kept ds _ l) among
labels_kept (IsLabel k ∷ ds) s l among = labels_behind l (IsLabel k) _ ds _ (λ same. subst (λ d. IsIn (IsLabel l) (d ∷ ds)) same first_in) (labels_kept ds _ l) among
labels_kept (Nothing ∷ ds) s l among = labels_behind l Nothing _ ds _ (λ same. absurd (cc)) (labels_kept ds _ l) among

pub value_apart : (n : ℕ) (basic : Basic) (d : Datum) (l : ℕ) → IsOf n (ValueOf basic) d → IsLabel l ≡ d → ⊥
value_apart n basic d l (typed.integer z) same = absurd (cc)
value_apart n basic d l (typed.logical b) same = absurd (cc)
value_apart n basic d l (typed.text cs) same = absurd (cc)

pub place_apart : (n : ℕ) (basic : Basic) (d : Datum) (l : ℕ) → IsOf n (PlaceOf basic) d → IsLabel l ≡ d → ⊥
place_apart n basic d l (typed.place p b is within) same = absurd (cc)

pub procedure_apart : (n : ℕ) (d : Datum) (l : ℕ) → IsOf n AProcedure d → IsLabel l ≡ d → ⊥
procedure_apart n d l (typed.procedure x) same = absurd (cc)

pub same_label : (n : ℕ) (label : ℕ) (d : Datum) (l : ℕ) → IsOf n (ALabel label) d → IsLabel l ≡ d → label ≡ l
same_label n label d l (typed.label _) same = cc

pub labels_stand : (u : ProgramUnit) (n : ℕ) (sorts : List Sort) (ds : List Datum) → ArePassed u sorts → AreOf n sorts ds → (l : ℕ) → IsIn (IsLabel l) ds → HasStatement u l
labels_stand u n sorts ds formed.none_passed typed.none_of l among = elim among [ ]
labels_stand u n sorts ds (formed.value_passed basic others passed) (typed.more_of _ _ d more is are) l among =
    in_or_behind (HasStatement u l) (IsLabel l) d more among (λ same. absurd (value_apart n basic d l is same)) (labels_stand u n others more passed are l)
labels_stand u n sorts ds (formed.place_passed basic others passed) (typed.more_of _ _ d more is are) l among =
    in_or_behind (HasStatement u l) (IsLabel l) d more among (λ same. absurd (place_apart n basic d l is same)) (labels_stand u n others more passed are l)
labels_stand u n sorts ds (formed.procedure_passed others passed) (typed.more_of _ _ d more is are) l among =
    in_or_behind (HasStatement u l) (IsLabel l) d more among (λ same. absurd (procedure_apart n d l is same)) (labels_stand u n others more passed are l)
labels_stand u n sorts ds (formed.label_passed label others stands passed) (typed.more_of _ _ d more is are) l among =
    in_or_behind (HasStatement u l) (IsLabel l) d more among (λ same. subst (HasStatement u) (same_label n label d l is same) stands) (labels_stand u n others more passed are l)

-- what stands ready for the procedure: operands of some sorts, and a place for the result of a character function
pub untyped_apart : typed.IsValued Untyped → ⊥
untyped_apart valued = elim valued [ ]

pub ready_happens : (c : Facts) (least : ℕ) (want : Wanted) (stage : Option Direction) (v after : View) (w : World) (asked : Wanted) (p : Passing) (name : Called) →
    after.frame ≡ v.frame → PassesWell w.store p → IsHolding c least want (length w.store) after →
    IsWaiting c (length w.store) p.actuals after stage asked after.now → Happens c least want stage v w (ready_for asked p w after name)
unfolding ready_for result_place
ready_happens c least want stage v after w AsSubroutine p name same well held waiting =
    holding.it_calls after _ name _ same well.upto refl held waiting (record { sorts = well.sorts; operands = well.operands; place = holding.for_subroutine })
ready_happens c least want stage v after w (AsFunction Integer width) p name same well held waiting =
    holding.it_calls after _ name _ same well.upto refl held waiting (record { sorts = well.sorts; operands = well.operands; place = holding.for_integer width })
ready_happens c least want stage v after w (AsFunction Logical width) p name same well held waiting =
    holding.it_calls after _ name _ same well.upto refl held waiting (record { sorts = well.sorts; operands = well.operands; place = holding.for_logical width })
ready_happens c least want stage v after w (AsFunction Untyped width) p name same well held waiting =
    holding.it_calls after _ name _ same well.upto refl held waiting
    (record { sorts = well.sorts; operands = well.operands; place = holding.for_none Untyped width None untyped_apart })
ready_happens c least want stage v after w (AsFunction Character width) p name same well held waiting =
    let longer : length (p.store ++ undefined_units width ∷ []) ≡ suc (length p.store) = one_added p.store (undefined_units width) in
    let upto : length w.store ≤ length (p.store ++ undefined_units width ∷ []) = omega (arith, longer, well.upto) in
    holding.it_calls after _ name _ same upto refl held waiting (record {
      sorts = well.sorts;
      operands = are_more (length p.store) (length (p.store ++ undefined_units width ∷ [])) (omega (arith, longer)) well.sorts p.actuals well.operands;
      place = holding.for_text width _ (typed.place _ Character refl (omega (arith, longer)));
    })

pub called_happens : (c : Facts) (least : ℕ) (want : Wanted) (stage : Option Direction) (v after : View) (w : World) (asked : Wanted) (p : Passing) (r : Checked Bytes) →
    Answers Any r → after.frame ≡ v.frame → PassesWell w.store p → IsHolding c least want (length w.store) after →
    IsWaiting c (length w.store) p.actuals after stage asked after.now → Happens c least want stage v w (called_as r asked p w after)
unfolding called_as Answers
called_happens c least want stage v after w asked p (Gives name) answers same well held waiting =
    ready_happens c least want stage v after w asked p (Procedure name) same well held waiting
called_happens c least want stage v after w asked p (Fails act) answers same well held waiting = holding.it_breaks act answers

-- A CALL, and a reference to a function
pub call_happens : (c : Facts) (least : ℕ) (want : Wanted) (v : View) (w : World) → IsReady c least want None v w → (x : Bytes) → DeedHappens c least want None v w (ToCall x)
unfolding deed call
call_happens c least want v w ready x sorts ds room (formed.calls _ _ callee passed) are =
    called_happens c least want None v (record v { now = Returning (length w.store) }) w AsSubroutine (passing w.store ds) (procedure_named v.frame x (c.program.attribute x))
    (callee_named (length w.store) c v.frame x ready.holding.sound callee) refl (passes_well (length w.store) sorts ds are w.store (omega arith))
    (held_with c least want (length w.store) v (Returning (length w.store)) ready.holding)
    (holding.for_return room (λ label among. labels_stand c.program (length w.store) sorts ds passed are label (labels_kept ds w.store label among)))

pub reference_happens : (c : Facts) (least : ℕ) (want : Wanted) (stage : Option Direction) (v : View) (w : World) → IsReady c least want stage v w → (head : Head)
    (callee : Callee) (ds : List Datum) (rest : Datum → Terms) → IsReference c (length w.store) callee ds →
    ((d : Datum) → IsAnswer (length w.store) callee.want d → IsNext c (length w.store) v stage (Doing (On head (rest d)))) →
    Happens c least want stage v w (call c v w callee ds (λ height. Waits height (λ d. On head (rest d))))
unfolding call
reference_happens c least want stage v w ready head callee ds rest reference next =
    let now : Now = Waits (length w.store) (λ d. On head (rest d)) in
    called_happens c least want stage v (record v { now = now }) w callee.want (passing w.store ds) (procedure_named v.frame callee.name (c.program.attribute callee.name))
    (callee_named (length w.store) c v.frame callee.name ready.holding.sound reference.class_is) refl
    (passes_well (length w.store) reference.sorts ds reference.operands w.store (omega arith))
    (held_with c least want (length w.store) v now ready.holding)
    (holding.for_value stage callee.want (λ d. On head (rest d)) (λ d is. next_kept c (length w.store) v stage (Doing (On head (rest d))) now (next d is)))
