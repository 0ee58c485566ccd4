-- Where the steps of an expression stand in the midst of their work: what the expression has become by the answers so far, beside the
-- position in the code of the whole.
use Rattle.std.specs.Prelude.{◌≡◌, ℕ, suc, true, false, List, [], ◌∷◌, ◌++◌, length}
use Rattle.fortran_laws.specs.f_tree.Values.{Bytes, Datum, Nothing, NoMeaning, Gives}
use Rattle.fortran_laws.specs.f_tree.Terms.{Operator, Term, Val, Fetch, Element, Alone, Part, Joined, Before, Between, Intrinsically, Refer, Bind, Terms, NoMore, More, any_refers, valued_then}
use Rattle.fortran_laws.specs.f_tree.Store.{Store}
use Rattle.fortran_laws.specs.f_tree.Facts.{Facts, Frame}
use Rattle.fortran_laws.specs.f_tree.Valuing.{Red, Bad, Asks, at_once, prefixed, operated, Wants, left_of, applied, element, alone, part, pieces, joined, fetched}
use Rattle.lowering.specs.l_core.Pures.{Pure, Pures, NoPure, AndPure, Temporaries, all_meant}
use Rattle.lowering.specs.l_core.Steps.{Step, Keep, Unless, Text}
use Rattle.lowering.specs.Expressions.{Purpose, ForUse, ForLater, Lowered, ahead, Shape, AsFetch, AsElement, AsAlone, AsPart, AsJoined, AsBefore, AsBetween, AsFunction, AsReference, operand_purpose, closing, takes_steps, may_decide, wanted_where, lower, lower_all, and_then}
use Rattle.lowering.specs.Statements.{loop_operands}
use Rattle.lowering_laws.specs.Walks.{Spans, Lasts, AllLast, SameBelow}

-- a form with its operands
abbrev pub formed : Shape → Terms → Term
formed AsFetch (More t NoMore) = Fetch t
formed (AsElement x) ts = Element x ts
formed AsAlone (More t NoMore) = Alone t
formed (AsPart x) (More t (More from (More to NoMore))) = Part x t from to
formed AsJoined ts = Joined ts
formed (AsBefore op) (More t NoMore) = Before op t
formed (AsBetween op) (More t (More u NoMore)) = Between op t u
formed (AsFunction function) ts = Intrinsically function ts
formed (AsReference callee) ts = Refer callee ts
formed shape ts = Val Nothing

-- what a form comes to once its operands are valued
abbrev pub finish : Facts → Frame → Store → Shape → List Datum → Red Datum Term
finish c f s AsFetch (d ∷ []) = at_once (fetched s d)
finish c f s (AsElement x) ds = at_once (element c f x ds)
finish c f s AsAlone (d ∷ []) = at_once (alone d)
finish c f s (AsPart x) (p ∷ from ∷ to ∷ []) = at_once (part x p from to)
finish c f s AsJoined ds = at_once (joined (pieces s ds))
finish c f s (AsBefore op) (d ∷ []) = at_once (prefixed op d)
finish c f s (AsBetween op) (a ∷ b ∷ []) = at_once (operated op a b)
finish c f s (AsFunction function) ds = at_once (applied function ds)
finish c f s (AsReference callee) ds = Asks callee ds Val
finish c f s shape ds = Bad NoMeaning

-- as many operands as a form takes; of an operator, that it values both
pub data Fits : Shape → Terms → Type 0 where
  of_fetch : {t : Term} → Fits AsFetch (More t NoMore)
  of_element : {x : Bytes} {ts : Terms} → Fits (AsElement x) ts
  of_alone : {t : Term} → Fits AsAlone (More t NoMore)
  of_part : {x : Bytes} {t from to : Term} → Fits (AsPart x) (More t (More from (More to NoMore)))
  of_joined : {ts : Terms} → Fits AsJoined ts
  of_before : {op : _} {t : Term} → Fits (AsBefore op) (More t NoMore)
  of_between : {op : Operator} {t u : Term} → may_decide op ≡ false → Fits (AsBetween op) (More t (More u NoMore))
  of_function : {function : _} {ts : Terms} → Fits (AsFunction function) ts
  of_reference : {callee : _} {ts : Terms} → Fits (AsReference callee) ts

-- the first of several operands
abbrev pub first_of : Pures → Purpose → ℕ → Term → Terms → Lowered Pure
first_of env purpose k t ts = lower env (ahead purpose (any_refers ts)) k t

-- the operands of an operator whose right one takes no steps
abbrev pub both_of : Pures → ℕ → Term → Term → Pures
both_of env k t b = AndPure (lower env ForUse k t).value (AndPure (lower env ForUse (lower env ForUse k t).free b).value NoPure)

-- what stands behind the left operand of an operator whose right one is guarded
abbrev pub guard_of : Operator → ℕ → Pure → Lowered Pure → List Step
guard_of op k left right = Keep k left ∷ Unless (wanted_where op k) (suc (length right.steps)) ∷ (right.steps ++ Keep k right.value ∷ [])

-- An expression, what it has become, the position, the temporaries, and where its code ends.
mutual
  pub data IsMidway (u : Text) (f : Frame) : Pures → List Datum → Purpose → ℕ → Term → Term → ℕ → Temporaries → ℕ → Type 0 where
    -- nothing is done yet
    at_start : {env : Pures} {es : List Datum} {purpose : Purpose} {k : ℕ} {t : Term} {p : ℕ} {m : Temporaries} {q : ℕ} →
        Spans u p (lower env purpose k t).steps q → IsMidway u f env es purpose k t t p m q
    -- all is done, and the value lasts
    at_end : {env : Pures} {es : List Datum} {purpose : Purpose} {k : ℕ} {t : Term} {d : Datum} {m : Temporaries} {q : ℕ} →
        Lasts u.facts f (lower env purpose k t).free m (lower env purpose k t).value d → IsMidway u f env es purpose k t (Val d) q m q
    -- in the operands of a form
    in_operands : {env : Pures} {es : List Datum} {purpose : Purpose} {k : ℕ} {shape : Shape} {ts rs : Terms} {p : ℕ} {m : Temporaries} {q q' : ℕ} →
        Fits shape ts → AreMidway u f env es (operand_purpose shape purpose) k ts rs p m q →
        Spans u q (closing shape purpose k (lower_all env (operand_purpose shape purpose) k ts).value) q' →
        IsMidway u f env es purpose k (formed shape ts) (formed shape rs) p m q'
    -- in the left operand of .AND. or .OR., the right one taking no steps
    in_deciding : {env : Pures} {es : List Datum} {purpose : Purpose} {k : ℕ} {op : Operator} {t b r : Term} {p : ℕ} {m : Temporaries} {q q' : ℕ} →
        may_decide op ≡ true → takes_steps ForUse b ≡ false → IsMidway u f env es ForUse k t r p m q → Spans u q (closing (AsBetween op) purpose k (both_of env k t b)) q' →
        IsMidway u f env es purpose k (Between op t b) (Between op r b) p m q'
    -- in the left operand, the right one being guarded
    in_left : {env : Pures} {es : List Datum} {purpose : Purpose} {k : ℕ} {op : Operator} {t b r : Term} {p : ℕ} {m : Temporaries} {q q' : ℕ} →
        may_decide op ≡ true → takes_steps ForUse b ≡ true → IsMidway u f env es ForUse k t r p m q →
        Spans u q (guard_of op k (lower env ForUse k t).value (lower env ForUse k b)) q' →
        IsMidway u f env es purpose k (Between op t b) (Between op r b) p m q'
    -- in the guarded right operand, the left one having this value
    in_right : {env : Pures} {es : List Datum} {purpose : Purpose} {k : ℕ} {op : Operator} {t b r : Term} {p : ℕ} {m : Temporaries} {q q' : ℕ} (a : Datum) →
        may_decide op ≡ true → takes_steps ForUse b ≡ true → left_of op a ≡ Wants → IsMidway u f env es ForUse k b r p m q →
        Spans u q (Keep k (lower env ForUse k b).value ∷ []) q' →
        IsMidway u f env es purpose k (Between op t b) (Between op (Val a) r) p m q'
    -- in the arguments of a statement function
    in_arguments : {env : Pures} {es : List Datum} {purpose : Purpose} {k : ℕ} {ts rs : Terms} {t : Term} {p : ℕ} {m : Temporaries} {q q' : ℕ} →
        AreMidway u f env es ForLater k ts rs p m q →
        Spans u q (lower (lower_all env ForLater k ts).value purpose (lower_all env ForLater k ts).free t).steps q' →
        IsMidway u f env es purpose k (Bind ts t) (Bind rs t) p m q'
    -- in its expression, the arguments having these values
    in_expansion : {env : Pures} {es : List Datum} {purpose : Purpose} {k : ℕ} {ts : Terms} {t r : Term} {p : ℕ} {m : Temporaries} {q : ℕ} (ds : List Datum) →
        AllLast u.facts f (lower_all env ForLater k ts).free m (lower_all env ForLater k ts).value ds →
        IsMidway u f (lower_all env ForLater k ts).value ds purpose (lower_all env ForLater k ts).free t r p m q →
        IsMidway u f env es purpose k (Bind ts t) (Bind (valued_then ds NoMore) r) p m q

  pub data AreMidway (u : Text) (f : Frame) : Pures → List Datum → Purpose → ℕ → Terms → Terms → ℕ → Temporaries → ℕ → Type 0 where
    none_left : {env : Pures} {es : List Datum} {purpose : Purpose} {k : ℕ} {p : ℕ} {m : Temporaries} → AreMidway u f env es purpose k NoMore NoMore p m p
    at_first : {env : Pures} {es : List Datum} {purpose : Purpose} {k : ℕ} {t r : Term} {ts : Terms} {p : ℕ} {m : Temporaries} {q q' : ℕ} →
        IsMidway u f env es (ahead purpose (any_refers ts)) k t r p m q →
        Spans u q (lower_all env purpose (first_of env purpose k t ts).free ts).steps q' →
        AreMidway u f env es purpose k (More t ts) (More r ts) p m q'
    at_later : {env : Pures} {es : List Datum} {purpose : Purpose} {k : ℕ} {t : Term} {ts rs : Terms} {p : ℕ} {m : Temporaries} {q : ℕ} (d : Datum) →
        Lasts u.facts f (first_of env purpose k t ts).free m (first_of env purpose k t ts).value d →
        AreMidway u f env es purpose (first_of env purpose k t ts).free ts rs p m q →
        AreMidway u f env es purpose k (More t ts) (More (Val d) rs) p m q

-- ## Operands of a DO

-- behind the variable: the first value, and the limit and the step, which last while the loop is open
abbrev pub first_value : ℕ → Term → Terms → Lowered Pure
first_value n first bounds = lower NoPure (ahead ForUse (any_refers bounds)) n first

abbrev pub tail_of : ℕ → Term → Terms → Lowered Pures
tail_of n first bounds = and_then (first_value n first bounds) (λ n'. lower_all NoPure ForLater n' bounds)

pub data AreInTail (u : Text) (f : Frame) (n : ℕ) : Term → Terms → Terms → ℕ → Temporaries → ℕ → Type 0 where
  in_first : {first r : Term} {bounds : Terms} {p : ℕ} {m : Temporaries} {q q' : ℕ} → IsMidway u f NoPure [] (ahead ForUse (any_refers bounds)) n first r p m q →
      Spans u q (lower_all NoPure ForLater (first_value n first bounds).free bounds).steps q' → AreInTail u f n first bounds (More r bounds) p m q'
  in_bounds : {first : Term} {bounds rs : Terms} {p : ℕ} {m : Temporaries} {q : ℕ} (e : Datum) → Lasts u.facts f (first_value n first bounds).free m (first_value n first bounds).value e →
      AreMidway u f NoPure [] ForLater (first_value n first bounds).free bounds rs p m q → AreInTail u f n first bounds (More (Val e) rs) p m q

pub data AreInLoop (u : Text) (f : Frame) (k : ℕ) : Terms → Terms → ℕ → Temporaries → ℕ → Type 0 where
  in_variable : {x r first : Term} {bounds : Terms} {p : ℕ} {m : Temporaries} {q q' : ℕ} → IsMidway u f NoPure [] ForLater k x r p m q → Spans u q (tail_of (lower NoPure ForLater k x).free first bounds).steps q' →
      AreInLoop u f k (More x (More first bounds)) (More r (More first bounds)) p m q'
  in_tail : {x first : Term} {bounds rs : Terms} {p : ℕ} {m : Temporaries} {q : ℕ} (d : Datum) → Lasts u.facts f (lower NoPure ForLater k x).free m (lower NoPure ForLater k x).value d →
      AreInTail u f (lower NoPure ForLater k x).free first bounds rs p m q → AreInLoop u f k (More x (More first bounds)) (More (Val d) rs) p m q

-- how the operands of a statement are lowered: all for one purpose, or as those of a DO
pub data Mode : Type 0 where
  InOrder : Purpose → Mode
  OfLoop : Mode

abbrev pub lowered_as : Mode → ℕ → Terms → Lowered Pures
lowered_as (InOrder purpose) k ts = lower_all NoPure purpose k ts
lowered_as OfLoop k ts = loop_operands k ts

abbrev pub AreIn : Text → Frame → Mode → ℕ → Terms → Terms → ℕ → Temporaries → ℕ → Type 0
AreIn u f (InOrder purpose) k ts rs p m q = AreMidway u f NoPure [] purpose k ts rs p m q
AreIn u f OfLoop k ts rs p m q = AreInLoop u f k ts rs p m q

-- the variable of a DO, its limit and its step last
abbrev pub LoopLast : Facts → Frame → ℕ → Temporaries → Pures → List Datum → Type 0
LoopLast c f k m (AndPure x (AndPure first bounds)) (d ∷ e ∷ es) = Lasts c f k m x d × AllLast c f k m bounds es
LoopLast c f k m ps ds = ⊥

pub record LoopComes (c : Facts) (f : Frame) (s : Store) (k : ℕ) (m : Temporaries) (ps : Pures) (ds : List Datum) : Type 0 where
  pub now : (m' : Temporaries) → SameBelow k m m' → all_meant c f m' s ps ≡ Gives ds
  pub last : LoopLast c f k m ps ds
