-- What stands behind the operands of a form, as the code meets it.
use Rattle.std.specs.declared.alloc.AllocError.{AllocError}
use Rattle.std.specs.Prelude.{◌≡◌, ℕ, suc, ◌+◌, Bool, true, false, List, [], ◌∷◌, ◌++◌, length, Result, Ok, Err, IfOk}
use Rattle.std.proofs.Common.{refl, ap, sym, subst, ◌∙◌, append_assoc, add-one}
use Rattle.std.proofs.lemmas.List.{append-nil}
use Rattle.f_tree.specs.Values.{Bytes}
use Rattle.f_tree.specs.Terms.{Prefix, Operator, Function, Callee}
use Rattle.lowered_tree.specs.l_core.Pures as core
use Rattle.lowered_tree.specs.l_core.Steps as act
use Rattle.lowering.specs.Expressions as low
use Rattle.lowering.specs.Expressions.{expressions_opened}
use Rattle.lowered_tree.specs.declared.steps.Step.{Step}
use Rattle.lowered_tree.specs.Shapes.{pure_of, pures_of, steps_of}
use Rattle.expression_lowering.specs.declared.answers.Lowered.{Lowered}
use Rattle.expression_lowering.specs.declared.answers.Operands.{Operands}
use Rattle.expression_lowering.specs.Outcomes.{IsLowered, AreLowered, IsPlain, IsKept, IsClosed, IsGuarded, IsBehind}

-- the steps that a value that is kept takes
pub kept-steps : (q : low.Purpose) (k : ℕ) (p : core.Pure) → low.is_kept q ≡ true → low.kept_steps q k p ≡ act.Keep k p ∷ []
unfolding expressions_opened
kept-steps low.ForUse k p h = absurd (cc)
kept-steps low.ForCall k p h = refl
kept-steps low.ForReading k p h = refl
kept-steps low.ForLater k p h = refl

kept-value : (q : low.Purpose) (k : ℕ) (p : core.Pure) → low.is_kept q ≡ true → low.kept_value q k p ≡ core.Temporary k
unfolding expressions_opened
kept-value low.ForUse k p h = absurd (cc)
kept-value low.ForCall k p h = refl
kept-value low.ForReading k p h = refl
kept-value low.ForLater k p h = refl

kept-free : (q : low.Purpose) (k n : ℕ) → low.is_kept q ≡ true → low.kept_free q k n ≡ suc k
unfolding expressions_opened
kept-free low.ForUse k n h = absurd (cc)
kept-free low.ForCall k n h = refl
kept-free low.ForReading k n h = refl
kept-free low.ForLater k n h = refl

pub temporary-kept : (q : low.Purpose) (k n : ℕ) (p : core.Pure) (before after : List Step) (r : Result Lowered AllocError) → low.is_kept q ≡ true →
    steps_of after ≡ steps_of before ++ act.Keep k p ∷ [] → IfOk r (IsPlain (core.Temporary k) (suc k)) → IfOk r (IsKept q k n p before after)
temporary-kept q k n p before after (Err e) kept pushed h = h
temporary-kept q k n p before after (Ok l) kept pushed h = record {
  steps = pushed ∙ ap (λ ss. steps_of before ++ ss) (sym (kept-steps q k p kept));
  value = h.value ∙ sym (kept-value q k p kept);
  free = h.free ∙ sym (kept-free q k n kept);
}

pub used-kept : (q : low.Purpose) (k : ℕ) (before : List Step) (l : Lowered) → low.is_kept q ≡ false → IsKept q k l.free (pure_of l.value) before before l
unfolding expressions_opened
used-kept low.ForUse k before l h = record { steps = sym (append-nil (steps_of before)); value = refl; free = refl }
used-kept low.ForCall k before l h = absurd (cc)
used-kept low.ForReading k before l h = absurd (cc)
used-kept low.ForLater k before l h = absurd (cc)

-- THE SHAPES
pub closed-Fetch : (q wanted : low.Purpose) (k n : ℕ) (p v : core.Pure) (before after : List Step) (r : Result Lowered AllocError) → wanted ≡ low.for_fetch q → p ≡ core.Load v →
    IfOk r (IsKept wanted k n p before after) → IfOk r (IsClosed low.AsFetch q k n (core.AndPure v core.NoPure) before after)
unfolding expressions_opened
closed-Fetch q wanted k n p v before after (Err e) as_wanted is h = h
closed-Fetch q wanted k n p v before after (Ok l) as_wanted is h = record {
  steps = h.steps ∙ ap (λ w. steps_of before ++ low.kept_steps w k p) as_wanted ∙ ap (λ p. steps_of before ++ low.kept_steps (low.for_fetch q) k p) is;
  value = h.value ∙ ap (λ w. low.kept_value w k p) as_wanted ∙ ap (low.kept_value (low.for_fetch q) k) is;
  free = h.free ∙ ap (λ w. low.kept_free w k n) as_wanted;
}

pub closed-Before : (op : Prefix) (q : low.Purpose) (k n : ℕ) (p v : core.Pure) (before after : List Step) (r : Result Lowered AllocError) →
    p ≡ core.Prefixed op v → IfOk r (IsKept q k n p before after) → IfOk r (IsClosed (low.AsBefore op) q k n (core.AndPure v core.NoPure) before after)
unfolding expressions_opened
closed-Before op q k n p v before after (Err e) is h = h
closed-Before op q k n p v before after (Ok l) is h = record {
  steps = h.steps ∙ ap (λ p. steps_of before ++ low.kept_steps q k p) is;
  value = h.value ∙ ap (low.kept_value q k) is;
  free = h.free;
}

pub closed-Between : (op : Operator) (q : low.Purpose) (k n : ℕ) (p v w : core.Pure) (before after : List Step) (r : Result Lowered AllocError) →
    p ≡ core.Operated op v w → IfOk r (IsKept q k n p before after) →
    IfOk r (IsClosed (low.AsBetween op) q k n (core.AndPure v (core.AndPure w core.NoPure)) before after)
unfolding expressions_opened
closed-Between op q k n p v w before after (Err e) is h = h
closed-Between op q k n p v w before after (Ok l) is h = record {
  steps = h.steps ∙ ap (λ p. steps_of before ++ low.kept_steps q k p) is;
  value = h.value ∙ ap (low.kept_value q k) is;
  free = h.free;
}

function-steps : (b : Bool) (f : Function) (q : low.Purpose) (k : ℕ) (ps : core.Pures) → b ≡ false → low.function_steps b f q k ps ≡ low.kept_steps q k (core.Applied f ps)
unfolding expressions_opened
function-steps true f q k ps h = absurd (cc)
function-steps false f q k ps h = refl

function-value : (b : Bool) (f : Function) (q : low.Purpose) (k : ℕ) (ps : core.Pures) → b ≡ false → low.function_value b f q k ps ≡ low.kept_value q k (core.Applied f ps)
unfolding expressions_opened
function-value true f q k ps h = absurd (cc)
function-value false f q k ps h = refl

function-free : (b : Bool) (q : low.Purpose) (k n : ℕ) → b ≡ false → low.function_free b q k n ≡ low.kept_free q k n
unfolding expressions_opened
function-free true q k n h = absurd (cc)
function-free false q k n h = refl

pub closed-Value : (f : Function) (q : low.Purpose) (k n : ℕ) (p : core.Pure) (ps : core.Pures) (before after : List Step) (r : Result Lowered AllocError) →
    low.is_library f ≡ false → p ≡ core.Applied f ps → IfOk r (IsKept q k n p before after) → IfOk r (IsClosed (low.AsFunction f) q k n ps before after)
unfolding low.closing low.closed_value low.closed_free
closed-Value f q k n p ps before after (Err e) value is h = h
closed-Value f q k n p ps before after (Ok l) value is h = record {
  steps = h.steps ∙ ap (λ p. steps_of before ++ low.kept_steps q k p) is ∙ ap (λ ss. steps_of before ++ ss) (sym (function-steps (low.is_library f) f q k ps value));
  value = h.value ∙ ap (low.kept_value q k) is ∙ sym (function-value (low.is_library f) f q k ps value);
  free = h.free ∙ sym (function-free (low.is_library f) q k n value);
}

library-steps : (b : Bool) (f : Function) (q : low.Purpose) (k : ℕ) (ps : core.Pures) → b ≡ true → low.function_steps b f q k ps ≡ act.Compute k f ps ∷ []
unfolding expressions_opened
library-steps true f q k ps h = refl
library-steps false f q k ps h = absurd (cc)

library-value : (b : Bool) (f : Function) (q : low.Purpose) (k : ℕ) (ps : core.Pures) → b ≡ true → low.function_value b f q k ps ≡ core.Temporary k
unfolding expressions_opened
library-value true f q k ps h = refl
library-value false f q k ps h = absurd (cc)

library-free : (b : Bool) (q : low.Purpose) (k n : ℕ) → b ≡ true → low.function_free b q k n ≡ suc k
unfolding expressions_opened
library-free true q k n h = refl
library-free false q k n h = absurd (cc)

pub closed-Library : (f : Function) (q : low.Purpose) (k n : ℕ) (ps : core.Pures) (before after : List Step) (r : Result Lowered AllocError) →
    low.is_library f ≡ true → steps_of after ≡ steps_of before ++ act.Compute k f ps ∷ [] → IfOk r (IsPlain (core.Temporary k) (suc k)) →
    IfOk r (IsClosed (low.AsFunction f) q k n ps before after)
unfolding low.closing low.closed_value low.closed_free
closed-Library f q k n ps before after (Err e) library pushed h = h
closed-Library f q k n ps before after (Ok l) library pushed h = record {
  steps = pushed ∙ ap (λ ss. steps_of before ++ ss) (sym (library-steps (low.is_library f) f q k ps library));
  value = h.value ∙ sym (library-value (low.is_library f) f q k ps library);
  free = h.free ∙ sym (library-free (low.is_library f) q k n library);
}

pub closed-Reference : (callee said : Callee) (q : low.Purpose) (k n : ℕ) (ps : core.Pures) (before after : List Step) (r : Result Lowered AllocError) →
    said ≡ callee → steps_of after ≡ steps_of before ++ act.CallFor k said ps ∷ [] → IfOk r (IsPlain (core.Temporary k) (suc k)) →
    IfOk r (IsClosed (low.AsReference callee) q k n ps before after)
unfolding expressions_opened
closed-Reference callee said q k n ps before after (Err e) is pushed h = h
closed-Reference callee said q k n ps before after (Ok l) is pushed h = record {
  steps = pushed ∙ ap (λ c. steps_of before ++ act.CallFor k c ps ∷ []) is;
  value = h.value;
  free = h.free;
}

pub steps-length : (steps : List Step) → length (steps_of steps) ≡ length steps
steps-length [] = refl
steps-length (s ∷ steps) = ap suc (steps-length steps)

in-a-row : (s0 bs : List act.Step) (a b c : act.Step) → (((s0 ++ a ∷ []) ++ b ∷ []) ++ bs) ++ c ∷ [] ≡ s0 ++ a ∷ b ∷ (bs ++ c ∷ [])
in-a-row s0 bs a b c = simp append_assoc

pub closed-Guard : (op : Operator) (k passed : ℕ) (left right wanted : core.Pure) (behind before s1 s2 s3 s4 : List Step) (r : Result Lowered AllocError) →
    wanted ≡ low.wanted_where op k → passed ≡ length behind + 1 →
    steps_of s1 ≡ steps_of before ++ act.Keep k left ∷ [] → steps_of s2 ≡ steps_of s1 ++ act.Unless wanted passed ∷ [] →
    steps_of s3 ≡ steps_of s2 ++ steps_of behind → steps_of s4 ≡ steps_of s3 ++ act.Keep k right ∷ [] →
    IfOk r (IsPlain (core.Temporary k) (suc k)) → IfOk r (IsGuarded op k left (steps_of behind) right before s4)
closed-Guard op k passed left right wanted behind before s1 s2 s3 s4 (Err e) is count one two three four h = h
closed-Guard op k passed left right wanted behind before s1 s2 s3 s4 (Ok l) is count one two three four h = record {
  steps =
      four ∙ ap (λ ss. ss ++ act.Keep k right ∷ []) (
      three ∙ ap (λ ss. ss ++ steps_of behind) (two ∙ ap (λ ss. ss ++ act.Unless wanted passed ∷ []) one))
      ∙ in-a-row (steps_of before) (steps_of behind) (act.Keep k left) (act.Unless wanted passed) (act.Keep k right)
      ∙ ap (λ w. steps_of before ++ act.Keep k left ∷ act.Unless w passed ∷ (steps_of behind ++ act.Keep k right ∷ [])) is
      ∙ ap (λ n. steps_of before ++ act.Keep k left ∷ act.Unless (low.wanted_where op k) n ∷ (steps_of behind ++ act.Keep k right ∷ []))
      (count ∙ add-one (length behind) ∙ ap suc (sym (steps-length behind)));
  value = h.value;
  free = h.free;
}

-- FORMS FROM THEIR OPERANDS
pub plain-lowered : (p : core.Pure) (k : ℕ) (before : List Step) (r : Result Lowered AllocError) → IfOk r (IsPlain p k) → IfOk r (IsLowered (low.plain p k) before before)
unfolding expressions_opened
plain-lowered p k before (Err e) h = h
plain-lowered p k before (Ok l) h = record { steps = sym (append-nil (steps_of before)); value = h.value; free = h.free }

-- the form over one operand
pub one-lowered : (shape : low.Shape) (q : low.Purpose) (k n : ℕ) (v : core.Pure) (one : low.Lowered core.Pure) (before between after : List Step) (l : Lowered) (r : Result Lowered AllocError) →
    IsLowered one before between l → n ≡ l.free → v ≡ pure_of l.value →
    IfOk r (IsClosed shape q k n (core.AndPure v core.NoPure) between after) → IfOk r (IsLowered (low.shaped shape q k (low.and_then one low.no_operand)) before after)
unfolding low.shaped low.and_then low.no_operand low.plain
one-lowered shape q k n v one before between after l (Err e) is free value h = h
one-lowered shape q k n v one before between after l (Ok m) is free value h =
    let same : v ≡ one.value = value ∙ is.value in
    let same_free : n ≡ one.free = free ∙ is.free in
    record {
      steps =
          h.steps ∙ ap (λ ss. ss ++ low.closing shape q k (core.AndPure v core.NoPure)) (is.steps ∙ ap (λ ss. steps_of before ++ ss) (sym (append-nil one.steps)))
          ∙ ap (λ w. (steps_of before ++ (one.steps ++ [])) ++ low.closing shape q k (core.AndPure w core.NoPure)) same
          ∙ append_assoc (steps_of before) (one.steps ++ []) (low.closing shape q k (core.AndPure one.value core.NoPure));
      value = h.value ∙ ap (λ w. low.closed_value shape q k (core.AndPure w core.NoPure)) same;
      free = h.free ∙ ap (low.closed_free shape q k) same_free;
    }

-- the form over operands in a list
pub list-lowered : (shape : low.Shape) (q : low.Purpose) (k : ℕ) (are : low.Lowered core.Pures) (before between after : List Step) (l : Operands) (r : Result Lowered AllocError) →
    AreLowered are before between l → IfOk r (IsClosed shape q k l.free (pures_of l.values) between after) → IfOk r (IsLowered (low.shaped shape q k are) before after)
unfolding low.shaped
list-lowered shape q k are before between after l (Err e) is h = h
list-lowered shape q k are before between after l (Ok m) is h = record {
  steps =
      h.steps ∙ ap (λ ss. ss ++ low.closing shape q k (pures_of l.values)) is.steps
      ∙ ap (λ ps. (steps_of before ++ are.steps) ++ low.closing shape q k ps) is.values
      ∙ append_assoc (steps_of before) are.steps (low.closing shape q k are.value);
  value = h.value ∙ ap (low.closed_value shape q k) is.values;
  free = h.free ∙ ap (low.closed_free shape q k) is.free;
}

-- the form over two operands, the right one's steps being made apart
pub behind-lowered : (shape : low.Shape) (q : low.Purpose) (k : ℕ) (one : low.Lowered core.Pure) (two : ℕ → low.Lowered core.Pure) (before between behind after : List Step) (a b : Lowered)
    (r : Result Lowered AllocError) → IsLowered one before between a → IsLowered (two a.free) [] behind b →
    IfOk r (IsBehind shape q k b.free (pure_of a.value) (steps_of behind) (pure_of b.value) between after) →
    IfOk r (IsLowered (low.shaped shape q k (low.and_then one (λ n. low.and_then (two n) low.no_operand))) before after)
unfolding low.shaped low.and_then low.no_operand low.plain
behind-lowered shape q k one two before between behind after a b (Err e) first second h = h
behind-lowered shape q k one two before between behind after a b (Ok l) first second h =
    let ps = λ (v w : core.Pure). core.AndPure v (core.AndPure w core.NoPure) in
    let later : steps_of behind ≡ (two one.free).steps ++ [] = second.steps ∙ ap (λ n. (two n).steps) first.free ∙ sym (append-nil (two one.free).steps) in
    let value_two : pure_of b.value ≡ (two one.free).value = second.value ∙ ap (λ n. (two n).value) first.free in
    let values : ps (pure_of a.value) (pure_of b.value) ≡ ps one.value (two one.free).value =
    ap (λ v. ps v (pure_of b.value)) first.value ∙ ap (ps one.value) value_two in
    record {
      steps =
          h.steps ∙ ap (λ ss. ss ++ (steps_of behind ++ low.closing shape q k (ps (pure_of a.value) (pure_of b.value)))) first.steps
          ∙ ap (λ ss. (steps_of before ++ one.steps) ++ (ss ++ low.closing shape q k (ps (pure_of a.value) (pure_of b.value)))) later
          ∙ ap (λ x. (steps_of before ++ one.steps) ++ (((two one.free).steps ++ []) ++ low.closing shape q k x)) values
          ∙ append_assoc (steps_of before) one.steps (((two one.free).steps ++ []) ++ low.closing shape q k (ps one.value (two one.free).value))
          ∙ ap (λ ss. steps_of before ++ ss) (sym (append_assoc one.steps ((two one.free).steps ++ []) (low.closing shape q k (ps one.value (two one.free).value))));
      value = h.value ∙ ap (low.closed_value shape q k) values;
      free = h.free ∙ ap (low.closed_free shape q k) (second.free ∙ ap (λ n. (two n).free) first.free);
    }

-- a form behind the steps of its right operand
pub closed-Behind : (shape : low.Shape) (q : low.Purpose) (k n : ℕ) (v w : core.Pure) (ps : core.Pures) (behind before between after : List Step) (r : Result Lowered AllocError) →
    ps ≡ core.AndPure v (core.AndPure w core.NoPure) → steps_of between ≡ steps_of before ++ steps_of behind →
    IfOk r (IsClosed shape q k n ps between after) → IfOk r (IsBehind shape q k n v (steps_of behind) w before after)
closed-Behind shape q k n v w ps behind before between after (Err e) is pushed h = h
closed-Behind shape q k n v w ps behind before between after (Ok l) is pushed h = record {
  steps =
      h.steps ∙ ap (λ ss. ss ++ low.closing shape q k ps) pushed ∙ ap (λ x. (steps_of before ++ steps_of behind) ++ low.closing shape q k x) is
      ∙ append_assoc (steps_of before) (steps_of behind) (low.closing shape q k (core.AndPure v (core.AndPure w core.NoPure)));
  value = h.value ∙ ap (low.closed_value shape q k) is;
  free = h.free;
}

-- a right operand that is passed where the left one decides
pub guard-lowered : (op : Operator) (k : ℕ) (v w : core.Pure) (one two : low.Lowered core.Pure) (before between behind after : List Step) (a b : Lowered) (r : Result Lowered AllocError) →
    IsLowered one before between a → IsLowered two [] behind b → v ≡ pure_of a.value → w ≡ pure_of b.value →
    IfOk r (IsGuarded op k v (steps_of behind) w between after) → IfOk r (IsLowered (low.guarded op k one two) before after)
unfolding low.guarded
guard-lowered op k v w one two before between behind after a b (Err e) first second left right h = h
guard-lowered op k v w one two before between behind after a b (Ok l) first second left right h =
    let rest = λ (v : core.Pure) (ss : List act.Step) (w : core.Pure). act.Keep k v ∷ act.Unless (low.wanted_where op k) (suc (length ss)) ∷ (ss ++ act.Keep k w ∷ []) in
    record {
      steps =
          h.steps ∙ ap (λ ss. ss ++ rest v (steps_of behind) w) first.steps
          ∙ ap (λ v. (steps_of before ++ one.steps) ++ rest v (steps_of behind) w) (left ∙ first.value)
          ∙ ap (λ ss. (steps_of before ++ one.steps) ++ rest one.value ss w) second.steps
          ∙ ap (λ w. (steps_of before ++ one.steps) ++ rest one.value two.steps w) (right ∙ second.value)
          ∙ append_assoc (steps_of before) one.steps (rest one.value two.steps two.value);
      value = h.value;
      free = h.free;
    }

-- what is lowered is lowered as another form that is the same
pub as-lowered : (is same : low.Lowered core.Pure) (before after : List Step) (r : Result Lowered AllocError) → is ≡ same → IfOk r (IsLowered is before after) → IfOk r (IsLowered same before after)
as-lowered is same before after r e h = subst (λ (x : low.Lowered core.Pure). IfOk r (IsLowered x before after)) e h

-- an element of an array as a place takes no step behind its operands
pub place-lowered : (x : Bytes) (q : low.Purpose) (k : ℕ) (are : low.Lowered core.Pures) (before after : List Step) (l : Operands) (r : Result Lowered AllocError) →
    AreLowered are before after l → IfOk r (IsPlain (core.ElementOf x (pures_of l.values)) l.free) → IfOk r (IsLowered (low.shaped (low.AsElement x) q k are) before after)
unfolding expressions_opened
place-lowered x q k are before after l (Err e) is h = h
place-lowered x q k are before after l (Ok m) is h = record {
  steps = is.steps ∙ ap (λ ss. steps_of before ++ ss) (sym (append-nil are.steps));
  value = h.value ∙ ap (core.ElementOf x) is.values;
  free = h.free ∙ is.free;
}

-- what takes no step, as a form that is the same
pub leaf-lowered : (p : core.Pure) (k : ℕ) (same : low.Lowered core.Pure) (before : List Step) (r : Result Lowered AllocError) → low.plain p k ≡ same →
    IfOk r (IsPlain p k) → IfOk r (IsLowered same before before)
leaf-lowered p k same before r e h = as-lowered (low.plain p k) same before before r e (plain-lowered p k before r h)
