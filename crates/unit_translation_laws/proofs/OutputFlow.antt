-- No output of a lowered text goes on over a branch, or into a step that is reached by one, where each goes on as it must.
use Rattle.std.specs.Prelude.{◌≡◌, ℕ, zero, suc, ◌+◌, ◌≤◌, ℤ, Bool, true, false, List, [], ◌∷◌, ◌++◌, length, Option, Some, None, is_some, slice_get}
use Rattle.std.proofs.Common.{refl, sym, ap, ◌∙◌, subst, arith}
use Rattle.unit_translation.specs.f_tree.Facts.{Direction, Layout, Controls}
use Rattle.unit_translation.specs.f_tree.Setting.{first_in}
use Rattle.unit_translation.specs.l_core.Pures.{Pures}
use Rattle.unit_translation.specs.l_core.Steps.{Starts, Finishes, Step, Unless, Skip, Again, AgainIf, Jump, Select, JumpBy, Branch, Way, Acts, Text}
use Rattle.main_translation_laws.proofs.linking_laws.Places.{some_same, get_front, get_back, IsAt, in_first, in_second, at_one}
use Rattle.unit_translation.specs.main_translation.Flow.{is_target, targets_of, stage_after, stage_at, is_on}
use Rattle.main_translation_laws.proofs.FlowLaws.{reached}
use Rattle.unit_translation.specs.UnitFlow.{is_in_place, are_in_place}
use Rattle.unit_translation_laws.proofs.FlowFits.{is_branch, placed_at, IsAlone, is_over, is_alone, none_at_target, next_stage}
use Rattle.unit_translation_laws.proofs.OutputParts.{IsInner, AreInner, IsOpen, AreWhole, no_steps, other_step, whole_output}

-- ## Steps from a position on

abbrev StandAt : Text → ℕ → List Step → Type 0
StandAt u n xs = (i k : ℕ) (st : Step) → k ≡ n + i → slice_get xs i ≡ Some st → slice_get u.steps k ≡ Some st

stand_later : (u : Text) (n : ℕ) (x : Step) (xs : List Step) → StandAt u n (x ∷ xs) → StandAt u (suc n) xs
stand_later u n x xs stands i k st at is = stands (suc i) k st (omega (arith, at)) is

stand_front : (u : Text) (n : ℕ) (xs ys : List Step) → StandAt u n (xs ++ ys) → StandAt u n xs
stand_front u n xs ys stands i k st at is = stands i k st at (get_front xs ys i st is)

stand_back : (u : Text) (n m : ℕ) (xs ys : List Step) → m ≡ n + length xs → StandAt u n (xs ++ ys) → StandAt u m ys
stand_back u n m xs ys there stands i k st at is = stands (length xs + i) k st (omega (arith, there, at)) (get_back xs ys (length xs + i) i st refl is)

-- ## Outputs that go on

no_some : (now : Option ℤ) → now ≡ None → is_some now ≡ true → {A : Type 0} → A
no_some now none some = let no : false ≡ true = sym (ap is_some none) ∙ some in absurd (cc)

not_target : (u : Text) (m : ℕ) → is_some (stage_at u m) ≡ true → is_target u m ≡ false
not_target u m some = by (is_target u m) refl
  where
    by : (t : Bool) → is_target u m ≡ t → is_target u m ≡ false
    by true is = no_some (stage_at u m) (none_at_target u m is) some
    by false is = is

inner_stage : (k : ℕ) (st : Step) (now : Option ℤ) → IsInner k st → stage_after now st ≡ now
unfolding stage_after
inner_stage k (Acts (Starts way layout controls) ps m) now within = absurd within
inner_stage k (Acts Finishes ps m) now within = absurd within
inner_stage k st now within = refl

some_before : (u : Text) (n k : ℕ) (st : Step) → slice_get u.steps n ≡ Some st → IsInner k st → is_some (stage_at u (suc n)) ≡ true → is_some (stage_at u n) ≡ true
some_before u n k st stands within some = ap is_some (sym (next_stage u n st stands (not_target u (suc n) some) ∙ inner_stage k st (stage_at u n) within)) ∙ some

-- an output that goes on behind steps within it goes on before each of them
goes_through : (u : Text) (xs : List Step) (a : ℕ) → StandAt u a xs → AreInner xs → is_some (stage_at u (a + length xs)) ≡ true → (d k : ℕ) → k ≡ a + d → d ≤ length xs → is_some (stage_at u k) ≡ true
goes_through u [] a stands within some d k at less =
    let same : a + 0 ≡ k = omega (arith, at, less) in subst (λ m. is_some (stage_at u m) ≡ true) same some
goes_through u (st ∷ rest) a stands within some zero k at less =
    let same : a ≡ k = omega (arith, at) in
    let behind : is_some (stage_at u (suc a + length rest)) ≡ true = subst (λ m. is_some (stage_at u m) ≡ true) {x = a + length (st ∷ rest)} {y = suc a + length rest} (omega arith) some in
    let next = goes_through u rest (suc a) (stand_later u a st rest stands) within.1 behind 0 (suc a) (omega arith) (omega arith) in
    subst (λ m. is_some (stage_at u m) ≡ true) same (some_before u a (length rest) st (stands 0 a st (omega arith) refl) within.0 next)
goes_through u (st ∷ rest) a stands within some (suc d) k at less =
    let behind : is_some (stage_at u (suc a + length rest)) ≡ true = subst (λ m. is_some (stage_at u m) ≡ true) {x = a + length (st ∷ rest)} {y = suc a + length rest} (omega arith) some in
    goes_through u rest (suc a) (stand_later u a st rest stands) within.1 behind d k (omega (arith, at)) (omega (arith, less))

-- a step within an output, where the output goes on before each of the steps behind it and at its end
first_alone : (u : Text) (a : ℕ) (st : Step) (k : ℕ) → slice_get u.steps a ≡ Some st → IsInner k st → ((d m : ℕ) → m ≡ a + d → d ≤ suc k → is_some (stage_at u m) ≡ true) → IsAlone u a st
unfolding is_branch targets_of
first_alone u a (Unless p m) k stands within some =
    let target = reached u a (Unless p m) (suc a + m) stands first_in in
    let none = not_target u (suc a + m) (some (suc m) (suc a + m) (omega arith) (omega (arith, within))) in
    let no : true ≡ false = sym target ∙ none in absurd (cc)
first_alone u a (Skip m) k stands within some = absurd within
first_alone u a (Again m) k stands within some = absurd within
first_alone u a (AgainIf p m) k stands within some = absurd within
first_alone u a (Jump label) k stands within some = absurd within
first_alone u a (Select p count) k stands within some = absurd within
first_alone u a (JumpBy p labels) k stands within some = absurd within
first_alone u a (Branch j count) k stands within some = absurd within
first_alone u a (Way label) k stands within some = absurd within
first_alone u a st k stands within some = is_alone refl (not_target u (suc a) (some 1 (suc a) (omega arith) (omega arith)))

inner_alone : (u : Text) (xs : List Step) (a : ℕ) → StandAt u a xs → AreInner xs → is_some (stage_at u (a + length xs)) ≡ true → (i k : ℕ) (st : Step) → k ≡ a + i → slice_get xs i ≡ Some st → IsAlone u k st
inner_alone u [] a stands within some i k st at is = absurd (cc)
inner_alone u (x ∷ rest) a stands within some zero k st at is =
    let same : a ≡ k = omega (arith, at) in
    subst (λ m. IsAlone u m st) same
    (subst (IsAlone u a) (some_same x st is) (first_alone u a x (length rest) (stands 0 a x (omega arith) refl) within.0 (λ d m there less. goes_through u (x ∷ rest) a stands within some d m there less)))
inner_alone u (x ∷ rest) a stands within some (suc i) k st at is =
    inner_alone u rest (suc a) (stand_later u a x rest stands) within.1 (subst (λ m. is_some (stage_at u m) ≡ true) {x = a + length (x ∷ rest)} {y = suc a + length rest} (omega arith) some) i k st (omega (arith, at)) is

-- ## All steps

open_stage : (st : Step) → IsOpen st → stage_after None st ≡ None
unfolding stage_after
open_stage (Acts (Starts way layout controls) ps m) opens = absurd opens
open_stage st opens = refl

none_next : (u : Text) (n : ℕ) (st : Step) → slice_get u.steps n ≡ Some st → stage_after (stage_at u n) st ≡ None → stage_at u (suc n) ≡ None
none_next u n st stands none = by (is_target u (suc n)) refl
  where
    by : (t : Bool) → is_target u (suc n) ≡ t → stage_at u (suc n) ≡ None
    by true is = none_at_target u (suc n) is
    by false is = next_stage u n st stands is ∙ none

end_stage : (now : Option ℤ) (ps : Pures) (m : ℕ) → stage_after now (Acts Finishes ps m) ≡ None
unfolding stage_after
end_stage now ps m = refl

end_goes_on : (u : Text) (n : ℕ) (ps : Pures) (m : ℕ) → is_in_place u n (Acts Finishes ps m) (stage_at u n) ≡ true → is_some (stage_at u n) ≡ true
unfolding is_in_place is_on
end_goes_on u n ps m h = h

begins_alone : (u : Text) (n : ℕ) (way : Direction) (layout : Layout) (controls : Controls) (ps : Pures) (m : ℕ) → is_target u (suc n) ≡ false → IsAlone u n (Acts (Starts way layout controls) ps m)
unfolding is_branch
begins_alone u n way layout controls ps m alone = is_alone refl alone

module _ (u : Text) (placed : (k : ℕ) (st : Step) → slice_get u.steps k ≡ Some st → is_in_place u k st (stage_at u k) ≡ true) where
  whole_alone : (xs : List Step) (n : ℕ) → AreWhole xs → StandAt u n xs → stage_at u n ≡ None → (i k : ℕ) (st : Step) → k ≡ n + i → slice_get xs i ≡ Some st → IsAlone u k st
  whole_alone _ n no_steps stands none i k st at is = absurd (cc)
  whole_alone _ n (other_step x later opens rest) stands none zero k st at is =
      let same : n ≡ k = omega (arith, at) in
      subst (λ m. IsAlone u m st) same (subst (IsAlone u n) (some_same x st is) (is_over (ap (λ now. stage_after now x) none ∙ open_stage x opens)))
  whole_alone _ n (other_step x later opens rest) stands none (suc i) k st at is =
      whole_alone later (suc n) rest (stand_later u n x later stands) (none_next u n x (stands 0 n x (omega arith) refl) (ap (λ now. stage_after now x) none ∙ open_stage x opens)) i k st (omega (arith, at)) is
  whole_alone _ n (whole_output way layout controls ps m inside qs e later within rest) stands none i k st at is =
      by_place i at is
      (λ d there got.
      whole_alone later (suc (suc n + length inside)) rest (stand_later u (suc n + length inside) end later ends) (none_next u (suc n + length inside) end end_at (end_stage (stage_at u (suc n + length inside)) qs e)) d k st there got)
    where
      first : Step
      first = Acts (Starts way layout controls) ps m

      end : Step
      end = Acts Finishes qs e

      behind : StandAt u (suc n) (inside ++ end ∷ later)
      behind = stand_later u n first (inside ++ end ∷ later) stands

      ends : StandAt u (suc n + length inside) (end ∷ later)
      ends = stand_back u (suc n) (suc n + length inside) inside (end ∷ later) refl behind

      end_at : slice_get u.steps (suc n + length inside) ≡ Some end
      end_at = ends 0 (suc n + length inside) end (omega arith) refl

      goes_on : is_some (stage_at u (suc n + length inside)) ≡ true
      goes_on = end_goes_on u (suc n + length inside) qs e (placed (suc n + length inside) end end_at)

      by_part : (j : ℕ) → k ≡ suc n + j → IsAt inside (end ∷ later) j st → ((d : ℕ) → k ≡ suc (suc n + length inside) + d → slice_get later d ≡ Some st → IsAlone u k st) → IsAlone u k st
      by_part j there (in_first got) further = inner_alone u inside (suc n) (stand_front u (suc n) inside (end ∷ later) behind) within goes_on j k st there got
      by_part j there (in_second zero place got) further =
          let same : suc n + length inside ≡ k = omega (arith, there, place) in
          subst (λ p. IsAlone u p st) same (subst (IsAlone u (suc n + length inside)) (some_same end st got) (is_over (end_stage (stage_at u (suc n + length inside)) qs e)))
      by_part j there (in_second (suc d) place got) further = further d (omega (arith, there, place)) got

      by_place : (j : ℕ) → k ≡ n + j → slice_get (first ∷ (inside ++ end ∷ later)) j ≡ Some st → ((d : ℕ) → k ≡ suc (suc n + length inside) + d → slice_get later d ≡ Some st → IsAlone u k st) → IsAlone u k st
      by_place zero there got further =
          let same : n ≡ k = omega (arith, there) in
          subst (λ p. IsAlone u p st) same
          (subst (IsAlone u n) (some_same first st got)
          (begins_alone u n way layout controls ps m
          (not_target u (suc n) (goes_through u inside (suc n) (stand_front u (suc n) inside (end ∷ later) behind) within goes_on 0 (suc n) (omega arith) (omega arith)))))
      by_place (suc j) there got further = by_part j (omega (arith, there)) (at_one inside (end ∷ later) j st got) further

pub steps_alone : (u : Text) → AreWhole u.steps → are_in_place u 0 u.steps ≡ true → (n : ℕ) (st : Step) → slice_get u.steps n ≡ Some st → IsAlone u n st
unfolding stage_at
steps_alone u whole are n st stands =
    whole_alone u (λ k s there. placed_at u 0 u.steps k k s (omega arith) are there) u.steps 0 whole (λ i k s at is. let same : k ≡ i = omega (arith, at) in ap (slice_get u.steps) same ∙ is) refl n n st (omega arith) stands
