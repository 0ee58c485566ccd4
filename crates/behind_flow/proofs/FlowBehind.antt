-- What is known before each step of a text stays where the text stands behind others.
use Rattle.std.specs.List.{list_any}
use Rattle.std.specs.Prelude.{nat_eq, ◌≡◌, ℕ, zero, suc, ◌+◌, ◌-◌, ◌<◌, ◌≤◌, ℤ, pos, Bool, true, false, ◌&&◌, List, [], ◌∷◌, ◌++◌, length, Option, Some, None, option_and_then, is_some, option_map, slice_get}
use Rattle.std.proofs.Common.{refl, sym, ap, ◌∙◌, subst, arith}
use Rattle.unit_translation.specs.f_tree.Facts.{Facts}
use Rattle.unit_translation.specs.l_core.Pures.{Pure, Temporary, NoPure, AndPure}
use Rattle.unit_translation.specs.l_core.Steps.{Takes, Step, Keep, Unless, AgainIf, Skip, Again, Jump, Select, JumpBy, Pass, Branch, Way, Acts, Text}
use Rattle.unit_translation.specs.c_emit.Calls.{kind_number}
use Rattle.unit_translation.specs.main_translation.Flow.{target_in, targets_on, targets_of, targets_from, is_target, kept_at, stage_after, stage_behind, stage_at, is_on}
use Rattle.unit_translation.specs.main_translation.Contents.{kind_value, own_value}
use Rattle.unit_translation.specs.UnitFlow.{kept_behind, kind_before, item_kind, is_in_place, are_in_place}
use Rattle.unit_translation.specs.UnitContents.{values_passed, values_from}
use Rattle.behind_bounds.specs.BehindBounds.{steps_behind, position_behind, behind, GoesBackWithin}
use Rattle.behind_flow.specs.BehindFlow.{GoBackWithin, FlowsBehind, FlowsAreBehind}
use Rattle.behind_flow.proofs.Further.{further, map_both, any_further, none_before, at_further, pass_at}

abbrev any_of : ℕ → List ℕ → Bool
any_of n xs = list_any (nat_eq n) xs

targets_on_further : (first n at count : ℕ) → at ≡ first + n → targets_on at count ≡ further first (targets_on n count)
unfolding targets_on
targets_on_further first n at zero is = refl
targets_on_further first n at (suc count) is = λ i. is i ∷ targets_on_further first (suc n) (suc at) count (omega (arith, is)) i

target_further : (first : ℕ) (found : Option ℕ) → target_in (option_map (λ n. first + n) found) ≡ further first (target_in found)
unfolding target_in
target_further first None = refl
target_further first (Some n) = refl

pass_kept : (c : Facts) (reached : Bool) (k : ℕ) → kept_behind c reached k (Some Pass) ≡ None
unfolding kept_behind kept_at
pass_kept c true k = refl
pass_kept c false k = refl

pass_stage : (reached : Bool) → stage_behind reached None (Some Pass) ≡ None
unfolding stage_behind stage_after
pass_stage true = refl
pass_stage false = refl

module _ (first : ℕ) (u : Text) where
  abbrev b : Text
  b = behind first u

  -- ## Branches

  targets_of_further : (n at : ℕ) (st : Step) → at ≡ first + n → GoesBackWithin n st → targets_of b at st ≡ further first (targets_of u n st)
  unfolding targets_of position_behind
  targets_of_further n at (Unless p m) is within = ap (λ k. k ∷ []) (let e : suc at + m ≡ first + (suc n + m) = omega (arith, is) in e)
  targets_of_further n at (AgainIf p m) is within = let le = within.again_if p m refl in ap (λ k. k ∷ []) (let e : at - m ≡ first + (n - m) = omega (arith, is, le) in e)
  targets_of_further n at (Skip m) is within = ap (λ k. k ∷ []) (let e : suc at + m ≡ first + (suc n + m) = omega (arith, is) in e)
  targets_of_further n at (Again m) is within = let le = within.again m refl in ap (λ k. k ∷ []) (let e : at - m ≡ first + (n - m) = omega (arith, is, le) in e)
  targets_of_further n at (Jump label) is within = target_further first (u.position label)
  targets_of_further n at (Select p count) is within = targets_on_further first (suc (suc n)) (suc (suc at)) count (omega (arith, is))
  targets_of_further n at (JumpBy p labels) is within = targets_on_further first (suc (suc n)) (suc (suc at)) (length labels) (omega (arith, is))
  targets_of_further n at (Branch k count) is within = targets_on_further first (suc (suc n)) (suc (suc at)) count (omega (arith, is))
  targets_of_further n at (Way label) is within = target_further first (u.position label)
  targets_of_further n at st is within = refl

  targets_further : (n at : ℕ) (steps : List Step) → at ≡ first + n → ((k : ℕ) (st : Step) → slice_get steps k ≡ Some st → GoesBackWithin (n + k) st) → targets_from b at steps ≡ further first (targets_from u n steps)
  unfolding targets_from
  targets_further n at [] is within = refl
  targets_further n at (st ∷ later) is within =
      let here : GoesBackWithin n st = subst (λ k. GoesBackWithin k st) (let e : n + 0 ≡ n = omega arith in e) (within 0 st refl) in
      (λ i. targets_of_further n at st is here i ++ targets_further (suc n) (suc at) later (omega (arith, is)) (λ k x there. subst (λ j. GoesBackWithin j x) (let e : n + suc k ≡ suc n + k = omega arith in e) (within (suc k) x there)) i)
      ∙ sym (map_both (λ k. first + k) (targets_of u n st) (targets_from u (suc n) later))

  targets_past : (count at n : ℕ) (steps : List Step) → at ≡ n + count → targets_from b n (steps_behind count steps) ≡ targets_from b at steps
  unfolding steps_behind targets_from targets_of
  targets_past zero at n steps is = ap (λ k. targets_from b k steps) (let e : n ≡ at = omega (arith, is) in e)
  targets_past (suc count) at n steps is = targets_past count at (suc n) steps (omega (arith, is))

  module _ (within : GoBackWithin u.steps) where
    all_targets : targets_from b 0 b.steps ≡ further first (targets_from u 0 u.steps)
    all_targets =
        targets_past first first 0 u.steps (omega arith)
        ∙ targets_further 0 first u.steps (omega arith) (λ k st there. subst (λ j. GoesBackWithin j st) (let e : k ≡ 0 + k = omega arith in e) (within k st there))

    target_same : (n at : ℕ) → at ≡ first + n → is_target b at ≡ is_target u n
    unfolding is_target
    target_same n at is = (λ i. any_of (is i) (all_targets i)) ∙ any_further first n (targets_from u 0 u.steps)

    target_none : (n : ℕ) → n < first → is_target b n ≡ false
    unfolding is_target
    target_none n below = ap (any_of n) all_targets ∙ none_before first n (targets_from u 0 u.steps) below

    -- ## Temporaries

    kinds_none : (n k : ℕ) → n ≤ first → kind_before b n k ≡ None
    unfolding kind_before
    kinds_none zero k le = refl
    kinds_none (suc n) k le = ap (kept_behind u.facts (is_target b (suc n)) k) (pass_at first u.steps n (omega (arith, le))) ∙ pass_kept u.facts (is_target b (suc n)) k

    kinds_same : (n at k : ℕ) → at ≡ first + n → kind_before b at k ≡ kind_before u n k
    unfolding kind_before
    kinds_same zero at k is = kinds_none at k (omega (arith, is))
    kinds_same (suc n) zero k is = absurd (omega (arith, is))
    kinds_same (suc n) (suc at) k is = λ i. kept_behind u.facts (target_same (suc n) (suc at) is i) k (at_further first u.steps n at (omega (arith, is)) i)

    item_same : (n at : ℕ) (p : Pure) → at ≡ first + n → item_kind b at p ≡ item_kind u n p
    unfolding item_kind
    item_same n at (Temporary k) is = kinds_same n at k is
    item_same n at p is = refl

    -- ## Outputs

    stages_none : (n : ℕ) → n ≤ first → stage_at b n ≡ None
    unfolding stage_at
    stages_none zero le = refl
    stages_none (suc n) le =
        (λ i. stage_behind (is_target b (suc n)) (stages_none n (omega (arith, le)) i) (pass_at first u.steps n (omega (arith, le)) i)) ∙ pass_stage (is_target b (suc n))

    stages_same : (n at : ℕ) → at ≡ first + n → stage_at b at ≡ stage_at u n
    unfolding stage_at
    stages_same zero at is = stages_none at (omega (arith, is))
    stages_same (suc n) zero is = absurd (omega (arith, is))
    stages_same (suc n) (suc at) is =
        λ i. stage_behind (target_same (suc n) (suc at) is i) (stages_same n at (omega (arith, is)) i) (at_further first u.steps n at (omega (arith, is)) i)

    -- ## Steps in their places

    place_same : (n at : ℕ) (st : Step) (stage : Option ℤ) → at ≡ first + n → is_in_place b at st stage ≡ is_in_place u n st stage
    unfolding is_in_place
    place_same n at (Keep k p) stage is = ap is_some (item_same n at p is)
    place_same n at st stage is = refl

    places_same : (n at : ℕ) (steps : List Step) → at ≡ first + n → are_in_place b at steps ≡ are_in_place u n steps
    unfolding are_in_place
    places_same n at [] is = refl
    places_same n at (st ∷ later) is =
        let here : is_in_place b at st (stage_at b at) ≡ is_in_place u n st (stage_at u n) = ap (is_in_place b at st) (stages_same n at is) ∙ place_same n at st (stage_at u n) is in
        λ i. here i && places_same (suc n) (suc at) later (omega (arith, is)) i

    places_past : (count at n : ℕ) (steps : List Step) → at ≡ n + count → are_in_place b n (steps_behind count steps) ≡ are_in_place b at steps
    unfolding steps_behind are_in_place is_in_place is_on
    places_past zero at n steps is = ap (λ k. are_in_place b k steps) (let e : n ≡ at = omega (arith, is) in e)
    places_past (suc count) at n steps is = places_past count at (suc n) steps (omega (arith, is))

    -- ## Values

    value_same : (n at : ℕ) (st : Step) → at ≡ first + n → values_passed b at st ≡ values_passed u n st
    unfolding values_passed
    value_same n at (Acts Takes (AndPure p NoPure) m) is = ap (λ o. kind_value (option_and_then kind_number o) ++ pos 1 ∷ own_value p) (item_same n at p is)
    value_same n at st is = refl

    values_same : (n at : ℕ) (steps : List Step) → at ≡ first + n → values_from b at steps ≡ values_from u n steps
    unfolding values_from
    values_same n at [] is = refl
    values_same n at (st ∷ later) is = λ i. value_same n at st is i ++ values_same (suc n) (suc at) later (omega (arith, is)) i

    values_past : (count at n : ℕ) (steps : List Step) → at ≡ n + count → values_from b n (steps_behind count steps) ≡ values_from b at steps
    unfolding steps_behind values_from values_passed
    values_past zero at n steps is = ap (λ k. values_from b k steps) (let e : n ≡ at = omega (arith, is) in e)
    values_past (suc count) at n steps is = values_past count at (suc n) steps (omega (arith, is))

    flows : FlowsBehind first u
    flows = record {
      targets = λ n. target_same n (first + n) refl;
      targets_before = λ n below. target_none n below;
      kinds = λ n k. kinds_same n (first + n) k refl;
      kinds_before = λ n k le. kinds_none n k le;
      stages = λ n. stages_same n (first + n) refl;
      stages_before = λ n le. stages_none n le;
      in_place = places_past first first 0 u.steps (omega arith) ∙ places_same 0 first u.steps (omega arith);
      values = values_past first first 0 u.steps (omega arith) ∙ values_same 0 first u.steps (omega arith);
    }

pub flows_behind : FlowsAreBehind
flows_behind first u within = flows first u within
