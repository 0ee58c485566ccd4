-- Outputs in progress, and steps in their places: one step more.
use Rattle.std.specs.Prelude.{◌≡◌, ℕ, suc, ◌+◌, ◌<◌, ◌≤◌, ℤ, Bool, true, false, not, ◌||◌, ◌&&◌, List, Option, Some, None, is_some, option_map, length, slice_get}
use Rattle.std.specs.Option.{option_flatten}
use Rattle.std.proofs.Common.{refl, ap, sym, ◌∙◌, subst, drop, get_or, arith}
use Rattle.std.proofs.lemmas.Option.{slice_get-map, slice_get-get_or, same_Some}
use Rattle.f_tree.specs.declared.names.Basic.{Basic}
use Rattle.f_tree.specs.Facts.{Facts}
use Rattle.lowered_tree.specs.l_core.Steps as core
use Rattle.lowered_tree.specs.l_core.Steps.{Text, Starts, Takes, Finishes, Auxiliary, Keep, Acts}
use Rattle.lowered_tree.specs.declared.steps.Step.{Step}
use Rattle.lowered_tree.specs.Shapes.{step_of, steps_of}
use Rattle.lowered_text.specs.declared.text.LoweredText.{LoweredText}
use Rattle.lowered_text.specs.declared.kept.Kept.{Kept}
use Rattle.lowered_text.specs.Texts.{kinds_of}
use Rattle.main_translation.specs.Flow.{is_target, stage_after, stage_behind, stage_at, is_on}
use Rattle.unit_translation.specs.UnitFlow.{kind_before, is_in_place, are_in_place}
use Rattle.main_translation.specs.Contents.{begins_output, takes_item, ends_output}
use Rattle.name_facts.specs.declared.table.NameFacts.{NameFacts}
use Rattle.unit_contents.specs.ContentsOf.{TellsNames}
use Rattle.unit_contents.specs.Parts.{begun_unit, unit_by, is_in_place_by}
use Rattle.unit_contents.specs.Tables.{text_of, AreTargets, AreKinds}
use Rattle.unit_contents.proofs.ItemLaws.{item_typed}
use Rattle.unit_contents.proofs.WalkLaws.{next_step, no_step}

-- ## Steps

pub stage-begun : (now : Option ℤ) (st : core.Step) → begins_output st ≡ true → begun_unit st ≡ stage_after now st
unfolding begins_output begun_unit unit_by stage_after
stage-begun now (Acts (Starts way layout controls) ps m) begins = refl
stage-begun now (Acts Takes ps m) begins = cc
stage-begun now (Acts Finishes ps m) begins = cc
stage-begun now (Acts (Auxiliary which controls) ps m) begins = cc
stage-begun now _ begins = cc

pub stage-ended : (now : Option ℤ) (st : core.Step) → begins_output st ≡ false → ends_output st ≡ true → None ≡ stage_after now st
unfolding begins_output ends_output stage_after
stage-ended now (Acts (Starts way layout controls) ps m) begins ends = cc
stage-ended now (Acts Takes ps m) begins ends = cc
stage-ended now (Acts Finishes ps m) begins ends = refl
stage-ended now (Acts (Auxiliary which controls) ps m) begins ends = cc
stage-ended now _ begins ends = cc

pub stage-kept : (now : Option ℤ) (st : core.Step) → begins_output st ≡ false → ends_output st ≡ false → now ≡ stage_after now st
unfolding begins_output ends_output stage_after
stage-kept now (Acts (Starts way layout controls) ps m) begins ends = cc
stage-kept now (Acts Takes ps m) begins ends = refl
stage-kept now (Acts Finishes ps m) begins ends = cc
stage-kept now (Acts (Auxiliary which controls) ps m) begins ends = refl
stage-kept now _ begins ends = refl

pub ruleset stage_forms = (stage-begun, stage-ended, stage-kept)

pub on-some : (st : core.Step) (now : Option ℤ) → is_some now ≡ true → true ≡ is_on st now
unfolding is_on
on-some (Acts (Starts way layout controls) ps m) now some = refl
on-some (Acts Takes ps m) now some = sym some
on-some (Acts Finishes ps m) now some = sym some
on-some (Acts (Auxiliary which controls) ps m) now some = refl
on-some _ now some = refl

pub on-none : (st : core.Step) (now : Option ℤ) → is_some now ≡ false → not (takes_item st || ends_output st) ≡ is_on st now
unfolding is_on takes_item ends_output
on-none (Acts (Starts way layout controls) ps m) now none = refl
on-none (Acts Takes ps m) now none = sym none
on-none (Acts Finishes ps m) now none = sym none
on-none (Acts (Auxiliary which controls) ps m) now none = refl
on-none _ now none = refl

pub ruleset on_forms = (on-some, on-none)

-- ## What tables say

pub target_read : (t : LoweredText) (targets : List Bool) (n : ℕ) (d : Bool) (c : Facts) (begins : ℕ → ℕ) → AreTargets t targets → n < length targets
    → get_or targets n d ≡ is_target (text_of t c begins) n
target_read t targets n d c begins known within = same_Some _ _ (sym (slice_get-get_or targets n d within) ∙ known.told c begins n within)

pub step_read : (steps : List Step) (i : ℕ) (s : Step) → i < length steps → s ≡ get_or steps i s → slice_get (steps_of steps) i ≡ Some (step_of s)
step_read steps i s within is = slice_get-map step_of steps i ∙ ap (option_map step_of) (slice_get-get_or steps i s within) ∙ ap (λ r. Some (step_of r)) (sym is)

-- ## Steps in their places

placed_by : (u : Text) (n : ℕ) (kept : Option Kept) (st : core.Step) (stage : Option ℤ) → ((k : ℕ) → kinds_of kept k ≡ kind_before u n k)
    → is_in_place u n st stage ≡ is_in_place_by u.facts kept st stage
unfolding is_in_place is_in_place_by
placed_by u n kept (Keep k p) stage known = ap (λ (o : Option Basic). is_some o) (item_typed u n kept p known)
placed_by u n kept st stage known = refl

-- ## One step more

-- the stage before a position, where steps are in place at all positions before it
pub record AreInPlaceTo (table : NameFacts) (t : LoweredText) (i : ℕ) (before : Option ℤ) : Type 0 where
  pub stage : (c : Facts) (begins : ℕ → ℕ) → before ≡ stage_at (text_of t c begins) i
  pub rest : (c : Facts) (begins : ℕ → ℕ) → TellsNames table c
      → are_in_place (text_of t c begins) i (steps_of (drop i t.steps.items)) ≡ are_in_place (text_of t c begins) 0 (steps_of t.steps.items)

pub place_begin : (table : NameFacts) (t : LoweredText) → AreInPlaceTo table t 0 None
unfolding stage_at
place_begin table t = record { stage = λ c begins. refl; rest = λ c begins tells. refl }

-- what is kept before a step, as the table of all of them has it
pub kept_read : (table : NameFacts) (t : LoweredText) (ss : List Step) (kinds : List (Option Kept)) (i : ℕ) (kept : Option Kept) → ss ≡ t.steps.items → i < length ss
    → AreKinds table t kinds → kept ≡ option_flatten (slice_get kinds i) → (c : Facts) (begins : ℕ → ℕ) → TellsNames table c → (k : ℕ) → kinds_of kept k ≡ kind_before (text_of t c begins) i k
kept_read table t ss kinds i kept same within known read c begins tells k =
    ap (λ o. kinds_of o k) read ∙ known.told c begins tells i k (omega (arith, known.size, ap length same, within))

place_split : (u : Text) (steps : List Step) (i : ℕ) (s : Step) (kept : Option Kept) (stage : Option ℤ) → i < length steps → s ≡ get_or steps i s → stage ≡ stage_at u i
    → ((k : ℕ) → kinds_of kept k ≡ kind_before u i k)
    → are_in_place u i (steps_of (drop i steps)) ≡ (is_in_place_by u.facts kept (step_of s) stage && are_in_place u (i + 1) (steps_of (drop (i + 1) steps)))
unfolding are_in_place
place_split u steps i s kept stage within is now known =
    next_step (are_in_place u i) steps i s within is
    ∙ ap (λ o. is_in_place u i (step_of s) o && are_in_place u (suc i) (steps_of (drop (i + 1) steps))) (sym now)
    ∙ ap (λ b. b && are_in_place u (suc i) (steps_of (drop (i + 1) steps))) (placed_by u i kept (step_of s) stage known)
    ∙ ap (λ k. is_in_place_by u.facts kept (step_of s) stage && are_in_place u k (steps_of (drop (i + 1) steps))) (let e : suc i ≡ i + 1 = omega arith in e)

stage_more : (u : Text) (i : ℕ) (reached : Bool) (stage after : Option ℤ) (s : Step) → reached ≡ is_target u (i + 1) → stage ≡ stage_at u i → slice_get u.steps i ≡ Some (step_of s)
    → after ≡ stage_behind reached stage (Some (step_of s)) → after ≡ stage_at u (i + 1)
unfolding stage_at
stage_more u i reached stage after s told now at put =
    let next : i + 1 ≡ suc i = omega arith in
    put ∙ ap (λ b. stage_behind b stage (Some (step_of s))) (told ∙ ap (is_target u) next)
    ∙ ap (λ o. stage_behind (is_target u (suc i)) o (Some (step_of s))) now ∙ ap (stage_behind (is_target u (suc i)) (stage_at u i)) (sym at) ∙ ap (stage_at u) (sym next)

pub place_more : (table : NameFacts) (t : LoweredText) (ss : List Step) (i : ℕ) (s : Step) (reached : Bool) (kept : Option Kept) (stage after : Option ℤ) → ss ≡ t.steps.items → i < length ss
    → s ≡ get_or ss i s → ((c : Facts) (begins : ℕ → ℕ) → reached ≡ is_target (text_of t c begins) (i + 1))
    → ((c : Facts) (begins : ℕ → ℕ) → TellsNames table c → (k : ℕ) → kinds_of kept k ≡ kind_before (text_of t c begins) i k)
    → ((c : Facts) → TellsNames table c → is_in_place_by c kept (step_of s) stage ≡ true) → after ≡ stage_behind reached stage (Some (step_of s)) → AreInPlaceTo table t i stage
    → AreInPlaceTo table t (i + 1) after
place_more table t ss i s reached kept stage after same within is told read on put known =
    let steps = t.steps.items in
    let within' = subst (λ xs. i < length xs) same within in
    let is' = subst (λ xs. s ≡ get_or xs i s) same is in
    record {
      stage = λ c begins. stage_more (text_of t c begins) i reached stage after s (told c begins) (known.stage c begins) (step_read steps i s within' is') put;
      rest = λ c begins tells.
          let u = text_of t c begins in
          sym
          (place_split u steps i s kept stage within' is' (known.stage c begins) (read c begins tells)
          ∙ ap (λ b. b && are_in_place u (i + 1) (steps_of (drop (i + 1) steps))) (on c tells))
          ∙ known.rest c begins tells;
    }

pub not_in_place : (table : NameFacts) (t : LoweredText) (ss : List Step) (i : ℕ) (s : Step) (kept : Option Kept) (stage : Option ℤ) → ss ≡ t.steps.items → i < length ss → s ≡ get_or ss i s
    → ((c : Facts) (begins : ℕ → ℕ) → TellsNames table c → (k : ℕ) → kinds_of kept k ≡ kind_before (text_of t c begins) i k)
    → ((c : Facts) → TellsNames table c → is_in_place_by c kept (step_of s) stage ≡ false) → AreInPlaceTo table t i stage → (c : Facts) (begins : ℕ → ℕ) → TellsNames table c
    → false ≡ are_in_place (text_of t c begins) 0 (steps_of t.steps.items)
not_in_place table t ss i s kept stage same within is read off known c begins tells =
    let u = text_of t c begins in
    sym
    (place_split u t.steps.items i s kept stage (subst (λ xs. i < length xs) same within) (subst (λ xs. s ≡ get_or xs i s) same is) (known.stage c begins) (read c begins tells)
    ∙ ap (λ b. b && are_in_place u (i + 1) (steps_of (drop (i + 1) t.steps.items))) (off c tells))
    ∙ known.rest c begins tells

pub place_end : (table : NameFacts) (t : LoweredText) (i : ℕ) (stage : Option ℤ) → length t.steps.items ≤ i → AreInPlaceTo table t i stage → (c : Facts) (begins : ℕ → ℕ)
    → TellsNames table c → true ≡ are_in_place (text_of t c begins) 0 (steps_of t.steps.items)
unfolding are_in_place
place_end table t i stage past known c begins tells = sym (no_step (are_in_place (text_of t c begins) i) t.steps.items i past) ∙ known.rest c begins tells
