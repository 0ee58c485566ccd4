-- Constants that are passed: one more.
use Rattle.std.specs.Prelude.{◌≡◌, ℕ, suc, ◌+◌, ◌<◌, ◌≤◌, nat_le, ℤ, pos, negsuc, Bool, true, false, ◌&&◌, List, [], ◌∷◌, ◌++◌, fold, length, Option, Some, None, option_and_then, slice_get, slice_index_or, FitsSigned, if◌then◌else◌}
use Rattle.std.specs.Int.{w32}
use Rattle.std.specs.List.{flat_map}
use Rattle.std.specs.Option.{option_flatten}
use Rattle.std.proofs.Common.{refl, ap, sym, ◌∙◌, subst, drop, arith, append_assoc}
use Rattle.std.proofs.lemmas.Bool.{lt-ltb}
use Rattle.std.proofs.lemmas.Bool.Decides.{nat_tests}
use Rattle.std.proofs.lemmas.Grind.{fold-append}
use Rattle.std.proofs.lemmas.List.{at_drop_more, at_drop_all, append-nil, length-map}
use Rattle.f_tree.specs.declared.names.Basic.{Basic}
use Rattle.f_tree.specs.Values.{Datum, IsInt, IsLog, in_range}
use Rattle.f_tree.specs.Facts.{Facts}
use Rattle.lowered_tree.specs.l_core.Pures as core
use Rattle.lowered_tree.specs.l_core.Steps as act
use Rattle.lowered_tree.specs.l_core.Steps.{Text, Takes, Acts}
use Rattle.lowered_tree.specs.declared.pures.Literal.{Literal}
use Rattle.lowered_tree.specs.declared.pures.Function.{Function}
use Rattle.lowered_tree.specs.declared.pures.Pure.{Pure}
use Rattle.lowered_tree.specs.declared.pures.Pure as tree
use Rattle.lowered_tree.specs.declared.steps.Acting.{Acting}
use Rattle.lowered_tree.specs.declared.steps.Acting.TheVariants as acting
use Rattle.lowered_tree.specs.declared.steps.Callee.{Callee}
use Rattle.lowered_tree.specs.declared.steps.Step.{Step}
use Rattle.lowered_tree.specs.declared.steps.Step.TheVariants as step
use Rattle.lowered_tree.specs.Shapes.{datum_of, pure_of, pures_of, acting_of, step_of, steps_of, shapes_opened}
use Rattle.lowered_text.specs.declared.text.LoweredText.{LoweredText}
use Rattle.lowered_text.specs.declared.kept.Kept.{Kept}
use Rattle.lowered_text.specs.Texts.{IsText, kinds_of}
use Rattle.c_emit.specs.Calls.{kind_number}
use Rattle.main_translation.specs.Contents.{with_new, own_value, own_values, kind_value}
use Rattle.unit_translation.specs.UnitFlow.{kind_before}
use Rattle.unit_translation.specs.UnitContents.{LoweredUnit, whole_text, values_passed, values_from, constants_passed}
use Rattle.name_facts.specs.declared.table.NameFacts.{NameFacts}
use Rattle.unit_contents.specs.declared.contents.Contents.{Contents}
use Rattle.unit_contents.specs.ContentsOf.{TellsNames, AreContentsOf, AreMoreConstants}
use Rattle.unit_contents.specs.Parts.{literal_value, item_type_by, item_values, list_values, acting_values, step_values}
use Rattle.unit_contents.proofs.ItemLaws.{item_typed}
use Rattle.unit_contents.proofs.WalkLaws.{next_step, no_step}

-- ## Values of items

within : (n : ℕ) → n < 2147483648 → nat_le n 2147483647 ≡ true
within n h = grind (arith, nat_tests)

and-true : (b : Bool) → (b && true) ≡ b
and-true true = refl
and-true false = refl

fits-range : (z : ℤ) → FitsSigned w32 z → in_range z ≡ true
unfolding in_range
fits-range (pos n) h = within n h.sfits
fits-range (negsuc n) h = and-true (nat_le n 2147483647) ∙ within n h.sfits

pub literal-Integer : (z : ℤ) → FitsSigned w32 z → kind_value (Some z) ≡ literal_value (IsInt z)
unfolding kind_value literal_value
literal-Integer z fits = ap (λ b. if b then z ∷ [] else []) (sym (fits-range z fits))

own-literal : (d : Datum) → literal_value d ≡ own_value (core.Constant d)
unfolding literal_value own_value
own-literal (IsInt z) = refl
own-literal (IsLog true) = refl
own-literal (IsLog false) = refl
own-literal d = refl

pub own-Constant : (d : Literal) → own_value (pure_of (tree.Constant d)) ≡ literal_value (datum_of d)
unfolding shapes_opened
own-Constant d = sym (own-literal (datum_of d))

pub own-other : (p : Pure) → ((d : Literal) → p ≡ tree.Constant d → ⊥) → kind_value None ≡ own_value (pure_of p)
unfolding shapes_opened own_value kind_value
own-other (tree.Constant d) other = absurd (other d refl)
own-other (tree.Load' s (tree.more_of-Pure p r)) other = refl
own-other (tree.FirstOf' s (tree.more_of-Pure p r)) other = refl
own-other (tree.Substring' x s (tree.more_of-Pure p r) t (tree.more_of-Pure a q) u (tree.more_of-Pure b o)) other = refl
own-other (tree.Prefixed' op s (tree.more_of-Pure p r)) other = refl
own-other (tree.Operated' op s (tree.more_of-Pure p r) t (tree.more_of-Pure q o)) other = refl
own-other (tree.Chosen' s (tree.more_of-Pure p r) t (tree.more_of-Pure a q) u (tree.more_of-Pure b o)) other = refl
own-other _ other = refl

pub ruleset own_forms = (own-Constant, own-other)

-- ## Values of steps

pub item_added : (c : Facts) (kept : Option Kept) (p : core.Pure) (kind : Option Basic) (number own : Option ℤ) (first second third last : List ℤ) → kind ≡ item_type_by c kept p
    → number ≡ option_and_then kind_number kind → kind_value own ≡ own_value p → second ≡ fold with_new first (kind_value number) → third ≡ with_new second (pos 1)
    → last ≡ fold with_new third (kind_value own) → last ≡ fold with_new first (item_values c kept p)
unfolding item_values
item_added c kept p kind number own first second third last typed numbered owned one two three =
    let front = kind_value (option_and_then kind_number (item_type_by c kept p)) in
    three ∙ ap (fold with_new third) owned ∙ ap (λ zs. fold with_new zs (own_value p)) (two ∙ ap (λ zs. with_new zs (pos 1)) (one ∙ ap (λ k. fold with_new first (kind_value k)) (numbered ∙ ap (option_and_then kind_number) typed)))
    ∙ sym (fold-append with_new first front (pos 1 ∷ own_value p))

pub list-one : (c : Facts) (kept : Option Kept) (ps : List Pure) (p : Pure) → 1 ≤ length ps → length ps < 2 → p ≡ slice_index_or ps 0 p
    → item_values c kept (pure_of p) ≡ list_values c kept (pures_of ps)
unfolding pures_of list_values
list-one c kept [] p some one is = absurd (omega arith)
list-one c kept (q ∷ []) p some one is = ap (λ r. item_values c kept (pure_of r)) is
list-one c kept (q ∷ r ∷ ps) p some one is = absurd (omega arith)

pub list-none : (c : Facts) (kept : Option Kept) (ps : List Pure) → length ps < 1 → [] ≡ list_values c kept (pures_of ps)
unfolding pures_of list_values
list-none c kept [] none = refl
list-none c kept (q ∷ ps) none = absurd (omega arith)

pub list-many : (c : Facts) (kept : Option Kept) (ps : List Pure) → 2 ≤ length ps → [] ≡ list_values c kept (pures_of ps)
unfolding pures_of list_values
list-many c kept [] many = absurd (omega arith)
list-many c kept (q ∷ []) many = absurd (omega arith)
list-many c kept (q ∷ r ∷ ps) many = refl

pub acting-Takes : (c : Facts) (kept : Option Kept) (what : Acting) (ps : core.Pures) → what ≡ acting.Takes → list_values c kept ps ≡ acting_values c kept (acting_of what) ps
unfolding acting_values
acting-Takes c kept what ps is = sym (ap (λ w. acting_values c kept (acting_of w) ps) is)

pub acting-other : (c : Facts) (kept : Option Kept) (what : Acting) (ps : core.Pures) → (what ≡ acting.Takes → ⊥) → [] ≡ acting_values c kept (acting_of what) ps
unfolding acting_values
acting-other c kept (acting.Starts way layout controls) ps other = refl
acting-other c kept acting.Takes ps other = absurd (other refl)
acting-other c kept acting.Finishes ps other = refl
acting-other c kept (acting.Auxiliary which controls) ps other = refl

pub step-Acts : (c : Facts) (kept : Option Kept) (s : Step) (what : Acting) (ps : List Pure) (m : ℕ) → s ≡ step.Acts what ps m
    → acting_values c kept (acting_of what) (pures_of ps) ≡ step_values c kept (step_of s)
unfolding step_values
step-Acts c kept s what ps m is = sym (ap (λ r. step_values c kept (step_of r)) is)

pub step-Compute : (c : Facts) (kept : Option Kept) (s : Step) (k : ℕ) (f : Function) (ps : List Pure) → s ≡ step.Compute k f ps → own_values (pures_of ps) ≡ step_values c kept (step_of s)
unfolding step_values
step-Compute c kept s k f ps is = sym (ap (λ r. step_values c kept (step_of r)) is)

pub step-CallFor : (c : Facts) (kept : Option Kept) (s : Step) (k : ℕ) (callee : Callee) (ps : List Pure) → s ≡ step.CallFor k callee ps
    → own_values (pures_of ps) ≡ step_values c kept (step_of s)
unfolding step_values
step-CallFor c kept s k callee ps is = sym (ap (λ r. step_values c kept (step_of r)) is)

pub step-CallSub : (c : Facts) (kept : Option Kept) (s : Step) (k : ℕ) (x : List ℕ) (ps : List Pure) → s ≡ step.CallSub k x ps
    → own_values (pures_of ps) ≡ step_values c kept (step_of s)
unfolding step_values
step-CallSub c kept s k x ps is = sym (ap (λ r. step_values c kept (step_of r)) is)

pub step-other : (c : Facts) (kept : Option Kept) (s : Step) → ((what : Acting) (ps : List Pure) (m : ℕ) → s ≡ step.Acts what ps m → ⊥)
    → ((k : ℕ) (f : Function) (ps : List Pure) → s ≡ step.Compute k f ps → ⊥) → ((k : ℕ) (callee : Callee) (ps : List Pure) → s ≡ step.CallFor k callee ps → ⊥)
    → ((k : ℕ) (x : List ℕ) (ps : List Pure) → s ≡ step.CallSub k x ps → ⊥) → [] ≡ step_values c kept (step_of s)
unfolding step_values
step-other c kept (step.Acts what ps m) acts computes calls does = absurd (acts what ps m refl)
step-other c kept (step.Compute k f ps) acts computes calls does = absurd (computes k f ps refl)
step-other c kept (step.CallFor k callee ps) acts computes calls does = absurd (calls k callee ps refl)
step-other c kept (step.CallSub k x ps) acts computes calls does = absurd (does k x ps refl)
step-other c kept s acts computes calls does = refl

pub nothing_added : (zs values : List ℤ) → [] ≡ values → zs ≡ fold with_new zs values
nothing_added zs values none = ap (fold with_new zs) none

-- ## Operands of a function or of a subroutine

pub owns_more : (ps : List Pure) (i : ℕ) (p : Pure) (own : Option ℤ) (before after all : List ℤ) → i < length ps → p ≡ slice_index_or ps i p → kind_value own ≡ own_value (pure_of p)
    → after ≡ fold with_new before (kind_value own) → fold with_new before (own_values (pures_of (drop i ps))) ≡ all → fold with_new after (own_values (pures_of (drop (i + 1) ps))) ≡ all
unfolding own_values pures_of
owns_more ps i p own before after all inside is owned put known =
    let later = own_values (pures_of (drop (i + 1) ps)) in
    ap (λ zs. fold with_new zs later) (put ∙ ap (fold with_new before) owned) ∙ sym (fold-append with_new before (own_value (pure_of p)) later)
    ∙ sym
    (at_drop_more (λ qs. fold with_new before (own_values (pures_of qs))) ps i p inside
    ∙ ap (λ q. fold with_new before (own_value (pure_of q) ++ later)) (sym is))
    ∙ known

pub owns_whole : (ps : List Pure) (i : ℕ) (values all : List ℤ) → length ps ≤ i → fold with_new values (own_values (pures_of (drop i ps))) ≡ all → values ≡ all
unfolding own_values pures_of
owns_whole ps i values all past known = sym (at_drop_all (λ qs. fold with_new values (own_values (pures_of qs))) ps i past) ∙ known

-- ## One step more

passed_values : (u : Text) (n : ℕ) (kept : Option Kept) (st : act.Step) → ((k : ℕ) → kinds_of kept k ≡ kind_before u n k) → values_passed u n st ≡ step_values u.facts kept st
unfolding values_passed step_values acting_values list_values item_values
passed_values u n kept (Acts Takes (core.AndPure p core.NoPure) m) known =
    ap (λ o. kind_value (option_and_then kind_number o) ++ pos 1 ∷ own_value p) (item_typed u n kept p known)
passed_values u n kept (Acts Takes core.NoPure m) known = refl
passed_values u n kept (Acts Takes (core.AndPure p (core.AndPure q ps)) m) known = refl
passed_values u n kept (Acts (act.Starts way layout controls) ps m) known = refl
passed_values u n kept (Acts act.Finishes ps m) known = refl
passed_values u n kept (Acts (act.Auxiliary which controls) ps m) known = refl
passed_values u n kept st known = refl

added_more : (u : Text) (steps : List Step) (i : ℕ) (s : Step) (kept : Option Kept) (before after all : List ℤ) → i < length steps → s ≡ slice_index_or steps i s
    → ((k : ℕ) → kinds_of kept k ≡ kind_before u i k) → after ≡ fold with_new before (step_values u.facts kept (step_of s))
    → fold with_new before (values_from u i (steps_of (drop i steps))) ≡ all → fold with_new after (values_from u (i + 1) (steps_of (drop (i + 1) steps))) ≡ all
unfolding values_from
added_more u steps i s kept before after all inside is known put rest =
    let later = steps_of (drop (i + 1) steps) in
    let next : suc i ≡ i + 1 = omega arith in
    ap (λ zs. fold with_new zs (values_from u (i + 1) later)) (put ∙ ap (fold with_new before) (sym (passed_values u i kept (step_of s) known)))
    ∙ sym (fold-append with_new before (values_passed u i (step_of s)) (values_from u (i + 1) later))
    ∙ ap (λ n. fold with_new before (values_passed u i (step_of s) ++ values_from u n later)) (sym next)
    ∙ sym (ap (fold with_new before) (next_step (values_from u i) steps i s inside is)) ∙ rest

-- the constants that the steps from a position on pass are not yet among those that are there
pub record AreAddedTo (table : NameFacts) (t : LoweredText) (first : List ℤ) (i : ℕ) (values : List ℤ) : Type 0 where
  pub rest : (u : Text) → IsText t u → TellsNames table u.facts → fold with_new values (values_from u i (steps_of (drop i t.steps.items))) ≡ fold with_new first (values_from u 0 u.steps)

pub added_begin : (table : NameFacts) (t : LoweredText) (first : List ℤ) → AreAddedTo table t first 0 first
added_begin table t first = record { rest = λ u is tells. ap (λ sts. fold with_new first (values_from u 0 sts)) is.steps }

pub constants_more : (table : NameFacts) (t : LoweredText) (contents : Contents) (ss : List Step) (first : List ℤ) (i : ℕ) (s : Step) (kept : Option Kept) (before after : List ℤ)
    → ss ≡ t.steps.items → i < length ss → s ≡ slice_index_or ss i s → AreContentsOf table t contents → kept ≡ option_flatten (slice_get contents.kinds.items i)
    → ((c : Facts) → TellsNames table c → after ≡ fold with_new before (step_values c kept (step_of s))) → AreAddedTo table t first i before → AreAddedTo table t first (i + 1) after
constants_more table t contents ss first i s kept before after same inside is known read put rest =
    let inside' = subst (λ xs. i < length xs) same inside in
    record {
      rest = λ u meant tells.
          let many : length u.steps ≡ length t.steps.items = ap length (sym meant.steps) ∙ length-map t.steps.items step_of in
          added_more u t.steps.items i s kept before after (fold with_new first (values_from u 0 u.steps)) inside' (subst (λ xs. s ≡ slice_index_or xs i s) same is)
          (λ k. ap (λ o. kinds_of o k) read ∙ (known.meant u meant tells).kinds i k (lt-ltb i (length u.steps) (omega (arith, many, inside'))))
          (put u.facts tells) (rest.rest u meant tells);
    }

pub added_end : (table : NameFacts) (t : LoweredText) (first : List ℤ) (i : ℕ) (values : List ℤ) → length t.steps.items ≤ i → AreAddedTo table t first i values → AreMoreConstants table t first values
unfolding values_from
added_end table t first i values past known = record {
  meant = λ u is tells. sym (ap (fold with_new values) (no_step (values_from u i) t.steps.items i past)) ∙ known.rest u is tells;
}

-- ## The constants of a file

flat-more : {X Y : Type 0} (f : X → List Y) (xs : List X) (x : X) → flat_map f (xs ++ x ∷ []) ≡ flat_map f xs ++ f x
flat-more f [] x = append-nil (f x)
flat-more f (y ∷ xs) x = ap (λ ys. f y ++ ys) (flat-more f xs x) ∙ sym (append_assoc (f y) (flat_map f xs) (f x))

-- those of no unit, and those of one more
pub no_unit : (values : List ℤ) → values ≡ [] → values ≡ constants_passed []
unfolding constants_passed
no_unit values none = none

pub unit_added : (us : List LoweredUnit) (u : LoweredUnit) (before after : List ℤ) → before ≡ constants_passed us → after ≡ fold with_new before (values_from (whole_text u) 0 (whole_text u).steps)
    → after ≡ constants_passed (us ++ u ∷ [])
unfolding constants_passed
unit_added us u before after so_far added =
    let values = λ (v : LoweredUnit). values_from (whole_text v) 0 (whole_text v).steps in
    added ∙ ap (λ zs. fold with_new zs (values u)) so_far ∙ sym (fold-append with_new [] (flat_map values us) (values u)) ∙ ap (fold with_new []) (sym (flat-more values us u))
