-- The rows of statements by the blocks of their unit, as the definitions have them.
use Rattle.std.proofs.Common.{◌≡◌, ℕ, suc, ◌+◌, ◌<◌, Bool, true, false, not, ◌&&◌, ◌||◌, List, [], ◌∷◌, ◌++◌, get_or, length, Option, Some, None, slice_get, if◌then◌else◌, refl, sym, ap, subst, ◌∙◌, arith}
use Rattle.std.specs.List.{list_any}
use Rattle.std.proofs.lemmas.Option.{slice_get-get_or}
use Rattle.f_tree.specs.Values.{Bytes}
use Rattle.f_tree.specs.Folds.{layer_of}
use Rattle.f_tree.specs.declared.names.Options.{Options}
use Rattle.f_tree.specs.declared.refusals.Kind.TheVariants.{BranchIntoBlock, BadEntry}
use Rattle.f_tree.specs.declared.refusals.Refusal.{Refusal}
use Rattle.f_tree.specs.declared.statements.Body as whole
use Rattle.f_tree.specs.declared.statements.Body.{Body, IfOne', more_of-Body}
use Rattle.f_tree.specs.declared.statements.Body.TheVariants as body
use Rattle.f_tree.specs.declared.statements.DummyArgument.{DummyArgument}
use Rattle.f_tree.specs.declared.statements.Stmt.{Stmt}
use Rattle.f_tree.specs.declared.units.Unit.{Unit as WrittenUnit}
use Rattle.f_tree.specs.Places.{has_label, place_of_label}
use Rattle.f_tree.specs.Lines.{unit_read}
use Rattle.declaration_rows.specs.Judgement.{unless}
use Rattle.declaration_rows.specs.NameRows.{given_names, stood}
use Rattle.declaration_rows.specs.UnitRows.{ranges_from}
use Rattle.declaration_rows.specs.BlockRows.{arms_of, enters_arm as enters_arm_written, enters_range_of, enters_block, branches_of, branch_rows, has_entries, is_outside_arms, is_outside_blocks, is_in_range, shares_result, entry_rows, block_rows_from}
use Rattle.loop_ranges.specs.LoopEnds.{labelled_at}
use Rattle.loop_ranges.proofs.EndLemmas.{label_places, ranges_of_unit}
use Rattle.block_judge.specs.Arms.{arms_in, enters_arm, IsWithin}
use Rattle.block_judge.specs.Blocks.{enters_in, is_outside_in}
use Rattle.block_judge.specs.BlockSteps.{branch_rows_in, is_entry, entry_rows_in, rows_in, TellsSharing}

-- BRANCHES
arms_is : (u : WrittenUnit) (place : ℕ) → arms_of u place ≡ arms_in u.statements place
unfolding arms_of arms_in
arms_is u place = refl

arm_is : (u : WrittenUnit) (from to : ℕ) → enters_arm_written u from to ≡ enters_arm u.statements from to
unfolding enters_arm_written enters_arm arms_of arms_in
arm_is u from to = refl

enters_is : (options : Options) (u : WrittenUnit) (from : ℕ) (at : Option ℕ) → enters_block u (unit_read options u) from at ≡ enters_in u.statements from at
unfolding enters_block enters_in
enters_is options u from None = refl
enters_is options u from (Some to) =
    ap (λ b. b || enters_range_of (ranges_from (unit_read options u) 0 u.statements) from to) (arm_is u from to)
    ∙ ap (λ rs. enters_arm u.statements from to || enters_range_of rs from to) (ranges_of_unit options u)

label_is : (options : Options) (u : WrittenUnit) (from label : ℕ)
    → enters_block u (unit_read options u) from (place_of_label (unit_read options u) label) ≡ enters_in u.statements from (labelled_at 0 u.statements label)
label_is options u from label = enters_is options u from (place_of_label (unit_read options u) label) ∙ ap (enters_in u.statements from) (label_places options u label)

branch_is : (options : Options) (u : WrittenUnit) (place : ℕ) (b : Body) → branch_rows u (unit_read options u) place b ≡ branch_rows_in u.statements place b
unfolding branch_rows branch_rows_in
branch_is options u place b = λ i. unless (not (list_any (λ label. label_is options u place label i) (branches_of b))) BranchIntoBlock

-- ENTRIES
outside_is : (options : Options) (u : WrittenUnit) (place : ℕ) → is_outside_blocks u (unit_read options u) place ≡ is_outside_in u.statements place
unfolding is_outside_blocks is_outside_in arms_of arms_in
outside_is options u place = ap (λ rs. is_outside_arms (arms_in u.statements place) && not (list_any (is_in_range place) rs)) (ranges_of_unit options u)

entry_is : (options : Options) (u : WrittenUnit) (shares : Bool) (place : ℕ) (b : Body)
    → ((x : Bytes) (dummies : List DummyArgument) → b ≡ body.Entry x dummies → shares ≡ shares_result u (given_names u) u.kind u.name x)
    → entry_rows u (unit_read options u) place b ≡ entry_rows_in u.statements u.kind shares place b
unfolding entry_rows entry_rows_in is_entry layer_of
entry_is options u shares place (whole.Entry x dummies) tells =
    ap (λ c. unless (has_entries u.kind && c) BadEntry ++ unless (shares_result u (given_names u) u.kind u.name x) BadEntry) (outside_is options u place)
    ∙ ap (λ c. unless (has_entries u.kind && is_outside_in u.statements place) BadEntry ++ unless c BadEntry) (sym (tells x dummies refl))
entry_is options u shares place (IfOne' e s (more_of-Body b r)) tells = refl
entry_is options u shares place _ tells = refl

-- A WALK OVER THE STATEMENTS
abbrev pub row_of : Options → WrittenUnit → ℕ → Stmt → List Refusal
row_of options u place s = stood s (branch_rows u (unit_read options u) place s.body ++ entry_rows u (unit_read options u) place s.body)

pub row_is : (options : Options) (u : WrittenUnit) (shares : Bool) (place : ℕ) (s : Stmt)
    → ((x : Bytes) (dummies : List DummyArgument) → s.body ≡ body.Entry x dummies → shares ≡ shares_result u (given_names u) u.kind u.name x)
    → rows_in u.statements u.kind shares place s ≡ row_of options u place s
unfolding rows_in
row_is options u shares place s tells =
    ap (λ ks. stood s (ks ++ entry_rows_in u.statements u.kind shares place s.body)) (sym (branch_is options u place s.body))
    ∙ ap (λ ks. stood s (branch_rows u (unit_read options u) place s.body ++ ks)) (sym (entry_is options u shares place s.body tells))

pub block_step : (options : Options) (u : WrittenUnit) (place : ℕ) (s : Stmt) (ss : List Stmt)
    → block_rows_from u (unit_read options u) place (s ∷ ss) ≡ row_of options u place s ++ block_rows_from u (unit_read options u) (place + 1) ss
unfolding block_rows_from
block_step options u place s ss = ap (λ n. row_of options u place s ++ block_rows_from u (unit_read options u) n ss) (let e : suc place ≡ place + 1 = omega arith in e)

pub block_none : (options : Options) (u : WrittenUnit) (place : ℕ) → block_rows_from u (unit_read options u) place [] ≡ []
unfolding block_rows_from
block_none options u place = refl

-- what is told of a statement
got_at : {X : Type 0} (xs : List X) (i : ℕ) (x d : X) → i < length xs → x ≡ get_or xs i d → slice_get xs i ≡ Some x
got_at xs i x d h is = slice_get-get_or xs i d h ∙ ap Some (sym is)

some_same : {X : Type 0} (x y : X) → Some x ≡ Some y → x ≡ y
some_same x y is = cc

pub told : (u : WrittenUnit) (shares : List Bool) (place : ℕ) (s d : Stmt) (share e : Bool) → TellsSharing u shares → place < length u.statements → s ≡ get_or u.statements place d
    → share ≡ get_or shares place e → (x : Bytes) (dummies : List DummyArgument) → s.body ≡ body.Entry x dummies → share ≡ shares_result u (given_names u) u.kind u.name x
told u shares place s d share e tells h is share_is x dummies entry =
    let within : place < length shares = let c = tells.count in omega (arith, c, h) in
    some_same share (shares_result u (given_names u) u.kind u.name x)
    (sym (got_at shares place share e within share_is) ∙ tells.tells place s (got_at u.statements place s d h is) x dummies entry)

-- the place of a label is one of a statement
chosen_within : (b : Bool) (i n : ℕ) (o : Option ℕ) → i < n → IsWithin o n → IsWithin (if b then Some i else o) n
unfolding IsWithin
chosen_within true i n o h within = h
chosen_within false i n o h within = within

labelled_within : (i : ℕ) (ss : List Stmt) (l : ℕ) → IsWithin (labelled_at i ss l) (i + length ss)
unfolding labelled_at IsWithin
labelled_within i [] l = tt
labelled_within i (s ∷ ss) l =
    chosen_within (has_label s.label l) i (i + suc (length ss)) (labelled_at (suc i) ss l) (omega arith)
    (subst (IsWithin (labelled_at (suc i) ss l)) (let e : suc i + length ss ≡ i + suc (length ss) = omega arith in e) (labelled_within (suc i) ss l))

pub label_within : (ss : List Stmt) (l : ℕ) (o : Option ℕ) (n : ℕ) → o ≡ labelled_at 0 ss l → n ≡ length ss → IsWithin o n
label_within ss l o n is same = subst (λ m. IsWithin o m) (let e : 0 + length ss ≡ n = omega arith in e) (subst (λ p. IsWithin p (0 + length ss)) (sym is) (labelled_within 0 ss l))

-- the row of a statement that branches into a block
pub branch_row_put : (ss : List Stmt) (place : ℕ) (s : Stmt) (found after : List Refusal) (none labels : List ℕ) (enters : Bool) → none ≡ [] → labels ≡ none ++ branches_of s.body
    → enters ≡ list_any (λ label. enters_in ss place (labelled_at 0 ss label)) labels → after ≡ found ++ stood s (unless (not enters) BranchIntoBlock)
    → after ≡ found ++ stood s (branch_rows_in ss place s.body)
unfolding branch_rows_in
branch_row_put ss place s found after none labels enters empty put is now =
    now
    ∙ ap (λ b. found ++ stood s (unless (not b) BranchIntoBlock))
    (is ∙ ap (list_any (λ label. enters_in ss place (labelled_at 0 ss label))) (put ∙ ap (λ ls. ls ++ branches_of s.body) empty))
