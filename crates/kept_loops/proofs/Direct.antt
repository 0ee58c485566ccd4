-- The statements of a plain unit, and what is known of its loops.
use Rattle.std.specs.List.{list_all, sum}
use Rattle.std.specs.Prelude.{◌≡◌, ℕ, suc, ◌+◌, Bool, true, false, not, ◌&&◌, ◌||◌, List, [], ◌∷◌, map, Option, Some, None}
use Rattle.std.proofs.Common.{refl, sym, ap, subst, arith}
use Rattle.std.proofs.lemmas.Bool.{and_from, and_parts}
use Rattle.translated_files.specs.f_tree.declared.names.Options.{Options}
use Rattle.translated_files.specs.f_tree.declared.statements.Body as whole
use Rattle.translated_files.specs.f_tree.declared.statements.Body.{Body, IfOne', more_of-Body}
use Rattle.translated_files.specs.f_tree.declared.statements.ListItem.{ListItem, Item, Loop'}
use Rattle.translated_files.specs.f_tree.declared.statements.Stmt.{Stmt}
use Rattle.translated_files.specs.f_tree.declared.units.Unit.{Unit as GivenUnit}
use Rattle.translated_files.specs.f_tree.Facts as head
use Rattle.translated_files.specs.f_tree.Facts.{Head, Form, Passes, On, Mark, Plain, Opens, Arm, Closes, Line, ProgramUnit}
use Rattle.translated_files.specs.f_tree.Folds.{fold_body, fold_item}
use Rattle.translated_files.specs.f_tree.Lines.{Naming, unit_kind, unit_read}
use Rattle.translated_files.specs.f_tree.Nests.{loop_of, is_no_loop, ranges_of, each_contained, ends_by, each_ends}
use Rattle.translated_files.specs.lowering.Units.{is_counted}
use Rattle.translated_files.specs.unit_forms.lowering_laws.Layout.{is_direct, is_direct_head, enters_arm, begins_loop, takes_no_step, is_direct_as, are_direct, has_end, has_loops}
use Rattle.translated_files.specs.unit_forms.plain_forms.PlainUnits.{has_own_storage, loops_are_nested, loops_are_entered_well, loops_fit, has_plain_lines}
use Rattle.translated_files.specs.unit_forms.PlainProcedures.{may_run, heading_fits, has_no_entries, each_name_is_plain, has_plain_heading, is_plain_unit}
use Rattle.translated_files.specs.translated_forms.LoweredForms.{value_lowers, words_lower, layer_item, item_lowers, layer_statement, statement_lowers, statements_lower}
use Rattle.loop_marks.specs.DoStatements.{dos_of, whiles_of, dos_among, whiles_among}
use Rattle.loop_marks.specs.MarkedLoops.{is_plain_mark, plain_if, dos_are_plain}
use Rattle.kept_loops.specs.SourceLoops as source
use Rattle.kept_loops.specs.SourceLoops.{layer_implied, count_in}
use Rattle.kept_loops.proofs.SourceForms.{dos_in, dos_in_head, whiles_in, whiles_in_head, all_dos, all_whiles}

-- ## Direct statements

mutual
  unfolding is_direct is_direct_head dos_in dos_in_head whiles_in whiles_in_head

  direct_no_do : (form : Form) → is_direct form ≡ true → dos_in form ≡ 0
  direct_no_do Passes h = refl
  direct_no_do (On h' ts) h = direct_no_do_head h' h

  direct_no_do_head : (h : Head) → is_direct_head h ≡ true → dos_in_head h ≡ 0
  direct_no_do_head (head.ToGuard form) h = direct_no_do form h
  direct_no_do_head (head.ToLoop label) h = absurd (cc)
  direct_no_do_head other h = refl

  direct_no_while : (form : Form) → is_direct form ≡ true → whiles_in form ≡ 0
  direct_no_while Passes h = refl
  direct_no_while (On h' ts) h = direct_no_while_head h' h

  direct_no_while_head : (h : Head) → is_direct_head h ≡ true → whiles_in_head h ≡ 0
  direct_no_while_head (head.ToGuard form) h = direct_no_while form h
  direct_no_while_head (head.ToTestLoop label) h = absurd (cc)
  direct_no_while_head other h = refl

guard_direct : (mark : Mark) (form : Form) (ts : _) → is_direct_as mark (On (head.ToGuard form) ts) ≡ true → is_direct form ≡ true
unfolding is_direct_as begins_loop enters_arm takes_no_step is_direct is_direct_head
guard_direct Plain form ts h = h
guard_direct Opens form ts h = h
guard_direct Arm form ts h = h
guard_direct Closes form ts h = absurd (cc)

dos_same : (mark : Mark) (form : Form) → is_direct_as mark form ≡ true → dos_of form ≡ dos_in form
unfolding dos_of dos_in dos_in_head
dos_same mark Passes h = refl
dos_same mark (On (head.ToGuard form) ts) h = sym (direct_no_do form (guard_direct mark form ts h))
dos_same mark (On (head.ToLoop label) ts) h = refl
dos_same mark (On other ts) h = refl

whiles_same : (mark : Mark) (form : Form) → is_direct_as mark form ≡ true → whiles_of form ≡ whiles_in form
unfolding whiles_of whiles_in whiles_in_head
whiles_same mark Passes h = refl
whiles_same mark (On (head.ToGuard form) ts) h = sym (direct_no_while form (guard_direct mark form ts h))
whiles_same mark (On (head.ToTestLoop label) ts) h = refl
whiles_same mark (On other ts) h = refl

pub dos_are : (lines : List Line) → are_direct lines ≡ true → dos_among lines ≡ all_dos lines
unfolding are_direct dos_among
dos_are [] h = refl
dos_are (line ∷ lines) h =
    let parts = and_parts (is_direct_as line.mark line.form) (are_direct lines) h in
    (λ k. dos_same line.mark line.form parts.0 k + dos_are lines parts.1 k)

pub whiles_are : (lines : List Line) → are_direct lines ≡ true → whiles_among lines ≡ all_whiles lines
unfolding are_direct whiles_among
whiles_are [] h = refl
whiles_are (line ∷ lines) h =
    let parts = and_parts (is_direct_as line.mark line.form) (are_direct lines) h in
    (λ k. whiles_same line.mark line.form parts.0 k + whiles_are lines parts.1 k)

plain_by : (mark : Mark) (form : Form) → elim form [ Passes ↦ false | On h operands ↦ elim h [ head.ToLoop label ↦ true | _ ↦ false ] ] ≡ true → is_direct_as mark form ≡ true → is_plain_mark mark ≡ true
unfolding is_direct_as begins_loop enters_arm takes_no_step is_direct is_direct_head is_plain_mark
plain_by Plain form is h = refl
plain_by Opens Passes is h = absurd (cc)
plain_by Opens (On (head.ToLoop label) operands) is h = absurd (cc)
plain_by Opens (On other operands) is h = absurd (cc)
plain_by Arm Passes is h = absurd (cc)
plain_by Arm (On (head.ToLoop label) operands) is h = absurd (cc)
plain_by Arm (On other operands) is h = absurd (cc)
plain_by Closes Passes is h = absurd (cc)
plain_by Closes (On h' operands) is h = absurd (cc)

plain_line : (line : Line) (b : Bool) → is_counted (Some line) ≡ b → is_direct_as line.mark line.form ≡ true → plain_if b line.mark ≡ true
unfolding is_counted plain_if
plain_line line true is h = plain_by line.mark line.form is h
plain_line line false is h = refl

pub dos_plain : (lines : List Line) → are_direct lines ≡ true → dos_are_plain lines ≡ true
unfolding are_direct dos_are_plain
dos_plain [] h = refl
dos_plain (line ∷ lines) h =
    let parts = and_parts (is_direct_as line.mark line.form) (are_direct lines) h in
    and_from (plain_if (is_counted (Some line)) line.mark) (dos_are_plain lines) (plain_line line (is_counted (Some line)) refl parts.0) (dos_plain lines parts.1)

-- ## Loops with their terminal statements

no_loop_by : (found : Option (Option ℕ)) → is_no_loop found ≡ true → found ≡ None
unfolding is_no_loop
no_loop_by None h = refl
no_loop_by (Some label) h = absurd (cc)

not_or : (a b : Bool) → not a || b ≡ false → (a ≡ true) × (b ≡ false)
not_or true b h = (refl, h)
not_or false b h = absurd (cc)

without_loops : (p : ProgramUnit) (i : ℕ) (lines : List Line) → has_loops lines ≡ false → each_ends p i lines ≡ true
unfolding has_loops each_ends ends_by
without_loops p i [] h = refl
without_loops p i (line ∷ lines) h = by (is_no_loop (loop_of line.form)) refl h (without_loops p (suc i) lines)
  where
    by : (b : Bool) → is_no_loop (loop_of line.form) ≡ b → not b || has_loops lines ≡ false → (has_loops lines ≡ false → each_ends p (suc i) lines ≡ true) → ends_by p i (loop_of line.form) && each_ends p (suc i) lines ≡ true
    by true is g more = and_from (ends_by p i (loop_of line.form)) (each_ends p (suc i) lines) (ap (ends_by p i) (no_loop_by (loop_of line.form) is)) (more g)
    by false is g more = absurd (cc)

pub ends_fit : (p : ProgramUnit) → loops_fit p ≡ true → each_ends p 0 p.lines ≡ true
unfolding loops_fit loops_are_nested
ends_fit p h = by (has_loops p.lines) refl h
  where
    by : (b : Bool) → has_loops p.lines ≡ b → not b || ((each_ends p 0 p.lines && each_contained (ranges_of p)) && loops_are_entered_well p) ≡ true → each_ends p 0 p.lines ≡ true
    by true is g = (and_parts (each_ends p 0 p.lines) (each_contained (ranges_of p)) (and_parts (each_ends p 0 p.lines && each_contained (ranges_of p)) (loops_are_entered_well p) g).0).0
    by false is g = without_loops p 0 p.lines is

-- ## A plain unit

pub record IsPlain (p : ProgramUnit) : Type 0 where
  pub direct : are_direct p.lines ≡ true
  pub ends : each_ends p 0 p.lines ≡ true

plain_lines : (p : ProgramUnit) → has_plain_lines p ≡ true → IsPlain p
unfolding has_plain_lines
plain_lines p h =
    let one = and_parts (are_direct p.lines) (has_end p.lines && loops_fit p) h in
    record { direct = one.0; ends = ends_fit p (and_parts (has_end p.lines) (loops_fit p) one.1).1 }

pub plain_unit : (options : Options) (u : GivenUnit) → is_plain_unit options u ≡ true → IsPlain (unit_read options u)
unfolding is_plain_unit
plain_unit options u h =
    let names = each_name_is_plain u in
    let lines = has_plain_lines (unit_read options u) in
    let one = (and_parts (may_run (unit_kind u)) (heading_fits (unit_kind u) u.dummies && (has_no_entries u && (has_own_storage u && (has_plain_heading u && (lines && names))))) h).1 in
    let two = (and_parts (heading_fits (unit_kind u) u.dummies) (has_no_entries u && (has_own_storage u && (has_plain_heading u && (lines && names)))) one).1 in
    let three = (and_parts (has_no_entries u) (has_own_storage u && (has_plain_heading u && (lines && names))) two).1 in
    let four = (and_parts (has_own_storage u) (has_plain_heading u && (lines && names)) three).1 in
    let five = (and_parts (has_plain_heading u) (lines && names) four).1 in
    plain_lines (unit_read options u) (and_parts lines names five).0

-- ## Implied DOs

item_single : (names : Naming) (i : ListItem) → item_lowers names i ≡ true → fold_item source.layer_item i ≡ 0
unfolding item_lowers fold_item layer_item source.layer_item
item_single names (Item e) h = refl
item_single names (Loop' s row control) h = absurd (cc)

sum_none : (n : ℕ) (ns : List ℕ) → n ≡ 0 → sum ns ≡ 0 → sum (n ∷ ns) ≡ 0
sum_none n ns none h = subst (λ m. sum (m ∷ ns) ≡ 0) (sym none) h

items_single : (names : Naming) (is : List ListItem) → list_all (item_lowers names) is ≡ true → sum (map (fold_item source.layer_item) is) ≡ 0
items_single names [] h = refl
items_single names (i ∷ is) h =
    let parts = and_parts (item_lowers names i) (list_all (item_lowers names) is) h in
    sum_none (fold_item source.layer_item i) (map (fold_item source.layer_item) is) (item_single names i parts.0) (items_single names is parts.1)

none_implied : (names : Naming) (b : Body) → statement_lowers names b ≡ true → fold_body layer_implied b ≡ 0
unfolding statement_lowers fold_body layer_statement layer_implied
none_implied names (IfOne' e s (more_of-Body b r)) h = none_implied names b (and_parts (statement_lowers names b) (value_lowers names e) h).0
none_implied names (whole.Transfer way controls items) h = items_single names items (and_parts (words_lower names controls) (list_all (item_lowers names) items) h).1
none_implied names b h = refl

pub nothing_implied : (names : Naming) (ss : List Stmt) → statements_lower names ss ≡ true → count_in layer_implied ss ≡ 0
unfolding statements_lower count_in
nothing_implied names [] h = refl
nothing_implied names (s ∷ ss) h =
    let parts = and_parts (statement_lowers names s.body) (list_all (λ (x : Stmt). statement_lowers names x.body) ss) h in
    let one = none_implied names s.body parts.0 in
    let more = nothing_implied names ss parts.1 in
    omega (arith, one, more)
