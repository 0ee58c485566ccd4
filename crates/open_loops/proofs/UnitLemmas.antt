-- What the walk finds is what the unit says that is read of the statements.
use Rattle.std.proofs.Common.{◌≡◌, ℕ, zero, suc, ◌+◌, ◌<◌, Bool, true, false, List, [], ◌∷◌, ◌++◌, map, filter, drop, get_or, length, Option, Some, None, slice_get, if◌then◌else◌, refl, sym, ap, subst, ◌∙◌, arith}
use Rattle.std.specs.Prelude.{option_map}
use Rattle.std.proofs.lemmas.List.{drop-map, length-map}
use Rattle.std.proofs.lemmas.Option.{slice_get-map, slice_get_within}
use Rattle.f_tree.specs.declared.names.Options.{Options}
use Rattle.f_tree.specs.declared.expressions.Expr.{Expr}
use Rattle.f_tree.specs.declared.statements.Body.{Body, IfOne', more_of-Body}
use Rattle.f_tree.specs.declared.statements.Body as whole
use Rattle.f_tree.specs.declared.statements.Body.TheOpen as body
use Rattle.f_tree.specs.declared.statements.Stmt.{Stmt}
use Rattle.f_tree.specs.declared.units.Unit.{Unit as WrittenUnit}
use Rattle.f_tree.specs.Folds.{folds_opened, layer_of}
use Rattle.f_tree.specs.Terms.{refers}
use Rattle.f_tree.specs.Facts.{ToLoop, Form, Passes, On, LoopMark, NoLoop, OpensLoop, ClosesLoop, Line, ProgramUnit}
use Rattle.f_tree.specs.Places.{has_label, label_from, place_of_label, loop_end_from, terminal_of}
use Rattle.f_tree.specs.Reading.{Read, read}
use Rattle.f_tree.specs.Uses.{heading_of}
use Rattle.f_tree.specs.Attributes.{from_all, all_described, attribute_in}
use Rattle.f_tree.specs.Lines.{Naming, lines_opened, is_text, text_assignment, value_assignment, assignment, is_statement_function, assign_form, form_of, loop_label_in, line_of, program_of, with_ties, unit_read}
use Rattle.f_tree.specs.Nests.{Range, loop_of, range_to, range_by, ranges_from, ranges_of, is_within, open_at}
use Rattle.expression_lowering.specs.lowering.Statements.{loop_operands}
use Rattle.expression_lowering.specs.lowering.Units.{loop_at_line, loop_lowered, free_of, free_at, ended_at}
use Rattle.name_facts.specs.declaration_rows.UnitRows as written
use Rattle.name_facts.specs.declared.table.NameFacts.{NameFacts}
use Rattle.expression_lowering.specs.TableNames.{AreFactsOf}
use Rattle.open_loops.specs.declared.places.LoopPlace.{LoopPlace}
use Rattle.open_loops.specs.LoopPlaces.{IsLoopPlace, ArePlacesOf}
use Rattle.open_loops.specs.OpenRanges.{open_by, ended_among}
use Rattle.open_loops.specs.KeptTemporaries.{free_inside, free_at_loop, free_among}
use Rattle.open_loops.specs.PlacesAmong.{IsPlaceAmong, ArePlacesUpTo}
use Rattle.open_loops.proofs.RangeLemmas.{all_ranges, open_are}

-- TERMINAL STATEMENTS, whatever the names are
labels_alike : (n m : Naming) (labels : List ℕ) (i : ℕ) (ss : List Stmt) (l : ℕ) → label_from i (map (line_of n labels) ss) l ≡ label_from i (map (line_of m labels) ss) l
unfolding label_from line_of
labels_alike n m labels i [] l = refl
labels_alike n m labels i (s ∷ ss) l = ap (λ o. if has_label s.label l then Some i else o) (labels_alike n m labels (suc i) ss l)

marked_end : ℕ → ℕ → LoopMark → List Line → Option ℕ
marked_end i depth mark lines = elim mark [
  | NoLoop ↦ loop_end_from (suc i) depth lines
  | OpensLoop ↦ loop_end_from (suc i) (suc depth) lines
  | ClosesLoop ↦ elim depth [ zero ↦ Some i | suc d ↦ loop_end_from (suc i) d lines ]
]

ends_by_mark : (i depth : ℕ) (mark : LoopMark) (xs ys : List Line) → ((d : ℕ) → loop_end_from (suc i) d xs ≡ loop_end_from (suc i) d ys) → marked_end i depth mark xs ≡ marked_end i depth mark ys
unfolding marked_end
ends_by_mark i depth NoLoop xs ys same = same depth
ends_by_mark i depth OpensLoop xs ys same = same (suc depth)
ends_by_mark i zero ClosesLoop xs ys same = refl
ends_by_mark i (suc d) ClosesLoop xs ys same = same d

ends_alike : (n m : Naming) (labels : List ℕ) (i depth : ℕ) (ss : List Stmt) → loop_end_from i depth (map (line_of n labels) ss) ≡ loop_end_from i depth (map (line_of m labels) ss)
unfolding loop_end_from line_of marked_end
ends_alike n m labels i depth [] = refl
ends_alike n m labels i depth (s ∷ ss) =
    ends_by_mark i depth (line_of n labels s).loop (map (line_of n labels) ss) (map (line_of m labels) ss) (λ d. ends_alike n m labels (suc i) d ss)

terminals_alike : (p q : ProgramUnit) (n m : Naming) (labels : List ℕ) (ss : List Stmt) (i : ℕ) (label : Option ℕ) → p.lines ≡ map (line_of n labels) ss → q.lines ≡ map (line_of m labels) ss
    → terminal_of p i label ≡ terminal_of q i label
unfolding terminal_of place_of_label
terminals_alike p q n m labels ss i None of_p of_q =
    ap (λ lines. loop_end_from (suc i) 0 (drop (suc i) lines)) of_p ∙ ap (loop_end_from (suc i) 0) (drop-map (line_of n labels) (suc i) ss)
    ∙ ends_alike n m labels (suc i) 0 (drop (suc i) ss)
    ∙ sym (ap (λ lines. loop_end_from (suc i) 0 (drop (suc i) lines)) of_q ∙ ap (loop_end_from (suc i) 0) (drop-map (line_of m labels) (suc i) ss))
terminals_alike p q n m labels ss i (Some l) of_p of_q =
    ap (λ lines. label_from 0 lines l) of_p ∙ labels_alike n m labels 0 ss l ∙ sym (ap (λ lines. label_from 0 lines l) of_q)

-- what a DO or a DO WHILE says of its terminal statement
loop_in : Body → Option (Option ℕ)
loop_in b = elim (layer_of b) [ body.Do label control ↦ Some label | body.DoWhile label e ↦ Some label | _ ↦ None ]

ended_by : ProgramUnit → ℕ → Option (Option ℕ) → Option ℕ
ended_by p i None = None
ended_by p i (Some label) = terminal_of p i label

ended_alike : (p q : ProgramUnit) (n m : Naming) (labels : List ℕ) (ss : List Stmt) (i : ℕ) (label : Option (Option ℕ)) → p.lines ≡ map (line_of n labels) ss → q.lines ≡ map (line_of m labels) ss
    → ended_by p i label ≡ ended_by q i label
unfolding ended_by
ended_alike p q n m labels ss i None of_p of_q = refl
ended_alike p q n m labels ss i (Some label) of_p of_q = terminals_alike p q n m labels ss i label of_p of_q

either_form : (b : Bool) (f g : Form) → loop_of f ≡ None → loop_of g ≡ None → loop_of (if b then f else g) ≡ None
either_form true f g of_f of_g = of_f
either_form false f g of_f of_g = of_g

text_form : (target e : Read) → loop_of (text_assignment target e) ≡ None
unfolding text_assignment value_assignment loop_of
text_form target e = either_form (refers target.actual) (value_assignment target e) _ refl refl

assigned_form : (names : Naming) (target e : Read) → loop_of (assignment names target e) ≡ None
unfolding assignment value_assignment loop_of
assigned_form names target e = either_form (is_text names target.base) (text_assignment target e) (value_assignment target e) (text_form target e) refl

assign_no_loop : (names : Naming) (target e : Expr) → loop_of (assign_form names target e) ≡ None
unfolding assign_form loop_of
assign_no_loop names target e =
    either_form (is_statement_function names (heading_of target).applied) Passes (assignment names (read names target) (read names e)) refl (assigned_form names (read names target) (read names e))

loop_of_form : (names : Naming) (b : Body) → loop_of (form_of names b) ≡ loop_in b
unfolding loop_of loop_in form_of lines_opened folds_opened
loop_of_form names (whole.Assign target e) = assign_no_loop names target e
loop_of_form names (IfOne' e s (more_of-Body b r)) = refl
loop_of_form names (whole.Return None) = refl
loop_of_form names (whole.Return (Some e)) = refl
loop_of_form names _ = refl

-- RANGES
written_range : (p : ProgramUnit) (i : ℕ) (b : Body) → written.range_in p i b ≡ written.range_to i (ended_by p i (loop_in b))
unfolding written.range_in written.range_to ended_by loop_in layer_of
written_range p i (IfOne' e s (more_of-Body b r)) = refl
written_range p i _ = refl

last_of : List written.Range → Option ℕ
last_of [] = None
last_of (r ∷ rs) = Some r.last

last_of_range : (i : ℕ) (end : Option ℕ) → last_of (written.range_to i end) ≡ end
unfolding last_of written.range_to
last_of_range i None = refl
last_of_range i (Some last) = refl

same_end : (i : ℕ) (a b : Option ℕ) → written.range_to i a ≡ written.range_to i b → a ≡ b
same_end i a b is = sym (last_of_range i a) ∙ ap last_of is ∙ last_of_range i b

range_of_loop : (p : ProgramUnit) (i : ℕ) (label : Option (Option ℕ)) → range_by p i label ≡ range_to i (ended_by p i label)
unfolding range_by range_to ended_by
range_of_loop p i None = refl
range_of_loop p i (Some label) = refl

range_of_line : (p : ProgramUnit) (names : Naming) (labels : List ℕ) (i : ℕ) (s : Stmt) → range_by p i (loop_of (line_of names labels s).form) ≡ range_to i (ended_by p i (loop_in s.body))
unfolding line_of
range_of_line p names labels i s = ap (range_by p i) (loop_of_form names s.body) ∙ range_of_loop p i (loop_in s.body)

-- the ends of the loops of statements
record AreEnds (p : ProgramUnit) (i : ℕ) (ss : List Stmt) (ends : List (Option ℕ)) : Type 0 where
  count : length ends ≡ length ss
  each : (k : ℕ) (d : Stmt) → k < length ss → get_or ends k None ≡ ended_by p (i + k) (loop_in (get_or ss k d).body)

ranges_are : (p : ProgramUnit) (names : Naming) (labels : List ℕ) (i : ℕ) (ss : List Stmt) (ends : List (Option ℕ)) → AreEnds p i ss ends → ranges_from p i (map (line_of names labels) ss) ≡ all_ranges i ends
unfolding ranges_from all_ranges
ranges_are p names labels i [] [] are = refl
ranges_are p names labels i [] (end ∷ ends) are = absurd (omega (arith, are.count))
ranges_are p names labels i (s ∷ ss) [] are = absurd (omega (arith, are.count))
ranges_are p names labels i (s ∷ ss) (end ∷ ends) are =
    let later : AreEnds p (suc i) ss ends = record {
      count = omega (arith, are.count);
      each = λ k d h. are.each (suc k) d (omega (arith, h)) ∙ ap (λ n. ended_by p n (loop_in (get_or ss k d).body)) (let e : i + suc k ≡ suc i + k = omega arith in e);
    } in
    let here : end ≡ ended_by p i (loop_in s.body) = are.each 0 s (omega arith) ∙ ap (λ n. ended_by p n (loop_in s.body)) (let e : i + 0 ≡ i = omega arith in e) in
    ap (λ rs. rs ++ range_by p i (loop_of (line_of names labels s).form)) (ranges_are p names labels (suc i) ss ends later)
    ∙ ap (λ rs. all_ranges (suc i) ends ++ rs) (range_of_line p names labels i s ∙ ap (range_to i) (sym here))

lines_are : (options : Options) (u : WrittenUnit) → (unit_read options u).lines ≡ map (line_of (attribute_in (all_described u)) (from_all loop_label_in u.statements)) u.statements
unfolding unit_read with_ties program_of
lines_are options u = refl

-- the ends that are found tell the ranges that are open
pub record AreTerminals (u : WrittenUnit) (ends : List (Option ℕ)) : Type 0 where
  pub count : length ends ≡ length u.statements
  pub ranges : (options : Options) (k : ℕ) (d : Stmt) → k < length u.statements → written.range_to k (get_or ends k None) ≡ written.range_in (unit_read options u) k (get_or u.statements k d).body

ends_are : (options : Options) (u : WrittenUnit) (p : ProgramUnit) (names : Naming) (ends : List (Option ℕ)) → p.lines ≡ map (line_of names (from_all loop_label_in u.statements)) u.statements
    → AreTerminals u ends → AreEnds p 0 u.statements ends
ends_are options u p names ends lines are = record {
  count = are.count;
  each = λ k d h.
      same_end k (get_or ends k None) (ended_by (unit_read options u) k (loop_in (get_or u.statements k d).body))
      (are.ranges options k d h ∙ written_range (unit_read options u) k (get_or u.statements k d).body)
      ∙ ended_alike (unit_read options u) p (attribute_in (all_described u)) names (from_all loop_label_in u.statements) u.statements k (loop_in (get_or u.statements k d).body) (lines_are options u) lines
      ∙ ap (λ n. ended_by p n (loop_in (get_or u.statements k d).body)) (let e : k ≡ 0 + k = omega arith in e);
}

no_options : Options
no_options = record { undeclared = false; onetrip = false; long_cards = false; checks = false }

open_is : (u : WrittenUnit) (p : ProgramUnit) (names : Naming) (ends : List (Option ℕ)) (i : ℕ) → p.lines ≡ map (line_of names (from_all loop_label_in u.statements)) u.statements → AreTerminals u ends
    → i < length u.statements → open_at p i ≡ open_by ends i
unfolding open_at ranges_of
open_is u p names ends i lines are h =
    ap (λ ls. filter (is_within i) (ranges_from p 0 ls)) lines
    ∙ ap (filter (is_within i)) (ranges_are p names (from_all loop_label_in u.statements) 0 u.statements ends (ends_are no_options u p names ends lines are))
    ∙ open_are ends i (omega (arith, are.count))

-- TEMPORARIES
free_by_form : ℕ → Form → ℕ
free_by_form k Passes = k
free_by_form k (On head operands) = elim head [ ToLoop label ↦ (loop_operands k operands).free | _ ↦ k ]

free_of_line : (k : ℕ) (f : Form) (line : Line) → (loop_at_line k (Some (record line { form = f }))).free ≡ free_by_form k f
unfolding loop_at_line loop_operands free_by_form
free_of_line k Passes line = refl
free_of_line k (On (ToLoop label) ts) line = refl
free_of_line k (On head ts) line = refl

free_no_loop : (k : ℕ) (f : Form) → loop_of f ≡ None → free_by_form k f ≡ k
unfolding free_by_form loop_of
free_no_loop k Passes none = refl
free_no_loop k (On (ToLoop label) ts) none = absurd (cc)
free_no_loop k (On head ts) none = refl

free_form : (names : Naming) (k : ℕ) (b : Body) → free_by_form k (form_of names b) ≡ free_inside names k b
unfolding free_by_form free_inside form_of loop_in lines_opened folds_opened
free_form names k (whole.Do label control) = refl
free_form names k (whole.DoWhile label e) = refl
free_form names k (IfOne' e s (more_of-Body b r)) = refl
free_form names k b = free_no_loop k (form_of names b) (loop_of_form names b)

free_line : (names : Naming) (labels : List ℕ) (k : ℕ) (o : Option Stmt) → (loop_at_line k (option_map (line_of names labels) o)).free ≡ free_at_loop names k o
unfolding loop_at_line loop_operands free_at_loop line_of
free_line names labels k None = refl
free_line names labels k (Some s) = free_of_line k (form_of names s.body) (line_of names labels s) ∙ free_form names k s.body

free_is : (p : ProgramUnit) (names : Naming) (labels : List ℕ) (ss : List Stmt) (rs : List Range) → p.lines ≡ map (line_of names labels) ss → free_of p rs ≡ free_among names ss rs
unfolding free_of free_among loop_lowered
free_is p names labels ss [] lines = refl
free_is p names labels ss (r ∷ outer) lines =
    ap (λ k. (loop_at_line k (slice_get p.lines r.first)).free) (free_is p names labels ss outer lines)
    ∙ ap (λ ls. (loop_at_line (free_among names ss outer) (slice_get ls r.first)).free) lines
    ∙ ap (λ line. (loop_at_line (free_among names ss outer) line).free) (slice_get-map (line_of names labels) ss r.first)
    ∙ free_line names labels (free_among names ss outer) (slice_get ss r.first)

-- THE UNIT
place_is : (table : NameFacts) (u : WrittenUnit) (p : ProgramUnit) (names : Naming) (ends : List (Option ℕ)) (i : ℕ) (place : LoopPlace) → AreFactsOf names table
    → p.lines ≡ map (line_of names (from_all loop_label_in u.statements)) u.statements → AreTerminals u ends → i < length u.statements
    → IsPlaceAmong table u.statements (open_by ends i) i place → IsLoopPlace p i place
unfolding free_at ended_at ended_among
place_is table u p names ends i place told lines are h among =
    let open_there = open_is u p names ends i lines are h in
    record {
      free = among.free.meant names told ∙ sym (free_is p names (from_all loop_label_in u.statements) u.statements (open_by ends i) lines) ∙ ap (free_of p) (sym open_there);
      ended = among.ended ∙ ap (ended_among i) (sym open_there);
    }

places_are : (table : NameFacts) (once : Bool) (u : WrittenUnit) (ends : List (Option ℕ)) (places : List LoopPlace) → AreTerminals u ends → ArePlacesUpTo table u.statements ends (length ends) places
    → ArePlacesOf table once u.statements places
places_are table once u ends places are found = record {
  meant = λ p names reads told. record {
    count = found.count ∙ are.count ∙ sym (ap length reads.lines ∙ length-map u.statements (line_of names (from_all loop_label_in u.statements)));
    each = λ i place is.
        place_is table u p names ends i place told reads.lines are
        (let within : i < length places = slice_get_within places i place is in omega (arith, within, found.count, are.count)) (found.each i place is);
  };
}

pub places_found : (table : NameFacts) (once : Bool) (u : WrittenUnit) (ends : List (Option ℕ)) (ss : List Stmt) (es : List (Option ℕ)) (places : List LoopPlace) → ss ≡ u.statements → es ≡ ends
    → AreTerminals u ends → ArePlacesUpTo table ss es (length es) places → ArePlacesOf table once u.statements places
places_found table once u ends ss es places same_ss same_es are found =
    places_are table once u ends places are
    (subst (λ xs. ArePlacesUpTo table u.statements xs (length xs) places) same_es (subst (λ xs. ArePlacesUpTo table xs es (length es) places) same_ss found))
