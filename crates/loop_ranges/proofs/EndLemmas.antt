-- The ends of loops as the meaning finds them, by one walk from the last statement to the first.
use Rattle.std.proofs.Common.{◌≡◌, ℕ, zero, suc, ◌+◌, ◌-◌, ◌<◌, ◌≤◌, Bool, true, false, List, [], ◌∷◌, ◌++◌, map, drop, drop-cons, get_or, length, reverse, Option, Some, None, if◌then◌else◌, refl, sym, ap, subst, ◌∙◌, arith}
use Rattle.std.specs.Prelude.{option_to_list}
use Rattle.std.proofs.lemmas.List.{append-nil, reverse-append, drop_all}
use Rattle.f_tree.specs.declared.names.Options.{Options}
use Rattle.f_tree.specs.declared.statements.Stmt.{Stmt}
use Rattle.f_tree.specs.declared.units.Unit.{Unit as WrittenUnit}
use Rattle.f_tree.specs.Facts.{LoopMark, NoLoop, OpensLoop, ClosesLoop, Line, ProgramUnit}
use Rattle.f_tree.specs.Places.{has_label, label_from, place_of_label, loop_end_from}
use Rattle.f_tree.specs.Attributes.{from_all, all_described, attribute_in}
use Rattle.f_tree.specs.Lines.{Naming, loop_label_in, is_loop_label, line_of, program_of, with_ties, unit_read}
use Rattle.found_rows.specs.declaration_rows.UnitRows.{range_to, range_in, ranges_from}
use Rattle.loop_ranges.specs.declared.forms.LoopForm.{LoopForm}
use Rattle.loop_ranges.specs.declared.forms.LoopForm.TheVariants as form
use Rattle.loop_ranges.specs.LoopForms.{form_of}
use Rattle.name_table.specs.Named.{labelled}
use Rattle.loop_ranges.specs.declared.labels.Labels.{Labels}
use Rattle.loop_ranges.specs.LoopEnds.{AreLabels, is_named, labelled_at, end_by, closers_by, closers_from, ends_from, unit_ends}
use Rattle.loop_ranges.specs.OpenRanges.{ranges_at}
use Rattle.loop_ranges.proofs.FormLemmas.{mark_by, mark_by_form, range_by, range_by_form}

-- LABELS
label_lines : (names : Naming) (labels : List ℕ) (i : ℕ) (ss : List Stmt) (l : ℕ) → label_from i (map (line_of names labels) ss) l ≡ labelled_at i ss l
unfolding label_from line_of labelled_at
label_lines names labels i [] l = refl
label_lines names labels i (s ∷ ss) l = ap (λ o. if has_label s.label l then Some i else o) (label_lines names labels (suc i) ss l)

-- END DO statements: so many in front are left out
closer_behind : ℕ → List ℕ → Option ℕ
closer_behind depth [] = None
closer_behind zero (closer ∷ closers) = Some closer
closer_behind (suc depth) (closer ∷ closers) = closer_behind depth closers

-- lines of other marks
as_marked : (i depth : ℕ) (line : Line) (lines : List Line) (mark : LoopMark) → line.loop ≡ mark → loop_end_from i depth (line ∷ lines) ≡ loop_end_from i depth (record line { loop = mark } ∷ lines)
as_marked i depth line lines mark is = ap (λ m. loop_end_from i depth (record line { loop = m } ∷ lines)) is

no_loop : (i depth : ℕ) (line : Line) (lines : List Line) → line.loop ≡ NoLoop → loop_end_from i depth (line ∷ lines) ≡ loop_end_from (suc i) depth lines
unfolding loop_end_from
no_loop i depth line lines is = as_marked i depth line lines NoLoop is

opens : (i depth : ℕ) (line : Line) (lines : List Line) → line.loop ≡ OpensLoop → loop_end_from i depth (line ∷ lines) ≡ loop_end_from (suc i) (suc depth) lines
unfolding loop_end_from
opens i depth line lines is = as_marked i depth line lines OpensLoop is

closes_here : (i : ℕ) (line : Line) (lines : List Line) → line.loop ≡ ClosesLoop → loop_end_from i zero (line ∷ lines) ≡ Some i
unfolding loop_end_from
closes_here i line lines is = as_marked i zero line lines ClosesLoop is

closes_inner : (i depth : ℕ) (line : Line) (lines : List Line) → line.loop ≡ ClosesLoop → loop_end_from i (suc depth) (line ∷ lines) ≡ loop_end_from (suc i) depth lines
unfolding loop_end_from
closes_inner i depth line lines is = as_marked i (suc depth) line lines ClosesLoop is

-- a statement in front of others, of whose loops it is known where they end
by_form : (f : LoopForm) (terminal : Bool) (i depth : ℕ) (line : Line) (lines : List Line) (closers : List ℕ) → line.loop ≡ mark_by f terminal
    → ((d : ℕ) → loop_end_from (suc i) d lines ≡ closer_behind d closers) → loop_end_from i depth (line ∷ lines) ≡ closer_behind depth (closers_by f terminal i closers)
unfolding closer_behind closers_by mark_by
by_form (form.ToLabel label) terminal i depth line lines closers is known = no_loop i depth line lines is ∙ known depth
by_form form.ToEndDo terminal i depth line lines [] is known = opens i depth line lines is ∙ known (suc depth)
by_form form.ToEndDo terminal i depth line lines (closer ∷ closers) is known = opens i depth line lines is ∙ known (suc depth)
by_form form.EndDo true i depth line lines closers is known = no_loop i depth line lines is ∙ known depth
by_form form.EndDo false i zero line lines closers is known = closes_here i line lines is
by_form form.EndDo false i (suc depth) line lines closers is known = closes_inner i depth line lines is ∙ known depth
by_form form.Other terminal i depth line lines closers is known = no_loop i depth line lines is ∙ known depth

loop_of_line : (names : Naming) (labels : List ℕ) (s : Stmt) → (line_of names labels s).loop ≡ mark_by (form_of s.body) (is_loop_label labels s.label)
unfolding line_of
loop_of_line names labels s = mark_by_form labels s.label s.body

loop_ends : (names : Naming) (labels : List ℕ) (i depth : ℕ) (ss : List Stmt)
    → loop_end_from i depth (map (line_of names labels) ss) ≡ closer_behind depth (closers_from (is_loop_label labels) i ss)
unfolding loop_end_from closer_behind closers_from
loop_ends names labels i depth [] = refl
loop_ends names labels i depth (s ∷ ss) =
    by_form (form_of s.body) (is_loop_label labels s.label) i depth (line_of names labels s) (map (line_of names labels) ss) (closers_from (is_loop_label labels) (suc i) ss)
    (loop_of_line names labels s) (λ d. loop_ends names labels (suc i) d ss)

-- RANGES of statements from a place on, whose lines are those of the unit
range_at_form : (f : LoopForm) (p : ProgramUnit) (i : ℕ) (places : ℕ → Option ℕ) (closers : List ℕ) → ((l : ℕ) → place_of_label p l ≡ places l)
    → loop_end_from (suc i) 0 (drop (suc i) p.lines) ≡ closer_behind 0 closers → range_by p i f ≡ range_to i (end_by places f closers)
unfolding range_by end_by closer_behind range_to
range_at_form (form.ToLabel label) p i places closers at end = ap (range_to i) (at label)
range_at_form form.ToEndDo p i places [] at end = ap (range_to i) end
range_at_form form.ToEndDo p i places (closer ∷ closers) at end = ap (range_to i) end
range_at_form form.EndDo p i places closers at end = refl
range_at_form form.Other p i places closers at end = refl

drop_next : {X : Type 0} (i : ℕ) (xs : List X) (y : X) (ys : List X) → drop i xs ≡ y ∷ ys → drop (suc i) xs ≡ ys
drop_next zero (x ∷ xs) y ys is = cc
drop_next zero [] y ys is = absurd (cc)
drop_next (suc i) [] y ys is = absurd (cc)
drop_next (suc i) (x ∷ xs) y ys is = drop_next i xs y ys is

ranges_of_ends : (names : Naming) (labels : List ℕ) (p : ProgramUnit) (places : ℕ → Option ℕ) (i : ℕ) (ss : List Stmt) → ((l : ℕ) → place_of_label p l ≡ places l)
    → drop i p.lines ≡ map (line_of names labels) ss → ranges_from p i ss ≡ ranges_at i (ends_from places (is_loop_label labels) i ss)
unfolding ranges_from ranges_at ends_from
ranges_of_ends names labels p places i [] at lines = refl
ranges_of_ends names labels p places i (s ∷ ss) at lines =
    let rest : drop (suc i) p.lines ≡ map (line_of names labels) ss = drop_next i p.lines (line_of names labels s) (map (line_of names labels) ss) lines in
    ap (λ rs. rs ++ ranges_from p (suc i) ss)
    (range_by_form p i s.body
    ∙ range_at_form (form_of s.body) p i places (closers_from (is_loop_label labels) (suc i) ss) at (ap (loop_end_from (suc i) 0) rest ∙ loop_ends names labels (suc i) 0 ss))
    ∙ ap (λ rs. range_to i (end_by places (form_of s.body) (closers_from (is_loop_label labels) (suc i) ss)) ++ rs) (ranges_of_ends names labels p places (suc i) ss at rest)

lines_are : (options : Options) (u : WrittenUnit) → (unit_read options u).lines ≡ map (line_of (attribute_in (all_described u)) (from_all loop_label_in u.statements)) u.statements
unfolding unit_read with_ties program_of
lines_are options u = refl

pub label_places : (options : Options) (u : WrittenUnit) (l : ℕ) → place_of_label (unit_read options u) l ≡ labelled_at 0 u.statements l
unfolding place_of_label
label_places options u l =
    ap (λ lines. label_from 0 lines l) (lines_are options u) ∙ label_lines (attribute_in (all_described u)) (from_all loop_label_in u.statements) 0 u.statements l

pub ranges_of_unit : (options : Options) (u : WrittenUnit) → ranges_from (unit_read options u) 0 u.statements ≡ ranges_at 0 (unit_ends u.statements)
unfolding unit_ends
ranges_of_unit options u =
    ranges_of_ends (attribute_in (all_described u)) (from_all loop_label_in u.statements) (unit_read options u) (labelled_at 0 u.statements) 0 u.statements
    (label_places options u) (lines_are options u)

-- the end of one loop
end_at_place : (names : Naming) (labels : List ℕ) (p : ProgramUnit) (places : ℕ → Option ℕ) (i : ℕ) (ss : List Stmt) (k : ℕ) (d : Stmt) → ((l : ℕ) → place_of_label p l ≡ places l)
    → drop i p.lines ≡ map (line_of names labels) ss → k < length ss
    → range_to (i + k) (get_or (ends_from places (is_loop_label labels) i ss) k None) ≡ range_in p (i + k) (get_or ss k d).body
unfolding ends_from
end_at_place names labels p places i [] k d at lines h = absurd (omega (arith, h))
end_at_place names labels p places i (s ∷ ss) zero d at lines h =
    let rest : drop (suc i) p.lines ≡ map (line_of names labels) ss = drop_next i p.lines (line_of names labels s) (map (line_of names labels) ss) lines in
    let here : range_in p i s.body ≡ range_to i (end_by places (form_of s.body) (closers_from (is_loop_label labels) (suc i) ss)) =
    range_by_form p i s.body
    ∙ range_at_form (form_of s.body) p i places (closers_from (is_loop_label labels) (suc i) ss) at (ap (loop_end_from (suc i) 0) rest ∙ loop_ends names labels (suc i) 0 ss) in
    subst (λ n. range_to n (end_by places (form_of s.body) (closers_from (is_loop_label labels) (suc i) ss)) ≡ range_in p n s.body) (let e : i ≡ i + 0 = omega arith in e) (sym here)
end_at_place names labels p places i (s ∷ ss) (suc k) d at lines h =
    let rest : drop (suc i) p.lines ≡ map (line_of names labels) ss = drop_next i p.lines (line_of names labels s) (map (line_of names labels) ss) lines in
    subst (λ n. range_to n (get_or (ends_from places (is_loop_label labels) (suc i) ss) k None) ≡ range_in p n (get_or ss k d).body)
    (let e : suc i + k ≡ i + suc k = omega arith in e) (end_at_place names labels p places (suc i) ss k d at rest (omega (arith, h)))

pub terminal_at : (options : Options) (u : WrittenUnit) (k : ℕ) (d : Stmt) → k < length u.statements
    → range_to k (get_or (unit_ends u.statements) k None) ≡ range_in (unit_read options u) k (get_or u.statements k d).body
unfolding unit_ends
terminal_at options u k d h =
    subst (λ n. range_to n (get_or (ends_from (labelled_at 0 u.statements) (is_loop_label (from_all loop_label_in u.statements)) 0 u.statements) k None) ≡ range_in (unit_read options u) n (get_or u.statements k d).body)
    (let e : 0 + k ≡ k = omega arith in e)
    (end_at_place (attribute_in (all_described u)) (from_all loop_label_in u.statements) (unit_read options u) (labelled_at 0 u.statements) 0 u.statements k d
    (label_places options u) (lines_are options u) h)

-- the same ends by tables that tell the same
closers_alike : (terminal other : Option ℕ → Bool) → ((label : Option ℕ) → terminal label ≡ other label) → (i : ℕ) (ss : List Stmt) → closers_from terminal i ss ≡ closers_from other i ss
unfolding closers_from
closers_alike terminal other same i [] = refl
closers_alike terminal other same i (s ∷ ss) =
    ap (λ b. closers_by (form_of s.body) b i (closers_from terminal (suc i) ss)) (same s.label)
    ∙ ap (closers_by (form_of s.body) (other s.label) i) (closers_alike terminal other same (suc i) ss)

end_alike : (f : LoopForm) (places others : ℕ → Option ℕ) (closers : List ℕ) → ((l : ℕ) → places l ≡ others l) → end_by places f closers ≡ end_by others f closers
unfolding end_by
end_alike (form.ToLabel label) places others closers same = same label
end_alike form.ToEndDo places others [] same = refl
end_alike form.ToEndDo places others (closer ∷ closers) same = refl
end_alike form.EndDo places others closers same = refl
end_alike form.Other places others closers same = refl

ends_alike : (places others : ℕ → Option ℕ) (terminal other : Option ℕ → Bool) → ((l : ℕ) → places l ≡ others l) → ((label : Option ℕ) → terminal label ≡ other label)
    → (i : ℕ) (ss : List Stmt) → ends_from places terminal i ss ≡ ends_from others other i ss
unfolding ends_from
ends_alike places others terminal other same alike i [] = refl
ends_alike places others terminal other same alike i (s ∷ ss) =
    ap (λ end. end ∷ ends_from places terminal (suc i) ss)
    (ap (end_by places (form_of s.body)) (closers_alike terminal other alike (suc i) ss) ∙ end_alike (form_of s.body) places others (closers_from other (suc i) ss) same)
    ∙ ap (λ ends. end_by others (form_of s.body) (closers_from other (suc i) ss) ∷ ends) (ends_alike places others terminal other same alike (suc i) ss)

length_ends : (places : ℕ → Option ℕ) (terminal : Option ℕ → Bool) (i : ℕ) (ss : List Stmt) → length (ends_from places terminal i ss) ≡ length ss
unfolding ends_from
length_ends places terminal i [] = refl
length_ends places terminal i (s ∷ ss) = ap suc (length_ends places terminal (suc i) ss)

-- one statement more in front
pub ends_more : (places : ℕ → Option ℕ) (terminal : Option ℕ → Bool) (ss : List Stmt) (i : ℕ) (s d : Stmt) (ends after : List (Option ℕ)) (end : Option ℕ) (closers : List ℕ) → i < length ss
    → s ≡ get_or ss (length ss - 1 - i) d → reverse ends ≡ ends_from places terminal (length ss - i) (drop (length ss - i) ss)
    → closers ≡ closers_from terminal (length ss - i) (drop (length ss - i) ss) → end ≡ end_by places (form_of s.body) closers → after ≡ ends ++ end ∷ []
    → reverse after ≡ ends_from places terminal (length ss - (i + 1)) (drop (length ss - (i + 1)) ss)
unfolding ends_from
ends_more places terminal ss i s d ends after end closers h is so_far known now put =
    let same : length ss - 1 - i ≡ length ss - (i + 1) = omega arith in
    let next : suc (length ss - (i + 1)) ≡ length ss - i = omega arith in
    ap reverse put ∙ reverse-append ends (end ∷ []) ∙ ap (λ e. e ∷ reverse ends) (now ∙ ap (end_by places (form_of s.body)) known) ∙ ap (λ es. end_by places (form_of s.body) (closers_from terminal (length ss - i) (drop (length ss - i) ss)) ∷ es) so_far
    ∙ ap (λ n. end_by places (form_of s.body) (closers_from terminal n (drop n ss)) ∷ ends_from places terminal n (drop n ss)) (sym next)
    ∙ ap (λ t. ends_from places terminal (length ss - (i + 1)) (t ∷ drop (suc (length ss - (i + 1))) ss)) (is ∙ ap (λ n. get_or ss n d) same)
    ∙ ap (ends_from places terminal (length ss - (i + 1))) (sym (drop-cons ss (length ss - (i + 1)) d (omega arith)))

pub closers_more : (terminal : Option ℕ → Bool) (ss : List Stmt) (i : ℕ) (s d : Stmt) (closers after : List ℕ) → i < length ss → s ≡ get_or ss (length ss - 1 - i) d
    → closers ≡ closers_from terminal (length ss - i) (drop (length ss - i) ss) → after ≡ closers_by (form_of s.body) (terminal s.label) (length ss - 1 - i) closers
    → after ≡ closers_from terminal (length ss - (i + 1)) (drop (length ss - (i + 1)) ss)
unfolding closers_from
closers_more terminal ss i s d closers after h is so_far put =
    let same : length ss - 1 - i ≡ length ss - (i + 1) = omega arith in
    let next : suc (length ss - (i + 1)) ≡ length ss - i = omega arith in
    put ∙ ap (λ n. closers_by (form_of s.body) (terminal s.label) n closers) same ∙ ap (closers_by (form_of s.body) (terminal s.label) (length ss - (i + 1))) (so_far ∙ ap (λ n. closers_from terminal n (drop n ss)) (sym next))
    ∙ ap (λ (t : Stmt). closers_from terminal (length ss - (i + 1)) (t ∷ drop (suc (length ss - (i + 1))) ss)) (is ∙ ap (λ n. get_or ss n d) same)
    ∙ ap (closers_from terminal (length ss - (i + 1))) (sym (drop-cons ss (length ss - (i + 1)) d (omega arith)))

pub ends_begin : (places : ℕ → Option ℕ) (terminal : Option ℕ → Bool) (ss : List Stmt) (ends : List (Option ℕ)) → ends ≡ [] → reverse ends ≡ ends_from places terminal (length ss - 0) (drop (length ss - 0) ss)
unfolding ends_from
ends_begin places terminal ss ends none =
    ap reverse none ∙ sym (ap (ends_from places terminal (length ss - 0)) (drop_all (length ss - 0) ss (omega arith)))

pub closers_begin : (terminal : Option ℕ → Bool) (ss : List Stmt) (closers : List ℕ) → closers ≡ [] → reverse closers ≡ closers_from terminal (length ss - 0) (drop (length ss - 0) ss)
unfolding closers_from
closers_begin terminal ss closers none = ap reverse none ∙ sym (ap (closers_from terminal (length ss - 0)) (drop_all (length ss - 0) ss (omega arith)))

pub ends_whole : (places : ℕ → Option ℕ) (terminal : Option ℕ → Bool) (ss : List Stmt) (i : ℕ) (ends : List (Option ℕ)) → length ss ≤ i
    → reverse ends ≡ ends_from places terminal (length ss - i) (drop (length ss - i) ss) → reverse ends ≡ ends_from places terminal 0 ss
ends_whole places terminal ss i ends h so_far = so_far ∙ ap (λ n. ends_from places terminal n (drop n ss)) (let e : length ss - i ≡ 0 = omega arith in e)

pub unit_ends_by : (labels : Labels) (ss : List Stmt) → AreLabels labels ss → ends_from (labelled labels.places) (is_named labels) 0 ss ≡ unit_ends ss
unfolding unit_ends is_named
unit_ends_by labels ss known = ends_alike (labelled labels.places) (labelled_at 0 ss) (is_named labels) (is_loop_label (from_all loop_label_in ss)) known.places known.named.has 0 ss

pub length_unit_ends : (ss : List Stmt) → length (unit_ends ss) ≡ length ss
unfolding unit_ends
length_unit_ends ss = length_ends (labelled_at 0 ss) (is_loop_label (from_all loop_label_in ss)) 0 ss

-- the nearest END DO that is left is taken, if there is one
none_popped : (xs : List ℕ) (n : ℕ) (at : ℕ → ℕ) (popped : Option ℕ) → popped ≡ None → n ≡ length xs → ((d : ℕ) → 0 < n → popped ≡ Some (at d)) → xs ≡ []
none_popped [] n at popped is same last = refl
none_popped (x ∷ xs) n at popped is same last = absurd (let e = last 0 (omega arith) in cc)

pub closer_popped : (places : ℕ → Option ℕ) (xs after : List ℕ) (n : ℕ) (at : ℕ → ℕ) (popped : Option ℕ) → xs ≡ after ++ option_to_list popped → n ≡ length xs
    → ((d : ℕ) → 0 < n → popped ≡ Some (at d)) → popped ≡ end_by places form.ToEndDo (reverse xs)
unfolding end_by
closer_popped places xs after n at None put same last = sym (ap (λ ys. end_by places form.ToEndDo (reverse ys)) (none_popped xs n at None refl same last))
closer_popped places xs after n at (Some k) put same last = sym (ap (λ ys. end_by places form.ToEndDo ys) (ap reverse put ∙ reverse-append after (k ∷ [])))

pub closers_popped : (terminal : Bool) (i : ℕ) (xs after : List ℕ) (n : ℕ) (at : ℕ → ℕ) (popped : Option ℕ) → xs ≡ after ++ option_to_list popped → n ≡ length xs
    → ((d : ℕ) → 0 < n → popped ≡ Some (at d)) → reverse after ≡ closers_by form.ToEndDo terminal i (reverse xs)
unfolding closers_by
closers_popped terminal i xs after n at None put same last =
    ap reverse (sym (append-nil after) ∙ sym put ∙ none_popped xs n at None refl same last)
    ∙ sym (ap (λ ys. closers_by form.ToEndDo terminal i (reverse ys)) (none_popped xs n at None refl same last))
closers_popped terminal i xs after n at (Some k) put same last = sym (ap (λ ys. closers_by form.ToEndDo terminal i ys) (ap reverse put ∙ reverse-append after (k ∷ [])))
