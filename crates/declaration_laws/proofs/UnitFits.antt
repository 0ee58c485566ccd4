-- The statements of a unit that breaks no row are well formed, its IF blocks are a nest, and its entries begin at statements.
use Rattle.std.specs.Prelude.{◌≡◌, ℕ, zero, suc, ◌+◌, ◌<◌, nat_lt, Bool, true, false, ◌&&◌, List, [], ◌∷◌, ◌++◌, map, length, Option, Some, None, slice_get, option_map, IsTrue}
use Rattle.std.proofs.Common.{refl, sym, ap, ◌∙◌, subst, arith}
use Rattle.std.proofs.lemmas.Bool.{ltb-true}
use Rattle.std.proofs.lemmas.Option.{slice_get-map}
use Rattle.fortran_laws.specs.f_tree.declared.refusals.Kind.{Kind}
use Rattle.fortran_laws.specs.f_tree.declared.statements.Body as whole
use Rattle.fortran_laws.specs.f_tree.declared.statements.Body.{Body, Row_of-Body, more_of-Body, IfOne'}
use Rattle.fortran_laws.specs.f_tree.declared.statements.DummyArgument.{DummyArgument}
use Rattle.fortran_laws.specs.f_tree.declared.statements.Stmt.{Stmt}
use Rattle.fortran_laws.specs.f_tree.declared.units.Unit.{Unit as WrittenUnit}
use Rattle.fortran_laws.specs.f_tree.Folds.{fold_body, layer_of}
use Rattle.fortran_laws.specs.f_tree.Values.{Bytes}
use Rattle.fortran_laws.specs.f_tree.Terms.{NoMore}
use Rattle.fortran_laws.specs.f_tree.Facts.{EntryPoint, ToEnd, On, Mark, Plain, Opens, Arm, Closes, Line, ProgramUnit, Facts}
use Rattle.fortran_laws.specs.f_tree.Places.{place_of_label, terminal_of}
use Rattle.fortran_laws.specs.f_tree.Transfers.{labelled_text}
use Rattle.fortran_laws.specs.f_tree.Lines.{Naming, layer_form, form_of, mark_of, line_of, formals_of, entry_in, entries_from, formats_of}
use Rattle.fortran_laws.specs.f_tree.Setting.{IsIn, first_in, later_in}
use Rattle.fortran_laws.specs.f_tree.WellFormed as formed
use Rattle.fortran_laws.specs.f_tree.WellFormed.{HasStatement, HasTerminal, IsFormed, IsNest}
use Rattle.refusal_order.specs.declaration_rows.Fits.{Agrees}
use Rattle.refusal_order.specs.declaration_rows.StatementRows.{broken}
use Rattle.refusal_order.specs.declaration_rows.Formed.{IsSite, StandsThere}
use Rattle.refusal_order.specs.declaration_rows.NameRows.{given_names, known_in, stood}
use Rattle.refusal_order.specs.declaration_rows.UnitRows.{may_be_entered, such_at, is_behind, may_end, site_at, statements_rows, nest_row, around_behind, left_open, nest_rows, is_end, ends_by_end}
use Rattle.declaration_laws.proofs.ExpressionFits.{none_of_both}
use Rattle.declaration_laws.proofs.StatementFits.{statements_formed}

-- LISTS
pub none_mapped : {A B : Type 0} (f : A → B) (xs : List A) → map f xs ≡ [] → xs ≡ []
none_mapped f [] none = refl
none_mapped f (x ∷ xs) none = absurd (cc)

pub none_stood : (s : Stmt) (kinds : List Kind) → stood s kinds ≡ [] → kinds ≡ []
unfolding stood
none_stood s kinds none = none_mapped _ kinds none

pub both_true : (a b : Bool) → IsTrue (a && b) → IsTrue a × IsTrue b
both_true true true both = (refl, refl)
both_true true false both = absurd (cc)
both_true false b both = absurd (cc)

pub mapped_length : {A B : Type 0} (f : A → B) (xs : List A) → length (map f xs) ≡ length xs
mapped_length f [] = refl
mapped_length f (x ∷ xs) = ap suc (mapped_length f xs)

-- a place of a list of statements
pub record IsTheStatement (names : Naming) (labels : List ℕ) (ss : List Stmt) (i : ℕ) (line : Line) : Type 0 where
  pub statement : Stmt
  pub there : slice_get ss i ≡ Some statement
  pub is : line ≡ line_of names labels statement

pub at_line : (names : Naming) (labels : List ℕ) (o : Option Stmt) (line : Line) → option_map (line_of names labels) o ≡ Some line →
    (s : Stmt) × (o ≡ Some s) × (line ≡ line_of names labels s)
at_line names labels None line is = absurd (cc)
at_line names labels (Some s) line is = (s, refl, cc)

pub the_statement : (names : Naming) (labels : List ℕ) (ss : List Stmt) (i : ℕ) (line : Line) → slice_get (map (line_of names labels) ss) i ≡ Some line →
    IsTheStatement names labels ss i line
the_statement names labels ss i line is =
    let h : (s : Stmt) × (slice_get ss i ≡ Some s) × (line ≡ line_of names labels s) =
    at_line names labels (slice_get ss i) line (sym (slice_get-map (line_of names labels) ss i) ∙ is) in
    record { statement = h.0; there = h.1; is = h.2 }

-- the rows of each statement
pub each_statement : (u : WrittenUnit) (p : ProgramUnit) (from : ℕ) (ss : List Stmt) → statements_rows u p from ss ≡ [] → (i : ℕ) (s : Stmt) →
    slice_get ss i ≡ Some s → (broken (site_at u p (from + i)) s.body).rows ≡ []
unfolding statements_rows
each_statement u p from [] none i s is = absurd (cc)
each_statement u p from (t ∷ ss) none zero s is =
    let h = none_of_both (stood t (broken (site_at u p from) t.body).rows) (statements_rows u p (suc from) ss) none in
    let same : t ≡ s = cc in
    subst (λ n. (broken (site_at u p n) s.body).rows ≡ []) (let q : from ≡ from + 0 = omega arith in q)
    (subst (λ z. (broken (site_at u p from) z.body).rows ≡ []) same (none_stood t (broken (site_at u p from) t.body).rows h.0))
each_statement u p from (t ∷ ss) none (suc i) s is =
    let h = none_of_both (stood t (broken (site_at u p from) t.body).rows) (statements_rows u p (suc from) ss) none in
    subst (λ n. (broken (site_at u p n) s.body).rows ≡ []) (let q : suc from + i ≡ from + suc i = omega arith in q)
    (each_statement u p (suc from) ss h.1 i s is)

-- LABELS
pub found_label : (p : ProgramUnit) (label : ℕ) (test : Body → Bool) (ss : List Stmt) (o : Option ℕ) → place_of_label p label ≡ o → IsTrue (such_at test ss o) →
    HasStatement p label
unfolding such_at
found_label p label test ss None is such = absurd (cc)
found_label p label test ss (Some at) is such = record { at = at; there = is }

pub found_terminal : (p : ProgramUnit) (i n : ℕ) (label : Option ℕ) (o : Option ℕ) → terminal_of p i label ≡ o → IsTrue (is_behind i n o) → n ≡ length p.lines →
    HasTerminal p i label
unfolding is_behind
found_terminal p i n label None is behind same = absurd (cc)
found_terminal p i n label (Some at) is behind same = record {
  at = at;
  there = is;
  before_end = subst (λ m. suc at < m) same (ltb-true (suc at) n (both_true (nat_lt i at) (nat_lt (suc at) n) behind).1);
}

-- what is known where a statement stands is so
pub site_stands : (c : Facts) (count : ℕ) (u : WrittenUnit) (i : ℕ) → Agrees c count [] (known_in u) → c.program.formats ≡ formats_of u.statements →
    length u.statements ≡ length c.program.lines → IsSite c count i (site_at u c.program i)
unfolding site_at
site_stands c count u i agrees formats lines = record {
  names = agrees;
  branches = λ label may. found_label c.program label may_be_entered u.statements (place_of_label c.program label) refl may;
  formats = λ label given. subst (λ fs. IsTrue (formed.is_given (labelled_text fs label))) (sym formats) given;
  terminals = λ label may. found_terminal c.program i (length u.statements) label (terminal_of c.program i label) refl
      (both_true (is_behind i (length u.statements) (terminal_of c.program i label)) (may_end u.statements label (terminal_of c.program i label)) may).0 lines;
}

-- STATEMENTS
pub each_line_formed : (c : Facts) (count : ℕ) (u : WrittenUnit) (labels : List ℕ) → Agrees c count [] (known_in u) → c.program.formats ≡ formats_of u.statements →
    c.program.lines ≡ map (line_of (given_names u) labels) u.statements → statements_rows u c.program 0 u.statements ≡ [] →
    (i : ℕ) (line : Line) → slice_get c.program.lines i ≡ Some line → IsFormed c count i None line.form
unfolding site_at known_in line_of
each_line_formed c count u labels agrees formats lines none i line is =
    let t : IsTheStatement (given_names u) labels u.statements i line =
    the_statement (given_names u) labels u.statements i line (subst (λ ls. slice_get ls i ≡ Some line) lines is) in
    let site : IsSite c count i (site_at u c.program i) =
    site_stands c count u i agrees formats (sym (mapped_length (line_of (given_names u) labels) u.statements) ∙ ap length (sym lines)) in
    let stand : StandsThere c i (site_at u c.program i) t.statement.body =
    record { line = line; line_is = is; form_is = ap (λ l. l.form) t.is; mark_is = ap (λ l. l.mark) t.is } in
    subst (λ f. IsFormed c count i None f) (sym (ap (λ l. l.form) t.is))
    (statements_formed c count i (site_at u c.program i) t.statement.body site stand
    (subst (λ n. (broken (site_at u c.program n) t.statement.body).rows ≡ []) (let q : 0 + i ≡ i = omega arith in q)
    (each_statement u c.program 0 u.statements none i t.statement t.there)))

-- THE NEST
pub end_is : (names : Naming) (b : Body) → IsTrue (is_end b) → (mark_of b ≡ Plain) × (form_of names b ≡ On ToEnd NoMore)
unfolding is_end layer_of mark_of form_of fold_body layer_form
end_is names (whole.Header kind name dummies) is = absurd (cc)
end_is names (whole.Declare type items) is = absurd (cc)
end_is names (whole.Dimension items) is = absurd (cc)
end_is names (whole.Common groups) is = absurd (cc)
end_is names (whole.Equivalence groups) is = absurd (cc)
end_is names (whole.Implicit groups) is = absurd (cc)
end_is names whole.ImplicitNone is = absurd (cc)
end_is names (whole.Parameter items) is = absurd (cc)
end_is names (whole.External xs) is = absurd (cc)
end_is names (whole.Intrinsic xs) is = absurd (cc)
end_is names (whole.Save items) is = absurd (cc)
end_is names (whole.Init groups) is = absurd (cc)
end_is names (whole.Format text) is = absurd (cc)
end_is names (whole.Entry name dummies) is = absurd (cc)
end_is names (whole.Assign target e) is = absurd (cc)
end_is names (whole.AssignLabel label x) is = absurd (cc)
end_is names (whole.Goto label) is = absurd (cc)
end_is names (whole.GotoList labels e) is = absurd (cc)
end_is names (whole.GotoName x labels) is = absurd (cc)
end_is names (whole.IfSign e below even above) is = absurd (cc)
end_is names (IfOne' e s (more_of-Body b r)) is = absurd (cc)
end_is names (whole.IfThen e) is = absurd (cc)
end_is names (whole.ElseIf e) is = absurd (cc)
end_is names whole.Else is = absurd (cc)
end_is names whole.EndIf is = absurd (cc)
end_is names (whole.Do label control) is = absurd (cc)
end_is names (whole.DoWhile label e) is = absurd (cc)
end_is names whole.EndDo is = absurd (cc)
end_is names whole.Continue is = absurd (cc)
end_is names (whole.Call x es) is = absurd (cc)
end_is names (whole.Return e) is = absurd (cc)
end_is names (whole.Stop text) is = absurd (cc)
end_is names (whole.Transfer way controls items) is = absurd (cc)
end_is names (whole.Auxiliary which controls) is = absurd (cc)
end_is names (whole.Include name) is = absurd (cc)
end_is names whole.End is = (refl, refl)

pub none_open : (around : List Stmt) → left_open around ≡ [] → around ≡ []
unfolding left_open stood
none_open [] none = refl
none_open (o ∷ around) none = absurd (cc)

pub nest_by : (m : Mark) (around : List Stmt) (s : Stmt) (line : Line) (lines : List Line) → line.mark ≡ m → nest_row m around s ≡ [] →
    IsNest (length (around_behind m around s)) lines → IsNest (length around) (line ∷ lines)
unfolding nest_row around_behind stood
nest_by Plain around s line lines is none more = formed.plain (length around) line lines is more
nest_by Opens around s line lines is none more = formed.opens (length around) line lines is more
nest_by Arm [] s line lines is none more = absurd (cc)
nest_by Arm (o ∷ around) s line lines is none more = formed.arm (length around) line lines is more
nest_by Closes [] s line lines is none more = absurd (cc)
nest_by Closes (o ∷ around) s line lines is none more = formed.closes (length around) line lines is more

pub last_nest : (names : Naming) (labels : List ℕ) (around : List Stmt) (s : Stmt) → (m : Mark) → mark_of s.body ≡ m → m ≡ Plain →
    left_open (around_behind m around s) ≡ [] →
    form_of names s.body ≡ On ToEnd NoMore → IsNest (length around) (line_of names labels s ∷ [])
unfolding around_behind line_of
last_nest names labels around s Plain is plain none form =
    subst (λ a. IsNest (length a) (line_of names labels s ∷ [])) (sym (none_open around none)) (formed.the_end (line_of names labels s) is form)
last_nest names labels around s Opens is plain none form = absurd (cc)
last_nest names labels around s Arm is plain none form = absurd (cc)
last_nest names labels around s Closes is plain none form = absurd (cc)

pub nest_formed : (names : Naming) (labels : List ℕ) (around : List Stmt) (ss : List Stmt) → nest_rows around ss ≡ [] → IsTrue (ends_by_end ss) →
    IsNest (length around) (map (line_of names labels) ss)
unfolding nest_rows ends_by_end line_of
nest_formed names labels around [] none end = absurd (cc)
nest_formed names labels around (s ∷ []) none end =
    let h : (nest_row (mark_of s.body) around s ≡ []) × (left_open (around_behind (mark_of s.body) around s) ≡ []) =
    none_of_both (nest_row (mark_of s.body) around s) (left_open (around_behind (mark_of s.body) around s)) none in
    let e : (mark_of s.body ≡ Plain) × (form_of names s.body ≡ On ToEnd NoMore) = end_is names s.body end in
    last_nest names labels around s (mark_of s.body) refl e.0 h.1 e.1
nest_formed names labels around (s ∷ t ∷ ss) none end =
    let h : (nest_row (mark_of s.body) around s ≡ []) × (nest_rows (around_behind (mark_of s.body) around s) (t ∷ ss) ≡ []) =
    none_of_both (nest_row (mark_of s.body) around s) (nest_rows (around_behind (mark_of s.body) around s) (t ∷ ss)) none in
    nest_by (mark_of s.body) around s (line_of names labels s) (map (line_of names labels) (t ∷ ss)) refl h.0
    (nest_formed names labels (around_behind (mark_of s.body) around s) (t ∷ ss) h.1 end)

-- ENTRIES
pub one_start : (i : ℕ) (name : Bytes) (dummies : List DummyArgument) (e : EntryPoint) →
    IsIn e (record { name = name; formals = formals_of dummies; start = suc i } ∷ []) → e.start ≡ suc i
one_start i name dummies e first_in = refl
one_start i name dummies e (later_in is) = elim is [ ]

pub entry_starts : (i : ℕ) (b : Body) (e : EntryPoint) → IsIn e (entry_in i b) → e.start ≡ suc i
unfolding entry_in layer_of
entry_starts i (whole.Header kind name dummies) point is = elim is [ ]
entry_starts i (whole.Declare type items) point is = elim is [ ]
entry_starts i (whole.Dimension items) point is = elim is [ ]
entry_starts i (whole.Common groups) point is = elim is [ ]
entry_starts i (whole.Equivalence groups) point is = elim is [ ]
entry_starts i (whole.Implicit groups) point is = elim is [ ]
entry_starts i whole.ImplicitNone point is = elim is [ ]
entry_starts i (whole.Parameter items) point is = elim is [ ]
entry_starts i (whole.External xs) point is = elim is [ ]
entry_starts i (whole.Intrinsic xs) point is = elim is [ ]
entry_starts i (whole.Save items) point is = elim is [ ]
entry_starts i (whole.Init groups) point is = elim is [ ]
entry_starts i (whole.Format text) point is = elim is [ ]
entry_starts i (whole.Entry name dummies) e is = one_start i name dummies e is
entry_starts i (whole.Assign target e) point is = elim is [ ]
entry_starts i (whole.AssignLabel label x) point is = elim is [ ]
entry_starts i (whole.Goto label) point is = elim is [ ]
entry_starts i (whole.GotoList labels e) point is = elim is [ ]
entry_starts i (whole.GotoName x labels) point is = elim is [ ]
entry_starts i (whole.IfSign e below even above) point is = elim is [ ]
entry_starts i (IfOne' e s (more_of-Body b r)) point is = elim is [ ]
entry_starts i (whole.IfThen e) point is = elim is [ ]
entry_starts i (whole.ElseIf e) point is = elim is [ ]
entry_starts i whole.Else point is = elim is [ ]
entry_starts i whole.EndIf point is = elim is [ ]
entry_starts i (whole.Do label control) point is = elim is [ ]
entry_starts i (whole.DoWhile label e) point is = elim is [ ]
entry_starts i whole.EndDo point is = elim is [ ]
entry_starts i whole.Continue point is = elim is [ ]
entry_starts i (whole.Call x es) point is = elim is [ ]
entry_starts i (whole.Return e) point is = elim is [ ]
entry_starts i (whole.Stop text) point is = elim is [ ]
entry_starts i (whole.Transfer way controls items) point is = elim is [ ]
entry_starts i (whole.Auxiliary which controls) point is = elim is [ ]
entry_starts i (whole.Include name) point is = elim is [ ]
entry_starts i whole.End point is = elim is [ ]

pub end_no_entry : (i : ℕ) (b : Body) → IsTrue (is_end b) → entry_in i b ≡ []
unfolding entry_in layer_of is_end
end_no_entry i (whole.Header kind name dummies) is = absurd (cc)
end_no_entry i (whole.Declare type items) is = absurd (cc)
end_no_entry i (whole.Dimension items) is = absurd (cc)
end_no_entry i (whole.Common groups) is = absurd (cc)
end_no_entry i (whole.Equivalence groups) is = absurd (cc)
end_no_entry i (whole.Implicit groups) is = absurd (cc)
end_no_entry i whole.ImplicitNone is = absurd (cc)
end_no_entry i (whole.Parameter items) is = absurd (cc)
end_no_entry i (whole.External xs) is = absurd (cc)
end_no_entry i (whole.Intrinsic xs) is = absurd (cc)
end_no_entry i (whole.Save items) is = absurd (cc)
end_no_entry i (whole.Init groups) is = absurd (cc)
end_no_entry i (whole.Format text) is = absurd (cc)
end_no_entry i (whole.Entry name dummies) is = absurd (cc)
end_no_entry i (whole.Assign target e) is = absurd (cc)
end_no_entry i (whole.AssignLabel label x) is = absurd (cc)
end_no_entry i (whole.Goto label) is = absurd (cc)
end_no_entry i (whole.GotoList labels e) is = absurd (cc)
end_no_entry i (whole.GotoName x labels) is = absurd (cc)
end_no_entry i (whole.IfSign e below even above) is = absurd (cc)
end_no_entry i (IfOne' e s (more_of-Body b r)) is = absurd (cc)
end_no_entry i (whole.IfThen e) is = absurd (cc)
end_no_entry i (whole.ElseIf e) is = absurd (cc)
end_no_entry i whole.Else is = absurd (cc)
end_no_entry i whole.EndIf is = absurd (cc)
end_no_entry i (whole.Do label control) is = absurd (cc)
end_no_entry i (whole.DoWhile label e) is = absurd (cc)
end_no_entry i whole.EndDo is = absurd (cc)
end_no_entry i whole.Continue is = absurd (cc)
end_no_entry i (whole.Call x es) is = absurd (cc)
end_no_entry i (whole.Return e) is = absurd (cc)
end_no_entry i (whole.Stop text) is = absurd (cc)
end_no_entry i (whole.Transfer way controls items) is = absurd (cc)
end_no_entry i (whole.Auxiliary which controls) is = absurd (cc)
end_no_entry i (whole.Include name) is = absurd (cc)
end_no_entry i whole.End is = refl

pub in_either : {A : Type 0} (a : A) (xs ys : List A) (R : Type 0) → IsIn a (xs ++ ys) → (IsIn a xs → R) → (IsIn a ys → R) → R
in_either a [] ys R is one other = other is
in_either a (x ∷ xs) ys R first_in one other = one first_in
in_either a (x ∷ xs) ys R (later_in is) one other = in_either a xs ys R is (λ i. one (later_in i)) other

pub entries_within : (i : ℕ) (ss : List Stmt) (e : EntryPoint) → IsTrue (ends_by_end ss) → IsIn e (entries_from i ss) → e.start < i + length ss
unfolding entries_from ends_by_end
entries_within i [] e end is = absurd (cc)
entries_within i (s ∷ []) e end is =
    let none : entry_in i s.body ≡ [] = end_no_entry i s.body end in
    let bad : IsIn e ([] ++ []) = subst (λ es. IsIn e (es ++ [])) none is in
    elim bad [ ]
entries_within i (s ∷ t ∷ ss) e end is =
    in_either e (entry_in i s.body) (entries_from (suc i) (t ∷ ss)) (e.start < i + suc (suc (length ss))) is
    (λ first. let at : e.start ≡ suc i = entry_starts i s.body e first in
    subst (λ n. n < i + suc (suc (length ss))) (sym at) (let q : suc i < i + suc (suc (length ss)) = omega arith in q))
    (λ later. let less : e.start < suc i + suc (length ss) = entries_within (suc i) (t ∷ ss) e end later in
    subst (λ n. e.start < n) (let q : suc i + suc (length ss) ≡ i + suc (suc (length ss)) = omega arith in q) less)
