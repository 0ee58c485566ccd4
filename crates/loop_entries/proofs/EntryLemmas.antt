-- Where ENTRY statements stand, and loops that fit.
use Rattle.std.proofs.Common.{◌≡◌, ℕ, suc, Bool, true, false, not, ◌&&◌, cond, List, [], ◌∷◌, filter, nat_le, refl, sym, ap, ◌∙◌, arith}
use Rattle.std.specs.List.{list_all}
use Rattle.std.proofs.lemmas.Bool.{le-ltb}
use Rattle.std.proofs.lemmas.List.Folds.{list_all-append}
use Rattle.f_tree.specs.Values.{Bytes}
use Rattle.f_tree.specs.declared.names.Options.{Options}
use Rattle.f_tree.specs.declared.statements.Body as whole
use Rattle.f_tree.specs.declared.statements.Body.{Body, IfOne', more_of-Body}
use Rattle.f_tree.specs.declared.statements.DummyArgument.{DummyArgument}
use Rattle.f_tree.specs.declared.statements.Stmt.{Stmt}
use Rattle.f_tree.specs.declared.units.Unit.{Unit as WrittenUnit}
use Rattle.f_tree.specs.Folds.{layer_of}
use Rattle.f_tree.specs.Facts.{Formal, ProgramUnit}
use Rattle.f_tree.specs.Lines.{formals_of, entry_in, entries_from, program_of, with_ties, unit_read}
use Rattle.f_tree.specs.Reading.{name_or_none}
use Rattle.f_tree.specs.Nests.{Range, is_within, ranges_of, open_at}
use Rattle.lowering_laws.specs.Layout.{enters_outside}
use Rattle.loop_entries.specs.declared.ranges.LoopRange.{LoopRange}
use Rattle.loop_entries.specs.LoopRanges.{range_of, AreRanges}
use Rattle.loop_entries.specs.Branches.{is_entry}
use Rattle.loop_entries.specs.Walks.{all_from}

pub entry-Entry : (b : Body) (x : Bytes) (dummies : List DummyArgument) → b ≡ whole.Entry x dummies → true ≡ is_entry b
unfolding is_entry layer_of
entry-Entry b x dummies is = ap is_entry (sym is)

pub entry-other : (b : Body) → ((x : Bytes) (dummies : List DummyArgument) → b ≡ whole.Entry x dummies → ⊥) → false ≡ is_entry b
unfolding is_entry layer_of
entry-other (whole.Entry x dummies) other = absurd (other x dummies refl)
entry-other (IfOne' e s (more_of-Body b r)) other = refl
entry-other _ other = refl

pub ruleset entry_forms = (entry-Entry, entry-other)

-- ONE ENTRY
none_open_by : (b c : Bool) (r : Range) (rs : List Range) → c ≡ (elim rs [ [] ↦ true | q ∷ qs ↦ false ]) → (not b && c) ≡ (elim (cond b (r ∷ rs) rs) [ [] ↦ true | q ∷ qs ↦ false ])
none_open_by true c r rs is = refl
none_open_by false c r rs is = is

none_open : (test : Range → Bool) (rs : List Range) → list_all (λ r. not (test r)) rs ≡ (elim (filter test rs) [ [] ↦ true | q ∷ qs ↦ false ])
none_open test [] = refl
none_open test (r ∷ rs) = none_open_by (test r) (list_all (λ q. not (test q)) rs) r (filter test rs) (none_open test rs)

outside_is : (p : ProgramUnit) (rs : List LoopRange) (name : Bytes) (formals : List Formal) (i : ℕ) → AreRanges p rs
    → list_all (λ (r : LoopRange). not (is_within i (range_of r))) rs ≡ enters_outside p (record { name = name; formals = formals; start = i })
unfolding enters_outside open_at
outside_is p rs name formals i are = sym (are.all (λ r. not (is_within i r))) ∙ none_open (is_within i) (ranges_of p)

and_true : (b : Bool) → b ≡ (b && true)
and_true true = refl
and_true false = refl

pub entry_none : (p : ProgramUnit) (i : ℕ) (b : Body) (is_one : Bool) → is_one ≡ is_entry b → is_one ≡ false → not is_one ≡ list_all (enters_outside p) (entry_in i b)
unfolding is_entry entry_in layer_of
entry_none p i (whole.Entry x dummies) is_one one none = absurd (let no : true ≡ false = sym one ∙ none in cc)
entry_none p i (IfOne' e s (more_of-Body b r)) is_one one none = ap not one
entry_none p i _ is_one one none = ap not one

entry_at : (p : ProgramUnit) (rs : List LoopRange) (i : ℕ) (b : Body) (is_one outside : Bool) → AreRanges p rs → is_one ≡ is_entry b → is_one ≡ true
    → outside ≡ list_all (λ (r : LoopRange). not (is_within (suc i) (range_of r))) rs → outside ≡ list_all (enters_outside p) (entry_in i b)
unfolding is_entry entry_in layer_of
entry_at p rs i (whole.Entry x dummies) is_one outside are one some is =
    is ∙ outside_is p rs x (formals_of dummies) (suc i) are ∙ and_true (enters_outside p (record { name = x; formals = formals_of dummies; start = suc i }))
entry_at p rs i (IfOne' e s (more_of-Body b r)) is_one outside are one some is = absurd (let no : false ≡ true = sym one ∙ some in cc)
entry_at p rs i _ is_one outside are one some is = absurd (let no : false ≡ true = sym one ∙ some in cc)

pub entry_some : (p : ProgramUnit) (rs : List LoopRange) (i start : ℕ) (b : Body) (is_one outside : Bool) → AreRanges p rs → start ≡ suc i → is_one ≡ is_entry b → is_one ≡ true
    → outside ≡ list_all (λ (r : LoopRange). not (is_within start (range_of r))) rs → outside ≡ list_all (enters_outside p) (entry_in i b)
entry_some p rs i start b is_one outside are begins one some is =
    entry_at p rs i b is_one outside are one some (is ∙ ap (λ n. list_all (λ (r : LoopRange). not (is_within n (range_of r))) rs) begins)

entries_from_is : (p : ProgramUnit) (i : ℕ) (ss : List Stmt) → list_all (enters_outside p) (entries_from i ss) ≡ all_from (λ (k : ℕ) (s : Stmt). list_all (enters_outside p) (entry_in k s.body)) i ss
unfolding entries_from all_from
entries_from_is p i [] = refl
entries_from_is p i (s ∷ ss) =
    list_all-append (enters_outside p) (entry_in i s.body) (entries_from (suc i) ss) ∙ ap (λ b. list_all (enters_outside p) (entry_in i s.body) && b) (entries_from_is p (suc i) ss)

pub entries_are : (p : ProgramUnit) (ss : List Stmt) → list_all (enters_outside p) (entries_from 0 ss) ≡ all_from (λ (k : ℕ) (s : Stmt). list_all (enters_outside p) (entry_in k s.body)) 0 ss
entries_are p ss = entries_from_is p 0 ss

-- THE ENTRY OF THE UNIT ITSELF, at its first statement, is in no range
not_yet : (r : Range) → not (is_within 0 r) ≡ true
unfolding is_within
not_yet r = ap (λ b. not (b && nat_le 0 r.last)) (le-ltb r.first 0 (omega arith))

none_yet : (rs : List Range) → list_all (λ r. not (is_within 0 r)) rs ≡ true
none_yet [] = refl
none_yet (r ∷ rs) = ap (λ b. b && list_all (λ q. not (is_within 0 q)) rs) (not_yet r) ∙ none_yet rs

first_outside : (p : ProgramUnit) (name : Bytes) (formals : List Formal) → enters_outside p (record { name = name; formals = formals; start = 0 }) ≡ true
unfolding enters_outside open_at
first_outside p name formals = sym (none_open (is_within 0) (ranges_of p)) ∙ none_yet (ranges_of p)

entries_read : (options : Options) (u : WrittenUnit) → (unit_read options u).entries ≡ record { name = name_or_none u.name; formals = formals_of u.dummies; start = 0 } ∷ entries_from 0 u.statements
unfolding unit_read with_ties program_of
entries_read options u = refl

pub unit_entries : (options : Options) (u : WrittenUnit) → list_all (enters_outside (unit_read options u)) (unit_read options u).entries ≡ list_all (enters_outside (unit_read options u)) (entries_from 0 u.statements)
unit_entries options u =
    ap (list_all (enters_outside (unit_read options u))) (entries_read options u)
    ∙ ap (λ b. b && list_all (enters_outside (unit_read options u)) (entries_from 0 u.statements)) (first_outside (unit_read options u) (name_or_none u.name) (formals_of u.dummies))
