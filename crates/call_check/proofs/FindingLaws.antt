-- What is found of lists of calls, of statements, of units and of files.
use Rattle.std.specs.Prelude.{◌≡◌, Bool, true, false, List, [], ◌∷◌, ◌++◌, length, ◌==◌, if◌then◌else◌}
use Rattle.std.specs.List.{list_any}
use Rattle.std.proofs.Common.{refl, sym, ap, ◌∙◌, append_assoc}
use Rattle.std.proofs.lemmas.Bool.{eqb-true}
use Rattle.std.proofs.lemmas.List.{append-nil, nil_from_length}
use Rattle.f_tree.specs.declared.statements.Stmt.{Stmt}
use Rattle.f_tree.specs.declared.units.Unit.{Unit as WrittenUnit}
use Rattle.f_tree.specs.declared.units.File.{File}
use Rattle.call_shapes.specs.declaration_rows.GlobalRows.{all_units}
use Rattle.call_shapes.specs.declared.findings.Finding.{Finding}
use Rattle.call_shapes.specs.declared.shapes.NamedShape.{NamedShape}
use Rattle.call_shapes.specs.CallsMade.{calls_of_statement}
use Rattle.call_shapes.specs.Disagreements.{reason_of, found_at, call_findings, is_at, statement_findings, unit_findings, units_findings}

pub is_none : (b : Bool) (cs : List NamedShape) → b ≡ (length cs == 0) → b ≡ true → cs ≡ []
is_none b cs is so = nil_from_length cs (eqb-true (length cs) 0 (sym is ∙ so))

module _ (procedures lines : List NamedShape) where
  pub calls_step : (s : Stmt) (c : NamedShape) (cs : List NamedShape)
      → call_findings procedures lines s (c ∷ cs) ≡ found_at s c.name (reason_of procedures lines c) ++ call_findings procedures lines s cs
  unfolding call_findings
  calls_step s c cs = refl

  pub calls_end : (s : Stmt) → call_findings procedures lines s [] ≡ []
  unfolding call_findings
  calls_end s = refl

  -- a statement without calls, one that is included once more, and any other one
  same_if : (b : Bool) (fs : List Finding) → fs ≡ [] → [] ≡ (if b then [] else fs)
  same_if true fs none = refl
  same_if false fs none = sym none

  pub without_calls : (done : List Finding) (b : Bool) (s : Stmt) (cs : List NamedShape) → cs ≡ [] → done ≡ done ++ (if b then [] else call_findings procedures lines s cs)
  without_calls done b s cs none =
      sym (append-nil done) ∙ ap (λ (fs : List Finding). done ++ fs) (same_if b (call_findings procedures lines s cs) (ap (call_findings procedures lines s) none ∙ calls_end s))

  pub once_more : (done : List Finding) (b : Bool) (fs : List Finding) → b ≡ true → done ≡ done ++ (if b then [] else fs)
  once_more done b fs again = sym (append-nil done) ∙ ap (λ (c : Bool). done ++ (if c then [] else fs)) (sym again)

  pub the_first : (b : Bool) (fs : List Finding) → b ≡ false → fs ≡ (if b then [] else fs)
  the_first b fs first = ap (λ (c : Bool). if c then [] else fs) (sym first)

  pub whole_statement : (u : WrittenUnit) (before : List Stmt) (s : Stmt) (cs : List NamedShape) → cs ≡ calls_of_statement u s.body
      → (if list_any (is_at s) before then [] else call_findings procedures lines s cs) ≡ statement_findings procedures lines u before s
  unfolding statement_findings
  whole_statement u before s cs is = ap (λ (ds : List NamedShape). if list_any (is_at s) before then [] else call_findings procedures lines s ds) is

  pub statements_step : (u : WrittenUnit) (before : List Stmt) (s : Stmt) (ss : List Stmt)
      → unit_findings procedures lines u before (s ∷ ss) ≡ statement_findings procedures lines u before s ++ unit_findings procedures lines u (before ++ s ∷ []) ss
  unfolding unit_findings
  statements_step u before s ss = refl

  pub statements_end : (u : WrittenUnit) (before : List Stmt) → unit_findings procedures lines u before [] ≡ []
  unfolding unit_findings
  statements_end u before = refl

  pub units_step : (u : WrittenUnit) (us : List WrittenUnit)
      → units_findings procedures lines (u ∷ us) ≡ unit_findings procedures lines u [] u.statements ++ units_findings procedures lines us
  unfolding units_findings
  units_step u us = refl

  pub units_end : units_findings procedures lines [] ≡ []
  unfolding units_findings
  units_end = refl

  both_units : (us vs : List WrittenUnit) → units_findings procedures lines (us ++ vs) ≡ units_findings procedures lines us ++ units_findings procedures lines vs
  unfolding units_findings
  both_units [] vs = refl
  both_units (u ∷ us) vs =
      ap (λ (fs : List Finding). unit_findings procedures lines u [] u.statements ++ fs) (both_units us vs)
      ∙ sym (append_assoc (unit_findings procedures lines u [] u.statements) (units_findings procedures lines us) (units_findings procedures lines vs))

  pub files_step : (f : File) (fs : List File)
      → units_findings procedures lines (all_units (f ∷ fs)) ≡ units_findings procedures lines f.units ++ units_findings procedures lines (all_units fs)
  unfolding all_units
  files_step f fs = both_units f.units (all_units fs)

  pub files_end : units_findings procedures lines (all_units []) ≡ []
  unfolding all_units units_findings
  files_end = refl
