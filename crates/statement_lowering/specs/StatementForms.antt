-- What a statement does, given what the names of its unit are: a definition for each form. ANSI X3.9-1978, sections 10 to 12 and 15.8.
use Rattle.std.specs.Prelude.{ℕ, List, [], ◌∷◌, Option}
use Rattle.f_tree.specs.declared.expressions.Expr.{Expr}
use Rattle.f_tree.specs.declared.statements.Body.{Body}
use Rattle.f_tree.specs.declared.statements.LoopControl.{LoopControl}
use Rattle.f_tree.specs.Values.{Bytes}
use Rattle.f_tree.specs.Terms.{At, NoMore, More}
use Rattle.f_tree.specs.Facts.{ToSetLabel, ToGo, ToPick, ToGoAssigned, ToGoBySign, ToGuard, ToEnterArm, ToLoop, ToTestLoop, ToStop, ToEnd, Form, Passes, On}
use Rattle.f_tree.specs.Reading.{read}
use Rattle.f_tree.specs.Lines.{Naming, value_of, control_of, value_assignment, assign_form, return_form, form_of}
use Rattle.lowering.specs.Units.{listed}

-- what a statement does, given the names
abbrev pub Forms : Type 0
Forms = Naming → Form

-- a statement by its form, where the ASSIGN statements of its unit name these labels
unfoldable pub forms_of : List ℕ → Body → Forms
forms_of assigned b names = listed assigned (form_of names b)

-- the labels that are written, or without any those that ASSIGN statements name (11.3)
unfoldable pub written_or : List ℕ → List ℕ → List ℕ
written_or [] assigned = assigned
written_or (label ∷ labels) assigned = label ∷ labels

-- what takes no step
unfoldable pub passing : Forms
passing names = Passes

-- GO TO (11.1)
unfoldable pub going : ℕ → Forms
going label names = On (ToGo label) NoMore

-- the computed GO TO (11.2)
unfoldable pub picking : List ℕ → Expr → Forms
picking labels e names = On (ToPick labels) (More (value_of names e) NoMore)

-- the assigned GO TO (11.3)
unfoldable pub going_assigned : Bytes → List ℕ → Forms
going_assigned x labels names = On (ToGoAssigned labels) (More (At x) NoMore)

-- the arithmetic IF (11.4)
unfoldable pub going_by_sign : Expr → ℕ → ℕ → ℕ → Forms
going_by_sign e below at above names = On (ToGoBySign below at above) (More (value_of names e) NoMore)

-- the logical IF, given what its statement does (11.5)
unfoldable pub guarding : Expr → Forms → Forms
guarding e inner names = On (ToGuard (inner names)) (More (value_of names e) NoMore)

-- IF .. THEN and ELSE IF .. THEN (11.6, 11.7)
unfoldable pub entering : Expr → Forms
entering e names = On ToEnterArm (More (value_of names e) NoMore)

-- DO WHILE (MIL-STD-1753)
unfoldable pub testing : Option ℕ → Expr → Forms
testing label e names = On (ToTestLoop label) (More (value_of names e) NoMore)

-- DO (11.10)
unfoldable pub looping : Option ℕ → LoopControl → Forms
looping label control names = On (ToLoop label) (control_of names control)

-- an assignment, or the definition of a statement function (10.1, 10.2, 15.4)
unfoldable pub assigning : Expr → Expr → Forms
assigning target e names = assign_form names target e

-- an assignment of a number or a truth value
unfoldable pub setting : Expr → Expr → Forms
setting target e names = value_assignment (read names target) (read names e)

-- ASSIGN (10.3)
unfoldable pub assigning_label : ℕ → Bytes → Forms
assigning_label label x names = On (ToSetLabel label) (More (At x) NoMore)

-- RETURN (15.8)
unfoldable pub returning : Option Expr → Forms
returning e names = return_form names e

-- STOP (11.12)
unfoldable pub stopping : Bytes → Forms
stopping text names = On (ToStop text) NoMore

-- END (11.14)
unfoldable pub ending : Forms
ending names = On ToEnd NoMore

unfoldable pub statement_forms_opened : Unit {0}
unfolding forms_of written_or passing going picking going_assigned going_by_sign guarding entering testing looping assigning setting assigning_label returning stopping ending
statement_forms_opened = tt
