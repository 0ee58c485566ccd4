-- Program units whose lowering is computed.
use Rattle.std.specs.Prelude.{ℕ, pos, false, List, [], ◌∷◌, Option, Some, None, option_map}
use Rattle.fortran_laws.specs.f_tree.declared.names.Basic.TheVariants.{Integer}
use Rattle.fortran_laws.specs.f_tree.declared.names.Class.TheVariants as class
use Rattle.fortran_laws.specs.f_tree.Values.{Bytes, IsInt, IsLabel}
use Rattle.fortran_laws.specs.f_tree.Terms.{Add, IsLess, IsLessOrEqual, Both, AsSubroutine, AsFunction, Term, Val, Fetch, At, Alone, Between, Refer, NoMore, More, terms_opened}
use Rattle.fortran_laws.specs.f_tree.Facts.{Input, Output, Listed, UnitWord, Controls, Item, Done, Before, MainProgram, ToSet, ToSetLabel, ToGo, ToGoAssigned, ToGuard, ToEnterArm, ToLoop, ToTestLoop, ToCall, ToBegin, ToEnd, Form, Passes, On, Mark, Plain, Opens, Arm, Closes, NoLoop, Line, Attribute, Facts}
use Rattle.fortran_laws.specs.f_tree.Places.{place_of_label, places_opened}
use Rattle.fortran_laws.specs.f_tree.Nests.{nests_opened}
use Rattle.lowering.specs.l_core.Pures.{Pure, Constant, Temporary, Load, Name, FirstOf, Operated, NoPure, AndPure}
use Rattle.lowering.specs.l_core.Steps.{Starts, Takes, Finishes, Text, Step, Keep, Put, PutLabel, Unless, Skip, Again, Jump, JumpBy, Pass, CallFor, Branch, Way, Back, Acts}
use Rattle.lowering.specs.Expressions.{expressions_opened}
use Rattle.lowering.specs.Statements.{statements_opened}
use Rattle.lowering.specs.Units.{start_of, lines_marks, lowered_unit, units_opened}

abbrev pub letter : ℕ → Bytes
letter c = c ∷ []

abbrev pub variable : ℕ → Term
variable c = Fetch (At (letter c))

-- the value of the function F of a variable
abbrev pub f_of : ℕ → Term
f_of c = Refer (record { name = letter 70; want = AsFunction Integer 4 }) (More (At (letter c)) NoMore)

abbrev pub an_integer : Attribute
an_integer = record { basic = Integer; class = class.Stored; width = Some 4; dimensions = []; bounds = []; constant = None; expansion = None }

abbrev pub line : Option ℕ → Mark → Form → Line
line label mark form = record { label = label; mark = mark; loop = NoLoop; card = 1; form = form }

abbrev pub unit_of : List Line → Facts
unit_of lines = record {
  program = record {
    kind = MainProgram;
    entries = record { name = []; formals = []; start = 0 } ∷ [];
    lines = lines;
    attribute = λ x. an_integer;
    formats = [];
    blocks = [];
    ties = [];
    images = [];
    references = [];
    stored = [];
    onetrip = false;
  };
  home = λ x. None;
}

abbrev pub lowered_steps : List Line → Option (List Step)
lowered_steps lines = option_map (λ u. u.steps) (lowered_unit (unit_of lines))

-- DO 10 I = 1, N, and 10 S = S + F(I)
abbrev pub a_loop : List Line
a_loop =
    line None Plain (On (ToLoop (Some 10)) (More (At (letter 73)) (More (Val (IsInt (pos 1))) (More (variable 78) (More (Val (IsInt (pos 1))) NoMore)))))
    ∷ line (Some 10) Plain (On ToSet (More (Between Add (variable 83) (f_of 73)) (More (At (letter 83)) NoMore)))
    ∷ line None Plain (On ToEnd NoMore)
    ∷ []

abbrev pub name : ℕ → Pure
name c = Name (letter c)

abbrev pub loop_steps : List Step
loop_steps =
    Keep 0 (Load (name 78))
    ∷ Put (name 73) (Constant (IsInt (pos 1)))
    ∷ Unless (Operated IsLessOrEqual (Load (name 73)) (Temporary 0)) 5
    ∷ Keep 1 (Load (name 83))
    ∷ CallFor 2 (record { name = letter 70; want = AsFunction Integer 4 }) (AndPure (name 73) NoPure)
    ∷ Put (name 83) (Operated Add (Temporary 1) (Temporary 2))
    ∷ Put (name 73) (Operated Add (Load (name 73)) (Constant (IsInt (pos 1))))
    ∷ Again 5
    ∷ Back
    ∷ []

abbrev pub loop_text : Text
loop_text = record {
  facts = unit_of a_loop;
  steps = loop_steps;
  begins = start_of (unit_of a_loop).program;
  position = λ label. option_map (start_of (unit_of a_loop).program) (place_of_label (unit_of a_loop).program label);
  marks = lines_marks (unit_of a_loop).program 0 a_loop;
}

-- S = S + F(I); IF (A .LT. B) S = A
abbrev pub a_sum : List Line
a_sum =
    line None Plain (On ToSet (More (Between Add (variable 83) (f_of 73)) (More (At (letter 83)) NoMore)))
    ∷ line None Plain (On (ToGuard (On ToSet (More (variable 65) (More (At (letter 83)) NoMore)))) (More (Between IsLess (variable 65) (variable 66)) NoMore))
    ∷ line None Plain (On ToEnd NoMore)
    ∷ []

abbrev pub sum_text : Text
sum_text = record {
  facts = unit_of a_sum;
  steps =
      Keep 0 (Load (name 83))
      ∷ CallFor 1 (record { name = letter 70; want = AsFunction Integer 4 }) (AndPure (name 73) NoPure)
      ∷ Put (name 83) (Operated Add (Temporary 0) (Temporary 1))
      ∷ Unless (Operated IsLess (Load (name 65)) (Load (name 66))) 1
      ∷ Put (name 83) (Load (name 65))
      ∷ Back
      ∷ [];
  begins = start_of (unit_of a_sum).program;
  position = λ label. option_map (start_of (unit_of a_sum).program) (place_of_label (unit_of a_sum).program label);
  marks = lines_marks (unit_of a_sum).program 0 a_sum;
}

-- IF (A .LT. B) THEN; A = B; ELSE IF (L .AND. F(A)) THEN; GO TO 20; ELSE; B = A; END IF; and 20 CONTINUE
abbrev pub a_block : List Line
a_block =
    line None Opens (On ToEnterArm (More (Between IsLess (variable 65) (variable 66)) NoMore))
    ∷ line None Plain (On ToSet (More (variable 66) (More (At (letter 65)) NoMore)))
    ∷ line None Arm (On ToEnterArm (More (Between Both (variable 76) (f_of 65)) NoMore))
    ∷ line None Plain (On (ToGo 20) NoMore)
    ∷ line None Arm Passes
    ∷ line None Plain (On ToSet (More (variable 65) (More (At (letter 66)) NoMore)))
    ∷ line None Closes Passes
    ∷ line (Some 20) Plain Passes
    ∷ line None Plain (On ToEnd NoMore)
    ∷ []

abbrev pub block_steps : List Step
block_steps =
    Unless (Operated IsLess (Load (name 65)) (Load (name 66))) 2
    ∷ Put (name 65) (Load (name 66))
    ∷ Skip 8
    ∷ Keep 0 (Load (name 76))
    ∷ Unless (Temporary 0) 2
    ∷ CallFor 0 (record { name = letter 70; want = AsFunction Integer 4 }) (AndPure (name 65) NoPure)
    ∷ Keep 0 (Temporary 0)
    ∷ Unless (Temporary 0) 2
    ∷ Jump 20
    ∷ Skip 1
    ∷ Put (name 66) (Load (name 65))
    ∷ Pass
    ∷ Back
    ∷ []

-- two loops that share their end, with a branch out of both: DO 10 WHILE (A .LT. B); DO 10 WHILE (A .LT. F(A)); IF (L) GO TO 20; and
-- 10 A = A + B; 20 CONTINUE
abbrev pub a_search : List Line
a_search =
    line None Plain (On (ToTestLoop (Some 10)) (More (Between IsLess (variable 65) (variable 66)) NoMore))
    ∷ line None Plain (On (ToTestLoop (Some 10)) (More (Between IsLess (variable 65) (f_of 65)) NoMore))
    ∷ line None Plain (On (ToGuard (On (ToGo 20) NoMore)) (More (variable 76) NoMore))
    ∷ line (Some 10) Plain (On ToSet (More (Between Add (variable 65) (variable 66)) (More (At (letter 65)) NoMore)))
    ∷ line (Some 20) Plain Passes
    ∷ line None Plain (On ToEnd NoMore)
    ∷ []

abbrev pub search_steps : List Step
search_steps =
    Unless (Operated IsLess (Load (name 65)) (Load (name 66))) 8
    ∷ Keep 0 (Load (name 65))
    ∷ CallFor 1 (record { name = letter 70; want = AsFunction Integer 4 }) (AndPure (name 65) NoPure)
    ∷ Unless (Operated IsLess (Temporary 0) (Temporary 1)) 4
    ∷ Unless (Load (name 76)) 1
    ∷ Jump 20
    ∷ Put (name 65) (Operated Add (Load (name 65)) (Load (name 66)))
    ∷ Again 6
    ∷ Again 8
    ∷ Pass
    ∷ Back
    ∷ []

abbrev pub search_text : Text
search_text = record {
  facts = unit_of a_search;
  steps = search_steps;
  begins = start_of (unit_of a_search).program;
  position = λ label. option_map (start_of (unit_of a_search).program) (place_of_label (unit_of a_search).program label);
  marks = lines_marks (unit_of a_search).program 0 a_search;
}

-- READ (5, *, END = 20) S; PRINT *, S, S + F(I); and 20 CONTINUE
abbrev pub reading : Controls
reading = record { words = UnitWord ∷ []; on_error = None; on_end = Some 20 }

abbrev pub printing : Controls
printing = record { words = UnitWord ∷ []; on_error = None; on_end = None }

abbrev pub a_list : List Line
a_list =
    line None Plain (On (ToBegin Input Listed reading (Before (Item (Alone (At (letter 83)))) Done)) (More (Val (IsInt (pos 5))) NoMore))
    ∷ line None Plain (On (ToBegin Output Listed printing (Before (Item (variable 83)) (Before (Item (Between Add (variable 83) (f_of 73))) Done))) (More (Val (IsInt (pos 6))) NoMore))
    ∷ line (Some 20) Plain Passes
    ∷ line None Plain (On ToEnd NoMore)
    ∷ []

-- a variable is handed on where it stands, the value of the sum in a temporary
abbrev pub list_steps : List Step
list_steps =
    Acts (Starts Input Listed reading) (AndPure (Constant (IsInt (pos 5))) NoPure) 2
    ∷ Acts Takes (AndPure (FirstOf (name 83)) NoPure) 1
    ∷ Acts Finishes NoPure 0
    ∷ Acts (Starts Output Listed printing) (AndPure (Constant (IsInt (pos 6))) NoPure) 6
    ∷ Acts Takes (AndPure (Load (name 83)) NoPure) 5
    ∷ Keep 0 (Load (name 83))
    ∷ CallFor 1 (record { name = letter 70; want = AsFunction Integer 4 }) (AndPure (name 73) NoPure)
    ∷ Keep 0 (Operated Add (Temporary 0) (Temporary 1))
    ∷ Acts Takes (AndPure (Temporary 0) NoPure) 1
    ∷ Acts Finishes NoPure 0
    ∷ Pass
    ∷ Back
    ∷ []

abbrev pub list_text : Text
list_text = record {
  facts = unit_of a_list;
  steps = list_steps;
  begins = start_of (unit_of a_list).program;
  position = λ label. option_map (start_of (unit_of a_list).program) (place_of_label (unit_of a_list).program label);
  marks = lines_marks (unit_of a_list).program 0 a_list;
}

-- CALL S (A, *20, *30); 20 A = B; and 30 CONTINUE
abbrev pub a_choice : List Line
a_choice =
    line None Plain (On (ToCall (letter 83)) (More (At (letter 65)) (More (Val (IsLabel 20)) (More (Val (IsLabel 30)) NoMore))))
    ∷ line (Some 20) Plain (On ToSet (More (variable 66) (More (At (letter 65)) NoMore)))
    ∷ line (Some 30) Plain Passes
    ∷ line None Plain (On ToEnd NoMore)
    ∷ []

abbrev pub choice_text : Text
choice_text = record {
  facts = unit_of a_choice;
  steps =
      CallFor 0 (record { name = letter 83; want = AsSubroutine }) (AndPure (name 65) (AndPure (Constant (IsLabel 20)) (AndPure (Constant (IsLabel 30)) NoPure)))
      ∷ Branch 0 2
      ∷ Way 20
      ∷ Way 30
      ∷ Put (name 65) (Load (name 66))
      ∷ Pass
      ∷ Back
      ∷ [];
  begins = start_of (unit_of a_choice).program;
  position = λ label. option_map (start_of (unit_of a_choice).program) (place_of_label (unit_of a_choice).program label);
  marks = lines_marks (unit_of a_choice).program 0 a_choice;
}

-- ASSIGN 10 TO I; IF (L) ASSIGN 20 TO I; GO TO I; 10 A = B; and 20 CONTINUE
abbrev pub a_detour : List Line
a_detour =
    line None Plain (On (ToSetLabel 10) (More (At (letter 73)) NoMore))
    ∷ line None Plain (On (ToGuard (On (ToSetLabel 20) (More (At (letter 73)) NoMore))) (More (variable 76) NoMore))
    ∷ line None Plain (On (ToGoAssigned []) (More (At (letter 73)) NoMore))
    ∷ line (Some 10) Plain (On ToSet (More (variable 66) (More (At (letter 65)) NoMore)))
    ∷ line (Some 20) Plain Passes
    ∷ line None Plain (On ToEnd NoMore)
    ∷ []

abbrev pub detour_text : Text
detour_text = record {
  facts = unit_of a_detour;
  steps =
      PutLabel (name 73) 10
      ∷ Unless (Load (name 76)) 1
      ∷ PutLabel (name 73) 20
      ∷ JumpBy (name 73) (10 ∷ 20 ∷ [])
      ∷ Jump 10
      ∷ Jump 20
      ∷ Put (name 65) (Load (name 66))
      ∷ Pass
      ∷ Back
      ∷ [];
  begins = start_of (unit_of a_detour).program;
  position = λ label. option_map (start_of (unit_of a_detour).program) (place_of_label (unit_of a_detour).program label);
  marks = lines_marks (unit_of a_detour).program 0 a_detour;
}

unfoldable pub example_opened : Unit {0}
unfolding terms_opened places_opened nests_opened expressions_opened statements_opened units_opened
example_opened = tt
