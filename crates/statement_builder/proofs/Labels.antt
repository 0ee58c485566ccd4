-- Statements and parts with their labels.
use Rattle.std.specs.Prelude.{◌≡◌, ℕ, List, Option, Some, None}
use Rattle.std.proofs.Common.{sym, ap, ◌∙◌}
use Rattle.c_tree.specs.declared.statement.CStmt.{CStmt}
use Rattle.c_tree.specs.declared.statement.CStmt.TheVariants as stmt
use Rattle.c_structure.specs.Statements.{with_label}
use Rattle.named_items.specs.declared.part.Part.{Part}
use Rattle.named_items.specs.Structured.{part, marked}

pub label_some : (found : Option (List ℕ)) (name : List ℕ) (s r : CStmt) → found ≡ Some name → r ≡ stmt.Label name s → r ≡ with_label found s
unfolding with_label
label_some found name s r is made = made ∙ sym (ap (λ f. with_label f s) is)

pub label_none : (found : Option (List ℕ)) (s : CStmt) → found ≡ None → s ≡ with_label found s
unfolding with_label
label_none found s is = sym (ap (λ f. with_label f s) is)

pub marked_some : (label : Option (List ℕ)) (found : Option Part) (q : Part) (s r : CStmt) (m : ℕ) → found ≡ Some q → s ≡ q.statement → r ≡ with_label label s → m ≡ q.taken → Some (part r m) ≡ marked label found
unfolding marked
marked_some label found q s r m is one made same = (λ i. Some (part ((made ∙ ap (with_label label) one) i) (same i))) ∙ sym (ap (marked label) is)

pub marked_none : (label : Option (List ℕ)) (found : Option Part) → found ≡ None → None ≡ marked label found
unfolding marked
marked_none label found is = sym (ap (marked label) is)
