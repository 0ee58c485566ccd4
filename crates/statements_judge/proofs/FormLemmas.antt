-- The labels of FORMAT statements.
use Rattle.std.proofs.Common.{◌≡◌, ℕ, Bool, true, false, Option, Some, None, nat_eq, if◌then◌else◌, refl, sym, ap, ◌∙◌}
use Rattle.f_tree.specs.declared.statements.Body.{Body, Format, IfOne', more_of-Body}
use Rattle.f_tree.specs.declared.statements.Body.TheVariants as body
use Rattle.f_tree.specs.declared.statements.Stmt.{Stmt}
use Rattle.f_tree.specs.Folds.{folds_opened, layer_of}
use Rattle.f_tree.specs.Places.{has_label}
use Rattle.f_tree.specs.Transfers.{labelled_text}
use Rattle.f_tree.specs.Values.{Bytes, Gives, Fails, NoMeaning}
use Rattle.f_tree.specs.WellFormed.{is_given}
use Rattle.f_tree.specs.Lines.{format_in}
use Rattle.statements_judge.specs.UnitLabels.{is_format_label}

given_by : (b : Bool) (text : Bytes) → b ≡ is_given (if b then Gives text else Fails NoMeaning)
unfolding is_given
given_by true text = refl
given_by false text = refl

format_of : (label : Option ℕ) (text : Bytes) (l : ℕ) → has_label label l ≡ is_given (labelled_text (format_in label (body.Format text)) l)
unfolding has_label is_given labelled_text format_in folds_opened
format_of None text l = refl
format_of (Some k) text l = given_by (nat_eq k l) text

other_of : (label : Option ℕ) (b : Body) (l : ℕ) → ((text : Bytes) → b ≡ body.Format text → ⊥) → has_label None l ≡ is_given (labelled_text (format_in label b) l)
unfolding has_label is_given labelled_text format_in layer_of
other_of None b l other = refl
other_of (Some k) (Format text) l other = absurd (other text refl)
other_of (Some k) (IfOne' e s (more_of-Body b r)) l other = refl
other_of (Some k) _ l other = refl

pub format_statement : (s : Stmt) (text : Bytes) (l : ℕ) → s.body ≡ body.Format text → has_label s.label l ≡ is_format_label s l
unfolding is_format_label
format_statement s text l is = format_of s.label text l ∙ sym (ap (λ b. is_given (labelled_text (format_in s.label b) l)) is)

pub other_statement : (s : Stmt) (l : ℕ) → ((text : Bytes) → s.body ≡ body.Format text → ⊥) → has_label None l ≡ is_format_label s l
unfolding is_format_label
other_statement s l other = other_of s.label s.body l other
