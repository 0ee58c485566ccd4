-- Whether an expression begins with a word.
use Rattle.std.proofs.Common.{◌≡◌, refl, sym, ap, ◌∙◌, ℕ, Bool, true, false, not, ◌||◌, List, Option, Some, None, is_some, if◌then◌else◌}
use Rattle.c_tree.specs.CExpressionText.{Scope}
use Rattle.c_readers.specs.Readers.{lookup}
use Rattle.c_readers.specs.ExpressionReader.{WordLead, Named, leading_words, is_known, or_name, word_lead}
use Rattle.c_statement_readers.specs.StatementReader.{is_no_lead}

known-by : (known : Bool) → not (is_no_lead (if known then Some Named else None)) ≡ known
known-by true = refl
known-by false = refl

lead-by : (scope : Scope) (text : List ℕ) (lead : Option WordLead) → not (is_no_lead (or_name scope text lead)) ≡ (is_some lead || is_known scope text)
lead-by scope text (Some lead) = refl
lead-by scope text None = known-by (is_known scope text)

pub begins-by : (scope : Scope) (text : List ℕ) → not (is_no_lead (word_lead scope text)) ≡ (is_some (lookup text leading_words) || is_known scope text)
unfolding word_lead
begins-by scope text = lead-by scope text (lookup text leading_words)

pub ruleset word_steps = begins-by
