-- What a list of control words writes, word by word.
use Rattle.std.specs.Prelude.{◌≡◌, ℕ, suc, ◌+◌, ◌<◌, ◌≤◌, List, [], ◌∷◌, ◌++◌, length, Option, Some, None, option_to_list}
use Rattle.std.specs.Option.{option_or}
use Rattle.std.proofs.Common.{refl, ap, sym, ◌∙◌, append_assoc, drop, get_or, drop-cons, add-one}
use Rattle.std.proofs.lemmas.List.{append-nil, drop_all}
use Rattle.f_tree.specs.declared.expressions.Expr.{Expr}
use Rattle.f_tree.specs.declared.statements.Control.{Control}
use Rattle.f_tree.specs.declared.statements.ControlValue.{ControlValue}
use Rattle.f_tree.specs.declared.statements.ControlValue.TheVariants as value
use Rattle.f_tree.specs.declared.statements.ControlWord.{ControlWord}
use Rattle.f_tree.specs.declared.statements.ControlWord.TheVariants as word
use Rattle.f_tree.specs.Facts as fact
use Rattle.f_tree.specs.Lines.{Naming, Written, value_of, place_of, with_operand, control_written, controls_written, nothing_written, controls_of, layout_written}
use Rattle.statement_lowering.specs.TransferForms as form

-- the operand
pub writes-operand : (way : fact.Direction) (names : Naming) (w : ControlWord) (v : ControlValue) (more : Written) →
    (control_written way names w v more).operands ≡ option_to_list (form.operand_of way names w v) ++ more.operands
unfolding control_written with_operand value_of place_of form.transfer_forms_opened
writes-operand way names word.Unit value.Star more = refl
writes-operand way names word.Unit (value.Label l) more = refl
writes-operand way names word.Unit (value.Value e) more = refl
writes-operand way names word.Format value.Star more = refl
writes-operand way names word.Format (value.Label l) more = refl
writes-operand way names word.Format (value.Value e) more = refl
writes-operand way names word.Status value.Star more = refl
writes-operand way names word.Status (value.Label l) more = refl
writes-operand way names word.Status (value.Value e) more = refl
writes-operand way names word.OnError value.Star more = refl
writes-operand way names word.OnError (value.Label l) more = refl
writes-operand way names word.OnError (value.Value e) more = refl
writes-operand way names word.OnEnd value.Star more = refl
writes-operand way names word.OnEnd (value.Label l) more = refl
writes-operand way names word.OnEnd (value.Value e) more = refl
writes-operand way names word.File value.Star more = refl
writes-operand way names word.File (value.Label l) more = refl
writes-operand way names word.File (value.Value e) more = refl
writes-operand way names word.FileStatus value.Star more = refl
writes-operand way names word.FileStatus (value.Label l) more = refl
writes-operand way names word.FileStatus (value.Value e) more = refl
writes-operand way names word.Access value.Star more = refl
writes-operand way names word.Access (value.Label l) more = refl
writes-operand way names word.Access (value.Value e) more = refl
writes-operand way names word.Form value.Star more = refl
writes-operand way names word.Form (value.Label l) more = refl
writes-operand way names word.Form (value.Value e) more = refl
writes-operand way names word.Blank value.Star more = refl
writes-operand way names word.Blank (value.Label l) more = refl
writes-operand way names word.Blank (value.Value e) more = refl

-- the word
pub writes-word : (way : fact.Direction) (names : Naming) (w : ControlWord) (v : ControlValue) (more : Written) →
    (control_written way names w v more).words ≡ option_to_list (form.word_of w v) ++ more.words
unfolding control_written with_operand form.transfer_forms_opened
writes-word way names word.Unit value.Star more = refl
writes-word way names word.Unit (value.Label l) more = refl
writes-word way names word.Unit (value.Value e) more = refl
writes-word way names word.Format value.Star more = refl
writes-word way names word.Format (value.Label l) more = refl
writes-word way names word.Format (value.Value e) more = refl
writes-word way names word.Status value.Star more = refl
writes-word way names word.Status (value.Label l) more = refl
writes-word way names word.Status (value.Value e) more = refl
writes-word way names word.OnError value.Star more = refl
writes-word way names word.OnError (value.Label l) more = refl
writes-word way names word.OnError (value.Value e) more = refl
writes-word way names word.OnEnd value.Star more = refl
writes-word way names word.OnEnd (value.Label l) more = refl
writes-word way names word.OnEnd (value.Value e) more = refl
writes-word way names word.File value.Star more = refl
writes-word way names word.File (value.Label l) more = refl
writes-word way names word.File (value.Value e) more = refl
writes-word way names word.FileStatus value.Star more = refl
writes-word way names word.FileStatus (value.Label l) more = refl
writes-word way names word.FileStatus (value.Value e) more = refl
writes-word way names word.Access value.Star more = refl
writes-word way names word.Access (value.Label l) more = refl
writes-word way names word.Access (value.Value e) more = refl
writes-word way names word.Form value.Star more = refl
writes-word way names word.Form (value.Label l) more = refl
writes-word way names word.Form (value.Value e) more = refl
writes-word way names word.Blank value.Star more = refl
writes-word way names word.Blank (value.Label l) more = refl
writes-word way names word.Blank (value.Value e) more = refl

-- the labels
pub writes-error : (way : fact.Direction) (names : Naming) (w : ControlWord) (v : ControlValue) (more : Written) →
    (control_written way names w v more).on_error ≡ option_or (form.error_of w v) more.on_error
unfolding control_written with_operand form.transfer_forms_opened
writes-error way names word.Unit value.Star more = refl
writes-error way names word.Unit (value.Label l) more = refl
writes-error way names word.Unit (value.Value e) more = refl
writes-error way names word.Format value.Star more = refl
writes-error way names word.Format (value.Label l) more = refl
writes-error way names word.Format (value.Value e) more = refl
writes-error way names word.Status value.Star more = refl
writes-error way names word.Status (value.Label l) more = refl
writes-error way names word.Status (value.Value e) more = refl
writes-error way names word.OnError value.Star more = refl
writes-error way names word.OnError (value.Label l) more = refl
writes-error way names word.OnError (value.Value e) more = refl
writes-error way names word.OnEnd value.Star more = refl
writes-error way names word.OnEnd (value.Label l) more = refl
writes-error way names word.OnEnd (value.Value e) more = refl
writes-error way names word.File value.Star more = refl
writes-error way names word.File (value.Label l) more = refl
writes-error way names word.File (value.Value e) more = refl
writes-error way names word.FileStatus value.Star more = refl
writes-error way names word.FileStatus (value.Label l) more = refl
writes-error way names word.FileStatus (value.Value e) more = refl
writes-error way names word.Access value.Star more = refl
writes-error way names word.Access (value.Label l) more = refl
writes-error way names word.Access (value.Value e) more = refl
writes-error way names word.Form value.Star more = refl
writes-error way names word.Form (value.Label l) more = refl
writes-error way names word.Form (value.Value e) more = refl
writes-error way names word.Blank value.Star more = refl
writes-error way names word.Blank (value.Label l) more = refl
writes-error way names word.Blank (value.Value e) more = refl

pub writes-end : (way : fact.Direction) (names : Naming) (w : ControlWord) (v : ControlValue) (more : Written) →
    (control_written way names w v more).on_end ≡ option_or (form.end_of w v) more.on_end
unfolding control_written with_operand form.transfer_forms_opened
writes-end way names word.Unit value.Star more = refl
writes-end way names word.Unit (value.Label l) more = refl
writes-end way names word.Unit (value.Value e) more = refl
writes-end way names word.Format value.Star more = refl
writes-end way names word.Format (value.Label l) more = refl
writes-end way names word.Format (value.Value e) more = refl
writes-end way names word.Status value.Star more = refl
writes-end way names word.Status (value.Label l) more = refl
writes-end way names word.Status (value.Value e) more = refl
writes-end way names word.OnError value.Star more = refl
writes-end way names word.OnError (value.Label l) more = refl
writes-end way names word.OnError (value.Value e) more = refl
writes-end way names word.OnEnd value.Star more = refl
writes-end way names word.OnEnd (value.Label l) more = refl
writes-end way names word.OnEnd (value.Value e) more = refl
writes-end way names word.File value.Star more = refl
writes-end way names word.File (value.Label l) more = refl
writes-end way names word.File (value.Value e) more = refl
writes-end way names word.FileStatus value.Star more = refl
writes-end way names word.FileStatus (value.Label l) more = refl
writes-end way names word.FileStatus (value.Value e) more = refl
writes-end way names word.Access value.Star more = refl
writes-end way names word.Access (value.Label l) more = refl
writes-end way names word.Access (value.Value e) more = refl
writes-end way names word.Form value.Star more = refl
writes-end way names word.Form (value.Label l) more = refl
writes-end way names word.Form (value.Value e) more = refl
writes-end way names word.Blank value.Star more = refl
writes-end way names word.Blank (value.Label l) more = refl
writes-end way names word.Blank (value.Value e) more = refl

-- how the records are laid out
pub writes-layout : (way : fact.Direction) (names : Naming) (w : ControlWord) (v : ControlValue) (more : Written) →
    (control_written way names w v more).layout ≡ option_or (form.layout_of w v) more.layout
unfolding control_written with_operand form.transfer_forms_opened
writes-layout way names word.Unit value.Star more = refl
writes-layout way names word.Unit (value.Label l) more = refl
writes-layout way names word.Unit (value.Value e) more = refl
writes-layout way names word.Format value.Star more = refl
writes-layout way names word.Format (value.Label l) more = refl
writes-layout way names word.Format (value.Value e) more = refl
writes-layout way names word.Status value.Star more = refl
writes-layout way names word.Status (value.Label l) more = refl
writes-layout way names word.Status (value.Value e) more = refl
writes-layout way names word.OnError value.Star more = refl
writes-layout way names word.OnError (value.Label l) more = refl
writes-layout way names word.OnError (value.Value e) more = refl
writes-layout way names word.OnEnd value.Star more = refl
writes-layout way names word.OnEnd (value.Label l) more = refl
writes-layout way names word.OnEnd (value.Value e) more = refl
writes-layout way names word.File value.Star more = refl
writes-layout way names word.File (value.Label l) more = refl
writes-layout way names word.File (value.Value e) more = refl
writes-layout way names word.FileStatus value.Star more = refl
writes-layout way names word.FileStatus (value.Label l) more = refl
writes-layout way names word.FileStatus (value.Value e) more = refl
writes-layout way names word.Access value.Star more = refl
writes-layout way names word.Access (value.Label l) more = refl
writes-layout way names word.Access (value.Value e) more = refl
writes-layout way names word.Form value.Star more = refl
writes-layout way names word.Form (value.Label l) more = refl
writes-layout way names word.Form (value.Value e) more = refl
writes-layout way names word.Blank value.Star more = refl
writes-layout way names word.Blank (value.Label l) more = refl
writes-layout way names word.Blank (value.Value e) more = refl

written-more : (way : fact.Direction) (names : Naming) (c : Control) (cs : List Control) →
    controls_written way names (c ∷ cs) ≡ control_written way names c.word c.value (controls_written way names cs)
unfolding controls_written
written-more way names c cs = refl

pub operands-more : (way : fact.Direction) (names : Naming) (c : Control) (cs : List Control) →
    (controls_written way names (c ∷ cs)).operands ≡ option_to_list (form.operand_of way names c.word c.value) ++ (controls_written way names cs).operands
operands-more way names c cs = ap (λ (w : Written). w.operands) (written-more way names c cs) ∙ writes-operand way names c.word c.value (controls_written way names cs)

pub words-more : (way : fact.Direction) (names : Naming) (c : Control) (cs : List Control) →
    (controls_written way names (c ∷ cs)).words ≡ option_to_list (form.word_of c.word c.value) ++ (controls_written way names cs).words
words-more way names c cs = ap (λ (w : Written). w.words) (written-more way names c cs) ∙ writes-word way names c.word c.value (controls_written way names cs)

pub error-more : (way : fact.Direction) (names : Naming) (c : Control) (cs : List Control) →
    (controls_written way names (c ∷ cs)).on_error ≡ option_or (form.error_of c.word c.value) (controls_written way names cs).on_error
error-more way names c cs = ap (λ (w : Written). w.on_error) (written-more way names c cs) ∙ writes-error way names c.word c.value (controls_written way names cs)

pub end-more : (way : fact.Direction) (names : Naming) (c : Control) (cs : List Control) →
    (controls_written way names (c ∷ cs)).on_end ≡ option_or (form.end_of c.word c.value) (controls_written way names cs).on_end
end-more way names c cs = ap (λ (w : Written). w.on_end) (written-more way names c cs) ∙ writes-end way names c.word c.value (controls_written way names cs)

pub layout-more : (way : fact.Direction) (names : Naming) (c : Control) (cs : List Control) →
    (controls_written way names (c ∷ cs)).layout ≡ option_or (form.layout_of c.word c.value) (controls_written way names cs).layout
layout-more way names c cs = ap (λ (w : Written). w.layout) (written-more way names c cs) ∙ writes-layout way names c.word c.value (controls_written way names cs)

-- A LIST OF CONTROL WORDS FROM ONE ON
pub split-at : (cs : List Control) (i : ℕ) (c : Control) → i < length cs → c ≡ get_or cs i c → drop i cs ≡ c ∷ drop (i + 1) cs
split-at cs i c h is = drop-cons cs i c h ∙ ap (λ y. y ∷ drop (suc i) cs) (sym is) ∙ ap (λ n. c ∷ drop n cs) (sym (add-one i))

-- what the first of them gives that gives anything
first-skip : {A : Type 0} (f : List Control → Option A) (o : Option A) (cs : List Control) (i : ℕ) (c : Control) → f (c ∷ drop (i + 1) cs) ≡ option_or o (f (drop (i + 1) cs)) →
    i < length cs → c ≡ get_or cs i c → o ≡ None → f (drop i cs) ≡ f (drop (i + 1) cs)
first-skip f o cs i c one h is none = ap f (split-at cs i c h is) ∙ one ∙ ap (λ o. option_or o (f (drop (i + 1) cs))) none

first-found : {A : Type 0} (f : List Control → Option A) (o : Option A) (cs : List Control) (i : ℕ) (c : Control) (a : A) → f (c ∷ drop (i + 1) cs) ≡ option_or o (f (drop (i + 1) cs)) →
    i < length cs → c ≡ get_or cs i c → o ≡ Some a → f (drop i cs) ≡ Some a
first-found f o cs i c a one h is found = ap f (split-at cs i c h is) ∙ one ∙ ap (λ o. option_or o (f (drop (i + 1) cs))) found

pub error-skip : (way : fact.Direction) (names : Naming) (cs : List Control) (i : ℕ) (c : Control) → i < length cs → c ≡ get_or cs i c → form.error_of c.word c.value ≡ None →
    (controls_written way names (drop i cs)).on_error ≡ (controls_written way names (drop (i + 1) cs)).on_error
error-skip way names cs i c h is none =
    first-skip (λ cs. (controls_written way names cs).on_error) (form.error_of c.word c.value) cs i c (error-more way names c (drop (i + 1) cs)) h is none

pub error-found : (way : fact.Direction) (names : Naming) (cs : List Control) (i : ℕ) (c : Control) (l : ℕ) → i < length cs → c ≡ get_or cs i c → form.error_of c.word c.value ≡ Some l →
    (controls_written way names (drop i cs)).on_error ≡ Some l
error-found way names cs i c l h is found =
    first-found (λ cs. (controls_written way names cs).on_error) (form.error_of c.word c.value) cs i c l (error-more way names c (drop (i + 1) cs)) h is found

pub error-ended : (way : fact.Direction) (names : Naming) (cs : List Control) (i : ℕ) → length cs ≤ i → (controls_written way names (drop i cs)).on_error ≡ None
unfolding controls_written nothing_written
error-ended way names cs i h = ap (λ cs. (controls_written way names cs).on_error) (drop_all i cs h)

pub end-skip : (way : fact.Direction) (names : Naming) (cs : List Control) (i : ℕ) (c : Control) → i < length cs → c ≡ get_or cs i c → form.end_of c.word c.value ≡ None →
    (controls_written way names (drop i cs)).on_end ≡ (controls_written way names (drop (i + 1) cs)).on_end
end-skip way names cs i c h is none =
    first-skip (λ cs. (controls_written way names cs).on_end) (form.end_of c.word c.value) cs i c (end-more way names c (drop (i + 1) cs)) h is none

pub end-found : (way : fact.Direction) (names : Naming) (cs : List Control) (i : ℕ) (c : Control) (l : ℕ) → i < length cs → c ≡ get_or cs i c → form.end_of c.word c.value ≡ Some l →
    (controls_written way names (drop i cs)).on_end ≡ Some l
end-found way names cs i c l h is found =
    first-found (λ cs. (controls_written way names cs).on_end) (form.end_of c.word c.value) cs i c l (end-more way names c (drop (i + 1) cs)) h is found

pub end-ended : (way : fact.Direction) (names : Naming) (cs : List Control) (i : ℕ) → length cs ≤ i → (controls_written way names (drop i cs)).on_end ≡ None
unfolding controls_written nothing_written
end-ended way names cs i h = ap (λ cs. (controls_written way names cs).on_end) (drop_all i cs h)

pub layout-skip : (way : fact.Direction) (names : Naming) (cs : List Control) (i : ℕ) (c : Control) → i < length cs → c ≡ get_or cs i c → form.layout_of c.word c.value ≡ None →
    (controls_written way names (drop i cs)).layout ≡ (controls_written way names (drop (i + 1) cs)).layout
layout-skip way names cs i c h is none =
    first-skip (λ cs. (controls_written way names cs).layout) (form.layout_of c.word c.value) cs i c (layout-more way names c (drop (i + 1) cs)) h is none

pub layout-found : (way : fact.Direction) (names : Naming) (cs : List Control) (i : ℕ) (c : Control) (l : fact.Layout) → i < length cs → c ≡ get_or cs i c →
    form.layout_of c.word c.value ≡ Some l → (controls_written way names (drop i cs)).layout ≡ Some l
layout-found way names cs i c l h is found =
    first-found (λ cs. (controls_written way names cs).layout) (form.layout_of c.word c.value) cs i c l (layout-more way names c (drop (i + 1) cs)) h is found

pub layout-ended : (way : fact.Direction) (names : Naming) (cs : List Control) (i : ℕ) → length cs ≤ i → (controls_written way names (drop i cs)).layout ≡ None
unfolding controls_written nothing_written
layout-ended way names cs i h = ap (λ cs. (controls_written way names cs).layout) (drop_all i cs h)

pub written-found : (o : Option fact.Layout) (l : fact.Layout) → o ≡ Some l → l ≡ layout_written o
unfolding layout_written
written-found o l is = sym (ap layout_written is)

pub written-none : (o : Option fact.Layout) → o ≡ None → fact.Unformatted ≡ layout_written o
unfolding layout_written
written-none o is = sym (ap layout_written is)

-- the words, one behind the other
pub words-walk : (way : fact.Direction) (names : Naming) (cs : List Control) (i : ℕ) (c : Control) (before after whole : List fact.Word) → i < length cs → c ≡ get_or cs i c →
    before ++ (controls_written way names (drop i cs)).words ≡ whole → after ≡ before ++ option_to_list (form.word_of c.word c.value) →
    after ++ (controls_written way names (drop (i + 1) cs)).words ≡ whole
words-walk way names cs i c before after whole h is so_far added =
    ap (λ ws. ws ++ (controls_written way names (drop (i + 1) cs)).words) added
    ∙ append_assoc before (option_to_list (form.word_of c.word c.value)) (controls_written way names (drop (i + 1) cs)).words
    ∙ ap (λ ws. before ++ ws) (sym (ap (λ cs. (controls_written way names cs).words) (split-at cs i c h is) ∙ words-more way names c (drop (i + 1) cs))) ∙ so_far

pub words-done : (way : fact.Direction) (names : Naming) (cs : List Control) (i : ℕ) (all whole : List fact.Word) → length cs ≤ i →
    all ++ (controls_written way names (drop i cs)).words ≡ whole → all ≡ whole
unfolding controls_written nothing_written
words-done way names cs i all whole h so_far = sym (append-nil all) ∙ ap (λ ws. all ++ ws) (sym (ap (λ cs. (controls_written way names cs).words) (drop_all i cs h))) ∙ so_far

-- the whole
pub written-whole : (way : fact.Direction) (names : Naming) (cs : List Control) (c : fact.Controls) → c.words ≡ (controls_written way names cs).words →
    c.on_error ≡ (controls_written way names cs).on_error → c.on_end ≡ (controls_written way names cs).on_end → c ≡ controls_of (controls_written way names cs)
unfolding controls_of
written-whole way names cs c words errors ends =
    ap (λ ws. record { words = ws; on_error = c.on_error; on_end = c.on_end }) words
    ∙ ap (λ e. record { words = (controls_written way names cs).words; on_error = e; on_end = c.on_end }) errors
    ∙ ap (λ e. record { words = (controls_written way names cs).words; on_error = (controls_written way names cs).on_error; on_end = e }) ends
