-- Statements that open and close blocks.
use Rattle.std.specs.Prelude.{◌≡◌, ◌<◌, ◌≤◌, ◌+◌, ◌^◌, ℕ, nat_lt, Bool, true, false, not, cond, List, [], ◌∷◌, ◌++◌, length, drop, filter, Option, Some, None, if◌then◌else◌}
use Rattle.std.proofs.Common.{refl, sym, ap, ◌∙◌, subst, arith, append_assoc, get_or, length-append}
use Rattle.std.proofs.lemmas.List.{append-nil, drop_more}
use Rattle.f_tree.specs.declared.statements.Body as whole
use Rattle.f_tree.specs.declared.statements.Body.{Body, IfOne', more_of-Body}
use Rattle.f_tree.specs.declared.expressions.Expr.{Expr}
use Rattle.f_tree.specs.declared.refusals.Refusal.{Refusal}
use Rattle.f_tree.specs.declared.statements.LoopControl.{LoopControl}
use Rattle.f_tree.specs.declared.statements.Stmt.{Stmt}
use Rattle.f_tree.specs.declared.units.Unit.{Unit as ProgramUnit}
use Rattle.f_tree.specs.Folds.{layer_of}
use Rattle.fortran_grammar.specs.SyntaxRows.{Block, IfBlock, LoopTo, is_loop_to, without_if, without_loop, closed_by_body, closed_by_label, ends_labelled_loop, opened_by, open_behind, opens_too_many, deep_rows, unit_deep_rows}
use Rattle.file_parse.specs.OpenBlocks.{Counts, OpensBody, Passes, ended_do, deep_at}
use Rattle.file_parse.specs.FirstRefusals.{IsFirstAmong}
use Rattle.file_parse.specs.declared.nests.OpenBlocks.{OpenBlocks}

pub closes_nothing : (b : Body) (label : Option ℕ) (blocks : List Block) → (b ≡ whole.EndIf → ⊥) → (b ≡ whole.EndDo → ⊥) → closed_by_body b label blocks ≡ blocks
unfolding closed_by_body layer_of
closes_nothing whole.EndIf label blocks not_if not_do = absurd (not_if refl)
closes_nothing whole.EndDo label blocks not_if not_do = absurd (not_do refl)
closes_nothing (IfOne' e s (more_of-Body b r)) label blocks not_if not_do = refl
closes_nothing b label blocks not_if not_do = refl

pub by_end_if : (label : Option ℕ) (blocks : List Block) → closed_by_body whole.EndIf label blocks ≡ without_if blocks
unfolding closed_by_body layer_of
by_end_if label blocks = refl

pub by_end_do : (label : Option ℕ) (blocks : List Block) → closed_by_body whole.EndDo label blocks ≡ ended_do label blocks
unfolding closed_by_body layer_of ended_do
by_end_do label blocks = refl

pub do_closes : (label : Option ℕ) (blocks : List Block) → ends_labelled_loop label blocks ≡ false → ended_do label blocks ≡ without_loop blocks
unfolding ended_do
do_closes label blocks is = ap (λ b. if b then blocks else without_loop blocks) is

pub do_ended : (label : Option ℕ) (blocks : List Block) → ends_labelled_loop label blocks ≡ true → ended_do label blocks ≡ blocks
unfolding ended_do
do_ended label blocks is = ap (λ b. if b then blocks else without_loop blocks) is

pub opens_nothing : (b : Body) → ((e : Expr) → b ≡ whole.IfThen e → ⊥) → ((label : Option ℕ) (control : LoopControl) → b ≡ whole.Do label control → ⊥) →
    ((label : Option ℕ) (e : Expr) → b ≡ whole.DoWhile label e → ⊥) → opened_by b ≡ []
unfolding opened_by layer_of
opens_nothing (whole.IfThen e) not_if not_do not_while = absurd (not_if e refl)
opens_nothing (whole.Do label control) not_if not_do not_while = absurd (not_do label control refl)
opens_nothing (whole.DoWhile label e) not_if not_do not_while = absurd (not_while label e refl)
opens_nothing (IfOne' e s (more_of-Body b r)) not_if not_do not_while = refl
opens_nothing b not_if not_do not_while = refl

-- WHAT IS CLOSED IS NO MORE THAN WHAT WAS OPEN
if_within : (blocks : List Block) → length (without_if blocks) ≤ length blocks
unfolding without_if
if_within [] = omega arith
if_within (IfBlock ∷ blocks) = omega arith
if_within (LoopTo label ∷ blocks) = let more = if_within blocks in omega arith

loop_within : (blocks : List Block) → length (without_loop blocks) ≤ length blocks
unfolding without_loop
loop_within [] = omega arith
loop_within (IfBlock ∷ blocks) = let more = loop_within blocks in omega arith
loop_within (LoopTo None ∷ blocks) = omega arith
loop_within (LoopTo (Some label) ∷ blocks) = let more = loop_within blocks in omega arith

do_by : (b : Bool) (blocks : List Block) → length (if b then blocks else without_loop blocks) ≤ length blocks
do_by true blocks = omega arith
do_by false blocks = loop_within blocks

kept_by : (b : Bool) (block : Block) (rest blocks : List Block) → length rest ≤ length blocks → length (cond (not b) (block ∷ rest) rest) ≤ length (block ∷ blocks)
kept_by true block rest blocks low = omega arith
kept_by false block rest blocks low = omega arith

filter_within : (test : Block → Bool) (blocks : List Block) → length (filter (λ block. not (test block)) blocks) ≤ length blocks
filter_within test [] = omega arith
filter_within test (block ∷ blocks) = kept_by (test block) block (filter (λ b. not (test b)) blocks) blocks (filter_within test blocks)

label_within : (label : Option ℕ) (blocks : List Block) → length (closed_by_label label blocks) ≤ length blocks
unfolding closed_by_label
label_within None blocks = omega arith
label_within (Some label) blocks = filter_within (λ block. is_loop_to label block) blocks

body_within : (b : Body) (label : Option ℕ) (blocks : List Block) → length (closed_by_body b label blocks) ≤ length blocks
unfolding closed_by_body layer_of
body_within whole.EndIf label blocks = if_within blocks
body_within whole.EndDo label blocks = do_by (ends_labelled_loop label blocks) blocks
body_within (IfOne' e s (more_of-Body b r)) label blocks = omega arith
body_within b label blocks = omega arith

-- A STATEMENT
abbrev closed : List Block → Stmt → List Block
closed blocks s = closed_by_label s.label (closed_by_body s.body s.label blocks)

behind_is : (blocks : List Block) (s : Stmt) → open_behind blocks s ≡ opened_by s.body ++ closed blocks s
unfolding open_behind
behind_is blocks s = refl

too_many_is : (blocks : List Block) (s : Stmt) → opens_too_many blocks s ≡ (if nat_lt 0 (length (opened_by s.body)) then nat_lt 64 (length (open_behind blocks s)) else false)
unfolding opens_too_many
too_many_is blocks s = refl

pub passes : (s : Stmt) (opens : Bool) (old ended labelled new : OpenBlocks) →
    ((blocks : List Block) → Counts blocks old → Counts (closed_by_body s.body s.label blocks) ended) →
    ((blocks : List Block) → Counts blocks ended → Counts (closed_by_label s.label blocks) labelled) →
    OpensBody s.body opens labelled new → (deep : Bool) →
    ((blocks : List Block) → Counts blocks new → deep ≡ (if opens then nat_lt 64 (length blocks) else false)) → Passes s deep old new
passes s opens old ended labelled new by_body by_label opened deep is blocks few counts =
    let low : length (closed blocks s) ≤ length (closed_by_body s.body s.label blocks) = label_within s.label (closed_by_body s.body s.label blocks) in
    let lower : length (closed_by_body s.body s.label blocks) ≤ length blocks = body_within s.body s.label blocks in
    let now : Counts (open_behind blocks s) new = subst (λ bs. Counts bs new) (sym (behind_is blocks s))
    (opened.open_now (closed blocks s) (omega arith) (by_label (closed_by_body s.body s.label blocks) (by_body blocks counts))) in (
      now,
      is (open_behind blocks s) now ∙ (ap (λ b. if b then nat_lt 64 (length (open_behind blocks s)) else false) opened.some ∙ sym (too_many_is blocks s)),
    )

-- THE STATEMENTS OF A UNIT
pub record DeepSoFar (statements rest : List Stmt) (i : ℕ) (kept : OpenBlocks) (found : Option Refusal) : Type 0 where
  pub open_now : List Block
  pub rows : List Refusal
  pub split : deep_rows [] statements ≡ rows ++ deep_rows open_now rest
  pub counts : Counts open_now kept
  pub few : length open_now ≤ i
  pub first : IsFirstAmong rows found

pub deep_starts : (statements : List Stmt) (kept : OpenBlocks) → Counts [] kept → DeepSoFar statements statements 0 kept None
deep_starts statements kept counts = record { open_now = []; rows = []; split = refl; counts = counts; few = omega arith; first = refl }

more_rows : (open_now : List Block) (s : Stmt) (rest : List Stmt) (b : Bool) → opens_too_many open_now s ≡ b →
    deep_rows open_now (s ∷ rest) ≡ (if b then deep_at s ∷ [] else []) ++ deep_rows (open_behind open_now s) rest
unfolding deep_rows
more_rows open_now s rest b is = ap (λ c. (if c then deep_at s ∷ [] else []) ++ deep_rows (open_behind open_now s) rest) is

opened_few : (b : Body) → length (opened_by b) ≤ 1
unfolding opened_by layer_of
opened_few (whole.IfThen e) = omega arith
opened_few (whole.Do label control) = omega arith
opened_few (whole.DoWhile label e) = omega arith
opened_few (IfOne' e s (more_of-Body b r)) = omega arith
opened_few b = omega arith

behind_few : (blocks : List Block) (s : Stmt) (i : ℕ) → length blocks ≤ i → length (open_behind blocks s) ≤ i + 1
behind_few blocks s i low =
    let e : length (open_behind blocks s) ≡ length (opened_by s.body) + length (closed blocks s) = ap length (behind_is blocks s) ∙ length-append (opened_by s.body) (closed blocks s) in
    let a = opened_few s.body in
    let b : length (closed blocks s) ≤ length (closed_by_body s.body s.label blocks) = label_within s.label (closed_by_body s.body s.label blocks) in
    let d : length (closed_by_body s.body s.label blocks) ≤ length blocks = body_within s.body s.label blocks in
    omega arith

pub deep_goes_on : (statements rest : List Stmt) (s : Stmt) (i : ℕ) (old new : OpenBlocks) (found next : Option Refusal) (deep : Bool) →
    DeepSoFar statements (s ∷ rest) i old found → i + 1 < 2 ^ 64 → Passes s deep old new →
    ((rows : List Refusal) → IsFirstAmong rows found → IsFirstAmong (rows ++ (if deep then deep_at s ∷ [] else [])) next) →
    DeepSoFar statements rest (i + 1) new next
deep_goes_on statements rest s i old new found next deep so_far few passed first =
    let step = passed so_far.open_now (let low = so_far.few in omega arith) so_far.counts in
    record {
      open_now = open_behind so_far.open_now s;
      rows = so_far.rows ++ (if deep then deep_at s ∷ [] else []);
      split = so_far.split ∙ (ap (λ l. so_far.rows ++ l) (more_rows so_far.open_now s rest deep (sym step.1))
          ∙ sym (append_assoc so_far.rows (if deep then deep_at s ∷ [] else []) (deep_rows (open_behind so_far.open_now s) rest)));
      counts = step.0;
      few = behind_few so_far.open_now s i so_far.few;
      first = first so_far.rows so_far.first;
    }

nothing_left : (open_now : List Block) → deep_rows open_now [] ≡ []
unfolding deep_rows
nothing_left open_now = refl

pub deep_ends : (statements rest : List Stmt) (i : ℕ) (kept : OpenBlocks) (found : Option Refusal) → DeepSoFar statements rest i kept found → rest ≡ [] →
    IsFirstAmong (deep_rows [] statements) found
deep_ends statements rest i kept found so_far none =
    subst (λ rows. IsFirstAmong rows found)
    (sym (so_far.split ∙ (ap (λ l. so_far.rows ++ l) (ap (λ l. deep_rows so_far.open_now l) none ∙ nothing_left so_far.open_now) ∙ append-nil so_far.rows)))
    so_far.first

pub deep_at_place : (statements : List Stmt) (i : ℕ) (s : Stmt) (kept : OpenBlocks) (found : Option Refusal) → i < length statements → s ≡ get_or statements i s →
    DeepSoFar statements (drop i statements) i kept found → DeepSoFar statements (s ∷ drop (i + 1) statements) i kept found
deep_at_place statements i s kept found within is so_far =
    subst (λ l. DeepSoFar statements l i kept found) (drop_more statements i s within ∙ ap (λ t. t ∷ drop (i + 1) statements) (sym is)) so_far

pub unit_rows : (u : ProgramUnit) (statements : List Stmt) → statements ≡ u.statements → unit_deep_rows u ≡ deep_rows [] statements
unfolding unit_deep_rows
unit_rows u statements is = ap (λ l. deep_rows [] l) (sym is)
