-- A reader of calls and statements that keeps no derivation, and that reads each statement as the tree that it spells.
use Rattle.std.specs.Prelude.{◌≡◌, ℕ, zero, suc, ◌≤◌, Bool, true, false, not, ◌&&◌, ◌||◌, List, [], ◌∷◌, codes, bytes_eq, pos, Option, Some, None}
use Rattle.std.specs.List.{list_all}
use Rattle.std.proofs.Common.{refl, ap, sym, ◌∙◌, subst, true≢false}
use Rattle.std.proofs.lemmas.Slice.Eq.{bytes_eq-Decides}
use native.Mathlib.Omega.{arith}
use Rattle.c_tree.specs.declared.expression.UnaryOp.TheVariants as prefix
use Rattle.c_tree.specs.declared.expression.CExpr.{CExpr}
use Rattle.c_tree.specs.declared.expression.CExpr.TheVariants as expr
use Rattle.c_tree.specs.declared.expression.CCall.{CCall}
use Rattle.c_tree.specs.declared.statement.CCase.{CCase}
use Rattle.c_tree.specs.declared.statement.CNext.{CNext}
use Rattle.c_tree.specs.declared.statement.CNext.TheVariants as next
use Rattle.c_tree.specs.declared.statement.CStmt.{CStmt}
use Rattle.c_tree.specs.declared.statement.CStmt.TheVariants as stmt
use Rattle.c_tree.specs.Tokens.{Token, Word, Digits, Sign, begins_with, is_letter, is_word_byte}
use Rattle.c_tree.specs.CWords.{is_among, is_name, words, Separated, last_item, one_item}
use Rattle.c_tree.specs.CExpressionText.{Scope, IsKnown, declared_before, an_object, ReadsExpr, a_name, parenthesised, prefixed, ReadsArguments, no_argument, some_arguments, ReadsCall, by_name, through_a_parameter}
use Rattle.c_tree.specs.CStatementText.{ReadsCases, no_case, one_case, ReadsNext, up, down, added, ReadsFor, for_head, ReadsTested, tested, ReadsStmt, assigned, assigned_call, called, empty, a_block, labelled, jump, returned, returned_value, returned_call, if_only, if_else, switched, repeated_for, repeated_do, ReadsStmts, closed, one_more}
use Rattle.c_laws.proofs.ExpressionReading.{◌>>=◌}
use Rattle.c_laws.proofs.PlainExpressions.{Eventually, later, always, both, Got, got, when, past, a_word, opens, follow, read, IsClean, word-free, plain-among, free-opens, expression-opens, not-true, Reads, with-rest, follow-at-most, reads-whole, expression-reads, target-reads}

-- ## What the reader answers is what it reads, from some fuel on

abbrev pub By : Type 0 → Type 0
By A = ℕ → List Token → Option (Got A)

abbrev pub Gives : {A : Type 0} → By A → List Token → A → List Token → Type 0
Gives by p x q = Eventually (λ n. by n p ≡ got x q)

pub from-here : {A : Type 0} (by : By A) {x : A} {p q r : List Token} → p ≡ q → Gives by q x r → Gives by p x r
from-here by {x = x} {r = r} h e = subst (λ z. Gives by z x r) (sym h) e

pub up-to : {A : Type 0} (by : By A) {x : A} {p q r : List Token} → q ≡ r → Gives by p x q → Gives by p x r
up-to by {x = x} {p = p} h e = subst (λ z. Gives by p x z) h e

-- the rest of a reading, once its first part is known
pub bind : {A B : Type 0} {x : Option A} {y : A} (f : A → Option B) → x ≡ Some y → (x >>= f) ≡ f y
bind f h = ap (λ z. z >>= f) h

pub if-so : {A : Type 0} {b : Bool} {x : A} (y : A) → b ≡ true → when b x y ≡ x
if-so {x = x} y h = ap (λ z. when z x y) h

pub if-not : {A : Type 0} {b : Bool} {y : A} (x : A) → b ≡ false → when b x y ≡ y
if-not {y = y} x h = ap (λ z. when z x y) h

pub mapped : {P Q : ℕ → Type 0} → ((n : ℕ) → P n → Q n) → Eventually P → Eventually Q
mapped each e = record { first = e.first; holds = λ n h. each n (e.holds n h) }

-- ## Items, arguments and calls

abbrev pub behind_item : {A : Type 0} → List ℕ → (List Token → Option (Got (List A))) → A → List Token → Option (Got (List A))
behind_item closing later one (Sign text ∷ p) = when (bytes_eq closing text) (got (one ∷ []) p) (later p >>= (λ more. got (one ∷ more.tree) more.rest))
behind_item closing later one other = None

abbrev pub separated : {A : Type 0} → By A → List ℕ → By (List A)
separated by closing zero p = None
separated by closing (suc n) p = by n p >>= (λ one. behind_item closing (separated by closing n) one.tree one.rest)

pub separated-reads : {A : Type 0} {Item : A → List Token → List Token → Type 0} {by : By A} {closing : List ℕ} {all : List A} {p q : List Token}
    → bytes_eq closing closing ≡ true → bytes_eq closing (codes ",") ≡ false → follow (Sign closing ∷ []) ≡ 0
    → ((one : A) (p q : List Token) → Item one p q → follow q ≡ 0 → Gives by p one q) → Separated Item closing all p q → Gives (separated by closing) p all q
separated-reads {by = by} same apart still each (last_item {one = one} {p = p} {q = q} x a) =
    later (λ n z. bind _ z ∙ if-so _ same) (up-to by {p = p} a (each one p q x (ap follow a ∙ still)))
separated-reads {by = by} same apart still each (one_item {one = one} {p = p} {q = q} x a more) =
    later (λ n z. bind _ z.0 ∙ (if-not _ apart ∙ bind _ z.1))
    (both (up-to by {p = p} a (each one p q x (ap follow a))) (separated-reads same apart still each more))

abbrev pub expression : By CExpr
expression n p = read n 0 p

abbrev pub arguments : By (List CExpr)
arguments n p = when (opens p) (separated expression (codes ")") n p) (past p >>= (λ r. got [] r))

pub items-open : {scope : Scope} {all : List CExpr} {p q : List Token} → IsClean scope → Separated (ReadsExpr scope 0) (codes ")") all p q → opens p ≡ true
items-open clean (last_item x a) = expression-opens clean x
items-open clean (one_item x a more) = expression-opens clean x

pub arguments-read : {scope : Scope} {all : List CExpr} {p q : List Token} → IsClean scope → ReadsArguments scope all p q → Gives arguments p all q
arguments-read clean (no_argument a) = from-here arguments a (always (λ n. refl))
arguments-read clean (some_arguments all) =
    mapped (λ n z. if-so _ (items-open clean all) ∙ z) (separated-reads refl refl refl (λ one p q x h. expression-reads clean x h) all)

-- a call, by the name of a function or through a parameter
abbrev pub call : By CCall
call n (Word name ∷ p) = past p >>= (λ a. arguments n a >>= (λ all. got (record { through = false; name = name; arguments = all.tree }) all.rest))
call n (Sign text ∷ p) =
    past p >>= (λ a. a_word a >>= (λ w. past w.rest >>= (λ b. past b >>= (λ c. arguments n c >>= (λ all.
    got (record { through = true; name = w.tree; arguments = all.tree }) all.rest)))))
call n other = None

pub call-reads : {scope : Scope} {c : CCall} {p q : List Token} → IsClean scope → ReadsCall scope c p q → Gives call p c q
call-reads clean (by_name name h x y all) =
    from-here call (x ∙ ap (λ z. Word name ∷ z) y) (mapped (λ n z. bind _ z) (arguments-read clean all))
call-reads clean (through_a_parameter name h x y z w v all) =
    from-here
    call
    (x ∙ ap (λ t. Sign (codes "(") ∷ t) (y ∙ ap (λ t. Sign (codes "*") ∷ t) (z ∙ ap (λ t. Word name ∷ t) (w ∙ ap (λ t. Sign (codes ")") ∷ t) v))))
    (mapped (λ n t. bind _ t) (arguments-read clean all))

-- what stands before the arguments of a call is read as an expression that a parenthesis follows
pub record IsCalled (place : ℕ) (p : List Token) : Type 0 where
  pub tree : CExpr
  pub behind : List Token
  pub reads : Reads place p tree (Sign (codes "(") ∷ behind)

pub reads-at : {scope : Scope} {place : ℕ} {e : CExpr} {p q : List Token} → IsClean scope → ReadsExpr scope place e p q → place ≤ 8 → follow q ≡ 0 → Reads place p e q
reads-at {place = place} clean d top h = reads-whole clean d top (follow-at-most h (omega arith)) (follow-at-most h (omega arith))

-- a scope of one name
abbrev pub alone : List ℕ → Scope
alone name = record { objects = name ∷ []; arrays = []; functions = []; pointers = [] }

pub itself-among : (name : List ℕ) → is_among name (name ∷ []) ≡ true
itself-among name = ap (λ z. z || false) ((bytes_eq-Decides name name).1 refl)

pub alone-clean : (name : List ℕ) → is_among name words ≡ false → IsClean (alone name)
alone-clean name h = record { objects = ap (λ z. not z && true) h; functions = refl; pointers = refl }

pub named-alone : (name : List ℕ) → IsKnown (alone name) name
named-alone name = declared_before (an_object (itself-among name))

pub call-starts : {scope : Scope} {c : CCall} {p q : List Token} (place : ℕ) → place ≤ 8 → IsClean scope → ReadsCall scope c p q → IsCalled place p
call-starts {scope = scope} place top clean (by_name name {r = r} h x y all) = record {
  tree = expr.Name name;
  behind = r;
  reads =
      reads-at
      (alone-clean name (plain-among name scope.functions clean.functions h))
      (a_name place name (named-alone name) (x ∙ ap (λ z. Word name ∷ z) y))
      top
      refl;
}
call-starts {scope = scope} place top clean (through_a_parameter name {u = u} h x y z w v all) = record {
  tree = expr.Unary prefix.Deref (expr.Name name);
  behind = u;
  reads =
      reads-at
      (alone-clean name (plain-among name scope.pointers clean.pointers h))
      (parenthesised place x (prefixed 0 prefix.Deref (omega arith) y (a_name 7 name (named-alone name) z)) (w ∙ ap (λ t. Sign (codes ")") ∷ t) v))
      top
      refl;
}

-- a word that a token follows which is no operator is read as a name
pub word-starts : (place : ℕ) → place ≤ 8 → (name : List ℕ) (p q : List Token) → is_among name words ≡ false → p ≡ Word name ∷ q → follow q ≡ 0
    → Reads place p (expr.Name name) q
word-starts place top name p q plain x h = reads-at (alone-clean name plain) (a_name place name (named-alone name) x) top h

-- the right side of an assignment, and what is returned
pub data Right : Type 0 where
  Value : CExpr → Right
  Called : CCall → Right

abbrev pub is_open : List Token → Bool
is_open (Sign text ∷ p) = bytes_eq text (codes "(")
is_open other = false

abbrev pub right_by : Option (Got CCall) → Got CExpr → Bool → Option (Got Right)
right_by calling e true = calling >>= (λ c. got (Called c.tree) c.rest)
right_by calling e false = got (Value e.tree) e.rest

abbrev pub right : By Right
right n p = read n 0 p >>= (λ e. right_by (call n p) e (is_open e.rest))

pub right-value : {scope : Scope} {e : CExpr} {p q r : List Token} → IsClean scope → ReadsExpr scope 0 e p q → q ≡ Sign (codes ";") ∷ r
    → Gives right p (Value e) (Sign (codes ";") ∷ r)
right-value clean x a = mapped (λ n z. bind _ z) (up-to expression a (expression-reads clean x (ap follow a)))

pub right-call : {scope : Scope} {c : CCall} {p q : List Token} → IsClean scope → ReadsCall scope c p q → Gives right p (Called c) q
right-call clean c =
    mapped (λ n z. bind _ z.0 ∙ bind _ z.1) (both (call-starts 0 (omega arith) clean c).reads (call-reads clean c))

-- ## Statements

-- whether none begins here
abbrev pub no_keyword : List Token → Bool
no_keyword (Word text ∷ p) =
    not (is_among text (codes "goto" ∷ codes "return" ∷ codes "if" ∷ codes "switch" ∷ codes "for" ∷ codes "do" ∷ []))
no_keyword (Sign text ∷ p) = not (is_among text (codes ";" ∷ codes "{" ∷ []))
no_keyword other = true

abbrev pub closes : List Token → Bool
closes p = not (opens p) && no_keyword p

abbrev pub has_else : List Token → Bool
has_else (Word text ∷ p) = bytes_eq text (codes "else")
has_else other = false

abbrev pub is_else : List Token → Bool
is_else p = not (opens p) && has_else p

-- whether a declaration of a function's own begins here
abbrev pub has_local : List Token → Bool
has_local (Word text ∷ p) =
    is_among text (codes "extern" ∷ codes "static" ∷ codes "integer" ∷ codes "logical" ∷ codes "char" ∷ codes "address" ∷ [])
has_local other = false

abbrev pub is_local : List Token → Bool
is_local p = not (opens p) && has_local p

pub record Starts (p : List Token) : Type 0 where
  pub no_close : closes p ≡ false
  pub no_else : is_else p ≡ false
  pub no_local : is_local p ≡ false

pub open-starts : {p : List Token} → opens p ≡ true → Starts p
open-starts {p = p} h = record {
  no_close = ap (λ z. not z && no_keyword p) h;
  no_else = ap (λ z. not z && has_else p) h;
  no_local = ap (λ z. not z && has_local p) h;
}

pub same-starts : {p q : List Token} → p ≡ q → closes q ≡ false → is_else q ≡ false → is_local q ≡ false → Starts p
same-starts h a b c = record { no_close = ap closes h ∙ a; no_else = ap is_else h ∙ b; no_local = ap is_local h ∙ c }

pub call-opens : {scope : Scope} {c : CCall} {p q : List Token} → IsClean scope → ReadsCall scope c p q → opens p ≡ true
call-opens {scope = scope} clean (by_name name {q = q} h x y all) =
    ap opens x ∙ free-opens name q (word-free name (plain-among name scope.functions clean.functions h))
call-opens clean (through_a_parameter name h x y z w v all) = ap opens x

pub is-plain : (name : List ℕ) → is_name name ≡ true → is_among name words ≡ false
is-plain name h =
    not-true
    (is_among name words)
    (second
    (list_all is_word_byte name)
    (not (is_among name words))
    (second (begins_with is_letter name) (list_all is_word_byte name && not (is_among name words)) h))
  where
    second : (a b : Bool) → (a && b) ≡ true → b ≡ true
    second true b h = h
    second false b h = absurd (true≢false (sym h))

-- what stands in parentheses behind a word
abbrev pub tested_at : By CExpr
tested_at n p = past p >>= (λ a. read n 0 a >>= (λ e. past e.rest >>= (λ q. got e.tree q)))

-- `if`, `switch` or `while` with what stands behind the word
pub record Tests (word : List ℕ) (e : CExpr) (p q : List Token) : Type 0 where
  pub behind : List Token
  pub is : p ≡ Word word ∷ behind
  pub reads : Gives tested_at behind e q

pub tests : {scope : Scope} {word : List ℕ} {e : CExpr} {p q : List Token} → IsClean scope → ReadsTested scope word e p q → Tests word e p q
tests clean (tested word {q = q} a b e c) = record {
  behind = q;
  is = a;
  reads = from-here tested_at b (mapped (λ n z. bind _ z) (up-to expression c (expression-reads clean e (ap follow c))));
}

abbrev pub cases : By (List CCase)
cases zero p = None
cases (suc n) (Word text ∷ Digits v ∷ c ∷ g ∷ Word label ∷ d ∷ p) =
    cases n p >>= (λ more. got (record { number = pos v; label = label } ∷ more.tree) more.rest)
cases (suc n) p = past p >>= (λ q. got [] q)

pub cases-read : {all : List CCase} {p q : List Token} → ReadsCases all p q → Gives cases p all q
cases-read (no_case a) = from-here cases a (later (λ n z. refl) (always {P = λ n. ℕ} (λ n. n)))
cases-read (one_case v label h a b c d e f more) =
    from-here
    cases
    (a ∙ ap (λ z. Word (codes "case") ∷ z)
    (b ∙ ap (λ z. Digits v ∷ z)
    (c ∙ ap (λ z. Sign (codes ":") ∷ z)
    (d ∙ ap (λ z. Word (codes "goto") ∷ z)
    (e ∙ ap (λ z. Word label ∷ z) f)))))
    (later (λ n z. bind _ z) (cases-read more))

-- what a `for` does after each turn
abbrev pub stepped : Bool → CExpr → CNext
stepped true target = next.Up target
stepped false target = next.Down target

abbrev pub has_plus : List Token → Bool
has_plus (Sign text ∷ p) = bytes_eq text (codes "++")
has_plus other = false

abbrev pub next_turn : By CNext
next_turn n p =
    when
    (opens p)
    (read n 7 p >>= (λ t. past t.rest >>= (λ a. read n 0 a >>= (λ e. got (next.Add t.tree e.tree) e.rest))))
    (past p >>= (λ a. read n 7 a >>= (λ t. got (stepped (has_plus p) t.tree) t.rest)))

pub next-reads : {scope : Scope} {turn : CNext} {p q : List Token} → IsClean scope → ReadsNext scope turn p q → follow q ≡ 0 → Gives next_turn p turn q
next-reads clean (up a x) h = from-here next_turn a (mapped (λ n z. bind _ z) (target-reads clean x h))
next-reads clean (down a x) h = from-here next_turn a (mapped (λ n z. bind _ z) (target-reads clean x h))
next-reads clean (added x a e) h =
    mapped
    (λ n z. if-so _ (expression-opens clean x) ∙ (bind _ z.0 ∙ bind _ z.1))
    (both (with-rest a (target-reads clean x (ap follow a))) (expression-reads clean e h))

-- the head of a `for`
pub record ForHead : Type 0 where
  pub target : CExpr
  pub first : CExpr
  pub test : CExpr
  pub turn : CNext

abbrev pub for_at : By ForHead
for_at n p =
    past p >>= (λ a. read n 7 a >>= (λ t. past t.rest >>= (λ b. read n 0 b >>= (λ f. past f.rest >>= (λ c. read n 0 c >>= (λ e. past e.rest >>= (λ d.
    next_turn n d >>= (λ s. past s.rest >>= (λ q. got (record { target = t.tree; first = f.tree; test = e.tree; turn = s.tree }) q)))))))))

pub record Heads (target first test : CExpr) (turn : CNext) (p q : List Token) : Type 0 where
  pub behind : List Token
  pub is : p ≡ Word (codes "for") ∷ behind
  pub reads : Gives for_at behind (record { target = target; first = first; test = test; turn = turn }) q

pub heads : {scope : Scope} {target first test : CExpr} {turn : CNext} {p q : List Token} → IsClean scope → ReadsFor scope target first test turn p q
    → Heads target first test turn p q
heads clean (for_head {q = q} {x = place} a b x c f d e g s h) = record {
  behind = q;
  is = a;
  reads =
      from-here
      for_at
      b
      (mapped
      (λ n z. bind _ z.0.0.0 ∙ (bind _ z.0.0.1 ∙ (bind _ z.0.1 ∙ bind _ z.1)))
      (both
      (both
      (both (with-rest c (target-reads clean x (ap follow c))) (with-rest d (expression-reads clean f (ap follow d))))
      (with-rest g (expression-reads clean e (ap follow g))))
      (up-to next_turn {p = place} h (next-reads clean s (ap follow h)))));
}

pub data Keyword : Type 0 where
  ToGo : Keyword
  ToReturn : Keyword
  ToIf : Keyword
  ToSwitch : Keyword
  ToFor : Keyword
  ToDo : Keyword

abbrev pub keyword_of : List ℕ → Keyword
keyword_of text =
    when (bytes_eq text (codes "goto")) ToGo
    (when (bytes_eq text (codes "return")) ToReturn
    (when (bytes_eq text (codes "if")) ToIf
    (when (bytes_eq text (codes "switch")) ToSwitch
    (when (bytes_eq text (codes "for")) ToFor ToDo))))

abbrev pub set_to : CExpr → Right → CStmt
set_to target (Value e) = stmt.Set target e
set_to target (Called c) = stmt.SetCall target c

abbrev pub return_of : Right → CStmt
return_of (Value e) = stmt.Return (Some e)
return_of (Called c) = stmt.ReturnCall c

abbrev pub Statement : Type 0
Statement = List Token → Option (Got CStmt)

abbrev pub Statements : Type 0
Statements = List Token → Option (Got (List CStmt))

-- what stands behind the target or the name at the start of a statement
pub data Behind : Type 0 where
  Assigning : Behind
  Calling : Behind
  Labelling : Behind

abbrev pub behind_of : List Token → Behind
behind_of (Sign text ∷ p) = when (bytes_eq text (codes "=")) Assigning (when (bytes_eq text (codes "(")) Calling Labelling)
behind_of other = Labelling

abbrev pub by_behind : Statement → ℕ → List Token → Got CExpr → Behind → Option (Got CStmt)
by_behind one n p t Assigning = past t.rest >>= (λ a. right n a >>= (λ r. past r.rest >>= (λ q. got (set_to t.tree r.tree) q)))
by_behind one n p t Calling = call n p >>= (λ c. past c.rest >>= (λ q. got (stmt.Call c.tree) q))
by_behind one n p t Labelling = a_word p >>= (λ w. past w.rest >>= (λ a. one a >>= (λ s. got (stmt.Label w.tree s.tree) s.rest)))

abbrev pub else_part : Statements → CExpr → List CStmt → List Token → Bool → Option (Got CStmt)
else_part all e first p true = past p >>= (λ a. past a >>= (λ b. all b >>= (λ second. got (stmt.If e first (Some second.tree)) second.rest)))
else_part all e first p false = got (stmt.If e first None) p

abbrev pub by_keyword : Statements → ℕ → List Token → Keyword → Option (Got CStmt)
by_keyword all n p ToGo = a_word p >>= (λ w. past w.rest >>= (λ q. got (stmt.Goto w.tree) q))
by_keyword all n p ToReturn =
    when (opens p) (right n p >>= (λ r. past r.rest >>= (λ q. got (return_of r.tree) q))) (past p >>= (λ q. got (stmt.Return None) q))
by_keyword all n p ToIf =
    tested_at n p >>= (λ e. past e.rest >>= (λ a. all a >>= (λ first. else_part all e.tree first.tree first.rest (is_else first.rest))))
by_keyword all n p ToSwitch = tested_at n p >>= (λ e. past e.rest >>= (λ a. cases n a >>= (λ c. got (stmt.Switch e.tree c.tree) c.rest)))
by_keyword all n p ToFor =
    for_at n p >>= (λ h. past h.rest >>= (λ a. all a >>= (λ inner.
    got (stmt.For h.tree.target h.tree.first h.tree.test h.tree.turn inner.tree) inner.rest)))
by_keyword all n p ToDo =
    past p >>= (λ a. all a >>= (λ inner. past inner.rest >>= (λ b. tested_at n b >>= (λ e. past e.rest >>= (λ q.
    got (stmt.DoWhile inner.tree e.tree) q)))))

abbrev pub by_head : Statements → ℕ → List Token → Option (Got CStmt)
by_head all n (Sign text ∷ p) = when (bytes_eq text (codes ";")) (got stmt.Empty p) (all p >>= (λ inner. got (stmt.Block inner.tree) inner.rest))
by_head all n (Word text ∷ p) = by_keyword all n p (keyword_of text)
by_head all n other = None

abbrev mutual
  pub statement : By CStmt
  statement zero p = None
  statement (suc n) p =
      when (opens p) (read n 7 p >>= (λ t. by_behind (statement n) n p t (behind_of t.rest))) (by_head (statements n) n p)

  pub statements : By (List CStmt)
  statements zero p = None
  statements (suc n) p =
      when (closes p) (past p >>= (λ q. got [] q)) (statement n p >>= (λ one. statements n one.rest >>= (λ more. got (one.tree ∷ more.tree) more.rest)))

pub statement-starts : {scope : Scope} {one : CStmt} {p q : List Token} → IsClean scope → ReadsStmt scope one p q → Starts p
statement-starts clean (assigned x a e b) = open-starts (expression-opens clean x)
statement-starts clean (assigned_call x a c b) = open-starts (expression-opens clean x)
statement-starts clean (called c a) = open-starts (call-opens clean c)
statement-starts clean (empty a) = same-starts a refl refl refl
statement-starts clean (a_block a inner) = same-starts a refl refl refl
statement-starts clean (labelled label {q = q} h a b inner) = open-starts (ap opens a ∙ free-opens label q (word-free label (is-plain label h)))
statement-starts clean (jump label a b c) = same-starts a refl refl refl
statement-starts clean (returned a b) = same-starts a refl refl refl
statement-starts clean (returned_value a e b) = same-starts a refl refl refl
statement-starts clean (returned_call a c b) = same-starts a refl refl refl
statement-starts clean (if_only t a inner) = same-starts (tests clean t).is refl refl refl
statement-starts clean (if_else t a first b c second) = same-starts (tests clean t).is refl refl refl
statement-starts clean (switched h t a c) = same-starts (tests clean t).is refl refl refl
statement-starts clean (repeated_for t a inner) = same-starts (heads clean t).is refl refl refl
statement-starts clean (repeated_do a b inner t c) = same-starts a refl refl refl

pub no-else-behind : {scope : Scope} {all : List CStmt} {p q : List Token} → IsClean scope → ReadsStmts scope all p q → is_else p ≡ false
no-else-behind clean (closed a) = ap is_else a
no-else-behind clean (one_more one more) = (statement-starts clean one).no_else

pub no-local-behind : {scope : Scope} {all : List CStmt} {p q : List Token} → IsClean scope → ReadsStmts scope all p q → is_local p ≡ false
no-local-behind clean (closed a) = ap is_local a
no-local-behind clean (one_more one more) = (statement-starts clean one).no_local

mutual
  pub statement-reads : {scope : Scope} {one : CStmt} {p q : List Token} → IsClean scope → ReadsStmt scope one p q → is_else q ≡ false → Gives statement p one q
  statement-reads clean (assigned x a e b) h =
      later
      (λ n z. if-so _ (expression-opens clean x) ∙ (bind _ z.0 ∙ bind _ z.1))
      (both (with-rest a (target-reads clean x (ap follow a))) (right-value clean e b))
  statement-reads clean (assigned_call x a c b) h =
      later
      (λ n z. if-so _ (expression-opens clean x) ∙ (bind _ z.0 ∙ bind _ z.1))
      (both (with-rest a (target-reads clean x (ap follow a))) (up-to right b (right-call clean c)))
  statement-reads clean (called {p = p} c a) h =
      later
      (λ n z. if-so _ (call-opens clean c) ∙ (bind _ z.0 ∙ bind _ z.1))
      (both (call-starts 7 (omega arith) clean c).reads (up-to call {p = p} a (call-reads clean c)))
  statement-reads clean (empty a) h = from-here statement a (later (λ n z. refl) (always {P = λ n. ℕ} (λ n. n)))
  statement-reads clean (a_block a inner) h = from-here statement a (later (λ n z. bind _ z) (statements-read clean inner))
  statement-reads clean (labelled label {r = r} g a b inner) h =
      let whole = a ∙ ap (λ z. Word label ∷ z) b in
      from-here
      statement
      whole
      (later
      (λ n z. if-so _ (free-opens label (Sign (codes ":") ∷ r) (word-free label (is-plain label g))) ∙ (bind _ z.0 ∙ bind _ z.1))
      (both
      (word-starts 7 (omega arith) label (Word label ∷ Sign (codes ":") ∷ r) (Sign (codes ":") ∷ r) (is-plain label g) refl refl)
      (statement-reads clean inner h)))
  statement-reads clean (jump label a b c) h =
      from-here
      statement
      (a ∙ ap (λ z. Word (codes "goto") ∷ z) (b ∙ ap (λ z. Word label ∷ z) c))
      (later (λ n z. refl) (always {P = λ n. ℕ} (λ n. n)))
  statement-reads clean (returned a b) h =
      from-here statement (a ∙ ap (λ z. Word (codes "return") ∷ z) b) (later (λ n z. refl) (always {P = λ n. ℕ} (λ n. n)))
  statement-reads clean (returned_value a e b) h =
      from-here statement a (later (λ n z. if-so _ (expression-opens clean e) ∙ bind _ z) (right-value clean e b))
  statement-reads clean (returned_call a c b) h =
      from-here statement a (later (λ n z. if-so _ (call-opens clean c) ∙ bind _ z) (up-to right b (right-call clean c)))
  statement-reads clean (if_only {e = e} {first = first} {s = s} t a inner) h =
      let head = tests clean t in
      from-here
      statement
      head.is
      (later
      (λ n z. bind _ z.0 ∙ (bind _ z.1 ∙ ap (λ b. else_part (statements n) e first s b) h))
      (both (up-to tested_at a head.reads) (statements-read clean inner)))
  statement-reads clean (if_else t a first b c second) h =
      let head = tests clean t in
      from-here
      statement
      head.is
      (later
      (λ n z. bind _ z.0.0 ∙ (bind _ z.0.1 ∙ bind _ z.1))
      (both
      (both
      (up-to tested_at a head.reads)
      (up-to statements (b ∙ ap (λ z. Word (codes "else") ∷ z) c) (statements-read clean first)))
      (statements-read clean second)))
  statement-reads clean (switched g t a c) h =
      let head = tests clean t in
      from-here
      statement
      head.is
      (later (λ n z. bind _ z.0 ∙ bind _ z.1) (both (up-to tested_at a head.reads) (cases-read c)))
  statement-reads clean (repeated_for t a inner) h =
      let head = heads clean t in
      from-here
      statement
      head.is
      (later (λ n z. bind _ z.0 ∙ bind _ z.1) (both (up-to for_at a head.reads) (statements-read clean inner)))
  statement-reads clean (repeated_do a b inner t c) h =
      let tail = tests clean t in
      from-here
      statement
      (a ∙ ap (λ z. Word (codes "do") ∷ z) b)
      (later
      (λ n z. bind _ z.0 ∙ bind _ z.1)
      (both (up-to statements tail.is (statements-read clean inner)) (up-to tested_at c tail.reads)))

  pub statements-read : {scope : Scope} {all : List CStmt} {p q : List Token} → IsClean scope → ReadsStmts scope all p q → Gives statements p all q
  statements-read clean (closed a) = from-here statements a (later (λ n z. refl) (always {P = λ n. ℕ} (λ n. n)))
  statements-read clean (one_more one more) =
      later
      (λ n z. if-not _ (statement-starts clean one).no_close ∙ (bind _ z.0 ∙ bind _ z.1))
      (both (statement-reads clean one (no-else-behind clean more)) (statements-read clean more))
