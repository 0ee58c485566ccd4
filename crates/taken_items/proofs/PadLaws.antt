-- Blanks behind a text that is stored (C89, 3.3.16.1).
use Rattle.std.proofs.Common.{◌≡◌, ℕ, ◌+◌, ◌-◌, ◌≤◌, List, ◌++◌, length, refl, ap, sym, ◌∙◌, subst, arith, append-nil, take_all, length-append}
use Rattle.std.specs.Prelude.{Ok}
use Rattle.std.proofs.lemmas.List.{length-replicate}
use Rattle.c_tree.specs.declared.outcome.CValue.{CValue}
use Rattle.c_tree.specs.declared.outcome.CFault.{CFault}
use Rattle.c_tree.specs.Faults.{failing}
use Rattle.c_tree.specs.Objects.{Object}
use Rattle.c_tree.specs.LibraryArguments.{text_stored, shifted, fitted}
use Rattle.listed_input.proofs.StoreLaws.{spaces, blanks-behind, stored-behind, longer-faulty}

-- so many blanks are stored behind each text of a length that was stored
abbrev pub Padding : CValue → ℕ → ℕ → List Object → List Object → Type 0
Padding pointer done filled first now =
    (objects : List Object) → (text : List ℕ) → length text ≡ done → text_stored objects pointer text ≡ Ok first → text_stored objects pointer (text ++ spaces filled) ≡ Ok now

pub padding-starts : (pointer : CValue) (done : ℕ) (first : List Object) → Padding pointer done 0 first first
padding-starts pointer done first = λ objects text size stored. ap (text_stored objects pointer) (append-nil text) ∙ stored

long-by : (text : List ℕ) (done filled : ℕ) → length text ≡ done → length (text ++ spaces filled) ≡ done + filled
long-by text done filled size = omega (arith, size, length-append text (spaces filled), length-replicate {A = ℕ} filled 32)

-- the store of the next blanks
piece-is : (objects old : List Object) (pointer place : CValue) (done filled count : ℕ) (text blank : List ℕ) → place ≡ shifted (done + filled) pointer → blank ≡ spaces count → length text ≡ done →
    text_stored objects pointer (text ++ spaces filled) ≡ Ok old → text_stored objects pointer (text ++ spaces (filled + count)) ≡ text_stored old place blank
piece-is objects old pointer place done filled count text blank at is size before =
    ap (text_stored objects pointer) (sym (blanks-behind filled count text))
    ∙ sym (stored-behind objects old pointer (text ++ spaces filled) (spaces count) before)
    ∙ ap (λ (n : ℕ). text_stored old (shifted n pointer) (spaces count)) (long-by text done filled size)
    ∙ ap (λ (one : CValue). text_stored old one (spaces count)) (sym at)
    ∙ ap (text_stored old place) (sym is)

pub padding-goes_on : (pointer place : CValue) (done filled filled' count : ℕ) (first old new : List Object) (blank : List ℕ) → place ≡ shifted (done + filled) pointer → blank ≡ spaces count →
    filled' ≡ filled + count → text_stored old place blank ≡ Ok new → Padding pointer done filled first old → Padding pointer done filled' first new
padding-goes_on pointer place done filled filled' count first old new blank at is sum stored before = λ objects text size written.
    ap (λ (n : ℕ). text_stored objects pointer (text ++ spaces n)) sum
    ∙ piece-is objects old pointer place done filled count text blank at is size (before objects text size written) ∙ stored

pub padding-faulty : (pointer place : CValue) (done filled count blanks : ℕ) (first old : List Object) (blank : List ℕ) (fault : CFault) → place ≡ shifted (done + filled) pointer →
    blank ≡ spaces count → filled + count ≤ blanks → text_stored old place blank ≡ failing fault → Padding pointer done filled first old →
    (objects : List Object) → (text : List ℕ) → length text ≡ done → text_stored objects pointer text ≡ Ok first → text_stored objects pointer (text ++ spaces blanks) ≡ failing fault
padding-faulty pointer place done filled count blanks first old blank fault at is within stored before objects text size written =
    ap (λ (n : ℕ). text_stored objects pointer (text ++ spaces n)) (let e : blanks ≡ (filled + count) + (blanks - (filled + count)) = omega arith in e)
    ∙ ap (text_stored objects pointer) (sym (blanks-behind (filled + count) (blanks - (filled + count)) text))
    ∙ longer-faulty objects pointer (text ++ spaces (filled + count)) (spaces (blanks - (filled + count))) fault
    (piece-is objects old pointer place done filled count text blank at is size (before objects text size written) ∙ stored)

pub padding-ends : (pointer : CValue) (done filled blanks : ℕ) (first now : List Object) → filled ≡ blanks → Padding pointer done filled first now → Padding pointer done blanks first now
padding-ends pointer done filled blanks first now all before = subst (λ (n : ℕ). Padding pointer done n first now) all before

-- ## A text that is padded to a length

fitted-whole : (size : ℕ) (text : List ℕ) → length text ≤ size → fitted size text ≡ text ++ spaces (size - length text)
fitted-whole size text short =
    take_all size (text ++ spaces (size - length text))
    (let whole : length (text ++ spaces (size - length text)) ≡ size = omega (arith, short, length-append text (spaces (size - length text)), length-replicate {A = ℕ} (size - length text) 32) in omega (arith, whole))

-- and with fewer blanks behind it before
pub fitted-padded : (size blanks : ℕ) (text : List ℕ) → length text + blanks ≤ size → fitted size (text ++ spaces blanks) ≡ text ++ spaces (size - length text)
fitted-padded size blanks text short =
    let whole : length (text ++ spaces blanks) ≡ length text + blanks = long-by text (length text) blanks refl in
    fitted-whole size (text ++ spaces blanks) (omega (arith, short, whole))
    ∙ blanks-behind blanks (size - length (text ++ spaces blanks)) text
    ∙ ap (λ (n : ℕ). text ++ spaces n) (let e : blanks + (size - length (text ++ spaces blanks)) ≡ size - length text = omega (arith, short, whole) in e)
