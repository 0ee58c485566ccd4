-- Parts that are linked one after the other, and the whole that is made of them.
use Rattle.std.proofs.Common.{◌≡◌, refl, ap, sym, ◌∙◌, subst, ℕ, ◌+◌, Bool, true, false, ◌||◌, List, ◌++◌, length, length-append, append_assoc, Result, Ok, Err, OnOk, true≢false, arith}
use Rattle.std.specs.Result.{IsErrAnd}
use Rattle.std.proofs.lemmas.Result.{err_from_is_err_and}
use Rattle.c_tree.specs.Drafts.{Draft, Scope, drafted, joined, joined_three}
use Rattle.expression_linker.specs.LinkedParts.{Links}
use Rattle.expression_linker.specs.declared.failure.LinkFail.{LinkFail}
use Rattle.expression_linker.specs.declared.failure.LinkFail.TheVariants as fail

pub first_or : (a b : Bool) → a ≡ true → (a || b) ≡ true
first_or true b h = refl
first_or false b h = absurd (true≢false (sym h))

pub second_or : (a b : Bool) → b ≡ true → (a || b) ≡ true
second_or true b h = refl
second_or false b h = h

-- ## What the whole becomes

pub drawn-one : {A B : Type 0} (wrap : A → B) (whole : Draft B) (a : Draft A) (scope : Scope) (n : ℕ) (x : A) → whole ≡ drafted wrap a → x ≡ a.drawn scope n → wrap x ≡ whole.drawn scope n
drawn-one wrap whole a scope n x is one = ap wrap one ∙ sym (ap (λ d. d.drawn scope n) is)

pub drawn-two : {A B C : Type 0} (wrap : A → B → C) (whole : Draft C) (a : Draft A) (b : Draft B) (scope : Scope) (n m : ℕ) (x : A) (y : B) → whole ≡ joined wrap a b →
    x ≡ a.drawn scope n → m ≡ n + length a.strings → y ≡ b.drawn scope m → wrap x y ≡ whole.drawn scope n
drawn-two wrap whole a b scope n m x y is one next two =
    (λ i. wrap (one i) ((two ∙ ap (b.drawn scope) next) i)) ∙ sym (ap (λ d. d.drawn scope n) is)

sum_of_two : (n m k : ℕ) (xs ys : List (List ℕ)) → m ≡ n + length xs → k ≡ m + length ys → k ≡ n + length (xs ++ ys)
sum_of_two n m k xs ys one two = let long = length-append xs ys in omega (arith, one, two, long)

pub drawn-three : {A B C D : Type 0} (wrap : A → B → C → D) (whole : Draft D) (a : Draft A) (b : Draft B) (c : Draft C) (scope : Scope) (n m k : ℕ) (x : A) (y : B) (z : C) →
    whole ≡ joined_three wrap a b c → x ≡ a.drawn scope n → m ≡ n + length a.strings → y ≡ b.drawn scope m → k ≡ m + length b.strings → z ≡ c.drawn scope k → wrap x y z ≡ whole.drawn scope n
drawn-three wrap whole a b c scope n m k x y z is one next two next' three =
    (λ i. wrap (one i) ((two ∙ ap (b.drawn scope) next) i) ((three ∙ ap (c.drawn scope) (sum_of_two n m k a.strings b.strings next next')) i))
    ∙ sym (ap (λ d. d.drawn scope n) is)

-- ## The number of the string behind the whole

pub next-one : {A B : Type 0} (wrap : A → B) (whole : Draft B) (a : Draft A) (n m : ℕ) → whole ≡ drafted wrap a → m ≡ n + length a.strings → m ≡ n + length whole.strings
next-one wrap whole a n m is one = one ∙ sym (ap (λ d. n + length d.strings) is)

pub next-two : {A B C : Type 0} (wrap : A → B → C) (whole : Draft C) (a : Draft A) (b : Draft B) (n m k : ℕ) → whole ≡ joined wrap a b → m ≡ n + length a.strings → k ≡ m + length b.strings →
    k ≡ n + length whole.strings
next-two wrap whole a b n m k is one two = sum_of_two n m k a.strings b.strings one two ∙ sym (ap (λ d. n + length d.strings) is)

pub next-three : {A B C D : Type 0} (wrap : A → B → C → D) (whole : Draft D) (a : Draft A) (b : Draft B) (c : Draft C) (n m k j : ℕ) → whole ≡ joined_three wrap a b c → m ≡ n + length a.strings →
    k ≡ m + length b.strings → j ≡ k + length c.strings → j ≡ n + length whole.strings
next-three wrap whole a b c n m k j is one two three =
    sum_of_two n k j (a.strings ++ b.strings) c.strings (sum_of_two n m k a.strings b.strings one two) three ∙ sym (ap (λ d. n + length d.strings) is)

-- ## A whole that lacks a name

-- an error that is handed on
pub again : {A B : Type 0} (means : A → B) (lacks : B → Bool) (part : B) (r : Result A LinkFail) (e : LinkFail) → IsErrAnd r (λ y. y ≡ e) → Links means lacks (Err e) part → Links means lacks r part
again means lacks part r e is h =
    let p = err_from_is_err_and r is in
    let same : r ≡ Err e = p.1 ∙ ap Err p.2 in
    subst (λ z. Links means lacks z part) (sym same) h

pub lost : {A B X Y : Type 0} (means : X → A) (lacks : A → Bool) (part : A) (means' : Y → B) (lacks' : B → Bool) (whole : B) (e : LinkFail) → (lacks part ≡ true → lacks' whole ≡ true) →
    Links means lacks (Err e) part → Links means' lacks' (Err e) whole
lost means lacks part means' lacks' whole fail.Unknown all h = all h
lost means lacks part means' lacks' whole fail.Memory all h = tt

pub lost-one : {A B X Y : Type 0} (means : X → A) (lacks : A → Bool) (means' : Y → B) (lacks' : B → Bool) (wrap : A → B) (whole : Draft B) (a : Draft A) (scope : Scope) (n : ℕ) (e : LinkFail) →
    whole ≡ drafted wrap a → ((x : A) → lacks x ≡ true → lacks' (wrap x) ≡ true) → Links means lacks (Err e) (a.drawn scope n) → Links means' lacks' (Err e) (whole.drawn scope n)
lost-one means lacks means' lacks' wrap whole a scope n e is all h =
    lost means lacks (a.drawn scope n) means' lacks' (whole.drawn scope n) e (λ k. ap (λ d. lacks' (d.drawn scope n)) is ∙ all (a.drawn scope n) k) h

pub lost-left : {A B C X Y : Type 0} (means : X → A) (lacks : A → Bool) (means' : Y → C) (lacks' : C → Bool) (wrap : A → B → C) (whole : Draft C) (a : Draft A) (b : Draft B) (scope : Scope) (n : ℕ) (e : LinkFail) →
    whole ≡ joined wrap a b → ((x : A) (y : B) → lacks x ≡ true → lacks' (wrap x y) ≡ true) → Links means lacks (Err e) (a.drawn scope n) → Links means' lacks' (Err e) (whole.drawn scope n)
lost-left means lacks means' lacks' wrap whole a b scope n e is all h =
    lost means lacks (a.drawn scope n) means' lacks' (whole.drawn scope n) e
    (λ k. ap (λ d. lacks' (d.drawn scope n)) is ∙ all (a.drawn scope n) (b.drawn scope (n + length a.strings)) k) h

pub lost-right : {A B C X Y : Type 0} (means : X → B) (lacks : B → Bool) (means' : Y → C) (lacks' : C → Bool) (wrap : A → B → C) (whole : Draft C) (a : Draft A) (b : Draft B) (scope : Scope) (n m : ℕ) (e : LinkFail) →
    whole ≡ joined wrap a b → ((x : A) (y : B) → lacks y ≡ true → lacks' (wrap x y) ≡ true) → m ≡ n + length a.strings → Links means lacks (Err e) (b.drawn scope m) →
    Links means' lacks' (Err e) (whole.drawn scope n)
lost-right means lacks means' lacks' wrap whole a b scope n m e is all next h =
    lost means lacks (b.drawn scope m) means' lacks' (whole.drawn scope n) e
    (λ k. ap (λ d. lacks' (d.drawn scope n)) is ∙ all (a.drawn scope n) (b.drawn scope (n + length a.strings)) (ap (λ j. lacks (b.drawn scope j)) (sym next) ∙ k)) h

-- a choice lacks a name where its test, or one of the two behind it, does
pub lost-test : {A B C D X Y : Type 0} (means : X → A) (lacks : A → Bool) (means' : Y → D) (lacks' : D → Bool) (wrap : A → B → C → D) (whole : Draft D) (a : Draft A) (b : Draft B) (c : Draft C) (scope : Scope) (n : ℕ) (e : LinkFail) →
    whole ≡ joined_three wrap a b c → ((x : A) (y : B) (z : C) → lacks x ≡ true → lacks' (wrap x y z) ≡ true) → Links means lacks (Err e) (a.drawn scope n) → Links means' lacks' (Err e) (whole.drawn scope n)
lost-test means lacks means' lacks' wrap whole a b c scope n e is all h =
    lost means lacks (a.drawn scope n) means' lacks' (whole.drawn scope n) e
    (λ k. ap (λ d. lacks' (d.drawn scope n)) is ∙ all (a.drawn scope n) (b.drawn scope (n + length a.strings)) (c.drawn scope (n + length (a.strings ++ b.strings))) k) h

pub lost-middle : {A B C D X Y : Type 0} (means : X → B) (lacks : B → Bool) (means' : Y → D) (lacks' : D → Bool) (wrap : A → B → C → D) (whole : Draft D) (a : Draft A) (b : Draft B) (c : Draft C) (scope : Scope) (n m : ℕ) (e : LinkFail) →
    whole ≡ joined_three wrap a b c → ((x : A) (y : B) (z : C) → lacks y ≡ true → lacks' (wrap x y z) ≡ true) → m ≡ n + length a.strings → Links means lacks (Err e) (b.drawn scope m) →
    Links means' lacks' (Err e) (whole.drawn scope n)
lost-middle means lacks means' lacks' wrap whole a b c scope n m e is all next h =
    lost means lacks (b.drawn scope m) means' lacks' (whole.drawn scope n) e
    (λ k. ap (λ d. lacks' (d.drawn scope n)) is
    ∙ all (a.drawn scope n) (b.drawn scope (n + length a.strings)) (c.drawn scope (n + length (a.strings ++ b.strings))) (ap (λ j. lacks (b.drawn scope j)) (sym next) ∙ k)) h

pub lost-last : {A B C D X Y : Type 0} (means : X → C) (lacks : C → Bool) (means' : Y → D) (lacks' : D → Bool) (wrap : A → B → C → D) (whole : Draft D) (a : Draft A) (b : Draft B) (c : Draft C) (scope : Scope) (n m k : ℕ) (e : LinkFail) →
    whole ≡ joined_three wrap a b c → ((x : A) (y : B) (z : C) → lacks z ≡ true → lacks' (wrap x y z) ≡ true) → m ≡ n + length a.strings → k ≡ m + length b.strings → Links means lacks (Err e) (c.drawn scope k) →
    Links means' lacks' (Err e) (whole.drawn scope n)
lost-last means lacks means' lacks' wrap whole a b c scope n m k e is all next next' h =
    lost means lacks (c.drawn scope k) means' lacks' (whole.drawn scope n) e
    (λ j. ap (λ d. lacks' (d.drawn scope n)) is
    ∙ all (a.drawn scope n) (b.drawn scope (n + length a.strings)) (c.drawn scope (n + length (a.strings ++ b.strings)))
    (ap (λ i. lacks (c.drawn scope i)) (sym (sum_of_two n m k a.strings b.strings next next')) ∙ j)) h

-- ## Strings that are put behind others

pub put-one : {E : Type 0} (r : Result (Unit {0}) E) (before now xs whole : List (List ℕ)) → whole ≡ xs → OnOk r (now ≡ before ++ xs) → OnOk r (now ≡ before ++ whole)
put-one (Ok done) before now xs whole is h = h ∙ ap (λ z. before ++ z) (sym is)
put-one (Err e) before now xs whole is h = h

pub put-two : {E : Type 0} (r : Result (Unit {0}) E) (before between now xs ys whole : List (List ℕ)) → whole ≡ xs ++ ys → between ≡ before ++ xs → OnOk r (now ≡ between ++ ys) → OnOk r (now ≡ before ++ whole)
put-two (Ok done) before between now xs ys whole is one h =
    h ∙ ap (λ z. z ++ ys) one ∙ append_assoc before xs ys ∙ ap (λ z. before ++ z) (sym is)
put-two (Err e) before between now xs ys whole is one h = h

pub put-three : {E : Type 0} (r : Result (Unit {0}) E) (before first second now xs ys zs whole : List (List ℕ)) → whole ≡ (xs ++ ys) ++ zs → first ≡ before ++ xs → second ≡ first ++ ys →
    OnOk r (now ≡ second ++ zs) → OnOk r (now ≡ before ++ whole)
put-three r before first second now xs ys zs whole is one two h =
    put-two r before second now (xs ++ ys) zs whole is (two ∙ ap (λ z. z ++ ys) one ∙ append_assoc before xs ys) h
