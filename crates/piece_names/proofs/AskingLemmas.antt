-- What is told of a shelf that is asked for names.
use Rattle.std.proofs.Common.{◌≡◌, ℕ, zero, suc, ◌+◌, ◌-◌, ◌<◌, ◌≤◌, Bool, true, false, List, refl, sym, ap, subst, ◌∙◌, arith, Option, Some, None, Result, Ok, Err, inl, inr}
use Rattle.std.specs.Prelude.{◌⊎◌, ◌↔◌, ◌||◌, ◌&&◌, not, IsTrue, IsSome, IfSome, IfOk, IfErr, bytes_eq, codes, if◌then◌else◌}
use Rattle.std.specs.List.{list_any}
use Rattle.std.proofs.lemmas.Bool.{cases_Bool, both_ways}
use Rattle.f2c_outside.specs.Shelf.{Contents, ShelfState, Rose}
use Rattle.split_pieces.specs.ChosenNames.{prefix_of, numbered, is_free, first_free, is_named, choice, IsCandidate, with_number}
use Rattle.split_pieces.specs.declared.wanted.Wanted.{Wanted}
use Rattle.split_pieces.specs.declared.wanted.Wanted.TheVariants.{Named}
use Rattle.split_pieces.specs.declared.wanted.WantedName.{WantedName}
use Rattle.piece_names.specs.declared.choosing.ChoiceFail.{ChoiceFail}
use Rattle.piece_names.specs.declared.choosing.ChoiceFail.TheVariants as choice_fail
use Rattle.piece_names.specs.Asking.{has, kept_if, OnlyAsked, IsCause, IsNumbered}

-- what a shelf answers
abbrev pub Answers : Option Contents → List ℕ → Bool → Type 0
Answers o name there = IfSome o (λ contents. IsTrue there ↔ IsSome (contents.files name))

is_free-by : (there : List ℕ → Bool) (taken : List (List ℕ)) (name : List ℕ) (here : Bool) → there name ≡ here
    → is_free there taken name ≡ not (here || list_any (bytes_eq name) taken)
unfolding is_free
is_free-by there taken name here is = ap (λ b. not (b || list_any (bytes_eq name) taken)) is

pub there_is_none : (o : Option Contents) (taken : List (List ℕ)) (name : List ℕ) (there : Bool) → there ≡ true → Answers o name there
    → IfSome o (λ contents. None ≡ kept_if (is_free (has contents) taken name) name)
there_is_none None taken name there yes' answer = tt
there_is_none (Some contents) taken name there yes' answer = sym (ap (λ b. kept_if b name) (is_free-by (has contents) taken name true (answer.0 yes')))

absent : (contents : Contents) (name : List ℕ) (there : Bool) → there ≡ false → Answers (Some contents) name there → has contents name ≡ false
absent contents name there not_there answer = go (cases_Bool (has contents name))
  where
    go : (has contents name ≡ true) ⊎ (has contents name ≡ false) → has contents name ≡ false
    go (inl here) = absurd (both_ways there not_there (answer.1 here))
    go (inr none) = none

pub by_taken : (o : Option Contents) (taken : List (List ℕ)) (name : List ℕ) (there among : Bool) → there ≡ false → Answers o name there
    → among ≡ list_any (bytes_eq name) taken → IfSome o (λ contents. kept_if (not among) name ≡ kept_if (is_free (has contents) taken name) name)
by_taken None taken name there among not_there answer is = tt
by_taken (Some contents) taken name there among not_there answer is =
    ap (λ b. kept_if (not b) name) is ∙ sym (ap (λ b. kept_if b name) (is_free-by (has contents) taken name false (absent contents name there not_there answer)))

pub taken_is_none : (o : Option Contents) (taken : List (List ℕ)) (name : List ℕ) (there among : Bool) → there ≡ false → Answers o name there
    → among ≡ list_any (bytes_eq name) taken → among ≡ true → IfSome o (λ contents. None ≡ kept_if (is_free (has contents) taken name) name)
taken_is_none None taken name there among not_there answer is yes' = tt
taken_is_none (Some contents) taken name there among not_there answer is yes' =
    sym (ap (λ b. kept_if (not b) name) yes') ∙ by_taken (Some contents) taken name there among not_there answer is

pub free_is_some : (o : Option Contents) (taken : List (List ℕ)) (name : List ℕ) (there among : Bool) → there ≡ false → Answers o name there
    → among ≡ list_any (bytes_eq name) taken → among ≡ false → IfSome o (λ contents. Some name ≡ kept_if (is_free (has contents) taken name) name)
free_is_some None taken name there among not_there answer is no' = tt
free_is_some (Some contents) taken name there among not_there answer is no' =
    sym (ap (λ b. kept_if (not b) name) no') ∙ by_taken (Some contents) taken name there among not_there answer is

-- asked twice
pub asked_twice : (a b c : ShelfState) → OnlyAsked a b → OnlyAsked b c → OnlyAsked a c
asked_twice a b c h k = record { told = k.told ∙ h.told; active = k.active ∙ h.active; left = k.left ∙ h.left; faults = omega (arith, h.faults, k.faults) }

pub not_asked : (a : ShelfState) → OnlyAsked a a
not_asked a = record { told = refl; active = refl; left = refl; faults = omega arith }

-- one number more
first_step : (there : List ℕ → Bool) (taken : List (List ℕ)) (prefix : List ℕ) (count n : ℕ) → first_free there taken prefix (suc count) n
    ≡ (if is_free there taken (numbered prefix n) then Some (numbered prefix n) else first_free there taken prefix count (suc n))
unfolding first_free
first_step there taken prefix count n = refl

first_end : (there : List ℕ → Bool) (taken : List (List ℕ)) (prefix : List ℕ) (n : ℕ) → first_free there taken prefix zero n ≡ None
unfolding first_free
first_end there taken prefix n = refl

none_kept : (b : Bool) (name : List ℕ) → None ≡ kept_if b name → b ≡ false
none_kept true name h = absurd (cc h)
none_kept false name h = refl

some_kept : (b : Bool) (name other : List ℕ) → Some other ≡ kept_if b name → b ≡ true
some_kept true name other h = refl
some_kept false name other h = absurd (cc h)

-- the first free name is one of those from a number on
abbrev pub FreeFrom : Option Contents → List (List ℕ) → List ℕ → ℕ → ℕ → Type 0
FreeFrom o taken prefix most i =
    IfSome o (λ contents. first_free (has contents) taken prefix most 0 ≡ first_free (has contents) taken prefix (most - i) i)

pub free_begins : (o : Option Contents) (taken : List (List ℕ)) (prefix : List ℕ) (most : ℕ) → FreeFrom o taken prefix most 0
free_begins None taken prefix most = tt
free_begins (Some contents) taken prefix most =
    let whole : most ≡ most - 0 = omega arith in ap (λ n. first_free (has contents) taken prefix n 0) whole

pub free_on : (o : Option Contents) (taken : List (List ℕ)) (prefix name : List ℕ) (most i : ℕ) → i < most → FreeFrom o taken prefix most i → name ≡ numbered prefix i
    → IfSome o (λ contents. None ≡ kept_if (is_free (has contents) taken name) name) → FreeFrom o taken prefix most (i + 1)
free_on None taken prefix name most i low before name_is none = tt
free_on (Some contents) taken prefix name most i low before name_is none =
    let one : most - i ≡ suc (most - (i + 1)) = omega arith in
    let next : suc i ≡ i + 1 = omega arith in
    let none' : None ≡ kept_if (is_free (has contents) taken (numbered prefix i)) (numbered prefix i) =
    none ∙ ap (λ n. kept_if (is_free (has contents) taken n) n) name_is in
    before ∙ ap (λ n. first_free (has contents) taken prefix n i) one ∙ first_step (has contents) taken prefix (most - (i + 1)) i
    ∙ ap (λ b. if b then Some (numbered prefix i) else first_free (has contents) taken prefix (most - (i + 1)) (suc i)) (none_kept (is_free (has contents) taken (numbered prefix i)) (numbered prefix i) none')
    ∙ ap (λ n. first_free (has contents) taken prefix (most - (i + 1)) n) next

pub free_found : (o : Option Contents) (taken : List (List ℕ)) (prefix name found : List ℕ) (most i : ℕ) → i < most → FreeFrom o taken prefix most i
    → name ≡ numbered prefix i → IfSome o (λ contents. Some found ≡ kept_if (is_free (has contents) taken name) name)
    → IfSome o (λ contents. Some found ≡ first_free (has contents) taken prefix most 0)
free_found None taken prefix name found most i low before name_is some = tt
free_found (Some contents) taken prefix name found most i low before name_is some =
    let one : most - i ≡ suc (most - (i + 1)) = omega arith in
    let some' : Some found ≡ kept_if (is_free (has contents) taken (numbered prefix i)) (numbered prefix i) =
    some ∙ ap (λ n. kept_if (is_free (has contents) taken n) n) name_is in
    let free = some_kept (is_free (has contents) taken (numbered prefix i)) (numbered prefix i) found some' in
    some' ∙ ap (λ b. kept_if b (numbered prefix i)) free
    ∙ sym (before ∙ ap (λ n. first_free (has contents) taken prefix n i) one ∙ first_step (has contents) taken prefix (most - (i + 1)) i
    ∙ ap (λ b. if b then Some (numbered prefix i) else first_free (has contents) taken prefix (most - (i + 1)) (suc i)) free)

pub free_nowhere : (o : Option Contents) (taken : List (List ℕ)) (prefix : List ℕ) (most i : ℕ) → most ≤ i → FreeFrom o taken prefix most i
    → IfSome o (λ contents. None ≡ first_free (has contents) taken prefix most 0)
free_nowhere None taken prefix most i high before = tt
free_nowhere (Some contents) taken prefix most i high before =
    let none : most - i ≡ 0 = omega arith in
    sym (before ∙ ap (λ n. first_free (has contents) taken prefix n i) none ∙ first_end (has contents) taken prefix i)

-- what was told, by another state that tells the same
retold : (o : Option Contents) (taken : List (List ℕ)) (name : List ℕ) (v w : Option (List ℕ)) → v ≡ w
    → IfSome o (λ contents. v ≡ kept_if (is_free (has contents) taken name) name) → IfSome o (λ contents. w ≡ kept_if (is_free (has contents) taken name) name)
retold None taken name v w same h = tt
retold (Some contents) taken name v w same h = sym same ∙ h

pub carried : (o p : Option Contents) (taken : List (List ℕ)) (name : List ℕ) (v w : Option (List ℕ)) → p ≡ o → v ≡ w
    → IfSome p (λ contents. v ≡ kept_if (is_free (has contents) taken name) name) → IfSome o (λ contents. w ≡ kept_if (is_free (has contents) taken name) name)
carried o p taken name v w told same h =
    let P : Option Contents → Type 0 = λ q. IfSome q (λ contents. v ≡ kept_if (is_free (has contents) taken name) name) in retold o taken name v w same (subst P told h)

pub renamed : (o : Option Contents) (taken : List (List ℕ)) (name own : List ℕ) (v : Option (List ℕ)) → name ≡ own
    → IfSome o (λ contents. v ≡ kept_if (is_free (has contents) taken name) name) → IfSome o (λ contents. v ≡ kept_if (is_free (has contents) taken own) own)
renamed o taken name own v same h = let P : List ℕ → Type 0 = λ n. IfSome o (λ contents. v ≡ kept_if (is_free (has contents) taken n) n) in subst P same h

-- the choice
pub choice_own : (o : Option Contents) (taken : List (List ℕ)) (own found : List ℕ)
    → IfSome o (λ contents. Some found ≡ kept_if (is_free (has contents) taken own) own)
    → IfSome o (λ contents. Some found ≡ choice (has contents) taken (record { wanted = Named; name = own }))
unfolding choice is_named
choice_own None taken own found h = tt
choice_own (Some contents) taken own found h =
    let free = some_kept (is_free (has contents) taken own) own found h in
    h ∙ ap (λ b. kept_if b own) free ∙ sym (ap (λ b. if b then Some own else first_free (has contents) taken (prefix_of Named) 1000 0) free)

numbered_own : (o : Option Contents) (taken : List (List ℕ)) (own : List ℕ) (found : Option (List ℕ))
    → IfSome o (λ contents. None ≡ kept_if (is_free (has contents) taken own) own) → IfSome o (λ contents. found ≡ first_free (has contents) taken (codes "zzz") 1000 0)
    → IfSome o (λ contents. found ≡ choice (has contents) taken (record { wanted = Named; name = own }))
unfolding choice is_named prefix_of
numbered_own None taken own found none h = tt
numbered_own (Some contents) taken own found none h =
    h ∙ sym (ap (λ b. if b then Some own else first_free (has contents) taken (codes "zzz") 1000 0) (none_kept (is_free (has contents) taken own) own none))

numbered_again : (o p : Option Contents) (taken : List (List ℕ)) (prefix : List ℕ) (found : Option (List ℕ)) → p ≡ o
    → IfSome p (λ contents. found ≡ first_free (has contents) taken prefix 1000 0) → IfSome o (λ contents. found ≡ first_free (has contents) taken prefix 1000 0)
numbered_again o p taken prefix found told h =
    let P : Option Contents → Type 0 = λ q. IfSome q (λ contents. found ≡ first_free (has contents) taken prefix 1000 0) in subst P told h

pub choice_numbered : {E : Type 0} (r : Result (Option (List ℕ)) E) (o p : Option Contents) (taken : List (List ℕ)) (own : List ℕ) → p ≡ o
    → IfSome o (λ contents. None ≡ kept_if (is_free (has contents) taken own) own)
    → IfOk r (λ found. IfSome p (λ contents. found ≡ first_free (has contents) taken (codes "zzz") 1000 0))
    → IfOk r (λ found. IfSome o (λ contents. found ≡ choice (has contents) taken (record { wanted = Named; name = own })))
choice_numbered (Ok found) o p taken own told none h = numbered_own o taken own found none (numbered_again o p taken (codes "zzz") found told h)
choice_numbered (Err e) o p taken own told none h = tt

-- of a piece without a name
same_choice : (o : Option Contents) (taken : List (List ℕ)) (wanted : Wanted) (own prefix : List ℕ) (found : Option (List ℕ)) → is_named wanted ≡ false → prefix ≡ prefix_of wanted
    → IfSome o (λ contents. found ≡ first_free (has contents) taken prefix 1000 0)
    → IfSome o (λ contents. found ≡ choice (has contents) taken (record { wanted = wanted; name = own }))
unfolding choice
same_choice None taken wanted own prefix found unnamed prefix_is h = tt
same_choice (Some contents) taken wanted own prefix found unnamed prefix_is h =
    h ∙ ap (λ p. first_free (has contents) taken p 1000 0) prefix_is
    ∙ sym (ap (λ b. if b && is_free (has contents) taken own then Some own else first_free (has contents) taken (prefix_of wanted) 1000 0) unnamed)

pub choice_nameless : {E : Type 0} (r : Result (Option (List ℕ)) E) (o : Option Contents) (taken : List (List ℕ)) (wanted : Wanted) (own prefix : List ℕ)
    → is_named wanted ≡ false → prefix ≡ prefix_of wanted
    → IfOk r (λ found. IfSome o (λ contents. found ≡ first_free (has contents) taken prefix 1000 0))
    → IfOk r (λ found. IfSome o (λ contents. found ≡ choice (has contents) taken (record { wanted = wanted; name = own })))
choice_nameless (Ok found) o taken wanted own prefix unnamed prefix_is h = same_choice o taken wanted own prefix found unnamed prefix_is h
choice_nameless (Err e) o taken wanted own prefix unnamed prefix_is h = tt

-- a name with a number is one that a piece may get
pub cause_numbered : {T : Type 0} (r : Result T ChoiceFail) (w : WantedName) (prefix : List ℕ) (before middle after : ℕ) → prefix ≡ prefix_of w.wanted → middle ≡ before
    → IfErr r (IsCause (IsNumbered prefix) middle after) → IfErr r (IsCause (IsCandidate w) before after)
cause_numbered (Ok x) w prefix before middle after prefix_is same cause = tt
cause_numbered (Err choice_fail.NoMemory) w prefix before middle after prefix_is same cause = tt
cause_numbered (Err (choice_fail.Failed name)) w prefix before middle after prefix_is same cause =
    let one = cause.0 in
    (with_number one.0 one.1 (one.2 ∙ ap (λ p. numbered p one.0) prefix_is), subst (λ m. Rose m after) same cause.1)
