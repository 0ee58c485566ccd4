-- Operands whose calls agree with the procedures of a set come to values, or to a call that agrees, with whose answer their calls agree again.
use Rattle.std.specs.Prelude.{ℕ, List, [], ◌∷◌, length}
use Rattle.fortran_totality.specs.f_tree.Values.{Datum, Checked, Gives, Fails}
use Rattle.fortran_totality.specs.f_tree.Terms.{Callee, Term, Val, Fetch, At, All, Element, Alone, Part, Joined, Before, Between, Intrinsically, Refer, Bind, Bound, Terms, NoMore, More, valued_then}
use Rattle.fortran_totality.specs.f_tree.Store.{Store}
use Rattle.fortran_totality.specs.f_tree.Facts.{ProgramUnit, Facts, Frame}
use Rattle.fortran_totality.specs.f_tree.Valuing.{Red, Valued, Bad, Asks, then_by, at_once, Left, Decided, Wants, Wrong, left_of, right_after, fetched, whole, array_whole, element, alone, part, pieces, joined, prefixed, operated, applied, bound_to, reduce, reduce_all}
use Rattle.fortran_totality.specs.f_tree.WellTyped as typed
use Rattle.fortran_totality.specs.f_tree.WellTyped.{Sort, AreOf, none_of, more_of, IsAnswer, Meant, AreTyped, Sound, EachListIsMeant}
use Rattle.agreeing_runs.specs.AgreeingForms.{Agrees, TermAgrees, TermsAgree}

-- what is asked for agrees with the procedure
pub record AsksWell (S : List ProgramUnit) (c : Facts) (count : ℕ) (callee : Callee) (ds : List Datum) : Type 0 where
  pub sorts : List Sort
  pub operands : AreOf count sorts ds
  pub agrees : Agrees S c callee sorts

unfoldable pub Kept : {A T : Type 0} → List ProgramUnit → Facts → ℕ → (T → Type 0) → Red A T → Type 0
Kept S c count Q (Valued a) = Unit {0}
Kept S c count Q (Bad act) = Unit {0}
Kept S c count Q (Asks callee ds rest) = AsksWell S c count callee ds × ((d : Datum) → IsAnswer count callee.want d → Q (rest d))

pub values_typed : (c : Facts) (n : ℕ) (env sorts : List Sort) (ds : List Datum) → AreOf n sorts ds → AreTyped c n env (valued_then ds NoMore) sorts
unfolding valued_then
values_typed c n env sorts ds none_of = typed.no_terms env
values_typed c n env sorts ds (more_of sort others d more is are) =
    typed.more_terms env (Val d) (valued_then more NoMore) sort others (typed.is_val env d sort is) (values_typed c n env others more are)

module _ (S : List ProgramUnit) (c : Facts) (n : ℕ) where
  pub values_agree : (env : List Sort) (ds : List Datum) → TermsAgree S c n env (valued_then ds NoMore)
  unfolding valued_then TermsAgree TermAgrees
  values_agree env [] = tt
  values_agree env (d ∷ ds) = (tt, values_agree env ds)

  -- the rest of a call goes back into what stands around it
  pub then_kept : {A B T U : Type 0} (Q : T → Type 0) (R : U → Type 0) (r : Red A T) (back : T → U) (go : A → Red B U) → Kept S c n Q r →
      ((rest : T) → Q rest → R (back rest)) → ((a : A) → Kept S c n R (go a)) → Kept S c n R (then_by r back go)
  unfolding Kept then_by
  then_kept Q R (Valued a) back go kept behind next = next a
  then_kept Q R (Bad act) back go kept behind next = tt
  then_kept Q R (Asks callee ds rest) back go kept behind next = (kept.0, λ d answer. behind (rest d) (kept.1 d answer))

  -- the same where what is valued is well typed too
  pub then_typed : {A B T U : Type 0} (P : A → Type 0) (M Q : T → Type 0) (R : U → Type 0) (r : Red A T) (back : T → U) (go : A → Red B U) → Meant c n P M r →
      Kept S c n Q r → ((rest : T) → M rest → Q rest → R (back rest)) → ((a : A) → P a → Kept S c n R (go a)) → Kept S c n R (then_by r back go)
  unfolding Kept then_by Meant
  then_typed P M Q R (Valued a) back go meant kept behind next = next a meant
  then_typed P M Q R (Bad act) back go meant kept behind next = tt
  then_typed P M Q R (Asks callee ds rest) back go meant kept behind next = (kept.0, λ d answer. behind (rest d) (meant.1 d answer) (kept.1 d answer))

  pub at_once_kept : {A T : Type 0} (Q : T → Type 0) (r : Checked A) → Kept S c n Q (at_once r)
  unfolding Kept at_once
  at_once_kept Q (Gives a) = tt
  at_once_kept Q (Fails act) = tt

  pub right_kept : {T : Type 0} (Q : T → Type 0) (left : Left) (right : Red Datum T) → Kept S c n Q right → Kept S c n Q (right_after left right)
  unfolding Kept right_after
  right_kept Q (Decided d) right kept = tt
  right_kept Q Wants right kept = kept
  right_kept Q Wrong right kept = tt

module _ (lists : EachListIsMeant) (S : List ProgramUnit) (c : Facts) (f : Frame) (s : Store) (sound : Sound c f (length s)) where
  mutual
    unfolding reduce reduce_all Kept TermAgrees TermsAgree

    pub term_kept : (env : List Sort) (values : List Datum) → AreOf (length s) env values → (t : Term) → TermAgrees S c (length s) env t →
        Kept S c (length s) (TermAgrees S c (length s) env) (reduce c f s values t)
    term_kept env values are (Val d) h = tt
    term_kept env values are (Fetch t) h =
        then_kept S c (length s) (TermAgrees S c (length s) env) (TermAgrees S c (length s) env) (reduce c f s values t) Fetch (λ d. at_once (fetched s d))
        (term_kept env values are t h) (λ rest q. q) (λ d. at_once_kept S c (length s) (TermAgrees S c (length s) env) (fetched s d))
    term_kept env values are (At x) h = at_once_kept S c (length s) (TermAgrees S c (length s) env) (whole c f x)
    term_kept env values are (All x) h = at_once_kept S c (length s) (TermAgrees S c (length s) env) (array_whole c f x)
    term_kept env values are (Element x ts) h =
        then_kept S c (length s) (TermsAgree S c (length s) env) (TermAgrees S c (length s) env) (reduce_all c f s values ts) (Element x)
        (λ ds. at_once (element c f x ds)) (terms_kept env values are ts h) (λ rest q. q)
        (λ ds. at_once_kept S c (length s) (TermAgrees S c (length s) env) (element c f x ds))
    term_kept env values are (Alone t) h =
        then_kept S c (length s) (TermAgrees S c (length s) env) (TermAgrees S c (length s) env) (reduce c f s values t) Alone (λ d. at_once (alone d))
        (term_kept env values are t h) (λ rest q. q) (λ d. at_once_kept S c (length s) (TermAgrees S c (length s) env) (alone d))
    term_kept env values are (Part x t from to) h =
        then_kept S c (length s) (TermAgrees S c (length s) env) (TermAgrees S c (length s) env) (reduce c f s values t) (λ r. Part x r from to)
        (λ p. then_by (reduce c f s values from) (λ r. Part x (Val p) r to) (λ a. then_by (reduce c f s values to) (Part x (Val p) (Val a)) (λ b. at_once (part x p a b))))
        (term_kept env values are t h.0) (λ rest q. (q, h.1))
        (λ p. then_kept S c (length s) (TermAgrees S c (length s) env) (TermAgrees S c (length s) env) (reduce c f s values from) (λ r. Part x (Val p) r to)
        (λ a. then_by (reduce c f s values to) (Part x (Val p) (Val a)) (λ b. at_once (part x p a b))) (term_kept env values are from h.1.0)
        (λ rest q. (tt, (q, h.1.1)))
        (λ a. then_kept S c (length s) (TermAgrees S c (length s) env) (TermAgrees S c (length s) env) (reduce c f s values to) (Part x (Val p) (Val a))
        (λ b. at_once (part x p a b)) (term_kept env values are to h.1.1) (λ rest q. (tt, (tt, q)))
        (λ b. at_once_kept S c (length s) (TermAgrees S c (length s) env) (part x p a b))))
    term_kept env values are (Joined ts) h =
        then_kept S c (length s) (TermsAgree S c (length s) env) (TermAgrees S c (length s) env) (reduce_all c f s values ts) Joined
        (λ ds. at_once (joined (pieces s ds))) (terms_kept env values are ts h) (λ rest q. q)
        (λ ds. at_once_kept S c (length s) (TermAgrees S c (length s) env) (joined (pieces s ds)))
    term_kept env values are (Before op t) h =
        then_kept S c (length s) (TermAgrees S c (length s) env) (TermAgrees S c (length s) env) (reduce c f s values t) (Before op) (λ d. at_once (prefixed op d))
        (term_kept env values are t h) (λ rest q. q) (λ d. at_once_kept S c (length s) (TermAgrees S c (length s) env) (prefixed op d))
    term_kept env values are (Between op t u) h =
        then_kept S c (length s) (TermAgrees S c (length s) env) (TermAgrees S c (length s) env) (reduce c f s values t) (λ r. Between op r u)
        (λ a. right_after (left_of op a) (then_by (reduce c f s values u) (Between op (Val a)) (λ b. at_once (operated op a b))))
        (term_kept env values are t h.0) (λ rest q. (q, h.1))
        (λ a. right_kept S c (length s) (TermAgrees S c (length s) env) (left_of op a)
        (then_by (reduce c f s values u) (Between op (Val a)) (λ b. at_once (operated op a b)))
        (then_kept S c (length s) (TermAgrees S c (length s) env) (TermAgrees S c (length s) env) (reduce c f s values u) (Between op (Val a))
        (λ b. at_once (operated op a b)) (term_kept env values are u h.1) (λ rest q. (tt, q))
        (λ b. at_once_kept S c (length s) (TermAgrees S c (length s) env) (operated op a b))))
    term_kept env values are (Intrinsically function ts) h =
        then_kept S c (length s) (TermsAgree S c (length s) env) (TermAgrees S c (length s) env) (reduce_all c f s values ts) (Intrinsically function)
        (λ ds. at_once (applied function ds)) (terms_kept env values are ts h) (λ rest q. q)
        (λ ds. at_once_kept S c (length s) (TermAgrees S c (length s) env) (applied function ds))
    term_kept env values are (Refer callee ts) h =
        then_typed S c (length s) (AreOf (length s) h.1.sorts) (λ rest. AreTyped c (length s) env rest h.1.sorts) (TermsAgree S c (length s) env)
        (TermAgrees S c (length s) env) (reduce_all c f s values ts) (Refer callee) (λ ds. Asks callee ds Val)
        (lists c f s sound env values are ts h.1.sorts h.1.typed) (terms_kept env values are ts h.0)
        (λ rest m q. (q, record { sorts = h.1.sorts; typed = m; agrees = h.1.agrees }))
        (λ ds of. (record { sorts = h.1.sorts; operands = of; agrees = h.1.agrees }, λ d answer. tt))
    term_kept env values are (Bind ts t) h =
        then_typed S c (length s) (AreOf (length s) h.1.0) (λ rest. AreTyped c (length s) env rest h.1.0) (TermsAgree S c (length s) env)
        (TermAgrees S c (length s) env) (reduce_all c f s values ts) (λ rs. Bind rs t) (λ ds. then_by (reduce c f s ds t) (Bind (valued_then ds NoMore)) Valued)
        (lists c f s sound env values are ts h.1.0 h.1.1.0) (terms_kept env values are ts h.0)
        (λ rest m q. (q, (h.1.0, (m, h.1.1.1))))
        (λ ds of. then_kept S c (length s) (TermAgrees S c (length s) h.1.0) (TermAgrees S c (length s) env) (reduce c f s ds t) (Bind (valued_then ds NoMore)) Valued
        (term_kept h.1.0 ds of t h.1.1.1)
        (λ rest q. (values_agree S c (length s) env ds, (h.1.0, (values_typed c (length s) env h.1.0 ds of, q)))) (λ d. tt))
    term_kept env values are (Bound k) h = at_once_kept S c (length s) (TermAgrees S c (length s) env) (bound_to values k)

    pub terms_kept : (env : List Sort) (values : List Datum) → AreOf (length s) env values → (ts : Terms) → TermsAgree S c (length s) env ts →
        Kept S c (length s) (TermsAgree S c (length s) env) (reduce_all c f s values ts)
    terms_kept env values are NoMore h = tt
    terms_kept env values are (More t ts) h =
        then_kept S c (length s) (TermAgrees S c (length s) env) (TermsAgree S c (length s) env) (reduce c f s values t) (λ r. More r ts)
        (λ d. then_by (reduce_all c f s values ts) (More (Val d)) (λ ds. Valued (d ∷ ds))) (term_kept env values are t h.0) (λ rest q. (q, h.1))
        (λ d. then_kept S c (length s) (TermsAgree S c (length s) env) (TermsAgree S c (length s) env) (reduce_all c f s values ts) (More (Val d))
        (λ ds. Valued (d ∷ ds)) (terms_kept env values are ts h.1) (λ rest q. (tt, q)) (λ ds. tt))
