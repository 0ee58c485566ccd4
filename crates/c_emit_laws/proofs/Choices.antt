-- What is had where a choice of the definitions has been made.
use Rattle.std.specs.Prelude.{◌≡◌, Option, Some, None, option_map}
use Rattle.std.proofs.Common.{refl}
use Rattle.c_emit.specs.f_tree.Values.{Checked, Gives, Fails, given_that}

-- what has a value, if what is done with it has one
pub record Got {A B : Type 0} (x : Checked A) (go : A → Checked B) (d : B) : Type 0 where
  pub value : A
  pub is : x ≡ Gives value
  pub gives : go value ≡ Gives d

pub got : {A B : Type 0} (x : Checked A) (go : A → Checked B) (d : B) → given_that x go ≡ Gives d → Got x go d
unfolding given_that
got (Gives a) go d h = record { value = a; is = refl; gives = h }
got (Fails act) go d h = absurd (cc)

-- what is there, if what is made of it is
pub record IsMapped {A B : Type 0} (form : A → B) (x : Option A) (b : B) : Type 0 where
  pub one : A
  pub one_is : x ≡ Some one
  pub is : form one ≡ b

pub mapped_by : {A B : Type 0} (form : A → B) (x : Option A) (b : B) → option_map form x ≡ Some b → IsMapped form x b
mapped_by form (Some a) b h = record { one = a; one_is = refl; is = cc }
mapped_by form None b h = absurd (cc)

pub some_same : {A : Type 0} (a b : A) → Some a ≡ Some b → a ≡ b
some_same a b h = cc
