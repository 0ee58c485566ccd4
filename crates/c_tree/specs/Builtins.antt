-- The functions of the library, in a fixed order, and what each takes and gives (CSTR 149, appendix on the run
-- time library, in this project's profile).
use Rattle.std.specs.Prelude.{ℕ, Bool, true, false, List, [], ◌∷◌, map, codes}
use Rattle.c_tree.specs.World.{Direction, Output, Input}

-- what a transfer is: formatted or list-directed, on a unit or on an internal file
pub data Style : Type 0 where
  ByFormat : Style
  ByList : Style

pub data Site : Type 0 where
  OnUnit : Site
  InMemory : Site

pub record TransferKind : Type 0 where
  pub direction : Direction
  pub style : Style
  pub site : Site

abbrev pub transfer_kind : Direction → Style → Site → TransferKind
transfer_kind direction style site = record { direction = direction; style = style; site = site }

pub data Builtin : Type 0 where
  -- texts and numbers
  s_copy : Builtin
  s_cmp : Builtin
  s_cat : Builtin
  i_indx : Builtin
  pow_ii : Builtin
  i_sign : Builtin
  i_dim : Builtin
  l_ge : Builtin
  l_gt : Builtin
  l_le : Builtin
  l_lt : Builtin
  s_stop : Builtin
  -- the start and the end of a transfer, by what the transfer is
  Begin : TransferKind → Builtin
  Finish : TransferKind → Builtin
  -- items
  do_fio : Builtin
  do_lio : Builtin
  -- OPEN, CLOSE, BACKSPACE, REWIND and ENDFILE
  f_open : Builtin
  f_clos : Builtin
  f_back : Builtin
  f_rew : Builtin
  f_end : Builtin
  -- bits of a number
  i_or : Builtin
  i_and : Builtin
  i_eor : Builtin
  i_not : Builtin
  i_shft : Builtin
  b_test : Builtin
  b_set : Builtin
  b_clr : Builtin
  -- a place outside its declared bounds
  s_rnge : Builtin

-- what a function of the library takes: numbers by value, and pointers
pub data Taken : Type 0 where
  ANumber : Taken
  APointer : Taken

-- a function's name, what it takes from the left, and whether it gives a value
pub record Signature : Type 0 where
  pub builtin : Builtin
  pub name : List ℕ
  pub takes : List Taken
  pub gives : Bool

abbrev pub signature : Builtin → List ℕ → List Taken → Bool → Signature
signature builtin name takes gives = record { builtin = builtin; name = name; takes = takes; gives = gives }

-- two texts and their lengths
abbrev pub two_texts : List Taken
two_texts = APointer ∷ APointer ∷ ANumber ∷ ANumber ∷ []

abbrev pub two_pointers : List Taken
two_pointers = APointer ∷ APointer ∷ []

abbrev pub one_list : List Taken
one_list = APointer ∷ []

abbrev pub signatures : List Signature
signatures =
    signature s_copy (codes "s_copy") two_texts false
    ∷ signature s_cmp (codes "s_cmp") two_texts true
    ∷ signature s_cat (codes "s_cat") (APointer ∷ APointer ∷ APointer ∷ APointer ∷ ANumber ∷ []) false
    ∷ signature i_indx (codes "i_indx") two_texts true
    ∷ signature pow_ii (codes "pow_ii") two_pointers true
    ∷ signature i_sign (codes "i_sign") two_pointers true
    ∷ signature i_dim (codes "i_dim") two_pointers true
    ∷ signature l_ge (codes "l_ge") two_texts true
    ∷ signature l_gt (codes "l_gt") two_texts true
    ∷ signature l_le (codes "l_le") two_texts true
    ∷ signature l_lt (codes "l_lt") two_texts true
    ∷ signature s_stop (codes "s_stop") (APointer ∷ ANumber ∷ []) true
    ∷ signature (Begin (transfer_kind Output ByFormat OnUnit)) (codes "s_wsfe") one_list true
    ∷ signature (Begin (transfer_kind Input ByFormat OnUnit)) (codes "s_rsfe") one_list true
    ∷ signature (Begin (transfer_kind Output ByList OnUnit)) (codes "s_wsle") one_list true
    ∷ signature (Begin (transfer_kind Input ByList OnUnit)) (codes "s_rsle") one_list true
    ∷ signature (Begin (transfer_kind Output ByFormat InMemory)) (codes "s_wsfi") one_list true
    ∷ signature (Begin (transfer_kind Input ByFormat InMemory)) (codes "s_rsfi") one_list true
    ∷ signature (Begin (transfer_kind Output ByList InMemory)) (codes "s_wsli") one_list true
    ∷ signature (Begin (transfer_kind Input ByList InMemory)) (codes "s_rsli") one_list true
    ∷ signature do_fio (codes "do_fio") (APointer ∷ APointer ∷ ANumber ∷ []) true
    ∷ signature do_lio (codes "do_lio") (APointer ∷ APointer ∷ APointer ∷ ANumber ∷ []) true
    ∷ signature (Finish (transfer_kind Output ByFormat OnUnit)) (codes "e_wsfe") [] true
    ∷ signature (Finish (transfer_kind Input ByFormat OnUnit)) (codes "e_rsfe") [] true
    ∷ signature (Finish (transfer_kind Output ByList OnUnit)) (codes "e_wsle") [] true
    ∷ signature (Finish (transfer_kind Input ByList OnUnit)) (codes "e_rsle") [] true
    ∷ signature (Finish (transfer_kind Output ByFormat InMemory)) (codes "e_wsfi") [] true
    ∷ signature (Finish (transfer_kind Input ByFormat InMemory)) (codes "e_rsfi") [] true
    ∷ signature (Finish (transfer_kind Output ByList InMemory)) (codes "e_wsli") [] true
    ∷ signature (Finish (transfer_kind Input ByList InMemory)) (codes "e_rsli") [] true
    ∷ signature f_open (codes "f_open") one_list true
    ∷ signature f_clos (codes "f_clos") one_list true
    ∷ signature f_back (codes "f_back") one_list true
    ∷ signature f_rew (codes "f_rew") one_list true
    ∷ signature f_end (codes "f_end") one_list true
    ∷ signature i_or (codes "i_or") two_pointers true
    ∷ signature i_and (codes "i_and") two_pointers true
    ∷ signature i_eor (codes "i_eor") two_pointers true
    ∷ signature i_not (codes "i_not") (APointer ∷ []) true
    ∷ signature i_shft (codes "i_shft") two_pointers true
    ∷ signature b_test (codes "b_test") two_pointers true
    ∷ signature b_set (codes "b_set") two_pointers true
    ∷ signature b_clr (codes "b_clr") two_pointers true
    ∷ signature s_rnge (codes "s_rnge") (APointer ∷ ANumber ∷ APointer ∷ ANumber ∷ []) true
    ∷ []

abbrev pub builtin_names : List (List ℕ)
builtin_names = map (λ function. function.name) signatures
