-- Formats of texts, computed.
use Rattle.std.proofs.Common.{◌≡◌, None, Some, refl}
use Rattle.std.specs.Prelude.{codes}
use Rattle.edit_meaning.specs.Formats.{IntIn, TextIn, Literal, RightBy, NextRecord, Empty, Takes, Does, Group}
use Rattle.edit_meaning.specs.FormatTexts.{format_of, format_end}

-- (I3,2(1X,A5)/'it''s',3Hab )
several : format_of (codes "(I3,2(1X,A5)/'it''s',3Hab ) and more")
    ≡ Some (Takes 1 (IntIn 3 None) (Group 2 (Does 1 (RightBy 1) (Takes 1 (TextIn (Some 5)) Empty)) (Does 1 NextRecord
    (Does 1 (Literal (codes "it's")) (Does 1 (Literal (codes "ab ")) Empty)))))
unfolding format_of
several = refl

several_end : format_end (codes "(I3,2(1X,A5)/'it''s',3Hab ) and more") ≡ Some 27
unfolding format_end
several_end = refl

-- blanks outside texts, lower case, and leading zeros
spread : format_of (codes " ( 0 2 i 1 0 . 3 , 3pa : ) ") ≡ format_of (codes "(2I10.3,3PA:)")
unfolding format_of
spread = refl

none : format_of (codes "()") ≡ Some Empty
unfolding format_of
none = refl

unfit : format_of (codes "(I5,,I3)") ≡ None
unfolding format_of
unfit = refl
