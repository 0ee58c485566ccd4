use Rattle.std.proofs.Common.{◌++◌, ◌∷◌, [], sym, ap, ◌∙◌}
use Rattle.std.proofs.lemmas.List.{append-nil}
use Rattle.expression_linker.specs.StringsSeen.{texts}
use Rattle.expression_linker.proofs.DraftForms.{at-Number, at-Str, at-Name, at-Size, at-Unary, at-Cast, at-Binary, at-Choose, at-Index, at-Field, at-MaxMin, at-Abs}
use Rattle.expression_linker.proofs.PartLaws.{put-one, put-two, put-three}
use Rattle.expression_linker.proofs.strings.+put_strings.Goals as goal

pub returns-in-Number : goal.returns-in-Number
returns-in-Number t c = sym (append-nil (texts c.args.out.now.items)) ∙ ap (λ d. texts c.args.out.now.items ++ d.strings) (sym (at-Number _ _ c.in-Number.is))

pub returns-in-Name : goal.returns-in-Name
returns-in-Name t c = sym (append-nil (texts c.args.out.now.items)) ∙ ap (λ d. texts c.args.out.now.items ++ d.strings) (sym (at-Name _ _ c.in-Name.is))

pub returns-in-SizeInt : goal.returns-in-SizeInt
returns-in-SizeInt t c = sym (append-nil (texts c.args.out.now.items)) ∙ ap (λ d. texts c.args.out.now.items ++ d.strings) (sym (at-Size _ c.in-SizeInt.is))

pub returns-in-Str : goal.returns-in-Str
returns-in-Str t c =
    put-one _ _ _ _ _ (ap (λ d. d.strings) (at-Str _ _ c.in-Str.is) ∙ ap (λ bytes. bytes ∷ []) (sym c.as_slice.ensures)) c.put_string.ensures

pub returns-in-Unary : goal.returns-in-Unary
returns-in-Unary t c = put-one _ _ _ _ _ (ap (λ d. d.strings) (at-Unary _ _ _ _ c.in-Unary.is c.get.ensures)) c.put_strings.ensures

pub returns-in-Cast : goal.returns-in-Cast
returns-in-Cast t c = put-one _ _ _ _ _ (ap (λ d. d.strings) (at-Cast _ _ _ _ c.in-Cast.is c.get-in-Cast.ensures)) c.put_strings-in-Cast.ensures

pub returns-in-Field : goal.returns-in-Field
returns-in-Field t c = put-one _ _ _ _ _ (ap (λ d. d.strings) (at-Field _ _ _ _ c.in-Field.is c.get-in-Field.ensures)) c.put_strings-in-Field.ensures

pub returns-in-Abs : goal.returns-in-Abs
returns-in-Abs t c = put-one _ _ _ _ _ (ap (λ d. d.strings) (at-Abs _ _ _ c.in-Abs.is c.get-in-Abs.ensures)) c.put_strings-in-Abs.ensures

pub returns-in_ok-put_strings-in-Binary : goal.returns-in_ok-put_strings-in-Binary
returns-in_ok-put_strings-in-Binary t c =
    put-two _ _ _ _ _ _ _ (ap (λ d. d.strings) (at-Binary _ _ _ _ _ _ c.in-Binary.is c.get-in-Binary.ensures c.get-in-Binary-2.ensures)) c.in_ok-put_strings-in-Binary.ensures c.put_strings-in-Binary-2.ensures

pub returns-in_ok-put_strings-in-Index : goal.returns-in_ok-put_strings-in-Index
returns-in_ok-put_strings-in-Index t c =
    put-two _ _ _ _ _ _ _ (ap (λ d. d.strings) (at-Index _ _ _ _ _ c.in-Index.is c.get-in-Index.ensures c.get-in-Index-2.ensures)) c.in_ok-put_strings-in-Index.ensures c.put_strings-in-Index-2.ensures

pub returns-in_ok-put_strings-in-MaxMin : goal.returns-in_ok-put_strings-in-MaxMin
returns-in_ok-put_strings-in-MaxMin t c =
    put-two _ _ _ _ _ _ _ (ap (λ d. d.strings) (at-MaxMin _ _ _ _ _ _ c.in-MaxMin.is c.get-in-MaxMin.ensures c.get-in-MaxMin-2.ensures)) c.in_ok-put_strings-in-MaxMin.ensures c.put_strings-in-MaxMin-2.ensures

pub returns-in_ok-put_strings-in-Choose-2 : goal.returns-in_ok-put_strings-in-Choose-2
returns-in_ok-put_strings-in-Choose-2 t c =
    put-three _ _ _ _ _ _ _ _ _ (ap (λ d. d.strings) (at-Choose _ _ _ _ _ _ _ c.in-Choose.is c.get-in-Choose.ensures c.get-in-Choose-2.ensures c.get-in-Choose-3.ensures))
    c.in_ok-put_strings-in-Choose.ensures c.in_ok-put_strings-in-Choose-2.ensures c.put_strings-in-Choose-3.ensures
