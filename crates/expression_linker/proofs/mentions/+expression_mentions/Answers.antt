use Rattle.std.proofs.Common.{sym, ap, ◌∙◌}
use Rattle.c_tree.specs.Linking.{any_of}
use Rattle.expression_linker.specs.Mentions.{has}
use Rattle.expression_linker.proofs.DraftForms.{at-Number, at-Str, at-Name, at-Size, at-Unary, at-Cast, at-Binary, at-Choose, at-Index, at-Field, at-MaxMin, at-Abs}
use Rattle.expression_linker.proofs.MentionForms.{any-two, any-three, any-name}
use Rattle.expression_linker.proofs.mentions.+expression_mentions.Goals as goal

pub returns-in-Number : goal.returns-in-Number
returns-in-Number t c = sym (ap (λ d. any_of (has c.args.names.now) d.names) (at-Number _ _ c.in-Number.is))

pub returns-in-Str : goal.returns-in-Str
returns-in-Str t c = sym (ap (λ d. any_of (has c.args.names.now) d.names) (at-Str _ _ c.in-Str.is))

pub returns-in-SizeInt : goal.returns-in-SizeInt
returns-in-SizeInt t c = sym (ap (λ d. any_of (has c.args.names.now) d.names) (at-Size _ c.in-SizeInt.is))

pub returns-in-Name : goal.returns-in-Name
returns-in-Name t c = any-name (has c.args.names.now) _ _ _ (at-Name _ _ c.in-Name.is) (c.has.ensures ∙ ap (has c.args.names.now) c.as_slice.ensures)

pub returns-in-Unary : goal.returns-in-Unary
returns-in-Unary t c = c.expression_mentions.ensures ∙ sym (ap (λ d. any_of (has c.args.names.now) d.names) (at-Unary _ _ _ _ c.in-Unary.is c.get.ensures))

pub returns-in-Cast : goal.returns-in-Cast
returns-in-Cast t c = c.expression_mentions-in-Cast.ensures ∙ sym (ap (λ d. any_of (has c.args.names.now) d.names) (at-Cast _ _ _ _ c.in-Cast.is c.get-in-Cast.ensures))

pub returns-in-Field : goal.returns-in-Field
returns-in-Field t c = c.expression_mentions-in-Field.ensures ∙ sym (ap (λ d. any_of (has c.args.names.now) d.names) (at-Field _ _ _ _ c.in-Field.is c.get-in-Field.ensures))

pub returns-in-Abs : goal.returns-in-Abs
returns-in-Abs t c = c.expression_mentions-in-Abs.ensures ∙ sym (ap (λ d. any_of (has c.args.names.now) d.names) (at-Abs _ _ _ c.in-Abs.is c.get-in-Abs.ensures))

pub returns-in-Binary : goal.returns-in-Binary
returns-in-Binary t c =
    any-two (has c.args.names.now) _ _ _ _ _ _ (ap (λ d. d.names) (at-Binary _ _ _ _ _ _ c.in-Binary.is c.get-in-Binary.ensures c.get-in-Binary-2.ensures))
    c.expression_mentions-in-Binary.ensures c.expression_mentions-in-Binary-2.ensures c.either.ensures

pub returns-in-Index : goal.returns-in-Index
returns-in-Index t c =
    any-two (has c.args.names.now) _ _ _ _ _ _ (ap (λ d. d.names) (at-Index _ _ _ _ _ c.in-Index.is c.get-in-Index.ensures c.get-in-Index-2.ensures))
    c.expression_mentions-in-Index.ensures c.expression_mentions-in-Index-2.ensures c.either-in-Index.ensures

pub returns-in-MaxMin : goal.returns-in-MaxMin
returns-in-MaxMin t c =
    any-two (has c.args.names.now) _ _ _ _ _ _ (ap (λ d. d.names) (at-MaxMin _ _ _ _ _ _ c.in-MaxMin.is c.get-in-MaxMin.ensures c.get-in-MaxMin-2.ensures))
    c.expression_mentions-in-MaxMin.ensures c.expression_mentions-in-MaxMin-2.ensures c.either-in-MaxMin.ensures

pub returns-in-Choose : goal.returns-in-Choose
returns-in-Choose t c =
    any-three (has c.args.names.now) _ _ _ _ _ _ _ _ _ (ap (λ d. d.names) (at-Choose _ _ _ _ _ _ _ c.in-Choose.is c.get-in-Choose.ensures c.get-in-Choose-2.ensures c.get-in-Choose-3.ensures))
    c.expression_mentions-in-Choose.ensures c.expression_mentions-in-Choose-2.ensures c.expression_mentions-in-Choose-3.ensures c.either-in-Choose.ensures c.either-in-Choose-2.ensures
