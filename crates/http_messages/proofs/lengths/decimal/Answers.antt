use Rattle.std.proofs.Common.{◌≢◌, get_or, lit<, sym, ◌∙◌}
use Rattle.std.proofs.lemmas.Bool.{false≢true}
use Rattle.std.proofs.lemmas.Str.Pattern.{starts_char}
use Rattle.http_messages.proofs.Decimals.{read, is_read, is_refused, no_text_is_refused}
use Rattle.http_messages.proofs.lengths.decimal.Goals as goal

pub returns-in_default : goal.returns-in_default
returns-in_default c = no_text_is_refused c.args.text.now (c.in_default.ensures.cases).0

pub returns-in-Ok-parse : goal.returns-in-Ok-parse
returns-in-Ok-parse c =
    let text = c.in-Ok.text.now in
    let same = rw c.in-Ok.text-is at c.in-Ok.ensures.cases.0 in
    let plain : get_or text 0 0 ≢ 43 = λ e. false≢true (sym c.if-starts_with.false ∙ (starts_char 43 text c.starts_with.result c.starts_with.ensures.cases (lit< tt) (lit< tt)).1 e) in
    let number = rw c.in-Ok-parse.is at (read text c.parse.result c.parse.ensures.value.0 plain) in
    rw (sym same) (is_read text c.in-Ok-parse.number number.0 number.1)

pub returns-in-Err : goal.returns-in-Err
returns-in-Err c =
    let text = c.in-Ok.text.now in
    let plain : get_or text 0 0 ≢ 43 = λ e. false≢true (sym c.if-starts_with.false ∙ (starts_char 43 text c.starts_with.result c.starts_with.ensures.cases (lit< tt) (lit< tt)).1 e) in
    let same = rw c.in-Ok.text-is at c.in-Ok.ensures.cases.0 in
    rw (sym same) (is_refused text (rw c.in-Err.is at (read text c.parse.result c.parse.ensures.value.0 plain)))
