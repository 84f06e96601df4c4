use Rattle.std.proofs.Common.{ℕ, List, ◌++◌, codes, ap, ◌∙◌}
use Rattle.http_front.specs.Messages.{line_end, field, status_line, allow_field, close_field}
use Rattle.http_front.proofs.message.head_of.Goals as goal

pub returns : goal.returns
returns c =
    let answer = c.args.answer.now in
    let kind : List ℕ = field (codes "Content-Type") (codes "application/json") in
    let length = λ (digits : List ℕ). field (codes "Content-Length") digits in
    let allow : List ℕ = allow_field answer.allow in
    let close : List ℕ = close_field answer.closes in
    let with_kind = c.in_ok-add_field.ensures ∙ ap (λ text. text ++ kind) c.in_ok-head.ensures in
    let with_length = c.in_ok-add_field-2.ensures ∙ ap (λ text. text ++ length c.format.result.now) with_kind ∙ ap (λ digits. status_line answer.status ++ kind ++ length digits) c.format.ensures.text in
    let with_allow = c.in_ok-add_allow.ensures ∙ ap (λ text. text ++ allow) with_length in
    let with_close = c.in_ok-add_close.ensures ∙ ap (λ text. text ++ close) with_allow in
    c.in_ok-push_str.ensures.bytes ∙ ap (λ text. text ++ line_end) with_close
