use Rattle.std.proofs.Common.{sym}
use Rattle.book.proofs.Planned.{not_permitted, no_place, call_permitted, negated, unnegated}
use Rattle.book.proofs.machine.acquired.Goals as goal

pub returns : goal.returns
returns c = λ held s stands.
    call_permitted s c.args.moment c.permission-permission.result c.next_ticket.result c.current_version.result _ (c.permission-permission.ensures held s stands) (unnegated c.permission-permission.result.given c.if-not-permission.false) (sym (c.if-is_taken.ensures held s stands))
    (c.next_ticket.ensures held s stands) (c.current_version.ensures held s stands) c.permitted.ensures

pub returns-then-not-permission : goal.returns-then-not-permission
returns-then-not-permission c = λ held s stands.
    not_permitted s c.args.moment c.permission-permission.result _ (c.permission-permission.ensures held s stands) (negated c.permission-permission.result.given c.if-not-permission.true) c.refused.ensures

pub returns-then-is_taken : goal.returns-then-is_taken
returns-then-is_taken c = λ held s stands.
    no_place s c.args.moment c.permission-permission.result _ (c.permission-permission.ensures held s stands) (unnegated c.permission-permission.result.given c.if-not-permission.false) (sym (c.if-is_taken.ensures held s stands)) c.refused-then-is_taken.ensures
