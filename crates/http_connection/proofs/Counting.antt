-- Counts of calls behind others that counted nothing.
use Rattle.std.proofs.Common.{◌≡◌, ℕ, List, Option, ap, ◌∙◌}
use Rattle.counted_io.specs.Counting.{one_more}
use Rattle.counted_io.specs.Counts.{CountsNothing, CountsFailure, CountsWait, CountsEnd}
use Rattle.counted_io.specs.Wires.{CountsOf}
use Rattle.http_connection.specs.declared.ended.Ended.TheVariants as end
use Rattle.http_connection.specs.declared.turned.Turned.{Turned}
use Rattle.http_connection.specs.declared.turned.Turned.TheVariants as turned
use Rattle.http_connection.specs.declared.turned.Want.TheVariants as want
use Rattle.http_connection.specs.Connections.{ConnectionData}
use Rattle.http_connection.specs.Ends.{IsTurned}

-- calls of one direction leave the counts of the other
pub same_counts : (a b : CountsOf) → b ≡ a → CountsNothing a b
same_counts a b same = (ap (λ c. c.failures) same, ap (λ c. c.waits) same, ap (λ c. c.ends) same)

pub nothing_on : (a b c : CountsOf) → CountsNothing a b → CountsNothing b c → CountsNothing a c
nothing_on a b c h k = (k.0 ∙ h.0, k.1 ∙ h.1, k.2 ∙ h.2)

failure_on : (a b c : CountsOf) → CountsNothing a b → CountsFailure b c → CountsFailure a c
failure_on a b c h k = (k.0 ∙ ap one_more h.0, k.1 ∙ h.1, k.2 ∙ h.2)

wait_on : (a b c : CountsOf) → CountsNothing a b → CountsWait b c → CountsWait a c
wait_on a b c h k = (k.0 ∙ h.0, k.1 ∙ ap one_more h.1, k.2 ∙ h.2)

end_on : (a b c : CountsOf) → CountsNothing a b → CountsEnd b c → CountsEnd a c
end_on a b c h k = (k.0 ∙ h.0, k.1 ∙ h.1, k.2 ∙ ap one_more h.2)

pub turned_on : (result : Turned) (connection : ConnectionData) (has : Option (List ℕ)) (a b c x y z : CountsOf)
    → CountsNothing a b → CountsNothing x y → IsTurned result connection has b c y z → IsTurned result connection has a c x z
turned_on turned.GoesOn connection has a b c x y z h k is = (nothing_on a b c h is.0, nothing_on x y z k is.1)
turned_on (turned.Waits want.Bytes) connection has a b c x y z h k is = ((is.0.0, is.0.1, wait_on a b c h is.0.2), nothing_on x y z k is.1)
turned_on (turned.Waits want.Room) connection has a b c x y z h k is = (is.0, nothing_on a b c h is.1, wait_on x y z k is.2)
turned_on (turned.Ended end.Closed) connection has a b c x y z h k is = ((is.0.0, is.0.1, is.0.2, end_on a b c h is.0.3), nothing_on x y z k is.1)
turned_on (turned.Ended end.Finished) connection has a b c x y z h k is = (is.0, is.1, nothing_on a b c h is.2, nothing_on x y z k is.3)
turned_on (turned.Ended end.Truncated) connection has a b c x y z h k is = ((is.0.0, is.0.1, is.0.2, end_on a b c h is.0.3), nothing_on x y z k is.1)
turned_on (turned.Ended end.ReadFailed) connection has a b c x y z h k is = ((is.0.0, is.0.1, failure_on a b c h is.0.2), nothing_on x y z k is.1)
turned_on (turned.Ended end.WriteFailed) connection has a b c x y z h k is = (is.0, nothing_on a b c h is.1, failure_on x y z k is.2)
turned_on (turned.Ended end.OutOfMemory) connection has a b c x y z h k is = ((is.0.0, is.0.1, nothing_on a b c h is.0.2), nothing_on x y z k is.1)
