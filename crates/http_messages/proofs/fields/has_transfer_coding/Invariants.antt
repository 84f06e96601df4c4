use Rattle.std.proofs.Common.{◌≡◌, drop, map}
use Rattle.std.specs.List.{list_any}
use Rattle.httparse.specs.Spans.{header_bytes}
use Rattle.http_messages.specs.Fields.{is_transfer_coding}
use Rattle.http_messages.proofs.fields.has_transfer_coding.Given as goal

-- no field so far is one
abbrev pub invariant-loop-field : goal.invariant-loop-field
invariant-loop-field l = list_any is_transfer_coding (map (header_bytes l.bytes) (drop l.field-index l.fields)) ≡ list_any is_transfer_coding (map (header_bytes l.bytes) l.fields)
