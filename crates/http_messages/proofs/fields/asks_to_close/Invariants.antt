use Rattle.std.proofs.Common.{◌≡◌, drop, map}
use Rattle.std.specs.List.{list_any}
use Rattle.httparse.specs.Spans.{header_bytes}
use Rattle.http_messages.specs.Fields.{is_close}
use Rattle.http_messages.proofs.fields.asks_to_close.Given as goal

-- no field so far is one
abbrev pub invariant-loop-field : goal.invariant-loop-field
invariant-loop-field l = list_any is_close (map (header_bytes l.bytes) (drop l.field-index l.fields)) ≡ list_any is_close (map (header_bytes l.bytes) l.fields)
