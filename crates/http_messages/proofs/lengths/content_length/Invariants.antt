use Rattle.std.proofs.Common.{◌≡◌, drop, map, None}
use Rattle.httparse.specs.Spans.{header_bytes}
use Rattle.http_messages.specs.Lengths.{length_from}
use Rattle.http_messages.proofs.lengths.content_length.Given as goal

-- the fields that are left give with what is known the length of all fields
abbrev pub invariant-loop-field : goal.invariant-loop-field
invariant-loop-field l = length_from l.seen (map (header_bytes l.bytes) (drop l.field-index l.fields)) ≡ length_from None (map (header_bytes l.bytes) l.fields)
