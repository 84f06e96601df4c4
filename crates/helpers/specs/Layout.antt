-- Where each field stands in a context.
use Rattle.std.specs.Prelude.{ℕ, List, ◌++◌}
use Rattle.byteorder.specs.Endian.{little_bytes}
use Rattle.helpers.specs.declared.fields.Fields.{Fields}
use Rattle.helpers.specs.declared.fields.Kind.{Kind}
use Rattle.helpers.specs.declared.fields.Kind.TheVariants as kind
use Rattle.helpers.specs.declared.fields.Method.{Method}
use Rattle.helpers.specs.declared.fields.Method.TheVariants as method

abbrev pub kind_number : Kind → ℕ
kind_number kind.Response = 0
kind_number kind.Timeout = 1
kind_number kind.Refused = 2
kind_number kind.Reset = 3
kind_number kind.Error = 4

abbrev pub method_number : Method → ℕ
method_number method.Other = 0
method_number method.Get = 1
method_number method.Head = 2
method_number method.Post = 3
method_number method.Put = 4
method_number method.Delete = 5
method_number method.Connect = 6
method_number method.Options = 7
method_number method.Trace = 8
method_number method.Patch = 9

-- the 192 bytes, each number with its lowest byte first: 64 of numbers, and 128 of the body
unfoldable pub context_of : Fields → List ℕ
context_of f =
    little_bytes 4 (kind_number f.kind)
    ++ little_bytes 4 f.status
    ++ little_bytes 8 f.duration
    ++ little_bytes 8 f.request_bytes
    ++ little_bytes 8 f.response_bytes
    ++ little_bytes 4 f.attempt
    ++ little_bytes 4 (method_number f.method)
    ++ little_bytes 8 f.flags
    ++ little_bytes 8 f.body_length
    ++ little_bytes 8 0
    ++ f.front
