-- The names of kinds and methods.
use Rattle.std.specs.Prelude.{ℕ, List, Option, Some, None, if◌then◌else◌, codes}
use Rattle.std.specs.Str.{bytes_eq}
use Rattle.helpers.specs.declared.fields.Kind.{Kind}
use Rattle.helpers.specs.declared.fields.Kind.TheVariants as kind
use Rattle.helpers.specs.declared.fields.Method.{Method}
use Rattle.helpers.specs.declared.fields.Method.TheVariants as method

unfoldable pub kind_named : List ℕ → Option Kind
kind_named s =
    if bytes_eq s (codes "response") then Some kind.Response
    else (if bytes_eq s (codes "timeout") then Some kind.Timeout
    else (if bytes_eq s (codes "refused") then Some kind.Refused
    else (if bytes_eq s (codes "reset") then Some kind.Reset
    else (if bytes_eq s (codes "error") then Some kind.Error
    else None))))

-- case matters, and each other text names another method
unfoldable pub method_named : List ℕ → Method
method_named s =
    if bytes_eq s (codes "GET") then method.Get
    else (if bytes_eq s (codes "HEAD") then method.Head
    else (if bytes_eq s (codes "POST") then method.Post
    else (if bytes_eq s (codes "PUT") then method.Put
    else (if bytes_eq s (codes "DELETE") then method.Delete
    else (if bytes_eq s (codes "CONNECT") then method.Connect
    else (if bytes_eq s (codes "OPTIONS") then method.Options
    else (if bytes_eq s (codes "TRACE") then method.Trace
    else (if bytes_eq s (codes "PATCH") then method.Patch
    else method.Other))))))))
