-- What a line of a replay asks for.
use Rattle.std.specs.Prelude.{ℕ, List, Option, Some, None, Result, Err, if◌then◌else◌, codes}
use Rattle.std.specs.Option.{ok_or}
use Rattle.std.specs.Str.{bytes_eq}
use Rattle.serde_json.specs.Data.{Data}
use Rattle.refusals.specs.declared.RefusalNumber.{RefusalNumber}
use Rattle.refusals.specs.declared.RefusalNumber.TheVariants as refusal
use Rattle.texts.specs.Outcomes.{◌>>=◌}
use Rattle.texts.specs.JsonText.{json_of}
use Rattle.requests.specs.Asking.{request_of}
use Rattle.requests.specs.Values.{number_at, text_at}
use Rattle.requests.specs.declared.asking.RequestKind.{RequestKind}
use Rattle.requests.specs.declared.asking.RequestKind.TheVariants as kind
use Rattle.replay.specs.declared.asking.Asked.{Asked}
use Rattle.service.specs.Asked.{RequestData, request_data}

-- what is to be done, and at which moment
pub record Wish : Type 0 where
  pub moment : ℕ
  pub want : RequestData

-- what the program's own values stand for
abbrev pub wished : Asked → Wish
wished asked = record { moment = asked.moment; want = request_data asked.request }

-- ---- what a line asks for

-- the kind of request that a name stands for
abbrev pub kind_named : List ℕ → Option RequestKind
kind_named name =
    if bytes_eq name (codes "acquire") then Some kind.Acquire
    else (if bytes_eq name (codes "report") then Some kind.Report
    else (if bytes_eq name (codes "release") then Some kind.Release
    else (if bytes_eq name (codes "install") then Some kind.Install
    else (if bytes_eq name (codes "transition") then Some kind.Move
    else (if bytes_eq name (codes "reset") then Some kind.Reset
    else (if bytes_eq name (codes "read") then Some kind.Read
    else (if bytes_eq name (codes "cut") then Some kind.Cut
    else (if bytes_eq name (codes "roll") then Some kind.Roll
    else None))))))))

-- what a JSON value asks for; None where it is no object, or a value is missing, of the wrong kind or out of range
unfoldable pub asked_in : Data → Option Wish
asked_in d = do
  moment ← number_at (codes "at") d
  name ← text_at (codes "do") d
  kind ← kind_named name
  want ← request_of kind d
  Some (record { moment = moment; want = want })

abbrev pub asked_by : Option Data → Result Wish RefusalNumber
asked_by None = Err refusal.BadJson
asked_by (Some d) = ok_or (asked_in d) refusal.BadValue

-- what a line asks for, or why it is refused
abbrev pub asked : List ℕ → Result Wish RefusalNumber
asked line = asked_by (json_of line)
