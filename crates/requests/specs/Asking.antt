-- What a JSON value asks for.
use Rattle.std.specs.Prelude.{Option, Some, option_map, codes}
use Rattle.serde_json.specs.Data.{Data}
use Rattle.texts.specs.Outcomes.{◌>>=◌}
use Rattle.requests.specs.Layouts.{layout_of}
use Rattle.requests.specs.Programs.{program_of}
use Rattle.requests.specs.Reports.{report_of}
use Rattle.requests.specs.Transitions.{state_of}
use Rattle.requests.specs.Values.{number_at}
use Rattle.requests.specs.declared.asking.RequestKind.{RequestKind}
use Rattle.requests.specs.declared.asking.RequestKind.TheVariants as kind
use Rattle.service.specs.Asked.{RequestData, acquire, report, release, install, move, reset, read, cut, roll}

-- the install of a program for records of a layout; None where one of them can't be used
unfoldable pub install_of : Data → Option RequestData
install_of d = do
  program ← program_of d
  layout ← layout_of d
  Some (install program layout)

-- what a value asks for that is to be a request of this kind; None where it is no object, or a value in it is missing, of the wrong kind or out of range
abbrev pub request_of : RequestKind → Data → Option RequestData
request_of kind.Acquire d = Some acquire
request_of kind.Report d = option_map report (report_of d)
request_of kind.Release d = option_map release (number_at (codes "ticket") d)
request_of kind.Install d = install_of d
request_of kind.Move d = option_map move (state_of d)
request_of kind.Reset d = Some reset
request_of kind.Read d = Some read
request_of kind.Cut d = Some cut
request_of kind.Roll d = option_map roll (number_at (codes "to") d)
