-- The body of a response, as compact JSON (RFC 8259), and its HTTP status (RFC 9110, section 15).
use Rattle.std.specs.Prelude.{ℕ, List, length}
use Rattle.serde_json.specs.Data.{Data}
use Rattle.serde_json.specs.Written.{compact_text}
use Rattle.refusals.specs.Table.{status_of}
use Rattle.service.specs.Asked.{ResponseData, replies, refuses_program, shows, pages, hands}
use Rattle.answers.specs.Pages.{page_data}
use Rattle.answers.specs.Texts.{reply_data, reading_data, program_refusal_data, handed_out_data, reply_status}

-- a page has its entries; of the entries that a cut or a roll hands out the count is told
abbrev pub response_json : ResponseData → Data
response_json (replies r) = reply_data r
response_json (refuses_program refused) = program_refusal_data refused
response_json (shows reading) = reading_data reading
response_json (pages from lines) = page_data lines from
response_json (hands lines) = handed_out_data (length lines)

abbrev pub body : ResponseData → List ℕ
body response = compact_text (response_json response)

abbrev pub status : ResponseData → ℕ
status (replies r) = reply_status r
status (refuses_program refused) = status_of refused.number
status other = 200
