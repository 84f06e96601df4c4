-- What a service is asked for, and what it answers, as data.
use Rattle.std.specs.Prelude.{ℕ, List, Result, Ok, Err}
use Rattle.bpf_profile.specs.declared.layout.Layout.{Layout}
use Rattle.refusals.specs.declared.RefusalNumber.{RefusalNumber}
use Rattle.verifier.specs.declared.refusal.Refusal.{Refusal}
use Rattle.service_profile.specs.declared.readings.Reading.{Reading}
use Rattle.service_profile.specs.declared.replies.Reply.{Reply}
use Rattle.service_profile.specs.declared.replies.Reply.TheVariants as reply
use Rattle.service_profile.specs.declared.states.State.{State}
use Rattle.service_profile.specs.Events.{EntryData}
use Rattle.service.specs.declared.request.Report.{Report}
use Rattle.service.specs.declared.request.Request.{Request}
use Rattle.service.specs.declared.request.Request.TheVariants as request
use Rattle.service.specs.declared.response.Response.{Response}
use Rattle.service.specs.declared.response.Response.TheVariants as response

-- what is asked for; a program is its bytes
pub data RequestData : Type 0 where
  acquire : RequestData
  report : Report → RequestData
  release : ℕ → RequestData
  install : List ℕ → Layout → RequestData
  move : State → RequestData
  reset : RequestData
  read : RequestData
  page : ℕ → RequestData
  cut : RequestData
  roll : ℕ → RequestData

abbrev pub request_data : Request → RequestData
request_data request.Acquire = acquire
request_data (request.Report reported) = report reported
request_data (request.Release ticket) = release ticket
request_data (request.Install program layout) = install program.items layout
request_data (request.Move state) = move state
request_data request.Reset = reset
request_data request.Read = read
request_data (request.Page from) = page from
request_data request.Cut = cut
request_data (request.Roll last) = roll last

-- what is answered; entries are the lines of a journal, and a page says from which number it was asked
pub data ResponseData : Type 0 where
  replies : Reply → ResponseData
  refuses_program : Refusal → ResponseData
  shows : Reading → ResponseData
  pages : ℕ → List EntryData → ResponseData
  hands : List EntryData → ResponseData

abbrev pub response_data : Response → ResponseData
response_data (response.Reply r) = replies r
response_data (response.ProgramRefused refused) = refuses_program refused
response_data (response.Reading shown) = shows shown
response_data (response.Page from lines) = pages from lines.items
response_data (response.HandedOut lines) = hands lines.items

-- lines that are handed out, or why there are none
abbrev pub handed_out : Result (List EntryData) RefusalNumber → ResponseData
handed_out (Ok lines) = hands lines
handed_out (Err refused) = replies (reply.Refused refused)

-- a page from a number on, or why there is none
abbrev pub page_of : ℕ → Result (List EntryData) RefusalNumber → ResponseData
page_of from (Ok lines) = pages from lines
page_of from (Err refused) = replies (reply.Refused refused)
