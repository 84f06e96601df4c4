-- A book may cross threads, with all that it holds.
use denote.RattleType.{RattleType}
use denote.Param.Send.{IsSend, IsSync, sendable}
use Rattle.std.proofs.Crossing.{crosses, frees, send}
use Rattle.std.proofs.MapsCrossing as maps
use Rattle.bpf_decode.specs.contracts.program.Program as program
use Rattle.verifier.specs.contracts.verified.Verified as verified
use Rattle.bpf_run.specs.contracts.work.Judged as judged
use Rattle.book.specs.contracts.events.Event as event
use Rattle.book.specs.contracts.events.Entry as entry
use Rattle.book.specs.contracts.books.Book as book
use Rattle.circular_buffer.proofs.Crosses.{Cells-send, Deed-send}
use Rattle.service_profile.specs.contracts.replies.Reply as reply
use Rattle.circular_buffer.specs.contracts.cells.Deed as deed
use Rattle.circular_buffer.specs.contracts.heap.HeapCircularBuffer as buffer
use Rattle.circular_buffer.specs.contracts.ring.Ring as ring
use Rattle.std.specs.declared.alloc.Allocator.{Ghosts}
use Rattle.service_profile.specs.contracts.configuration.Config as config
use Rattle.service_profile.specs.contracts.configuration.ConfigParts as parts
use Rattle.service_profile.specs.contracts.standings.Standing as standing
use Rattle.service_profile.specs.contracts.notes.Totals as totals
use Rattle.windows.specs.contracts.buckets.Bucket as bucket
use Rattle.breaker.specs.contracts.sliding.SlidingWindow as sliding
use Rattle.windows.specs.contracts.count.CountWindow as count
use Rattle.windows.specs.contracts.time.TimeWindow as time
use Rattle.breaker.specs.contracts.machine.Breaker as breaker
use Rattle.registry.specs.contracts.holdings.Registry as registry
use Rattle.ghost_list.specs.contracts.list.GhostList as pieces
use Rattle.ghost_list.proofs.Crosses as pieces_sent
use Rattle.book.proofs.FlatSending.{flat_send, flat_sync}

program_send : IsSend program.the_row
program_send = search (sendable, crosses) depth 40 fits 20000

program_sync : IsSync program.the_row
program_sync = search (sendable, crosses) depth 40 fits 20000

pub verified_send : IsSend verified.the_row
verified_send = search (sendable, crosses, program_send, flat_send) depth 40 fits 20000

pub verified_sync : IsSync verified.the_row
verified_sync = search (sendable, crosses, program_sync, flat_sync) depth 40 fits 20000

judged_send : IsSend (judged.the_field).row
judged_send = search (sendable, crosses, verified_send, verified_sync) depth 40 fits 20000

event_send : IsSend (event.the_field).row
event_send = search (sendable, crosses, verified_send, verified_sync, judged_send) depth 40 fits 20000

reply_send : IsSend (reply.the_field).row
reply_send = search sendable depth 200 fits 20000

entry_send : IsSend entry.the_row
entry_send = search (sendable, event_send, reply_send) depth 40 fits 20000

-- ---- windows

module _ (T B : RattleType) (g : Ghosts B.Denot) where
  ring_send : IsSend T → IsSend B → IsSend (deed.the_row T B g) → IsSend (ring.the_field T B g).row
  ring_send s b d = search (sendable, Cells-send) depth 40 fits 20000

  buffer_send : IsSend T → IsSend B → IsSend (deed.the_row T B g) → IsSend (buffer.the_field T B g).row
  buffer_send s b d = search (sendable, ring_send) depth 40 fits 20000

count_send : IsSend (count.the_field).row
count_send = search (sendable, Deed-send, frees, send, buffer_send) depth 40 fits 20000

bucket_send : IsSend bucket.the_row
bucket_send = search sendable depth 40 fits 20000

time_send : IsSend (time.the_field).row
time_send = search (sendable, Deed-send, frees, send, buffer_send, bucket_send) depth 40 fits 20000

sliding_send : IsSend (sliding.the_field).row
sliding_send = search (sendable, count_send, time_send) depth 40 fits 20000

parts_send : IsSend (parts.the_field).row
parts_send = search sendable depth 60 fits 20000

config_send : IsSend (config.the_field).row
config_send = search (sendable, parts_send) depth 40 fits 20000

standing_send : IsSend (standing.the_field).row
standing_send = search sendable depth 40 fits 20000

totals_send : IsSend (totals.the_field).row
totals_send = search sendable depth 40 fits 20000

breaker_send : IsSend (breaker.the_field).row
breaker_send = search (sendable, sliding_send, config_send, standing_send, totals_send) depth 40 fits 20000

-- ---- the book

registry_send : IsSend (registry.the_field).row
registry_send = search (sendable, crosses, maps.crosses, verified_send, verified_sync) depth 40 fits 20000

pieces_send : (A : RattleType) → IsSend A → IsSend (pieces.the_row A)
pieces_send = pieces_sent.pieces_send

pub book_field_send : IsSend (book.the_field).row
book_field_send = search (sendable, crosses, config_send, entry_send, breaker_send, registry_send, verified_send, verified_sync, pieces_send) depth 40 fits 20000

pub book_send : IsSend book.the_row
book_send = search (sendable, crosses, config_send, entry_send, breaker_send, registry_send, verified_send, verified_sync, pieces_send) depth 40 fits 20000
