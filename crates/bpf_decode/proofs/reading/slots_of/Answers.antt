use Rattle.std.proofs.Common.{◌∙◌, ap, ◌/◌, length, map, arith}
use Rattle.std.proofs.lemmas.List.{take_all}
use Rattle.bpf_profile.specs.SpellingFaults.{slot_at}
use Rattle.bpf_decode.proofs.Texts.{chunk_slots, one_chunk_more}
use Rattle.bpf_decode.proofs.reading.slots_of.Goals as goal

pub returns : goal.returns
returns c =
    let all = take_all c.loop-chunk.chunk-index c.as_chunks.result.0.now (omega arith) in
    c.loop-chunk.invariant.0 ∙ ap (map slot_at) (all ∙ c.as_chunks.ensures.front) ∙ chunk_slots (length c.args.bytes.now / 8) c.args.bytes.now

pub push_reserved-requires : goal.push_reserved-requires
push_reserved-requires c = omega (arith, c.loop-chunk.invariant.1, c.loop-chunk.invariant.2, c.loop-chunk-test.true)

pub loop-chunk-init : goal.loop-chunk-init
loop-chunk-init c = (c.in_ok-slots.ensures.items, c.in_ok-slots.ensures.len, omega (arith, c.in_ok-slots.ensures.capacity))

pub loop-chunk-preserved : goal.loop-chunk-preserved
loop-chunk-preserved c = (
  rw c.push_reserved.ensures.items (rw c.loop-chunk.invariant.0 (rw c.slot_at.ensures (one_chunk_more c.as_chunks.result.0.now c.loop-chunk.chunk-index c.loop-chunk-test.true))),
  omega (arith, c.push_reserved.ensures.len, c.loop-chunk.invariant.1),
  omega (arith, c.push_reserved.ensures.capacity, c.loop-chunk.invariant.2),
)
