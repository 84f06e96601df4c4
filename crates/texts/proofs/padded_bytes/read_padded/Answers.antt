use Rattle.std.proofs.Common.{rules, ◌≡◌, length, replicate, Some, true, false, is_err, refl, ap}
use Rattle.texts.proofs.HexBytes.{none_if_long, refused, read}
use Rattle.texts.proofs.padded_bytes.read_padded.Goals as goal

pub returns-then-count-room : goal.returns-then-count-room
returns-then-count-room c =
    rw (none_if_long (length c.args.room.now) c.args.text.now c.if-count-room.true) refl

pub returns-in-Ok : goal.returns-in-Ok
returns-in-Ok c =
    let zeros : c.fill.new.self ≡ replicate (length c.args.room.now) 0 = search rules in
    let done : is_err c.decode_to_slice.result ≡ false = ap is_err c.in-Ok.is in
    let is = read c.args.text.now c.fill.new.self c.decode_to_slice.new.out (length c.args.room.now) c.decode_to_slice.result zeros c.if-count-room.false c.decode_to_slice.ensures.value done in
    rw is.found (ap Some is.count, is.room)

pub returns-in-Err : goal.returns-in-Err
returns-in-Err c =
    let zeros : c.fill.new.self ≡ replicate (length c.args.room.now) 0 = search rules in
    let failed : is_err c.decode_to_slice.result ≡ true = ap is_err c.in-Err.is in
    rw (refused c.args.text.now c.fill.new.self c.decode_to_slice.new.out (length c.args.room.now) c.decode_to_slice.result zeros c.if-count-room.false c.decode_to_slice.ensures.value failed) refl
