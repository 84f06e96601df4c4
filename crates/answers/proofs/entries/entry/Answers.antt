use Rattle.std.proofs.Common.{List, [], ◌∷◌, ◌++◌, codes, flat_map, OnOk, rules, decimal}
use Rattle.json.specs.Token.{Token, begin_object, key, number}
use Rattle.serde_json.specs.Data.{string}
use Rattle.answers.specs.Entries.{event_name, named}
use Rattle.answers.specs.Texts.{count, reply_data}
use Rattle.answers.specs.Writing.{Adds, tokens_of, field_tokens, last_tokens}
use Rattle.answers.proofs.Listed.{adds_end}
use Rattle.answers.proofs.entries.entry.Goals as goal

pub returns : goal.returns
returns c =
    let line = c.args.entry.now in
    let first : List Token = flat_map field_tokens ((codes "event", string (event_name line.event)) ∷ (codes "moment", count line.moment) ∷ (codes "number", count line.number) ∷ []) in
    let asked : List Token = key (codes "reply") ∷ [] in
    let told : List Token = tokens_of (reply_data line.reply) in
    let seat : List Token = key (codes "seat") ∷ number (decimal line.seat) ∷ [] in
    let last : List Token = last_tokens (named line.event) in
    let begun : Adds (begin_object ∷ []) c.args.out.now c.begin_object.new.self = search rules in
    let with_first : Adds first c.begin_object.new.self c.put_members.new.out = rw (c.event_name.ensures, c.event.ensures, c.moment.ensures, c.number.ensures) at c.in_ok-put_members.ensures in
    let with_asked : Adds asked c.put_members.new.out c.key.new.self = search rules in
    let with_told : Adds told c.key.new.self c.reply-2.new.out = rw c.reply.ensures at c.in_ok-reply.ensures in
    let with_seat : Adds seat c.reply-2.new.out c.put_members-2.new.out = rw (c.from.ensures, c.seat.ensures) at c.in_ok-put_members-2.ensures in
    let with_last : OnOk c.end_entry.result (Adds last c.put_members-2.new.out c.end_entry.new.out) = rw c.event-2.ensures at c.end_entry.ensures in
    let r = c.end_entry.result in
    let end = c.end_entry.new.out in
    adds_end r c.args.out.now c.begin_object.new.self end (begin_object ∷ []) (first ++ (asked ++ (told ++ (seat ++ last)))) begun
    (adds_end r c.begin_object.new.self c.put_members.new.out end first (asked ++ (told ++ (seat ++ last))) with_first
    (adds_end r c.put_members.new.out c.key.new.self end asked (told ++ (seat ++ last)) with_asked
    (adds_end r c.key.new.self c.reply-2.new.out end told (seat ++ last) with_told
    (adds_end r c.reply-2.new.out c.put_members-2.new.out end seat last with_seat with_last))))
