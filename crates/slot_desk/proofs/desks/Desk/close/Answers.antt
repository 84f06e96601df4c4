use Rattle.std.proofs.Common.{rules, arith, sym, ap, ◌∙◌, subst, ◌≡◌, ◌+◌, ◌++◌, [], List, length, map, reverse, replicate, vec_len, take, drop, Option}
use Rattle.std.specs.List.{AllByRecursion}
use Rattle.std.proofs.lemmas.List.{length-map, reverse-reverse}
use Rattle.service_profile.specs.Events.{History}
use Rattle.book_slot.specs.Places.{SlotData}
use Rattle.slot_desk.specs.Desks.{DeskData}
use Rattle.slot_desk.specs.Slots.{table_of, back_of, dealt_of, known_of, origin_of}
use Rattle.slot_desk.specs.Closing.{AreOf, AreCourses, CoursesAreMadeBy, NumbersAgree, traces_row, last_of}
use Rattle.slot_desk.specs.Gathering.{Finished, all_added}
use Rattle.slot_desk.proofs.Counting.{Leaves, all_leave, all_back, whole, as_long}
use Rattle.slot_desk.specs.Seats.{SeatData, IsSeatOf}
use Rattle.slot_desk.proofs.Entries.{all_weaker, numbers_agree}
use Rattle.slot_desk.proofs.Known.{all_of, courses_of, seats_begin, all_made, as_many_books}
use Rattle.slot_desk.proofs.desks.Desk.close.Goals as goal

pub gather-requires-clause-some : goal.gather-requires-clause-some
gather-requires-clause-some c =
    let same : vec_len c.args.seats ≡ c.self.inside.given = search rules in
    subst (AllByRecursion (Leaves (vec_len c.args.seats))) (sym c.as_mut_slice.ensures.value) (all_leave _ _ _ (vec_len c.args.seats) c.self.invariant.0 c.self.invariant.1 (omega (arith, same)))

pub finish_all-requires-clause-all : goal.finish_all-requires-clause-all
finish_all-requires-clause-all c =
    let given = c.self.inside.given in
    let same : vec_len c.args.seats ≡ given = search rules in
    let g = c.gather.ensures in
    let many = vec_len c.self.inside.slots in
    let slots = c.gather.new.slots in
    let value = c.as_mut_slice.ensures.value in
    let dealt : map dealt_of slots ≡ map dealt_of c.self.inside.slots.items = g.dealt ∙ ap (map dealt_of) value in
    let kept : take c.self.inside.slots.len (slots ++ drop (length slots) c.self.inside.slots.items) ≡ slots = whole _ _ _ (as_long dealt_of _ _ dealt) (search rules) in
    let twice : slots ≡ reverse c.reverse.new.self.items = sym (ap reverse (c.reverse.ensures.items ∙ ap reverse kept) ∙ reverse-reverse slots) in
    let back : map back_of slots ≡ map (λ k. k + given) (replicate many 0) = g.back ∙ (ap (λ (l : List SlotData). map (λ k. k + vec_len c.args.seats) (map back_of l)) value ∙ (ap (map (λ k. k + vec_len c.args.seats)) c.self.invariant.1 ∙ ap (λ n. map (λ k. k + n) (replicate many 0)) same)) in
    subst (AllByRecursion (λ slot. slot.back ≡ slot.dealt)) twice (all_back slots many given (dealt ∙ c.self.invariant.0) back)

pub returns-clause-all_books : goal.returns-clause-all_books
returns-clause-all_books c =
    let f = c.finish_all.ensures in
    let slots = c.gather.new.slots in
    let dealt : map dealt_of slots ≡ map dealt_of c.self.inside.slots.items = c.gather.ensures.dealt ∙ ap (map dealt_of) c.as_mut_slice.ensures.value in
    let kept : take c.self.inside.slots.len (slots ++ drop (length slots) c.self.inside.slots.items) ≡ slots = whole _ _ _ (as_long dealt_of _ _ dealt) (search rules) in
    let twice : reverse c.reverse.new.self.items ≡ slots = ap reverse (c.reverse.ensures.items ∙ ap reverse kept) ∙ reverse-reverse slots in
    let books : c.finish_all.new.books.items ≡ map last_of f.0 = search rules in
    let done : Finished f.0 slots = subst (λ l. Finished f.0 l) twice f.2 in
    let len : vec_len c.finish_all.new.books ≡ length c.finish_all.new.books.items = search rules in
    let of_books : length c.finish_all.new.books.items ≡ length slots = ap length books ∙ as_many_books f.0 slots done in
    let of_slots : length slots ≡ length c.self.inside.slots.items = as_long dealt_of _ _ dealt in
    let of_tables : length c.args.self.tables ≡ length c.self.inside.slots.items = sym (ap (λ (d : DeskData). length d.tables) c.self.view_is) ∙ length-map c.self.inside.slots.items table_of in
    omega (arith, len, of_books, of_slots, of_tables)

pub returns-clause-good : goal.returns-clause-good
returns-clause-good c =
    let f = c.finish_all.ensures in
    let slots = c.gather.new.slots in
    let dealt : map dealt_of slots ≡ map dealt_of c.self.inside.slots.items = c.gather.ensures.dealt ∙ ap (map dealt_of) c.as_mut_slice.ensures.value in
    let kept : take c.self.inside.slots.len (slots ++ drop (length slots) c.self.inside.slots.items) ≡ slots = whole _ _ _ (as_long dealt_of _ _ dealt) (search rules) in
    let twice : reverse c.reverse.new.self.items ≡ slots = ap reverse (c.reverse.ensures.items ∙ ap reverse kept) ∙ reverse-reverse slots in
    let books : c.finish_all.new.books.items ≡ map last_of f.0 = search rules in
    let done : Finished f.0 slots = subst (λ l. Finished f.0 l) twice f.2 in
    let origins : map origin_of slots ≡ c.args.self.origins = c.gather.ensures.origins ∙ (ap (map origin_of) c.as_mut_slice.ensures.value ∙ ap (λ (d : DeskData). d.origins) c.self.view_is) in
    subst (λ (x : List (Option History) × List History). AreOf x.0 x.1) (λ i. (origins i, sym books i)) (all_of f.0 slots done)

pub returns-clause-begun : goal.returns-clause-begun
returns-clause-begun c =
    let f = c.finish_all.ensures in
    let slots = c.gather.new.slots in
    let dealt : map dealt_of slots ≡ map dealt_of c.self.inside.slots.items = c.gather.ensures.dealt ∙ ap (map dealt_of) c.as_mut_slice.ensures.value in
    let kept : take c.self.inside.slots.len (slots ++ drop (length slots) c.self.inside.slots.items) ≡ slots = whole _ _ _ (as_long dealt_of _ _ dealt) (search rules) in
    let twice : reverse c.reverse.new.self.items ≡ slots = ap reverse (c.reverse.ensures.items ∙ ap reverse kept) ∙ reverse-reverse slots in
    let books : c.finish_all.new.books.items ≡ map last_of f.0 = search rules in
    let done : Finished f.0 slots = subst (λ l. Finished f.0 l) twice f.2 in
    let origins : map origin_of slots ≡ c.args.self.origins = c.gather.ensures.origins ∙ (ap (map origin_of) c.as_mut_slice.ensures.value ∙ ap (λ (d : DeskData). d.origins) c.self.view_is) in
    let many = vec_len c.self.inside.slots in
    let rows = map traces_row c.args.seats.items in
    let known : map known_of slots ≡ all_added (replicate many []) rows = c.gather.ensures.known ∙ ap (λ ks. all_added ks rows) (ap (map known_of) c.as_mut_slice.ensures.value ∙ c.self.invariant.4) in
    record {
      courses = f.0;
      lasts = sym books;
      of_books = subst (λ (os : List (Option History)). AreCourses os f.0) origins (courses_of f.0 slots done);
      begun = seats_begin f.0 slots many c.args.seats.items known done;
      made = subst (λ (os : List (Option History)). CoursesAreMadeBy os f.0 rows) origins (all_made f.0 slots many rows known done);
    }

pub returns-clause-agree : goal.returns-clause-agree
returns-clause-agree c =
    let f = c.finish_all.ensures in
    let slots = c.gather.new.slots in
    let dealt : map dealt_of slots ≡ map dealt_of c.self.inside.slots.items = c.gather.ensures.dealt ∙ ap (map dealt_of) c.as_mut_slice.ensures.value in
    let kept : take c.self.inside.slots.len (slots ++ drop (length slots) c.self.inside.slots.items) ≡ slots = whole _ _ _ (as_long dealt_of _ _ dealt) (search rules) in
    let twice : reverse c.reverse.new.self.items ≡ slots = ap reverse (c.reverse.ensures.items ∙ ap reverse kept) ∙ reverse-reverse slots in
    let books : c.finish_all.new.books.items ≡ map last_of f.0 = search rules in
    let done : Finished f.0 slots = subst (λ l. Finished f.0 l) twice f.2 in
    let origins : map origin_of slots ≡ c.args.self.origins = c.gather.ensures.origins ∙ (ap (map origin_of) c.as_mut_slice.ensures.value ∙ ap (λ (d : DeskData). d.origins) c.self.view_is) in
    let many = vec_len c.self.inside.slots in
    let rows = map traces_row c.args.seats.items in
    let known : map known_of slots ≡ all_added (replicate many []) rows = c.gather.ensures.known ∙ ap (λ ks. all_added ks rows) (ap (map known_of) c.as_mut_slice.ensures.value ∙ c.self.invariant.4) in
    let made = subst (λ (os : List (Option History)). CoursesAreMadeBy os f.0 rows) origins (all_made f.0 slots many rows known done) in
    let of_books = subst (λ (os : List (Option History)). AreCourses os f.0) origins (courses_of f.0 slots done) in
    let of_tables : length c.args.self.tables ≡ length c.self.inside.slots.items = sym (ap (λ (d : DeskData). length d.tables) c.self.view_is) ∙ length-map c.self.inside.slots.items table_of in
    let long : length f.0 ≡ length c.args.self.tables = sym (length-map f.0 last_of) ∙ (as_many_books f.0 slots done ∙ (as_long dealt_of _ _ dealt ∙ sym of_tables)) in
    let here = all_weaker (IsSeatOf c.args.self) (λ (seat : SeatData). length seat.tables ≡ length f.0) c.args.seats.items (λ seat of_. ap length of_ ∙ sym long) c.requires.seats in
    subst (λ (bs : List History). NumbersAgree c.args.self.origins bs c.args.seats.items) (sym books) (numbers_agree c.args.self.origins f.0 c.args.seats.items of_books made here c.gather.ensures.tallied)
