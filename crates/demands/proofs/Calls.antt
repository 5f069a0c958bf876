-- The demands, said of the calls: of what each returns and leaves in the room that it was lent, which is what its
-- contract is about (crates/layout/specs/Operations.antt). `ChecksBook` is the contract of book::check; `Checks`,
-- `Lists`, `AnswersPlace` and `Writes` are those of checking, listing, asking for a place and writing.
-- A room is `before` at the call and `after` at the return; r and r' are what is returned: `Ok` with what was done, or
-- `Err` with a refusal, which is a reason and a place. `number_of` is the reason's number; no two reasons have one
-- (crates/layout/proofs/Reasons.antt).
use mathlib.Core.Path.{◌∙◌, ◌≡◌, ap, refl, subst, sym}
use mathlib.Core.Bool.{Bool, false, false≢true, true}
use mathlib.Core.List.{List, ◌++◌}
use mathlib.Core.Option.{some}
use Prim.Native.Nat.{◌*◌, ◌<◌, ◌≤◌, ℕ}
use native.Mathlib.Omega.{arith}
use lib.Dec.{leb}
use lib.ListN.{drop, length, take}
use borrow.Author.Tests.{le-leb, leb-true}
use Rattle.std.specs.Prelude.{Ok, Err}
use Rattle.layout.specs.Result.{◌>>=◌, ◌and◌, done, must, or_refuse, refused}
use Rattle.layout.specs.Lists.{no_names}
use Rattle.layout.specs.Octets.{AllOctets, Numbers64}
use Rattle.layout.specs.Book.{Book, Template, find_template}
use Rattle.layout.specs.BookRules.{book_of, least_length}
use Rattle.layout.specs.Values.{Values, answer_at, listing, measure}
use Rattle.layout.specs.Message.{read_message, template_id, version_of}
use Rattle.layout.specs.Reading.{check_of, has_place, list_of, place_asked, place_by, steps_of, whole_steps}
use Rattle.layout.specs.Writing.{judge_listing, message_octets, write_of, written_length}
use Rattle.layout.specs.Extension.{Extends}
use Rattle.layout.specs.Reasons.{number_of}
use Rattle.layout.specs.Operations.{AnswersPlace, Checks, ChecksBook, Lists, Told, Writes, checked, counted, found}
use Rattle.layout.specs.Operations.{refusal, room_after, told}
use Rattle.layout.specs.Demands.{AlikeOrUnlisted, AsWritten, CallsAlike, CanBeSent, NeverSent, OtherWay, Runs, contents}
use Rattle.layout.specs.Demands.{found_beside, names_at, other_order, reordered, shortest}
use Rattle.demands.proofs.Kept.{found_says, found_seen, seen, seen_by_none}
use Rattle.demands.proofs.Numbers.{book_refuses, check_refuses, lacks_room, place_refuses, write_refuses}
use Rattle.demands.proofs.Outcomes.{Reads, Wrote, counted_listing, counted_writing, first_is, goes_on, left, not_listed}
use Rattle.demands.proofs.Outcomes.{only_tested, refused_listing, refused_writing, rest_is, same_length, stops, told_is}
use Rattle.demands.proofs.Outcomes.{was_accepted, was_read, writes_on}
use Rattle.demands.proofs.Theorems.{both_orders_write_alike, both_say_the_same, older_accepts, other_order_lem}
use Rattle.demands.proofs.Theorems.{read_writes_back, refused_is_never_sent, turned_reads_alike, written_length_lem}
use Rattle.demands.proofs.Theorems.{written_reads_back}
use Rattle.demands.proofs.TwoBooks.{seen_answer}
use Rattle.demands.proofs.Written.{lists_within, written_by_lem}
use Rattle.layout.proofs.Reasons.{numbers_differ}
use Rattle.layout.proofs.Records.{listing_three}
use Rattle.layout.proofs.Results.{and_left, and_right, done_inj, each_way, inv_bind}
use Rattle.layout.proofs.Told.{inv_err, inv_ok}
use Rattle.layout.specs.declared.Answer.{Answer}
use Rattle.layout.specs.declared.Element.{Element}
use Rattle.layout.specs.declared.Refusal.{Refusal}
use Rattle.layout.specs.declared.Reason.TheVariants.{BookUnsendable, MessageTooLong, PlaceUnknown, RoomTooSmall}

-- ---- no two outcomes satisfy one contract

one_outcome : {A : Type 0} {what r r' : A} → r ≡ what → r' ≡ what → r ≡ r'
one_outcome e e' = e ∙ sym e'

pub checking_a_book_has_one_outcome : (book : List ℕ) (r r' : Told (Unit {0})) → ChecksBook book r
    → ChecksBook book r' → r ≡ r'
checking_a_book_has_one_outcome book r r' = one_outcome

pub checking_has_one_outcome : (book m : List ℕ) (r r' : Told (Unit {0})) → Checks book m r → Checks book m r' → r ≡ r'
checking_has_one_outcome book m r r' = one_outcome

pub place_has_one_outcome : (book m steps : List ℕ) (x : Element) (r r' : Told Answer) → AnswersPlace book m steps x r
    → AnswersPlace book m steps x r'
    → r ≡ r'
place_has_one_outcome book m steps x r r' = one_outcome

pub listing_has_one_outcome : (book m before after after' : List ℕ) (r r' : Told ℕ)
    → Lists book m before r after
    → Lists book m before r' after'
    → (r ≡ r') × (after ≡ after')
listing_has_one_outcome book m before after after' r r' c c' =
    (one_outcome c.answer c'.answer, one_outcome c.room c'.room)

pub writing_has_one_outcome : (book : List ℕ) (id : ℕ) (l pool before after after' : List ℕ) (r r' : Told ℕ)
    → Writes book id l pool before r after
    → Writes book id l pool before r' after'
    → (r ≡ r') × (after ≡ after')
writing_has_one_outcome book id l pool before after after' r r' c c' =
    (one_outcome c.answer c'.answer, one_outcome c.room c'.room)

-- ---- demand 1: "Input outside the rules gets the refusal number and place that document 01 fixes": each contract
-- gives both by an equation. Which numbers they are:

pub book_is_refused_with : (book : List ℕ) (z : Refusal) → ChecksBook book (Err z)
    → (1 ≤ number_of z.reason) × (number_of z.reason ≤ 7)
book_is_refused_with book z c = book_refuses book _ _ (inv_err _ (book_of book) z c)

pub message_is_refused_with : (book m : List ℕ) (z : Refusal) → ChecksBook book (Ok tt)
    → Checks book m (Err z)
    → (10 ≤ number_of z.reason) × (number_of z.reason ≤ 22)
message_is_refused_with book m z a c =
    let b = inv_ok _ (book_of book) tt a in
    check_refuses 22 book m b.value b.is (omega arith) (λ _. omega arith) _ _ (inv_err _ (check_of book m) z c)

-- 21 and 22 are of books whose dimensions have four numbers.
pub two_number_message_is_refused_with : (book m : List ℕ) (b : Book) (z : Refusal) → book_of book ≡ done b
    → b.format.in_groups ≡ false
    → Checks book m (Err z)
    → (10 ≤ number_of z.reason) × (number_of z.reason ≤ 20)
two_number_message_is_refused_with book m b z isBook two c =
    check_refuses 20 book m b isBook (omega arith) (λ four. absurd (false≢true (sym two ∙ four))) _ _
    (inv_err _ (check_of book m) z c)

pub place_is_refused_with : (book m steps : List ℕ) (x : Element) (z : Refusal) → Checks book m (Ok tt)
    → AnswersPlace book m steps x (Err z)
    → (30 ≤ number_of z.reason) × (number_of z.reason ≤ 31)
place_is_refused_with book m steps x z a c =
    let t = was_accepted book m a in
    place_refuses book m t.0 t.1 steps x _ _ (inv_err _ _ z c)

pub writing_is_refused_with : (book : List ℕ) (id : ℕ) (l pool before after : List ℕ) (z : Refusal)
    → ChecksBook book (Ok tt)
    → Writes book id l pool before (Err z) after
    → (50 ≤ number_of z.reason) × (number_of z.reason ≤ 55)
writing_is_refused_with book id l pool before after z a c =
    let b = inv_ok _ (book_of book) tt a in
    write_refuses book id l pool (length before) b.value b.is _ _ (refused_writing book id l pool before after z c)

-- "Every operation checks the book first, then the message, then its own arguments."
pub refused_book : (book : List ℕ) (z : Refusal) → ChecksBook book (Err z)
    → ((m : List ℕ) → Checks book m (Err z))
    × ((id : ℕ) (l pool before : List ℕ) → Writes book id l pool before (Err z) before)
unfolding check_of write_of told room_after ◌>>=◌
refused_book book z c =
    let e = inv_err _ (book_of book) z c in
    (λ m. rw e refl, λ id l pool before. record { answer = rw e refl; room = rw e refl })

pub refused_message : (book m : List ℕ) (z : Refusal) → Checks book m (Err z)
    → ((before : List ℕ) → Lists book m before (Err z) before)
    × ((steps : List ℕ) (x : Element) → AnswersPlace book m steps x (Err z))
unfolding list_of place_by place_asked told room_after ◌>>=◌
refused_message book m z c =
    let e = inv_err _ (check_of book m) z c in (
      (λ before.
          let l : list_of book m (length before) ≡ refused z.reason z.place = stops book m _ _ _ e in
          record { answer = rw l refl; room = rw l refl }),
      λ steps x. ap found (sym (stops book m _ _ _ e)),
    )

-- ---- demand 1: "a refused call alters no octet or number of any buffer"; "Listing leaves the room past its last
-- record unaltered", "Room past the message is unaltered"

module _ (book m before after : List ℕ) where
  pub refused_listing_alters_nothing : (z : Refusal) → Lists book m before (Err z) after → after ≡ before
  unfolding room_after ◌>>=◌
  refused_listing_alters_nothing z c = c.room ∙ rw (refused_listing book m before after z c) refl

  pub listing_alters_its_records_only : (n : ℕ) → Lists book m before (Ok n) after
      → (drop (3 * n) after ≡ drop (3 * n) before) × (length after ≡ length before)
  listing_alters_its_records_only n c =
      let k = counted_listing book m before after n c in
      (rest_is _ before after (3 * n) k.long k.stores, same_length _ before after (3 * n) k.long k.stores)

module _ (book : List ℕ) (id : ℕ) (l pool before after : List ℕ) where
  pub refused_writing_alters_nothing : (z : Refusal) → Writes book id l pool before (Err z) after
      → after ≡ before
  refused_writing_alters_nothing z c =
      left before after _ _ _ c.room (refused_writing book id l pool before after z c)

  pub writing_alters_its_message_only : (n : ℕ) → Writes book id l pool before (Ok n) after
      → (drop n after ≡ drop n before) × (length after ≡ length before)
  writing_alters_its_message_only n c =
      let k = counted_writing book id l pool before after n c in
      (rest_is _ before after n k.long k.stores, same_length _ before after n k.long k.stores)

-- ---- demand 2, reading. `Reads book m t`: the book is accepted, and by it `read_message` gives the tree t.

module _ (book m : List ℕ) where
  -- "a message is accepted exactly when the layout accepts it"
  pub verdict_is_the_layouts : (b : Book) → book_of book ≡ done b → (r : Told (Unit {0})) → Checks book m r
      → r ≡ checked (read_message b m)
  unfolding check_of ◌>>=◌
  verdict_is_the_layouts b isBook r c = c ∙ rw isBook (only_tested (read_message b m))

  pub accepted_is_read : Checks book m (Ok tt) → (t : Values) × Reads book m t
  accepted_is_read = was_accepted book m

  pub read_is_accepted : (t : Values) → Reads book m t → Checks book m (Ok tt)
  unfolding check_of told
  read_is_accepted t q = ap checked (sym (goes_on book m _ q))

  -- "every field, group count and data value is the layout's": what is counted, listed and answered is of one tree
  pub one_tree : (t t' : Values) → Reads book m t → Reads book m t' → t ≡ t'
  one_tree t t' q q' = done_inj (sym (goes_on book m (λ b r. done r) q) ∙ goes_on book m (λ b r. done r) q')

  pub listing_lists : (before after : List ℕ) (n : ℕ) → Lists book m before (Ok n) after
      → (t : Values) × Reads book m t × (measure t ≡ n) × (take (3 * n) after ≡ listing t)
  listing_lists before after n c =
      let k = counted_listing book m before after n c in
      (k.values, k.reads, k.count, first_is _ before after (3 * n) k.long k.stores)

  -- "Listing gives the record count with its answer": so many are listed if there is room for them, and else "40:
  -- listing room below three numbers per record", whose place is that count.
  module _ (t : Values) (reads : Reads book m t) (before after : List ℕ) (r : Told ℕ)
      (lists : Lists book m before r after) where
    pub listing_has_room : 3 * measure t ≤ length before → r ≡ Ok (measure t)
    unfolding told ◌>>=◌
    listing_has_room h =
        lists.answer
        ∙ rw (lists_within book m (length before) reads.by t reads.accepted reads.reads h) refl

    pub listing_lacks_room : length before < 3 * measure t → r ≡ Err (refusal RoomTooSmall (measure t))
    unfolding told ◌>>=◌
    listing_lacks_room h = lists.answer ∙ rw (not_listed book m (length before) reads h) refl

  -- 40 comes of nothing else, and a room for as many records as its place says is listed into.
  module _ (before after : List ℕ) (z : Refusal) (lists : Lists book m before (Err z) after)
      (forty : number_of z.reason ≡ 40) where
    abbrev lacking : z.reason ≡ RoomTooSmall
    unfolding number_of
    lacking = numbers_differ z.reason RoomTooSmall forty

    pub listing_only_lacks_room : (t : Values) × Reads book m t × (z.place ≡ measure t)
        × (length before < 3 * measure t)
    listing_only_lacks_room =
        lacks_room book m (length before) z.place
        (refused_listing book m before after z lists ∙ ap (λ r. refused r z.place) lacking)

    pub listing_tells_its_room : (before' after' : List ℕ) (r : Told ℕ) → Lists book m before' r after'
        → 3 * z.place ≤ length before'
        → r ≡ Ok z.place
    listing_tells_its_room before' after' r c room =
        let w = listing_only_lacks_room in
        listing_has_room w.0 w.1 before' after' r c (omega (arith, w.2)) ∙ ap Ok (sym w.2)

  pub place_answers : (steps : List ℕ) (x : Element) (a : Answer) → AnswersPlace book m steps x (Ok a)
      → (t : Values) × Reads book m t × (answer_at (steps_of steps) x t ≡ done a)
  unfolding place_by place_asked
  place_answers steps x a c =
      let w = was_read book m _ a (told_is _ a c) in
      (w.0, w.1, (inv_bind _ _ _ (inv_bind _ _ _ w.2).next).next)

  -- "30: over four steps, or a number that the book lacks", or half a step; else the layout's answer, or 31
  module _ (b : Book) (t : Template) (v : Values) (isBook : book_of book ≡ done b)
      (known : find_template (template_id b.format.big m) b.templates ≡ some t)
      (reads : read_message b m ≡ done v)
      (steps : List ℕ) (x : Element) (r : Told Answer) (answers : AnswersPlace book m steps x r) where
    abbrev known_place : Bool
    known_place =
        whole_steps steps and leb (length (steps_of steps)) 4 and has_place (steps_of steps) x t.shape t.groups

    pub place_is_known : known_place ≡ true → r ≡ found (answer_at (steps_of steps) x v)
    unfolding place_by place_asked or_refuse must ◌>>=◌
    place_is_known h = answers ∙ rw (isBook, reads, known, h) refl

    pub place_is_unknown : known_place ≡ false → r ≡ Err (refusal PlaceUnknown 0)
    unfolding place_by place_asked told or_refuse must ◌>>=◌
    place_is_unknown h = answers ∙ rw (isBook, reads, known, h) refl

-- ---- demand 2, writing

module _ (book : List ℕ) (id : ℕ) (l pool before after : List ℕ) where
  -- "Writing gives the one message that the layout has for a listing"
  pub writing_writes : (n : ℕ) → Writes book id l pool before (Ok n) after
      → (b : Book) × (t : Template) × (v : Values) × (book_of book ≡ done b) × (find_template id b.templates ≡ some t)
      × (judge_listing l pool t ≡ done v)
      × (n ≡ written_length b t v)
      × (take n after ≡ message_octets b t pool v)
  writing_writes n c =
      let k = counted_writing book id l pool before after n c in
      let w = written_by_lem book id l pool (length before) (take n after) k.gives in
      let long = written_length_lem book id l pool w.by w.template w.said w.good w.found w.judged in (
        w.by,
        w.template,
        w.said,
        w.good,
        w.found,
        w.judged,
        sym k.long ∙ ap length (sym w.is) ∙ long,
        sym w.is,
      )

  -- "55 last": a good listing is refused for want of room, or for a message over 65,535 octets, and for nothing else.
  module _ (b : Book) (t : Template) (v : Values) (isBook : book_of book ≡ done b)
      (known : find_template id b.templates ≡ some t)
      (good : judge_listing l pool t ≡ done v)
      (r : Told ℕ) (writes : Writes book id l pool before r after) where
    pub writing_has_room : written_length b t v ≤ length before → written_length b t v ≤ 65535
        → r ≡ Ok (written_length b t v)
    unfolding told must ◌and◌ ◌>>=◌
    writing_has_room h few =
        let e = writes_on book id l pool (length before) b t v isBook known good true
        (rw (le-leb _ _ h, le-leb _ _ few) refl) in
        writes.answer ∙ rw (e, written_length_lem book id l pool b t v isBook known good) refl

    pub writing_lacks_room : (written_length b t v ≤ length before → 65535 < written_length b t v)
        → r ≡ Err (refusal MessageTooLong 0)
    unfolding told must ◌>>=◌
    writing_lacks_room short =
        each_way (leb (written_length b t v) (length before) and leb (written_length b t v) 65535)
        (λ e. let fits = short (leb-true (written_length b t v) (length before) (and_left _ _ e)) in
        absurd (omega (arith, leb-true (written_length b t v) 65535 (and_right _ _ e))))
        (λ e. writes.answer ∙ rw (writes_on book id l pool (length before) b t v isBook known good false e) refl)

  -- "What is written reads back with the same values": the message is accepted, and a listing of it into a room for l
  -- has as many records as l, and record by record the two say the same, "octets, not starts" compared. Numbers are of
  -- 64 bits, as a `&[u64]` has them.
  module _ (small : Numbers64 l) (n : ℕ) (writes : Writes book id l pool before (Ok n) after) where
    written : Wrote book id l pool before n after
    written = counted_writing book id l pool before after n writes

    read_back : (t : Values) × Reads book (take n after) t × (length (listing t) ≡ length l)
        × (contents (take n after) (listing t) ≡ contents pool l)
    unfolding list_of
    read_back =
        let w = written_reads_back book id l pool (length before) (take n after) small written.gives in
        let q = was_read book (take n after) _ (w.0, w.1) w.2 in
        let is : listing q.0 ≡ w.1 =
        ap (λ (l : ℕ × List ℕ). l.1) (done_inj (inv_bind _ _ _ q.2).next) in
        (q.0, q.1, rw is w.4, rw is w.5)

    pub written_is_accepted : Checks book (take n after) (Ok tt)
    written_is_accepted = read_is_accepted book (take n after) read_back.0 read_back.1

    pub written_lists_back : (before' after' : List ℕ) (r : Told ℕ) → length l ≤ length before'
        → Lists book (take n after) before' r after'
        → (k : ℕ) × (r ≡ Ok k) × (3 * k ≡ length l)
        × (contents (take n after) (take (3 * k) after') ≡ contents pool l)
    written_lists_back before' after' r room lists =
        let m = take n after in
        let b = read_back in
        let k = measure b.0 in
        let all : 3 * k ≡ length l = sym (listing_three b.0) ∙ b.2 in
        let e = listing_has_room book m b.0 b.1 before' after' r lists (omega arith) in
        let same = subst (λ (x : Told ℕ). Lists book m before' x after') e lists in
        let q = listing_lists book m before' after' k same in
        let is = q.3 ∙ ap listing (one_tree book m q.0 b.0 q.1 b.1) in
        (k, e, all, rw is b.3)

-- "what is read writes back to the same octets if it carries the book's own version and block lengths, has zero padding
-- and no value out of range", "no kind 6" and zeros after a text's first NUL: that is `AsWritten`. "writing back has
-- the message as pool and room for it"
pub listed_writes_back : (book m : List ℕ) (b : Book) (t : Template) (v : Values)
    → AllOctets m
    → book_of book ≡ done b
    → find_template (template_id b.format.big m) b.templates ≡ some t
    → read_message b m ≡ done v
    → AsWritten b t m v
    → (room listed : List ℕ) (k : ℕ) → Lists book m room (Ok k) listed
    → (before after : List ℕ) (r : Told ℕ) → length m ≤ length before
    → Writes book (template_id b.format.big m) (take (3 * k) listed) m before r after
    → (r ≡ Ok (length m)) × (after ≡ m ++ drop (length m) before)
unfolding told room_after ◌>>=◌
listed_writes_back book m b t v octets isBook known reads a room listed k lists before after r fits writes =
    let q = listing_lists book m room listed k lists in
    let is = q.3
    ∙ ap listing (one_tree book m q.0 v q.1 (record { by = b; accepted = isBook; reads = reads })) in
    let e = read_writes_back book m (length before) b t v octets isBook known reads a fits in
    (writes.answer ∙ rw (is, e) refl, writes.room ∙ rw (is, e) refl)

-- ---- "Templates that can never be sent"

-- A book that its check refuses with 7 has such a template at that place.
pub refused_book_is_never_sent : (book : List ℕ) (n : ℕ) → ChecksBook book (Err (refusal BookUnsendable n))
    → NeverSent book n
refused_book_is_never_sent book n c = refused_is_never_sent book n (inv_err _ (book_of book) _ c)

-- A template that can be sent is written by the call, from the listing of no entries and no octets of data, into any
-- room that has as many octets as rule 7 counts.
pub shortest_is_written : (book : List ℕ) (b : Book) (t : Template) (c : CanBeSent book b t)
    → let n = least_length b.format t.shape t.groups in
    (before after : List ℕ) (r : Told ℕ) → n ≤ length before
    → Writes book t.id (listing (shortest t c.fields)) c.pool before r after
    → (r ≡ Ok n) × (after ≡ c.message ++ drop n before)
unfolding told room_after ◌>>=◌
shortest_is_written book b t c before after r fits writes =
    let e = c.written (length before) (omega (arith, c.long)) in
    (writes.answer ∙ rw (e, c.long) refl, writes.room ∙ rw (e, c.long) refl)

-- ---- demand 3: "For accepted books, the newer a legal extension of the older, and any message whose template is in
-- both"

module _
    (older newer : List ℕ)
    (old new : Book)
    (isOlder : book_of older ≡ done old)
    (isNewer : book_of newer ≡ done new)
    (extends : Extends old new)
    (m : List ℕ)
    (t : Template)
    (inBoth : find_template (template_id old.format.big m) old.templates ≡ some t) where
  -- "if the newer accepts it, so does the older"
  pub older_call_accepts : Checks newer m (Ok tt) → (r : Told (Unit {0})) → Checks older m r → r ≡ Ok tt
  unfolding told
  older_call_accepts a r c =
      c ∙ ap checked (older_accepts older newer old new isOlder isNewer extends m t inBoth (inv_ok _ _ tt a).is)

  places_seen : Checks newer m (Ok tt)
      → (steps : List ℕ) (x : Element)
      → has_place (steps_of steps) x t.shape t.groups ≡ true
      → place_by older m steps x ≡ seen (names_at (steps_of steps) x t.shape t.groups) (place_by newer m steps x)
  unfolding place_by
  places_seen a steps =
      seen_answer older newer old new isOlder isNewer extends m t inBoth (inv_ok _ _ tt a).is (whole_steps steps)
      (steps_of steps)

  -- "with the same answer for every element that the older has", and "kind 6 with the same number where only its list
  -- lacks it": the older's answer is the newer's, seen beside the names of the older's field.
  pub older_call_answers : Checks newer m (Ok tt)
      → (steps : List ℕ) (x : Element)
      → has_place (steps_of steps) x t.shape t.groups ≡ true
      → (r r' : Told Answer) → AnswersPlace older m steps x r → AnswersPlace newer m steps x r'
      → r ≡ found_beside (names_at (steps_of steps) x t.shape t.groups) r'
  older_call_answers a steps x has r r' c c' =
      let l = names_at (steps_of steps) x t.shape t.groups in
      c ∙ ap found (places_seen a steps x has) ∙ found_seen l (place_by newer m steps x) ∙ ap (found_beside l) (sym c')

  -- The same, where the older has an element being told by its call: 30 is "a number that the book lacks".
  pub older_call_answers_but_for_30 : Checks newer m (Ok tt)
      → (steps : List ℕ) (x : Element)
      → (r r' : Told Answer) → AnswersPlace older m steps x r → AnswersPlace newer m steps x r'
      → ¬ (r ≡ Err (refusal PlaceUnknown 0))
      → r ≡ found_beside (names_at (steps_of steps) x t.shape t.groups) r'
  older_call_answers_but_for_30 a steps x r r' c c' has =
      each_way
      (whole_steps steps and leb (length (steps_of steps)) 4 and has_place (steps_of steps) x t.shape t.groups)
      (λ e. older_call_answers a steps x (and_right _ _ (and_right _ _ e)) r r' c c')
      (λ e. let q = accepted_is_read older m (sym (older_call_accepts a _ refl)) in
      let is : q.1.by ≡ old = done_inj (sym q.1.accepted ∙ isOlder) in
      let reads = rw is at q.1.reads in
      absurd (has (place_is_unknown older m old t q.0 isOlder inBoth reads steps x r c e)))

  -- That is: the two answer alike, or the newer answers with a number that the older's list lacks, and the older with
  -- kind 6 and the same number.
  pub both_calls_answer_alike_or_unlisted : Checks newer m (Ok tt)
      → (steps : List ℕ) (x : Element)
      → has_place (steps_of steps) x t.shape t.groups ≡ true
      → (r r' : Told Answer) → AnswersPlace older m steps x r → AnswersPlace newer m steps x r'
      → AlikeOrUnlisted Ok (names_at (steps_of steps) x t.shape t.groups) r r'
  both_calls_answer_alike_or_unlisted a steps x has r r' c c' =
      rw (older_call_answers a steps x has r r' c c') (found_says _ r')

  -- Where the older has no list, as for a group or a data, they answer alike.
  pub both_calls_answer_alike : Checks newer m (Ok tt)
      → (steps : List ℕ) (x : Element)
      → has_place (steps_of steps) x t.shape t.groups ≡ true
      → names_at (steps_of steps) x t.shape t.groups ≡ no_names
      → (r r' : Told Answer) → AnswersPlace older m steps x r → AnswersPlace newer m steps x r' → r ≡ r'
  both_calls_answer_alike a steps x has free r r' c c' =
      c ∙ ap found (places_seen a steps x has ∙ rw free (seen_by_none (place_by newer m steps x))) ∙ sym c'

  -- "if the message's version is no later than the older book's, both accept or both refuse, with the same number and
  -- place"
  pub both_calls_say_the_same : version_of old.format.big m ≤ old.version
      → (r r' : Told (Unit {0})) → Checks older m r → Checks newer m r' → r ≡ r'
  both_calls_say_the_same h r r' c c' =
      c ∙ ap checked (both_say_the_same older newer old new isOlder isNewer extends m t inBoth h) ∙ sym c'

-- ---- "A venue that sends big-endian": a book, and the same book with the other order word

-- Two messages of one tree: the calls see no more than the tree and its template.
module _ (book m book' m' : List ℕ) (b : Book) (t : Values) (isBook : book_of book ≡ done b)
    (isOther : book_of book' ≡ done (other_order b))
    (reads : read_message b m ≡ done t)
    (other : OtherWay b m t m') where
  lists_alike : (room : ℕ) → list_of book m room ≡ list_of book' m' room
  unfolding list_of ◌>>=◌
  lists_alike room = rw (isBook, isOther, reads, other.reads) refl

  places_alike : (steps : List ℕ) (x : Element) → place_by book m steps x ≡ place_by book' m' steps x
  unfolding place_by place_asked ◌>>=◌
  places_alike steps x = rw (isBook, isOther, reads, other.reads, other.template) refl

  pub one_tree_answers_alike : CallsAlike book m book' m'
  unfolding check_of
  one_tree_answers_alike =
      let q : Reads book m t = record { by = b; accepted = isBook; reads = reads } in
      let q' : Reads book' m' t = record { by = other_order b; accepted = isOther; reads = other.reads } in
      record {
        checks = λ r r' c c'. c ∙ ap checked (goes_on book m _ q ∙ sym (goes_on book' m' _ q')) ∙ sym c';
        lists = λ before after after' r r' c c'.
            let same = lists_alike (length before) in (
              c.answer ∙ ap (λ l. counted (l >>= λ x. done x.0)) same ∙ sym c'.answer,
              c.room ∙ ap (λ l. room_after (l >>= λ x. done x.1) before) same ∙ sym c'.room,
            );
        answers = λ steps x r r' c c'. c ∙ ap found (places_alike steps x) ∙ sym c';
        octets = λ before after n c.
            let l = listing_lists book m before after n c in
            rw (l.3 ∙ ap listing (one_tree book m l.0 t l.1 q)) (sym other.octets);
      }

module _ (book : List ℕ) (isAccepted : ChecksBook book (Ok tt)) where
  -- The other is accepted too.
  pub other_order_is_accepted : ChecksBook (reordered book) (Ok tt)
  unfolding told
  other_order_is_accepted =
      let b = inv_ok _ (book_of book) tt isAccepted in
      ap checked (sym (other_order_lem book b.value b.is))

  -- Every message that the one accepts has a message that the other accepts: the same but for numbers turned, with the
  -- same answers for every call.
  pub turned_calls_answer_alike : (m : List ℕ) → Checks book m (Ok tt)
      → (m' : List ℕ) × Runs m 0 m' (length m) × CallsAlike book m (reordered book) m'
  turned_calls_answer_alike m a =
      let t = was_accepted book m a in
      let b = t.1.by in
      let w = turned_reads_alike book b t.1.accepted m t.0 t.1.reads in (
        w.0,
        w.1.runs,
        one_tree_answers_alike book m (reordered book) w.0 b t.0 t.1.accepted
            (other_order_lem book b t.1.accepted) t.1.reads w.1,
      )

  module _ (id : ℕ) (l pool before after after' : List ℕ) where
    -- For one listing both write messages of one length, or refuse alike ..
    pub both_calls_write_alike : (r r' : Told ℕ) → Writes book id l pool before r after
        → Writes (reordered book) id l pool before r' after'
        → r ≡ r'
    both_calls_write_alike r r' c c' =
        let b = inv_ok _ (book_of book) tt isAccepted in
        c.answer ∙ ap counted (sym (both_orders_write_alike book b.value b.is id l pool (length before)))
        ∙ sym c'.answer

    -- .. and what they write reads back alike, into a room for l.
    pub both_calls_read_back_alike : Numbers64 l → (n : ℕ) → Writes book id l pool before (Ok n) after
        → Writes (reordered book) id l pool before (Ok n) after'
        → (room listed listed' : List ℕ) (r r' : Told ℕ) → length l ≤ length room
        → Lists book (take n after) room r listed
        → Lists (reordered book) (take n after') room r' listed'
        → (k : ℕ) × (r ≡ Ok k) × (r' ≡ Ok k)
        × (contents (take n after) (take (3 * k) listed) ≡ contents (take n after') (take (3 * k) listed'))
    both_calls_read_back_alike small n c c' room listed listed' r r' long lists lists' =
        let w = written_lists_back book id l pool before after small n c room listed r long lists in
        let w' = written_lists_back (reordered book) id l pool before after' small n c' room listed' r' long lists' in
        let one : w'.0 ≡ w.0 = omega (arith, w.2, w'.2) in
        (w.0, w.1, w'.1 ∙ ap Ok one, w.3 ∙ sym (rw one at w'.3))
