-- The theorems, over the definitions of document 01 in crates/layout/specs. Octets, words and numbers are natural
-- numbers; a book, a message and a pool are lists of octets, a listing is a list of numbers. An operation comes to
-- `done` with its result or `refused` with reason and place.
use mathlib.Core.Path.{◌∙◌, ◌≡◌, ap, sym}
use mathlib.Core.Bool.{false, true}
use mathlib.Core.List.{List}
use mathlib.Core.Option.{some}
use Prim.Native.Nat.{◌*◌, ◌<◌, ◌≤◌, ℕ}
use native.Mathlib.Omega.{arith}
use lib.ListN.{length}
use Rattle.layout.specs.Result.{Each, ◌>>=◌, ◌or◌, done, refused}
use Rattle.layout.specs.Octets.{AllOctets, Numbers64}
use Rattle.layout.specs.Types.{type_at}
use Rattle.layout.specs.Lists.{beside, no_names, set}
use Rattle.layout.specs.Book.{Book, Field, Template, find_template, is_array, is_optional}
use Rattle.layout.specs.BookRules.{book_of, least_length}
use Rattle.layout.specs.Values.{Step, Values, listing}
use Rattle.layout.specs.Message.{read_message, template_id, version_of}
use Rattle.layout.specs.Reading.{check_of, has_place, list_of, place_of}
use Rattle.layout.specs.Writing.{judge_listing, message_octets, write_of, written_length}
use Rattle.layout.specs.Extension.{Extends}
use Rattle.layout.specs.Demands.{AlikeOrUnlisted, AsWritten, CanBeSent, HasValue, NeverSent, NoneInRange, OtherWay}
use Rattle.layout.specs.Demands.{contents, names_at, other_order, reordered}
use Rattle.layout.proofs.HaveValues.{fields_have_values, none_in_range}
use Rattle.layout.proofs.Least.{least_written}
use Rattle.layout.proofs.Lengths.{written_long}
use Rattle.demands.proofs.Kept.{seen_by_none, seen_says}
use Rattle.demands.proofs.OtherBook.{other_book}
use Rattle.demands.proofs.OtherOrder.{turned_message, writes_alike}
use Rattle.demands.proofs.Returned.{written_back}
use Rattle.demands.proofs.Sent.{never_sent, said_has_values, sent}
use Rattle.demands.proofs.TwoBooks.{accepts_too, same_verdict, seen_answer}
use Rattle.demands.proofs.Written.{reads_again, written_by_lem}
use Rattle.layout.proofs.Accepted.{EachField, accepted}
use Rattle.layout.proofs.Bits.{bits_within}
use Rattle.layout.proofs.Results.{and_left, and_right, bind_done, done_inj}
use Rattle.layout.specs.declared.Element.{Element}
use Rattle.layout.specs.declared.Reason.TheVariants.{BookUnsendable}

-- ---- an accepted book

-- "5 also for .. a bit beyond the width", of which rule 5 tests the greatest: where a field has a set, none of its bits
-- is beyond the field's width.
pub bits_within_width : (book : List ℕ) (b : Book) (id : ℕ) (t : Template)
    → book_of book ≡ done b
    → find_template id b.templates ≡ some t
    → EachField (λ f. f.names.kind ≡ set → Each (λ n. n < 8 * (type_at f.type).width) f.names.numbers) t.shape
    t.groups
bits_within_width book b id t e h = bits_within b t (accepted book b id t e h).1

-- ---- demand 2

-- "What is written reads back with the same values": the message is accepted, its listing fits where the listing that
-- it was written from stood, and record by record the two say the same, "octets, not starts" compared.
pub written_reads_back : (book : List ℕ) (id : ℕ) (l pool : List ℕ) (room : ℕ) (m : List ℕ)
    → Numbers64 l
    → write_of book id l pool room ≡ done m
    → (n : ℕ) × (read : List ℕ) × (list_of book m (length l) ≡ done (n, read)) × (3 * n ≡ length l)
    × (length read ≡ length l)
    × (contents m read ≡ contents pool l)
written_reads_back book id l pool room m small e =
    let r = reads_again book id l pool room m small (written_by_lem book id l pool room m e) in
    (r.count, r.read, r.lists, r.all, r.long, r.same)

-- "what is read writes back to the same octets if it carries the book's own version and block lengths, has zero padding
-- and no value out of range", "no kind 6" and zeros after a text's first NUL: that is `AsWritten`. "writing back has
-- the message as pool and room for it"
pub read_writes_back : (book m : List ℕ) (room : ℕ) (b : Book) (t : Template) (r : Values)
    → AllOctets m
    → book_of book ≡ done b
    → find_template (template_id b.format.big m) b.templates ≡ some t
    → read_message b m ≡ done r
    → AsWritten b t m r
    → length m ≤ room
    → write_of book (template_id b.format.big m) (listing r) m room ≡ done m
read_writes_back = written_back

-- "Its length is 12 plus the declared root block, 4 per group record, the declared block per entry, and 2 plus its
-- length per data", or "8 per group record" where dimensions have four numbers: of the message for a listing that was
-- judged to be r.
pub written_length_lem : (book : List ℕ) (id : ℕ) (l pool : List ℕ) (b : Book) (t : Template) (r : Values)
    → book_of book ≡ done b
    → find_template id b.templates ≡ some t
    → judge_listing l pool t ≡ done r
    → length (message_octets b t pool r) ≡ written_length b t r
written_length_lem book id l pool b t r e h j = written_long l pool b t r (accepted book b id t e h).1.layout j

-- ---- "Templates that can never be sent"

-- No message of a template is shorter than what rule 7 measures.
pub none_is_shorter : (l pool : List ℕ) (b : Book) (t : Template) (r : Values)
    → judge_listing l pool t ≡ done r
    → least_length b.format t.shape t.groups ≤ written_length b t r
none_is_shorter = least_written

-- Where a book is refused by 7, no listing of the template at that place has a message of at most 65,535 octets.
pub refused_is_never_sent : (book : List ℕ) (n : ℕ) → book_of book ≡ refused BookUnsendable n → NeverSent book n
refused_is_never_sent = never_sent

-- For a required number whose list has values, and none in range, there is nothing to write.
pub none_in_range_lacks : (f : Field) → (is_array f or is_optional f) ≡ false → NoneInRange f → HasValue f → ⊥
none_in_range_lacks = none_in_range

module _ (book : List ℕ) (b : Book) (id : ℕ) (t : Template) (isBook : book_of book ≡ done b)
    (is_there : find_template id b.templates ≡ some t) where
  -- A template of an accepted book can be sent, if there is something to write for each field of its root: the listing
  -- of no entries and no octets of data is written, given room.
  pub can_be_sent : Each HasValue t.shape.fields → CanBeSent book b t
  can_be_sent = sent book b t isBook (accepted book b id t isBook is_there).1

  -- There is, but for a required number of that kind.
  pub has_values : Each (λ f. (NoneInRange f → ⊥) → HasValue f) t.shape.fields
  has_values =
      let layout = (accepted book b id t isBook is_there).1.layout in
      fields_have_values t.shape.length 0 t.shape.fields (and_right _ _ (and_left _ _ layout))

  -- And if there is not, nothing is ever written.
  pub sent_has_values : (l pool : List ℕ) (room : ℕ) (m : List ℕ)
      → Numbers64 l
      → write_of book id l pool room ≡ done m
      → Each HasValue t.shape.fields
  sent_has_values l pool room m small e =
      let w = written_by_lem book id l pool room m e in
      let same : w.by ≡ b = done_inj (sym w.good ∙ isBook) in
      let found : some w.template ≡ some t = sym (rw same at w.found) ∙ is_there in
      let is : w.template ≡ t = cc in
      said_has_values l pool small t w.said (rw is at w.judged)

-- ---- demand 3: "For accepted books, the newer a legal extension of the older, and any message whose template is in
-- both"

module _
    (older newer : List ℕ)
    (old new : Book)
    (isOlder : book_of older ≡ done old)
    (isNewer : book_of newer ≡ done new)
    (extends : Extends old new)
    (m : List ℕ)
    (t : Template)
    (inBoth : find_template (template_id old.format.big m) old.templates ≡ some t) where
  -- "if the newer accepts it, so does the older"
  pub older_accepts : check_of newer m ≡ done tt → check_of older m ≡ done tt
  older_accepts = accepts_too older newer old new isOlder isNewer extends m t inBoth

  -- "with the same answer for every element that the older has", and "kind 6 with the same number where only its list
  -- lacks it": the older's answer is the newer's, seen beside the names of the older's field.
  pub older_answers : check_of newer m ≡ done tt
      → (p : List Step) (x : Element)
      → has_place p x t.shape t.groups ≡ true
      → place_of older m p x ≡ (place_of newer m p x >>= λ a. done (beside (names_at p x t.shape t.groups) a))
  unfolding place_of
  older_answers a = seen_answer older newer old new isOlder isNewer extends m t inBoth a true

  -- That is: the two answer alike, or the newer answers with a number that the older's list lacks, and the older with
  -- kind 6 and the same number.
  pub older_answers_alike_or_unlisted : check_of newer m ≡ done tt
      → (p : List Step) (x : Element)
      → has_place p x t.shape t.groups ≡ true
      → AlikeOrUnlisted done (names_at p x t.shape t.groups) (place_of older m p x) (place_of newer m p x)
  older_answers_alike_or_unlisted a p x h = rw (older_answers a p x h) (seen_says _ (place_of newer m p x))

  -- Where the older has no list, as for a group or a data, they answer alike.
  pub older_answers_alike : check_of newer m ≡ done tt
      → (p : List Step) (x : Element)
      → has_place p x t.shape t.groups ≡ true
      → names_at p x t.shape t.groups ≡ no_names
      → place_of older m p x ≡ place_of newer m p x
  older_answers_alike a p x h e = older_answers a p x h ∙ rw e (seen_by_none (place_of newer m p x))

  -- "if the message's version is no later than the older book's, both accept or both refuse, with the same number and
  -- place"
  pub both_say_the_same : version_of old.format.big m ≤ old.version → check_of older m ≡ check_of newer m
  both_say_the_same = same_verdict older newer old new isOlder isNewer extends m t inBoth

-- ---- "A venue that sends big-endian": a book, and the same book with the other order word. All that is above holds of
-- either order, and this of both at once.

module _ (book : List ℕ) (b : Book) (isBook : book_of book ≡ done b) where
  -- With the other order word it is the same book but for its order.
  pub other_order_lem : book_of (reordered book) ≡ done (other_order b)
  other_order_lem = other_book book b isBook

  -- Every message that the one reads has a message, the same but for numbers turned, that the other reads alike.
  pub turned_reads_alike : (m : List ℕ) (r : Values) → read_message b m ≡ done r → (m' : List ℕ) × OtherWay b m r m'
  turned_reads_alike m r = turned_message book m b r isBook

  -- For a listing both have a message, of one length, or refuse alike ..
  pub both_orders_write_alike : (id : ℕ) (l pool : List ℕ) (room : ℕ)
      → (write_of (reordered book) id l pool room >>= λ m. done (length m))
      ≡ (write_of book id l pool room >>= λ m. done (length m))
  unfolding write_of
  both_orders_write_alike id l pool room =
      rw (isBook, other_order_lem, bind_done, bind_done) (writes_alike book b isBook id l pool room)

  -- .. and what they write reads back alike.
  pub both_orders_read_back_alike : (id : ℕ) (l pool : List ℕ) (room : ℕ) (m m' : List ℕ)
      → Numbers64 l
      → write_of book id l pool room ≡ done m
      → write_of (reordered book) id l pool room ≡ done m'
      → (n : ℕ) × (read read' : List ℕ) × (list_of book m (length l) ≡ done (n, read))
      × (list_of (reordered book) m' (length l) ≡ done (n, read'))
      × (contents m read ≡ contents m' read')
  both_orders_read_back_alike id l pool room m m' small e e' =
      let r = written_reads_back book id l pool room m small e in
      let r' = written_reads_back (reordered book) id l pool room m' small e' in
      let one : r'.0 ≡ r.0 = omega (arith, r.3, r'.3) in
      (r.0, r.1, r'.1, r.2, r'.2 ∙ ap (λ (n : ℕ). done (n, r'.1)) one, r.5 ∙ sym r'.5)
