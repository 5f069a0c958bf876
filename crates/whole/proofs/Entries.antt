-- A message as it is entered: what an answer says of it.
use mathlib.Core.Path.{◌≡◌, ◌∙◌, ap, refl, subst, sym}
use mathlib.Core.Bool.{Bool}
use mathlib.Core.List.{List}
use Prim.Native.Nat.{ℕ, ◌≤◌}
use native.Mathlib.Omega.{arith}
use Rattle.std.specs.Prelude.{Option, Some, Ok, Err}
use Rattle.layout.specs.Result.{◌>>=◌, done, or_refuse, refused}
use Rattle.layout.specs.Book.{Template, need}
use Rattle.layout.specs.Message.{block_length, check_header, data_count, group_count, header_size, header_whole, read_message}
use Rattle.layout.specs.Message.{surplus_of, template_of, version_of}
use Rattle.layout.specs.Operations.{Told, told}
use Rattle.layout.specs.Values.{Values}
use Rattle.layout.specs.declared.Answer.{Answer}
use Rattle.layout.specs.declared.Refusal.{Refusal}
use Rattle.layout.proofs.Results.{done_inj, inv_bind, inv_both}
use Rattle.layout.proofs.Told.{inv_err, inv_ok}
use Rattle.prepared.specs.Positions.{BlockAt, is_big, shape_at}
use Rattle.prepared.specs.Books.{HoldsBook, book_at, template_at}
use Rattle.prepared.proofs.Found.{found}
use Rattle.wire.specs.Walks.{Lent}
use Rattle.wire.proofs.Steps.{steps}
use Rattle.walk.specs.Walks.{walked}
use Rattle.walk.specs.declared.Walked.{Walked}
use Rattle.places.specs.declared.Spot.{Spot}
use Rattle.places.proofs.Seeks.{and_then}
use Rattle.messages.specs.Openings.{known, known_at, open_at, opened}
use Rattle.messages.specs.declared.Opened.{Opened}
use Rattle.whole.specs.Wholes.{entered, records_in, rest_at, rest_end, root_at, root_spot, rooted, spot_at, tree_at, whole_at}
use Rattle.whole.specs.declared.Entered.{Entered}
use Rattle.whole.specs.declared.Root.{Root}
use Rattle.whole.proofs.Messages.{message_read}

-- ---- a message that was opened

-- What it is good for: v is its version, l the octets of its root block, and g groups and d data of it are surplus.
pub record Lends (p m : List ℕ) (a v l g d : ℕ) : Type 0 where
  pub version : v ≡ version_of (is_big p) m
  pub long : l ≡ block_length (is_big p) m
  pub block : BlockAt p 4 a
  pub template : template_of (book_at p) m ≡ done (template_at p a)
  pub lent : Lent m header_size
  pub short : l ≤ 65535
  pub enough : need v (shape_at p a) ≤ l
  pub few : g ≤ 65535
  pub few_datas : d ≤ 65535

inv_known : (r : Option ℕ) (b : ℕ) → known r ≡ done b → r ≡ Some b
unfolding known
inv_known r b e = grind arith

surplus_enough : (big : Bool) (version : ℕ) (t : Template) (m : List ℕ) (x : ℕ × ℕ) → surplus_of big version t m ≡ done x
    → (need (version_of big m) t.shape ≤ block_length big m) × (x.0 ≤ group_count big m) × (x.1 ≤ data_count big m)
unfolding surplus_of
surplus_enough big version t m x e = grind (arith, steps)

header_lends : (big : Bool) (schema : ℕ) (m : List ℕ) → check_header big schema m ≡ done tt
    → Lent m header_size × (block_length big m ≤ 65535) × (group_count big m ≤ 65535) × (data_count big m ≤ 65535)
unfolding check_header header_whole
header_lends big schema m e = grind (arith, steps)

module _ (p m : List ℕ) (book : HoldsBook p) where
  lends_done : (o : ℕ × ℕ × ℕ) → open_at p m ≡ done o
      → Lends p m o.0 (version_of (is_big p) m) (block_length (is_big p) m) o.1 o.2
  unfolding open_at known_at or_refuse
  lends_done o e =
      let header = inv_bind _ _ _ e in
      let place = inv_both _ _ _ _ header.next in
      let f = found p book _ _ (inv_known _ _ place.first) in
      let h = header_lends _ _ m header.first in
      let s = surplus_enough _ _ _ m _ place.second in
      subst (λ (o : ℕ × ℕ × ℕ). Lends p m o.0 (version_of (is_big p) m) (block_length (is_big p) m) o.1 o.2)
      place.is
      (record {
        version = refl;
        long = refl;
        block = f.block;
        template = rw f.template refl;
        lent = h.0;
        short = h.1;
        enough = s.0;
        few = omega (arith, s.1, h.2);
        few_datas = omega (arith, s.2, h.3);
      })

  pub lends : (o : Opened) → Ok o ≡ told (opened (is_big p) m) (open_at p m)
      → Lends p m o.block o.version o.length o.groups o.datas
  lends o e =
      let g = inv_ok (opened (is_big p) m) (open_at p m) o e in
      rw (← g.gives) (lends_done g.value g.is)

-- ---- a message that was entered

-- It was opened, its root was walked and what follows it, and so it was read.
pub record Enters (p m path : List ℕ) (a v : ℕ) (k : Option ℕ) (s : Option Spot) : Type 0 where
  pub long : ℕ
  pub surplus : ℕ
  pub over : ℕ
  pub groups : Values
  pub datas : List Answer
  pub end : ℕ
  pub last : ℕ
  pub opens : Lends p m a v long surplus over
  pub root : root_at p a m v long surplus ≡ done (groups, end)
  pub rest : rest_at p a m v over end ≡ done (datas, last)
  pub read : read_message (book_at p) m ≡ done (tree_at p m (a, surplus, groups, datas))
  pub records : k ≡ records_in path groups
  pub spot : s ≡ spot_at p a m v (root_spot long surplus) path

module _ (p m path : List ℕ) (book : HoldsBook p) where
  read_as : (w : ℕ × ℕ × Values × List Answer) → whole_at p m ≡ done w
      → read_message (book_at p) m ≡ done (tree_at p m w)
  unfolding ◌>>=◌
  read_as w e = message_read p m book ∙ rw e refl

  abbrev OfWalk : ℕ × ℕ × Values × List Answer → Type 0
  OfWalk w = let e = entered p m path w in Enters p m path e.block e.version e.records e.spot

  walked_as : (w : ℕ × ℕ × Values × List Answer) → whole_at p m ≡ done w → OfWalk w
  unfolding whole_at
  walked_as w e =
      let o = inv_bind _ _ _ e in
      let r = inv_bind _ _ _ o.next in
      let s = inv_bind _ _ _ r.next in
      let is = done_inj s.next in
      subst OfWalk is (record {
        long = block_length (is_big p) m;
        surplus = o.value.1;
        over = o.value.2;
        groups = r.value.0;
        datas = s.value.0;
        end = r.value.1;
        last = s.value.1;
        opens = lends_done p m book o.value o.first;
        root = r.first;
        rest = s.first;
        read = read_as _ (e ∙ ap done (sym is));
        records = refl;
        spot = refl;
      })

  pub enters : (e : Entered) → Ok e ≡ told (entered p m path) (whole_at p m)
      → Enters p m path e.block e.version e.records e.spot
  enters e h =
      let g = inv_ok (entered p m path) (whole_at p m) e h in
      rw (← g.gives) (walked_as g.value g.is)

  pub read_refused : (z : Refusal) → Err z ≡ told (entered p m path) (whole_at p m)
      → read_message (book_at p) m ≡ refused z.reason z.place
  unfolding ◌>>=◌
  read_refused z h = message_read p m book ∙ rw (inv_err (entered p m path) _ z h) refl

-- ---- the message, by the stages' answers

module _ (p m path : List ℕ) where
  abbrev pub after_rest : Opened → Root → Told Walked → Told Entered
  after_rest o r rest =
      and_then rest λ _. Ok (record { block = o.block; version = o.version; records = r.records; spot = r.spot })

  abbrev pub after_root : Opened → Told Root → Told Entered
  after_root o root =
      and_then root λ r. after_rest o r (walked rest_end (rest_at p o.block m o.version o.datas r.next))

  abbrev pub after_opened : Told Opened → Told Entered
  after_opened answer =
      and_then answer λ o. let s = spot_at p o.block m o.version (root_spot o.length o.groups) path in
      after_root o (told (rooted path s) (root_at p o.block m o.version o.length o.groups))

  pub entered_by : told (entered p m path) (whole_at p m) ≡ after_opened (told (opened (is_big p) m) (open_at p m))
  unfolding whole_at told and_then ◌>>=◌
  entered_by = grind arith
