-- A body, and the bodies of a book one after the other.
use mathlib.Core.Path.{◌≡◌, refl}
use mathlib.Core.Bool.{Bool, false, true}
use mathlib.Core.List.{List, ◌∷◌}
use Prim.Native.Nat.{◌*◌, ◌+◌, ◌<◌, ◌≤◌, suc, ℕ}
use native.Mathlib.Omega.{arith}
use lib.Dec.{eqb, leb}
use lib.ListN.{length}
use Rattle.layout.specs.Result.{Result, ◌>>=◌, as_refusal, done, when◌then◌else◌, must, refused}
use Rattle.layout.specs.Lists.{NameList}
use Rattle.layout.specs.Book.{Format, Groups, Shape, Template}
use Rattle.layout.specs.BookRules.{each_must, format_of, head_size, layout_good, least_length, length_kept, list_good, lists_of, parse_bodies, parse_body}
use Rattle.layout.specs.BookRules.{parse_groups, parse_shape, since_good, word}
use Rattle.layout.specs.Message.{most_message}
use Rattle.book.specs.Answers.{all_rules, block_of, body_of, first_of, groups_rules, least_at, row_of, ruled}
use Rattle.book.specs.Answers.{seen_or, shape_rules, verdict_of}
use Rattle.book.specs.Rows.{body_at as row_body}
use Rattle.book.proofs.Rows.{known, rows_left, rows_more, rows_none, template_lies}
use Rattle.layout.proofs.Accepted.{groups_length, shape_counts}
use Rattle.layout.proofs.Results.{bind_done}
use Rattle.layout.specs.declared.Reason.{Reason}
use Rattle.book.specs.declared.Row.{Row}
use Rattle.book.specs.declared.Block.{Block}
use Rattle.book.specs.declared.Body.{Body}
use Rattle.book.proofs.Tests.{◌>>>◌, binds}
use Rattle.std.specs.Prelude.{None, Option, Some}
use Rattle.layout.specs.declared.Reason.TheVariants.{BookBlock, BookLayout, BookSince, BookUnsendable}

-- What 7 measures is what a body's words say.
least_is : (ls : List NameList) (b : List ℕ) (format : Format) (g x y : ℕ) (s : Shape) (gs : Groups)
    → parse_shape ls b 0 0 ≡ done (s, g, x)
    → parse_groups ls b 4 g x ≡ done (gs, y)
    → least_length format s gs ≡ least_at format.in_groups b
least_is ls b format g x y s gs e i =
    let c = shape_counts ls b 0 0 (s, g, x) e in
    rw (groups_length ls b 4 g x (gs, y) i, c.0, c.1, c.2) refl

module _ (ls : List NameList) (b : List ℕ) (format : Format) (version : ℕ) where
  abbrev counted : Bool
  counted = format.in_groups

  abbrev root : Option Block
  root = block_of version 0 version version (parse_shape ls b 0 0)

  abbrev row_in : Block → Option Row
  row_in block = row_of counted version 0 version (parse_groups ls b 4 block.groups block.next)

  abbrev answer : Option Body
  answer = body_of format version (parse_body ls b)

  abbrev whole : Block → Row → Body
  whole block row =
      record { rules = all_rules block.rules row.rules; short = leb (least_at counted b) most_message }

  -- What the body comes to by its block, and by the row of its groups.
  abbrev by_row : Block → Row → Option Body
  by_row block row = when eqb row.next (length b) then Some (whole block row) else None

  pub body_step : answer ≡ (root >>> λ block. row_in block >>> by_row block)
  unfolding parse_body body_of block_of row_of must when◌then◌else◌ ◌>>=◌ ◌>>>◌
  body_step = from_root (parse_shape ls b 0 0) refl
    where
      checked_end : Shape → Groups → ℕ → Result (Shape × Groups)
      checked_end s gs y = must (eqb y (length b)) BookBlock 0 >>= λ _. done (s, gs)

      from_row : (r : Shape × ℕ × ℕ) → parse_shape ls b 0 0 ≡ done r
          → (x : Result (Groups × ℕ)) → parse_groups ls b 4 r.1 r.2 ≡ x
          → body_of format version (x >>= λ g. checked_end r.0 g.0 g.1)
          ≡ (row_of counted version 0 version x
          >>> by_row (record { groups = r.1; next = r.2; rules = shape_rules version 0 version version r.0 }))
      from_row r e (refused n p) i = refl
      from_row r e (done g) i = ends (eqb g.1 (length b))
        where
          ends : (t : Bool)
              → body_of format version (must t BookBlock 0 >>= λ _. done (r.0, g.0))
              ≡ (when t then Some (whole
              (record { groups = r.1; next = r.2; rules = shape_rules version 0 version version r.0 })
              (record { next = g.1; rules = groups_rules counted version 0 version g.0 })) else None)
          ends true = rw (least_is ls b format r.1 r.2 g.1 r.0 g.0 e i) refl
          ends false = refl

      from_root : (x : Result (Shape × ℕ × ℕ)) → parse_shape ls b 0 0 ≡ x
          → body_of format version
          (x >>= λ s. parse_groups ls b 4 s.1 s.2 >>= λ g. checked_end s.0 g.0 g.1)
          ≡ (block_of version 0 version version x >>> λ block. row_in block >>> by_row block)
      from_root (refused n p) e = refl
      from_root (done r) e = from_row r e (parse_groups ls b 4 r.1 r.2) refl

pub ruleset body_laws = (known, body_step)

-- ---- all bodies

pub seen_some : (t : ℕ) (r : Reason) (x : Result (Unit {0})) → seen_or (Some t) r x ≡ refused r t
unfolding seen_or
seen_some t r x = refl

pub seen_none : (r : Reason) (x : Result (Unit {0})) → seen_or None r x ≡ x
unfolding seen_or
seen_none r x = refl

pub ruleset verdicts = (known, binds, seen_some, seen_none)

-- One template more: it is the first to break a rule, or another was before it.
each_next : (f : Template → Bool) (seen : Option ℕ) (r : Reason) (t : ℕ) (x : Template) (xs : List Template)
    → seen_or seen r (each_must f r t (x ∷ xs)) ≡ seen_or (first_of seen (f x) t) r (each_must f r (suc t) xs)
unfolding each_must seen_or first_of must when◌then◌else◌ ◌>>=◌
each_next f (Some s) r t x xs = refl
each_next f None r t x xs = go (f x)
  where
    go : (k : Bool) → (must k r t >>= λ _. each_must f r (suc t) xs)
        ≡ seen_or (when k then None else Some t) r (each_must f r (suc t) xs)
    go true = refl
    go false = refl

ruled_next : (lists : Result (Unit {0})) (format : Format) (version t : ℕ) (five six seven : Option ℕ) (x : Template)
    (y : Result (List Template))
    → ruled lists format version t five six seven (y >>= λ xs. done (x ∷ xs))
    ≡ ruled lists format version (suc t) (first_of five (layout_good x) t)
    (first_of six (since_good format.in_groups version x) t) (first_of seven (length_kept format x) t) y
unfolding ruled
ruled_next lists format version t five six seven x (done xs) =
    rw (
      bind_done,
      bind_done,
      bind_done,
      each_next layout_good five BookLayout t x xs,
      each_next (since_good format.in_groups version) six BookSince t x xs,
      each_next (length_kept format) seven BookUnsendable t x xs,
    ) refl
ruled_next lists format version t five six seven x (refused n p) = unfold ◌>>=◌ in refl

-- What comes of the bodies of a book from template t on.
abbrev pub bodies_from : List ℕ → ℕ → Option ℕ → Option ℕ → Option ℕ → Result (Unit {0})
bodies_from b t five six seven =
    ruled (each_must list_good BookBlock (word b 2) (lists_of b)) (format_of b) (word b 1) t five six seven
    (parse_bodies (lists_of b) b t (rows_left b head_size (word b 2) t))

module _ (b : List ℕ) (t : ℕ) (five six seven : Option ℕ) where
  -- Where no body is left, the lists verdict, or else what was seen.
  pub bodies_end : word b 2 ≤ t
      → bodies_from b t five six seven
      ≡ (each_must list_good BookBlock (word b 2) (lists_of b) >>= λ _. verdict_of five six seven)
  unfolding parse_bodies ruled verdict_of each_must
  bodies_end h = rw (rows_none b head_size (word b 2) t h, bind_done) refl

  abbrev body_at : Option Body
  body_at =
      body_of (format_of b) (word b 1) (parse_body (lists_of b) (row_body b (head_size + 3 * t)))

  -- What it comes to by the body.
  unfoldable pub by_body : Option Body → Result (Unit {0})
  by_body None = refused BookBlock t
  by_body (Some x) =
      bodies_from b (t + 1) (first_of five x.rules.layout t) (first_of six x.rules.since t) (first_of seven x.short t)

  pub body_none : by_body None ≡ refused BookBlock t
  unfolding by_body
  body_none = refl

  pub body_some : (x : Body)
      → by_body (Some x)
      ≡ bodies_from b (t + 1) (first_of five x.rules.layout t) (first_of six x.rules.since t)
      (first_of seven x.short t)
  unfolding by_body
  body_some x = refl

  pub bodies_more : t < word b 2 → bodies_from b t five six seven ≡ by_body body_at
  unfolding all_rules parse_bodies as_refusal body_of by_body ruled ◌>>=◌
  bodies_more more =
      rw (rows_more b head_size (word b 2) t more) (go (parse_body (lists_of b) _))
    where
      go : (x : Result (Shape × Groups))
          → ruled (each_must list_good BookBlock (word b 2) (lists_of b)) (format_of b) (word b 1) t five six seven
          (as_refusal x BookBlock t
          >>= λ r. parse_bodies (lists_of b) b (suc t) (rows_left b head_size (word b 2) (t + 1))
          >>= λ xs. done (record { id = word b (head_size + 3 * t); shape = r.0; groups = r.1 } ∷ xs))
          ≡ by_body (body_of (format_of b) (word b 1) x)
      go (refused n p) = refl
      go (done r) =
          let q : t + 1 ≡ suc t = omega arith in
          let x : Template = record { id = word b (head_size + 3 * t); shape = r.0; groups = r.1 } in
          rw q
          (ruled_next (each_must list_good BookBlock (word b 2) (lists_of b)) (format_of b) (word b 1) t five six seven x
          (parse_bodies (lists_of b) b (suc t) (rows_left b head_size (word b 2) (suc t))))

pub ruleset bodies_laws = (verdicts, template_lies, bodies_end, body_none, body_some, bodies_more)
