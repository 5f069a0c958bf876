-- What each part of a message prints, taken apart in the code's terms. That it was accepted is known: no test is made.
use mathlib.Core.Path.{◌≡◌, refl, subst, sym, ap, ◌∙◌}
use mathlib.Core.Bool.{Bool}
use mathlib.Core.List.{List, []}
use Prim.Native.Nat.{ℕ, ◌+◌, ◌-◌, ◌≤◌, ◌<◌}
use lib.ListN.{length}
use borrow.Author.Tests.{le-leb, lt-leb, leb-true}
use Rattle.std.specs.Result.{result_unwrap_or}
use Rattle.layout.specs.Result.{Result, done, refused, when◌then◌else◌, ◌>>=◌}
use Rattle.layout.specs.Octets.{number16}
use Rattle.layout.specs.Book.{Data, Groups, group_sinces, more, none}
use Rattle.layout.specs.Operations.{Told, told}
use Rattle.layout.specs.BookRules.{parse_datas, parse_fields, word}
use Rattle.layout.specs.Values.{listing, nil, record_of, records_of}
use Rattle.layout.specs.Message.{dimension_size, in_row, read_block, read_data, read_datas, read_entries, read_field}
use Rattle.layout.specs.Message.{read_groups}
use Rattle.layout.specs.declared.Answer.{Answer}
use Rattle.layout.specs.declared.Answer.TheVariants.{Absent, Group, Octets}
use Rattle.layout.proofs.Results.{bind_done, done_inj, none_left, one_less, some_left}
use Rattle.prepared.specs.Names.{lists_at}
use Rattle.prepared.specs.Positions.{field_at, inner_at, is_big, is_counted, shape_at, version_at}
use Rattle.wire.specs.Walks.{Inside}
use Rattle.surplus.specs.Surplus.{skip_end}
use Rattle.counts.specs.Groups.{IsOpen, open_at}
use Rattle.counts.specs.declared.Entries.{Entries}
use Rattle.counts.proofs.Groups.{Good, group_good, group_read_lem}
use Rattle.walk.specs.Walks.{entries_by, groups_by}
use Rattle.walk.proofs.Datas.{datas_step}
use Rattle.walk.proofs.Entries.{entries_step}
use Rattle.walk.proofs.Groups.{row_step}
use Rattle.prints.specs.Prints.{Accepted, Printed, Stored, and_then, end_of, got, prepend, printed}
use Rattle.prints.proofs.Going.{Done, stored_none, was_done}
use Rattle.prints.proofs.Steps.{passed, step}
use Rattle.store.specs.Stores.{datas_print, entries_print, fields_print, groups_print, over_print, sized_print}
use Rattle.store.specs.Stores.{skip_print, surplus_print}

-- ---- fields

module _ (big : Bool) (m : List ℕ) (v l at : ℕ) (p : List ℕ) where
  pub fields_next : (n f : ℕ) → 0 < n
      → fields_print big m v (parse_fields (lists_at p) p n f) l at
      ≡ and_then (got at (record_of (read_field big m v at (field_at p f))))
      (λ x. fields_print big m v (parse_fields (lists_at p) p (n - 1) (f + 7)) l at)
  unfolding fields_print parse_fields records_of prepend and_then
  fields_next n f h = rw (some_left h, one_less) refl

  pub fields_end_lem : (n f : ℕ) → n ≤ 0 → fields_print big m v (parse_fields (lists_at p) p n f) l at ≡ got (at + l) []
  unfolding fields_print parse_fields records_of
  fields_end_lem n f h = rw (none_left h) refl

-- ---- what is surplus

-- It was accepted, so that it is walked to its end.
pub skip_ends : (r : Result ℕ) → Accepted (skip_print r) → {w : Told ℕ} → w ≡ told skip_end r → (len at : ℕ)
    → Inside len at w → (d : ℕ) → (result_unwrap_or w d ≡ end_of (skip_print r)) × (result_unwrap_or w d ≤ len)
unfolding skip_print printed told end_of Inside
skip_ends r h is len at inside d =
    let done = was_done (λ x. x) (λ x. []) r h in
    let ok = rw done.is at is in
    rw done.is (rw ok (refl, (rw ok at inside).1))

-- Nothing else is left: it has no record.
module _ {y : Printed} (r : Result ℕ) (is : y ≡ skip_print r) (h : Accepted y) where
  pub skip_accepted : Accepted (skip_print r)
  skip_accepted = rw is at h

  pub skip_stored : {a k : ℕ} {d : List ℕ} → a ≡ end_of (skip_print r) → Stored y k d a k d
  unfolding skip_print printed end_of
  skip_stored e =
      let d = was_done (λ x. x) (λ x. []) r skip_accepted in
      stored_none (is ∙ rw d.is (ap (λ x. got x []) (sym (rw d.is at e))))

pub none_skipped : {y : Printed} (n : ℕ) (f : ℕ → Result ℕ) {at : ℕ} → y ≡ skip_print (in_row n f at) → n ≡ 0
    → y ≡ got at []
unfolding skip_print in_row printed
none_skipped n f is z = is ∙ rw z refl

-- Reading nothing, and then what is surplus.
only_skipped : {A : Type 0} (a : A) (f : A → List ℕ) → f a ≡ [] → (r : Result ℕ)
    → printed (λ (g : A × ℕ). g.1) (λ g. f g.0) (r >>= λ x. done (a, x)) ≡ skip_print r
unfolding skip_print printed ◌>>=◌
only_skipped a f e (done x) = rw e refl
only_skipped a f e (refused k p) = refl

-- ---- data

-- Past the last data stand the surplus ones.
pub datas_end_lem : (big : Bool) (m : List ℕ) (v : ℕ) (ds : List Data) (n at : ℕ) → ds ≡ []
    → datas_print big m v ds n at ≡ over_print big m n at
unfolding datas_print read_datas records_of
datas_end_lem big m v ds n at e = rw e (only_skipped [] records_of refl _)

-- The first of n data, and the others.
module _ (big : Bool) (m : List ℕ) (v : ℕ) (p : List ℕ) (surplus n d at : ℕ) where
  abbrev data_then : Answer → ℕ → Printed
  data_then a x = and_then (got x (record_of a)) (datas_print big m v (parse_datas p (n - 1) (d + 2)) surplus)

  pub record DataOpen : Type 0 where
    pub length_within : at + 2 ≤ length m
    pub within : at + 2 + number16 big m at ≤ length m
    pub same : datas_print big m v (parse_datas p n d) surplus at
        ≡ data_then (Octets (at + 2) (number16 big m at)) (at + 2 + number16 big m at)

  module _ (h : 0 < n) (r : Accepted (datas_print big m v (parse_datas p n d) surplus at)) where
    all_datas : Done (read_datas big m v (parse_datas p n d) surplus at)
    unfolding datas_print
    all_datas = was_done _ _ _ r

    pub data_absent : v < word p (d + 1) → datas_print big m v (parse_datas p n d) surplus at ≡ data_then Absent at
    unfolding datas_print printed and_then prepend records_of when◌then◌else◌
    data_absent a =
        let absent = lt-leb (word p (d + 1)) v a in
        step _ _ _ (rw (datas_step big m v p surplus n d at h, absent, bind_done) at all_datas.is) λ z rest e.
        rw (all_datas.is ∙ sym e, rest) refl

    pub data_open : word p (d + 1) ≤ v → DataOpen
    unfolding datas_print read_data printed and_then prepend records_of when◌then◌else◌
    data_open here =
        let present = le-leb (word p (d + 1)) v here in
        step _ _ _ (rw (datas_step big m v p surplus n d at h, present) at all_datas.is) λ x one next.
        passed _ _ _ _ _ one λ a two. passed _ _ _ _ _ two λ b three. passed _ _ _ _ _ three λ c is.
        step _ _ _ (rw (← (done_inj is)) at next) λ z rest e.
        record {
          length_within = leb-true _ _ a;
          within = leb-true _ _ c;
          same = rw (all_datas.is ∙ sym e, rest) refl;
        }

-- ---- groups in a row, `depth` more levels being left

-- Past the last group stand the surplus ones.
pub groups_end_lem : (p : List ℕ) (depth : ℕ) (m : List ℕ) (v : ℕ) (gs : Groups) (surplus at : ℕ) → gs ≡ none
    → groups_print p depth m v gs surplus at ≡ surplus_print p depth m surplus at
unfolding groups_print read_groups listing
groups_end_lem p depth m v gs surplus at e = rw e (only_skipped nil listing refl _)

-- gs is a group with the block at a, and then `rest`.
module _ (p : List ℕ) (depth a : ℕ) (m : List ℕ) (v : ℕ) (gs rest : Groups) (surplus at : ℕ) where
  abbrev group_then : Entries → Printed
  group_then e =
      and_then (got (at + dimension_size (is_counted p)) (record_of (Group e.count)))
      (λ x. and_then (sized_print p (depth - 1) a m v e x) (groups_print p depth m v rest surplus))

  -- With these entries.
  pub record GroupOpen (e : Entries) : Type 0 where
    pub good : Good (is_counted p) (version_at p) (is_big p) m v (shape_at p a) (group_sinces (inner_at p (depth - 1) a)) at e
    pub same : groups_print p depth m v gs surplus at ≡ group_then e

  module _ {id since : ℕ} (is : gs ≡ more id since (shape_at p a) (inner_at p (depth - 1) a) rest)
      (r : Accepted (groups_print p depth m v gs surplus at)) where
    all_groups : Done (groups_by p m v gs depth surplus at)
    unfolding groups_print
    all_groups = was_done _ _ _ r

    pub group_absent : v < since → groups_print p depth m v gs surplus at
        ≡ and_then (got at (record_of Absent)) (groups_print p depth m v rest surplus)
    unfolding groups_print printed listing and_then prepend when◌then◌else◌
    group_absent h =
        let absent = lt-leb since v h in
        step _ _ _ (rw (row_step p m v depth surplus at gs _ _ _ _ _ is, absent, bind_done) at all_groups.is)
        λ z rest e. rw (all_groups.is ∙ sym e, rest) refl

    module _ (here : since ≤ v) where
      opens : (e : Entries) × GroupOpen e
      unfolding groups_print entries_print printed listing and_then prepend when◌then◌else◌
      opens =
          let present = le-leb since v here in
          step _ _ _ (rw (row_step p m v depth surplus at gs _ _ _ _ _ is, present, group_read_lem) at all_groups.is)
          λ g one next. step _ _ _ one λ e opened two. step _ _ _ two λ es entries grouped.
          step _ _ _ (rw (← (done_inj grouped)) at next) λ z others q. (
            e,
            record {
              good = group_good _ _ _ _ _ _ _ _ e opened;
              same = rw (all_groups.is ∙ sym q, entries, others) refl;
            },
          )

      pub group_is_open : IsOpen p (depth - 1) a m v at
      group_is_open = record { entries = opens.0; is = opens.1.good.is }

      pub group_open : (e : Entries) → open_at p (depth - 1) a m v at ≡ done e → GroupOpen e
      group_open e h = subst GroupOpen (done_inj (sym opens.1.good.is ∙ h)) opens.1

-- ---- entries

-- Of l octets of the block at a, where g groups and d data are surplus.
module _ (p : List ℕ) (depth a : ℕ) (m : List ℕ) (v g d l : ℕ) where
  pub entries_end : (n at : ℕ) → n ≤ 0 → entries_print p depth a m v g d l n at ≡ got at []
  unfolding entries_print read_entries printed listing
  entries_end n at h = rw (none_left h) refl

  -- The first of n entries, and the others.
  module _ (n at : ℕ) where
    abbrev entry_then : Printed
    entry_then =
        and_then (fields_print (is_big p) m v (shape_at p a).fields l at)
        (λ x. and_then (groups_print p depth m v (inner_at p depth a) g x)
        (λ y. and_then (datas_print (is_big p) m v (shape_at p a).datas d y) (entries_print p depth a m v g d l (n - 1))))

    pub record EntryOpen : Type 0 where
      pub within : at + l ≤ length m
      pub same : entries_print p depth a m v g d l n at ≡ entry_then

    module _ (h : 0 < n) (r : Accepted (entries_print p depth a m v g d l n at)) where
      all_entries : Done (entries_by p depth a m v g d l n at)
      unfolding entries_print
      all_entries = was_done _ _ _ r

      pub entry_open : EntryOpen
      unfolding entries_print fields_print groups_print datas_print read_block printed listing and_then prepend
      entry_open =
          step _ _ _ (rw (entries_step _ n at h) at all_entries.is) λ x one next.
          passed _ _ _ _ _ one λ fits two. step _ _ _ two λ r groups three. step _ _ _ three λ ds datas is.
          step _ _ _ (rw (← (done_inj is)) at next) λ z others e.
          record {
            within = leb-true _ _ fits;
            same = rw (all_entries.is ∙ sym e, groups, datas, others) refl;
          }
