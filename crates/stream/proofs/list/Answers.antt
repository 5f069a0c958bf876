-- The walk refuses the message, or tells how many records it has: there is room for them, or not.
use mathlib.Core.Path.{refl}
use mathlib.Core.List.{[]}
use native.Mathlib.Omega.{arith}
use Rattle.std.proofs.lemmas.Result.{err_from_is_err_and}
use Rattle.prepared.proofs.Books.{holds_book}
use Rattle.whole.specs.Wholes.{Few}
use Rattle.whole.proofs.Entries.{Enters, enters, read_refused}
use Rattle.stream.proofs.Reading.{list_block, list_full, list_refused, list_room, list_stored, no_steps, records_found, root_found}
use Rattle.stream.proofs.list.Goals as goal
use Rattle.stream.proofs.list.Goals.{In_ok-entered}

-- What the walk's answer says.
entry_of : (c : In_ok-entered) → let e = c.in_ok-entered.entered in
    Enters c.args.p.now.now c.args.m.now.now [] e.block e.version e.records e.spot
entry_of c = enters _ _ _ (holds_book c.requires) _ c.in_ok-entered.ensures.value

pub enter-requires : goal.enter-requires
enter-requires c = (holds_book c.requires, no_steps)

pub returns-in_err-entered : goal.returns-in_err-entered
returns-in_err-entered c =
    let a = c.args in
    let e = err_from_is_err_and c.from_residual.result c.from_residual.ensures.1 in
    rw (e.1, e.2)
    (list_refused a.p.now.now a.m.now.now _ _ (read_refused _ _ [] (holds_book c.requires) _ c.in_err-entered.ensures.value))

pub unwrap-records-requires : goal.unwrap-records-requires
unwrap-records-requires c = rw (records_found (entry_of (goal.at.unwrap-records-requires c).In_ok-entered)) refl

pub count_records-all-requires : goal.count_records-all-requires
unfolding Few
count_records-all-requires c = (
  (entry_of (goal.at.count_records-all-requires c).In_ok-entered).opens.block.block,
  rw c.unwrap-records.ensures at c.in_ok-entered.ensures.few,
)

-- There are not too many records.
pub overflow_mul-all : goal.overflow_mul-all
unfolding Few
overflow_mul-all c =
    let block = (entry_of (goal.at.overflow_mul-all c).In_ok-entered).opens.block.block in
    let few = rw c.unwrap-records.ensures at c.in_ok-entered.ensures.few in
    omega (arith, c.count_records-all.ensures, block.few_fields, block.few_datas, few)

pub returns-then-room-all : goal.returns-then-room-all
returns-then-room-all c =
    rw c.refuse.ensures
    (list_full (entry_of (goal.at.returns-then-room-all c).In_ok-entered) c.unwrap-records.ensures _ _ c.count_records-all.ensures c.if-room-all.true)

pub unwrap-root-requires : goal.unwrap-root-requires
unwrap-root-requires c = rw (root_found (entry_of (goal.at.unwrap-root-requires c).In_ok-entered)) refl

pub store_entries-requires : goal.store_entries-requires
store_entries-requires c =
    let o = entry_of (goal.at.store_entries-requires c).In_ok-entered in
    let root = c.unwrap-root.ensures in
    let b = list_block o c.unwrap-records.ensures c.args.room.now _ c.count_records-all.ensures c.if-room-all.false root in
    record {
      block_at = (b.0, b.1, b.2, omega arith);
      room = list_room o c.unwrap-records.ensures c.args.room.now _ c.count_records-all.ensures c.if-room-all.false root;
      lent = o.opens.lent;
    }

pub returns : goal.returns
returns c =
    list_stored (entry_of (goal.at.returns c).In_ok-entered) c.unwrap-records.ensures _ _ c.count_records-all.ensures c.if-room-all.false
    c.unwrap-root.ensures _ c.store_entries.ensures.stored.room
