-- The walk refuses the message, or has found the entry, or there is none.
use Rattle.std.proofs.Common.{arith}
use Rattle.layout.specs.Reading.{place_asked}
use Rattle.wire.proofs.Steps.{steps}
use Rattle.prepared.proofs.Books.{holds_book}
use Rattle.whole.proofs.Entries.{Enters, enters, read_refused}
use Rattle.stream.proofs.Places.{found_not, place_lacks, sought, stands_there}
use Rattle.stream.proofs.Slices.{anew}
use Rattle.stream.proofs.place_on.Goals as goal
use Rattle.stream.proofs.place_on.Goals.{In_ok-entered}

-- What the walk's answer says.
entry_of : (c : In_ok-entered) → let e = c.in_ok-entered.entered in
    Enters c.args.p.now c.args.m.now c.args.steps.now e.block e.version e.records e.spot
entry_of c = enters _ _ _ (holds_book c.requires.0) _ (simp anew at c.in_ok-entered.ensures.value)

pub enter-requires : goal.enter-requires
enter-requires c = (holds_book c.requires.0, rw anew c.requires.1)

pub returns-in_err-entered : goal.returns-in_err-entered
unfolding place_asked
returns-in_err-entered c =
    let a = c.args in
    let e = read_refused _ a.m.now a.steps.now (holds_book c.requires.0) _ (simp anew at c.in_err-entered.ensures.value) in
    grind (arith, steps)

pub find_place-requires : goal.find_place-requires
find_place-requires c =
    ((entry_of (goal.at.find_place-requires c).In_ok-entered).opens.block, c.requires.1)

pub returns-in_default : goal.returns-in_default
returns-in_default c =
    let o = entry_of (goal.at.returns-in_default c).In_ok-entered in
    let e = place_lacks o c.requires.1 c.args.x c.in_default.ensures in
    grind (arith, steps)

pub returns-in_default-spot : goal.returns-in_default-spot
returns-in_default-spot c =
    let o = entry_of (goal.at.returns-in_default-spot c).In_ok-entered in
    let e = found_not (sought _ o _ c.requires.1 _ c.in-Some.ensures) c.in_default-spot.is in
    grind (arith, steps)

pub element_at-requires : goal.element_at-requires
element_at-requires c =
    let o = entry_of (goal.at.element_at-requires c).In_ok-entered in
    let r = stands_there (sought _ o _ c.requires.1 _ c.in-Some.ensures) c.in-Some-spot.is in
    (r.accepted, r.has)

pub returns : goal.returns
returns c =
    let o = entry_of (goal.at.returns c).In_ok-entered in
    let e = (stands_there (sought _ o _ c.requires.1 _ c.in-Some.ensures) c.in-Some-spot.is).is in
    grind (arith, steps)
