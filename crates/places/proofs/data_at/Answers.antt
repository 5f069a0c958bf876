-- The data before it were read, so the walk past them ends where it stands.
use mathlib.Core.Path.{sym, ◌∙◌}
use native.Mathlib.Omega.{arith}
use Rattle.layout.specs.BookRules.{parse_datas}
use Rattle.layout.specs.Message.{read_datas}
use Rattle.places.specs.Elements.{data_read}
use Rattle.places.proofs.Elements.{DataHere, data_here, datas_before, done_ok}
use Rattle.places.proofs.data_at.Goals as goal
use Rattle.places.proofs.data_at.Goals.{After-number}

-- What the data is, by the since that is read.
here : (c : After-number) → let s = c.args in let m = s.m.now in
    DataHere s.big m.octets.now m.version m.book.now c.number.result c.unwrap-next.result
    (data_read s.k (read_datas s.big m.octets.now m.version (parse_datas m.book.now s.n s.from) 0 s.start))
here c =
    let pre = c.requires in
    rw c.number.ensures
    (data_here _ _ _ _ _ _ _ _ pre.3 pre.5 _ (sym c.unwrap-next.ensures ∙ c.walk_datas.ensures.value))

pub unwrap-next-requires : goal.unwrap-next-requires
unwrap-next-requires c =
    let pre = c.requires in
    rw c.walk_datas.ensures.value (done_ok _ (datas_before _ _ _ _ _ _ _ _ pre.3 pre.5))

pub returns-then-m-number : goal.returns-then-m-number
returns-then-m-number c =
    sym ((here (goal.at.returns-then-m-number c).After-number).absent c.if-m-number.true)

pub overflow_add-result : goal.overflow_add-result
overflow_add-result c =
    omega (arith, (here (goal.at.overflow_add-result c).After-number).present c.if-m-number.false)

pub data_length-requires : goal.data_length-requires
data_length-requires c =
    omega (arith, (here (goal.at.data_length-requires c).After-number).present c.if-m-number.false)

pub returns : goal.returns
returns c =
    rw c.data_length.ensures.value (sym ((here (goal.at.returns c).After-number).present c.if-m-number.false).1)
